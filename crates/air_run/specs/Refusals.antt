-- The words of refusals (docs/formats/SCRIPT.md).
use Rattle.std.specs.Prelude.{ℕ, List, codes}
use Rattle.air_run.specs.declared.refusal.RunRefusal.{RunRefusal}
use Rattle.air_run.specs.declared.refusal.RunRefusal.TheVariants as refusals

abbrev pub refusal_word : RunRefusal → List ℕ
refusal_word refusals.UnknownBearer = codes "unknown bearer"
refusal_word refusals.BearerTwice = codes "bearer twice"
refusal_word refusals.ConfiguredLate = codes "configured late"
refusal_word refusals.KeyUsed = codes "key used"
refusal_word refusals.TimerIdle = codes "timer idle"
refusal_word refusals.SmallDrain = codes "small drain"
refusal_word refusals.NoKeys = codes "no keys"
refusal_word refusals.SetTwice = codes "set twice"
refusal_word refusals.LoopOn = codes "loop on"
refusal_word refusals.NoDiscard = codes "no discard"
refusal_word refusals.Forged = codes "forged"
refusal_word refusals.DrxFields = codes "drx fields"
