-- Where nothing is left at the sender, all that it was offered has come (TS 36.322 5.1.3).
use Rattle.std.specs.Prelude.{◌≡◌, ◌++◌}
use Rattle.rlc_am_tx.specs.Need.{left}
use Rattle.law_rlc.specs.AmPair.Flow.{Flow, sender}
use Rattle.law_rlc.specs.AmPair.Sdus.{offered, handed_up, ready}
use Rattle.law_rlc.specs.AmPair.Arrives.{Always}

-- what was handed up and what is ready are all SDUs that were offered: in their order, each once,
-- unchanged
abbrev pub HasAllUp : Flow → Type 0
HasAllUp f = left (sender f).state ≡ 0 → handed_up f ++ ready f ≡ offered f

abbrev pub HandsUpAll : Type 0
HandsUpAll = Always HasAllUp
