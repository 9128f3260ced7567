-- What becomes of a block and of its feedback on the air (TS 36.321 5.3.2, 5.4.2).
use Rattle.std.specs.Prelude.{false, Bool, true, not, if◌then◌else◌}
use Rattle.air_record.specs.declared.line.Fate.TheVariants.{Ok, Miss}
use Rattle.air_record.specs.declared.line.Outcome.{Outcome}

-- ---- a TTI: buckets grow, the terminal is awake, and both blocks arrive

abbrev pub intact : Outcome
intact = record { fate = Ok; flipped = false }

-- ---- a terminal that sleeps sees neither a block nor a grant

abbrev pub missed : Bool → Outcome → Outcome
missed true o = record o { fate = Miss }
missed false o = o

-- ---- a block goes out

-- feedback as the sender reads it: `~` turns it round
abbrev pub turned : Bool → Bool → Bool
turned flipped good = if flipped then not good else good
