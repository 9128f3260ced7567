-- A sender, and whether it ran out of memory (TS 36.322 4.2.1.3).
use Rattle.std.specs.Prelude.{Bool, false}
use Rattle.rlc_am_tx.specs.Machine.{State}

pub record Entity : Type 0 where
  pub state : State
  pub dead : Bool

abbrev pub alive : State → Entity
alive s = record { state = s; dead = false }
