-- A receiver that may have run out of memory, and then answers so for good (TS 36.322 4.2.1.3).
use Rattle.std.specs.Prelude.{Bool, false}
use Rattle.rlc_am_rx.specs.State.{State}

pub record Entity : Type 0 where
  pub state : State
  pub dead : Bool

abbrev pub alive : State → Entity
alive s = record { state = s; dead = false }
