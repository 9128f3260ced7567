-- A receiver that may have run out of memory, and then answers so for good (TS 36.323 5.1.2).
use Rattle.std.specs.Prelude.{◌≡◌, ℕ, Bool, false, List, Option}
use Rattle.pdcp_rx.specs.Held.{Ends}
use Rattle.pdcp_rx.specs.State.{State}

pub record Entity : Type 0 where
  pub state : State
  pub dead : Bool

abbrev pub alive : State → Entity
alive s = record { state = s; dead = false }

-- until memory runs out, what is held ends with an SDU
abbrev pub IsWhole : Bool → List (Option (List ℕ)) → Type 0
IsWhole dead held = dead ≡ false → Ends held
