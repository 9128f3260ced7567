-- What a test loop returns over any list of calls, told by what was kept (TS 36.509).
use Rattle.std.specs.Prelude.{◌≡◌, ℕ, ◌+◌, ◌-◌, ◌≤◌, ◌==◌, nat_le, nat_lt, Bool, true, false, ◌||◌}
use Rattle.std.specs.Prelude.{◌&&◌, is_some, if◌then◌else◌, Option, Some, None, List, [], ◌∷◌, ◌++◌}
use Rattle.std.specs.Prelude.{length}
use Rattle.test_loop.specs.declared.Mode.{Mode}
use Rattle.test_loop.specs.declared.Mode.TheVariants.{Off, A, B}
use Rattle.test_loop.specs.declared.Kept.{Kept}
use Rattle.test_loop.specs.declared.Kept.TheVariants.{Now, Later, Full}
use Rattle.test_loop.specs.Items.{Item}
use Rattle.test_loop.specs.Loops.{State, fresh, after_set, taken_answer, after_taken, after_tick}
use Rattle.test_loop.specs.Loops.{due_answer, after_due}
use Rattle.test_loop.specs.declared.TheConstants.{MOST_KEPT}

pub data Call : Type 0 where
  Set : (mode : Mode) → Call
  Take : (one : Item) → Call
  Tick : Call
  Ask : Call

-- what a call did: a mode was set, an SDU was kept or given back, a TTI began
pub data Deed : Type 0 where
  Switched : Deed
  Stored : (delay : ℕ) → (one : Item) → Deed
  Gave : (one : Item) → Deed
  Ticked : Deed

-- a loop and its deeds, the latest first
pub record World : Type 0 where
  pub state : State
  pub past : List Deed

abbrev pub delay_in : Mode → ℕ
delay_in Off = 0
delay_in (A size) = 0
delay_in (B delay) = delay

abbrev pub taken_deeds : Kept → State → Item → List Deed → List Deed
taken_deeds (Now octets) s one past = past
taken_deeds Later s one past = Stored (delay_in s.mode) one ∷ past
taken_deeds Full s one past = past

abbrev pub given_deeds : Option Item → List Deed → List Deed
given_deeds None past = past
given_deeds (Some one) past = Gave one ∷ past

abbrev pub called : World → Call → World
called w (Set mode) = record { state = after_set w.state mode; past = Switched ∷ w.past }
called w (Take one) = record {
  state = after_taken w.state one;
  past = taken_deeds (taken_answer w.state one.octets) w.state one w.past;
}
called w Tick = record { state = after_tick w.state; past = Ticked ∷ w.past }
called w Ask = record { state = after_due w.state; past = given_deeds (due_answer w.state) w.past }

abbrev pub world_after : List Call → World → World
world_after [] w = w
world_after (c ∷ cs) w = world_after cs (called w c)

abbrev pub start : World
start = record { state = fresh; past = [] }

-- ---- what the deeds tell

-- the SDUs that were kept, in order, and those that were given back
abbrev pub stored : List Deed → List Item
stored [] = []
stored (Switched ∷ past) = stored past
stored (Stored delay one ∷ past) = stored past ++ one ∷ []
stored (Gave one ∷ past) = stored past
stored (Ticked ∷ past) = stored past

abbrev pub given : List Deed → List Item
given [] = []
given (Switched ∷ past) = given past
given (Stored delay one ∷ past) = given past
given (Gave one ∷ past) = given past ++ one ∷ []
given (Ticked ∷ past) = given past

-- how many are kept
abbrev pub waiting : List Deed → ℕ
waiting past = length (stored past) - length (given past)

-- the delay as the first of these was kept
abbrev pub delay : List Deed → ℕ
delay [] = 0
delay (Switched ∷ past) = delay past
delay (Stored new one ∷ past) = if waiting past == 0 then new else delay past
delay (Gave one ∷ past) = delay past
delay (Ticked ∷ past) = delay past

-- the TTIs that began since
abbrev pub ticks : List Deed → ℕ
ticks [] = 0
ticks (Switched ∷ past) = ticks past
ticks (Stored new one ∷ past) = if waiting past == 0 then 0 else ticks past
ticks (Gave one ∷ past) = ticks past
ticks (Ticked ∷ past) = ticks past + 1

-- whether a mode was set since
abbrev pub is_switched : List Deed → Bool
is_switched [] = true
is_switched (Switched ∷ past) = true
is_switched (Stored new one ∷ past) = if waiting past == 0 then false else is_switched past
is_switched (Gave one ∷ past) = is_switched past
is_switched (Ticked ∷ past) = is_switched past

-- whether an SDU is owed: one is kept, and since the first of them a mode was set or the delay has
-- passed
abbrev pub owes : List Deed → Bool
owes past = nat_lt 0 (waiting past) && (is_switched past || nat_le (delay past) (ticks past))

-- what is kept and not yet given back is kept in order and once, at most 1024 of them, and is owed
-- exactly when it should be
pub record Returns (w : World) : Type 0 where
  pub in_order : given w.past ++ w.state.kept ≡ stored w.past
  pub at_most : length w.state.kept ≤ MOST_KEPT
  pub owed : is_some (due_answer w.state) ≡ owes w.past
