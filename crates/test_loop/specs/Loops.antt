-- One step of a test loop (TS 36.509).
use Rattle.std.specs.Prelude.{ℕ, ◌-◌, ◌==◌, nat_le, Bool, true, false, not, if◌then◌else◌, Option}
use Rattle.std.specs.Prelude.{None, List, [], ◌∷◌, ◌++◌, length, drop, slice_get}
use Rattle.test_loop.specs.declared.Mode.{Mode}
use Rattle.test_loop.specs.declared.Mode.TheVariants.{Off, A, B}
use Rattle.test_loop.specs.declared.Kept.{Kept}
use Rattle.test_loop.specs.declared.Kept.TheVariants.{Now, Later, Full}
use Rattle.test_loop.specs.Items.{Item, cut}
use Rattle.test_loop.specs.declared.TheConstants.{MOST_KEPT}

-- the mode, the SDUs that are kept, and the TTIs until they are owed
pub record State : Type 0 where
  pub mode : Mode
  pub kept : List Item
  pub left : ℕ

abbrev pub state : Mode → List Item → ℕ → State
state mode kept left = record { mode = mode; kept = kept; left = left }

-- a mode by which SDUs come back
abbrev pub is_on : Mode → Bool
is_on Off = false
is_on (A size) = true
is_on (B delay) = true

-- a mode by which they are kept for a while
abbrev pub is_keeping : Mode → Bool
is_keeping Off = false
is_keeping (A size) = false
is_keeping (B delay) = not (delay == 0)

unfoldable pub fresh : State
fresh = state Off [] 0

-- a new mode, by which all that is kept is owed
unfoldable pub after_set : State → Mode → State
after_set s mode = state mode s.kept 0

-- ---- an SDU is handed up

-- an SDU that is to be kept finds its place, or 1024 are kept
abbrev pub is_full : List Item → Bool
is_full kept = nat_le MOST_KEPT (length kept)

abbrev pub kept_answer : List Item → Kept
kept_answer kept = if is_full kept then Full else Later

-- the first one that is kept sets the TTIs until all are owed
abbrev pub after_kept : ℕ → Item → State → State
after_kept delay one s =
    state s.mode (if is_full s.kept then s.kept else s.kept ++ one ∷ [])
    (if length s.kept == 0 then delay else s.left)

abbrev pub answer_in : Mode → List ℕ → State → Kept
answer_in Off sdu s = Full
answer_in (A size) sdu s = Now (cut sdu size)
answer_in (B delay) sdu s = if delay == 0 then Now sdu else kept_answer s.kept

unfoldable pub taken_answer : State → List ℕ → Kept
taken_answer s sdu = answer_in s.mode sdu s

abbrev pub after_in : Mode → Item → State → State
after_in Off one s = s
after_in (A size) one s = s
after_in (B delay) one s = if delay == 0 then s else after_kept delay one s

unfoldable pub after_taken : State → Item → State
after_taken s one = after_in s.mode one s

-- ---- TTIs

unfoldable pub after_tick : State → State
after_tick s = state s.mode s.kept (s.left - 1)

-- the next SDU that is owed
unfoldable pub due_answer : State → Option Item
due_answer s = if s.left == 0 then slice_get s.kept 0 else None

unfoldable pub after_due : State → State
after_due s = state s.mode (if s.left == 0 then drop 1 s.kept else s.kept) s.left
