-- Element lengths of a PDU or a segment that is cut to a room (TS 36.322 6.2.1.4, 6.2.1.5).
use Rattle.std.specs.Prelude.{ℕ, ◌+◌, ◌-◌, Bool, true, false, not, ◌&&◌, ◌==◌, if◌then◌else◌, List}
use Rattle.std.specs.Prelude.{[], ◌∷◌, ◌++◌, min, nat_le, nat_lt}

-- the octets that one element more costs in the header: 12 bits, of which every second one finds
-- half an octet free
abbrev pub cost : Bool → ℕ
cost true = 1
cost false = 2

-- an element has an LI, and an octet of a further one fits behind the whole of it
abbrev pub goes_on : Bool → ℕ → ℕ → Bool
goes_on half room l = nat_le l 2047 && nat_lt (l + cost half) room

-- the element lengths that fit into a room, of those that may follow each other: each as long as
-- fits
abbrev pub cut : Bool → ℕ → List ℕ → List ℕ
cut half room [] = []
cut half room (l ∷ ls) =
    min l room ∷ (if goes_on half room l then cut (not half) (room - (l + cost half)) ls else [])

abbrev pub some_length : ℕ → List ℕ
some_length n = if n == 0 then [] else n ∷ []

-- the element lengths of the octets from a place below another
abbrev pub clip : ℕ → ℕ → List ℕ → List ℕ
clip from to [] = []
clip from to (l ∷ ls) = some_length (min to l - from) ++ clip (from - l) (to - l) ls

-- an element begins at a place, or the last one ends there
abbrev pub is_cut : ℕ → List ℕ → Bool
is_cut k [] = k == 0
is_cut k (l ∷ ls) = if nat_lt k l then k == 0 else is_cut (k - l) ls
