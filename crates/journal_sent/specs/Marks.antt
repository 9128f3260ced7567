-- Where SDUs begin and end in a stream of octets: each octet has a mark (TS 36.322 6.2.2.4 to
-- 6.2.2.6).
use Rattle.std.specs.Prelude.{ℕ, zero, suc, ◌+◌, Bool, true, false, ◌||◌, nat_lt, if◌then◌else◌}
use Rattle.std.specs.Prelude.{List, [], ◌∷◌, ◌++◌, length, replicate}

-- of an octet, by whether it begins an SDU and whether it ends one
abbrev pub mark : Bool → Bool → ℕ
mark begins ends = (if begins then 1 else 0) + (if ends then 2 else 0)

-- of so many octets of one SDU, by whether the first begins it and the last ends it
abbrev pub part_marks : Bool → Bool → ℕ → List ℕ
part_marks begins ends zero = []
part_marks begins ends (suc zero) = mark begins ends ∷ []
part_marks begins ends (suc (suc n)) =
    mark begins false ∷ (replicate n 0 ++ mark false ends ∷ [])

-- of a whole SDU of so many octets
abbrev pub sdu_marks : ℕ → List ℕ
sdu_marks = part_marks true true

-- of a data field, by its elements, and by whether the first begins an SDU and the last ends one:
-- each behind the first begins one, and each before the last ends one
abbrev pub field_marks : Bool → Bool → List (List ℕ) → List ℕ
field_marks begins ends [] = []
field_marks begins ends (octets ∷ rest) =
    part_marks begins (ends || nat_lt 0 (length rest)) (length octets)
    ++ field_marks true ends rest
