-- The logical channels that a bearer may have (TS 36.321 6.2.1).
use Rattle.std.specs.Prelude.{ℕ, List, [], ◌∷◌}

-- the logical channels that a bearer may have
abbrev pub all_lcids : List ℕ
all_lcids = 0 ∷ 1 ∷ 2 ∷ 3 ∷ 4 ∷ 5 ∷ 6 ∷ 7 ∷ 8 ∷ 9 ∷ 10 ∷ []
