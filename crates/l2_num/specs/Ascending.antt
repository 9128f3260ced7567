-- Numbers that ascend, as COUNTs do that are taken or handed up (TS 36.323 5.1).
use Rattle.std.specs.Prelude.{ℕ, ◌+◌, ◌≤◌, List, [], ◌∷◌}

-- each is above the one before it, the first at least `low`: so none comes twice
abbrev pub IsAscending : ℕ → List ℕ → Type 0
IsAscending low [] = Unit {0}
IsAscending low (n ∷ ns) = (low ≤ n) × IsAscending (n + 1) ns

-- they ascend from `low` on, and lie below `end`
abbrev pub AreBetween : ℕ → List ℕ → ℕ → Type 0
AreBetween low [] end = low ≤ end
AreBetween low (n ∷ ns) end = (low ≤ n) × AreBetween (n + 1) ns end
