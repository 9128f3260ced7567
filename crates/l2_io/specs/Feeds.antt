-- Lines and their line feeds (docs/formats/SCRIPT.md).
use Rattle.std.specs.Prelude.{◌≡◌, ℕ, ◌<◌, ◌-◌, ◌+◌, ◌==◌, List, [], ◌∷◌, length, take, drop}
use Rattle.std.specs.Prelude.{slice_index, if◌then◌else◌}

-- the octets before the first line feed
abbrev pub until_feed : List ℕ → List ℕ
until_feed [] = []
until_feed (x ∷ xs) = if x == 10 then [] else x ∷ until_feed xs

-- the octets from the first line feed on
abbrev pub from_feed : List ℕ → List ℕ
from_feed [] = []
from_feed (x ∷ xs) = if x == 10 then x ∷ xs else from_feed xs

-- a line without a carriage return at its end
abbrev pub without_return : List ℕ → List ℕ
without_return xs = if slice_index xs (length xs - 1) == 13 then take (length xs - 1) xs else xs

-- the first line feed stands there
pub record IsFeedAt (xs : List ℕ) (i : ℕ) : Type 0 where
  pub inside : i < length xs
  pub line : until_feed xs ≡ take i xs
  pub rest : from_feed xs ≡ 10 ∷ drop (i + 1) xs
