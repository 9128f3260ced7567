-- What is known of the octets of a source and of a sink, and of their counts
-- (docs/laws/PROGRAM.md).
use Rattle.std.specs.Prelude.{◌≡◌, ◌⊎◌, ℕ, ◌<◌, ◌≤◌, ◌-◌, ◌+◌, ◌^◌, List, [], ◌++◌, Option, None}
use Rattle.std.specs.Prelude.{Some, min}

-- the octets left where some were given and these are left
abbrev pub before : List ℕ → Option (List ℕ) → Option (List ℕ)
before given None = None
before given (Some left) = Some (given ++ left)

-- the octets written after a text
abbrev pub after : Option (List ℕ) → List ℕ → Option (List ℕ)
after None text = None
after (Some written) text = Some (written ++ text)

-- no known octet is left
abbrev pub IsAtEnd : Option (List ℕ) → Type 0
IsAtEnd None = Unit {0}
IsAtEnd (Some left) = left ≡ []

-- a count rose, or it stands at its greatest value
pub record HasRisen (old new : ℕ) : Type 0 where
  pub rose : (old < new) ⊎ (2 ^ 64 - 1 ≤ new)

-- the first items of a list
pub record IsFront (front whole : List ℕ) : Type 0 where
  pub rest : List ℕ
  pub joined : whole ≡ front ++ rest

-- a count of 64 bits and one more, which stays at its greatest value
abbrev pub one_more : ℕ → ℕ
one_more count = min (count + 1) (2 ^ 64 - 1)
