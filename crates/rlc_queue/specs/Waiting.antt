-- The SDUs that a sender was offered and hasn't wholly sent (TS 36.322 4.5, 5.1).
use Rattle.std.specs.Prelude.{ℕ, ◌+◌, ◌*◌, ◌<◌, Bool, false, if◌then◌else◌, List, [], ◌∷◌, ◌++◌}
use Rattle.std.specs.Prelude.{length, drop, nat_lt}

-- what is left of each, and whether the first is partly sent
pub record Waiting : Type 0 where
  pub sdus : List (List ℕ)
  pub begun : Bool

abbrev pub nothing_waits : Waiting
nothing_waits = record { sdus = []; begun = false }

-- with one more SDU
abbrev pub with_sdu : List ℕ → Waiting → Waiting
with_sdu sdu w = record w { sdus = w.sdus ++ sdu ∷ [] }

-- none of them is empty
abbrev pub HaveOctets : List (List ℕ) → Type 0
HaveOctets [] = Unit {0}
HaveOctets (x ∷ xs) = (0 < length x) × HaveOctets xs

-- what is left of the first
abbrev pub first : List (List ℕ) → List ℕ
first [] = []
first (x ∷ xs) = x

-- SDUs of whose first so many octets are sent
abbrev pub unsent : ℕ → List (List ℕ) → List (List ℕ)
unsent n [] = []
unsent n (x ∷ xs) = drop n x ∷ xs

-- what is left once so many more octets of the first are sent, and the SDU too if those are all
abbrev pub behind : ℕ → List (List ℕ) → List (List ℕ)
behind n [] = []
behind n (x ∷ xs) = if nat_lt n (length x) then drop n x ∷ xs else xs

-- their octets
abbrev pub total : List (List ℕ) → ℕ
total [] = 0
total (x ∷ xs) = length x + total xs

-- their octets and two more for each: what sending them is reckoned at
abbrev pub wanted : List (List ℕ) → ℕ
wanted sdus = total sdus + 2 * length sdus
