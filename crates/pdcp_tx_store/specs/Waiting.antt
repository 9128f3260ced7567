-- SDUs that wait for a COUNT, and the sums of their octets (TS 36.323 4.5, 5.1.1).
use Rattle.std.specs.Prelude.{ℕ, ◌+◌, ◌≡◌, List, [], ◌∷◌, length}
use Rattle.pdcp_tx_store.specs.declared.waiting.Waiting.{Waiting}

-- one SDU, and how many TTIs had begun as it was submitted
pub record Waits : Type 0 where
  pub sdu : List ℕ
  pub born : ℕ

abbrev pub waits : Waiting → Waits
waits w = record { sdu = w.octets; born = w.born }

-- the octets of all of them
abbrev pub length_all : List Waits → ℕ
length_all [] = 0
length_all (w ∷ ws) = length w.sdu + length_all ws

-- the octets that were submitted before the first of some, of `end` in all
abbrev pub start_of : List Waiting → ℕ → ℕ
start_of [] end = end
start_of (w ∷ ws) end = w.before

-- each is marked with the octets that were submitted before it
abbrev pub AreSummed : List Waiting → ℕ → Type 0
AreSummed [] end = Unit {0}
AreSummed (w ∷ ws) end = (w.before + length w.octets ≡ start_of ws end) × AreSummed ws end
