-- What the answers of a set of places mean, place by place (TS 36.322 6.2.2.7).
use Rattle.std.specs.Prelude.{◌≡◌, ℕ, ◌+◌, ◌<◌, ◌≤◌, true, false, List, MatchOption}
use Rattle.rlc_pdu.specs.declared.pdu.Part.{Part}
use Rattle.rlc_pdu.specs.Runs.{Run, has, covers, AreAscending, gap_in}

-- one run has all the places exactly where the set has each of them
pub record IsCoverage (runs : List Run) (from to : ℕ) : Type 0 where
  pub all : covers runs from to ≡ true → (i : ℕ) → from ≤ i → i < to → has runs i ≡ true
  pub only : ((i : ℕ) → from ≤ i → i < to → has runs i ≡ true) → covers runs from to ≡ true

abbrev pub CoversAll : Type 0
CoversAll = (runs : List Run) (from to : ℕ) → AreAscending 0 runs → from < to
    → IsCoverage runs from to

-- the first largest run of places that aren't in the set, at or above one place and below another
pub record IsGap (runs : List Run) (from size : ℕ) (p : Part) : Type 0 where
  pub above : from ≤ p.start
  pub some : p.start ≤ p.end
  pub below : p.end < size
  pub missing : (i : ℕ) → p.start ≤ i → i ≤ p.end → has runs i ≡ false
  pub first : (i : ℕ) → from ≤ i → i < p.start → has runs i ≡ true
  pub largest : p.end + 1 < size → has runs (p.end + 1) ≡ true

abbrev pub GapsAreFirst : Type 0
GapsAreFirst = (runs : List Run) (from size : ℕ) → AreAscending 0 runs
    → MatchOption (gap_in runs from size) ((i : ℕ) → from ≤ i → i < size
    → has runs i ≡ true) (IsGap runs from size)
