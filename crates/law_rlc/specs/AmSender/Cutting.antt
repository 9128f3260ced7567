-- What of a PDU's octets fits into a segment of a size (TS 36.322 5.2.1, 6.2.1.5).
use Rattle.std.specs.Prelude.{◌≡◌, ◌<◌, ℕ, ◌+◌, ◌-◌, ◌≤◌, false, List, length}
use Rattle.std.specs.List.{sum}
use Rattle.rlc_pdu.specs.Pdus.{AreLens}
use Rattle.rlc_pdu.specs.Writing.{header_len}
use Rattle.rlc_am_tx_window.specs.Cut.{cut, clip}

-- a segment with the first k octets of elements takes up so many octets
abbrev pub size_of : List ℕ → ℕ → ℕ
size_of ls k = header_len 4 (length (clip 0 k ls)) + k

-- the cut is the longest stretch from the first octet that fits, and the only one
pub record IsLongest (size : ℕ) (ls : List ℕ) : Type 0 where
  pub fits : 5 ≤ size → size_of ls (sum (cut false (size - 4) ls)) ≤ size
  pub most : (k : ℕ) → k ≤ sum ls → size_of ls k ≤ size → k ≤ sum (cut false (size - 4) ls)
  pub only : (k : ℕ) → 5 ≤ size → k ≤ sum ls → size_of ls k ≤ size
      → ((j : ℕ) → j ≤ sum ls → size_of ls j ≤ size → j ≤ k) → k ≡ sum (cut false (size - 4) ls)

abbrev pub CutIsLongest : Type 0
CutIsLongest = (size : ℕ) (ls : List ℕ) → AreLens ls → IsLongest size ls

-- the element lengths of a segment are those of the elements' parts that lie in it
abbrev pub CutsElements : Type 0
CutsElements = (size from to : ℕ) (ls : List ℕ) → AreLens ls → from < to → to ≤ sum ls → 5 ≤ size
    → cut false (size - 4) (clip from to ls)
    ≡ clip from (from + sum (cut false (size - 4) (clip from to ls))) ls
