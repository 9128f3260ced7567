-- What the cutting of a new PDU comes to, of the definitions alone (TS 36.322 6.2.2.5, 6.2.2.6).
use Rattle.std.specs.Prelude.{◌≡◌, ℕ, ◌+◌, ◌≤◌, ◌<◌, true, false, List, [], ◌∷◌, ◌++◌, length}
use Rattle.std.specs.List.{concat}
use Rattle.rlc_pdu.specs.Writing.{header_len}
use Rattle.rlc_queue.specs.NewPdu.{elements, rest, fits_more}

-- header and elements fit the size; no octet is lost or added; a further SDU gives one element more
-- exactly where it is said to, and changes nothing elsewhere
pub record IsFitting (head size : ℕ) (sdus : List (List ℕ)) : Type 0 where
  pub within : 0 < length (elements head size 0 0 sdus)
      → header_len head (length (elements head size 0 0 sdus))
      + length (concat (elements head size 0 0 sdus)) ≤ size
  pub octets : concat (elements head size 0 0 sdus) ++ concat (rest head size 0 0 sdus)
      ≡ concat sdus
  pub more : (x : List ℕ) → fits_more head size 0 0 sdus ≡ true
      → length (elements head size 0 0 (sdus ++ x ∷ []))
      ≡ length (elements head size 0 0 sdus) + 1
  pub full : (x : List ℕ) → fits_more head size 0 0 sdus ≡ false
      → elements head size 0 0 (sdus ++ x ∷ []) ≡ elements head size 0 0 sdus
