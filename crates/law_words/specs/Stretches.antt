-- Which SDUs of an acknowledged flow have arrived, by the places of their octets in the stream: the
-- SDUs stand in it one behind the other, and so do the data fields of the numbers (TS 36.322
-- 5.1.3.1.1, 6.2.2.2).
use Rattle.std.specs.Prelude.{ℕ, zero, suc, ◌+◌, List, [], ◌∷◌, Bool, ◌&&◌, nat_le, nat_lt, false}
use Rattle.std.specs.Prelude.{◌||◌, true, length, slice_index}

-- octets of the data field of a number, so many from a place of it on
pub record Stretch : Type 0 where
  pub number : ℕ
  pub from : ℕ
  pub size : ℕ

-- where each of these sizes begins, one behind the other
abbrev pub place_of : List ℕ → ℕ → ℕ
place_of [] n = 0
place_of (size ∷ sizes) zero = 0
place_of (size ∷ sizes) (suc n) = size + place_of sizes n

abbrev pub covers : List ℕ → Stretch → ℕ → Bool
covers fields s place =
    nat_le (place_of fields s.number + s.from) place
    && nat_lt place (place_of fields s.number + s.from + s.size)

abbrev pub octet_has_come : List ℕ → List Stretch → ℕ → Bool
octet_has_come fields [] place = false
octet_has_come fields (s ∷ came) place = covers fields s place || octet_has_come fields came place

-- so many places from one on
abbrev pub all_from : (ℕ → Bool) → ℕ → ℕ → Bool
all_from p place zero = true
all_from p place (suc n) = p place && all_from p (place + 1) n

-- all octets of an SDU, by its place among those offered
abbrev pub has_arrived : List ℕ → List ℕ → List Stretch → ℕ → Bool
has_arrived sdus fields came k =
    nat_lt k (length sdus) && all_from (octet_has_come fields came) (place_of sdus k)
    (slice_index sdus k)
