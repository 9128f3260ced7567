-- The entries of a STATUS, one by one, and its size.
use Rattle.std.proofs.Common.{◌≡◌, ◌<◌, ◌≤◌, ℕ, suc, zero, ◌+◌, ◌-◌, ◌*◌, Bool, true, false, List, [], ◌∷◌, length}
use Rattle.std.proofs.Common.{drop, map, Option, Some, None, is_some, refl, arith, drop-cons, get_or, cond, leb}
use Rattle.std.proofs.lemmas.Bool.{le-leb, lt-leb, leb-true}
use Rattle.std.proofs.lemmas.List.Elements.{All-push, All-nil}
use Rattle.rlc_pdu.specs.Pdus.{IsPart}
use Rattle.rlc_pdu.specs.Status.{nack_size, nacks_size, status_size, has_part}
use Rattle.rlc_am_rx_window.specs.declared.Missing.{Missing}
use Rattle.rlc_am_rx_window.specs.Missing.{entry_bits, entries_bits, AreRanges}
use Rattle.rlc_am_rx.specs.Status.{nack_of, fitting, room_in}

-- one entry, and then the others
pub fits_one : (all : List Missing) (i room : ℕ) (d : Missing) → i < length all → entry_bits (get_or all i d) ≤ room
    → fitting room (drop i all) ≡ get_or all i d ∷ fitting (room - entry_bits (get_or all i d)) (drop (i + 1) all)
fits_one all i room d h g =
    let here : drop i all ≡ get_or all i d ∷ drop (suc i) all = drop-cons all i d h in
    let one : i + 1 ≡ suc i = omega arith in
    rw (here, one, le-leb (entry_bits (get_or all i d)) room g) refl

pub fits_none : (all : List Missing) (i room : ℕ) (d : Missing) → i < length all → room < entry_bits (get_or all i d)
    → fitting room (drop i all) ≡ []
fits_none all i room d h g =
    let here : drop i all ≡ get_or all i d ∷ drop (suc i) all = drop-cons all i d h in
    rw (here, lt-leb (entry_bits (get_or all i d)) room g) refl

pub ranges_at : (all : List Missing) (i : ℕ) (d : Missing) → i < length all → AreRanges all
    → IsPart (get_or all i d).part
ranges_at [] i d h r = absurd (omega (arith, h))
ranges_at (m ∷ ms) zero d h r = r.0
ranges_at (m ∷ ms) (suc i) d h r = ranges_at ms i d (omega (arith, h)) r.1

pub ruleset choosing = (fits_one, fits_none, ranges_at, All-push, All-nil)

-- ---- sizes

size_of : (m : Missing) → nack_size (nack_of m) ≡ entry_bits m
size_of m = go m.part
  where
    go : (p : Option _) → 12 + 30 * has_part p ≡ cond (is_some p) 42 12
    go None = refl
    go (Some p) = refl

pub sizes_of : (ms : List Missing) → nacks_size (map nack_of ms) ≡ entries_bits ms
sizes_of [] = refl
sizes_of (m ∷ ms) = omega (arith, size_of m, sizes_of ms)

pub ruleset sizes = (sizes_of)

fits_in : (room : ℕ) (ms : List Missing) → entries_bits (fitting room ms) ≤ room
fits_in room [] = omega arith
fits_in room (m ∷ ms) = go (leb (entry_bits m) room) refl (fits_in (room - entry_bits m) ms)
  where
    go : (b : Bool) → leb (entry_bits m) room ≡ b
        → entries_bits (fitting (room - entry_bits m) ms) ≤ room - entry_bits m
        → entries_bits (cond b (m ∷ fitting (room - entry_bits m) ms) []) ≤ room
    go true e rest = omega (arith, leb-true (entry_bits m) room e, rest)
    go false e rest = omega arith

pub within_size : (size : ℕ) (ms : List Missing) → 2 ≤ size
    → status_size (map nack_of (fitting (room_in size) ms)) ≤ size
within_size size ms h = omega (arith, sizes_of (fitting (8 * size - 15) ms), fits_in (8 * size - 15) ms, h)

pub ruleset writing = (within_size)
