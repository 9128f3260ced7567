-- Each entry of a STATUS that a receiver writes names an octet of its number.
use Rattle.std.proofs.Common.{◌≡◌, ◌<◌, ◌≤◌, ℕ, suc, ◌+◌, ◌-◌, Bool, true, false, ◌&&◌, ◌==◌, if◌then◌else◌, List, []}
use Rattle.std.proofs.Common.{◌∷◌, ◌++◌, length, map, min, Option, Some, None, is_some, slice_index_or, refl, ap, subst}
use Rattle.std.proofs.Common.{◌∙◌, arith, nat_le, nat_lt}
use Rattle.std.specs.List.{AllByRecursion}
use Rattle.std.proofs.lemmas.Bool.Decides.{nat_tests}
use Rattle.std.proofs.lemmas.List.{length-map}
use Rattle.rlc_pdu.specs.declared.Part.{Part}
use Rattle.rlc_am_rx_window.specs.declared.missing.Missing.{Missing}
use Rattle.rlc_am_rx_window.specs.Cells.{Cell}
use Rattle.rlc_am_rx_window.specs.Held.{Held, is_complete, has_end, ends_at}
use Rattle.rlc_am_rx_window.specs.Missing.{runs, run_ended, run_open, run_last, whole, of_part, missing_of}
use Rattle.rlc_am_rx_window.specs.Missing.{missing_below, entry_bits}
use Rattle.rlc_am_rx_window.specs.Window.{slot_at}
use Rattle.rlc_am_rx_window.proofs.MissingLemmas.{GapBelow}
use Rattle.rlc_am_rx.specs.Status.{fitting}
use Rattle.law_rlc.specs.AmSender.Octets.{Place}
use Rattle.law_rlc.specs.AmReceiver.Stream.{IsField}
use Rattle.law_rlc.specs.AmPair.Fields.{cell_of, field_of}
use Rattle.law_rlc.proofs.AmReceiver.InSequence.{SlotFits}
use Rattle.law_rlc.proofs.AmPair.Sound.{NamesOctet}
use Rattle.law_rlc.proofs.AmPair.Fields.{sent-field}

both : {A : Type 0} (P : A → Type 0) (xs ys : List A) → AllByRecursion P xs → AllByRecursion P ys
    → AllByRecursion P (xs ++ ys)
both P [] ys a b = b
both P (x ∷ xs) ys a b = (a.0, both P xs ys a.1 b)

-- ---- the runs of places that haven't arrived

-- a range begins in a field of so many octets
abbrev IsInside : ℕ → Part → Type 0
IsInside size p = (p.start < size) × (p.start ≤ p.end)

ended-inside : (size at : ℕ) (gap : Option ℕ) (there : Bool) → GapBelow gap at → at ≤ size
    → AllByRecursion (IsInside size) (run_ended there at gap)
ended-inside size at gap false g le = tt
ended-inside size at None true g le = tt
ended-inside size at (Some from) true g le = ((omega (arith, g, le), omega (arith, g)), tt)

last-inside : (size at : ℕ) (gap : Option ℕ) (ended : Bool) → GapBelow gap at → at ≤ size → size ≤ 32767
    → (ended ≡ false → at < size) → AllByRecursion (IsInside size) (run_last at gap ended)
last-inside size at (Some from) ended g le few more = ((omega (arith, g, le), omega (arith, g, le, few)), tt)
last-inside size at None true g le few more = tt
last-inside size at None false g le few more = ((more refl, omega (arith, le, few)), tt)

open-below : (there : Bool) (at : ℕ) (gap : Option ℕ) → GapBelow gap at → GapBelow (run_open there at gap) (at + 1)
open-below true at gap g = tt
open-below false at None g = omega arith
open-below false at (Some from) g = omega (arith, g)

runs-inside : (size : ℕ) (cs : List (Option Cell)) (at : ℕ) (gap : Option ℕ) (ended : Bool) → GapBelow gap at
    → at + length cs ≤ size → size ≤ 32767 → (ended ≡ false → at + length cs < size)
    → AllByRecursion (IsInside size) (runs cs at gap ended)
runs-inside size [] at gap ended g le few more =
    last-inside size at gap ended g (omega (arith, le)) few (λ e. let m = more e in omega (arith, m))
runs-inside size (c ∷ cs) at gap ended g le few more =
    both (IsInside size) (run_ended (is_some c) at gap) (runs cs (at + 1) (run_open (is_some c) at gap) ended)
    (ended-inside size at gap (is_some c) g (omega (arith, le)))
    (runs-inside size cs (at + 1) (run_open (is_some c) at gap) ended (open-below (is_some c) at gap g)
    (omega (arith, le)) few (λ e. let m = more e in omega (arith, m)))

-- ---- what is said of a number

inside-names : (sent : List (List Place)) (n : ℕ) → n < length sent → (ps : List Part)
    → AllByRecursion (IsInside (length (slice_index_or sent n []))) ps
    → AllByRecursion (NamesOctet sent) (map (of_part n) ps)
inside-names sent n known [] h = tt
inside-names sent n known (p ∷ ps) h =
    (record { known = known; octet = p.start; within = h.0.0; names = named }, inside-names sent n known ps h.1)
  where
    named : (nat_le p.start p.start && nat_lt p.start (min (p.end + 1) (length (slice_index_or sent n [])))) ≡ true
    named =
        let a = h.0.0 in let b = h.0.1 in
        let low : nat_le p.start p.start ≡ true = grind (arith, nat_tests) in
        let lt : p.start < min (p.end + 1) (length (slice_index_or sent n [])) = omega (arith, a, b) in
        let high : nat_lt p.start (min (p.end + 1) (length (slice_index_or sent n []))) ≡ true =
        grind (arith, nat_tests) in
        rw (low, high) refl

ends-false : (o : Option ℕ) (have size : ℕ) → ((n : ℕ) → o ≡ Some n → n ≡ size) → (o ≡ None → have < size)
    → have ≤ size → ends_at o have ≡ false → have < size
ends-false None have size sized short le e = short refl
ends-false (Some n) have size sized short le e =
    let other : n ≡ have → ⊥ = λ same. grind (arith, nat_tests) in
    let is = sized n refl in omega (arith, other, is, le)

number-names : (sent : List (List Place)) (n : ℕ) (h : Held) → n < length sent → SlotFits h (field_of sent n)
    → IsField (field_of sent n) → AllByRecursion (NamesOctet sent) (missing_of n h)
number-names sent n h known fits is = by (is_complete h) (length h.cells == 0)
  where
    size : length (field_of sent n) ≡ length (slice_index_or sent n [])
    size = ap (λ (cs : List Cell). length cs) (sent-field sent n known) ∙ length-map (slice_index_or sent n []) cell_of

    by : (a b : Bool)
        → AllByRecursion (NamesOctet sent) (if a then [] else if b then whole n ∷ []
        else map (of_part n) (runs h.cells 0 None (has_end h)))
    by true b = tt
    by false true =
        let some = is.some in
        let lt : 0 < length (slice_index_or sent n []) = omega (arith, some, size) in
        (record { known = known; octet = 0; within = lt; names = grind (arith, nat_tests) }, tt)
    by false false =
        let within = fits.within in let few = is.few in
        inside-names sent n known (runs h.cells 0 None (has_end h))
        (runs-inside (length (slice_index_or sent n [])) h.cells 0 None (has_end h) tt (omega (arith, within, size))
        (omega (arith, few, size))
        (λ e. let lt = ends-false h.size (length h.cells) (length (field_of sent n)) fits.size fits.short within e in
        omega (arith, lt, size)))

-- ---- of all numbers

pub below-names : (sent : List (List Place)) (slots : List Held) (front bound : ℕ)
    → ((k : ℕ) → SlotFits (slot_at slots k) (field_of sent (front + k))) → ((n : ℕ) → IsField (field_of sent n))
    → bound ≤ length sent
    → AllByRecursion (NamesOctet sent) (missing_below slots front bound)
below-names sent [] front bound fits are le = tt
below-names sent (h ∷ hs) front bound fits are le =
    by (nat_lt front bound) refl
    (below-names sent hs (front + 1) bound
    (λ k. subst (λ (n : ℕ). SlotFits (slot_at hs k) (field_of sent n)) (omega arith) (fits (suc k))) are le)
  where
    zero : front + 0 ≡ front
    zero = omega arith

    by : (b : Bool) → nat_lt front bound ≡ b → AllByRecursion (NamesOctet sent) (missing_below hs (front + 1) bound)
        → AllByRecursion (NamesOctet sent) (if b then missing_of front h ++ missing_below hs (front + 1) bound else [])
    by false e rest = tt
    by true e rest =
        let lt : front < bound = grind (arith, nat_tests) in
        both (NamesOctet sent) (missing_of front h) (missing_below hs (front + 1) bound)
        (number-names sent front h (omega (arith, lt, le))
        (subst (λ (n : ℕ). SlotFits h (field_of sent n)) zero (fits 0)) (are front)) rest

pub fitting-names : (sent : List (List Place)) (room : ℕ) (ms : List Missing) → AllByRecursion (NamesOctet sent) ms
    → AllByRecursion (NamesOctet sent) (fitting room ms)
fitting-names sent room [] h = tt
fitting-names sent room (m ∷ ms) h = by (nat_le (entry_bits m) room) (fitting-names sent (room - entry_bits m) ms h.1)
  where
    by : (b : Bool) → AllByRecursion (NamesOctet sent) (fitting (room - entry_bits m) ms)
        → AllByRecursion (NamesOctet sent) (if b then m ∷ fitting (room - entry_bits m) ms else [])
    by true rest = (h.0, rest)
    by false rest = tt
