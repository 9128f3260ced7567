-- One step of what goes over the numbers of the window.
use Rattle.std.proofs.Common.{◌≡◌, ◌<◌, ◌≤◌, ℕ, suc, ◌+◌, ◌-◌, true, false, ◌||◌, List, [], ◌∷◌, ◌++◌, length, drop}
use Rattle.std.proofs.Common.{take, replicate, Some, slice_get, append_assoc, length-append, refl, ap, sym, ◌∙◌, arith}
use Rattle.std.proofs.Common.{drop-cons, add-one, ltb}
use Rattle.std.proofs.lemmas.Grind.{common_steps}
use Rattle.std.proofs.lemmas.List.{append-nil, drop_all}
use Rattle.std.proofs.lemmas.Bool.{lt-ltb}
use Rattle.std.specs.List.{list_any}
use Rattle.rlc_am_rx_window.specs.declared.missing.Missing.{Missing}
use Rattle.rlc_am_rx_window.specs.Cells.{leading}
use Rattle.rlc_am_rx_window.specs.Held.{Held, nothing, is_complete}
use Rattle.rlc_am_rx_window.specs.Joined.{Joined, joined}
use Rattle.rlc_am_rx_window.specs.Window.{polled_in, slot_at, widened, handed_on, given_after}
use Rattle.rlc_am_rx_window.specs.Missing.{missing_of, missing_below, AreRanges, entries_bits}
use Rattle.rlc_am_rx_window.proofs.MissingLemmas.{ranges_append}

take-suc-cons : (n m : ℕ) (x : Held) (xs : List Held) → n ≡ suc m → take n (x ∷ xs) ≡ x ∷ take m xs
take-suc-cons n m x xs e = rw e refl

-- the first number, and then the others
pub polled-step : (slots : List Held) (at to : ℕ) → at < to → at < length slots
    → polled_in slots at to ≡ (slot_at slots at).polled || polled_in slots (at + 1) to
polled-step slots at to below within =
    ap (λ l. list_any (λ h. h.polled) (take (to - at) l)) (drop-cons slots at nothing within
    ∙ ap (λ n. slot_at slots at ∷ drop n slots) (sym (add-one at)))
    ∙ ap (list_any (λ h. h.polled))
    (take-suc-cons (to - at) (to - (at + 1)) (slot_at slots at) (drop (at + 1) slots) (omega arith))

pub polled-end : (slots : List Held) (at to : ℕ) → to ≤ at → polled_in slots at to ≡ false
polled-end slots at to h = let e : to - at ≡ 0 = omega arith in rw e refl

pub polled-past : (slots : List Held) (at to : ℕ) → length slots ≤ at → polled_in slots at to ≡ false
polled-past slots at to h = grind (arith, common_steps)

pub ruleset polls = (polled-step, polled-end, polled-past)

pub widened-more : (slots : List Held) (size : ℕ) → length slots < size
    → widened (slots ++ nothing ∷ []) size ≡ widened slots size
widened-more slots size h =
    let more : size - length slots ≡ suc (size - length (slots ++ nothing ∷ [])) =
    omega (arith, length-append slots (nothing ∷ [])) in
    append_assoc slots (nothing ∷ []) (replicate (size - length (slots ++ nothing ∷ [])) nothing)
    ∙ ap (λ n. slots ++ replicate n nothing) (sym more)

pub widened-end : (slots : List Held) (size : ℕ) → size ≤ length slots → widened slots size ≡ slots
widened-end slots size h = let none : size - length slots ≡ 0 = omega arith in
    ap (λ n. slots ++ replicate n nothing) none ∙ append-nil slots

pub ruleset grows = (widened-more, widened-end)

-- where the first number isn't complete
pub handed-stop : (j : Joined) (slots : List Held) (h : Held) (given : ℕ) → slice_get slots 0 ≡ Some h
    → is_complete h ≡ false → handed_on j slots given ≡ joined j (leading (drop given h.cells))
handed-stop j [] h given e f = cc
handed-stop j (x ∷ xs) h given e f = grind arith

pub given-stop : (slots : List Held) (h : Held) (given : ℕ) → slice_get slots 0 ≡ Some h → is_complete h ≡ false
    → given_after slots given ≡ given + length (leading (drop given h.cells))
given-stop [] h given e f = cc
given-stop (x ∷ xs) h given e f = grind arith

pub ruleset stops = (handed-stop, given-stop)

-- ---- what a STATUS may say

missing-end : (slots : List Held) (n bound : ℕ) → bound ≤ n → missing_below slots n bound ≡ []
missing-end [] n bound h = refl
missing-end (x ∷ xs) n bound h = grind (arith, common_steps)

pub ranges_more : (out more new : List Missing) → new ≡ out ++ more → AreRanges more → AreRanges out → AreRanges new
ranges_more out more new is r f = rw is (ranges_append out more f r)

pub missing_stops : (xs : List Missing) (slots : List Held) (n bound : ℕ) → bound ≤ n
    → xs ++ missing_below slots n bound ≡ xs
missing_stops xs slots n bound h = ap (λ ys. xs ++ ys) (missing-end slots n bound h) ∙ append-nil xs

pub missing_past : (xs : List Missing) (slots : List Held) (at n bound : ℕ) → length slots ≤ at
    → xs ++ missing_below (drop at slots) n bound ≡ xs
missing_past xs slots at n bound h = rw (drop_all at slots h) (append-nil xs)

pub missing_more : (out new : List Missing) (slots : List Held) (at n bound : ℕ) → at < length slots → n + at < bound
    → new ≡ out ++ missing_of (n + at) (slot_at slots at)
    → new ++ missing_below (drop (at + 1) slots) (n + (at + 1)) bound
    ≡ out ++ missing_below (drop at slots) (n + at) bound
missing_more out new slots at n bound h g is =
    let here : drop at slots ≡ slot_at slots at ∷ drop (suc at) slots = drop-cons slots at nothing h in
    let one : at + 1 ≡ suc at = omega arith in
    let next : n + (at + 1) ≡ n + at + 1 = omega arith in
    let in_it : ltb (n + at) bound ≡ true = lt-ltb (n + at) bound g in
    rw (is, here, in_it, next, one)
    (append_assoc out (missing_of (n + at) (slot_at slots at))
    (missing_below (drop (suc at) slots) (n + at + 1) bound))

pub ruleset adding = (missing_stops, missing_past, ranges_more, missing_more)

bits_append : (xs ys : List Missing) → entries_bits (xs ++ ys) ≡ entries_bits xs + entries_bits ys
bits_append [] ys = omega arith
bits_append (x ∷ xs) ys = omega (arith, bits_append xs ys)

pub bits_none : (slots : List Held) (n bound : ℕ) → bound ≤ n → entries_bits (missing_below slots n bound) ≡ 0
bits_none slots n bound h = ap entries_bits (missing-end slots n bound h)

pub bits_past : (slots : List Held) (at n bound : ℕ) → length slots ≤ at
    → entries_bits (missing_below (drop at slots) n bound) ≡ 0
bits_past slots at n bound h = rw (drop_all at slots h) refl

pub bits_one : (slots : List Held) (at n bound : ℕ) → at < length slots → n + at < bound
    → entries_bits (missing_below (drop at slots) (n + at) bound)
    ≡ entries_bits (missing_of (n + at) (slot_at slots at))
    + entries_bits (missing_below (drop (at + 1) slots) (n + (at + 1)) bound)
bits_one slots at n bound h g =
    let here : drop at slots ≡ slot_at slots at ∷ drop (suc at) slots = drop-cons slots at nothing h in
    let one : at + 1 ≡ suc at = omega arith in
    let next : n + (at + 1) ≡ n + at + 1 = omega arith in
    let in_it : ltb (n + at) bound ≡ true = lt-ltb (n + at) bound g in
    rw (here, in_it, next, one)
    (bits_append (missing_of (n + at) (slot_at slots at))
    (missing_below (drop (suc at) slots) (n + at + 1) bound))

pub ruleset bits_stop = (bits_none, bits_past, bits_one)
