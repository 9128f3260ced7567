-- One step of what goes over the ring.
use Rattle.std.proofs.Common.{◌≡◌, ◌<◌, ◌≤◌, ℕ, suc, zero, ◌+◌, ◌-◌, Bool, true, false, List, [], ◌∷◌, ◌++◌, length}
use Rattle.std.proofs.Common.{drop, take, Some, slice_get, slice_set, append_assoc, refl, ap, sym, ◌∙◌, arith}
use Rattle.std.proofs.Common.{drop-cons, add-one, nat_lt, if◌then◌else◌}
use Rattle.circular_buffer.specs.Buffer.{keep_last}
use Rattle.std.proofs.lemmas.Bool.Decides.{nat_tests}
use Rattle.std.proofs.lemmas.List.{append-nil, take_more_set, drop-set-lt, take_all, drop_all, take-append-drop}
use Rattle.rlc_am_tx_window.specs.Sent.{Sent, acknowledged}
use Rattle.rlc_am_tx_window.specs.Ledger.{Ledger}
use Rattle.rlc_am_tx_window.specs.Window.{nothing, slot_at, acked_from, credited_from, credited_one}

pub keep_last-fits : {X : Type 0} (n : ℕ) (xs : List X) → length xs ≤ n → keep_last n xs ≡ xs
keep_last-fits n xs h = let none : length xs - n ≡ 0 = omega arith in ap (λ k. drop k xs) none

pub ruleset fits = (keep_last-fits)

-- a place is set to what stands there
pub set-found : (slots : List Sent) (at : ℕ) (x : Sent) → slice_get slots at ≡ Some x → slice_set slots at x ≡ slots
set-found [] at x e = refl
set-found (h ∷ hs) zero x e = let same : h ≡ x = cc in rw same refl
set-found (h ∷ hs) (suc at) x e = ap (λ ys. h ∷ ys) (set-found hs at x e)

pub ruleset same = (set-found)

-- no PDU stands past the ring
pub slot-past : (slots : List Sent) (at : ℕ) → length slots ≤ at → slot_at slots at ≡ nothing
slot-past [] at h = refl
slot-past (s ∷ slots) zero h = absurd (omega arith)
slot-past (s ∷ slots) (suc at) h = slot-past slots at (omega arith)

pub ruleset past = (slot-past)

-- what lies behind a place that is set
drop-set-behind : (xs : List Sent) (at : ℕ) (x : Sent) → drop (at + 1) (slice_set xs at x) ≡ drop (at + 1) xs
drop-set-behind xs at x = drop-set-lt (at + 1) xs at x (omega arith)

drop-at : (xs : List Sent) (at : ℕ) → at < length xs → drop at xs ≡ slot_at xs at ∷ drop (at + 1) xs
drop-at xs at h = drop-cons xs at nothing h ∙ ap (λ n. slot_at xs at ∷ drop n xs) (sym (add-one at))

is-less : (n m : ℕ) → n < m → nat_lt n m ≡ true
is-less n m h = grind (arith, nat_tests)

is-more : (n m : ℕ) → m ≤ n → nat_lt n m ≡ false
is-more n m h = grind (arith, nat_tests)

pub acked-step : (slots : List Sent) (at below : ℕ) → at < length slots → at < below
    → take (at + 1) (slice_set slots at (acknowledged (slot_at slots at)))
    ++ acked_from (at + 1) below (drop (at + 1) (slice_set slots at (acknowledged (slot_at slots at))))
    ≡ take at slots ++ acked_from at below (drop at slots)
acked-step slots at below h lt =
    rw (
      take_more_set slots at (acknowledged (slot_at slots at)) h,
      drop-set-behind slots at (acknowledged (slot_at slots at)),
      drop-at slots at h,
      is-less at below lt,
    )
    (append_assoc (take at slots) (acknowledged (slot_at slots at) ∷ [])
    (acked_from (at + 1) below (drop (at + 1) slots)))

pub credited-step : (l : Ledger) (slots : List Sent) (at below : ℕ) → at < length slots → at < below
    → credited_from (credited_one l (slot_at slots at)) (at + 1) below
    (drop (at + 1) (slice_set slots at (acknowledged (slot_at slots at)))) ≡ credited_from l at below (drop at slots)
credited-step l slots at below h lt =
    rw (drop-set-behind slots at (acknowledged (slot_at slots at)), drop-at slots at h)
    (ap (λ (b : Bool). credited_from (if b then credited_one l (slot_at slots at) else l) (at + 1) below
    (drop (at + 1) slots)) (sym (is-less at below lt)))

acked-past : (at below : ℕ) (slots : List Sent) → below ≤ at → acked_from at below slots ≡ slots
acked-past at below [] h = refl
acked-past at below (s ∷ slots) h = rw (is-more at below h, acked-past (at + 1) below slots (omega arith)) refl

pub acked-end : (slots : List Sent) (at below : ℕ) → below ≤ at
    → take at slots ++ acked_from at below (drop at slots) ≡ slots
acked-end slots at below h = rw (acked-past at below (drop at slots) h) (take-append-drop at slots)

pub acked-whole : (slots : List Sent) (at below : ℕ) → length slots ≤ at
    → take at slots ++ acked_from at below (drop at slots) ≡ slots
acked-whole slots at below h = rw (take_all at slots h, drop_all at slots h) (append-nil slots)

pub credited-past : (l : Ledger) (at below : ℕ) (slots : List Sent) → below ≤ at → credited_from l at below slots ≡ l
credited-past l at below [] h = refl
credited-past l at below (s ∷ slots) h =
    rw (is-more at below h, credited-past l (at + 1) below slots (omega arith)) refl

pub credited-whole : (l : Ledger) (at below : ℕ) (slots : List Sent) → length slots ≤ at
    → credited_from l at below (drop at slots) ≡ l
credited-whole l at below slots h = rw (drop_all at slots h) refl

pub ruleset acks = (acked-step, credited-step, acked-end, acked-whole, credited-past, credited-whole)
