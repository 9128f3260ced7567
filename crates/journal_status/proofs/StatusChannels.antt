-- PDUs and channels in their order.
use Rattle.std.proofs.Common.{◌≡◌, ℕ, zero, suc, ◌+◌, ◌<◌, ◌≤◌, Bool, true, false, ◌&&◌, List, [], ◌∷◌, length}
use Rattle.std.proofs.Common.{drop, Some, slice_index_or, refl, ap, sym, ◌∙◌, arith}
use Rattle.std.specs.Prelude.{◌==◌, slice_get}
use Rattle.std.proofs.lemmas.Bool.{and_parts, and_from, eqb-true, eq-eqb}
use Rattle.l2_types.specs.declared.side.Side.{Side}
use Rattle.air_record.proofs.Gets.{drop-get}
use Rattle.journal_flows.specs.declared.parcels.Parcel.{Parcel}
use Rattle.journal_flows.specs.Accounts.{Accounts}
use Rattle.journal_status.specs.StatusChecking.{is_true_report, all_true, all_told}

drop_past : {A : Type 0} (xs : List A) (at : ℕ) → length xs ≤ at → drop at xs ≡ []
drop_past [] zero h = refl
drop_past [] (suc at) h = refl
drop_past (x ∷ xs) zero h = absurd (omega (arith, h))
drop_past (x ∷ xs) (suc at) h = drop_past xs at (omega (arith, h))

-- ---- whether each STATUS is true

pub report_at : (flows : Accounts) (from : Side) (at : ℕ) (ps : List Parcel) (p : Parcel) → slice_get ps at ≡ Some p
    → all_true flows from (drop at ps) ≡ (is_true_report flows from p && all_true flows from (drop (at + 1) ps))
report_at flows from at ps p h = ap (all_true flows from) (drop-get ps at p h)

pub report_past : (flows : Accounts) (from : Side) (at : ℕ) (ps : List Parcel) → length ps ≤ at
    → all_true flows from (drop at ps) ≡ true
report_past flows from at ps h = ap (all_true flows from) (drop_past ps at h)

-- ---- whether all ignored ones are told of

drop_at : (xs : List ℕ) (at : ℕ) → at < length xs → drop at xs ≡ slice_index_or xs at 0 ∷ drop (suc at) xs
drop_at [] at h = absurd (omega (arith, h))
drop_at (x ∷ xs) zero h = refl
drop_at (x ∷ xs) (suc at) h = drop_at xs at (omega (arith, h))

abbrev pub told_from : (ℕ → ℕ) → ℕ → List ℕ → Bool
told_from ignored at xs = all_told ignored at (drop at xs)

pub told_next : (ignored : ℕ → ℕ) (xs : List ℕ) (at : ℕ) → at < length xs
    → slice_index_or xs at 0 ≡ ignored at → told_from ignored (at + 1) xs ≡ told_from ignored at xs
told_next ignored xs at h e =
    let next : at + 1 ≡ suc at = omega arith in
    ap (λ (n : ℕ). all_told ignored (at + 1) (drop n xs)) next
    ∙ ap (λ (b : Bool). b && all_told ignored (at + 1) (drop (suc at) xs))
    (sym (eq-eqb (slice_index_or xs at 0) (ignored at) e))
    ∙ ap (all_told ignored at) (sym (drop_at xs at h))

pub told_stops : (ignored : ℕ → ℕ) (xs : List ℕ) (at : ℕ) → at < length xs
    → (slice_index_or xs at 0 == ignored at) ≡ false → told_from ignored at xs ≡ false
told_stops ignored xs at h e =
    ap (all_told ignored at) (drop_at xs at h)
    ∙ ap (λ (b : Bool). b && all_told ignored (at + 1) (drop (suc at) xs)) e

pub told_past : (ignored : ℕ → ℕ) (xs : List ℕ) (at : ℕ) → length xs ≤ at → told_from ignored at xs ≡ true
told_past ignored xs at h = ap (all_told ignored at) (drop_past xs at h)

pub ruleset walks = (told_next, told_stops, told_past)

-- ---- channel by channel

shift : (first i : ℕ) → first + suc i ≡ first + 1 + i
shift first i = omega arith

here : (first : ℕ) → first + 0 ≡ first
here first = omega arith

pub all_sound : (ignored : ℕ → ℕ) (first : ℕ) (xs : List ℕ) → all_told ignored first xs ≡ true → (i : ℕ)
    → i < length xs → slice_index_or xs i 0 ≡ ignored (first + i)
all_sound ignored first [] h i lt = absurd (omega (arith, lt))
all_sound ignored first (x ∷ xs) h zero lt =
    eqb-true x (ignored first) (and_parts (x == ignored first) (all_told ignored (first + 1) xs) h).0
    ∙ ap ignored (sym (here first))
all_sound ignored first (x ∷ xs) h (suc i) lt =
    all_sound ignored (first + 1) xs (and_parts (x == ignored first) (all_told ignored (first + 1) xs) h).1 i
    (omega (arith, lt))
    ∙ ap ignored (sym (shift first i))

pub all_complete : (ignored : ℕ → ℕ) (first : ℕ) (xs : List ℕ)
    → ((i : ℕ) → i < length xs → slice_index_or xs i 0 ≡ ignored (first + i)) → all_told ignored first xs ≡ true
all_complete ignored first [] h = refl
all_complete ignored first (x ∷ xs) h =
    and_from (x == ignored first) (all_told ignored (first + 1) xs)
    (eq-eqb x (ignored first) (h 0 (omega arith) ∙ ap ignored (here first)))
    (all_complete ignored (first + 1) xs (λ i lt. h (suc i) (omega (arith, lt)) ∙ ap ignored (shift first i)))
