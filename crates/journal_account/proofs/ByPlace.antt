-- The fields that an account keeps, by their places.
use Rattle.std.proofs.Common.{◌≡◌, ◌<◌, ◌≤◌, ℕ, zero, suc, ◌+◌, ◌-◌, Bool, true, false, List, [], ◌∷◌, ◌++◌, map}
use Rattle.std.proofs.Common.{length, drop, Some, None, slice_get, refl, ap, sym, ◌∙◌, arith, add-one}
use Rattle.std.proofs.Common.{if◌then◌else◌, nat_lt, max, min, inl, inr}
use Rattle.std.proofs.lemmas.Bool.{cases_eq, cases_lt, ltb-true}
use Rattle.std.proofs.lemmas.List.{get_or-drop, get_or_append_left, get_or_push, get_or_past, get_or-set_same}
use Rattle.std.proofs.lemmas.List.{get_or-set_other, length_push}
use Rattle.rlc_pdu.specs.Runs.{Run, between, gap_in}
use Rattle.l2_num.specs.Least.{IsLeast}
use Rattle.journal_account.specs.FlowArrivals.{FieldArrivals, nothing_came, not_written, field_at, is_whole}
use Rattle.journal_account.specs.FlowArrivals.{whole_first, first_open, with_octets, octets_at, octets_of}
use Rattle.journal_account.specs.FlowArrivals.{up_to_gap, leading_octets}

abbrev pub sizes : List FieldArrivals → List ℕ
sizes fields = map (λ (f : FieldArrivals). f.size) fields

abbrev pub whole_at : List FieldArrivals → ℕ → Bool
whole_at fields k = is_whole (field_at fields k)

-- ---- the whole fields that stand first

lead_step : (f : FieldArrivals) (fs : List FieldArrivals) (k : ℕ) (b : Bool) → is_whole f ≡ b
    → k < (if b then whole_first fs + 1 else 0) → ((j : ℕ) → j < whole_first fs → whole_at fs j ≡ true)
    → whole_at (f ∷ fs) k ≡ true
lead_step f fs k false e lt rest = absurd (omega arith)
lead_step f fs zero true e lt rest = e
lead_step f fs (suc k) true e lt rest = rest k (omega arith)

pub lead_whole : (fields : List FieldArrivals) (k : ℕ) → k < whole_first fields → whole_at fields k ≡ true
lead_whole [] k lt = absurd (omega arith)
lead_whole (f ∷ fs) k lt = lead_step f fs k (is_whole f) refl lt (λ j l. lead_whole fs j l)

stop_step : (f : FieldArrivals) (fs : List FieldArrivals) (b : Bool) → is_whole f ≡ b
    → whole_at fs (whole_first fs) ≡ false → whole_at (f ∷ fs) (if b then whole_first fs + 1 else 0) ≡ false
stop_step f fs true e rest = rw (add-one (whole_first fs)) rest
stop_step f fs false e rest = e

pub stops : (fields : List FieldArrivals) → whole_at fields (whole_first fields) ≡ false
stops [] = refl
stops (f ∷ fs) = stop_step f fs (is_whole f) refl (stops fs)

few_step : (n : ℕ) (b : Bool) (len : ℕ) → n ≤ len → (if b then n + 1 else 0) ≤ suc len
few_step n true len le = omega arith
few_step n false len le = omega arith

pub whole_few : (fields : List FieldArrivals) → whole_first fields ≤ length fields
whole_few [] = omega arith
whole_few (f ∷ fs) = few_step (whole_first fs) (is_whole f) (length fs) (whole_few fs)

pub open_least : (fields : List FieldArrivals) (from : ℕ)
    → IsLeast (whole_at fields) from (first_open fields from)
open_least fields from = record {
  from = omega arith;
  refused = ap is_whole (sym (get_or-drop from fields (whole_first (drop from fields)) not_written))
      ∙ stops (drop from fields);
  before = λ n le lt.
      let at : from + (n - from) ≡ n = omega arith in
      ap (whole_at fields) (sym at) ∙ ap is_whole (sym (get_or-drop from fields (n - from) not_written))
      ∙ lead_whole (drop from fields) (n - from) (omega arith);
}

-- ---- one more number

pub push_field : (fields : List FieldArrivals) (size k : ℕ)
    → (field_at (fields ++ nothing_came size ∷ []) k).came ≡ (field_at fields k).came
push_field fields size k = elim (cases_lt k (length fields)) [
  | inl lt ↦ ap (λ (f : FieldArrivals). f.came)
      (get_or_append_left fields (nothing_came size ∷ []) not_written k lt)
  | inr le ↦ elim (cases_eq k (length fields)) [
    | inl same ↦ ap (λ (f : FieldArrivals). f.came) (get_or_push fields (nothing_came size) not_written k (sym same))
        ∙ sym (ap (λ (f : FieldArrivals). f.came) (get_or_past fields k not_written le))
    | inr other ↦ ap (λ (f : FieldArrivals). f.came)
        (get_or_past (fields ++ nothing_came size ∷ []) k not_written
        (omega (arith, length_push fields (nothing_came size))))
        ∙ sym (ap (λ (f : FieldArrivals). f.came) (get_or_past fields k not_written le))
  ]
]

-- ---- octets of one come

pub octets_size : (fields : List FieldArrivals) (at from to k : ℕ)
    → slice_get (sizes (octets_at at from to fields)) k ≡ slice_get (sizes fields) k
octets_size [] at from to k = refl
octets_size (f ∷ fs) zero from to zero = refl
octets_size (f ∷ fs) zero from to (suc k) = refl
octets_size (f ∷ fs) (suc at) from to zero = refl
octets_size (f ∷ fs) (suc at) from to (suc k) = octets_size fs at from to k

pub octets_here : (fields : List FieldArrivals) (at from to : ℕ) → at < length fields
    → field_at (octets_at at from to fields) at ≡ with_octets from to (field_at fields at)
octets_here fields at from to lt =
    get_or-set_same fields at (with_octets from to (field_at fields at)) not_written lt

pub octets_other : (fields : List FieldArrivals) (at from to k : ℕ) → (k ≡ at → ⊥)
    → field_at (octets_at at from to fields) k ≡ field_at fields k
octets_other fields at from to k other =
    get_or-set_other fields at k (with_octets from to (field_at fields at)) not_written other

-- ---- the first numbers go

pub drop_size : (fields : List FieldArrivals) (n k : ℕ)
    → slice_get (sizes (drop n fields)) k ≡ slice_get (sizes fields) (n + k)
drop_size fields zero k = let same : k ≡ 0 + k = omega arith in ap (slice_get (sizes fields)) same
drop_size [] (suc n) k = refl
drop_size (f ∷ fs) (suc n) k = let same : suc (n + k) ≡ suc n + k = omega arith in
    drop_size fs n k ∙ ap (slice_get (sizes (f ∷ fs))) same

pub drop_field : (fields : List FieldArrivals) (n k : ℕ) → field_at (drop n fields) k ≡ field_at fields (n + k)
drop_field fields n k = get_or-drop n fields k not_written

-- ---- how many octets they have

pub octets_pushed : (fields : List FieldArrivals) (size : ℕ)
    → octets_of (fields ++ nothing_came size ∷ []) ≡ octets_of fields + size
octets_pushed [] size = omega arith
octets_pushed (f ∷ fs) size = omega (arith, octets_pushed fs size)

pub octets_kept : (fields : List FieldArrivals) (at from to : ℕ)
    → octets_of (octets_at at from to fields) ≡ octets_of fields
octets_kept [] at from to = refl
octets_kept (f ∷ fs) zero from to = refl
octets_kept (f ∷ fs) (suc at) from to = ap (λ (n : ℕ). f.size + n) (octets_kept fs at from to)

pub ruleset counting = (octets_pushed, octets_kept)

-- ---- the gap of a field lies in it

between_start : (from end size : ℕ) (b : Bool) → nat_lt from end ≡ b → end ≤ size
    → up_to_gap (if b then Some (record { start = from; end = end - 1 }) else None) size ≤ size
between_start from end size true is le = let lt : from < end = ltb-true from end is in omega arith
between_start from end size false is le = omega arith

gap_start : (runs : List Run) (from size : ℕ) → up_to_gap (gap_in runs from size) size ≤ size
gap_start [] from size = between_start from size size (nat_lt from size) refl (omega arith)
gap_start (r ∷ rs) from size = step (nat_lt from r.from) (gap_start rs (max from r.to) size)
  where
    step : (b : Bool) → up_to_gap (gap_in rs (max from r.to) size) size ≤ size
        → up_to_gap (if b then between from (min r.from size) else gap_in rs (max from r.to) size) size ≤ size
    step true rest = between_start from (min r.from size) size (nat_lt from (min r.from size)) refl (omega arith)
    step false rest = rest

pub leading_low : (fields : List FieldArrivals) → leading_octets (field_at fields 0) ≤ octets_of fields
leading_low [] = omega arith
leading_low (f ∷ fs) = omega (arith, gap_start f.came 0 f.size)
