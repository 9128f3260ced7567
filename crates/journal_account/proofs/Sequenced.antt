-- The SDUs that are in sequence, by their ends.
use Rattle.std.proofs.Common.{◌≡◌, ◌<◌, ◌≤◌, ℕ, zero, suc, ◌+◌, ◌-◌, Bool, true, false, List, [], ◌∷◌, ◌++◌}
use Rattle.std.proofs.Common.{length, drop, inl, inr, refl, ap, sym, ◌∙◌, arith, nat_lt, nat_le, if◌then◌else◌}
use Rattle.std.proofs.Common.{slice_index_or, add-one}
use Rattle.std.proofs.lemmas.Bool.{cases_lt, lt-ltb, le-ltb, leb-true, leb-false, and_from, and_left, and_right}
use Rattle.std.proofs.lemmas.List.{get_or-drop, get_or_append_left, get_or_push, length_push, length-drop}
use Rattle.l2_num.specs.Least.{IsLeast}
use Rattle.journal_account.specs.FlowEvents.{FlowEvent}
use Rattle.journal_account.specs.Arrived.{all_below}
use Rattle.journal_account.specs.Stream.{place_of, end_of_all, sdu_sizes, place_came, is_in_sequence}
use Rattle.journal_account.specs.FlowSdus.{FlowSdus, with_sdu, ends_by, sequenced_to}
use Rattle.journal_account.proofs.Complete.{below_all, below_not}
use Rattle.journal_account.proofs.Along.{place_left, place_pushed}

-- sizes of SDUs, and a place that all ends lie behind that aren't kept
pub record Ends (sizes : List ℕ) (place : ℕ) (s : FlowSdus) : Type 0 where
  pub count : s.sequenced + length s.ends ≡ length sizes
  pub taken : s.taken ≡ end_of_all sizes
  pub ends_are : (j : ℕ) → j < length s.ends
      → slice_index_or s.ends j 0 ≡ place_of sizes (s.sequenced + j + 1)
  pub gone : (k : ℕ) → k < s.sequenced → place_of sizes (k + 1) ≤ place

-- ---- the ends up to a place

lead_step : (place e : ℕ) (es : List ℕ) (j : ℕ) (b : Bool) → nat_le e place ≡ b
    → j < (if b then ends_by place es + 1 else 0)
    → ((k : ℕ) → k < ends_by place es → slice_index_or es k 0 ≤ place) → slice_index_or (e ∷ es) j 0 ≤ place
lead_step place e es j false is lt rest = absurd (omega arith)
lead_step place e es zero true is lt rest = leb-true e place is
lead_step place e es (suc j) true is lt rest = rest j (omega arith)

ends_lead : (place : ℕ) (es : List ℕ) (j : ℕ) → j < ends_by place es → slice_index_or es j 0 ≤ place
ends_lead place [] j lt = absurd (omega arith)
ends_lead place (e ∷ es) j lt = lead_step place e es j (nat_le e place) refl lt (λ k l. ends_lead place es k l)

stop_step : (place e : ℕ) (es : List ℕ) (b : Bool) → nat_le e place ≡ b
    → (ends_by place es < length es → place < slice_index_or es (ends_by place es) 0)
    → (if b then ends_by place es + 1 else 0) < suc (length es)
    → place < slice_index_or (e ∷ es) (if b then ends_by place es + 1 else 0) 0
stop_step place e es true is rest lt = rw (add-one (ends_by place es)) (rest (omega arith))
stop_step place e es false is rest lt = leb-false e place is

ends_stop : (place : ℕ) (es : List ℕ) → ends_by place es < length es
    → place < slice_index_or es (ends_by place es) 0
ends_stop place [] lt = absurd (omega arith)
ends_stop place (e ∷ es) lt = stop_step place e es (nat_le e place) refl (λ l. ends_stop place es l) lt

few_step : (n : ℕ) (b : Bool) (len : ℕ) → n ≤ len → (if b then n + 1 else 0) ≤ suc len
few_step n true len le = omega arith
few_step n false len le = omega arith

ends_few : (place : ℕ) (es : List ℕ) → ends_by place es ≤ length es
ends_few place [] = omega arith
ends_few place (e ∷ es) = few_step (ends_by place es) (nat_le e place) (length es) (ends_few place es)

-- ---- a place is reached

pub ends_reached : (sizes : List ℕ) (place later : ℕ) (s : FlowSdus) → place ≤ later → Ends sizes place s
    → Ends sizes later (sequenced_to later s)
ends_reached sizes place later s le h =
    let few : ends_by later s.ends ≤ length s.ends = ends_few later s.ends in
    record {
      count = omega (arith, h.count, length-drop (ends_by later s.ends) s.ends);
      taken = h.taken;
      ends_are = λ j lt.
          let at : s.sequenced + (ends_by later s.ends + j) + 1 ≡ s.sequenced + ends_by later s.ends + j + 1 =
          omega arith in
          get_or-drop (ends_by later s.ends) s.ends j 0
          ∙ h.ends_are (ends_by later s.ends + j) (omega (arith, length-drop (ends_by later s.ends) s.ends))
          ∙ ap (place_of sizes) at;
      gone = λ k lt. elim (cases_lt k s.sequenced) [
        | inl was ↦ omega (arith, h.gone k was)
        | inr now ↦
            let at : s.sequenced + (k - s.sequenced) + 1 ≡ k + 1 = omega arith in
            let end_is : slice_index_or s.ends (k - s.sequenced) 0 ≡ place_of sizes (k + 1) =
            h.ends_are (k - s.sequenced) (omega arith) ∙ ap (place_of sizes) at in
            let low : slice_index_or s.ends (k - s.sequenced) 0 ≤ later =
            ends_lead later s.ends (k - s.sequenced) (omega arith) in
            omega arith
      ];
    }

-- an SDU is taken
pub ends_taken : (sizes : List ℕ) (place size : ℕ) (s : FlowSdus) → Ends sizes place s
    → Ends (sizes ++ size ∷ []) place (with_sdu size s)
ends_taken sizes place size s h =
    let len : length (sizes ++ size ∷ []) ≡ suc (length sizes) = omega (arith, length_push sizes size) in
    let last : place_of (sizes ++ size ∷ []) (suc (length sizes)) ≡ s.taken + size =
    place_pushed sizes size ∙ ap (λ (n : ℕ). n + size) (sym h.taken) in
    record {
      count = omega (arith, h.count, length_push sizes size, length_push s.ends (s.taken + size));
      taken = sym (ap (place_of (sizes ++ size ∷ [])) len ∙ last);
      ends_are = λ j lt. elim (cases_lt j (length s.ends)) [
        | inl old ↦ get_or_append_left s.ends ((s.taken + size) ∷ []) 0 j old ∙ h.ends_are j old
            ∙ sym (place_left sizes (size ∷ []) (s.sequenced + j + 1) (omega (arith, h.count)))
        | inr new ↦
            let is : length s.ends ≡ j = omega (arith, length_push s.ends (s.taken + size)) in
            let at : suc (length sizes) ≡ s.sequenced + j + 1 = omega (arith, h.count) in
            get_or_push s.ends (s.taken + size) 0 j is ∙ sym last
            ∙ ap (place_of (sizes ++ size ∷ [])) at
      ];
      gone = λ k lt. rw (place_left sizes (size ∷ []) (k + 1) (omega (arith, h.count))) (h.gone k lt);
    }

-- ---- what this says of the SDUs

pub first_behind : (place : ℕ) (s : FlowSdus) → 0 < length (sequenced_to place s).ends
    → place < slice_index_or (sequenced_to place s).ends 0 0
first_behind place s some =
    let at : ends_by place s.ends + 0 ≡ ends_by place s.ends = omega arith in
    let is : slice_index_or (drop (ends_by place s.ends) s.ends) 0 0 ≡ slice_index_or s.ends (ends_by place s.ends) 0 =
    get_or-drop (ends_by place s.ends) s.ends 0 0 ∙ ap (λ (n : ℕ). slice_index_or s.ends n 0) at in
    let high : place < slice_index_or s.ends (ends_by place s.ends) 0 =
    ends_stop place s.ends (omega (arith, length-drop (ends_by place s.ends) s.ends)) in
    omega arith

pub ends_least : (es : List FlowEvent) (place : ℕ) (s : FlowSdus) → IsLeast (place_came es) 0 place
    → Ends (sdu_sizes es) place s → (0 < length s.ends → place < slice_index_or s.ends 0 0)
    → IsLeast (is_in_sequence es) 0 s.sequenced
ends_least es place s gap h first = record {
  from = omega arith;
  refused = elim (cases_lt 0 (length s.ends)) [
    | inl some ↦
        let at : s.sequenced + 0 + 1 ≡ s.sequenced + 1 = omega arith in
        let end_is : slice_index_or s.ends 0 0 ≡ place_of (sdu_sizes es) (s.sequenced + 1) =
        h.ends_are 0 some ∙ ap (place_of (sdu_sizes es)) at in
        let high : place < slice_index_or s.ends 0 0 = first some in
        and_right (nat_lt s.sequenced (length (sdu_sizes es)))
        (all_below (place_came es) (place_of (sdu_sizes es) (s.sequenced + 1)))
        (below_not (place_came es) (place_of (sdu_sizes es) (s.sequenced + 1)) place (omega arith) gap.refused)
    | inr none ↦ and_left (nat_lt s.sequenced (length (sdu_sizes es)))
        (all_below (place_came es) (place_of (sdu_sizes es) (s.sequenced + 1)))
        (le-ltb s.sequenced (length (sdu_sizes es)) (omega (arith, h.count)))
  ];
  before = λ k le lt.
      let low : place_of (sdu_sizes es) (k + 1) ≤ place = h.gone k lt in
      and_from (nat_lt k (length (sdu_sizes es)))
      (all_below (place_came es) (place_of (sdu_sizes es) (k + 1)))
      (lt-ltb k (length (sdu_sizes es)) (omega (arith, h.count)))
      (below_all (place_came es) (place_of (sdu_sizes es) (k + 1))
      (λ i below. gap.before i (omega arith) (omega arith)));
}
