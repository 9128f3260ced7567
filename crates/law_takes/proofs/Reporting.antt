-- A status report of the other end comes, on both sides.
use Rattle.std.proofs.Common.{◌≡◌, ◌<◌, ◌≤◌, ℕ, Bool, true, false, ◌||◌, ◌&&◌, nat_lt, List, ◌++◌}
use Rattle.std.proofs.Common.{map, min, max, Option, refl, ap, sym, ◌∙◌, arith, subst, inl, inr}
use Rattle.std.proofs.lemmas.Bool.{cases_lt, lt-ltb, le-ltb, or_left, or_right, or_parts}
use Rattle.l2_num.specs.Ascending.{AreBetween}
use Rattle.pdcp_tx_store.specs.declared.given.Sent.{Sent}
use Rattle.pdcp_tx_store.specs.Given.{from_unacked, data_of, tells, heard, untold, with_report}
use Rattle.pdcp_tx_store.specs.Given.{settled as settled_given}
use Rattle.pdcp_tx.specs.State.{State, moved, reported, reported_from}
use Rattle.pdcp_tx.proofs.Order.{untold_between}
use Rattle.journal_takes.specs.TakeEvents.{ReportHeard, has_count}
use Rattle.journal_takes.specs.FlowTakes.{FlowTakes, reported_by, takes_with}
use Rattle.journal_takes.proofs.CountSets.{marks_have}
use Rattle.law_takes.specs.Accounted.{is_confirmed, is_left_out, unreported, IsInOrder, IsAccounted}
use Rattle.law_takes.specs.Laws.{ReportsAreAccounted}
use Rattle.law_takes.proofs.Numbered.{same-numbered, without-told, above-is-as, below-is-out}
use Rattle.law_takes.proofs.Kept.{counts, higher, trims-kept, trims-between, data-heard, untold-more, unacked-untold}
use Rattle.law_takes.proofs.Settling.{moves, bound-held, bound-grows}

-- the COUNTs that it marks
abbrev pub Marks : ℕ → List ℕ → List ℕ → ℕ → Type 0
Marks from marks bitmap next = (k : ℕ) → from ≤ k → k < next → has_count marks k ≡ tells from bitmap k

tells-below : (from : ℕ) (bitmap : List ℕ) (k : ℕ) → k < from → tells from bitmap k ≡ true
tells-below from bitmap k lt = or_left (nat_lt k from) _ (lt-ltb k from lt)

or-comm : (a b : Bool) → (a || b) ≡ (b || a)
or-comm true true = refl
or-comm true false = refl
or-comm false true = refl
or-comm false false = refl

-- of a COUNT that was taken
marks-add : (t : FlowTakes) (marks set : List ℕ) (k : ℕ) → k < t.next
    → ((nat_lt k t.next && has_count marks k) || has_count set k) ≡ (has_count marks k || has_count set k)
marks-add t marks set k lt =
    ap (λ (b : Bool). (b && has_count marks k) || has_count set k) (lt-ltb k t.next lt)

left-out-told : (t : FlowTakes) (from : ℕ) (marks bitmap : List ℕ) (n k : ℕ) → Marks from marks bitmap t.next
    → k < t.next
    → (is_left_out n t k || tells from bitmap k)
    ≡ is_left_out (max n (min from t.next)) (reported_by from marks t) k
left-out-told t from marks bitmap n k m lt = elim (cases_lt k n) [
  | inl below ↦
      or_left (is_left_out n t k) (tells from bitmap k) (below-is-out n k (has_count t.reported) below)
      ∙ sym (below-is-out (max n (min from t.next)) k (has_count (reported_by from marks t).reported)
      (omega (arith, below)))
  | inr up ↦ elim (cases_lt k from) [
    | inl told ↦
        or_right (is_left_out n t k) (tells from bitmap k) (tells-below from bitmap k told)
        ∙ sym (below-is-out (max n (min from t.next)) k (has_count (reported_by from marks t).reported)
        (omega (arith, told, lt)))
    | inr ge ↦
        ap (λ (b : Bool). b || tells from bitmap k) (above-is-as n k (has_count t.reported) up)
        ∙ ap (λ (b : Bool). has_count t.reported k || b) (sym (m k ge lt))
        ∙ or-comm (has_count t.reported k) (has_count marks k)
        ∙ sym (above-is-as (max n (min from t.next)) k (has_count (reported_by from marks t).reported)
        (omega (arith, up, ge))
        ∙ marks_have t.next k marks t.reported ∙ marks-add t marks t.reported k lt)
  ]
]

-- one that it doesn't tell is confirmed as it was
confirmed-untold : (t : FlowTakes) (from : ℕ) (marks bitmap : List ℕ) (k : ℕ) → Marks from marks bitmap t.next
    → k < t.next → tells from bitmap k ≡ false
    → is_confirmed t k ≡ is_confirmed (reported_by from marks t) k
confirmed-untold t from marks bitmap k m lt e = elim (cases_lt k t.low) [
  | inl below ↦
      below-is-out t.low k (has_count t.confirmed) below
      ∙ sym (below-is-out (max t.low (min from t.next)) k (has_count (reported_by from marks t).confirmed)
      (omega (arith, below)))
  | inr up ↦ elim (cases_lt k from) [
    | inl told ↦
        let none : true ≡ false = sym (tells-below from bitmap k told) ∙ e in
        absurd cc
    | inr ge ↦
        above-is-as t.low k (has_count t.confirmed) up
        ∙ sym (above-is-as (max t.low (min from t.next)) k (has_count (reported_by from marks t).confirmed)
        (omega (arith, up, ge))
        ∙ marks_have t.next k marks t.confirmed ∙ marks-add t marks t.confirmed k lt
        ∙ ap (λ (b : Bool). b || has_count t.confirmed k) (m k ge lt ∙ e))
  ]
]

unreported-told : (t : FlowTakes) (from : ℕ) (marks bitmap : List ℕ) (n : ℕ) → Marks from marks bitmap t.next
    → IsInOrder t
    → untold from bitmap (unreported n t) ≡ unreported (max n (min from t.next)) (reported_by from marks t)
unreported-told t from marks bitmap n m o =
    without-told (is_left_out n t) (is_confirmed t) from bitmap t.from t.sdus
    ∙ same-numbered (λ k. is_left_out n t k || tells from bitmap k) (is_confirmed t)
    (is_left_out (max n (min from t.next)) (reported_by from marks t)) (is_confirmed (reported_by from marks t)) t.from
    t.sdus (λ k a b. left-out-told t from marks bitmap n k m (omega (arith, b, o.sdus)))
    (λ k a b e. let parts = or_parts (is_left_out n t k) (tells from bitmap k) e in
    confirmed-untold t from marks bitmap k m (omega (arith, b, o.sdus)) parts.1)

in-order-reported : (t : FlowTakes) (from : ℕ) (marks : List ℕ) → IsInOrder t → IsInOrder (reported_by from marks t)
in-order-reported t from marks o = record {
  from_low = omega (arith, o.from_low);
  from_at = omega (arith, o.from_at);
  begun = omega (arith, o.begun);
  low = omega (arith, o.low);
  at = omega (arith, o.at);
  within = omega (
    arith,
    o.within,
    bound-grows t.reporting t.begun t.low (max t.low (min from t.next)) t.width (omega arith),
  );
  sdus = o.sdus;
  taken = λ k le.
      marks_have t.next k marks t.confirmed
      ∙ ap (λ (b : Bool). (b && has_count marks k) || has_count t.confirmed k) (le-ltb k t.next le) ∙ o.taken k le;
  reported = λ k le e.
      marks_have t.next k marks t.confirmed
      ∙ by (nat_lt k t.next && has_count marks k) (has_count t.reported k) (has_count t.confirmed k)
      (o.reported k (omega (arith, le))) (sym (marks_have t.next k marks t.reported) ∙ e);
}
  where
    by : (a b c : Bool) → (b ≡ true → c ≡ true) → (a || b) ≡ true → (a || c) ≡ true
    by true b c f e = refl
    by false b c f e = f e

-- ---- the step

abbrev with-told : State → ℕ → List ℕ → State
with-told s from bitmap = record s {
  given = settled_given (with_report s.given from bitmap);
  again = untold from bitmap s.again;
}

hears : (s : State) (t : FlowTakes) (from : ℕ) (marks bitmap : List ℕ) → Marks from marks bitmap t.next
    → IsAccounted s t
    → IsAccounted (moved (with-told s from bitmap)) (takes_with (ReportHeard from marks) t)
hears s t from marks bitmap m h =
    let es = map (heard from bitmap) s.given.entries in
    let data' : data_of (map (heard from bitmap) s.given.entries) ≡ untold from bitmap (data_of s.given.entries) =
    data-heard from bitmap s.given.entries in
    moves (with-told s from bitmap) (reported_by from marks t)
    (record {
      am = h.am;
      width = h.width;
      next = h.next;
      base = h.base;
      waiting = h.waiting;
      due = h.due;
      reporting = h.reporting;
      again = ap (untold from bitmap) h.again ∙ unreported-told t from marks bitmap t.at m h.account.order;
      kept = trims-kept (map (heard from bitmap) s.given.entries) (untold from bitmap s.again)
          ∙ ap (λ (l : List Sent). from_unacked (l ++ untold from bitmap s.again)) data'
          ∙ ap from_unacked (sym (untold-more from bitmap (data_of s.given.entries) s.again))
          ∙ unacked-untold from bitmap (data_of s.given.entries ++ s.again)
          ∙ ap (λ (l : List Sent). from_unacked (untold from bitmap l)) h.kept
          ∙ ap from_unacked (unreported-told t from marks bitmap t.low m h.account.order);
      given = trims-between 0 (map (heard from bitmap) s.given.entries) (max t.at (min from t.next))
          (subst (λ (l : List Sent). AreBetween 0 (counts l) (max t.at (min from t.next))) (sym data')
          (untold_between 0 from bitmap (data_of s.given.entries) (max t.at (min from t.next))
          (higher 0 (counts (data_of s.given.entries)) t.at (max t.at (min from t.next)) (omega arith) h.given)));
      order = in-order-reported t from marks h.account.order;
    })
    (bound-held s t h)

pub reports_are_accounted : ReportsAreAccounted
unfolding reported
reports_are_accounted s t from marks fms bitmap r h =
    subst (λ (o : Option ℕ). IsAccounted (reported_from o s bitmap) (takes_with (ReportHeard from marks) t))
    (sym r.read)
    (hears s t from marks bitmap (λ k ge lt. r.marked k ge (omega (arith, lt, h.next))) h)
