-- t-Reordering expires: VR(MS) moves as far on both sides.
use Rattle.std.proofs.Common.{◌≡◌, ◌<◌, ◌≤◌, inl, inr, ℕ, ◌+◌, ◌-◌, Bool, true, false, Option, Some, None}
use Rattle.std.proofs.Common.{ap, sym, ◌∙◌, arith, max, nat_lt}
use Rattle.std.specs.Prelude.{IfSome}
use Rattle.std.proofs.lemmas.Bool.{cases_lt}
use Rattle.l2_num.specs.Least.{IsLeast}
use Rattle.rlc_am_rx_window.specs.Window.{top, first_incomplete}
use Rattle.rlc_am_rx.specs.State.{State}
use Rattle.rlc_am_rx.specs.Machine.{bound_moved, after_reorder, reorder_answer}
use Rattle.journal_account.specs.FlowArrivals.{FlowArrivals, first_open, reorder_expired}
use Rattle.journal_account.proofs.ByPlace.{whole_at, open_least}
use Rattle.law_rlc.proofs.AmReceiver.Order.{incomplete-length}
use Rattle.law_account.specs.Receiving.{IsMarkAccounted, AreArrivalsAccounted, IsReceiverAccounted}
use Rattle.law_account.specs.Receiving.{expired_in, ReorderingIsAccounted}
use Rattle.law_account.proofs.ReceivingNumbers.{open_same}
use Rattle.law_account.proofs.Receiving.{starting}

one_least : (p : ℕ → Bool) (m k l : ℕ) → IsLeast p m k → IsLeast p m l → k ≤ l
one_least p m k l g h = elim (cases_lt l k) [
  | inl lt ↦ let no : true ≡ false = sym (g.before l h.from lt) ∙ h.refused in absurd cc
  | inr le ↦ le
]

-- where VR(MS) lies above VR(X), all between them is complete
passed_least : (a : FlowArrivals) (x : ℕ) → a.front ≤ a.bound → whole_at a.fields (a.bound - a.front) ≡ false
    → IsMarkAccounted a x → x < a.bound → IsLeast (whole_at a.fields) (x - a.front) (a.bound - a.front)
passed_least a x le open' m lt = record {
  from = omega (arith, lt);
  refused = open';
  before = λ k from below. m.passed k (omega (arith, from)) (omega (arith, below));
}

same_bound : (a : FlowArrivals) (x : ℕ) → a.front ≤ a.bound → whole_at a.fields (a.bound - a.front) ≡ false
    → IsMarkAccounted a x → first_open a.fields (x - a.front) ≡ first_open a.fields (max a.bound a.mark - a.front)
same_bound a x le open' m = elim (cases_lt x a.bound) [
  | inl lt ↦
      let most : max a.bound a.mark ≡ a.bound = omega (arith, lt, m.is) in
      let here : IsLeast (whole_at a.fields) (x - a.front) (a.bound - a.front) = passed_least a x le open' m lt in
      let first = open_least a.fields (x - a.front) in
      let stays : IsLeast (whole_at a.fields) (a.bound - a.front) (a.bound - a.front) =
      record { from = omega arith; refused = open'; before = λ k from below. absurd (omega (arith, from, below)) } in
      let second = open_least a.fields (a.bound - a.front) in
      omega (
        arith,
        one_least (whole_at a.fields) (x - a.front) (first_open a.fields (x - a.front)) (a.bound - a.front) first here,
        one_least (whole_at a.fields) (x - a.front) (a.bound - a.front) (first_open a.fields (x - a.front)) here first,
        one_least (whole_at a.fields) (a.bound - a.front) (first_open a.fields (a.bound - a.front)) (a.bound - a.front)
            second stays,
        second.from,
        ap (λ (k : ℕ). first_open a.fields (k - a.front)) most,
      )
  | inr ge ↦ ap (λ (k : ℕ). first_open a.fields (k - a.front)) (omega (arith, ge, m.is))
]

expired_mark : (s : State) (a : FlowArrivals) (x : ℕ) → IsMarkAccounted a x → IsReceiverAccounted s a
    → AreArrivalsAccounted s.window (bound_moved s.window x) None (reorder_expired a)
expired_mark s a x m r = record {
  front = r.front;
  bound_is = ap (λ (k : ℕ). s.window.front + first_incomplete s.window.slots k) place_is
      ∙ omega (arith, r.front, open_is, same);
  top_is = r.top_is;
  front_low = omega (arith, (open_least a.fields (max a.bound a.mark - a.front)).from, r.front_low);
  bound_low = omega (
    arith,
    incomplete-length s.window.slots (x - a.front) (omega (arith, m.low, r.top_is, r.front)),
    open_is,
    same,
    r.top_is,
    r.front,
  );
  top_low = r.top_low;
  top_near = r.top_near;
  front_open = r.front_open;
  bound_open = ap (whole_at a.fields) (omega arith) ∙ (open_least a.fields (max a.bound a.mark - a.front)).refused;
  numbers = r.numbers;
  mark_is = tt;
}
  where
    place_is : x - s.window.front ≡ x - a.front
    place_is = omega (arith, r.front)

    open_is : first_incomplete s.window.slots (x - a.front) ≡ first_open a.fields (x - a.front)
    open_is = open_same s.window.slots a.fields (x - a.front) r.numbers

    same : first_open a.fields (x - a.front) ≡ first_open a.fields (max a.bound a.mark - a.front)
    same = same_bound a x r.front_low r.bound_open m

pub reordering_accounted : ReorderingIsAccounted
reordering_accounted s a r = by s.mark r.mark_is
  where
    by : (o : Option ℕ) → IfSome o (IsMarkAccounted a)
        → IsReceiverAccounted (after_reorder o s) (expired_in (reorder_answer o s) a)
    by None m = r
    by (Some x) m =
        starting s.window (bound_moved s.window x) (reorder_expired a)
        (nat_lt (bound_moved s.window x) (top s.window)) (expired_mark s a x m r)
