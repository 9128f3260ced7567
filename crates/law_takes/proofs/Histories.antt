-- A sender and the history that is told of it, deed by deed.
use Rattle.std.proofs.Common.{◌≡◌, ◌<◌, ◌≤◌, ℕ, ◌-◌, ◌==◌, Bool, true, false, ◌&&◌, nat_lt, if◌then◌else◌}
use Rattle.std.proofs.Common.{List, [], ◌∷◌, ◌++◌, map, take, min, max, Option, Some, None, option_map}
use Rattle.std.proofs.Common.{slice_get, refl, ap, sym, ◌∙◌, arith, subst, inl, inr}
use Rattle.std.specs.Prelude.{option_to_list}
use Rattle.std.proofs.lemmas.Bool.{cases_lt, eq-eqb, eqb-true, eqb-false, lt-ltb, or_left, or_right}
use Rattle.std.proofs.lemmas.List.{append-nil}
use Rattle.pdcp_tx_store.specs.declared.given.Entry.TheVariants.{Data, Own}
use Rattle.pdcp_tx_store.specs.Given.{with_entry, tells}
use Rattle.pdcp_tx.specs.State.{State, Offer, offers, owed_offers, again_offer, new_offers, took}
use Rattle.pdcp_tx.specs.State.{took_new, is_overdue, after_late}
use Rattle.journal_takes.specs.declared.take.Take.{Take}
use Rattle.journal_takes.specs.declared.take.Take.TheVariants.{Report, Pdu}
use Rattle.journal_takes.specs.TakeEvents.{SduDiscarded, PduTaken, ReportTaken, PduConfirmed}
use Rattle.journal_takes.specs.TakeEvents.{ReportHeard, has_count}
use Rattle.journal_takes.specs.Takeable.{IsTakeable, AreTakes}
use Rattle.journal_takes.specs.FlowTakes.{FlowTakes, takes_of, takes_with, next_take, taken_as, settled, reported_by}
use Rattle.journal_takes.proofs.TakesTold.{takes_are_true}
use Rattle.journal_takes.proofs.CountSets.{marks_have}
use Rattle.law_takes.specs.Accounted.{is_confirmed, IsAccounted}
use Rattle.law_takes.specs.Laws.{taken_by, discarded_if}
use Rattle.law_takes.specs.Histories.{AreGiven}
use Rattle.law_takes.specs.Histories.{Takes, Run, taking_of, taking, behind}
use Rattle.law_takes.specs.Histories.{IsTold}
use Rattle.law_takes.proofs.Numbered.{one, below-is-out, above-is-as}
use Rattle.law_takes.proofs.Settling.{confirmed-same}
use Rattle.law_takes.proofs.Waiting.{discards_are_accounted}
use Rattle.law_takes.proofs.Turns.{Turn, Reports, Again, New, Rests, offers-as}
use Rattle.law_takes.proofs.Taking.{new-sent, new-state, took-owed, took-again, takes_are_accounted}
use Rattle.law_takes.proofs.Confirming.{with-count, count-confirms}
use Rattle.law_takes.proofs.Reporting.{Marks}
use Rattle.law_takes.proofs.Given.{Grows, are-given-on, one-given, settled-given}

-- ---- what is confirmed stays so

grows-settled : (t t' : FlowTakes) → t.next ≤ t'.next
    → ((k : ℕ) → is_confirmed t k ≡ true → is_confirmed t' k ≡ true)
    → (t.reporting ≡ false → t'.reporting ≡ false) → Grows t (settled t')
grows-settled t t' n c r = record {
  next = n;
  confirmed = λ k e. sym (confirmed-same t' k) ∙ c k e;
  reporting = r;
}

grows-taken : (t : FlowTakes) (b : Bool) (count : ℕ) → (count == t.next) ≡ b → Grows t (settled (taken_as b count t))
grows-taken t true count e =
    grows-settled t (taken_as true count t) (let same : count ≡ t.next = eqb-true count t.next e in omega (arith, same))
    (λ k c. c) (λ r. r)
grows-taken t false count e = grows-settled t (taken_as false count t) (omega arith) (λ k c. c) (λ r. r)

pub grows-confirmed : (t : FlowTakes) (count : ℕ) → Grows t (takes_with (PduConfirmed count) t)
grows-confirmed t count =
    grows-settled t (with-count count t) (omega arith)
    (λ k e. sym (count-confirms t count k) ∙ or_right (count == k) (is_confirmed t k) e) (λ r. r)

pub now-confirmed : (t : FlowTakes) (count : ℕ) → is_confirmed (takes_with (PduConfirmed count) t) count ≡ true
now-confirmed t count =
    sym (confirmed-same (with-count count t) count) ∙ sym (count-confirms t count count)
    ∙ or_left (count == count) (is_confirmed t count) (eq-eqb count count refl)

-- COUNTs from the new U on
confirmed-by : (t : FlowTakes) (from : ℕ) (marks : List ℕ) (k : ℕ)
    → (max t.low (min from t.next) ≤ k → has_count (reported_by from marks t).confirmed k ≡ true)
    → is_confirmed (reported_by from marks t) k ≡ true
confirmed-by t from marks k f = elim (cases_lt k (max t.low (min from t.next))) [
  | inl lt ↦ below-is-out (max t.low (min from t.next)) k (has_count (reported_by from marks t).confirmed) lt
  | inr ge ↦
      above-is-as (max t.low (min from t.next)) k (has_count (reported_by from marks t).confirmed) ge ∙ f ge
]

still-confirmed : (t : FlowTakes) (from : ℕ) (marks : List ℕ) (k : ℕ) → is_confirmed t k ≡ true
    → is_confirmed (reported_by from marks t) k ≡ true
still-confirmed t from marks k e =
    confirmed-by t from marks k
    (λ le. marks_have t.next k marks t.confirmed
    ∙ or_right (nat_lt k t.next && has_count marks k) (has_count t.confirmed k)
    (sym (above-is-as t.low k (has_count t.confirmed) (omega (arith, le))) ∙ e))

pub grows-heard : (t : FlowTakes) (from : ℕ) (marks : List ℕ) → Grows t (takes_with (ReportHeard from marks) t)
grows-heard t from marks =
    grows-settled t (reported_by from marks t) (omega arith) (still-confirmed t from marks) (λ r. r)

pub told-confirmed : (t : FlowTakes) (from : ℕ) (marks bitmap : List ℕ) → Marks from marks bitmap t.next → (k : ℕ)
    → k < t.next → tells from bitmap k ≡ true → is_confirmed (takes_with (ReportHeard from marks) t) k ≡ true
told-confirmed t from marks bitmap m k lt e =
    sym (confirmed-same (reported_by from marks t) k)
    ∙ confirmed-by t from marks k
    (λ le. marks_have t.next k marks t.confirmed
    ∙ or_left (nat_lt k t.next && has_count marks k) (has_count t.confirmed k)
    (ap (λ (b : Bool). b && has_count marks k) (lt-ltb k t.next lt) ∙ m k (omega (arith, le, lt)) lt ∙ e))

-- ---- deeds that tell nothing of COUNTs

abbrev pub account : ℕ → ℕ → Run → FlowTakes
account first bits r = takes_of first bits r.events

pub waits-told : (first bits : ℕ) (r : Run) (late : Bool) → is_overdue r.sender ≡ late → IsTold first bits r
    → IsTold first bits (record {
      sender = after_late r.sender;
      given = r.given;
      events = option_to_list (if late then Some SduDiscarded else None) ++ r.events;
    })
unfolding after_late
waits-told first bits r true e h =
    let w = discards_are_accounted r.sender (account first bits r) h.accounted in
    record {
      history = (tt, h.history);
      accounted = subst (λ (b : Bool). IsAccounted (after_late r.sender) (discarded_if b (account first bits r))) e
          w.discards;
      given = are-given-on (account first bits r) (takes_with SduDiscarded (account first bits r)) r.sender.given
          r.given (record { next = omega arith; confirmed = λ k c. c; reporting = λ c. c }) h.given;
    }
waits-told first bits r false e h =
    let w = discards_are_accounted r.sender (account first bits r) h.accounted in
    record {
      history = h.history;
      accounted = subst (λ (b : Bool). IsAccounted (after_late r.sender) (discarded_if b (account first bits r))) e
          w.discards;
      given = h.given;
    }

-- ---- RLC takes what is next

taking-as : (s : State) (all : List Offer) → offers s ≡ all
    → taking_of s ≡ option_map (λ (o : Offer). o.count) (slice_get all 0)
taking-as s all e = ap (λ l. option_map (λ (o : Offer). o.count) (slice_get l 0)) e

-- what is taken, and the sender behind it
takes-told : (first bits : ℕ) (r : Run) (o : Option (Option ℕ)) (next : Option Take) → taking_of r.sender ≡ o
    → next_take (account first bits r) ≡ next
    → takes_of first bits (option_to_list (option_map taking o) ++ r.events) ≡ taken_by next (account first bits r)
    → AreTakes first bits (option_to_list (option_map taking o) ++ r.events)
    → AreGiven (taken_by next (account first bits r)) (took r.sender).given (r.given ++ option_to_list o)
    → IsTold first bits r → IsTold first bits (behind r Takes)
takes-told first bits r o next is n same a g h =
    subst (λ (p : Option (Option ℕ)). IsTold first bits (record {
      sender = took r.sender;
      given = r.given ++ option_to_list p;
      events = option_to_list (option_map taking p) ++ r.events;
    })) (sym is)
    (record {
      history = a;
      accounted = subst (λ (u : FlowTakes). IsAccounted (took r.sender) u) (sym same)
          (subst (λ (p : Option Take). IsAccounted (took r.sender) (taken_by p (account first bits r))) n
          (takes_are_accounted r.sender (account first bits r) h.accounted));
      given = subst (λ (u : FlowTakes). AreGiven u (took r.sender).given (r.given ++ option_to_list o)) (sym same) g;
    })

takeable : (first bits : ℕ) (r : Run) (next : Option Take) → next_take (account first bits r) ≡ next
    → IsTold first bits r → IsTakeable first bits r.events next
takeable first bits r next e h =
    let told = takes_are_true first bits r.events h.history in
    subst (λ (p : Option Take). IsTakeable first bits r.events p) e told.takes

-- a COUNT that is taken lies below the next new one
taken-below : (t : FlowTakes) (count : ℕ) (b : Bool) → (count == t.next) ≡ b → count ≤ t.next
    → count < (taken_as b count t).next
taken-below t count true e le = omega arith
taken-below t count false e le = omega (arith, le, eqb-false count t.next e)

pub by-turn : (first bits : ℕ) (r : Run) → IsTold first bits r → Turn r.sender (account first bits r)
    → IsTold first bits (behind r Takes)
by-turn first bits r h (Reports n) =
    takes-told first bits r (Some None) (Some Report)
    (taking-as r.sender
    (owed_offers (Some n.report) ++ map again_offer r.sender.again
    ++ new_offers r.sender.next (take (r.sender.bound - r.sender.next) r.sender.waiting))
    (offers-as r.sender (Some n.report) r.sender.again (take (r.sender.bound - r.sender.next) r.sender.waiting) n.owed
    refl refl))
    n.next refl (takeable first bits r (Some Report) n.next h, h.history)
    (subst (λ (u : State). AreGiven (takes_with ReportTaken (account first bits r)) u.given (r.given ++ None ∷ []))
    (sym (took-owed r.sender (Some n.report) n.owed))
    (one-given (takes_with ReportTaken (account first bits r)) r.sender.given r.given Own None
    (are-given-on (account first bits r) (takes_with ReportTaken (account first bits r)) r.sender.given r.given
    (record { next = omega arith; confirmed = λ k c. c; reporting = λ c. c }) h.given) tt)) h
by-turn first bits r h (Again n) =
    let g = grows-taken (account first bits r) ((account first bits r).at == (account first bits r).next)
    (account first bits r).at refl in
    takes-told first bits r (Some (Some (account first bits r).at)) (Some (Pdu (account first bits r).at))
    (taking-as r.sender
    (owed_offers None ++ map again_offer (one (is_confirmed (account first bits r)) (account first bits r).at n.sdu
    ∷ n.rest) ++ new_offers r.sender.next (take (r.sender.bound - r.sender.next) r.sender.waiting))
    (offers-as r.sender None (one (is_confirmed (account first bits r)) (account first bits r).at n.sdu ∷ n.rest)
    (take (r.sender.bound - r.sender.next) r.sender.waiting) n.owed n.again refl))
    n.next refl (takeable first bits r (Some (Pdu (account first bits r).at)) n.next h, h.history)
    (subst (λ (u : State). AreGiven (takes_with (PduTaken (account first bits r).at) (account first bits r)) u.given
    (r.given ++ Some (account first bits r).at ∷ []))
    (sym (took-again r.sender (one (is_confirmed (account first bits r)) (account first bits r).at n.sdu ∷ n.rest)
    n.owed n.again))
    (settled-given (takes_with (PduTaken (account first bits r).at) (account first bits r))
    (with_entry r.sender.given (Data (one (is_confirmed (account first bits r)) (account first bits r).at n.sdu)))
    (r.given ++ Some (account first bits r).at ∷ [])
    (one-given (takes_with (PduTaken (account first bits r).at) (account first bits r)) r.sender.given r.given
    (Data (one (is_confirmed (account first bits r)) (account first bits r).at n.sdu))
    (Some (account first bits r).at)
    (are-given-on (account first bits r) (takes_with (PduTaken (account first bits r).at) (account first bits r))
    r.sender.given r.given g h.given)
    (record {
      same = refl;
      taken = omega (arith, n.below, g.next);
      acked = λ e. g.confirmed (account first bits r).at e;
    })))) h
by-turn first bits r h (New n) =
    let g = grows-taken (account first bits r) ((account first bits r).at == (account first bits r).next)
    (account first bits r).at refl in
    let is : r.sender.next ≡ (account first bits r).at = h.accounted.next ∙ sym n.at in
    takes-told first bits r (Some (Some (account first bits r).at)) (Some (Pdu (account first bits r).at))
    (taking-as r.sender
    (owed_offers None ++ map again_offer []
    ++ new_offers r.sender.next (n.first ∷ take (r.sender.bound - r.sender.next - 1) n.rest))
    (offers-as r.sender None [] (n.first ∷ take (r.sender.bound - r.sender.next - 1) n.rest) n.owed n.again n.some)
    ∙ ap (λ (k : ℕ). Some (Some k)) is)
    n.next refl (takeable first bits r (Some (Pdu (account first bits r).at)) n.next h, h.history)
    (subst (λ (u : State). AreGiven (takes_with (PduTaken (account first bits r).at) (account first bits r)) u.given
    (r.given ++ Some (account first bits r).at ∷ []))
    (sym (took-again r.sender [] n.owed n.again ∙ ap (λ l. took_new l r.sender) n.some))
    (subst (λ (b : Bool). AreGiven (takes_with (PduTaken (account first bits r).at) (account first bits r))
    (new-state r.sender n.first b).given (r.given ++ Some (account first bits r).at ∷ [])) (sym h.accounted.am)
    (one-given (takes_with (PduTaken (account first bits r).at) (account first bits r)) r.sender.given r.given
    (Data (new-sent r.sender n.first)) (Some (account first bits r).at)
    (are-given-on (account first bits r) (takes_with (PduTaken (account first bits r).at) (account first bits r))
    r.sender.given r.given g h.given)
    (record {
      same = is;
      taken = taken-below (account first bits r) (account first bits r).at
          ((account first bits r).at == (account first bits r).next) refl (omega (arith, n.at));
      acked = λ e. absurd cc;
    })))) h
by-turn first bits r h (Rests n) =
    takes-told first bits r None None
    (taking-as r.sender (owed_offers None ++ map again_offer [] ++ new_offers r.sender.next [])
    (offers-as r.sender None [] [] n.owed n.again n.none))
    n.next refl h.history
    (subst (λ (u : State). AreGiven (account first bits r) u.given (r.given ++ []))
    (sym (took-again r.sender [] n.owed n.again ∙ ap (λ l. took_new l r.sender) n.none))
    (subst (λ l. AreGiven (account first bits r) r.sender.given l) (sym (append-nil r.given)) h.given)) h
