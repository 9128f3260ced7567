-- RLC confirms what it was given, on both sides.
use Rattle.std.proofs.Common.{◌≡◌, ◌<◌, ◌≤◌, ℕ, ◌+◌, ◌-◌, ◌==◌, Bool, true, false, not, ◌||◌, ◌&&◌, nat_lt}
use Rattle.std.proofs.Common.{if◌then◌else◌, List, ◌++◌, map, Option, Some, None}
use Rattle.std.proofs.Common.{refl, ap, sym, ◌∙◌, arith, subst, inl, inr}
use Rattle.std.specs.BTreeSet.{insert_key}
use Rattle.std.specs.Ordering.{nat_cmp}
use Rattle.std.proofs.lemmas.Bool.{cases_lt, cases_eq, eq-eqb, ne_eqb, or_right}
use Rattle.l2_num.specs.Ascending.{AreBetween}
use Rattle.pdcp_tx_store.specs.declared.given.Sent.{Sent}
use Rattle.pdcp_tx_store.specs.declared.given.Entry.{Entry}
use Rattle.pdcp_tx_store.specs.declared.given.Entry.TheVariants.{Data, Own, Gone}
use Rattle.pdcp_tx_store.specs.Given.{Given, from_unacked, data_of, acked_at, entry_at, is_own}
use Rattle.pdcp_tx_store.specs.Given.{settled as settled_given}
use Rattle.pdcp_tx.specs.Pdus.{width}
use Rattle.pdcp_tx.specs.State.{State, low, moved, confirmed, kept_again}
use Rattle.journal_takes.specs.TakeEvents.{PduConfirmed, has_count}
use Rattle.journal_takes.specs.FlowTakes.{FlowTakes, takes_with}
use Rattle.journal_takes.proofs.CountSets.{insert_has, or_swap}
use Rattle.law_takes.specs.Accounted.{is_confirmed, is_left_out, unreported, IsInOrder, IsAccounted}
use Rattle.law_takes.specs.Laws.{confirmed_as, ConfirmsAreAccounted, ConfirmedStays}
use Rattle.law_takes.proofs.Numbered.{same-numbered, with-mark, marked, above-is-as, below-is-out}
use Rattle.law_takes.proofs.Kept.{counts, kept-once, unacked-marked, trims-kept, trims-between, data-acked, data-other}
use Rattle.law_takes.proofs.Kept.{below-end, entry-is, map-more, counts-marked}
use Rattle.law_takes.proofs.Settling.{settles, moves, bound-stays, bound-held, moved-bound, low-told}

-- ---- what is confirmed was confirmed, or is the report

within-as : (r r' : Bool) (next begun low' w : ℕ) → (r' ≡ true → r ≡ true) → begun ≤ low'
    → next ≤ (if r then begun else low') + w → next ≤ (if r' then begun else low') + w
within-as true true next begun low' w f le h = h
within-as true false next begun low' w f le h = omega (arith, le, h)
within-as false true next begun low' w f le h = let none : false ≡ true = f refl in absurd cc
within-as false false next begun low' w f le h = h

abbrev given-anew : State → Given → Bool → State
given-anew s g reporting = record s { given = settled_given g; reporting = reporting }

anew-stays : (s : State) (t : FlowTakes) (g : Given) (r r' : Bool) → r ≡ r' → (r' ≡ true → t.reporting ≡ true)
    → data_of g.entries ≡ data_of s.given.entries → IsAccounted s t
    → IsAccounted (moved (given-anew s g r)) (record t { reporting = r' })
anew-stays s t g r r' same f e h =
    let kept : kept_again (given-anew s g r) ≡ unreported t.low t =
    trims-kept g.entries s.again ∙ ap (λ (l : List Sent). from_unacked (l ++ s.again)) e ∙ h.kept in
    record {
      am = h.am;
      width = h.width;
      next = h.next;
      base = h.base;
      bound = moved-bound r r' s.bound t.begun (low (given-anew s g r)) t.low (width s.kind) t.width same
          (λ yes. bound-held s t h (f yes)) (low-told (given-anew s g r) t h.next kept h.account) h.width;
      waiting = h.waiting;
      due = h.due;
      reporting = same;
      again = h.again;
      kept = kept;
      given = trims-between 0 g.entries t.at
          (subst (λ (l : List Sent). AreBetween 0 (counts l) t.at) (sym e) h.given);
      account = record {
        order = record {
          from_low = h.account.order.from_low;
          from_at = h.account.order.from_at;
          begun = h.account.order.begun;
          low = h.account.order.low;
          at = h.account.order.at;
          within = within-as t.reporting r' t.next t.begun t.low t.width f h.account.order.begun
              h.account.order.within;
          sdus = h.account.order.sdus;
          taken = h.account.order.taken;
          reported = h.account.order.reported;
        };
        low_open = h.account.low_open;
        at_open = h.account.at_open;
      };
    }

-- ---- a COUNT is confirmed

abbrev pub with-count : ℕ → FlowTakes → FlowTakes
with-count count t = record t { confirmed = insert_key nat_cmp t.confirmed count }

pub count-confirms : (t : FlowTakes) (count k : ℕ)
    → ((count == k) || is_confirmed t k) ≡ is_confirmed (with-count count t) k
count-confirms t count k =
    or_swap (count == k) (nat_lt k t.low) (has_count t.confirmed k)
    ∙ ap (λ (b : Bool). nat_lt k t.low || b) (sym (insert_has t.confirmed count k))

other-confirms : (t : FlowTakes) (count k : ℕ) → (count ≡ k → is_confirmed t k ≡ true)
    → is_confirmed t k ≡ is_confirmed (with-count count t) k
other-confirms t count k f = elim (cases_eq count k) [
  | inl same ↦
      f same ∙ sym (ap (λ (b : Bool). b || is_confirmed t k) (eq-eqb count k same)) ∙ count-confirms t count k
  | inr other ↦
      sym (ap (λ (b : Bool). b || is_confirmed t k) (ne_eqb count k other)) ∙ count-confirms t count k
]

unreported-confirmed : (t : FlowTakes) (n count : ℕ) → ((k : ℕ) → n ≤ k → count ≡ k → is_confirmed t k ≡ true)
    → unreported n t ≡ unreported n (with-count count t)
unreported-confirmed t n count f =
    same-numbered (is_left_out n t) (is_confirmed t) (is_left_out n t) (is_confirmed (with-count count t)) t.from t.sdus
    (λ k a b. refl)
    (λ k a b e. elim (cases_lt k n) [
      | inl lt ↦
          let none : true ≡ false = sym (below-is-out n k (has_count t.reported) lt) ∙ e in
          absurd cc
      | inr ge ↦ other-confirms t count k (f k ge)
    ])

in-order-confirmed : (t : FlowTakes) (count : ℕ) → count < t.next → IsInOrder t → IsInOrder (with-count count t)
in-order-confirmed t count lt o = record {
  from_low = o.from_low;
  from_at = o.from_at;
  begun = o.begun;
  low = o.low;
  at = o.at;
  within = o.within;
  sdus = o.sdus;
  taken = λ k le.
      insert_has t.confirmed count k
      ∙ ap (λ (b : Bool). b || has_count t.confirmed k) (ne_eqb count k (λ e. absurd (omega (arith, e, lt, le))))
      ∙ o.taken k le;
  reported = λ k le e.
      insert_has t.confirmed count k ∙ or_right (count == k) (has_count t.confirmed k) (o.reported k le e);
}

-- a place has been acknowledged
abbrev entries-with : State → ℕ → Option Entry → Given
entries-with s place o = record {
  gone = s.given.gone;
  entries = acked_at o s.given.entries (place - s.given.gone);
}

and-true : (b : Bool) → (b && true) ≡ b
and-true true = refl
and-true false = refl

and-false : (b : Bool) → (b && false) ≡ false
and-false true = refl
and-false false = refl

again-unmarked : (s : State) (t : FlowTakes) (count : ℕ) → count < t.at → IsAccounted s t
    → map (marked count) s.again ≡ s.again
again-unmarked s t count lt h =
    ap (map (marked count)) h.again ∙ with-mark (is_left_out t.at t) (is_confirmed t) count t.from t.sdus
    ∙ same-numbered (is_left_out t.at t) (λ k. (count == k) || is_confirmed t k) (is_left_out t.at t)
    (is_confirmed (with-count count t)) t.from t.sdus (λ k a b. refl) (λ k a b e. count-confirms t count k)
    ∙ sym (unreported-confirmed t t.at count (λ k le e. absurd (omega (arith, lt, le, e)))) ∙ sym h.again

confirms-data : (s : State) (t : FlowTakes) (place : ℕ) (x : Sent) → entry_at s.given place ≡ Some (Data x)
    → IsAccounted s t
    → IsAccounted (moved (given-anew s (entries-with s place (Some (Data x))) (s.reporting && true)))
    (takes_with (PduConfirmed x.count) t)
confirms-data s t place x e h =
    let at' = entry-is s.given place (Data x) e in
    let below : x.count < t.at = below-end s.given.entries (place - s.given.gone) x t.at at' h.given in
    let marks : data_of (entries-with s place (Some (Data x))).entries
    ≡ map (marked x.count) (data_of s.given.entries) =
    data-acked 0 s.given.entries (place - s.given.gone) x t.at at' h.given in
    let again : map (marked x.count) s.again ≡ s.again = again-unmarked s t x.count below h in
    moves (given-anew s (entries-with s place (Some (Data x))) (s.reporting && true)) (with-count x.count t)
    (record {
      am = h.am;
      width = h.width;
      next = h.next;
      base = h.base;
      waiting = h.waiting;
      due = h.due;
      reporting = and-true s.reporting ∙ h.reporting;
      again = h.again
          ∙ unreported-confirmed t t.at x.count (λ k le e. absurd (omega (arith, below, le, e)));
      kept = trims-kept (entries-with s place (Some (Data x))).entries s.again
          ∙ ap (λ (l : List Sent). from_unacked (l ++ s.again)) marks
          ∙ ap (λ (l : List Sent). from_unacked (map (marked x.count) (data_of s.given.entries) ++ l)) (sym again)
          ∙ ap from_unacked (sym (map-more x.count (data_of s.given.entries) s.again))
          ∙ unacked-marked x.count (data_of s.given.entries ++ s.again)
          ∙ ap (λ (l : List Sent). from_unacked (map (marked x.count) l)) h.kept
          ∙ ap from_unacked (with-mark (is_left_out t.low t) (is_confirmed t) x.count t.from t.sdus
          ∙ same-numbered (is_left_out t.low t) (λ k. (x.count == k) || is_confirmed t k) (is_left_out t.low t)
          (is_confirmed (with-count x.count t)) t.from t.sdus (λ k a b. refl)
          (λ k a b e. count-confirms t x.count k));
      given = trims-between 0 (entries-with s place (Some (Data x))).entries t.at
          (subst (λ (l : List Sent). AreBetween 0 (counts l) t.at) (sym marks)
          (subst (λ (l : List ℕ). AreBetween 0 l t.at) (sym (counts-marked x.count (data_of s.given.entries)))
          h.given));
      order = in-order-confirmed t x.count (omega (arith, below, h.account.order.at)) h.account.order;
    })
    (bound-held s t h)

-- ---- whatever stands there

by-entry : (s : State) (t : FlowTakes) (place : ℕ) (o : Option Entry) → entry_at s.given place ≡ o → IsAccounted s t
    → IsAccounted (moved (given-anew s (entries-with s place o) (s.reporting && not (is_own o)))) (confirmed_as o t)
by-entry s t place None e h =
    anew-stays s t (entries-with s place None) (s.reporting && true) t.reporting (and-true s.reporting ∙ h.reporting)
    (λ yes. yes) refl h
by-entry s t place (Some (Data x)) e h = confirms-data s t place x e h
by-entry s t place (Some Own) e h =
    anew-stays s t (entries-with s place (Some Own)) (s.reporting && false) false (and-false s.reporting)
    (λ yes. absurd cc)
    (data-other s.given.entries (place - s.given.gone) Own (entry-is s.given place Own e) refl) h
by-entry s t place (Some Gone) e h =
    anew-stays s t (entries-with s place (Some Gone)) (s.reporting && true) t.reporting
    (and-true s.reporting ∙ h.reporting) (λ yes. yes)
    (data-other s.given.entries (place - s.given.gone) Gone (entry-is s.given place Gone e) refl) h

pub confirms_are_accounted : ConfirmsAreAccounted
unfolding confirmed
confirms_are_accounted s t place h = by-entry s t place (entry_at s.given place) refl h

-- ---- once more

confirms-again : (s : State) (t : FlowTakes) (count : ℕ) → count < t.next → is_confirmed t count ≡ true
    → IsAccounted s t → IsAccounted s (takes_with (PduConfirmed count) t)
confirms-again s t count lt is h =
    let same : (k : ℕ) → count ≡ k → is_confirmed t k ≡ true = λ k e. sym (ap (is_confirmed t) e) ∙ is in
    let low-open : is_confirmed t t.low ≡ false =
    above-is-as t.low t.low (has_count t.confirmed) (omega arith) ∙ h.account.low_open in
    let other : count ≡ t.low → ⊥ =
    λ e. let none : true ≡ false = sym (same t.low e) ∙ low-open in absurd cc in
    settles s (with-count count t)
    (record {
      am = h.am;
      width = h.width;
      next = h.next;
      base = h.base;
      waiting = h.waiting;
      due = h.due;
      reporting = h.reporting;
      again = h.again ∙ unreported-confirmed t t.at count (λ k le e. same k e);
      kept = kept-once (data_of s.given.entries ++ s.again) (unreported t.low (with-count count t))
          (h.kept ∙ unreported-confirmed t t.low count (λ k le e. same k e));
      given = h.given;
      order = in-order-confirmed t count lt h.account.order;
    })
    (h.bound ∙ sym (bound-stays (with-count count t) (insert_has t.confirmed count t.low
    ∙ ap (λ (b : Bool). b || has_count t.confirmed t.low) (ne_eqb count t.low other) ∙ h.account.low_open)))

pub confirmed_stays : ConfirmedStays
confirmed_stays s t h = record {
  pdus = λ count lt is. confirms-again s t count lt is h;
  report = λ none. subst (λ (b : Bool). IsAccounted s (record t { reporting = b })) none h;
}
