-- RLC takes what is next, on both sides.
use Rattle.std.proofs.Common.{◌≡◌, ℕ, ◌+◌, Bool, true, false, if◌then◌else◌, List, [], ◌∷◌}
use Rattle.std.proofs.Common.{◌++◌, length, map, take, drop, Option, Some, None, refl, ap, sym, ◌∙◌, arith, subst}
use Rattle.std.proofs.Common.{length-append}
use Rattle.std.proofs.lemmas.Bool.{eq-eqb, ne_eqb}
use Rattle.std.proofs.lemmas.List.{append-nil}
use Rattle.l2_num.specs.Ascending.{AreBetween}
use Rattle.pdcp_pdu.specs.Kinds.{is_am}
use Rattle.pdcp_tx_store.specs.declared.given.Sent.{Sent}
use Rattle.pdcp_tx_store.specs.declared.given.Entry.TheVariants.{Data, Own}
use Rattle.pdcp_tx_store.specs.Given.{from_unacked, data_of, with_entry}
use Rattle.pdcp_tx_store.specs.Waiting.{Waits}
use Rattle.pdcp_tx.specs.State.{State, took, took_owed, took_again, took_new, sent}
use Rattle.journal_takes.specs.declared.take.Take.{Take}
use Rattle.journal_takes.specs.declared.take.Take.TheVariants.{Report, Pdu}
use Rattle.journal_takes.specs.TakeEvents.{PduTaken, ReportTaken, has_count}
use Rattle.journal_takes.specs.FlowTakes.{FlowTakes, settled, taken_as, takes_with, next_take}
use Rattle.law_takes.specs.Accounted.{is_confirmed, numbered, is_left_out, unreported, IsInOrder, IsAccounted}
use Rattle.law_takes.specs.Laws.{taken_by, TakesAreAccounted}
use Rattle.law_takes.proofs.Numbered.{one, one-behind, first-of, above-is-as}
use Rattle.law_takes.proofs.Kept.{counts, unacked-behind, data-more, data-again, data-own, trims-kept}
use Rattle.law_takes.proofs.Kept.{trims-between, grows, kept-once}
use Rattle.law_takes.proofs.Settling.{settles, none-reported, none-at, bound-stays}
use Rattle.law_takes.proofs.Waiting.{settled_as, one-less}
use Rattle.law_takes.proofs.Turns.{HasAgain, HasNew, Turn, Reports, Again, New, Rests, turn}

-- ---- the status report

takes-report : (s : State) (t : FlowTakes) → IsAccounted s t
    → IsAccounted (record s { owed = None; given = with_entry s.given Own }) (takes_with ReportTaken t)
takes-report s t h = record {
  am = h.am;
  width = h.width;
  next = h.next;
  base = h.base;
  bound = h.bound;
  waiting = h.waiting;
  due = refl;
  reporting = h.reporting;
  again = h.again;
  kept = ap (λ (l : List Sent). from_unacked (l ++ s.again)) (data-own s.given.entries) ∙ h.kept;
  given = subst (λ (l : List Sent). AreBetween 0 (counts l) t.at) (sym (data-own s.given.entries)) h.given;
  account = settled_as t t.waiting false h.account;
}

-- ---- an SDU again

takes-again : (s : State) (t : FlowTakes) (h : IsAccounted s t) (r : HasAgain s t)
    → IsAccounted (took_again (one (is_confirmed t) t.at r.sdu ∷ r.rest) s) (takes_with (PduTaken t.at) t)
takes-again s t h r =
    subst (λ (b : Bool). IsAccounted (took_again (one (is_confirmed t) t.at r.sdu ∷ r.rest) s)
    (settled (taken_as b t.at t))) (sym (ne_eqb t.at t.next (λ e. absurd (omega (arith, e, r.below)))))
    (settles (took_again (one (is_confirmed t) t.at r.sdu ∷ r.rest) s) (taken_as false t.at t)
    (record {
      am = h.am;
      width = h.width;
      next = h.next;
      base = h.base;
      waiting = h.waiting;
      due = h.due;
      reporting = h.reporting;
      again = r.rest_is;
      kept = trims-kept (s.given.entries ++ Data (one (is_confirmed t) t.at r.sdu) ∷ []) r.rest
          ∙ ap from_unacked (data-again s.given.entries (one (is_confirmed t) t.at r.sdu) r.rest)
          ∙ ap (λ (l : List Sent). from_unacked (data_of s.given.entries ++ l)) (sym r.again)
          ∙ kept-once (data_of s.given.entries ++ s.again) (unreported t.low t) h.kept;
      given = trims-between 0 (s.given.entries ++ Data (one (is_confirmed t) t.at r.sdu) ∷ []) (t.at + 1)
          (subst (λ (l : List Sent). AreBetween 0 (counts l) (t.at + 1))
          (sym (data-more s.given.entries (Data (one (is_confirmed t) t.at r.sdu) ∷ [])))
          (grows 0 (data_of s.given.entries) (one (is_confirmed t) t.at r.sdu) t.at refl h.given));
      order = record {
        from_low = h.account.order.from_low;
        from_at = omega (arith, h.account.order.from_at);
        begun = h.account.order.begun;
        low = h.account.order.low;
        at = omega (arith, r.below);
        within = h.account.order.within;
        sdus = h.account.order.sdus;
        taken = h.account.order.taken;
        reported = h.account.order.reported;
      };
    })
    (h.bound ∙ sym (bound-stays (taken_as false t.at t) h.account.low_open)))

-- ---- a new SDU

-- as it is given to RLC, and as the account has it
abbrev pub new-sent : State → Waits → Sent
new-sent s w = sent s.next w.sdu false

first-waits : (s : State) (t : FlowTakes) (h : IsAccounted s t) (r : HasNew s t) → take 1 t.waiting ≡ r.first.sdu ∷ []
first-waits s t h r =
    ap (take 1) (sym h.waiting ∙ ap (λ (l : List Waits). map (λ w. w.sdu) l) r.waiting)

unreported-more : (s : State) (t : FlowTakes) (h : IsAccounted s t) (r : HasNew s t)
    → unreported t.low (taken_as true t.at t) ≡ unreported t.low t ++ new-sent s r.first ∷ []
unreported-more s t h r =
    ap (λ (l : List (List ℕ)). numbered (is_left_out t.low t) (is_confirmed t) t.from (t.sdus ++ l))
    (first-waits s t h r)
    ∙ one-behind (is_left_out t.low t) (is_confirmed t) t.from t.sdus r.first.sdu t.next h.account.order.sdus
    ∙ ap (λ (l : List Sent). unreported t.low t ++ l)
    (first-of (is_left_out t.low t) (is_confirmed t) t.next r.first.sdu [] false
    (above-is-as t.low t.next (has_count t.reported) h.account.order.low
    ∙ none-reported t t.next h.account.order h.account.order.low unconfirmed)
    ∙ ap (λ (b : Bool). record { count = t.next; octets = r.first.sdu; acked = b } ∷ [])
    (above-is-as t.low t.next (has_count t.confirmed) h.account.order.low ∙ unconfirmed)
    ∙ ap (λ (n : ℕ). sent n r.first.sdu false ∷ []) (sym h.next))
  where
    unconfirmed : has_count t.confirmed t.next ≡ false
    unconfirmed = h.account.order.taken t.next (omega arith)

data-new : (s : State) (t : FlowTakes) (h : IsAccounted s t) (r : HasNew s t)
    → from_unacked (data_of (s.given.entries ++ Data (new-sent s r.first) ∷ []) ++ s.again)
    ≡ unreported t.low (taken_as true t.at t)
data-new s t h r =
    ap (λ (l : List Sent). from_unacked (data_of (s.given.entries ++ Data (new-sent s r.first) ∷ []) ++ l)) r.again
    ∙ ap from_unacked (append-nil (data_of (s.given.entries ++ Data (new-sent s r.first) ∷ []))
    ∙ data-more s.given.entries (Data (new-sent s r.first) ∷ []))
    ∙ unacked-behind (data_of s.given.entries) (new-sent s r.first) refl
    ∙ ap (λ (l : List Sent). l ++ new-sent s r.first ∷ [])
    (ap from_unacked (sym (ap (λ (l : List Sent). data_of s.given.entries ++ l) r.again
    ∙ append-nil (data_of s.given.entries))) ∙ h.kept)
    ∙ sym (unreported-more s t h r)

-- only acknowledged data is kept
abbrev pub new-state : State → Waits → Bool → State
new-state s w am = record s {
  waiting = drop 1 s.waiting;
  next = s.next + 1;
  given = if am then with_entry s.given (Data (new-sent s w)) else s.given;
}

in-order-new : (s : State) (t : FlowTakes) (h : IsAccounted s t) (r : HasNew s t) → IsInOrder (taken_as true t.at t)
in-order-new s t h r =
    let one' : length (take 1 t.waiting) ≡ 1 = ap length (first-waits s t h r) in
    record {
      from_low = h.account.order.from_low;
      from_at = omega (arith, h.account.order.from_at);
      begun = h.account.order.begun;
      low = omega (arith, h.account.order.low, r.at);
      at = omega arith;
      within = omega (arith, r.bound, r.at);
      sdus = omega (arith, length-append t.sdus (take 1 t.waiting), one', h.account.order.sdus, r.at);
      taken = λ k le. h.account.order.taken k (omega (arith, le, r.at));
      reported = h.account.order.reported;
    }

takes-new : (s : State) (t : FlowTakes) (h : IsAccounted s t) (r : HasNew s t)
    → IsAccounted (new-state s r.first true) (takes_with (PduTaken t.at) t)
takes-new s t h r =
    let is : s.next ≡ t.at = h.next ∙ sym r.at in
    subst (λ (b : Bool). IsAccounted (new-state s r.first true) (settled (taken_as b t.at t)))
    (sym (eq-eqb t.at t.next r.at))
    (settles (new-state s r.first true) (taken_as true t.at t)
    (record {
      am = h.am;
      width = h.width;
      next = omega (arith, is);
      base = h.base;
      waiting = one-less s.waiting ∙ ap (drop 1) h.waiting;
      due = h.due;
      reporting = h.reporting;
      again = r.again ∙ sym (none-at (taken_as true t.at t) (t.at + 1) (in-order-new s t h r) (omega arith));
      kept = kept-once (data_of (s.given.entries ++ Data (new-sent s r.first) ∷ []) ++ s.again)
          (unreported t.low (taken_as true t.at t)) (data-new s t h r);
      given = subst (λ (l : List Sent). AreBetween 0 (counts l) (t.at + 1))
          (sym (data-more s.given.entries (Data (new-sent s r.first) ∷ [])))
          (grows 0 (data_of s.given.entries) (new-sent s r.first) t.at is h.given);
      order = in-order-new s t h r;
    })
    (h.bound ∙ sym (bound-stays (taken_as true t.at t) h.account.low_open)))

-- ---- whichever it is

took-as : (s s' : State) (t : FlowTakes) (next : Option Take) → took s ≡ s' → next_take t ≡ next
    → IsAccounted s' (taken_by next t) → IsAccounted (took s) (taken_by (next_take t) t)
took-as s s' t next e n h =
    subst (λ o. IsAccounted (took s) (taken_by o t)) (sym n)
    (subst (λ u. IsAccounted u (taken_by next t)) (sym e) h)

pub took-owed : (s : State) (o : Option (List ℕ)) → s.owed ≡ o → took s ≡ took_owed o s
unfolding took
took-owed s o e = ap (λ l. took_owed l s) e

pub took-again : (s : State) (ss : List Sent) → s.owed ≡ None → s.again ≡ ss → took s ≡ took_again ss s
took-again s ss o a = took-owed s None o ∙ ap (λ l. took_again l s) a

by-turn : (s : State) (t : FlowTakes) → IsAccounted s t → Turn s t
    → IsAccounted (took s) (taken_by (next_take t) t)
by-turn s t h (Reports r) =
    took-as s (took_owed (Some r.report) s) t (Some Report) (took-owed s (Some r.report) r.owed) r.next
    (takes-report s t h)
by-turn s t h (Again r) =
    took-as s (took_again (one (is_confirmed t) t.at r.sdu ∷ r.rest) s) t (Some (Pdu t.at))
    (took-again s (one (is_confirmed t) t.at r.sdu ∷ r.rest) r.owed r.again) r.next (takes-again s t h r)
by-turn s t h (New r) =
    took-as s (new-state s r.first (is_am s.kind)) t (Some (Pdu t.at))
    (took-again s [] r.owed r.again ∙ ap (λ l. took_new l s) r.some) r.next
    (subst (λ (b : Bool). IsAccounted (new-state s r.first b) (takes_with (PduTaken t.at) t)) (sym h.am)
    (takes-new s t h r))
by-turn s t h (Rests r) =
    took-as s s t None (took-again s [] r.owed r.again ∙ ap (λ l. took_new l s) r.none) r.next h

pub takes_are_accounted : TakesAreAccounted
takes_are_accounted s t h = by-turn s t h (turn s t h)
