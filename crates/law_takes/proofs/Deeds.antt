-- A sender and the history that is told of it, whatever happens.
use Rattle.std.proofs.Common.{◌≡◌, ◌<◌, ℕ, ◌-◌, List, [], ◌∷◌, ◌++◌, Option}
use Rattle.std.proofs.Common.{Some, None, option_map, is_some, slice_get, refl, ap, sym, ◌∙◌, arith, subst}
use Rattle.std.specs.Prelude.{option_to_list}
use Rattle.l2_num.specs.Least.{IsLeast}
use Rattle.eps_sec.specs.declared.keys.Keys.{Keys}
use Rattle.pdcp_sec.specs.Protection.{Protection}
use Rattle.pdcp_tx_store.specs.declared.given.Entry.{Entry}
use Rattle.pdcp_tx_store.specs.declared.given.Entry.TheVariants.{Data, Own, Gone}
use Rattle.pdcp_tx_store.specs.Given.{with_report, acked, acked_at, entry_at, settled as settled_given}
use Rattle.pdcp_tx.specs.State.{State, start, submitted, confirmed, reported, reported_from, is_overdue, restarted}
use Rattle.journal_takes.specs.TakeEvents.{PduConfirmed, ReportConfirmed, ReportHeard, LifeEnded, SduSubmitted}
use Rattle.journal_takes.specs.TakeEvents.{is_confirmed as is_confirmed_by}
use Rattle.journal_takes.specs.FlowTakes.{FlowTakes, takes_with, next_take}
use Rattle.journal_takes.proofs.TakesTold.{takes_are_true}
use Rattle.law_takes.specs.Accounted.{is_confirmed, IsAccounted}
use Rattle.law_takes.specs.Laws.{confirmed_as, IsReport}
use Rattle.law_takes.specs.Histories.{IsGiven, AreGiven, Deed, Submits, Ticks, SetsDiscard, Discards, Takes, Confirms}
use Rattle.law_takes.specs.Histories.{Hears, Restarts, Run, owing_report, confirming, behind, behind_all}
use Rattle.law_takes.specs.Histories.{ArePossible, outset, IsTold, DeedsAreTold, RunsAreTold, SendersGoByHistory}
use Rattle.law_takes.proofs.Kept.{entry-is}
use Rattle.law_takes.proofs.Waiting.{senders_begin, submits_are_accounted, discards_are_accounted}
use Rattle.law_takes.proofs.Turns.{turn, offers_are_accounted}
use Rattle.law_takes.proofs.Confirming.{confirms_are_accounted, confirmed_stays}
use Rattle.law_takes.proofs.Reporting.{reports_are_accounted}
use Rattle.law_takes.proofs.Lives.{lives_are_accounted}
use Rattle.law_takes.proofs.Given.{Grows, given-on, are-given-on, settled-given, acked-given, heard-given, IsAt}
use Rattle.law_takes.proofs.Given.{at-place}
use Rattle.law_takes.proofs.Histories.{account, grows-confirmed, now-confirmed, grows-heard, told-confirmed, waits-told}
use Rattle.law_takes.proofs.Histories.{by-turn}

-- ---- RLC confirms what it was given at a place

-- the entries behind it
confirmed-entries : (t : FlowTakes) (s : State) (place : ℕ) (given : List (Option ℕ)) (o : Option Entry)
    → entry_at s.given place ≡ o
    → AreGiven t (record { gone = s.given.gone; entries = acked_at o s.given.entries (place - s.given.gone) }) given
    → AreGiven t (confirmed s place).given given
unfolding confirmed
confirmed-entries t s place given o e h =
    subst (λ (p : Option Entry). AreGiven t (settled_given (record {
      gone = s.given.gone;
      entries = acked_at p s.given.entries (place - s.given.gone);
    })) given) (sym e)
    (settled-given t (record {
      gone = s.given.gone;
      entries = acked_at o s.given.entries (place - s.given.gone);
    }) given h)

-- the sender behind it, and what is told of what stood there
abbrev confirmed-run : Run → ℕ → Option (Option ℕ) → Run
confirmed-run r place o = record {
  sender = confirmed r.sender place;
  given = r.given;
  events = option_to_list (option_map confirming o) ++ r.events;
}

-- it was confirmed before
gone-told : (first bits : ℕ) (r : Run) (place : ℕ) (c : Option ℕ) (o : Option Entry)
    → entry_at r.sender.given place ≡ o → IsAt (account first bits r) None (Some c)
    → IsAccounted (confirmed r.sender place) (account first bits r)
    → ((t' : FlowTakes) → Grows (account first bits r) t'
    → AreGiven t' (record {
      gone = r.sender.given.gone;
      entries = acked_at o r.sender.given.entries (place - r.sender.given.gone);
    }) r.given)
    → IsTold first bits r → IsTold first bits (confirmed-run r place (Some c))
gone-told first bits r place None o e gone a f h =
    record {
      history = (tt, h.history);
      accounted = (confirmed_stays (confirmed r.sender place) (account first bits r) a).report gone;
      given = confirmed-entries (takes_with ReportConfirmed (account first bits r)) r.sender place r.given o e
          (f (takes_with ReportConfirmed (account first bits r))
          (record { next = omega arith; confirmed = λ k c. c; reporting = λ c. refl }));
    }
gone-told first bits r place (Some count) o e gone a f h =
    let told = takes_are_true first bits r.events h.history in
    let below : count < (account first bits r).next = gone.0 in
    record {
      history = (omega (arith, below, told.next), h.history);
      accounted = (confirmed_stays (confirmed r.sender place) (account first bits r) a).pdus count gone.0 gone.1;
      given = confirmed-entries (takes_with (PduConfirmed count) (account first bits r)) r.sender place r.given o e
          (f (takes_with (PduConfirmed count) (account first bits r))
          (grows-confirmed (account first bits r) count));
    }

by-place : (first bits : ℕ) (r : Run) (place : ℕ) (e : Option Entry) (o : Option (Option ℕ))
    → entry_at r.sender.given place ≡ e → IsAt (account first bits r) e o
    → IsAccounted (confirmed r.sender place) (confirmed_as e (account first bits r)) → IsTold first bits r
    → IsTold first bits (confirmed-run r place o)
by-place first bits r place None None e i a h = record {
  history = h.history;
  accounted = a;
  given = confirmed-entries (account first bits r) r.sender place r.given None e h.given;
}
by-place first bits r place None (Some c) e i a h =
    gone-told first bits r place c None e i a
    (λ t' g. are-given-on (account first bits r) t' r.sender.given r.given g h.given) h
by-place first bits r place (Some x) None e i a h = absurd i
by-place first bits r place (Some (Data x)) (Some None) e i a h = absurd i
by-place first bits r place (Some (Data x)) (Some (Some count)) e i a h =
    let told = takes_are_true first bits r.events h.history in
    let below : count < (account first bits r).next = i.taken in
    record {
      history = (omega (arith, below, told.next), h.history);
      accounted = subst (λ (n : ℕ). IsAccounted (confirmed r.sender place)
          (takes_with (PduConfirmed n) (account first bits r))) i.same a;
      given = confirmed-entries (takes_with (PduConfirmed count) (account first bits r)) r.sender place r.given
          (Some (Data x)) e
          (acked-given (account first bits r) (takes_with (PduConfirmed count) (account first bits r)) r.sender.given
          r.given (place - r.sender.given.gone) (Data x) (grows-confirmed (account first bits r) count) acks
          (entry-is r.sender.given place (Data x) e) h.given);
    }
  where
    acks : (c : Option ℕ) → IsGiven (account first bits r) (Data x) c
        → IsGiven (takes_with (PduConfirmed count) (account first bits r)) (acked (Data x)) c
    acks None j = absurd j
    acks (Some own) j =
        let g = grows-confirmed (account first bits r) count in
        let same : count ≡ own = sym i.same ∙ j.same in
        record {
          same = j.same;
          taken = omega (arith, j.taken, g.next);
          acked = λ yes'. ap (is_confirmed (takes_with (PduConfirmed count) (account first bits r))) (sym same)
              ∙ now-confirmed (account first bits r) count;
        }
by-place first bits r place (Some Own) (Some None) e i a h = record {
  history = (tt, h.history);
  accounted = a;
  given = confirmed-entries (takes_with ReportConfirmed (account first bits r)) r.sender place r.given (Some Own) e
      (acked-given (account first bits r) (takes_with ReportConfirmed (account first bits r)) r.sender.given r.given
      (place - r.sender.given.gone) Own
      (record { next = omega arith; confirmed = λ k c. c; reporting = λ c. refl }) acks
      (entry-is r.sender.given place Own e) h.given);
}
  where
    acks : (c : Option ℕ) → IsGiven (account first bits r) Own c
        → IsGiven (takes_with ReportConfirmed (account first bits r)) (acked Own) c
    acks None j = refl
    acks (Some own) j = absurd j
by-place first bits r place (Some Own) (Some (Some count)) e i a h = absurd i
by-place first bits r place (Some Gone) (Some c) e i a h =
    gone-told first bits r place c (Some Gone) e i a
    (λ t' g. acked-given (account first bits r) t' r.sender.given r.given (place - r.sender.given.gone) Gone g
    (λ d j. given-on (account first bits r) t' Gone d g j) (entry-is r.sender.given place Gone e) h.given) h

-- ---- a status report comes

heard-entries : (t : FlowTakes) (s : State) (fms : ℕ) (bitmap : List ℕ) (from : ℕ) (marks : List ℕ)
    (given : List (Option ℕ)) → IsReport s from marks fms bitmap
    → AreGiven t (with_report s.given from bitmap) given → AreGiven t (reported s fms bitmap).given given
unfolding reported
heard-entries t s fms bitmap from marks given r h =
    subst (λ (o : Option ℕ). AreGiven t (reported_from o s bitmap).given given) (sym r.read)
    (settled-given t (with_report s.given from bitmap) given h)

-- ---- the next life begins

none-given : (t : FlowTakes) (s : State) (keys : Keys) (report : Option (List ℕ))
    → AreGiven t (owing_report report (restarted s keys)).given []
unfolding restarted
none-given t s keys None = record {
  past = [];
  now = [];
  all = refl;
  gone = refl;
  past_gone = tt;
  entries = tt;
}
none-given t s keys (Some report) = record {
  past = [];
  now = [];
  all = refl;
  gone = refl;
  past_gone = tt;
  entries = tt;
}

life-accounted : (s : State) (t : FlowTakes) (keys : Keys) (report : Option (List ℕ)) → IsAccounted s t
    → IsAccounted (owing_report report (restarted s keys)) (takes_with (LifeEnded (is_some report)) t)
life-accounted s t keys None h = (lives_are_accounted s t keys h).plain
life-accounted s t keys (Some report) h = (lives_are_accounted s t keys h).owing report

-- ---- the laws

submitted-given : (t : FlowTakes) (s : State) (sdu : List ℕ) (given : List (Option ℕ)) → AreGiven t s.given given
    → AreGiven t (submitted s sdu).given given
unfolding submitted
submitted-given t s sdu given h = h

pub deeds_are_told : DeedsAreTold
deeds_are_told first bits r (Submits sdu) p h = record {
  history = (tt, h.history);
  accounted = submits_are_accounted r.sender (account first bits r) sdu h.accounted;
  given = submitted-given (takes_with (SduSubmitted sdu) (account first bits r)) r.sender sdu r.given
      (are-given-on (account first bits r) (takes_with (SduSubmitted sdu) (account first bits r)) r.sender.given r.given
      (record { next = omega arith; confirmed = λ k c. c; reporting = λ c. c }) h.given);
}
deeds_are_told first bits r Ticks p h = record {
  history = h.history;
  accounted = (discards_are_accounted r.sender (account first bits r) h.accounted).ticks;
  given = h.given;
}
deeds_are_told first bits r (SetsDiscard ttis) p h = record {
  history = h.history;
  accounted = (discards_are_accounted r.sender (account first bits r) h.accounted).timer ttis;
  given = h.given;
}
deeds_are_told first bits r Discards p h = waits-told first bits r (is_overdue r.sender) refl h
deeds_are_told first bits r Takes p h =
    by-turn first bits r h (turn r.sender (account first bits r) h.accounted)
deeds_are_told first bits r (Confirms place) p h =
    by-place first bits r place (entry_at r.sender.given place) (slice_get r.given place) refl
    (at-place (account first bits r) r.sender.given r.given place h.given)
    (confirms_are_accounted r.sender (account first bits r) place h.accounted) h
deeds_are_told first bits r (Hears from marks fms bitmap) p h = record {
  history = (tt, h.history);
  accounted = reports_are_accounted r.sender (account first bits r) from marks fms bitmap p h.accounted;
  given = heard-entries (takes_with (ReportHeard from marks) (account first bits r)) r.sender fms bitmap from marks
      r.given p
      (heard-given (account first bits r) (takes_with (ReportHeard from marks) (account first bits r)) from bitmap
      r.sender.given r.given (grows-heard (account first bits r) from marks)
      (told-confirmed (account first bits r) from marks bitmap
      (λ k ge lt. p.marked k ge (omega (arith, lt, h.accounted.next)))) h.given);
}
deeds_are_told first bits r (Restarts keys report) p h = record {
  history = (tt, h.history);
  accounted = life-accounted r.sender (account first bits r) keys report h.accounted;
  given = none-given (takes_with (LifeEnded (is_some report)) (account first bits r)) r.sender keys report;
}

none-at-outset : (first bits : ℕ) (p : Protection)
    → AreGiven (account first bits (outset bits p first)) (outset bits p first).sender.given []
unfolding start
none-at-outset first bits p = record {
  past = [];
  now = [];
  all = refl;
  gone = refl;
  past_gone = tt;
  entries = tt;
}

outset-told : (first bits : ℕ) (p : Protection) → IsTold first bits (outset bits p first)
outset-told first bits p = record {
  history = tt;
  accounted = senders_begin bits first p;
  given = none-at-outset first bits p;
}

all-told : (first bits : ℕ) (r : Run) (ds : List Deed) → ArePossible r ds → IsTold first bits r
    → IsTold first bits (behind_all r ds)
all-told first bits r [] p h = h
all-told first bits r (d ∷ ds) p h =
    all-told first bits (behind r d) ds p.1 (deeds_are_told first bits r d p.0 h)

pub runs_are_told : RunsAreTold
runs_are_told first bits p ds possible =
    all-told first bits (outset bits p first) ds possible (outset-told first bits p)

pub senders_go_by_history : SendersGoByHistory
senders_go_by_history first bits r h =
    let told = takes_are_true first bits r.events h.history in
    let o = offers_are_accounted r.sender (account first bits r) h.accounted in
    record {
      low = subst (λ (n : ℕ). IsLeast (is_confirmed_by first r.events) first n) (sym o.low) told.low;
      next = next_take (account first bits r);
      takeable = told.takes;
      offered = o.first;
    }
