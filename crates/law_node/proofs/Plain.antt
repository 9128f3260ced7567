-- A sender of PDCP that isn't of acknowledged data keeps nothing of what is taken, and owes nothing.
use Rattle.std.proofs.Common.{◌≡◌, ℕ, ◌-◌, ◌&&◌, Bool, true, false, if◌then◌else◌, Option, Some, None, List, [], ◌∷◌}
use Rattle.std.proofs.Common.{◌++◌, take, refl, ap, sym, subst, ◌∙◌}
use Rattle.bearer_pdcp.specs.Discarding.{without_late, after_tick}
use Rattle.bearer_pdcp.specs.Ends.{Ends}
use Rattle.bearer_pdcp.specs.Hearing.{is_for_sender, is_arrived, got_left, with_arrived, after_hearing}
use Rattle.bearer_pdcp.specs.Lives.{report_of, owing_report, restarted}
use Rattle.bearer_pdcp.specs.Taking.{after_taking}
use Rattle.eps_sec.specs.declared.Keys.{Keys}
use Rattle.pdcp_pdu.specs.Kinds.{is_am}
use Rattle.pdcp_pdu.specs.declared.pdu.PdcpKind.{PdcpKind}
use Rattle.pdcp_rx.specs.State.{got, report}
use Rattle.pdcp_rx.specs.declared.Cause.{Cause}
use Rattle.pdcp_rx.specs.declared.Got.{Got}
use Rattle.pdcp_rx.specs.declared.Got.TheVariants as got_as
use Rattle.pdcp_tx.specs.State.{State as Sending, submitted, took_new, took_again, took_owed, took, confirmed, reported}
use Rattle.pdcp_tx.specs.State.{is_overdue, after_late, ticked, restarted as restarted_sending, sent}
use Rattle.pdcp_tx_store.specs.Given.{with_entry, acked_at, entry_at, trimmed, from_unacked, data_of}
use Rattle.pdcp_tx_store.specs.Waiting.{Waits}
use Rattle.pdcp_tx_store.specs.declared.given.Entry.{Entry}
use Rattle.pdcp_tx_store.specs.declared.given.Entry.TheVariants.{Data}
use Rattle.pdcp_tx_store.specs.declared.given.Sent.{Sent}
use Rattle.law_node.proofs.Pdcp.{Passes}

pub record IsPlainSender (kind : PdcpKind) (s : Sending) : Type 0 where
  pub kind_is : s.kind ≡ kind
  pub owes_none : s.owed ≡ None
  pub none_again : s.again ≡ []
  pub none_given : s.given.entries ≡ []

pub record IsPlain (kind : PdcpKind) (e : Ends) : Type 0 where
  pub own : e.kind ≡ kind
  pub sender : IsPlainSender kind e.tx

module _ (kind : PdcpKind) (off : is_am kind ≡ false) where
  -- ---- what RLC takes is the first that waits

  pub took_is : (s : Sending) → IsPlainSender kind s → took s ≡ took_new (take (s.bound - s.next) s.waiting) s
  unfolding took
  took_is s h = ap (λ (o : Option (List ℕ)). took_owed o s) h.owes_none
      ∙ ap (λ (xs : List Sent). took_again xs s) h.none_again

  new_plain : (ws : List Waits) (s : Sending) → IsPlainSender kind s → IsPlainSender kind (took_new ws s)
  new_plain [] s h = h
  new_plain (w ∷ ws) s h = record {
    kind_is = h.kind_is;
    owes_none = h.owes_none;
    none_again = h.none_again;
    none_given =
        ap (λ (b : Bool). (if b then with_entry s.given (Data (sent s.next w.sdu false)) else s.given).entries)
        (ap is_am h.kind_is ∙ off)
        ∙ h.none_given;
  }

  pub took_plain : (s : Sending) → IsPlainSender kind s → IsPlainSender kind (took s)
  took_plain s h =
      subst (IsPlainSender kind) (sym (took_is s h)) (new_plain (take (s.bound - s.next) s.waiting) s h)

  -- ---- discard timers

  late_plain : (s : Sending) → IsPlainSender kind s → IsPlainSender kind (after_late s)
  unfolding after_late
  late_plain s h = record {
    kind_is = h.kind_is;
    owes_none = h.owes_none;
    none_again = h.none_again;
    none_given = h.none_given;
  }

  if_plain : (b : Bool) (s t : Sending) → IsPlainSender kind s → IsPlainSender kind t
      → IsPlainSender kind (if b then t else s)
  if_plain true s t h k = k
  if_plain false s t h k = h

  lates_plain : (ws : List Waits) (s : Sending) → IsPlainSender kind s → IsPlainSender kind (without_late ws s)
  lates_plain [] s h = h
  lates_plain (w ∷ ws) s h =
      if_plain (is_overdue s) s (without_late ws (after_late s)) h (lates_plain ws (after_late s) (late_plain s h))

  tick_plain : (s : Sending) → IsPlainSender kind s → IsPlainSender kind (ticked s)
  tick_plain s h = record {
    kind_is = h.kind_is;
    owes_none = h.owes_none;
    none_again = h.none_again;
    none_given = h.none_given;
  }

  -- ---- what it hears: no report is for it

  heard_if : (b : Bool) (e : Ends) (s : Sending) → b ≡ false → IsPlain kind e
      → IsPlain kind (if b then record e { tx = s } else e)
  heard_if true e s q h = absurd cc
  heard_if false e s q h = h

  got_plain : (g : Got) (cause : Cause) (e : Ends) → IsPlain kind e → IsPlain kind (got_left g cause e)
  got_plain got_as.Up cause e h = record { own = h.own; sender = h.sender }
  got_plain got_as.Stored cause e h = record { own = h.own; sender = h.sender }
  got_plain got_as.Old cause e h = h
  got_plain got_as.OutOfRange cause e h = h
  got_plain (got_as.Integrity found wanted) cause e h = h
  got_plain (got_as.Report fms bitmap) cause e h =
      heard_if (is_for_sender e cause) e (reported e.tx fms bitmap)
      (ap (λ (b : Bool). b && is_arrived cause) (ap is_am h.own ∙ off)) h
  got_plain (got_as.Unreadable fault) cause e h = h

  heard_plain : (pdu : List ℕ) (cause : Cause) (e : Ends) → IsPlain kind e → IsPlain kind (after_hearing pdu cause e)
  unfolding after_hearing
  heard_plain pdu cause e h =
      got_plain (got e.rx pdu cause) cause (with_arrived pdu cause e) (record { own = h.own; sender = h.sender })

  -- ---- what is confirmed of nothing

  none_acked : (x : Option Entry) (k : ℕ) → acked_at x [] k ≡ []
  none_acked None k = refl
  none_acked (Some e) k = refl

  confirmed_plain : (s : Sending) (place : ℕ) → IsPlainSender kind s → IsPlainSender kind (confirmed s place)
  unfolding confirmed
  confirmed_plain s place h = record {
    kind_is = h.kind_is;
    owes_none = h.owes_none;
    none_again = h.none_again;
    none_given =
        ap (λ (es : List Entry). trimmed (acked_at (entry_at s.given place) es (place - s.given.gone))) h.none_given
        ∙ ap trimmed (none_acked (entry_at s.given place) (place - s.given.gone));
  }

  submitted_plain : (s : Sending) (sdu : List ℕ) → IsPlainSender kind s → IsPlainSender kind (submitted s sdu)
  unfolding submitted
  submitted_plain s sdu h = record {
    kind_is = h.kind_is;
    owes_none = h.owes_none;
    none_again = h.none_again;
    none_given = h.none_given;
  }

  -- ---- the next life

  pub owes_nothing : (e : Ends) (s : Sending) → IsPlain kind e → owing_report (report_of e.kind e.rx) s ≡ s
  owes_nothing e s h =
      ap (λ (b : Bool). owing_report (if b then Some (report e.rx) else None) s) (ap is_am h.own ∙ off)

  anew : (s : Sending) (keys : Keys) → IsPlainSender kind s → IsPlainSender kind (restarted_sending s keys)
  unfolding restarted_sending
  anew s keys h = record {
    kind_is = h.kind_is;
    owes_none = refl;
    none_again = ap (λ (es : List Entry). from_unacked (data_of es ++ s.again)) h.none_given
        ∙ ap from_unacked h.none_again;
    none_given = refl;
  }

  pub plain_passes : Passes (IsPlain kind)
  unfolding after_tick after_taking restarted
  plain_passes = record {
    heard = λ pdu cause e h. heard_plain pdu cause e h;
    ticked = λ e h. record { own = h.own; sender = lates_plain e.tx.waiting (ticked e.tx) (tick_plain e.tx h.sender) };
    taken = λ e h. record { own = h.own; sender = took_plain e.tx h.sender };
    confirms = λ e place h. record { own = h.own; sender = confirmed_plain e.tx place h.sender };
    submits = λ e octets r h. record { own = h.own; sender = submitted_plain e.tx octets h.sender };
    discards = λ e ttis h. record {
      own = h.own;
      sender = record {
        kind_is = h.sender.kind_is;
        owes_none = h.sender.owes_none;
        none_again = h.sender.none_again;
        none_given = h.sender.none_given;
      };
    };
    restarts = λ e keys h. record {
      own = h.own;
      sender = subst (IsPlainSender kind) (sym (owes_nothing e (restarted_sending e.tx keys) h))
          (anew e.tx keys h.sender);
    };
  }
