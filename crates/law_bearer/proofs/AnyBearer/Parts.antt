-- What PDCP's two ends do, as steps of the sender.
use Rattle.std.proofs.Common.{◌≡◌, ℕ, Bool, true, false, ◌&&◌, if◌then◌else◌, List, [], ◌∷◌, ◌++◌, Option, Some, None}
use Rattle.std.proofs.Common.{subst, refl, ap, sym, ◌∙◌}
use Rattle.eps_sec.specs.declared.Keys.{Keys}
use Rattle.pdcp_pdu.specs.declared.PdcpKind.{PdcpKind}
use Rattle.pdcp_pdu.specs.Kinds.{is_am}
use Rattle.pdcp_rx.specs.declared.Cause.{Cause}
use Rattle.pdcp_rx.specs.declared.Cause.TheVariants.{Reestablished}
use Rattle.pdcp_rx.specs.declared.Got.{Got}
use Rattle.pdcp_rx.specs.declared.Got.TheVariants as got_as
use Rattle.pdcp_rx.specs.Laws.{Arrive, happens}
use Rattle.pdcp_rx.specs.State.{State as Receiving, got, arrived, restarted as restarted_receiving}
use Rattle.pdcp_tx_store.specs.Waiting.{Waits}
use Rattle.pdcp_tx.specs.State.{State, Offer, offers, took, taking, is_overdue, after_late, reported, ticked}
use Rattle.pdcp_tx.specs.State.{restarted as restarted_sending}
use Rattle.law_pdcp.specs.OneEnd.Lives.{Step, Calls as Calling, goes, run_pdcp_sender, leaves}
use Rattle.pdcp_tx.specs.Runs.{Late}
use Rattle.law_pdcp.proofs.OneEnd.KindStays.{kind_stays as sending_kind}
use Rattle.law_pdcp.specs.OneEnd.Receiving.{Calls}
use Rattle.law_pdcp.proofs.OneEnd.Hearings.{kind_stays}
use Rattle.bearer_pdcp.specs.Ends.{Ends}
use Rattle.bearer_pdcp.specs.Hearing.{is_for_sender, got_left, with_arrived, after_hearing}
use Rattle.bearer_pdcp.specs.Discarding.{without_late, after_tick}
use Rattle.bearer_pdcp.specs.Lives.{report_of, owing_report, restarted}
use Rattle.bearer_pdcp.specs.Taking.{taken, after_taking}
use Rattle.law_bearer.specs.AnyBearer.Stream.{pdu_of}
use Rattle.law_bearer.proofs.AnyBearer.Sender.{Doings, nothing, also, leaving, Moved, Lived, still, moved_then, lived}
use Rattle.law_bearer.proofs.AnyBearer.Sender.{lived_then, reports, ticks_once, drops_one, restarts, owes}

-- ---- PDCP of a bearer comes from one state to another, and PDUs are taken: within a life, or through lives

pub record Passed (d e : Ends) (a : Doings) : Type 0 where
  pub tx : Moved d.tx e.tx a
  pub kind : e.kind ≡ d.kind
  pub rx : e.rx.kind ≡ d.rx.kind

pub record PassedLives (d e : Ends) (a : Doings) : Type 0 where
  pub tx : Lived d.tx e.tx a
  pub kind : e.kind ≡ d.kind
  pub rx : e.rx.kind ≡ d.rx.kind

pub rests : (e : Ends) → Passed e e nothing
rests e = record { tx = still e.tx; kind = refl; rx = refl }

pub by_tx : (e : Ends) (t : State) (a : Doings) → Moved e.tx t a → Passed e (record e { tx = t }) a
by_tx e t a m = record { tx = m; kind = refl; rx = refl }

pub passed_then : (d e g : Ends) (a b : Doings) → Passed d e a → Passed e g b → Passed d g (also a b)
passed_then d e g a b m n = record {
  tx = moved_then d.tx e.tx g.tx a b m.tx n.tx;
  kind = n.kind ∙ m.kind;
  rx = n.rx ∙ m.rx;
}

pub passed_lives : (d e : Ends) (a : Doings) → Passed d e a → PassedLives d e a
passed_lives d e a m = record { tx = lived d.tx e.tx a m.tx; kind = m.kind; rx = m.rx }

pub lives_then : (d e g : Ends) (a b : Doings) → PassedLives d e a → PassedLives e g b → PassedLives d g (also a b)
lives_then d e g a b m n = record {
  tx = lived_then d.tx e.tx g.tx a b m.tx n.tx;
  kind = n.kind ∙ m.kind;
  rx = n.rx ∙ m.rx;
}

-- ---- a PDU is taken

pub first_taken : (e : Ends) (o : Offer) (os : List Offer) → offers e.tx ≡ o ∷ os → taken e ≡ Some (pdu_of e.tx o)
unfolding taken taking
first_taken e o os q = rw q refl

pub pdcp_took : (e : Ends) → (after_taking e).tx ≡ took e.tx
unfolding after_taking
pdcp_took e = refl

pub pdcp_rest : (e : Ends) → ((after_taking e).kind ≡ e.kind) × ((after_taking e).rx.kind ≡ e.rx.kind)
unfolding after_taking
pdcp_rest e = (refl, refl)

-- ---- a PDU is heard

report_by : (b : Bool) (e : Ends) (fms : ℕ) (bitmap : List ℕ)
    → Passed e (if b then record e { tx = reported e.tx fms bitmap } else e) nothing
report_by true e fms bitmap = by_tx e (reported e.tx fms bitmap) nothing (reports e.tx fms bitmap)
report_by false e fms bitmap = rests e

got_moves : (g : Got) (cause : Cause) (e : Ends) → Passed e (got_left g cause e) nothing
got_moves got_as.Up cause e = record { tx = still e.tx; kind = refl; rx = refl }
got_moves got_as.Stored cause e = record { tx = still e.tx; kind = refl; rx = refl }
got_moves got_as.Old cause e = rests e
got_moves got_as.OutOfRange cause e = rests e
got_moves (got_as.Integrity found wanted) cause e = rests e
got_moves (got_as.Report fms bitmap) cause e = report_by (is_for_sender e cause) e fms bitmap
got_moves (got_as.Unreadable fault) cause e = rests e

arrived_kind : (r : Receiving) (pdu : List ℕ) (cause : Cause) → (arrived r pdu cause).kind ≡ r.kind
unfolding happens
arrived_kind r pdu cause = kind_stays r (Calls (Arrive pdu cause))

pub hearing_moves : (pdu : List ℕ) (cause : Cause) (e : Ends) → Passed e (after_hearing pdu cause e) nothing
unfolding after_hearing
hearing_moves pdu cause e =
    passed_then e (with_arrived pdu cause e) (got_left (got e.rx pdu cause) cause (with_arrived pdu cause e)) nothing
    nothing
    (record { tx = still e.tx; kind = refl; rx = arrived_kind e.rx pdu cause })
    (got_moves (got e.rx pdu cause) cause (with_arrived pdu cause e))

-- ---- at the end of a life no report is applied

pub record Ended (d e : Ends) : Type 0 where
  pub tx : e.tx ≡ d.tx
  pub kind : e.kind ≡ d.kind
  pub rx : e.rx.kind ≡ d.rx.kind

pub ends_as : (e : Ends) → Ended e e
ends_as e = record { tx = refl; kind = refl; rx = refl }

pub ended_then : (d e g : Ends) → Ended d e → Ended e g → Ended d g
ended_then d e g m n = record { tx = n.tx ∙ m.tx; kind = n.kind ∙ m.kind; rx = n.rx ∙ m.rx }

last_by : (b : Bool) (e : Ends) (fms : ℕ) (bitmap : List ℕ)
    → Ended e (if b && false then record e { tx = reported e.tx fms bitmap } else e)
last_by true e fms bitmap = ends_as e
last_by false e fms bitmap = ends_as e

got_last : (g : Got) (e : Ends) → Ended e (got_left g Reestablished e)
got_last got_as.Up e = record { tx = refl; kind = refl; rx = refl }
got_last got_as.Stored e = record { tx = refl; kind = refl; rx = refl }
got_last got_as.Old e = ends_as e
got_last got_as.OutOfRange e = ends_as e
got_last (got_as.Integrity found wanted) e = ends_as e
got_last (got_as.Report fms bitmap) e = last_by (is_am e.kind) e fms bitmap
got_last (got_as.Unreadable fault) e = ends_as e

pub last_one : (pdu : List ℕ) (e : Ends) → Ended e (after_hearing pdu Reestablished e)
unfolding after_hearing
last_one pdu e =
    ended_then e (with_arrived pdu Reestablished e)
    (got_left (got e.rx pdu Reestablished) Reestablished (with_arrived pdu Reestablished e))
    (record { tx = refl; kind = refl; rx = arrived_kind e.rx pdu Reestablished })
    (got_last (got e.rx pdu Reestablished) (with_arrived pdu Reestablished e))

-- ---- a TTI begins

-- the SDUs that are dropped
abbrev pub lates : List Waits → State → List (List ℕ)
lates [] s = []
lates (w ∷ ws) s = if is_overdue s then leaves s (Calling Late) ++ lates ws (after_late s) else []

late_by : (b : Bool) (s t : State) (sdus : List (List ℕ)) → Moved s t (leaving sdus)
    → Moved s (if b then t else s) (leaving (if b then sdus else []))
late_by true s t sdus m = m
late_by false s t sdus m = still s

lates_move : (ws : List Waits) (s : State) → Moved s (without_late ws s) (leaving (lates ws s))
lates_move [] s = still s
lates_move (w ∷ ws) s =
    late_by (is_overdue s) s (without_late ws (after_late s)) (leaves s (Calling Late) ++ lates ws (after_late s))
    (moved_then s (after_late s) (without_late ws (after_late s)) (leaving (leaves s (Calling Late)))
    (leaving (lates ws (after_late s))) (drops_one s) (lates_move ws (after_late s)))

abbrev pub tick_lates : Ends → List (List ℕ)
tick_lates e = lates e.tx.waiting (ticked e.tx)

pub tick_moves : (e : Ends) → Passed e (after_tick e) (leaving (tick_lates e))
unfolding after_tick
tick_moves e =
    by_tx e (without_late e.tx.waiting (ticked e.tx)) (leaving (tick_lates e))
    (moved_then e.tx (ticked e.tx) (without_late e.tx.waiting (ticked e.tx)) nothing (leaving (tick_lates e))
    (ticks_once e.tx) (lates_move e.tx.waiting (ticked e.tx)))

-- ---- the next life

owing_lives : (o : Option (List ℕ)) (s : State) → Lived s (owing_report o s) nothing
owing_lives None s = lived s s nothing (still s)
owing_lives (Some report) s = owes s report

pub pdcp_restarts : (e : Ends) (keys : Keys) → PassedLives e (restarted e keys) nothing
unfolding restarted restarted_receiving
pdcp_restarts e keys = record {
  tx =
      lived_then e.tx (restarted_sending e.tx keys)
      (owing_report (report_of e.kind e.rx) (restarted_sending e.tx keys)) nothing nothing
      (restarts e.tx keys) (owing_lives (report_of e.kind e.rx) (restarted_sending e.tx keys));
  kind = refl;
  rx = refl;
}

pub ended_restarts : (d e : Ends) (keys : Keys) → Ended d e → PassedLives d (restarted e keys) nothing
ended_restarts d e keys h =
    let m = pdcp_restarts e keys in
    record {
      tx = subst (λ (t : State). Lived t (restarted e keys).tx nothing) h.tx m.tx;
      kind = m.kind ∙ h.kind;
      rx = m.rx ∙ h.rx;
    }

-- the kinds of both ends are that of the bearer
pub record AreOfKind (kind : PdcpKind) (e : Ends) : Type 0 where
  pub here : e.kind ≡ kind
  pub tx : e.tx.kind ≡ kind
  pub rx : e.rx.kind ≡ kind

run_kind : (s : State) (xs : List Step) → (run_pdcp_sender xs s).kind ≡ s.kind
run_kind s [] = refl
run_kind s (x ∷ xs) = run_kind (goes s x) xs ∙ sending_kind s x

pub lives_kind : (d e : Ends) (a : Doings) → PassedLives d e a → AreOfKind d.kind d → AreOfKind e.kind e
lives_kind d e a m k = record {
  here = refl;
  tx = ap (λ (t : State). t.kind) m.tx.left ∙ run_kind d.tx m.tx.steps ∙ k.tx ∙ sym m.kind;
  rx = m.rx ∙ k.rx ∙ sym m.kind;
}
