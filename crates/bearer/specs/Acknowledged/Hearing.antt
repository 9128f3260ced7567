-- What a bearer hears (TS 36.322 5.1.3.2, 5.2, TS 36.323 5.1.2): data PDUs, STATUS PDUs, and what
-- they carry.
use Rattle.std.specs.Prelude.{ℕ, Bool, true, false, if◌then◌else◌, List, [], ◌∷◌, ◌++◌, Result, Ok}
use Rattle.std.specs.Prelude.{Err}
use Rattle.bearer_types.specs.declared.Event.{Event}
use Rattle.bearer_types.specs.declared.Event.TheVariants as events
use Rattle.l2_types.specs.declared.Clock.TheVariants.{Poll}
use Rattle.l2_types.specs.declared.Lost.TheVariants as lost
use Rattle.pdcp_rx.specs.declared.Cause.TheVariants.{Arrived}
use Rattle.rlc_pdu.specs.declared.RlcRefusal.{RlcRefusal}
use Rattle.rlc_pdu.specs.Pdus.{AcknowledgedPdu, Payload, Status, AmdPdu, StatusPdu}
use Rattle.rlc_pdu.specs.Reading.{am_at}
use Rattle.rlc_am_tx.specs.declared.answers.Heard.{Heard}
use Rattle.rlc_am_tx.specs.declared.answers.Heard.TheVariants as heard_as
use Rattle.rlc_am_tx.specs.Machine.{State as Sender, after_status, heard, settled, settles}
use Rattle.rlc_am_rx.specs.State.{State as Receiver}
use Rattle.rlc_am_rx.specs.Machine.{landed, turned, arrived}
use Rattle.pdcp_tx.specs.State.{confirmed}
use Rattle.bearer_pdcp.specs.Ends.{Ends}
use Rattle.bearer_pdcp.specs.Hearing.{heard_told, after_hearing, applies}
use Rattle.bearer_pdcp.specs.Telling.{landed_told}
use Rattle.bearer.specs.Acknowledged.State.{State, has_more, Work, work, with_work}

-- ---- the sender settles: the poll timer starts where nothing else would bring an acknowledgement

abbrev pub started_told : ℕ → Bool → List Event
started_told lcid starts = if starts then events.Start lcid Poll ∷ [] else []

abbrev pub settled_work : Work → Work
settled_work w =
    work w.pdcp (settled w.tx (has_more w.pdcp))
    (w.events ++ started_told w.pdcp.lcid (settles w.tx (has_more w.pdcp)))

abbrev pub settled_if : Bool → Work → Work
settled_if true w = settled_work w
settled_if false w = w

-- ---- SDUs that RLC hands up go to PDCP, one after the other; behind a report that is applied the
-- sender settles

abbrev pub heard_work : List ℕ → Work → Work
heard_work sdu w =
    work (after_hearing sdu Arrived w.pdcp) w.tx (w.events ++ heard_told sdu Arrived w.pdcp)

abbrev pub hears : List ℕ → Work → Work
hears sdu w = settled_if (applies sdu Arrived w.pdcp) (heard_work sdu w)

abbrev pub hears_all : List (List ℕ) → Work → Work
hears_all [] w = w
hears_all (sdu ∷ sdus) w = hears_all sdus (hears sdu w)

abbrev pub all_handed : Receiver → Receiver
all_handed r = record r { out = record r.out { ready = [] } }

-- ---- a data PDU

abbrev pub land_work : AmdPdu → State → Work
land_work p s =
    hears_all (arrived s.rx p).out.ready
    (work s.pdcp s.tx (landed_told s.pdcp.lcid (landed s.rx p) (turned s.rx p)))

abbrev pub land_left : AmdPdu → State → State
land_left p s = with_work (land_work p s) (record s { rx = all_handed (arrived s.rx p) })

-- ---- a STATUS: PDCP learns which PDUs are wholly acknowledged

abbrev pub confirms : List ℕ → Ends → Ends
confirms [] e = e
confirms (place ∷ places) e = confirms places (record e { tx = confirmed e.tx place })

abbrev pub all_confirmed : Sender → Sender
all_confirmed tx = record tx { accounts = record tx.accounts { news = [] } }

abbrev pub stopped_told : ℕ → Bool → List Event
stopped_told lcid stopped = if stopped then events.Stop lcid Poll ∷ [] else []

abbrev pub status_work : Heard → Work → Work
status_work heard_as.Ignored w =
    record w { events = w.events ++ events.Drop w.pdcp.lcid lost.Ignored ∷ [] }
status_work (heard_as.Limit sn) w =
    record w { events = w.events ++ events.Fail w.pdcp.lcid sn ∷ [] }
status_work (heard_as.Applied stopped) w =
    settled_work (record w { events = w.events ++ stopped_told w.pdcp.lcid stopped })

abbrev pub heard_status : StatusPdu → State → Work
heard_status p s =
    status_work (heard s.tx p)
    (work (confirms (after_status s.tx p).accounts.news s.pdcp)
    (all_confirmed (after_status s.tx p)) [])

-- ---- a PDU arrives

abbrev pub arrived_told : Result AcknowledgedPdu RlcRefusal → State → List Event
arrived_told (Err fault) s = events.BadRlc s.pdcp.lcid fault ∷ []
arrived_told (Ok (Payload p)) s = (land_work p s).events
arrived_told (Ok (Status p)) s = (heard_status p s).events

abbrev pub arrived_left : Result AcknowledgedPdu RlcRefusal → State → State
arrived_left (Err fault) s = s
arrived_left (Ok (Payload p)) s = land_left p s
arrived_left (Ok (Status p)) s = with_work (heard_status p s) s

unfoldable pub arriving : State → List ℕ → List Event
arriving s pdu = arrived_told (am_at pdu) s

unfoldable pub after_arrival : State → List ℕ → State
after_arrival s pdu = arrived_left (am_at pdu) s
