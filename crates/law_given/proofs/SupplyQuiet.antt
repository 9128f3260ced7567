-- What arrives, and what goes up as a life ends, tells nothing of what RLC is given, nor of a timer that expires.
use Rattle.std.proofs.Common.{◌≡◌, ℕ, Bool, true, false, if◌then◌else◌, List, [], ◌∷◌, ◌++◌, map, Result, Ok, Err, refl}
use Rattle.std.proofs.Common.{◌∙◌}
use Rattle.std.specs.List.{AllByRecursion}
use Rattle.bearer_types.specs.declared.Event.{Event}
use Rattle.bearer_types.specs.declared.Event.TheVariants as events
use Rattle.l2_types.specs.declared.Lost.TheVariants as lost
use Rattle.pdcp_pdu.specs.Kinds.{is_am}
use Rattle.pdcp_rx.specs.declared.Cause.{Cause}
use Rattle.pdcp_rx.specs.declared.Cause.TheVariants.{Arrived, Reestablished}
use Rattle.pdcp_rx.specs.declared.Got.{Got}
use Rattle.pdcp_rx.specs.declared.Got.TheVariants as got_as
use Rattle.pdcp_rx.specs.State.{got}
use Rattle.rlc_pdu.specs.declared.fault.RlcRefusal.{RlcRefusal}
use Rattle.rlc_pdu.specs.declared.Landed.{Landed}
use Rattle.rlc_pdu.specs.declared.Landed.TheVariants.{Kept, Repeat, Outside, Clash}
use Rattle.rlc_pdu.specs.declared.Turned.{Turned}
use Rattle.rlc_pdu.specs.Pdus.{AcknowledgedPdu, Payload, Status}
use Rattle.rlc_pdu.specs.Reading.{am_at}
use Rattle.rlc_am_tx.specs.declared.answers.Heard.{Heard}
use Rattle.rlc_am_tx.specs.declared.answers.Heard.TheVariants as heard_as
use Rattle.rlc_am_tx.specs.Machine.{settles as starts, heard, after_status}
use Rattle.rlc_am_rx.specs.Machine.{arrived, landed, turned, finished}
use Rattle.bearer_pdcp.specs.Ends.{Ends}
use Rattle.bearer_pdcp.specs.Hearing.{is_applied, ups, got_told, with_arrived, heard_told, applies, after_hearing}
use Rattle.bearer_pdcp.specs.Telling.{turned_told, landed_told}
use Rattle.bearer.specs.Acknowledged.State.{State, has_more, Work, work}
use Rattle.bearer.specs.Acknowledged.Hearing.{started_told, settled_if, heard_work, hears, hears_all, stopped_told}
use Rattle.bearer.specs.Acknowledged.Hearing.{status_work, confirms, all_confirmed, arrived_told}
use Rattle.bearer.specs.Acknowledged.Hearing.{arriving as am_arriving}
use Rattle.bearer.specs.Acknowledged.Lives.{Ending, hears_last, ends_with, stopping as am_stopping}
use Rattle.bearer.specs.declared.flow.Flow.TheVariants.{Am}
use Rattle.bearer.specs.Hearing.{arriving}
use Rattle.bearer.specs.Lives.{stopping}
use Rattle.journal_given.specs.Supplies.{Supply, History}
use Rattle.law_bearer.specs.AnyBearer.Calls.{Arrive}
use Rattle.law_bearer.specs.AmBearer.Calls.{tells}
use Rattle.law_deliver.proofs.AmChannel.Ends.{all_more}
use Rattle.law_given.specs.SupplyLaws.{supplied_by, TellsNothing, ArrivalsTellNothing, EndsTellNothing}
use Rattle.law_given.proofs.PollFirst.{IsNoExpiry, NoneExpires}
use Rattle.law_given.proofs.Supplying.{IsQuiet, quiet-same, quiet-right}

-- ---- events of a bearer that hears: RLC is given nothing, and no timer expires

abbrev IsHeard : Event → Type 0
IsHeard (events.Take lcid count len) = ⊥
IsHeard (events.Report lcid fms bitmap) = ⊥
IsHeard (events.Discard lcid len) = ⊥
IsHeard (events.Expired lcid clock) = ⊥
IsHeard event = Unit {0}

abbrev AreHeard : List Event → Type 0
AreHeard told = AllByRecursion IsHeard told

quiet-so : (event : Event) → IsHeard event → IsQuiet event
quiet-so (events.Take lcid count len) h = absurd h
quiet-so (events.Report lcid fms bitmap) h = absurd h
quiet-so (events.Discard lcid len) h = absurd h
quiet-so event h = tt

unexpired : (event : Event) → IsHeard event → IsNoExpiry event
unexpired (events.Expired lcid clock) h = absurd h
unexpired event h = tt

tells-nothing : (told : List Event) (s : Supply History) → AreHeard told → TellsNothing told s
tells-nothing [] s h = record { same = refl; right = tt }
tells-nothing (event ∷ told) s h =
    let q = quiet-so event h.0 in
    let one : supplied_by event s ≡ s = quiet-same event s q in
    let rest = tells-nothing told (supplied_by event s) h.1 in
    record { same = rest.same ∙ one; right = (quiet-right event s q, rest.right) }

none-expires : (told : List Event) → AreHeard told → NoneExpires told
none-expires [] h = tt
none-expires (event ∷ told) h = (unexpired event h.0, none-expires told h.1)

-- ---- SDUs that RLC hands up

ups-quiet : (lcid : ℕ) (sdus : List (List ℕ)) → AreHeard (ups lcid sdus)
ups-quiet lcid [] = tt
ups-quiet lcid (sdu ∷ sdus) = (tt, ups-quiet lcid sdus)

got-quiet : (got' : Got) (cause : Cause) (e : Ends) → AreHeard (got_told got' cause e)
got-quiet got_as.Up cause e = ups-quiet e.lcid e.rx.ready
got-quiet got_as.Stored cause e = ups-quiet e.lcid e.rx.ready
got-quiet got_as.Old cause e = (tt, tt)
got-quiet got_as.OutOfRange cause e = (tt, tt)
got-quiet (got_as.Integrity found wanted) cause e = (tt, tt)
got-quiet (got_as.Report fms bitmap) cause e = by (is_applied e cause fms)
  where
    by : (b : Bool) → AreHeard (if b then [] else events.Drop e.lcid lost.Report ∷ [])
    by true = tt
    by false = (tt, tt)
got-quiet (got_as.Unreadable fault) cause e = (tt, tt)

heard-quiet : (sdu : List ℕ) (cause : Cause) (e : Ends) → AreHeard (heard_told sdu cause e)
unfolding heard_told
heard-quiet sdu cause e = got-quiet (got e.rx sdu cause) cause (with_arrived sdu cause e)

started-quiet : (lcid : ℕ) (b : Bool) → AreHeard (started_told lcid b)
started-quiet lcid true = (tt, tt)
started-quiet lcid false = tt

settled-quiet : (a : Bool) (w : Work) → AreHeard w.events → AreHeard (settled_if a w).events
settled-quiet true w q =
    all_more IsHeard w.events (started_told w.pdcp.lcid (starts w.tx (has_more w.pdcp))) q
    (started-quiet w.pdcp.lcid (starts w.tx (has_more w.pdcp)))
settled-quiet false w q = q

hears-quiet : (sdus : List (List ℕ)) (w : Work) → AreHeard w.events → AreHeard (hears_all sdus w).events
hears-quiet [] w q = q
hears-quiet (sdu ∷ sdus) w q =
    hears-quiet sdus (hears sdu w)
    (settled-quiet (applies sdu Arrived w.pdcp) (heard_work sdu w)
    (all_more IsHeard w.events (heard_told sdu Arrived w.pdcp) q (heard-quiet sdu Arrived w.pdcp)))

-- ---- a PDU

turned-quiet : (lcid : ℕ) (t : Turned) → AreHeard (turned_told lcid t)
turned-quiet lcid t = by t.stopped t.started
  where
    by : (stopped started : Bool) → AreHeard (turned_told lcid (record { stopped = stopped; started = started }))
    by true true = (tt, (tt, tt))
    by true false = (tt, tt)
    by false true = (tt, tt)
    by false false = tt

landed-quiet : (lcid : ℕ) (l : Landed) (t : Turned) → AreHeard (landed_told lcid l t)
landed-quiet lcid Kept t = turned-quiet lcid t
landed-quiet lcid Repeat t = (tt, tt)
landed-quiet lcid Outside t = (tt, tt)
landed-quiet lcid Clash t = (tt, tt)

status-quiet : (h : Heard) (w : Work) → AreHeard w.events → AreHeard (status_work h w).events
status-quiet heard_as.Ignored w q = all_more IsHeard w.events _ q (tt, tt)
status-quiet (heard_as.Limit sn) w q = all_more IsHeard w.events _ q (tt, tt)
status-quiet (heard_as.Applied stopped) w q =
    settled-quiet true (record w { events = w.events ++ stopped_told w.pdcp.lcid stopped })
    (all_more IsHeard w.events (stopped_told w.pdcp.lcid stopped) q (by stopped))
  where
    by : (b : Bool) → AreHeard (stopped_told w.pdcp.lcid b)
    by true = (tt, tt)
    by false = tt

arrived-quiet : (r : Result AcknowledgedPdu RlcRefusal) (b : State) → AreHeard (arrived_told r b)
arrived-quiet (Err fault) b = (tt, tt)
arrived-quiet (Ok (Payload p)) b =
    hears-quiet (arrived b.rx p).out.ready
    (work b.pdcp b.tx (landed_told b.pdcp.lcid (landed b.rx p) (turned b.rx p)))
    (landed-quiet b.pdcp.lcid (landed b.rx p) (turned b.rx p))
arrived-quiet (Ok (Status p)) b =
    status-quiet (heard b.tx p)
    (work (confirms (after_status b.tx p).accounts.news b.pdcp) (all_confirmed (after_status b.tx p)) []) tt

arrives-quiet : (b : State) (pdu : List ℕ) → AreHeard (tells b (Arrive pdu))
unfolding arriving am_arriving
arrives-quiet b pdu = arrived-quiet (am_at pdu) b

pub arrivals_expire_none : (b : State) (pdu : List ℕ) → NoneExpires (tells b (Arrive pdu))
arrivals_expire_none b pdu = none-expires (tells b (Arrive pdu)) (arrives-quiet b pdu)

pub arrivals_tell_nothing : ArrivalsTellNothing
arrivals_tell_nothing b pdu s = tells-nothing (tells b (Arrive pdu)) s (arrives-quiet b pdu)

-- ---- the end of a life

last-quiet : (sdus : List (List ℕ)) (e : Ending) → AreHeard e.events → AreHeard (hears_last sdus e).events
last-quiet [] e q = q
last-quiet (sdu ∷ sdus) e q =
    last-quiet sdus (record {
      pdcp = after_hearing sdu Reestablished e.pdcp;
      events = e.events ++ heard_told sdu Reestablished e.pdcp;
    })
    (all_more IsHeard e.events (heard_told sdu Reestablished e.pdcp) q (heard-quiet sdu Reestablished e.pdcp))

drops-quiet : (lcid : ℕ) (sdus : List (List ℕ)) → AreHeard (map (λ sdu. events.Drop lcid lost.Handover) sdus)
drops-quiet lcid [] = tt
drops-quiet lcid (sdu ∷ sdus) = (tt, drops-quiet lcid sdus)

ends-quiet : (am : Bool) (sdus : List (List ℕ)) (e : Ending) → AreHeard e.events → AreHeard (ends_with am sdus e).events
ends-quiet true sdus e q = last-quiet sdus e q
ends-quiet false sdus e q =
    all_more IsHeard e.events (map (λ sdu. events.Drop e.pdcp.lcid lost.Handover) sdus) q (drops-quiet e.pdcp.lcid sdus)

stops-quiet : (b : State) → AreHeard (stopping (Am b))
unfolding stopping am_stopping
stops-quiet b = ends-quiet (is_am b.pdcp.kind) (finished b.rx) (record { pdcp = b.pdcp; events = [] }) tt

pub ends_tell_nothing : EndsTellNothing
ends_tell_nothing b s = tells-nothing (stopping (Am b)) s (stops-quiet b)
