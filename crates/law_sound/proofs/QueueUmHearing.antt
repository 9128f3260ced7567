-- An unacknowledged bearer that hears: that leaves what is kept of the flow that it sends, and the bearer stands beside
-- it.
use Rattle.std.proofs.Common.{◌≡◌, ℕ, Bool, true, false, if◌then◌else◌, List, [], ◌∷◌, ◌++◌, Option, Some, None, Result}
use Rattle.std.proofs.Common.{Ok, Err, unwrap_or, refl, ap, sym, subst, ◌∙◌}
use Rattle.std.specs.List.{AllByRecursion}
use Rattle.bearer.specs.Unacknowledged.Hearing.{Hearing, hears, hears_all, up_left, up_told, arrived_left, arrived_told}
use Rattle.bearer.specs.Unacknowledged.Hearing.{expiry_left, expiry_told, clock_left, clock_told, after_expiry}
use Rattle.bearer.specs.Unacknowledged.Hearing.{expiry as um_expiry, timed_left, timed_told, told_of}
use Rattle.bearer.specs.Unacknowledged.State.{State}
use Rattle.bearer_pdcp.specs.Ends.{Ends}
use Rattle.bearer_pdcp.specs.Hearing.{is_applied, ups, got_told, with_arrived, heard_told}
use Rattle.bearer_pdcp.specs.Telling.{turned_told, landed_told, expired_told}
use Rattle.bearer_types.specs.declared.event.Event.{Event}
use Rattle.bearer_types.specs.declared.event.Event.TheVariants as events
use Rattle.l2_types.specs.declared.event.Clock.{Clock}
use Rattle.l2_types.specs.declared.event.Clock.TheVariants.{Poll, Reorder, Prohibit}
use Rattle.l2_types.specs.declared.event.Lost.TheVariants as lost
use Rattle.pdcp_pdu.specs.declared.PdcpKind.TheVariants as pdcp
use Rattle.pdcp_rx.specs.State.{got}
use Rattle.pdcp_rx.specs.declared.got.Cause.{Cause}
use Rattle.pdcp_rx.specs.declared.got.Cause.TheVariants.{Arrived}
use Rattle.pdcp_rx.specs.declared.Got.{Got}
use Rattle.pdcp_rx.specs.declared.Got.TheVariants as got_as
use Rattle.pdu_show.specs.declared.kinds.Layout.TheVariants as layouts
use Rattle.rlc_pdu.specs.declared.Expired.{Expired as ExpiredAs}
use Rattle.rlc_pdu.specs.declared.Expired.TheVariants.{Done, NotRunning}
use Rattle.rlc_pdu.specs.declared.Landed.{Landed}
use Rattle.rlc_pdu.specs.declared.Landed.TheVariants.{Kept, Repeat, Outside, Clash}
use Rattle.rlc_pdu.specs.declared.Turned.{Turned}
use Rattle.rlc_pdu.specs.declared.RlcRefusal.{RlcRefusal}
use Rattle.rlc_pdu.specs.Pdus.{UmdPdu}
use Rattle.rlc_um.specs.Receiver.{State as Receiver, landing, turning, arrival, expiring, expired as rx_expired}
use Rattle.rlc_um.specs.Sender.{Sender}
use Rattle.journal_sent.specs.RightSent.{Flow}
use Rattle.law_bearer.proofs.AnyBearer.SenderCalls.{all_then}
use Rattle.law_sound.proofs.QueueBeside.{IsQueueOf, IsUnackedBy, AreRightHere, IsRightHere, queue_by, queue_over}
use Rattle.law_sound.proofs.QueuePdcp.{queue_heard}

-- ---- events one behind the other

pub queue_then : (xs ys : List Event) (f : Flow) → queue_over (xs ++ ys) f ≡ queue_over ys (queue_over xs f)
queue_then [] ys f = refl
queue_then (x ∷ xs) ys f = queue_then xs ys (queue_by x f)

pub right_then : (xs ys : List Event) (f : Flow) → AreRightHere xs f → AreRightHere ys (queue_over xs f)
    → AreRightHere (xs ++ ys) f
right_then [] ys f h k = k
right_then (x ∷ xs) ys f h k = (h.0, right_then xs ys (queue_by x f) h.1 k)

-- ---- events that leave the flow

abbrev pub IsStill : Event → Type 0
IsStill (events.Take lcid count len) = ⊥
IsStill (events.Report lcid fms bitmap) = ⊥
IsStill (events.Discard lcid len) = ⊥
IsStill event = Unit {0}

still_leaves : (e : Event) (f : Flow) → IsStill e → queue_by e f ≡ f
still_leaves (events.Take lcid count len) f h = absurd h
still_leaves (events.Report lcid fms bitmap) f h = absurd h
still_leaves (events.Discard lcid len) f h = absurd h
still_leaves e f h = refl

still_right : (e : Event) (f : Flow) → IsStill e → IsRightHere e f
still_right (events.Take lcid count len) f h = absurd h
still_right (events.Report lcid fms bitmap) f h = absurd h
still_right (events.Discard lcid len) f h = absurd h
still_right e f h = tt

pub all_leave : (es : List Event) (f : Flow) → AllByRecursion IsStill es → queue_over es f ≡ f
all_leave [] f h = refl
all_leave (e ∷ es) f h = ap (queue_over es) (still_leaves e f h.0) ∙ all_leave es f h.1

pub all_right : (es : List Event) (f : Flow) → AllByRecursion IsStill es → AreRightHere es f
all_right [] f h = tt
all_right (e ∷ es) f h =
    (still_right e f h.0, subst (AreRightHere es) (sym (still_leaves e f h.0)) (all_right es f h.1))

-- ---- what is heard leaves it

ups_still : (lcid : ℕ) (sdus : List (List ℕ)) → AllByRecursion IsStill (ups lcid sdus)
ups_still lcid [] = tt
ups_still lcid (sdu ∷ sdus) = (tt, ups_still lcid sdus)

report_still : (b : Bool) (lcid : ℕ) → AllByRecursion IsStill (if b then [] else events.Drop lcid lost.Report ∷ [])
report_still true lcid = tt
report_still false lcid = (tt, tt)

got_still : (g : Got) (cause : Cause) (e : Ends) → AllByRecursion IsStill (got_told g cause e)
got_still got_as.Up cause e = ups_still e.lcid e.rx.ready
got_still got_as.Stored cause e = ups_still e.lcid e.rx.ready
got_still got_as.Old cause e = (tt, tt)
got_still got_as.OutOfRange cause e = (tt, tt)
got_still (got_as.Integrity found wanted) cause e = (tt, tt)
got_still (got_as.Report fms bitmap) cause e = report_still (is_applied e cause fms) e.lcid
got_still (got_as.Unreadable fault) cause e = (tt, tt)

pub heard_still : (pdu : List ℕ) (cause : Cause) (e : Ends) → AllByRecursion IsStill (heard_told pdu cause e)
unfolding heard_told
heard_still pdu cause e = got_still (got e.rx pdu cause) cause (with_arrived pdu cause e)

maybe_still : (b : Bool) (e : Event) → IsStill e → AllByRecursion IsStill (if b then e ∷ [] else [])
maybe_still true e h = (h, tt)
maybe_still false e h = tt

turned_still : (lcid : ℕ) (t : Turned) → AllByRecursion IsStill (turned_told lcid t)
turned_still lcid t =
    all_then IsStill _ _ (maybe_still t.stopped (events.Stop lcid Reorder) tt)
    (maybe_still t.started (events.Start lcid Reorder) tt)

pub landed_still : (lcid : ℕ) (x : Landed) (t : Turned) → AllByRecursion IsStill (landed_told lcid x t)
landed_still lcid Kept t = turned_still lcid t
landed_still lcid Repeat t = (tt, tt)
landed_still lcid Outside t = (tt, tt)
landed_still lcid Clash t = (tt, tt)

pub expired_still : (lcid : ℕ) (clock : Clock) (again : Bool) → AllByRecursion IsStill (expired_told lcid clock again)
expired_still lcid clock again = (tt, maybe_still again (events.Start lcid clock) tt)

-- ---- a bearer that hears: its sender of RLC stays

pub record Hears (told : List Event) (d : State) (f : Flow) : Type 0 where
  pub still : AllByRecursion IsStill told
  pub behind : IsUnackedBy d f

-- with another PDCP, whose queue is the same
pub with_pdcp : (b d : State) (f : Flow) (h : IsUnackedBy b f) → d.bits ≡ b.bits → d.tx ≡ b.tx
    → IsQueueOf (pdcp.Um h.bits) d.pdcp f → IsUnackedBy d f
with_pdcp b d f h bits tx queue = record {
  bits = h.bits;
  layout_is = h.layout_is ∙ ap (λ (n : ℕ). layouts.Um n (pdcp.Um h.bits)) (sym bits);
  known = rw bits h.known;
  sender_bits = ap (λ (s : Sender). s.bits) tx ∙ h.sender_bits ∙ sym bits;
  queue = queue;
  streams = rw tx h.streams;
}

pub hears_queue : (bits : ℕ) (sdus : List (List ℕ)) (cause : Cause) (h : Hearing) (f : Flow)
    → IsQueueOf (pdcp.Um bits) h.pdcp f → IsQueueOf (pdcp.Um bits) (hears_all sdus cause h).pdcp f
hears_queue bits [] cause h f q = q
hears_queue bits (sdu ∷ sdus) cause h f q =
    hears_queue bits sdus cause (hears sdu cause h) f (queue_heard (pdcp.Um bits) refl sdu cause h.pdcp f q)

pub hears_still : (sdus : List (List ℕ)) (cause : Cause) (h : Hearing) → AllByRecursion IsStill h.events
    → AllByRecursion IsStill (hears_all sdus cause h).events
hears_still [] cause h q = q
hears_still (sdu ∷ sdus) cause h q =
    hears_still sdus cause (hears sdu cause h)
    (all_then IsStill h.events (heard_told sdu cause h.pdcp) q (heard_still sdu cause h.pdcp))

pub ups_heard : (r : Receiver) (told : List Event) (b : State) (f : Flow) → AllByRecursion IsStill told
    → IsUnackedBy b f → Hears (up_told r told b) (up_left r told b) f
ups_heard r told b f still h =
    let start : Hearing = record { pdcp = b.pdcp; events = told } in
    record {
      still = hears_still r.joined.ready Arrived start still;
      behind = with_pdcp b (up_left r told b) f h refl refl
          (hears_queue h.bits r.joined.ready Arrived start f h.queue);
    }

pub arrival_heard : (read : Result UmdPdu RlcRefusal) (b : State) (f : Flow) → IsUnackedBy b f
    → Hears (arrived_told read b) (arrived_left read b) f
arrival_heard (Err fault) b f h = record { still = (tt, tt); behind = h }
arrival_heard (Ok pdu) b f h =
    ups_heard (arrival pdu b.rx) (landed_told b.pdcp.lcid (landing pdu b.rx) (turning pdu b.rx)) b f
    (landed_still b.pdcp.lcid (landing pdu b.rx) (turning pdu b.rx)) h

reorder_heard : (x : ExpiredAs) (b : State) (f : Flow) → IsUnackedBy b f
    → Hears (unwrap_or (expiry_told x b) []) (expiry_left x b) f
reorder_heard NotRunning b f h = record { still = tt; behind = h }
reorder_heard (Done again) b f h =
    ups_heard (rx_expired b.rx) (expired_told b.pdcp.lcid Reorder again) b f
    (expired_still b.pdcp.lcid Reorder again) h

clock_heard : (clock : Clock) (b : State) (f : Flow) → IsUnackedBy b f
    → Hears (unwrap_or (clock_told clock b) []) (clock_left clock b) f
clock_heard Poll b f h = record { still = tt; behind = h }
clock_heard Reorder b f h = reorder_heard (expiring b.rx) b f h
clock_heard Prohibit b f h = record { still = tt; behind = h }

pub expiry_heard : (clock : Clock) (b : State) (f : Flow) → IsUnackedBy b f
    → Hears (unwrap_or (um_expiry b clock) []) (after_expiry b clock) f
unfolding um_expiry after_expiry
expiry_heard clock b f h = clock_heard clock b f h

told_as : (o : Option (List Event)) → told_of o ≡ unwrap_or o []
told_as None = refl
told_as (Some told) = refl

pub timed_heard : (due : Bool) (b : State) (f : Flow) → IsUnackedBy b f
    → Hears (timed_told due b) (timed_left due b) f
timed_heard true b f h =
    let x = expiry_heard Reorder b f h in
    record { still = subst (AllByRecursion IsStill) (sym (told_as (um_expiry b Reorder))) x.still; behind = x.behind }
timed_heard false b f h = record { still = tt; behind = h }
