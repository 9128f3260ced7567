-- No call of a bearer changes the mode of its RLC, or the kind of its PDCP.
use Rattle.std.proofs.Common.{◌≡◌, ℕ, Bool, true, false, Result, Ok, Err, List, [], ◌∷◌, refl, ap, ◌∙◌}
use Rattle.bearer.specs.declared.flow.Flow.{Flow}
use Rattle.bearer.specs.declared.flow.Flow.TheVariants.{Tm, Um, Am}
use Rattle.bearer.specs.Hearing.{arrived, expired, ticked, with_discard}
use Rattle.bearer.specs.Lives.{stopped, restarted}
use Rattle.bearer.specs.Submitting.{submitted}
use Rattle.bearer.specs.Taking.{after as taken}
use Rattle.law_bearer.specs.AnyBearer.Calls.{Call, Submit, Take, Arrive, Expire, Tick, SetDiscard, Step, Calls, Restart}
use Rattle.law_bearer.specs.AnyBearer.Calls.{after, goes, run_bearer}
use Rattle.bearer.specs.Unacknowledged.Hearing.{arrived_left, after_arrival, expiry_left, after_expiry, timed_left}
use Rattle.bearer.specs.Unacknowledged.Hearing.{counted_down, after_ticking}
use Rattle.bearer.specs.Unacknowledged.Lives.{stopped as um_stopped, restarted as um_restarted}
use Rattle.bearer.specs.Unacknowledged.State.{State}
use Rattle.bearer.specs.Unacknowledged.Taking.{after_taking}
use Rattle.l2_num.specs.Timers.{ends}
use Rattle.l2_types.specs.declared.event.Clock.{Clock}
use Rattle.l2_types.specs.declared.event.Clock.TheVariants.{Poll, Reorder, Prohibit}
use Rattle.law_node.specs.Names.{mode}
use Rattle.promises.specs.Names.{Unacknowledged, Acknowledged}
use Rattle.law_node.proofs.KindsStay.{IsOfKind, kind_passes}
use Rattle.law_node.proofs.Pdcp.{arrives as kind_arrives, expires as kind_expires, ticks_of, takes_of, moves_of}
use Rattle.pdcp_pdu.specs.declared.pdu.PdcpKind.{PdcpKind}
use Rattle.rlc_pdu.specs.declared.Expired.{Expired}
use Rattle.rlc_pdu.specs.declared.Expired.TheVariants.{Done, NotRunning}
use Rattle.rlc_pdu.specs.declared.RlcRefusal.{RlcRefusal}
use Rattle.rlc_pdu.specs.Pdus.{UmdPdu}
use Rattle.rlc_pdu.specs.Reading.{umd_at}
use Rattle.rlc_um.specs.Receiver.{expiring}

-- ---- the numbers of an unacknowledged bearer keep their bits

arrives : (r : Result UmdPdu RlcRefusal) (s : State) → (arrived_left r s).bits ≡ s.bits
arrives (Err fault) s = refl
arrives (Ok pdu) s = refl

expires : (x : Expired) (s : State) → (expiry_left x s).bits ≡ s.bits
expires NotRunning s = refl
expires (Done again') s = refl

clocks : (clock : Clock) (s : State) → (after_expiry s clock).bits ≡ s.bits
unfolding after_expiry
clocks Poll s = refl
clocks Reorder s = expires (expiring s.rx) s
clocks Prohibit s = refl

times : (b : Bool) (s : State) → (timed_left b s).bits ≡ s.bits
times true s = clocks Reorder s
times false s = refl

-- ---- a bearer, of which the kind of PDCP stays

um_mode : (b d : State) → d.bits ≡ b.bits → d.pdcp.kind ≡ b.pdcp.kind → mode (Um d) ≡ mode (Um b)
um_mode b d bits kind = ap (λ (n : ℕ). Unacknowledged n d.pdcp.kind) bits
    ∙ ap (λ (k : PdcpKind). Unacknowledged b.bits k) kind

call_mode : (c : Call) (f : Flow) → mode (after f c) ≡ mode f
unfolding submitted taken arrived expired ticked with_discard after_arrival after_ticking after_taking
call_mode (Submit sdu) (Tm b) = refl
call_mode (Submit sdu) (Um b) = refl
call_mode (Submit sdu) (Am b) = refl
call_mode (Take share held) (Tm b) = refl
call_mode (Take share held) (Um b) =
    ap (λ (k : PdcpKind). Unacknowledged b.bits k)
    (takes_of (IsOfKind b.pdcp.kind) (kind_passes b.pdcp.kind) (Um b) share held refl)
call_mode (Take share held) (Am b) =
    ap Acknowledged (takes_of (IsOfKind b.pdcp.kind) (kind_passes b.pdcp.kind) (Am b) share held refl)
call_mode (Arrive pdu) (Tm b) = refl
call_mode (Arrive pdu) (Um b) =
    um_mode b (arrived_left (umd_at b.bits pdu) b) (arrives (umd_at b.bits pdu) b)
    (kind_arrives (IsOfKind b.pdcp.kind) (kind_passes b.pdcp.kind) (Um b) pdu refl)
call_mode (Arrive pdu) (Am b) =
    ap Acknowledged (kind_arrives (IsOfKind b.pdcp.kind) (kind_passes b.pdcp.kind) (Am b) pdu refl)
call_mode (Expire clock) (Tm b) = refl
call_mode (Expire clock) (Um b) =
    um_mode b (after_expiry b clock) (clocks clock b)
    (kind_expires (IsOfKind b.pdcp.kind) (kind_passes b.pdcp.kind) (Um b) clock refl)
call_mode (Expire clock) (Am b) =
    ap Acknowledged (kind_expires (IsOfKind b.pdcp.kind) (kind_passes b.pdcp.kind) (Am b) clock refl)
call_mode Tick (Tm b) = refl
call_mode Tick (Um b) =
    um_mode b (after_ticking b) (times (ends b.rx.clock) (counted_down b))
    (ticks_of (IsOfKind b.pdcp.kind) (kind_passes b.pdcp.kind) (Um b) refl)
call_mode Tick (Am b) = ap Acknowledged (ticks_of (IsOfKind b.pdcp.kind) (kind_passes b.pdcp.kind) (Am b) refl)
call_mode (SetDiscard ttis) (Tm b) = refl
call_mode (SetDiscard ttis) (Um b) = refl
call_mode (SetDiscard ttis) (Am b) = refl

step_mode : (x : Step) (f : Flow) → mode (goes f x) ≡ mode f
unfolding stopped restarted um_stopped um_restarted
step_mode (Calls c) f = call_mode c f
step_mode (Restart keys) (Tm b) = refl
step_mode (Restart keys) (Um b) =
    ap (λ (k : PdcpKind). Unacknowledged b.bits k)
    (moves_of (IsOfKind b.pdcp.kind) (kind_passes b.pdcp.kind) (Um b) keys refl)
step_mode (Restart keys) (Am b) =
    ap Acknowledged (moves_of (IsOfKind b.pdcp.kind) (kind_passes b.pdcp.kind) (Am b) keys refl)

pub keeps_mode : (xs : List Step) (f : Flow) → mode (run_bearer xs f) ≡ mode f
keeps_mode [] f = refl
keeps_mode (x ∷ xs) f = keeps_mode xs (goes f x) ∙ step_mode x f
