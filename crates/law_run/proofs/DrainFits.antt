-- What each bearer of an end keeps within bounds: what PDCP has, the rest at RLC, and the limit of its configuration.
use Rattle.std.proofs.Common.{◌≡◌, ◌≤◌, ℕ, ◌^◌, inl, inr, Bool, true, false, Option, Result, Ok, Err, List}
use Rattle.std.proofs.Common.{[], refl, ap, sym, subst, ◌∙◌, arith}
use Rattle.bearer.specs.Bearer.{flow_of}
use Rattle.bearer.specs.declared.flow.Flow.{Flow}
use Rattle.bearer.specs.declared.flow.Flow.TheVariants.{Tm, Um, Am}
use Rattle.bearer.specs.Acknowledged.Hearing.{arrived_left as am_arrived_left, after_arrival as am_after_arrival}
use Rattle.bearer.specs.Acknowledged.Lives.{stopped as am_stopped, restarted as am_restarted}
use Rattle.bearer.specs.Acknowledged.State.{State as AmBearer, fresh as fresh_am}
use Rattle.bearer.specs.Acknowledged.Taking.{after_taking as am_after_taking}
use Rattle.bearer.specs.Acknowledged.Timing.{Ticking, after_expiry as am_after_expiry}
use Rattle.bearer.specs.Acknowledged.Timing.{expires_if, ticks, counts, has_ended, ticked as am_ticked}
use Rattle.bearer.specs.Hearing.{arrived as flow_arrived, expired as flow_expired, ticked as flow_ticked, with_discard}
use Rattle.bearer.specs.Lives.{stopped, restarted}
use Rattle.bearer.specs.Submitting.{submitted as flow_submitted}
use Rattle.bearer.specs.Taking.{after as flow_after}
use Rattle.bearer.specs.Unacknowledged.Hearing.{after_arrival as um_after_arrival, after_expiry as um_after_expiry}
use Rattle.bearer.specs.Unacknowledged.Hearing.{arrived_left as um_arrived_left, timed_left, counted_down}
use Rattle.bearer.specs.Unacknowledged.Hearing.{after_ticking}
use Rattle.bearer.specs.Unacknowledged.Lives.{stopped as um_stopped, restarted as um_restarted}
use Rattle.bearer.specs.Unacknowledged.State.{State as UmBearer, fresh as fresh_um}
use Rattle.bearer_pdcp.specs.Ends.{Ends}
use Rattle.bearer_types.specs.Configs.{IsConfig}
use Rattle.bearer_types.specs.declared.config.BearerConfig.{BearerConfig}
use Rattle.eps_sec.specs.declared.Keys.{Keys}
use Rattle.l2_node.specs.End.{End}
use Rattle.l2_node.specs.Finding.{find, bearer_at}
use Rattle.l2_num.specs.Timers.{ends}
use Rattle.l2_types.specs.declared.channel.Kind.{Kind}
use Rattle.l2_types.specs.declared.channel.Kind.TheVariants as kinds
use Rattle.l2_types.specs.declared.event.Clock.{Clock}
use Rattle.l2_types.specs.declared.event.Clock.TheVariants.{Poll, Reorder, Prohibit}
use Rattle.l2_types.specs.declared.side.Side.{Side}
use Rattle.pdcp_pdu.specs.Kinds.{IsKind}
use Rattle.pdcp_pdu.specs.declared.pdu.PdcpKind.{PdcpKind}
use Rattle.pdcp_pdu.specs.declared.pdu.PdcpKind.TheVariants as pdcp
use Rattle.pdcp_rx.specs.State.{width}
use Rattle.rlc_pdu.specs.declared.fault.RlcRefusal.{RlcRefusal}
use Rattle.rlc_pdu.specs.Pdus.{AcknowledgedPdu, Payload, Status}
use Rattle.rlc_pdu.specs.Reading.{am_at, umd_at}
use Rattle.rlc_um.specs.Sender.{Sender as UmSender}
use Rattle.law_run.specs.AnyCalls.Zero.{HasCome}
use Rattle.law_drain.specs.Left.{FitsConfig}
use Rattle.law_drain.proofs.Fitting.{Fits, heard-fits, ticked-fits, taken-fits, confirmed-fits, submitted-fits}
use Rattle.law_drain.proofs.Fitting.{discards-fit, restarted-fits, begun-fits, fits-report}
use Rattle.law_drain.proofs.Rests.{IsRest, um-rest}
use Rattle.law_node.specs.Holding.{flow}
use Rattle.law_node.proofs.Keeping.{IsKept, AllAre, at_is, reached_are}
use Rattle.law_node.proofs.Offers.{Offers}
use Rattle.law_node.proofs.Pdcp.{Passes, OfPdcp, pdcp_kept}
use Rattle.law_node.proofs.Ready.{WritesWell, ready_kept}
use Rattle.law_node.proofs.Senders.{um_arrives, um_expires, um_timed}

-- ---- PDCP

fits_pass : (lcid : ℕ) → Passes Fits
fits_pass lcid = record {
  heard = λ pdu cause e h. heard-fits pdu cause e h;
  ticked = λ e h. ticked-fits e h;
  taken = λ e h. taken-fits e h;
  confirms = λ e place h. confirmed-fits e place h;
  submits = λ e octets allowed h. submitted-fits e octets allowed h;
  discards = λ e ttis h. discards-fit e ttis h;
  restarts = λ e keys h. restarted-fits e keys h;
}

fits_kept : IsKept (λ (lcid : ℕ) (f : Flow). OfPdcp Fits f)
fits_kept = pdcp_kept (λ lcid. Fits) fits_pass begun-fits

narrow : (kind : PdcpKind) → IsKind kind → width kind ≤ 2 ^ 14
narrow pdcp.Srb known = omega arith
narrow (pdcp.Um bits) (inl e) = rw e (omega arith)
narrow (pdcp.Um bits) (inr e) = rw e (omega arith)
narrow (pdcp.Am bits) (inl e) = rw e (omega arith)
narrow (pdcp.Am bits) (inr e) = rw e (omega arith)

pub narrow_at : (kind : PdcpKind) (e : Ends) → IsKind kind → Offers kind e → width e.rx.kind ≤ 2 ^ 14
narrow_at kind e known o = subst (λ (k : PdcpKind). width k ≤ 2 ^ 14) (sym o.rx_kind) (narrow kind known)

-- ---- RLC

abbrev pub RlcFits : Flow → Type 0
RlcFits (Tm b) = Unit {0}
RlcFits (Um b) = IsRest b.tx.waiting.sdus
RlcFits (Am b) = b.tx_config.max_retx ≤ 32

same_rest : (b d : UmBearer) → d.tx ≡ b.tx → IsRest b.tx.waiting.sdus → IsRest d.tx.waiting.sdus
same_rest b d e r = subst (λ (s : UmSender). IsRest s.waiting.sdus) (sym e) r

-- an acknowledged bearer keeps its configuration
arrived_config : (r : Result AcknowledgedPdu RlcRefusal) (b : AmBearer)
    → (am_arrived_left r b).tx_config ≡ b.tx_config
arrived_config (Err fault) b = refl
arrived_config (Ok (Payload pdu)) b = refl
arrived_config (Ok (Status pdu)) b = refl

expired_config : (clock : Clock) (b : AmBearer) → (am_after_expiry b clock).tx_config ≡ b.tx_config
unfolding am_after_expiry
expired_config Poll b = refl
expired_config Reorder b = refl
expired_config Prohibit b = refl

counted_config : (clock : Clock) (b : AmBearer) → (counts clock b).tx_config ≡ b.tx_config
counted_config Poll b = refl
counted_config Reorder b = refl
counted_config Prohibit b = refl

ended_config : (t : Bool) (clock : Clock) (x : Ticking) → (expires_if t clock x).bearer.tx_config ≡ x.bearer.tx_config
ended_config true clock x = expired_config clock x.bearer
ended_config false clock x = refl

ticks_config : (clock : Clock) (x : Ticking) → (ticks clock x).bearer.tx_config ≡ x.bearer.tx_config
ticks_config clock x =
    ended_config (has_ended clock x.bearer) clock (record x { bearer = counts clock x.bearer })
    ∙ counted_config clock x.bearer

ticked_config : (b : AmBearer) → (am_ticked b).bearer.tx_config ≡ b.tx_config
unfolding am_ticked
ticked_config b =
    let x : Ticking = record { bearer = b; events = [] } in
    let y = ticks Poll x in
    ticks_config Prohibit (ticks Reorder y) ∙ ticks_config Reorder y ∙ ticks_config Poll x

limited : (b d : AmBearer) → d.tx_config ≡ b.tx_config → b.tx_config.max_retx ≤ 32 → d.tx_config.max_retx ≤ 32
limited b d e h = let same = ap (λ (c : _). c.max_retx) e in omega (arith, same, h)

rlc_begins : (k : Kind) (c : BearerConfig) (keys : Keys) (side : Side) → IsConfig c → RlcFits (flow_of k c keys side)
unfolding fresh_um fresh_am
rlc_begins kinds.Tm c keys side g = tt
rlc_begins kinds.Srb c keys side g = g.max_retx.1
rlc_begins kinds.Um c keys side g = (omega arith, omega arith)
rlc_begins kinds.Am c keys side g = g.max_retx.1

rlc_submits : (f : Flow) (octets : List ℕ) → RlcFits f → RlcFits (flow_submitted f octets)
unfolding flow_submitted
rlc_submits (Tm b) octets h = tt
rlc_submits (Um b) octets h = h
rlc_submits (Am b) octets h = h

rlc_discards : (f : Flow) (ttis : ℕ) → RlcFits f → RlcFits (with_discard f ttis)
unfolding with_discard
rlc_discards (Tm b) ttis h = tt
rlc_discards (Um b) ttis h = h
rlc_discards (Am b) ttis h = h

rlc_takes : (lcid : ℕ) (f : Flow) (share : ℕ) (held : Option ℕ) → WritesWell lcid f → OfPdcp Fits f → RlcFits f
    → RlcFits (flow_after f share held)
unfolding flow_after am_after_taking
rlc_takes lcid (Tm b) share held w p h = tt
rlc_takes lcid (Um b) share held w p h =
    let few = p.report (narrow_at w.kind b.pdcp w.known w.offers') in
    um-rest b share held (record { sdus = p.sdus; report = omega (arith, few) }) h
rlc_takes lcid (Am b) share held w p h = h

rlc_arrives : (f : Flow) (pdu : List ℕ) → RlcFits f → RlcFits (flow_arrived f pdu)
unfolding flow_arrived um_after_arrival am_after_arrival
rlc_arrives (Tm b) pdu h = tt
rlc_arrives (Um b) pdu h =
    same_rest b (um_arrived_left (umd_at b.bits pdu) b) (um_arrives (umd_at b.bits pdu) b).tx_is h
rlc_arrives (Am b) pdu h = limited b (am_arrived_left (am_at pdu) b) (arrived_config (am_at pdu) b) h

rlc_expires : (f : Flow) (clock : Clock) → RlcFits f → RlcFits (flow_expired f clock)
unfolding flow_expired
rlc_expires (Tm b) clock h = tt
rlc_expires (Um b) clock h = same_rest b (um_after_expiry b clock) (um_expires clock b).tx_is h
rlc_expires (Am b) clock h = limited b (am_after_expiry b clock) (expired_config clock b) h

rlc_ticks : (f : Flow) → RlcFits f → RlcFits (flow_ticked f)
unfolding flow_ticked after_ticking
rlc_ticks (Tm b) h = tt
rlc_ticks (Um b) h =
    same_rest b (timed_left (ends b.rx.clock) (counted_down b)) (um_timed (ends b.rx.clock) (counted_down b)).tx_is h
rlc_ticks (Am b) h = limited b (am_ticked b).bearer (ticked_config b) h

rlc_moves : (f : Flow) (keys : Keys) → RlcFits f → RlcFits (restarted (stopped f) keys)
unfolding restarted stopped um_restarted um_stopped am_restarted am_stopped
rlc_moves (Tm b) keys h = tt
rlc_moves (Um b) keys h = (omega arith, omega arith)
rlc_moves (Am b) keys h = h

-- ---- all of it, at each bearer of an end

abbrev pub FitsWell : ℕ → Flow → Type 0
FitsWell lcid f = WritesWell lcid f × (OfPdcp Fits f × RlcFits f)

pub well_kept : IsKept FitsWell
well_kept = record {
  idle = (ready_kept.idle, (tt, tt));
  begins = λ c keys side g.
      (ready_kept.begins c keys side g, (fits_kept.begins c keys side g, rlc_begins c.kind c keys side g));
  submits = λ lcid f octets e p.
      (ready_kept.submits lcid f octets e p.0, (fits_kept.submits lcid f octets e p.1.0, rlc_submits f octets p.1.1));
  discards = λ lcid f ttis p.
      (ready_kept.discards lcid f ttis p.0, (fits_kept.discards lcid f ttis p.1.0, rlc_discards f ttis p.1.1));
  takes = λ lcid f share held most p. (
    ready_kept.takes lcid f share held most p.0,
    (fits_kept.takes lcid f share held most p.1.0, rlc_takes lcid f share held p.0 p.1.0 p.1.1),
  );
  arrives = λ lcid f pdu p.
      (ready_kept.arrives lcid f pdu p.0, (fits_kept.arrives lcid f pdu p.1.0, rlc_arrives f pdu p.1.1));
  expires = λ lcid f clock p.
      (ready_kept.expires lcid f clock p.0, (fits_kept.expires lcid f clock p.1.0, rlc_expires f clock p.1.1));
  ticks = λ lcid f p. (ready_kept.ticks lcid f p.0, (fits_kept.ticks lcid f p.1.0, rlc_ticks f p.1.1));
  moves = λ lcid f keys p.
      (ready_kept.moves lcid f keys p.0, (fits_kept.moves lcid f keys p.1.0, rlc_moves f keys p.1.1));
}

fits_config : (lcid : ℕ) (f : Flow) → FitsWell lcid f → FitsConfig f
fits_config lcid (Tm b) p = tt
fits_config lcid (Um b) p =
    (fits-report b.pdcp p.1.0 (narrow_at p.0.kind b.pdcp p.0.known p.0.offers'), p.1.1.1)
fits_config lcid (Am b) p =
    (fits-report b.pdcp p.1.0 (narrow_at p.0.kind b.pdcp p.0.known p.0.offers'), p.1.1)

pub come_fits : (side : Side) (e : End) (l : ℕ) → HasCome side e → FitsConfig (flow l e)
come_fits side e l h =
    let at = find l e.bearers in
    let all = subst (λ (x : End). AllAre FitsWell x.bearers) (sym h.end_is)
    (reached_are FitsWell well_kept side h.maximum h.reports h.calls h.given) in
    fits_config (bearer_at e.bearers at).channel.lcid (bearer_at e.bearers at).state.flow
    (at_is FitsWell e.bearers at well_kept all)
