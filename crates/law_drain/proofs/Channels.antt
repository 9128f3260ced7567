-- The measure of a channel never rises in a round of a drain.
use Rattle.std.proofs.Common.{◌≡◌, ◌≤◌, List, [], ◌∷◌, refl, ap, sym, subst, ◌∙◌, arith}
use Rattle.std.specs.List.{AllByRecursion}
use Rattle.bearer.specs.Acknowledged.State.{State}
use Rattle.bearer.specs.Hearing.{arrived, expired, ticked, with_discard}
use Rattle.bearer.specs.Submitting.{submitted}
use Rattle.bearer.specs.Taking.{after as taken_from}
use Rattle.bearer.specs.Unacknowledged.State.{State as UmState}
use Rattle.bearer.specs.declared.flow.Flow.{Flow}
use Rattle.bearer.specs.declared.flow.Flow.TheVariants.{Tm, Um, Am}
use Rattle.rlc_um.specs.Transparent.{Transparent}
use Rattle.law_bearer.specs.AnyBearer.Calls.{Call, Submit, Take, Arrive, Expire, Tick, SetDiscard, after, after_all}
use Rattle.law_bearer.specs.AnyBearer.Rounds.{Round, IsRound, writes_in, arrivals, nb_calls, ue_calls}
use Rattle.law_drain.specs.Bearer.{IsOfDrain}
use Rattle.law_drain.specs.Channels.{Measured, OffersIn, FallsTo}
use Rattle.law_drain.specs.Ends.{OffersOctets, Stands}
use Rattle.law_drain.specs.Others.{waits_in}
use Rattle.law_drain.proofs.Ends.{rounds_cost_both, stands-on, arrivals-other, nb-round, ue-round}
use Rattle.law_drain.proofs.Octets.{others-give}
use Rattle.law_drain.proofs.Others.{others_never_rise}

-- ---- what waits, over calls of a drain

pub all-fall : (cs : List Call) (f : Flow) → AllByRecursion IsOfDrain cs → waits_in (after_all f cs) ≤ waits_in f
all-fall [] f h = omega arith
all-fall (c ∷ cs) f h = omega (arith, all-fall cs (after f c) h.1, others_never_rise f c h.0)

-- ---- a bearer keeps its mode

pub record IsTm (f : Flow) : Type 0 where
  pub bearer : Transparent
  pub is : f ≡ Tm bearer

pub record IsUm (f : Flow) : Type 0 where
  pub bearer : UmState
  pub is : f ≡ Um bearer

record IsAm (f : Flow) : Type 0 where
  bearer : State
  is : f ≡ Am bearer

tm-after : (b : Transparent) (c : Call) → IsTm (after (Tm b) c)
unfolding submitted taken_from arrived expired ticked with_discard
tm-after b (Submit sdu) = record { bearer = _; is = refl }
tm-after b (Take share held) = record { bearer = _; is = refl }
tm-after b (Arrive pdu) = record { bearer = _; is = refl }
tm-after b (Expire clock) = record { bearer = _; is = refl }
tm-after b Tick = record { bearer = _; is = refl }
tm-after b (SetDiscard ttis) = record { bearer = _; is = refl }

um-after : (b : UmState) (c : Call) → IsUm (after (Um b) c)
unfolding submitted taken_from arrived expired ticked with_discard
um-after b (Submit sdu) = record { bearer = _; is = refl }
um-after b (Take share held) = record { bearer = _; is = refl }
um-after b (Arrive pdu) = record { bearer = _; is = refl }
um-after b (Expire clock) = record { bearer = _; is = refl }
um-after b Tick = record { bearer = _; is = refl }
um-after b (SetDiscard ttis) = record { bearer = _; is = refl }

am-after : (b : State) (c : Call) → IsAm (after (Am b) c)
unfolding submitted taken_from arrived expired ticked with_discard
am-after b (Submit sdu) = record { bearer = _; is = refl }
am-after b (Take share held) = record { bearer = _; is = refl }
am-after b (Arrive pdu) = record { bearer = _; is = refl }
am-after b (Expire clock) = record { bearer = _; is = refl }
am-after b Tick = record { bearer = _; is = refl }
am-after b (SetDiscard ttis) = record { bearer = _; is = refl }

pub tm-stays : (cs : List Call) (b : Transparent) → IsTm (after_all (Tm b) cs)
tm-stays [] b = record { bearer = b; is = refl }
tm-stays (c ∷ cs) b =
    let one = tm-after b c in
    let rest' = tm-stays cs one.bearer in
    record { bearer = rest'.bearer; is = ap (λ (f : Flow). after_all f cs) one.is ∙ rest'.is }

pub um-stays : (cs : List Call) (b : UmState) → IsUm (after_all (Um b) cs)
um-stays [] b = record { bearer = b; is = refl }
um-stays (c ∷ cs) b =
    let one = um-after b c in
    let rest' = um-stays cs one.bearer in
    record { bearer = rest'.bearer; is = ap (λ (f : Flow). after_all f cs) one.is ∙ rest'.is }

am-stays : (cs : List Call) (b : State) → IsAm (after_all (Am b) cs)
am-stays [] b = record { bearer = b; is = refl }
am-stays (c ∷ cs) b =
    let one = am-after b c in
    let rest' = am-stays cs one.bearer in
    record { bearer = rest'.bearer; is = ap (λ (f : Flow). after_all f cs) one.is ∙ rest'.is }

-- ---- a round

record Waits (nb ue nb' ue' : Flow) : Type 0 where
  nb-falls : waits_in nb' ≤ waits_in nb
  ue-falls : waits_in ue' ≤ waits_in ue

waits : (r : Round) (nb ue nb' ue' : Flow) → IsRound r nb ue nb' ue' → Waits nb ue nb' ue'
waits r nb ue nb' ue' is = record {
  nb-falls = subst (λ (f : Flow). waits_in f ≤ waits_in nb) (sym is.nb_is)
      (all-fall (nb_calls r nb ue) nb (nb-round r nb ue));
  ue-falls = subst (λ (f : Flow). waits_in f ≤ waits_in ue) (sym is.ue_is)
      (all-fall (ue_calls r nb ue) ue (ue-round r nb ue));
}

acknowledged : (r : Round) (nb ue : State) (nb' ue' : Flow) → IsRound r (Am nb) (Am ue) nb' ue' → OffersOctets nb
    → OffersIn (after_all (Am ue) (arrivals (writes_in r.down (Am nb)))) → (h : Stands nb × Stands ue)
    → FallsTo (Am nb) (Am ue) nb' ue' h
acknowledged r nb ue nb' ue' is nb-offers ue-offers h =
    let came = arrivals (writes_in r.down (Am nb)) in
    let mid = (stands-on came ue h.1 (others-give came ue (arrivals-other (writes_in r.down (Am nb))))).left in
    let x = rounds_cost_both r nb ue h.0 h.1 nb-offers (subst OffersIn mid ue-offers) in
    subst (λ (f : Flow). FallsTo (Am nb) (Am ue) f ue' h) (x.is.nb_is ∙ sym is.nb_is)
    (subst (λ (f : Flow). FallsTo (Am nb) (Am ue) (Am x.nb') f h) (x.is.ue_is ∙ sym is.ue_is)
    (record {
      left = (x.nb_stands, x.ue_stands);
      falls = omega (arith, x.down.falls, x.up.falls);
    }))

pub channels_never_rise : (r : Round) (nb ue nb' ue' : Flow) → IsRound r nb ue nb' ue' → OffersIn nb
    → OffersIn (after_all ue (arrivals (writes_in r.down nb))) → (h : Measured nb ue) → FallsTo nb ue nb' ue' h
channels_never_rise r (Tm b) ue nb' ue' is nb-offers ue-offers h =
    let x = tm-stays (nb_calls r (Tm b) ue) b in
    let w = waits r (Tm b) ue (Tm x.bearer) ue' (record { nb_is = sym x.is; ue_is = is.ue_is }) in
    subst (λ (f : Flow). FallsTo (Tm b) ue f ue' h) (sym x.is ∙ sym is.nb_is)
    (record { left = tt; falls = omega (arith, w.nb-falls, w.ue-falls) })
channels_never_rise r (Um b) ue nb' ue' is nb-offers ue-offers h =
    let x = um-stays (nb_calls r (Um b) ue) b in
    let w = waits r (Um b) ue (Um x.bearer) ue' (record { nb_is = sym x.is; ue_is = is.ue_is }) in
    subst (λ (f : Flow). FallsTo (Um b) ue f ue' h) (sym x.is ∙ sym is.nb_is)
    (record { left = tt; falls = omega (arith, w.nb-falls, w.ue-falls) })
channels_never_rise r (Am b) (Tm d) nb' ue' is nb-offers ue-offers h =
    let x = am-stays (nb_calls r (Am b) (Tm d)) b in
    let y = tm-stays (ue_calls r (Am b) (Tm d)) d in
    let w = waits r (Am b) (Tm d) (Am x.bearer) (Tm y.bearer) (record { nb_is = sym x.is; ue_is = sym y.is }) in
    subst (λ (f : Flow). FallsTo (Am b) (Tm d) f ue' h) (sym x.is ∙ sym is.nb_is)
    (subst (λ (f : Flow). FallsTo (Am b) (Tm d) (Am x.bearer) f h) (sym y.is ∙ sym is.ue_is)
    (record { left = tt; falls = omega (arith, w.nb-falls, w.ue-falls) }))
channels_never_rise r (Am b) (Um d) nb' ue' is nb-offers ue-offers h =
    let x = am-stays (nb_calls r (Am b) (Um d)) b in
    let y = um-stays (ue_calls r (Am b) (Um d)) d in
    let w = waits r (Am b) (Um d) (Am x.bearer) (Um y.bearer) (record { nb_is = sym x.is; ue_is = sym y.is }) in
    subst (λ (f : Flow). FallsTo (Am b) (Um d) f ue' h) (sym x.is ∙ sym is.nb_is)
    (subst (λ (f : Flow). FallsTo (Am b) (Um d) (Am x.bearer) f h) (sym y.is ∙ sym is.ue_is)
    (record { left = tt; falls = omega (arith, w.nb-falls, w.ue-falls) }))
channels_never_rise r (Am b) (Am d) nb' ue' is nb-offers ue-offers h =
    acknowledged r b d nb' ue' is nb-offers ue-offers h
