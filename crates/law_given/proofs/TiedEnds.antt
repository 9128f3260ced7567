-- What is known of both ends where both directions of a bearer are carried on, and what a call of an end is to it.
use Rattle.std.proofs.Common.{◌≡◌, ◌⊎◌, inl, inr, ℕ, List, [], ◌∷◌, sym, subst, ◌∙◌}
use Rattle.bearer.specs.Acknowledged.State.{State}
use Rattle.bearer.specs.declared.flow.Flow.{Flow}
use Rattle.bearer.specs.declared.flow.Flow.TheVariants.{Am}
use Rattle.bearer_types.specs.declared.config.BearerConfig.{BearerConfig}
use Rattle.l2_node.specs.End.{End}
use Rattle.l2_types.specs.declared.side.Side.TheVariants.{Nb, Ue}
use Rattle.law_bearer.specs.AnyBearer.Calls.{Call, Submit, Take, Arrive, Expire, Tick, SetDiscard}
use Rattle.law_node.specs.Calls.{Call as EndCall}
use Rattle.law_node.specs.Holding.{flow}
use Rattle.law_deliver.specs.AmChannel.Lives.{AirStep, lives, end_at}
use Rattle.law_deliver.specs.AmFlow.Air.{outset}
use Rattle.law_deliver.specs.AmFlow.Channels.{calls_of}
use Rattle.law_deliver.specs.AmFlow.NoPdus.{BringsNoPdu, BringsNoBlock}
use Rattle.law_deliver.proofs.AmChannel.Bearers.{IsSteady, same_bearer}
use Rattle.law_deliver.proofs.AmChannel.OneCall.{AreFew, calls_are_few}
use Rattle.law_deliver.proofs.AmFlow.Stations.{come_side}
use Rattle.law_given.specs.SupplyLaws.{IsOwn}
use Rattle.law_given.proofs.Tied.{AreTied}

-- ---- both ends

steady_as : (bits l : ℕ) (f : Flow) (b d : State) → f ≡ Am b → f ≡ Am d → IsSteady bits l b → IsSteady bits l d
steady_as bits l f b d p q h = subst (IsSteady bits l) (same_bearer b d (sym p ∙ q)) h

module _ (l : ℕ) (c : BearerConfig) (nb ue : End) (steps : List AirStep) (t : AreTied l c nb ue steps) where
  pub steady_at : IsSteady c.pdcp_bits l t.joined.one × IsSteady c.pdcp_bits l t.joined.two
  steady_at = (
    steady_as c.pdcp_bits l (flow l (end_at Nb (lives steps (outset nb ue)))) t.last.near.bearer t.joined.one
        t.matched.nb.bearer_is t.joined.one_is t.matched.nb_steady,
    steady_as c.pdcp_bits l (flow l (end_at Ue (lives steps (outset nb ue)))) t.last.far.bearer t.joined.two
        t.matched.ue.bearer_is t.joined.two_is t.matched.ue_steady,
  )

  pub ties_side : ((end_at Nb (lives steps (outset nb ue))).side ≡ Nb)
      × ((end_at Ue (lives steps (outset nb ue))).side ≡ Ue)
  ties_side = (
    come_side Nb (end_at Nb (lives steps (outset nb ue))) t.matched.nb.come,
    come_side Ue (end_at Ue (lives steps (outset nb ue))) t.matched.ue.come,
  )

-- ---- a call of an end in which no block comes is one of its bearer, or none

abbrev pub AreFewOwn : List Call → Type 0
AreFewOwn cs = (cs ≡ []) ⊎ ((x : Call) × ((cs ≡ x ∷ []) × IsOwn x))

own_so : (x : Call) → BringsNoPdu x → IsOwn x
own_so (Submit sdu) none = tt
own_so (Take share held) none = tt
own_so (Arrive pdu) none = absurd none
own_so (Expire clock) none = tt
own_so Tick none = tt
own_so (SetDiscard ttis) none = tt

few_own : (cs : List Call) → AreFew cs → AreFewOwn cs
few_own cs (inl none) = inl none
few_own cs (inr one) = inr (one.0, (one.1.0, own_so one.0 one.1.1))

pub own_calls_few : (l : ℕ) (e : End) (c : EndCall) → BringsNoBlock c → AreFewOwn (calls_of l e c)
own_calls_few l e c none = few_own (calls_of l e c) (calls_are_few l e c none)
