-- The pair of an acknowledged channel is a flow in each direction.
use Rattle.std.proofs.Common.{◌≡◌, ℕ, List, ap, sym, subst, ◌∙◌}
use Rattle.l2_types.specs.declared.config.AmTxConfig.{AmTxConfig}
use Rattle.l2_types.specs.declared.AmRxConfig.{AmRxConfig}
use Rattle.bearer.specs.declared.flow.Flow.TheVariants.{Am}
use Rattle.bearer.specs.Acknowledged.State.{State}
use Rattle.l2_node.specs.End.{End}
use Rattle.l2_types.specs.declared.side.Side.TheVariants.{Nb, Ue}
use Rattle.law_node.specs.Holding.{flow}
use Rattle.law_deliver.specs.AmFlow.Air.{Step, goes, outset, AreGiven, Begins}
use Rattle.law_deliver.specs.AmFlow.Flows.{HasFlow}
use Rattle.law_rlc.specs.AmPair.Flow.{Flow, sender, receiver, goes as flow_goes, am_rlc_outset}
use Rattle.law_rlc.specs.AmPair.Numbers.{IsOrdered}
use Rattle.law_rlc.proofs.AmPair.Laws.{keeps-order}
use Rattle.bearer.specs.declared.flow.Flow.{Flow as BearerFlow}
use Rattle.rlc_am_rx.specs.State.{State as Receiver}
use Rattle.rlc_am_tx.specs.Machine.{State as Sender}
use Rattle.law_deliver.specs.AmFlow.Links.{IsFlowOn, AreFlowsOn, AreOrdered}
use Rattle.law_deliver.specs.AmFlow.Pair.{BearerEnd}
use Rattle.law_deliver.proofs.AmFlow.Air.{channels_are_pairs}
use Rattle.law_deliver.proofs.AmFlow.Flows.{bearers_are_flows}

abbrev pub on_ends : (l : ℕ) (a : AmTxConfig) (b : AmRxConfig) (e o : BearerEnd) (from to : End)
    → flow l from ≡ Am e.bearer → flow l to ≡ Am o.bearer → HasFlow a b e o → IsFlowOn l a b from to
on_ends l a b e o from to p q h = record {
  from_bearer = e.bearer;
  from_is = p;
  to_bearer = o.bearer;
  to_is = q;
  steps = h.steps;
  given = h.given;
  sender_is = h.is.sender_is;
  receiver_is = h.is.receiver_is;
}

pub channels_are_flows : (l : ℕ) (nb ue : End) (b d : State) (steps : List Step) → Begins Nb l nb b → Begins Ue l ue d
    → AreGiven l (outset nb ue) steps → AreFlowsOn l b d (goes steps (outset nb ue))
channels_are_flows l nb ue b d steps x y g =
    let p = channels_are_pairs l nb ue b d steps x y g in
    let h = bearers_are_flows b d p.steps x.life y.life p.given in
    let air = goes steps (outset nb ue) in
    record {
      down = on_ends l b.tx_config d.rx_config _ _ air.nb.end air.ue.end p.nb_is p.ue_is h.there;
      up = on_ends l d.tx_config b.rx_config _ _ air.ue.end air.nb.end p.ue_is p.nb_is h.back;
    }

-- ---- the numbers

ordered_as : (f : Flow) (tx : Sender) (rx : Receiver) → (sender f).state ≡ tx → (receiver f).state ≡ rx → IsOrdered f
    → AreOrdered tx rx
ordered_as f tx rx p q h =
    let here : AreOrdered (sender f).state (receiver f).state =
    record { least = h.least; bound = h.bound; highest = h.highest; sent = h.sent; window = h.window } in
    subst (λ (r : Receiver). AreOrdered tx r) q (subst (λ (s : Sender). AreOrdered s (receiver f).state) p here)

pub same_bearer : (f : BearerFlow) (x y : State) → f ≡ Am x → f ≡ Am y → x ≡ y
same_bearer f x y p q = let same : Am x ≡ Am y = sym p ∙ q in cc

on_channel : (l : ℕ) (a : AmTxConfig) (b : AmRxConfig) (from to : End) (x y : State) → IsFlowOn l a b from to
    → flow l from ≡ Am x → flow l to ≡ Am y → AreOrdered x.tx y.rx
on_channel l a b from to x y h p q =
    ordered_as (flow_goes h.steps (am_rlc_outset a b)) x.tx y.rx
    (h.sender_is ∙ ap (λ (s : State). s.tx) (same_bearer (flow l from) h.from_bearer x h.from_is p))
    (h.receiver_is ∙ ap (λ (s : State). s.rx) (same_bearer (flow l to) h.to_bearer y h.to_is q))
    (keeps-order a b h.steps h.given)

pub numbers_are_ordered : (l : ℕ) (nb ue : End) (b d : State) (steps : List Step) → Begins Nb l nb b
    → Begins Ue l ue d → AreGiven l (outset nb ue) steps
    → (x y : State) → flow l (goes steps (outset nb ue)).nb.end ≡ Am x
    → flow l (goes steps (outset nb ue)).ue.end ≡ Am y → AreOrdered x.tx y.rx × AreOrdered y.tx x.rx
numbers_are_ordered l nb ue b d steps begins-nb begins-ue g x y p q =
    let h = channels_are_flows l nb ue b d steps begins-nb begins-ue g in
    let air = goes steps (outset nb ue) in (
      on_channel l b.tx_config d.rx_config air.nb.end air.ue.end x y h.down p q,
      on_channel l d.tx_config b.rx_config air.ue.end air.nb.end y x h.up q p,
    )
