-- The acknowledged bearer that hears a flow beside the history of it, in each call of its end in
-- which no block comes (TS 36.322 5.1.3.2).
use Rattle.std.specs.Prelude.{◌≡◌, ℕ, List}
use Rattle.std.specs.List.{AllByRecursion}
use Rattle.bearer.specs.Acknowledged.State.{State}
use Rattle.bearer.specs.declared.flow.Flow.TheVariants.{Am}
use Rattle.l2_node.specs.End.{End}
use Rattle.l2_types.specs.declared.config.AmTxConfig.{AmTxConfig}
use Rattle.l2_types.specs.declared.AmRxConfig.{AmRxConfig}
use Rattle.l2_types.specs.declared.side.Side.TheVariants.{Nb, Ue}
use Rattle.law_node.specs.Calls.{Call as EndCall}
use Rattle.rlc_am_tx.specs.Machine.{State as Sender}
use Rattle.journal_account.specs.FlowEvents.{FlowEvent}
use Rattle.law_bearer.specs.AnyBearer.Calls.{Call, after_all}
use Rattle.law_deliver.specs.AmFlow.Air.{Station, Air, Calls, Step, calls, goes, outset, IsDone}
use Rattle.law_deliver.specs.AmFlow.Air.{AreGiven, Begins}
use Rattle.law_deliver.specs.AmFlow.Channels.{calls_of}
use Rattle.law_deliver.specs.AmFlow.Links.{IsFlowOn, AreFlowsOn}
use Rattle.law_deliver.specs.AmFlow.Reordering.{reordering_in}
use Rattle.law_deliver.specs.AmFlow.Ups.{tells_over}
use Rattle.law_account.specs.EndsTold.{AreEndsOf}
use Rattle.law_sound.specs.HearingLaws.{with_reordering, BringsNoData}

-- ---- calls of the bearer in which no data PDU comes

abbrev pub BearersHearOver : Type 0
BearersHearOver = (most l : ℕ) (es : List FlowEvent) (tx : Sender) (b d : State) (cs : List Call)
    → AllByRecursion BringsNoData cs → after_all (Am b) cs ≡ Am d → AreEndsOf most es tx b.rx
    → AreEndsOf most (with_reordering (reordering_in (tells_over l (Am b) cs)) es) tx d.rx

-- ---- a call of the end

-- one that brings no block, at the end of a channel that hears a flow from the other
abbrev pub HearsCalls : (l : ℕ) (sending : AmTxConfig) (receiving : AmRxConfig) (from to : Station)
    → IsFlowOn l sending receiving from.end to.end → Type 0
HearsCalls l sending receiving from to out =
    (most : ℕ) (es : List FlowEvent) (c : EndCall) → IsDone l to (Calls c)
    → (behind : IsFlowOn l sending receiving from.end (calls to c).end)
    → AreEndsOf most es out.from_bearer.tx out.to_bearer.rx
    → AreEndsOf most
    (with_reordering (reordering_in (tells_over l (Am out.to_bearer) (calls_of l to.end c))) es)
    out.from_bearer.tx behind.to_bearer.rx

-- ---- the law, down and up

pub record HearCallsByAir (l : ℕ) (nb ue : State) (a : Air) (h : AreFlowsOn l nb ue a) : Type 0
  where
    pub at_ue : HearsCalls l nb.tx_config ue.rx_config a.nb a.ue h.down
    pub at_nb : HearsCalls l ue.tx_config nb.rx_config a.ue a.nb h.up

abbrev pub EndsHearCalls : Type 0
EndsHearCalls = (l : ℕ) (nb ue : End) (b d : State) (steps : List Step) → Begins Nb l nb b
    → Begins Ue l ue d → AreGiven l (outset nb ue) steps
    → (h : AreFlowsOn l b d (goes steps (outset nb ue)))
    → HearCallsByAir l b d (goes steps (outset nb ue)) h
