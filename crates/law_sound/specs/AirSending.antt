-- The acknowledged bearers of a channel at two ends beside the history of each of their flows, as
-- its sending end goes on in a step (TS 36.322 5.1.3.1, 5.2).
use Rattle.std.specs.Prelude.{◌≡◌, ℕ, ◌+◌, List}
use Rattle.bearer.specs.Acknowledged.State.{State, has_more}
use Rattle.bearer.specs.declared.flow.Flow.TheVariants.{Am}
use Rattle.bearer_types.specs.Sides.{other}
use Rattle.l2_node.specs.End.{End}
use Rattle.l2_types.specs.declared.config.AmTxConfig.{AmTxConfig}
use Rattle.l2_types.specs.declared.AmRxConfig.{AmRxConfig}
use Rattle.l2_types.specs.declared.side.Side.{Side}
use Rattle.l2_types.specs.declared.side.Side.TheVariants.{Nb, Ue}
use Rattle.rlc_am_rx.specs.State.{State as Receiver}
use Rattle.rlc_am_tx.specs.Machine.{State as Sender}
use Rattle.journal_account.specs.Acked.{ignored_in}
use Rattle.journal_account.specs.FlowEvents.{FlowEvent}
use Rattle.journal_failure.specs.RightFailure.{AreFailsOf}
use Rattle.law_deliver.specs.AmChannel.Lives.{InLife, calls_at, end_at}
use Rattle.law_deliver.specs.AmFlow.Air.{Air, Step, happens, goes, outset, IsGiven, AreGiven}
use Rattle.law_deliver.specs.AmFlow.Air.{Begins}
use Rattle.law_deliver.specs.AmFlow.Links.{IsFlowOn, AreFlowsOn}
use Rattle.law_deliver.specs.AmFlow.UnderWay.{AreFlowsByAir}
use Rattle.law_deliver.specs.AmFlow.Ups.{calls_over}
use Rattle.law_account.specs.EndsTold.{AreEndsOf}
use Rattle.law_run.specs.TwoEnds.ChannelLog.{parted}
use Rattle.law_run.specs.TwoEnds.SenderLog.{BearerEntry, bearer_logs}
use Rattle.law_sound.specs.IgnoredLaws.{told_ignored}
use Rattle.law_sound.specs.LogLaws.{with_log, fails_in}

-- both ends stay beside the history that goes on by what the sender's bearer logs, entry by entry,
-- as it has more to give or not at first; the SNs of its `fail` records are right by it, and it
-- tells just so many STATUS as ignored as the history ignores
pub record GoOnByLog (most : ℕ) (es : List FlowEvent) (b : State) (tx : Sender) (rx : Receiver)
    (log : List BearerEntry) : Type 0 where
  pub ends : AreEndsOf most (with_log b.pdcp.kind (has_more b.pdcp) log es) tx rx
  pub fails : AreFailsOf most es (with_log b.pdcp.kind (has_more b.pdcp) log es) (fails_in log)
  pub ignored : ignored_in (with_log b.pdcp.kind (has_more b.pdcp) log es)
      ≡ ignored_in es + told_ignored log

-- in a step, by all that the bearer logs in its calls, which is what its side logs on the channel
abbrev pub SendsOn : (l : ℕ) (side : Side) (sending : AmTxConfig) (receiving : AmRxConfig) (a : Air)
    (s : Step) → IsFlowOn l sending receiving (end_at side a) (end_at (other side) a)
    → IsFlowOn l sending receiving (end_at side (happens a s)) (end_at (other side) (happens a s))
    → Type 0
SendsOn l side sending receiving a s out behind = (most : ℕ) (es : List FlowEvent)
    → AreEndsOf most es out.from_bearer.tx out.to_bearer.rx
    → GoOnByLog most es out.from_bearer behind.from_bearer.tx out.to_bearer.rx
    (parted (bearer_logs l (Am out.from_bearer)
    (calls_over l (calls_at side a (InLife s)) (end_at side a))))

-- ---- the law, down and up

pub record SendByAir (l : ℕ) (nb ue : State) (a : Air) (s : Step) (now : AreFlowsOn l nb ue a)
    (behind : AreFlowsOn l nb ue (happens a s)) : Type 0 where
  pub by_nb : SendsOn l Nb nb.tx_config ue.rx_config a s now.down behind.down
  pub by_ue : SendsOn l Ue ue.tx_config nb.rx_config a s now.up behind.up

abbrev pub EndsSendByAir : Type 0
EndsSendByAir = (l : ℕ) (nb ue : End) (b d : State) (steps : List Step) (s : Step)
    → Begins Nb l nb b → Begins Ue l ue d → AreGiven l (outset nb ue) steps
    → IsGiven l (goes steps (outset nb ue)) s
    → (h : AreFlowsByAir l b d (goes steps (outset nb ue)))
    → (behind : AreFlowsOn l b d (happens (goes steps (outset nb ue)) s))
    → SendByAir l b d (goes steps (outset nb ue)) s h.flows behind
