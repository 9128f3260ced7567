-- An acknowledged bearer of data stands beside what is kept of the flow that it sends, while the PDUs of a journal are
-- checked.
use Rattle.std.proofs.Common.{◌≡◌, ◌≤◌, ℕ, List, [], ◌∷◌, Option, Some, None}
use Rattle.std.specs.List.{AllByRecursion}
use Rattle.bearer.specs.Acknowledged.State.{State}
use Rattle.bearer_types.specs.declared.event.Event.{Event}
use Rattle.bearer_types.specs.declared.event.Event.TheVariants as events
use Rattle.l2_types.specs.declared.config.AmTxConfig.{AmTxConfig}
use Rattle.pdcp_pdu.specs.declared.pdu.PdcpKind.TheVariants as pdcp
use Rattle.pdu_show.specs.declared.kinds.Layout.TheVariants as layouts
use Rattle.rlc_am_tx.specs.Machine.{State as Sender}
use Rattle.journal_given.specs.Supplies.{Supply, History}
use Rattle.journal_given.specs.Supplies as given
use Rattle.journal_sent.specs.RightSent.{Flow, Sent}
use Rattle.journal_sent.specs.SentFlows.{gives_data, flow_reported}
use Rattle.journal_sent.specs.SentPdus.{histories}
use Rattle.law_given.specs.SupplyLaws.{supplied_by}
use Rattle.law_rlc.specs.AmSender.Run.{Call}
use Rattle.law_sent.specs.Senders.{AreStreamsOf, IsAsked, ran}

-- a sender has come to a state by calls, with these streams
pub record IsRun (s : Sender) (x : Sent) : Type 0 where
  pub config : AmTxConfig
  pub calls : List Call
  pub asked : AllByRecursion IsAsked calls
  pub state_is : (ran config calls).state ≡ s
  pub streams : AreStreamsOf (ran config calls).past x

-- by the calls of its sender in the life that runs
pub record IsSentBy (bits : ℕ) (b : State) (f : Flow) : Type 0 where
  pub run : IsRun b.tx f.stream
  pub layout_is : f.layout ≡ layouts.Am (pdcp.Am bits)
  pub none_wait : f.waiting ≡ []
  pub cover_is : f.cover ≡ Some (record { kind = pdcp.Am bits; protection = b.pdcp.tx.protection })
  pub floor_low : f.floor ≤ b.tx.window.base

-- ---- what events of the channel make of the flow, by what is gathered of what PDCP gives RLC

abbrev pub taken_by : Option ℕ → Supply History → Flow → Flow
taken_by None s f = f
taken_by (Some count) s f = gives_data histories (Some count) (given.histories.sdu count s.takes) f

abbrev pub flow_by : Event → Supply History → Flow → Flow
flow_by (events.Take lcid count len) s f = taken_by count s f
flow_by (events.Report lcid fms bitmap) s f = flow_reported histories fms bitmap f
flow_by event s f = f

abbrev pub flow_over : List Event → Supply History → Flow → Flow
flow_over [] s f = f
flow_over (e ∷ es) s f = flow_over es (supplied_by e s) (flow_by e s f)
