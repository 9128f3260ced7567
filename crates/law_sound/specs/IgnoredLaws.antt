-- Of the STATUS PDUs that come to a flow's sender its end tells those as ignored that are by the
-- history of the flow (docs/formats/JOURNAL.md; TS 36.322 5.2.1).
use Rattle.std.specs.Prelude.{◌≡◌, ℕ, ◌+◌, List, [], ◌∷◌}
use Rattle.std.specs.List.{AllByRecursion}
use Rattle.bearer.specs.Acknowledged.State.{State}
use Rattle.bearer.specs.declared.flow.Flow.TheVariants.{Am}
use Rattle.bearer_types.specs.declared.event.Event.TheVariants as events
use Rattle.l2_node.specs.End.{End}
use Rattle.l2_types.specs.declared.event.Lost.TheVariants as losts
use Rattle.law_node.specs.Calls.{Call as EndCall}
use Rattle.pdcp_pdu.specs.declared.pdu.PdcpKind.{PdcpKind}
use Rattle.rlc_am_tx.specs.Machine.{State as Sender}
use Rattle.journal_account.specs.Acked.{ignored_in}
use Rattle.journal_account.specs.FlowEvents.{FlowEvent}
use Rattle.law_account.specs.History.{Follows}
use Rattle.law_deliver.specs.AmFlow.Channels.{calls_of}
use Rattle.law_deliver.specs.AmFlow.NoPdus.{BringsNoBlock}
use Rattle.law_run.specs.TwoEnds.SenderLog.{BearerEntry, Tells, Comes, bearer_logs}
use Rattle.law_sound.specs.LogLaws.{HasComeBy, FlowDeed, AreLogged, with_logs, sender_log}

-- how many entries tell of one
abbrev pub ignored_at : BearerEntry → ℕ
ignored_at (Tells (events.Drop lcid losts.Ignored)) = 1
ignored_at entry = 0

abbrev pub told_ignored : List BearerEntry → ℕ
told_ignored [] = 0
told_ignored (x ∷ log) = ignored_at x + told_ignored log

-- no PDU comes
abbrev pub ComesNone : BearerEntry → Type 0
ComesNone (Comes octets) = ⊥
ComesNone entry = Unit {0}

-- just those that the log's history ignores; none where none comes
pub record TellsIgnored (kind : PdcpKind) (ds : List FlowDeed) (es : List FlowEvent) : Type 0 where
  pub told : ignored_in (with_logs kind ds es) ≡ ignored_in es + told_ignored (sender_log ds)
  pub none : AllByRecursion ComesNone (sender_log ds) → told_ignored (sender_log ds) ≡ 0

-- of any deeds
abbrev pub LogsTellIgnored : Type 0
LogsTellIgnored =
    (kind : PdcpKind) (most : ℕ) (ds : List FlowDeed) (es : List FlowEvent) (s : Sender)
    → HasComeBy s → AreLogged kind es s ds → Follows most es s → TellsIgnored kind ds es

-- none comes in a call of an end that brings no block
abbrev pub NoBlockIsIgnored : Type 0
NoBlockIsIgnored = (l : ℕ) (e : End) (c : EndCall) (b : State) → BringsNoBlock c
    → AllByRecursion ComesNone (bearer_logs l (Am b) (calls_of l e c))
