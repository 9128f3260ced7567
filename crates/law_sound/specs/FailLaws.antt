-- The `fail` records of a flow in a group are right by its history where those of each step in it
-- are, one behind the other (TS 36.322 5.2.1).
use Rattle.std.specs.Prelude.{◌≡◌, ℕ, Bool, List, [], ◌++◌}
use Rattle.std.specs.List.{AllByRecursion}
use Rattle.pdcp_pdu.specs.declared.pdu.PdcpKind.{PdcpKind}
use Rattle.journal_account.specs.FlowEvents.{FlowEvent, IsHistory}
use Rattle.journal_failure.specs.RightFailure.{AreFailsOf}
use Rattle.law_account.specs.History.{IsOfReceiver}
use Rattle.law_run.specs.TwoEnds.SenderLog.{BearerEntry}
use Rattle.law_sound.specs.LogLaws.{with_log}

-- by events behind it
abbrev pub GoesOnTo : List FlowEvent → List FlowEvent → Type 0
GoesOnTo es now = (more : List FlowEvent) × (now ≡ more ++ es)

-- what is logged adds events
abbrev pub LogsGoOn : Type 0
LogsGoOn = (kind : PdcpKind) (more : Bool) (log : List BearerEntry) (es : List FlowEvent)
    → GoesOnTo es (with_log kind more log es)

-- nothing fails by what happens at the flow's receiver
abbrev pub ReceiversFailNone : Type 0
ReceiversFailNone = (most : ℕ) (es more : List FlowEvent) → AllByRecursion IsOfReceiver more
    → IsHistory (more ++ es) → AreFailsOf most es (more ++ es) []

-- the SNs of one stretch of a history, and then those of the next
abbrev pub FailsJoin : Type 0
FailsJoin = (most : ℕ) (es mid now : List FlowEvent) (sns later : List ℕ) → IsHistory now
    → GoesOnTo es mid → GoesOnTo mid now → AreFailsOf most es mid sns
    → AreFailsOf most mid now later → AreFailsOf most es now (sns ++ later)
