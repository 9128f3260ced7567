-- As an end of two over the air builds a new block, the `send` records of its side name the PDUs of
-- the block, those of an acknowledged channel by numbers from VT(S) on (docs/formats/JOURNAL.md; TS
-- 36.321 6.1.2, TS 36.322 5.1.3.1.1, 5.2.1).
use Rattle.std.specs.Prelude.{◌≡◌, ℕ, true, List, [], Option}
use Rattle.std.specs.List.{AllByRecursion}
use Rattle.air_record.specs.declared.record.Record.{Record}
use Rattle.air_record.specs.declared.record.Record.TheVariants as records
use Rattle.bearer_types.specs.Sides.{sent_by}
use Rattle.harq.specs.declared.sender.Visit.TheVariants.{New}
use Rattle.l2_node.specs.Building.{visit, visited}
use Rattle.l2_node.specs.End.{End}
use Rattle.l2_node.specs.Writing.{new_block}
use Rattle.l2_types.specs.declared.side.Side.{Side}
use Rattle.pdu_show.specs.declared.kinds.Layout.{Layout}
use Rattle.promises.specs.Names.{sent_pdus}
use Rattle.promises.specs.RightForm.{Carries}
use Rattle.promises.specs.SentNumbers.{AreNumbers}
use Rattle.promises.specs.Shown.{AreKnown}
use Rattle.journal_account.specs.FlowEvents.{FlowEvent, next_of}
use Rattle.journal_lives.specs.LifeEvents.{running}
use Rattle.journal_flows.specs.FlowsTold.{Histories}
use Rattle.journal_flows.specs.Gathering.{Journal, sending_of}
use Rattle.law_deliver.specs.AmFlow.Air.{Air, Act, HasCome, IsDone}
use Rattle.law_deliver.specs.AmFlow.Carrying.{Carried, Builds}
use Rattle.law_deliver.specs.AmFlow.Channels.{GoesOnInLife}
use Rattle.law_node.specs.Bearers.{AddNone}
use Rattle.law_node.specs.Calls.{Turn, Call, Visits, IsGiven, AreGiven, run_end}
use Rattle.law_node.specs.Names.{modes_of}
use Rattle.law_node.specs.Telling.{told_of}
use Rattle.law_run.specs.TwoEnds.Logs.{Flight, logged, all_tell}
use Rattle.law_sound.specs.BesideLaws.{IsGatheredBeside, ReadRecord, behind_all, station_of}
use Rattle.law_sound.specs.BesideLaws.{octets_of, IsNamed}
use Rattle.law_sound.specs.LivedFails.{HaveComeNew}
use Rattle.law_sound.specs.LivedHistories.{AreLived}
use Rattle.law_sound.specs.LoggedRecords.{records_of}

-- ---- the numbers

abbrev pub SendsNoNewBlock : Record → Type 0
SendsNoNewBlock (records.Block direction process true rv octets) = ⊥
SendsNoNewBlock one = Unit {0}

-- behind such records VT(S) of each flow is as it was
abbrev pub OtherRecordsWriteNone : Type 0
OtherRecordsWriteNone =
    (kinds : List (Option Layout)) (side : Side) (l : ℕ) (xs : List ReadRecord)
    (j : Journal Histories) → AllByRecursion (λ (x : ReadRecord). SendsNoNewBlock x.one) xs
    → next_of (running ((behind_all kinds xs j).flows.acked side l))
    ≡ next_of (running (j.flows.acked side l))

-- in any call of a life
abbrev pub CallsAreNumbered : Type 0
CallsAreNumbered =
    (l : ℕ) (side : Side) (a : Air) (c : Carried) (down up : List FlowEvent) (call : Call)
    (j : Journal Histories) → AreLived l a c down up → HaveComeNew l a → GoesOnInLife l call
    → IsGatheredBeside l a c down up j
    → AreNumbers l (next_of (running (j.flows.acked side l)))
    (sent_pdus (told_of (station_of side a).end call))

-- ---- the form, where the bearers of the end are known as what they are

abbrev pub NewBlocksHaveForm : Type 0
NewBlocksHaveForm = (kinds : List (Option Layout)) (side : Side) (e : End) (t : Turn)
    → HasCome side e → IsGiven (Visits t) → visit t.tti t.order e ≡ New
    → AreKnown kinds (modes_of e)
    → Carries (sent_by side) kinds (sent_pdus (told_of e (Visits t)))
    (new_block (visited t.tti t.order e) t.grant)

-- so they are behind calls that add none
abbrev pub BearersStayKnown : Type 0
BearersStayKnown = (kinds : List (Option Layout)) (side : Side) (e : End) (calls : List Call)
    → HasCome side e → AreGiven calls → ((lcid : ℕ) → AddNone lcid calls)
    → AreKnown kinds (modes_of e) → AreKnown kinds (modes_of (run_end calls e))

-- ---- so, where none was named before, behind the records of what is told as it is built

abbrev pub NewBlocksAreToldOf : Type 0
NewBlocksAreToldOf =
    (kinds : List (Option Layout)) (l : ℕ) (side : Side) (a : Air) (x : Act) (c : Carried)
    (down up : List FlowEvent) (before : Flight) (j : Journal Histories) (xs : List ReadRecord)
    → AreLived l a c down up → HaveComeNew l a → IsDone l (station_of side a) x
    → (b : Builds (station_of side a).end x) → AreKnown kinds (modes_of (station_of side a).end)
    → logged before (records_of xs)
    ≡ all_tell side (told_of (station_of side a).end (Visits b.turn))
    → (sending_of side j).named ≡ [] → IsGatheredBeside l a c down up j
    → IsNamed kinds l side (octets_of (station_of side a) x b) (behind_all kinds xs j)
