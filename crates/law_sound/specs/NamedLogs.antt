-- The PDUs that the `send` records of a side name for its next new block, by what records log: an
-- end tells of them as it builds the block, and of none else (docs/formats/JOURNAL.md; TS 36.321
-- 5.4.2, 5.4.3.1).
use Rattle.std.specs.Prelude.{◌≡◌, if◌then◌else◌, List, [], ◌∷◌, ◌++◌, map, Option}
use Rattle.bearer_types.specs.declared.event.Event.{Event}
use Rattle.bearer_types.specs.Sides.{is_same}
use Rattle.l2_node.specs.End.{End}
use Rattle.l2_types.specs.declared.side.Side.{Side}
use Rattle.pdu_show.specs.declared.kinds.Layout.{Layout}
use Rattle.promises.specs.Names.{sent_pdus}
use Rattle.journal_flows.specs.declared.sending.Named.{Named}
use Rattle.journal_flows.specs.FlowsTold.{Histories}
use Rattle.journal_flows.specs.Gathering.{Journal, sending_of}
use Rattle.law_deliver.specs.AmChannel.Arrival.{built_in}
use Rattle.law_deliver.specs.AmChannel.Lives.{AirStep}
use Rattle.law_deliver.specs.AmFlow.Air.{Air}
use Rattle.law_node.specs.Calls.{Call}
use Rattle.law_node.specs.Telling.{told_of}
use Rattle.law_run.specs.TwoEnds.Logs.{LogEntry, Tells, Builds, Hears, Flight, logged, all_tell}
use Rattle.law_run.specs.TwoEnds.Logs.{log_at}
use Rattle.law_sound.specs.BesideLaws.{ReadRecord, behind_all}
use Rattle.law_sound.specs.LoadLaws.{name_of}
use Rattle.law_sound.specs.LoggedRecords.{records_of}

-- ---- what is named of a side: PDUs that it sends, until a new block of it has them

abbrev pub named_at : Side → LogEntry → List Named → List Named
named_at side (Tells own event) named =
    if is_same side own then named ++ map name_of (sent_pdus (event ∷ [])) else named
named_at side (Builds own process octets) named = if is_same side own then [] else named
named_at side (Hears own process octets) named = named

abbrev pub named_over : Side → List LogEntry → List Named → List Named
named_over side [] named = named
named_over side (x ∷ log) named = named_over side log (named_at side x named)

-- so it is gathered from any records
abbrev pub RecordsNameTheLog : Type 0
RecordsNameTheLog =
    (kinds : List (Option Layout)) (side : Side) (before : Flight) (xs : List ReadRecord)
    (j : Journal Histories)
    → (sending_of side (behind_all kinds xs j)).named
    ≡ named_over side (logged before (records_of xs)) (sending_of side j).named

-- where an end only tells
abbrev pub EventsName : Type 0
EventsName = (side own : Side) (told : List Event) (named : List Named)
    → named_over side (all_tell own told) named
    ≡ (if is_same side own then named ++ map name_of (sent_pdus told) else named)

-- ---- of calls, and of steps of both ends

abbrev pub EndsSendAsTheyBuild : Type 0
EndsSendAsTheyBuild = (e : End) (c : Call) → built_in e c ≡ [] → sent_pdus (told_of e c) ≡ []

-- so behind each step none is named that isn't in a block
abbrev pub StepsLeaveNoneNamed : Type 0
StepsLeaveNoneNamed =
    (kinds : List (Option Layout)) (side : Side) (a : Air) (s : AirStep) (before : Flight)
    (xs : List ReadRecord) (j : Journal Histories)
    → logged before (records_of xs) ≡ log_at a s → (sending_of side j).named ≡ []
    → (sending_of side (behind_all kinds xs j)).named ≡ []
