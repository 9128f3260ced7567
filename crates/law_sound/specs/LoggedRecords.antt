-- What records of a side tell of a channel's flows is what its bearer logs of them, where they log
-- what an end does, event by event (docs/formats/JOURNAL.md).
use Rattle.std.specs.Prelude.{◌≡◌, ℕ, true, List, map}
use Rattle.std.specs.List.{AllByRecursion, filter}
use Rattle.air_record.specs.declared.record.Record.{Record}
use Rattle.air_record.specs.declared.record.Record.TheVariants as records
use Rattle.l2_types.specs.declared.side.Side.{Side}
use Rattle.law_run.specs.TwoEnds.ChannelLog.{on_channel, parted, told_in}
use Rattle.law_run.specs.TwoEnds.Logs.{LogEntry, Tells, Builds, Hears, Flight, logged}
use Rattle.law_run.specs.TwoEnds.SenderLog.{BearerEntry}
use Rattle.law_sound.specs.BesideLaws.{ReadRecord, LeavesFlows, flow_events, tells}
use Rattle.law_sound.specs.BesideLaws.{tells_flow}

abbrev pub records_of : List ReadRecord → List Record
records_of xs = map (λ (x : ReadRecord). x.one) xs

-- ---- an entry of a side

abbrev pub IsOfSide : Side → LogEntry → Type 0
IsOfSide side (Tells own event) = own ≡ side
IsOfSide side (Builds own process octets) = own ≡ side
IsOfSide side (Hears own process octets) = own ≡ side

abbrev pub RecordsTellTheLog : Type 0
RecordsTellTheLog = (l : ℕ) (side : Side) (sent : Flight) (xs : List ReadRecord)
    (log : List BearerEntry) → AllByRecursion (IsOfSide side) (logged sent (records_of xs))
    → on_channel l side (logged sent (records_of xs)) ≡ parted log
    → flow_events l xs ≡ filter tells (told_in log)

-- ---- where a side only tells, each record is one of its own, or tells nothing of the flows

abbrev pub IsTold : Side → LogEntry → Type 0
IsTold side (Tells own event) = own ≡ side
IsTold side (Builds own process octets) = ⊥
IsTold side (Hears own process octets) = ⊥

abbrev pub IsOwn : ℕ → Side → Record → Type 0
IsOwn l side (records.Of own event) = tells_flow l event ≡ true → own ≡ side
IsOwn l side one = LeavesFlows l one

abbrev pub OwnRecordsTell : Type 0
OwnRecordsTell = (l : ℕ) (side : Side) (sent : Flight) (xs : List ReadRecord)
    → AllByRecursion (IsTold side) (logged sent (records_of xs))
    → AllByRecursion (λ (x : ReadRecord). IsOwn l side x.one) xs
