-- What a log tells of a flow is what is gathered of it from a journal, entry by entry
-- (docs/formats/JOURNAL.md; TS 36.322 5.1.3, 5.2, 7.1).
use Rattle.std.specs.Prelude.{◌≡◌, ◌<◌, ℕ, ◌^◌, Bool, true, List, [], Option, Some, None, Ok}
use Rattle.std.specs.Prelude.{slice_index_or}
use Rattle.l2_types.specs.declared.event.How.{How}
use Rattle.l2_types.specs.declared.event.How.TheVariants as hows
use Rattle.l2_types.specs.declared.side.Side.{Side}
use Rattle.rlc_pdu.specs.Pdus.{AmdPdu, StatusPdu, Payload, Status}
use Rattle.rlc_am_tx_window.specs.Window.{TxWindow, next}
use Rattle.pdcp_pdu.specs.declared.pdu.PdcpKind.{PdcpKind}
use Rattle.pdcp_pdu.specs.declared.pdu.PdcpKind.TheVariants as pdcp
use Rattle.pdu_show.specs.declared.kinds.Layout.{Layout}
use Rattle.pdu_show.specs.declared.kinds.Layout.TheVariants as layouts
use Rattle.bearer_types.specs.declared.event.Event.{Event}
use Rattle.bearer_types.specs.declared.event.Event.TheVariants as events
use Rattle.bearer_types.specs.Sides.{other}
use Rattle.promises.specs.Events.{is_on}
use Rattle.promises.specs.SentNumbers.{IsNumber}
use Rattle.journal_account.specs.declared.entry.StatusEntry.{StatusEntry}
use Rattle.journal_account.specs.FlowEvents.{FlowEvent}
use Rattle.journal_lives.specs.LifeEvents.{running}
use Rattle.journal_flows.specs.declared.parcels.Parcel.{Parcel}
use Rattle.journal_flows.specs.declared.parcels.Parcel.TheVariants.{Report}
use Rattle.journal_flows.specs.FlowsTold.{Histories, histories}
use Rattle.journal_flows.specs.Gathering.{all_told, told_by}
use Rattle.journal_flows.specs.NumberedPdus.{Told, told_in, parcel_by, written_as, come_as}
use Rattle.law_account.specs.History.{with_told}
use Rattle.law_account.specs.TrueStatus.{HasTrueNumbers}
use Rattle.law_sound.specs.LogLaws.{data_told, come_told, event_told}

-- ---- an event

-- a `take` record of data has a COUNT of 32 bits, or none
abbrev pub HasCount : PdcpKind → Event → Type 0
HasCount pdcp.Srb event = Unit {0}
HasCount kind (events.Take lcid (Some count) len) = count < 2 ^ 32
HasCount kind event = Unit {0}

-- of a channel with an acknowledged bearer
abbrev pub EventsAreGathered : Type 0
EventsAreGathered =
    (kinds : List (Option Layout)) (kind : PdcpKind) (more : Bool) (side : Side) (l : ℕ) (e : Event)
    (h : Histories) → slice_index_or kinds l None ≡ Some (layouts.Am kind) → is_on l e ≡ true
    → HasCount kind e
    → running ((all_told histories (told_by kinds more side e) h).acked side l)
    ≡ with_told (event_told kind more e) (running (h.acked side l))

-- ---- a data PDU that is written

abbrev pub gathered : Side → How → Option Parcel → List Told
gathered from how None = []
gathered from how (Some p) = written_as from how p

abbrev pub IsData : How → Type 0
IsData hows.New = Unit {0}
IsData hows.Re = Unit {0}
IsData how = ⊥

-- where its record names its number, a new one where it is the next
abbrev pub DataIsGathered : Type 0
DataIsGathered =
    (from : Side) (next front l : ℕ) (how : How) (pdu : AmdPdu) → IsData how
    → IsNumber how next pdu.sn
    → gathered from how (parcel_by next front l how (Ok (Payload pdu)))
    ≡ told_in from l (data_told next pdu)

-- ---- a STATUS that comes, gathered with true numbers

pub record IsStatusGathered (side : Side) (l : ℕ) (w : TxWindow) (status : StatusPdu) (ack : ℕ)
    (entries : List StatusEntry) : Type 0 where
  pub event : FlowEvent
  pub logged : come_told (next w) (Ok (Status status)) ≡ Some event
  pub gathered' : come_as (other side) (Report l ack entries) ≡ told_in side l event

abbrev pub TrueStatusIsGathered : Type 0
TrueStatusIsGathered =
    (side : Side) (l : ℕ) (w : TxWindow) (status : StatusPdu) (ack : ℕ) (entries : List StatusEntry)
    → HasTrueNumbers w status ack entries → IsStatusGathered side l w status ack entries
