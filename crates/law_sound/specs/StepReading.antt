-- The records of the steps of a life, as both ends log them, take what is gathered from a journal
-- to the moment behind them; the STATUS PDUs in new blocks are true of the flows that they speak
-- of, and just those that are ignored as they come are told of (docs/formats/JOURNAL.md; TS 36.321
-- 5.3.2, 5.4.2, TS 36.322 5.2.1, 5.2.3).
use Rattle.std.specs.Prelude.{◌≡◌, ℕ, ◌+◌, ◌≤◌, Bool, true, false, List, [], ◌∷◌, ◌++◌, map, Option}
use Rattle.std.specs.Prelude.{Some, slice_index_or, None}
use Rattle.std.specs.List.{AllByRecursion, filter}
use Rattle.air_record.specs.declared.record.Record.{Record}
use Rattle.air_record.specs.declared.record.Record.TheVariants as records
use Rattle.bearer.specs.Acknowledged.State.{has_more}
use Rattle.bearer.specs.declared.flow.Flow.{Flow}
use Rattle.bearer.specs.declared.flow.Flow.TheVariants.{Am}
use Rattle.bearer_types.specs.declared.event.Event.{Event}
use Rattle.bearer_types.specs.declared.event.Event.TheVariants as events
use Rattle.bearer_types.specs.Sides.{other, sender_of}
use Rattle.l2_types.specs.declared.event.Clock.TheVariants.{Poll}
use Rattle.l2_types.specs.declared.side.Side.{Side}
use Rattle.pdcp_pdu.specs.declared.pdu.PdcpKind.{PdcpKind}
use Rattle.pdu_show.specs.declared.kinds.Layout.{Layout}
use Rattle.pdu_show.specs.declared.kinds.Layout.TheVariants as layouts
use Rattle.promises.specs.Events.{is_on}
use Rattle.law_words.specs.Sequences.{many}
use Rattle.promises.specs.Names.{Acknowledged}
use Rattle.promises.specs.RightForm.{is_built, IsBuilt}
use Rattle.journal_account.specs.Acked.{ignored_in}
use Rattle.journal_account.specs.FlowEvents.{FlowEvent}
use Rattle.journal_account.specs.TrueStatus.{IsTrueStatus}
use Rattle.journal_lives.specs.LifeEvents.{running}
use Rattle.journal_flows.specs.declared.parcels.Parcel.{Parcel}
use Rattle.journal_flows.specs.declared.parcels.Parcel.TheVariants.{Octets, Pieces, Report}
use Rattle.journal_flows.specs.FlowsTold.{Histories, histories}
use Rattle.journal_flows.specs.Gathering.{Journal, sending_of, sent_last, behind_record}
use Rattle.journal_status.specs.RightStatus.{tells_ignored, ignored_told}
use Rattle.law_deliver.specs.AmChannel.Lives.{AirStep, AreLiving, lives, lives_on, end_at}
use Rattle.law_deliver.specs.AmFlow.Air.{Air}
use Rattle.law_node.specs.Holding.{flow}
use Rattle.law_node.specs.Names.{mode}
use Rattle.law_run.specs.TwoEnds.Logs.{Flight, logged, log_at, log_of}
use Rattle.law_run.specs.TwoEnds.Staying.{AreInLife}
use Rattle.law_sound.specs.BesideLaws.{ReadRecord, behind_all, IsGatheredBeside, station_of}
use Rattle.law_sound.specs.GatherLaws.{HasCount}
use Rattle.law_sound.specs.LivedFails.{HaveComeNew}
use Rattle.law_sound.specs.LivedHistories.{AreLived, Moment, GoOver}
use Rattle.law_sound.specs.LoggedRecords.{records_of}

-- ---- records

-- as they are read, each with whether an SDU may be taken as t-PollRetransmit expires by it
abbrev pub read_as : Bool → List Record → List ReadRecord
read_as more told = map (λ (one : Record). record { more = more; one = one }) told

abbrev pub HasCountOn : PdcpKind → ℕ → Record → Type 0
HasCountOn kind l (records.Of side event) = is_on l event ≡ true → HasCount kind event
HasCountOn kind l one = Unit {0}

-- ---- the answers: whether PDCP has something for RLC at the end where t-PollRetransmit expires

abbrev pub has_something : Flow → Bool
has_something (Am b) = has_more b.pdcp
has_something f = false

-- as a step begins
abbrev pub EventIsAnswered : ℕ → Air → Side → Event → Bool → Type 0
EventIsAnswered l a side (events.Expired lcid Poll) more =
    lcid ≡ l → more ≡ has_something (flow l (station_of side a).end)
EventIsAnswered l a side event more = Unit {0}

abbrev pub RecordIsAnswered : ℕ → Air → Record → Bool → Type 0
RecordIsAnswered l a (records.Of side event) more = EventIsAnswered l a side event more
RecordIsAnswered l a one more = Unit {0}

abbrev pub IsAnswered : ℕ → Air → ReadRecord → Type 0
IsAnswered l a x = RecordIsAnswered l a x.one x.more

-- the records of a step are what both ends log in it
pub record IsStepRead (l : ℕ) (a : Air) (s : AirStep) (xs : List ReadRecord) : Type 0 where
  pub sent : Flight
  pub logs : logged sent (records_of xs) ≡ log_at a s
  pub answered : AllByRecursion (IsAnswered l a) xs

-- those of the first step, and those behind them
pub record FirstAndOthers (P Q : List ReadRecord → Type 0) (xs : List ReadRecord) : Type 0 where
  pub now : List ReadRecord
  pub later : List ReadRecord
  pub are : xs ≡ now ++ later
  pub first : P now
  pub others : Q later

-- those of steps; behind the last stand some that log nothing
abbrev pub AreStepsRead : ℕ → List AirStep → Air → List ReadRecord → Type 0
AreStepsRead l [] a xs = (sent : Flight) × (logged sent (records_of xs) ≡ [])
AreStepsRead l (s ∷ steps) a xs =
    FirstAndOthers (IsStepRead l a s) (AreStepsRead l steps (lives_on a s)) xs

-- ---- the STATUS PDUs that they tell of

-- of a flow so far
abbrev pub ignored_so_far : Side → ℕ → Journal Histories → ℕ
ignored_so_far side l j = ignored_in (running (j.flows.acked side l))

-- one of the channel is true of a flow
abbrev pub IsTrueOf : ℕ → List FlowEvent → Parcel → Type 0
IsTrueOf l es (Octets lcid n start end) = Unit {0}
IsTrueOf l es (Pieces lcid n size pieces) = Unit {0}
IsTrueOf l es (Report lcid ack entries) = lcid ≡ l → IsTrueStatus es ack entries

-- those that a side writes into a new block, of the flow that the other side sends

abbrev pub AreTrueAt : ℕ → Journal Histories → Record → Type 0
AreTrueAt l j (records.Block direction process true version octets) =
    let from = sender_of direction in
    AllByRecursion (IsTrueOf l (running (j.flows.acked (other from) l)))
    (sent_last (sending_of from j))
AreTrueAt l j one = Unit {0}

-- record by record, where so many were told of by each side before; not more are told of than were
-- ignored
abbrev pub TellTruly : List (Option Layout) → ℕ → (Side → ℕ) → Journal Histories → List ReadRecord
    → Type 0
TellTruly kinds l said j [] = Unit {0}
TellTruly kinds l said j (x ∷ xs) =
    let i = behind_record histories kinds x.more x.one j in
    AreTrueAt l i x.one
    × ((side : Side) → tells_ignored side l x.one ≡ true → said side + 1 ≤ ignored_so_far side l i)
    × TellTruly kinds l (λ side. said side + ignored_told side l (x.one ∷ [])) i xs

-- and in the end as many
pub record AreTruly (kinds : List (Option Layout)) (l : ℕ) (j : Journal Histories)
    (xs : List ReadRecord) : Type 0 where
  pub each : TellTruly kinds l (λ side. ignored_so_far side l j) j xs
  pub all : (side : Side) → ignored_so_far side l (behind_all kinds xs j)
      ≡ ignored_so_far side l j + ignored_told side l (records_of xs)

-- ---- a journal is read up to a moment of a life

-- both bearers of the channel are acknowledged, with PDCP of a kind, and no PDU is named that isn't
-- in a block
pub record IsRead (kind : PdcpKind) (l : ℕ) (a : Air) (m : Moment) (j : Journal Histories)
    : Type 0 where
  pub lived : AreLived l a m.pdus m.down m.up
  pub new : HaveComeNew l a
  pub modes : (side : Side) → mode (flow l (end_at side a)) ≡ Acknowledged kind
  pub gathered : IsGatheredBeside l a m.pdus m.down m.up j
  pub named : (side : Side) → (sending_of side j).named ≡ []

-- each new block among records carries the PDUs that are named before it
abbrev pub AreFormed : List (Option Layout) → List Record → Type 0
AreFormed kinds told = (side : Side) → many (IsBuilt side kinds) (filter (is_built side) told)

-- behind records of some steps; others stand behind them
pub record AreReadTo (kinds : List (Option Layout)) (kind : PdcpKind) (l : ℕ) (a : Air)
    (steps : List AirStep) (m : Moment) (j : Journal Histories) (told others : List Record)
    : Type 0 where
  pub reads : List ReadRecord
  pub are : records_of reads ≡ told
  pub last : Moment
  pub over : GoOver l steps a m last
  pub each : AreStepsRead l steps a reads
  pub read : IsRead kind l (lives steps a) last (behind_all kinds reads j)
  pub statuses : AreTruly kinds l j reads
  pub formed : AreFormed kinds others

-- blocks that were sent before them have the processes that the journal tells
pub record IsFlightOf (j : Journal Histories) (sent : Flight) : Type 0 where
  pub nb_is : j.nb.process ≡ sent.nb
  pub ue_is : j.ue.process ≡ sent.ue

abbrev pub StepsAreRead : Type 0
StepsAreRead =
    (kinds : List (Option Layout)) (kind : PdcpKind) (l : ℕ) (steps : List AirStep) (a : Air)
    (m : Moment) (sent : Flight) (j : Journal Histories) (told others : List Record)
    → slice_index_or kinds l None ≡ Some (layouts.Am kind) → AreLiving l a steps → AreInLife steps
    → IsRead kind l a m j → IsFlightOf j sent → logged sent told ≡ log_of steps a
    → AllByRecursion (HasCountOn kind l) told → AreFormed kinds (told ++ others)
    → AreReadTo kinds kind l a steps m j told others
