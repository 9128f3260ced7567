-- When the STATUS PDUs of a journal are right, whoever made it (TS 36.322 5.2.1, 5.2.3, 6.2.1.6;
-- docs/formats/JOURNAL.md). Each that a new block carries is true of the flow that it speaks of, as
-- that stands when the block is written. One that comes with an ACK below VT(A) is ignored, and a
-- `drop` record tells of it, in the group in which it comes.
use Rattle.std.specs.Prelude.{ℕ, ◌+◌, ◌==◌, ◌<◌, ◌≤◌, Bool, true, false, ◌&&◌, if◌then◌else◌}
use Rattle.std.specs.Prelude.{List, [], ◌∷◌, ◌++◌, length, ◌≡◌, Option, Some, None}
use Rattle.std.specs.List.{filter, All}
use Rattle.l2_types.specs.declared.event.Lost.TheVariants.{Ignored}
use Rattle.l2_types.specs.declared.side.Side.{Side}
use Rattle.bearer_types.specs.declared.config.BearerConfig.{BearerConfig}
use Rattle.bearer_types.specs.declared.event.Event.TheVariants.{Drop}
use Rattle.bearer_types.specs.Sides.{other, is_same, sender_of}
use Rattle.air_record.specs.declared.record.Record.{Record}
use Rattle.air_record.specs.declared.record.Record.TheVariants as records
use Rattle.air_text.specs.Groups.{Group}
use Rattle.journal_account.specs.Acked.{ignored_in}
use Rattle.journal_account.specs.TrueStatus.{IsTrueStatus}
use Rattle.journal_lives.specs.LifeEvents.{LifeEvent, running}
use Rattle.journal_flows.specs.declared.parcels.Parcel.{Parcel}
use Rattle.journal_flows.specs.declared.parcels.Parcel.TheVariants.{Octets, Pieces, Report}
use Rattle.journal_flows.specs.Gathering.{Journal, sending_of, sent_last, within, behind, MayTake}
use Rattle.journal_flows.specs.FlowsTold.{Flows, Histories, no_events, histories, flows_within}
use Rattle.journal_flows.specs.Accounts.{is_acked_kind}
use Rattle.journal_flows.specs.Laws.{bearer_on}

-- a group with these records alone, the first ones of its own
abbrev pub up_to : List Record → Group → Group
up_to told now = record { number = now.number; line = now.line; events = told }

-- ---- the STATUS that are written

-- one that a side writes is true of the flow that the other side sends
abbrev pub IsTrueReport : Flows → Side → Parcel → Type 0
IsTrueReport flows from (Octets lcid n start end) = Unit {0}
IsTrueReport flows from (Pieces lcid n size pieces) = Unit {0}
IsTrueReport flows from (Report lcid ack entries) =
    IsTrueStatus (running (flows (other from) lcid)) ack entries

-- those of a new block, by what its process holds behind its record
abbrev pub AreTrueReports : Journal Histories → Record → Type 0
AreTrueReports j (records.Block direction process true version octets) =
    let from = sender_of direction in
    All (IsTrueReport j.flows.acked from) (sent_last (sending_of from j))
AreTrueReports j one = Unit {0}

abbrev pub told_within : MayTake → Group → List Group → Journal Histories
told_within may_take now past =
    within histories may_take now past (behind histories no_events may_take past)

abbrev pub StatusesAreTrue : MayTake → Group → List Group → Type 0
StatusesAreTrue may_take now past =
    (told : List Record) (one : Record) (rest : List Record) → now.events ≡ told ++ one ∷ rest
    → AreTrueReports (told_within may_take (up_to (told ++ one ∷ []) now) past) one

-- ---- the STATUS that are ignored as they come

abbrev pub tells_ignored : Side → ℕ → Record → Bool
tells_ignored side lcid (records.Of s (Drop l Ignored)) = is_same side s && (l == lcid)
tells_ignored side lcid one = false

abbrev pub ignored_told : Side → ℕ → List Record → ℕ
ignored_told side lcid told = length (filter (tells_ignored side lcid) told)

-- how many were ignored in the life that runs, where the bearer is acknowledged
abbrev pub ignored_by : Option BearerConfig → List LifeEvent → ℕ
ignored_by None es = 0
ignored_by (Some config) es = if is_acked_kind config.kind then ignored_in (running es) else 0

abbrev pub ignored_within : MayTake → Group → List Group → Side → ℕ → ℕ
ignored_within may_take now past side lcid =
    ignored_by (bearer_on lcid (now ∷ past)) (flows_within may_take now past side lcid)

-- Those that were ignored in the life before the group's records, and the records that tell of one,
-- are never more than were ignored up to the record, and behind the last record as many.
pub record AreIgnoredTold (may_take : MayTake) (now : Group) (past : List Group) (side : Side)
    (lcid : ℕ) : Type 0 where
  pub behind_each : (told : List Record) (one : Record) (rest : List Record)
      → now.events ≡ told ++ one ∷ rest → tells_ignored side lcid one ≡ true
      → ignored_within may_take (up_to [] now) past side lcid
      + ignored_told side lcid (told ++ one ∷ [])
      ≤ ignored_within may_take (up_to (told ++ one ∷ []) now) past side lcid
  pub behind_all : ignored_within may_take (up_to [] now) past side lcid
      + ignored_told side lcid now.events
      ≡ ignored_within may_take now past side lcid

-- ---- of a group, the newest, and of a journal, group by group

-- logical channels are 0 to 10
pub record GroupStatusRight (may_take : MayTake) (now : Group) (past : List Group) : Type 0 where
  pub are_true : StatusesAreTrue may_take now past
  pub on_channels : (side : Side) (lcid : ℕ) → lcid ≤ 10
      → AreIgnoredTold may_take now past side lcid
  pub elsewhere : (side : Side) (lcid : ℕ) → 10 < lcid → ignored_told side lcid now.events ≡ 0

abbrev pub StatusIsRight : MayTake → List Group → Type 0
StatusIsRight may_take [] = Unit {0}
StatusIsRight may_take (now ∷ past) =
    GroupStatusRight may_take now past × StatusIsRight may_take past
