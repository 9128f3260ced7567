-- What PDCP gives RLC of acknowledged data on one channel, 0 to 10: what `Giving` of journal_given
-- gathers of all channels goes on alone on each (docs/laws/ACCOUNT.md; TS 36.323 5.1.1, 5.2.1.1,
-- 5.3, 5.4). Only the accounts of flows, by which RLC confirms and reports come, are of all.
use Rattle.std.specs.Prelude.{ℕ, ◌≡◌, ◌+◌, ◌-◌, ◌<◌, ◌≤◌, ◌==◌, Bool, true, false, if◌then◌else◌}
use Rattle.std.specs.Prelude.{List, [], ◌∷◌, ◌++◌, length, Option, Some, None, option_map}
use Rattle.l2_types.specs.declared.side.Side.{Side}
use Rattle.l2_types.specs.declared.side.Side.TheVariants.{Nb, Ue}
use Rattle.bearer_types.specs.declared.event.Event.{Event}
use Rattle.bearer_types.specs.declared.event.Event.TheVariants as events
use Rattle.bearer_types.specs.Sides.{sender_of}
use Rattle.air_record.specs.declared.line.Line.{Line}
use Rattle.air_record.specs.declared.line.Line.TheVariants as lines
use Rattle.air_record.specs.declared.record.Arrived.TheVariants.{Got}
use Rattle.air_record.specs.declared.record.Record.{Record}
use Rattle.air_record.specs.declared.record.Record.TheVariants as records
use Rattle.air_record.specs.declared.submission.Submission.{Submission}
use Rattle.air_record.specs.Submissions.{submitted_by, unrefused}
use Rattle.air_text.specs.Groups.{Group}
use Rattle.journal_takes.specs.TakeEvents.{SduSubmitted, SduDiscarded}
use Rattle.journal_flows.specs.Gathering.{MayTake, is_handover}
use Rattle.journal_flows.specs.FlowsTold.{is_at}
use Rattle.journal_flows.specs.Accounts.{Keeping, nothing_kept}
use Rattle.journal_flows.specs.Accounts.{after_line as line_kept, after_record as record_kept}
use Rattle.journal_flows.specs.Accounts.{after_group as group_kept}
use Rattle.journal_given.specs.Supplies.{Keeper, Supply, Bearer, told, takes_pdu, takes_report}
use Rattle.journal_given.specs.Giving.{Giving, on_side, bearer_begun, bearer_at, landed_on}
use Rattle.journal_given.specs.Giving.{ended_on, waits_at, may_take, settled, nothing_given}
use Rattle.journal_given.specs.Giving.{after_line, after_record, after_group, given_within}
use Rattle.journal_given.specs.Giving.{all_given, behind_records, may_take_by}

-- ---- its bearer of acknowledged data

-- what happens on a channel changes a side of it, if that is the one
abbrev pub changed_if : {T : Type 0} → Bool → Side → (Supply T → Supply T) → Option (Bearer T)
    → Option (Bearer T)
changed_if here side f b = if here then option_map (on_side side f) b else b

-- the SDU of the group's line, where one is left
abbrev pub bearer_submits : {T : Type 0} → Keeper T → ℕ → Option Submission → Option (Bearer T)
    → Option (Bearer T)
bearer_submits k l None b = b
bearer_submits k l (Some s) b =
    changed_if (s.lcid == l) s.side (told k (SduSubmitted s.octets)) b

abbrev pub bearer_happens : {T : Type 0} → Keeper T → ℕ → Side → Event → Option (Bearer T)
    → Option (Bearer T)
bearer_happens k l side (events.Take lcid count len) b =
    changed_if (lcid == l) side (takes_pdu k count len) b
bearer_happens k l side (events.Report lcid fms bitmap) b =
    changed_if (lcid == l) side (takes_report k fms bitmap) b
bearer_happens k l side (events.Discard lcid len) b =
    changed_if (lcid == l) side (told k SduDiscarded) b
bearer_happens k l side event b = b

-- by the accounts of both flows behind the record, where a block comes
abbrev pub bearer_told : {T : Type 0} → Keeper T → ℕ → Record → Keeping → Option (Bearer T)
    → Option (Bearer T)
bearer_told k l (records.Of side event) kept b = bearer_happens k l side event b
bearer_told k l (records.Looped lcid octets) kept b =
    changed_if (lcid == l) Ue (told k (SduSubmitted octets)) b
bearer_told k l (records.Air direction Got heard) kept b =
    landed_on k (sender_of direction) kept l b
bearer_told k l one kept b = b

-- a record, which may refuse the SDU of the line
abbrev pub bearer_behind : {T : Type 0} → Keeper T → ℕ → Record → Option Submission → Keeping
    → Option (Bearer T) → Option (Bearer T)
bearer_behind k l one sdu kept b =
    bearer_told k l one kept (bearer_submits k l (unrefused one sdu) b)

abbrev pub bearer_by_line : {T : Type 0} → Keeper T → ℕ → Line → Option (Bearer T)
    → Option (Bearer T)
bearer_by_line k l (lines.Bearer config options) b = if config.channel.lcid == l
    then bearer_begun k config.kind config.first config.pdcp_bits else b
bearer_by_line k l line b = b

-- ---- how many SDUs wait at a side where the bearer is of another kind

abbrev pub waits_submits : Side → ℕ → Option Submission → ℕ → ℕ
waits_submits side l None n = n
waits_submits side l (Some s) n = if is_at s.side s.lcid side l then n + 1 else n

abbrev pub waits_happens : Side → ℕ → Side → Event → ℕ → ℕ
waits_happens side l from (events.Take lcid count len) n =
    if is_at from lcid side l then n - 1 else n
waits_happens side l from (events.Discard lcid len) n =
    if is_at from lcid side l then n - 1 else n
waits_happens side l from event n = n

abbrev pub waits_told : Side → ℕ → Record → ℕ → ℕ
waits_told side l (records.Of from event) n = waits_happens side l from event n
waits_told side l (records.Looped lcid octets) n = if is_at Ue lcid side l then n + 1 else n
waits_told side l one n = n

abbrev pub waits_by_line : ℕ → Line → ℕ → ℕ
waits_by_line l (lines.Bearer config options) n = if config.channel.lcid == l then 0 else n
waits_by_line l line n = n

-- ---- one channel

pub record OneChannel (T : Type 0) : Type 0 where
  -- the accounts of flows, of all channels
  pub kept : Keeping
  pub bearer : Option (Bearer T)
  pub nb_waits : ℕ
  pub ue_waits : ℕ
  -- the SDU of the group's line, on whichever channel, until it is submitted or refused
  pub submitted : Option Submission

-- of what is gathered of all
abbrev pub channel_in : {T : Type 0} → ℕ → Giving T → OneChannel T
channel_in l g = record {
  kept = g.kept;
  bearer = bearer_at l g.bearers;
  nb_waits = waits_at Nb l g.waits;
  ue_waits = waits_at Ue l g.waits;
  submitted = g.submitted;
}

abbrev pub nothing_on : {T : Type 0} → OneChannel T
nothing_on = record {
  kept = nothing_kept;
  bearer = None;
  nb_waits = 0;
  ue_waits = 0;
  submitted = None;
}

abbrev pub waits_on : {T : Type 0} → Side → OneChannel T → ℕ
waits_on Nb c = c.nb_waits
waits_on Ue c = c.ue_waits

abbrev pub one_submitted : {T : Type 0} → Keeper T → ℕ → Option Submission → OneChannel T
    → OneChannel T
one_submitted k l sdu c = record {
  kept = c.kept;
  bearer = bearer_submits k l sdu c.bearer;
  nb_waits = waits_submits Nb l sdu c.nb_waits;
  ue_waits = waits_submits Ue l sdu c.ue_waits;
  submitted = None;
}

-- before a record
abbrev pub one_settled : {T : Type 0} → Keeper T → ℕ → Record → OneChannel T → OneChannel T
one_settled k l one c = one_submitted k l (unrefused one c.submitted) c

-- `more`: something may be taken as t-PollRetransmit expires by the record
abbrev pub one_told : {T : Type 0} → Keeper T → ℕ → Bool → Record → OneChannel T → OneChannel T
one_told k l more one c = record {
  kept = record_kept more one c.kept;
  bearer = bearer_told k l one (record_kept more one c.kept) c.bearer;
  nb_waits = waits_told Nb l one c.nb_waits;
  ue_waits = waits_told Ue l one c.ue_waits;
  submitted = c.submitted;
}

abbrev pub one_record : {T : Type 0} → Keeper T → ℕ → Bool → Record → OneChannel T → OneChannel T
one_record k l more one c = one_told k l more one (one_settled k l one c)

abbrev pub one_line : {T : Type 0} → Keeper T → ℕ → Line → OneChannel T → OneChannel T
one_line k l line c = record {
  kept = line_kept line c.kept;
  bearer = bearer_by_line k l line c.bearer;
  nb_waits = waits_by_line l line c.nb_waits;
  ue_waits = waits_by_line l line c.ue_waits;
  submitted = submitted_by line;
}

-- a handover ends a life of both flows
abbrev pub one_ended : {T : Type 0} → Keeper T → ℕ → Bool → OneChannel T → OneChannel T
one_ended k l true c = record {
  kept = c.kept;
  bearer = ended_on k c.kept l c.bearer;
  nb_waits = 0;
  ue_waits = 0;
  submitted = c.submitted;
}
one_ended k l false c = c

abbrev pub with_accounts : {T : Type 0} → Keeping → OneChannel T → OneChannel T
with_accounts kept c = record {
  kept = kept;
  bearer = c.bearer;
  nb_waits = c.nb_waits;
  ue_waits = c.ue_waits;
  submitted = c.submitted;
}

abbrev pub one_group : {T : Type 0} → Keeper T → ℕ → Bool → OneChannel T → OneChannel T
one_group k l hands_over c = one_ended k l hands_over
    (one_submitted k l c.submitted (with_accounts (group_kept c.kept) c))

-- ---- a journal on one channel, where it is told of each record whether something may be taken

-- behind records that follow others, of which the latest stands first
abbrev pub one_records : {T : Type 0} → Keeper T → ℕ → MayTake → List Group → List Record
    → List Record → OneChannel T → OneChannel T
one_records k l may past before [] c = c
one_records k l may past before (one ∷ rest) c =
    one_records k l may past (one ∷ before) rest
    (one_record k l (may past before one) one c)

-- behind such others
abbrev pub one_behind : {T : Type 0} → Keeper T → ℕ → MayTake → List Group → List Record
    → OneChannel T → OneChannel T
one_behind k l may past [] c = c
one_behind k l may past (one ∷ before) c =
    one_record k l (may past before one) one (one_behind k l may past before c)

abbrev pub one_within : {T : Type 0} → Keeper T → ℕ → MayTake → Group → List Group
    → OneChannel T → OneChannel T
one_within k l may now past c =
    one_records k l may past [] now.events (one_line k l now.line c)

abbrev pub one_given : {T : Type 0} → Keeper T → ℕ → MayTake → List Group → OneChannel T
one_given k l may [] = nothing_on
one_given k l may (now ∷ past) = one_group k l (is_handover now.line)
    (one_within k l may now past (one_given k l may past))

-- ---- each channel goes on alone

-- the bearer behind a record, by the record and the bearer before it
abbrev pub OneBearerByRecords : (T : Type 0) → Keeper T → Type 0
OneBearerByRecords T k = (l : ℕ) (one : Record) (g : Giving T)
    → bearer_at l (after_record k one g).bearers
    ≡ bearer_behind k l one g.submitted (after_record k one g).kept (bearer_at l g.bearers)

pub record HasChannels (T : Type 0) (g : Giving T) : Type 0 where
  pub bearers : length g.bearers ≡ 11
  pub nb_waits : length g.waits.nb ≡ 11
  pub ue_waits : length g.waits.ue ≡ 11

pub record ChannelsStay (T : Type 0) (k : Keeper T) (g : Giving T) : Type 0 where
  pub line : (line : Line) → HasChannels T (after_line k line g)
  pub settles : (one : Record) → HasChannels T (settled k one g)
  pub behind : (one : Record) → HasChannels T (after_record k one g)
  pub group : HasChannels T (after_group k g)

pub record GoesAlone (T : Type 0) (k : Keeper T) (l : ℕ) (g : Giving T) : Type 0 where
  pub line : (line : Line)
      → channel_in l (after_line k line g) ≡ one_line k l line (channel_in l g)
  pub settles : (one : Record)
      → channel_in l (settled k one g) ≡ one_settled k l one (channel_in l g)
  pub behind : (one : Record) → channel_in l (after_record k one g)
      ≡ one_record k l (may_take k one (settled k one g)) one (channel_in l g)
  pub group : channel_in l (after_group k g) ≡ one_group k l g.hands_over (channel_in l g)

pub record OneChannelBySteps (T : Type 0) (k : Keeper T) : Type 0 where
  pub begin : HasChannels T nothing_given
  pub stay : (g : Giving T) → HasChannels T g → ChannelsStay T k g
  pub alone : (l : ℕ) (g : Giving T) → l ≤ 10 → HasChannels T g → GoesAlone T k l g
  -- there are no others
  pub none : (l : ℕ) (g : Giving T) → 10 < l → HasChannels T g → bearer_at l g.bearers ≡ None

-- the first records of a group alone
abbrev pub first_of : Group → List Record → Group
first_of now told = record { number = now.number; line = now.line; events = told }

-- so it does behind the groups of a journal, and behind records of one: also where they are told of
-- with the latest first
pub record GivenAlone (T : Type 0) (k : Keeper T) (l : ℕ) (newer : List Group) (now : Group)
    (past : List Group) : Type 0 where
  pub has : (told : List Record)
      → HasChannels T (given_within k (first_of now told) (all_given k past))
  pub begins : channel_in l (all_given k past)
      ≡ one_given k l (may_take_by k (newer ++ now ∷ past)) past
  pub within : (told : List Record)
      → channel_in l (given_within k (first_of now told) (all_given k past))
      ≡ one_within k l (may_take_by k (newer ++ now ∷ past)) (first_of now told) past
      (one_given k l (may_take_by k (newer ++ now ∷ past)) past)
  pub before : (before : List Record)
      → channel_in l (behind_records k before (after_line k now.line (all_given k past)))
      ≡ one_behind k l (may_take_by k (newer ++ now ∷ past)) past before
      (one_line k l now.line (one_given k l (may_take_by k (newer ++ now ∷ past)) past))
  pub behind : channel_in l (all_given k (now ∷ past))
      ≡ one_given k l (may_take_by k (newer ++ now ∷ past)) (now ∷ past)

abbrev pub OneChannelByGroups : (T : Type 0) → Keeper T → Type 0
OneChannelByGroups T k = (l : ℕ) (newer : List Group) (now : Group) (past : List Group) → l ≤ 10
    → GivenAlone T k l newer now past
