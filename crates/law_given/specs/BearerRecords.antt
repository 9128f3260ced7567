-- What the records of a channel, 0 to 10, must be, whether RLC may take anything of it, and what
-- its flows say, by that channel alone (docs/laws/ACCOUNT.md; TS 36.323 5.1.1, 5.2.1.1, 5.3.1,
-- 5.4, TS 36.322 5.2.2.3).
use Rattle.std.specs.Prelude.{ℕ, ◌≡◌, ◌<◌, ◌≤◌, ◌==◌, ◌↔◌, Bool, true, false, if◌then◌else◌, nat_lt}
use Rattle.std.specs.Prelude.{List, [], ◌∷◌, ◌++◌, reverse, Option, Some, None, is_some, option_map}
use Rattle.l2_types.specs.declared.channel.Kind.{Kind}
use Rattle.l2_types.specs.declared.channel.Kind.TheVariants as bearers
use Rattle.l2_types.specs.declared.event.Clock.TheVariants.{Poll}
use Rattle.l2_types.specs.declared.side.Side.{Side}
use Rattle.l2_types.specs.declared.side.Side.TheVariants.{Nb, Ue}
use Rattle.bearer_types.specs.declared.config.BearerConfig.{BearerConfig}
use Rattle.bearer_types.specs.declared.event.Event.{Event}
use Rattle.bearer_types.specs.declared.event.Event.TheVariants as events
use Rattle.bearer_types.specs.Sides.{other, sender_of}
use Rattle.air_record.specs.declared.line.Line.{Line}
use Rattle.air_record.specs.declared.record.Arrived.TheVariants.{Got}
use Rattle.air_record.specs.declared.record.Record.{Record}
use Rattle.air_record.specs.declared.record.Record.TheVariants as records
use Rattle.air_record.specs.declared.submission.Submission.{Submission}
use Rattle.air_record.specs.Submissions.{submitted_by, unrefused}
use Rattle.air_text.specs.Groups.{Group}
use Rattle.journal_account.specs.Confirmed.{is_confirmed_sdu}
use Rattle.journal_account.specs.Stream.{is_in_sequence}
use Rattle.journal_lives.specs.FlowLives.{FlowLives}
use Rattle.journal_lives.specs.LifeEvents.{running}
use Rattle.journal_takes.specs.TakeEvents.{ReportHeard, SduSubmitted}
use Rattle.journal_takes.specs.FlowTakes.{next_take}
use Rattle.journal_flows.specs.NumberedPdus.{carries_status}
use Rattle.journal_flows.specs.Gathering.{Journal, MayTake, sending_of, sent_last, within, behind}
use Rattle.journal_flows.specs.Gathering.{is_handover}
use Rattle.journal_flows.specs.FlowsTold.{Histories, no_events, histories as flows, flows_told}
use Rattle.journal_flows.specs.FlowsTold.{flows_within}
use Rattle.journal_flows.specs.Accounts.{Keeping, account_at, is_acked_kind}
use Rattle.journal_flows.specs.Laws.{bearer_on, account_by}
use Rattle.journal_given.specs.Laws.{SaysBy}
use Rattle.journal_given.specs.Supplies.{Keeper, Supply, Bearer, History, account, histories, told}
use Rattle.journal_given.specs.Supplies.{confirms}
use Rattle.journal_given.specs.Giving.{side_of, bearer_at, landed_on, lives_ended, waits_at}
use Rattle.journal_given.specs.Giving.{after_line, all_given, given_within, may_take_by}
use Rattle.journal_given.specs.RightTakes.{TakeIsRight, ReportIsRight, DiscardIsRight, OnBearer}
use Rattle.journal_given.specs.RightTakes.{AreRightRecords, TakesAreRight}
use Rattle.law_given.specs.OneBearer.{changed_if, bearer_submits, bearer_happens, bearer_by_line}
use Rattle.law_given.specs.OneBearer.{waits_submits, waits_told, waits_by_line}
use Rattle.law_given.specs.OneBearer.{OneChannel, waits_on, one_settled, one_record, one_line}
use Rattle.law_given.specs.OneBearer.{one_behind, one_within, one_given, first_of}

-- ---- records are right on a channel

abbrev pub IsRightEventOn : ℕ → Side → Event → Option (Bearer History) → Type 0
IsRightEventOn l side (events.Take lcid count len) b =
    lcid ≡ l → OnBearer b side (TakeIsRight count len)
IsRightEventOn l side (events.Report lcid fms bitmap) b =
    lcid ≡ l → OnBearer b side (ReportIsRight fms bitmap)
IsRightEventOn l side (events.Discard lcid len) b = lcid ≡ l → OnBearer b side DiscardIsRight
IsRightEventOn l side event b = Unit {0}

abbrev pub IsRightOn : ℕ → Record → Option (Bearer History) → Type 0
IsRightOn l (records.Of side event) b = IsRightEventOn l side event b
IsRightOn l one b = Unit {0}

-- records of a group that follow others, of which the latest stands first
abbrev pub AreRightOn : ℕ → MayTake → List Group → List Record → List Record
    → OneChannel History → Type 0
AreRightOn l may past before [] c = Unit {0}
AreRightOn l may past before (one ∷ rest) c =
    IsRightOn l one (one_settled histories l one c).bearer
    × AreRightOn l may past (one ∷ before) rest
    (one_record histories l (may past before one) one c)

-- those of a group
abbrev pub GroupIsRightOn : ℕ → MayTake → Group → List Group → Type 0
GroupIsRightOn l may now past = AreRightOn l may past [] now.events
    (one_line histories l now.line (one_given histories l may past))

abbrev pub TakesAreRightOn : ℕ → MayTake → List Group → Type 0
TakesAreRightOn l may [] = Unit {0}
TakesAreRightOn l may (now ∷ past) =
    GroupIsRightOn l may now past × TakesAreRightOn l may past

-- each record of a group is right exactly where it is so on each channel
abbrev pub GroupRightOnOneBearer : Type 0
GroupRightOnOneBearer = (newer : List Group) (now : Group) (past : List Group)
    → ((l : ℕ) → l ≤ 10
    → GroupIsRightOn l (may_take_by histories (newer ++ now ∷ past)) now past)
    ↔ AreRightRecords now.events (after_line histories now.line (all_given histories past))

abbrev pub RightOnOneBearer : Type 0
RightOnOneBearer = (past : List Group)
    → ((l : ℕ) → l ≤ 10 → TakesAreRightOn l (may_take_by histories past) past)
    ↔ TakesAreRight past

-- ---- t-PollRetransmit of a side expires: something may be taken

-- of a bearer of acknowledged data where its account has something next, and of another where an
-- SDU waits
pub record IsTakeable (side : Side) (c : OneChannel History) (may : Bool) : Type 0 where
  pub acked : (b : Bearer History) → c.bearer ≡ Some b
      → may ≡ is_some (next_take (account (side_of side b).takes))
  pub others : c.bearer ≡ None → may ≡ nat_lt 0 (waits_on side c)

abbrev pub expires : Side → ℕ → Record
expires side l = records.Of side (events.Expired l Poll)

-- behind records of a group, of which the latest stands first
pub record MayTakeOn (l : ℕ) (may : MayTake) (now : Group) (past : List Group)
    (before : List Record) (side : Side) : Type 0 where
  pub low : l ≤ 10 → IsTakeable side
      (one_settled histories l (expires side l) (one_behind histories l may past before
      (one_line histories l now.line (one_given histories l may past))))
      (may past before (expires side l))
  -- there are no other channels
  pub above : 10 < l → may past before (expires side l) ≡ false

abbrev pub MayTakeByOneBearer : Type 0
MayTakeByOneBearer = (l : ℕ) (newer : List Group) (now : Group) (past : List Group)
    (before : List Record) (side : Side)
    → MayTakeOn l (may_take_by histories (newer ++ now ∷ past)) now past before side

-- ---- a channel has a bearer of acknowledged data where its latest line says so

abbrev pub is_data : Kind → Bool
is_data bearers.Am = true
is_data kind = false

abbrev pub has_data : Option BearerConfig → Bool
has_data None = false
has_data (Some config) = is_data config.kind

pub record IsStanding (T : Type 0) (k : Keeper T) (l : ℕ) (past : List Group) : Type 0 where
  pub behind : is_some (bearer_at l (all_given k past).bearers) ≡ has_data (bearer_on l past)
  pub within : (now : Group)
      → is_some (bearer_at l (given_within k now (all_given k past)).bearers)
      ≡ has_data (bearer_on l (now ∷ past))

abbrev pub BearersStand : (T : Type 0) → Keeper T → Type 0
BearersStand T k = (l : ℕ) (past : List Group) → l ≤ 10 → IsStanding T k l past

-- ---- what flows say behind records of a group

-- the accounts of flows behind them
abbrev pub accounts_within : ℕ → MayTake → Group → List Group → Keeping
accounts_within l may now past =
    (one_within histories l may now past (one_given histories l may past)).kept

abbrev pub flows_in : MayTake → Group → List Group → Journal Histories
flows_in may now past = within flows may now past (behind flows no_events may past)

-- of a side that sends: its history says what RLC confirms and what comes by its account, and its
-- block that is sent is the one that the histories are gathered with
pub record IsSaidWithin (l : ℕ) (may : MayTake) (now : Group) (past : List Group) (side : Side)
    : Type 0 where
  pub flow : SaysBy (bearer_on l (now ∷ past)) (flows_within may now past side l)
      (account_at side l (accounts_within l may now past).journal.flows)
  pub account_is : account_at side l (accounts_within l may now past).journal.flows
      ≡ account_by (bearer_on l (now ∷ past)) (flows_within may now past side l)
  pub sending : sending_of side (accounts_within l may now past).journal
      ≡ sending_of side (flows_in may now past)

pub record FlowsSayOn (l : ℕ) (newer : List Group) (now : Group) (past : List Group) (side : Side)
    : Type 0 where
  -- behind any records with which the group may begin
  pub first : (told : List Record) → IsSaidWithin l
      (may_take_by histories (newer ++ now ∷ past)) (first_of now told) past side
  -- behind its end, by which a life of both flows ends at a handover
  pub last : SaysBy (bearer_on l (now ∷ past))
      (flows_told (may_take_by histories (newer ++ now ∷ past)) (now ∷ past) side l)
      (account_at side l (one_given histories l (may_take_by histories (newer ++ now ∷ past))
      (now ∷ past)).kept.journal.flows)
  -- histories are the same by the groups up to this one alone
  pub alone : (told : List Record)
      → flows_within (may_take_by histories (newer ++ now ∷ past)) (first_of now told) past side l
      ≡ flows_within (may_take_by histories (first_of now told ∷ past)) (first_of now told) past
      side l

abbrev pub FlowsSayOnOneBearer : Type 0
FlowsSayOnOneBearer = (l : ℕ) (newer : List Group) (now : Group) (past : List Group) (side : Side)
    → l ≤ 10 → FlowsSayOn l newer now past side

-- ---- a block that comes, by what is in sequence of the flow that it is of, and what is confirmed
-- of the one that goes the other way

abbrev pub comes_by : (ℕ → Bool) → Option ℕ → Bool
comes_by sequenced None = false
comes_by sequenced (Some number) = sequenced number

abbrev pub gone_by : {T : Type 0} → (ℕ → Bool) → Supply T → Supply T
gone_by sequenced s =
    if comes_by sequenced s.report then record s { report = None } else s

abbrev pub heard_by : {T : Type 0} → Keeper T → (ℕ → Bool) → Supply T → Supply T → Supply T
heard_by k sequenced sender s = if comes_by sequenced sender.report
    then told k (ReportHeard sender.said.next sender.said.beyond) s else s

abbrev pub confirms_by : {T : Type 0} → Keeper T → Bool → (ℕ → Bool) → Supply T → Supply T
confirms_by k status confirmed s = if status then confirms k confirmed s else s

abbrev pub landed_by : {T : Type 0} → Keeper T → Side → Bool → (ℕ → Bool) → (ℕ → Bool)
    → Bearer T → Bearer T
landed_by k Nb status sequenced confirmed b = record {
  nb = gone_by sequenced b.nb;
  ue = heard_by k sequenced b.nb (confirms_by k status confirmed b.ue);
}
landed_by k Ue status sequenced confirmed b = record {
  nb = heard_by k sequenced b.ue (confirms_by k status confirmed b.nb);
  ue = gone_by sequenced b.ue;
}

-- by the histories of both flows
abbrev pub landed_in : Side → ℕ → Journal Histories → Bearer History → Bearer History
landed_in from l j b = landed_by histories from (carries_status l (sent_last (sending_of from j)))
    (is_in_sequence (running (j.flows.acked from l)))
    (is_confirmed_sdu (running (j.flows.acked (other from) l))) b

abbrev pub LandedByHistories : Type 0
LandedByHistories = (l : ℕ) (newer : List Group) (now : Group) (past : List Group)
    (told : List Record) (config : BearerConfig) (from : Side) (b : Bearer History) → l ≤ 10
    → bearer_on l (now ∷ past) ≡ Some config → is_acked_kind config.kind ≡ true
    → landed_on histories from (accounts_within l
    (may_take_by histories (newer ++ now ∷ past)) (first_of now told) past) l (Some b)
    ≡ Some (landed_in from l
    (flows_in (may_take_by histories (newer ++ now ∷ past)) (first_of now told) past) b)

-- ---- so its bearer goes on by histories

-- of the flows behind the record
abbrev pub bearer_heard : ℕ → Record → Journal Histories → Option (Bearer History)
    → Option (Bearer History)
bearer_heard l (records.Of side event) j b = bearer_happens histories l side event b
bearer_heard l (records.Looped lcid octets) j b =
    changed_if (lcid == l) Ue (told histories (SduSubmitted octets)) b
bearer_heard l (records.Air direction Got heard) j b =
    option_map (landed_in (sender_of direction) l j) b
bearer_heard l one j b = b

-- a handover ends a life, by the accounts of both flows behind it
abbrev pub bearer_over : Bool → Option FlowLives → Option FlowLives → Option (Bearer History)
    → Option (Bearer History)
bearer_over true of_nb of_ue b = option_map (lives_ended histories of_nb of_ue) b
bearer_over false of_nb of_ue b = b

-- the SDU of a line, behind records of its group
abbrev pub left_by : Line → List Record → Option Submission
left_by line [] = submitted_by line
left_by line (one ∷ told) = None

-- behind the first records of a group
abbrev pub bearer_first : ℕ → Group → List Group → List Record → Option (Bearer History)
bearer_first l now past told =
    bearer_at l (given_within histories (first_of now told) (all_given histories past)).bearers

-- and before the one that follows, where the SDU of the line is submitted
abbrev pub bearer_before : ℕ → Group → List Group → List Record → Record
    → Option (Bearer History)
bearer_before l now past told one = bearer_submits histories l
    (unrefused one (left_by now.line told)) (bearer_first l now past told)

pub record GoesByHistories (l : ℕ) (may : MayTake) (now : Group) (past : List Group) : Type 0
  where
    pub begins : bearer_first l now past []
        ≡ bearer_by_line histories l now.line (bearer_at l (all_given histories past).bearers)
    pub goes : (told : List Record) (one : Record) → bearer_first l now past (told ++ one ∷ [])
        ≡ bearer_heard l one (flows_in may (first_of now (told ++ one ∷ [])) past)
        (bearer_before l now past told one)
    pub ends : bearer_at l (all_given histories (now ∷ past)).bearers
        ≡ bearer_over (is_handover now.line)
        (account_by (bearer_on l (now ∷ past)) (flows_told may (now ∷ past) Nb l))
        (account_by (bearer_on l (now ∷ past)) (flows_told may (now ∷ past) Ue l))
        (bearer_submits histories l (left_by now.line now.events)
        (bearer_first l now past now.events))

abbrev pub OneBearerByHistories : Type 0
OneBearerByHistories = (l : ℕ) (newer : List Group) (now : Group) (past : List Group) → l ≤ 10
    → GoesByHistories l (may_take_by histories (newer ++ now ∷ past)) now past

-- the records of a group are right where each is by the bearer of its channel before it
abbrev pub RightByRecords : Type 0
RightByRecords = (now : Group) (past : List Group)
    → ((l : ℕ) (told : List Record) (one : Record) (rest : List Record) → l ≤ 10
    → now.events ≡ told ++ one ∷ rest → IsRightOn l one (bearer_before l now past told one))
    → AreRightRecords now.events (after_line histories now.line (all_given histories past))

-- ---- and so do the SDUs that wait at a side

abbrev pub waits_first : Side → ℕ → Group → List Group → List Record → ℕ
waits_first side l now past told =
    waits_at side l (given_within histories (first_of now told) (all_given histories past)).waits

abbrev pub waits_before : Side → ℕ → Group → List Group → List Record → Record → ℕ
waits_before side l now past told one = waits_submits side l
    (unrefused one (left_by now.line told)) (waits_first side l now past told)

pub record WaitsGo (side : Side) (l : ℕ) (now : Group) (past : List Group) : Type 0 where
  pub begins : waits_first side l now past []
      ≡ waits_by_line l now.line (waits_at side l (all_given histories past).waits)
  pub goes : (told : List Record) (one : Record) → waits_first side l now past (told ++ one ∷ [])
      ≡ waits_told side l one (waits_before side l now past told one)
  -- those of signalling bearers are dropped at a handover
  pub ends : waits_at side l (all_given histories (now ∷ past)).waits
      ≡ (if is_handover now.line then 0
      else waits_submits side l (left_by now.line now.events)
      (waits_first side l now past now.events))

abbrev pub WaitsByRecords : Type 0
WaitsByRecords = (side : Side) (l : ℕ) (now : Group) (past : List Group) → l ≤ 10
    → WaitsGo side l now past

-- t-PollRetransmit of a side expires behind the first records of a group: something may be taken
pub record IsTakeableBefore (l : ℕ) (now : Group) (past : List Group) (told : List Record)
    (side : Side) (may : Bool) : Type 0 where
  pub acked : (b : Bearer History)
      → bearer_before l now past told (expires side l) ≡ Some b
      → may ≡ is_some (next_take (account (side_of side b).takes))
  pub others : bearer_before l now past told (expires side l) ≡ None
      → may ≡ nat_lt 0 (waits_before side l now past told (expires side l))

abbrev pub MayTakeByRecords : Type 0
MayTakeByRecords = (l : ℕ) (newer : List Group) (now : Group) (past : List Group)
    (told : List Record) (side : Side) → l ≤ 10
    → IsTakeableBefore l now past told side (may_take_by histories (newer ++ now ∷ past) past
    (reverse told) (expires side l))
