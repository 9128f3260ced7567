-- What a journal tells alike whether or not an SDU might have been taken as t-PollRetransmit
-- expired: VT(S) and VR(R) of each acknowledged flow, which STATUS PDUs are ignored and which are
-- true, and so whether they are right (TS 36.322 5.2.1, 5.2.2.3, 5.2.3, 7.1).
use Rattle.std.specs.Prelude.{ℕ, ◌≡◌, Bool, false, List, map, Option}
use Rattle.l2_types.specs.declared.side.Side.{Side}
use Rattle.air_record.specs.declared.line.Line.{Line}
use Rattle.air_record.specs.declared.record.Record.{Record}
use Rattle.air_text.specs.Groups.{Group}
use Rattle.pdu_show.specs.declared.kinds.Layout.{Layout}
use Rattle.journal_account.specs.declared.entry.StatusEntry.{StatusEntry}
use Rattle.journal_account.specs.FlowEvents.{FlowEvent, PollExpired, next_of}
use Rattle.journal_account.specs.Acked.{ignored_in}
use Rattle.journal_account.specs.TrueStatus.{IsTrueStatus}
use Rattle.journal_lives.specs.LifeEvents.{LifeEvent, InLife, running}
use Rattle.journal_flows.specs.NumberedPdus.{front_in}
use Rattle.journal_flows.specs.Gathering.{Journal, MayTake, behind_record, behind_records}
use Rattle.journal_flows.specs.Gathering.{behind_line, behind_end, behind}
use Rattle.journal_flows.specs.FlowsTold.{Histories, histories, no_events}
use Rattle.journal_status.specs.RightStatus.{StatusIsRight, told_within}

-- ---- alike: the same, but for what expiries of t-PollRetransmit say of SDUs

-- an event with that left out
abbrev pub without_flag : FlowEvent → FlowEvent
without_flag (PollExpired more) = PollExpired false
without_flag e = e

abbrev pub AreAlike : List FlowEvent → List FlowEvent → Type 0
AreAlike es fs = map without_flag es ≡ map without_flag fs

abbrev pub life_without_flag : LifeEvent → LifeEvent
life_without_flag (InLife e) = InLife (without_flag e)
life_without_flag e = e

abbrev pub AreAlikeLives : List LifeEvent → List LifeEvent → Type 0
AreAlikeLives es fs = map life_without_flag es ≡ map life_without_flag fs

pub record AreAlikeFlows (one another : Histories) : Type 0 where
  pub acked : (side : Side) (lcid : ℕ)
      → AreAlikeLives (one.acked side lcid) (another.acked side lcid)
  pub unacked : (side : Side) (lcid : ℕ) → one.unacked side lcid ≡ another.unacked side lcid

pub record AreAlikeJournals (one another : Journal Histories) : Type 0 where
  pub flows : AreAlikeFlows one.flows another.flows
  pub nb : one.nb ≡ another.nb
  pub ue : one.ue ≡ another.ue

-- ---- what two such histories tell

abbrev pub AlikeLivesRunAlike : Type 0
AlikeLivesRunAlike =
    (es fs : List LifeEvent) → AreAlikeLives es fs → AreAlike (running es) (running fs)

pub record TellAlike (es fs : List FlowEvent) : Type 0 where
  pub next : next_of es ≡ next_of fs
  pub front : front_in es ≡ front_in fs
  pub ignored : ignored_in es ≡ ignored_in fs
  pub statuses : (ack : ℕ) (entries : List StatusEntry) → IsTrueStatus es ack entries
      → IsTrueStatus fs ack entries

abbrev pub AlikeHistoriesTellAlike : Type 0
AlikeHistoriesTellAlike = (es fs : List FlowEvent) → AreAlike es fs → TellAlike es fs

-- ---- such journals stay so behind a record, a line and the end of a group

pub record GoOnAlike (i j : Journal Histories) : Type 0 where
  pub records : (kinds : List (Option Layout)) (more might : Bool) (one : Record)
      → AreAlikeJournals (behind_record histories kinds more one i)
      (behind_record histories kinds might one j)
  pub lines : (line : Line)
      → AreAlikeJournals (behind_line histories line i) (behind_line histories line j)
  pub ends : (hands_over : Bool)
      → AreAlikeJournals (behind_end histories hands_over i) (behind_end histories hands_over j)

abbrev pub AlikeJournalsGoOnAlike : Type 0
AlikeJournalsGoOnAlike = (i j : Journal Histories) → AreAlikeJournals i j → GoOnAlike i j

-- ---- so all that is gathered of a journal is alike

pub record GatheredAlike (one another : MayTake) (past : List Group) : Type 0 where
  pub records : (kinds : List (Option Layout)) (before told : List Record)
      (i j : Journal Histories) → AreAlikeJournals i j
      → AreAlikeJournals (behind_records histories one past kinds before told i)
      (behind_records histories another past kinds before told j)
  pub within : (now : Group)
      → AreAlikeJournals (told_within one now past) (told_within another now past)
  pub behind : AreAlikeJournals (behind histories no_events one past)
      (behind histories no_events another past)

abbrev pub JournalsAreAlike : Type 0
JournalsAreAlike = (one another : MayTake) (past : List Group) → GatheredAlike one another past

-- ---- and its STATUS PDUs are right or not

abbrev pub StatusNeedsNoFlags : Type 0
StatusNeedsNoFlags =
    (one another : MayTake) (past : List Group) → StatusIsRight one past
    → StatusIsRight another past
