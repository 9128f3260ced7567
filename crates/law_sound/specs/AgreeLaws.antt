-- What is gathered of a journal agrees on a channel with what is read of it with another answer to
-- whether an SDU might be taken as t-PollRetransmit expires, where both answer alike on the channel
-- (TS 36.322 5.2.2.3).
use Rattle.std.specs.Prelude.{ℕ, ◌≡◌, Bool, List, [], ◌∷◌, Option}
use Rattle.l2_types.specs.declared.event.Clock.TheVariants.{Poll}
use Rattle.l2_types.specs.declared.side.Side.{Side}
use Rattle.bearer_types.specs.declared.event.Event.{Event}
use Rattle.bearer_types.specs.declared.event.Event.TheVariants as events
use Rattle.air_record.specs.declared.line.Line.{Line}
use Rattle.air_record.specs.declared.record.Record.{Record}
use Rattle.air_record.specs.declared.record.Record.TheVariants as records
use Rattle.air_text.specs.Groups.{Group}
use Rattle.pdu_show.specs.declared.kinds.Layout.{Layout}
use Rattle.journal_flows.specs.FlowsTold.{Histories, histories}
use Rattle.journal_flows.specs.Gathering.{Journal, MayTake, behind_record, behind_records}
use Rattle.journal_flows.specs.Gathering.{behind_line, behind_end}
use Rattle.law_sound.specs.AlikeLaws.{AreAlikeJournals}
use Rattle.law_sound.specs.BesideLaws.{ReadRecord, behind_all}
use Rattle.law_sound.specs.LoggedRecords.{records_of}

-- ---- both answer alike on a channel

abbrev pub EventAnswersAlike : ℕ → Bool → Bool → Event → Type 0
EventAnswersAlike l more might (events.Expired lcid Poll) = lcid ≡ l → more ≡ might
EventAnswersAlike l more might event = Unit {0}

abbrev pub AnswersAlike : ℕ → Bool → Bool → Record → Type 0
AnswersAlike l more might (records.Of side event) = EventAnswersAlike l more might event
AnswersAlike l more might one = Unit {0}

-- of records that follow others, of which the latest stands first
abbrev pub AnswerAlike : ℕ → MayTake → List Group → List Record → List ReadRecord → Type 0
AnswerAlike l may_take past before [] = Unit {0}
AnswerAlike l may_take past before (x ∷ xs) =
    AnswersAlike l (may_take past before x.one) x.more x.one
    × AnswerAlike l may_take past (x.one ∷ before) xs

-- ---- they agree: they are alike, and on the channel the same

pub record AgreeOn (l : ℕ) (one another : Journal Histories) : Type 0 where
  pub alike : AreAlikeJournals one another
  pub same : (side : Side) → one.flows.acked side l ≡ another.flows.acked side l

pub record GoOnAgreeing (l : ℕ) (i j : Journal Histories) : Type 0 where
  pub records : (kinds : List (Option Layout)) (more might : Bool) (one : Record)
      → AnswersAlike l more might one
      → AgreeOn l (behind_record histories kinds more one i)
      (behind_record histories kinds might one j)
  pub all : (kinds : List (Option Layout)) (may_take : MayTake) (past : List Group)
      (before : List Record) (xs : List ReadRecord) → AnswerAlike l may_take past before xs
      → AgreeOn l (behind_records histories may_take past kinds before (records_of xs) i)
      (behind_all kinds xs j)
  pub lines : (line : Line)
      → AgreeOn l (behind_line histories line i) (behind_line histories line j)
  pub ends : (hands_over : Bool)
      → AgreeOn l (behind_end histories hands_over i) (behind_end histories hands_over j)

abbrev pub JournalsAgreeOnAChannel : Type 0
JournalsAgreeOnAChannel =
    (l : ℕ) (i j : Journal Histories) → AgreeOn l i j → GoOnAgreeing l i j
