-- A sender of acknowledged data through its lives, the history of takes that is told of it, and
-- what RLC was given at each place (docs/laws/ACCOUNT.md; TS 36.323 5.1.1, 5.2.1.1, 5.3, 5.4).
use Rattle.std.specs.Prelude.{◌≡◌, ℕ, ◌<◌, true, false, if◌then◌else◌, List, [], ◌∷◌, ◌++◌}
use Rattle.std.specs.Prelude.{length, Option, Some, None, option_map, option_to_list, is_some}
use Rattle.std.specs.Prelude.{slice_get}
use Rattle.l2_num.specs.Least.{IsLeast}
use Rattle.eps_sec.specs.declared.keys.Keys.{Keys}
use Rattle.pdcp_pdu.specs.declared.pdu.PdcpKind.TheVariants.{Am}
use Rattle.pdcp_sec.specs.Protection.{Protection}
use Rattle.pdcp_tx_store.specs.declared.given.Sent.{Sent}
use Rattle.pdcp_tx_store.specs.declared.given.Entry.{Entry}
use Rattle.pdcp_tx_store.specs.declared.given.Entry.TheVariants.{Data, Own, Gone}
use Rattle.pdcp_tx_store.specs.Given.{Given}
use Rattle.pdcp_tx.specs.State.{State, start, submitted, offers, took, low, confirmed, reported}
use Rattle.pdcp_tx.specs.State.{owing, ticked, is_overdue, after_late, restarted}
use Rattle.journal_takes.specs.declared.take.Take.{Take}
use Rattle.journal_takes.specs.TakeEvents.{TakeEvent, SduSubmitted, SduDiscarded, PduTaken}
use Rattle.journal_takes.specs.TakeEvents.{ReportTaken, PduConfirmed, ReportConfirmed, ReportHeard}
use Rattle.journal_takes.specs.TakeEvents.{LifeEnded, is_confirmed as is_confirmed_by}
use Rattle.journal_takes.specs.Takeable.{IsTakeable, AreTakes}
use Rattle.journal_takes.specs.FlowTakes.{FlowTakes, takes_of}
use Rattle.law_takes.specs.Accounted.{is_confirmed, IsAccounted}
use Rattle.law_takes.specs.Laws.{IsOffered, IsReport}

-- ---- what RLC was given in this life: at each place the PDU of a COUNT, or the status report

-- it is confirmed
abbrev pub IsGone : FlowTakes → Option ℕ → Type 0
IsGone t None = t.reporting ≡ false
IsGone t (Some count) = (count < t.next) × (is_confirmed t count ≡ true)

pub record IsSent (t : FlowTakes) (x : Sent) (count : ℕ) : Type 0 where
  pub same : x.count ≡ count
  pub taken : count < t.next
  pub acked : x.acked ≡ true → is_confirmed t count ≡ true

abbrev pub IsGiven : FlowTakes → Entry → Option ℕ → Type 0
IsGiven t (Data x) None = ⊥
IsGiven t (Data x) (Some count) = IsSent t x count
IsGiven t Own None = Unit {0}
IsGiven t Own (Some count) = ⊥
IsGiven t Gone count = IsGone t count

abbrev pub AllGone : FlowTakes → List (Option ℕ) → Type 0
AllGone t [] = Unit {0}
AllGone t (count ∷ counts) = IsGone t count × AllGone t counts

abbrev pub AllGiven : FlowTakes → List Entry → List (Option ℕ) → Type 0
AllGiven t [] [] = Unit {0}
AllGiven t [] (count ∷ counts) = ⊥
AllGiven t (e ∷ es) [] = ⊥
AllGiven t (e ∷ es) (count ∷ counts) = IsGiven t e count × AllGiven t es counts

-- at the first places all is confirmed, and from there on stands what is kept
pub record AreGiven (t : FlowTakes) (g : Given) (given : List (Option ℕ)) : Type 0 where
  pub past : List (Option ℕ)
  pub now : List (Option ℕ)
  pub all : given ≡ past ++ now
  pub gone : length past ≡ g.gone
  pub past_gone : AllGone t past
  pub entries : AllGiven t g.entries now

-- ---- what happens

pub data Deed : Type 0 where
  Submits : List ℕ → Deed
  -- a TTI begins, and the discard timer gets another length
  Ticks : Deed
  SetsDiscard : ℕ → Deed
  -- the first SDU that waits is discarded if its timer has ended
  Discards : Deed
  -- RLC takes what is next, if anything, and confirms what it was given at a place
  Takes : Deed
  Confirms : ℕ → Deed
  -- a status report comes: the COUNT of its FMS, those that it marks, its FMS and its bitmap
  Hears : ℕ → List ℕ → ℕ → List ℕ → Deed
  -- the next life begins, under other keys, with a status report or without one
  Restarts : Keys → Option (List ℕ) → Deed

-- the sender, the COUNT of what RLC was given at each place, none of the status report, and the
-- history, the latest event first
pub record Run : Type 0 where
  pub sender : State
  pub given : List (Option ℕ)
  pub events : List TakeEvent

abbrev pub owing_report : Option (List ℕ) → State → State
owing_report None s = s
owing_report (Some report) s = owing s report

abbrev pub sender_behind : State → Deed → State
sender_behind s (Submits sdu) = submitted s sdu
sender_behind s Ticks = ticked s
sender_behind s (SetsDiscard ttis) = record s { discard = Some ttis }
sender_behind s Discards = after_late s
sender_behind s Takes = took s
sender_behind s (Confirms place) = confirmed s place
sender_behind s (Hears from marks fms bitmap) = reported s fms bitmap
sender_behind s (Restarts keys report) = owing_report report (restarted s keys)

-- what RLC takes next
abbrev pub taking_of : State → Option (Option ℕ)
taking_of s = option_map (λ o. o.count) (slice_get (offers s) 0)

abbrev pub given_behind : State → Deed → List (Option ℕ) → List (Option ℕ)
given_behind s Takes given = given ++ option_to_list (taking_of s)
given_behind s (Restarts keys report) given = []
given_behind s d given = given

abbrev pub taking : Option ℕ → TakeEvent
taking None = ReportTaken
taking (Some count) = PduTaken count

abbrev pub confirming : Option ℕ → TakeEvent
confirming None = ReportConfirmed
confirming (Some count) = PduConfirmed count

abbrev pub event_of : State → List (Option ℕ) → Deed → Option TakeEvent
event_of s given (Submits sdu) = Some (SduSubmitted sdu)
event_of s given Ticks = None
event_of s given (SetsDiscard ttis) = None
event_of s given Discards = if is_overdue s then Some SduDiscarded else None
event_of s given Takes = option_map taking (taking_of s)
event_of s given (Confirms place) = option_map confirming (slice_get given place)
event_of s given (Hears from marks fms bitmap) = Some (ReportHeard from marks)
event_of s given (Restarts keys report) = Some (LifeEnded (is_some report))

abbrev pub behind : Run → Deed → Run
behind r d = record {
  sender = sender_behind r.sender d;
  given = given_behind r.sender d r.given;
  events = option_to_list (event_of r.sender r.given d) ++ r.events;
}

abbrev pub IsPossible : Run → Deed → Type 0
IsPossible r (Hears from marks fms bitmap) = IsReport r.sender from marks fms bitmap
IsPossible r d = Unit {0}

abbrev pub behind_all : Run → List Deed → Run
behind_all r [] = r
behind_all r (d ∷ ds) = behind_all (behind r d) ds

abbrev pub ArePossible : Run → List Deed → Type 0
ArePossible r [] = Unit {0}
ArePossible r (d ∷ ds) = IsPossible r d × ArePossible (behind r d) ds

abbrev pub outset : ℕ → Protection → ℕ → Run
outset bits p first = record { sender = start (Am bits) p first; given = []; events = [] }

-- ---- the laws

-- RLC takes only what is takeable by the history, and the sender keeps what its account keeps
pub record IsTold (first bits : ℕ) (r : Run) : Type 0 where
  pub history : AreTakes first bits r.events
  pub accounted : IsAccounted r.sender (takes_of first bits r.events)
  pub given : AreGiven (takes_of first bits r.events) r.sender.given r.given

abbrev pub DeedsAreTold : Type 0
DeedsAreTold = (first bits : ℕ) (r : Run) (d : Deed) → IsPossible r d → IsTold first bits r
    → IsTold first bits (behind r d)

abbrev pub RunsAreTold : Type 0
RunsAreTold = (first bits : ℕ) (p : Protection) (ds : List Deed)
    → ArePossible (outset bits p first) ds
    → IsTold first bits (behind_all (outset bits p first) ds)

-- the first unconfirmed COUNT is the least that the history doesn't confirm, and what may be taken
-- first is what is takeable by it
pub record GoesByHistory (first bits : ℕ) (r : Run) : Type 0 where
  pub low : IsLeast (is_confirmed_by first r.events) first (low r.sender)
  pub next : Option Take
  pub takeable : IsTakeable first bits r.events next
  pub offered : IsOffered (takes_of first bits r.events) (slice_get (offers r.sender) 0) next

abbrev pub SendersGoByHistory : Type 0
SendersGoByHistory =
    (first bits : ℕ) (r : Run) → IsTold first bits r → GoesByHistory first bits r
