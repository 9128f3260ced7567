-- What a call of an acknowledged data bearer makes of what PDCP gives RLC is what a checker gathers
-- of the events that it tells, in their order (docs/laws/ACCOUNT.md; TS 36.323 5.1.1, 5.2.1.1, 5.3,
-- 5.4, TS 36.322 5.1.3.1.1).
use Rattle.std.specs.Prelude.{◌≡◌, ℕ, ◌+◌, ◌-◌, ◌^◌, ◌==◌, ◌≤◌, Bool, true, false, not, ◌&&◌}
use Rattle.std.specs.Prelude.{length, List, [], ◌∷◌, ◌++◌, map, is_some}
use Rattle.std.specs.Prelude.{Ok, Err}
use Rattle.std.specs.List.{list_any}
use Rattle.bearer_types.specs.declared.BearerConfig.{BearerConfig}
use Rattle.bearer_types.specs.declared.Event.{Event}
use Rattle.bearer_types.specs.declared.Event.TheVariants as events
use Rattle.l2_num.specs.Ascending.{IsAscending}
use Rattle.l2_types.specs.declared.Kind.TheVariants as kinds
use Rattle.l2_types.specs.declared.Side.{Side}
use Rattle.eps_sec.specs.declared.Keys.{Keys}
use Rattle.pdcp_pdu.specs.declared.PdcpKind.TheVariants.{Am as AmKind}
use Rattle.pdcp_pdu.specs.Kinds.{IsKind}
use Rattle.pdcp_rx.specs.Heard.{Heard, Bad, Told, Data, heard}
use Rattle.pdcp_rx.specs.State.{report}
use Rattle.pdcp_tx.specs.State.{State as Sending, reported}
use Rattle.rlc_pdu.specs.declared.fault.RlcRefusal.{RlcRefusal}
use Rattle.rlc_pdu.specs.Pdus.{AmdPdu, StatusPdu, Payload, Status}
use Rattle.rlc_pdu.specs.Reading.{am_at}
use Rattle.rlc_am_tx.specs.Machine.{after_status}
use Rattle.rlc_am_rx.specs.Machine.{arrived}
use Rattle.bearer.specs.Acknowledged.State.{State, has_more}
use Rattle.bearer.specs.declared.flow.Flow.TheVariants.{Am}
use Rattle.bearer.specs.Bearer.{flow_of}
use Rattle.bearer.specs.Lives.{stopping}
use Rattle.journal_lives.specs.CountsCome.{CountsCome}
use Rattle.journal_takes.specs.TakeEvents.{SduSubmitted, SduDiscarded, ReportHeard}
use Rattle.journal_given.specs.Supplies.{Supply, History, histories, begun, told, takes_pdu}
use Rattle.journal_given.specs.Supplies.{takes_report, confirms}
use Rattle.journal_given.specs.Supplies.{life_ended}
use Rattle.journal_given.specs.RightTakes.{TakeIsRight, IsSaid, ReportIsRight, DiscardIsRight}
use Rattle.law_bearer.specs.AnyBearer.Acknowledged.{offers_in}
use Rattle.law_bearer.specs.AnyBearer.Calls.{Call, Submit, Take, Arrive, Expire, Tick, SetDiscard}
use Rattle.law_bearer.specs.AnyBearer.Calls.{Restart, after, goes}
use Rattle.law_bearer.specs.AmBearer.Calls.{tells, IsOfData, IsIdle}
use Rattle.law_bearer.specs.AmBearer.Lives.{closed}
use Rattle.law_takes.specs.Laws.{IsReport}
use Rattle.law_given.specs.Supplied.{Progress, outset, IsReadAs, IsSupplied}

-- ---- what is gathered of events, and when they are right

abbrev pub supplied_by : Event → Supply History → Supply History
supplied_by (events.Take lcid count len) s = takes_pdu histories count len s
supplied_by (events.Report lcid fms bitmap) s = takes_report histories fms bitmap s
supplied_by (events.Discard lcid len) s = told histories SduDiscarded s
supplied_by event s = s

abbrev pub supplied_all : List Event → Supply History → Supply History
supplied_all [] s = s
supplied_all (event ∷ told) s = supplied_all told (supplied_by event s)

abbrev pub IsRight : Event → Supply History → Type 0
IsRight (events.Take lcid count len) s = TakeIsRight count len s
IsRight (events.Report lcid fms bitmap) s = ReportIsRight fms bitmap s
IsRight (events.Discard lcid len) s = DiscardIsRight s
IsRight event s = Unit {0}

abbrev pub AreRight : List Event → Supply History → Type 0
AreRight [] s = Unit {0}
AreRight (event ∷ told) s = IsRight event s × AreRight told (supplied_by event s)

-- ---- a call

-- an SDU that is submitted is told by its line
abbrev pub submitted_by : Call → Supply History → Supply History
submitted_by (Submit sdu) s = told histories (SduSubmitted sdu) s
submitted_by (Take share held) s = s
submitted_by (Arrive pdu) s = s
submitted_by (Expire clock) s = s
submitted_by Tick s = s
submitted_by (SetDiscard ttis) s = s

abbrev pub gathered : State → Call → Supply History → Supply History
gathered b c s = supplied_all (tells b c) (submitted_by c s)

-- what arrives brings what RLC confirms, and status reports
abbrev pub IsOwn : Call → Type 0
IsOwn (Submit sdu) = Unit {0}
IsOwn (Take share held) = Unit {0}
IsOwn (Arrive pdu) = ⊥
IsOwn (Expire clock) = Unit {0}
IsOwn Tick = Unit {0}
IsOwn (SetDiscard ttis) = Unit {0}

-- RLC is given what it takes
abbrev pub offered_in : State → Call → List (List ℕ)
offered_in b (Submit sdu) = []
offered_in b (Take share held) = offers_in b share held
offered_in b (Arrive pdu) = []
offered_in b (Expire clock) = []
offered_in b Tick = []
offered_in b (SetDiscard ttis) = []

abbrev pub with_offered : List (List ℕ) → Progress → Progress
with_offered pdus rlc = record rlc { offered = rlc.offered ++ pdus }

pub record IsGathered (rlc : Progress) (b d : State) (c : Call) (s : Supply History) : Type 0 where
  pub supplied : IsSupplied (with_offered (offered_in b c) rlc) d.pdcp.tx (gathered b c s)
  pub right : AreRight (tells b c) (submitted_by c s)
  pub bits : (gathered b c s).bits ≡ s.bits

abbrev pub CallsAreGathered : Type 0
CallsAreGathered = (rlc : Progress) (b d : State) (c : Call) (s : Supply History) → IsOwn c
    → IsKind (AmKind s.bits) → IsOfData s.bits b → after (Am b) c ≡ Am d
    → IsSupplied rlc b.pdcp.tx s → IsGathered rlc b d c s

-- what is counted as given is what RLC was offered
abbrev pub GivenAreOffered : Type 0
GivenAreOffered = (rlc : Progress) (sender : Sending) (s : Supply History)
    → IsSupplied rlc sender s → s.given ≡ length rlc.offered

-- RLC may take more where something is takeable by what is gathered
abbrev pub MoreIsTakeable : Type 0
MoreIsTakeable = (rlc : Progress) (b : State) (s : Supply History) → IsSupplied rlc b.pdcp.tx s
    → has_more b.pdcp ≡ is_some (histories.next s.takes)

-- ---- a STATUS arrives

-- of numbers that are confirmed before and behind it, those that it confirms, ascending
pub record ConfirmsAnew (before behind : ℕ → Bool) (given : ℕ) (news : List ℕ) : Type 0 where
  pub ascend : IsAscending 0 news
  pub are_new : (number : ℕ) → list_any (λ (own : ℕ). own == number) news
      ≡ (behind number && not (before number))
  pub stay : (number : ℕ) → before number ≡ true → behind number ≡ true
  pub only_given : (number : ℕ) → given ≤ number → behind number ≡ false

abbrev pub StatusesAreGathered : Type 0
StatusesAreGathered = (rlc : Progress) (behind : ℕ → Bool) (b d : State) (pdu : List ℕ)
    (status : StatusPdu) (s : Supply History) → am_at pdu ≡ Ok (Status status)
    → after (Am b) (Arrive pdu) ≡ Am d
    → ConfirmsAnew rlc.is_confirmed behind s.given (after_status b.tx status).accounts.news
    → IsSupplied rlc b.pdcp.tx s
    → IsSupplied (record rlc { is_confirmed = behind }) d.pdcp.tx (confirms histories behind s)

-- ---- a data PDU arrives: the status reports among the PDUs that RLC hands up

-- they say which COUNTs have come, as the sender reads them
abbrev pub AreReports : Sending → List Heard → List CountsCome → Type 0
AreReports sender [] [] = Unit {0}
AreReports sender [] (said ∷ reports) = ⊥
AreReports sender (Bad refusal ∷ pdus) reports = AreReports sender pdus reports
AreReports sender (Data sn body ∷ pdus) reports = AreReports sender pdus reports
AreReports sender (Told fms bitmap ∷ pdus) [] = ⊥
AreReports sender (Told fms bitmap ∷ pdus) (said ∷ reports) =
    IsReport sender said.next said.beyond fms bitmap
    × AreReports (reported sender fms bitmap) pdus reports

abbrev pub hears_all : List CountsCome → Supply History → Supply History
hears_all [] s = s
hears_all (said ∷ reports) s =
    hears_all reports (told histories (ReportHeard said.next said.beyond) s)

abbrev pub DataIsGathered : Type 0
DataIsGathered = (rlc : Progress) (b d : State) (pdu : List ℕ) (data' : AmdPdu)
    (reports : List CountsCome) (s : Supply History) → am_at pdu ≡ Ok (Payload data')
    → IsOfData s.bits b → IsIdle b → after (Am b) (Arrive pdu) ≡ Am d
    → AreReports b.pdcp.tx (map (heard b.pdcp.rx.kind) (arrived b.rx data').out.ready) reports
    → IsSupplied rlc b.pdcp.tx s
    → IsSupplied rlc d.pdcp.tx (hears_all reports s)

-- a report that says which COUNTs have come is so read, where its FMS lies in the sender's window
pub record IsInWindow (bits : ℕ) (sender : Sending) (come : CountsCome) : Type 0 where
  pub from : sender.base ≤ come.next
  pub to : come.next ≤ sender.base + 2 ^ (bits - 1)

abbrev pub SaidIsRead : Type 0
SaidIsRead = (bits : ℕ) (sender : Sending) (fms : ℕ) (bitmap : List ℕ) (said : CountsCome)
    → IsKind (AmKind bits) → sender.kind ≡ AmKind bits → IsSaid fms bitmap bits said
    → IsInWindow bits sender said → IsReport sender said.next said.beyond fms bitmap

-- ---- what arrives, and what goes up as a life ends, tells nothing else

pub record TellsNothing (told : List Event) (s : Supply History) : Type 0 where
  pub same : supplied_all told s ≡ s
  pub right : AreRight told s

abbrev pub ArrivalsTellNothing : Type 0
ArrivalsTellNothing = (b : State) (pdu : List ℕ) (s : Supply History)
    → TellsNothing (tells b (Arrive pdu)) s

abbrev pub EndsTellNothing : Type 0
EndsTellNothing = (b : State) (s : Supply History) → TellsNothing (stopping (Am b)) s

-- what can't be read changes nothing
abbrev pub RefusedStay : Type 0
RefusedStay = (b d : State) (pdu : List ℕ) (why : RlcRefusal) → am_at pdu ≡ Err why
    → after (Am b) (Arrive pdu) ≡ Am d → d ≡ b

-- ---- lives

abbrev pub SuppliesBegin : Type 0
SuppliesBegin = (c : BearerConfig) (keys : Keys) (side : Side) (b : State) → c.kind ≡ kinds.Am
    → flow_of c.kind c keys side ≡ Am b
    → IsSupplied outset b.pdcp.tx (begun histories c.first c.pdcp_bits)

-- the next one owes a report of what has come the other way
abbrev pub LivesAreGathered : Type 0
LivesAreGathered = (rlc : Progress) (b d : State) (keys : Keys) (said : CountsCome)
    (s : Supply History) → IsOfData s.bits b → IsIdle b → goes (Am b) (Restart keys) ≡ Am d
    → IsReadAs s.bits (report (closed b)) said → IsSupplied rlc b.pdcp.tx s
    → IsSupplied outset d.pdcp.tx (life_ended histories said s)
