-- A block of one side comes to the other: what an acknowledged data bearer hears of it, beside what
-- a checker gathers of both directions (docs/laws/ACCOUNT.md; TS 36.322 5.1.3.1.1, 5.1.3.2.3,
-- 5.2.1, TS 36.323 5.3.2).
use Rattle.std.specs.Prelude.{◌≡◌, ℕ, ◌≤◌, Bool, true, false, nat_lt, List, []}
use Rattle.std.specs.Prelude.{◌∷◌, ◌++◌, length, take, drop, slice_get, Option, Some, None}
use Rattle.std.specs.Prelude.{option_to_list, Result, Ok, Err}
use Rattle.std.specs.List.{AllByRecursion}
use Rattle.bearer_types.specs.Sides.{other}
use Rattle.bearer_types.specs.declared.config.BearerConfig.{BearerConfig}
use Rattle.l2_num.specs.Least.{IsLeast}
use Rattle.l2_types.specs.declared.side.Side.{Side}
use Rattle.pdcp_pdu.specs.Kinds.{IsKind}
use Rattle.pdcp_pdu.specs.declared.PdcpKind.TheVariants.{Am as AmKind}
use Rattle.rlc_pdu.specs.declared.fault.RlcRefusal.{RlcRefusal}
use Rattle.rlc_pdu.specs.Pdus.{AcknowledgedPdu, Payload, Status}
use Rattle.rlc_pdu.specs.Reading.{am_at}
use Rattle.rlc_am_tx.specs.Machine.{after_status}
use Rattle.rlc_am_rx.specs.State.{State as Receiver}
use Rattle.rlc_am_rx.specs.Machine.{arrived}
use Rattle.bearer.specs.Acknowledged.Hearing.{after_arrival}
use Rattle.bearer.specs.Acknowledged.State.{State}
use Rattle.bearer.specs.declared.flow.Flow.TheVariants.{Am}
use Rattle.journal_account.specs.Confirmed.{is_confirmed_sdu}
use Rattle.journal_account.specs.FlowEvents.{FlowEvent}
use Rattle.journal_account.specs.Stream.{sdu_sizes, is_in_sequence}
use Rattle.journal_lives.specs.CountsCome.{CountsCome}
use Rattle.journal_given.specs.Giving.{side_of}
use Rattle.journal_given.specs.RightTakes.{IsSaid}
use Rattle.journal_given.specs.Supplies.{Supply, Bearer, History, histories}
use Rattle.law_bearer.specs.AnyBearer.Calls.{Call, after, after_all}
use Rattle.law_bearer.specs.AnyBearer.Rounds.{arrivals}
use Rattle.law_bearer.specs.AmBearer.Calls.{IsOfData, IsIdle}
use Rattle.law_rlc.specs.AmPair.Arrives.{Always}
use Rattle.law_rlc.specs.AmPair.Sdus.{offered, handed_up, ready}
use Rattle.law_pdcp.specs.AmPair.Flow.{Flow as Pdcp}
use Rattle.law_takes.specs.Laws.{IsReport}
use Rattle.law_given.specs.BearerRecords.{landed_by}
use Rattle.law_given.specs.Confirming.{HandsUpAsTold, newly_confirmed}
use Rattle.law_given.specs.Joined.{Direction, IsDirection, pdcp, rlc, Joins, Reports, TellsBegun}
use Rattle.law_given.specs.Joined.{AreHeard}
use Rattle.law_given.specs.Supplied.{Progress, IsSupplied}
use Rattle.law_given.specs.SupplyLaws.{ConfirmsAnew, IsInWindow}

-- ---- the PDUs of a channel in a block: STATUS PDUs, then at most one of data, any of which may be
-- refused

pub record Block : Type 0 where
  pub statuses : List (List ℕ)
  pub last : Option (List ℕ)

abbrev pub pdus_of : Block → List (List ℕ)
pdus_of k = k.statuses ++ option_to_list k.last

abbrev pub BringsNoData : Result AcknowledgedPdu RlcRefusal → Type 0
BringsNoData (Err refusal) = Unit {0}
BringsNoData (Ok (Payload data')) = ⊥
BringsNoData (Ok (Status status)) = Unit {0}

abbrev pub BringsNoStatus : Result AcknowledgedPdu RlcRefusal → Type 0
BringsNoStatus (Err refusal) = Unit {0}
BringsNoStatus (Ok (Payload data')) = Unit {0}
BringsNoStatus (Ok (Status status)) = ⊥

-- what the STATUS PDUs newly confirm, one after the other
abbrev pub news_in : Result AcknowledgedPdu RlcRefusal → State → List ℕ
news_in (Err refusal) b = []
news_in (Ok (Payload data')) b = []
news_in (Ok (Status status)) b = (after_status b.tx status).accounts.news

abbrev pub news_of : List (List ℕ) → State → List ℕ
news_of [] b = []
news_of (pdu ∷ pdus) b = news_in (am_at pdu) b ++ news_of pdus (after_arrival b pdu)

-- what RLC hands up as data come
abbrev pub ready_in : Result AcknowledgedPdu RlcRefusal → Receiver → List (List ℕ)
ready_in (Err refusal) r = []
ready_in (Ok (Payload data')) r = (arrived r data').out.ready
ready_in (Ok (Status status)) r = []

abbrev pub ready_of : Option (List ℕ) → Receiver → List (List ℕ)
ready_of None r = []
ready_of (Some pdu) r = ready_in (am_at pdu) r

-- ---- the block comes

-- of the PDUs that the other end's RLC was given so many had come in sequence before, and so many
-- have behind it: it hands up those between
pub record BringsInSequence (rlc : Progress) (sequenced : ℕ → Bool) (ready : List (List ℕ)) :
    Type 0 where
  pub before : ℕ
  pub behind : ℕ
  pub order : before ≤ behind
  pub given : behind ≤ length rlc.offered
  pub came : rlc.came ≡ nat_lt 0 before
  pub sequenced_is : (number : ℕ) → sequenced number ≡ nat_lt number behind
  pub ready_is : ready ≡ drop before (take behind rlc.offered)

-- what a status report says is read by the sender that it comes to
abbrev pub ReadsWhatIsSaid : State → Supply History → Type 0
ReadsWhatIsSaid b sent = (fms : ℕ) (bitmap : List ℕ) → IsSaid fms bitmap sent.bits sent.said
    → IsReport b.pdcp.tx sent.said.next sent.said.beyond fms bitmap

-- it comes to a bearer, beside what is gathered of that bearer's own sender, and what is of the one
-- that the block is of
pub record Lands (k : Block) (status : Bool) (sequenced confirmed : ℕ → Bool)
    (there back : Progress) (sent own : Supply History) (b d : State) : Type 0 where
  pub bits : sent.bits ≡ own.bits
  pub of_data : IsOfData own.bits b
  pub idle : IsIdle b
  pub statuses : AllByRecursion (λ (pdu : List ℕ). BringsNoData (am_at pdu)) k.statuses
  pub last : AllByRecursion (λ (pdu : List ℕ). BringsNoStatus (am_at pdu)) (option_to_list k.last)
  pub left : after_all (Am b) (arrivals (pdus_of k)) ≡ Am d
  -- what is confirmed behind it, and nothing anew where it has no STATUS
  pub news : ConfirmsAnew back.is_confirmed confirmed own.given (news_of k.statuses b)
  pub silent : status ≡ false → news_of k.statuses b ≡ []
  pub brings : BringsInSequence there sequenced (ready_of k.last b.rx)
  -- of the status report, until it has come
  pub reads : (number : ℕ) → sent.report ≡ Some number → ReadsWhatIsSaid b sent

pub record IsLanded (bits : ℕ) (there back : Progress) (one two : State)
    (sent own : Supply History) : Type 0 where
  pub sender : IsSupplied there one.pdcp.tx sent
  pub receiver : IsSupplied back two.pdcp.tx own
  pub of_data : IsOfData bits two
  pub idle : IsIdle two
  pub sender_bits : sent.bits ≡ bits
  pub receiver_bits : own.bits ≡ bits

-- what is gathered goes on beside both senders
abbrev pub BlocksAreLanded : Type 0
BlocksAreLanded = (from : Side) (k : Block) (status : Bool) (sequenced confirmed : ℕ → Bool)
    (there back : Progress) (one two d : State) (b : Bearer History)
    → IsSupplied there one.pdcp.tx (side_of from b)
    → IsSupplied back two.pdcp.tx (side_of (other from) b)
    → Lands k status sequenced confirmed there back (side_of from b) (side_of (other from) b)
    two d
    → IsLanded (side_of from b).bits (record there { came = sequenced 0 })
    (record back { is_confirmed = confirmed }) one d
    (side_of from (landed_by histories from status sequenced confirmed b))
    (side_of (other from) (landed_by histories from status sequenced confirmed b))

-- ---- the status report is read as what it says

-- it says what had come of the other direction as the life began: first comes the first COUNT that
-- hadn't
abbrev pub SaysBegun : Pdcp → Option (List ℕ) → CountsCome → Type 0
SaysBegun f first said = (report : List ℕ) → first ≡ Some report → (t : TellsBegun f report)
    → IsLeast t.begun f.first said.next

abbrev pub ReportsAreHeardSo : Type 0
ReportsAreHeardSo = (there back : Direction) (one two : State) (progress : Progress)
    (sent : Supply History) (number : ℕ) → IsKind (AmKind sent.bits) → IsOfData sent.bits two
    → Joins there one two → Joins back two one → AreHeard (pdcp there) (pdcp back)
    → progress.offered ≡ offered (rlc there) → IsSupplied progress one.pdcp.tx sent
    → SaysBegun (pdcp back) (slice_get progress.offered 0) sent.said → sent.report ≡ Some number
    → ReadsWhatIsSaid two sent

-- ---- or so: what it says lies in the window of the sender that it comes to, through the life

-- as a life begins in which a report is owed of what has come
abbrev pub ReportsBeginInWindow : Type 0
ReportsBeginInWindow = (c : BearerConfig) (there back : Direction) (one two : State)
    (report : List ℕ) (said : CountsCome) → IsDirection c back → Joins there one two
    → Joins back two one → Reports back there → one.pdcp.tx.owed ≡ Some report
    → (pdcp back).passed ≡ 0 → IsLeast (pdcp back).handed (pdcp back).first said.next
    → IsInWindow c.pdcp_bits two.pdcp.tx said

abbrev pub WindowsStay : Type 0
WindowsStay = (bits : ℕ) (b d : State) (c : Call) (said : CountsCome) → IsOfData bits b → IsIdle b
    → after (Am b) c ≡ Am d → IsInWindow bits b.pdcp.tx said
    → IsInWindow bits d.pdcp.tx said

abbrev pub WindowsAreRead : Type 0
WindowsAreRead = (b : State) (sent : Supply History) → IsKind (AmKind sent.bits)
    → IsOfData sent.bits b → IsInWindow sent.bits b.pdcp.tx sent.said → ReadsWhatIsSaid b sent

-- ---- a block does so by the histories of its flows

-- of a STATUS that comes between two histories of a flow
abbrev pub NewsAreAsTold : Type 0
NewsAreAsTold = (es now : List FlowEvent)
    → ((k : ℕ) → is_confirmed_sdu es k ≡ true → is_confirmed_sdu now k ≡ true)
    → ConfirmsAnew (is_confirmed_sdu es) (is_confirmed_sdu now) (length (sdu_sizes now))
    (newly_confirmed es now)

-- of data that have come, before what is ready is handed up
abbrev pub BringsAsTold : Type 0
BringsAsTold = Always (λ f. (es : List FlowEvent) (progress : Progress) → HandsUpAsTold f es
    → progress.offered ≡ offered f → progress.came ≡ nat_lt 0 (length (handed_up f))
    → BringsInSequence progress (is_in_sequence es) (ready f))
