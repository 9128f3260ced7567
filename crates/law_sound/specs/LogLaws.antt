-- What an acknowledged bearer logs tells the history of its flow out, entry by entry: so its sender
-- follows a history of records alone (docs/laws/ACCOUNT.md; TS 36.322 5.1.3.1, 5.2, 6.2.1.4 to
-- 6.2.1.6, 7.1).
use Rattle.std.specs.Prelude.{◌≡◌, ◌≤◌, ◌<◌, ℕ, ◌+◌, ◌%◌, ◌==◌, Bool, false, if◌then◌else◌, List}
use Rattle.std.specs.Prelude.{[]}
use Rattle.std.specs.Prelude.{◌∷◌, ◌++◌, map, length, Option, Some, None, Result, Ok, Err}
use Rattle.std.specs.Prelude.{option_to_list}
use Rattle.std.specs.List.{AllByRecursion}
use Rattle.l2_types.specs.declared.config.AmTxConfig.{AmTxConfig}
use Rattle.l2_types.specs.declared.event.Clock.TheVariants.{Poll}
use Rattle.rlc_pdu.specs.declared.constants.TheConstants.{AM_MODULUS}
use Rattle.rlc_pdu.specs.declared.fault.RlcRefusal.{RlcRefusal}
use Rattle.rlc_pdu.specs.declared.pdu.Nack.{Nack}
use Rattle.rlc_pdu.specs.Pdus.{AcknowledgedPdu, AmdPdu, Payload, Status}
use Rattle.rlc_pdu.specs.Reading.{am_at}
use Rattle.rlc_am_rx_window.specs.Piece.{octets_in, so_of}
use Rattle.rlc_am_tx.specs.Machine.{State as Sender, start}
use Rattle.pdcp_pdu.specs.declared.pdu.PdcpKind.{PdcpKind}
use Rattle.pdcp_pdu.specs.declared.pdu.PdcpKind.TheVariants as pdcp
use Rattle.bearer_types.specs.declared.event.Event.{Event}
use Rattle.bearer_types.specs.declared.event.Event.TheVariants as events
use Rattle.law_words.specs.Passing.{last_with}
use Rattle.journal_account.specs.declared.entry.StatusEntry.{StatusEntry}
use Rattle.journal_account.specs.FlowEvents.{FlowEvent, SduTaken, NumberWritten, OctetsResent}
use Rattle.journal_account.specs.FlowEvents.{StatusHeard, PollExpired, next_of, IsPossible}
use Rattle.law_rlc.specs.AmSender.Run.{Call, Offer, Take, Status as Hears, Expire}
use Rattle.law_rlc.specs.AmSender.Watched.{state_after}
use Rattle.law_account.specs.History.{IsTold, with_told, limit_told, Follows, IsOfReceiver}
use Rattle.law_account.specs.TrueStatus.{HasTrueNumbers}
use Rattle.law_run.specs.TwoEnds.SenderLog.{BearerEntry, Tells, Writes, Comes, telling, IsLoggedAs}
use Rattle.law_run.specs.TwoEnds.SenderLog.{SenderDeed, Makes, Else, IsDeed, deed_log}
use Rattle.law_run.specs.TwoEnds.SenderLog.{behind_deed}
use Rattle.journal_failure.specs.RightFailure.{AreFailsOf}

-- ---- an entry, as VT(S) is `next`

-- a data PDU is new where its SN is that of VT(S); else it is of the last number that has its SN
abbrev pub data_told : ℕ → AmdPdu → FlowEvent
data_told next pdu =
    if pdu.sn == next % AM_MODULUS then NumberWritten (octets_in pdu.elements)
    else OctetsResent (last_with pdu.sn next) (so_of pdu.segment)
    (so_of pdu.segment + octets_in pdu.elements)

abbrev pub written_told : ℕ → Result AcknowledgedPdu RlcRefusal → Option FlowEvent
written_told next (Ok (Payload pdu)) = Some (data_told next pdu)
written_told next (Ok (Status pdu)) = None
written_told next (Err refused) = None

-- a STATUS speaks of the last numbers up to VT(S) that have its SNs
abbrev pub entry_below : ℕ → Nack → StatusEntry
entry_below next nack = record { number = last_with nack.sn (next + 1); part = nack.part }

abbrev pub come_told : ℕ → Result AcknowledgedPdu RlcRefusal → Option FlowEvent
come_told next (Ok (Status pdu)) =
    Some (StatusHeard (last_with pdu.ack (next + 1)) (map (entry_below next) pdu.nacks))
come_told next (Ok (Payload pdu)) = None
come_told next (Err refused) = None

-- the PDU of PDCP that RLC takes has its SDU behind a header of 2 octets, or of 1 and before a
-- MAC-I of 4 on a signalling bearer; a status report its bitmap behind 2 octets, or behind 3 where
-- numbers have 15 bits (TS 36.323 6.2.2, 6.2.3, 6.2.6)
abbrev pub sdu_size : PdcpKind → ℕ → ℕ
sdu_size pdcp.Srb len = len + 5
sdu_size kind len = len + 2

abbrev pub report_told : PdcpKind → ℕ → Option FlowEvent
report_told (pdcp.Am bits) len = Some (SduTaken ((if bits == 12 then 2 else 3) + len))
report_told kind len = None

-- `more`: an SDU may be taken as t-PollRetransmit expires
abbrev pub event_told : PdcpKind → Bool → Event → Option FlowEvent
event_told kind more (events.Take lcid count len) = Some (SduTaken (sdu_size kind len))
event_told kind more (events.Report lcid fms bitmap) = report_told kind (length bitmap)
event_told kind more (events.Expired lcid Poll) = Some (PollExpired more)
event_told kind more event = None

abbrev pub entry_told : PdcpKind → Bool → ℕ → BearerEntry → Option FlowEvent
entry_told kind more next (Tells event) = event_told kind more event
entry_told kind more next (Writes octets) = written_told next (am_at octets)
entry_told kind more next (Comes octets) = come_told next (am_at octets)

-- ---- entries, behind a history

abbrev pub with_log : PdcpKind → Bool → List BearerEntry → List FlowEvent → List FlowEvent
with_log kind more [] es = es
with_log kind more (x ∷ log) es =
    with_log kind more log (with_told (entry_told kind more (next_of es) x) es)

-- the SNs of their `fail` records
abbrev pub fails_at : BearerEntry → List ℕ
fails_at (Tells (events.Fail lcid sn)) = sn ∷ []
fails_at entry = []

abbrev pub fails_in : List BearerEntry → List ℕ
fails_in [] = []
fails_in (x ∷ log) = fails_at x ++ fails_in log

-- ---- a call of the sender

-- a sender that has come by calls: each SDU has an octet, and a data field at most 32767, since SO
-- has 15 bits (TS 36.322 6.2.2.7)
abbrev pub IsBounded : Call → Type 0
IsBounded (Offer sdu) = 0 < length sdu
IsBounded (Take size held more) = size ≤ 32767
IsBounded call = Unit {0}

pub record HasComeBy (s : Sender) : Type 0 where
  pub config : AmTxConfig
  pub calls : List Call
  pub bounded : AllByRecursion IsBounded calls
  pub left : state_after calls (start config) ≡ s

-- one record tells an SDU, by its length
pub record HasLength (kind : PdcpKind) (sdu : List ℕ) (log : List BearerEntry) : Type 0 where
  pub some : 0 < length sdu
  pub event : Event
  pub one : log ≡ telling (event ∷ [])
  pub size : event_told kind false event ≡ Some (SduTaken (length sdu))

-- a STATUS comes with 10 bits of numbers near VT(S)
abbrev pub IsAsked : PdcpKind → Sender → Call → List BearerEntry → Type 0
IsAsked kind s (Offer sdu) log = HasLength kind sdu log
IsAsked kind s (Take size held more) log = size ≤ 32767
IsAsked kind s (Hears status) log =
    (ack : ℕ) × (entries : List StatusEntry) × HasTrueNumbers s.window status ack entries
IsAsked kind s call log = Unit {0}

abbrev pub more_in : Call → Bool
more_in (Expire more) = more
more_in call = false

-- what is logged of it tells its event alone, and a `fail` record where it tells the limit
pub record IsToldBy (kind : PdcpKind) (es : List FlowEvent) (s : Sender) (c : Call)
    (log : List BearerEntry) : Type 0 where
  pub event : Option FlowEvent
  pub told : IsTold s c event
  pub logged : with_log kind (more_in c) log es ≡ with_told event es
  pub fails : fails_in log ≡ option_to_list (limit_told s c)

abbrev pub LogsTellCalls : Type 0
LogsTellCalls =
    (kind : PdcpKind) (most : ℕ) (es : List FlowEvent) (s : Sender) (c : Call)
    (log : List BearerEntry) → HasComeBy s → IsLoggedAs s c log → IsAsked kind s c log
    → Follows most es s → IsToldBy kind es s c log

-- ---- any deeds, and what happens at the flow's receiver between them

pub data FlowDeed : Type 0 where
  AtSender : SenderDeed → FlowDeed
  AtReceiver : FlowEvent → FlowDeed

abbrev pub more_of : SenderDeed → Bool
more_of (Makes c log) = more_in c
more_of (Else log) = false

abbrev pub with_deed : PdcpKind → FlowDeed → List FlowEvent → List FlowEvent
with_deed kind (AtSender d) es = with_log kind (more_of d) (deed_log d) es
with_deed kind (AtReceiver e) es = e ∷ es

abbrev pub with_logs : PdcpKind → List FlowDeed → List FlowEvent → List FlowEvent
with_logs kind [] es = es
with_logs kind (d ∷ ds) es = with_logs kind ds (with_deed kind d es)

abbrev pub behind_one : Sender → FlowDeed → Sender
behind_one s (AtSender d) = behind_deed s d
behind_one s (AtReceiver e) = s

abbrev pub behind_all : List FlowDeed → Sender → Sender
behind_all [] s = s
behind_all (d ∷ ds) s = behind_all ds (behind_one s d)

-- what the sender's end logs
abbrev pub sender_log : List FlowDeed → List BearerEntry
sender_log [] = []
sender_log (AtSender d ∷ ds) = deed_log d ++ sender_log ds
sender_log (AtReceiver e ∷ ds) = sender_log ds

abbrev pub IsAskedDeed : PdcpKind → Sender → SenderDeed → Type 0
IsAskedDeed kind s (Makes c log) = IsAsked kind s c log
IsAskedDeed kind s (Else log) = Unit {0}

abbrev pub IsLogged : PdcpKind → List FlowEvent → Sender → FlowDeed → Type 0
IsLogged kind es s (AtSender d) = IsDeed s d × IsAskedDeed kind s d
IsLogged kind es s (AtReceiver e) = IsOfReceiver e × IsPossible e es

abbrev pub AreLogged : PdcpKind → List FlowEvent → Sender → List FlowDeed → Type 0
AreLogged kind es s [] = Unit {0}
AreLogged kind es s (d ∷ ds) =
    IsLogged kind es s d × AreLogged kind (with_deed kind d es) (behind_one s d) ds

-- the sender follows what is logged of them, and the SNs that its end tells are those of the flow
-- by it: none where no number was named too often or the flow had failed before, else one, of the
-- number at which it fails
pub record FollowsLogs (kind : PdcpKind) (most : ℕ) (ds : List FlowDeed) (es : List FlowEvent)
    (s : Sender) : Type 0 where
  pub come : HasComeBy (behind_all ds s)
  pub follows : Follows most (with_logs kind ds es) (behind_all ds s)
  pub fails : AreFailsOf most es (with_logs kind ds es) (fails_in (sender_log ds))

abbrev pub LogsTellFlows : Type 0
LogsTellFlows =
    (kind : PdcpKind) (most : ℕ) (ds : List FlowDeed) (es : List FlowEvent) (s : Sender)
    → HasComeBy s → AreLogged kind es s ds → Follows most es s → FollowsLogs kind most ds es s
