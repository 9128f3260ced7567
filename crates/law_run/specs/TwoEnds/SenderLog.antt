-- What an acknowledged bearer tells and writes, and what comes to it, along the calls of RLC's
-- sender that it makes (TS 36.322 5.1.3.1, 5.2).
use Rattle.std.specs.Prelude.{◌≡◌, ℕ, Bool, true, false, List, [], ◌∷◌, ◌++◌, map, Some, Ok}
use Rattle.std.specs.List.{AllByRecursion}
use Rattle.bearer.specs.Acknowledged.Hearing.{stopped_told, started_told}
use Rattle.bearer.specs.Acknowledged.State.{State}
use Rattle.bearer.specs.Acknowledged.Taking.{data_told, status_pdus}
use Rattle.bearer.specs.Acknowledged.Timing.{poll_told, told_of}
use Rattle.bearer.specs.declared.flow.Flow.{Flow}
use Rattle.bearer.specs.declared.flow.Flow.TheVariants.{Am}
use Rattle.bearer.specs.Taking.{pdus}
use Rattle.bearer_pdcp.specs.Ends.{Ends}
use Rattle.bearer_pdcp.specs.Taking.{taken, taking_told}
use Rattle.bearer_pdcp.specs.Telling.{pdus_of}
use Rattle.bearer_types.specs.declared.event.Event.{Event}
use Rattle.bearer_types.specs.declared.event.Event.TheVariants as events
use Rattle.l2_types.specs.declared.event.Clock.TheVariants.{Poll}
use Rattle.l2_types.specs.declared.event.Lost.TheVariants as losts
use Rattle.law_bearer.specs.AnyBearer.Calls.{Call, Take, Arrive, after as called}
use Rattle.l2_node.specs.End.{fresh}
use Rattle.l2_node.specs.Finding.{has}
use Rattle.l2_types.specs.declared.side.Side.{Side}
use Rattle.law_deliver.specs.AmFlow.Channels.{calls_of, GoesOnInLife}
use Rattle.law_deliver.specs.AmFlow.Ups.{AreNew, calls_over, of_calls, tells_in}
use Rattle.law_node.specs.Calls.{Call as EndCall, IsGiven, AreGiven, after as end_after, reached}
use Rattle.law_node.specs.Calls.{run_end}
use Rattle.law_node.specs.Holding.{flow}
use Rattle.law_rlc.specs.AmSender.Run.{Call as SenderCall, Offer, Take as Takes, Status as Hears}
use Rattle.law_rlc.specs.AmSender.Run.{Tick as Ticks, Expire as Expires, Settle, Confirm, after}
use Rattle.promises.specs.Silent.{is_of_sender}
use Rattle.rlc_am_tx.specs.declared.answers.Heard.{Heard}
use Rattle.rlc_am_tx.specs.declared.answers.Heard.TheVariants as heard_as
use Rattle.rlc_am_tx.specs.Machine.{State as Sender, answer, heard, expiry, settles}
use Rattle.rlc_pdu.specs.Pdus.{StatusPdu, Status}
use Rattle.rlc_pdu.specs.Reading.{am_at}

-- ---- of a bearer

pub data BearerEntry : Type 0 where
  Tells : Event → BearerEntry
  Writes : List ℕ → BearerEntry
  Comes : List ℕ → BearerEntry

abbrev pub telling : List Event → List BearerEntry
telling told = map (λ (e : Event). Tells e) told

abbrev pub writing : List (List ℕ) → List BearerEntry
writing written = map (λ (octets : List ℕ). Writes octets) written

-- of a call: what is written stands behind what is told, and what comes before it
abbrev pub bearer_log : ℕ → Flow → Call → List BearerEntry
bearer_log l f (Take share held) =
    telling (tells_in l f (Take share held)) ++ writing (pdus f share held)
bearer_log l f (Arrive pdu) = Comes pdu ∷ telling (tells_in l f (Arrive pdu))
bearer_log l f c = telling (tells_in l f c)

-- ---- of RLC's sender

-- what is told first of a STATUS that is read
abbrev pub read_told : ℕ → Heard → List Event
read_told lcid heard_as.Ignored = events.Drop lcid losts.Ignored ∷ []
read_told lcid (heard_as.Limit sn) = events.Fail lcid sn ∷ []
read_told lcid (heard_as.Applied stopped) = stopped_told lcid stopped

abbrev pub ReadsAsStatus : List ℕ → Type 0
ReadsAsStatus octets = (status : StatusPdu) × (am_at octets ≡ Ok (Status status))

-- its call is logged so: an SDU is told as it is taken from PDCP, and a data PDU is told and
-- written, behind any STATUS
abbrev pub IsLoggedAs : Sender → SenderCall → List BearerEntry → Type 0
IsLoggedAs s (Offer sdu) es = (e : Ends) × (taken e ≡ Some sdu) × (es ≡ telling (taking_told e))
IsLoggedAs s (Takes size held more) es = (lcid : ℕ) × (reports : List (List ℕ))
    × AllByRecursion ReadsAsStatus reports
    × (es ≡ telling (data_told lcid (answer s size held more))
    ++ writing (reports ++ pdus_of (answer s size held more)))
IsLoggedAs s (Hears status) es = (lcid : ℕ) × (octets : List ℕ)
    × (am_at octets ≡ Ok (Status status))
    × (es ≡ Comes octets ∷ telling (read_told lcid (heard s status)))
IsLoggedAs s Ticks es = es ≡ []
IsLoggedAs s (Expires more) es =
    (lcid : ℕ) × (es ≡ telling (told_of (poll_told lcid (expiry s more))))
IsLoggedAs s (Settle more) es = (lcid : ℕ) × (es ≡ telling (started_told lcid (settles s more)))
IsLoggedAs s Confirm es = es ≡ []

-- what is told of what it takes, sends and gives up, of its timer's expiry, and of a STATUS that
-- it ignores
abbrev pub is_of_flow : Event → Bool
is_of_flow (events.Take lcid count len) = true
is_of_flow (events.Report lcid fms bitmap) = true
is_of_flow (events.Expired lcid Poll) = true
is_of_flow (events.Drop lcid losts.Ignored) = true
is_of_flow event = is_of_sender event

-- all else that is logged tells nothing of that
abbrev pub IsElse : BearerEntry → Type 0
IsElse (Tells e) = is_of_flow e ≡ false
IsElse (Writes octets) = ⊥
IsElse (Comes octets) = ReadsAsStatus octets → ⊥

-- its call, or something else, with what is logged of it
pub data SenderDeed : Type 0 where
  Makes : SenderCall → List BearerEntry → SenderDeed
  Else : List BearerEntry → SenderDeed

abbrev pub deed_log : SenderDeed → List BearerEntry
deed_log (Makes c es) = es
deed_log (Else es) = es

abbrev pub behind_deed : Sender → SenderDeed → Sender
behind_deed s (Makes c es) = after s c
behind_deed s (Else es) = s

abbrev pub IsDeed : Sender → SenderDeed → Type 0
IsDeed s (Makes c es) = IsLoggedAs s c es
IsDeed s (Else es) = AllByRecursion IsElse es

abbrev pub deeds_log : List SenderDeed → List BearerEntry
deeds_log [] = []
deeds_log (d ∷ ds) = deed_log d ++ deeds_log ds

abbrev pub behind_deeds : List SenderDeed → Sender → Sender
behind_deeds [] s = s
behind_deeds (d ∷ ds) s = behind_deeds ds (behind_deed s d)

abbrev pub AreDeeds : Sender → List SenderDeed → Type 0
AreDeeds s [] = Unit {0}
AreDeeds s (d ∷ ds) = IsDeed s d × AreDeeds (behind_deed s d) ds

-- ---- the law

pub record GoesAlong (s t : Sender) (es : List BearerEntry) : Type 0 where
  pub deeds : List SenderDeed
  pub are : AreDeeds s deeds
  pub logged : es ≡ deeds_log deeds
  pub left : t ≡ behind_deeds deeds s

-- the STATUS PDUs that a call writes are read as such
abbrev pub WritesStatuses : State → Call → Type 0
WritesStatuses b (Take share held) = AllByRecursion ReadsAsStatus (status_pdus b.rx share)
WritesStatuses b c = Unit {0}

abbrev pub CallsGoAlong : Type 0
CallsGoAlong = (l : ℕ) (b d : State) (c : Call) → called (Am b) c ≡ Am d → WritesStatuses b c
    → GoesAlong b.tx d.tx (bearer_log l (Am b) c)

-- ---- in a call of an end

abbrev pub bearer_logs : ℕ → Flow → List Call → List BearerEntry
bearer_logs = of_calls bearer_log

-- in a life, of any end that has an acknowledged bearer of the channel
abbrev pub EndsGoAlong : Type 0
EndsGoAlong = (side : Side) (maximum : ℕ) (reports : Bool) (past : List EndCall) (c : EndCall)
    (l : ℕ) (b d : State) → AreGiven past → IsGiven c → GoesOnInLife l c
    → has l (reached side maximum reports past).bearers ≡ true
    → flow l (reached side maximum reports past) ≡ Am b
    → flow l (end_after (reached side maximum reports past) c) ≡ Am d
    → GoesAlong b.tx d.tx
    (bearer_logs l (Am b) (calls_of l (reached side maximum reports past) c))

-- in many calls of a life
abbrev pub EndsGoAlongOver : Type 0
EndsGoAlongOver = (side : Side) (maximum : ℕ) (reports : Bool) (past cs : List EndCall) (l : ℕ)
    (b d : State) → AreGiven past → AreNew l past (fresh side maximum reports) → AreGiven cs
    → AllByRecursion (GoesOnInLife l) cs → has l (reached side maximum reports past).bearers ≡ true
    → flow l (reached side maximum reports past) ≡ Am b
    → flow l (run_end cs (reached side maximum reports past)) ≡ Am d
    → GoesAlong b.tx d.tx
    (bearer_logs l (Am b) (calls_over l cs (reached side maximum reports past)))
