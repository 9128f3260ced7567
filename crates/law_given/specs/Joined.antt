-- Both directions of a bearer of acknowledged data as two ends go on over the air: PDCP's flow
-- through all lives, RLC's of the life that runs, and how they belong to the bearers (TS 36.322
-- 5.1.3, 5.4, TS 36.323 5.1, 5.2, 5.3).
use Rattle.std.specs.Prelude.{◌≡◌, ℕ, ◌≤◌, ◌^◌, Bool, true, false, ◌||◌, List, [], ◌∷◌, ◌++◌, map}
use Rattle.std.specs.Prelude.{length}
use Rattle.std.specs.Prelude.{take, drop}
use Rattle.std.specs.Prelude.{Option, Some, None}
use Rattle.std.specs.List.{AllByRecursion}
use Rattle.bearer.specs.Acknowledged.State.{State}
use Rattle.bearer.specs.declared.flow.Flow.TheVariants.{Am}
use Rattle.bearer_types.specs.Sides.{other}
use Rattle.bearer_types.specs.declared.config.BearerConfig.{BearerConfig}
use Rattle.eps_sec.specs.declared.Keys.{Keys}
use Rattle.l2_node.specs.End.{End}
use Rattle.l2_num.specs.Least.{IsLeast}
use Rattle.l2_types.specs.declared.AmRxConfig.{AmRxConfig}
use Rattle.l2_types.specs.declared.config.AmTxConfig.{AmTxConfig}
use Rattle.l2_types.specs.declared.side.Side.{Side}
use Rattle.pdcp_pdu.specs.Kinds.{IsKind}
use Rattle.pdcp_pdu.specs.declared.PdcpKind.{PdcpKind}
use Rattle.pdcp_pdu.specs.declared.PdcpKind.TheVariants.{Am as AmKind}
use Rattle.pdcp_sec.specs.Protection.{Protection}
use Rattle.pdcp_tx.specs.declared.sender.Next.{Next}
use Rattle.pdcp_rx.specs.Heard.{Told, Data, heard}
use Rattle.pdcp_rx.specs.State.{report}
use Rattle.pdcp_tx.specs.Pdus.{pdu}
use Rattle.pdcp_tx.specs.State.{fms_count}
use Rattle.pdcp_tx_store.specs.Given.{tells}
use Rattle.law_bearer.specs.AmBearer.Calls.{IsOfData, IsIdle}
use Rattle.law_bearer.specs.AmBearer.Lives.{restarts, closed}
use Rattle.law_bearer.specs.AnyBearer.Calls.{run_bearer}
use Rattle.law_rlc.specs.AmPair.Arrives.{arrives}
use Rattle.law_rlc.specs.AmPair.Flow.{Flow as Rlc, Step as RlcStep, goes as rlc_goes, am_rlc_outset}
use Rattle.law_rlc.specs.AmPair.Flow.{sender, receiver}
use Rattle.law_rlc.specs.AmPair.Given.{AreGiven as AreGivenSteps}
use Rattle.law_rlc.specs.AmPair.Sdus.{offered, handed_up}
use Rattle.law_pdcp.specs.OneEnd.Lives.{Names}
use Rattle.law_pdcp.specs.AmPair.Flow.{Flow as Pdcp, Event, run_am_pdcp, am_pdcp_outset}
use Rattle.law_pdcp.specs.AmPair.Flow.{AreGiven as AreGivenEvents}
use Rattle.law_words.specs.Arrivals.{AccountEntry, Gives, Passes, Renews, Given, Account, account}
use Rattle.law_words.specs.Arrivals.{has_place, has_come, is_count}
use Rattle.law_node.specs.Holding.{flow}
use Rattle.law_deliver.specs.AmFlow.Air.{Step, outset}
use Rattle.law_deliver.specs.AmChannel.Arrival.{told_from, happens_in}
use Rattle.law_deliver.specs.AmChannel.Delivery.{AmEndsBeginAlike, steps_over, taken_at, ups_at}
use Rattle.law_deliver.specs.AmChannel.Lives.{AirStep, InLife, Moves, AreLiving, lives, end_at}
use Rattle.law_deliver.specs.AmChannel.Lives.{calls_at}

-- ---- a direction

pub record Direction : Type 0 where
  pub bits : ℕ
  pub protection : Protection
  pub first : ℕ
  -- of PDCP, through all lives
  pub events : List Event
  pub sending : AmTxConfig
  pub receiving : AmRxConfig
  -- of RLC, in the life that runs
  pub steps : List RlcStep

abbrev pub pdcp : Direction → Pdcp
pdcp d = run_am_pdcp d.events (am_pdcp_outset d.bits d.protection d.first)

abbrev pub rlc : Direction → Rlc
rlc d = rlc_goes d.steps (am_rlc_outset d.sending d.receiving)

-- the laws of both flows hold of it
pub record IsDirection (c : BearerConfig) (d : Direction) : Type 0 where
  pub bits : d.bits ≡ c.pdcp_bits
  pub first : d.first ≡ c.first
  pub kind : IsKind (AmKind d.bits)
  pub counts : d.first ≤ 2 ^ 32
  pub events : AreGivenEvents (am_pdcp_outset d.bits d.protection d.first) d.events
  pub steps : AreGivenSteps (am_rlc_outset d.sending d.receiving) d.steps

-- it goes from a bearer to the other; RLC is offered the PDUs that PDCP gives
pub record Joins (d : Direction) (from to : State) : Type 0 where
  pub sender_is : (pdcp d).sender ≡ from.pdcp.tx
  pub receiver_is : (pdcp d).receiver ≡ to.pdcp.rx
  pub rlc_sender_is : (sender (rlc d)).state ≡ from.tx
  pub rlc_receiver_is : (receiver (rlc d)).state ≡ to.rx
  pub stream_is : map (λ (n : Next). n.octets) (pdcp d).stream ≡ offered (rlc d)
  pub passed_is : (pdcp d).passed ≡ length (handed_up (rlc d))
  pub whole_is : (place : ℕ) → (pdcp d).whole place ≡ arrives (rlc d) place

-- what goes back without a COUNT is the report of what had come as the life began
abbrev pub IsReportOf : Option (List ℕ) → Next → Type 0
IsReportOf report n = n.count ≡ None → report ≡ Some n.octets

pub record Reports (there back : Direction) : Type 0 where
  pub owed : (report : List ℕ) → (pdcp back).sender.owed ≡ Some report
      → (pdcp there).report ≡ Some report
  pub sent : AllByRecursion (IsReportOf (pdcp there).report) (pdcp back).stream

-- ---- beside the account of what is told

abbrev pub given_of : Next → Given
given_of n = record { count = n.count; size = length n.octets }

pub record IsTold (d : Direction) (a : Account) (news ups : List (List ℕ)) : Type 0 where
  pub sdus_are : (pdcp d).sdus ≡ news
  pub ups_are : (pdcp d).up ≡ ups
  pub stream_is : map given_of (pdcp d).stream ≡ a.given
  pub whole_is : (place : ℕ) → (pdcp d).whole place ≡ has_place a place
  pub passed_is : IsLeast (has_place a) 0 (pdcp d).passed
  pub handed_is : (count : ℕ) → (pdcp d).handed count ≡ has_come a count

-- ---- both directions, between two steps

pub record AreJoined (l : ℕ) (c : BearerConfig) (nb ue : End) (from : Side) (steps : List AirStep) :
    Type 0 where
  pub one : State
  pub two : State
  pub one_data : IsOfData c.pdcp_bits one
  pub two_data : IsOfData c.pdcp_bits two
  pub one_idle : IsIdle one
  pub two_idle : IsIdle two
  pub one_is : flow l (end_at from (lives steps (outset nb ue))) ≡ Am one
  pub two_is : flow l (end_at (other from) (lives steps (outset nb ue))) ≡ Am two
  pub there : Direction
  pub back : Direction
  pub there_is : IsDirection c there
  pub back_is : IsDirection c back
  pub there_joins : Joins there one two
  pub back_joins : Joins back two one
  pub there_reports : Reports there back
  pub back_reports : Reports back there
  pub there_told : IsTold there (told_from c l from steps (outset nb ue))
      (taken_at l from steps (outset nb ue)) (ups_at l (other from) steps (outset nb ue))
  pub back_told : IsTold back (told_from c l (other from) steps (outset nb ue))
      (taken_at l (other from) steps (outset nb ue)) (ups_at l from steps (outset nb ue))

abbrev pub BearersAreJoined : Type 0
BearersAreJoined =
    (l : ℕ) (c : BearerConfig) (keys : Keys) (nb ue : End) (from : Side) (steps : List AirStep)
    → AmEndsBeginAlike l c keys nb ue → AreLiving l (outset nb ue) steps
    → AreJoined l c nb ue from steps

-- ---- what the PDUs of a direction are read as

-- one of some PDUs has the COUNT
abbrev pub is_among : List Next → ℕ → Bool
is_among [] count = false
is_among (n ∷ ns) count = is_count n.count count || is_among ns count

-- octets are read as a status report of the COUNTs that had come of a flow: its FMS is the first
-- that hadn't (TS 36.323 5.3.1, 5.3.2)
pub record TellsCome (f : Pdcp) (had_come : ℕ → Bool) (report : List ℕ) : Type 0 where
  pub fms : ℕ
  pub bitmap : List ℕ
  pub from : ℕ
  pub is : heard f.sender.kind report ≡ Told fms bitmap
  pub read : fms_count f.sender.kind f.sender.base fms ≡ Some from
  pub expected : IsLeast had_come f.first from
  pub told : (count : ℕ) → f.first ≤ count → tells from bitmap count ≡ had_come count

-- of those that had as the life began; since then RLC has handed up what else has come
pub record TellsBegun (f : Pdcp) (report : List ℕ) : Type 0 where
  pub begun : ℕ → Bool
  pub tells_begun : TellsCome f begun report
  pub come : (count : ℕ) → f.handed count ≡ (begun count || is_among (take f.passed f.stream) count)

pub record IsHeardAsData (kind : PdcpKind) (octets : List ℕ) : Type 0 where
  pub sn : ℕ
  pub body : List ℕ
  pub is : heard kind octets ≡ Data sn body

-- one without a COUNT is the report of the other direction, and one with a COUNT is none
abbrev pub IsHeardAs : Pdcp → List ℕ → Option ℕ → Type 0
IsHeardAs f octets None = TellsBegun f octets
IsHeardAs f octets (Some count) = IsHeardAsData f.sender.kind octets

abbrev pub AreHeardIn : Pdcp → List Next → Type 0
AreHeardIn f ns = AllByRecursion (λ (n : Next). IsHeardAs f n.octets n.count) ns

pub record AreHeard (there back : Pdcp) : Type 0 where
  pub going : AreHeardIn back there.stream
  pub coming : AreHeardIn there back.stream

abbrev pub ReportsAreRead : Type 0
ReportsAreRead =
    (l : ℕ) (c : BearerConfig) (nb ue : End) (from : Side) (steps : List AirStep)
    (j : AreJoined l c nb ue from steps) → AreHeard (pdcp j.there) (pdcp j.back)

-- the PDU of the SDU of a COUNT, as the sender protects it
pub record IsPduOf (f : Pdcp) (count : ℕ) (octets : List ℕ) : Type 0 where
  pub sdu : List ℕ
  pub named : Names f.first f.sdus count sdu
  pub is : octets ≡ pdu f.sender.kind f.sender.protection count sdu

abbrev pub IsGivenAs : Pdcp → List ℕ → Option ℕ → Type 0
IsGivenAs f octets None = Unit {0}
IsGivenAs f octets (Some count) = IsPduOf f count octets

-- those that RLC hasn't handed up
abbrev pub AreGivenIn : Pdcp → Type 0
AreGivenIn f =
    AllByRecursion (λ (n : Next). IsGivenAs f n.octets n.count) (drop f.passed f.stream)

pub record AreGiven (there back : Pdcp) : Type 0 where
  pub going : AreGivenIn there
  pub coming : AreGivenIn back

abbrev pub PdusAreGiven : Type 0
PdusAreGiven =
    (l : ℕ) (c : BearerConfig) (nb ue : End) (from : Side) (steps : List AirStep)
    (j : AreJoined l c nb ue from steps) → AreGiven (pdcp j.there) (pdcp j.back)

-- ---- a step further

-- by what the step tells, and by what the calls of a side do to its bearer
pub record GoesOn (l : ℕ) (c : BearerConfig) (nb ue : End) (from : Side) (steps : List AirStep)
    (x : AirStep) : Type 0 where
  pub told_is : told_from c l from (steps ++ x ∷ []) (outset nb ue)
      ≡ account (happens_in c.pdcp_bits l from (lives steps (outset nb ue)) x)
      (told_from c l from steps (outset nb ue))
  pub bearer_is : flow l (end_at from (lives (steps ++ x ∷ []) (outset nb ue)))
      ≡ run_bearer (steps_over l (calls_at from (lives steps (outset nb ue)) x)
      (end_at from (lives steps (outset nb ue))))
      (flow l (end_at from (lives steps (outset nb ue))))

abbrev pub JoinedGoOn : Type 0
JoinedGoOn =
    (l : ℕ) (c : BearerConfig) (keys : Keys) (nb ue : End) (from : Side) (steps : List AirStep)
    (x : AirStep)
    → AmEndsBeginAlike l c keys nb ue → AreLiving l (outset nb ue) (steps ++ x ∷ [])
    → GoesOn l c nb ue from steps x

-- ---- in a life

abbrev pub gives : List AccountEntry → List Given
gives [] = []
gives (Gives g ∷ entries) = g ∷ gives entries
gives (Passes p ∷ entries) = gives entries
gives (Renews ∷ entries) = gives entries

-- what RLC is given stands behind what it was given, and nothing that has come is lost
pub record GoesOnInLife (f g : Pdcp) (entries : List AccountEntry) : Type 0 where
  pub first_is : g.first ≡ f.first
  pub stream_is : map given_of g.stream ≡ map given_of f.stream ++ gives entries
  pub whole_stays : (place : ℕ) → f.whole place ≡ true → g.whole place ≡ true
  pub passed_rises : f.passed ≤ g.passed
  pub handed_stays : (count : ℕ) → f.handed count ≡ true → g.handed count ≡ true

abbrev pub JoinedGoOnInLife : Type 0
JoinedGoOnInLife =
    (l : ℕ) (c : BearerConfig) (keys : Keys) (nb ue : End) (from : Side) (steps : List AirStep)
    (s : Step)
    → AmEndsBeginAlike l c keys nb ue → AreLiving l (outset nb ue) (steps ++ InLife s ∷ [])
    → (j : AreJoined l c nb ue from steps)
    (k : AreJoined l c nb ue from (steps ++ InLife s ∷ []))
    → GoesOnInLife (pdcp j.there) (pdcp k.there)
    (happens_in c.pdcp_bits l from (lives steps (outset nb ue)) (InLife s))

-- ---- the next life

-- nothing is under way, and the one end owes the other the report of what had come from it
pub record LifeBegins (l : ℕ) (c : BearerConfig) (nb ue : End) (from : Side) (steps : List AirStep)
    (keys : Keys) (j : AreJoined l c nb ue from steps)
    (k : AreJoined l c nb ue from (steps ++ Moves keys ∷ [])) : Type 0 where
  pub one_is : k.one ≡ restarts j.one keys
  pub two_is : k.two ≡ restarts j.two keys
  pub stream_is : (pdcp k.there).stream ≡ []
  pub passed_is : (pdcp k.there).passed ≡ 0
  pub report_is : (pdcp k.there).report ≡ Some (report (closed j.two))
  pub owed_is : (pdcp k.back).sender.owed ≡ Some (report (closed j.two))
  pub tells_ended : TellsCome (pdcp k.there)
      (told_from c l from (steps ++ Moves keys ∷ []) (outset nb ue)).ended (report (closed j.two))

abbrev pub LivesBeginJoined : Type 0
LivesBeginJoined =
    (l : ℕ) (c : BearerConfig) (first keys : Keys) (nb ue : End) (from : Side)
    (steps : List AirStep)
    → AmEndsBeginAlike l c first nb ue
    → AreLiving l (outset nb ue) (steps ++ Moves keys ∷ [])
    → (j : AreJoined l c nb ue from steps)
    (k : AreJoined l c nb ue from (steps ++ Moves keys ∷ []))
    → LifeBegins l c nb ue from steps keys j k
