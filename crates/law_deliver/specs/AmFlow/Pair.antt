-- Both ends of an acknowledged bearer in one life, and what is under way between them (TS 36.322
-- 4.2.1.3). HARQ may lose what is under way, bring it late, in another order, and more than once;
-- nothing else comes.
use Rattle.std.specs.Prelude.{◌≡◌, ℕ, ◌+◌, ◌-◌, ◌<◌, ◌≤◌, Bool, true, false, ◌||◌, List, [], ◌++◌}
use Rattle.std.specs.Prelude.{map, length, Option, Some, None, slice_get}
use Rattle.std.specs.List.{AllByRecursion}
use Rattle.rlc_pdu.specs.declared.outcome.Taken.{Taken}
use Rattle.rlc_pdu.specs.declared.outcome.Taken.TheVariants as taken
use Rattle.bearer.specs.declared.flow.Flow.{Flow}
use Rattle.bearer.specs.declared.flow.Flow.TheVariants.{Tm, Um, Am}
use Rattle.bearer.specs.Acknowledged.State.{State}
use Rattle.bearer.specs.Acknowledged.Taking.{status_pdus, data_size}
use Rattle.law_bearer.specs.AnyBearer.Calls.{Call, Submit, Take, Arrive, Expire, Tick, SetDiscard}
use Rattle.law_bearer.specs.AnyBearer.Calls.{after}
use Rattle.law_bearer.specs.AnyBearer.Acknowledged.{offers_in, data_given}
use Rattle.rlc_am_rx.specs.State.{State as Receiver}
use Rattle.rlc_am_rx.specs.Status.{ack, chosen}
use Rattle.law_rlc.specs.AmPair.Flow.{Copy, Report, copies_with, is_new, except}
use Rattle.law_rlc.specs.AmPair.Given.{IsHeld, IsYoung}
use Rattle.law_deliver.specs.Steps.{Ends, walked, AllGiven}

-- the bearer at an end, the data PDUs and STATUS PDUs that it wrote and that may still come to the
-- other end, and whether it sent a new data PDU in this TTI
pub record BearerEnd : Type 0 where
  pub bearer : State
  pub copies : List Copy
  pub reports : List Report
  pub busy : Bool

abbrev pub Pair : Type 0
Pair = Ends BearerEnd

-- ---- what may happen

-- at an end
pub data Deed : Type 0 where
  -- a call that brings no PDU
  Calls : Call → Deed
  -- what stands at a place of what the other end has under way comes, and is still under way
  DataComes : ℕ → Deed
  StatusComes : ℕ → Deed
  -- of what this end has under way something is let go
  DataGoes : ℕ → Deed
  StatusGoes : ℕ → Deed

pub data Step : Type 0 where
  Near : Deed → Step
  Far : Deed → Step
  -- a TTI ends
  Passes : Step

-- ---- a call

-- an acknowledged bearer stays one
abbrev pub acknowledged : State → Flow → State
acknowledged b (Am d) = d
acknowledged b (Tm d) = b
acknowledged b (Um d) = b

abbrev pub called : State → Call → State
called b c = acknowledged b (after (Am b) c)

-- the data PDU that it writes, and the STATUS
abbrev pub data_by : State → Call → Taken
data_by b (Submit sdu) = taken.Idle
data_by b (Take share held) = data_given b share held
data_by b (Arrive pdu) = taken.Idle
data_by b (Expire clock) = taken.Idle
data_by b Tick = taken.Idle
data_by b (SetDiscard ttis) = taken.Idle

-- a STATUS has 3 octets of the share for a subheader
abbrev pub written_now : Receiver → ℕ → List ℕ → Report
written_now rx share octets = record {
  octets = octets;
  age = 0;
  ack = ack rx (share - 3);
  entries = chosen rx (share - 3);
}

abbrev pub reports_now : Receiver → ℕ → List Report
reports_now rx share = map (written_now rx share) (status_pdus rx share)

abbrev pub status_by : State → Call → List Report
status_by b (Submit sdu) = []
status_by b (Take share held) = reports_now b.rx share
status_by b (Arrive pdu) = []
status_by b (Expire clock) = []
status_by b Tick = []
status_by b (SetDiscard ttis) = []

abbrev pub calls : BearerEnd → Call → BearerEnd
calls e c = record {
  bearer = called e.bearer c;
  copies = copies_with (data_by e.bearer c) e.copies;
  reports = status_by e.bearer c ++ e.reports;
  busy = e.busy || is_new (data_by e.bearer c);
}

-- ---- what comes

abbrev pub arrives : BearerEnd → List ℕ → BearerEnd
arrives e pdu = record e { bearer = called e.bearer (Arrive pdu) }

abbrev pub data_comes : BearerEnd → Option Copy → BearerEnd
data_comes e None = e
data_comes e (Some c) = arrives e c.octets

abbrev pub status_comes : BearerEnd → Option Report → BearerEnd
status_comes e None = e
status_comes e (Some s) = arrives e s.octets

-- ---- any steps

-- at an end, by what the other has under way
abbrev pub does : BearerEnd → BearerEnd → Deed → BearerEnd
does other e (Calls c) = calls e c
does other e (DataComes k) = data_comes e (slice_get other.copies k)
does other e (StatusComes k) = status_comes e (slice_get other.reports k)
does other e (DataGoes k) = record e { copies = except k e.copies }
does other e (StatusGoes k) = record e { reports = except k e.reports }

abbrev pub older : Report → Report
older s = record s { age = s.age + 1 }

abbrev pub passed : BearerEnd → BearerEnd
passed e = record e { reports = map older e.reports; busy = false }

abbrev pub happens : Pair → Step → Pair
happens p (Near d) = record p { near = does p.far p.near d }
happens p (Far d) = record p { far = does p.near p.far d }
happens p Passes = record { near = passed p.near; far = passed p.far }

abbrev pub goes : List Step → Pair → Pair
goes ss p = walked happens ss p

abbrev pub begins : State → BearerEnd
begins b = record { bearer = b; copies = []; reports = []; busy = false }

abbrev pub am_pair_outset : State → State → Pair
am_pair_outset near far = record { near = begins near; far = begins far }

-- ---- what is asked of them

abbrev pub HasOctet : List ℕ → Type 0
HasOctet pdu = 0 < length pdu

-- a data field has at most 32767 octets, since SO has 15 bits (TS 36.322 6.2.2.7); a PDU of PDCP
-- has an octet; `take` is told the lowest number under way, or a lower one; and there is at most
-- one new data PDU in a TTI
pub record IsTaking (e : BearerEnd) (share : ℕ) (held : Option ℕ) : Type 0 where
  pub few : data_size e.bearer share ≤ 32767
  pub some : AllByRecursion HasOctet (offers_in e.bearer share held)
  pub lowest : AllByRecursion (IsHeld held) e.copies
  pub one : e.busy ≡ true → is_new (data_given e.bearer share held) ≡ false

abbrev pub IsCalling : BearerEnd → Call → Type 0
IsCalling e (Submit sdu) = Unit {0}
IsCalling e (Take share held) = IsTaking e share held
IsCalling e (Arrive pdu) = ⊥
IsCalling e (Expire clock) = Unit {0}
IsCalling e Tick = Unit {0}
IsCalling e (SetDiscard ttis) = Unit {0}

abbrev pub IsDone : BearerEnd → Deed → Type 0
IsDone e (Calls c) = IsCalling e c
IsDone e (DataComes k) = Unit {0}
IsDone e (StatusComes k) = Unit {0}
IsDone e (DataGoes k) = Unit {0}
IsDone e (StatusGoes k) = Unit {0}

abbrev pub IsGiven : Pair → Step → Type 0
IsGiven p (Near d) = IsDone p.near d
IsGiven p (Far d) = IsDone p.far d
IsGiven p Passes = AllByRecursion IsYoung p.near.reports × AllByRecursion IsYoung p.far.reports

abbrev pub AreGiven : Pair → List Step → Type 0
AreGiven p ss = AllGiven happens IsGiven p ss
