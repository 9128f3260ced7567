-- What the status report of a life says, and which COUNTs have come by the history that a journal
-- tells (TS 36.323 5.1.2.1.2, 5.2.2.1, 5.3.1, TS 36.322 5.4).
use Rattle.std.specs.Prelude.{◌≡◌, ℕ, ◌+◌, ◌≤◌, ◌==◌, Bool, ◌||◌, nat_lt, List, [], ◌∷◌, ◌++◌, map}
use Rattle.std.specs.Prelude.{length, Some}
use Rattle.std.specs.List.{list_any, AllByRecursion}
use Rattle.bearer.specs.Acknowledged.State.{State}
use Rattle.bearer_types.specs.declared.config.BearerConfig.{BearerConfig}
use Rattle.eps_sec.specs.declared.Keys.{Keys}
use Rattle.l2_num.specs.Ascending.{IsAscending}
use Rattle.l2_num.specs.Least.{IsLeast}
use Rattle.pdcp_pdu.specs.Kinds.{IsKind}
use Rattle.pdcp_pdu.specs.declared.PdcpKind.TheVariants.{Am as AmKind}
use Rattle.pdcp_rx.specs.Held.{is_held, Ends}
use Rattle.pdcp_rx.specs.State.{State as Receiving, report}
use Rattle.pdcp_sec.specs.Protection.{Protection}
use Rattle.pdcp_tx.specs.declared.sender.Next.{Next}
use Rattle.pdcp_tx.specs.Runs.{Take}
use Rattle.pdcp_tx.specs.State.{taking}
use Rattle.journal_account.specs.Stream.{is_in_sequence, is_whole_sdu}
use Rattle.journal_lives.specs.CountsCome.{CountsCome}
use Rattle.journal_lives.specs.LifeEvents.{LifeEvent, PduGiven, InLife, LifeEnded, running}
use Rattle.journal_lives.specs.LifeEvents.{counts_in, passes_with, came_before, count_came}
use Rattle.law_bearer.specs.AmBearer.Calls.{IsIdle}
use Rattle.law_bearer.specs.AmBearer.Lives.{closed}
use Rattle.law_pdcp.specs.AmPair.Flow.{Flow, Event, Sends, SetDiscard, Arrive, HandUp, Raise}
use Rattle.law_pdcp.specs.AmPair.Flow.{Restart, happens, run_am_pdcp, am_pdcp_outset, ended}
use Rattle.law_pdcp.specs.OneEnd.Given.{pdus_given}
use Rattle.law_given.specs.Confirming.{HandsUpAsTold}
use Rattle.law_given.specs.Joined.{Direction, IsDirection, Joins, pdcp, rlc}
use Rattle.law_given.specs.Supplied.{IsReadAs}

-- ---- a status report

-- the first COUNT that hasn't come, and those beyond it that have, ascending
pub record AreThoseCome (come : ℕ → Bool) (first : ℕ) (those : CountsCome) : Type 0 where
  pub next : IsLeast come first those.next
  pub ascend : IsAscending (those.next + 1) those.beyond
  pub beyond : (count : ℕ) → those.next ≤ count
      → come count ≡ list_any (λ (own : ℕ). own == count) those.beyond

-- a receiver expects the first that hasn't come, and holds just those behind it that have, up to
-- the greatest
pub record HoldsThoseCome (come : ℕ → Bool) (first : ℕ) (r : Receiving) : Type 0 where
  pub expects : IsLeast come first r.next
  pub holds : (k : ℕ) → is_held r.held k ≡ come (r.next + k)
  pub ends : Ends r.held

abbrev pub ReportsSayWhatHasCome : Type 0
ReportsSayWhatHasCome = (bits first : ℕ) (come : ℕ → Bool) (r : Receiving) (said : CountsCome)
    → IsKind (AmKind bits) → r.kind ≡ AmKind bits → HoldsThoseCome come first r
    → AreThoseCome come first said → IsReadAs bits (report r) said

-- the receiver's end of a direction, as a life ends
abbrev pub EndsSayWhatHasCome : Type 0
EndsSayWhatHasCome =
    (c : BearerConfig) (d : Direction) (from to : State) (said : CountsCome) → IsDirection c d
    → Joins d from to → AreThoseCome (ended (pdcp d)).handed d.first said
    → IsReadAs d.bits (report (closed to)) said

-- ---- a history beside PDCP's flow

-- what came in an earlier life, or is handed up in the one that runs
abbrev pub came_or_passed : List LifeEvent → ℕ → ℕ → Bool
came_or_passed es passed count =
    came_before es count || passes_with (λ (k : ℕ). nat_lt k passed) 0 (counts_in es) count

pub record IsLivedBeside (es : List LifeEvent) (f : Flow) : Type 0 where
  pub counts : counts_in es ≡ map (λ (n : Next). n.count) f.stream
  pub few : f.passed ≤ length f.stream
  pub handed : (count : ℕ) → f.handed count ≡ came_or_passed es f.passed count

-- of the PDUs that RLC was given in the life that runs, it says how many are handed up, and which
-- are whole
pub record SaysAlike (es : List LifeEvent) (f : Flow) : Type 0 where
  pub sequenced : (k : ℕ) → is_in_sequence (running es) k ≡ nat_lt k f.passed
  pub whole : (k : ℕ) → is_whole_sdu (running es) k ≡ f.whole k

-- so it says of a direction whose receiver is idle, by what RLC hands up
abbrev pub DirectionsSayAlike : Type 0
DirectionsSayAlike = (c : BearerConfig) (d : Direction) (from to : State) (es : List LifeEvent)
    → IsDirection c d → Joins d from to → IsIdle to → HandsUpAsTold (rlc d) (running es)
    → SaysAlike es (pdcp d)

-- then the same COUNTs have come
abbrev pub CountsComeAsHanded : Type 0
CountsComeAsHanded = (es : List LifeEvent) (f : Flow) (count : ℕ) → IsLivedBeside es f
    → SaysAlike es f → count_came es count ≡ f.handed count

-- ---- it goes on so

abbrev pub LivesBeginBeside : Type 0
LivesBeginBeside = (bits : ℕ) (p : Protection) (first : ℕ)
    → IsLivedBeside [] (am_pdcp_outset bits p first)

-- within a life, whatever happens to the flow, and whatever is told

-- the PDUs that RLC is given
abbrev pub given_by : Flow → Event → List Next
given_by f (Sends c) = pdus_given f.sender c
given_by f (SetDiscard ttis) = []
given_by f (Arrive place) = []
given_by f HandUp = []
given_by f Raise = []
given_by f (Restart keys) = []

abbrev pub all_given : Flow → List Event → List Next
all_given f [] = []
all_given f (e ∷ events) = given_by f e ++ all_given (happens f e) events

abbrev pub IsWithin : Event → Type 0
IsWithin (Sends c) = Unit {0}
IsWithin (SetDiscard ttis) = Unit {0}
IsWithin (Arrive place) = Unit {0}
IsWithin HandUp = Unit {0}
IsWithin Raise = Unit {0}
IsWithin (Restart keys) = ⊥

abbrev pub IsToldWithin : LifeEvent → Type 0
IsToldWithin (PduGiven count size) = Unit {0}
IsToldWithin (InLife e) = Unit {0}
IsToldWithin LifeEnded = ⊥

-- the COUNTs of what RLC is given are told
abbrev pub WithinBeside : Type 0
WithinBeside = (es more : List LifeEvent) (f : Flow) (events : List Event)
    → AllByRecursion IsWithin events → AllByRecursion IsToldWithin more
    → counts_in more ≡ map (λ (n : Next). n.count) (all_given f events)
    → IsLivedBeside es f → IsLivedBeside (more ++ es) (run_am_pdcp events f)

-- so as it is given one PDU
abbrev pub GivenBeside : Type 0
GivenBeside = (es : List LifeEvent) (f : Flow) (pdu : Next) (size : ℕ) → taking f.sender ≡ Some pdu
    → IsLivedBeside es f
    → IsLivedBeside (PduGiven pdu.count size ∷ es) (happens f (Sends Take))

-- the life ends: what is whole comes too, whatever came before it
abbrev pub EndedBeside : Type 0
EndedBeside = (es : List LifeEvent) (f : Flow) (keys : Keys) → IsLivedBeside es f → SaysAlike es f
    → IsLivedBeside (LifeEnded ∷ es) (happens f (Restart keys))

-- and the next one begins alike
abbrev pub BegunAlike : Type 0
BegunAlike = (es : List LifeEvent) (f : Flow) (keys : Keys)
    → SaysAlike (LifeEnded ∷ es) (happens f (Restart keys))

-- so the report that a receiver makes as a life ends says what has come by the history
abbrev pub LivesSayWhatHasCome : Type 0
LivesSayWhatHasCome =
    (c : BearerConfig) (d : Direction) (from to : State) (es : List LifeEvent) (said : CountsCome)
    → IsDirection c d → Joins d from to → IsLivedBeside es (pdcp d) → SaysAlike es (pdcp d)
    → AreThoseCome (count_came (LifeEnded ∷ es)) d.first said
    → IsReadAs d.bits (report (closed to)) said
