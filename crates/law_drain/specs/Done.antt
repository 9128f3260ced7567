-- Where an acknowledged bearer has nothing left (TS 36.322 5.1.3.1, TS 36.323 5.1.1, 5.9): what is
-- neither unacknowledged nor to be sent is done.
use Rattle.std.specs.Prelude.{◌≡◌, ◌⊎◌, ℕ, true, false, List, [], length, None}
use Rattle.std.specs.List.{AllByRecursion}
use Rattle.bearer.specs.Acknowledged.State.{State as BearerState, has_more}
use Rattle.bearer.specs.Acknowledged.Sums.{need, is_drained}
use Rattle.l2_types.specs.declared.config.AmTxConfig.{AmTxConfig}
use Rattle.pdcp_pdu.specs.Kinds.{is_am}
use Rattle.pdcp_pdu.specs.declared.pdu.PdcpKind.{PdcpKind}
use Rattle.pdcp_sec.specs.Protection.{Protection}
use Rattle.pdcp_tx.specs.Runs.{Call as PdcpCall, Submit, Take as TakePdcp, Confirm as ConfirmPdcp}
use Rattle.pdcp_tx.specs.Runs.{Report, Owe, Tick as TickPdcp, Late}
use Rattle.pdcp_tx.specs.State.{State as PdcpState, start, left as pdcp_left}
use Rattle.pdcp_tx_store.specs.Given.{Given}
use Rattle.rlc_am_tx.specs.Machine.{State, start as start_sender}
use Rattle.rlc_am_tx.specs.Need.{left}
use Rattle.law_bearer.specs.AmBearer.Deeds.{Deed, Feeds, Sends, Confirms, Receives, HandsUp, Asks}
use Rattle.law_bearer.specs.AmBearer.Deeds.{Sets, does_all}
use Rattle.law_bearer.specs.AmBearer.Sending.{sends_in}
use Rattle.law_pdcp.specs.OneEnd.Lives.{Step, run_pdcp_sender}
use Rattle.law_rlc.specs.AmSender.Namings.{unmarked, marks_after}
use Rattle.law_rlc.specs.AmSender.Octets.{HasOctets}
use Rattle.law_rlc.specs.AmSender.Run.{Call, Offer, Take, Status, Tick, Expire, Settle, Confirm}
use Rattle.law_rlc.specs.AmSender.Run.{run_am_sender, begun}
use Rattle.law_drain.specs.Bearer.{bearer_quiet}
use Rattle.law_drain.specs.Offers.{has_offer}

-- of RLC's sender: its window is empty, and nothing is left to send
abbrev pub SendsAll : State → Type 0
SendsAll s = length s.window.slots ≡ 0 → length s.queue.sdus ≡ 0 → left s ≡ 0

abbrev pub AcknowledgedIsDone : Type 0
AcknowledgedIsDone = (config : AmTxConfig) (calls : List Call)
    → SendsAll (run_am_sender marks_after calls (begun config unmarked)).state

-- of PDCP's: RLC has acknowledged all that it was given, and nothing may be taken
abbrev pub GivesAll : PdcpState → Type 0
GivesAll s = s.given.entries ≡ [] → has_offer s ≡ false → pdcp_left s ≡ 0

-- of acknowledged data, through any lives
abbrev pub GivenIsDone : Type 0
GivenIsDone = (kind : PdcpKind) (p : Protection) (first : ℕ) (steps : List Step)
    → is_am kind ≡ true → GivesAll (run_pdcp_sender steps (start kind p first))

-- ---- both, at one bearer

-- RLC's sender takes SDUs from PDCP's and tells it of those that are confirmed; PDCP's is asked
-- for nothing else than what users and timers do
abbrev pub IsOfRlc : Call → Type 0
IsOfRlc (Offer sdu) = ⊥
IsOfRlc (Take size held more) = Unit {0}
IsOfRlc (Status status) = Unit {0}
IsOfRlc Tick = Unit {0}
IsOfRlc (Expire more) = Unit {0}
IsOfRlc (Settle more) = Unit {0}
IsOfRlc Confirm = ⊥

abbrev pub IsOfUsers : PdcpCall → Type 0
IsOfUsers (Submit sdu) = Unit {0}
IsOfUsers TakePdcp = ⊥
IsOfUsers (ConfirmPdcp place) = ⊥
IsOfUsers (Report fms bitmap) = ⊥
IsOfUsers (Owe report) = ⊥
IsOfUsers TickPdcp = Unit {0}
IsOfUsers Late = Unit {0}

-- as all deeds are that calls of a bearer consist of
abbrev pub IsOfLife : Deed → Type 0
IsOfLife Feeds = Unit {0}
IsOfLife (Sends c) = IsOfRlc c
IsOfLife Confirms = Unit {0}
IsOfLife (Receives c) = Unit {0}
IsOfLife HandsUp = Unit {0}
IsOfLife (Asks c) = IsOfUsers c
IsOfLife (Sets ttis) = Unit {0}

abbrev pub nothing_given : Given
nothing_given = record { gone = 0; entries = [] }

-- a bearer of acknowledged data behind any deeds of a life: no confirmation is under way to PDCP,
-- RLC's window is empty, and nothing is left to send or to take
pub record HasSentAll (b : BearerState) : Type 0 where
  pub told : b.tx.accounts.news ≡ []
  pub acknowledged : length b.tx.window.slots ≡ 0
  pub sent : length b.tx.queue.sdus ≡ 0
  pub taken : has_more b.pdcp ≡ false

abbrev pub SentIsDrained : Type 0
SentIsDrained =
    (b : BearerState) (kind : PdcpKind) (p : Protection) (first : ℕ) (steps : List Step)
    (deeds : List Deed) → is_am kind ≡ true
    → b.pdcp.tx ≡ run_pdcp_sender steps (start kind p first) → b.pdcp.tx.given ≡ nothing_given
    → b.tx ≡ start_sender b.tx_config → AllByRecursion HasOctets (sends_in deeds b)
    → AllByRecursion IsOfLife deeds → HasSentAll (does_all deeds b)
    → is_drained (does_all deeds b) ≡ true

-- so one that needs nothing of a grant, while HARQ holds none of its numbers, is drained or waits
-- for its poll timer
abbrev pub IdleIsDrained : Type 0
IdleIsDrained =
    (b : BearerState) (kind : PdcpKind) (p : Protection) (first : ℕ) (steps : List Step)
    (deeds : List Deed) → is_am kind ≡ true
    → b.pdcp.tx ≡ run_pdcp_sender steps (start kind p first) → b.pdcp.tx.given ≡ nothing_given
    → b.tx ≡ start_sender b.tx_config → AllByRecursion HasOctets (sends_in deeds b)
    → AllByRecursion IsOfLife deeds → (does_all deeds b).tx.accounts.news ≡ []
    → need (does_all deeds b) None ≡ 0
    → (is_drained (does_all deeds b) ≡ true) ⊎ (bearer_quiet (does_all deeds b) ≡ 1)
