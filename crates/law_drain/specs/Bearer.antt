-- What an acknowledged bearer may still send at one end (TS 36.322 5.1.3.1, TS 36.323 5.1.1): what
-- RLC's sender owes, and what it will owe for that which PDCP's sender has still to give; and
-- whether it is quiet.
use Rattle.std.specs.Prelude.{◌≡◌, ℕ, ◌+◌, ◌*◌, ◌≤◌, true, if◌then◌else◌, List, ◌++◌, length}
use Rattle.std.specs.List.{AllByRecursion}
use Rattle.l2_num.specs.Timers.{runs}
use Rattle.l2_types.specs.declared.Clock.TheVariants.{Poll}
use Rattle.pdcp_pdu.specs.declared.pdu.PdcpKind.{PdcpKind}
use Rattle.pdcp_sec.specs.Protection.{Protection}
use Rattle.pdcp_tx.specs.Pdus.{extra}
use Rattle.pdcp_tx.specs.State.{start as start_pdcp}
use Rattle.rlc_am_tx.specs.Machine.{start}
use Rattle.bearer.specs.Acknowledged.State.{State, has_more}
use Rattle.law_pdcp.specs.OneEnd.Lives.{Step, run_pdcp_sender}
use Rattle.law_rlc.specs.AmSender.Run.{run_am_sender, begun}
use Rattle.law_rlc.specs.AmSender.Namings.{Marks, unmarked, marks_after}
use Rattle.law_rlc.specs.AmSender.Octets.{HasOctets}
use Rattle.law_bearer.specs.AnyBearer.Acknowledged.{data_given}
use Rattle.law_bearer.specs.AnyBearer.Calls.{Call, Submit, Take, Arrive, Expire, Tick, SetDiscard}
use Rattle.law_bearer.specs.AmBearer.Calls.{deeds_of}
use Rattle.law_bearer.specs.AmBearer.Deeds.{Deed, does_all}
use Rattle.law_bearer.specs.AmBearer.Sending.{sends_in}
use Rattle.law_drain.specs.Dues.{dues}
use Rattle.law_drain.specs.Queues.{pieces_in}
use Rattle.law_drain.specs.Quiet.{quiet}
use Rattle.law_drain.specs.Unsent.{unsent}

-- nothing that PDCP has is sent once the limit is reached
abbrev pub bearer_dues : State → Marks → ℕ
bearer_dues b m = dues b.tx m
    + (if b.tx.failed then 0 else (b.tx.config.max_retx + 1) * unsent b.pdcp.tx)

-- the marks of RLC's sender behind deeds of a bearer that begins a life
abbrev pub marks_behind : State → List Deed → Marks
marks_behind b deeds =
    (run_am_sender marks_after (sends_in deeds b) (begun b.tx_config unmarked)).past

-- how many data PDUs a call writes
abbrev pub data_in : State → Call → ℕ
data_in b (Submit sdu) = 0
data_in b (Take share held) = pieces_in (data_given b share held)
data_in b (Arrive pdu) = 0
data_in b (Expire clock) = 0
data_in b Tick = 0
data_in b (SetDiscard ttis) = 0

-- what the submission of an SDU adds
abbrev pub submitted_in : State → Call → ℕ
submitted_in b (Submit sdu) =
    (b.tx.config.max_retx + 1) * (length sdu + extra b.pdcp.tx.kind)
submitted_in b (Take share held) = 0
submitted_in b (Arrive pdu) = 0
submitted_in b (Expire clock) = 0
submitted_in b Tick = 0
submitted_in b (SetDiscard ttis) = 0

-- what a call leaves, behind any deeds of a life
pub record LeavesLess (b : State) (deeds : List Deed) (c : Call) : Type 0 where
  pub dues : bearer_dues (does_all (deeds_of (does_all deeds b) c) (does_all deeds b))
      (marks_behind b (deeds ++ deeds_of (does_all deeds b) c))
      + data_in (does_all deeds b) c
      ≤ bearer_dues (does_all deeds b) (marks_behind b deeds)
      + submitted_in (does_all deeds b) c

-- each PDU of PDCP having an octet
abbrev pub BearerDuesFall : Type 0
BearerDuesFall = (b : State) (deeds : List Deed) (c : Call) → b.tx ≡ start b.tx_config
    → AllByRecursion HasOctets (sends_in (deeds ++ deeds_of (does_all deeds b) c) b)
    → LeavesLess b deeds c

-- ---- whether it is quiet

-- by what its PDCP may give
abbrev pub bearer_quiet : State → ℕ
bearer_quiet b = quiet b.tx (has_more b.pdcp)

-- what a drain calls: a bearer writes, a PDU comes, a timer expires
abbrev pub IsOfDrain : Call → Type 0
IsOfDrain (Submit sdu) = ⊥
IsOfDrain (Take share held) = Unit {0}
IsOfDrain (Arrive pdu) = Unit {0}
IsOfDrain (Expire clock) = Unit {0}
IsOfDrain Tick = ⊥
IsOfDrain (SetDiscard ttis) = ⊥

pub record TurnsQuiet (b : State) (deeds : List Deed) : Type 0 where
  -- a bearer that turns quiet may send less
  pub pays : (c : Call) → IsOfDrain c
      → AllByRecursion HasOctets (sends_in (deeds ++ deeds_of (does_all deeds b) c) b)
      → bearer_dues (does_all (deeds_of (does_all deeds b) c) (does_all deeds b))
      (marks_behind b (deeds ++ deeds_of (does_all deeds b) c))
      + bearer_quiet (does_all (deeds_of (does_all deeds b) c) (does_all deeds b))
      ≤ bearer_dues (does_all deeds b) (marks_behind b deeds) + bearer_quiet (does_all deeds b)
  -- behind an expiry of its poll timer none is quiet
  pub ends : runs (does_all deeds b).tx.polls.timer ≡ true
      → bearer_quiet (does_all (deeds_of (does_all deeds b) (Expire Poll)) (does_all deeds b)) ≡ 0

-- of a bearer that begins a life, behind any deeds
abbrev pub BearerQuietEnds : Type 0
BearerQuietEnds =
    (b : State) (kind : PdcpKind) (p : Protection) (first : ℕ) (steps : List Step)
    (deeds : List Deed)
    → b.pdcp.tx ≡ run_pdcp_sender steps (start_pdcp kind p first) → b.tx ≡ start b.tx_config
    → AllByRecursion HasOctets (sends_in deeds b) → TurnsQuiet b deeds
