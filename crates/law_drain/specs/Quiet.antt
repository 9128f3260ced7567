-- A sender that has nothing to send, and waits for an acknowledgement (TS 36.322 5.2.2): the expiry
-- of t-PollRetransmit brings it a PDU to send again.
use Rattle.std.specs.Prelude.{◌≡◌, ℕ, ◌+◌, ◌≤◌, Bool, true, not, ◌&&◌, if◌then◌else◌, List, length}
use Rattle.std.specs.Prelude.{nat_lt}
use Rattle.std.specs.List.{AllByRecursion}
use Rattle.l2_num.specs.Timers.{runs}
use Rattle.l2_types.specs.declared.config.AmTxConfig.{AmTxConfig}
use Rattle.rlc_am_tx.specs.Machine.{State, is_quiet}
use Rattle.law_rlc.specs.AmSender.Run.{Call, Expire, World, after, run_am_sender, begun}
use Rattle.law_rlc.specs.AmSender.Namings.{Marks, unmarked, marks_after}
use Rattle.law_rlc.specs.AmSender.Octets.{HasOctets}
use Rattle.law_drain.specs.Dues.{dues, offered_by}

-- the limit wasn't reached, something isn't acknowledged, nothing waits to be sent again, and
-- nothing is left to send or to take or the window is shut
abbrev pub is_waiting : State → Bool → Bool
is_waiting s more = not s.failed && (nat_lt 0 (length s.window.slots) && is_quiet s more)

abbrev pub quiet : State → Bool → ℕ
quiet s more = if is_waiting s more then 1 else 0

pub record TurnsQuiet (w : World Marks) (more : Bool) : Type 0 where
  -- a sender that turns quiet owes less
  pub pays : (call : Call) → HasOctets call
      → dues (after w.state call) (marks_after w.state call w.past)
      + quiet (after w.state call) more
      ≤ dues w.state w.past + offered_by w.state call + quiet w.state more
  -- behind an expiry of its poll timer none is quiet
  pub ends : runs w.state.polls.timer ≡ true → quiet (after w.state (Expire more)) more ≡ 0

-- after any calls, each SDU having an octet
abbrev pub QuietEnds : Type 0
QuietEnds = (config : AmTxConfig) (calls : List Call) (more : Bool) → AllByRecursion HasOctets calls
    → TurnsQuiet (run_am_sender marks_after calls (begun config unmarked)) more
