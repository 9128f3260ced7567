-- No number of a data PDU that HARQ holds can be misread, however late its block comes (TS 36.322
-- 5.1.2.2.1, 5.1.3.2.1, 7.1).
use Rattle.std.specs.Prelude.{◌≡◌, ℕ, ◌+◌, ◌%◌, ◌<◌, ◌≤◌, ◌==◌, ◌&&◌, if◌then◌else◌, Bool, Option}
use Rattle.std.specs.Prelude.{Some, None, List, slice_index}
use Rattle.bearer.specs.declared.flow.Flow.{Flow}
use Rattle.bearer.specs.declared.flow.Flow.TheVariants.{Tm, Um, Am}
use Rattle.bearer.specs.Taking.{number}
use Rattle.harq.specs.declared.sender.Visit.{Visit}
use Rattle.harq.specs.declared.sender.Visit.TheVariants.{New, Resend, Silent}
use Rattle.harq.specs.Sending.{held_of}
use Rattle.l2_types.specs.declared.side.Side.{Side}
use Rattle.rlc_am_tx_window.specs.Window.{next}
use Rattle.rlc_um.specs.Sender.{width_of}
use Rattle.prioritise.specs.Channels.{has as has_channel}
use Rattle.l2_node.specs.Building.{visit, visited}
use Rattle.l2_node.specs.End.{End}
use Rattle.l2_node.specs.Finding.{has, lowest}
use Rattle.l2_node.specs.Hearing.{bearer_of}
use Rattle.l2_node.specs.Writing.{shares}
use Rattle.law_node.specs.Calls.{Turn, Call, AreGiven}
use Rattle.law_node.specs.Watching.{Doing, Turns, Empties, Rests, Watched, watched}
use Rattle.rlc_pdu.specs.declared.constants.TheConstants.{AM_WINDOW_SIZE}

-- the number of the next new PDU, VT(US) or VT(S); a transparent PDU has none
abbrev pub next_number : Flow → ℕ
next_number (Tm b) = 0
next_number (Um b) = b.tx.next
next_number (Am b) = next b.tx.window

-- the width of the receiver's window: half the count of sequence numbers
abbrev pub width : Flow → ℕ
width (Tm b) = 0
width (Um b) = width_of b.tx.bits
width (Am b) = AM_WINDOW_SIZE

abbrev pub flow : ℕ → End → Flow
flow lcid e = (bearer_of lcid e).state.flow

-- ---- the numbers in the last new block of each process, by LCID, since the processes were last
-- emptied

abbrev pub Given : Type 0
Given = ℕ → ℕ → Option ℕ

abbrev pub none_given : Given
none_given = λ process lcid. None

-- the number of the data PDU that the bearer of a channel writes into a new block
abbrev pub given_by : End → ℕ → ℕ → Option ℕ
given_by e grant lcid =
    if has_channel lcid e.buckets.channels && has lcid e.bearers
    then number (flow lcid e) (slice_index (shares e grant) lcid)
    (lowest e.sender e.numbers lcid)
    else None

abbrev pub with_block : ℕ → (ℕ → Option ℕ) → Given → Given
with_block process block past = λ p lcid. if p == process then block lcid else past p lcid

abbrev pub given_at : Visit → Turn → End → Given → Given
given_at New t e past = with_block (t.tti % 8) (given_by e t.grant) past
given_at (Resend rv) t e past = past
given_at Silent t e past = past

abbrev pub given_after : End → Doing → Given → Given
given_after e (Turns t) past = given_at (visit t.tti t.order e) t (visited t.tti t.order e) past
given_after e Empties past = none_given
given_after e Rests past = past

-- ---- the law

-- while a process holds its last new block, each number in it lies at most a window below the next
-- one of its bearer
abbrev pub HoldsNone : Watched Given → Type 0
HoldsNone w = (lcid process n : ℕ) (block : List ℕ) → process < 8
    → held_of w.end.sender process ≡ Some block → w.past process lcid ≡ Some n
    → next_number (flow lcid w.end) ≤ n + width (flow lcid w.end)

abbrev pub HoldsNoOldNumber : Type 0
HoldsNoOldNumber = (side : Side) (maximum : ℕ) (reports : Bool) (calls : List Call)
    → AreGiven calls → HoldsNone (watched given_after none_given side maximum reports calls)
