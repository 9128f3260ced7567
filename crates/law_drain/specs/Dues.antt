-- What an acknowledged sender may still send (TS 36.322 5.1.3.1, 5.2.1): a measure of its octets.
-- An octet that wasn't sent may be sent once, and once more for each naming of its PDU that counts,
-- of which a PDU has at most maxRetxThreshold; an octet that waits is sent again.
use Rattle.std.specs.Prelude.{ℕ, zero, suc, ◌+◌, ◌-◌, ◌*◌, ◌≤◌, Bool, if◌then◌else◌, List, length}
use Rattle.std.specs.List.{AllByRecursion}
use Rattle.l2_types.specs.declared.config.AmTxConfig.{AmTxConfig}
use Rattle.rlc_queue.specs.Waiting.{total}
use Rattle.rlc_am_tx_window.specs.Sent.{Sent}
use Rattle.rlc_am_tx_window.specs.Window.{TxWindow, slot_at}
use Rattle.rlc_am_tx.specs.declared.turn.Turn.{Turn}
use Rattle.rlc_am_tx.specs.declared.turn.Turn.TheVariants as turns
use Rattle.rlc_am_tx.specs.Machine.{State, turn}
use Rattle.law_rlc.specs.AmSender.Run.{Call, Offer, Take, Status, Tick, Expire, Settle, Confirm}
use Rattle.law_rlc.specs.AmSender.Run.{after, run_am_sender, begun}
use Rattle.law_rlc.specs.AmSender.Namings.{Marks, unmarked, marks_after}
use Rattle.law_rlc.specs.AmSender.Octets.{HasOctets}

-- the sum of a function over all numbers below one
abbrev pub sum_below : ℕ → (ℕ → ℕ) → ℕ
sum_below zero f = 0
sum_below (suc n) f = f n + sum_below n f

-- how many octets of a field wait to be sent again
abbrev pub waiting_of : ℕ → (ℕ → Bool) → ℕ
waiting_of size waits = sum_below size (λ i. if waits i then 1 else 0)

-- of a PDU that isn't acknowledged, its octets for each naming that may still count; and those that
-- wait
abbrev pub pdu_dues : ℕ → Sent → (ℕ → Bool) → ℕ → ℕ
pdu_dues most h waits namings =
    (if h.acked then 0 else length h.field * (most - namings)) + waiting_of (length h.field) waits

abbrev pub window_dues : ℕ → TxWindow → Marks → ℕ
window_dues most w m =
    sum_below (length w.slots)
    (λ k. pdu_dues most (slot_at w.slots k) (m.waits (w.base + k)) (m.namings (w.base + k)))

-- nothing once the limit is reached
abbrev pub dues : State → Marks → ℕ
dues s m = if s.failed then 0
    else (s.config.max_retx + 1) * total s.queue.sdus + window_dues s.config.max_retx s.window m

-- how many data PDUs a call sends
abbrev pub sent_in : Turn → ℕ
sent_in turns.Whole = 1
sent_in turns.Part = 1
sent_in turns.New = 1
sent_in turns.Idle = 0
sent_in turns.Stopped = 0
sent_in turns.Small = 0
sent_in turns.Shut = 0
sent_in turns.Held = 0

abbrev pub sent_by : State → Call → ℕ
sent_by s (Offer sdu) = 0
sent_by s (Take size held more) = sent_in (turn s size held more)
sent_by s (Status status) = 0
sent_by s Tick = 0
sent_by s (Expire more) = 0
sent_by s (Settle more) = 0
sent_by s Confirm = 0

-- what the offer of an SDU adds
abbrev pub offered_by : State → Call → ℕ
offered_by s (Offer sdu) = (s.config.max_retx + 1) * length sdu
offered_by s (Take size held more) = 0
offered_by s (Status status) = 0
offered_by s Tick = 0
offered_by s (Expire more) = 0
offered_by s (Settle more) = 0
offered_by s Confirm = 0

-- after any calls, each SDU having an octet
abbrev pub DuesFall : Type 0
DuesFall = (config : AmTxConfig) (calls : List Call) (call : Call) → AllByRecursion HasOctets calls
    → HasOctets call
    → (let w = run_am_sender marks_after calls (begun config unmarked) in
    dues (after w.state call) (marks_after w.state call w.past) + sent_by w.state call
    ≤ dues w.state w.past + offered_by w.state call)
