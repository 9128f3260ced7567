-- Octets that wait to be resent, and namings that count (TS 36.322 5.2.1).
use Rattle.std.specs.Prelude.{◌≡◌, ℕ, zero, suc, ◌+◌, ◌-◌, ◌<◌, ◌==◌, Bool, false, not, ◌||◌, ◌&&◌}
use Rattle.std.specs.Prelude.{if◌then◌else◌, List, [], ◌∷◌, length, min, Option, Some, None, nat_le}
use Rattle.std.specs.Prelude.{nat_lt}
use Rattle.l2_num.specs.Timers.{runs}
use Rattle.l2_types.specs.declared.config.AmTxConfig.{AmTxConfig}
use Rattle.rlc_pdu.specs.declared.pdu.Nack.{Nack}
use Rattle.rlc_pdu.specs.declared.pdu.Part.{Part}
use Rattle.rlc_pdu.specs.Runs.{has}
use Rattle.rlc_am_tx_window.specs.Sent.{start_of, stop_of, next_stretch}
use Rattle.rlc_am_tx_window.specs.Window.{TxWindow, next, slot_at, offset_of, is_named}
use Rattle.rlc_am_tx.specs.declared.turn.Turn.{Turn}
use Rattle.rlc_am_tx.specs.declared.turn.Turn.TheVariants as turns
use Rattle.rlc_am_tx.specs.Machine.{State, turn, again, number_again, is_ignored, recalled_place}
use Rattle.law_rlc.specs.AmSender.Run.{Call, Offer, Take, Status, Tick, Expire, Settle, Confirm}
use Rattle.law_rlc.specs.AmSender.Run.{World, run_am_sender, begun}

-- whether an octet of a number waits to be resent, and how many namings of a number counted
pub record Marks : Type 0 where
  pub waits : ℕ → ℕ → Bool
  pub namings : ℕ → ℕ

abbrev pub unmarked : Marks
unmarked = record { waits = λ n i. false; namings = λ n. 0 }

-- an entry's range has an octet of a field of so many; without a range it has all
abbrev pub in_part : Option Part → ℕ → ℕ → Bool
in_part part size i = nat_le (start_of part) i && nat_lt i (stop_of part size)

-- the entries of a number name an octet, all ranges together
abbrev pub names : ℕ → ℕ → List Nack → ℕ → ℕ → Bool
names base at [] size i = false
names base at (n ∷ ns) size i =
    (if offset_of base n.sn == at then in_part n.part size i else false)
    || names base at ns size i

abbrev pub any_below : ℕ → (ℕ → Bool) → Bool
any_below zero f = false
any_below (suc k) f = f k || any_below k f

-- a naming counts if it is the first, or if some octet named doesn't wait
abbrev pub with_naming : ℕ → Bool → ℕ
with_naming n new = if (n == 0) || new then n + 1 else n

-- the number lies in the window and isn't acknowledged
abbrev pub is_open : TxWindow → ℕ → Bool
is_open w n = nat_le w.base n && (nat_lt n (next w) && not (slot_at w.slots (n - w.base)).acked)

abbrev pub size_at : TxWindow → ℕ → ℕ
size_at w n = length (slot_at w.slots (n - w.base)).field

-- what a STATUS names waits; what lies below its ACK_SN and isn't named is acknowledged, and waits
-- no longer
abbrev pub heard_waits : TxWindow → ℕ → List Nack → (ℕ → ℕ → Bool) → ℕ → ℕ → Bool
heard_waits w below nacks waits n i =
    if is_open w n then (
    if is_named w.base (n - w.base) nacks then waits n i
    || names w.base (n - w.base) nacks (size_at w n) i
    else waits n i && not (nat_lt (n - w.base) below))
    else waits n i

abbrev pub heard_namings : TxWindow → List Nack → Marks → ℕ → ℕ
heard_namings w nacks m n =
    if is_open w n && is_named w.base (n - w.base) nacks
    then with_naming (m.namings n)
    (any_below (size_at w n) (λ i. names w.base (n - w.base) nacks (size_at w n) i
    && not (m.waits n i)))
    else m.namings n

abbrev pub heard_marks : TxWindow → ℕ → List Nack → Marks → Marks
heard_marks w below nacks m =
    record { waits = heard_waits w below nacks m.waits; namings = heard_namings w nacks m }

-- octets of a number are sent again, and wait no longer
abbrev pub resent : Marks → ℕ → ℕ → ℕ → Marks
resent m number from to =
    record m {
      waits = λ n i. m.waits n i
          && not ((n == number) && (nat_le from i && nat_lt i to));
    }

abbrev pub marks_by : Turn → State → ℕ → Marks → Marks
marks_by turns.Whole s size m = resent m (number_again s) 0 (length (again s).field)
marks_by turns.Part s size m =
    resent m (number_again s) (next_stretch (again s) size).from (next_stretch (again s) size).to
marks_by turns.New s size m = m
marks_by turns.Idle s size m = m
marks_by turns.Stopped s size m = m
marks_by turns.Small s size m = m
marks_by turns.Shut s size m = m
marks_by turns.Held s size m = m

-- an expiry names all octets of a number; nothing waits then, so that this counts
abbrev pub recalled_marks : Option ℕ → ℕ → Marks → Marks
recalled_marks None base m = m
recalled_marks (Some at) base m = record {
  waits = λ n i. m.waits n i || (n == base + at);
  namings = λ n. if n == base + at then m.namings n + 1 else m.namings n;
}

abbrev pub marks_after : State → Call → Marks → Marks
marks_after s (Offer sdu) m = m
marks_after s (Take size held more) m = marks_by (turn s size held more) s size m
marks_after s (Status status) m = if is_ignored s status.ack then m
    else heard_marks s.window (offset_of s.window.base status.ack) status.nacks m
marks_after s Tick m = m
marks_after s (Expire more) m = if runs s.polls.timer
    then recalled_marks (recalled_place s more) s.window.base m else m
marks_after s (Settle more) m = m
marks_after s Confirm m = m

-- RETX_COUNT by the namings that counted: 0 with the first, and not counted past the limit
abbrev pub count_of : ℕ → ℕ → Option ℕ
count_of n most = if n == 0 then None else Some (min (n - 1) most)

-- of each number in the window the octets that wait are those that were named and not sent again
-- since, and RETX_COUNT tells the namings that counted
pub record IsMarked (w : World Marks) : Type 0 where
  pub waits : (k i : ℕ) → k < length w.state.window.slots
      → i < length (slot_at w.state.window.slots k).field
      → not (has (slot_at w.state.window.slots k).resting i)
      ≡ w.past.waits (w.state.window.base + k) i
  pub count : (k : ℕ) → k < length w.state.window.slots
      → (slot_at w.state.window.slots k).retransmissions
      ≡ count_of (w.past.namings (w.state.window.base + k)) w.state.config.max_retx

abbrev pub CountsNamings : Type 0
CountsNamings = (config : AmTxConfig) (calls : List Call)
    → IsMarked (run_am_sender marks_after calls (begun config unmarked))
