-- What a sender needs and has, in octets (TS 36.322 4.5).
use Rattle.std.specs.Prelude.{ℕ, ◌+◌, Bool, not, ◌||◌, ◌&&◌, ◌==◌, if◌then◌else◌, Option}
use Rattle.rlc_queue.specs.Waiting.{total, wanted}
use Rattle.rlc_queue.specs.NewPdu.{fits_more}
use Rattle.rlc_am_tx_window.specs.Sent.{resend_size}
use Rattle.rlc_am_tx_window.specs.Ledger.{left_in}
use Rattle.rlc_am_tx_window.specs.Window.{next, waiting_in}
use Rattle.rlc_am_tx.specs.Machine.{State, waits, is_shut, is_held, again}

abbrev pub new_need : ℕ → ℕ
new_need total = if total == 0 then 0 else 3 + total

-- the data part of the need, with 3 octets for a MAC subheader: what is resent first, else what is
-- left of each SDU and 2 octets more for it, if a new PDU may go
unfoldable pub data_need : State → ℕ → Option ℕ → ℕ
data_need s waiting held =
    if s.failed then 0
    else if waits s then 3 + resend_size (again s)
    else if is_shut s || is_held held (next s.window) then 0
    else new_need (wanted s.queue.sdus + waiting)

-- a new PDU of a size may be built, and has room for an octet of a further SDU
unfoldable pub hungry : State → ℕ → Option ℕ → Bool
hungry s size held = not s.failed && not (waits s) && not (is_shut s)
    && not (is_held held (next s.window)) && fits_more 2 size 0 0 s.queue.sdus

-- what isn't sent yet, and what waits to be resent
abbrev pub backlog : State → ℕ
backlog s = total s.queue.sdus + waiting_in s.window.slots

-- the SDUs that aren't wholly acknowledged
abbrev pub left : State → ℕ
left s = left_in s.accounts.entries
