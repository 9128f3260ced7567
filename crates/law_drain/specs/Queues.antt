-- The octets that wait at a sender of unacknowledged and of transparent mode (TS 36.322 5.1.1.1,
-- 5.1.2.1).
use Rattle.std.specs.Prelude.{ℕ, ◌+◌, ◌≤◌, Option}
use Rattle.rlc_pdu.specs.declared.outcome.Taken.{Taken}
use Rattle.rlc_pdu.specs.declared.outcome.Taken.TheVariants as answers
use Rattle.rlc_queue.specs.Waiting.{HaveOctets, total}
use Rattle.rlc_um.specs.Sender.{Sender, taken, after_take}
use Rattle.rlc_um.specs.Transparent.{Transparent, taken as transparent_taken}
use Rattle.rlc_um.specs.Transparent.{after_take as after_transparent}

-- whether a PDU was taken
abbrev pub pieces_in : Taken → ℕ
pieces_in (answers.Piece number fresh polled octets) = 1
pieces_in answers.Idle = 0
pieces_in answers.Small = 0
pieces_in answers.Shut = 0
pieces_in answers.Held = 0
pieces_in answers.Stopped = 0

-- each SDU having an octet, what waits falls with each PDU
abbrev pub UnacknowledgedFalls : Type 0
UnacknowledgedFalls = (s : Sender) (size : ℕ) (held : Option ℕ) → HaveOctets s.waiting.sdus
    → total (after_take s size held).waiting.sdus + pieces_in (taken s size held)
    ≤ total s.waiting.sdus

abbrev pub TransparentFalls : Type 0
TransparentFalls = (s : Transparent) (size : ℕ) → HaveOctets s.waiting
    → total (after_transparent s size).waiting + pieces_in (transparent_taken s size)
    ≤ total s.waiting
