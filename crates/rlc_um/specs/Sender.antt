-- The unacknowledged sender as a machine (TS 36.322 5.1.2.1).
use Rattle.std.specs.Prelude.{ℕ, ◌+◌, ◌%◌, ◌-◌, ◌^◌, Bool, true, false, ◌||◌, ◌&&◌, not}
use Rattle.std.specs.Prelude.{if◌then◌else◌, List, length, Option, Some, None, nat_le, nat_lt, ◌==◌}
use Rattle.std.specs.Prelude.{min}
use Rattle.rlc_pdu.specs.Pdus.{UmdPdu}
use Rattle.rlc_pdu.specs.Writing.{umd_canonical}
use Rattle.rlc_pdu.specs.declared.constants.TheConstants.{UM_SHORT_WINDOW_SIZE, UM_LONG_WINDOW_SIZE}
use Rattle.rlc_pdu.specs.declared.outcome.Taken.{Taken}
use Rattle.rlc_pdu.specs.declared.outcome.Taken.TheVariants.{Piece, Idle, Small, Held}
use Rattle.rlc_queue.specs.NewPdu.{elements, rest, partial, fits_more, framing}
use Rattle.rlc_queue.specs.Waiting.{Waiting, nothing_waits, with_sdu, wanted}

-- `bits` is the length of the numbers in PDUs, and `next` the whole number of the next PDU, VT(US)
pub record Sender : Type 0 where
  pub bits : ℕ
  pub next : ℕ
  pub waiting : Waiting

-- a sender that may have run out of memory, and then answers so for good
pub record Entity : Type 0 where
  pub state : Sender
  pub dead : Bool

abbrev pub alive : Sender → Entity
alive s = record { state = s; dead = false }

abbrev pub idle_sender : ℕ → Sender
idle_sender bits = record { bits = bits; next = 0; waiting = nothing_waits }

-- UM_Window_Size: half the count of sequence numbers (TS 36.322 7.2)
abbrev pub width_of : ℕ → ℕ
width_of bits = if bits == 5 then UM_SHORT_WINDOW_SIZE else UM_LONG_WINDOW_SIZE

-- the octets of the header of a PDU of one element
abbrev pub head_of : ℕ → ℕ
head_of bits = if bits == 5 then 1 else 2

-- HARQ holds a PDU with a number so low that it might be misread once the next number is used
abbrev pub is_held : Option ℕ → Sender → Bool
is_held None s = false
is_held (Some number) s = nat_le (number + width_of s.bits) s.next

-- what comes of asking for a PDU
pub data Turn : Type 0 where
  Gives : Turn
  IsIdle : Turn
  IsHeld : Turn
  IsSmall : Turn

-- of at most so many octets, where `held` is the lowest number that HARQ holds
abbrev pub turn : Sender → ℕ → Option ℕ → Turn
turn s size held =
    if length s.waiting.sdus == 0 then IsIdle
    else if is_held held s then IsHeld
    else if nat_lt size (head_of s.bits + 1) then IsSmall
    else Gives

-- the elements of the next PDU, and whether the last one doesn't end its SDU
abbrev pub pieces : Sender → ℕ → List (List ℕ)
pieces s size = elements (head_of s.bits) size 0 0 s.waiting.sdus

abbrev pub ends_partly : Sender → ℕ → Bool
ends_partly s size = partial (head_of s.bits) size 0 0 s.waiting.begun s.waiting.sdus

-- the next PDU
abbrev pub pdu_of : Sender → ℕ → UmdPdu
pdu_of s size = record {
  sn = s.next % 2 ^ s.bits;
  fi = framing (not s.waiting.begun) (not (ends_partly s size));
  elements = pieces s size;
}

-- the sender behind it
abbrev pub sent : Sender → ℕ → Sender
sent s size = record s {
  next = s.next + 1;
  waiting = record {
    sdus = rest (head_of s.bits) size 0 0 s.waiting.sdus;
    begun = ends_partly s size;
  };
}

abbrev pub answer : Turn → Sender → ℕ → Taken
answer Gives s size = Piece s.next true false (umd_canonical s.bits (pdu_of s size))
answer IsIdle s size = Idle
answer IsHeld s size = Held
answer IsSmall s size = Small

abbrev pub after_turn : Turn → Sender → ℕ → Sender
after_turn Gives s size = sent s size
after_turn IsIdle s size = s
after_turn IsHeld s size = s
after_turn IsSmall s size = s

-- what is given, and what is left
unfoldable pub taken : Sender → ℕ → Option ℕ → Taken
taken s size held = answer (turn s size held) s size

unfoldable pub after_take : Sender → ℕ → Option ℕ → Sender
after_take s size held = after_turn (turn s size held) s size

-- an SDU is offered
abbrev pub offered : List ℕ → Sender → Sender
offered sdu s = record s { waiting = with_sdu sdu s.waiting }

-- a new PDU may be made of so many octets, and has room for an octet of a further SDU
abbrev pub is_hungry : Sender → ℕ → Option ℕ → Bool
is_hungry s size held = not (is_held held s) && fits_more (head_of s.bits) size 0 0 s.waiting.sdus

-- what the sender needs of a grant: 3 octets for a subheader, and the octets of each SDU that waits
-- or may be offered with 2 more
abbrev pub need : Sender → ℕ → Option ℕ → ℕ
need s more held =
    if is_held held s || (more + wanted s.waiting.sdus == 0) then 0
    else min (3 + (more + wanted s.waiting.sdus)) (2 ^ 32 - 1)
