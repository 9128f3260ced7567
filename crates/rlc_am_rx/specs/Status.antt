-- The STATUS that a receiver writes (TS 36.322 5.2.3).
use Rattle.std.specs.Prelude.{ℕ, ◌-◌, ◌*◌, ◌%◌, ◌==◌, nat_le, slice_get, Bool, false, not, ◌&&◌}
use Rattle.std.specs.Prelude.{if◌then◌else◌, List, [], ◌∷◌, map, length, drop, Option, Some, None}
use Rattle.rlc_pdu.specs.declared.Nack.{Nack}
use Rattle.rlc_pdu.specs.Status.{status_size}
use Rattle.l2_num.specs.Timers.{Clock, runs}
use Rattle.rlc_am_rx_window.specs.declared.Missing.{Missing}
use Rattle.rlc_am_rx_window.specs.Missing.{missing, entry_bits}
use Rattle.rlc_am_rx.specs.State.{State}
use Rattle.rlc_pdu.specs.declared.constants.TheConstants.{AM_MODULUS}

abbrev pub is_running : Option Clock → Bool
is_running None = false
is_running (Some c) = runs c

-- a STATUS may be written: one is due, and t-StatusProhibit doesn't run
abbrev pub may_write : State → Bool
may_write s = s.due && not (is_running s.prohibit)

-- an entry, with the 10 bits of its number
abbrev pub nack_of : Missing → Nack
nack_of m = record { sn = m.number % AM_MODULUS; part = m.part }

-- all that may be said: of each number that isn't complete, from VR(R) on below VR(MS)
abbrev pub listed : State → List Missing
listed s = missing s.window s.bound

-- the longest beginning of entries that fits into so many bits
abbrev pub fitting : ℕ → List Missing → List Missing
fitting room [] = []
fitting room (m ∷ ms) = if nat_le (entry_bits m) room then m ∷ fitting (room - entry_bits m) ms
    else []

-- what so many octets leave to entries: D/C, CPT, ACK_SN and E1 take 15 bits (TS 36.322 6.2.1.6)
abbrev pub room_in : ℕ → ℕ
room_in size = 8 * size - 15

-- the entries of a STATUS of at most so many octets
abbrev pub chosen : State → ℕ → List Missing
chosen s size = fitting (room_in size) (listed s)

-- the number of an entry
abbrev pub number_of : Option Missing → Option ℕ
number_of None = None
number_of (Some m) = Some m.number

-- the number of the last of so many entries
abbrev pub last_number : List Missing → ℕ → Option ℕ
last_number ms count = if count == 0 then None else number_of (slice_get ms (count - 1))

abbrev pub is_same : ℕ → Option ℕ → Bool
is_same n None = false
is_same n (Some m) = n == m

-- the first number of entries left out that isn't the last that has an entry; the bound where there
-- is none
abbrev pub next_number : List Missing → Option ℕ → ℕ → ℕ
next_number [] last bound = bound
next_number (m ∷ ms) last bound = if is_same m.number last then next_number ms last bound
    else m.number

-- the ACK behind the first so many entries
abbrev pub ack_behind : List Missing → ℕ → ℕ → ℕ
ack_behind ms count bound = next_number (drop count ms) (last_number ms count) bound

-- the ACK of a STATUS of at most so many octets: the next number that isn't complete and has no
-- entry
abbrev pub ack : State → ℕ → ℕ
ack s size = ack_behind (listed s) (length (chosen s size)) s.bound

abbrev pub nacks : State → ℕ → List Nack
nacks s size = map nack_of (chosen s size)

-- the octets of a STATUS with all entries, if one may be written
abbrev pub whole_size : State → ℕ
whole_size s = if may_write s then status_size (map nack_of (listed s)) else 0
