-- What is kept of a PDU that was sent (TS 36.322 5.2.1).
use Rattle.std.specs.Prelude.{ℕ, ◌≤◌, ◌<◌, ◌+◌, ◌-◌, Bool, true, false, not, ◌||◌, ◌&&◌, ◌==◌}
use Rattle.std.specs.Prelude.{if◌then◌else◌, List, [], ◌∷◌, length, Option, Some, None, is_some}
use Rattle.std.specs.Prelude.{nat_le, nat_lt, min, max}
use Rattle.std.specs.List.{sum}
use Rattle.rlc_pdu.specs.declared.pdu.Part.{Part}
use Rattle.rlc_pdu.specs.Runs.{Run, run_between, added, removed, gap_in}
use Rattle.rlc_pdu.specs.Writing.{header_len}
use Rattle.rlc_am_tx_window.specs.Cut.{cut, clip}

-- the data field, the lengths of its elements, whether the first begins and the last ends an SDU,
-- and the place of the first one's SDU among those offered; the octets that don't wait to be
-- resent; RETX_COUNT, none before the PDU was considered for retransmission; whether it is
-- acknowledged; and what a STATUS that is being read has said: nothing yet, or whether it named an
-- octet that didn't wait
pub record Sent : Type 0 where
  pub field : List ℕ
  pub lens : List ℕ
  pub begins : Bool
  pub ends : Bool
  pub place : ℕ
  pub resting : List Run
  pub retransmissions : Option ℕ
  pub acked : Bool
  pub named : Option Bool

-- all octets rest where the PDU is idle
abbrev pub resting_of : Bool → ℕ → List Run → List Run
resting_of idle size runs = if idle then run_between 0 size ∷ [] else runs

-- a PDU as it is sent first
abbrev pub fresh : List ℕ → List ℕ → Bool → Bool → ℕ → Sent
fresh field lens begins ends place = record {
  field = field;
  lens = lens;
  begins = begins;
  ends = ends;
  place = place;
  resting = run_between 0 (length field) ∷ [];
  retransmissions = None;
  acked = false;
  named = None;
}

-- ---- what waits

-- the first octets that wait to be resent, with the last of them
abbrev pub first_waiting : Sent → Option Part
first_waiting h = gap_in h.resting 0 (length h.field)

abbrev pub is_waiting : Sent → Bool
is_waiting h = is_some (first_waiting h)

-- octets are all those from a place below another
abbrev pub is_all : Option Part → ℕ → ℕ → Bool
is_all None from to = false
is_all (Some p) from to = (p.start == from) && (p.end + 1 == to)

abbrev pub all_wait : Sent → Bool
all_wait h = is_all (first_waiting h) 0 (length h.field)

-- octets lie at or above a place and below another
pub record Lies (from size : ℕ) (p : Part) : Type 0 where
  pub above : from ≤ p.start
  pub some : p.start ≤ p.end
  pub below : p.end < size

-- how many octets wait, from a place below another, of which some rest
abbrev pub waiting_between : ℕ → ℕ → List Run → ℕ
waiting_between at size [] = size - at
waiting_between at size (r ∷ rs) =
    (min r.from size - at) + waiting_between (max at (max r.from r.to)) size rs

abbrev pub waiting_octets : Sent → ℕ
waiting_octets h = waiting_between 0 (length h.field) h.resting

-- ---- sizes, in octets

-- of the PDU
abbrev pub whole_size : Sent → ℕ
whole_size h = header_len 2 (length h.lens) + length h.field

-- of a segment with octets from a place below another
abbrev pub segment_size : Sent → ℕ → ℕ → ℕ
segment_size h from to = header_len 4 (length (clip from to h.lens)) + (to - from)

abbrev pub resend_size_of : Option Part → Sent → ℕ
resend_size_of None h = 0
resend_size_of (Some p) h = if is_all (Some p) 0 (length h.field) then whole_size h
    else segment_size h p.start (p.end + 1)

-- of what is resent first: the PDU where all its octets wait, else a segment with the first octets
-- that wait
abbrev pub resend_size : Sent → ℕ
resend_size h = resend_size_of (first_waiting h) h

-- ---- a segment

-- where it begins and ends in the data field, and the lengths of its elements
pub record Stretch : Type 0 where
  pub from : ℕ
  pub to : ℕ
  pub lens : List ℕ

-- its octets with the header
abbrev pub stretch_size : Stretch → ℕ
stretch_size s = header_len 4 (length s.lens) + sum s.lens

abbrev pub stretch_of : ℕ → List ℕ → Stretch
stretch_of from lens = record { from = from; to = from + sum lens; lens = lens }

-- the longest one of at most so many octets that begins with a part and lies in it: behind a header
-- of 4 octets and its LIs as much as fits
abbrev pub stretch_in : Sent → ℕ → Part → Stretch
stretch_in h size p = stretch_of p.start (cut false (size - 4) (clip p.start (p.end + 1) h.lens))

abbrev pub stretch_from : Option Part → Sent → ℕ → Stretch
stretch_from None h size = stretch_of 0 []
stretch_from (Some p) h size = stretch_in h size p

-- the longest one with the first octets that wait
abbrev pub next_stretch : Sent → ℕ → Stretch
next_stretch h size = stretch_from (first_waiting h) h size

-- ---- what changes

-- no octet waits
abbrev pub rested : Sent → Sent
rested h = record h { resting = run_between 0 (length h.field) ∷ [] }

-- octets of a segment don't wait any longer
abbrev pub sent_part : Sent → ℕ → ℕ → Sent
sent_part h from to = record h { resting = added h.resting from to }

-- octets from a place below another are named for retransmission
abbrev pub woken : ℕ → List Run → ℕ → ℕ → List Run
woken size runs from to = if (from == 0) && (to == size) then [] else removed runs from to

abbrev pub is_new : Option Bool → Bool
is_new None = false
is_new (Some new) = new

abbrev pub named_range : Sent → ℕ → ℕ → Sent
named_range h from to =
    if nat_lt from to then record h {
      named = Some (is_new h.named || not (is_all (gap_in h.resting from to) from to));
      resting = woken (length h.field) h.resting from to;
    }
    else record h { named = Some (is_new h.named) }

-- the place where the octets begin that an entry names, and the one behind them, in a field of so
-- many
abbrev pub start_of : Option Part → ℕ
start_of None = 0
start_of (Some p) = p.start

abbrev pub stop_of : Option Part → ℕ → ℕ
stop_of None size = size
stop_of (Some p) size = min (p.end + 1) size

-- an entry of a STATUS names a PDU that isn't acknowledged: all its octets, or a range that is cut
-- to the field
abbrev pub with_name : Sent → Option Part → Sent
with_name h part = if h.acked then h
    else named_range h (start_of part) (stop_of part (length h.field))

-- RETX_COUNT: 0 the first time, later one more, but not where every octet named waited already; it
-- isn't counted past the limit
abbrev pub counted : Option ℕ → ℕ → Bool → Option ℕ
counted None most new = Some 0
counted (Some k) most new = if new && nat_lt k most then Some (k + 1) else Some k

-- a STATUS that named it has been read
abbrev pub considered_by : Option Bool → ℕ → Sent → Sent
considered_by None most h = h
considered_by (Some new) most h =
    record h { retransmissions = counted h.retransmissions most new; named = None }

abbrev pub considered : ℕ → Sent → Sent
considered most h = considered_by h.named most h

-- a STATUS acknowledges a PDU that it didn't name
abbrev pub gets_acked : Sent → Bool
gets_acked h = not h.acked && not (is_some h.named)

abbrev pub acknowledged : Sent → Sent
acknowledged h = if gets_acked h then record h {
  acked = true;
  resting = run_between 0 (length h.field) ∷ [];
} else h

-- an expiry of the poll timer names all octets
abbrev pub recalled : ℕ → Sent → Sent
recalled most h = record h { resting = []; retransmissions = counted h.retransmissions most true }

-- RETX_COUNT has reached the limit
abbrev pub is_spent : Option ℕ → ℕ → Bool
is_spent None most = false
is_spent (Some k) most = nat_le most k
