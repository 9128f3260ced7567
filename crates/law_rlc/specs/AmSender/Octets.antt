-- What data PDUs carry, octet for octet (TS 36.322 5.1.3.1.1, 5.2.1, 6.2.2.5 to 6.2.2.8).
use Rattle.std.specs.Prelude.{◌≡◌, ℕ, ◌+◌, ◌-◌, ◌%◌, ◌<◌, ◌≤◌, ◌==◌, Bool, true, false}
use Rattle.std.specs.Prelude.{if◌then◌else◌, List, [], ◌∷◌, ◌++◌, length, map, take, drop, Option}
use Rattle.std.specs.Prelude.{Some, None, slice_range, slice_index_or}
use Rattle.std.specs.List.{AllByRecursion}
use Rattle.l2_types.specs.declared.config.AmTxConfig.{AmTxConfig}
use Rattle.rlc_pdu.specs.declared.outcome.Taken.{Taken}
use Rattle.rlc_pdu.specs.declared.outcome.Taken.TheVariants as taken
use Rattle.rlc_pdu.specs.declared.pdu.Segment.{Segment}
use Rattle.rlc_pdu.specs.Writing.{amd_written}
use Rattle.rlc_queue.specs.NewPdu.{framing}
use Rattle.rlc_am_tx_window.specs.Cut.{some_length}
use Rattle.rlc_am_tx_window.specs.Sent.{next_stretch}
use Rattle.rlc_am_tx.specs.declared.turn.Turn.{Turn}
use Rattle.rlc_am_tx.specs.declared.turn.Turn.TheVariants as turns
use Rattle.rlc_am_tx.specs.Machine.{State, turn, answer, again, number_again, new_slot}
use Rattle.law_rlc.specs.AmSender.Run.{Call, Offer, Take, Status, Tick, Expire, Settle, Confirm}
use Rattle.law_rlc.specs.AmSender.Run.{run_am_sender, begun}
use Rattle.law_rlc.specs.AmSender.Namings.{Marks, unmarked, marks_after}
use Rattle.law_rlc.specs.AmSender.Polled.{poll_of}
use Rattle.rlc_pdu.specs.declared.constants.TheConstants.{AM_MODULUS}

-- an octet of an SDU, and whether the SDU begins and ends with it
pub record Place : Type 0 where
  pub octet : ℕ
  pub begins : Bool
  pub ends : Bool

-- the octets of an SDU
abbrev pub places : Bool → List ℕ → List Place
places begins [] = []
places begins (x ∷ []) = record { octet = x; begins = begins; ends = true } ∷ []
places begins (x ∷ y ∷ ys) = record { octet = x; begins = begins; ends = false }
    ∷ places false (y ∷ ys)

abbrev pub first_begins : List Place → Bool
first_begins [] = false
first_begins (p ∷ ps) = p.begins

abbrev pub last_ends : List Place → Bool
last_ends [] = false
last_ends (p ∷ []) = p.ends
last_ends (p ∷ q ∷ ps) = last_ends (q ∷ ps)

-- the lengths of the elements: each ends where its SDU does, the last with the PDU
abbrev pub lengths : ℕ → List Place → List ℕ
lengths n [] = some_length n
lengths n (p ∷ ps) = if p.ends then (n + 1) ∷ lengths 0 ps else lengths (n + 1) ps

-- a data PDU that carries octets of SDUs: FI tells whether the first begins and the last ends one,
-- and the LIs the lengths of all elements but the last
abbrev pub written : ℕ → Bool → Option Segment → List Place → List ℕ
written number poll segment ps =
    amd_written (number % AM_MODULUS) poll (framing (first_begins ps) (last_ends ps)) segment
    (lengths 0 ps) (map (λ (p : Place). p.octet) ps)

-- octets from a place below another of a data field of so many: SO tells where they begin, and LSF
-- whether the last of the field is among them; all of them aren't a segment
abbrev pub segment_of : ℕ → ℕ → ℕ → Option Segment
segment_of from to size = if to - from == size then None
    else Some (record { last = to == size; so = from })

-- the octets offered that aren't sent, those that the new PDU of each number carried, and which of
-- these wait to be sent again
pub record Octets : Type 0 where
  pub unsent : List Place
  pub sent : List (List Place)
  pub marks : Marks

abbrev pub nothing_sent : Octets
nothing_sent = record { unsent = []; sent = []; marks = unmarked }

-- what was sent with a number
abbrev pub sent_with : Octets → ℕ → List Place
sent_with o n = slice_index_or o.sent n []

-- how many octets a new PDU carries
abbrev pub new_count : State → ℕ → ℕ
new_count s size = length (new_slot s size).field

abbrev pub octets_by : Turn → State → ℕ → Octets → Octets
octets_by turns.New s size o = record o {
  unsent = drop (new_count s size) o.unsent;
  sent = o.sent ++ take (new_count s size) o.unsent ∷ [];
}
octets_by turns.Whole s size o = o
octets_by turns.Part s size o = o
octets_by turns.Idle s size o = o
octets_by turns.Stopped s size o = o
octets_by turns.Small s size o = o
octets_by turns.Shut s size o = o
octets_by turns.Held s size o = o

abbrev pub moved : State → Call → Octets → Octets
moved s (Offer sdu) o = record o { unsent = o.unsent ++ places true sdu }
moved s (Take size held more) o = octets_by (turn s size held more) s size o
moved s (Status status) o = o
moved s Tick o = o
moved s (Expire more) o = o
moved s (Settle more) o = o
moved s Confirm o = o

abbrev pub octets_after : State → Call → Octets → Octets
octets_after s c o = record (moved s c o) { marks = marks_after s c o.marks }

-- a new PDU has the next number, and carries the next octets that aren't sent, one or more
pub record IsNew (s : State) (size : ℕ) (o : Octets) (t : Taken) : Type 0 where
  pub some : 0 < new_count s size
  pub there : new_count s size ≤ length o.unsent
  pub is : t ≡ taken.Piece (length o.sent) true (poll_of t)
      (written (length o.sent) (poll_of t) None (take (new_count s size) o.unsent))

-- a PDU of a number, or a segment of it, with the octets from a place below another
abbrev pub again_octets : Octets → ℕ → ℕ → ℕ → Bool → List ℕ
again_octets o number from to poll =
    written number poll (segment_of from to (length (sent_with o number)))
    (slice_range (sent_with o number) from to)

-- octets of its number are sent again, one or more, from a place below another, which all wait; and
-- no more of those that wait from there on fit
pub record IsAgain (s : State) (size from to : ℕ) (o : Octets) (t : Taken) : Type 0 where
  pub sent : number_again s < length o.sent
  pub some : from < to
  pub within : to ≤ length (sent_with o (number_again s))
  pub waits : (i : ℕ) → from ≤ i → i < to → o.marks.waits (number_again s) i ≡ true
  pub is : t ≡ taken.Piece (number_again s) false (poll_of t)
      (again_octets o (number_again s) from to (poll_of t))
  pub fits : length (again_octets o (number_again s) from to (poll_of t)) ≤ size
  pub most : (k : ℕ) → from < k → k ≤ length (sent_with o (number_again s))
      → ((i : ℕ) → from ≤ i → i < k → o.marks.waits (number_again s) i ≡ true)
      → length (again_octets o (number_again s) from k (poll_of t)) ≤ size → k ≤ to

-- no data PDU
abbrev pub IsNone : Taken → Type 0
IsNone (taken.Piece number fresh polled octets) = ⊥
IsNone taken.Idle = Unit {0}
IsNone taken.Small = Unit {0}
IsNone taken.Shut = Unit {0}
IsNone taken.Held = Unit {0}
IsNone taken.Stopped = Unit {0}

abbrev pub IsWritten : Turn → State → ℕ → Octets → Taken → Type 0
IsWritten turns.New s size o t = IsNew s size o t
IsWritten turns.Whole s size o t = IsAgain s size 0 (length (sent_with o (number_again s))) o t
IsWritten turns.Part s size o t =
    IsAgain s size (next_stretch (again s) size).from (next_stretch (again s) size).to o t
IsWritten turns.Idle s size o t = IsNone t
IsWritten turns.Stopped s size o t = IsNone t
IsWritten turns.Small s size o t = IsNone t
IsWritten turns.Shut s size o t = IsNone t
IsWritten turns.Held s size o t = IsNone t

abbrev pub HasOctets : Call → Type 0
HasOctets (Offer sdu) = 0 < length sdu
HasOctets call = Unit {0}

-- each SDU offered has an octet: what `take` answers is a new PDU with the next octets of the
-- stream, or a PDU or a largest segment with octets of its number that wait, or no data PDU
abbrev pub WritesTheStream : Type 0
WritesTheStream =
    (config : AmTxConfig) (calls : List Call) (size : ℕ) (held : Option ℕ) (more : Bool)
    → AllByRecursion HasOctets calls
    → IsWritten (turn (run_am_sender octets_after calls (begun config nothing_sent)).state size held
    more)
    (run_am_sender octets_after calls (begun config nothing_sent)).state size
    (run_am_sender octets_after calls (begun config nothing_sent)).past
    (answer (run_am_sender octets_after calls (begun config nothing_sent)).state size held more)
