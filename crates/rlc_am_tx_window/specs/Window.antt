-- The window of an acknowledged sender: the numbers from VT(A) below VT(S) (TS 36.322 7.1).
use Rattle.std.specs.Prelude.{ℕ, ◌+◌, ◌-◌, ◌%◌, Bool, true, false, ◌==◌, if◌then◌else◌, List, []}
use Rattle.std.specs.Prelude.{◌∷◌, length, drop, min, Option, Some, None, nat_lt, slice_set}
use Rattle.std.specs.Prelude.{slice_index_or}
use Rattle.rlc_pdu.specs.declared.pdu.Nack.{Nack}
use Rattle.rlc_am_tx_window.specs.Sent.{Sent, fresh, is_waiting, waiting_octets, is_spent}
use Rattle.rlc_am_tx_window.specs.Sent.{with_name, considered, gets_acked, acknowledged}
use Rattle.rlc_am_tx_window.specs.Ledger.{Ledger, credited_all}
use Rattle.rlc_pdu.specs.declared.constants.TheConstants.{AM_MODULUS}

-- VT(A), and what is kept of each number from there on
pub record TxWindow : Type 0 where
  pub base : ℕ
  pub slots : List Sent

-- VT(S)
abbrev pub next : TxWindow → ℕ
next w = w.base + length w.slots

abbrev pub nothing : Sent
nothing = fresh [] [] false false 0

abbrev pub slot_at : List Sent → ℕ → Sent
slot_at slots at = slice_index_or slots at nothing

abbrev pub with_slot : TxWindow → ℕ → Sent → TxWindow
with_slot w at h = record w { slots = slice_set w.slots at h }

-- how far a sequence number of 10 bits lies above a number
abbrev pub offset_of : ℕ → ℕ → ℕ
offset_of base sn = (sn + AM_MODULUS - base % AM_MODULUS) % AM_MODULUS

-- ---- what waits to be resent

-- how many numbers stand first of which no octet waits
abbrev pub leading_idle : List Sent → ℕ
leading_idle [] = 0
leading_idle (h ∷ hs) = if is_waiting h then 0 else leading_idle hs + 1

abbrev pub some_wait : List Sent → Bool
some_wait slots = nat_lt (leading_idle slots) (length slots)

-- the numbers of which octets wait, ascending
abbrev pub waiting_from : ℕ → List Sent → List ℕ
waiting_from n [] = []
waiting_from n (h ∷ hs) = if is_waiting h then n ∷ waiting_from (n + 1) hs
    else waiting_from (n + 1) hs

-- how many octets wait
abbrev pub waiting_in : List Sent → ℕ
waiting_in [] = 0
waiting_in (h ∷ hs) = waiting_octets h + waiting_in hs

-- the place of the greatest number that isn't acknowledged
abbrev pub last_open : ℕ → Option ℕ → List Sent → Option ℕ
last_open at found [] = found
last_open at found (h ∷ hs) = last_open (at + 1) (if h.acked then found else Some at) hs

-- ---- a STATUS is read, entry by entry

abbrev pub named_one : ℕ → List Sent → Nack → List Sent
named_one base slots n =
    if nat_lt (offset_of base n.sn) (length slots)
    then slice_set slots (offset_of base n.sn)
    (with_name (slot_at slots (offset_of base n.sn)) n.part)
    else slots

abbrev pub named_all : ℕ → List Sent → List Nack → List Sent
named_all base slots [] = slots
named_all base slots (n ∷ ns) = named_all base (named_one base slots n) ns

-- an entry has the number of a place
abbrev pub is_named : ℕ → ℕ → List Nack → Bool
is_named base at [] = false
is_named base at (n ∷ ns) = if offset_of base n.sn == at then true else is_named base at ns

-- ---- the numbers below ACK_SN that it didn't name are acknowledged

abbrev pub acked_from : ℕ → ℕ → List Sent → List Sent
acked_from at below [] = []
acked_from at below (h ∷ hs) = (if nat_lt at below then acknowledged h else h)
    ∷ acked_from (at + 1) below hs

abbrev pub credited_one : Ledger → Sent → Ledger
credited_one l h = if gets_acked h then credited_all l h.place h.lens else l

abbrev pub credited_from : Ledger → ℕ → ℕ → List Sent → Ledger
credited_from l at below [] = l
credited_from l at below (h ∷ hs) =
    credited_from (if nat_lt at below then credited_one l h else l) (at + 1) below hs

-- ---- the numbers that it named are considered for retransmission

abbrev pub considered_one : ℕ → ℕ → List Sent → Nack → List Sent
considered_one base most slots n =
    if nat_lt (offset_of base n.sn) (length slots)
    then slice_set slots (offset_of base n.sn)
    (considered most (slot_at slots (offset_of base n.sn)))
    else slots

abbrev pub considered_all : ℕ → ℕ → List Sent → List Nack → List Sent
considered_all base most slots [] = slots
considered_all base most slots (n ∷ ns) =
    considered_all base most (considered_one base most slots n) ns

-- the place of the least number named whose RETX_COUNT has reached the limit

abbrev pub least : Option ℕ → ℕ → Option ℕ
least None at = Some at
least (Some k) at = Some (min k at)

abbrev pub or_spent : ℕ → ℕ → List Sent → Option ℕ → Nack → Option ℕ
or_spent base most slots found n =
    if is_spent (slot_at slots (offset_of base n.sn)).retransmissions most
    then least found (offset_of base n.sn) else found

abbrev pub spent_among : ℕ → ℕ → List Sent → Option ℕ → List Nack → Option ℕ
spent_among base most slots found [] = found
spent_among base most slots found (n ∷ ns) =
    spent_among base most slots (or_spent base most slots found n) ns

-- ---- VT(A) moves to the first number that isn't acknowledged

abbrev pub leading_acked : List Sent → ℕ
leading_acked [] = 0
leading_acked (h ∷ hs) = if h.acked then leading_acked hs + 1 else 0

abbrev pub advanced : TxWindow → TxWindow
advanced w = record {
  base = w.base + leading_acked w.slots;
  slots = drop (leading_acked w.slots) w.slots;
}
