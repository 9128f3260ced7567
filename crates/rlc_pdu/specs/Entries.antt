-- The entries of a STATUS PDU as they are read, bit for bit (TS 36.322 6.2.1.6).
use Rattle.std.specs.Prelude.{ℕ, zero, suc, ◌+◌, ◌-◌, ◌==◌, ◌∷◌, length, drop, [], Bool, true}
use Rattle.std.specs.Prelude.{false, List, Option, Some, None, if◌then◌else◌, nat_lt}
use Rattle.l2_bits.specs.Bits.{take_field, bits_of}
use Rattle.rlc_pdu.specs.declared.pdu.Part.{Part}
use Rattle.rlc_pdu.specs.declared.pdu.Nack.{Nack}
use Rattle.rlc_pdu.specs.Status.{nack_size, nacks_size}
use Rattle.rlc_pdu.specs.Pdus.{StatusPdu}

infixl 10 ◌>>=◌
abbrev pub ◌>>=◌ : {A B : Type 0} → Option A → (A → Option B) → Option B
(Some x) >>= f = f x
None >>= f = None

-- SOstart(15) SOend(15), where E2 is 1
unfoldable pub part_at : Bool → List Bool → Option (Option Part × List Bool)
part_at false bits = Some (None, bits)
part_at true bits = do
  start ← take_field 15 bits
  end ← take_field 15 start.1
  Some (Some (record { start = start.0; end = end.0 }), end.1)

-- NACK_SN(10) E1 E2, and the range
unfoldable pub nack_at : List Bool → Option ((Nack × Bool) × List Bool)
nack_at bits = do
  sn ← take_field 10 bits
  more ← take_field 1 sn.1
  has ← take_field 1 more.1
  part ← part_at (has.0 == 1) has.1
  Some ((record { sn = sn.0; part = part.0 }, more.0 == 1), part.1)

-- entries and the bits behind them; none where they are cut
abbrev pub Entries : Type 0
Entries = Option (List Nack × List Bool)

abbrev pub with_nack : Nack → Entries → Entries
with_nack n None = None
with_nack n (Some x) = Some (n ∷ x.0, x.1)

-- an entry, if one was read of a bit and so many behind it, and those that follow it
abbrev pub then_entries : ℕ → Option ((Nack × Bool) × List Bool) → (ℕ → Bool → Entries) → Entries
then_entries behind None next = None
then_entries behind (Some x) next = with_nack x.0.0 (next (behind - length x.1) x.0.1)

-- entries, if there are more, where the first `skip` bits are passed
unfoldable pub entries : ℕ → Bool → List Bool → Entries
entries skip false bits = Some ([], drop skip bits)
entries skip true [] = None
entries (suc skip) true (b ∷ bs) = entries skip true bs
entries zero true (b ∷ bs) =
    then_entries (length bs) (nack_at (b ∷ bs)) (λ skip more. entries skip more bs)

-- an ACK_SN and the E1 behind it
unfoldable pub ack_at : List Bool → Option ((ℕ × Bool) × List Bool)
ack_at bits = do
  ack ← take_field 10 bits
  more ← take_field 1 ack.1
  Some ((ack.0, more.0 == 1), more.1)

abbrev pub with_ack : ℕ → Entries → Option StatusPdu
with_ack ack None = None
with_ack ack (Some x) = Some (record { ack = ack; nacks = x.0 })

abbrev pub entries_behind : Option ((ℕ × Bool) × List Bool) → Option StatusPdu
entries_behind None = None
entries_behind (Some x) = with_ack x.0.0 (entries 0 x.0.1 x.1)

-- what a STATUS says, behind the 4 bits of D/C and CPT; none where it is cut
abbrev pub listed : List ℕ → Option StatusPdu
listed octets = entries_behind (ack_at (drop 4 (bits_of octets)))

-- an SOend below its SOstart
abbrev pub is_backwards : Option Part → Bool
is_backwards None = false
is_backwards (Some p) = nat_lt p.end p.start

-- the place of the first such SOstart, of entries that begin at a place
unfoldable pub backwards_from : ℕ → List Nack → Option ℕ
backwards_from at [] = None
backwards_from at (n ∷ ns) = if is_backwards n.part then Some (at + 12)
    else backwards_from (at + nack_size n) ns

-- ---- a reader's steps

-- the entries that are left
abbrev pub nacks_in : Entries → List Nack
nacks_in None = []
nacks_in (Some x) = x.0

-- the first of two places
abbrev pub or_place : Option ℕ → Option ℕ → Option ℕ
or_place (Some at) other = Some at
or_place None other = other

-- the first SOstart above its SOend, and the place behind entries that begin at a place
abbrev pub gone_through : Option ℕ → ℕ → Entries → Option (Option ℕ × ℕ)
gone_through found at None = None
gone_through found at (Some x) = Some (or_place found (backwards_from at x.0), at + nacks_size x.0)
