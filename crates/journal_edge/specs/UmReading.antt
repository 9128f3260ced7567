-- What PDCP reads of the SDUs that an unacknowledged flow hands up in a life, one behind the other
-- (TS 36.323 5.1.2.1.3, 5.6, 6.2.3, 6.2.4).
use Rattle.std.specs.Prelude.{ℕ, ◌+◌, ◌%◌, ◌^◌, nat_lt, if◌then◌else◌, List, [], ◌∷◌, ◌++◌}
use Rattle.std.specs.Prelude.{Option, Some, None, Result, Ok, Err}
use Rattle.eps_sec.specs.declared.Keys.{Keys}
use Rattle.l2_num.specs.Numbers.{ahead}
use Rattle.pdcp_pdu.specs.declared.PdcpKind.TheVariants.{Um}
use Rattle.pdcp_pdu.specs.declared.pdu.PdcpRefusal.{PdcpRefusal}
use Rattle.pdcp_pdu.specs.Pdus.{UserPdu, Sdu, Report}
use Rattle.pdcp_pdu.specs.Reading.{user_at}
use Rattle.pdcp_sec.specs.Protection.{Protection, protection_of, ciphered_with}

pub record ReadSdu : Type 0 where
  pub count : ℕ
  pub octets : List ℕ

-- the least number at or above the next that has an SN of so many bits
abbrev pub count_from : ℕ → ℕ → ℕ → ℕ
count_from bits next sn = next + ahead sn (next % 2 ^ bits) (2 ^ bits)

-- a text is deciphered at its COUNT, which has 32 bits
abbrev pub deciphered_at : Protection → ℕ → List ℕ → Option ReadSdu
deciphered_at p count text = if nat_lt count (2 ^ 32)
    then Some (record { count = count; octets = ciphered_with p count text }) else None

-- a data PDU is read; a status report, or what can't be read, gives nothing
abbrev pub read_pdu : ℕ → Protection → ℕ → Result UserPdu PdcpRefusal → Option ReadSdu
read_pdu bits p next (Ok (Sdu sn text)) = deciphered_at p (count_from bits next sn) text
read_pdu bits p next (Ok (Report fms bitmap)) = None
read_pdu bits p next (Err refusal) = None

-- an SDU of RLC, of a bearer with SNs of so many bits
abbrev pub read_sdu : ℕ → Protection → ℕ → List ℕ → Option ReadSdu
read_sdu bits p next sdu = read_pdu bits p next (user_at bits sdu)

abbrev pub next_behind : ℕ → Option ReadSdu → ℕ
next_behind next None = next
next_behind next (Some one) = one.count + 1

abbrev pub octets_of : Option ReadSdu → List (List ℕ)
octets_of None = []
octets_of (Some one) = one.octets ∷ []

-- SDUs of RLC, where the next COUNT is this
abbrev pub all_read : ℕ → Protection → ℕ → List (List ℕ) → List (List ℕ)
all_read bits p next [] = []
all_read bits p next (sdu ∷ sdus) = octets_of (read_sdu bits p next sdu)
    ++ all_read bits p (next_behind next (read_sdu bits p next sdu)) sdus

-- ---- who reads: the next COUNT is 0 as a life begins

pub record Reader : Type 0 where
  pub bits : ℕ
  pub protection : Protection
  pub next : ℕ

abbrev pub as_begun : ℕ → Protection → Reader
as_begun bits p = record { bits = bits; protection = p; next = 0 }

-- the next life has other keys (5.2.2.2)
abbrev pub renewed : Keys → Reader → Reader
renewed keys r = record {
  bits = r.bits;
  protection = protection_of (Um r.bits) keys r.protection.bearer r.protection.direction;
  next = 0;
}

abbrev pub read_by : Reader → List ℕ → Option ReadSdu
read_by r sdu = read_sdu r.bits r.protection r.next sdu

abbrev pub text_of : Option ReadSdu → Option (List ℕ)
text_of None = None
text_of (Some one) = Some one.octets

abbrev pub behind : Option ReadSdu → Reader → Reader
behind one r = record r { next = next_behind r.next one }
