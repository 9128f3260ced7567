-- PDCP PDUs as C sees them (TS 36.323 6.2), what is meant by them, and what calls answer.
use Rattle.std.specs.Prelude.{ℕ, ◌-◌, ◌==◌, ◌&&◌, ◌||◌, nat_lt, not, Bool, false, List, length}
use Rattle.std.specs.Prelude.{slice_index, if◌then◌else◌}
use Rattle.pdcp_pdu.specs.declared.pdu.PdcpRefusal.{PdcpRefusal}
use Rattle.pdcp_pdu.specs.declared.pdu.PdcpWhy.{PdcpWhy}
use Rattle.pdcp_pdu.specs.declared.pdu.PdcpWhy.TheVariants as why
use Rattle.pdcp_pdu.specs.Pdus.{UserPdu, Sdu, Report, SrbPdu}
use Rattle.pdcp_pdu.specs.Grammar.{user_spelling, srb_spelling}
use Rattle.pdcp_pdu.specs.Reading.{user_at, srb_at}
use Rattle.l2_c.specs.Answers.{in_range, room_answer, read_answer}
use Rattle.l2_c.specs.declared.mac.PlainRefusal.{PlainRefusal}
use Rattle.l2_c.specs.declared.pdcp.PlainPdcp.{PlainPdcp}
use Rattle.l2_c.specs.declared.pdcp.TheConstants.{DATA, REPORT, SIGNALLING}

-- the PDU of a data bearer, or of a signalling bearer, that is seen
abbrev pub user_seen : PlainPdcp → UserPdu
user_seen p = if p.kind == DATA then Sdu p.sn p.octets.now else Report p.sn p.octets.now

abbrev pub srb_seen : PlainPdcp → SrbPdu
srb_seen p = record { sn = p.sn; octets = p.octets.now; tag = p.tag }

-- the reason of a number
abbrev pub why_seen : ℕ → PdcpWhy
why_seen n = if n == 1 then why.Short else if n == 2 then why.ReservedType else why.EmptyData

abbrev pub refusal_seen : PlainRefusal → PdcpRefusal
refusal_seen refusal = record { at = refusal.at; why = why_seen refusal.why }

-- how many sequence numbers of so many bits there are on a data bearer
abbrev pub numbers : ℕ → ℕ
numbers bits =
    if bits == 7 then 128 else if bits == 12 then 4096 else if bits == 15 then 32768 else 0

-- what may be written
abbrev pub bitmap_fits : List ℕ → Bool
bitmap_fits bitmap =
    (length bitmap == 0) || not (slice_index bitmap (length bitmap - 1) == 0)

abbrev pub user_fits : ℕ → PlainPdcp → Bool
user_fits bits p = nat_lt p.sn (numbers bits)
    && (if p.kind == DATA then not (length p.octets.now == 0)
    else if p.kind == REPORT then not (bits == 7) && bitmap_fits p.octets.now
    else false)

abbrev pub srb_fits : PlainPdcp → Bool
srb_fits p = (p.kind == SIGNALLING) && (nat_lt p.sn 32 && not (length p.octets.now == 0))

-- ---- answers

abbrev pub user_read_answer : ℕ → List ℕ → ℕ
user_read_answer bits pdu = in_range (nat_lt 0 (numbers bits)) (read_answer (user_at bits pdu))

abbrev pub srb_read_answer : List ℕ → ℕ
srb_read_answer pdu = read_answer (srb_at pdu)

abbrev pub user_write_answer : ℕ → PlainPdcp → ℕ → ℕ
user_write_answer bits p room =
    in_range (user_fits bits p) (room_answer (length (user_spelling bits (user_seen p))) room)

abbrev pub srb_write_answer : PlainPdcp → ℕ → ℕ
srb_write_answer p room =
    in_range (srb_fits p) (room_answer (length (srb_spelling (srb_seen p))) room)
