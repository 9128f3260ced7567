-- Why a PDU is refused, and where (TS 36.322 5.5, 6.2.1): the first case that is true.
use Rattle.std.specs.Prelude.{ℕ, ◌+◌, ◌*◌, ◌/◌, ◌%◌, ◌==◌, nat_lt, Bool, false, List, [], ◌∷◌}
use Rattle.std.specs.Prelude.{length, Option, None, Some, if◌then◌else◌}
use Rattle.rlc_pdu.specs.declared.pdu.Segment.{Segment}
use Rattle.rlc_pdu.specs.declared.fault.RlcRefusal.{RlcRefusal}
use Rattle.rlc_pdu.specs.declared.fault.RlcWhy.{RlcWhy}
use Rattle.rlc_pdu.specs.declared.fault.RlcWhy.TheVariants.{Short, ZeroLi, LiPast, EmptyData}
use Rattle.rlc_pdu.specs.declared.fault.RlcWhy.TheVariants.{ReservedCpt, SoBackwards, Trailing}
use Rattle.rlc_pdu.specs.Pdus.{StatusPdu}
use Rattle.rlc_pdu.specs.Status.{status_size}
use Rattle.rlc_pdu.specs.Entries.{listed, backwards_from}
use Rattle.rlc_pdu.specs.Units.{Units, units, zero_from, past_from}

abbrev pub refusal : ℕ → RlcWhy → RlcRefusal
refusal at why = record { at = at; why = why }

-- the first of two refusals
abbrev pub first_of : Option RlcRefusal → Option RlcRefusal → Option RlcRefusal
first_of (Some first) next = Some first
first_of None next = next

-- the fixed part of a data PDU's header, and the octets behind it
pub record Front : Type 0 where
  pub sn : ℕ
  pub poll : Bool
  pub fi : ℕ
  pub segment : Option Segment
  pub more : Bool  -- E: units follow
  pub size : ℕ
  pub rest : List ℕ

-- FI(2) E SN(5)
unfoldable pub short_front : List ℕ → Option Front
short_front [] = None
short_front (a ∷ rest) =
    Some (record {
      sn = a % 32;
      poll = false;
      fi = a / 64;
      segment = None;
      more = a / 32 % 2 == 1;
      size = 1;
      rest = rest;
    })

-- R R R FI(2) E SN(10)
unfoldable pub long_front : List ℕ → Option Front
long_front [] = None
long_front (a ∷ []) = None
long_front (a ∷ b ∷ rest) =
    Some (record {
      sn = a % 4 * 256 + b;
      poll = false;
      fi = a / 8 % 4;
      segment = None;
      more = a / 4 % 2 == 1;
      size = 2;
      rest = rest;
    })

-- that of a UMD PDU
abbrev pub umd_front : ℕ → List ℕ → Option Front
umd_front bits octets = if bits == 5 then short_front octets else long_front octets

-- D/C RF P FI(2) E SN(10) of a whole AMD PDU
abbrev pub whole_front : ℕ → ℕ → List ℕ → Front
whole_front a b rest =
    record {
      sn = a % 4 * 256 + b;
      poll = a / 32 % 2 == 1;
      fi = a / 8 % 4;
      segment = None;
      more = a / 4 % 2 == 1;
      size = 2;
      rest = rest;
    }

-- LSF SO(15) behind it, where RF is 1
unfoldable pub segment_front : ℕ → ℕ → List ℕ → Option Front
segment_front a b [] = None
segment_front a b (c ∷ []) = None
segment_front a b (c ∷ d ∷ rest) =
    Some (record (whole_front a b rest) {
      segment =
          Some (record { last = c / 128 == 1; so = c % 128 * 256 + d });
      size = 4;
    })

-- that of an AMD PDU
unfoldable pub amd_front : List ℕ → Option Front
amd_front [] = None
amd_front (a ∷ []) = None
amd_front (a ∷ b ∷ rest) = if a / 64 % 2 == 1 then segment_front a b rest
    else Some (whole_front a b rest)

-- a refusal of the k-th unit, where units begin at an octet: two of them have three octets
abbrev pub unit_refused : ℕ → RlcWhy → Option ℕ → Option RlcRefusal
unit_refused start why (Some k) = Some (refusal (start + 3 * k / 2) why)
unit_refused start why None = None

-- a data field without octets
abbrev pub empty_refused : ℕ → List ℕ → Option RlcRefusal
empty_refused total [] = Some (refusal total EmptyData)
empty_refused total (o ∷ os) = None

-- the first true case of what follows the fixed part of a header
abbrev pub body_refusal : ℕ → ℕ → Option Units → Option RlcRefusal
body_refusal total start None = Some (refusal total Short)
body_refusal total start (Some u) =
    first_of (unit_refused start ZeroLi (zero_from 0 u.lis))
    (first_of (empty_refused total u.rest)
    (unit_refused start LiPast (past_from 0 u.lis (length u.rest))))

-- the first true case of a data PDU of so many octets
abbrev pub data_refusal : ℕ → Option Front → Option RlcRefusal
data_refusal total None = Some (refusal total Short)
data_refusal total (Some f) = body_refusal total f.size (units false f.more f.rest)

-- the first true case of a UMD PDU
abbrev pub umd_refusal : ℕ → List ℕ → Option RlcRefusal
umd_refusal bits octets = data_refusal (length octets) (umd_front bits octets)

-- the octet of an SOstart above its SOend
abbrev pub backwards_refused : Option ℕ → Option RlcRefusal
backwards_refused (Some at) = Some (refusal (at / 8) SoBackwards)
backwards_refused None = None

-- octets behind a STATUS of so many
abbrev pub trailing_refused : ℕ → ℕ → Option RlcRefusal
trailing_refused size total = if nat_lt size total then Some (refusal size Trailing) else None

-- the first true case of what a STATUS of so many octets says, whose entries begin with bit 15
abbrev pub listed_refusal : ℕ → Option StatusPdu → Option RlcRefusal
listed_refusal total None = Some (refusal total Short)
listed_refusal total (Some s) =
    first_of (backwards_refused (backwards_from 15 s.nacks))
    (trailing_refused (status_size s.nacks) total)

-- the first true case of a control PDU with this first octet, whose D/C is 0
abbrev pub control_refusal : ℕ → List ℕ → Option RlcRefusal
control_refusal a octets = if a / 16 == 0 then listed_refusal (length octets) (listed octets)
    else Some (refusal 0 ReservedCpt)

-- the first true case of a PDU of an acknowledged bearer
abbrev pub am_refusal : List ℕ → Option RlcRefusal
am_refusal [] = Some (refusal 0 Short)
am_refusal (a ∷ rest) =
    if nat_lt a 128 then control_refusal a (a ∷ rest)
    else data_refusal (length (a ∷ rest)) (amd_front (a ∷ rest))
