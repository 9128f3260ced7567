-- What a reader answers, as a function of the octets (TS 36.322 6.2.1). The laws say that this is
-- the grammar and the first refusal.
use Rattle.std.specs.Prelude.{ℕ, ◌/◌, ◌==◌, nat_lt, false, List, [], ◌∷◌, length, Option, None}
use Rattle.std.specs.Prelude.{Some, Result, Ok, Err, if◌then◌else◌}
use Rattle.rlc_pdu.specs.declared.fault.RlcRefusal.{RlcRefusal}
use Rattle.rlc_pdu.specs.declared.fault.RlcWhy.TheVariants.{Short, ReservedCpt}
use Rattle.rlc_pdu.specs.Units.{Units, units, cut}
use Rattle.rlc_pdu.specs.Pdus.{UmdPdu, AmdPdu, StatusPdu, AcknowledgedPdu, Payload, Status}
use Rattle.rlc_pdu.specs.Refusals.{Front, umd_front, amd_front, refusal, body_refusal}
use Rattle.rlc_pdu.specs.Refusals.{listed_refusal}
use Rattle.rlc_pdu.specs.Entries.{listed}

-- what was found, unless it is refused
abbrev pub unless : {A : Type 0} → Option RlcRefusal → A → Result A RlcRefusal
unless (Some refused) found = Err refused
unless None found = Ok found

-- the elements of a field that is behind units
abbrev pub cut_all : Option Units → List (List ℕ)
cut_all None = []
cut_all (Some u) = cut u.lis u.rest

-- the elements of a PDU of so many octets, by the units that begin at an octet
abbrev pub elements_at : ℕ → ℕ → Option Units → Result (List (List ℕ)) RlcRefusal
elements_at total start us = unless (body_refusal total start us) (cut_all us)

abbrev pub umd_with : Front → Result (List (List ℕ)) RlcRefusal → Result UmdPdu RlcRefusal
umd_with f (Ok elements) = Ok (record { sn = f.sn; fi = f.fi; elements = elements })
umd_with f (Err refused) = Err refused

abbrev pub umd_behind : ℕ → Option Front → Result UmdPdu RlcRefusal
umd_behind total None = Err (refusal total Short)
umd_behind total (Some f) = umd_with f (elements_at total f.size (units false f.more f.rest))

-- a UMD PDU
abbrev pub umd_at : ℕ → List ℕ → Result UmdPdu RlcRefusal
umd_at bits octets = umd_behind (length octets) (umd_front bits octets)

abbrev pub amd_with : Front → Result (List (List ℕ)) RlcRefusal → Result AmdPdu RlcRefusal
amd_with f (Ok elements) =
    Ok (record { sn = f.sn; poll = f.poll; fi = f.fi; segment = f.segment; elements = elements })
amd_with f (Err refused) = Err refused

abbrev pub amd_behind : ℕ → Option Front → Result AmdPdu RlcRefusal
amd_behind total None = Err (refusal total Short)
amd_behind total (Some f) = amd_with f (elements_at total f.size (units false f.more f.rest))

-- an AMD PDU, whose D/C is 1
abbrev pub amd_at : List ℕ → Result AmdPdu RlcRefusal
amd_at octets = amd_behind (length octets) (amd_front octets)

abbrev pub no_status : StatusPdu
no_status = record { ack = 0; nacks = [] }

abbrev pub or_none : Option StatusPdu → StatusPdu
or_none None = no_status
or_none (Some s) = s

abbrev pub listed_at : ℕ → Option StatusPdu → Result StatusPdu RlcRefusal
listed_at total found = unless (listed_refusal total found) (or_none found)

-- a control PDU with this first octet, whose D/C is 0
abbrev pub control_at : ℕ → List ℕ → Result StatusPdu RlcRefusal
control_at a octets = if a / 16 == 0 then listed_at (length octets) (listed octets)
    else Err (refusal 0 ReservedCpt)

abbrev pub as_payload : Result AmdPdu RlcRefusal → Result AcknowledgedPdu RlcRefusal
as_payload (Ok pdu) = Ok (Payload pdu)
as_payload (Err refused) = Err refused

abbrev pub as_status : Result StatusPdu RlcRefusal → Result AcknowledgedPdu RlcRefusal
as_status (Ok pdu) = Ok (Status pdu)
as_status (Err refused) = Err refused

-- a PDU of an acknowledged bearer
abbrev pub am_at : List ℕ → Result AcknowledgedPdu RlcRefusal
am_at [] = Err (refusal 0 Short)
am_at (a ∷ rest) = if nat_lt a 128 then as_status (control_at a (a ∷ rest))
    else as_payload (amd_at (a ∷ rest))
