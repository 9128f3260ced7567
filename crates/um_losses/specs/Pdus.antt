-- UMD PDUs as records show them.
use Rattle.std.specs.Prelude.{ℕ, ◌-◌, ◌%◌, ◌^◌, Bool, ◌&&◌, nat_lt, nat_le}
use Rattle.l2_types.specs.declared.limits.TheConstants.{GREATEST_GRANT}
use Rattle.um_losses.specs.declared.pdu.Pdu.{Pdu}

-- a block may have such a PDU, with a number of so many bits: each element has an octet or more (TS
-- 36.322 6.2.1.3)
abbrev pub is_pdu : ℕ → Pdu → Bool
is_pdu bits p = nat_lt p.sn (2 ^ bits) && nat_lt p.fi 4 && nat_lt 0 p.elements
    && nat_le p.elements GREATEST_GRANT

-- the SDUs that end in it: FI's second bit is 1 where the last element ends none (TS 36.322
-- 6.2.2.6)
abbrev pub ends_in : Pdu → ℕ
ends_in p = p.elements - p.fi % 2
