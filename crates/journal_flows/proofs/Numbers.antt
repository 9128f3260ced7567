-- VR(R) is found within VT(S), and a number from its SN.
use Rattle.std.proofs.Common.{◌≡◌, ℕ, ◌+◌, ◌%◌, ◌<◌, ◌≤◌, Bool, true, false, List, refl, ap}
use Rattle.std.proofs.Common.{arith}
use Rattle.std.specs.Prelude.{nat_lt}
use Rattle.std.proofs.lemmas.Bool.{ltb-true, ltb-false}
use Rattle.std.proofs.lemmas.Option.{slice_get_past}
use Rattle.l2_num.specs.Least.{IsLeast}
use Rattle.l2_num.proofs.LeastLemmas.{past_before, past_stops}
use Rattle.rlc_pdu.specs.declared.constants.TheConstants.{AM_MODULUS}
use Rattle.journal_account.specs.FlowEvents.{FlowEvent, next_of, field_sizes}
use Rattle.journal_account.specs.Arrived.{is_complete_in, all_octets, octet_came}
use Rattle.journal_flows.specs.NumberedPdus.{front_in, with_sn_from}

none_complete : (es : List FlowEvent) (n : ℕ) → next_of es ≤ n → is_complete_in es n ≡ false
none_complete es n h = ap (all_octets (octet_came es n)) (slice_get_past (field_sizes es) n h)

pub front_least : (es : List FlowEvent) → IsLeast (is_complete_in es) 0 (front_in es)
front_least es = record {
  from = omega arith;
  refused = by (nat_lt (front_in es) (next_of es)) refl;
  before = past_before (is_complete_in es) (next_of es) 0;
}
  where
    by : (b : Bool) → nat_lt (front_in es) (next_of es) ≡ b → is_complete_in es (front_in es) ≡ false
    by true e =
        let lt : front_in es < next_of es = ltb-true (front_in es) (next_of es) e in
        past_stops (is_complete_in es) (next_of es) 0 (omega (arith, lt))
    by false e = none_complete es (front_in es) (ltb-false (front_in es) (next_of es) e)

pub own_number : (low n : ℕ) → low ≤ n → n < low + AM_MODULUS → with_sn_from low (n % AM_MODULUS) ≡ n
own_number low n from near = omega arith
