-- SDUs that are submitted have as many octets as one may have (TS 36.323 4.3.1).
use Rattle.std.proofs.Common.{◌≡◌, ℕ, ◌==◌, Bool, true, false, if◌then◌else◌, List, [], ◌∷◌, length, Option, Some, None}
use Rattle.std.proofs.Common.{nat_lt, refl, arith}
use Rattle.std.proofs.lemmas.Bool.Decides.{nat_tests}
use Rattle.std.specs.List.{AllByRecursion}
use Rattle.bearer.specs.Submitting.{refusal as flow_refusal}
use Rattle.bearer.specs.declared.flow.Flow.{Flow as BearerFlow}
use Rattle.bearer.specs.declared.flow.Flow.TheVariants.{Tm, Um, Am}
use Rattle.l2_bits.specs.declared.fault.SubmitRefusal.{SubmitRefusal}
use Rattle.l2_bits.specs.declared.fault.SubmitRefusal.TheVariants.{Empty, TooLong}
use Rattle.l2_node.specs.End.{End}
use Rattle.l2_node.specs.Hearing.{bearer_of}
use Rattle.l2_node.specs.Submitting.{refusal}
use Rattle.l2_types.specs.declared.limits.TheConstants.{GREATEST_SDU}
use Rattle.pdcp_tx.specs.State.{State as Sending, refusal as pdcp_refusal}
use Rattle.rlc_um.specs.Transparent.{refusal as transparent_refusal}
use Rattle.journal_sent.specs.RightSent.{IsSdu}
use Rattle.law_bearer.proofs.AnyBearer.SenderCalls.{all_then}
use Rattle.law_deliver.specs.AmChannel.Delivery.{accepted, submitted_in, was_submitted}
use Rattle.law_node.specs.Calls.{Call, Submit, after}

-- ---- as one may have that isn't refused

pub sized_by : (empty long : Bool) (others : Option SubmitRefusal)
    → (if empty then Some Empty else (if long then Some TooLong else others)) ≡ None
    → (empty ≡ false) × (long ≡ false)
sized_by true long others e = let no : Some Empty ≡ None = e in absurd cc
sized_by false true others e = let no : Some TooLong ≡ None = e in absurd cc
sized_by false false others e = (refl, refl)

pub submitted_sized : (s : Sending) (sdu : List ℕ) → pdcp_refusal s sdu ≡ None → IsSdu sdu
unfolding pdcp_refusal
submitted_sized s sdu e =
    let p = sized_by (length sdu == 0) (nat_lt GREATEST_SDU (length sdu)) _ e in
    (grind (arith, nat_tests, p.0), grind (arith, nat_tests, p.1))

-- ---- of any bearer, and in any calls of its end

flow_sized : (x : BearerFlow) (sdu : List ℕ) → flow_refusal x sdu ≡ None → IsSdu sdu
unfolding flow_refusal transparent_refusal
flow_sized (Tm b) sdu e =
    let p = sized_by (length sdu == 0) (nat_lt GREATEST_SDU (length sdu)) _ e in
    (grind (arith, nat_tests, p.0), grind (arith, nat_tests, p.1))
flow_sized (Um b) sdu e = submitted_sized b.pdcp.tx sdu e
flow_sized (Am b) sdu e = submitted_sized b.pdcp.tx sdu e

unrefused_sized : (lcid : ℕ) (octets : List ℕ) (e : End) → refusal lcid octets e ≡ None → IsSdu octets
unfolding refusal
unrefused_sized lcid octets e = flow_sized (bearer_of lcid e).state.flow octets

taken_sized : (r : Option SubmitRefusal) (here : Bool) (octets : List ℕ) → (r ≡ None → IsSdu octets)
    → AllByRecursion IsSdu (accepted r here octets)
taken_sized None true octets h = (h refl, tt)
taken_sized None false octets h = tt
taken_sized (Some why) here octets h = tt

call_sized : (l : ℕ) (e : End) (c : Call) → AllByRecursion IsSdu (submitted_in l e c)
call_sized l e (Submit lcid octets) =
    taken_sized (refusal lcid octets e) (lcid == l) octets (unrefused_sized lcid octets e)
call_sized l e c = tt

pub all_sized : (l : ℕ) (cs : List Call) (e : End) → AllByRecursion IsSdu (was_submitted l cs e)
all_sized l [] e = tt
all_sized l (c ∷ cs) e =
    all_then IsSdu (submitted_in l e c) (was_submitted l cs (after e c)) (call_sized l e c) (all_sized l cs (after e c))
