-- PDUs of an acknowledged bearer: in the grammar is read, and read is in the grammar.
use Rattle.std.proofs.Common.{◌≡◌, ℕ, ◌/◌, ◌<◌, ◌≤◌, Bool, true, false, cond, List, [], ◌∷◌, length, Result, Ok, Err}
use Rattle.std.proofs.Common.{refl, ap, arith, eqb, ltb}
use Rattle.std.specs.Prelude.{IfOk, IsOkAnd, slice_index}
use Rattle.std.proofs.lemmas.Bool.{eqb-true, ltb-false, lt-ltb, le-ltb}
use Rattle.rlc_pdu.specs.declared.fault.RlcRefusal.{RlcRefusal}
use Rattle.rlc_pdu.specs.declared.fault.RlcWhy.TheVariants.{ReservedCpt}
use Rattle.rlc_pdu.specs.declared.pdu.AmPdu.{AmPdu}
use Rattle.rlc_pdu.specs.Pdus.{AmdPdu, StatusPdu, AcknowledgedPdu, Payload, Status}
use Rattle.rlc_pdu.specs.Grammar.{IsAmdPdu, IsAmPdu}
use Rattle.rlc_pdu.specs.Entries.{listed}
use Rattle.rlc_pdu.specs.Refusals.{refusal}
use Rattle.rlc_pdu.specs.Reading.{am_at, amd_at, listed_at, control_at, as_payload, as_status}
use Rattle.rlc_pdu.specs.Views.{am_of}
use Rattle.rlc_pdu.proofs.Units.{AreOctets}
use Rattle.rlc_pdu.proofs.Amds.{amd_accepts, amd_found, IsSoundAmd}
use Rattle.rlc_pdu.proofs.Statuses.{control_accepts, status_some}
use Rattle.rlc_pdu.proofs.StatusFound.{control_found}
use Rattle.rlc_pdu.proofs.Told.{Tells, found_in, only_in}

payload_high : (pdu : AmdPdu) (octets : List ℕ) → IsAmdPdu pdu octets → 128 ≤ slice_index octets 0
payload_high pdu octets h =
    let first = ap (λ (os : List ℕ). slice_index os 0) h.spelled in
    omega (arith, first)

pub as_payload_of : (pdu : AmdPdu) (octets : List ℕ) → IsAmdPdu pdu octets → am_at octets ≡ Ok (Payload pdu)
as_payload_of pdu [] h = let high = payload_high pdu [] h in absurd (omega (arith, high))
as_payload_of pdu (a ∷ rest) h =
    rw (le-ltb a 128 (payload_high pdu (a ∷ rest) h)) (ap as_payload (amd_accepts pdu (a ∷ rest) h))

pub am_accepts : (pdu : AcknowledgedPdu) (octets : List ℕ) → AreOctets octets → IsAmPdu pdu octets
    → am_at octets ≡ Ok pdu
am_accepts (Payload pdu) octets fits h = as_payload_of pdu octets h
am_accepts (Status pdu) [] fits h = absurd (status_some pdu h)
am_accepts (Status pdu) (a ∷ rest) fits h =
    let c = control_accepts a rest pdu (fits 0) h in
    let low : a < 128 = omega (arith, c.0) in
    rw (lt-ltb a 128 low) (ap as_status c.1)

abbrev IsSound : List ℕ → Result AcknowledgedPdu RlcRefusal → Type 0
IsSound octets read = IfOk read (λ pdu. IsAmPdu pdu octets)

status_found : (a : ℕ) (rest : List ℕ) (r : Result StatusPdu RlcRefusal) → a / 16 ≡ 0
    → listed_at (length (a ∷ rest)) (listed (a ∷ rest)) ≡ r → IsSound (a ∷ rest) (as_status r)
status_found a rest (Ok s) z e = control_found a rest s z e
status_found a rest (Err f) z e = tt

cpt_found : (a : ℕ) (rest : List ℕ) (z : Bool) → eqb (a / 16) 0 ≡ z
    → IsSound (a ∷ rest)
    (as_status (cond z (listed_at (length (a ∷ rest)) (listed (a ∷ rest))) (Err (refusal 0 ReservedCpt))))
cpt_found a rest true e =
    status_found a rest (listed_at (length (a ∷ rest)) (listed (a ∷ rest))) (eqb-true (a / 16) 0 e) refl
cpt_found a rest false e = tt

payload_found : (a : ℕ) (rest : List ℕ) (r : Result AmdPdu RlcRefusal) → IsSoundAmd (a ∷ rest) r
    → IsSound (a ∷ rest) (as_payload r)
payload_found a rest (Ok pdu) h = h
payload_found a rest (Err f) h = tt

either_found : (a : ℕ) (rest : List ℕ) (low : Bool) → AreOctets (a ∷ rest) → ltb a 128 ≡ low
    → IsSound (a ∷ rest) (cond low (as_status (control_at a (a ∷ rest))) (as_payload (amd_at (a ∷ rest))))
either_found a rest true fits e = cpt_found a rest (eqb (a / 16) 0) refl
either_found a rest false fits e = payload_found a rest (amd_at (a ∷ rest)) (amd_found a rest (ltb-false a 128 e) fits)

pub am_found : (octets : List ℕ) → AreOctets octets → IsSound octets (am_at octets)
am_found [] fits = tt
am_found (a ∷ rest) fits = either_found a rest (ltb a 128) fits refl

module _ (octets : List ℕ) (answer : Result AmPdu RlcRefusal) (told : Tells am_of answer (am_at octets))
    (fits : AreOctets octets) where
  pub am_in_grammar : IfOk answer (λ pdu. IsAmPdu (am_of pdu) octets)
  am_in_grammar = found_in am_of (λ pdu. IsAmPdu pdu octets) answer (am_at octets) told (am_found octets fits)

  pub am_is_read : (pdu : AcknowledgedPdu) → IsAmPdu pdu octets → IsOkAnd answer (λ read. am_of read ≡ pdu)
  am_is_read pdu h = only_in am_of answer (am_at octets) pdu told (am_accepts pdu octets fits h)
