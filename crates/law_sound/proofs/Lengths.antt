-- A PDU of PDCP is as long as the record says that tells of it.
use Rattle.std.proofs.Common.{◌≡◌, ◌≢◌, ℕ, ◌+◌, ◌*◌, ◌/◌, ◌%◌, ◌^◌, ◌==◌, Bool, true, false, if◌then◌else◌, List, []}
use Rattle.std.proofs.Common.{◌∷◌, ◌++◌}
use Rattle.std.proofs.Common.{length, Option, Some, None, Result, Ok, Err, refl, ap, sym, subst, ◌∙◌, arith}
use Rattle.std.proofs.Common.{option_map, slice_get, length-append}
use Rattle.std.proofs.lemmas.Bool.Decides.{nat_tests}
use Rattle.pdcp_pdu.specs.declared.pdu.PdcpKind.{PdcpKind}
use Rattle.pdcp_pdu.specs.declared.pdu.PdcpKind.TheVariants.{Srb, Um, Am}
use Rattle.pdcp_pdu.specs.declared.pdu.PdcpRefusal.{PdcpRefusal}
use Rattle.pdcp_pdu.specs.Grammar.{data_header, srb_header}
use Rattle.pdcp_pdu.specs.Pdus.{UserPdu, Sdu, Report}
use Rattle.pdcp_pdu.specs.Reading.{user_at, sdu_at, short_user, middle_user, long_user, long_report}
use Rattle.pdcp_pdu.specs.Reading.{refused}
use Rattle.pdcp_pdu.specs.declared.pdu.PdcpWhy.TheVariants.{ReservedType}
use Rattle.pdcp_pdu.specs.Refusals.{is_data, has_report_type}
use Rattle.pdcp_sec.specs.Protection.{Protection, ciphered_with}
use Rattle.pdcp_sec.proofs.Lengths.{length_ciphered_with}
use Rattle.pdcp_tx.specs.Pdus.{pdu, mac_i}
use Rattle.pdcp_tx.specs.State.{Offer, offers, taking, written}
use Rattle.bearer_pdcp.specs.Taking.{taken, taking_told, next_told, report_told}
use Rattle.bearer_types.specs.declared.event.Event.{Event}
use Rattle.bearer_types.specs.declared.event.Event.TheVariants as events
use Rattle.journal_account.specs.FlowEvents.{SduTaken}
use Rattle.law_run.proofs.OwnReports.{tag_length}
use Rattle.law_sound.specs.LogLaws.{event_told, sdu_size}
use Rattle.law_sound.specs.SduLaws.{IsAcknowledged, TakenAreTold}

-- ---- an SDU

header_two : (bits sn : ℕ) → bits ≢ 7 → length (data_header bits 0 sn) ≡ 2
header_two bits sn wide = by (bits == 7) (bits == 12) is
  where
    is : (bits == 7) ≡ false
    is = grind (arith, nat_tests, wide)

    by : (b c : Bool) → b ≡ false
        → length (if b then (128 + sn) ∷ [] else if c then (128 + 0 * 16 + sn / 256) ∷ (sn % 256) ∷ []
        else (128 + sn / 256) ∷ (sn % 256) ∷ []) ≡ 2
    by true c e = cc
    by false true e = refl
    by false false e = refl

pdu_size : (kind : PdcpKind) (p : Protection) (count : ℕ) (sdu : List ℕ) → IsAcknowledged kind
    → length (pdu kind p count sdu) ≡ sdu_size kind (length sdu)
unfolding pdu
pdu_size Srb p count sdu of-signalling =
    let body = sdu ++ mac_i p count sdu in
    let a = length-append (srb_header 0 (count % 32)) (ciphered_with p count body) in
    let b = length-append sdu (mac_i p count sdu) in
    omega (arith, a, b, length_ciphered_with p count body, tag_length p count sdu)
pdu_size (Um bits) p count sdu none = absurd none
pdu_size (Am bits) p count sdu wide =
    let a = length-append (data_header bits 0 (count % 2 ^ bits)) (ciphered_with p count sdu) in
    omega (arith, a, header_two bits (count % 2 ^ bits) wide, length_ciphered_with p count sdu)

-- ---- a report

-- what is told of a PDU that is read
abbrev IsSized : ℕ → List ℕ → Result UserPdu PdcpRefusal → Type 0
IsSized head octets (Ok (Report fms bitmap)) = head + length bitmap ≡ length octets
IsSized head octets (Ok (Sdu sn body)) = Unit {0}
IsSized head octets (Err refusal) = Unit {0}

sdu_sized : (head at sn : ℕ) (octets rest : List ℕ) → IsSized head octets (sdu_at at sn rest)
unfolding sdu_at
sdu_sized head at sn octets [] = tt
sdu_sized head at sn octets (o ∷ os) = tt

middle_sized : (octets : List ℕ) → IsSized 2 octets (middle_user octets)
unfolding middle_user
middle_sized [] = tt
middle_sized (a ∷ []) = tt
middle_sized (a ∷ b ∷ rest) = by (is_data a) (has_report_type a)
  where
    by : (d t : Bool) → IsSized 2 (a ∷ b ∷ rest) (if d then sdu_at 2 (a % 16 * 256 + b) rest
        else if t then Ok (Report (a % 16 * 256 + b) rest) else refused 0 ReservedType)
    by true t = sdu_sized 2 2 (a % 16 * 256 + b) (a ∷ b ∷ rest) rest
    by false true = omega arith
    by false false = tt

long_sized : (octets : List ℕ) → IsSized 3 octets (long_user octets)
unfolding long_user long_report
long_sized [] = tt
long_sized (a ∷ []) = tt
long_sized (a ∷ b ∷ rest) = by (is_data a) (has_report_type a) rest
  where
    by : (d t : Bool) (rest : List ℕ) → IsSized 3 (a ∷ b ∷ rest) (if d then sdu_at 2 (a % 128 * 256 + b) rest
        else if t then long_report b rest else refused 0 ReservedType)
    by true t rest = sdu_sized 3 2 (a % 128 * 256 + b) (a ∷ b ∷ rest) rest
    by false true [] = tt
    by false true (c ∷ rest) = omega arith
    by false false rest = tt

user_sized : (bits : ℕ) (octets : List ℕ) → bits ≢ 7
    → IsSized (if bits == 12 then 2 else 3) octets (user_at bits octets)
user_sized bits octets wide = by (bits == 7) (bits == 12) is
  where
    is : (bits == 7) ≡ false
    is = grind (arith, nat_tests, wide)

    by : (b c : Bool) → b ≡ false
        → IsSized (if c then 2 else 3) octets (if b then short_user octets else if c then middle_user octets
        else long_user octets)
    by true c e = cc
    by false true e = middle_sized octets
    by false false e = long_sized octets

report_is : (bits lcid : ℕ) (octets : List ℕ) (event : Event) (r : Result UserPdu PdcpRefusal)
    → IsSized (if bits == 12 then 2 else 3) octets r → report_told lcid r ≡ event ∷ []
    → event_told (Am bits) false event ≡ Some (SduTaken (length octets))
report_is bits lcid octets event (Err refusal) s e = cc
report_is bits lcid octets event (Ok (Sdu sn body)) s e = cc
report_is bits lcid octets event (Ok (Report fms bitmap)) s e =
    let is : event ≡ events.Report lcid fms bitmap = cc in
    ap (event_told (Am bits) false) is ∙ ap (λ (n : ℕ). Some (SduTaken n)) s

-- ---- what is taken

next_is_told : (kind : PdcpKind) (lcid : ℕ) (p : Protection) (count : Option ℕ) (text : List ℕ) (event : Event)
    → IsAcknowledged kind → next_told lcid kind (Some (written kind p count text)) ≡ event ∷ []
    → event_told kind false event ≡ Some (SduTaken (length (written kind p count text).octets))
next_is_told Srb lcid p None text event a e = cc
next_is_told (Um bits) lcid p None text event a e = absurd a
next_is_told (Am bits) lcid p None text event wide e =
    report_is bits lcid text event (user_at bits text) (user_sized bits text wide) e
next_is_told kind lcid p (Some count) text event a e =
    let is : event ≡ events.Take lcid (Some count) (length text) = cc in
    ap (event_told kind false) is ∙ ap (λ (n : ℕ). Some (SduTaken n)) (sym (pdu_size kind p count text a))

offer_told : (kind own : PdcpKind) (lcid : ℕ) (p : Protection) (o : Option Offer) (sdu : List ℕ) (event : Event)
    → IsAcknowledged kind → own ≡ kind
    → option_map (λ n. n.octets) (option_map (λ (x : Offer). written own p x.count x.text) o) ≡ Some sdu
    → next_told lcid kind (option_map (λ (x : Offer). written own p x.count x.text) o) ≡ event ∷ []
    → event_told kind false event ≡ Some (SduTaken (length sdu))
offer_told kind own lcid p None sdu event a k t e = cc
offer_told kind own lcid p (Some x) sdu event a k t e =
    let is : (written kind p x.count x.text).octets ≡ sdu =
    let at = ap (λ (y : PdcpKind). (written y p x.count x.text).octets) (sym k) in at ∙ cc in
    next_is_told kind lcid p x.count x.text event a
    (subst (λ (y : PdcpKind). next_told lcid kind (Some (written y p x.count x.text)) ≡ event ∷ []) k e)
    ∙ ap (λ (xs : List ℕ). Some (SduTaken (length xs))) is

pub taken_are_told : TakenAreTold
unfolding taken taking_told taking
taken_are_told kind e sdu event h t told =
    offer_told kind e.tx.kind e.lcid e.tx.protection (slice_get (offers e.tx) 0) sdu event h.acknowledged h.sending t
    (subst (λ (k : PdcpKind). next_told e.lcid k (taking e.tx) ≡ event ∷ []) h.kind_is told)
