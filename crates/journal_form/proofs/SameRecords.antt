-- Records that show the same are the same.
use Rattle.std.proofs.Common.{◌≡◌, ℕ, Bool, true, false, ◌==◌, ◌&&◌, List, Option, Some, None, refl}
use Rattle.std.proofs.Common.{ap, sym, ◌∙◌, arith, eqb-true, eq-eqb}
use Rattle.std.proofs.lemmas.Bool.{and_parts}
use Rattle.std.proofs.lemmas.Slice.Eq.{bytes_eq-Decides, slice_eq-Decides}
use Rattle.std.specs.Bool.{Decides}
use Rattle.std.specs.Str.{bytes_eq}
use Rattle.mac_pdu.specs.declared.item.Bsr.{Bsr}
use Rattle.mac_pdu.specs.declared.item.Bsr.TheVariants as bsrs
use Rattle.mac_pdu.specs.declared.item.Control.{Control}
use Rattle.mac_pdu.specs.declared.item.Control.TheVariants as controls
use Rattle.mac_pdu.specs.declared.fault.MacRefusal.{MacRefusal}
use Rattle.mac_pdu.specs.declared.fault.MacWhy.{MacWhy}
use Rattle.mac_pdu.specs.declared.fault.MacWhy.TheVariants as macs
use Rattle.rlc_pdu.specs.declared.fault.RlcRefusal.{RlcRefusal}
use Rattle.rlc_pdu.specs.declared.fault.RlcWhy.{RlcWhy}
use Rattle.rlc_pdu.specs.declared.fault.RlcWhy.TheVariants as rlcs
use Rattle.rlc_pdu.specs.declared.pdu.Nack.{Nack}
use Rattle.rlc_pdu.specs.declared.pdu.Part.{Part}
use Rattle.pdcp_pdu.specs.declared.pdu.PdcpRefusal.{PdcpRefusal}
use Rattle.pdcp_pdu.specs.declared.pdu.PdcpWhy.{PdcpWhy}
use Rattle.pdcp_pdu.specs.declared.pdu.PdcpWhy.TheVariants as pdcps
use Rattle.air_record.specs.Text.{mac_number, rlc_number, pdcp_number}
use Rattle.air_record.specs.declared.record.Record.{Record}
use Rattle.air_record.specs.declared.record.Record.TheVariants as records
use Rattle.promises.specs.Records.{is_shown}
use Rattle.journal_form.specs.Tests.{same_bit}
use Rattle.journal_form.specs.SameRecords.{same_report, same_control, same_part, same_nack, same_nacks, same_mac}
use Rattle.journal_form.specs.SameRecords.{same_rlc, same_pdcp, same_shown}
use Rattle.journal_form.specs.SameRecords.{is_front, is_sdu, is_pad, is_control, is_tm, is_umd, is_amd, is_segment}
use Rattle.journal_form.specs.SameRecords.{is_status, is_data, is_signalling, is_report, is_bad_mac, is_bad_rlc}
use Rattle.journal_form.specs.SameRecords.{is_bad_pdcp}

and_both : (a b : Bool) → a ≡ true → b ≡ true → (a && b) ≡ true
and_both a b e f = rw (e, f) refl

-- ---- fields

octets_are : (a b : List ℕ) → bytes_eq a b ≡ true → a ≡ b
octets_are a b e = (bytes_eq-Decides a b).0 e

octets_same : (a : List ℕ) → bytes_eq a a ≡ true
octets_same a = (bytes_eq-Decides a a).1 refl

pub bit_is : (a b : Bool) → same_bit a b ≡ true → a ≡ b
bit_is true true e = refl
bit_is true false e = absurd cc
bit_is false true e = absurd cc
bit_is false false e = refl

pub bit_same : (a : Bool) → same_bit a a ≡ true
bit_same true = refl
bit_same false = refl

report_is : (a b : Bsr) → same_report a b ≡ true → a ≡ b
report_is (bsrs.Truncated group level) (bsrs.Truncated own_group own_level) e =
    let p = and_parts (group == own_group) (level == own_level) e in
    let e0 : group ≡ own_group = eqb-true group own_group p.0 in
    let e1 : level ≡ own_level = eqb-true level own_level p.1 in
    cc
report_is (bsrs.Short group level) (bsrs.Short own_group own_level) e =
    let p = and_parts (group == own_group) (level == own_level) e in
    let e0 : group ≡ own_group = eqb-true group own_group p.0 in
    let e1 : level ≡ own_level = eqb-true level own_level p.1 in
    cc
report_is (bsrs.Long levels) (bsrs.Long own_levels) e = ap bsrs.Long (octets_are levels own_levels e)
report_is a b e = absurd cc

report_same : (a : Bsr) → same_report a a ≡ true
report_same (bsrs.Truncated group level) =
    and_both (group == group) (level == level) (eq-eqb group group refl) (eq-eqb level level refl)
report_same (bsrs.Short group level) =
    and_both (group == group) (level == level) (eq-eqb group group refl) (eq-eqb level level refl)
report_same (bsrs.Long levels) = octets_same levels

control_is : (a b : Control) → same_control a b ≡ true → a ≡ b
control_is (controls.Contention identity) (controls.Contention own_identity) e =
    ap controls.Contention (octets_are identity own_identity e)
control_is (controls.Advance value) (controls.Advance own_value) e = ap controls.Advance (eqb-true value own_value e)
control_is controls.Drx controls.Drx e = refl
control_is (controls.Phr level) (controls.Phr own_level) e = ap controls.Phr (eqb-true level own_level e)
control_is (controls.Crnti identity) (controls.Crnti own_identity) e =
    ap controls.Crnti (eqb-true identity own_identity e)
control_is (controls.Report report) (controls.Report own_report) e =
    ap controls.Report (report_is report own_report e)
control_is a b e = absurd cc

control_same : (a : Control) → same_control a a ≡ true
control_same (controls.Contention identity) = octets_same identity
control_same (controls.Advance value) = eq-eqb value value refl
control_same controls.Drx = refl
control_same (controls.Phr level) = eq-eqb level level refl
control_same (controls.Crnti identity) = eq-eqb identity identity refl
control_same (controls.Report report) = report_same report

part_is : (a b : Option Part) → same_part a b ≡ true → a ≡ b
part_is None None e = refl
part_is (Some part) (Some own_part) e =
    let p = and_parts (part.start == own_part.start) (part.end == own_part.end) e in
    let e0 : part.start ≡ own_part.start = eqb-true part.start own_part.start p.0 in
    let e1 : part.end ≡ own_part.end = eqb-true part.end own_part.end p.1 in
    ap Some (ap (λ (n : ℕ). record part { start = n }) e0 ∙ ap (λ (n : ℕ). record own_part { end = n }) e1)
part_is a b e = absurd cc

part_same : (a : Option Part) → same_part a a ≡ true
part_same None = refl
part_same (Some part) =
    and_both (part.start == part.start) (part.end == part.end) (eq-eqb part.start part.start refl)
    (eq-eqb part.end part.end refl)

nack_is : (a b : Nack) → same_nack a b ≡ true → a ≡ b
nack_is a b e =
    let p = and_parts (a.sn == b.sn) (same_part a.part b.part) e in
    let e0 : a.sn ≡ b.sn = eqb-true a.sn b.sn p.0 in
    let e1 : a.part ≡ b.part = part_is a.part b.part p.1 in
    ap (λ (n : ℕ). record a { sn = n }) e0 ∙ ap (λ (o : Option Part). record b { part = o }) e1

nack_same : (a : Nack) → same_nack a a ≡ true
nack_same a = and_both (a.sn == a.sn) (same_part a.part a.part) (eq-eqb a.sn a.sn refl) (part_same a.part)

nacks_decide : (a b : Nack) → Decides (same_nack a b) (a ≡ b)
nacks_decide a b =
    (nack_is a b, λ (e : a ≡ b). ap (λ (n : Nack). same_nack a n) (sym e) ∙ nack_same a)

nacks_are : (a b : List Nack) → same_nacks a b ≡ true → a ≡ b
nacks_are a b e = (slice_eq-Decides nacks_decide a b (same_nacks a b) refl).0 e

nacks_same : (a : List Nack) → same_nacks a a ≡ true
nacks_same a = (slice_eq-Decides nacks_decide a a (same_nacks a a) refl).1 refl

mac_why : (a b : MacWhy) → mac_number a ≡ mac_number b → a ≡ b
mac_why macs.Short macs.Short e = refl
mac_why macs.ReservedLcid macs.ReservedLcid e = refl
mac_why macs.LengthPast macs.LengthPast e = refl
mac_why macs.ControlAfterSdu macs.ControlAfterSdu e = refl
mac_why macs.PaddingPlace macs.PaddingPlace e = refl
mac_why a b e = absurd (omega arith)

mac_is : (a b : MacRefusal) → same_mac a b ≡ true → a ≡ b
mac_is a b e =
    let p = and_parts (a.at == b.at) (mac_number a.why == mac_number b.why) e in
    let e0 : a.at ≡ b.at = eqb-true a.at b.at p.0 in
    let e1 : a.why ≡ b.why = mac_why a.why b.why (eqb-true (mac_number a.why) (mac_number b.why) p.1) in
    ap (λ (n : ℕ). record a { at = n }) e0 ∙ ap (λ (w : MacWhy). record b { why = w }) e1

mac_same : (a : MacRefusal) → same_mac a a ≡ true
mac_same a =
    and_both (a.at == a.at) (mac_number a.why == mac_number a.why) (eq-eqb a.at a.at refl)
    (eq-eqb (mac_number a.why) (mac_number a.why) refl)

rlc_why : (a b : RlcWhy) → rlc_number a ≡ rlc_number b → a ≡ b
rlc_why rlcs.Short rlcs.Short e = refl
rlc_why rlcs.ZeroLi rlcs.ZeroLi e = refl
rlc_why rlcs.LiPast rlcs.LiPast e = refl
rlc_why rlcs.EmptyData rlcs.EmptyData e = refl
rlc_why rlcs.ReservedCpt rlcs.ReservedCpt e = refl
rlc_why rlcs.SoBackwards rlcs.SoBackwards e = refl
rlc_why rlcs.Trailing rlcs.Trailing e = refl
rlc_why a b e = absurd (omega arith)

rlc_is : (a b : RlcRefusal) → same_rlc a b ≡ true → a ≡ b
rlc_is a b e =
    let p = and_parts (a.at == b.at) (rlc_number a.why == rlc_number b.why) e in
    let e0 : a.at ≡ b.at = eqb-true a.at b.at p.0 in
    let e1 : a.why ≡ b.why = rlc_why a.why b.why (eqb-true (rlc_number a.why) (rlc_number b.why) p.1) in
    ap (λ (n : ℕ). record a { at = n }) e0 ∙ ap (λ (w : RlcWhy). record b { why = w }) e1

rlc_same : (a : RlcRefusal) → same_rlc a a ≡ true
rlc_same a =
    and_both (a.at == a.at) (rlc_number a.why == rlc_number a.why) (eq-eqb a.at a.at refl)
    (eq-eqb (rlc_number a.why) (rlc_number a.why) refl)

pdcp_why : (a b : PdcpWhy) → pdcp_number a ≡ pdcp_number b → a ≡ b
pdcp_why pdcps.Short pdcps.Short e = refl
pdcp_why pdcps.ReservedType pdcps.ReservedType e = refl
pdcp_why pdcps.EmptyData pdcps.EmptyData e = refl
pdcp_why a b e = absurd (omega arith)

pdcp_is : (a b : PdcpRefusal) → same_pdcp a b ≡ true → a ≡ b
pdcp_is a b e =
    let p = and_parts (a.at == b.at) (pdcp_number a.why == pdcp_number b.why) e in
    let e0 : a.at ≡ b.at = eqb-true a.at b.at p.0 in
    let e1 : a.why ≡ b.why = pdcp_why a.why b.why (eqb-true (pdcp_number a.why) (pdcp_number b.why) p.1) in
    ap (λ (n : ℕ). record a { at = n }) e0 ∙ ap (λ (w : PdcpWhy). record b { why = w }) e1

pdcp_same : (a : PdcpRefusal) → same_pdcp a a ≡ true
pdcp_same a =
    and_both (a.at == a.at) (pdcp_number a.why == pdcp_number a.why) (eq-eqb a.at a.at refl)
    (eq-eqb (pdcp_number a.why) (pdcp_number a.why) refl)

-- ---- records

is_that_front : (one : Record) → is_front one ≡ true → records.MacFront ≡ one
is_that_front records.MacFront e = refl
is_that_front one e = absurd cc

is_that_sdu : (lcid : ℕ) (len : ℕ) (one : Record) → is_sdu lcid len one ≡ true → records.MacSdu lcid len ≡ one
is_that_sdu lcid len (records.MacSdu own_lcid own_len) e =
    let p1 = and_parts (lcid == own_lcid) (len == own_len) e in
    let e0 : lcid ≡ own_lcid = eqb-true lcid own_lcid p1.0 in
    let e1 : len ≡ own_len = eqb-true len own_len p1.1 in
    cc
is_that_sdu lcid len one e = absurd cc

is_that_pad : (octets : ℕ) (one : Record) → is_pad octets one ≡ true → records.MacPad octets ≡ one
is_that_pad octets (records.MacPad own_octets) e =
    let e0 : octets ≡ own_octets = eqb-true octets own_octets e in
    cc
is_that_pad octets one e = absurd cc

is_that_control : (element : Control) (one : Record) → is_control element one ≡ true → records.MacControl element ≡ one
is_that_control element (records.MacControl own_element) e =
    let e0 : element ≡ own_element = control_is element own_element e in
    cc
is_that_control element one e = absurd cc

is_that_tm : (len : ℕ) (one : Record) → is_tm len one ≡ true → records.RlcTm len ≡ one
is_that_tm len (records.RlcTm own_len) e =
    let e0 : len ≡ own_len = eqb-true len own_len e in
    cc
is_that_tm len one e = absurd cc

is_that_umd : (sn : ℕ) (fi : ℕ) (lens : List ℕ) (one : Record) → is_umd sn fi lens one ≡ true
    → records.RlcUm sn fi lens ≡ one
is_that_umd sn fi lens (records.RlcUm own_sn own_fi own_lens) e =
    let p2 = and_parts ((sn == own_sn) && (fi == own_fi)) (bytes_eq lens own_lens) e in
    let p1 = and_parts (sn == own_sn) (fi == own_fi) p2.0 in
    let e0 : sn ≡ own_sn = eqb-true sn own_sn p1.0 in
    let e1 : fi ≡ own_fi = eqb-true fi own_fi p1.1 in
    let e2 : lens ≡ own_lens = octets_are lens own_lens p2.1 in
    cc
is_that_umd sn fi lens one e = absurd cc

is_that_amd : (sn : ℕ) (poll : Bool) (fi : ℕ) (lens : List ℕ) (one : Record) → is_amd sn poll fi lens one ≡ true
    → records.RlcAm sn poll fi lens ≡ one
is_that_amd sn poll fi lens (records.RlcAm own_sn own_poll own_fi own_lens) e =
    let p3 = and_parts ((sn == own_sn) && same_bit poll own_poll && (fi == own_fi)) (bytes_eq lens own_lens) e in
    let p2 = and_parts ((sn == own_sn) && same_bit poll own_poll) (fi == own_fi) p3.0 in
    let p1 = and_parts (sn == own_sn) (same_bit poll own_poll) p2.0 in
    let e0 : sn ≡ own_sn = eqb-true sn own_sn p1.0 in
    let e1 : poll ≡ own_poll = bit_is poll own_poll p1.1 in
    let e2 : fi ≡ own_fi = eqb-true fi own_fi p2.1 in
    let e3 : lens ≡ own_lens = octets_are lens own_lens p3.1 in
    cc
is_that_amd sn poll fi lens one e = absurd cc

is_that_segment : (sn : ℕ) (poll : Bool) (fi : ℕ) (last : Bool) (so : ℕ) (lens : List ℕ) (one : Record)
    → is_segment sn poll fi last so lens one ≡ true → records.RlcSeg sn poll fi last so lens ≡ one
is_that_segment sn poll fi last so lens (records.RlcSeg own_sn own_poll own_fi own_last own_so own_lens) e =
    let p5 = and_parts
    ((sn == own_sn) && same_bit poll own_poll && (fi == own_fi) && same_bit last own_last && (so == own_so))
    (bytes_eq lens own_lens) e in
    let p4 = and_parts ((sn == own_sn) && same_bit poll own_poll && (fi == own_fi) && same_bit last own_last)
    (so == own_so) p5.0 in
    let p3 = and_parts ((sn == own_sn) && same_bit poll own_poll && (fi == own_fi)) (same_bit last own_last) p4.0 in
    let p2 = and_parts ((sn == own_sn) && same_bit poll own_poll) (fi == own_fi) p3.0 in
    let p1 = and_parts (sn == own_sn) (same_bit poll own_poll) p2.0 in
    let e0 : sn ≡ own_sn = eqb-true sn own_sn p1.0 in
    let e1 : poll ≡ own_poll = bit_is poll own_poll p1.1 in
    let e2 : fi ≡ own_fi = eqb-true fi own_fi p2.1 in
    let e3 : last ≡ own_last = bit_is last own_last p3.1 in
    let e4 : so ≡ own_so = eqb-true so own_so p4.1 in
    let e5 : lens ≡ own_lens = octets_are lens own_lens p5.1 in
    cc
is_that_segment sn poll fi last so lens one e = absurd cc

is_that_status : (ack : ℕ) (nacks : List Nack) (one : Record) → is_status ack nacks one ≡ true
    → records.RlcStatus ack nacks ≡ one
is_that_status ack nacks (records.RlcStatus own_ack own_nacks) e =
    let p1 = and_parts (ack == own_ack) (same_nacks nacks own_nacks) e in
    let e0 : ack ≡ own_ack = eqb-true ack own_ack p1.0 in
    let e1 : nacks ≡ own_nacks = nacks_are nacks own_nacks p1.1 in
    cc
is_that_status ack nacks one e = absurd cc

is_that_data : (sn : ℕ) (len : ℕ) (one : Record) → is_data sn len one ≡ true → records.PdcpData sn len ≡ one
is_that_data sn len (records.PdcpData own_sn own_len) e =
    let p1 = and_parts (sn == own_sn) (len == own_len) e in
    let e0 : sn ≡ own_sn = eqb-true sn own_sn p1.0 in
    let e1 : len ≡ own_len = eqb-true len own_len p1.1 in
    cc
is_that_data sn len one e = absurd cc

is_that_signalling : (sn : ℕ) (len : ℕ) (tag : List ℕ) (one : Record) → is_signalling sn len tag one ≡ true
    → records.PdcpSrb sn len tag ≡ one
is_that_signalling sn len tag (records.PdcpSrb own_sn own_len own_tag) e =
    let p2 = and_parts ((sn == own_sn) && (len == own_len)) (bytes_eq tag own_tag) e in
    let p1 = and_parts (sn == own_sn) (len == own_len) p2.0 in
    let e0 : sn ≡ own_sn = eqb-true sn own_sn p1.0 in
    let e1 : len ≡ own_len = eqb-true len own_len p1.1 in
    let e2 : tag ≡ own_tag = octets_are tag own_tag p2.1 in
    cc
is_that_signalling sn len tag one e = absurd cc

is_that_report : (fms : ℕ) (bitmap : List ℕ) (one : Record) → is_report fms bitmap one ≡ true
    → records.PdcpReport fms bitmap ≡ one
is_that_report fms bitmap (records.PdcpReport own_fms own_bitmap) e =
    let p1 = and_parts (fms == own_fms) (bytes_eq bitmap own_bitmap) e in
    let e0 : fms ≡ own_fms = eqb-true fms own_fms p1.0 in
    let e1 : bitmap ≡ own_bitmap = octets_are bitmap own_bitmap p1.1 in
    cc
is_that_report fms bitmap one e = absurd cc

is_that_bad_mac : (fault : MacRefusal) (one : Record) → is_bad_mac fault one ≡ true → records.BadMac fault ≡ one
is_that_bad_mac fault (records.BadMac own_fault) e =
    let e0 : fault ≡ own_fault = mac_is fault own_fault e in
    cc
is_that_bad_mac fault one e = absurd cc

is_that_bad_rlc : (fault : RlcRefusal) (one : Record) → is_bad_rlc fault one ≡ true → records.BadRlc fault ≡ one
is_that_bad_rlc fault (records.BadRlc own_fault) e =
    let e0 : fault ≡ own_fault = rlc_is fault own_fault e in
    cc
is_that_bad_rlc fault one e = absurd cc

is_that_bad_pdcp : (fault : PdcpRefusal) (one : Record) → is_bad_pdcp fault one ≡ true → records.BadPdcp fault ≡ one
is_that_bad_pdcp fault (records.BadPdcp own_fault) e =
    let e0 : fault ≡ own_fault = pdcp_is fault own_fault e in
    cc
is_that_bad_pdcp fault one e = absurd cc

pub shown_is : (other one : Record) → same_shown other one ≡ true → other ≡ one
shown_is records.MacFront one e = is_that_front one e
shown_is (records.MacSdu lcid len) one e = is_that_sdu lcid len one e
shown_is (records.MacPad octets) one e = is_that_pad octets one e
shown_is (records.MacControl element) one e = is_that_control element one e
shown_is (records.RlcTm len) one e = is_that_tm len one e
shown_is (records.RlcUm sn fi lens) one e = is_that_umd sn fi lens one e
shown_is (records.RlcAm sn poll fi lens) one e = is_that_amd sn poll fi lens one e
shown_is (records.RlcSeg sn poll fi last so lens) one e = is_that_segment sn poll fi last so lens one e
shown_is (records.RlcStatus ack nacks) one e = is_that_status ack nacks one e
shown_is (records.PdcpData sn len) one e = is_that_data sn len one e
shown_is (records.PdcpSrb sn len tag) one e = is_that_signalling sn len tag one e
shown_is (records.PdcpReport fms bitmap) one e = is_that_report fms bitmap one e
shown_is (records.BadMac fault) one e = is_that_bad_mac fault one e
shown_is (records.BadRlc fault) one e = is_that_bad_rlc fault one e
shown_is (records.BadPdcp fault) one e = is_that_bad_pdcp fault one e
shown_is other one e = absurd cc

pub shown_same : (one : Record) → is_shown one ≡ true → same_shown one one ≡ true
shown_same records.MacFront e = refl
shown_same (records.MacSdu lcid len) e =
    and_both (lcid == lcid) (len == len) (eq-eqb lcid lcid refl) (eq-eqb len len refl)
shown_same (records.MacPad octets) e = eq-eqb octets octets refl
shown_same (records.MacControl element) e = control_same element
shown_same (records.RlcTm len) e = eq-eqb len len refl
shown_same (records.RlcUm sn fi lens) e =
    and_both ((sn == sn) && (fi == fi)) (bytes_eq lens lens)
    (and_both (sn == sn) (fi == fi) (eq-eqb sn sn refl) (eq-eqb fi fi refl)) (octets_same lens)
shown_same (records.RlcAm sn poll fi lens) e =
    and_both ((sn == sn) && same_bit poll poll && (fi == fi)) (bytes_eq lens lens)
    (and_both ((sn == sn) && same_bit poll poll) (fi == fi)
    (and_both (sn == sn) (same_bit poll poll) (eq-eqb sn sn refl) (bit_same poll)) (eq-eqb fi fi refl))
    (octets_same lens)
shown_same (records.RlcSeg sn poll fi last so lens) e =
    and_both ((sn == sn) && same_bit poll poll && (fi == fi) && same_bit last last && (so == so)) (bytes_eq lens lens)
    (and_both ((sn == sn) && same_bit poll poll && (fi == fi) && same_bit last last) (so == so)
    (and_both ((sn == sn) && same_bit poll poll && (fi == fi)) (same_bit last last)
    (and_both ((sn == sn) && same_bit poll poll) (fi == fi)
    (and_both (sn == sn) (same_bit poll poll) (eq-eqb sn sn refl) (bit_same poll)) (eq-eqb fi fi refl))
    (bit_same last)) (eq-eqb so so refl)) (octets_same lens)
shown_same (records.RlcStatus ack nacks) e =
    and_both (ack == ack) (same_nacks nacks nacks) (eq-eqb ack ack refl) (nacks_same nacks)
shown_same (records.PdcpData sn len) e = and_both (sn == sn) (len == len) (eq-eqb sn sn refl) (eq-eqb len len refl)
shown_same (records.PdcpSrb sn len tag) e =
    and_both ((sn == sn) && (len == len)) (bytes_eq tag tag)
    (and_both (sn == sn) (len == len) (eq-eqb sn sn refl) (eq-eqb len len refl)) (octets_same tag)
shown_same (records.PdcpReport fms bitmap) e =
    and_both (fms == fms) (bytes_eq bitmap bitmap) (eq-eqb fms fms refl) (octets_same bitmap)
shown_same (records.BadMac fault) e = mac_same fault
shown_same (records.BadRlc fault) e = rlc_same fault
shown_same (records.BadPdcp fault) e = pdcp_same fault
shown_same one e = absurd cc
