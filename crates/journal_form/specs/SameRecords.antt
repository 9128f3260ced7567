-- When a record that shows a part of a block is another (docs/formats/JOURNAL.md).
use Rattle.std.specs.Prelude.{ℕ, ◌==◌, Bool, true, false, ◌&&◌, List, Option, Some}
use Rattle.std.specs.Prelude.{None}
use Rattle.std.specs.Cmp.Lexicographic.{pointwise}
use Rattle.std.specs.Str.{bytes_eq}
use Rattle.mac_pdu.specs.declared.item.Bsr.{Bsr}
use Rattle.mac_pdu.specs.declared.item.Bsr.TheVariants as bsrs
use Rattle.mac_pdu.specs.declared.item.Control.{Control}
use Rattle.mac_pdu.specs.declared.item.Control.TheVariants as controls
use Rattle.mac_pdu.specs.declared.fault.MacRefusal.{MacRefusal}
use Rattle.rlc_pdu.specs.declared.fault.RlcRefusal.{RlcRefusal}
use Rattle.rlc_pdu.specs.declared.pdu.Nack.{Nack}
use Rattle.rlc_pdu.specs.declared.pdu.Part.{Part}
use Rattle.pdcp_pdu.specs.declared.pdu.PdcpRefusal.{PdcpRefusal}
use Rattle.air_record.specs.Text.{mac_number, rlc_number, pdcp_number}
use Rattle.air_record.specs.declared.record.Record.{Record}
use Rattle.air_record.specs.declared.record.Record.TheVariants as records
use Rattle.journal_form.specs.Tests.{same_bit}

-- ---- fields

abbrev pub same_report : Bsr → Bsr → Bool
same_report (bsrs.Truncated group level) (bsrs.Truncated own_group own_level) =
    (group == own_group) && (level == own_level)
same_report (bsrs.Short group level) (bsrs.Short own_group own_level) =
    (group == own_group) && (level == own_level)
same_report (bsrs.Long levels) (bsrs.Long own_levels) = bytes_eq levels own_levels
same_report report own_report = false

abbrev pub same_control : Control → Control → Bool
same_control (controls.Contention identity) (controls.Contention own_identity) =
    bytes_eq identity own_identity
same_control (controls.Advance value) (controls.Advance own_value) = value == own_value
same_control controls.Drx controls.Drx = true
same_control (controls.Phr level) (controls.Phr own_level) = level == own_level
same_control (controls.Crnti identity) (controls.Crnti own_identity) = identity == own_identity
same_control (controls.Report report) (controls.Report own_report) = same_report report own_report
same_control control own_control = false

abbrev pub same_part : Option Part → Option Part → Bool
same_part None None = true
same_part (Some part) (Some own_part) =
    (part.start == own_part.start) && (part.end == own_part.end)
same_part part own_part = false

abbrev pub same_nack : Nack → Nack → Bool
same_nack nack own_nack = (nack.sn == own_nack.sn) && same_part nack.part own_nack.part

abbrev pub same_nacks : List Nack → List Nack → Bool
same_nacks nacks own_nacks = pointwise same_nack nacks own_nacks

abbrev pub same_mac : MacRefusal → MacRefusal → Bool
same_mac fault own_fault =
    (fault.at == own_fault.at) && (mac_number fault.why == mac_number own_fault.why)

abbrev pub same_rlc : RlcRefusal → RlcRefusal → Bool
same_rlc fault own_fault =
    (fault.at == own_fault.at) && (rlc_number fault.why == rlc_number own_fault.why)

abbrev pub same_pdcp : PdcpRefusal → PdcpRefusal → Bool
same_pdcp fault own_fault =
    (fault.at == own_fault.at) && (pdcp_number fault.why == pdcp_number own_fault.why)

-- ---- records

abbrev pub is_front : Record → Bool
is_front records.MacFront = true
is_front one = false

abbrev pub is_sdu : ℕ → ℕ → Record → Bool
is_sdu lcid len (records.MacSdu own_lcid own_len) = (lcid == own_lcid) && (len == own_len)
is_sdu lcid len one = false

abbrev pub is_pad : ℕ → Record → Bool
is_pad octets (records.MacPad own_octets) = octets == own_octets
is_pad octets one = false

abbrev pub is_control : Control → Record → Bool
is_control element (records.MacControl own_element) = same_control element own_element
is_control element one = false

abbrev pub is_tm : ℕ → Record → Bool
is_tm len (records.RlcTm own_len) = len == own_len
is_tm len one = false

abbrev pub is_umd : ℕ → ℕ → List ℕ → Record → Bool
is_umd sn fi lens (records.RlcUm own_sn own_fi own_lens) =
    (sn == own_sn) && (fi == own_fi) && bytes_eq lens own_lens
is_umd sn fi lens one = false

abbrev pub is_amd : ℕ → Bool → ℕ → List ℕ → Record → Bool
is_amd sn poll fi lens (records.RlcAm own_sn own_poll own_fi own_lens) =
    (sn == own_sn) && same_bit poll own_poll && (fi == own_fi) && bytes_eq lens own_lens
is_amd sn poll fi lens one = false

abbrev pub is_segment : ℕ → Bool → ℕ → Bool → ℕ → List ℕ → Record → Bool
is_segment sn poll fi last so lens
    (records.RlcSeg own_sn own_poll own_fi own_last own_so own_lens) =
    (sn == own_sn) && same_bit poll own_poll && (fi == own_fi) && same_bit last own_last
    && (so == own_so) && bytes_eq lens own_lens
is_segment sn poll fi last so lens one = false

abbrev pub is_status : ℕ → List Nack → Record → Bool
is_status ack nacks (records.RlcStatus own_ack own_nacks) =
    (ack == own_ack) && same_nacks nacks own_nacks
is_status ack nacks one = false

abbrev pub is_data : ℕ → ℕ → Record → Bool
is_data sn len (records.PdcpData own_sn own_len) = (sn == own_sn) && (len == own_len)
is_data sn len one = false

abbrev pub is_signalling : ℕ → ℕ → List ℕ → Record → Bool
is_signalling sn len tag (records.PdcpSrb own_sn own_len own_tag) =
    (sn == own_sn) && (len == own_len) && bytes_eq tag own_tag
is_signalling sn len tag one = false

abbrev pub is_report : ℕ → List ℕ → Record → Bool
is_report fms bitmap (records.PdcpReport own_fms own_bitmap) =
    (fms == own_fms) && bytes_eq bitmap own_bitmap
is_report fms bitmap one = false

abbrev pub is_bad_mac : MacRefusal → Record → Bool
is_bad_mac fault (records.BadMac own_fault) = same_mac fault own_fault
is_bad_mac fault one = false

abbrev pub is_bad_rlc : RlcRefusal → Record → Bool
is_bad_rlc fault (records.BadRlc own_fault) = same_rlc fault own_fault
is_bad_rlc fault one = false

abbrev pub is_bad_pdcp : PdcpRefusal → Record → Bool
is_bad_pdcp fault (records.BadPdcp own_fault) = same_pdcp fault own_fault
is_bad_pdcp fault one = false

abbrev pub same_shown : Record → Record → Bool
same_shown records.MacFront one = is_front one
same_shown (records.MacSdu lcid len) one = is_sdu lcid len one
same_shown (records.MacPad octets) one = is_pad octets one
same_shown (records.MacControl element) one = is_control element one
same_shown (records.RlcTm len) one = is_tm len one
same_shown (records.RlcUm sn fi lens) one = is_umd sn fi lens one
same_shown (records.RlcAm sn poll fi lens) one = is_amd sn poll fi lens one
same_shown (records.RlcSeg sn poll fi last so lens) one = is_segment sn poll fi last so lens one
same_shown (records.RlcStatus ack nacks) one = is_status ack nacks one
same_shown (records.PdcpData sn len) one = is_data sn len one
same_shown (records.PdcpSrb sn len tag) one = is_signalling sn len tag one
same_shown (records.PdcpReport fms bitmap) one = is_report fms bitmap one
same_shown (records.BadMac fault) one = is_bad_mac fault one
same_shown (records.BadRlc fault) one = is_bad_rlc fault one
same_shown (records.BadPdcp fault) one = is_bad_pdcp fault one
same_shown other one = false
