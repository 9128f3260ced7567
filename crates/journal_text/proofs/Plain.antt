-- Records read back from their words, in which no space stands.
use Rattle.std.proofs.Common.{◌≡◌, ◌<◌, ◌/◌, ◌%◌, ◌+◌, ◌*◌, ◌^◌, ℕ, zero, suc, true, false, List, [], ◌∷◌, Ok, refl}
use Rattle.std.proofs.Common.{arith, ap, codes}
use Rattle.std.specs.Str.{bytes_eq}
use Rattle.bearer_types.specs.declared.event.Event.TheVariants as events
use Rattle.mac_pdu.specs.declared.item.Bsr.TheVariants as bsrs
use Rattle.mac_pdu.specs.declared.item.Control.TheVariants as controls
use Rattle.air_record.specs.declared.record.Record.{Record}
use Rattle.air_record.specs.declared.record.Record.TheVariants.{Line, Tti, Of, Block, Air, Refused, Looped, Drained}
use Rattle.air_record.specs.declared.record.Record.TheVariants.{Sum, MacFront, MacSdu, MacPad, MacControl, RlcTm}
use Rattle.air_record.specs.declared.record.Record.TheVariants.{RlcUm, RlcAm, RlcSeg, RlcStatus, PdcpData, PdcpSrb}
use Rattle.air_record.specs.declared.record.Record.TheVariants.{PdcpReport, Shown, BadMac, BadRlc, BadPdcp, Sleep}
use Rattle.air_record.specs.Text.{record_words}
use Rattle.journal_text.specs.Events.{take_of, report_of, send_of, wait_of, start_of, stop_of, expired_of, up_of}
use Rattle.journal_text.specs.Events.{fail_of, drop_of, integrity_of, discard_of, bad_block_of, bad_rlc_of}
use Rattle.journal_text.specs.Events.{bad_pdcp_of, bad_of, event_of}
use Rattle.journal_text.specs.Blocks.{tti_of, sleep_of, block_of, air_of, refused_of, looped_of, drained_of}
use Rattle.journal_text.specs.Blocks.{sum_of}
use Rattle.journal_text.specs.Pdus.{front_of, sdu_of, pad_of, truncated_of, short_of, long_of, phr_of, crnti_of}
use Rattle.journal_text.specs.Pdus.{advance_of, drx_of, contention_of, transparent_of, umd_of, amd_of, segment_of}
use Rattle.journal_text.specs.Pdus.{status_of, user_of, signalling_of, status_report_of, bsr_of, mac_of, rlc_of}
use Rattle.journal_text.specs.Pdus.{pdcp_of}
use Rattle.journal_text.specs.Reading.{words_of}
use Rattle.journal_text.specs.Records.{IsJournalRecord, IsArray}
use Rattle.hex.specs.Hex.{IsBytes}
use Rattle.journal_text.proofs.Cuts.{are_free}
use Rattle.journal_text.proofs.Words.{side-back, clock-back, how-back, waits-back, lost-back, direction-back}
use Rattle.journal_text.proofs.Words.{arrived-back, place-back, state-back, fresh-back, heard-back, bit-back}
use Rattle.journal_text.proofs.Words.{framing-back, mac-why-back, rlc-why-back, pdcp-why-back, side-free, clock-free}
use Rattle.journal_text.proofs.Words.{how-free, waits-free, lost-free, direction-free, arrived-free, place-free}
use Rattle.journal_text.proofs.Words.{state-free, fresh-free, heard-free, bit-free, framing-free, mac-why-free}
use Rattle.journal_text.proofs.Words.{rlc-why-free, pdcp-why-free}
use Rattle.journal_text.proofs.Numbers.{octet-back, number-back, long-back, count-back, octet-free, number-free}
use Rattle.journal_text.proofs.Numbers.{long-free, count-free}
use Rattle.journal_text.proofs.Octets.{octets-back, array-back, bitmap-back, octets-free, bitmap-free}
use Rattle.journal_text.proofs.Commas.{lens-back, nacks-back, lens-free, nacks-free}

-- any record but that of a line
abbrev pub IsPlain : Record → Type 0
IsPlain (Line number line) = ⊥
IsPlain one = IsJournalRecord one

-- the two octets of a number
two-octets : (n : ℕ) → n < 2 ^ 16 → n / 256 * 256 + n % 256 ≡ n
two-octets n h = omega arith

pair-octets : (n : ℕ) → n < 2 ^ 16 → IsArray 2 (n / 256 ∷ n % 256 ∷ [])
pair-octets n h = (places, refl)
  where
    places : IsBytes (n / 256 ∷ n % 256 ∷ [])
    places zero = omega (arith, h)
    places (suc zero) = omega arith
    places (suc (suc k)) = omega arith

pub plain-back : (one : Record) → IsPlain one → words_of (record_words one) ≡ Ok one
unfolding words_of take_of report_of send_of wait_of start_of stop_of expired_of up_of fail_of drop_of integrity_of
    discard_of bad_block_of bad_rlc_of bad_pdcp_of tti_of sleep_of block_of air_of refused_of looped_of drained_of
    sum_of front_of sdu_of pad_of truncated_of short_of long_of phr_of crnti_of advance_of drx_of contention_of
    transparent_of umd_of amd_of segment_of status_of user_of signalling_of status_report_of bad_of bsr_of mac_of rlc_of
    pdcp_of event_of
plain-back (Of side (events.Take lcid count len)) h =
    rw (side-back side, octet-back lcid h.0, count-back count h.1, number-back len h.2) refl
plain-back (Of side (events.Report lcid fms bitmap)) h =
    rw (side-back side, octet-back lcid h.0, number-back fms h.1, bitmap-back bitmap h.2) refl
plain-back (Of side (events.Send lcid how sn)) h =
    rw (side-back side, octet-back lcid h.0, how-back how, number-back sn h.1) refl
plain-back (Of side (events.Wait lcid why)) h = rw (side-back side, octet-back lcid h, waits-back why) refl
plain-back (Of side (events.Start lcid clock)) h = rw (side-back side, octet-back lcid h, clock-back clock) refl
plain-back (Of side (events.Stop lcid clock)) h = rw (side-back side, octet-back lcid h, clock-back clock) refl
plain-back (Of side (events.Expired lcid clock)) h = rw (side-back side, octet-back lcid h, clock-back clock) refl
plain-back (Of side (events.Up lcid octets)) h = rw (side-back side, octet-back lcid h.0, octets-back octets h.1) refl
plain-back (Of side (events.Fail lcid sn)) h = rw (side-back side, octet-back lcid h.0, number-back sn h.1) refl
plain-back (Of side (events.Drop lcid why)) h = rw (side-back side, octet-back lcid h, lost-back why) refl
plain-back (Of side (events.Integrity lcid found wanted)) h =
    rw (side-back side, octet-back lcid h.0, array-back 4 found h.1, array-back 4 wanted h.2) refl
plain-back (Of side (events.Discard lcid len)) h = rw (side-back side, octet-back lcid h.0, number-back len h.1) refl
plain-back (Of side (events.BadMac fault)) h = rw (side-back side, number-back fault.at h, mac-why-back fault.why) refl
plain-back (Of side (events.BadRlc lcid fault)) h =
    rw (side-back side, octet-back lcid h.0, number-back fault.at h.1, rlc-why-back fault.why) refl
plain-back (Of side (events.BadPdcp lcid fault)) h =
    rw (side-back side, octet-back lcid h.0, number-back fault.at h.1, pdcp-why-back fault.why) refl
plain-back (Tti tti) h = rw (long-back tti h) refl
plain-back Sleep h = refl
plain-back (Block direction process fresh rv octets) h =
    rw (
      direction-back direction,
      number-back process h.0,
      fresh-back fresh,
      octet-back rv h.1,
      octets-back octets h.2,
    ) refl
plain-back (Air direction what heard) h = rw (direction-back direction, arrived-back what, heard-back heard) refl
plain-back (Refused side lcid why) h = rw (side-back side, octet-back lcid h, place-back why) refl
plain-back (Looped lcid octets) h = rw (octet-back lcid h.0, octets-back octets h.1) refl
plain-back (Drained rounds) h = rw (long-back rounds h) refl
plain-back (Sum direction lcid submitted delivered state) h =
    rw (
      direction-back direction,
      octet-back lcid h.0,
      long-back submitted h.1,
      long-back delivered h.2,
      state-back state,
    ) refl
plain-back MacFront h = refl
plain-back (MacSdu lcid len) h = rw (octet-back lcid h.0, number-back len h.1) refl
plain-back (MacPad octets) h = rw (number-back octets h) refl
plain-back (MacControl (controls.Report (bsrs.Truncated group level))) h =
    rw (octet-back group h.0, octet-back level h.1) refl
plain-back (MacControl (controls.Report (bsrs.Short group level))) h =
    rw (octet-back group h.0, octet-back level h.1) refl
plain-back (MacControl (controls.Report (bsrs.Long (a ∷ b ∷ c ∷ d ∷ [])))) h =
    rw (
      octet-back a (h.0 zero),
      octet-back b (h.0 (suc zero)),
      octet-back c (h.0 (suc (suc zero))),
      octet-back d (h.0 (suc (suc (suc zero)))),
    ) refl
plain-back (MacControl (controls.Report (bsrs.Long []))) h = absurd (omega (arith, h.1))
plain-back (MacControl (controls.Report (bsrs.Long (a ∷ [])))) h = absurd (omega (arith, h.1))
plain-back (MacControl (controls.Report (bsrs.Long (a ∷ b ∷ [])))) h = absurd (omega (arith, h.1))
plain-back (MacControl (controls.Report (bsrs.Long (a ∷ b ∷ c ∷ [])))) h = absurd (omega (arith, h.1))
plain-back (MacControl (controls.Report (bsrs.Long (a ∷ b ∷ c ∷ d ∷ e ∷ more)))) h = absurd (omega (arith, h.1))
plain-back (MacControl (controls.Phr level)) h = rw (octet-back level h) refl
plain-back (MacControl (controls.Crnti number)) h =
    rw (array-back 2 (number / 256 ∷ number % 256 ∷ []) (pair-octets number h))
    (ap (λ (n : ℕ). Ok (MacControl (controls.Crnti n))) (two-octets number h))
plain-back (MacControl (controls.Advance value)) h = rw (octet-back value h) refl
plain-back (MacControl controls.Drx) h = refl
plain-back (MacControl (controls.Contention identity)) h = rw (array-back 6 identity h) refl
plain-back (RlcTm len) h = rw (number-back len h) refl
plain-back (RlcUm sn fi lens) h = rw (number-back sn h.0, framing-back fi h.1, lens-back lens h.2) refl
plain-back (RlcAm sn poll fi lens) h =
    rw (number-back sn h.0, bit-back poll, framing-back fi h.1, lens-back lens h.2) refl
plain-back (RlcSeg sn poll fi last so lens) h =
    rw (
      number-back sn h.0,
      bit-back poll,
      framing-back fi h.1,
      bit-back last,
      number-back so h.2,
      lens-back lens h.3,
    ) refl
plain-back (RlcStatus ack nacks) h = rw (number-back ack h.0, nacks-back nacks h.1) refl
plain-back (PdcpData sn len) h = rw (number-back sn h.0, number-back len h.1) refl
plain-back (PdcpSrb sn len tag) h = rw (number-back sn h.0, number-back len h.1, array-back 4 tag h.2) refl
plain-back (PdcpReport fms bitmap) h = rw (number-back fms h.0, bitmap-back bitmap h.1) refl
plain-back (Line number line) h = absurd h
plain-back (Shown number direction len) h = absurd h
plain-back (BadMac fault) h = absurd h
plain-back (BadRlc fault) h = absurd h
plain-back (BadPdcp fault) h = absurd h

pub plain-free : (one : Record) → IsPlain one → are_free 32 (record_words one) ≡ true
plain-free (Of side (events.Take lcid count len)) h =
    rw (side-free side, octet-free lcid h.0, count-free count h.1, number-free len h.2) refl
plain-free (Of side (events.Report lcid fms bitmap)) h =
    rw (side-free side, octet-free lcid h.0, number-free fms h.1, bitmap-free bitmap) refl
plain-free (Of side (events.Send lcid how sn)) h =
    rw (side-free side, octet-free lcid h.0, how-free how, number-free sn h.1) refl
plain-free (Of side (events.Wait lcid why)) h = rw (side-free side, octet-free lcid h, waits-free why) refl
plain-free (Of side (events.Start lcid clock)) h = rw (side-free side, octet-free lcid h, clock-free clock) refl
plain-free (Of side (events.Stop lcid clock)) h = rw (side-free side, octet-free lcid h, clock-free clock) refl
plain-free (Of side (events.Expired lcid clock)) h = rw (side-free side, octet-free lcid h, clock-free clock) refl
plain-free (Of side (events.Up lcid octets)) h = rw (side-free side, octet-free lcid h.0, octets-free octets) refl
plain-free (Of side (events.Fail lcid sn)) h = rw (side-free side, octet-free lcid h.0, number-free sn h.1) refl
plain-free (Of side (events.Drop lcid why)) h = rw (side-free side, octet-free lcid h, lost-free why) refl
plain-free (Of side (events.Integrity lcid found wanted)) h =
    rw (side-free side, octet-free lcid h.0, octets-free found, octets-free wanted) refl
plain-free (Of side (events.Discard lcid len)) h = rw (side-free side, octet-free lcid h.0, number-free len h.1) refl
plain-free (Of side (events.BadMac fault)) h = rw (side-free side, number-free fault.at h, mac-why-free fault.why) refl
plain-free (Of side (events.BadRlc lcid fault)) h =
    rw (side-free side, octet-free lcid h.0, number-free fault.at h.1, rlc-why-free fault.why) refl
plain-free (Of side (events.BadPdcp lcid fault)) h =
    rw (side-free side, octet-free lcid h.0, number-free fault.at h.1, pdcp-why-free fault.why) refl
plain-free (Tti tti) h = rw (long-free tti h) refl
plain-free Sleep h = refl
plain-free (Block direction process fresh rv octets) h =
    rw (direction-free direction, number-free process h.0, fresh-free fresh, octet-free rv h.1, octets-free octets) refl
plain-free (Air direction what heard) h = rw (direction-free direction, arrived-free what, heard-free heard) refl
plain-free (Refused side lcid why) h = rw (side-free side, octet-free lcid h, place-free why) refl
plain-free (Looped lcid octets) h = rw (octet-free lcid h.0, octets-free octets) refl
plain-free (Drained rounds) h = rw (long-free rounds h) refl
plain-free (Sum direction lcid submitted delivered state) h =
    rw (
      direction-free direction,
      octet-free lcid h.0,
      long-free submitted h.1,
      long-free delivered h.2,
      state-free state,
    ) refl
plain-free MacFront h = refl
plain-free (MacSdu lcid len) h = rw (octet-free lcid h.0, number-free len h.1) refl
plain-free (MacPad octets) h = rw (number-free octets h) refl
plain-free (MacControl (controls.Report (bsrs.Truncated group level))) h =
    rw (octet-free group h.0, octet-free level h.1) refl
plain-free (MacControl (controls.Report (bsrs.Short group level))) h =
    rw (octet-free group h.0, octet-free level h.1) refl
plain-free (MacControl (controls.Report (bsrs.Long (a ∷ b ∷ c ∷ d ∷ [])))) h =
    rw (
      octet-free a (h.0 zero),
      octet-free b (h.0 (suc zero)),
      octet-free c (h.0 (suc (suc zero))),
      octet-free d (h.0 (suc (suc (suc zero)))),
    ) refl
plain-free (MacControl (controls.Report (bsrs.Long []))) h = absurd (omega (arith, h.1))
plain-free (MacControl (controls.Report (bsrs.Long (a ∷ [])))) h = absurd (omega (arith, h.1))
plain-free (MacControl (controls.Report (bsrs.Long (a ∷ b ∷ [])))) h = absurd (omega (arith, h.1))
plain-free (MacControl (controls.Report (bsrs.Long (a ∷ b ∷ c ∷ [])))) h = absurd (omega (arith, h.1))
plain-free (MacControl (controls.Report (bsrs.Long (a ∷ b ∷ c ∷ d ∷ e ∷ more)))) h = absurd (omega (arith, h.1))
plain-free (MacControl (controls.Phr level)) h = rw (octet-free level h) refl
plain-free (MacControl (controls.Crnti number)) h = rw (octets-free (number / 256 ∷ number % 256 ∷ [])) refl
plain-free (MacControl (controls.Advance value)) h = rw (octet-free value h) refl
plain-free (MacControl controls.Drx) h = refl
plain-free (MacControl (controls.Contention identity)) h = rw (octets-free identity) refl
plain-free (RlcTm len) h = rw (number-free len h) refl
plain-free (RlcUm sn fi lens) h = rw (number-free sn h.0, framing-free fi h.1, lens-free lens h.2) refl
plain-free (RlcAm sn poll fi lens) h =
    rw (number-free sn h.0, bit-free poll, framing-free fi h.1, lens-free lens h.2) refl
plain-free (RlcSeg sn poll fi last so lens) h =
    rw (
      number-free sn h.0,
      bit-free poll,
      framing-free fi h.1,
      bit-free last,
      number-free so h.2,
      lens-free lens h.3,
    ) refl
plain-free (RlcStatus ack nacks) h = rw (number-free ack h.0, nacks-free nacks h.1) refl
plain-free (PdcpData sn len) h = rw (number-free sn h.0, number-free len h.1) refl
plain-free (PdcpSrb sn len tag) h = rw (number-free sn h.0, number-free len h.1, octets-free tag) refl
plain-free (PdcpReport fms bitmap) h = rw (number-free fms h.0, bitmap-free bitmap) refl
plain-free (Line number line) h = absurd h
plain-free (Shown number direction len) h = absurd h
plain-free (BadMac fault) h = absurd h
plain-free (BadRlc fault) h = absurd h
plain-free (BadPdcp fault) h = absurd h

-- words of which the first is another than that of a line
abbrev pub Begins : List (List ℕ) → Type 0
Begins [] = ⊥
Begins (w ∷ ws) = bytes_eq w (codes "line") ≡ false

pub plain-begins : (one : Record) → IsPlain one → Begins (record_words one)
plain-begins (Of side (events.Take lcid count len)) h = refl
plain-begins (Of side (events.Report lcid fms bitmap)) h = refl
plain-begins (Of side (events.Send lcid how sn)) h = refl
plain-begins (Of side (events.Wait lcid why)) h = refl
plain-begins (Of side (events.Start lcid clock)) h = refl
plain-begins (Of side (events.Stop lcid clock)) h = refl
plain-begins (Of side (events.Expired lcid clock)) h = refl
plain-begins (Of side (events.Up lcid octets)) h = refl
plain-begins (Of side (events.Fail lcid sn)) h = refl
plain-begins (Of side (events.Drop lcid why)) h = refl
plain-begins (Of side (events.Integrity lcid found wanted)) h = refl
plain-begins (Of side (events.Discard lcid len)) h = refl
plain-begins (Of side (events.BadMac fault)) h = refl
plain-begins (Of side (events.BadRlc lcid fault)) h = refl
plain-begins (Of side (events.BadPdcp lcid fault)) h = refl
plain-begins (Tti tti) h = refl
plain-begins Sleep h = refl
plain-begins (Block direction process fresh rv octets) h = refl
plain-begins (Air direction what heard) h = refl
plain-begins (Refused side lcid why) h = refl
plain-begins (Looped lcid octets) h = refl
plain-begins (Drained rounds) h = refl
plain-begins (Sum direction lcid submitted delivered state) h = refl
plain-begins MacFront h = refl
plain-begins (MacSdu lcid len) h = refl
plain-begins (MacPad octets) h = refl
plain-begins (MacControl (controls.Report (bsrs.Truncated group level))) h = refl
plain-begins (MacControl (controls.Report (bsrs.Short group level))) h = refl
plain-begins (MacControl (controls.Report (bsrs.Long levels))) h = refl
plain-begins (MacControl (controls.Phr level)) h = refl
plain-begins (MacControl (controls.Crnti number)) h = refl
plain-begins (MacControl (controls.Advance value)) h = refl
plain-begins (MacControl controls.Drx) h = refl
plain-begins (MacControl (controls.Contention identity)) h = refl
plain-begins (RlcTm len) h = refl
plain-begins (RlcUm sn fi lens) h = refl
plain-begins (RlcAm sn poll fi lens) h = refl
plain-begins (RlcSeg sn poll fi last so lens) h = refl
plain-begins (RlcStatus ack nacks) h = refl
plain-begins (PdcpData sn len) h = refl
plain-begins (PdcpSrb sn len tag) h = refl
plain-begins (PdcpReport fms bitmap) h = refl
plain-begins (Line number line) h = absurd h
plain-begins (Shown number direction len) h = absurd h
plain-begins (BadMac fault) h = absurd h
plain-begins (BadRlc fault) h = absurd h
plain-begins (BadPdcp fault) h = absurd h
