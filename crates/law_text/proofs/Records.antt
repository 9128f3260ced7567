use Rattle.std.proofs.Common.{◌≡◌, ◌<◌, ◌^◌, ◌+◌, ◌*◌, ◌/◌, ◌%◌, ◌∙◌, ℕ, zero, suc, Bool, true, false, Option, Some}
use Rattle.std.proofs.Common.{None, List, [], ◌∷◌, codes, refl, ap, arith}
use Rattle.l2_types.specs.declared.side.Side.{Side}
use Rattle.l2_types.specs.declared.side.Side.TheVariants.{Ue, Nb}
use Rattle.mac_pdu.specs.declared.item.Direction.{Direction}
use Rattle.mac_pdu.specs.declared.item.Direction.TheVariants as directions
use Rattle.mac_pdu.specs.declared.item.Bsr.{Bsr}
use Rattle.mac_pdu.specs.declared.item.Bsr.TheVariants as bsrs
use Rattle.mac_pdu.specs.declared.item.Control.{Control}
use Rattle.mac_pdu.specs.declared.item.Control.TheVariants as controls
use Rattle.hex.specs.Hex.{IsBytes}
use Rattle.bearer_types.specs.declared.event.Event.{Event}
use Rattle.bearer_types.specs.declared.event.Event.TheVariants as events
use Rattle.air_record.specs.declared.record.Arrived.{Arrived}
use Rattle.air_record.specs.declared.record.Arrived.TheVariants as arriveds
use Rattle.air_record.specs.declared.record.NoPlace.{NoPlace}
use Rattle.air_record.specs.declared.record.NoPlace.TheVariants as places
use Rattle.air_record.specs.declared.record.State.{State}
use Rattle.air_record.specs.declared.record.State.TheVariants as states
use Rattle.std.specs.Fmt.{decimal}
use Rattle.air_record.specs.declared.line.Line.{Line as Lines}
use Rattle.law_text.specs.Lines.{line_back}
use Rattle.air_text.specs.Spoken.{IsGoodLine, spoken}
use Rattle.air_text.proofs.LinesBack.{back-line}
use Rattle.air_record.specs.declared.record.Record.{Record}
use Rattle.air_record.specs.declared.record.Record.TheVariants.{Line, Tti, Of, Block, Air, Refused, Looped, Drained}
use Rattle.air_record.specs.declared.record.Record.TheVariants.{Sum, MacFront, MacSdu, MacPad, MacControl, RlcTm}
use Rattle.air_record.specs.declared.record.Record.TheVariants.{RlcUm, RlcAm, RlcSeg, RlcStatus, PdcpData, PdcpSrb}
use Rattle.air_record.specs.declared.record.Record.TheVariants.{PdcpReport, Shown, BadMac, BadRlc, BadPdcp, Sleep}
use Rattle.air_record.specs.Text.{side_text, direction_text, fresh_text, arrived_text, heard_text, place_text}
use Rattle.air_record.specs.Text.{state_text, bit_text, mac_number, rlc_number, pdcp_number, event_words, bsr_words}
use Rattle.air_record.specs.Text.{control_words, record_words}
use Rattle.law_text.specs.Back.{event_back, IsGoodEvent}
use Rattle.law_text.specs.Records.{side_back, direction_back, fresh_back, arrived_back, heard_back, place_back}
use Rattle.law_text.specs.Records.{state_back, bit_back, record_back, IsGoodReport, IsGoodControl, IsGood}
use Rattle.law_text.proofs.Parts.{back-number, back-octets, back-bitmap, back-mac, back-rlc, back-pdcp, small-mac}
use Rattle.law_text.proofs.Parts.{small-rlc, small-pdcp}
use Rattle.law_text.proofs.LensBack.{back-lens, back-framing}
use Rattle.law_text.proofs.NacksBack.{back-nacks}
use Rattle.law_text.proofs.Events.{back-event}

back-side : (c : Side) → side_back (side_text c) ≡ c
back-side Ue = refl
back-side Nb = refl

back-direction : (c : Direction) → direction_back (direction_text c) ≡ c
back-direction directions.Down = refl
back-direction directions.Up = refl

back-fresh : (c : Bool) → fresh_back (fresh_text c) ≡ c
back-fresh true = refl
back-fresh false = refl

back-arrived : (c : Arrived) → arrived_back (arrived_text c) ≡ c
back-arrived arriveds.Got = refl
back-arrived arriveds.Dup = refl
back-arrived arriveds.Bad = refl
back-arrived arriveds.Nothing = refl

back-heard : (c : Option Bool) → heard_back (heard_text c) ≡ c
back-heard None = refl
back-heard (Some true) = refl
back-heard (Some false) = refl

back-place : (c : NoPlace) → place_back (place_text c) ≡ c
back-place places.Full = refl
back-place places.Count = refl

back-state : (c : State) → state_back (state_text c) ≡ c
back-state states.Ok = refl
back-state states.Failed = refl
back-state states.Short = refl
back-state states.Long = refl

pub back-bit : (c : Bool) → bit_back (bit_text c) ≡ c
back-bit true = refl
back-bit false = refl

-- what happens at one end
back-of : (side : Side) (e : Event) → IsGoodEvent e
    → record_back (event_words (side_text side) e)
    ≡ Of (side_back (side_text side)) (event_back (event_words (side_text side) e))
back-of side (events.Take lcid count len) h = refl
back-of side (events.Report lcid fms bitmap) h = refl
back-of side (events.Send lcid how sn) h = refl
back-of side (events.Wait lcid why) h = refl
back-of side (events.Start lcid clock) h = refl
back-of side (events.Stop lcid clock) h = refl
back-of side (events.Expired lcid clock) h = refl
back-of side (events.Up lcid octets) h = refl
back-of side (events.Fail lcid sn) h = refl
back-of side (events.Drop lcid why) h = refl
back-of side (events.Discard lcid len) h = refl
back-of side (events.Integrity lcid found wanted) h = refl
back-of side (events.BadMac fault) h = refl
back-of side (events.BadRlc lcid fault) h = refl
back-of side (events.BadPdcp lcid fault) h = refl

two-bytes : (n : ℕ) → n < 2 ^ 16 → IsBytes (n / 256 ∷ n % 256 ∷ [])
two-bytes n h zero = omega (arith, h)
two-bytes n h (suc zero) = omega arith
two-bytes n h (suc (suc i)) = omega arith

pair-same : (n : ℕ) → n / 256 * 256 + n % 256 ≡ n
pair-same n = omega arith

back-report : (report : Bsr) → IsGoodReport report
    → record_back (bsr_words report) ≡ MacControl (controls.Report report)
back-report (bsrs.Truncated group level) h = rw (back-number group h.0, back-number level h.1) refl
back-report (bsrs.Short group level) h = rw (back-number group h.0, back-number level h.1) refl
back-report (bsrs.Long (a ∷ b ∷ c ∷ d ∷ [])) h =
    rw (back-number a h.0, back-number b h.1, back-number c h.2, back-number d h.3) refl
back-report (bsrs.Long []) h = absurd h
back-report (bsrs.Long (a ∷ [])) h = absurd h
back-report (bsrs.Long (a ∷ b ∷ [])) h = absurd h
back-report (bsrs.Long (a ∷ b ∷ c ∷ [])) h = absurd h
back-report (bsrs.Long (a ∷ b ∷ c ∷ d ∷ e ∷ levels)) h = absurd h

back-control : (element : Control) → IsGoodControl element → record_back (control_words element) ≡ MacControl element
back-control (controls.Contention identity) h = rw (back-octets identity h) refl
back-control (controls.Advance value) h = rw (back-number value h) refl
back-control controls.Drx h = refl
back-control (controls.Phr level) h = rw (back-number level h) refl
back-control (controls.Crnti identity) h =
    rw (back-octets (identity / 256 ∷ identity % 256 ∷ []) (two-bytes identity h))
    (ap (λ (n : ℕ). MacControl (controls.Crnti n)) (pair-same identity))
back-control (controls.Report report) h = back-report report h

-- the words that a record's text has
abbrev pub said : (one : Record) → IsGood one → List (List ℕ)
said (Line number line) h = codes "line" ∷ decimal number ∷ spoken line h.1
said one h = record_words one

back-accepted : (number : ℕ) (line : Lines) → number < 2 ^ 64 → (h : IsGoodLine line)
    → record_back (codes "line" ∷ decimal number ∷ spoken line h) ≡ Line number line
unfolding line_back
back-accepted number line small h = rw (back-number number small, back-line line h) refl

pub back-record : (one : Record) → (h : IsGood one) → record_back (said one h) ≡ one
back-record (Line number line) h = back-accepted number line h.0 h.1
back-record (Tti tti) h = rw (back-number tti h) refl
back-record (Of side event) h = back-of side event h ∙ rw (back-side side, back-event (side_text side) event h) refl
back-record (Block direction process fresh rv octets) h =
    rw (
      back-direction direction,
      back-number process h.0,
      back-fresh fresh,
      back-number rv h.1,
      back-octets octets h.2,
    ) refl
back-record (Air direction what heard) h = rw (back-direction direction, back-arrived what, back-heard heard) refl
back-record (Refused side lcid why) h = rw (back-side side, back-number lcid h, back-place why) refl
back-record (Looped lcid octets) h = rw (back-number lcid h.0, back-octets octets h.1) refl
back-record (Drained rounds) h = rw (back-number rounds h) refl
back-record (Sum direction lcid submitted delivered state) h =
    rw (
      back-direction direction,
      back-number lcid h.0,
      back-number submitted h.1,
      back-number delivered h.2,
      back-state state,
    ) refl
back-record MacFront h = refl
back-record (MacSdu lcid len) h = rw (back-number lcid h.0, back-number len h.1) refl
back-record (MacPad octets) h = rw (back-number octets h) refl
back-record (RlcTm len) h = rw (back-number len h) refl
back-record (PdcpData sn len) h = rw (back-number sn h.0, back-number len h.1) refl
back-record (PdcpSrb sn len tag) h = rw (back-number sn h.0, back-number len h.1, back-octets tag h.2) refl
back-record (PdcpReport fms bitmap) h = rw (back-number fms h.0, back-bitmap bitmap h.1) refl
back-record (Shown number direction len) h =
    rw (back-number number h.0, back-direction direction, back-number len h.1) refl
back-record (BadPdcp fault) h =
    rw (back-number fault.at h, back-number (pdcp_number fault.why) (small-pdcp fault.why), back-pdcp fault.why) refl
back-record Sleep h = refl
back-record (MacControl element) h = back-control element h
back-record (RlcUm sn fi lens) h = rw (back-number sn h.0, back-framing fi h.1, back-lens lens h.2) refl
back-record (RlcAm sn poll fi lens) h =
    rw (back-number sn h.0, back-bit poll, back-framing fi h.1, back-lens lens h.2) refl
back-record (RlcSeg sn poll fi last so lens) h =
    rw (back-number sn h.0, back-bit poll, back-framing fi h.1, back-bit last, back-number so h.2, back-lens lens h.3)
    refl
back-record (RlcStatus ack nacks) h = rw (back-number ack h.0, back-nacks nacks h.1) refl
back-record (BadMac fault) h =
    rw (back-number fault.at h, back-number (mac_number fault.why) (small-mac fault.why), back-mac fault.why) refl
back-record (BadRlc fault) h =
    rw (back-number fault.at h, back-number (rlc_number fault.why) (small-rlc fault.why), back-rlc fault.why) refl
