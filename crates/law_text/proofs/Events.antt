use Rattle.std.proofs.Common.{◌≡◌, ℕ, List, refl}
use Rattle.bearer_types.specs.declared.event.Event.{Event}
use Rattle.bearer_types.specs.declared.event.Event.TheVariants.{Take, Report, Send, Wait, Start, Stop, Expired, Up}
use Rattle.bearer_types.specs.declared.event.Event.TheVariants.{Fail, Discard, Drop, Integrity, BadMac, BadRlc, BadPdcp}
use Rattle.air_record.specs.Text.{event_words, mac_number, rlc_number, pdcp_number}
use Rattle.law_text.specs.Back.{event_back, IsGoodEvent}
use Rattle.law_text.proofs.Parts.{back-number, back-octets, back-clock, back-how, back-waits, back-lost, back-count}
use Rattle.law_text.proofs.Parts.{back-bitmap, back-mac, back-rlc, back-pdcp, small-mac, small-rlc, small-pdcp}

pub back-event : (node : List ℕ) (e : Event) → IsGoodEvent e → event_back (event_words node e) ≡ e
back-event node (Send lcid how sn) h = rw (back-number lcid h.0, back-how how, back-number sn h.1) refl
back-event node (Wait lcid why) h = rw (back-number lcid h, back-waits why) refl
back-event node (Start lcid clock) h = rw (back-number lcid h, back-clock clock) refl
back-event node (Stop lcid clock) h = rw (back-number lcid h, back-clock clock) refl
back-event node (Expired lcid clock) h = rw (back-number lcid h, back-clock clock) refl
back-event node (Up lcid octets) h = rw (back-number lcid h.0, back-octets octets h.1) refl
back-event node (Fail lcid sn) h = rw (back-number lcid h.0, back-number sn h.1) refl
back-event node (Discard lcid len) h = rw (back-number lcid h.0, back-number len h.1) refl
back-event node (Integrity lcid found wanted) h =
    rw (back-number lcid h.0, back-octets found h.1, back-octets wanted h.2) refl
back-event node (Take lcid count len) h = rw (back-number lcid h.0, back-count count h.1, back-number len h.2) refl
back-event node (Report lcid fms bitmap) h = rw (back-number lcid h.0, back-number fms h.1, back-bitmap bitmap h.2) refl
back-event node (Drop lcid why) h = rw (back-number lcid h, back-lost why) refl
back-event node (BadMac fault) h =
    rw (back-number fault.at h, back-number (mac_number fault.why) (small-mac fault.why), back-mac fault.why) refl
back-event node (BadRlc lcid fault) h =
    rw (
      back-number lcid h.0,
      back-number fault.at h.1,
      back-number (rlc_number fault.why) (small-rlc fault.why),
      back-rlc fault.why,
    ) refl
back-event node (BadPdcp lcid fault) h =
    rw (
      back-number lcid h.0,
      back-number fault.at h.1,
      back-number (pdcp_number fault.why) (small-pdcp fault.why),
      back-pdcp fault.why,
    ) refl
