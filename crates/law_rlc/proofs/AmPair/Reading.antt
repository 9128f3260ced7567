-- What the receiver reads of a data PDU that the sender wrote.
use Rattle.std.proofs.Common.{◌≡◌, ◌<◌, ◌≤◌, ℕ, ◌-◌, ◌%◌, ◌^◌, Bool, true, false, ◌==◌, if◌then◌else◌, List, length}
use Rattle.std.proofs.Common.{slice_range, Option, Some, None, Ok, ap, sym, subst, ◌∙◌, arith}
use Rattle.std.specs.List.{sum, concat}
use Rattle.std.proofs.lemmas.List.{length-map}
use Rattle.rlc_pdu.specs.declared.pdu.Segment.{Segment}
use Rattle.rlc_pdu.specs.Units.{cut}
use Rattle.rlc_pdu.specs.Pdus.{AmdPdu, Payload, AreLens, but_last, IsSegment}
use Rattle.rlc_pdu.specs.Reading.{am_at}
use Rattle.rlc_pdu.specs.Writing.{amd_written, amd_canonical}
use Rattle.rlc_pdu.specs.Laws.{AreCutAgain}
use Rattle.rlc_pdu.proofs.Again.{amd_again, cut_again}
use Rattle.rlc_queue.specs.NewPdu.{framing}
use Rattle.rlc_am_tx_window.specs.Cut.{clip}
use Rattle.rlc_am_tx_window.proofs.CutSteps.{clip-lens, clip-sum}
use Rattle.law_rlc.specs.AmSender.Octets.{Place, first_begins, last_ends, lengths, written, segment_of}
use Rattle.law_rlc.proofs.AmSender.Stretches.{Joined, clip-range, range-length}
use Rattle.law_rlc.proofs.AmPair.Cells.{octets_of}

-- what a new PDU carries
pub record IsAired (ps : List Place) : Type 0 where
  pub some : 0 < length ps
  pub few : length ps ≤ 32767
  pub joined : Joined ps
  pub lens : AreLens (lengths 0 ps)
  pub whole : sum (lengths 0 ps) ≡ length ps

-- octets of it from a place below another are a PDU
abbrev pub read_as : ℕ → Bool → Option Segment → List Place → AmdPdu
read_as number poll segment ps = record {
  sn = number % 1024;
  poll = poll;
  fi = framing (first_begins ps) (last_ends ps);
  segment = segment;
  elements = cut (but_last (lengths 0 ps)) (octets_of ps);
}

framing-few : (b e : Bool) → framing b e < 2 ^ 2
framing-few true true = omega arith
framing-few true false = omega arith
framing-few false true = omega arith
framing-few false false = omega arith

reads : (number : ℕ) (poll : Bool) (segment : Option Segment) (ps : List Place) → IsSegment segment
    → AreLens (lengths 0 ps) → sum (lengths 0 ps) ≡ length ps
    → am_at (written number poll segment ps) ≡ Ok (Payload (read_as number poll segment ps))
reads number poll segment ps is lens whole =
    let again : AreCutAgain (lengths 0 ps) (octets_of ps) =
    cut_again (lengths 0 ps) (octets_of ps) lens (whole ∙ sym (length-map ps (λ (p : Place). p.octet))) in
    let canonical : amd_canonical (read_as number poll segment ps) ≡ written number poll segment ps =
    ap (λ (ls : List ℕ). amd_written (number % 1024) poll (framing (first_begins ps) (last_ends ps)) segment ls
    (concat (cut (but_last (lengths 0 ps)) (octets_of ps)))) again.lens_are
    ∙ ap (λ (xs : List ℕ). amd_written (number % 1024) poll (framing (first_begins ps) (last_ends ps)) segment
    (lengths 0 ps) xs) again.field_is in
    ap am_at (sym canonical) ∙ (amd_again (read_as number poll segment ps) (record {
      number = omega arith;
      framing = framing-few (first_begins ps) (last_ends ps);
      segment = is;
      lens = subst (λ (ls : List ℕ). AreLens ls) (sym again.lens_are) lens;
    })).read

segment-is : (from to size : ℕ) → from < to → to ≤ size → size ≤ 32767 → IsSegment (segment_of from to size)
segment-is from to size lt le few = by (to - from == size)
  where
    by : (b : Bool) → IsSegment (if b then None else Some (record { last = to == size; so = from }))
    by true = tt
    by false = omega (arith, lt, le, few)

pub stretch-read : (number : ℕ) (poll : Bool) (ps : List Place) (from to : ℕ) → IsAired ps → from < to → to ≤ length ps
    → am_at (written number poll (segment_of from to (length ps)) (slice_range ps from to))
    ≡ Ok (Payload (read_as number poll (segment_of from to (length ps)) (slice_range ps from to)))
stretch-read number poll ps from to a lt le =
    let same : clip from to (lengths 0 ps) ≡ lengths 0 (slice_range ps from to) = clip-range from to ps le in
    let whole = a.whole in
    let long = range-length ps from to le in
    let total : sum (lengths 0 (slice_range ps from to)) ≡ length (slice_range ps from to) =
    let c = clip-sum from to (lengths 0 ps) in
    ap (λ (ls : List ℕ). sum ls) (sym same) ∙ omega (arith, c, whole, long, le) in
    reads number poll (segment_of from to (length ps)) (slice_range ps from to)
    (segment-is from to (length ps) lt le a.few)
    (subst (λ (ls : List ℕ). AreLens ls) same (clip-lens from to (lengths 0 ps) a.lens lt (omega (arith, le, whole))))
    total
