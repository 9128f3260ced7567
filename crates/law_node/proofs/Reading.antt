-- What senders write is read again.
use Rattle.std.proofs.Common.{◌≡◌, ◌<◌, ◌≤◌, ℕ, zero, suc, ◌+◌, ◌-◌, ◌*◌, ◌/◌, ◌%◌, ◌^◌, ◌==◌, nat_le, nat_lt, Bool}
use Rattle.std.proofs.Common.{true, false, if◌then◌else◌, Option, Some, None, is_some, List, [], ◌∷◌, ◌++◌, length, map}
use Rattle.std.proofs.Common.{take, drop, slice_range, slice_index, refl, sym, ap, ◌∙◌, subst, arith, not}
use Rattle.std.specs.Prelude.{All, IfSome}
use Rattle.std.specs.List.{AllByRecursion, sum}
use Rattle.std.proofs.lemmas.List.{length-append, length-take, length-drop, take-append-drop}
use Rattle.std.proofs.lemmas.List.Elements.{All-nil, All-cons}
use Rattle.std.proofs.lemmas.Nat.{pow_pos, shr_high}
use Rattle.law_rlc.proofs.AmSender.Keys.{key, keys}
use Rattle.law_rlc.proofs.AmSender.SegmentLens.{cuts}
use Rattle.rlc_am_tx_window.proofs.CutSteps.{stretch-lens, stretch-sum, lens-some}
use Rattle.rlc_am_tx_window.proofs.SlotSteps.{gap-lies}
use Rattle.rlc_am_tx_window.specs.Cut.{cut, clip}
use Rattle.rlc_am_tx_window.specs.Sent.{Sent, Stretch, Lies, first_waiting, is_waiting, stretch_from, next_stretch}
use Rattle.rlc_am_tx_window.specs.Window.{slot_at}
use Rattle.rlc_am_tx_window.specs.Written.{begins_at, ends_at, whole_octets, part_octets}
use Rattle.rlc_am_rx_window.proofs.MissingLemmas.{missing_in, ranges_append}
use Rattle.rlc_am_rx_window.specs.declared.missing.Missing.{Missing}
use Rattle.rlc_am_rx_window.specs.Held.{Held}
use Rattle.rlc_am_rx_window.specs.Missing.{missing_of, missing_below, entry_bits, AreRanges}
use Rattle.bearer.specs.Acknowledged.Reports.{octets_in, status_octets}
use Rattle.l2_bits.proofs.BitFields.{length-bits, fold-from, number-lt, bits-high}
use Rattle.l2_bits.specs.Bits.{number, bits, bits_of, filling}
use Rattle.rlc_am_rx.specs.State.{State as Receiver}
use Rattle.rlc_am_rx.specs.Status.{nack_of, fitting, room_in, listed, nacks}
use Rattle.pdcp_pdu.specs.declared.pdu.PdcpKind.{PdcpKind}
use Rattle.rlc_pdu.proofs.Again.{umd_again, amd_again, status_again, cut_again}
use Rattle.rlc_pdu.specs.declared.pdu.Nack.{Nack}
use Rattle.rlc_pdu.specs.declared.pdu.Part.{Part}
use Rattle.rlc_pdu.specs.declared.pdu.Segment.{Segment}
use Rattle.rlc_pdu.specs.Pdus.{AmdPdu, IsUmBits, AreLens, but_last, IsSegment, IsNack}
use Rattle.rlc_pdu.specs.Reading.{am_at}
use Rattle.rlc_pdu.specs.Status.{status_bits}
use Rattle.rlc_pdu.specs.Units.{cut as cut_field}
use Rattle.rlc_pdu.specs.Writing.{amd_written, amd_canonical, umd_canonical, status_written}
use Rattle.rlc_queue.proofs.Lens.{written as new-lens}
use Rattle.rlc_queue.specs.NewPdu.{framing}
use Rattle.rlc_queue.specs.Waiting.{HaveOctets}
use Rattle.rlc_um.specs.Sender.{Sender as UmSender, head_of, pdu_of, ends_partly}
use Rattle.promises.specs.Names.{IsPdcp, IsUmd, IsAmd, IsStatus}
use Rattle.law_node.proofs.Pieces.{Whole, AreWhole, new_whole, whole_is}
use Rattle.law_node.proofs.Senders.{IsSpelled, AreSpelled}
use Rattle.law_node.proofs.Receiving.{AreShort}
use Rattle.law_node.proofs.Segments.{part_whole}

framing_small : (b e : Bool) → framing b e < 2 ^ 2
framing_small true true = omega arith
framing_small true false = omega arith
framing_small false true = omega arith
framing_small false false = omega arith

-- ---- a UMD PDU

pub um_reads : (kind : PdcpKind) (s : UmSender) (size : ℕ) → IsUmBits s.bits → HaveOctets s.waiting.sdus
    → AreWhole (IsPdcp kind) s.waiting.begun s.waiting.sdus → 0 < length s.waiting.sdus → head_of s.bits < size
    → IsUmd kind s.bits (s.next % 2 ^ s.bits) (umd_canonical s.bits (pdu_of s size))
um_reads kind s size b h q some fits =
    let p = pdu_of s size in
    let again' =
    umd_again s.bits p b (record {
      number = below s.next (2 ^ s.bits) (pow_pos s.bits);
      framing = framing_small _ _;
      lens = new-lens (head_of s.bits) size s.waiting.sdus h some fits;
    }) in
    let sdus' = (new_whole (IsPdcp kind) (head_of s.bits) size 0 0 s.waiting.begun s.waiting.sdus q).wholes in
    record {
      pdu = p;
      number = refl;
      framing = framing_small (not s.waiting.begun) (not (ends_partly s size));
      sdus = subst (λ (xs : List (List ℕ)). AllByRecursion (IsPdcp kind) xs)
          (sym (whole_is (not s.waiting.begun) (not (ends_partly s size)) p.elements)) sdus';
      canonical = refl;
      read = again'.read;
    }
  where
    below : (n m : ℕ) → 0 < m → n % m < m
    below n m lt = grind (arith, lt)

-- ---- an AMD PDU

amd_reads : (kind : PdcpKind) (again' : Bool) (sn : ℕ) (poll begins ends : Bool) (segment : Option Segment)
    (lens field : List ℕ) → sn < 1024 → IsSegment segment → (again' ≡ false → segment ≡ None) → AreLens lens
    → sum lens ≡ length field
    → Whole (IsPdcp kind) begins ends (cut_field (but_last lens) field)
    → IsAmd kind again' sn (amd_written sn poll (framing begins ends) segment lens field)
amd_reads kind again' sn poll begins ends segment lens field small seg whole l e w =
    let fi = framing begins ends in
    let es = cut_field (but_last lens) field in
    let c = cut_again lens field l e in
    let p : AmdPdu = record { sn = sn; poll = poll; fi = fi; segment = segment; elements = es } in
    let a =
    amd_again p (record {
      number = small;
      framing = framing_small begins ends;
      segment = seg;
      lens = subst (λ (ls : List ℕ). AreLens ls) (sym c.lens_are) l;
    }) in
    let is : amd_written sn poll fi segment lens field ≡ amd_canonical p =
    ap (λ (ls : List ℕ). amd_written sn poll fi segment ls field) (sym c.lens_are)
    ∙ ap (λ (os : List ℕ). amd_written sn poll fi segment (map length es) os) (sym c.field_is) in
    record {
      pdu = p;
      number = refl;
      whole = whole;
      framing = framing_small begins ends;
      sdus = subst (λ (xs : List (List ℕ)). AllByRecursion (IsPdcp kind) xs) (sym (whole_is begins ends es)) w;
      canonical = is;
      read = ap am_at is ∙ a.read;
    }

pub whole_reads : (kind : PdcpKind) (again' : Bool) (h : Sent) (number' : ℕ) (poll : Bool) → AreLens h.lens
    → sum h.lens ≡ length h.field → Whole (IsPdcp kind) h.begins h.ends (cut_field (but_last h.lens) h.field)
    → IsAmd kind again' (number' % 1024) (whole_octets h number' poll)
whole_reads kind again' h number' poll l e w =
    amd_reads kind again' (number' % 1024) poll h.begins h.ends None h.lens h.field (omega arith) tt (λ f. refl) l e w

-- a segment lies in its field
record IsStretch (kind : PdcpKind) (h : Sent) (t : Stretch) : Type 0 where
  lens : AreLens t.lens
  whole : sum t.lens ≡ length (slice_range h.field t.from t.to)
  from : t.from < 2 ^ 15
  sdus : Whole (IsPdcp kind) (begins_at h t.from) (ends_at h t.to)
      (cut_field (but_last t.lens) (slice_range h.field t.from t.to))

range_size : (xs : List ℕ) (from to : ℕ) → from ≤ to → to ≤ length xs → length (slice_range xs from to) ≡ to - from
range_size xs from to a b = omega (arith, a, b, length-take (to - from) (drop from xs), length-drop from xs)

stretch_by : (kind : PdcpKind) (o : Option Part) (h : Sent) (size : ℕ) → IfSome o (Lies 0 (length h.field))
    → is_some o ≡ true → IsSpelled kind (key h) → 5 ≤ size → IsStretch kind h (stretch_from o h size)
stretch_by kind None h size l e s five = absurd cc
stretch_by kind (Some p) h size l e s five =
    let w = s.whole in
    let below = l.below in
    let order = l.some in
    let ls = cut false (size - 4) (clip p.start (p.end + 1) h.lens) in
    let most = stretch-sum size p.start p.end h.lens order (omega (arith, w, below)) in
    let range = range_size h.field p.start (p.start + sum ls) (omega arith) (omega (arith, most, below)) in
    let lens' = stretch-lens size p.start p.end h.lens s.lens order (omega (arith, w, below)) five in
    let whole' : sum ls ≡ length (slice_range h.field p.start (p.start + sum ls)) = omega (arith, range) in
    let some = lens-some ls lens' in
    let is = cuts size p.start (p.end + 1) h.lens s.lens (omega (arith, order)) (omega (arith, w, below)) five in
    record {
      lens = lens';
      whole = whole';
      from = omega (arith, s.short, order, below);
      sdus = part_whole (IsPdcp kind) h.begins h.ends p.start (p.start + sum ls) h.lens ls h.field s.lens w lens'
          whole' is (omega (arith, some)) (omega (arith, most, below)) s.sdus;
    }

pub part_reads : (kind : PdcpKind) (h : Sent) (number' size : ℕ) (poll : Bool) → is_waiting h ≡ true
    → IsSpelled kind (key h) → 5 ≤ size
    → IsAmd kind true (number' % 1024) (part_octets h number' poll (next_stretch h size))
part_reads kind h number' size poll w s five =
    let t = next_stretch h size in
    let i = stretch_by kind (first_waiting h) h size (gap-lies h.resting 0 (length h.field)) w s five in
    amd_reads kind true (number' % 1024) poll (begins_at h t.from) (ends_at h t.to)
    (Some (record { last = t.to == length h.field; so = t.from })) t.lens (slice_range h.field t.from t.to)
    (omega arith) i.from (λ e. absurd cc) i.lens i.whole i.sdus

pub at_spelled : (kind : PdcpKind) (slots : List Sent) (at : ℕ) → at < length slots → AreSpelled kind (keys slots)
    → IsSpelled kind (key (slot_at slots at))
at_spelled kind [] at lt a = absurd (omega (arith, lt))
at_spelled kind (h ∷ hs) zero lt a = a.0
at_spelled kind (h ∷ hs) (suc at) lt a = at_spelled kind hs at (omega (arith, lt)) a.1

-- ---- a STATUS: its octets have the bits that they write

bits_again : (xs : List Bool) → bits (length xs) (number xs) ≡ xs
unfolding bits
bits_again [] = refl
bits_again (true ∷ xs) =
    let n = length xs in
    let high : ((1 * 2 ^ n + number xs) / 2 ^ n % 2 == 1) ≡ true =
    ap (λ (m : ℕ). m % 2 == 1) (shr_high 1 n (number xs) (number-lt xs)) in
    ap (λ (v : ℕ). bits (suc n) v) (fold-from xs 1) ∙ ap (λ (b : Bool). b ∷ bits n (1 * 2 ^ n + number xs)) high
    ∙ ap (λ (bs : List Bool). true ∷ bs) (bits-high n 1 (number xs) ∙ bits_again xs)
bits_again (false ∷ xs) =
    let n = length xs in
    let high : ((0 * 2 ^ n + number xs) / 2 ^ n % 2 == 1) ≡ false =
    ap (λ (m : ℕ). m % 2 == 1) (shr_high 0 n (number xs) (number-lt xs)) in
    ap (λ (v : ℕ). bits (suc n) v) (fold-from xs 0) ∙ ap (λ (b : Bool). b ∷ bits n (0 * 2 ^ n + number xs)) high
    ∙ ap (λ (bs : List Bool). false ∷ bs) (bits-high n 0 (number xs) ∙ bits_again xs)

first_eight : (n : ℕ) (w : List Bool) → length w ≡ 8 * suc n → length (take 8 w) ≡ 8
first_eight n w e = omega (arith, e, length-take 8 w)

behind_eight : (n : ℕ) (w : List Bool) → length w ≡ 8 * suc n → length (drop 8 w) ≡ 8 * n
behind_eight n w e = omega (arith, e, length-drop 8 w)

pub octets_again : (n : ℕ) (w : List Bool) → length w ≡ 8 * n → bits_of (octets_in n w) ≡ w
octets_again zero [] e = refl
octets_again zero (x ∷ w) e = absurd (omega (arith, e))
octets_again (suc n) w e =
    ap (λ (bs : List Bool). bs ++ bits_of (octets_in n (drop 8 w)))
    (ap (λ (k : ℕ). bits k (number (take 8 w))) (sym (first_eight n w e)) ∙ bits_again (take 8 w))
    ∙ ap (λ (bs : List Bool). take 8 w ++ bs) (octets_again n (drop 8 w) (behind_eight n w e))
    ∙ take-append-drop 8 w

pub octets_small : (n : ℕ) (w : List Bool) → length w ≡ 8 * n → (i : ℕ) → slice_index (octets_in n w) i < 256
octets_small zero w e i = omega arith
octets_small (suc n) w e zero = subst (λ (k : ℕ). number (take 8 w) < 2 ^ k) (first_eight n w e) (number-lt (take 8 w))
octets_small (suc n) w e (suc i) = octets_small n (drop 8 w) (behind_eight n w e) i

pub whole_octets_of : (ack : ℕ) (ns : List Nack)
    → length (status_written ack ns) ≡ 8 * (length (status_written ack ns) / 8)
whole_octets_of ack ns =
    let n = length (status_bits ack ns) in
    omega (arith, length-append (status_bits ack ns) (bits (filling n) 0), length-bits (filling n) 0)

status_reads : (ack : ℕ) (ns : List Nack) → ack < 1024 → All IsNack ns → IsStatus ack (status_octets ack ns)
status_reads ack ns small a =
    let w = status_written ack ns in
    let e = whole_octets_of ack ns in
    let is = octets_again (length w / 8) w e in
    let s = status_again (record { ack = ack; nacks = ns }) (status_octets ack ns) (octets_small (length w / 8) w e)
    small a is in
    record { nacks = ns; canonical = is; read = s.read }

-- its entries name places

below_ranges : (hs : List Held) (n bound : ℕ) → AreShort hs → AreRanges (missing_below hs n bound)
below_ranges [] n bound a = tt
below_ranges (h ∷ hs) n bound a =
    by (nat_lt n bound)
    (ranges_append (missing_of n h) (missing_below hs (n + 1) bound) (missing_in n h a.0)
    (below_ranges hs (n + 1) bound a.1))
  where
    by : (t : Bool) → AreRanges (missing_of n h ++ missing_below hs (n + 1) bound)
        → AreRanges (if t then missing_of n h ++ missing_below hs (n + 1) bound else [])
    by true r = r
    by false r = tt

fitting_ranges : (room : ℕ) (ms : List Missing) → AreRanges ms → AreRanges (fitting room ms)
fitting_ranges room [] a = tt
fitting_ranges room (m ∷ ms) a = by (nat_le (entry_bits m) room) (fitting_ranges (room - entry_bits m) ms a.1)
  where
    by : (t : Bool) → AreRanges (fitting (room - entry_bits m) ms)
        → AreRanges (if t then m ∷ fitting (room - entry_bits m) ms else [])
    by true r = (a.0, r)
    by false r = tt

nacks_are : (ms : List Missing) → AreRanges ms → All IsNack (map nack_of ms)
nacks_are [] a = All-nil IsNack
nacks_are (m ∷ ms) a =
    All-cons IsNack (nack_of m) (map nack_of ms) (record { number = omega arith; part = a.0 }) (nacks_are ms a.1)

pub report_reads : (r : Receiver) (size ack : ℕ) → AreShort r.window.slots
    → IsStatus (ack % 1024) (status_octets (ack % 1024) (nacks r size))
report_reads r size ack a =
    status_reads (ack % 1024) (nacks r size) (omega arith)
    (nacks_are (fitting (room_in size) (listed r))
    (fitting_ranges (room_in size) (listed r) (below_ranges r.window.slots r.window.front r.bound a)))
