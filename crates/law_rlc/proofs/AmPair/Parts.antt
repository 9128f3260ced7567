-- A data PDU carries a part of the field that its number was sent with.
use Rattle.std.proofs.Common.{◌≡◌, ◌<◌, ◌≤◌, ℕ, suc, zero, ◌+◌, ◌-◌, Bool, true, false, ◌==◌, if◌then◌else◌, List, []}
use Rattle.std.proofs.Common.{◌∷◌, length, slice_range, slice_get, Some, None, refl, ap, sym, subst, ◌∙◌, arith}
use Rattle.std.proofs.lemmas.Bool.Decides.{nat_tests}
use Rattle.std.proofs.lemmas.List.{length-map}
use Rattle.rlc_queue.specs.NewPdu.{framing}
use Rattle.law_rlc.specs.AmSender.Octets.{Place, first_begins, last_ends, segment_of}
use Rattle.law_rlc.proofs.AmSender.Stretches.{Joined, place_at, joined-at, first-at, range-at, range-length, nowhere}
use Rattle.rlc_am_rx_window.specs.Cells.{Cell}
use Rattle.rlc_am_rx_window.specs.Piece.{Piece, piece_of, end_of, data_cells, ends_in, so_of, is_last}
use Rattle.law_rlc.specs.AmReceiver.Stream.{IsField, IsPart}
use Rattle.law_rlc.specs.AmPair.Fields.{cell_of, cells_of}
use Rattle.law_rlc.proofs.AmPair.Cells.{cells-read, framing-begins, framing-ends}
use Rattle.law_rlc.proofs.AmPair.Reading.{IsAired, read_as}

-- ---- cells by their places

pub cell-at : (ps : List Place) (i : ℕ) → i < length ps → slice_get (cells_of ps) i ≡ Some (cell_of (place_at ps i))
cell-at [] i lt = absurd (omega arith)
cell-at (p ∷ ps) zero lt = refl
cell-at (p ∷ ps) (suc i) lt = cell-at ps i (omega arith)

pub cell-past : (ps : List Place) (i : ℕ) (c : Cell) → slice_get (cells_of ps) i ≡ Some c → i < length ps
cell-past [] i c e = let no : None ≡ Some c = e in cc
cell-past (p ∷ ps) zero c e = omega arith
cell-past (p ∷ ps) (suc i) c e = let ih = cell-past ps i c e in omega (arith, ih)

pub cell-is : (ps : List Place) (i : ℕ) (c : Cell) → slice_get (cells_of ps) i ≡ Some c → c ≡ cell_of (place_at ps i)
cell-is ps i c e = let same : Some c ≡ Some (cell_of (place_at ps i)) = sym e ∙ cell-at ps i (cell-past ps i c e) in cc

pub cells-length : (ps : List Place) → length (cells_of ps) ≡ length ps
cells-length ps = length-map ps cell_of

pub aired-field : (ps : List Place) → IsAired ps → IsField (cells_of ps)
aired-field ps a = record {
  some = omega (arith, a.some, cells-length ps);
  few = omega (arith, a.few, cells-length ps);
  edges = λ i c d e f.
      let l = cell-past ps (i + 1) d f in
      let x : c ≡ cell_of (place_at ps i) = cell-is ps i c e in
      let y : d ≡ cell_of (place_at ps (i + 1)) = cell-is ps (i + 1) d f in
      ap (λ (z : Cell). z.ends) x ∙ (joined-at ps i a.joined l ∙ sym (ap (λ (z : Cell). z.begins) y));
}

-- ---- a stretch of a field

joined-range : (ps : List Place) (from to : ℕ) → Joined ps → from < to → to ≤ length ps
    → Joined (slice_range ps from to)
joined-range ps from to j lt le = by (slice_range ps from to) 0 (λ i l. here i (omega (arith, l, long)))
  where
    long : length (slice_range ps from to) ≡ to - from
    long = range-length ps from to le

    here : (i : ℕ) → i + 1 < to - from → (place_at (slice_range ps from to) i).ends
        ≡ (place_at (slice_range ps from to) (i + 1)).begins
    here i l =
        let n : from + i + 1 ≡ from + (i + 1) = omega arith in
        ap (λ (p : Place). p.ends) (range-at ps from to i nowhere (omega arith))
        ∙ (joined-at ps (from + i) j (omega arith)
        ∙ (ap (λ (k : ℕ). (place_at ps k).begins) n
        ∙ sym (ap (λ (p : Place). p.begins) (range-at ps from to (i + 1) nowhere l))))

    by : (qs : List Place) (z : ℕ)
        → ((i : ℕ) → i + 1 < length qs → (place_at qs i).ends ≡ (place_at qs (i + 1)).begins) → Joined qs
    by [] z h = tt
    by (p ∷ []) z h = tt
    by (p ∷ q ∷ qs) z h = (
      h 0 (omega arith),
      by (q ∷ qs) z (λ i l. let n : suc i + 1 ≡ suc (i + 1) = omega arith in
          subst (λ (k : ℕ). (place_at (p ∷ q ∷ qs) (suc i)).ends ≡ (place_at (p ∷ q ∷ qs) k).begins) n
          (h (suc i) (omega (arith, l)))),
    )

so-is : (from to size : ℕ) → from < to → to ≤ size → so_of (segment_of from to size) ≡ from
so-is from to size lt le = by (to - from == size) refl
  where
    by : (b : Bool) → (to - from == size) ≡ b
        → so_of (if b then None else Some (record { last = to == size; so = from })) ≡ from
    by true e = let n : to - from ≡ size = grind (arith, nat_tests) in omega (arith, n, lt, le)
    by false e = refl

last-is : (from to size : ℕ) → from < to → to ≤ size → is_last (segment_of from to size) ≡ (to == size)
last-is from to size lt le = by (to - from == size) refl
  where
    by : (b : Bool) → (to - from == size) ≡ b
        → is_last (if b then None else Some (record { last = to == size; so = from })) ≡ (to == size)
    by true e = let n : to - from ≡ size = grind (arith, nat_tests) in let m : to ≡ size = omega (arith, n, lt, le) in
        grind (arith, nat_tests)
    by false e = refl

-- the piece that is read of a stretch
pub stretch-part : (number : ℕ) (poll : Bool) (ps : List Place) (from to : ℕ) → IsAired ps → from < to → to ≤ length ps
    → IsPart (cells_of ps) (piece_of (read_as number poll (segment_of from to (length ps)) (slice_range ps from to)))
stretch-part number poll ps from to a lt le = record {
  some = omega (arith, count, lt);
  part = λ j c e.
      let f : slice_get (cells_of qs) j ≡ Some c = ap (λ (cs : List Cell). slice_get cs j) (sym cells) ∙ e in
      let l = cell-past qs j c f in
      let x : c ≡ cell_of (place_at qs j) = cell-is qs j c f in
      let y : place_at qs j ≡ place_at ps (from + j) = range-at ps from to j nowhere (omega (arith, l, long)) in
      ap (λ (k : ℕ). slice_get (cells_of ps) (k + j)) (so-is from to (length ps) lt le)
      ∙ (cell-at ps (from + j) (omega (arith, l, long, le)) ∙ ap (λ (d : Cell). Some d) (sym (x ∙ ap cell_of y)));
  begins = λ c e.
      let f : slice_get (cells_of qs) 0 ≡ Some c = ap (λ (cs : List Cell). slice_get cs 0) (sym cells) ∙ e in
      let x : c ≡ cell_of (place_at qs 0) = cell-is qs 0 c f in
      framing-begins (first_begins qs) (last_ends qs) ∙ (first-at qs ∙ sym (ap (λ (d : Cell). d.begins) x));
  last = λ e.
      let b : (to == length ps) ≡ true = sym (last-is from to (length ps) lt le) ∙ e in
      let n : to ≡ length ps = grind (arith, nat_tests) in
      omega (arith, ends, n, cells-length ps);
  on = λ e.
      let b : (to == length ps) ≡ false = sym (last-is from to (length ps) lt le) ∙ e in
      let n : to ≡ length ps → ⊥ = λ i. grind (arith, nat_tests) in
      omega (arith, ends, n, le, cells-length ps);
}
  where
    qs : List Place
    qs = slice_range ps from to

    long : length (slice_range ps from to) ≡ to - from
    long = range-length ps from to le

    joined : Joined (slice_range ps from to)
    joined = joined-range ps from to a.joined lt le

    p : Piece
    p = piece_of (read_as number poll (segment_of from to (length ps)) (slice_range ps from to))

    cells : p.cells ≡ cells_of (slice_range ps from to)
    cells =
        ap (λ (b : Bool). data_cells b (ends_in (framing (first_begins qs) (last_ends qs)))
        (read_as number poll (segment_of from to (length ps)) qs).elements)
        (framing-begins (first_begins qs) (last_ends qs))
        ∙ (ap (λ (b : Bool). data_cells (first_begins qs) b
        (read_as number poll (segment_of from to (length ps)) qs).elements)
        (framing-ends (first_begins qs) (last_ends qs))
        ∙ cells-read qs (omega (arith, long, lt)) joined)

    count : length p.cells ≡ to - from
    count = ap (λ (cs : List Cell). length cs) cells ∙ (cells-length qs ∙ long)

    ends : end_of p ≡ to
    ends = let s : p.so ≡ from = so-is from to (length ps) lt le in omega (arith, s, count, lt)
