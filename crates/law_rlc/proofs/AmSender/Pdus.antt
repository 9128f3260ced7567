-- A data PDU by what it carries: how long it is, and its segments.
use Rattle.std.proofs.Common.{◌≡◌, ◌<◌, ◌≤◌, inl, inr, ℕ, ◌+◌, ◌-◌, ◌%◌, Bool, true, false, ◌&&◌, ◌==◌, if◌then◌else◌}
use Rattle.std.proofs.Common.{List, length, map, slice_range, Option, Some}
use Rattle.std.proofs.Common.{None, is_some, refl, ap, sym, subst, ◌∙◌, arith, nat_lt, nat_le}
use Rattle.std.specs.Prelude.{IfSome, MatchOption}
use Rattle.std.specs.List.{sum}
use Rattle.std.proofs.lemmas.Grind.{common_steps}
use Rattle.std.proofs.lemmas.Bool.Decides.{nat_tests}
use Rattle.std.proofs.lemmas.Bool.{cases_lt}
use Rattle.std.proofs.lemmas.List.{length-map}
use Rattle.rlc_pdu.specs.declared.pdu.Part.{Part}
use Rattle.rlc_pdu.specs.declared.pdu.Segment.{Segment}
use Rattle.rlc_pdu.specs.Pdus.{AreLens}
use Rattle.rlc_pdu.specs.Runs.{has}
use Rattle.rlc_pdu.specs.Places.{IsGap}
use Rattle.rlc_pdu.proofs.PlaceLaws.{gaps_are_first}
use Rattle.rlc_pdu.specs.Writing.{header_len, amd_written}
use Rattle.rlc_queue.specs.NewPdu.{framing}
use Rattle.rlc_am_tx_window.specs.Cut.{clip, is_cut}
use Rattle.rlc_am_tx_window.specs.Sent.{Sent, Stretch, Lies, first_waiting, is_waiting, is_all, all_wait, whole_size}
use Rattle.rlc_am_tx_window.specs.Sent.{next_stretch, stretch_from, stretch_in}
use Rattle.rlc_am_tx_window.specs.Written.{begins_at, ends_at, whole_octets, part_octets}
use Rattle.rlc_am_tx_window.proofs.CutFits.{cut-fits, written-len}
use Rattle.rlc_am_tx_window.proofs.CutSteps.{lens-some, clip-sum, clip-lens}
use Rattle.rlc_am_tx_window.proofs.SlotSteps.{gap-lies}
use Rattle.rlc_am_tx.specs.declared.turn.Turn.TheVariants as turns
use Rattle.rlc_am_tx.specs.Machine.{State, turn}
use Rattle.rlc_am_tx.specs.Machine.{again}
use Rattle.law_rlc.specs.AmSender.Octets.{Place, first_begins, last_ends, lengths, written}
use Rattle.law_rlc.proofs.AmSender.Keys.{Key, key}
use Rattle.law_rlc.proofs.AmSender.Heard.{IsSlot}
use Rattle.law_rlc.proofs.AmSender.Resends.{not-true}
use Rattle.law_rlc.proofs.AmSender.Longest.{longest}
use Rattle.law_rlc.proofs.AmSender.SegmentLens.{cuts, clip-clip}
use Rattle.law_rlc.proofs.AmSender.Stretches.{place_at, Joined, joined-at, first-at, last-at, cut-of}
use Rattle.law_rlc.proofs.AmSender.Stretches.{clip-range, range-at, range-all, range-length, range-octets, nowhere}

-- ---- a PDU by what it carries

pub record IsFace (k : Key) (ps : List Place) : Type 0 where
  pub field : k.field ≡ map (λ (p : Place). p.octet) ps
  pub lens : k.lens ≡ lengths 0 ps
  pub begins : k.begins ≡ first_begins ps
  pub ends : k.ends ≡ last_ends ps
  pub joined : Joined ps
  pub written : AreLens k.lens
  pub whole : sum k.lens ≡ length k.field

pub face-length : (k : Key) (ps : List Place) → IsFace k ps → length k.field ≡ length ps
face-length k ps f = ap (λ (xs : List ℕ). length xs) f.field ∙ length-map ps (λ (p : Place). p.octet)

pub face-some : (k : Key) (ps : List Place) → IsFace k ps → 0 < length ps
face-some k ps f = let a = lens-some k.lens f.written in let b = f.whole in let c = face-length k ps f in
    omega (arith, a, b, c)

same-written : (sn : ℕ) (poll b b' e e' : Bool) (segment : Option Segment) (ls ls' xs xs' : List ℕ) → b ≡ b' → e ≡ e'
    → ls ≡ ls' → xs ≡ xs'
    → amd_written sn poll (framing b e) segment ls xs ≡ amd_written sn poll (framing b' e') segment ls' xs'
same-written sn poll b b' e e' segment ls ls' xs xs' p q r t =
    ap (λ (c : Bool). amd_written sn poll (framing c e) segment ls xs) p
    ∙ (ap (λ (c : Bool). amd_written sn poll (framing b' c) segment ls xs) q
    ∙ (ap (λ (ks : List ℕ). amd_written sn poll (framing b' e') segment ks xs) r
    ∙ ap (λ (ys : List ℕ). amd_written sn poll (framing b' e') segment ls' ys) t))

pub whole-is : (h : Sent) (ps : List Place) (number : ℕ) (poll : Bool) → IsFace (key h) ps
    → whole_octets h number poll ≡ written number poll None ps
whole-is h ps number poll f =
    same-written (number % 1024) poll h.begins (first_begins ps) h.ends (last_ends ps) None h.lens (lengths 0 ps)
    h.field (map (λ (p : Place). p.octet) ps) f.begins f.ends f.lens f.field

-- a stretch begins and ends an SDU where the PDU says so
first-of : (ps : List Place) (from to : ℕ) → from < to → to ≤ length ps
    → first_begins (slice_range ps from to) ≡ (place_at ps from).begins
first-of ps from to lt le =
    let q : from + 0 ≡ from = omega arith in
    first-at (slice_range ps from to)
    ∙ ap (λ (p : Place). p.begins) (range-at ps from to 0 nowhere (omega arith) ∙ ap (λ (i : ℕ). place_at ps i) q)

last-of : (ps : List Place) (from to : ℕ) → from < to → to ≤ length ps
    → last_ends (slice_range ps from to) ≡ (place_at ps (to - 1)).ends
last-of ps from to lt le =
    let l = range-length ps from to le in
    let q : from + (to - from - 1) ≡ to - 1 = omega arith in
    last-at (slice_range ps from to) (to - from - 1) (omega (arith, l))
    ∙ ap (λ (p : Place). p.ends) (range-at ps from to (to - from - 1) nowhere (omega arith)
    ∙ ap (λ (i : ℕ). place_at ps i) q)

is-cut : (h : Sent) (ps : List Place) (k : ℕ) → IsFace (key h) ps → 0 < k → k < length ps
    → is_cut k h.lens ≡ (place_at ps (k - 1)).ends
is-cut h ps k f some lt =
    ap (λ (ls : List ℕ). is_cut k ls) f.lens ∙ (cut-of 0 k ps some (omega arith)
    ∙ (always (place_at ps (k - (0 + 1))).ends
    ∙ (let q : k - (0 + 1) ≡ k - 1 = omega arith in ap (λ (i : ℕ). (place_at ps i).ends) q)))
  where
    always : (b : Bool) → (nat_lt 0 k && b) ≡ b
    always b = grind (arith, nat_tests)

begins-is : (h : Sent) (ps : List Place) (from to : ℕ) → IsFace (key h) ps → from < to → to ≤ length ps
    → begins_at h from ≡ first_begins (slice_range ps from to)
begins-is h ps from to f lt le = by (from == 0) refl ∙ sym (first-of ps from to lt le)
  where
    by : (b : Bool) → (from == 0) ≡ b → (if b then h.begins else is_cut from h.lens) ≡ (place_at ps from).begins
    by true e = let z : 0 ≡ from = grind (arith, nat_tests) in
        f.begins ∙ (first-at ps ∙ ap (λ (i : ℕ). (place_at ps i).begins) z)
    by false e =
        let some : 0 < from = grind (arith, nat_tests) in
        let q : from - 1 + 1 ≡ from = omega arith in
        is-cut h ps from f some (omega arith)
        ∙ (joined-at ps (from - 1) f.joined (omega arith) ∙ ap (λ (i : ℕ). (place_at ps i).begins) q)

ends-is : (h : Sent) (ps : List Place) (from to : ℕ) → IsFace (key h) ps → from < to → to ≤ length ps
    → ends_at h to ≡ last_ends (slice_range ps from to)
ends-is h ps from to f lt le = by (to == length h.field) refl ∙ sym (last-of ps from to lt le)
  where
    by : (b : Bool) → (to == length h.field) ≡ b
        → (if b then h.ends else is_cut to h.lens) ≡ (place_at ps (to - 1)).ends
    by true e = let n : to ≡ length h.field = grind (arith, nat_tests) in let l = face-length (key h) ps f in
        f.ends ∙ last-at ps (to - 1) (omega (arith, n, l))
    by false e =
        let n : to ≡ length h.field → ⊥ = λ i. grind (arith, nat_tests) in
        let l = face-length (key h) ps f in
        is-cut h ps to f (omega arith) (omega (arith, n, l))

pub part-is : (h : Sent) (ps : List Place) (number : ℕ) (poll : Bool) (t : Stretch) → IsFace (key h) ps → t.from < t.to
    → t.to ≤ length ps → t.lens ≡ clip t.from t.to h.lens
    → part_octets h number poll t ≡ written number poll (Some (record { last = t.to == length ps; so = t.from }))
    (slice_range ps t.from t.to)
part-is h ps number poll t f lt le lens =
    ap (λ (n : ℕ). amd_written (number % 1024) poll (framing (begins_at h t.from) (ends_at h t.to))
    (Some (record { last = t.to == n; so = t.from })) t.lens (slice_range h.field t.from t.to))
    (face-length (key h) ps f)
    ∙ same-written (number % 1024) poll (begins_at h t.from) (first_begins (slice_range ps t.from t.to))
    (ends_at h t.to) (last_ends (slice_range ps t.from t.to))
    (Some (record { last = t.to == length ps; so = t.from }))
    t.lens (lengths 0 (slice_range ps t.from t.to)) (slice_range h.field t.from t.to)
    (map (λ (p : Place). p.octet) (slice_range ps t.from t.to))
    (begins-is h ps t.from t.to f lt le) (ends-is h ps t.from t.to f lt le)
    (lens ∙ (ap (λ (ls : List ℕ). clip t.from t.to ls) f.lens ∙ clip-range t.from t.to ps le))
    (ap (λ (xs : List ℕ). slice_range xs t.from t.to) f.field ∙ range-octets ps t.from t.to)

-- ---- how long it is

pub whole-len : (h : Sent) (ps : List Place) (number : ℕ) (poll : Bool) → IsFace (key h) ps
    → length (written number poll None ps) ≡ whole_size h
whole-len h ps number poll f =
    let w = f.whole in
    ap (λ (xs : List ℕ). length xs) (sym (whole-is h ps number poll f))
    ∙ (written-len (number % 1024) poll (framing h.begins h.ends) None h.lens h.field f.written f.whole
    ∙ omega (arith, w))

pub part-len : (h : Sent) (ps : List Place) (number : ℕ) (poll : Bool) (segment : Segment) (from to : ℕ)
    → IsFace (key h) ps → from < to → to ≤ length ps
    → length (written number poll (Some segment) (slice_range ps from to))
    ≡ header_len 4 (length (clip from to h.lens)) + (to - from)
part-len h ps number poll segment from to f lt le =
    written-len (number % 1024) poll
    (framing (first_begins (slice_range ps from to)) (last_ends (slice_range ps from to))) (Some segment)
    (lengths 0 (slice_range ps from to)) (map (λ (p : Place). p.octet) (slice_range ps from to))
    (subst (λ (ls : List ℕ). AreLens ls) lens (clip-lens from to h.lens f.written lt (omega (arith, le, w, l))))
    (omega (arith, total, many, long))
    ∙ (ap (λ (ls : List ℕ). header_len 4 (length ls) + sum (lengths 0 (slice_range ps from to))) (sym lens)
    ∙ ap (λ (n : ℕ). header_len 4 (length (clip from to h.lens)) + n) total)
  where
    w : sum h.lens ≡ length h.field
    w = f.whole

    l : length h.field ≡ length ps
    l = face-length (key h) ps f

    lens : clip from to h.lens ≡ lengths 0 (slice_range ps from to)
    lens = ap (λ (ls : List ℕ). clip from to ls) f.lens ∙ clip-range from to ps le

    total : sum (lengths 0 (slice_range ps from to)) ≡ to - from
    total = let c = clip-sum from to h.lens in ap (λ (ls : List ℕ). sum ls) (sym lens) ∙ omega (arith, c, w, l, le)

    long : length (slice_range ps from to) ≡ to - from
    long = range-length ps from to le

    many : length (map (λ (p : Place). p.octet) (slice_range ps from to)) ≡ length (slice_range ps from to)
    many = length-map (slice_range ps from to) (λ (p : Place). p.octet)

-- ---- a segment of it

-- its lengths; it fits; where it begins the PDU and all octets wait, so they do; and it is the longest that waits
pub record IsShare (h : Sent) (size : ℕ) (t : Stretch) (all : Bool) (waiting : ℕ → Bool) : Type 0 where
  pub lens : t.lens ≡ clip t.from t.to h.lens
  pub fits : header_len 4 (length t.lens) + sum t.lens ≤ size
  pub all' : t.from ≡ 0 → ((i : ℕ) → i < length h.field → waiting i ≡ true) → all ≡ true
  pub most : (k : ℕ) → t.from < k → k ≤ length h.field → ((i : ℕ) → t.from ≤ i → i < k → waiting i ≡ true)
      → header_len 4 (length (clip t.from k h.lens)) + (k - t.from) ≤ size → k ≤ t.to

-- octets that wait from the first on don't pass the first that does not
gap-most : (h : Sent) (f : ℕ → Bool) (n most : ℕ) → IsSlot h f n most → (p : Part)
    → IsGap h.resting 0 (length h.field) p → (k : ℕ) → p.start < k → k ≤ length h.field
    → ((i : ℕ) → p.start ≤ i → i < k → f i ≡ true) → k ≤ p.end + 1
gap-most h f n most s p g k lt le all = elim (cases_lt (p.end + 1) k) [
  | inl beyond ↦
      let a = g.some in
      let in' : p.end + 1 < length h.field = omega (arith, beyond, le) in
      let rests : f (p.end + 1) ≡ false = not-true (f (p.end + 1)) (sym (g.largest in') ∙ s.rests (p.end + 1) in') in
      let no' : true ≡ false = sym (all (p.end + 1) (omega (arith, a)) beyond) ∙ rests in cc
  | inr within ↦ within
]

pub share : (h : Sent) (size : ℕ) (f : ℕ → Bool) (n most : ℕ) → IsSlot h f n most → AreLens h.lens → is_waiting h ≡ true
    → 5 ≤ size → IsShare h size (next_stretch h size) (all_wait h) f
share h size f n most s lens w five =
    by (first_waiting h) (gap-lies h.resting 0 (length h.field))
    (λ some. gaps_are_first h.resting 0 (length h.field) (s.ascends some)) w
  where
    total : sum h.lens ≡ length h.field
    total = s.whole

    ends : (p : Part) → p.start ≡ 0 → p.end + 1 ≡ length h.field
        → ((p.start == 0) && (p.end + 1 == length h.field)) ≡ true
    ends p a b = grind (arith, nat_tests, a, b)

    longest-from : (p : Part) → IsGap h.resting 0 (length h.field) p → (k : ℕ) → p.start < k → k ≤ p.end + 1
        → header_len 4 (length (clip p.start k h.lens)) + (k - p.start) ≤ size → k ≤ (stretch_in h size p).to
    longest-from p g k lt le fit =
        let a = g.some in let b = g.below in
        let q : p.start + (k - p.start) ≡ k = omega (arith, lt) in
        let c = clip-sum p.start (p.end + 1) h.lens in
        let e : clip 0 (k - p.start) (clip p.start (p.end + 1) h.lens) ≡ clip p.start k h.lens =
        clip-clip p.start (p.end + 1) (k - p.start) h.lens (omega (arith, lt, le))
        ∙ ap (λ (j : ℕ). clip p.start j h.lens) q in
        let small : header_len 4 (length (clip 0 (k - p.start) (clip p.start (p.end + 1) h.lens))) + (k - p.start)
        ≤ size = subst (λ (ls : List ℕ). header_len 4 (length ls) + (k - p.start) ≤ size) (sym e) fit in
        let m =
        (longest size (clip p.start (p.end + 1) h.lens)
        (clip-lens p.start (p.end + 1) h.lens lens (omega (arith, a)) (omega (arith, b, total)))).most
        (k - p.start) (omega (arith, c, lt, le, b, total)) small in
        omega (arith, m, lt)

    here : (p : Part) → IsGap h.resting 0 (length h.field) p
        → IsShare h size (stretch_in h size p) ((p.start == 0) && (p.end + 1 == length h.field)) f
    here p g =
        let a = g.some in let b = g.below in
        record {
          lens = cuts size p.start (p.end + 1) h.lens lens (omega (arith, a)) (omega (arith, b, total)) five;
          fits = cut-fits size (clip p.start (p.end + 1) h.lens) five;
          all' = λ z all.
              let m = gap-most h f n most s p g (length h.field) (omega (arith, a, b)) (omega arith)
              (λ i lo hi. all i hi) in
              ends p z (omega (arith, m, b));
          most = λ k lt le all fit. longest-from p g k lt (gap-most h f n most s p g k lt le all) fit;
        }

    by : (o : Option Part) → IfSome o (Lies 0 (length h.field))
        → (0 < length h.field
        → MatchOption o ((j : ℕ) → 0 ≤ j → j < length h.field → has h.resting j ≡ true)
        (IsGap h.resting 0 (length h.field))) → is_some o ≡ true
        → IsShare h size (stretch_from o h size) (is_all o 0 (length h.field)) f
    by None l g w = let no' : false ≡ true = w in cc
    by (Some p) l g w = here p (g (let b = l.below in omega arith))

-- where all octets wait, a segment has room for less
pub part-case : (s : State) (size : ℕ) (held : Option ℕ) (more : Bool) → turn s size held more ≡ turns.Part
    → (all_wait (again s) && nat_le (whole_size (again s)) size) ≡ false
unfolding turn
part-case s size held more e = grind (arith, common_steps, nat_tests)

pub whole-fits : (s : State) (size : ℕ) (held : Option ℕ) (more : Bool) → turn s size held more ≡ turns.Whole
    → whole_size (again s) ≤ size
unfolding turn
whole-fits s size held more e = grind (arith, common_steps, nat_tests)

pub clash : (h : Sent) (size : ℕ) → all_wait h ≡ true → whole_size h ≤ size
    → (all_wait h && nat_le (whole_size h) size) ≡ false → ⊥
clash h size all small part =
    let fits : nat_le (whole_size h) size ≡ true = grind (arith, nat_tests) in
    let no' : true ≡ false = sym (ap (λ (c : Bool). c && nat_le (whole_size h) size) all ∙ fits) ∙ part in cc

pub less : (h : Sent) (ps : List Place) (size : ℕ) (t : Stretch) (f : ℕ → Bool) → IsFace (key h) ps
    → IsShare h size t (all_wait h) f → t.from < t.to → t.to ≤ length ps
    → ((i : ℕ) → t.from ≤ i → i < t.to → f i ≡ true)
    → (all_wait h && nat_le (whole_size h) size) ≡ false → (t.to - t.from == length ps) ≡ false
less h ps size t waiting f sh lt le all part = by (t.to - t.from == length ps) refl
  where
    by : (b : Bool) → (t.to - t.from == length ps) ≡ b → (t.to - t.from == length ps) ≡ false
    by false e = e
    by true e =
        let n : t.to - t.from ≡ length ps = grind (arith, nat_tests) in
        let l = face-length (key h) ps f in
        let z : t.from ≡ 0 = omega arith in
        let m : t.to ≡ length ps = omega arith in
        let lens : t.lens ≡ h.lens =
        sh.lens ∙ (ap (λ (ls : List ℕ). clip t.from t.to ls) f.lens
        ∙ (clip-range t.from t.to ps le
        ∙ (ap (λ (qs : List Place). lengths 0 qs) (ap (λ (k : ℕ). slice_range ps k t.to) z ∙ range-all ps t.to m)
        ∙ sym f.lens))) in
        let fits : header_len 4 (length h.lens) + sum h.lens ≤ size =
        subst (λ (ls : List ℕ). header_len 4 (length ls) + sum ls ≤ size) lens sh.fits in
        let w = f.whole in
        absurd (clash h size (sh.all' z (λ i i_in. all i (omega (arith, z)) (omega (arith, i_in, m, l))))
        (omega (arith, fits, w)) part)
