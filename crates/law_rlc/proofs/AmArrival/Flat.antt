-- The SDUs of the stream, cut from its places.
use Rattle.std.proofs.Common.{◌≡◌, ◌<◌, ◌≤◌, inl, inr, ℕ, zero, suc, ◌+◌, ◌-◌, Bool, true, false, ◌&&◌, if◌then◌else◌}
use Rattle.std.proofs.Common.{List, [], ◌∷◌, ◌++◌, map, length, take, slice_index, slice_index_or, nat_lt, refl, ap}
use Rattle.std.proofs.Common.{sym, ◌∙◌, arith}
use Rattle.std.proofs.lemmas.Bool.Decides.{nat_tests}
use Rattle.std.proofs.lemmas.Bool.{cases_lt}
use Rattle.std.proofs.lemmas.List.{length-map}
use Rattle.rlc_queue.specs.Waiting.{HaveOctets}
use Rattle.law_rlc.specs.AmSender.Octets.{Place as Sent, places as places_of}
use Rattle.law_rlc.proofs.AmSender.Dealing.{stream}
use Rattle.rlc_am_rx_window.specs.Cells.{Cell}
use Rattle.law_rlc.specs.AmReceiver.Finish.{Place, marked, cut, all_come}
use Rattle.law_rlc.specs.AmPair.Fields.{cell_of, cells_of}
use Rattle.law_rlc.proofs.AmPair.Parts.{cells-length}
use Rattle.law_rlc.proofs.AmPair.Sequence.{come-push}
use Rattle.law_words.specs.Stretches.{place_of, all_from}
use Rattle.law_rlc.proofs.AmArrival.Places.{all_from_false}

abbrev pub is_whole : List (List Place) → ℕ → Bool
is_whole sdus k = nat_lt k (length sdus) && all_come (slice_index_or sdus k [])

-- ---- places that haven't come behind others end no SDU that has

abbrev pub NoneCome : List Place → Type 0
NoneCome [] = Unit {0}
NoneCome (q ∷ qs) = (q.come ≡ false) × NoneCome qs

none_whole : (qs current : List Place) (k : ℕ) → NoneCome qs → is_whole (cut current qs) k ≡ false
none_whole [] current k h = grind (arith, nat_tests)
none_whole (q ∷ qs) current k h =
    by q.cell.ends k (λ j. none_whole qs [] j h.1) (none_whole qs (current ++ q ∷ []) k h.1)
  where
    no' : all_come (current ++ q ∷ []) ≡ false
    no' = let p = come-push current q in let e = h.0 in grind (arith, nat_tests, p, e)

    by : (b : Bool) (k : ℕ) → ((j : ℕ) → is_whole (cut [] qs) j ≡ false)
        → is_whole (cut (current ++ q ∷ []) qs) k ≡ false
        → is_whole (if b then (current ++ q ∷ []) ∷ cut [] qs else cut (current ++ q ∷ []) qs) k ≡ false
    by true zero rest on = grind (arith, nat_tests, no')
    by true (suc j) rest on = let r = rest j in next j r
      where
        next : (j : ℕ) → is_whole (cut [] qs) j ≡ false → is_whole ((current ++ q ∷ []) ∷ cut [] qs) (suc j) ≡ false
        next j r = grind (arith, nat_tests, r)
    by false k rest on = on

next_whole : (s : List Place) (ss : List (List Place)) (k : ℕ) → is_whole (s ∷ ss) (suc k) ≡ is_whole ss k
next_whole s ss k = grind (arith, nat_tests)

pub whole_behind : (ps qs current : List Place) (k : ℕ) → NoneCome qs
    → is_whole (cut current (ps ++ qs)) k ≡ is_whole (cut current ps) k
whole_behind [] qs current k h = none_whole qs current k h ∙ grind (arith, nat_tests)
whole_behind (p ∷ ps) qs current k h =
    by p.cell.ends k (λ j. whole_behind ps qs [] j h) (whole_behind ps qs (current ++ p ∷ []) k h)
  where
    by : (b : Bool) (k : ℕ) → ((j : ℕ) → is_whole (cut [] (ps ++ qs)) j ≡ is_whole (cut [] ps) j)
        → is_whole (cut (current ++ p ∷ []) (ps ++ qs)) k ≡ is_whole (cut (current ++ p ∷ []) ps) k
        → is_whole (if b then (current ++ p ∷ []) ∷ cut [] (ps ++ qs) else cut (current ++ p ∷ []) (ps ++ qs)) k
        ≡ is_whole (if b then (current ++ p ∷ []) ∷ cut [] ps else cut (current ++ p ∷ []) ps) k
    by true zero rest on = grind (arith, nat_tests)
    by true (suc j) rest on = next_whole (current ++ p ∷ []) (cut [] (ps ++ qs)) j ∙ rest j
        ∙ sym (next_whole (current ++ p ∷ []) (cut [] ps) j)
    by false k rest on = on

-- ---- places with what has come

pub marked_then : (xs ys : List Cell) (come : ℕ → Bool) (i : ℕ)
    → marked (xs ++ ys) come i ≡ marked xs come i ++ marked ys come (i + length xs)
marked_then [] ys come i = let e : i ≡ i + 0 = omega arith in ap (λ (n : ℕ). marked ys come n) e
marked_then (x ∷ xs) ys come i =
    let e : i + 1 + length xs ≡ i + length (x ∷ xs) = omega arith in
    ap (λ (ps : List Place). record { cell = x; come = come i } ∷ ps)
    (marked_then xs ys come (i + 1) ∙ ap (λ (n : ℕ). marked xs come (i + 1) ++ marked ys come n) e)

pub marked_as : (xs : List Cell) (come other : ℕ → Bool) (i k : ℕ)
    → ((j : ℕ) → j < length xs → come (i + j) ≡ other (k + j)) → marked xs come i ≡ marked xs other k
marked_as [] come other i k h = refl
marked_as (x ∷ xs) come other i k h =
    let a : i + 0 ≡ i = omega arith in
    let b : k + 0 ≡ k = omega arith in
    let here : come i ≡ other k = ap come (sym a) ∙ (h 0 (omega arith) ∙ ap other b) in
    let rest = marked_as xs come other (i + 1) (k + 1) (λ j lt.
    let c : i + suc j ≡ i + 1 + j = omega arith in
    let d : k + suc j ≡ k + 1 + j = omega arith in
    ap come (sym c) ∙ (h (suc j) (omega (arith, lt)) ∙ ap other d)) in
    ap (λ (b : Bool). record { cell = x; come = b } ∷ marked xs come (i + 1)) here
    ∙ ap (λ (ps : List Place). record { cell = x; come = other k } ∷ ps) rest

come_from : (xs : List Cell) (come : ℕ → Bool) (i : ℕ) → all_come (marked xs come i) ≡ all_from come i (length xs)
come_from [] come i = refl
come_from (x ∷ xs) come i = ap (λ (b : Bool). come i && b) (come_from xs come (i + 1))

-- ---- an SDU of the stream

abbrev pub marks : List Sent → (ℕ → Bool) → ℕ → List Place
marks xs come i = marked (cells_of xs) come i

places_long : (b : Bool) (x : List ℕ) → length (places_of b x) ≡ length x
places_long b [] = refl
places_long b (x ∷ []) = refl
places_long b (x ∷ y ∷ ys) = ap suc (places_long false (y ∷ ys))

-- it ends with its last place, and not before
cut_one : (b : Bool) (x : List ℕ) (come : ℕ → Bool) (i : ℕ) (current qs : List Place) → 0 < length x
    → cut current (marks (places_of b x) come i ++ qs) ≡ (current ++ marks (places_of b x) come i) ∷ cut [] qs
cut_one b [] come i current qs some = absurd (omega (arith, some))
cut_one b (x ∷ []) come i current qs some = refl
cut_one b (x ∷ y ∷ ys) come i current qs some =
    let p : Place = record { cell = cell_of (record { octet = x; begins = b; ends = false }); come = come i } in
    cut_one false (y ∷ ys) come (i + 1) (current ++ p ∷ []) qs (omega arith)
    ∙ ap (λ (ps : List Place). ps ∷ cut [] qs) (together current p (marks (places_of false (y ∷ ys)) come (i + 1)))
  where
    together : (xs : List Place) (p : Place) (ps : List Place) → (xs ++ p ∷ []) ++ ps ≡ xs ++ (p ∷ ps)
    together [] p ps = refl
    together (x ∷ xs) p ps = ap (λ (l : List Place). x ∷ l) (together xs p ps)

cut_part : (b : Bool) (x : List ℕ) (n : ℕ) (come : ℕ → Bool) (i : ℕ) (current : List Place) → n < length x
    → cut current (marks (take n (places_of b x)) come i) ≡ []
cut_part b [] n come i current lt = absurd (omega (arith, lt))
cut_part b (x ∷ []) zero come i current lt = refl
cut_part b (x ∷ []) (suc n) come i current lt = absurd (omega (arith, lt))
cut_part b (x ∷ y ∷ ys) zero come i current lt = refl
cut_part b (x ∷ y ∷ ys) (suc n) come i current lt = cut_part false (y ∷ ys) n come (i + 1) _ (omega (arith, lt))

-- ---- the stream

take_within : (xs ys : List Sent) (n : ℕ) → n ≤ length xs → take n (xs ++ ys) ≡ take n xs
take_within xs ys zero le = refl
take_within [] ys (suc n) le = absurd (omega (arith, le))
take_within (x ∷ xs) ys (suc n) le = ap (λ (l : List Sent). x ∷ l) (take_within xs ys n (omega (arith, le)))

pub take_past : (xs ys : List Sent) (n : ℕ) → take (length xs + n) (xs ++ ys) ≡ xs ++ take n ys
take_past [] ys n = let e : 0 + n ≡ n = omega arith in ap (λ (k : ℕ). take k ys) e
take_past (x ∷ xs) ys n =
    let e : length (x ∷ xs) + n ≡ suc (length xs + n) = omega arith in
    ap (λ (k : ℕ). take k (x ∷ (xs ++ ys))) e ∙ ap (λ (l : List Sent). x ∷ l) (take_past xs ys n)

pub cells_then : (xs ys : List Sent) → cells_of (xs ++ ys) ≡ cells_of xs ++ cells_of ys
cells_then [] ys = refl
cells_then (x ∷ xs) ys = ap (λ (l : List Cell). cell_of x ∷ l) (cells_then xs ys)

abbrev pub told_whole : List (List ℕ) → (ℕ → Bool) → ℕ → ℕ → Bool
told_whole sdus come i k = nat_lt k (length (map length sdus))
    && all_from come (i + place_of (map length sdus) k) (slice_index (map length sdus) k)

-- an SDU of which not all places are there
none_told : (sdus : List (List ℕ)) (come : ℕ → Bool) (i n k : ℕ) → HaveOctets sdus
    → ((j : ℕ) → i + n ≤ j → come j ≡ false)
    → (0 < length sdus → n < length (slice_index_or sdus 0 [])) → told_whole sdus come i k ≡ false
none_told [] come i n k h none lt = grind (arith, nat_tests)
none_told (s ∷ ss) come i n zero h none lt =
    let few = lt (omega arith) in
    let z : i + 0 ≡ i = omega arith in
    let e : all_from come (i + 0) (length s) ≡ false =
    all_from_false come (i + 0) (length s) (i + n) (omega arith) (omega (arith, few)) (none (i + n) (omega arith))
    in
    grind (arith, nat_tests, e)
none_told (s ∷ ss) come i n (suc k) h none lt = behind ss k h.1
  where
    few : n < length s
    few = lt (omega arith)

    behind : (ss : List (List ℕ)) (k : ℕ) → HaveOctets ss
        → (nat_lt (suc k) (length (length s ∷ map length ss))
        && all_from come (i + (length s + place_of (map length ss) k)) (slice_index (map length ss) k)) ≡ false
    behind [] k h = grind (arith, nat_tests)
    behind ss k h = by (nat_lt k (length (map length ss))) refl
      where
        by : (b : Bool) → nat_lt k (length (map length ss)) ≡ b
            → (nat_lt (suc k) (length (length s ∷ map length ss))
            && all_from come (i + (length s + place_of (map length ss) k)) (slice_index (map length ss) k)) ≡ false
        by false e = grind (arith, nat_tests, e)
        by true e =
            let l = length-map ss length in
            let in' : k < length ss = grind (arith, nat_tests, e, l) in
            let at = i + (length s + place_of (map length ss) k) in
            let some = has_some ss k h in' in
            let f : all_from come at (slice_index (map length ss) k) ≡ false =
            all_from_false come at (slice_index (map length ss) k) at (omega arith) (omega (arith, some))
            (none at (omega (arith, few))) in
            grind (arith, nat_tests, f)
          where
            has_some : (ss : List (List ℕ)) (k : ℕ) → HaveOctets ss → k < length ss → 0 < slice_index (map length ss) k
            has_some [] k h lt = absurd (omega (arith, lt))
            has_some (x ∷ ss) zero h lt = h.0
            has_some (x ∷ ss) (suc k) h lt = has_some ss k h.1 (omega (arith, lt))

pub cut_stream : (sdus : List (List ℕ)) (n : ℕ) (come : ℕ → Bool) (i k : ℕ) → HaveOctets sdus
    → ((j : ℕ) → i + n ≤ j → come j ≡ false)
    → is_whole (cut [] (marks (take n (stream false sdus)) come i)) k ≡ told_whole sdus come i k
cut_stream [] zero come i k h none = refl
cut_stream [] (suc n) come i k h none = refl
cut_stream (s ∷ ss) n come i k h none = elim (cases_lt n (length s)) [
  | inl few ↦
      let l = places_long true s in
      let front : take n (stream false (s ∷ ss)) ≡ take n (places_of true s) =
      take_within (places_of true s) (stream false ss) n (omega (arith, l, few)) in
      let none_cut : cut [] (marks (take n (stream false (s ∷ ss))) come i) ≡ [] =
      ap (λ (xs : List Sent). cut [] (marks xs come i)) front ∙ cut_part true s n come i [] few in
      ap (λ (x : List (List Place)). is_whole x k) none_cut
      ∙ (nothing k ∙ sym (none_told (s ∷ ss) come i n k h none (λ some. few)))
  | inr all ↦
      let l = places_long true s in
      let m = n - length s in
      let e : n ≡ length (places_of true s) + m = omega (arith, l, all) in
      let c : length (cells_of (places_of true s)) ≡ length s = cells-length (places_of true s) ∙ l in
      let front : take n (stream false (s ∷ ss)) ≡ places_of true s ++ take m (stream false ss) =
      ap (λ (j : ℕ). take j (stream false (s ∷ ss))) e ∙ take_past (places_of true s) (stream false ss) m in
      let split : marks (take n (stream false (s ∷ ss))) come i
      ≡ marks (places_of true s) come i ++ marks (take m (stream false ss)) come (i + length s) =
      ap (λ (xs : List Sent). marks xs come i) front
      ∙ (ap (λ (cs : List Cell). marked cs come i) (cells_then (places_of true s) (take m (stream false ss)))
      ∙ (marked_then (cells_of (places_of true s)) (cells_of (take m (stream false ss))) come i
      ∙ ap (λ (j : ℕ). marks (places_of true s) come i ++ marks (take m (stream false ss)) come (i + j)) c)) in
      let is : cut [] (marks (take n (stream false (s ∷ ss))) come i)
      ≡ marks (places_of true s) come i ∷ cut [] (marks (take m (stream false ss)) come (i + length s)) =
      ap (cut []) split ∙ cut_one true s come i [] (marks (take m (stream false ss)) come (i + length s)) h.0 in
      ap (λ (x : List (List Place)). is_whole x k) is
      ∙ one_of k c (λ j. cut_stream ss m come (i + length s) j h.1 (λ at le. none at (omega (arith, le, all))))
]
  where
    nothing : (k : ℕ) → is_whole [] k ≡ false
    nothing k = grind (arith, nat_tests)

    one_of : (k : ℕ) → length (cells_of (places_of true s)) ≡ length s
        → ((j : ℕ) → is_whole (cut [] (marks (take (n - length s) (stream false ss)) come (i + length s))) j
        ≡ told_whole ss come (i + length s) j)
        → is_whole (marks (places_of true s) come i
        ∷ cut [] (marks (take (n - length s) (stream false ss)) come (i + length s))) k ≡ told_whole (s ∷ ss) come i k
    one_of zero c rest =
        let z : i ≡ i + 0 = omega arith in
        let a : all_come (marks (places_of true s) come i) ≡ all_from come (i + 0) (length s) =
        come_from (cells_of (places_of true s)) come i ∙ ap (λ (j : ℕ). all_from come i j) c
        ∙ ap (λ (j : ℕ). all_from come j (length s)) z in
        grind (arith, nat_tests, a)
    one_of (suc k) c rest =
        let e : i + length s + place_of (map length ss) k ≡ i + (length s + place_of (map length ss) k) = omega arith in
        next_whole (marks (places_of true s) come i)
        (cut [] (marks (take (n - length s) (stream false ss)) come (i + length s))) k
        ∙ rest k
        ∙ ap (λ (j : ℕ). nat_lt k (length (map length ss)) && all_from come j (slice_index (map length ss) k)) e
        ∙ ap (λ (b : Bool). b && all_from come (i + (length s + place_of (map length ss) k))
        (slice_index (map length ss) k)) (tests k)
      where
        tests : (k : ℕ) → nat_lt k (length (map length ss)) ≡ nat_lt (suc k) (length (map length (s ∷ ss)))
        tests k = grind (arith, nat_tests)
