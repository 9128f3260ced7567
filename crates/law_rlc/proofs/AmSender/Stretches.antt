-- Octets of SDUs, and stretches of them.
use Rattle.std.proofs.Common.{◌≡◌, ◌<◌, ◌≤◌, inl, inr, ℕ, suc, zero, ◌+◌, ◌-◌, Bool, true, false, ◌&&◌, ◌==◌}
use Rattle.std.proofs.Common.{if◌then◌else◌, List, [], ◌∷◌, ◌++◌, length, min, map, take, drop, slice_range}
use Rattle.std.proofs.Common.{slice_index_or, refl, ap, sym, ◌∙◌, arith, nat_lt, length-drop}
use Rattle.std.proofs.lemmas.Grind.{common_steps}
use Rattle.std.proofs.lemmas.Bool.Decides.{nat_tests}
use Rattle.std.proofs.lemmas.Bool.{cases_lt}
use Rattle.std.proofs.lemmas.List.{append-nil, take-map, drop-map, get_or-take, get_or-drop, length-take}
use Rattle.rlc_am_tx_window.specs.Cut.{clip, some_length, is_cut}
use Rattle.law_rlc.specs.AmSender.Octets.{Place, first_begins, last_ends, lengths}

-- ---- a stretch of a list

pub range-none : {X : Type 0} (xs : List X) (a b : ℕ) → b ≤ a → slice_range xs a b ≡ []
range-none xs a b le = let e : b - a ≡ 0 = omega arith in ap (λ (n : ℕ). take n (drop a xs)) e

pub range-first : {X : Type 0} (x : X) (xs : List X) (a b a' b' : ℕ) → a ≡ 0 → 0 < b → a' ≡ 0 → b' ≡ b - 1
    → slice_range (x ∷ xs) a b ≡ x ∷ slice_range xs a' b'
range-first x xs a b a' b' ea lt ea' eb =
    let e : b - a ≡ suc (b - 1) = omega arith in
    let f : b' - a' ≡ b - 1 = omega arith in
    ap (λ (n : ℕ). take n (drop a (x ∷ xs))) e ∙ (ap (λ (n : ℕ). take (suc (b - 1)) (drop n (x ∷ xs))) ea
    ∙ sym (ap (λ (n : ℕ). x ∷ take n (drop a' xs)) f ∙ ap (λ (n : ℕ). x ∷ take (b - 1) (drop n xs)) ea'))

pub range-later : {X : Type 0} (x : X) (xs : List X) (a b a' b' : ℕ) → a ≡ suc a' → b - 1 ≡ b'
    → slice_range (x ∷ xs) a b ≡ slice_range xs a' b'
range-later x xs a b a' b' ea eb =
    let f : b - a ≡ b' - a' = omega arith in
    ap (λ (n : ℕ). take n (drop a (x ∷ xs))) f ∙ ap (λ (n : ℕ). take (b' - a') (drop n (x ∷ xs))) ea

pub range-at : {X : Type 0} (xs : List X) (a b i : ℕ) (d : X) → i < b - a
    → slice_index_or (slice_range xs a b) i d ≡ slice_index_or xs (a + i) d
range-at xs a b i d lt = get_or-take (b - a) (drop a xs) i d lt ∙ get_or-drop a xs i d

pub range-length : {X : Type 0} (xs : List X) (a b : ℕ) → b ≤ length xs → length (slice_range xs a b) ≡ b - a
range-length xs a b le = let l = length-take (b - a) (drop a xs) in let m = length-drop a xs in omega (arith, l, m)

pub range-all : {X : Type 0} (xs : List X) (b : ℕ) → b ≡ length xs → slice_range xs 0 b ≡ xs
range-all [] b e = range-none [] 0 b (omega arith)
range-all (x ∷ xs) b e = range-first x xs 0 b 0 (length xs) refl (omega arith) refl (omega arith)
    ∙ ap (λ (ys : List _). x ∷ ys) (range-all xs (length xs) refl)

-- ---- the lengths of the elements of a stretch

pub range-octets : (ps : List Place) (a b : ℕ)
    → slice_range (map (λ (p : Place). p.octet) ps) a b ≡ map (λ (p : Place). p.octet) (slice_range ps a b)
range-octets ps a b = ap (λ (xs : List ℕ). take (b - a) xs) (drop-map (λ (p : Place). p.octet) a ps)
    ∙ take-map (λ (p : Place). p.octet) (b - a) (drop a ps)

same-lengths : (k k' : ℕ) (ps qs : List Place) → k ≡ k' → ps ≡ qs → lengths k ps ≡ lengths k' qs
same-lengths k k' ps qs e f = ap (λ (n : ℕ). lengths n ps) e ∙ ap (λ (xs : List Place). lengths k' xs) f

same-some : (k k' : ℕ) → k ≡ k' → some_length k ≡ some_length k'
same-some k k' e = ap some_length e

none-some : (k : ℕ) → k ≡ 0 → some_length k ≡ []
none-some k e = ap some_length e

more-some : (k n : ℕ) → k ≡ n + 1 → some_length k ≡ (n + 1) ∷ []
more-some k n e = ap some_length e ∙ by n
  where
    by : (n : ℕ) → some_length (n + 1) ≡ (n + 1) ∷ []
    by n = grind (arith, nat_tests, common_steps)

-- those behind an element that is begun, with so many octets
pub clip-of : (n from to : ℕ) (ps : List Place) → to ≤ n + length ps
    → clip from to (lengths n ps) ≡ lengths (min n to - from) (slice_range ps (from - n) (to - n))
clip-of n from to [] h = by (n == 0) refl
    ∙ sym (ap (λ (ps : List Place). lengths (min n to - from) ps) (range-none [] (from - n) (to - n) (omega arith)))
  where
    by : (b : Bool) → (n == 0) ≡ b → clip from to (if b then [] else n ∷ []) ≡ some_length (min n to - from)
    by true e = let z : n ≡ 0 = grind (arith, nat_tests) in sym (none-some (min n to - from) (omega arith))
    by false e = append-nil (some_length (min to n - from))
        ∙ same-some (min to n - from) (min n to - from) (omega arith)
clip-of n from to (p ∷ ps) h =
    by p.ends refl (later 0 (clip-of 0 (from - (n + 1)) (to - (n + 1)) ps (omega arith)))
    (clip-of (n + 1) from to ps (omega arith))
  where
    later : (z : ℕ) → clip (from - (n + 1)) (to - (n + 1)) (lengths 0 ps)
        ≡ lengths (min 0 (to - (n + 1)) - (from - (n + 1))) (slice_range ps (from - (n + 1) - 0) (to - (n + 1) - 0))
        → clip (from - (n + 1)) (to - (n + 1)) (lengths 0 ps)
        ≡ lengths 0 (slice_range ps (from - (n + 1)) (to - (n + 1)))
    later z ih =
        ih ∙ same-lengths (min 0 (to - (n + 1)) - (from - (n + 1))) 0
        (slice_range ps (from - (n + 1) - 0) (to - (n + 1) - 0)) (slice_range ps (from - (n + 1)) (to - (n + 1)))
        (omega arith)
        (let a : from - (n + 1) - 0 ≡ from - (n + 1) = omega arith in
        let b : to - (n + 1) - 0 ≡ to - (n + 1) = omega arith in
        ap (λ (k : ℕ). slice_range ps k (to - (n + 1) - 0)) a ∙ ap (λ (k : ℕ). slice_range ps (from - (n + 1)) k) b)

    ended : (b : Bool) → p.ends ≡ b → (k : ℕ) (qs : List Place)
        → lengths k (p ∷ qs) ≡ (if b then (k + 1) ∷ lengths 0 qs else lengths (k + 1) qs)
    ended b e k qs = ap (λ (c : Bool). if c then (k + 1) ∷ lengths 0 qs else lengths (k + 1) qs) e

    by : (b : Bool) → p.ends ≡ b
        → clip (from - (n + 1)) (to - (n + 1)) (lengths 0 ps)
        ≡ lengths 0 (slice_range ps (from - (n + 1)) (to - (n + 1)))
        → clip from to (lengths (n + 1) ps)
        ≡ lengths (min (n + 1) to - from) (slice_range ps (from - (n + 1)) (to - (n + 1)))
        → clip from to (lengths n (p ∷ ps)) ≡ lengths (min n to - from) (slice_range (p ∷ ps) (from - n) (to - n))
    by true e rest on = ap (λ (ls : List ℕ). clip from to ls) (ended true e n ps) ∙ elim (cases_lt n to) [
      | inr low ↦
          ap (λ (xs : List ℕ). some_length (min to (n + 1) - from) ++ xs)
          (rest ∙ ap (λ (qs : List Place). lengths 0 qs)
          (range-none ps (from - (n + 1)) (to - (n + 1)) (omega arith)))
          ∙ (append-nil (some_length (min to (n + 1) - from))
          ∙ (same-some (min to (n + 1) - from) (min n to - from) (omega arith)
          ∙ sym (ap (λ (qs : List Place). lengths (min n to - from) qs)
          (range-none (p ∷ ps) (from - n) (to - n) (omega arith)))))
      | inl high ↦ elim (cases_lt n from) [
        | inl away ↦
            ap (λ (xs : List ℕ). xs ++ clip (from - (n + 1)) (to - (n + 1)) (lengths 0 ps))
            (none-some (min to (n + 1) - from) (omega arith))
            ∙ (rest
            ∙ sym (same-lengths (min n to - from) 0 (slice_range (p ∷ ps) (from - n) (to - n))
            (slice_range ps (from - (n + 1)) (to - (n + 1))) (omega arith)
            (range-later p ps (from - n) (to - n) (from - (n + 1)) (to - (n + 1)) (omega arith) (omega arith))))
        | inr near ↦
            ap (λ (xs : List ℕ). xs ++ clip (from - (n + 1)) (to - (n + 1)) (lengths 0 ps))
            (more-some (min to (n + 1) - from) (min n to - from) (omega arith))
            ∙ (ap (λ (xs : List ℕ). (min n to - from + 1) ∷ xs) rest
            ∙ sym (ap (λ (qs : List Place). lengths (min n to - from) qs)
            (range-first p ps (from - n) (to - n) (from - (n + 1)) (to - (n + 1)) (omega arith) (omega arith)
            (omega arith) (omega arith))
            ∙ ended true e (min n to - from) (slice_range ps (from - (n + 1)) (to - (n + 1)))))
      ]
    ]
    by false e rest on = ap (λ (ls : List ℕ). clip from to ls) (ended false e n ps) ∙ (on ∙ elim (cases_lt n to) [
      | inr low ↦ same-lengths (min (n + 1) to - from) (min n to - from)
          (slice_range ps (from - (n + 1)) (to - (n + 1))) (slice_range (p ∷ ps) (from - n) (to - n)) (omega arith)
          (range-none ps (from - (n + 1)) (to - (n + 1)) (omega arith)
          ∙ sym (range-none (p ∷ ps) (from - n) (to - n) (omega arith)))
      | inl high ↦ elim (cases_lt n from) [
        | inl away ↦ same-lengths (min (n + 1) to - from) (min n to - from)
            (slice_range ps (from - (n + 1)) (to - (n + 1))) (slice_range (p ∷ ps) (from - n) (to - n)) (omega arith)
            (sym (range-later p ps (from - n) (to - n) (from - (n + 1)) (to - (n + 1)) (omega arith) (omega arith)))
        | inr near ↦
            same-lengths (min (n + 1) to - from) (min n to - from + 1)
            (slice_range ps (from - (n + 1)) (to - (n + 1))) (slice_range ps (from - (n + 1)) (to - (n + 1)))
            (omega arith) refl
            ∙ sym (ap (λ (qs : List Place). lengths (min n to - from) qs)
            (range-first p ps (from - n) (to - n) (from - (n + 1)) (to - (n + 1)) (omega arith) (omega arith)
            (omega arith) (omega arith))
            ∙ ended false e (min n to - from) (slice_range ps (from - (n + 1)) (to - (n + 1))))
      ]
    ])

-- the elements of a stretch are those of the PDU that lie in it
pub clip-range : (from to : ℕ) (ps : List Place) → to ≤ length ps
    → clip from to (lengths 0 ps) ≡ lengths 0 (slice_range ps from to)
clip-range from to ps h =
    clip-of 0 from to ps (omega arith)
    ∙ same-lengths (min 0 to - from) 0 (slice_range ps (from - 0) (to - 0)) (slice_range ps from to) (omega arith)
    (let a : from - 0 ≡ from = omega arith in let b : to - 0 ≡ to = omega arith in
    ap (λ (k : ℕ). slice_range ps k (to - 0)) a ∙ ap (λ (k : ℕ). slice_range ps from k) b)

-- ---- where SDUs begin and end

abbrev pub nowhere : Place
nowhere = record { octet = 0; begins = false; ends = false }

abbrev pub place_at : List Place → ℕ → Place
place_at ps i = slice_index_or ps i nowhere

cut-zero : (ls : List ℕ) → is_cut 0 ls ≡ true
cut-zero [] = refl
cut-zero (l ∷ ls) = by (nat_lt 0 l) (cut-zero ls)
  where
    by : (b : Bool) → is_cut 0 ls ≡ true → (if b then 0 == 0 else is_cut (0 - l) ls) ≡ true
    by true ih = refl
    by false ih = let z : 0 - l ≡ 0 = omega arith in ap (λ (k : ℕ). is_cut k ls) z ∙ ih

pub cut-of : (n k : ℕ) (ps : List Place) → 0 < k → k < n + length ps
    → is_cut k (lengths n ps) ≡ (nat_lt n k && (place_at ps (k - (n + 1))).ends)
cut-of n k [] some lt = by (n == 0) refl
  where
    by : (b : Bool) → (n == 0) ≡ b → is_cut k (if b then [] else n ∷ []) ≡ (nat_lt n k && false)
    by true e = let z : n ≡ 0 = grind (arith, nat_tests) in absurd (omega arith)
    by false e = grind (arith, nat_tests, common_steps)
cut-of n k (p ∷ ps) some lt =
    by p.ends refl (λ a b. cut-of 0 (k - (n + 1)) ps a b) (cut-of (n + 1) k ps some (omega arith))
  where
    ended : (b : Bool) → p.ends ≡ b → lengths n (p ∷ ps) ≡ (if b then (n + 1) ∷ lengths 0 ps else lengths (n + 1) ps)
    ended b e = ap (λ (c : Bool). if c then (n + 1) ∷ lengths 0 ps else lengths (n + 1) ps) e

    next-one : (i : ℕ) → k - (n + 1) ≡ suc i → place_at (p ∷ ps) (k - (n + 1)) ≡ place_at ps i
    next-one i e = ap (λ (j : ℕ). place_at (p ∷ ps) j) e

    below : (n k : ℕ) → k ≤ n → (b : Bool) → (nat_lt n k && b) ≡ false
    below n k le b = grind (arith, nat_tests)

    above : (n k : ℕ) → n < k → (b : Bool) → (nat_lt n k && b) ≡ b
    above n k l b = grind (arith, nat_tests)

    short : (ls : List ℕ) → k ≤ n → is_cut k ((n + 1) ∷ ls) ≡ false
    short ls le = grind (arith, nat_tests)

    long : (ls : List ℕ) → n < k → is_cut k ((n + 1) ∷ ls) ≡ is_cut (k - (n + 1)) ls
    long ls l = grind (arith, nat_tests)

    by : (b : Bool) → p.ends ≡ b
        → (0 < k - (n + 1) → k - (n + 1) < 0 + length ps
        → is_cut (k - (n + 1)) (lengths 0 ps)
        ≡ (nat_lt 0 (k - (n + 1)) && (place_at ps (k - (n + 1) - (0 + 1))).ends))
        → is_cut k (lengths (n + 1) ps) ≡ (nat_lt (n + 1) k && (place_at ps (k - (n + 1 + 1))).ends)
        → is_cut k (lengths n (p ∷ ps)) ≡ (nat_lt n k && (place_at (p ∷ ps) (k - (n + 1))).ends)
    by true e rest on = ap (λ (ls : List ℕ). is_cut k ls) (ended true e) ∙ elim (cases_lt n k) [
      | inr low ↦ short (lengths 0 ps) low ∙ sym (below n k low (place_at (p ∷ ps) (k - (n + 1))).ends)
      | inl high ↦ long (lengths 0 ps) high ∙ (elim (cases_lt (n + 1) k) [
        | inr here ↦
            let z : k - (n + 1) ≡ 0 = omega arith in
            ap (λ (j : ℕ). is_cut j (lengths 0 ps)) z
            ∙ (cut-zero (lengths 0 ps) ∙ sym (ap (λ (j : ℕ). (place_at (p ∷ ps) j).ends) z ∙ e))
        | inl there ↦
            rest (omega arith) (omega arith)
            ∙ (above 0 (k - (n + 1)) (omega arith) (place_at ps (k - (n + 1) - (0 + 1))).ends
            ∙ sym (ap (λ (q : Place). q.ends) (next-one (k - (n + 1) - (0 + 1)) (omega arith))))
      ] ∙ sym (above n k high (place_at (p ∷ ps) (k - (n + 1))).ends))
    ]
    by false e rest on = ap (λ (ls : List ℕ). is_cut k ls) (ended false e) ∙ (on ∙ elim (cases_lt n k) [
      | inr low ↦ below (n + 1) k (omega arith) (place_at ps (k - (n + 1 + 1))).ends
          ∙ sym (below n k low (place_at (p ∷ ps) (k - (n + 1))).ends)
      | inl high ↦ elim (cases_lt (n + 1) k) [
        | inr here ↦
            let z : k - (n + 1) ≡ 0 = omega arith in
            below (n + 1) k here (place_at ps (k - (n + 1 + 1))).ends
            ∙ sym (above n k high (place_at (p ∷ ps) (k - (n + 1))).ends
            ∙ (ap (λ (j : ℕ). (place_at (p ∷ ps) j).ends) z ∙ e))
        | inl there ↦
            above (n + 1) k there (place_at ps (k - (n + 1 + 1))).ends
            ∙ sym (above n k high (place_at (p ∷ ps) (k - (n + 1))).ends
            ∙ ap (λ (q : Place). q.ends) (next-one (k - (n + 1 + 1)) (omega arith)))
      ]
    ])

pub first-at : (ps : List Place) → first_begins ps ≡ (place_at ps 0).begins
first-at [] = refl
first-at (p ∷ ps) = refl

pub last-at : (ps : List Place) (i : ℕ) → length ps ≡ i + 1 → last_ends ps ≡ (place_at ps i).ends
last-at [] i e = absurd (omega arith)
last-at (p ∷ []) i e = let z : i ≡ 0 = omega arith in rw z refl
last-at (p ∷ q ∷ ps) zero e = absurd (omega arith)
last-at (p ∷ q ∷ ps) (suc i) e = last-at (q ∷ ps) i (omega arith)

-- an SDU begins behind the end of another
abbrev pub Joined : List Place → Type 0
Joined [] = Unit {0}
Joined (p ∷ []) = Unit {0}
Joined (p ∷ q ∷ ps) = (p.ends ≡ q.begins) × Joined (q ∷ ps)

pub joined-at : (ps : List Place) (i : ℕ) → Joined ps → i + 1 < length ps
    → (place_at ps i).ends ≡ (place_at ps (i + 1)).begins
joined-at [] i j lt = absurd (omega arith)
joined-at (p ∷ []) i j lt = absurd (omega arith)
joined-at (p ∷ q ∷ ps) zero j lt = j.0
joined-at (p ∷ q ∷ ps) (suc i) j lt = let e : suc i + 1 ≡ suc (i + 1) = omega arith in
    rw e (joined-at (q ∷ ps) i j.1 (omega arith))

pub joined-front : (ps qs : List Place) → Joined (ps ++ qs) → Joined ps
joined-front [] qs j = tt
joined-front (p ∷ []) qs j = tt
joined-front (p ∷ q ∷ ps) qs j = (j.0, joined-front (q ∷ ps) qs j.1)
