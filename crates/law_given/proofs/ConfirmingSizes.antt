-- The octets of SDUs one behind the other, by their SDUs.
use Rattle.std.proofs.Common.{◌≡◌, ◌<◌, ◌≤◌, inl, inr, ℕ, zero, suc, ◌+◌, ◌-◌, Bool, true, false, not, ◌&&◌, ◌==◌}
use Rattle.std.proofs.Common.{if◌then◌else◌, List, [], ◌∷◌, ◌++◌, map, length, replicate, slice_index_or, refl, ap, sym}
use Rattle.std.proofs.Common.{◌∙◌, arith, append_assoc}
use Rattle.std.proofs.lemmas.Bool.{cases_eq, eq-eqb, ne_eqb}
use Rattle.std.proofs.lemmas.List.{length-replicate}
use Rattle.law_rlc.specs.AmSender.Confirmed.{times, octets_in}
use Rattle.law_rlc.proofs.AmPair.Owners.{joined_marks}
use Rattle.law_rlc.proofs.AmSender.Books.{marks}
use Rattle.law_rlc.proofs.AmSender.Credits.{times-append}
use Rattle.journal_account.specs.Stream.{place_of, came_along}
use Rattle.journal_account.proofs.Wholes.{within, behind}

-- ---- sizes one behind the other

abbrev pub size_at : List ℕ → ℕ → ℕ
size_at sizes k = slice_index_or sizes k 0

pub place_next : (sizes : List ℕ) (k : ℕ) → k < length sizes
    → place_of sizes (k + 1) ≡ place_of sizes k + size_at sizes k
place_next [] k lt = absurd (omega (arith, lt))
place_next (s ∷ sizes) zero lt = first sizes
  where
    first : (rest : List ℕ) → place_of (s ∷ rest) (0 + 1) ≡ 0 + s
    first [] = omega arith
    first (x ∷ xs) = omega arith
place_next (s ∷ sizes) (suc k) lt =
    let next : suc k + 1 ≡ suc (k + 1) = omega arith in
    let rest = place_next sizes k (omega (arith, lt)) in
    ap (place_of (s ∷ sizes)) next ∙ omega (arith, rest)

-- ---- of octets, by their SDUs and from a place on, how many of one SDU stand where some don't pass

abbrev pub shut_in : (ℕ → Bool) → ℕ → ℕ → List ℕ → ℕ
shut_in at k i [] = 0
shut_in at k i (x ∷ xs) = (if (x == k) && not (at i) then 1 else 0) + shut_in at k (i + 1) xs

shut_append : (at : ℕ → Bool) (k i : ℕ) (xs ys : List ℕ)
    → shut_in at k i (xs ++ ys) ≡ shut_in at k i xs + shut_in at k (i + length xs) ys
shut_append at k i [] ys =
    let same : i + 0 ≡ i = omega arith in
    let place = ap (λ (n : ℕ). shut_in at k n ys) same in
    omega (arith, place)
shut_append at k i (x ∷ xs) ys =
    let rest = shut_append at k (i + 1) xs ys in
    let same : i + 1 + length xs ≡ i + suc (length xs) = omega arith in
    let place = ap (λ (n : ℕ). shut_in at k n ys) same in
    omega (arith, rest, place)

-- where they pass all alike
shut_alike : (at : ℕ → Bool) (b : Bool) (k i : ℕ) (xs : List ℕ) → ((p : ℕ) → p < length xs → at (i + p) ≡ b)
    → shut_in at k i xs ≡ (if not b then times k xs else 0)
shut_alike at true k i [] h = refl
shut_alike at false k i [] h = refl
shut_alike at b k i (x ∷ xs) h =
    let same : i + 0 ≡ i = omega arith in
    let here : at i ≡ b = ap at (sym same) ∙ h 0 (omega arith) in
    let first = ap {B = ℕ} (λ (c : Bool). if (x == k) && not c then 1 else 0) here in
    let rest = shut_alike at b k (i + 1) xs (λ p lt.
    let next : i + 1 + p ≡ i + suc p = omega arith in ap at next ∙ h (suc p) (omega (arith, lt))) in
    omega (arith, first, rest, by b (x == k) (times k xs))
  where
    by : (c same : Bool) (t : ℕ)
        → (if same && not c then 1 else 0) + (if not c then t else 0)
        ≡ (if not c then (if same then 1 else 0) + t else 0)
    by true true t = refl
    by true false t = refl
    by false true t = refl
    by false false t = refl

-- number by number, behind which some octets are in none
pub shut_along : (acked : ℕ → Bool) (at : ℕ → Bool) (k i n : ℕ) (sent : List (List ℕ)) (unsent : List ℕ)
    → ((p : ℕ) → at (i + p) ≡ came_along (λ m j. acked m) (map length sent) n p)
    → shut_in at k i (joined_marks sent ++ unsent) ≡ octets_in (λ m. not (acked m)) n sent k + times k unsent
shut_along acked at k i n [] unsent h =
    let all = shut_alike at false k i unsent (λ p lt. h p) in omega (arith, all)
shut_along acked at k i n (x ∷ sent) unsent h =
    let whole = append_assoc x (joined_marks sent) unsent in
    let parted = ap (shut_in at k i) whole in
    let both = shut_append at k i x (joined_marks sent ++ unsent) in
    let first = shut_alike at (acked n) k i x (λ p lt.
    h p ∙ within (λ m j. acked m) (length x) (map length sent) n p lt) in
    let rest = shut_along acked at k (i + length x) (n + 1) sent unsent (λ p.
    let next : i + length x + p ≡ i + (length x + p) = omega arith in
    let left : length x + p - length x ≡ p = omega arith in
    ap at next
    ∙ (h (length x + p)
    ∙ (behind (λ m j. acked m) (length x) (map length sent) n (length x + p) (omega arith)
    ∙ ap (came_along (λ m j. acked m) (map length sent) (n + 1)) left))) in
    omega (arith, parted, both, first, rest)

-- all of them, acknowledged and not
pub all_octets : (acked : ℕ → Bool) (k n : ℕ) (sent : List (List ℕ)) (unsent : List ℕ)
    → octets_in acked n sent k + (octets_in (λ m. not (acked m)) n sent k + times k unsent)
    ≡ times k (joined_marks sent ++ unsent)
all_octets acked k n [] unsent = omega arith
all_octets acked k n (x ∷ sent) unsent =
    let whole = ap (times k) (append_assoc x (joined_marks sent) unsent) in
    let both = times-append k x (joined_marks sent ++ unsent) in
    let rest = all_octets acked k (n + 1) sent unsent in
    let one = by (acked n) (times k x) in
    omega (arith, whole, both, rest, one)
  where
    by : (b : Bool) (t : ℕ) → (if b then t else 0) + (if not b then t else 0) ≡ t
    by true t = omega arith
    by false t = omega arith

-- ---- of SDU after SDU

abbrev pub shut : (ℕ → Bool) → ℕ → ℕ → ℕ
shut at i zero = 0
shut at i (suc n) = (if not (at i) then 1 else 0) + shut at (i + 1) n

shut_own : (at : ℕ → Bool) (k i n : ℕ) → shut_in at k i (replicate n k) ≡ shut at i n
shut_own at k i zero = refl
shut_own at k i (suc n) =
    let rest = shut_own at k (i + 1) n in
    let same = ap {B = ℕ} (λ (b : Bool). if b && not (at i) then 1 else 0) (eq-eqb k k refl) in
    omega (arith, rest, same)

shut_other : (at : ℕ → Bool) (j k i n : ℕ) → (j ≡ k → ⊥) → shut_in at k i (replicate n j) ≡ 0
shut_other at j k i zero other = refl
shut_other at j k i (suc n) other =
    let rest = shut_other at j k (i + 1) n other in
    let same = ap {B = ℕ} (λ (b : Bool). if b && not (at i) then 1 else 0) (ne_eqb j k other) in
    omega (arith, rest, same)

shut_below : (at : ℕ → Bool) (from k i : ℕ) (sizes : List ℕ) → k < from → shut_in at k i (marks from sizes) ≡ 0
shut_below at from k i [] lt = refl
shut_below at from k i (s ∷ sizes) lt =
    let both = shut_append at k i (replicate s from) (marks (from + 1) sizes) in
    let first = shut_other at from k i s (λ e. omega (arith, lt, e)) in
    let rest = shut_below at (from + 1) k (i + length (replicate s from)) sizes (omega (arith, lt)) in
    omega (arith, both, first, rest)

pub shut_marks : (at : ℕ → Bool) (from k i : ℕ) (sizes : List ℕ) → k < length sizes
    → shut_in at (from + k) i (marks from sizes) ≡ shut at (i + place_of sizes k) (size_at sizes k)
shut_marks at from k i [] lt = absurd (omega (arith, lt))
shut_marks at from zero i (s ∷ sizes) lt =
    let both = shut_append at (from + 0) i (replicate s from) (marks (from + 1) sizes) in
    let rest = shut_below at (from + 1) (from + 0) (i + length (replicate s from)) sizes (omega arith) in
    let same : from + 0 ≡ from = omega arith in
    let named = ap (λ (k : ℕ). shut_in at k i (replicate s from)) same in
    let own = shut_own at from i s in
    let place : i + 0 ≡ i = omega arith in
    let there = ap (λ (j : ℕ). shut at j s) place in
    omega (arith, both, rest, named, own, there)
shut_marks at from (suc k) i (s ∷ sizes) lt =
    let both = shut_append at (from + suc k) i (replicate s from) (marks (from + 1) sizes) in
    let first = shut_other at from (from + suc k) i s (λ e. omega (arith, e)) in
    let long = length-replicate s from in
    let place : i + length (replicate s from) + place_of sizes k ≡ i + (s + place_of sizes k) = omega (arith, long) in
    let there = ap (λ (j : ℕ). shut at j (size_at sizes k)) place in
    let name : from + 1 + k ≡ from + suc k = omega arith in
    let named = ap (λ (j : ℕ). shut_in at j (i + length (replicate s from)) (marks (from + 1) sizes)) name in
    let rest = shut_marks at (from + 1) k (i + length (replicate s from)) sizes (omega (arith, lt)) in
    omega (arith, both, first, there, named, rest)

shut_past : (at : ℕ → Bool) (from k i : ℕ) (sizes : List ℕ) → from + length sizes ≤ k
    → shut_in at k i (marks from sizes) ≡ 0
shut_past at from k i [] le = refl
shut_past at from k i (s ∷ sizes) le =
    let both = shut_append at k i (replicate s from) (marks (from + 1) sizes) in
    let first = shut_other at from k i s (λ e. omega (arith, le, e)) in
    let rest = shut_past at (from + 1) k (i + length (replicate s from)) sizes (omega (arith, le)) in
    omega (arith, both, first, rest)

-- all octets of an SDU
times_shut : (k i : ℕ) (xs : List ℕ) → shut_in (λ j. false) k i xs ≡ times k xs
times_shut k i xs = shut_alike (λ j. false) false k i xs (λ p lt. refl)

none_passes : (i n : ℕ) → shut (λ j. false) i n ≡ n
none_passes i zero = refl
none_passes i (suc n) = let rest = none_passes (i + 1) n in omega (arith, rest)

pub times_marks : (k : ℕ) (sizes : List ℕ) → k < length sizes → times k (marks 0 sizes) ≡ size_at sizes k
times_marks k sizes lt =
    let all = times_shut k 0 (marks 0 sizes) in
    let name : 0 + k ≡ k = omega arith in
    let named = ap (λ (j : ℕ). shut_in (λ m. false) j 0 (marks 0 sizes)) name in
    let own = shut_marks (λ j. false) 0 k 0 sizes lt in
    let each = none_passes (0 + place_of sizes k) (size_at sizes k) in
    omega (arith, all, named, own, each)

pub times_past : (k : ℕ) (sizes : List ℕ) → length sizes ≤ k → times k (marks 0 sizes) ≡ 0
times_past k sizes le =
    let all = times_shut k 0 (marks 0 sizes) in
    let past = shut_past (λ j. false) 0 k 0 sizes (omega (arith, le)) in
    omega (arith, all, past)

-- ---- where each passes

pub none_shut : (at : ℕ → Bool) (i n : ℕ) → ((j : ℕ) → i ≤ j → j < i + n → at j ≡ true) → shut at i n ≡ 0
none_shut at i zero h = refl
none_shut at i (suc n) h =
    let first = ap {B = ℕ} (λ (b : Bool). if not b then 1 else 0) (h i (omega arith) (omega arith)) in
    let rest = none_shut at (i + 1) n (λ j le lt. h j (omega (arith, le)) (omega (arith, lt))) in
    omega (arith, first, rest)

pub each_passes : (at : ℕ → Bool) (i n : ℕ) → shut at i n ≡ 0 → (j : ℕ) → i ≤ j → j < i + n → at j ≡ true
each_passes at i zero e j le lt = absurd (omega (arith, le, lt))
each_passes at i (suc n) e j le lt = elim (cases_eq i j) [
  | inl same ↦ ap at (sym same) ∙ by (at i) (shut at (i + 1) n) e
  | inr other ↦
      each_passes at (i + 1) n (let z = e in omega (arith, z)) j (omega (arith, le, other)) (omega (arith, lt))
]
  where
    by : (b : Bool) (t : ℕ) → (if not b then 1 else 0) + t ≡ 0 → b ≡ true
    by true t z = refl
    by false t z = absurd (omega (arith, z))
