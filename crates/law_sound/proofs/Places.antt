-- What has come of the octets of a flow, told by stretches of the stream or number by number, is
-- the same, where each stretch lies in the field of its number.
use Rattle.std.proofs.Common.{◌≡◌, ◌<◌, ◌≤◌, ℕ, zero, suc, ◌+◌, ◌-◌, ◌==◌, Bool, true, false, ◌||◌, ◌&&◌, List, []}
use Rattle.std.proofs.Common.{◌∷◌, length, refl, ap, sym, ◌∙◌, arith, if◌then◌else◌, nat_lt}
use Rattle.std.specs.Prelude.{nat_le, slice_index, slice_index_or}
use Rattle.std.specs.List.{AllByRecursion}
use Rattle.std.proofs.lemmas.Bool.{ne_eqb, eq-eqb, ltb-true, ltb-false}
use Rattle.std.proofs.lemmas.Bool.Decides.{nat_tests}
use Rattle.law_words.specs.Stretches.{Stretch, covers, octet_has_come, all_from}
use Rattle.law_words.specs.Stretches as words
use Rattle.journal_account.specs.FlowEvents.{FlowEvent, SduTaken, NumberWritten, OctetsResent, OctetsArrived}
use Rattle.journal_account.specs.FlowEvents.{ReorderStarted, ReorderExpired, StatusHeard, PollExpired}
use Rattle.journal_account.specs.Arrived.{octet_came, all_below}
use Rattle.journal_account.specs.Stream.{place_of, came_along}

-- what has come, as events tell it
abbrev pub stretches_in : List FlowEvent → List Stretch
stretches_in [] = []
stretches_in (OctetsArrived n from to ∷ es) =
    record { number = n; from = from; size = to - from } ∷ stretches_in es
stretches_in (e ∷ es) = stretches_in es

-- a stretch lies in the field of its number
pub record IsWithin (fields : List ℕ) (s : Stretch) : Type 0 where
  pub written : s.number < length fields
  pub ends : s.from + s.size ≤ slice_index_or fields s.number 0

-- ---- places

pub place_same : (xs : List ℕ) (n : ℕ) → words.place_of xs n ≡ place_of xs n
place_same [] n = refl
place_same (x ∷ xs) zero = refl
place_same (x ∷ xs) (suc n) = ap (λ (k : ℕ). x + k) (place_same xs n)

along_none : (c : ℕ → ℕ → Bool) (xs : List ℕ) (k place : ℕ) → ((j i : ℕ) → k ≤ j → c j i ≡ false)
    → came_along c xs k place ≡ false
along_none c [] k place none = refl
along_none c (x ∷ xs) k place none =
    by (nat_lt place x) (along_none c xs (k + 1) (place - x) (λ j i low. none j i (omega (arith, low))))
  where
    by : (b : Bool) → came_along c xs (k + 1) (place - x) ≡ false
        → (if b then c k place else came_along c xs (k + 1) (place - x)) ≡ false
    by true rest = none k place (omega arith)
    by false rest = rest

along_or : (a c : ℕ → ℕ → Bool) (xs : List ℕ) (k place : ℕ)
    → came_along (λ n i. a n i || c n i) xs k place ≡ (came_along a xs k place || came_along c xs k place)
along_or a c [] k place = refl
along_or a c (x ∷ xs) k place = by (nat_lt place x) (along_or a c xs (k + 1) (place - x))
  where
    by : (b : Bool)
        → came_along (λ n i. a n i || c n i) xs (k + 1) (place - x)
        ≡ (came_along a xs (k + 1) (place - x) || came_along c xs (k + 1) (place - x))
        → (if b then a k place || c k place else came_along (λ n i. a n i || c n i) xs (k + 1) (place - x))
        ≡ ((if b then a k place else came_along a xs (k + 1) (place - x))
        || (if b then c k place else came_along c xs (k + 1) (place - x)))
    by true rest = refl
    by false rest = rest

-- octets of the m-th of these fields, of which the first is that of number k
abbrev brings : ℕ → ℕ → ℕ → ℕ → ℕ → Bool
brings n from to j i = (n == j) && (nat_le from i && nat_lt i to)

other_number : (n from to j i : ℕ) → n < j → brings n from to j i ≡ false
other_number n from to j i lt =
    ap (λ (b : Bool). b && (nat_le from i && nat_lt i to)) (ne_eqb n j (λ same. omega (arith, same, lt)))

moved : (p size x place : ℕ) → x ≤ place
    → (nat_le (x + p) place && nat_lt place (x + p + size)) ≡ (nat_le p (place - x) && nat_lt (place - x) (p + size))
moved p size x place le = grind (arith, nat_tests)

before_it : (p size x place : ℕ) → place < x → (nat_le (x + p) place && nat_lt place (x + p + size)) ≡ false
before_it p size x place lt = grind (arith, nat_tests)

in_it : (from to place : ℕ)
    → (nat_le (0 + from) place && nat_lt place (0 + from + (to - from))) ≡ (nat_le from place && nat_lt place to)
in_it from to place = grind (arith, nat_tests)

past_it : (from to x place : ℕ) → from + (to - from) ≤ x → x ≤ place
    → (nat_le (0 + from) place && nat_lt place (0 + from + (to - from))) ≡ false
past_it from to x place ends le = grind (arith, nat_tests)

abbrev covers_at : ℕ → ℕ → ℕ → Bool
covers_at from size place = nat_le from place && nat_lt place (from + size)

covers_along : (xs : List ℕ) (k m from to place : ℕ) → m < length xs → from + (to - from) ≤ slice_index_or xs m 0
    → covers_at (place_of xs m + from) (to - from) place ≡ came_along (brings (k + m) from to) xs k place
covers_along [] k m from to place lt ends = absurd (omega (arith, lt))
covers_along (x ∷ xs) k zero from to place lt ends = by (nat_lt place x) refl
  where
    by : (b : Bool) → nat_lt place x ≡ b → covers_at (0 + from) (to - from) place
        ≡ (if b then brings (k + 0) from to k place
        else came_along (brings (k + 0) from to) xs (k + 1) (place - x))
    by true here =
        in_it from to place
        ∙ sym (ap (λ (b : Bool). b && (nat_le from place && nat_lt place to)) (eq-eqb (k + 0) k (omega arith)))
    by false past =
        past_it from to x place ends (ltb-false place x past)
        ∙ sym (along_none (brings (k + 0) from to) xs (k + 1) (place - x)
        (λ j i low. other_number (k + 0) from to j i (omega (arith, low))))
covers_along (x ∷ xs) k (suc m) from to place lt ends =
    by (nat_lt place x) refl (covers_along xs (k + 1) m from to (place - x) (omega (arith, lt)) ends)
  where
    by : (b : Bool) → nat_lt place x ≡ b
        → covers_at (place_of xs m + from) (to - from) (place - x)
        ≡ came_along (brings (k + 1 + m) from to) xs (k + 1) (place - x)
        → covers_at (x + place_of xs m + from) (to - from) place
        ≡ (if b then brings (k + suc m) from to k place
        else came_along (brings (k + suc m) from to) xs (k + 1) (place - x))
    by true here rest =
        let same : x + place_of xs m + from ≡ x + (place_of xs m + from) = omega arith in
        ap (λ (p : ℕ). covers_at p (to - from) place) same
        ∙ before_it (place_of xs m + from) (to - from) x place (ltb-true place x here)
        ∙ sym (ap (λ (b : Bool). b && (nat_le from place && nat_lt place to))
        (ne_eqb (k + suc m) k (λ (same : k + suc m ≡ k). omega (arith, same))))
    by false past rest =
        let same : x + place_of xs m + from ≡ x + (place_of xs m + from) = omega arith in
        let number : k + 1 + m ≡ k + suc m = omega arith in
        ap (λ (p : ℕ). covers_at p (to - from) place) same
        ∙ moved (place_of xs m + from) (to - from) x place (ltb-false place x past) ∙ rest
        ∙ ap (λ (n : ℕ). came_along (brings n from to) xs (k + 1) (place - x)) number

-- the octet at a place has come
pub place_is : (fields : List ℕ) (es : List FlowEvent) (place : ℕ) → AllByRecursion (IsWithin fields) (stretches_in es)
    → octet_has_come fields (stretches_in es) place ≡ came_along (octet_came es) fields 0 place
place_is fields [] place within = sym (along_none (λ n i. false) fields 0 place (λ j i low. refl))
place_is fields (OctetsArrived n from to ∷ es) place within =
    let here = covers_along fields 0 n from to place within.0.written within.0.ends in
    let at : 0 + n ≡ n = omega arith in
    ap (λ (p : ℕ). covers_at (p + from) (to - from) place || octet_has_come fields (stretches_in es) place)
    (place_same fields n)
    ∙ ap (λ (b : Bool). b || octet_has_come fields (stretches_in es) place)
    (here ∙ ap (λ (m : ℕ). came_along (brings m from to) fields 0 place) at)
    ∙ ap (λ (b : Bool). came_along (brings n from to) fields 0 place || b) (place_is fields es place within.1)
    ∙ sym (along_or (brings n from to) (octet_came es) fields 0 place)
place_is fields (SduTaken size ∷ es) place within = place_is fields es place within
place_is fields (NumberWritten size ∷ es) place within = place_is fields es place within
place_is fields (OctetsResent n from to ∷ es) place within = place_is fields es place within
place_is fields (ReorderStarted ∷ es) place within = place_is fields es place within
place_is fields (ReorderExpired ∷ es) place within = place_is fields es place within
place_is fields (StatusHeard ack entries ∷ es) place within = place_is fields es place within
place_is fields (PollExpired more ∷ es) place within = place_is fields es place within

-- ---- several places

below_first : (p : ℕ → Bool) (n : ℕ) → all_below p (suc n) ≡ (p 0 && all_below (λ i. p (1 + i)) n)
below_first p zero = by (p 0)
  where
    by : (b : Bool) → (b && true) ≡ (b && true)
    by b = refl
below_first p (suc n) =
    let at : suc n ≡ 1 + n = omega arith in
    ap (λ (b : Bool). p (suc n) && b) (below_first p n)
    ∙ turned (p (suc n)) (p 0) (all_below (λ i. p (1 + i)) n)
    ∙ ap (λ (m : ℕ). p 0 && (p m && all_below (λ i. p (1 + i)) n)) at
  where
    turned : (a b c : Bool) → (a && (b && c)) ≡ (b && (a && c))
    turned true true c = refl
    turned true false c = refl
    turned false true c = refl
    turned false false c = refl

below_same : (p q : ℕ → Bool) (n : ℕ) → ((i : ℕ) → p i ≡ q i) → all_below p n ≡ all_below q n
below_same p q zero same = refl
below_same p q (suc n) same =
    ap (λ (b : Bool). b && all_below p n) (same n) ∙ ap (λ (b : Bool). q n && b) (below_same p q n same)

pub from_is : (p q : ℕ → Bool) (place n : ℕ) → ((i : ℕ) → p i ≡ q i)
    → all_from p place n ≡ all_below (λ i. q (place + i)) n
from_is p q place zero same = refl
from_is p q place (suc n) same =
    let at : place ≡ place + 0 = omega arith in
    ap (λ (b : Bool). b && all_from p (place + 1) n) (same place ∙ ap q at)
    ∙ ap (λ (b : Bool). q (place + 0) && b)
    (from_is p q (place + 1) n same
    ∙ below_same (λ i. q (place + 1 + i)) (λ i. q (place + (1 + i))) n
    (λ i. let there : place + 1 + i ≡ place + (1 + i) = omega arith in ap q there))
    ∙ sym (below_first (λ i. q (place + i)) n)

pub below_more : (p : ℕ → Bool) (m n : ℕ) → all_below p (m + n) ≡ (all_below p m && all_below (λ i. p (m + i)) n)
below_more p m zero =
    let at : m + 0 ≡ m = omega arith in ap (all_below p) at ∙ sym (and_true (all_below p m))
  where
    and_true : (b : Bool) → (b && true) ≡ b
    and_true true = refl
    and_true false = refl
below_more p m (suc n) =
    let at : m + suc n ≡ suc (m + n) = omega arith in
    ap (all_below p) at ∙ ap (λ (b : Bool). p (m + n) && b) (below_more p m n)
    ∙ turned (p (m + n)) (all_below p m) (all_below (λ i. p (m + i)) n)
  where
    turned : (a b c : Bool) → (a && (b && c)) ≡ (b && (a && c))
    turned true true c = refl
    turned true false c = refl
    turned false true c = refl
    turned false false c = refl

pub place_next : (xs : List ℕ) (k : ℕ) → k < length xs → place_of xs (k + 1) ≡ place_of xs k + slice_index xs k
place_next [] k lt = absurd (omega (arith, lt))
place_next (x ∷ []) zero lt = omega arith
place_next (x ∷ y ∷ xs) zero lt = omega arith
place_next (x ∷ xs) (suc k) lt =
    let at : suc k + 1 ≡ suc (k + 1) = omega arith in
    let ih = place_next xs k (omega (arith, lt)) in
    ap (place_of (x ∷ xs)) at ∙ omega (arith, ih)
