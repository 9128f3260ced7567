-- The cut is the longest stretch that fits.
use Rattle.std.proofs.Common.{◌≡◌, ◌<◌, ◌≤◌, inl, inr, ℕ, suc, zero, ◌+◌, ◌-◌, Bool, true, false, not, if◌then◌else◌}
use Rattle.std.proofs.Common.{List, [], ◌∷◌, ◌++◌, length, min, refl, ap, sym, subst, ◌∙◌, arith}
use Rattle.std.proofs.lemmas.Grind.{common_steps}
use Rattle.std.proofs.lemmas.Bool.Decides.{nat_tests}
use Rattle.std.proofs.lemmas.Bool.{cases_lt}
use Rattle.rlc_am_tx_window.specs.Cut.{cut, clip, cost, goes_on, some_length}
use Rattle.std.specs.List.{sum}
use Rattle.rlc_pdu.specs.Pdus.{AreLens}
use Rattle.rlc_pdu.specs.Writing.{header_len}
use Rattle.rlc_am_tx_window.proofs.CutSteps.{sum-first, cut-sum}
use Rattle.rlc_am_tx_window.proofs.CutFits.{costs, costs-is, cut-goes, fits-in}
use Rattle.law_rlc.specs.AmSender.Cutting.{size_of, IsLongest}

-- every element holds an octet, and each but the last at most 2047
abbrev pub AreElements : List ℕ → Type 0
AreElements [] = Unit {0}
AreElements (l ∷ []) = 0 < l
AreElements (l ∷ k ∷ ls) = (0 < l) × (l ≤ 2047) × AreElements (k ∷ ls)

pub elements-of : (ls : List ℕ) → AreLens ls → AreElements ls
elements-of [] h = absurd h
elements-of (l ∷ []) h = omega (arith, h)
elements-of (l ∷ k ∷ ls) h = (omega (arith, h.0), omega (arith, h.1), elements-of (k ∷ ls) h.2)

clip-none : (ls : List ℕ) → clip 0 0 ls ≡ []
clip-none [] = refl
clip-none (l ∷ ls) = grind (arith, common_steps, clip-none ls)

some-is : (n : ℕ) → 0 < n → some_length n ≡ n ∷ []
some-is n h = grind (arith, nat_tests, common_steps)

-- those of the first k octets
clip-short : (l : ℕ) (ls : List ℕ) (k : ℕ) → 0 < k → k ≤ l → clip 0 k (l ∷ ls) ≡ k ∷ []
clip-short l ls k some short =
    let n : min k l - 0 ≡ k = omega arith in
    let a : some_length (min k l - 0) ≡ k ∷ [] = ap some_length n ∙ some-is k some in
    let s : 0 - l ≡ 0 = omega arith in
    let r : k - l ≡ 0 = omega arith in
    let b : clip (0 - l) (k - l) ls ≡ [] = ap (λ (m : ℕ). clip m (k - l) ls) s ∙ ap (λ (m : ℕ). clip 0 m ls) r
    ∙ clip-none ls in
    ap (λ (xs : List ℕ). xs ++ clip (0 - l) (k - l) ls) a ∙ ap (λ (ys : List ℕ). (k ∷ []) ++ ys) b

clip-long : (l : ℕ) (ls : List ℕ) (k : ℕ) → 0 < l → l < k → clip 0 k (l ∷ ls) ≡ l ∷ clip 0 (k - l) ls
clip-long l ls k some long =
    let n : min k l - 0 ≡ l = omega arith in
    let a : some_length (min k l - 0) ≡ l ∷ [] = ap some_length n ∙ some-is l some in
    let s : 0 - l ≡ 0 = omega arith in
    ap (λ (xs : List ℕ). xs ++ clip (0 - l) (k - l) ls) a ∙ ap (λ (m : ℕ). (l ∷ []) ++ clip m (k - l) ls) s

clip-some : (ls : List ℕ) (k : ℕ) → 0 < k → k ≤ sum ls → AreElements ls → 0 < length (clip 0 k ls)
clip-some [] k some within h = absurd (omega arith)
clip-some (l ∷ ls) k some within h = elim (cases_lt l k) [
  | inl long ↦ rw (clip-long l ls k (first ls h) long) (omega arith)
  | inr short ↦ rw (clip-short l ls k some (omega arith)) (omega arith)
]
  where
    first : (ls : List ℕ) → AreElements (l ∷ ls) → 0 < l
    first [] h = h
    first (x ∷ xs) h = h.0

head-some : (l : ℕ) (ls : List ℕ) → AreElements (l ∷ ls) → 0 < l
head-some l [] h = h
head-some l (x ∷ xs) h = h.0

rest-elements : (l : ℕ) (ls : List ℕ) → AreElements (l ∷ ls) → AreElements ls
rest-elements l [] h = tt
rest-elements l (x ∷ xs) h = h.2

head-most : (l : ℕ) (ls : List ℕ) → AreElements (l ∷ ls) → 0 < sum ls → l ≤ 2047
head-most l [] h some = absurd (omega arith)
head-most l (x ∷ xs) h some = h.1

costs-more : (half : Bool) (n : ℕ) → 0 < n → costs half n ≡ cost half + costs (not half) (n - 1)
costs-more half zero h = absurd (omega arith)
costs-more half (suc n) h = let e : suc n - 1 ≡ n = omega arith in rw e refl

goes : (half : Bool) (room l : ℕ) → l ≤ 2047 → l + cost half < room → goes_on half room l ≡ true
goes half room l a b = grind (arith, nat_tests)

cut-first : (half : Bool) (room l : ℕ) (ls : List ℕ) → min l room ≤ sum (cut half room (l ∷ ls))
cut-first half room l ls =
    rw (sum-first (min l room) (if goes_on half room l then cut (not half) (room - (l + cost half)) ls else []))
    (omega arith)

-- no stretch that fits is longer
most : (half : Bool) (room : ℕ) (ls : List ℕ) (k : ℕ) → AreElements ls → k ≤ sum ls
    → k + costs half (length (clip 0 k ls) - 1) ≤ room → k ≤ sum (cut half room ls)
most half room [] k h within fits = within
most half room (l ∷ ls) k h within fits = elim (cases_lt l k) [
  | inl long ↦
      let total : sum (l ∷ ls) ≡ l + sum ls = sum-first l ls in
      let parts : clip 0 k (l ∷ ls) ≡ l ∷ clip 0 (k - l) ls = clip-long l ls k (head-some l ls h) long in
      let some : 0 < length (clip 0 (k - l) ls) =
      clip-some ls (k - l) (omega arith) (omega arith) (rest-elements l ls h) in
      let n : length (clip 0 k (l ∷ ls)) - 1 ≡ length (clip 0 (k - l) ls) = rw parts (omega arith) in
      let fits-on : k + costs half (length (clip 0 (k - l) ls)) ≤ room =
      subst (λ (m : ℕ). k + costs half m ≤ room) n fits in
      let more = costs-more half (length (clip 0 (k - l) ls)) some in
      let on : goes_on half room l ≡ true = goes half room l (head-most l ls h (omega arith)) (omega arith) in
      let rest : k - l ≤ sum (cut (not half) (room - (l + cost half)) ls) =
      most (not half) (room - (l + cost half)) ls (k - l) (rest-elements l ls h) (omega arith) (omega arith) in
      rw (cut-goes half room l ls on, sum-first (min l room) (cut (not half) (room - (l + cost half)) ls)) (omega arith)
  | inr short ↦ let first = cut-first half room l ls in omega arith
]

-- the cut fits, and is what lies below its end
pub clip-all : (half : Bool) (room : ℕ) (ls : List ℕ) → 0 < room → AreElements ls
    → clip 0 (sum (cut half room ls)) ls ≡ cut half room ls
clip-all half room [] some h = refl
clip-all half room (l ∷ ls) some h =
    by (goes_on half room l) refl
    (λ e. clip-all (not half) (room - (l + cost half)) ls (less e) (rest-elements l ls h))
  where
    less : goes_on half room l ≡ true → 0 < room - (l + cost half)
    less e = grind (arith, nat_tests)

    by : (b : Bool) → goes_on half room l ≡ b
        → (goes_on half room l ≡ true → clip 0 (sum (cut (not half) (room - (l + cost half)) ls)) ls
        ≡ cut (not half) (room - (l + cost half)) ls)
        → clip 0 (sum (cut half room (l ∷ ls))) (l ∷ ls) ≡ cut half room (l ∷ ls)
    by false e rest =
        let is : cut half room (l ∷ ls) ≡ min l room ∷ [] = rw e refl in
        let total : sum (cut half room (l ∷ ls)) ≡ min l room = ap sum is ∙ sum-first (min l room) [] ∙ omega arith in
        ap (λ (k : ℕ). clip 0 k (l ∷ ls)) total ∙ clip-short l ls (min l room) (let x = head-some l ls h in
        omega arith) (omega arith) ∙ sym is
    by true e rest =
        let fit : l < room = grind (arith, nat_tests) in
        let m : min l room ≡ l = omega arith in
        let is : cut half room (l ∷ ls) ≡ min l room ∷ cut (not half) (room - (l + cost half)) ls =
        cut-goes half room l ls e in
        let total : sum (cut half room (l ∷ ls)) ≡ l + sum (cut (not half) (room - (l + cost half)) ls) =
        ap sum is ∙ sum-first (min l room) (cut (not half) (room - (l + cost half)) ls)
        ∙ ap (λ (n : ℕ). n + sum (cut (not half) (room - (l + cost half)) ls)) m in
        ap (λ (k : ℕ). clip 0 k (l ∷ ls)) total
        ∙ longer (sum (cut (not half) (room - (l + cost half)) ls)) (rest e)
        ∙ ap (λ (n : ℕ). n ∷ cut (not half) (room - (l + cost half)) ls) (sym m)
        ∙ sym is
      where
        longer : (n : ℕ) → clip 0 n ls ≡ cut (not half) (room - (l + cost half)) ls
            → clip 0 (l + n) (l ∷ ls) ≡ l ∷ cut (not half) (room - (l + cost half)) ls
        longer n r = elim (cases_lt 0 n) [
          | inl more ↦ clip-long l ls (l + n) (head-some l ls h) (omega arith) ∙ let back : l + n - l ≡ n =
              omega arith in ap (λ (k : ℕ). l ∷ clip 0 k ls) back ∙ ap (λ (xs : List ℕ). l ∷ xs) r
          | inr none ↦
              let z : n ≡ 0 = omega arith in
              let e0 : l + n ≡ l = omega arith in
              ap (λ (k : ℕ). clip 0 k (l ∷ ls)) e0 ∙ clip-short l ls l (head-some l ls h) (omega arith)
              ∙ ap (λ (xs : List ℕ). l ∷ xs) (sym (clip-none ls) ∙ ap (λ (k : ℕ). clip 0 k ls) (sym z) ∙ r)
        ]

fits-of : (size : ℕ) (ls : List ℕ) → AreElements ls → 5 ≤ size → size_of ls (sum (cut false (size - 4) ls)) ≤ size
fits-of size ls h five =
    let few : length (clip 0 (sum (cut false (size - 4) ls)) ls) ≡ length (cut false (size - 4) ls) =
    ap length (clip-all false (size - 4) ls (omega arith) h) in
    let all = fits-in false (size - 4) ls in
    let c = costs-is (length (cut false (size - 4) ls) - 1) in
    subst (λ (n : ℕ). header_len 4 n + sum (cut false (size - 4) ls) ≤ size) (sym few) (omega (arith, all, c))

most-of : (size : ℕ) (ls : List ℕ) → AreElements ls → (k : ℕ) → k ≤ sum ls → size_of ls k ≤ size
    → k ≤ sum (cut false (size - 4) ls)
most-of size ls h k within fit = let c = costs-is (length (clip 0 k ls) - 1) in
    most false (size - 4) ls k h within (omega (arith, fit, c))

longest-of : (size : ℕ) (ls : List ℕ) → AreElements ls → IsLongest size ls
longest-of size ls h = record {
  fits = fits-of size ls h;
  most = most-of size ls h;
  only = λ k five within fit longest.
      let a = most-of size ls h k within fit in
      let b = longest (sum (cut false (size - 4) ls)) (cut-sum false (size - 4) ls) (fits-of size ls h five) in
      omega (arith, a, b);
}

pub longest : (size : ℕ) (ls : List ℕ) → AreLens ls → IsLongest size ls
longest size ls h = longest-of size ls (elements-of ls h)
