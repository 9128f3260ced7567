-- The lengths of a segment are those of the elements that it cuts.
use Rattle.std.proofs.Common.{◌≡◌, ◌≤◌, inl, inr, ℕ, ◌+◌, ◌-◌, Bool, true, false, ◌==◌, if◌then◌else◌, List, [], ◌∷◌}
use Rattle.std.proofs.Common.{◌++◌, min, refl, ap, sym, ◌∙◌, arith}
use Rattle.std.proofs.lemmas.Bool.Decides.{nat_tests}
use Rattle.std.proofs.lemmas.Bool.{cases_lt}
use Rattle.std.specs.List.{sum}
use Rattle.rlc_am_tx_window.specs.Cut.{cut, clip, some_length}
use Rattle.rlc_am_tx_window.proofs.CutSteps.{clip-none, clip-sum, clip-lens, cut-sum}
use Rattle.law_rlc.specs.AmSender.Cutting.{CutsElements}
use Rattle.law_rlc.proofs.AmSender.Longest.{clip-all, elements-of}

none-test : (n : ℕ) → (n == 0) ≡ true → n ≡ 0
none-test n e = grind (arith, nat_tests)

some-test : (n : ℕ) → (n == 0) ≡ false → 1 ≤ n
some-test n e = grind (arith, nat_tests)

some-is : (n m : ℕ) → n ≡ m → some_length n ≡ some_length m
some-is n m e = ap some_length e

clip-at : (a b a' b' : ℕ) (ls : List ℕ) → a ≡ a' → b ≡ b' → clip a b ls ≡ clip a' b' ls
clip-at a b a' b' ls e f = ap (λ (x : ℕ). clip x b ls) e ∙ ap (λ (y : ℕ). clip a' y ls) f

-- of what lies from a place below another, the first k octets
pub clip-clip : (a b k : ℕ) (ls : List ℕ) → a + k ≤ b → clip 0 k (clip a b ls) ≡ clip a (a + k) ls
clip-clip a b k [] h = refl
clip-clip a b k (l ∷ ls) h =
    step (min b l - a == 0) (none-test (min b l - a)) (some-test (min b l - a))
    (λ a' k' le. clip-clip a' (b - l) k' ls le)
  where
    step : (t : Bool) → (t ≡ true → min b l - a ≡ 0) → (t ≡ false → 1 ≤ min b l - a)
        → ((a' k' : ℕ) → a' + k' ≤ b - l → clip 0 k' (clip a' (b - l) ls) ≡ clip a' (a' + k') ls)
        → clip 0 k ((if t then [] else (min b l - a) ∷ []) ++ clip (a - l) (b - l) ls)
        ≡ some_length (min (a + k) l - a) ++ clip (a - l) (a + k - l) ls
    step true n s ih = let z = n refl in elim (cases_lt a l) [
      | inl less ↦
          let k0 : k ≡ 0 = omega arith in
          let p : min (a + k) l - a ≡ 0 = omega arith in
          let q : a - l ≡ 0 = omega arith in
          let r : a + k - l ≡ 0 = omega arith in
          clip-at 0 k 0 0 (clip (a - l) (b - l) ls) refl k0
          ∙ (clip-none (clip (a - l) (b - l) ls)
          ∙ sym (ap (λ (xs : List ℕ). xs ++ clip (a - l) (a + k - l) ls) (some-is (min (a + k) l - a) 0 p)
          ∙ (clip-at (a - l) (a + k - l) 0 0 ls q r ∙ clip-none ls)))
      | inr more ↦
          let p : min (a + k) l - a ≡ 0 = omega arith in
          let q : a - l + k ≡ a + k - l = omega arith in
          low (omega arith) p q
    ]
      where
        low : a - l + k ≤ b - l → min (a + k) l - a ≡ 0 → a - l + k ≡ a + k - l
            → clip 0 k (clip (a - l) (b - l) ls) ≡ some_length (min (a + k) l - a) ++ clip (a - l) (a + k - l) ls
        low le p q = ih (a - l) k le
            ∙ (clip-at (a - l) (a - l + k) (a - l) (a + k - l) ls refl q
            ∙ sym (ap (λ (xs : List ℕ). xs ++ clip (a - l) (a + k - l) ls) (some-is (min (a + k) l - a) 0 p)))
    step false n s ih =
        let o = s refl in
        let v : min k (min b l - a) - 0 ≡ min (a + k) l - a = omega arith in
        let z : 0 - (min b l - a) ≡ 0 = omega arith in
        let q : a - l ≡ 0 = omega arith in
        ap (λ (xs : List ℕ). xs ++ clip (0 - (min b l - a)) (k - (min b l - a)) (clip (a - l) (b - l) ls))
        (some-is (min k (min b l - a) - 0) (min (a + k) l - a) v)
        ∙ ap (λ (ys : List ℕ). some_length (min (a + k) l - a) ++ ys)
        (clip-at (0 - (min b l - a)) (k - (min b l - a)) 0 (k - (min b l - a)) (clip (a - l) (b - l) ls) z refl
        ∙ (ap (λ (x : ℕ). clip 0 (k - (min b l - a)) (clip x (b - l) ls)) q
        ∙ (rest o ∙ sym (clip-at (a - l) (a + k - l) 0 (a + k - l) ls q refl))))
      where
        rest : 1 ≤ min b l - a → clip 0 (k - (min b l - a)) (clip 0 (b - l) ls) ≡ clip 0 (a + k - l) ls
        rest o = elim (cases_lt b l) [
          | inl short ↦ let x : k - (min b l - a) ≡ 0 = omega arith in let y : a + k - l ≡ 0 = omega arith in
              clip-at 0 (k - (min b l - a)) 0 0 (clip 0 (b - l) ls) refl x
              ∙ (clip-none (clip 0 (b - l) ls) ∙ sym (clip-at 0 (a + k - l) 0 0 ls refl y ∙ clip-none ls))
          | inr long ↦ let x : 0 + (k - (min b l - a)) ≡ a + k - l = omega arith in
              ih 0 (k - (min b l - a)) (omega arith) ∙ clip-at 0 (0 + (k - (min b l - a))) 0 (a + k - l) ls refl x
        ]

pub cuts : CutsElements
cuts size from to ls lens lt le five =
    let c = cut-sum false (size - 4) (clip from to ls) in let d = clip-sum from to ls in
    sym (sym (clip-clip from to (sum (cut false (size - 4) (clip from to ls))) ls (omega arith))
    ∙ clip-all false (size - 4) (clip from to ls) (omega arith)
    (elements-of (clip from to ls) (clip-lens from to ls lens lt le)))
