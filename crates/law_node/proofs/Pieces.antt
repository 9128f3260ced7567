-- The elements of a PDU that are whole SDUs.
use Rattle.std.proofs.Common.{◌≡◌, ◌≤◌, ℕ, zero, suc, ◌+◌, ◌-◌, ◌==◌, nat_lt, Bool, true, false, not, if◌then◌else◌}
use Rattle.std.proofs.Common.{List, [], ◌∷◌, ◌++◌, length, take, drop, refl, sym, ap, ◌∙◌, subst, arith}
use Rattle.std.specs.List.{AllByRecursion}
use Rattle.std.proofs.lemmas.Bool.Decides.{nat_tests}
use Rattle.rlc_queue.specs.NewPdu.{room, may_follow, elements, rest, partial, framing}
use Rattle.rlc_queue.specs.Waiting.{behind}
use Rattle.promises.specs.Names.{whole_sdus}

-- the first begins an SDU, the last ends one: the elements that are whole
abbrev pub whole : Bool → Bool → List (List ℕ) → List (List ℕ)
whole begins ends [] = []
whole begins ends (x ∷ []) = if begins then (if ends then x ∷ [] else []) else []
whole begins ends (x ∷ y ∷ ys) = if begins then x ∷ whole true ends (y ∷ ys) else whole true ends (y ∷ ys)

-- of elements that are whole
abbrev pub Whole : (List ℕ → Type 0) → Bool → Bool → List (List ℕ) → Type 0
Whole P begins ends es = AllByRecursion P (whole begins ends es)

-- ---- FI says which

last_off : (x y : List ℕ) (ys : List (List ℕ))
    → take (length (x ∷ y ∷ ys) - 1) (x ∷ y ∷ ys) ≡ x ∷ take (length (y ∷ ys) - 1) (y ∷ ys)
last_off x y ys = let e : length (x ∷ y ∷ ys) - 1 ≡ suc (length (y ∷ ys) - 1) = omega arith in
    ap (λ (n : ℕ). take n (x ∷ y ∷ ys)) e

all_of : (es : List (List ℕ)) → take (length es - 0) es ≡ es
all_of [] = refl
all_of (x ∷ xs) = let e : length (x ∷ xs) - 0 ≡ suc (length xs - 0) = omega arith in
    ap (λ (n : ℕ). take n (x ∷ xs)) e ∙ ap (λ (ys : List (List ℕ)). x ∷ ys) (all_of xs)

from_begin : (es : List (List ℕ)) → whole true true es ≡ es
from_begin [] = refl
from_begin (x ∷ []) = refl
from_begin (x ∷ y ∷ ys) = ap (λ (zs : List (List ℕ)). x ∷ zs) (from_begin (y ∷ ys))

but_last : (es : List (List ℕ)) → whole true false es ≡ take (length es - 1) es
but_last [] = refl
but_last (x ∷ []) = refl
but_last (x ∷ y ∷ ys) = ap (λ (zs : List (List ℕ)). x ∷ zs) (but_last (y ∷ ys)) ∙ sym (last_off x y ys)

pub whole_is : (begins ends : Bool) (es : List (List ℕ)) → whole_sdus (framing begins ends) es ≡ whole begins ends es
whole_is true true es = all_of es ∙ sym (from_begin es)
whole_is true false es = sym (but_last es)
whole_is false true [] = refl
whole_is false true (x ∷ []) = refl
whole_is false true (x ∷ y ∷ ys) = ap (λ (zs : List (List ℕ)). drop 1 zs) (all_of (x ∷ y ∷ ys))
    ∙ sym (from_begin (y ∷ ys))
whole_is false false [] = refl
whole_is false false (x ∷ []) = refl
whole_is false false (x ∷ y ∷ ys) = ap (λ (zs : List (List ℕ)). drop 1 zs) (last_off x y ys) ∙ sym (but_last (y ∷ ys))

-- ---- a new PDU

module _ (P : List ℕ → Type 0) where
  -- SDUs that wait, of which the first may be partly sent
  abbrev pub AreWhole : Bool → List (List ℕ) → Type 0
  AreWhole begun [] = Unit {0}
  AreWhole true (x ∷ xs) = AllByRecursion P xs
  AreWhole false (x ∷ xs) = P x × AllByRecursion P xs

  all_whole : (xs : List (List ℕ)) → AllByRecursion P xs → AreWhole false xs
  all_whole [] a = tt
  all_whole (x ∷ xs) a = a

  whole_all : (xs : List (List ℕ)) → AreWhole false xs → AllByRecursion P xs
  whole_all [] a = tt
  whole_all (x ∷ xs) a = a

  end_all : (xs : List (List ℕ)) (x : List ℕ) → AllByRecursion P xs → P x → AllByRecursion P (xs ++ x ∷ [])
  end_all [] x a p = (p, tt)
  end_all (y ∷ ys) x a p = (a.0, end_all ys x a.1 p)

  -- another waits
  pub more_whole : (begun : Bool) (sdus : List (List ℕ)) (x : List ℕ) → AreWhole begun sdus → P x
      → AreWhole begun (sdus ++ x ∷ [])
  more_whole true [] x a p = tt
  more_whole false [] x a p = (p, tt)
  more_whole true (y ∷ ys) x a p = end_all ys x a p
  more_whole false (y ∷ ys) x a p = (a.0, end_all ys x a.1 p)

  tail_whole : (begun : Bool) (x : List ℕ) (xs : List (List ℕ)) → AreWhole begun (x ∷ xs) → AllByRecursion P xs
  tail_whole true x xs a = a
  tail_whole false x xs a = a.1

  -- an element before others
  pub cons_whole : (begins ends : Bool) (x : List ℕ) (es : List (List ℕ)) → (begins ≡ true → P x)
      → Whole P true ends es → Whole P begins ends (x ∷ es)
  cons_whole false ends x [] p w = tt
  cons_whole false ends x (y ∷ ys) p w = w
  cons_whole true true x [] p w = (p refl, tt)
  cons_whole true false x [] p w = tt
  cons_whole true ends x (y ∷ ys) p w = (p refl, w)

  -- one alone
  pub one_whole : (begins ends : Bool) (x : List ℕ) → (begins ≡ true → ends ≡ true → P x) → Whole P begins ends (x ∷ [])
  one_whole false ends x p = tt
  one_whole true true x p = (p refl refl, tt)
  one_whole true false x p = tt

  first_whole : (begun : Bool) (x : List ℕ) (xs : List (List ℕ)) → AreWhole begun (x ∷ xs) → not begun ≡ true → P x
  first_whole true x xs a e = let no : false ≡ true = e in absurd cc
  first_whole false x xs a e = a.0

  behind_by : (t : Bool) (n : ℕ) (x : List ℕ) (xs : List (List ℕ)) → AllByRecursion P xs
      → AreWhole t (if t then drop n x ∷ xs else xs)
  behind_by true n x xs a = a
  behind_by false n x xs a = all_whole xs a

  pub record IsNew (begun : Bool) (es left : List (List ℕ)) (partly : Bool) : Type 0 where
    pub wholes : Whole P (not begun) (not partly) es
    pub left' : AreWhole partly left

  all_taken : (n : ℕ) (x : List ℕ) → length x ≤ n → take n x ≡ x
  all_taken zero [] le = refl
  all_taken (suc n) [] le = refl
  all_taken zero (x ∷ xs) le = absurd (omega (arith, le))
  all_taken (suc n) (x ∷ xs) le = ap (λ (ys : List ℕ). x ∷ ys) (all_taken n xs (omega (arith, le)))

  step_whole : (n : ℕ) (x : List ℕ) (xs es rs : List (List ℕ)) (begun part none follow : Bool)
      → may_follow n x ≡ follow → AreWhole begun (x ∷ xs) → IsNew false es rs part
      → IsNew begun (if none then [] else take n x ∷ (if follow then es else []))
      (if none then x ∷ xs else if follow then rs else behind n (x ∷ xs))
      (if none then begun else if follow then part else nat_lt n (length x))
  step_whole n x xs es rs begun part true follow f a i = record { wholes = tt; left' = a }
  step_whole n x xs es rs begun part false true f a i =
      let fits : length x ≤ n = grind (arith, nat_tests, f) in
      record {
        wholes =
            cons_whole (not begun) (not part) (take n x) es
            (λ e. subst P (sym (all_taken n x fits)) (first_whole begun x xs a e)) i.wholes;
        left' = i.left';
      }
  step_whole n x xs es rs begun part false false f a i = record {
    wholes = one_whole (not begun) (not (nat_lt n (length x))) (take n x) (λ e t. let fits : length x ≤ n =
        grind (arith, nat_tests, t) in subst P (sym (all_taken n x fits)) (first_whole begun x xs a e));
    left' = behind_by (nat_lt n (length x)) n x xs (tail_whole begun x xs a);
  }

  pub new_whole : (head size count used : ℕ) (begun : Bool) (sdus : List (List ℕ)) → AreWhole begun sdus
      → IsNew begun (elements head size count used sdus) (rest head size count used sdus)
      (partial head size count used begun sdus)
  new_whole head size count used begun [] a = record { wholes = tt; left' = tt }
  new_whole head size count used begun (x ∷ xs) a =
      let n = room head size count used in
      step_whole n x xs (elements head size (count + 1) (used + length x) xs)
      (rest head size (count + 1) (used + length x) xs) begun
      (partial head size (count + 1) (used + length x) false xs) (n == 0) (may_follow n x) refl a
      (new_whole head size (count + 1) (used + length x) false xs (all_whole xs (tail_whole begun x xs a)))
