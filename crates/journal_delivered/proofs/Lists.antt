-- Lists of SDUs: what stands behind a front.
use Rattle.std.proofs.Common.{◌≡◌, ℕ, suc, ◌+◌, ◌-◌, ◌≤◌, List, [], ◌∷◌, ◌++◌, length, take, drop}
use Rattle.std.proofs.Common.{inl, inr, refl, ap, ◌∙◌, arith, append-nil, append_assoc, length-append}
use Rattle.std.proofs.lemmas.Bool.{cases_lt}
use Rattle.std.proofs.lemmas.List.{append_cancel_left, take_all, drop_all, length-take}
use Rattle.std.proofs.Math.Seq.{take-append_seam, take-append-add, drop-append-add}
use Rattle.journal_takes.specs.TakeEvents.{without}

abbrev pub Sdus : Type 0
Sdus = List (List ℕ)

pub push_assoc : (xs ys : Sdus) (y : List ℕ) → (xs ++ ys) ++ y ∷ [] ≡ xs ++ (ys ++ y ∷ [])
push_assoc xs ys y = append_assoc xs ys (y ∷ [])

pub push_front : (xs ys : Sdus) (y : List ℕ) → (xs ++ y ∷ []) ++ ys ≡ xs ++ y ∷ ys
push_front xs ys y = append_assoc xs (y ∷ []) ys

-- ---- one taken out

pub without_behind : (xs ys : Sdus) (n : ℕ) → without (length xs + n) (xs ++ ys) ≡ xs ++ without n ys
without_behind xs ys n =
    let at : length xs + n + 1 ≡ length xs + (n + 1) = omega arith in
    ap (λ (zs : Sdus). zs ++ drop (length xs + n + 1) (xs ++ ys)) (take-append-add xs ys n)
    ∙ ap (λ (m : ℕ). (xs ++ take n ys) ++ drop m (xs ++ ys)) at
    ∙ ap (λ (zs : Sdus). (xs ++ take n ys) ++ zs) (drop-append-add xs ys (n + 1))
    ∙ append_assoc xs (take n ys) (drop (n + 1) ys)

without_first : (ys : Sdus) → without 0 ys ≡ drop 1 ys
without_first ys = refl

pub without_seam : (xs ys : Sdus) (n : ℕ) → n ≡ length xs → without n (xs ++ ys) ≡ xs ++ drop 1 ys
without_seam xs ys n e =
    let at : n ≡ length xs + 0 = omega (arith, e) in
    ap (λ (m : ℕ). without m (xs ++ ys)) at ∙ without_behind xs ys 0 ∙ ap (λ (zs : Sdus). xs ++ zs) (without_first ys)

pub without_past : (xs : Sdus) (n : ℕ) → length xs ≤ n → without n xs ≡ xs
without_past xs n h =
    ap (λ (zs : Sdus). zs ++ drop (n + 1) xs) (take_all n xs h)
    ∙ ap (λ (zs : Sdus). xs ++ zs) (drop_all (n + 1) xs (omega (arith, h))) ∙ append-nil xs

-- ---- the first of them

pub take_seam : (xs ys : Sdus) (n : ℕ) → n ≡ length xs → take n (xs ++ ys) ≡ xs
take_seam xs ys n e = ap (λ (m : ℕ). take m (xs ++ ys)) e ∙ take-append_seam xs ys

pub few_taken : (n : ℕ) (xs : Sdus) → length (take n xs) ≤ n
few_taken n xs = omega (arith, length-take n xs)

-- a front that goes past a place has what stands there
pub front_has : (before after rest : Sdus) (up sdu : List ℕ) (n : ℕ)
    → before ++ up ∷ after ≡ take n (before ++ sdu ∷ rest) → up ≡ sdu
front_has before after rest up sdu n e = elim (cases_lt (length before) n) [
  | inl past ↦
      let at : n ≡ length before + suc (n - length before - 1) = omega (arith, past) in
      let same : up ∷ after ≡ sdu ∷ take (n - length before - 1) rest =
      append_cancel_left before (up ∷ after) (take (suc (n - length before - 1)) (sdu ∷ rest))
      (e ∙ ap (λ (m : ℕ). take m (before ++ sdu ∷ rest)) at
      ∙ take-append-add before (sdu ∷ rest) (suc (n - length before - 1))) in
      cc
  | inr within ↦
      let long : length (before ++ up ∷ after) ≡ length (take n (before ++ sdu ∷ rest)) =
      ap (λ (zs : Sdus). length zs) e in
      absurd (omega (arith, long, within, length-append before (up ∷ after), few_taken n (before ++ sdu ∷ rest)))
]
