-- The lanes of vectors.
use Rattle.std.proofs.Common.{◌≡◌, ℕ, zero, suc, ◌+◌, ◌*◌, ◌/◌, ◌%◌, ◌^◌, ◌<◌, Bool, true, ◌&&◌, eqb, List, map, length}
use Rattle.std.proofs.Common.{get_or, replicate, bit_and, refl, sym, ap, ◌∙◌, arith, w8, Fits}
use Rattle.std.proofs.lemmas.List.{get_or-map, length-map, ext_get_or}
use Rattle.std.proofs.lemmas.Nat.{and_le_r}
use Rattle.std.proofs.lemmas.Bool.Decides.{Decides-below_and, Decides-eqb}
use Rattle.std.proofs.lemmas.Simd.{Each1-all, Each1-weaker, Each1-zip2, Each1-get_or, Each2-splat, below_from_Fits}
use Rattle.std.proofs.lemmas.Simd.{length-zip2, length-replicate, swz_l, SwzOk, SwzOk-from_below, length-swz_l}
use Rattle.std.proofs.lemmas.Simd.{get_or-swz_l_below}
use lib.Lanes.{zip2, Each1}

-- two functions that agree on each number below another, by a test that computes
abbrev pub agree_below : (ℕ → ℕ) → (ℕ → ℕ) → ℕ → Bool
agree_below f g zero = true
agree_below f g (suc n) = eqb (f n) (g n) && agree_below f g n

pub agree : (f g : ℕ → ℕ) (n : ℕ) → agree_below f g n ≡ true → (k : ℕ) → k < n → f k ≡ g k
agree f g n computed k less =
    (Decides-below_and (λ k. eqb (f k) (g k)) (λ k. f k ≡ g k) (agree_below f g) (λ k. Decides-eqb (f k) (g k)) refl
    (λ _. refl) n).0 computed k less

-- ---- look-ups

abbrev pub down : ℕ → ℕ → ℕ
down a b = a / 2 ^ b

pub high_ok : (b n : ℕ) (v : List ℕ) → n ≡ b * 16 → length v ≡ n → Each1 (Fits w8) v
    → SwzOk w8 16 n 0 (zip2 down v (replicate n 4))
high_ok b n v is long fits =
    let small = Each1-weaker (λ a. a < 256) (λ a. a / 16 < 16) (λ a h. omega arith) v (below_from_Fits w8 v fits) in
    SwzOk-from_below w8 16 b n 0 (zip2 down v (replicate n 4)) is
    (omega (arith, long, length-zip2 down v (replicate n 4) (omega (arith, long, length-replicate {A = ℕ} n 4))))
    (Each1-zip2 down (λ j. j < 16) v (replicate n 4) (Each2-splat (λ a b. down a b < 16) v n 4 small))

pub low_ok : (b n : ℕ) (v : List ℕ) → n ≡ b * 16 → length v ≡ n → SwzOk w8 16 n 0 (zip2 bit_and v (replicate n 15))
low_ok b n v is long =
    let small = Each1-all (λ a. bit_and a 15 < 16) (λ a. omega (arith, and_le_r a 15)) v in
    SwzOk-from_below w8 16 b n 0 (zip2 bit_and v (replicate n 15)) is
    (omega (
      arith,
      long,
      length-zip2 bit_and v (replicate n 15) (omega (arith, long, length-replicate {A = ℕ} n 15)),
    ))
    (Each1-zip2 bit_and (λ j. j < 16) v (replicate n 15) (Each2-splat (λ a b. bit_and a b < 16) v n 15 small))

-- a table t that repeats s, read at places g x below 16, where s has h x
pub looked_up : (b n : ℕ) (t s : List ℕ) (g h : ℕ → ℕ) (v js : List ℕ) → n ≡ b * 16 → length v ≡ n → Each1 (Fits w8) v
    → js ≡ map g v
    → ((x : ℕ) → x < 256 → g x < 16)
    → ((k : ℕ) → k < n → get_or t k 0 ≡ get_or s (k % 16) 0) → ((x : ℕ) → x < 256 → get_or s (g x) 0 ≡ h x)
    → swz_l w8 16 t 0 js ≡ map h v
looked_up b n t s g h v js whole long fits e small repeats has =
    let len : length js ≡ n = ap length e ∙ length-map v g ∙ long in
    ext_get_or 0 _ _ (length-swz_l w8 16 t 0 js ∙ len ∙ sym (length-map v h ∙ long)) (λ i less.
    let lt : i < n = omega (arith, length-swz_l w8 16 t 0 js, len, less) in
    let within : i < length v = omega (arith, long, lt) in
    let x : ℕ = get_or v i 0 in
    let byte : x < 256 = (Each1-get_or (Fits w8) v i 0 within fits).fits in
    let is : get_or js i 0 ≡ g x = ap (λ l. get_or l i 0) e ∙ get_or-map g v i 0 0 within in
    let below : get_or js i 0 < 16 = omega (arith, is, small x byte) in
    let at : (16 * ((0 + i) / 16) + get_or js i 0) % 16 ≡ g x = omega (arith, is, below) in
    get_or-swz_l_below w8 16 t 0 js i (omega (arith, len, lt)) below
    ∙ repeats (16 * ((0 + i) / 16) + get_or js i 0) (omega (arith, whole, lt, below)) ∙ ap (λ k. get_or s k 0) at
    ∙ has x byte
    ∙ sym (get_or-map h v i 0 0 within))
