-- New cells beside those that are held, and the places before the first that isn't.
use Rattle.std.proofs.Common.{◌≡◌, ◌≤◌, ℕ, suc, zero, ◌+◌, ◌-◌, Bool, true, false, ◌&&◌, List, [], ◌∷◌, ◌++◌, length}
use Rattle.std.proofs.Common.{take, drop, map, replicate, Option, Some, None, is_some, refl, ap, ◌∙◌, arith}
use Rattle.std.proofs.Common.{length-drop, leb}
use Rattle.std.proofs.lemmas.Bool.{lt-leb}
use Rattle.std.proofs.lemmas.Bool.Decides.{nat_tests}
use Rattle.std.specs.List.{list_all}
use Rattle.rlc_am_rx_window.specs.Cells.{Cell, over, holds, leading}
use Rattle.rlc_am_rx_window.specs.Piece.{element_cells}

-- ---- over

pub over_nil : (cs : List (Option Cell)) → over cs [] ≡ cs
over_nil [] = refl
over_nil (c ∷ cs) = refl

-- beside a gap new cells stand as they are
pub over_gap : (g : ℕ) (xs ns ms : List (Option Cell)) → length ns ≤ g
    → over (replicate g None ++ xs) (ns ++ ms) ≡ ns ++ over (replicate (g - length ns) None ++ xs) ms
over_gap g xs [] ms h = let e : g - 0 ≡ g = omega arith in rw e refl
over_gap zero xs (n ∷ ns) ms h = absurd (omega (arith, h))
over_gap (suc g) xs (n ∷ ns) ms h =
    let e : suc g - suc (length ns) ≡ g - length ns = omega arith in
    rw e (ap (λ (os : List (Option Cell)). n ∷ os) (over_gap g xs ns ms (omega (arith, h))))

-- behind all that is held too
pub over_end : (r : ℕ) (ns ms : List (Option Cell))
    → over (replicate r None) (ns ++ ms) ≡ ns ++ over (replicate (r - length ns) None) ms
over_end r [] ms = let e : r - 0 ≡ r = omega arith in rw e refl
over_end zero (n ∷ ns) ms = let e : 0 - suc (length ns) ≡ 0 = omega arith in rw e refl
over_end (suc r) (n ∷ ns) ms =
    let e : suc r - suc (length ns) ≡ r - length ns = omega arith in
    rw e (ap (λ (os : List (Option Cell)). n ∷ os) (over_end r ns ms))

-- octets that are held stay
pub over_held : (cs : List Cell) (xs ms : List (Option Cell))
    → over (map (λ c. Some c) cs ++ xs) ms ≡ map (λ c. Some c) cs ++ over xs (drop (length cs) ms)
over_held [] xs ms = refl
over_held (c ∷ cs) xs [] = ap (λ (os : List (Option Cell)). Some c ∷ os) (go cs)
  where
    go : (cs : List Cell) → map (λ c. Some c) cs ++ xs ≡ map (λ c. Some c) cs ++ over xs []
    go cs = rw (over_nil xs) refl
over_held (c ∷ cs) xs (m ∷ ms) = ap (λ (os : List (Option Cell)). Some c ∷ os) (over_held cs xs ms)

-- ---- elements

pub somes : (xs ys : List Cell) → map (λ c. Some c) (xs ++ ys) ≡ map (λ c. Some c) xs ++ map (λ c. Some c) ys
somes [] ys = refl
somes (x ∷ xs) ys = ap (λ (cs : List (Option Cell)). Some x ∷ cs) (somes xs ys)

pub length_somes : (xs : List Cell) → length (map (λ c. Some c) xs) ≡ length xs
length_somes [] = refl
length_somes (x ∷ xs) = ap suc (length_somes xs)

pub length_element : (b e : Bool) (os : List ℕ) → length (element_cells b e os) ≡ length os
length_element b e [] = refl
length_element b e (o ∷ []) = refl
length_element b e (o ∷ p ∷ os) = ap suc (length_element false e (p ∷ os))

pub length_new : (b e : Bool) (os : List ℕ) → length (map (λ c. Some c) (element_cells b e os)) ≡ length os
length_new b e os = length_somes (element_cells b e os) ∙ length_element b e os

-- ---- lists

pub drop_nil : (n : ℕ) → drop {A = Option Cell} n [] ≡ []
drop_nil zero = refl
drop_nil (suc n) = refl

pub drop_both : (n : ℕ) (xs ys : List (Option Cell)) → drop n (xs ++ ys) ≡ drop n xs ++ drop (n - length xs) ys
drop_both n [] ys = let e : n - 0 ≡ n = omega arith in rw (e, drop_nil n) refl
drop_both zero (x ∷ xs) ys = let e : 0 - suc (length xs) ≡ 0 = omega arith in rw e refl
drop_both (suc n) (x ∷ xs) ys = let e : suc n - suc (length xs) ≡ n - length xs = omega arith in
    rw e (drop_both n xs ys)

pub drop_gap : (n k : ℕ) → drop n (replicate {A = Option Cell} k None) ≡ replicate (k - n) None
drop_gap zero k = let e : k - 0 ≡ k = omega arith in rw e refl
drop_gap (suc n) zero = let e : 0 - suc n ≡ 0 = omega arith in rw e refl
drop_gap (suc n) (suc k) = let e : suc k - suc n ≡ k - n = omega arith in rw e (drop_gap n k)

-- ---- the places before the first that isn't held

pub lead_len : (cs : List (Option Cell)) → length (leading cs) ≤ length cs
lead_len [] = omega arith
lead_len (None ∷ cs) = omega arith
lead_len (Some c ∷ cs) = omega (arith, lead_len cs)

pub lead_somes : (cs : List Cell) (xs : List (Option Cell))
    → leading (map (λ c. Some c) cs ++ xs) ≡ map (λ c. Some c) cs ++ leading xs
lead_somes [] xs = refl
lead_somes (c ∷ cs) xs = ap (λ (os : List (Option Cell)). Some c ∷ os) (lead_somes cs xs)

pub lead_first : (cs : List (Option Cell)) (n : ℕ)
    → leb n (length (leading cs)) ≡ (leb n (length cs) && list_all is_some (take n cs))
lead_first cs zero = grind (arith, nat_tests)
lead_first [] (suc n) = refl_false (lt-leb (suc n) 0 (omega arith))
  where
    refl_false : leb (suc n) 0 ≡ false → leb (suc n) 0 ≡ (leb (suc n) 0 && true)
    refl_false e = rw e refl
lead_first (None ∷ cs) (suc n) = none (leb (suc n) (suc (length cs)))
  where
    none : (b : Bool) → leb (suc n) 0 ≡ (b && false)
    none true = lt-leb (suc n) 0 (omega arith)
    none false = lt-leb (suc n) 0 (omega arith)
lead_first (Some c ∷ cs) (suc n) =
    let less : leb (suc n) (suc (length (leading cs))) ≡ leb n (length (leading cs)) = grind (arith, nat_tests) in
    let fewer : leb (suc n) (suc (length cs)) ≡ leb n (length cs) = grind (arith, nat_tests) in
    rw (less, fewer) (lead_first cs n)

-- all from the first place on are held
pub leads_all : (cs : List (Option Cell)) (lead n : ℕ) → lead ≡ length (leading cs) → leb n lead ≡ holds cs 0 n
leads_all cs lead n is =
    let z : 0 + n ≡ n = omega arith in
    let e : n - 0 ≡ n = omega arith in
    rw (is, z, e) (lead_first cs n)

pub ruleset leads = (leads_all)

-- all from a place on
pub holds_reach : (cs : List (Option Cell)) (so n : ℕ)
    → (leb (so + n) (length cs) && leb (so + n) (so + length (leading (drop so cs)))) ≡ holds cs so n
holds_reach cs so n =
    let e : so + n - so ≡ n = omega arith in
    let less : leb (so + n) (so + length (leading (drop so cs))) ≡ leb n (length (leading (drop so cs))) =
    grind (arith, nat_tests) in
    rw (e, less, lead_first (drop so cs) n)
    (both (leb (so + n) (length cs)) (leb n (length (drop so cs))) (list_all is_some (take n (drop so cs)))
    (λ h. covers h))
  where
    covers : leb (so + n) (length cs) ≡ true → leb n (length (drop so cs)) ≡ true
    covers h = grind (arith, nat_tests, length-drop so cs)

    both : (a b c : Bool) → (a ≡ true → b ≡ true) → (a && (b && c)) ≡ (a && c)
    both false b c k = refl
    both true b c k = rw (k refl) refl

pub ruleset holding = (holds_reach)
