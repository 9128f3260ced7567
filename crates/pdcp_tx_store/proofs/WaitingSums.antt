-- Sums of lengths by what was submitted before, and what stands at a place.
use Rattle.std.proofs.Common.{◌≡◌, ◌≤◌, ℕ, suc, zero, ◌+◌, List, [], ◌∷◌, ◌++◌, length, drop, take, map, slice_get}
use Rattle.std.proofs.Common.{Option, Some, None, Bor, refl, ap, sym, ◌∙◌, arith}
use Rattle.std.specs.Prelude.{option_map, option_copied, MatchOption}
use Rattle.pdcp_tx_store.specs.declared.waiting.Waiting.{Waiting}
use Rattle.pdcp_tx_store.specs.Waiting.{waits, length_all, start_of, AreSummed}

pub start_more : (ws : List Waiting) (end new : ℕ) (w : Waiting) → w.before ≡ end
    → start_of (ws ++ w ∷ []) new ≡ start_of ws end
start_more [] end new w e = e
start_more (x ∷ xs) end new w e = refl

pub summed_more : (ws : List Waiting) (end new : ℕ) (w : Waiting) → AreSummed ws end → w.before ≡ end
    → end + length w.octets ≡ new → AreSummed (ws ++ w ∷ []) new
summed_more [] end new w h e f = (ap (λ (n : ℕ). n + length w.octets) e ∙ f, tt)
summed_more (x ∷ xs) end new w h e f = (h.0 ∙ sym (start_more xs end new w e), summed_more xs end new w h.1 e f)

pub start_first : (ws : List Waiting) (end k : ℕ) → AreSummed ws end
    → start_of (drop k ws) end ≡ start_of ws end + length_all (take k (map waits ws))
start_first [] end zero h = omega arith
start_first [] end (suc k) h = omega arith
start_first (w ∷ ws) end zero h = omega arith
start_first (w ∷ ws) end (suc k) h = let ih = start_first ws end k h.1 in
    let e : w.before + length w.octets ≡ start_of ws end = h.0 in omega arith

pub ruleset sums = (summed_more, start_first)

pub start_below : (ws : List Waiting) (end k : ℕ) → AreSummed ws end → start_of (drop k ws) end ≤ end
start_below [] end zero h = omega arith
start_below [] end (suc k) h = omega arith
start_below (w ∷ ws) end zero h = let e : w.before + length w.octets ≡ start_of ws end = h.0 in
    omega (arith, start_below ws end 0 h.1)
start_below (w ∷ ws) end (suc k) h = start_below ws end k h.1

pub sum_below : (ws : List Waiting) (end k : ℕ) → AreSummed ws end → length_all (take k (map waits ws)) ≤ end
sum_below ws end k h = omega (arith, start_first ws end k h, start_below ws end k h)

pub ruleset firsts = (start_first, sum_below)

-- the first that waits
pub first_waits : (r : Option (Bor Waiting)) (ws : List Waiting) → option_copied r ≡ slice_get ws 0
    → MatchOption r (map waits ws ≡ []) (λ w. slice_get (map waits ws) 0 ≡ Some (waits w.now))
first_waits None [] e = refl
first_waits None (w ∷ ws) e = cc
first_waits (Some b) [] e = cc
first_waits (Some b) (w ∷ ws) e = ap (λ o. option_map waits o) (sym e)

-- what was submitted before the one at a place, or in all
pub start_there : (ws : List Waiting) (at end : ℕ) (w : Waiting) → Some w ≡ slice_get ws at
    → w.before ≡ start_of (drop at ws) end
start_there [] at end w e = cc
start_there (x ∷ xs) zero end w e = let same : w ≡ x = cc in ap (λ (v : Waiting). v.before) same
start_there (x ∷ xs) (suc at) end w e = start_there xs at end w e

pub start_past : (ws : List Waiting) (at end : ℕ) → None ≡ slice_get ws at → end ≡ start_of (drop at ws) end
start_past [] zero end e = refl
start_past [] (suc at) end e = refl
start_past (x ∷ xs) zero end e = cc
start_past (x ∷ xs) (suc at) end e = start_past xs at end e

pub ruleset starts = (start_there, start_past)
