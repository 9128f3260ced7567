-- Places behind the stretches that aren't held tell nothing.
use Rattle.std.proofs.Common.{◌≡◌, ◌≤◌, ℕ, suc, zero, ◌+◌, Bool, false, ◌||◌, List, [], ◌∷◌, ◌++◌, length, drop}
use Rattle.std.proofs.Common.{replicate, Option, Some, None, refl, ap, sym, ◌∙◌, arith, length-append, get_or}
use Rattle.rlc_am_rx_window.specs.Cells.{Cell, leading, edge_between, edge_behind, denies}
use Rattle.rlc_am_rx_window.specs.Spread.{Stretched, spread, ends_within}
use Rattle.rlc_am_rx_window.proofs.SpreadLemmas.{widens, lead_end}

tail_behind : (ss : List Stretched) (t : ℕ) → spread ss t ≡ spread ss 0 ++ replicate t None
tail_behind ss t = ap (λ (n : ℕ). spread ss n) (omega arith) ∙ widens ss 0 t

lead_tail : (xs : List (Option Cell)) (t n : ℕ) → leading (drop n (xs ++ replicate t None)) ≡ leading (drop n xs)
lead_tail [] t zero = lead_end t 0
lead_tail [] t (suc n) = lead_end t (suc n)
lead_tail (None ∷ xs) t zero = refl
lead_tail (Some c ∷ xs) t zero = ap (λ (cs : List (Option Cell)). Some c ∷ cs) (lead_tail xs t 0)
lead_tail (x ∷ xs) t (suc n) = lead_tail xs t n

pub leads_tail : (ss : List Stretched) (t n : ℕ) → leading (drop n (spread ss 0)) ≡ leading (drop n (spread ss t))
leads_tail ss t n =
    sym (ap (λ (cs : List (Option Cell)). leading (drop n cs)) (tail_behind ss t) ∙ lead_tail (spread ss 0) t n)

get_gap : (t k : ℕ) → get_or (replicate {A = Option Cell} t None) k None ≡ None
get_gap zero k = refl
get_gap (suc t) zero = refl
get_gap (suc t) (suc k) = get_gap t k

get_tail : (xs : List (Option Cell)) (t k : ℕ) → get_or (xs ++ replicate t None) k None ≡ get_or xs k None
get_tail [] t k = get_gap t k
get_tail (x ∷ xs) t zero = refl
get_tail (x ∷ xs) t (suc k) = get_tail xs t k

pub edge_tail : (ss : List Stretched) (t k : ℕ) → edge_behind (spread ss 0) k ≡ edge_behind (spread ss t) k
edge_tail ss t k =
    sym (ap (λ (cs : List (Option Cell)). edge_behind cs k) (tail_behind ss t)
    ∙ ap (λ (c : Option Cell). edge_between c (get_or (spread ss 0 ++ replicate t None) (k + 1) None))
    (get_tail (spread ss 0) t k)
    ∙ ap (λ (c : Option Cell). edge_between (get_or (spread ss 0) k None) c) (get_tail (spread ss 0) t (k + 1)))

within_gap : (t from to : ℕ) → ends_within (replicate t None) from to ≡ false
within_gap zero from to = refl
within_gap (suc t) from zero = refl
within_gap (suc zero) zero (suc to) = refl
within_gap (suc (suc t)) zero (suc to) = within_gap (suc t) zero to
within_gap (suc t) (suc from) (suc to) = within_gap t from to

within_tail : (xs : List (Option Cell)) (t from to : ℕ)
    → ends_within (xs ++ replicate t None) from to ≡ ends_within xs from to
within_tail [] t from to = within_gap t from to
within_tail (x ∷ xs) t from zero = refl
within_tail (x ∷ xs) t zero (suc to) =
    rw (get_tail xs t 0)
    (ap (λ (b : Bool). denies (edge_between x (get_or xs 0 None)) false || b) (within_tail xs t zero to))
within_tail (x ∷ xs) t (suc from) (suc to) = within_tail xs t from to

pub withins_tail : (ss : List Stretched) (t from to : ℕ)
    → ends_within (spread ss 0) from to ≡ ends_within (spread ss t) from to
withins_tail ss t from to =
    sym (ap (λ (cs : List (Option Cell)). ends_within cs from to) (tail_behind ss t)
    ∙ within_tail (spread ss 0) t from to)

pub few_tail : (ss : List Stretched) (t : ℕ) → length (spread ss 0) ≤ length (spread ss t)
few_tail ss t =
    omega (
      arith,
      ap (λ (cs : List (Option Cell)). length cs) (tail_behind ss t),
      length-append (spread ss 0) (replicate t None),
    )

pub ruleset tails = (leads_tail, edge_tail, withins_tail, few_tail)
