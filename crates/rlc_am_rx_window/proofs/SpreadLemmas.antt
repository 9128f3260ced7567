-- Stretches of octets, and the places that they make.
use Rattle.std.proofs.Common.{◌≡◌, ◌<◌, ◌≤◌, ℕ, suc, zero, ◌+◌, ◌-◌, List, [], ◌∷◌, ◌++◌, length, drop, map, replicate}
use Rattle.std.proofs.Common.{Option, Some, None, refl, ap, sym, ◌∙◌, arith, append_assoc, length-append, length-drop}
use Rattle.std.proofs.Common.{max}
use Rattle.std.proofs.lemmas.List.{append-nil}
use Rattle.std.proofs.Math.ListN.{length-replicate}
use Rattle.rlc_am_rx_window.specs.Cells.{Cell, leading}
use Rattle.rlc_am_rx_window.specs.Piece.{element_cells}
use Rattle.rlc_am_rx_window.specs.Spread.{Stretched, cells_in, spread}
use Rattle.rlc_am_rx_window.specs.Joined.{Joined, joined, broken}
use Rattle.rlc_am_rx_window.proofs.CellLemmas.{length_somes, length_element, drop_both, drop_gap, lead_len, lead_somes}
use Rattle.rlc_am_rx_window.proofs.JoinLemmas.{joined_append, joined_gap}

pub length_gap : (n : ℕ) → length (replicate {A = Option Cell} n None) ≡ n
length_gap n = length-replicate {A = Option Cell} n None

pub length_cells : (s : Stretched) → length (cells_in s) ≡ length s.octets
length_cells s = length_somes (element_cells s.begins s.ends s.octets) ∙ length_element s.begins s.ends s.octets

pub length_behind : (s : Stretched) (xs : List (Option Cell))
    → length (replicate s.gap None ++ (cells_in s ++ xs)) ≡ s.gap + length s.octets + length xs
length_behind s xs =
    omega (
      arith,
      length-append (replicate {A = Option Cell} s.gap None) (cells_in s ++ xs),
      length-append (cells_in s) xs,
      length_gap s.gap,
      length_cells s,
    )

pub length_spread : (s : Stretched) (ss : List Stretched) (t : ℕ)
    → length (spread (s ∷ ss) t) ≡ s.gap + length s.octets + length (spread ss t)
length_spread s ss t = length_behind s (spread ss t)

pub length_end : (t : ℕ) → length (spread [] t) ≡ t
length_end t = length_gap t

pub ruleset lengths = (length_spread, length_end)

-- ---- one more stretch

gap_parts : (g h : ℕ) (xs : List (Option Cell))
    → replicate (g + h) None ++ xs ≡ replicate g None ++ (replicate h None ++ xs)
gap_parts zero h xs = let e : 0 + h ≡ h = omega arith in rw e refl
gap_parts (suc g) h xs = let e : suc g + h ≡ suc (g + h) = omega arith in
    rw e (ap (λ (cs : List (Option Cell)). None ∷ cs) (gap_parts g h xs))

pub keeps : (ss : List Stretched) (s k : Stretched) (t : ℕ) → k ≡ record s { gap = t + s.gap }
    → spread (ss ++ k ∷ []) 0 ≡ spread ss t ++ (replicate s.gap None ++ cells_in s)
keeps [] s k t is =
    rw is (gap_parts t s.gap (cells_in s ++ [])
    ∙ ap (λ (cs : List (Option Cell)). replicate t None ++ (replicate s.gap None ++ cs)) (append-nil (cells_in s)))
keeps (r ∷ ss) s k t is =
    ap (λ (cs : List (Option Cell)). replicate r.gap None ++ (cells_in r ++ cs)) (keeps ss s k t is)
    ∙ ap (λ (cs : List (Option Cell)). replicate r.gap None ++ cs)
    (sym (append_assoc (cells_in r) (spread ss t) (replicate s.gap None ++ cells_in s)))
    ∙ sym (append_assoc (replicate {A = Option Cell} r.gap None) (cells_in r ++ spread ss t)
    (replicate s.gap None ++ cells_in s))

pub widens : (ss : List Stretched) (t n : ℕ) → spread ss (t + n) ≡ spread ss t ++ replicate n None
widens [] t n = ap (λ (k : ℕ). replicate k None) (omega arith)
    ∙ sym (append-nil (replicate {A = Option Cell} (t + n) None)) ∙ gap_parts t n []
    ∙ ap (λ (cs : List (Option Cell)). replicate t None ++ cs) (append-nil (replicate {A = Option Cell} n None))
widens (s ∷ ss) t n =
    ap (λ (cs : List (Option Cell)). replicate s.gap None ++ (cells_in s ++ cs)) (widens ss t n)
    ∙ ap (λ (cs : List (Option Cell)). replicate s.gap None ++ cs)
    (sym (append_assoc (cells_in s) (spread ss t) (replicate n None)))
    ∙ sym (append_assoc (replicate {A = Option Cell} s.gap None) (cells_in s ++ spread ss t) (replicate n None))

pub tail_few : (ss : List Stretched) (t : ℕ) → t ≤ length (spread ss t)
tail_few [] t = omega (arith, length_end t)
tail_few (s ∷ ss) t = omega (arith, length_spread s ss t, tail_few ss t)

pub keep_few : (ss : List Stretched) (s k : Stretched) (t : ℕ) → k ≡ record s { gap = t + s.gap }
    → length (spread (ss ++ k ∷ []) 0) ≡ length (spread ss t) + s.gap + length s.octets
keep_few ss s k t is =
    ap (λ (cs : List (Option Cell)). length cs) (keeps ss s k t is)
    ∙ omega (
      arith,
      length-append (spread ss t) (replicate s.gap None ++ cells_in s),
      length-append (replicate {A = Option Cell} s.gap None) (cells_in s),
      length_gap s.gap,
      length_cells s,
    )

pub ruleset keeping = (keeps, keep_few, tail_few)

pub widen_few : (ss : List Stretched) (t n : ℕ) → length (spread ss (t + n)) ≡ length (spread ss t) + n
widen_few ss t n = ap (λ (cs : List (Option Cell)). length cs) (widens ss t n)
    ∙ omega (arith, length-append (spread ss t) (replicate n None), length_gap n)

pub ruleset growing = (widens, widen_few, tail_few, length_spread, length_behind)

-- ---- from a place on

from_place : (s : Stretched) (xs : List (Option Cell)) (n : ℕ)
    → drop n (replicate s.gap None ++ (cells_in s ++ xs)) ≡ replicate (s.gap - n) None
    ++ (drop (n - s.gap) (cells_in s) ++ drop (n - (s.gap + length s.octets)) xs)
from_place s xs n =
    let past : n - s.gap - length s.octets ≡ n - (s.gap + length s.octets) = omega arith in
    drop_both n (replicate {A = Option Cell} s.gap None) (cells_in s ++ xs)
    ∙ rw (drop_gap n s.gap, length_gap s.gap, drop_both (n - s.gap) (cells_in s) xs, length_cells s, past) refl

leading_gap : (n : ℕ) (xs : List (Option Cell)) → 0 < n → leading (replicate n None ++ xs) ≡ []
leading_gap zero xs h = absurd (omega (arith, h))
leading_gap (suc n) xs h = refl

lead_dropped : (cs : List Cell) (n : ℕ) (xs : List (Option Cell))
    → leading (drop n (map (λ c. Some c) cs) ++ xs) ≡ drop n (map (λ c. Some c) cs) ++ leading xs
lead_dropped cs zero xs = lead_somes cs xs
lead_dropped [] (suc n) xs = refl
lead_dropped (c ∷ cs) (suc n) xs = lead_dropped cs n xs

pub lead_stop : (s : Stretched) (xs : List (Option Cell)) (n : ℕ) → n < s.gap
    → leading (drop n (replicate s.gap None ++ (cells_in s ++ xs))) ≡ []
lead_stop s xs n h = ap (λ (cs : List (Option Cell)). leading cs) (from_place s xs n)
    ∙ leading_gap (s.gap - n) (drop (n - s.gap) (cells_in s) ++ drop (n - (s.gap + length s.octets)) xs)
    (omega (arith, h))

pub lead_on : (s : Stretched) (xs : List (Option Cell)) (n : ℕ) → s.gap ≤ n
    → leading (drop n (replicate s.gap None ++ (cells_in s ++ xs)))
    ≡ drop (n - s.gap) (cells_in s) ++ leading (drop (n - (s.gap + length s.octets)) xs)
lead_on s xs n h =
    let none : s.gap - n ≡ 0 = omega (arith, h) in
    ap (λ (cs : List (Option Cell)). leading cs) (from_place s xs n)
    ∙ rw none (lead_dropped (element_cells s.begins s.ends s.octets) (n - s.gap)
    (drop (n - (s.gap + length s.octets)) xs))

pub lead_end : (t n : ℕ) → leading (drop n (spread [] t)) ≡ []
lead_end t n = ap (λ (cs : List (Option Cell)). leading cs) (drop_gap n t) ∙ go (t - n)
  where
    go : (k : ℕ) → leading (replicate k None) ≡ []
    go zero = refl
    go (suc k) = refl

pub reach_on : (s : Stretched) (ss : List Stretched) (t n : ℕ) → s.gap ≤ n
    → length (leading (drop n (spread (s ∷ ss) t))) ≡ s.gap + length s.octets - n
    + length (leading (drop (n - (s.gap + length s.octets)) (spread ss t)))
reach_on s ss t n h =
    let held : length (drop (n - s.gap) (cells_in s)) ≡ s.gap + length s.octets - n =
    omega (arith, length-drop (n - s.gap) (cells_in s), length_cells s, h) in
    ap (λ (cs : List (Option Cell)). length cs) (lead_on s (spread ss t) n h)
    ∙ length-append (drop (n - s.gap) (cells_in s)) (leading (drop (n - (s.gap + length s.octets)) (spread ss t)))
    ∙ ap (λ (k : ℕ). k + length (leading (drop (n - (s.gap + length s.octets)) (spread ss t)))) held

pub reach_stop : (s : Stretched) (ss : List Stretched) (t n : ℕ) → n < s.gap
    → length (leading (drop n (spread (s ∷ ss) t))) ≡ 0
reach_stop s ss t n h = ap (λ (cs : List (Option Cell)). length cs) (lead_stop s (spread ss t) n h)

pub reach_end : (t n : ℕ) → length (leading (drop n (spread [] t))) ≡ 0
reach_end t n = ap (λ (cs : List (Option Cell)). length cs) (lead_end t n)

pub reach_few : (cs : List (Option Cell)) (from : ℕ) → from + length (leading (drop from cs)) ≤ max from (length cs)
reach_few cs from = omega (arith, lead_len (drop from cs), length-drop from cs)

pub ruleset reaching = (reach_on, reach_stop, reach_end, reach_few, length_spread)

-- ---- handing on

pub give_stop : (j : Joined) (s : Stretched) (xs : List (Option Cell)) (n : ℕ) → n < s.gap
    → j ≡ joined j (leading (drop n (replicate s.gap None ++ (cells_in s ++ xs))))
give_stop j s xs n h = rw (lead_stop s xs n h) refl

pub give_on : (j k : Joined) (s : Stretched) (xs : List (Option Cell)) (n : ℕ) → s.gap ≤ n
    → k ≡ joined j (drop (n - s.gap) (cells_in s))
    → joined k (leading (drop (n - (s.gap + length s.octets)) xs))
    ≡ joined j (leading (drop n (replicate s.gap None ++ (cells_in s ++ xs))))
give_on j k s xs n h is =
    rw (is, lead_on s xs n h)
    (sym (joined_append j (drop (n - s.gap) (cells_in s)) (leading (drop (n - (s.gap + length s.octets)) xs))))

pub give_end : (j : Joined) (t n : ℕ) → j ≡ joined j (leading (drop n (spread [] t)))
give_end j t n = rw (lead_end t n) refl

pub ruleset giving = (give_stop, give_on, give_end, length_spread)

-- ---- salvaging

pub salvage_behind : (j k : Joined) (s : Stretched) (xs : List (Option Cell)) (n : ℕ) → n < s.gap
    → k ≡ joined (broken j) (drop (n - s.gap) (cells_in s))
    → joined k (drop (n - (s.gap + length s.octets)) xs)
    ≡ joined j (drop n (replicate s.gap None ++ (cells_in s ++ xs)))
salvage_behind j k s xs n h is =
    rw (is, from_place s xs n)
    (sym (joined_append (broken j) (drop (n - s.gap) (cells_in s)) (drop (n - (s.gap + length s.octets)) xs))
    ∙ sym (joined_gap j (s.gap - n) (drop (n - s.gap) (cells_in s) ++ drop (n - (s.gap + length s.octets)) xs)
    (omega (arith, h))))

pub salvage_on : (j k : Joined) (s : Stretched) (xs : List (Option Cell)) (n : ℕ) → s.gap ≤ n
    → k ≡ joined j (drop (n - s.gap) (cells_in s))
    → joined k (drop (n - (s.gap + length s.octets)) xs)
    ≡ joined j (drop n (replicate s.gap None ++ (cells_in s ++ xs)))
salvage_on j k s xs n h is =
    let none : s.gap - n ≡ 0 = omega (arith, h) in
    rw (is, from_place s xs n, none)
    (sym (joined_append j (drop (n - s.gap) (cells_in s)) (drop (n - (s.gap + length s.octets)) xs)))

pub salvage_gap : (j : Joined) (ss : List Stretched) (t n : ℕ) → length ss ≡ 0 → n < t
    → broken j ≡ joined j (drop n (spread ss t))
salvage_gap j [] t n none h =
    rw (drop_gap n t) (sym (joined_gap j (t - n) [] (omega (arith, h)))
    ∙ ap (λ (cs : List (Option Cell)). joined j cs) (append-nil (replicate {A = Option Cell} (t - n) None)))
salvage_gap j (s ∷ ss) t n none h = absurd (omega (arith, none))

pub salvage_end : (j : Joined) (t n : ℕ) → t ≤ n → j ≡ joined j (drop n (spread [] t))
salvage_end j t n h = let none : t - n ≡ 0 = omega (arith, h) in rw (drop_gap n t, none) refl

pub ruleset salvaging = (salvage_behind, salvage_on, salvage_gap, salvage_end, length_spread)

-- ---- taking a stretch

pub pop_none : (t : ℕ) → replicate {A = Option Cell} t None
    ≡ replicate (length (replicate {A = Option Cell} t None)) None
pop_none t = ap (λ (n : ℕ). replicate n None) (sym (length_gap t))

pub pop_few : (s : Stretched) (ss : List Stretched) (t : ℕ) → length (spread ss t) ≤ length (spread (s ∷ ss) t)
pop_few s ss t = omega (arith, length_spread s ss t)

pub ruleset taking = (pop_none, pop_few, length_spread)

pub hand_end : (j : Joined) (cs : List (Option Cell)) (n : ℕ) → cs ≡ replicate (length cs) None
    → j ≡ joined j (leading (drop n cs))
hand_end j cs n is = give_end j (length cs) n
    ∙ ap (λ (ds : List (Option Cell)). joined j (leading (drop n ds))) (sym is)

pub ruleset handing = (give_stop, give_on, hand_end, length_behind)
