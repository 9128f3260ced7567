-- Elements laid beside what is held.
use Rattle.std.proofs.Common.{◌≡◌, ◌<◌, ◌≤◌, ℕ, suc, zero, ◌+◌, ◌-◌, Bool, true, false, List, [], ◌∷◌, ◌++◌, length}
use Rattle.std.proofs.Common.{take, drop, map, replicate, Option, Some, None, refl, ap, sym, ◌∙◌, arith, append_assoc}
use Rattle.std.proofs.Common.{length-append, length-drop}
use Rattle.std.proofs.lemmas.List.{append-nil, length-take, drop_all, take-append-drop}
use Rattle.rlc_am_rx_window.specs.Cells.{Cell, cell, over}
use Rattle.rlc_am_rx_window.specs.Piece.{element_cells}
use Rattle.rlc_am_rx_window.specs.Spread.{Stretched, cells_in, laid_on}
use Rattle.rlc_am_rx_window.proofs.CellLemmas.{over_nil, over_gap, over_end, over_held, somes, length_element}
use Rattle.rlc_am_rx_window.proofs.CellLemmas.{length_new, drop_nil, drop_both, drop_gap}
use Rattle.rlc_am_rx_window.proofs.SpreadLemmas.{length_gap, length_cells, length_behind}
use Rattle.rlc_am_rx_window.proofs.JoinLemmas.{element_from}

-- ---- new places in front of a stretch, and past it

over_before : (g : ℕ) (ns xs ms : List (Option Cell)) → length ns ≡ g
    → over (replicate g None ++ xs) (ns ++ ms) ≡ ns ++ over xs ms
over_before g ns xs ms h =
    let none : g - length ns ≡ 0 = omega (arith, h) in
    over_gap g xs ns ms (omega (arith, h)) ∙ rw none refl

-- with new places as far as a stretch's first octet, and others that go on
over_stretch : (s : Stretched) (ns xs ms : List (Option Cell)) → length ns ≡ s.gap
    → over (replicate s.gap None ++ (cells_in s ++ xs)) (ns ++ ms)
    ≡ ns ++ (cells_in s ++ over xs (drop (length s.octets) ms))
over_stretch s ns xs ms h =
    over_before s.gap ns (cells_in s ++ xs) ms h
    ∙ ap (λ (cs : List (Option Cell)). ns ++ cs) (over_held (element_cells s.begins s.ends s.octets) xs ms
    ∙ ap (λ (n : ℕ). cells_in s ++ over xs (drop n ms)) (length_element s.begins s.ends s.octets))

-- ---- going past places

pub skip_before : (ds xs ms : List (Option Cell)) (g k : ℕ) → k ≤ g
    → laid_on (ds ++ replicate k None) (replicate (g - k) None ++ xs) 0 ms
    ≡ laid_on ds (replicate g None ++ xs) 0 (replicate k None ++ ms)
skip_before ds xs ms g k h =
    append_assoc ds (replicate {A = Option Cell} k None) (over (replicate (g - k) None ++ xs) ms)
    ∙ ap (λ (cs : List (Option Cell)). ds ++ cs)
    (sym (over_gap g xs (replicate {A = Option Cell} k None) ms (omega (arith, length_gap k, h))
    ∙ ap (λ (n : ℕ). replicate k None ++ over (replicate (g - n) None ++ xs) ms) (length_gap k)))

pub skip_end : (ds ms : List (Option Cell)) (r k : ℕ)
    → laid_on (ds ++ replicate k None) (replicate (r - k) None) 0 ms
    ≡ laid_on ds (replicate r None) 0 (replicate k None ++ ms)
skip_end ds ms r k =
    append_assoc ds (replicate {A = Option Cell} k None) (over (replicate (r - k) None) ms)
    ∙ ap (λ (cs : List (Option Cell)). ds ++ cs)
    (sym (over_end r (replicate {A = Option Cell} k None) ms
    ∙ ap (λ (n : ℕ). replicate k None ++ over (replicate (r - n) None) ms) (length_gap k)))

gap_split : (g k : ℕ) (ms : List (Option Cell)) → g ≤ k
    → replicate k None ++ ms ≡ replicate g None ++ (replicate (k - g) None ++ ms)
gap_split zero k ms h = let e : k - 0 ≡ k = omega arith in rw e refl
gap_split (suc g) zero ms h = absurd (omega (arith, h))
gap_split (suc g) (suc k) ms h = let e : suc k - suc g ≡ k - g = omega arith in
    rw e (ap (λ (cs : List (Option Cell)). None ∷ cs) (gap_split g k ms (omega (arith, h))))

skip_stretch : (s : Stretched) (ds xs ms : List (Option Cell)) (k : ℕ) → s.gap ≤ k
    → laid_on ds (replicate s.gap None ++ (cells_in s ++ xs)) 0 (replicate k None ++ ms)
    ≡ (ds ++ (replicate s.gap None ++ cells_in s))
    ++ over xs (drop (length s.octets) (replicate (k - s.gap) None ++ ms))
skip_stretch s ds xs ms k h =
    ap (λ (cs : List (Option Cell)). ds ++ over (replicate s.gap None ++ (cells_in s ++ xs)) cs)
    (gap_split s.gap k ms h)
    ∙ ap (λ (cs : List (Option Cell)). ds ++ cs)
    (over_stretch s (replicate {A = Option Cell} s.gap None) xs (replicate (k - s.gap) None ++ ms) (length_gap s.gap)
    ∙ sym (append_assoc (replicate {A = Option Cell} s.gap None) (cells_in s)
    (over xs (drop (length s.octets) (replicate (k - s.gap) None ++ ms)))))
    ∙ sym (append_assoc ds (replicate s.gap None ++ cells_in s)
    (over xs (drop (length s.octets) (replicate (k - s.gap) None ++ ms))))

pub skip_in : (s : Stretched) (ds xs ms : List (Option Cell)) (k : ℕ) → s.gap ≤ k → k ≤ s.gap + length s.octets
    → laid_on (ds ++ (replicate s.gap None ++ cells_in s)) xs (s.gap + length s.octets - k) ms
    ≡ laid_on ds (replicate s.gap None ++ (cells_in s ++ xs)) 0 (replicate k None ++ ms)
skip_in s ds xs ms k h g =
    let none : k - s.gap - length s.octets ≡ 0 = omega (arith, g) in
    let left : length s.octets - (k - s.gap) ≡ s.gap + length s.octets - k = omega (arith, h) in
    sym (skip_stretch s ds xs ms k h
    ∙ ap (λ (cs : List (Option Cell)). (ds ++ (replicate s.gap None ++ cells_in s)) ++ over xs cs)
    (drop_both (length s.octets) (replicate {A = Option Cell} (k - s.gap) None) ms
    ∙ rw (drop_gap (length s.octets) (k - s.gap), none, length_gap (k - s.gap), left) refl))

pub skip_past : (s : Stretched) (ds xs ms : List (Option Cell)) (k : ℕ) → s.gap + length s.octets ≤ k
    → laid_on (ds ++ (replicate s.gap None ++ cells_in s)) xs 0 (replicate (k - (s.gap + length s.octets)) None ++ ms)
    ≡ laid_on ds (replicate s.gap None ++ (cells_in s ++ xs)) 0 (replicate k None ++ ms)
skip_past s ds xs ms k h =
    let left : k - s.gap - length s.octets ≡ k - (s.gap + length s.octets) = omega arith in
    let none : length s.octets - (k - s.gap) ≡ 0 = omega (arith, h) in
    sym (skip_stretch s ds xs ms k (omega (arith, h))
    ∙ ap (λ (cs : List (Option Cell)). (ds ++ (replicate s.gap None ++ cells_in s)) ++ over xs cs)
    (drop_both (length s.octets) (replicate {A = Option Cell} (k - s.gap) None) ms
    ∙ rw (drop_gap (length s.octets) (k - s.gap), left, length_gap (k - s.gap), none) refl))

-- ---- an element

pub lay_before : (ds xs ms : List (Option Cell)) (g : ℕ) (b e : Bool) (os : List ℕ) → length os ≤ g
    → laid_on (ds ++ map (λ c. Some c) (element_cells b e os)) (replicate (g - length os) None ++ xs) 0 ms
    ≡ laid_on ds (replicate g None ++ xs) 0 (map (λ c. Some c) (element_cells b e os) ++ ms)
lay_before ds xs ms g b e os h =
    append_assoc ds (map (λ c. Some c) (element_cells b e os)) (over (replicate (g - length os) None ++ xs) ms)
    ∙ ap (λ (cs : List (Option Cell)). ds ++ cs)
    (sym (over_gap g xs (map (λ c. Some c) (element_cells b e os)) ms (omega (arith, length_new b e os, h))
    ∙ ap (λ (n : ℕ). map (λ c. Some c) (element_cells b e os) ++ over (replicate (g - n) None ++ xs) ms)
    (length_new b e os)))

pub lay_end : (ds ms : List (Option Cell)) (r : ℕ) (b e : Bool) (os : List ℕ)
    → laid_on (ds ++ map (λ c. Some c) (element_cells b e os)) (replicate (r - length os) None) 0 ms
    ≡ laid_on ds (replicate r None) 0 (map (λ c. Some c) (element_cells b e os) ++ ms)
lay_end ds ms r b e os =
    append_assoc ds (map (λ c. Some c) (element_cells b e os)) (over (replicate (r - length os) None) ms)
    ∙ ap (λ (cs : List (Option Cell)). ds ++ cs)
    (sym (over_end r (map (λ c. Some c) (element_cells b e os)) ms
    ∙ ap (λ (n : ℕ). map (λ c. Some c) (element_cells b e os) ++ over (replicate (r - n) None) ms)
    (length_new b e os)))

element_append : (b e : Bool) (x : ℕ) (xs : List ℕ) (y : ℕ) (ys : List ℕ)
    → element_cells b e ((x ∷ xs) ++ y ∷ ys) ≡ element_cells b false (x ∷ xs) ++ element_cells false e (y ∷ ys)
element_append b e x [] y ys = refl
element_append b e x (z ∷ zs) y ys = ap (λ (cs : List Cell). cell x b false ∷ cs) (element_append false e z zs y ys)

-- whether an SDU begins with an element from one of its octets on
abbrev from_begins : Bool → ℕ → Bool
from_begins b zero = b
from_begins b (suc n) = false

-- an element in two parts
element_split : (b e : Bool) (n : ℕ) (os : List ℕ) → n < length os
    → element_cells b e os ≡ element_cells b false (take n os) ++ element_cells (from_begins b n) e (drop n os)
element_split b e zero os h = refl
element_split b e (suc n) [] h = absurd (omega (arith, h))
element_split b e (suc n) (o ∷ os) h = go (drop n os) refl
  where
    go : (ys : List ℕ) → drop n os ≡ ys → element_cells b e (o ∷ os)
        ≡ element_cells b false (o ∷ take n os) ++ element_cells false e (drop n os)
    go [] is = absurd (omega (arith, ap (λ (l : List ℕ). length l) is, length-drop n os, h))
    go (y ∷ ys) is =
        rw is (ap (λ (l : List ℕ). element_cells b e (o ∷ l)) (sym (take-append-drop n os) ∙ rw is refl)
        ∙ element_append b e o (take n os) y ys)

lay_stretch : (s : Stretched) (ds xs ms : List (Option Cell)) (b e : Bool) (os : List ℕ) → s.gap < length os
    → laid_on ds (replicate s.gap None ++ (cells_in s ++ xs)) 0 (map (λ c. Some c) (element_cells b e os) ++ ms)
    ≡ ((ds ++ map (λ c. Some c) (element_cells b false (take s.gap os))) ++ cells_in s)
    ++ over xs
    (drop (length s.octets) (map (λ c. Some c) (element_cells (from_begins b s.gap) e (drop s.gap os)) ++ ms))
lay_stretch s ds xs ms b e os h =
    let before = map (λ c. Some c) (element_cells b false (take s.gap os)) in
    let behind = map (λ c. Some c) (element_cells (from_begins b s.gap) e (drop s.gap os)) in
    let parts : map (λ c. Some c) (element_cells b e os) ++ ms ≡ before ++ (behind ++ ms) =
    ap (λ (cs : List Cell). map (λ c. Some c) cs ++ ms) (element_split b e s.gap os h)
    ∙ ap (λ (cs : List (Option Cell)). cs ++ ms)
    (somes (element_cells b false (take s.gap os)) (element_cells (from_begins b s.gap) e (drop s.gap os)))
    ∙ append_assoc before behind ms in
    let count : length before ≡ s.gap = omega (arith, length_new b false (take s.gap os), length-take s.gap os, h) in
    ap (λ (cs : List (Option Cell)). ds ++ over (replicate s.gap None ++ (cells_in s ++ xs)) cs) parts
    ∙ ap (λ (cs : List (Option Cell)). ds ++ cs) (over_stretch s before xs (behind ++ ms) count)
    ∙ sym (append_assoc (ds ++ before) (cells_in s) (over xs (drop (length s.octets) (behind ++ ms)))
    ∙ append_assoc ds before (cells_in s ++ over xs (drop (length s.octets) (behind ++ ms))))

-- the element ends in a stretch
pub lay_in : (s : Stretched) (ds xs ms : List (Option Cell)) (b e : Bool) (os : List ℕ) → s.gap < length os
    → length os - s.gap ≤ length s.octets
    → laid_on ((ds ++ map (λ c. Some c) (element_cells b false (take s.gap os))) ++ cells_in s) xs
    (length s.octets - (length os - s.gap)) ms
    ≡ laid_on ds (replicate s.gap None ++ (cells_in s ++ xs)) 0 (map (λ c. Some c) (element_cells b e os) ++ ms)
lay_in s ds xs ms b e os h g =
    let behind = map (λ c. Some c) (element_cells (from_begins b s.gap) e (drop s.gap os)) in
    let count : length behind ≡ length os - s.gap =
    omega (arith, length_new (from_begins b s.gap) e (drop s.gap os), length-drop s.gap os) in
    sym (lay_stretch s ds xs ms b e os h
    ∙ ap
    (λ (cs : List (Option Cell)). ((ds ++ map (λ c. Some c) (element_cells b false (take s.gap os))) ++ cells_in s)
    ++ over xs cs)
    (drop_both (length s.octets) behind ms
    ∙ rw (drop_all (length s.octets) behind (omega (arith, count, g)), count) refl))

-- it goes on behind it
pub lay_past : (s : Stretched) (ds xs ms : List (Option Cell)) (b e : Bool) (os : List ℕ) → 0 < length s.octets
    → s.gap < length os → length s.octets < length os - s.gap
    → laid_on ((ds ++ map (λ c. Some c) (element_cells b false (take s.gap os))) ++ cells_in s) xs 0
    (map (λ c. Some c) (element_cells false e (drop (length s.octets) (drop s.gap os))) ++ ms)
    ≡ laid_on ds (replicate s.gap None ++ (cells_in s ++ xs)) 0 (map (λ c. Some c) (element_cells b e os) ++ ms)
lay_past s ds xs ms b e os some h g =
    let behind = map (λ c. Some c) (element_cells (from_begins b s.gap) e (drop s.gap os)) in
    let count : length behind ≡ length os - s.gap =
    omega (arith, length_new (from_begins b s.gap) e (drop s.gap os), length-drop s.gap os) in
    let none : length s.octets - length behind ≡ 0 = omega (arith, count, g) in
    sym (lay_stretch s ds xs ms b e os h
    ∙ ap
    (λ (cs : List (Option Cell)). ((ds ++ map (λ c. Some c) (element_cells b false (take s.gap os))) ++ cells_in s)
    ++ over xs cs)
    (drop_both (length s.octets) behind ms
    ∙ rw (none, element_from (from_begins b s.gap) e (length s.octets) (drop s.gap os) some) refl))

-- octets that were passed
pub lay_passed : (b e : Bool) (n : ℕ) (os : List ℕ) (ms : List (Option Cell)) → length os ≤ n
    → drop (n - length os) ms ≡ drop n (map (λ c. Some c) (element_cells b e os) ++ ms)
lay_passed b e n os ms h =
    sym (drop_both n (map (λ c. Some c) (element_cells b e os)) ms
    ∙ rw (
      drop_all n (map (λ c. Some c) (element_cells b e os)) (omega (arith, length_new b e os, h)),
      length_new b e os,
    ) refl)

pub lay_some : (b e : Bool) (n : ℕ) (os : List ℕ) (ms : List (Option Cell)) → 0 < n → n < length os
    → map (λ c. Some c) (element_cells false e (drop n os)) ++ ms
    ≡ drop n (map (λ c. Some c) (element_cells b e os) ++ ms)
lay_some b e n os ms some h =
    let none : n - length (map (λ c. Some c) (element_cells b e os)) ≡ 0 = omega (arith, length_new b e os, h) in
    sym (drop_both n (map (λ c. Some c) (element_cells b e os)) ms ∙ rw (none, element_from b e n os some) refl)

pub lay_first : (n : ℕ) (cs : List (Option Cell)) → n ≡ 0 → drop n cs ≡ cs
lay_first n cs h = rw h refl

-- ---- at the end

pub laid_end : (ds xs : List (Option Cell)) (n : ℕ) → laid_on ds xs n [] ≡ ds ++ xs
laid_end ds xs n = rw (drop_nil n, over_nil xs) refl

pub skip_last : (ds rest ms : List (Option Cell)) (k : ℕ) → rest ≡ replicate (length rest) None
    → laid_on (ds ++ replicate k None) (replicate (length rest - k) None) 0 ms
    ≡ laid_on ds rest 0 (replicate k None ++ ms)
skip_last ds rest ms k is = skip_end ds ms (length rest) k
    ∙ ap (λ (xs : List (Option Cell)). laid_on ds xs 0 (replicate k None ++ ms)) (sym is)

pub lay_last : (ds rest ms : List (Option Cell)) (b e : Bool) (os : List ℕ) → rest ≡ replicate (length rest) None
    → laid_on (ds ++ map (λ c. Some c) (element_cells b e os)) (replicate (length rest - length os) None) 0 ms
    ≡ laid_on ds rest 0 (map (λ c. Some c) (element_cells b e os) ++ ms)
lay_last ds rest ms b e os is = lay_end ds ms (length rest) b e os
    ∙ ap (λ (xs : List (Option Cell)). laid_on ds xs 0 (map (λ c. Some c) (element_cells b e os) ++ ms)) (sym is)

pub ruleset skipping = (skip_before, skip_last, skip_in, skip_past)

pub ruleset laying = (lay_before, lay_last, lay_in, lay_past)

pub ruleset passing = (lay_passed, lay_some, lay_first)

pub ruleset finishing = (append_assoc, length-append, length_behind)
