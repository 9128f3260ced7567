-- Where SDUs end between the places of stretches.
use Rattle.std.proofs.Common.{◌≡◌, ◌<◌, ◌≤◌, ℕ, suc, zero, ◌+◌, ◌-◌, Bool, true, false, ◌||◌, ◌&&◌, ◌==◌, List, [], ◌∷◌}
use Rattle.std.proofs.Common.{◌++◌, length, map, replicate, Option, Some, None, refl, ap, sym, ◌∙◌, arith, get_or, leb}
use Rattle.std.proofs.Common.{ltb}
use Rattle.std.proofs.lemmas.Bool.{lt-ltb, le-leb, le-ltb, lt-leb}
use Rattle.std.proofs.lemmas.Bool.Decides.{nat_tests}
use Rattle.rlc_am_rx_window.specs.Cells.{Cell, edge_between, edge_behind, differ, denies, ends_otherwise}
use Rattle.rlc_am_rx_window.specs.Piece.{element_cells}
use Rattle.rlc_am_rx_window.specs.Spread.{Stretched, cells_in, spread, ends_within}
use Rattle.rlc_am_rx_window.proofs.SpreadLemmas.{length_gap, length_cells, length_spread}
use Rattle.rlc_am_rx_window.proofs.TailLemmas.{withins_tail, few_tail}

-- the boundary behind a place
abbrev edge : List (Option Cell) → ℕ → Option Bool
edge cs k = edge_between (get_or cs k None) (get_or cs (suc k) None)

edge_is : (cs : List (Option Cell)) (k : ℕ) → edge_behind cs k ≡ edge cs k
edge_is cs k = let e : k + 1 ≡ suc k = omega arith in rw e refl

edge_over : (xs ys : List (Option Cell)) (k : ℕ) → length xs ≤ k → edge (xs ++ ys) k ≡ edge ys (k - length xs)
edge_over [] ys k h = let e : k - 0 ≡ k = omega arith in rw e refl
edge_over (x ∷ xs) ys zero h = absurd (omega (arith, h))
edge_over (x ∷ xs) ys (suc k) h = let e : suc k - suc (length xs) ≡ k - length xs = omega arith in
    rw e (edge_over xs ys k (omega (arith, h)))

edge_gap : (g k : ℕ) (c : Cell) (xs : List (Option Cell)) → suc k < g → edge (replicate g None ++ Some c ∷ xs) k ≡ None
edge_gap zero k c xs h = absurd (omega (arith, h))
edge_gap (suc zero) k c xs h = absurd (omega (arith, h))
edge_gap (suc (suc g)) zero c xs h = refl
edge_gap (suc (suc g)) (suc k) c xs h = edge_gap (suc g) k c xs (omega (arith, h))

edge_before : (g k : ℕ) (c : Cell) (xs : List (Option Cell)) → suc k ≡ g
    → edge (replicate g None ++ Some c ∷ xs) k ≡ Some c.begins
edge_before zero k c xs h = absurd (omega (arith, h))
edge_before (suc zero) zero c xs h = refl
edge_before (suc zero) (suc k) c xs h = absurd (omega (arith, h))
edge_before (suc (suc g)) zero c xs h = absurd (omega (arith, h))
edge_before (suc (suc g)) (suc k) c xs h = edge_before (suc g) k c xs (omega (arith, h))

edge_inside : (b e : Bool) (os : List ℕ) (xs : List (Option Cell)) (k : ℕ) → k < length os
    → edge (map (λ c. Some c) (element_cells b e os) ++ xs) k ≡ Some (e && (suc k == length os))
edge_inside b e [] xs k h = absurd (omega (arith, h))
edge_inside b true (o ∷ []) xs zero h = refl
edge_inside b false (o ∷ []) xs zero h = refl
edge_inside b e (o ∷ []) xs (suc k) h = absurd (omega (arith, h))
edge_inside b true (o ∷ p ∷ os) xs zero h = let more : (1 == suc (suc (length os))) ≡ false =
    grind (arith, nat_tests) in rw more refl
edge_inside b false (o ∷ p ∷ os) xs zero h = refl
edge_inside b e (o ∷ p ∷ os) xs (suc k) h =
    let same : (suc (suc k) == suc (suc (length os))) ≡ (suc k == suc (length os)) = grind (arith, nat_tests) in
    rw same (edge_inside false e (p ∷ os) xs k (omega (arith, h)))

edge_none : (t k : ℕ) → edge (replicate t None) k ≡ None
edge_none zero k = refl
edge_none (suc zero) zero = refl
edge_none (suc (suc t)) zero = refl
edge_none (suc t) (suc k) = edge_none t k

-- a stretch begins with its first octet
first_cell : (s : Stretched) (xs : List (Option Cell)) → 0 < length s.octets → (P : List (Option Cell) → Type 0)
    → ((o : ℕ) (e : Bool) (ys : List (Option Cell))
    → P (Some (record { octet = o; begins = s.begins; ends = e }) ∷ ys)) → P (cells_in s ++ xs)
first_cell s xs h P k = go s.octets h
  where
    go : (os : List ℕ) → 0 < length os → P (map (λ c. Some c) (element_cells s.begins s.ends os) ++ xs)
    go [] h = absurd (omega (arith, h))
    go (o ∷ []) h = k o s.ends xs
    go (o ∷ p ∷ os) h = k o false (map (λ c. Some c) (element_cells false s.ends (p ∷ os)) ++ xs)

pub behind_gap : (s : Stretched) (ss : List Stretched) (t k : ℕ) → 0 < length s.octets → k < s.gap
    → (k + 1 == s.gap) ≡ false → None ≡ edge_behind (spread (s ∷ ss) t) k
behind_gap s ss t k h g differs =
    let less : suc k < s.gap = grind (arith, nat_tests) in
    sym (edge_is (spread (s ∷ ss) t) k
    ∙ first_cell s (spread ss t) h (λ (cs : List (Option Cell)). edge (replicate s.gap None ++ cs) k ≡ None)
    (λ o e ys. edge_gap s.gap k (record { octet = o; begins = s.begins; ends = e }) ys less))

pub behind_last : (s : Stretched) (ss : List Stretched) (t k : ℕ) → 0 < length s.octets → k + 1 ≡ s.gap
    → Some s.begins ≡ edge_behind (spread (s ∷ ss) t) k
behind_last s ss t k h is =
    sym (edge_is (spread (s ∷ ss) t) k
    ∙ first_cell s (spread ss t) h (λ (cs : List (Option Cell)). edge (replicate s.gap None ++ cs) k
    ≡ Some s.begins) (λ o e ys. edge_before s.gap k (record { octet = o; begins = s.begins; ends = e }) ys
    (omega (arith, is))))

pub behind_octet : (s : Stretched) (ss : List Stretched) (t k : ℕ) → s.gap ≤ k → k < s.gap + length s.octets
    → Some (s.ends && (k + 1 == s.gap + length s.octets)) ≡ edge_behind (spread (s ∷ ss) t) k
behind_octet s ss t k h g =
    let same : (k + 1 == s.gap + length s.octets) ≡ (suc (k - s.gap) == length s.octets) = grind (arith, nat_tests) in
    sym (edge_is (spread (s ∷ ss) t) k
    ∙ edge_over (replicate {A = Option Cell} s.gap None) (cells_in s ++ spread ss t) k
    (omega (arith, length_gap s.gap, h))
    ∙ ap (λ (i : ℕ). edge (cells_in s ++ spread ss t) (k - i)) (length_gap s.gap)
    ∙ edge_inside s.begins s.ends s.octets (spread ss t) (k - s.gap) (omega (arith, h, g))
    ∙ ap (λ (b : Bool). Some (s.ends && b)) (sym same))

pub behind_past : (s : Stretched) (ss : List Stretched) (t k : ℕ) → s.gap + length s.octets ≤ k
    → edge_behind (spread (s ∷ ss) t) k ≡ edge_behind (spread ss t) (k - (s.gap + length s.octets))
behind_past s ss t k h =
    let past : k - s.gap - length s.octets ≡ k - (s.gap + length s.octets) = omega arith in
    edge_is (spread (s ∷ ss) t) k
    ∙ edge_over (replicate {A = Option Cell} s.gap None) (cells_in s ++ spread ss t) k
    (omega (arith, length_gap s.gap, h))
    ∙ ap (λ (i : ℕ). edge (cells_in s ++ spread ss t) (k - i)) (length_gap s.gap)
    ∙ edge_over (cells_in s) (spread ss t) (k - s.gap) (omega (arith, length_cells s, h))
    ∙ ap (λ (i : ℕ). edge (spread ss t) (k - s.gap - i)) (length_cells s)
    ∙ ap (λ (i : ℕ). edge (spread ss t) i) past
    ∙ sym (edge_is (spread ss t) (k - (s.gap + length s.octets)))

pub behind_none : (t k : ℕ) → None ≡ edge_behind (spread [] t) k
behind_none t k = sym (edge_is (replicate t None) k ∙ edge_none t k)

pub ruleset edges = (behind_gap, behind_last, behind_octet, behind_past, behind_none, length_spread)

-- ---- inside an element

within_zero : (cs : List (Option Cell)) (from to : ℕ) → to ≡ 0 → ends_within cs from to ≡ false
within_zero [] from to h = refl
within_zero (c ∷ cs) from zero h = refl
within_zero (c ∷ cs) from (suc to) h = absurd (omega (arith, h))

-- a place lies at or above one and is the last below another
near : ℕ → ℕ → ℕ → Bool
near k from to = ltb from k && leb k to

near_none : (from to : ℕ) → near 0 from to ≡ false
unfolding near
near_none from to = let none : ltb from 0 ≡ false = grind (arith, nat_tests) in rw none refl

near_past : (k from to : ℕ) → to < k → near k from to ≡ false
unfolding near
near_past k from to h = let none : leb k to ≡ false = lt-leb k to h in rw none (go (ltb from k))
  where
    go : (b : Bool) → (b && false) ≡ false
    go true = refl
    go false = refl

near_behind : (k from to : ℕ) → k ≤ from → near k from to ≡ false
unfolding near
near_behind k from to h = let none : ltb from k ≡ false = le-ltb from k h in rw none refl

near_in : (k from to : ℕ) → from < k → k ≤ to → near k from to ≡ true
unfolding near
near_in k from to h g = let one : ltb from k ≡ true = lt-ltb from k h in let two : leb k to ≡ true = le-leb k to g in
    rw (one, two) refl

near_same : (j k from to upon onto : ℕ) → ltb from j ≡ ltb upon k → leb j to ≡ leb k onto
    → near j from to ≡ near k upon onto
unfolding near
near_same j k from to upon onto h g = rw (h, g) refl

near_suc : (k from to : ℕ) → near (suc k) (suc from) (suc to) ≡ near k from to
near_suc k from to =
    near_same (suc k) k (suc from) (suc to) from to (grind (arith, nat_tests)) (grind (arith, nat_tests))

near_start : (k to : ℕ) → near (suc (suc k)) 0 (suc to) ≡ near (suc k) 0 to
near_start k to =
    near_same (suc (suc k)) (suc k) 0 (suc to) 0 to (lt-ltb 0 (suc (suc k)) (omega arith)
    ∙ sym (lt-ltb 0 (suc k) (omega arith))) (grind (arith, nat_tests))

and_off : (a b : Bool) → b ≡ false → (a && b) ≡ false
and_off true b h = h
and_off false b h = refl

and_on : (a b : Bool) → b ≡ true → (a && b) ≡ a
and_on true b h = h
and_on false b h = refl

differs_as : (b : Bool) → differ b false ≡ b
differs_as true = refl
differs_as false = refl

within_gap : (g from to : ℕ) (c : Cell) (xs : List (Option Cell))
    → ends_within (replicate g None ++ Some c ∷ xs) from to
    ≡ (c.begins && near g from to || ends_within (Some c ∷ xs) (from - g) (to - g))
within_gap zero from to c xs =
    let a : from - 0 ≡ from = omega arith in
    let b : to - 0 ≡ to = omega arith in
    sym (ap (λ (q : Bool). q || ends_within (Some c ∷ xs) from to)
    (and_off c.begins (near 0 from to) (near_none from to)))
    ∙ ap (λ (i : ℕ). c.begins && near 0 from to || ends_within (Some c ∷ xs) i to) (sym a)
    ∙ ap (λ (k : ℕ). c.begins && near 0 from to || ends_within (Some c ∷ xs) (from - 0) k) (sym b)
within_gap (suc g) from zero c xs =
    sym (ap (λ (q : Bool). q || ends_within (Some c ∷ xs) (from - suc g) (0 - suc g))
    (and_off c.begins (near (suc g) from 0) (near_past (suc g) from 0 (omega arith)))
    ∙ within_zero (Some c ∷ xs) (from - suc g) (0 - suc g) (omega arith))
within_gap (suc zero) zero (suc to) c xs =
    let a : suc to - 1 ≡ to = omega arith in
    ap (λ (q : Bool). q || ends_within (Some c ∷ xs) 0 to) (differs_as c.begins
    ∙ sym (and_on c.begins (near 1 0 (suc to)) (near_in 1 0 (suc to) (omega arith) (omega arith))))
    ∙ ap (λ (k : ℕ). c.begins && near 1 0 (suc to) || ends_within (Some c ∷ xs) 0 k) (sym a)
within_gap (suc (suc g)) zero (suc to) c xs =
    let a : to - suc g ≡ suc to - suc (suc g) = omega arith in
    let n : 0 - suc g ≡ 0 - suc (suc g) = omega arith in
    within_gap (suc g) zero to c xs
    ∙ ap (λ (q : Bool). c.begins && q || ends_within (Some c ∷ xs) (0 - suc g) (to - suc g)) (sym (near_start g to))
    ∙ ap (λ (k : ℕ). c.begins && near (suc (suc g)) 0 (suc to) || ends_within (Some c ∷ xs) k (to - suc g)) n
    ∙ ap (λ (k : ℕ). c.begins && near (suc (suc g)) 0 (suc to) || ends_within (Some c ∷ xs) (0 - suc (suc g)) k) a
within_gap (suc g) (suc from) (suc to) c xs =
    let a : to - g ≡ suc to - suc g = omega arith in
    let n : from - g ≡ suc from - suc g = omega arith in
    within_gap g from to c xs
    ∙ ap (λ (q : Bool). c.begins && q || ends_within (Some c ∷ xs) (from - g) (to - g)) (sym (near_suc g from to))
    ∙ ap (λ (k : ℕ). c.begins && near (suc g) (suc from) (suc to) || ends_within (Some c ∷ xs) k (to - g)) n
    ∙ ap (λ (k : ℕ). c.begins && near (suc g) (suc from) (suc to) || ends_within (Some c ∷ xs) (suc from - suc g) k) a

within_held : (b e : Bool) (os : List ℕ) (xs : List (Option Cell)) (from to : ℕ)
    → ends_within (map (λ c. Some c) (element_cells b e os) ++ xs) from to
    ≡ (e && near (length os) from to || ends_within xs (from - length os) (to - length os))
within_held b e [] xs from to =
    let a : from - 0 ≡ from = omega arith in
    let n : to - 0 ≡ to = omega arith in
    sym (ap (λ (q : Bool). q || ends_within xs from to) (and_off e (near 0 from to) (near_none from to)))
    ∙ ap (λ (i : ℕ). e && near 0 from to || ends_within xs i to) (sym a)
    ∙ ap (λ (k : ℕ). e && near 0 from to || ends_within xs (from - 0) k) (sym n)
within_held b e (o ∷ os) xs from zero =
    within_zero (map (λ c. Some c) (element_cells b e (o ∷ os)) ++ xs) from 0 refl
    ∙ sym (ap (λ (q : Bool). q || ends_within xs (from - suc (length os)) (0 - suc (length os)))
    (and_off e (near (suc (length os)) from 0) (near_past (suc (length os)) from 0 (omega arith)))
    ∙ within_zero xs (from - suc (length os)) (0 - suc (length os)) (omega arith))
within_held b e (o ∷ []) xs zero (suc to) =
    let a : suc to - 1 ≡ to = omega arith in
    ap (λ (q : Bool). q || ends_within xs 0 to) (differs_as e
    ∙ sym (and_on e (near 1 0 (suc to)) (near_in 1 0 (suc to) (omega arith) (omega arith))))
    ∙ ap (λ (k : ℕ). e && near 1 0 (suc to) || ends_within xs 0 k) (sym a)
within_held b e (o ∷ []) xs (suc from) (suc to) =
    let a : to ≡ suc to - 1 = omega arith in
    let n : from ≡ suc from - 1 = omega arith in
    sym (ap (λ (q : Bool). q || ends_within xs from to)
    (and_off e (near 1 (suc from) (suc to)) (near_behind 1 (suc from) (suc to) (omega arith))))
    ∙ ap (λ (k : ℕ). e && near 1 (suc from) (suc to) || ends_within xs k to) n
    ∙ ap (λ (k : ℕ). e && near 1 (suc from) (suc to) || ends_within xs (suc from - 1) k) a
within_held b e (o ∷ p ∷ os) xs zero (suc to) =
    let a : to - suc (length os) ≡ suc to - suc (suc (length os)) = omega arith in
    let n : 0 - suc (length os) ≡ 0 - suc (suc (length os)) = omega arith in
    within_held false e (p ∷ os) xs zero to
    ∙ ap (λ (q : Bool). e && q || ends_within xs (0 - suc (length os)) (to - suc (length os)))
    (sym (near_start (length os) to))
    ∙ ap (λ (k : ℕ). e && near (suc (suc (length os))) 0 (suc to) || ends_within xs k (to - suc (length os))) n
    ∙ ap (λ (k : ℕ). e && near (suc (suc (length os))) 0 (suc to) || ends_within xs (0 - suc (suc (length os))) k) a
within_held b e (o ∷ p ∷ os) xs (suc from) (suc to) =
    let a : to - suc (length os) ≡ suc to - suc (suc (length os)) = omega arith in
    let n : from - suc (length os) ≡ suc from - suc (suc (length os)) = omega arith in
    within_held false e (p ∷ os) xs from to
    ∙ ap (λ (q : Bool). e && q || ends_within xs (from - suc (length os)) (to - suc (length os)))
    (sym (near_suc (suc (length os)) from to))
    ∙ ap (λ (k : ℕ). e && near (suc (suc (length os))) (suc from) (suc to) || ends_within xs k (to - suc (length os))) n
    ∙ ap (λ (k : ℕ). e && near (suc (suc (length os))) (suc from) (suc to)
    || ends_within xs (suc from - suc (suc (length os))) k) a

within_step : (s : Stretched) (ss : List Stretched) (t from to : ℕ) → 0 < length s.octets
    → ends_within (spread (s ∷ ss) t) from to
    ≡ ((s.begins && near s.gap from to || s.ends && near (s.gap + length s.octets) from to)
    || ends_within (spread ss t) (from - (s.gap + length s.octets)) (to - (s.gap + length s.octets)))
within_step s ss t from to h =
    let same : near (length s.octets) (from - s.gap) (to - s.gap) ≡ near (s.gap + length s.octets) from to =
    near_same (length s.octets) (s.gap + length s.octets) (from - s.gap) (to - s.gap) from to
    (grind (arith, nat_tests, h)) (grind (arith, nat_tests, h)) in
    let a : from - s.gap - length s.octets ≡ from - (s.gap + length s.octets) = omega arith in
    let n : to - s.gap - length s.octets ≡ to - (s.gap + length s.octets) = omega arith in
    first_cell s (spread ss t) h (λ (cs : List (Option Cell)). ends_within (replicate s.gap None ++ cs) from to
    ≡ (s.begins && near s.gap from to || ends_within cs (from - s.gap) (to - s.gap)))
    (λ o e ys. within_gap s.gap from to (record { octet = o; begins = s.begins; ends = e }) ys)
    ∙ ap (λ (q : Bool). s.begins && near s.gap from to || q)
    (within_held s.begins s.ends s.octets (spread ss t) (from - s.gap) (to - s.gap))
    ∙ ap (λ (q : Bool). s.begins && near s.gap from to
    || (s.ends && q || ends_within (spread ss t) (from - s.gap - length s.octets) (to - s.gap - length s.octets)))
    same
    ∙ ap (λ (k : ℕ). s.begins && near s.gap from to
    || (s.ends && near (s.gap + length s.octets) from to
    || ends_within (spread ss t) k (to - s.gap - length s.octets))) a
    ∙ ap (λ (k : ℕ). s.begins && near s.gap from to
    || (s.ends && near (s.gap + length s.octets) from to
    || ends_within (spread ss t) (from - (s.gap + length s.octets)) k)) n
    ∙ sym (or_assoc (s.begins && near s.gap from to) (s.ends && near (s.gap + length s.octets) from to)
    (ends_within (spread ss t) (from - (s.gap + length s.octets)) (to - (s.gap + length s.octets))))
  where
    or_assoc : (a b c : Bool) → ((a || b) || c) ≡ (a || (b || c))
    or_assoc true b c = refl
    or_assoc false b c = refl

either_is : (b e : Bool) (g n from to : ℕ)
    → (b && near g from to || e && near n from to) ≡ (b && (ltb from g && leb g to) || e && (ltb from n && leb n to))
unfolding near
either_is b e g n from to = refl

pub within_yes : (s : Stretched) (ss : List Stretched) (t from to : ℕ) → 0 < length s.octets
    → (s.begins && (ltb from s.gap && leb s.gap to) || s.ends
    && (ltb from (s.gap + length s.octets) && leb (s.gap + length s.octets) to)) ≡ true
    → true ≡ ends_within (spread (s ∷ ss) t) from to
within_yes s ss t from to h is =
    sym (within_step s ss t from to h
    ∙ ap (λ (q : Bool). q || ends_within (spread ss t) (from - (s.gap + length s.octets))
    (to - (s.gap + length s.octets))) (either_is s.begins s.ends s.gap (s.gap + length s.octets) from to ∙ is))

pub within_no : (s : Stretched) (ss : List Stretched) (t from to : ℕ) → 0 < length s.octets
    → (s.begins && (ltb from s.gap && leb s.gap to) || s.ends
    && (ltb from (s.gap + length s.octets) && leb (s.gap + length s.octets) to)) ≡ false
    → ends_within (spread ss t) (from - (s.gap + length s.octets)) (to - (s.gap + length s.octets))
    ≡ ends_within (spread (s ∷ ss) t) from to
within_no s ss t from to h is =
    sym (within_step s ss t from to h
    ∙ ap (λ (q : Bool). q || ends_within (spread ss t) (from - (s.gap + length s.octets))
    (to - (s.gap + length s.octets))) (either_is s.begins s.ends s.gap (s.gap + length s.octets) from to ∙ is))

pub within_none : (t from to : ℕ) → false ≡ ends_within (spread [] t) from to
within_none zero from to = refl
within_none (suc t) from zero = refl
within_none (suc zero) zero (suc to) = within_none zero zero to
within_none (suc (suc t)) zero (suc to) = within_none (suc t) zero to
within_none (suc t) (suc from) (suc to) = within_none t from to

pub ruleset within = (within_yes, within_no, within_none, length_spread)

-- ---- the boundaries of an element

within_first : (cs : List (Option Cell)) (from to : ℕ) → from < to
    → ends_within cs from to ≡ (denies (edge cs from) false || ends_within cs (suc from) to)
within_first cs from zero h = absurd (omega (arith, h))
within_first [] from (suc to) h = refl
within_first (c ∷ cs) zero (suc to) h = refl
within_first (c ∷ cs) (suc from) (suc to) h = within_first cs from to (omega (arith, h))

within_empty : (cs : List (Option Cell)) (from to : ℕ) → to ≤ from → ends_within cs from to ≡ false
within_empty [] from to h = refl
within_empty (c ∷ cs) from zero h = refl
within_empty (c ∷ cs) zero (suc to) h = absurd (omega (arith, h))
within_empty (c ∷ cs) (suc from) (suc to) h = within_empty cs from to (omega (arith, h))

element_otherwise : (cs : List (Option Cell)) (at : ℕ) (e : Bool) (o : ℕ) (os : List ℕ)
    → ends_otherwise cs at (element_cells false e (o ∷ os))
    ≡ (ends_within cs at (at + length os) || denies (edge_behind cs (at + length os)) e)
element_otherwise cs at e o [] =
    let here : at + 0 ≡ at = omega arith in
    rw (here, within_empty cs at at (omega arith)) (or_false (denies (edge_behind cs at) e))
  where
    or_false : (a : Bool) → (a || false) ≡ a
    or_false true = refl
    or_false false = refl
element_otherwise cs at e o (p ∷ os) =
    let next : at + 1 ≡ suc at = omega arith in
    let last : suc at + length os ≡ at + suc (length os) = omega arith in
    ap (λ (b : Bool). denies (edge_behind cs at) false || b) (element_otherwise cs (at + 1) e p os)
    ∙ ap (λ (i : ℕ). denies (edge_behind cs at) false
    || (ends_within cs i (i + length os) || denies (edge_behind cs (i + length os)) e)) next
    ∙ ap (λ (i : ℕ). denies (edge_behind cs at) false || (ends_within cs (suc at) i || denies (edge_behind cs i) e))
    last
    ∙ ap (λ (k : Option Bool). denies k false
    || (ends_within cs (suc at) (at + suc (length os)) || denies (edge_behind cs (at + suc (length os))) e))
    (edge_is cs at)
    ∙ sym (or_assoc (denies (edge cs at) false) (ends_within cs (suc at) (at + suc (length os)))
    (denies (edge_behind cs (at + suc (length os))) e))
    ∙ ap (λ (b : Bool). b || denies (edge_behind cs (at + suc (length os))) e)
    (sym (within_first cs at (at + suc (length os)) (omega arith)))
  where
    or_assoc : (a b c : Bool) → ((a || b) || c) ≡ (a || (b || c))
    or_assoc true b c = refl
    or_assoc false b c = refl

some_otherwise : (cs : List (Option Cell)) (at last : ℕ) (e : Bool) (os : List ℕ) → 0 < length os
    → last ≡ at + length os - 1
    → (ends_within cs at last || denies (edge_behind cs last) e) ≡ ends_otherwise cs at (element_cells false e os)
some_otherwise cs at last e [] h is = absurd (omega (arith, h))
some_otherwise cs at last e (o ∷ os) h is =
    let same : last ≡ at + length os = omega (arith, is) in
    ap (λ (k : ℕ). ends_within cs at k || denies (edge_behind cs k) e) same ∙ sym (element_otherwise cs at e o os)

-- inside an element
pub then_otherwise : (ss : List Stretched) (t at last : ℕ) (e : Bool) (os : List ℕ) → 0 < length os
    → last ≡ at + length os - 1 → ends_within (spread ss 0) at last ≡ true
    → true ≡ ends_otherwise (spread ss t) at (element_cells false e os)
then_otherwise ss t at last e os h is inside =
    ap (λ (b : Bool). b || denies (edge_behind (spread ss t) last) e) (sym inside ∙ withins_tail ss t at last)
    ∙ some_otherwise (spread ss t) at last e os h is

-- behind it
pub else_otherwise : (ss : List Stretched) (t at last : ℕ) (e : Bool) (os : List ℕ) → 0 < length os
    → last ≡ at + length os - 1 → ends_within (spread ss 0) at last ≡ false
    → denies (edge_behind (spread ss t) last) e ≡ ends_otherwise (spread ss t) at (element_cells false e os)
else_otherwise ss t at last e os h is inside =
    ap (λ (b : Bool). b || denies (edge_behind (spread ss t) last) e) (sym inside ∙ withins_tail ss t at last)
    ∙ some_otherwise (spread ss t) at last e os h is

pub none_otherwise : (cs : List (Option Cell)) (at : ℕ) (e : Bool) (os : List ℕ) → length os ≡ 0
    → false ≡ ends_otherwise cs at (element_cells false e os)
none_otherwise cs at e [] h = refl
none_otherwise cs at e (o ∷ os) h = absurd (omega (arith, h))

pub ruleset otherwise = (then_otherwise, else_otherwise, none_otherwise, few_tail)
