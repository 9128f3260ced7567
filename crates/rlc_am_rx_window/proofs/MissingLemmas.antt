-- The runs of missing places, stretch by stretch.
use Rattle.std.proofs.Common.{◌≡◌, ◌<◌, ◌≤◌, ℕ, zero, suc, ◌+◌, ◌*◌, Bool, true, false, List, [], ◌∷◌, ◌++◌, length}
use Rattle.std.proofs.Common.{map, replicate, Option, Some, None, is_some, refl, ap, ◌∙◌, arith, append_assoc, cond}
use Rattle.std.proofs.Common.{◌==◌, ◌-◌, not, if◌then◌else◌, inl, inr, ltb}
use Rattle.std.proofs.lemmas.List.{append-nil}
use Rattle.std.proofs.lemmas.Bool.{cases_lt, lt-ltb, le-ltb}
use Rattle.rlc_pdu.specs.declared.Part.{Part}
use Rattle.rlc_am_rx_window.specs.declared.missing.Missing.{Missing}
use Rattle.rlc_am_rx_window.specs.Cells.{Cell}
use Rattle.rlc_am_rx_window.specs.Missing.{range, tail, runs, run_ended, run_open, run_last, of_part, whole, missing_of}
use Rattle.rlc_am_rx_window.specs.Missing.{AreRanges, entries_bits}
use Rattle.rlc_am_rx_window.specs.Held.{Held, is_complete, has_end}
use Rattle.rlc_am_rx_window.specs.Piece.{element_cells}
use Rattle.rlc_am_rx_window.specs.Spread.{Stretched, cells_in, spread}
use Rattle.rlc_am_rx_window.proofs.CellLemmas.{length_element}
use Rattle.rlc_am_rx_window.proofs.SpreadLemmas.{length_spread, length_end}

pub bits_of_parts : (n : ℕ) (ps : List Part) → entries_bits (map (of_part n) ps) ≡ 42 * length ps
bits_of_parts n [] = refl
bits_of_parts n (p ∷ ps) = omega (arith, bits_of_parts n ps)

-- ---- the runs between stretches

runs_gap : (g at from : ℕ) (c : Cell) (xs : List (Option Cell)) (e : Bool)
    → runs (replicate g None ++ Some c ∷ xs) at (Some from) e ≡ range from (at + g) ∷ runs xs (at + g + 1) None e
runs_gap zero at from c xs e = let k : at + 0 ≡ at = omega arith in rw k refl
runs_gap (suc g) at from c xs e = let k : at + suc g ≡ at + 1 + g = omega arith in
    rw k (runs_gap g (at + 1) from c xs e)

runs_before : (g at : ℕ) (c : Cell) (xs : List (Option Cell)) (e : Bool) → 0 < g
    → runs (replicate g None ++ Some c ∷ xs) at None e ≡ range at (at + g) ∷ runs (Some c ∷ xs) (at + g) None e
runs_before zero at c xs e h = absurd (omega (arith, h))
runs_before (suc g) at c xs e h = let k : at + suc g ≡ at + 1 + g = omega arith in rw k (runs_gap g (at + 1) at c xs e)

runs_held : (cs : List Cell) (at : ℕ) (xs : List (Option Cell)) (e : Bool)
    → runs (map (λ c. Some c) cs ++ xs) at None e ≡ runs xs (at + length cs) None e
runs_held [] at xs e = let k : at + 0 ≡ at = omega arith in rw k refl
runs_held (c ∷ cs) at xs e = let k : at + suc (length cs) ≡ at + 1 + length cs = omega arith in
    rw k (runs_held cs (at + 1) xs e)

runs_last : (t at from : ℕ) (e : Bool) → runs (replicate t None) at (Some from) e ≡ tail from ∷ []
runs_last zero at from e = refl
runs_last (suc t) at from e = runs_last t (at + 1) from e

runs_stretch : (s : Stretched) (ss : List Stretched) (t at : ℕ) (e : Bool)
    → runs (cells_in s ++ spread ss t) at None e ≡ runs (spread ss t) (at + length s.octets) None e
runs_stretch s ss t at e = runs_held (element_cells s.begins s.ends s.octets) at (spread ss t) e
    ∙ ap (λ (n : ℕ). runs (spread ss t) (at + n) None e) (length_element s.begins s.ends s.octets)

runs_behind : (s : Stretched) (ss : List Stretched) (t at : ℕ) (e : Bool) → 0 < length s.octets → 0 < s.gap
    → runs (spread (s ∷ ss) t) at None e ≡ range at (at + s.gap)
    ∷ runs (spread ss t) (at + (s.gap + length s.octets)) None e
runs_behind s ss t at e some h =
    go s.octets refl some
    ∙ ap (λ (ps : List Part). range at (at + s.gap) ∷ ps) (runs_stretch s ss t (at + s.gap) e
    ∙ ap (λ (n : ℕ). runs (spread ss t) n None e) (omega arith))
  where
    go : (os : List ℕ) → s.octets ≡ os → 0 < length os
        → runs (replicate s.gap None ++ (cells_in s ++ spread ss t)) at None e
        ≡ range at (at + s.gap) ∷ runs (cells_in s ++ spread ss t) (at + s.gap) None e
    go [] is some = absurd (omega (arith, some))
    go (o ∷ []) is some = rw is (runs_before s.gap at _ _ e h)
    go (o ∷ p ∷ os) is some = rw is (runs_before s.gap at _ _ e h)

runs_close : (s : Stretched) (ss : List Stretched) (t at : ℕ) (e : Bool) → s.gap ≡ 0
    → runs (spread (s ∷ ss) t) at None e ≡ runs (spread ss t) (at + (s.gap + length s.octets)) None e
runs_close s ss t at e h =
    let n : at + (0 + length s.octets) ≡ at + length s.octets = omega arith in
    rw (h, n) (runs_stretch s ss t at e)

runs_open : (t at : ℕ) (e : Bool) → 0 < t → runs (spread [] t) at None e ≡ tail at ∷ []
runs_open zero at e h = absurd (omega (arith, h))
runs_open (suc t) at e h = runs_last t (at + 1) at e

runs_shut : (t at : ℕ) (e : Bool) → t ≡ 0 → runs (spread [] t) at None e ≡ run_last at None e
runs_shut t at e h = rw h refl

pub add_stretch : (out new : List Missing) (n : ℕ) (s : Stretched) (ss : List Stretched) (t at : ℕ) (e : Bool)
    → 0 < length s.octets
    → new ≡ out ++ (if ltb 0 s.gap then of_part n (record { start = at; end = at + s.gap - 1 }) ∷ [] else [])
    → new ++ map (of_part n) (runs (spread ss t) (at + s.gap + length s.octets) None e)
    ≡ out ++ map (of_part n) (runs (spread (s ∷ ss) t) at None e)
add_stretch out new n s ss t at e some is =
    let next : at + s.gap + length s.octets ≡ at + (s.gap + length s.octets) = omega arith in
    elim (cases_lt 0 s.gap) [
      | inl h ↦ rw (is, lt-ltb 0 s.gap h, next, runs_behind s ss t at e some h)
          (append_assoc out (of_part n (range at (at + s.gap)) ∷ [])
          (map (of_part n) (runs (spread ss t) (at + (s.gap + length s.octets)) None e)))
      | inr h ↦ let none : s.gap ≡ 0 = omega (arith, h) in
          rw (is, le-ltb 0 s.gap h, next, runs_close s ss t at e none, append-nil out) refl
    ]

pub add_open : (rs : List Stretched) (out new : List Missing) (n t at : ℕ) (e : Bool) → length rs ≡ 0 → 0 < t
    → new ≡ out ++ of_part n (record { start = at; end = 32767 }) ∷ []
    → new ≡ out ++ map (of_part n) (runs (spread rs t) at None e)
add_open [] out new n t at e none h is = is ∙ rw (runs_open t at e h) refl
add_open (s ∷ rs) out new n t at e none h is = absurd (omega (arith, none))

pub add_shut : (out new : List Missing) (n t at : ℕ) (e : Bool) → t ≡ 0
    → new ≡ out ++ (if not e then of_part n (record { start = at; end = 32767 }) ∷ [] else [])
    → new ≡ out ++ map (of_part n) (runs (spread [] t) at None e)
add_shut out new n t at e none is = is ∙ rw (runs_shut t at e none) (go e)
  where
    go : (e : Bool) → out ++ (if not e then of_part n (tail at) ∷ [] else [])
        ≡ out ++ map (of_part n) (run_last at None e)
    go true = refl
    go false = refl

pub ruleset adding = (add_stretch, add_open, add_shut, length_spread, length_end)

pub count_behind : (s : Stretched) (ss : List Stretched) (t at : ℕ) (e : Bool) → 0 < length s.octets → 0 < s.gap
    → length (runs (spread (s ∷ ss) t) at None e)
    ≡ 1 + length (runs (spread ss t) (at + (s.gap + length s.octets)) None e)
count_behind s ss t at e some h = rw (runs_behind s ss t at e some h) (omega arith)

pub count_close : (s : Stretched) (ss : List Stretched) (t at : ℕ) (e : Bool) → s.gap ≡ 0
    → length (runs (spread (s ∷ ss) t) at None e)
    ≡ length (runs (spread ss t) (at + (s.gap + length s.octets)) None e)
count_close s ss t at e h = rw (runs_close s ss t at e h) refl

pub count_open : (rs : List Stretched) (t at : ℕ) (e : Bool) → length rs ≡ 0 → 0 < t
    → length (runs (spread rs t) at None e) ≡ 1
count_open [] t at e none h = rw (runs_open t at e h) refl
count_open (s ∷ rs) t at e none h = absurd (omega (arith, none))

pub count_last : (t at : ℕ) (e : Bool) → t ≡ 0 → e ≡ false → length (runs (spread [] t) at None e) ≡ 1
count_last t at e h is = rw (runs_shut t at e h, is) refl

pub count_none : (t at : ℕ) (e : Bool) → t ≡ 0 → e ≡ true → length (runs (spread [] t) at None e) ≡ 0
count_none t at e h is = rw (runs_shut t at e h, is) refl

pub ruleset counting = (count_behind, count_close, count_open, count_last, count_none, length_spread, length_end)

-- ---- ranges

map_append : (n : ℕ) (ps qs : List Part) → map (of_part n) (ps ++ qs) ≡ map (of_part n) ps ++ map (of_part n) qs
map_append n [] qs = refl
map_append n (p ∷ ps) qs = ap (λ (ms : List Missing). of_part n p ∷ ms) (map_append n ps qs)

abbrev pub GapBelow : Option ℕ → ℕ → Type 0
GapBelow None at = Unit {0}
GapBelow (Some from) at = from < at

pub ranges_append : (xs ys : List Missing) → AreRanges xs → AreRanges ys → AreRanges (xs ++ ys)
ranges_append [] ys a b = b
ranges_append (x ∷ xs) ys a b = (a.0, ranges_append xs ys a.1 b)

ended_in : (n : ℕ) (there : Bool) (at : ℕ) (gap : Option ℕ) → at ≤ 32767 → GapBelow gap at
    → AreRanges (map (of_part n) (run_ended there at gap))
ended_in n false at gap h g = tt
ended_in n true at None h g = tt
ended_in n true at (Some from) h g = ((omega (arith, g), omega (arith, h, g)), tt)

last_in : (n at : ℕ) (gap : Option ℕ) (e : Bool) → at ≤ 32767 → GapBelow gap at
    → AreRanges (map (of_part n) (run_last at gap e))
last_in n at None true h g = tt
last_in n at None false h g = ((h, omega arith), tt)
last_in n at (Some from) e h g = ((omega (arith, h, g), omega arith), tt)

open_below : (there : Bool) (at : ℕ) (gap : Option ℕ) → GapBelow gap at → GapBelow (run_open there at gap) (at + 1)
open_below true at gap g = tt
open_below false at None g = omega arith
open_below false at (Some from) g = omega (arith, g)

runs_in : (n : ℕ) (cs : List (Option Cell)) (at : ℕ) (gap : Option ℕ) (e : Bool) → at + length cs ≤ 32767
    → GapBelow gap at → AreRanges (map (of_part n) (runs cs at gap e))
runs_in n [] at gap e h g = last_in n at gap e (omega (arith, h)) g
runs_in n (c ∷ cs) at gap e h g =
    rw (map_append n (run_ended (is_some c) at gap) (runs cs (at + 1) (run_open (is_some c) at gap) e))
    (ranges_append (map (of_part n) (run_ended (is_some c) at gap))
    (map (of_part n) (runs cs (at + 1) (run_open (is_some c) at gap) e))
    (ended_in n (is_some c) at gap (omega (arith, h)) g)
    (runs_in n cs (at + 1) (run_open (is_some c) at gap) e (omega (arith, h)) (open_below (is_some c) at gap g)))

pub missing_in : (n : ℕ) (h : Held) → length h.cells ≤ 32767 → AreRanges (missing_of n h)
missing_in n h few = go (is_complete h) (length h.cells == 0)
  where
    go : (a b : Bool)
        → AreRanges (cond a [] (cond b (whole n ∷ []) (map (of_part n) (runs h.cells 0 None (has_end h)))))
    go true b = tt
    go false true = (tt, tt)
    go false false = runs_in n h.cells 0 None (has_end h) (omega (arith, few)) tt

pub ruleset ranges = (missing_in)
