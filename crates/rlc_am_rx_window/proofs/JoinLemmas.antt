-- SDUs put together element by element.
use Rattle.std.proofs.Common.{◌≡◌, ◌<◌, ◌≤◌, ℕ, suc, zero, Bool, true, false, List, [], ◌∷◌, ◌++◌, length, drop, map}
use Rattle.std.proofs.Common.{replicate, Option, Some, None, refl, ap, sym, ◌∙◌, arith, append_assoc}
use Rattle.std.proofs.lemmas.List.{append-nil, drop_all}
use Rattle.rlc_am_rx_window.specs.Cells.{Cell}
use Rattle.rlc_am_rx_window.specs.Piece.{element_cells}
use Rattle.rlc_am_rx_window.specs.Joined.{Joined, opened, extended, closed, joined, broken, pending, with_place}
use Rattle.rlc_am_rx_window.proofs.CellLemmas.{length_somes, length_element}

pub joined_append : (j : Joined) (xs ys : List (Option Cell)) → joined j (xs ++ ys) ≡ joined (joined j xs) ys
joined_append j [] ys = refl
joined_append j (x ∷ xs) ys = joined_append (with_place j x) xs ys

pub joined_gap : (j : Joined) (n : ℕ) (xs : List (Option Cell)) → 0 < n
    → joined j (replicate n None ++ xs) ≡ joined (broken j) xs
joined_gap j zero xs h = absurd (omega (arith, h))
joined_gap j (suc zero) xs h = refl
joined_gap j (suc (suc n)) xs h = joined_gap (broken j) (suc n) xs (omega arith)

-- ---- an element

extend_twice : (p : Option (List ℕ)) (o : ℕ) (os : List ℕ)
    → extended (opened (extended p (o ∷ [])) false) os ≡ extended p (o ∷ os)
extend_twice None o os = refl
extend_twice (Some xs) o os = ap (λ (ys : List ℕ). Some ys) (append_assoc xs (o ∷ []) os)

element_is : (j : Joined) (b e : Bool) (o : ℕ) (os : List ℕ)
    → joined j (map (λ c. Some c) (element_cells b e (o ∷ os)))
    ≡ closed e j.ready (extended (opened j.part b) (o ∷ os))
element_is j b e o [] = refl
element_is j b e o (p ∷ os) =
    element_is (record { ready = j.ready; part = extended (opened j.part b) (o ∷ []) }) false e p os
    ∙ ap (λ (q : Option (List ℕ)). closed e j.ready q) (extend_twice (opened j.part b) o (p ∷ os))

extend_nil : (p : Option (List ℕ)) → extended p [] ≡ p
extend_nil None = refl
extend_nil (Some os) = ap (λ (xs : List ℕ). Some xs) (append-nil os)

pub element_goes_on : (j k : Joined) (b : Bool) (os : List ℕ) → 0 < length os
    → k ≡ record { ready = j.ready; part = opened j.part b }
    → pending k os ≡ joined j (map (λ c. Some c) (element_cells b false os))
element_goes_on j k b [] h is = absurd (omega (arith, h))
element_goes_on j k b (o ∷ os) h is = rw is (sym (element_is j b false o os))

pub element_closes : (j k : Joined) (b : Bool) (os : List ℕ) → 0 < length os
    → k ≡ record { ready = j.ready; part = opened j.part b }
    → closed true k.ready (extended k.part os) ≡ joined j (map (λ c. Some c) (element_cells b true os))
element_closes j k b [] h is = absurd (omega (arith, h))
element_closes j k b (o ∷ os) h is = rw is (sym (element_is j b true o os))

pub element_ends : (j k : Joined) (b : Bool) (os : List ℕ) → 0 < length os
    → k ≡ record { ready = j.ready; part = opened j.part b }
    → closed true k.ready (extended (extended k.part os) []) ≡ joined j (map (λ c. Some c) (element_cells b true os))
element_ends j k b [] h is = absurd (omega (arith, h))
element_ends j k b (o ∷ os) h is =
    rw (is, extend_nil (extended (opened j.part b) (o ∷ os))) (sym (element_is j b true o os))

pub ruleset elements = (element_goes_on, element_closes, element_ends)

pub part_begins : (p : List ℕ) (os : List ℕ) → length p ≡ 0 → os ≡ p ++ os
part_begins [] os h = refl
part_begins (o ∷ p) os h = absurd (omega (arith, h))

pub ruleset beginning = (part_begins)

-- ---- an element from one of its octets on

pub element_from : (b e : Bool) (n : ℕ) (os : List ℕ) → 0 < n
    → drop n (map (λ c. Some c) (element_cells b e os)) ≡ map (λ c. Some c) (element_cells false e (drop n os))
element_from b e zero os h = absurd (omega (arith, h))
element_from b e (suc n) [] h = refl
element_from b e (suc zero) (o ∷ []) h = refl
element_from b e (suc (suc n)) (o ∷ []) h = refl
element_from b e (suc zero) (o ∷ p ∷ os) h = refl
element_from b e (suc (suc n)) (o ∷ p ∷ os) h = element_from false e (suc n) (p ∷ os) (omega arith)

pub join_first : (j : Joined) (n : ℕ) (cs : List (Option Cell)) → n ≡ 0 → joined j cs ≡ joined j (drop n cs)
join_first j n cs h = rw h refl

pub join_from : (j : Joined) (b e : Bool) (n : ℕ) (os : List ℕ) → 0 < n
    → joined j (map (λ c. Some c) (element_cells false e (drop n os)))
    ≡ joined j (drop n (map (λ c. Some c) (element_cells b e os)))
join_from j b e n os h = ap (λ (cs : List (Option Cell)). joined j cs) (sym (element_from b e n os h))

pub join_past : (j : Joined) (b e : Bool) (n : ℕ) (os : List ℕ) → length os ≤ n
    → j ≡ joined j (drop n (map (λ c. Some c) (element_cells b e os)))
join_past j b e n os h =
    rw (drop_all n (map (λ c. Some c) (element_cells b e os))
    (omega (arith, length_somes (element_cells b e os), length_element b e os, h))) refl

pub ruleset parts = (join_first, join_from, join_past)
