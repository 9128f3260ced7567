-- Joining goes on where it stopped.
use Rattle.std.proofs.Common.{◌≡◌, ◌≤◌, ℕ, suc, zero, ◌+◌, ◌-◌, Bool, true, ◌||◌, List, [], ◌∷◌, ◌++◌, length, take}
use Rattle.std.proofs.Common.{drop, Option, Some, None, refl, ap, sym, ◌∙◌, append_assoc, arith, nat_lt}
use Rattle.std.proofs.lemmas.List.{take-append-drop}
use Rattle.std.proofs.lemmas.Bool.{ne_eqb}
use Rattle.rlc_um.specs.Joined.{Parts, Joined, nothing_joined, opened, finished, left_open, with_element, with_elements}
use Rattle.rlc_um.specs.Joined.{with_number, with_numbers}
use Rattle.law_rlc.specs.UmPair.Run.{Accepted, found, numbers, joined_below}

-- a state of joining that has handed up some SDUs is another that has handed up none
pub record Follows (gone : List (List ℕ)) (j k : Joined) : Type 0 where
  pub ready : gone ++ j.ready ≡ k.ready
  pub part : j.part ≡ k.part

follows-element : (gone : List (List ℕ)) (j k : Joined) (begins ends : Bool) (octets : List ℕ) → Follows gone j k
    → Follows gone (with_element begins ends octets j) (with_element begins ends octets k)
follows-element gone j k begins ends octets f = record {
  ready = sym (append_assoc gone j.ready (finished ends (opened begins octets j.part)))
      ∙ ap (λ (r : List (List ℕ)). r ++ finished ends (opened begins octets j.part)) f.ready
      ∙ ap (λ (o : Option (List ℕ)). k.ready ++ finished ends (opened begins octets o)) f.part;
  part = ap (λ (o : Option (List ℕ)). left_open ends (opened begins octets o)) f.part;
}

follows-elements : (gone : List (List ℕ)) (elements : List (List ℕ)) (j k : Joined) (begins ends : Bool)
    → Follows gone j k → Follows gone (with_elements begins ends elements j) (with_elements begins ends elements k)
follows-elements gone [] j k begins ends f = f
follows-elements gone (x ∷ xs) j k begins ends f =
    follows-elements gone xs (with_element begins (ends || nat_lt 0 (length xs)) x j)
    (with_element begins (ends || nat_lt 0 (length xs)) x k) true ends
    (follows-element gone j k begins (ends || nat_lt 0 (length xs)) x f)

pub follows-number : (gone : List (List ℕ)) (s : Option Parts) (j k : Joined) → Follows gone j k
    → Follows gone (with_number s j) (with_number s k)
follows-number gone None j k f = record { ready = f.ready; part = refl }
follows-number gone (Some p) j k f = follows-elements gone p.elements j k p.begins p.ends f

pub follows-up : (gone : List (List ℕ)) (j k : Joined) → Follows gone j k
    → Follows (gone ++ take 1 j.ready) (record j { ready = drop 1 j.ready }) k
follows-up gone j k f = record {
  ready = append_assoc gone (take 1 j.ready) (drop 1 j.ready)
      ∙ ap (λ (r : List (List ℕ)). gone ++ r) (take-append-drop 1 j.ready) ∙ f.ready;
  part = f.part;
}

-- one more number
numbers-push : (log : List Accepted) (from n : ℕ) (j : Joined)
    → with_numbers (numbers log from (suc n)) j
    ≡ with_number (found log (from + n)) (with_numbers (numbers log from n) j)
numbers-push log from zero j = let e : from + 0 ≡ from = omega arith in rw e refl
numbers-push log from (suc n) j =
    let e : from + 1 + n ≡ from + suc n = omega arith in
    numbers-push log (from + 1) n (with_number (found log from) j)
    ∙ ap
    (λ (m : ℕ). with_number (found log m)
    (with_numbers (numbers log (from + 1) n) (with_number (found log from) j))) e

pub joined-push : (log : List Accepted) (first edge : ℕ) → first ≤ edge
    → joined_below log first (edge + 1) ≡ with_number (found log edge) (joined_below log first edge)
joined-push log first edge h =
    let e : edge + 1 - first ≡ suc (edge - first) = omega arith in
    let f : first + (edge - first) ≡ edge = omega arith in
    ap (λ (n : ℕ). with_numbers (numbers log first n) nothing_joined) e
    ∙ numbers-push log first (edge - first) nothing_joined
    ∙ ap (λ (n : ℕ). with_number (found log n) (joined_below log first edge)) f

-- a number that comes above changes nothing of those below
found-other : (a : Accepted) (log : List Accepted) (n : ℕ) → (a.number ≡ n → ⊥) → found (a ∷ log) n ≡ found log n
found-other a log n other = let e = ne_eqb a.number n other in rw e refl

pub numbers-below : (a : Accepted) (log : List Accepted) (from n : ℕ) → from + n ≤ a.number
    → numbers (a ∷ log) from n ≡ numbers log from n
numbers-below a log from zero h = refl
numbers-below a log from (suc n) h =
    ap (λ (s : Option Parts). s ∷ numbers (a ∷ log) (from + 1) n) (found-other a log from (λ e. omega arith))
    ∙ ap (λ (ss : List (Option Parts)). found log from ∷ ss) (numbers-below a log (from + 1) n (omega arith))

pub joined-below : (a : Accepted) (log : List Accepted) (first edge : ℕ) → first ≤ edge → edge ≤ a.number
    → joined_below (a ∷ log) first edge ≡ joined_below log first edge
joined-below a log first edge h g =
    ap (λ (ss : List (Option Parts)). with_numbers ss nothing_joined)
    (numbers-below a log first (edge - first) (omega arith))
