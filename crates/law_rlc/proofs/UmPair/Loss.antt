-- What is joined where numbers are lost.
use Rattle.std.proofs.Common.{◌≡◌, ◌⊎◌, inl, inr, ℕ, Bool, true, false, ◌||◌, List, [], ◌∷◌, ◌++◌, length, Option, Some}
use Rattle.std.proofs.Common.{None, refl, ap, sym, subst, ◌∙◌, nat_lt}
use Rattle.std.proofs.lemmas.List.{append-nil}
use Rattle.rlc_um.specs.Joined.{Parts, Joined, nothing_joined, opened, finished, left_open, with_element, with_elements}
use Rattle.rlc_um.specs.Joined.{with_number, with_numbers}
use Rattle.law_rlc.specs.UmPair.Send.{Step, Flow, flow, at_first, carried, completed, joined}
use Rattle.law_rlc.specs.UmPair.Loss.{kept, IsSome, missing, IsOrdered}
use Rattle.law_rlc.proofs.UmPair.Whole.{whole}

some-all : (xs : List (List ℕ)) → IsSome xs xs
some-all [] = record { choice = []; chosen = refl }
some-all (x ∷ xs) = let r = some-all xs in
    record { choice = true ∷ r.choice; chosen = ap (λ (l : List (List ℕ)). x ∷ l) r.chosen }

kept-none : (bs : List Bool) → kept bs [] ≡ []
kept-none [] = refl
kept-none (b ∷ bs) = refl

-- more at the end
pub some-more : (bs : List Bool) (ys : List (List ℕ)) (zs : List (List ℕ)) → IsSome (kept bs ys) (ys ++ zs)
some-more [] ys zs = record { choice = []; chosen = refl }
some-more (b ∷ bs) [] zs = record { choice = []; chosen = refl }
some-more (true ∷ bs) (y ∷ ys) zs = let r = some-more bs ys zs in
    record { choice = true ∷ r.choice; chosen = ap (λ (l : List (List ℕ)). y ∷ l) r.chosen }
some-more (false ∷ bs) (y ∷ ys) zs = let r = some-more bs ys zs in
    record { choice = false ∷ r.choice; chosen = r.chosen }

some-both : (bs : List Bool) (ys : List (List ℕ)) (zs : List (List ℕ)) → IsSome (kept bs ys ++ zs) (ys ++ zs)
some-both [] [] zs = some-all zs
some-both [] (y ∷ ys) zs = let r = some-both [] ys zs in record { choice = false ∷ r.choice; chosen = r.chosen }
some-both (b ∷ bs) [] zs = some-all zs
some-both (true ∷ bs) (y ∷ ys) zs = let r = some-both bs ys zs in
    record { choice = true ∷ r.choice; chosen = ap (λ (l : List (List ℕ)). y ∷ l) r.chosen }
some-both (false ∷ bs) (y ∷ ys) zs = let r = some-both bs ys zs in
    record { choice = false ∷ r.choice; chosen = r.chosen }

-- joining with losses beside joining without: some of the SDUs, and the open part is the same or none
pub record Lags (k j : Joined) : Type 0 where
  pub ready : IsSome k.ready j.ready
  pub part : (k.part ≡ None) ⊎ (k.part ≡ j.part)

lags-ready : (xs ys : List (List ℕ)) (ends : Bool) (o p : Option (List ℕ)) → (o ≡ None) ⊎ (o ≡ p) → IsSome xs ys
    → IsSome (xs ++ finished ends o) (ys ++ finished ends p)
lags-ready xs ys ends o p (inr e) r =
    subst (λ (q : Option (List ℕ)). IsSome (xs ++ finished ends q) (ys ++ finished ends p)) (sym e)
    (subst (λ (l : List (List ℕ)). IsSome (l ++ finished ends p) (ys ++ finished ends p)) (sym r.chosen)
    (some-both r.choice ys (finished ends p)))
lags-ready xs ys ends o p (inl e) r =
    let none : xs ++ finished ends o ≡ xs = nothing ends o e in
    subst (λ (l : List (List ℕ)). IsSome l (ys ++ finished ends p)) (sym (none ∙ r.chosen))
    (some-more r.choice ys (finished ends p))
  where
    nothing : (b : Bool) (q : Option (List ℕ)) → q ≡ None → xs ++ finished b q ≡ xs
    nothing true None e = append-nil xs
    nothing true (Some s) e = absurd cc
    nothing false q e = append-nil xs

lags-opened : (begins : Bool) (octets : List ℕ) (o p : Option (List ℕ)) → (o ≡ None) ⊎ (o ≡ p)
    → (opened begins octets o ≡ None) ⊎ (opened begins octets o ≡ opened begins octets p)
lags-opened true octets o p h = inr refl
lags-opened false octets o p (inl e) = inl (ap (opened false octets) e)
lags-opened false octets o p (inr e) = inr (ap (opened false octets) e)

lags-left : (ends : Bool) (o p : Option (List ℕ)) → (o ≡ None) ⊎ (o ≡ p)
    → (left_open ends o ≡ None) ⊎ (left_open ends o ≡ left_open ends p)
lags-left true o p h = inl refl
lags-left false o p h = h

lags-element : (k j : Joined) (begins ends : Bool) (octets : List ℕ) → Lags k j
    → Lags (with_element begins ends octets k) (with_element begins ends octets j)
lags-element k j begins ends octets l =
    let o = lags-opened begins octets k.part j.part l.part in
    record {
      ready = lags-ready k.ready j.ready ends (opened begins octets k.part) (opened begins octets j.part) o l.ready;
      part = lags-left ends (opened begins octets k.part) (opened begins octets j.part) o;
    }

lags-elements : (xs : List (List ℕ)) (k j : Joined) (begins ends : Bool) → Lags k j
    → Lags (with_elements begins ends xs k) (with_elements begins ends xs j)
lags-elements [] k j begins ends l = l
lags-elements (x ∷ xs) k j begins ends l =
    lags-elements xs (with_element begins (ends || nat_lt 0 (length xs)) x k)
    (with_element begins (ends || nat_lt 0 (length xs)) x j) true ends
    (lags-element k j begins (ends || nat_lt 0 (length xs)) x l)

pub lags-number : (s : Option Parts) (k j : Joined) → Lags k j → Lags (with_number s k) (with_number s j)
lags-number None k j l = record { ready = l.ready; part = inl refl }
lags-number (Some p) k j l = lags-elements p.elements k j p.begins p.ends l

-- elements that are joined without losses only add SDUs
pub grows-elements : (xs : List (List ℕ)) (zs : List (List ℕ)) (j : Joined) (begins ends : Bool) → IsSome zs j.ready
    → IsSome zs (with_elements begins ends xs j).ready
grows-elements [] zs j begins ends r = r
grows-elements (x ∷ xs) zs j begins ends r =
    grows-elements xs zs (with_element begins (ends || nat_lt 0 (length xs)) x j) true ends
    (subst (λ (l : List (List ℕ)). IsSome l (with_element begins (ends || nat_lt 0 (length xs)) x j).ready)
    (sym r.chosen)
    (some-more r.choice j.ready (finished (ends || nat_lt 0 (length xs)) (opened begins x j.part))))

pub lags-missing : (s : Option Parts) (k j : Joined) → Lags k j → Lags (with_number None k) (with_number s j)
lags-missing None k j l = record { ready = l.ready; part = inl refl }
lags-missing (Some p) k j l = record {
  ready = grows-elements p.elements k.ready j p.begins p.ends l.ready;
  part = inl refl;
}

lags-all : (lost : List Bool) (ss : List (Option Parts)) (k j : Joined) → Lags k j
    → Lags (with_numbers (missing lost ss) k) (with_numbers ss j)
lags-all [] [] k j l = l
lags-all [] (s ∷ ss) k j l = lags-all [] ss (with_number s k) (with_number s j) (lags-number s k j l)
lags-all (b ∷ bs) [] k j l = l
lags-all (true ∷ bs) (s ∷ ss) k j l = lags-all bs ss (with_number None k) (with_number s j) (lags-missing s k j l)
lags-all (false ∷ bs) (s ∷ ss) k j l = lags-all bs ss (with_number s k) (with_number s j) (lags-number s k j l)

pub ordered : (bits : ℕ) (steps : List Step) → IsOrdered (flow steps (at_first bits))
ordered bits steps = record {
  some = λ lost.
      let f : Flow = flow steps (at_first bits) in
      let l : Lags (with_numbers (missing lost (carried f.made)) nothing_joined) (joined f.made) =
      lags-all lost (carried f.made) nothing_joined nothing_joined
      (record { ready = record { choice = []; chosen = refl }; part = inl refl }) in
      let w = whole bits steps in
      subst (λ (xs : List (List ℕ)). IsSome xs f.offered) (sym l.ready.chosen)
      (subst (λ (ys : List (List ℕ)). IsSome (kept l.ready.choice (joined f.made).ready) ys) w.sdus
      (some-more l.ready.choice (joined f.made).ready (completed (joined f.made).part f.sender.waiting.sdus)));
}
