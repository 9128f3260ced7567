-- SDUs that RLC hands up, one after the other.
use Rattle.std.proofs.Common.{◌≡◌, ℕ, List, [], ◌∷◌, drop, Some, None, slice_get, refl, ap, ◌∙◌}
use Rattle.bearer.specs.Acknowledged.State.{Work}
use Rattle.bearer.specs.Acknowledged.Hearing.{hears, hears_all}

first_back : (xs : List (List ℕ)) (x : List ℕ) → slice_get xs 0 ≡ Some x → x ∷ drop 1 xs ≡ xs
first_back [] x h = let no : None ≡ Some x = h in cc
first_back (y ∷ ys) x h = let same : Some y ≡ Some x = h in ap (λ z. z ∷ ys) cc

none_back : (xs : List (List ℕ)) → slice_get xs 0 ≡ None → [] ≡ xs
none_back [] h = refl
none_back (x ∷ xs) h = let no : Some x ≡ None = h in cc

pub hears_next : (xs : List (List ℕ)) (x : List ℕ) (w v : Work) → slice_get xs 0 ≡ Some x → v ≡ hears x w
    → hears_all (drop 1 xs) v ≡ hears_all xs w
hears_next xs x w v h e = ap (hears_all (drop 1 xs)) e ∙ ap (λ l. hears_all l w) (first_back xs x h)

pub hears_end : (xs : List (List ℕ)) (w : Work) → slice_get xs 0 ≡ None → w ≡ hears_all xs w
hears_end xs w h = ap (λ l. hears_all l w) (none_back xs h)

pub ruleset steps = (hears_next, hears_end)
