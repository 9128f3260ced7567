-- Lists that are empty together.
use Rattle.std.proofs.Common.{◌≡◌, Bool, true, false, if◌then◌else◌, List, [], ◌∷◌, ◌++◌, refl, ap, ◌∙◌}

pub parts_empty : {A : Type 0} (xs ys : List A) → xs ++ ys ≡ [] → (xs ≡ []) × (ys ≡ [])
parts_empty [] ys e = (refl, e)
parts_empty (x ∷ xs) ys e = absurd cc

pub empty_if : {A : Type 0} (b : Bool) (xs ys : List A) → xs ≡ [] → ys ≡ [] → (if b then [] else xs) ++ ys ≡ []
empty_if true xs ys p q = q
empty_if false xs ys p q = ap (λ zs. zs ++ ys) p ∙ q
