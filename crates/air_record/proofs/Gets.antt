-- What stands from a place of a list on.
use Rattle.std.proofs.Common.{◌≡◌, ◌+◌, ℕ, List, [], ◌∷◌, zero, suc, drop, length, slice_get, Some, arith}

pub drop-get : {A : Type 0} (xs : List A) (i : ℕ) (x : A) → slice_get xs i ≡ Some x → drop i xs ≡ x ∷ drop (i + 1) xs
drop-get [] i x e = cc
drop-get (y ∷ ys) zero x e = cc
drop-get (y ∷ ys) (suc i) x e =
    let next : suc i + 1 ≡ suc (i + 1) = omega arith in rw next (drop-get ys i x e)

pub only_get : {A : Type 0} (xs : List A) (x : A) → slice_get xs 0 ≡ Some x → length xs ≡ 1 → xs ≡ x ∷ []
only_get [] x e l = cc
only_get (y ∷ []) x e l = cc
only_get (y ∷ z ∷ ys) x e l = cc
