-- SDUs that were written to their ends are left out one by one.
use Rattle.std.proofs.Common.{◌≡◌, ℕ, ◌+◌, ◌-◌, ◌<◌, ◌≤◌, Bool, List, [], ◌∷◌, Some, None, refl}
use Rattle.std.proofs.Common.{ap, sym, ◌∙◌, subst, if◌then◌else◌}
use Rattle.std.specs.Prelude.{slice_get}
use Rattle.std.proofs.lemmas.Bool.{le-leb, lt-leb}
use Rattle.journal_flows.specs.UmKept.{UmSender, settled}

abbrev as_it_is : ℕ → ℕ → ℕ → List ℕ → UmSender
as_it_is n e i xs = record { next = n; ended = e; into = i; left = xs }

pub settles_empty : (n e i : ℕ) (xs : List ℕ) → slice_get xs 0 ≡ None
    → settled n e i xs ≡ record { next = n; ended = e; into = i; left = xs }
settles_empty n e i [] h = refl
settles_empty n e i (x ∷ xs) h = cc

pub settles_short : (n e i x : ℕ) (xs : List ℕ) → slice_get xs 0 ≡ Some x → i < x
    → settled n e i xs ≡ record { next = n; ended = e; into = i; left = xs }
settles_short n e i x [] h low = cc
settles_short n e i x (y ∷ ys) h low =
    ap (λ (b : Bool). if b then settled n (e + 1) (i - y) ys else as_it_is n e i (y ∷ ys))
    (lt-leb y i (subst (λ (z : ℕ). i < z) (sym (head-is y x ys h)) low))
  where
    head-is : (a b : ℕ) (zs : List ℕ) → slice_get (a ∷ zs) 0 ≡ Some b → a ≡ b
    head-is a b zs is = cc

pub settles_one : (n e i x y : ℕ) (xs ys : List ℕ) → slice_get xs 0 ≡ Some x → x ≤ i → xs ≡ y ∷ ys
    → settled n (e + 1) (i - x) ys ≡ settled n e i xs
settles_one n e i x y xs ys first within is =
    let head : x ≡ y = same x y xs ys first is in
    sym (ap (settled n e i) is
    ∙ ap (λ (z : ℕ). settled n e i (z ∷ ys)) (sym head)
    ∙ ap (λ (b : Bool). if b then settled n (e + 1) (i - x) ys else as_it_is n e i (x ∷ ys)) (le-leb x i within))
  where
    same : (a b : ℕ) (zs ws : List ℕ) → slice_get zs 0 ≡ Some a → zs ≡ b ∷ ws → a ≡ b
    same a b zs ws f e = some-same a b (sym f ∙ ap (λ (vs : List ℕ). slice_get vs 0) e)
      where
        some-same : (a b : ℕ) → Some a ≡ Some b → a ≡ b
        some-same a b h = cc

pub ruleset settles = (settles_empty, settles_short, settles_one)
