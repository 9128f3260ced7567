-- A list with some of its items left out: order, and what holds of each item, stay.
use Rattle.std.proofs.Common.{List, [], ◌∷◌, ◌++◌, map, All, inl, inr, subst, refl, ap, sym, ◌∙◌}
use Rattle.std.proofs.lemmas.List.Elements.{All-nil, All-cons, All-head, All-tail}
use Rattle.law_words.specs.Lists.{IsSubsequence}

pub same : {A : Type 0} (xs : List A) → IsSubsequence xs xs
same [] = tt
same (x ∷ xs) = inl (refl, same xs)

pub without_first : {A : Type 0} (ys : List A) (x : A) (xs : List A) → IsSubsequence ys xs → IsSubsequence ys (x ∷ xs)
without_first [] x xs h = tt
without_first (y ∷ ys) x xs h = inr h

-- what is left of what is left
pub thinner : {A : Type 0} (zs ys xs : List A) → IsSubsequence zs ys → IsSubsequence ys xs → IsSubsequence zs xs
thinner [] ys xs g h = tt
thinner (z ∷ zs) [] xs g h = absurd g
thinner (z ∷ zs) (y ∷ ys) [] g h = absurd h
thinner (z ∷ zs) (y ∷ ys) (x ∷ xs) (inl g) (inl h) = inl (g.0 ∙ h.0, thinner zs ys xs g.1 h.1)
thinner (z ∷ zs) (y ∷ ys) (x ∷ xs) (inr g) (inl h) = inr (thinner (z ∷ zs) ys xs g h.1)
thinner (z ∷ zs) (y ∷ ys) (x ∷ xs) g (inr h) = inr (thinner (z ∷ zs) (y ∷ ys) xs g h)

pub behind : {A : Type 0} (zs ys xs : List A) → IsSubsequence ys xs → IsSubsequence (zs ++ ys) (zs ++ xs)
behind [] ys xs h = h
behind (z ∷ zs) ys xs h = inl (refl, behind zs ys xs h)

pub mapped : {A B : Type 0} (f : A → B) (ys xs : List A) → IsSubsequence ys xs → IsSubsequence (map f ys) (map f xs)
mapped f [] xs h = tt
mapped f (y ∷ ys) [] h = absurd h
mapped f (y ∷ ys) (x ∷ xs) (inl h) = inl (ap f h.0, mapped f ys xs h.1)
mapped f (y ∷ ys) (x ∷ xs) (inr h) = inr (mapped f (y ∷ ys) xs h)

-- what holds of each item
pub all_left : {A : Type 0} (P : A → Type 0) (ys xs : List A) → IsSubsequence ys xs → All P xs → All P ys
all_left P [] xs t h = All-nil P
all_left P (y ∷ ys) [] t h = absurd t
all_left P (y ∷ ys) (x ∷ xs) (inl t) h =
    All-cons P y ys (subst P (sym t.0) (All-head P x xs h)) (all_left P ys xs t.1 (All-tail P x xs h))
all_left P (y ∷ ys) (x ∷ xs) (inr t) h = all_left P (y ∷ ys) xs t (All-tail P x xs h)
