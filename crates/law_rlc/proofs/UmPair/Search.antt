-- Joining one number after the other is the search.
use Rattle.std.proofs.Common.{◌≡◌, ℕ, Bool, true, false, ◌||◌, List, [], ◌∷◌, ◌++◌, length, Option, Some, None, refl}
use Rattle.std.proofs.Common.{ap, sym, ◌∙◌, append_assoc, nat_lt}
use Rattle.std.proofs.lemmas.List.{append-nil}
use Rattle.rlc_um.specs.Joined.{Parts, Joined, nothing_joined, opened, finished, left_open, with_element, with_elements}
use Rattle.rlc_um.specs.Joined.{with_number, with_numbers}
use Rattle.law_rlc.specs.UmPair.Search.{Piece, Missing, Element, elements_of, pieces, goes_on, one_or_none, searched}
use Rattle.law_rlc.specs.UmPair.Search.{IsSearch}

-- what the pieces still give to a state of joining
abbrev continued : Option (List ℕ) → List Piece → Option (List ℕ)
continued None ps = None
continued (Some x) ps = goes_on x ps

abbrev to_come : Option (List ℕ) → List Piece → List (List ℕ)
to_come part ps = one_or_none (continued part ps) ++ searched ps

-- one element
element-step : (x : List ℕ) (b e : Bool) (o : Option (List ℕ)) (ps : List Piece)
    → finished e (opened b x o) ++ to_come (left_open e (opened b x o)) ps ≡ to_come o (Element x b e ∷ ps)
element-step x true true None ps = refl
element-step x true false None ps = refl
element-step x false true None ps = refl
element-step x false false None ps = refl
element-step x true true (Some a) ps = refl
element-step x true false (Some a) ps = refl
element-step x false true (Some a) ps = refl
element-step x false false (Some a) ps = refl

elements-step : (xs : List (List ℕ)) (b e : Bool) (j : Joined) (ps : List Piece)
    → (with_elements b e xs j).ready ++ to_come (with_elements b e xs j).part ps
    ≡ j.ready ++ to_come j.part (elements_of b e xs ps)
elements-step [] b e j ps = refl
elements-step (x ∷ xs) b e j ps =
    elements-step xs true e (with_element b (e || nat_lt 0 (length xs)) x j) ps
    ∙ append_assoc j.ready (finished (e || nat_lt 0 (length xs)) (opened b x j.part))
    (to_come (left_open (e || nat_lt 0 (length xs)) (opened b x j.part)) (elements_of true e xs ps))
    ∙ ap (λ (l : List (List ℕ)). j.ready ++ l)
    (element-step x b (e || nat_lt 0 (length xs)) j.part (elements_of true e xs ps))

missing-step : (o : Option (List ℕ)) (ps : List Piece) → searched ps ≡ to_come o (Missing ∷ ps)
missing-step None ps = refl
missing-step (Some a) ps = refl

none-left : (o : Option (List ℕ)) → [] ≡ to_come o []
none-left None = refl
none-left (Some a) = refl

numbers-step : (ss : List (Option Parts)) (j : Joined)
    → (with_numbers ss j).ready ≡ j.ready ++ to_come j.part (pieces ss)
numbers-step [] j = sym (append-nil j.ready) ∙ ap (λ (l : List (List ℕ)). j.ready ++ l) (none-left j.part)
numbers-step (None ∷ ss) j = numbers-step ss (with_number None j)
    ∙ ap (λ (l : List (List ℕ)). j.ready ++ l) (missing-step j.part (pieces ss))
numbers-step (Some p ∷ ss) j = numbers-step ss (with_number (Some p) j)
    ∙ elements-step p.elements p.begins p.ends j (pieces ss)

pub search_is : (ss : List (Option Parts)) → IsSearch ss
search_is ss = numbers-step ss nothing_joined
