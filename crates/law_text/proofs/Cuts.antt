use Rattle.std.proofs.Common.{◌≡◌, ◌==◌, ◌∙◌, ℕ, List, [], ◌∷◌, ◌++◌, ap, refl, sym, true, false, if◌then◌else◌}
use Rattle.std.proofs.Common.{append_assoc, append-nil}
use Rattle.air_record.specs.Text.{worded, ended}
use Rattle.law_text.specs.Back.{cut}
use Rattle.air_text.specs.Spoken.{is_clear, are_clear}

pub cut-word : (w acc rest : List ℕ) → is_clear w ≡ true → cut acc (w ++ rest) ≡ cut (acc ++ w) rest
unfolding cut
cut-word [] acc rest h = ap (λ (a : List ℕ). cut a rest) (sym (append-nil acc))
cut-word (x ∷ xs) acc rest h =
    elim (x == 10) as (λ b. (if b then false else if x == 32 then false else is_clear xs) ≡ true
    → (if b then acc ∷ [] else if x == 32 then acc ∷ cut [] (xs ++ rest) else cut (acc ++ x ∷ []) (xs ++ rest))
    ≡ cut (acc ++ x ∷ xs) rest) [
      | true ↦ λ f. cc
      | false ↦ elim (x == 32) as (λ b. (if b then false else is_clear xs) ≡ true
          → (if b then acc ∷ cut [] (xs ++ rest) else cut (acc ++ x ∷ []) (xs ++ rest)) ≡ cut (acc ++ x ∷ xs) rest) [
            | true ↦ λ f. cc
            | false ↦ λ f. cut-word xs (acc ++ x ∷ []) rest f
                ∙ ap (λ (a : List ℕ). cut a rest) (append_assoc acc (x ∷ []) xs)
          ]
    ] h

first-clear : (w : List ℕ) (ws : List (List ℕ)) → are_clear (w ∷ ws) ≡ true → is_clear w ≡ true
first-clear w ws h = elim (is_clear w) as (λ b. (if b then are_clear ws else false) ≡ true → b ≡ true) [
  | true ↦ λ f. refl
  | false ↦ λ f. f
] h

others-clear : (w : List ℕ) (ws : List (List ℕ)) → are_clear (w ∷ ws) ≡ true → are_clear ws ≡ true
others-clear w ws h = elim (is_clear w) as (λ b. (if b then are_clear ws else false) ≡ true → are_clear ws ≡ true) [
  | true ↦ λ f. f
  | false ↦ λ f. cc
] h

-- the words behind a word that was begun
cut-ended : (w acc : List ℕ) (ws : List (List ℕ)) → is_clear w ≡ true → are_clear ws ≡ true
    → cut acc (w ++ ended ws) ≡ (acc ++ w) ∷ ws
unfolding cut
cut-ended w acc [] h g = cut-word w acc (10 ∷ []) h
cut-ended w acc (v ∷ ws) h g =
    cut-word w acc (32 ∷ (v ++ ended ws)) h
    ∙ ap (λ (r : List (List ℕ)). (acc ++ w) ∷ r) (cut-ended v [] ws (first-clear v ws g) (others-clear v ws g))

-- the words of a text are those that it was made of
pub cut-text : (w : List ℕ) (ws : List (List ℕ)) → are_clear (w ∷ ws) ≡ true → cut [] (worded (w ∷ ws)) ≡ w ∷ ws
cut-text w ws h = cut-ended w [] ws (first-clear w ws h) (others-clear w ws h)
