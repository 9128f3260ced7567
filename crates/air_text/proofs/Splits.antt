-- The first word of a text.
use Rattle.std.proofs.Common.{◌≡◌, ◌≢◌, ◌<◌, ◌+◌, ◌==◌, ◌∙◌, ℕ, zero, suc, true, false, List, [], ◌∷◌, ◌++◌, length}
use Rattle.std.proofs.Common.{take, drop, slice_index, Some, None, refl, ap, arith, append_assoc, append-nil}
use Rattle.std.proofs.lemmas.Grind.{common_steps}
use Rattle.memchr.specs.Find.{IsFirstByte, is_byte}
use Rattle.air_text.specs.Words.{words_behind, words_of}

-- no space stands in a text
abbrev pub HasNoSpace : List ℕ → Type 0
HasNoSpace xs = (k : ℕ) → k < length xs → slice_index xs k ≢ 32

rest-free : (x : ℕ) (xs : List ℕ) → HasNoSpace (x ∷ xs) → HasNoSpace xs
rest-free x xs free k inside = free (suc k) (omega (arith, inside))

-- a word that the text's end ends
whole-word : (cur xs : List ℕ) → HasNoSpace xs → 0 < length cur + length xs → words_behind cur xs ≡ (cur ++ xs) ∷ []
whole-word cur [] free some =
    let full : (length cur == 0) ≡ false = grind (arith, some) in rw (full, append-nil cur) refl
whole-word cur (x ∷ xs) free some =
    let no : (x == 32) ≡ false = grind (arith, free 0 (omega arith)) in
    rw no (whole-word (cur ++ x ∷ []) xs (rest-free x xs free) (grind (arith, common_steps))
    ∙ ap (λ (w : List ℕ). w ∷ []) (append_assoc cur (x ∷ []) xs))

-- a word that a space ends
cut-word : (at : ℕ) (cur xs : List ℕ) → at < length xs → slice_index xs at ≡ 32
    → ((k : ℕ) → k < at → slice_index xs k ≢ 32) → 0 < length cur + at
    → words_behind cur xs ≡ (cur ++ take at xs) ∷ words_behind [] (drop at xs)
cut-word at cur [] inside space free some = absurd (omega (arith, inside))
cut-word zero cur (x ∷ xs) inside space free some =
    let full : (length cur == 0) ≡ false = grind (arith, some) in
    let yes : (x == 32) ≡ true = grind (arith, space) in
    rw (yes, full, append-nil cur) refl
cut-word (suc at) cur (x ∷ xs) inside space free some =
    let no : (x == 32) ≡ false = grind (arith, free 0 (omega arith)) in
    rw no (cut-word at (cur ++ x ∷ []) xs (omega (arith, inside)) space (λ k less. free (suc k) (omega (arith, less)))
    (grind (arith, common_steps))
    ∙ ap (λ (w : List ℕ). w ∷ words_behind [] (drop at xs)) (append_assoc cur (x ∷ []) (take at xs)))

pub no-word : (text : List ℕ) → length text ≡ 0 → words_of text ≡ []
no-word [] none = refl
no-word (x ∷ xs) none = absurd (omega (arith, none))

pub one-word : (text : List ℕ) → 0 < length text → IsFirstByte (is_byte 32) text None → words_of text ≡ text ∷ []
one-word text some first =
    whole-word [] text (λ k inside is. first k (omega arith) inside (grind (arith, is))) (omega (arith, some))

pub first-word : (text : List ℕ) (at : ℕ) → slice_index text 0 ≢ 32 → IsFirstByte (is_byte 32) text (Some at)
    → words_of text ≡ take at text ∷ words_of (drop at text)
first-word text zero begins first = absurd (begins (grind (arith, first.1)))
first-word text (suc at) begins first =
    cut-word (suc at) [] text first.0.high (grind (arith, first.1))
    (λ k less is. first.0.before k (omega arith) less (grind (arith, is))) (omega arith)
