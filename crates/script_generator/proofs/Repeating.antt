-- The digits of the same octet, again and again.
use Rattle.std.proofs.Common.{◌≡◌, ◌<◌, ◌+◌, ◌*◌, ◌/◌, ◌%◌, ℕ, List, [], ◌∷◌, ◌++◌, length, refl, ap, take, set}
use Rattle.std.proofs.Common.{replicate, sym, ◌∙◌, append_assoc, arith}
use Rattle.std.specs.Prelude.{slice_index}
use Rattle.std.proofs.lemmas.List.{take_more_set, length-set, replicate-append-replicate}
use Rattle.hex.specs.Hex.{encode_with, encode_lower, lower_digits}

encode-append : (t a b : List ℕ) → encode_with t (a ++ b) ≡ encode_with t a ++ encode_with t b
unfolding encode_with
encode-append t [] b = refl
encode-append t (x ∷ a) b =
    ap (λ (rest : List ℕ). slice_index t (x / 16) ∷ slice_index t (x % 16) ∷ rest) (encode-append t a b)

-- two more places of a list are written
two-more : (xs : List ℕ) (i a b : ℕ) → 2 * i + 1 < length xs
    → take (2 * (i + 1)) (set (set xs (2 * i) a) (2 * i + 1) b) ≡ take (2 * i) xs ++ a ∷ b ∷ []
two-more xs i a b inside =
    let one : List ℕ = set xs (2 * i) a in
    let twice : 2 * (i + 1) ≡ 2 * i + 1 + 1 = omega arith in
    let len : length one ≡ length xs = length-set xs (2 * i) a in
    rw twice (take_more_set one (2 * i + 1) b (omega (arith, len, inside))
    ∙ ap (λ (t : List ℕ). t ++ b ∷ []) (take_more_set xs (2 * i) a (omega (arith, inside)))
    ∙ append_assoc (take (2 * i) xs) (a ∷ []) (b ∷ []))

pair-is : (o : ℕ) (pair : List ℕ) → pair ≡ encode_lower (o ∷ [])
    → slice_index pair 0 ∷ slice_index pair 1 ∷ [] ≡ encode_lower (o ∷ [])
unfolding encode_with
pair-is o pair is = rw is refl

pub same-more : (digits pair : List ℕ) (o i : ℕ) → 2 * i + 1 < length digits → pair ≡ encode_lower (o ∷ [])
    → take (2 * i) digits ≡ encode_lower (replicate i o)
    → take (2 * (i + 1)) (set (set digits (2 * i) (slice_index pair 0)) (2 * i + 1) (slice_index pair 1))
    ≡ encode_lower (replicate (i + 1) o)
same-more digits pair o i inside is so-far =
    two-more digits i (slice_index pair 0) (slice_index pair 1) inside
    ∙ ap (λ (t : List ℕ). t ++ slice_index pair 0 ∷ slice_index pair 1 ∷ []) so-far
    ∙ ap (λ (t : List ℕ). encode_lower (replicate i o) ++ t) (pair-is o pair is)
    ∙ sym (encode-append lower_digits (replicate i o) (o ∷ []))
    ∙ ap encode_lower (replicate-append-replicate i 1 o)

pub none-yet : (o : ℕ) → [] ≡ encode_lower (replicate 0 o)
unfolding encode_with
none-yet o = refl
