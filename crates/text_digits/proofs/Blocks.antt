-- The digits of octets, block by block.
use Rattle.std.proofs.Common.{◌≡◌, ◌/◌, ◌%◌, ℕ, List, [], ◌∷◌, ◌++◌, refl, ap, take, drop, sym}
use Rattle.std.proofs.Common.{◌∙◌, ◌*◌, ◌<◌, length, append_assoc, append-nil, arith}
use Rattle.std.proofs.Math.Seq.{take-append_seam}
use Rattle.hex.proofs.HexLemmas.{length-encode_with}
use Rattle.std.specs.Prelude.{slice_index}
use Rattle.std.proofs.lemmas.List.{take-append-drop}
use Rattle.hex.specs.Hex.{encode_with, encode_lower, lower_digits}

encode-append : (t a b : List ℕ) → encode_with t (a ++ b) ≡ encode_with t a ++ encode_with t b
unfolding encode_with
encode-append t [] b = refl
encode-append t (x ∷ a) b =
    ap (λ (rest : List ℕ). slice_index t (x / 16) ∷ slice_index t (x % 16) ∷ rest) (encode-append t a b)

-- a block's digits, and then those of what is behind it
pub block-written : (k : ℕ) (text rest : List ℕ)
    → (text ++ encode_lower (take k rest)) ++ encode_lower (drop k rest) ≡ text ++ encode_lower rest
block-written k text rest =
    append_assoc text (encode_lower (take k rest)) (encode_lower (drop k rest))
    ∙ ap (λ (t : List ℕ). text ++ t) (sym (encode-append lower_digits (take k rest) (drop k rest))
    ∙ ap encode_lower (take-append-drop k rest))

-- the digits of the first octets come first
pub encode-front : (few fill : List ℕ) → take (2 * length few) (encode_lower (few ++ fill)) ≡ encode_lower few
encode-front few fill =
    ap (λ (n : ℕ). take n (encode_lower (few ++ fill))) (sym (length-encode_with lower_digits few))
    ∙ (ap (λ (digits : List ℕ). take (length (encode_lower few)) digits) (encode-append lower_digits few fill)
    ∙ take-append_seam (encode_lower few) (encode_lower fill))

pub none-written : (text few : List ℕ) → length few < 1 → text ≡ text ++ encode_lower few
unfolding encode_with
none-written text [] h = sym (append-nil text)
none-written text (x ∷ xs) h = absurd (omega (arith, h))
