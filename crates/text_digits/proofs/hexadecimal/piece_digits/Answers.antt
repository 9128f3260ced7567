use Rattle.std.proofs.Common.{◌≡◌, ◌/◌, ◌%◌, List, ℕ, get_or, take, length, map, bit_and, replicate, w8, refl, ap, ◌∙◌}
use Rattle.std.proofs.Common.{arith}
use Rattle.std.proofs.lemmas.List.{take_all}
use Rattle.std.proofs.lemmas.Nat.{and_le_r}
use Rattle.std.proofs.lemmas.Simd.{zip2_splat, chunk-fits}
use lib.Lanes.{zip2}
use Rattle.hex.specs.Hex.{lower_digits}
use Rattle.text_digits.specs.Pairs.{high_digit, low_digit}
use Rattle.text_digits.specs.declared.hexadecimal.TheConstants.{DIGITS}
use Rattle.text_digits.proofs.Lanes.{down, high_ok, low_ok, looked_up, agree}
use Rattle.text_digits.proofs.Written.{by-turns, turns}
use Rattle.text_digits.proofs.hexadecimal.piece_digits.Goals as goal

pub swizzle-high : goal.swizzle-high
swizzle-high c =
    let whole = take_all 16 c.args.piece.now (omega (arith, c.requires)) in
    high_ok 1 16 (take 16 c.args.piece.now) refl (ap length whole ∙ c.requires)
    (chunk-fits w8 0 16 c.args.piece.now c.type_inv.piece)

pub swizzle-low : goal.swizzle-low
swizzle-low c =
    let whole = take_all 16 c.args.piece.now (omega (arith, c.requires)) in
    low_ok 1 16 (take 16 c.args.piece.now) refl (ap length whole ∙ c.requires)

pub returns : goal.returns
returns c =
    let v : List ℕ = take 16 c.args.piece.now in
    let t : List ℕ = take 16 DIGITS in
    let whole : v ≡ c.args.piece.now = take_all 16 c.args.piece.now (omega (arith, c.requires)) in
    let long : length v ≡ 16 = ap length whole ∙ c.requires in
    let fits = chunk-fits w8 0 16 c.args.piece.now c.type_inv.piece in
    let repeats = agree (λ k. get_or t k 0) (λ k. get_or lower_digits (k % 16) 0) 16 refl in
    let high = looked_up 1 16 t lower_digits (λ x. x / 16) high_digit v (zip2 down v (replicate 16 4)) refl long fits
    (zip2_splat down v 16 4 long) (λ x h. omega arith) repeats (λ x h. refl) in
    let low = looked_up 1 16 t lower_digits (λ x. bit_and x 15) low_digit v (zip2 bit_and v (replicate 16 15)) refl
    long fits (zip2_splat bit_and v 16 15 long) (λ x h. omega (arith, and_le_r x 15)) repeats
    (agree (λ x. get_or lower_digits (bit_and x 15) 0) low_digit 256 refl) in
    by-turns 16 c.args.piece.now _ _ (turns 16 0 8) (turns 16 8 8) c.requires (high ∙ ap (map high_digit) whole)
    (low ∙ ap (map low_digit) whole) refl refl refl
