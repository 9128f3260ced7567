use Rattle.std.proofs.Common.{◌%◌, get_or, refl, arith, bit_and}
use Rattle.std.proofs.lemmas.Nat.{and_le_r}
use Rattle.std.proofs.lemmas.Simd.{zip2_splat}
use Rattle.text_digits.specs.Pairs.{low_digit}
use Rattle.text_digits.specs.declared.hexadecimal.TheConstants.{DIGITS}
use Rattle.hex.specs.Hex.{lower_digits}
use Rattle.text_digits.proofs.Lanes.{low_ok, looked_up, agree}
use Rattle.text_digits.proofs.hexadecimal.low_digits.Goals as goal

pub swizzle : goal.swizzle
swizzle c = low_ok 4 64 c.args.octets refl c.fits-octets.0

pub returns : goal.returns
returns c =
    let v = c.args.octets in
    looked_up 4 64 DIGITS lower_digits (λ x. bit_and x 15) low_digit v _ refl c.fits-octets.0 c.fits-octets.1
    (zip2_splat bit_and v 64 15 c.fits-octets.0) (λ x h. omega (arith, and_le_r x 15))
    (agree (λ k. get_or DIGITS k 0) (λ k. get_or lower_digits (k % 16) 0) 64 refl)
    (agree (λ x. get_or lower_digits (bit_and x 15) 0) low_digit 256 refl)
