use Rattle.std.proofs.Common.{◌/◌, ◌%◌, get_or, refl, arith}
use Rattle.std.proofs.lemmas.Simd.{zip2_splat}
use Rattle.text_digits.specs.Pairs.{high_digit}
use Rattle.text_digits.specs.declared.hexadecimal.TheConstants.{DIGITS}
use Rattle.hex.specs.Hex.{lower_digits}
use Rattle.text_digits.proofs.Lanes.{down, high_ok, looked_up, agree}
use Rattle.text_digits.proofs.hexadecimal.high_digits.Goals as goal

pub swizzle : goal.swizzle
swizzle c = high_ok 4 64 c.args.octets refl c.fits-octets.0 c.fits-octets.1

pub returns : goal.returns
returns c =
    let v = c.args.octets in
    looked_up 4 64 DIGITS lower_digits (λ x. x / 16) high_digit v _ refl c.fits-octets.0 c.fits-octets.1
    (zip2_splat down v 64 4 c.fits-octets.0) (λ x h. omega arith)
    (agree (λ k. get_or DIGITS k 0) (λ k. get_or lower_digits (k % 16) 0) 64 refl) (λ x h. refl)
