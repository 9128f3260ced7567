use Rattle.std.proofs.Common.{refl}
use Rattle.text_digits.proofs.Values.{of-either}
use Rattle.text_digits.proofs.reading.letter_values.Goals as goal
use Rattle.text_digits.proofs.reading.letter_values.Goals.{in-Either, in-Lower}

pub returns : goal.returns
returns c = elim c.match-letters.branch [
  | in-Either w ↦ rw (w.result-is, w.small_values.ensures, w.in-Either.is)
      (of-either 64 c.args.digits c.fits-digits.0)
  | in-Lower w ↦ rw (w.result-is, w.small_values-in-Lower.ensures, w.in-Lower.is) refl
]
