use Rattle.text_digits.proofs.Values.{least-values}
use Rattle.text_digits.proofs.reading.values.Goals as goal

pub returns : goal.returns
returns c =
    rw (c.number_values.ensures, c.letter_values.ensures) (least-values c.args.letters c.args.digits c.fits-digits.1)
