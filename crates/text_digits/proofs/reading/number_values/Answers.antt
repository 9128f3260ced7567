use Rattle.text_digits.proofs.Values.{numbers}
use Rattle.text_digits.proofs.reading.number_values.Goals as goal

pub returns : goal.returns
returns c = numbers 64 c.args.digits c.fits-digits.0 c.fits-digits.1
