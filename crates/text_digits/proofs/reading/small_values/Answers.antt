use Rattle.text_digits.proofs.Values.{smalls}
use Rattle.text_digits.proofs.reading.small_values.Goals as goal

pub returns : goal.returns
returns c = smalls 64 c.args.digits c.fits-digits.0 c.fits-digits.1
