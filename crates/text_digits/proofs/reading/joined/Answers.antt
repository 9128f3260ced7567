use Rattle.text_digits.proofs.PairLaws.{joined-lanes}
use Rattle.text_digits.proofs.reading.joined.Goals as goal

pub returns : goal.returns
returns c = joined-lanes 32 c.args.values c.fits-values.0 c.fits-values.1
