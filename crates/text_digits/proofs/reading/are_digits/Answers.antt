use Rattle.std.proofs.Common.{arith}
use Rattle.text_digits.proofs.Values.{are-digits}
use Rattle.text_digits.proofs.reading.are_digits.Goals as goal

pub returns : goal.returns
returns c = are-digits 64 c.args.values c.fits-values.0 (omega arith)
