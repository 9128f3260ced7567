use Rattle.std.proofs.Common.{replicate, refl}
use Rattle.text_digits.proofs.Written.{both-stored}
use Rattle.text_digits.proofs.hexadecimal.lanes.Goals as goal

pub returns : goal.returns
returns c = both-stored 64 (replicate 128 0) c.args.first c.args.second refl c.fits-first.0 c.fits-second.0
