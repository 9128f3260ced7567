use Rattle.std.proofs.Common.{rules}
use Rattle.eps_sec.specs.Modes.{double}
use Rattle.eps_sec.proofs.integrity.double.Goals as goal

pub returns-then-n-lt-HALF : goal.returns-then-n-lt-HALF
unfolding double
returns-then-n-lt-HALF c = search rules

pub returns-else-n-lt-HALF : goal.returns-else-n-lt-HALF
unfolding double
returns-else-n-lt-HALF c = search rules
