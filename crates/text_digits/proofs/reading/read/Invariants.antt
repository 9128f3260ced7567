use Rattle.std.proofs.Common.{◌≡◌, length}
use Rattle.text_digits.specs.Pairs.{pairs, onto}
use Rattle.text_digits.proofs.reading.read.Given as goal

abbrev pub invariant-loop-rest : goal.invariant-loop-rest
invariant-loop-rest l = record { read : pairs l.fn.letters l.fn.text ≡ onto l.octets (pairs l.fn.letters l.rest) }

abbrev pub decreases-loop-rest : goal.decreases-loop-rest
decreases-loop-rest l = length l.rest
