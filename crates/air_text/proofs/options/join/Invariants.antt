use Rattle.std.proofs.Common.{◌≡◌, ◌++◌, length}
use Rattle.air_text.specs.Words.{texts, spaced, joined}
use Rattle.air_text.proofs.options.join.Given as goal

abbrev pub invariant-loop-words : goal.invariant-loop-words
invariant-loop-words l = l.text ++ spaced (texts l.words) ≡ joined (texts l.fn.words)

abbrev pub decreases-loop-words : goal.decreases-loop-words
decreases-loop-words l = length l.words
