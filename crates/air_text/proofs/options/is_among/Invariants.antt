use Rattle.std.proofs.Common.{◌≡◌, length}
use Rattle.air_text.specs.Words.{texts, is_named}
use Rattle.air_text.proofs.options.is_among.Given as goal

abbrev pub invariant-loop-words : goal.invariant-loop-words
invariant-loop-words l = is_named l.name (texts l.words) ≡ is_named l.name (texts l.fn.words)

abbrev pub decreases-loop-words : goal.decreases-loop-words
decreases-loop-words l = length l.words
