use Rattle.std.proofs.Common.{◌≡◌, length}
use Rattle.air_text.specs.Words.{words_of}
use Rattle.air_text.proofs.fields.without_spaces.Given as goal

abbrev pub invariant-loop-text : goal.invariant-loop-text
invariant-loop-text l = words_of l.text ≡ words_of l.fn.text

abbrev pub decreases-loop-text : goal.decreases-loop-text
decreases-loop-text l = length l.text
