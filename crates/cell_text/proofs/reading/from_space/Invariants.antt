use Rattle.std.proofs.Common.{◌≡◌, length}
use Rattle.cell_text.specs.Reading.{from_space}
use Rattle.cell_text.proofs.reading.from_space.Given as goal

abbrev pub invariant-loop-text : goal.invariant-loop-text
invariant-loop-text l = from_space l.text ≡ from_space l.fn.text

abbrev pub decreases-loop-text : goal.decreases-loop-text
decreases-loop-text l = length l.text
