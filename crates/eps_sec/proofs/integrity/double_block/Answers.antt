use Rattle.std.proofs.Common.{ap, ◌∙◌}
use Rattle.std.specs.Int.{w128, to_be_bytes}
use Rattle.eps_sec.specs.Modes.{double, double_block}
use Rattle.eps_sec.proofs.integrity.double_block.Goals as goal

pub returns : goal.returns
unfolding double_block
returns c = c.to_be_bytes.ensures ∙ ap (to_be_bytes w128) (c.double.ensures ∙ ap double c.from_be_bytes.ensures)
