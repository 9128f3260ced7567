use Rattle.script_generator.proofs.Saying.{say-script}
use Rattle.script_generator.proofs.laws.script_says_its_lines.Goals as goal

pub returns : goal.returns
returns c = say-script
