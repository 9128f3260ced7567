use Rattle.journal_text.proofs.OwnLines.{own_lines}
use Rattle.journal_text.proofs.laws.lines_are_own.Goals as goal

pub returns : goal.returns
returns c = own_lines
