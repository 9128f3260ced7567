use Rattle.law_text.proofs.Texts.{one-text}
use Rattle.law_text.proofs.laws.one_text.Goals as goal

pub returns : goal.returns
returns c = one-text
