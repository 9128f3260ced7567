use Rattle.law_text.proofs.Texts.{back-text}
use Rattle.law_text.proofs.laws.texts_are_read.Goals as goal

pub returns : goal.returns
returns c = back-text
