use Rattle.law_text.proofs.Cuts.{cut-text}
use Rattle.law_text.proofs.laws.words_of_text.Goals as goal

pub returns : goal.returns
returns c = cut-text
