use Rattle.journal_text.proofs.Whole.{one_of}
use Rattle.journal_text.proofs.laws.texts_have_one.Goals as goal

pub returns : goal.returns
returns c = one_of
