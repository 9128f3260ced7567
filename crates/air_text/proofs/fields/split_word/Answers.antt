use Rattle.std.proofs.Common.{◌∙◌, sym, rules}
use Rattle.air_text.proofs.Splits.{one-word, first-word}
use Rattle.air_text.proofs.fields.split_word.Goals as goal

pub returns-in-None : goal.returns-in-None
returns-in-None c = sym c.without_spaces-text.ensures.words ∙ one-word _ (search rules) c.in-None.ensures

pub returns-in-Some : goal.returns-in-Some
returns-in-Some c = sym c.without_spaces-text.ensures.words
    ∙ rw (c.split_at.ensures.front, c.split_at.ensures.back)
    (first-word _ _ c.without_spaces-text.ensures.begins c.in-Some.ensures)
