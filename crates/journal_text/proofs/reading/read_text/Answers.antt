use Rattle.std.proofs.Common.{◌∷◌, ◌∙◌, ◌<◌, ◌≤◌, ap, rules, subst, sym, length, arith}
use Rattle.air_text.specs.Words.{texts}
use Rattle.journal_text.specs.Answers.{Gives}
use Rattle.journal_text.specs.Pieces.{left, parts, text_in}
use Rattle.journal_text.specs.Reading.{words_of}
use Rattle.air_record.specs.Text.{worded}
use Rattle.journal_text.proofs.Cuts.{texts-long}
use Rattle.journal_text.proofs.Parts.{parts_again, parts_few, gives_all}
use Rattle.journal_text.proofs.Whole.{many_none, none_of, said_text, words_read}
use Rattle.journal_text.proofs.reading.read_text.Goals as goal

pub returns-then-not-add_words-clause-none : goal.returns-then-not-add_words-clause-none
returns-then-not-add_words-clause-none c = λ e one h.
    let first = c.split.result.0.now in
    let rest = text_in c.split.result.1 in
    let more : 8 < length (first ∷ parts 32 c.searched.result rest) =
    c.add_words.ensures.more c.if-not-add_words.true in
    let long : 8 < length (first ∷ left 32 rest) = omega (arith, more, parts_few c.searched.result rest) in
    many_none c.args.text.now (search rules)
    (subst (λ ws. 8 < length ws) (sym c.split.ensures.pieces) long) one h

pub returns-clause-record : goal.returns-clause-record
returns-clause-record c =
    let first = c.split.result.0.now in
    let rest = text_in c.split.result.1 in
    let words = ap texts c.as_slice.ensures.value ∙ c.add_words.ensures.all c.if-not-add_words.false in
    said_text _ c.args.text.now _
    (ap worded words ∙ parts_again first c.args.text.now c.searched.result rest c.split.ensures.whole)
    c.record.ensures.text

pub returns-clause-none : goal.returns-clause-none
returns-clause-none c =
    let first = c.split.result.0.now in
    let rest = text_in c.split.result.1 in
    let words = ap texts c.as_slice.ensures.value ∙ c.add_words.ensures.all c.if-not-add_words.false in
    let few : length (first ∷ parts 32 c.searched.result rest) ≤ 8 =
    subst (λ ws. length ws ≤ 8) words (omega (arith, texts-long c.as_slice.result.now, c.as_slice.ensures.fits)) in
    let gives : Gives c.record.result (words_of (first ∷ parts 32 c.searched.result rest)) =
    subst (λ ws. Gives c.record.result (words_of ws)) words c.record.ensures.record in
    none_of _ c.args.text.now
    (words_read _ c.args.text.now _ (search rules) (sym c.split.ensures.pieces)
    (gives_all c.record.result first rest
    (subst (λ n. length (first ∷ parts 32 n rest) ≤ 8) c.searched.ensures few)
    (subst (λ n. Gives c.record.result (words_of (first ∷ parts 32 n rest))) c.searched.ensures gives)))
