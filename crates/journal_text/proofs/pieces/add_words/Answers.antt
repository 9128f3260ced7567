use Rattle.std.proofs.Common.{◌≡◌, ◌∷◌, ◌++◌, ◌+◌, ◌-◌, length, arith, subst}
use Rattle.std.proofs.lemmas.Bool.Decides.{nat_tests}
use Rattle.air_text.specs.Words.{texts}
use Rattle.journal_text.specs.Pieces.{parts, text_in}
use Rattle.journal_text.proofs.Cuts.{beyond_full}
use Rattle.journal_text.proofs.pieces.add_words.Goals as goal

pub returns-then-is_full-clause-more : goal.returns-then-is_full-clause-more
returns-then-is_full-clause-more c same =
    let words = c.loop-rest.words.items in
    let n = c.args.searched + 1 - length words in
    let all = c.args.first.now ∷ parts 32 c.args.searched (text_in c.args.others) in
    let whole = subst (λ rest. texts words ++ parts 32 n (text_in rest) ≡ all) c.in-Some.is c.loop-rest.invariant.cut in
    let full : length words ≡ 8 = grind (arith, nat_tests, c.is_full.ensures.value, c.if-is_full.true) in
    beyond_full n words c.in-Some.text.now all whole full
