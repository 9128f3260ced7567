use Rattle.std.proofs.Common.{◌<◌, ◌^◌, ◌∙◌, ◌++◌, sym, ap, map}
use Rattle.std.specs.Fmt.{decimal}
use Rattle.journal_text.specs.Pieces.{left, text_in}
use Rattle.journal_text.proofs.Steps.{numbers_step, texts_step, all_step, lens_whole}
use Rattle.journal_text.proofs.lists.lens.Goals as goal

pub loop-rest-preserved : goal.loop-rest-preserved
loop-rest-preserved c =
    let next = ap (λ o. left 44 (text_in o)) c.in-Some.is ∙ c.split.ensures.pieces in
    let n = c.in_ok-number.field-0 in
    rw c.in_ok-push.ensures.ok (record {
      read = numbers_step c.loop-rest.lens n _ _ _ _ next c.in_ok-number.ensures.value c.loop-rest.invariant.read;
      written =
          texts_step decimal c.loop-rest.lens n _ _ _ _ next c.in_ok-number.ensures.text.0
          c.loop-rest.invariant.written;
      small =
          all_step (λ m. m < 2 ^ 32) c.loop-rest.lens n c.loop-rest.invariant.small c.in_ok-number.ensures.text.1;
    })

pub returns-clause-text : goal.returns-clause-text
returns-clause-text c =
    let e = ap (λ o. map decimal c.loop-rest.lens ++ left 44 (text_in o)) (sym c.in_default.is)
    ∙ c.loop-rest.invariant.written in
    let p = lens_whole c.loop-rest.lens c.args.text.now e in
    (p.0, (p.1, c.loop-rest.invariant.small))
