use Rattle.std.proofs.Common.{◌∙◌, ◌++◌, sym, ap, map}
use Rattle.air_record.specs.Text.{nack_text}
use Rattle.journal_text.specs.Pieces.{left, text_in}
use Rattle.journal_text.specs.Records.{IsNack}
use Rattle.journal_text.proofs.Steps.{entries_step, texts_step, all_step, nacks_whole}
use Rattle.journal_text.proofs.lists.nacks.Goals as goal

pub loop-rest-preserved : goal.loop-rest-preserved
loop-rest-preserved c =
    let next = ap (λ o. left 44 (text_in o)) c.in-Some.is ∙ c.split.ensures.pieces in
    let n = c.in_ok-nack.field-0 in
    rw c.in_ok-push.ensures.ok (record {
      read = entries_step c.loop-rest.nacks n _ _ _ _ next c.in_ok-nack.ensures.value c.loop-rest.invariant.read;
      written =
          texts_step nack_text c.loop-rest.nacks n _ _ _ _ next c.in_ok-nack.ensures.text.0
          c.loop-rest.invariant.written;
      good = all_step IsNack c.loop-rest.nacks n c.loop-rest.invariant.good c.in_ok-nack.ensures.text.1;
    })

pub returns-clause-text : goal.returns-clause-text
returns-clause-text c =
    let e = ap (λ o. map nack_text c.loop-rest.nacks ++ left 44 (text_in o)) (sym c.in_default.is)
    ∙ c.loop-rest.invariant.written in
    (nacks_whole c.loop-rest.nacks c.args.text.now e, c.loop-rest.invariant.good)
