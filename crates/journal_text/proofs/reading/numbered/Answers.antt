use Rattle.std.proofs.Common.{rules, subst, sym}
use Rattle.air_record.specs.declared.record.Record.TheVariants.{Line}
use Rattle.journal_text.specs.Records.{HasText}
use Rattle.journal_text.proofs.Whole.{own_line}
use Rattle.journal_text.proofs.reading.numbered.Goals as goal

pub returns-clause-text : goal.returns-clause-text
returns-clause-text c =
    let number = c.in_ok-number.number in
    subst (λ line. HasText c.args.text.now (Line number line)) (sym c.in_ok-new.ensures)
    (own_line c.args.text.now c.args.place.now c.args.script.now number c.in_ok-line.line c.requires
    c.in_ok-number.ensures.text.0 c.in_ok-number.ensures.text.1 c.in_ok-line.ensures (search rules))
