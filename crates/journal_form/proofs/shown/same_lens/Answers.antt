use Rattle.std.specs.Prelude.{nat_eq}
use Rattle.std.proofs.lemmas.Bool.{eq-eqb}
use Rattle.journal_form.proofs.Lists.{goes_on}
use Rattle.journal_form.proofs.shown.same_lens.Goals as goal

pub loop-at-preserved : goal.loop-at-preserved
loop-at-preserved c =
    goes_on nat_eq c.args.lens.now c.args.own_lens.now c.loop-at.at c.len_at.result c.len_at-in-loop-at.result
    c.len_at.ensures c.len_at-in-loop-at.ensures c.loop-at.invariant
    (eq-eqb c.len_at.result c.len_at-in-loop-at.result c.if-len_at.false)
