use Rattle.std.proofs.Common.{arith, rules}
use Rattle.script_generator.proofs.Stepping.{from-end, from-more}
use Rattle.script_generator.proofs.lines.give_step.Goals as goal

pub returns-then-at-eq2000-clause-line : goal.returns-then-at-eq2000-clause-line
returns-then-at-eq2000-clause-line c = from-end _ _ c.if-at-eq2000.true

pub returns-in-Some-clause-line : goal.returns-in-Some-clause-line
returns-in-Some-clause-line c =
    let more = from-more c.args.at.now c.args.draws.now (omega arith) in search (rules, more)

pub returns-in-None-clause-line : goal.returns-in-None-clause-line
returns-in-None-clause-line c =
    let more = from-more c.args.at.now c.args.draws.now (omega arith) in search (rules, more)
