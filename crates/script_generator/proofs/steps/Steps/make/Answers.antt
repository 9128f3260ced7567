use Rattle.std.proofs.Common.{◌∙◌, sym}
use Rattle.script_generator.proofs.Making.{step_made, ending_made}
use Rattle.script_generator.proofs.steps.Steps.make.Goals as goal

pub returns-then-left-eq0-clause-made : goal.returns-then-left-eq0-clause-made
returns-then-left-eq0-clause-made c =
    sym c.self.view_is ∙ ending_made _ _ _ _ _ c.in-Some.is c.if-left-eq0.true c.put_ending.ensures

pub returns-clause-made : goal.returns-clause-made
returns-clause-made c =
    sym c.self.view_is ∙ step_made _ _ _ _ _ _ c.in-Some.is c.if-left-eq0.false c.put_step.ensures.items
    c.put_step.ensures.draws
