use Rattle.std.proofs.Common.{◌≡◌, ◌+◌, refl, arith}
use Rattle.cell_run.proofs.Stepping.{acts-own}
use Rattle.cell_run.proofs.terminal.Terminal.step.Goals as goal

pub returns-in-Ok-clause-step : goal.returns-in-Ok-clause-step
returns-in-Ok-clause-step g c =
    let number : c.in-Some.number ≡ c.self.inside.lines + 1 = grind (arith, c.in-Some.ensures) in
    rw (← c.self.view_is)
    (acts-own c.args.user c.args.line.now _ _ _ _ c.step.new.out.octets c.self.inside.run c.step.new.self _ _
    c.in-Ok.field-0 c.put_numbered.result refl
    (rw (number, c.clear.ensures) at c.in-Ok.ensures.step)
    (rw number refl) c.put_numbered.ensures.put)
