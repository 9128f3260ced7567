use Rattle.std.proofs.Common.{ap}
use Rattle.cell_run.specs.Terminals.{Terminal}
use Rattle.cell_run.proofs.Stepping.{tti-leaves}
use Rattle.cell_run.proofs.terminal.Terminal.tti.Goals as goal

pub returns-clause-after : goal.returns-clause-after
returns-clause-after g c =
    (tti-leaves c.args.user c.args.up_grant c.args.down_grant c.self.inside.up c.self.inside.down c.args.self.now
    c.step.new.self _ _ _ c.step.result (ap (λ (t : Terminal). t.up) c.self.view_is)
    (ap (λ (t : Terminal). t.down) c.self.view_is) c.step.ensures.step).0

pub returns-clause-put : goal.returns-clause-put
returns-clause-put g c =
    (tti-leaves c.args.user c.args.up_grant c.args.down_grant c.self.inside.up c.self.inside.down c.args.self.now
    c.step.new.self _ _ _ c.step.result (ap (λ (t : Terminal). t.up) c.self.view_is)
    (ap (λ (t : Terminal). t.down) c.self.view_is) c.step.ensures.step).1
