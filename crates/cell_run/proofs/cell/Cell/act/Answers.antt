use Rattle.cell_run.proofs.Endings.{acts-cell}
use Rattle.cell_run.proofs.cell.Cell.act.Goals as goal

pub returns-in-Cell-clause-line : goal.returns-in-Cell-clause-line
returns-in-Cell-clause-line g c =
    acts-cell c.in-Cell.users c.args.line.now c.args.self.now c.found.new.self (g.K.Sink.written c.args.out.now) _
    c.found.result c.in-Cell.is (c.found.ensures (g.K.Sink.written c.args.out.now))
