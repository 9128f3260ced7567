use Rattle.std.proofs.Common.{subst}
use Rattle.air_run.specs.Journal.{RunPlayed}
use Rattle.cell_run.specs.Alone.{is_all}
use Rattle.cell_run.specs.Cells.{cell_of}
use Rattle.law_run.specs.Promises.{IsPromised}
use Rattle.law_cell.proofs.laws.every_terminal.Goals as goal

pub returns : goal.returns
returns c whole octets user script said =
    subst (λ (played : RunPlayed). IsPromised (is_all (cell_of whole octets).close) script played)
    (c.all_run_alone.ensures.alone whole octets user script said)
    (c.every_journal.ensures (is_all (cell_of whole octets).close) script)
