use Rattle.std.specs.Prelude.{Some}
use Rattle.air_run.specs.Journal.{script}
use Rattle.l2_c_texts.proofs.Finished.{given}
use Rattle.l2_c_texts.proofs.texts.run_text.Goals as goal

pub returns : goal.returns
returns c =
    let runs = rw (c.in_ok-source.ensures, c.new-journal.ensures, c.new-message.ensures) at c.run-status.ensures in
    given script c.args.script.now (Some c.run-status.new.source.octets) c.run-status.new.out c.run-status.new.errs
    c.run-status.result runs
