use Rattle.std.specs.Prelude.{Some}
use Rattle.l2_commands.specs.Journals.{showing}
use Rattle.l2_c_texts.proofs.Finished.{given}
use Rattle.l2_c_texts.proofs.texts.decode_text.Goals as goal

pub returns : goal.returns
returns c =
    let runs = rw (c.in_ok-source.ensures, c.new-journal.ensures, c.new-message.ensures) at c.decode-status.ensures in
    given showing c.args.blocks.now (Some c.decode-status.new.source.octets) c.decode-status.new.out
    c.decode-status.new.errs c.decode-status.result runs
