use Rattle.std.proofs.Common.{ap, ◌∙◌}
use Rattle.std.specs.Prelude.{length}
use Rattle.rlc_am_tx_window.proofs.CutFits.{written-len}
use Rattle.rlc_am_tx_window.proofs.slot.written.Goals as goal

pub returns-clause-len : goal.returns-clause-len
returns-clause-len c =
    ap length c.in_ok-octets.ensures
    ∙ written-len c.args.sn c.args.poll c.args.fi c.args.segment c.args.lens.now c.args.field.now c.requires.lens
    c.requires.whole
