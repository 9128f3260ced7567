use Rattle.std.proofs.Common.{sym, subst}
use Rattle.std.specs.Prelude.{Option, IfSome}
use Rattle.mac_pdu.specs.Items.{IsReport}
use Rattle.mac_pdu.specs.declared.item.Bsr.{Bsr}
use Rattle.air_run.proofs.Reports.{report_fields}
use Rattle.air_run.proofs.buffers.report_of_block.Goals as goal

pub returns-in-Ok-clause-fields : goal.returns-in-Ok-clause-fields
returns-in-Ok-clause-fields c =
    subst (λ (report : Option Bsr). IfSome report IsReport) (sym c.report_of_items.ensures)
    (report_fields _ c.args.block.now c.in-Ok.ensures.items)
