use Rattle.std.proofs.Common.{◌≡◌, length}
use Rattle.air_run.specs.Buffers.{report_of_items}
use Rattle.air_run.proofs.buffers.report_of_items.Given as goal

abbrev pub invariant-loop-item : goal.invariant-loop-item
invariant-loop-item l = report_of_items l.items ≡ report_of_items l.initial.items

abbrev pub decreases-loop-item : goal.decreases-loop-item
decreases-loop-item l = length l.items
