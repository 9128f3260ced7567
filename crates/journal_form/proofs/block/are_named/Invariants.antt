use Rattle.std.proofs.Common.{◌≡◌, length}
use Rattle.promises.specs.RightForm.{sdus_in}
use Rattle.journal_form.specs.Tests.{are_named}
use Rattle.journal_form.proofs.block.are_named.Given as goal

abbrev pub invariant-loop-item : goal.invariant-loop-item
invariant-loop-item l =
    are_named l.kinds l.sent (sdus_in l.reader) ≡ are_named l.fn.kinds l.fn.sent (sdus_in l.fn.reader)

abbrev pub decreases-loop-item : goal.decreases-loop-item
decreases-loop-item l = length l.reader
