use Rattle.std.proofs.Common.{◌≡◌, drop}
use Rattle.journal_takes.specs.FlowTakes.{with_marks}
use Rattle.journal_takes.proofs.counts.add_marks.Given as goal

abbrev pub invariant-loop-mark : goal.invariant-loop-mark
invariant-loop-mark l =
    with_marks l.next (drop l.mark-index l.marks) l.counts.keys ≡ with_marks l.next l.marks l.fn.counts.keys
