use Rattle.std.proofs.Common.{◌≡◌, ◌++◌, length}
use Rattle.pdu_show.specs.Show.{items_shown}
use Rattle.pdu_show.proofs.show.show_with.Given as goal

abbrev pub invariant-loop-item : goal.invariant-loop-item
invariant-loop-item l = l.records ++ items_shown l.kinds l.reader
    ≡ l.initial.records ++ items_shown l.kinds l.initial.reader

abbrev pub decreases-loop-item : goal.decreases-loop-item
decreases-loop-item l = length l.reader
