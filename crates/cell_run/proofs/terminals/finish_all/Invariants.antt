use Rattle.std.proofs.Common.{◌≡◌, ◌+◌, ◌++◌, length}
use Rattle.std.specs.Vec.Iter.{into_iter_items}
use Rattle.cell_run.specs.Entries.{texts_of}
use Rattle.cell_run.specs.Terminals.{last_entries}
use Rattle.cell_run.proofs.terminals.finish_all.Given as goal

abbrev pub invariant-loop-terminal : goal.invariant-loop-terminal
invariant-loop-terminal l = record {
  can_next : (goal.iterator-loop-terminal).can_next l.terminal-iterator;
  is_finite : (goal.iterator-loop-terminal).is_finite l.terminal-iterator;
  count : l.user + length (into_iter_items l.terminal-iterator) ≡ length l.fn.terminals.items;
  text : l.text ++ texts_of (last_entries l.user (into_iter_items l.terminal-iterator))
      ≡ l.initial.text ++ texts_of (last_entries 0 l.fn.terminals.items);
}
