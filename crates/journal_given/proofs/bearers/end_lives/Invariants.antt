use Rattle.std.proofs.Common.{◌≡◌, ◌-◌, length}
use Rattle.journal_given.specs.Supplies.{accounts}
use Rattle.journal_given.specs.Giving.{each_from, ended_on}
use Rattle.journal_given.proofs.Channels.{changed_from}
use Rattle.journal_given.proofs.bearers.end_lives.Given as goal

abbrev pub invariant-loop-at : goal.invariant-loop-at
invariant-loop-at l =
    changed_from (ended_on accounts l.fn.flows) l.at l.bearers.items
    ≡ each_from (ended_on accounts l.fn.flows) 0 l.fn.bearers.items

abbrev pub decreases-loop-at : goal.decreases-loop-at
decreases-loop-at l = length l.bearers.items - l.at
