use Rattle.std.proofs.Common.{◌≡◌, ◌-◌, length}
use Rattle.journal_failure.specs.Checking.{all_right, all_ended, limit_at}
use Rattle.journal_failure.proofs.Channels.{right_through, ended_from}
use Rattle.journal_failure.proofs.senders.end.Given as goal

abbrev pub invariant-loop-at : goal.invariant-loop-at
invariant-loop-at l = record {
  right : right_through l.are_right (limit_at l.fn.side l.fn.flows) l.at l.senders.items
      ≡ all_right (limit_at l.fn.side l.fn.flows) 0 l.fn.senders.items;
  ended : ended_from l.fn.hands_over (limit_at l.fn.side l.fn.flows) l.at l.senders.items
      ≡ all_ended l.fn.hands_over (limit_at l.fn.side l.fn.flows) 0 l.fn.senders.items;
}

abbrev pub decreases-loop-at : goal.decreases-loop-at
decreases-loop-at l = length l.senders.items - l.at
