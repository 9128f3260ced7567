use Rattle.std.proofs.Common.{◌≡◌, ◌-◌, length}
use Rattle.journal_given.specs.Giving.{each_from}
use Rattle.journal_given.proofs.Channels.{changed_from}
use Rattle.journal_sent.specs.SentPdus.{accounts}
use Rattle.journal_sent.specs.Sending.{flow_closed}
use Rattle.journal_sent.proofs.flows.close.Given as goal

abbrev pub invariant-loop-at : goal.invariant-loop-at
invariant-loop-at l =
    changed_from (flow_closed accounts l.fn.renewal l.fn.side l.fn.given) l.at l.flows.items
    ≡ each_from (flow_closed accounts l.fn.renewal l.fn.side l.fn.given) 0 l.fn.flows.items

abbrev pub decreases-loop-at : goal.decreases-loop-at
decreases-loop-at l = length l.flows.items - l.at
