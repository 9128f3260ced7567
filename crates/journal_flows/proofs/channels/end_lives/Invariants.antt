use Rattle.std.proofs.Common.{◌≡◌, ◌-◌, length}
use Rattle.journal_flows.specs.Accounts.{slot_ended, channels_ended}
use Rattle.journal_flows.proofs.Places.{changed_from}
use Rattle.journal_flows.proofs.channels.end_lives.Given as goal

abbrev pub invariant-loop-at : goal.invariant-loop-at
invariant-loop-at l =
    changed_from slot_ended l.at l.channels.items ≡ channels_ended l.fn.channels.items

abbrev pub decreases-loop-at : goal.decreases-loop-at
decreases-loop-at l = length l.channels.items - l.at
