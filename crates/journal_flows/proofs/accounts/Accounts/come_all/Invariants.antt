use Rattle.std.proofs.Common.{◌≡◌, ◌-◌, drop, length}
use Rattle.journal_flows.specs.Gathering.{all_come}
use Rattle.journal_flows.specs.Accounts.{accounts}
use Rattle.journal_flows.proofs.accounts.Accounts.come_all.Given as goal

abbrev pub invariant-loop-at : goal.invariant-loop-at
invariant-loop-at l =
    all_come accounts l.from (drop l.at l.parcels) l.self ≡ all_come accounts l.fn.from l.fn.parcels l.fn.self

abbrev pub decreases-loop-at : goal.decreases-loop-at
decreases-loop-at l = length l.parcels - l.at
