use Rattle.std.proofs.Common.{◌≡◌, ◌-◌, drop, length}
use Rattle.journal_flows.specs.NumberedPdus.{carries_status}
use Rattle.journal_flows.proofs.parcels.carry_status.Given as goal

abbrev pub invariant-loop-at : goal.invariant-loop-at
invariant-loop-at l = carries_status l.fn.lcid (drop l.at l.fn.parcels) ≡ carries_status l.fn.lcid l.fn.parcels

abbrev pub decreases-loop-at : goal.decreases-loop-at
decreases-loop-at l = length l.fn.parcels - l.at
