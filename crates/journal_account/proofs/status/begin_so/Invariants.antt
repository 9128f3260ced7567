use Rattle.std.proofs.Common.{◌≡◌, ◌+◌, ◌-◌, ◌≤◌, length, drop, take}
use Rattle.journal_account.specs.FlowStatus.{said_of_fields, behind_said}
use Rattle.journal_account.proofs.status.begin_so.Given as goal

abbrev pub invariant-loop-place : goal.invariant-loop-place
invariant-loop-place l = record {
  within : l.at ≤ length l.entries;
  few : l.place ≤ l.count;
  rest : behind_said (said_of_fields (l.front + l.place) (drop l.place (take l.count l.fields.items))) l.entries l.at
      ≡ behind_said (said_of_fields l.front (take l.count l.fields.items)) l.entries 0;
}

abbrev pub decreases-loop-place : goal.decreases-loop-place
decreases-loop-place l = l.count - l.place
