use Rattle.std.proofs.Common.{◌≡◌, ◌-◌, ◌≤◌, length, map}
use Rattle.journal_account.specs.TrueStatus.{range_of}
use Rattle.journal_account.specs.FlowStatus.{gaps_in, behind_said}
use Rattle.journal_account.proofs.status.behind_ranges.Given as goal

abbrev pub invariant-loop-gap : goal.invariant-loop-gap
invariant-loop-gap l = record {
  within : l.at ≤ length l.entries;
  rest : behind_said (map (range_of l.number l.field.size) (gaps_in l.field.came l.from l.field.size)) l.entries l.at
      ≡ behind_said (map (range_of l.number l.field.size) (gaps_in l.field.came 0 l.field.size)) l.entries l.fn.at;
}

abbrev pub decreases-loop-gap : goal.decreases-loop-gap
decreases-loop-gap l = l.field.size - l.from
