use Rattle.std.proofs.Common.{◌≡◌, ◌-◌, ◌≤◌, ◌++◌, length, take}
use Rattle.script_generator.proofs.script.ScriptSource.read.Given as goal

abbrev pub invariant-loop-count : goal.invariant-loop-count
invariant-loop-count l = record {
  within : l.count ≤ length l.into;
  given : l.fn.self ≡ take l.count l.into ++ l.self;
}

abbrev pub decreases-loop-count : goal.decreases-loop-count
decreases-loop-count l = length l.into - l.count
