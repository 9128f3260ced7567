use Rattle.std.proofs.Common.{◌≡◌, drop}
use Rattle.prioritise.specs.Shares.{all_grown}
use Rattle.prioritise.proofs.buckets.grow.Given as goal

abbrev pub invariant-loop-channel : goal.invariant-loop-channel
invariant-loop-channel l = all_grown (drop l.channel-index l.channels) l.levels ≡ all_grown l.channels l.initial.levels
