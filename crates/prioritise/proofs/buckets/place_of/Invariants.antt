use Rattle.std.proofs.Common.{◌≡◌, ◌≤◌, ◌+◌, ◌-◌, drop, length}
use Rattle.prioritise.specs.Channels.{place}
use Rattle.prioritise.proofs.buckets.place_of.Given as goal

abbrev pub invariant-loop-at : goal.invariant-loop-at
invariant-loop-at l = record {
  place : l.at + place l.channel (drop l.at l.channels) ≡ place l.channel l.channels;
  within : l.at ≤ length l.channels;
}

abbrev pub decreases-loop-at : goal.decreases-loop-at
decreases-loop-at l = length l.channels - l.at
