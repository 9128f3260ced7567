use Rattle.std.proofs.Common.{◌≡◌, ◌<◌, drop, IfSome}
use Rattle.std.specs.Option.{unwrap_or}
use Rattle.l2_node.specs.Writing.{all_waiting, top_group}
use Rattle.l2_node.proofs.reporting.add_waiting.Given as goal

abbrev pub invariant-loop-channel : goal.invariant-loop-channel
invariant-loop-channel l = record {
  sums : all_waiting l.bearers (drop l.channel-index l.channels) l.sums
      ≡ all_waiting l.bearers l.channels l.initial.sums;
  top : unwrap_or l.top (top_group l.bearers (drop l.channel-index l.channels)) ≡ top_group l.bearers l.channels;
  within : IfSome l.top (λ group. group < 4);
}
