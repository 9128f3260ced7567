use Rattle.std.proofs.Common.{◌≡◌, drop}
use Rattle.l2_node.specs.Writing.{all_needs}
use Rattle.l2_node.proofs.end.End.reckon.Given as goal

abbrev pub invariant-loop-channel : goal.invariant-loop-channel
invariant-loop-channel l = all_needs l.self l.grant (drop l.channel-index l.self.buckets.channels) l.by_lcid
    ≡ all_needs l.self l.grant l.self.buckets.channels l.initial.by_lcid
