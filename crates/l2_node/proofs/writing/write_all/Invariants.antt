use Rattle.std.proofs.Common.{◌≡◌, ◌≤◌, ◌+◌, [], drop}
use Rattle.prioritise.specs.Shares.{over}
use Rattle.l2_node.specs.Writing.{taken_up, all_write, work}
use Rattle.l2_node.proofs.writing.write_all.Given as goal

abbrev pub invariant-loop-channel : goal.invariant-loop-channel
invariant-loop-channel l = record {
  rest : all_write l.holding.sender l.holding.numbers l.shares (drop l.channel-index l.channels)
      (work l.bearers.items l.block)
      ≡ all_write l.holding.sender l.holding.numbers l.shares l.channels (work l.initial.bearers.items l.initial.block);
  taken_up : taken_up l.block.parts.sdus + over (drop l.channel-index l.channels) l.shares
      ≤ taken_up l.initial.block.parts.sdus + over l.channels l.shares;
  plain : l.block.parts.controls ≡ [];
  direction : l.block.parts.direction ≡ l.initial.block.parts.direction;
}
