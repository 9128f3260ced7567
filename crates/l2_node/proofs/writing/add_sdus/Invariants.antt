use Rattle.std.proofs.Common.{◌≡◌, ◌≤◌, ◌+◌, [], length}
use Rattle.std.specs.List.{All}
use Rattle.bearer_pdcp.specs.Shares.{in_block}
use Rattle.l2_node.specs.Writing.{taken_up, sdus_of, with_sdus}
use Rattle.l2_node.proofs.writing.add_sdus.Given as goal

abbrev pub invariant-loop-octets : goal.invariant-loop-octets
invariant-loop-octets l = record {
  parts : with_sdus (sdus_of l.lcid l.pdus) l.builder ≡ with_sdus (sdus_of l.lcid l.fn.pdus) l.initial.builder;
  taken_up : taken_up l.builder.sdus + in_block l.pdus ≡ taken_up l.initial.builder.sdus + in_block l.fn.pdus;
  some : All (λ p. 1 ≤ length p) l.pdus;
  plain : l.builder.controls ≡ [];
}

abbrev pub decreases-loop-octets : goal.decreases-loop-octets
decreases-loop-octets l = length l.pdus
