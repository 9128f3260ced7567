use Rattle.std.proofs.Common.{◌≡◌, ◌+◌, length}
use Rattle.mac_pdu.specs.declared.subheader.Stage.TheVariants as stage
use Rattle.mac_pdu.specs.Refusals.{subheaders, first_fault, header_size}
use Rattle.mac_pdu.proofs.reader.header_len.Given as goal

abbrev pub invariant-loop-one : goal.invariant-loop-one
invariant-loop-one l = (l.at + length l.rest ≡ length l.block)
    × (header_size (subheaders l.direction 0 l.block) ≡ l.at + header_size (subheaders l.direction 0 l.rest))
    × (first_fault l.stage l.at (length l.block) (subheaders l.direction 0 l.rest)
    ≡ first_fault stage.Start 0 (length l.block) (subheaders l.direction 0 l.block))

abbrev pub decreases-loop-one : goal.decreases-loop-one
decreases-loop-one l = length l.rest
