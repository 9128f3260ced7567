use Rattle.std.proofs.Common.{◌≡◌}
use Rattle.eps_sec.specs.Modes.{stream_octet}
use Rattle.eps_sec.proofs.StreamLemmas.{done_to}
use Rattle.eps_sec.proofs.ciphering.add_block.Given as goal

abbrev pub invariant-loop-k : goal.invariant-loop-k
invariant-loop-k l = l.text ≡ done_to (stream_octet l.schedule l.first) l.k l.fn.text
