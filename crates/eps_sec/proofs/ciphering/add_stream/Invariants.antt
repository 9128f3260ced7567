use Rattle.std.proofs.Common.{◌≡◌, ◌*◌, take}
use Rattle.eps_sec.specs.Words.{IsFrontOf}
use Rattle.eps_sec.specs.Modes.{counter_block, stream_octet}
use Rattle.eps_sec.proofs.StreamLemmas.{done_to}
use Rattle.eps_sec.proofs.ciphering.add_stream.Given as goal

abbrev pub invariant-loop-i : goal.invariant-loop-i
invariant-loop-i l = record {
  text : l.text ≡ done_to (stream_octet l.schedule l.first) (16 * l.i) l.fn.text;
  front : IsFrontOf l.front.word l.front.words l.schedule (take 15 (counter_block l.first l.i));
}

abbrev pub invariant-loop-k : goal.invariant-loop-k
invariant-loop-k l = l.text ≡ done_to (stream_octet l.schedule l.first) l.k l.fn.text
