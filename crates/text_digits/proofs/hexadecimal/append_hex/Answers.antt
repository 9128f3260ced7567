use Rattle.std.proofs.Common.{◌∙◌}
use Rattle.text_digits.proofs.Blocks.{block-written}
use Rattle.text_digits.proofs.hexadecimal.append_hex.Goals as goal

pub loop-rest-preserved : goal.loop-rest-preserved
loop-rest-preserved c =
    record {
      written =
          rw (c.in_ok-append.ensures.ok, c.block_digits.ensures, c.split_at.ensures.front, c.split_at.ensures.back)
          (block-written 64 c.loop-rest.text c.loop-rest.rest.now ∙ c.loop-rest.invariant.written);
    }

pub loop-rest-2-preserved : goal.loop-rest-2-preserved
loop-rest-2-preserved c =
    record {
      written =
          rw (
            c.in_ok-append-2.ensures.ok,
            c.piece_digits.ensures,
            c.split_at-in-loop-rest-2.ensures.front,
            c.split_at-in-loop-rest-2.ensures.back,
          ) (block-written 16 c.loop-rest-2.text c.loop-rest-2.rest.now
          ∙ c.loop-rest-2.invariant.written);
    }
