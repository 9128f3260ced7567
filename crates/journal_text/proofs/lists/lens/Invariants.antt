use Rattle.std.proofs.Common.{◌≡◌, ◌<◌, ◌^◌, ◌++◌, [], length, map, All}
use Rattle.std.specs.Fmt.{decimal}
use Rattle.journal_text.specs.Pieces.{pieces, left, text_in}
use Rattle.journal_text.specs.Lists.{numbers_of}
use Rattle.journal_text.proofs.lists.lens.Given as goal

abbrev pub invariant-loop-rest : goal.invariant-loop-rest
invariant-loop-rest l = record {
  read : numbers_of l.lens (left 44 (text_in l.rest)) ≡ numbers_of [] (pieces 44 l.fn.text);
  written : map decimal l.lens ++ left 44 (text_in l.rest) ≡ pieces 44 l.fn.text;
  small : All (λ n. n < 2 ^ 32) l.lens;
}

abbrev pub decreases-loop-rest : goal.decreases-loop-rest
decreases-loop-rest l = length (left 44 (text_in l.rest))
