use Rattle.std.proofs.Common.{◌≡◌, ◌++◌, [], length, map, All}
use Rattle.air_record.specs.Text.{nack_text}
use Rattle.journal_text.specs.Pieces.{pieces, left, text_in}
use Rattle.journal_text.specs.Lists.{entries_of}
use Rattle.journal_text.specs.Records.{IsNack}
use Rattle.journal_text.proofs.lists.nacks.Given as goal

abbrev pub invariant-loop-rest : goal.invariant-loop-rest
invariant-loop-rest l = record {
  read : entries_of l.nacks (left 44 (text_in l.rest)) ≡ entries_of [] (pieces 44 l.fn.text);
  written : map nack_text l.nacks ++ left 44 (text_in l.rest) ≡ pieces 44 l.fn.text;
  good : All IsNack l.nacks;
}

abbrev pub decreases-loop-rest : goal.decreases-loop-rest
decreases-loop-rest l = length (left 44 (text_in l.rest))
