use Rattle.std.proofs.Common.{◌≡◌, ◌≤◌, ◌+◌, ◌-◌, ◌∷◌, ◌++◌, length}
use Rattle.air_text.specs.Words.{texts}
use Rattle.journal_text.specs.Pieces.{parts, text_in}
use Rattle.journal_text.proofs.pieces.add_words.Given as goal

abbrev pub invariant-loop-rest : goal.invariant-loop-rest
invariant-loop-rest l = record {
  some : 1 ≤ length l.words.items;
  cut : texts l.words.items ++ parts 32 (l.fn.searched + 1 - length l.words.items) (text_in l.rest)
      ≡ l.fn.first ∷ parts 32 l.fn.searched (text_in l.fn.others);
}

abbrev pub decreases-loop-rest : goal.decreases-loop-rest
decreases-loop-rest l = length (parts 32 (l.fn.searched + 1 - length l.words.items) (text_in l.rest))
