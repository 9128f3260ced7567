use Rattle.journal_text.proofs.Cuts.{Free}
use Rattle.journal_text.proofs.pieces.place_of.Given as goal

abbrev pub invariant-loop-place : goal.invariant-loop-place
invariant-loop-place l = Free l.fn.at l.place l.fn.text
