use Rattle.std.proofs.Common.{◌≡◌, length}
use Rattle.journal_um.specs.UmJoiner.{with_pieces}
use Rattle.journal_um.proofs.joiner.Joiner.join_all.Given as goal

abbrev pub invariant-pieces : goal.invariant-pieces
invariant-pieces l = with_pieces l.pieces l.self ≡ with_pieces l.fn.pieces l.fn.self

abbrev pub decreases-pieces : goal.decreases-pieces
decreases-pieces l = length l.pieces
