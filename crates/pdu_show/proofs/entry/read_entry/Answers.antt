use Rattle.std.proofs.Common.{sym, arith}
use Rattle.pdu_show.proofs.Bearers.{bearer_entry, for-bearer}
use Rattle.pdu_show.proofs.entry.read_entry.Goals as goal

pub returns-then-is_word-3-clause-entry : goal.returns-then-is_word-3-clause-entry
returns-then-is_word-3-clause-entry c =
    for-bearer _ _ _ _
    (bearer_entry c.args.text.now c.in-Some.first.now _ (c.in-Some.ensures) (sym c.if-is_word-3.ensures)
    (omega arith)) c.clear.ensures c.read_bearer.ensures.entry
