use Rattle.std.proofs.Common.{◌≡◌, drop}
use Rattle.journal_account.specs.FlowSending.{woken}
use Rattle.journal_account.proofs.number.wake.Given as goal

abbrev pub invariant-loop-entry : goal.invariant-loop-entry
invariant-loop-entry l =
    woken l.number l.size l.waiting (drop l.entry-index l.entries) ≡ woken l.number l.size l.fn.waiting l.entries
