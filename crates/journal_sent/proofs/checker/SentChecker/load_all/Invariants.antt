use Rattle.std.proofs.Common.{◌≡◌, length}
use Rattle.promises.specs.RightForm.{sdus_in}
use Rattle.journal_sent.specs.SentPdus.{accounts}
use Rattle.journal_sent.specs.Sending.{pdus_told}
use Rattle.journal_sent.proofs.checker.SentChecker.load_all.Given as goal

abbrev pub invariant-loop-item : goal.invariant-loop-item
invariant-loop-item l =
    pdus_told accounts l.from l.given l.named (sdus_in l.reader) l.self
    ≡ pdus_told accounts l.fn.from l.fn.given l.fn.named (sdus_in l.fn.reader) l.fn.self

abbrev pub decreases-loop-item : goal.decreases-loop-item
decreases-loop-item l = length l.reader
