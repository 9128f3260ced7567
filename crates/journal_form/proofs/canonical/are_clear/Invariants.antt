use Rattle.std.proofs.Common.{◌≡◌, false, length, Some}
use Rattle.journal_form.specs.Canonical.{are_placed, behind_payloads}
use Rattle.journal_form.proofs.canonical.are_clear.Given as goal

abbrev pub invariant-loop-item : goal.invariant-loop-item
invariant-loop-item l = record {
  placed : are_placed l.fronted l.least l.reader ≡ are_placed false 0 l.fn.reader;
  found : behind_payloads l.reader (Some l.rest) ≡ behind_payloads l.fn.reader (Some l.fn.octets);
}

abbrev pub decreases-loop-item : goal.decreases-loop-item
decreases-loop-item l = length l.reader
