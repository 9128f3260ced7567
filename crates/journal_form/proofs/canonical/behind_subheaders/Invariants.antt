use Rattle.std.proofs.Common.{◌≡◌, length, Some}
use Rattle.std.specs.Prelude.{option_map}
use Rattle.journal_form.specs.Canonical.{are_short, behind_subheaders}
use Rattle.journal_form.proofs.canonical.behind_subheaders.Given as goal

abbrev pub invariant-loop-item : goal.invariant-loop-item
invariant-loop-item l = record {
  short : are_short l.reader ≡ are_short l.fn.reader;
  found : behind_subheaders l.reader (option_map (λ x. x.now) l.rest)
      ≡ behind_subheaders l.fn.reader (Some l.fn.octets);
}

abbrev pub decreases-loop-item : goal.decreases-loop-item
decreases-loop-item l = length l.reader
