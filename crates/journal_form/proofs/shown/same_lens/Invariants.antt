use Rattle.std.proofs.Common.{◌≡◌, drop}
use Rattle.std.specs.Str.{bytes_eq}
use Rattle.journal_form.proofs.shown.same_lens.Given as goal

abbrev pub invariant-loop-at : goal.invariant-loop-at
invariant-loop-at l = bytes_eq (drop l.at l.lens) (drop l.at l.own_lens) ≡ bytes_eq l.lens l.own_lens
