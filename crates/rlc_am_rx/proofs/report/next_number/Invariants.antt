use Rattle.std.proofs.Common.{◌≡◌, drop}
use Rattle.rlc_am_rx.specs.Status.{next_number}
use Rattle.rlc_am_rx.proofs.report.next_number.Given as goal

abbrev pub invariant-loop-missing : goal.invariant-loop-missing
invariant-loop-missing l = next_number (drop l.missing-index l.left) l.last l.bound ≡ next_number l.left l.last l.bound
