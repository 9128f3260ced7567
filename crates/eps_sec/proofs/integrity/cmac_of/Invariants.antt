use Rattle.std.proofs.Common.{◌≡◌, ◌++◌}
use Rattle.eps_sec.specs.Modes.{chain}
use Rattle.eps_sec.proofs.integrity.cmac_of.Given as goal

abbrev pub invariant-loop-i : goal.invariant-loop-i
invariant-loop-i l = l.sum ≡ chain l.schedule (l.head ++ l.body) l.i
