use Rattle.std.proofs.Common.{arith}
use Rattle.std.proofs.lemmas.Bool.Decides.{nat_tests}
use Rattle.l2_num.proofs.in_window.Goals as goal

pub returns-clause-window : goal.returns-clause-window
returns-clause-window c = λ low n h. grind (arith, nat_tests, c.ahead.ensures.difference low n h)
