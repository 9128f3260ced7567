use Rattle.std.proofs.Common.{◌≡◌, ◌+◌, drop}
use Rattle.rlc_am_tx_window.specs.Ledger.{credited_all}
use Rattle.rlc_am_tx_window.proofs.ledger.Accounts.credit_all.Given as goal

abbrev pub invariant-loop-i : goal.invariant-loop-i
invariant-loop-i l = credited_all l.self (l.place + l.i) (drop l.i l.lens) ≡ credited_all l.fn.self l.place l.lens
