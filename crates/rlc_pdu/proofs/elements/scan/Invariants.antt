use Rattle.std.proofs.Common.{◌≡◌, ◌+◌, ◌≤◌, length, false, None}
use Rattle.std.specs.Prelude.{IfSome}
use Rattle.rlc_pdu.specs.Units.{units, scanned}
use Rattle.rlc_pdu.proofs.elements.scan.Given as goal

abbrev pub invariant-loop-follows : goal.invariant-loop-follows
invariant-loop-follows l =
    (scanned l.zero l.k (units l.odd l.follows l.rest) ≡ scanned None 0 (units false l.more l.units))
    × (l.k + length l.rest ≤ length l.units)
    × IfSome l.zero (λ z. z ≤ length l.units)

abbrev pub decreases-loop-follows : goal.decreases-loop-follows
decreases-loop-follows l = length l.rest
