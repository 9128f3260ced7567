use Rattle.std.proofs.Common.{◌≡◌, length}
use Rattle.air_link.specs.Loops.{takes_all}
use Rattle.air_link.proofs.link.Link.take_all.Given as goal

abbrev pub invariant-loop-one : goal.invariant-loop-one
invariant-loop-one l = takes_all l.ups l.self ≡ takes_all l.fn.ups l.initial.self

abbrev pub decreases-loop-one : goal.decreases-loop-one
decreases-loop-one l = length l.ups
