use Rattle.std.proofs.Common.{◌≡◌, length}
use Rattle.air_link.specs.Telling.{tells_all}
use Rattle.air_link.proofs.link.Link.tell_each.Given as goal

abbrev pub invariant-loop-event : goal.invariant-loop-event
invariant-loop-event l = tells_all l.side l.events l.self ≡ tells_all l.side l.fn.events l.initial.self

abbrev pub decreases-loop-event : goal.decreases-loop-event
decreases-loop-event l = length l.events
