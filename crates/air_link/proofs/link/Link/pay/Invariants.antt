use Rattle.std.proofs.Common.{◌≡◌, length}
use Rattle.air_link.specs.Loops.{returns_all, owed, paid}
use Rattle.air_link.proofs.link.Link.pay.Given as goal

abbrev pub invariant-loop-lcid : goal.invariant-loop-lcid
invariant-loop-lcid l = returns_all (owed l.self.looping) (record l.self { looping = paid l.self.looping })
    ≡ returns_all (owed l.initial.self.looping) (record l.initial.self { looping = paid l.initial.self.looping })

abbrev pub decreases-loop-lcid : goal.decreases-loop-lcid
decreases-loop-lcid l = length l.self.looping.kept
