use Rattle.std.proofs.Common.{◌≡◌, drop}
use Rattle.std.specs.List.{list_any}
use Rattle.pdu_show.specs.Carried.{is_carried}
use Rattle.air_link.proofs.link.Link.carried.Given as goal

abbrev pub invariant-loop-at : goal.invariant-loop-at
invariant-loop-at l = list_any (is_carried l.self.kinds) (drop l.at l.self.out)
    ≡ list_any (is_carried l.self.kinds) l.self.out
