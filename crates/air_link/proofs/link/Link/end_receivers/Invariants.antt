use Rattle.std.proofs.Common.{◌≡◌, drop}
use Rattle.air_link.specs.Draining.{all_receivers_expire}
use Rattle.air_link.proofs.link.Link.end_receivers.Given as goal

abbrev pub invariant-loop-lcid : goal.invariant-loop-lcid
invariant-loop-lcid l = all_receivers_expire l.side (drop l.lcid-index l.lcids) l.self
    ≡ all_receivers_expire l.side l.lcids l.initial.self
