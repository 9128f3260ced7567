use Rattle.std.proofs.Common.{ap}
use Rattle.drx.specs.Drx.{State, is_on}
use Rattle.drx.proofs.ListenLemmas.{cycle_place}
use Rattle.drx.proofs.Drx.is_on.Goals as goal

pub returns : goal.returns
returns c = rw (cycle_place c.args.tti c.self.inside.config.cycle c.self.inside.config.offset c.self.invariant)
    (ap (λ (s : State). is_on s.config c.args.tti) c.self.view_is)
