use Rattle.std.proofs.Common.{ap}
use Rattle.l2_io.specs.Cutting.{Cutter}
use Rattle.l2_io.proofs.Reading.{given_more, cut_given}
use Rattle.l2_io.proofs.lines.Lines.read_on.Goals as goal

pub returns-in-Some-clause-next : goal.returns-in-Some-clause-next
returns-in-Some-clause-next g c =
    let more = c.in-Ok.ensures.given in
    cut_given (given_more more.0 c.loop-self.invariant.octets more.2 (ap (λ (v : Cutter). v.kept) more.3))
    c.in-Some.ensures.none
