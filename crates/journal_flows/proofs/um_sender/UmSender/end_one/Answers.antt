use Rattle.std.proofs.Common.{rules, ◌≡◌, ◌<◌, Some}
use Rattle.std.specs.Prelude.{slice_get}
use Rattle.journal_flows.proofs.Settling.{settles_short}
use Rattle.journal_flows.proofs.um_sender.UmSender.end_one.Goals as goal

pub returns-then-size-into-clause-done : goal.returns-then-size-into-clause-done
returns-then-size-into-clause-done c =
    let first : slice_get c.args.self.now.left 0 ≡ Some c.in-Some.size.now = search rules in
    let short : c.args.self.now.into < c.in-Some.size.now = search rules in
    λ same. settles_short c.args.self.now.next c.args.self.now.ended c.args.self.now.into c.in-Some.size.now
    c.args.self.now.left first short
