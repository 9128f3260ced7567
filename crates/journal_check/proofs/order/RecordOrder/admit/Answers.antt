use Rattle.std.proofs.Common.{rules}
use Rattle.journal_check.proofs.Standing.{refuses, lets_stand}
use Rattle.journal_check.proofs.order.RecordOrder.admit.Goals as goal

pub returns-in-Some-clause-next : goal.returns-in-Some-clause-next
returns-in-Some-clause-next c = λ r tells.
    refuses r c.args.self.now c.args.one.now c.fault.result c.in-Some.why c.refused.result tells c.fault.ensures
    c.in-Some.is c.refused.ensures

pub returns-clause-next : goal.returns-clause-next
returns-clause-next c = λ r tells.
    lets_stand r c.args.self.now c.note.new.self c.args.one.now c.fault.result tells c.fault.ensures (search rules)
    c.in_ok-note.ensures.kept c.in_ok-note.ensures.place
