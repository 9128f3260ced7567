use Rattle.std.proofs.Common.{◌∙◌}
use Rattle.test_loop.specs.Items.{item}
use Rattle.air_link.proofs.Paying.{turn_is_smaller, turn_pays}
use Rattle.air_link.proofs.link.Link.pay.Goals as goal

pub loop-lcid-smaller : goal.loop-lcid-smaller
loop-lcid-smaller c =
    let due = c.in-Some.ensures in
    turn_is_smaller (item c.in-Some.lcid c.in-Some.octets) c.self.view_is due.state due.answer c.in_ok-give_back.ensures

pub loop-lcid-preserved : goal.loop-lcid-preserved
loop-lcid-preserved c =
    let due = c.in-Some.ensures in
    turn_pays (item c.in-Some.lcid c.in-Some.octets) c.self.view_is due.state due.answer c.in_ok-give_back.ensures
    ∙ c.loop-lcid.invariant
