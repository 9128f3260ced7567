-- What the calls that are no TTI do to the HARQ processes.
use Rattle.std.proofs.Common.{◌≡◌, refl, ◌∙◌}
use Rattle.eps_sec.specs.declared.Keys.{Keys}
use Rattle.l2_node.specs.End.{with_bearer, with_visits, reset}
use Rattle.l2_node.specs.Moving.{left_cell, leaving, joined}
use Rattle.l2_node.specs.Submitting.{discarding}
use Rattle.l2_types.specs.declared.side.Side.TheVariants.{Nb, Ue}
use Rattle.air_link.specs.Link.{Link}
use Rattle.air_link.specs.Telling.{tells_all}
use Rattle.air_link.specs.Lines.{bears, discards, visits, reports, listens, moves, hands_over}
use Rattle.law_run.specs.AnyCalls.Calls.{Call, Bears, Discards, Visits, Reports, Listens, Loops, Expires, Forges}
use Rattle.law_run.specs.AnyCalls.Calls.{HandsOver, ReceiversExpire, SendersExpire, after}
use Rattle.law_run.specs.AnyCalls.Deeds.{entity, entities, cleared, left}
use Rattle.law_run.proofs.AnyCalls.Going.{told_rests, loops_rests}
use Rattle.law_run.proofs.AnyCalls.Advancing.{expires_rests, receivers_rest, senders_rest, forges_rests, loop_set_rests}

hands_over_leaves : (keys : Keys) (l : Link)
    → entities (hands_over keys l) ≡ record { nb = cleared (entity l.nb); ue = cleared (entity l.ue) }
unfolding hands_over left_cell joined reset
hands_over_leaves keys l =
    let j = moves keys l in
    let m = tells_all Nb (leaving l.nb) j in
    (loops_rests (tells_all Ue (leaving l.ue) m)).entities_are ∙ told_rests Ue (leaving l.ue) m
    ∙ told_rests Nb (leaving l.nb) j

pub calls_leave : (c : Call) (l : Link) → entities (after c l) ≡ left c (entities l)
unfolding bears discards visits reports listens with_bearer with_visits discarding
calls_leave (Bears c keys) l = refl
calls_leave (Discards lcid ttis) l = refl
calls_leave (Visits maximum) l = refl
calls_leave Reports l = refl
calls_leave (Listens c) l = refl
calls_leave (Loops mode) l = (loop_set_rests mode l).entities_are
calls_leave (Expires side lcid clock) l = (expires_rests side lcid clock l).entities_are
calls_leave (Forges side block) l = (forges_rests side block l).entities_are
calls_leave (HandsOver keys) l = hands_over_leaves keys l
calls_leave ReceiversExpire l = (receivers_rest l).entities_are
calls_leave SendersExpire l = (senders_rest l).entities_are
