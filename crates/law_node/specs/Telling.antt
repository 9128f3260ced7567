-- What an end tells in each call, event by event, in order (docs/formats/JOURNAL.md).
use Rattle.std.specs.Prelude.{List, [], ◌∷◌, ◌++◌, unwrap_or}
use Rattle.bearer_types.specs.declared.event.Event.{Event}
use Rattle.l2_node.specs.Building.{building}
use Rattle.l2_node.specs.End.{End}
use Rattle.l2_node.specs.Hearing.{received, ticked, expiry}
use Rattle.l2_node.specs.Moving.{leaving}
use Rattle.law_node.specs.Calls.{Call, Tick, Visits, Receive, Expire, Move, after}

-- a timer that doesn't run tells nothing
abbrev pub told_of : End → Call → List Event
told_of e (Visits t) = building t.tti t.grant t.order e
told_of e (Receive block) = (received e block).events
told_of e Tick = (ticked e).events
told_of e (Expire lcid clock) = unwrap_or (expiry lcid clock e) []
told_of e (Move keys) = leaving e
told_of e _ = []

abbrev pub told_over : List Call → End → List Event
told_over [] e = []
told_over (c ∷ cs) e = told_of e c ++ told_over cs (after e c)
