-- An end tells nothing of the test loop.
use Rattle.std.proofs.Common.{◌≡◌, ℕ, false, List}
use Rattle.std.proofs.Common.{[]}
use Rattle.std.proofs.Common.{◌∷◌, refl}
use Rattle.std.specs.List.{AllByRecursion}
use Rattle.bearer_types.specs.declared.event.Event.{Event}
use Rattle.harq.specs.declared.sender.Visit.{Visit}
use Rattle.l2_node.specs.Building.{visited, visit, visit_events}
use Rattle.l2_node.specs.End.{End}
use Rattle.law_node.specs.Calls.{Call, SetVisits, SetReports, Add, Submit, SetDiscard, Tick, TickBuckets, Visits}
use Rattle.law_node.specs.Calls.{Grants, Granted, Assigned, Pass, Receive, Expire, Move}
use Rattle.promises.specs.Events.{is_of_loop, TellNoLoop}
use Rattle.law_node.specs.Telling.{told_of}
use Rattle.law_node.proofs.Built.{told_all}
use Rattle.law_node.proofs.Silences.{loops_nothing}

-- as it builds a block
no_loop : (es : List Event) → AllByRecursion (λ event. is_of_loop event ≡ false) es → TellNoLoop es
no_loop [] h = refl
no_loop (e ∷ es) h = rw h.0 (no_loop es h.1)

building_no : (v : Visit) (grant : ℕ) (e : End) → TellNoLoop (visit_events v grant e)
building_no v grant e =
    no_loop (visit_events v grant e)
    (told_all (λ event. is_of_loop event ≡ false) (λ lcid count len. refl) (λ lcid fms bitmap. refl)
    (λ lcid how sn. refl) (λ lcid why. refl) (λ lcid clock. refl) v grant e)

-- ---- every call

pub tells_no_loop : (e : End) (c : Call) → TellNoLoop (told_of e c)
unfolding Rattle.l2_node.specs.Building.building
tells_no_loop e (SetVisits maximum) = refl
tells_no_loop e (SetReports reports) = refl
tells_no_loop e (Add config keys) = refl
tells_no_loop e (Submit lcid sdu) = refl
tells_no_loop e (SetDiscard lcid ttis) = refl
tells_no_loop e Tick = (loops_nothing e).ticking
tells_no_loop e TickBuckets = refl
tells_no_loop e (Visits t) = building_no (visit t.tti t.order e) t.grant (visited t.tti t.order e)
tells_no_loop e (Grants tti) = refl
tells_no_loop e (Granted tti good) = refl
tells_no_loop e (Assigned tti ndi good) = refl
tells_no_loop e (Pass tti) = refl
tells_no_loop e (Receive block) = (loops_nothing e).receiving block
tells_no_loop e (Expire lcid clock) = (loops_nothing e).expiring lcid clock
tells_no_loop e (Move keys) = (loops_nothing e).moving
