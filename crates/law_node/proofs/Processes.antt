-- The HARQ processes of an end take HARQ's steps.
use Rattle.std.proofs.Common.{◌≡◌, ◌≤◌, ℕ, Bool, List, [], ◌∷◌, ◌++◌, refl, ap, sym, ◌∙◌, subst}
use Rattle.harq.proofs.SendLemmas.{keeps_blocks}
use Rattle.harq.specs.declared.sender.Visit.{Visit}
use Rattle.harq.specs.declared.sender.Visit.TheVariants.{New, Resend, Silent}
use Rattle.harq.specs.Sending.{Sending, after_visit, fresh as fresh_sender}
use Rattle.harq.specs.SendHistory.{Step, Visited, Cleared, World, closed, turned, stepped, world_after as sender_run}
use Rattle.harq.specs.SendHistory.{start}
use Rattle.harq.specs.SendHistory.{KeepsBlocks}
use Rattle.l2_types.specs.declared.side.Side.{Side}
use Rattle.l2_node.specs.Building.{visited, loaded, built_by, built, visit}
use Rattle.l2_node.specs.End.{End, fresh, with_bearer, reset, with_visits}
use Rattle.l2_node.specs.Hearing.{expired}
use Rattle.l2_node.specs.Moving.{left_cell, joined}
use Rattle.l2_node.specs.Submitting.{submitted, discarding}
use Rattle.law_node.specs.Calls.{Turn, Call, SetVisits, SetReports, Add, Submit, SetDiscard, Tick, TickBuckets, Visits}
use Rattle.law_node.specs.Calls.{Grants, Granted, Assigned, Pass, Receive, Expire, Move, answered, after, IsGiven}
use Rattle.law_node.specs.Calls.{AreGiven}
use Rattle.law_node.specs.Processes.{sender_turn, Deeds, no_deeds, deeds_after, sending}
use Rattle.law_node.specs.Watching.{doing, Turns, Watched, watch, watched}

-- a visit

closes : (v : Visit) (t : Turn) (e : End) → (answered v t (built_by v t.tti t.grant (visited t.tti t.order e))).sender
    ≡ closed v (sender_turn e t) (after_visit e.sender t.tti t.order)
unfolding visited loaded
closes New t e = refl
closes (Resend rv) t e = refl
closes Silent t e = refl

turns : (t : Turn) (e : End) → (after e (Visits t)).sender ≡ turned (sender_turn e t) e.sender
unfolding built
turns t e = closes (visit t.tti t.order e) t e

-- HARQ's sender came by steps of its own
record Came (w : World) : Type 0 where
  maximum : ℕ
  steps : List Step
  some : 1 ≤ maximum
  is : w ≡ sender_run steps (start maximum)

run_more : (ss : List Step) (s : Step) (w : World) → sender_run (ss ++ s ∷ []) w ≡ stepped (sender_run ss w) s
run_more [] s w = refl
run_more (x ∷ ss) s w = run_more ss s (stepped w x)

one_more : (w v : World) (s : Step) → v ≡ stepped w s → Came w → Came v
one_more w v s e c = record {
  maximum = c.maximum;
  steps = c.steps ++ s ∷ [];
  some = c.some;
  is = e ∙ ap (λ (x : World). stepped x s) c.is ∙ sym (run_more c.steps s (start c.maximum));
}

comes : (e : End) (c : Call) (past : Deeds) → IsGiven c → Came (record { sender = e.sender; past = past })
    → Came (record { sender = (after e c).sender; past = deeds_after e (doing c) past })
unfolding with_visits with_bearer submitted discarding expired joined left_cell reset
comes e (SetVisits maximum) past g c = record { maximum = maximum; steps = []; some = g; is = refl }
comes e (SetReports reports) past g c = c
comes e (Add config keys) past g c = c
comes e (Submit lcid sdu) past g c = c
comes e (SetDiscard lcid ttis) past g c = c
comes e Tick past g c = c
comes e TickBuckets past g c = c
comes e (Visits t) past g c =
    one_more (record { sender = e.sender; past = past })
    (record { sender = (after e (Visits t)).sender; past = deeds_after e (Turns t) past })
    (Visited (sender_turn e t))
    (ap (λ (s : Sending). record { sender = s; past = deeds_after e (Turns t) past }) (turns t e)) c
comes e (Grants tti) past g c = c
comes e (Granted tti good) past g c = c
comes e (Assigned tti ndi good) past g c = c
comes e (Pass tti) past g c = c
comes e (Receive block) past g c = c
comes e (Expire lcid clock) past g c = c
comes e (Move keys) past g c =
    one_more (record { sender = e.sender; past = past })
    (record { sender = fresh_sender e.sender.maximum; past = λ p. [] }) Cleared refl c

watch_comes : (cs : List Call) (w : Watched Deeds) → AreGiven cs → Came (sending w)
    → Came (sending (watch deeds_after cs w))
watch_comes [] w g c = c
watch_comes (x ∷ cs) w g c =
    watch_comes cs (record { end = after w.end x; past = deeds_after w.end (doing x) w.past }) g.1
    (comes w.end x w.past g.0 c)

begins : (side : Side) (maximum : ℕ) (reports : Bool) → 1 ≤ maximum
    → Came (record { sender = (fresh side maximum reports).sender; past = λ p. [] })
unfolding fresh
begins side maximum reports some = record { maximum = maximum; steps = []; some = some; is = refl }

pub resends : (side : Side) (maximum : ℕ) (reports : Bool) (calls : List Call) → 1 ≤ maximum → AreGiven calls
    → KeepsBlocks (sending (watched deeds_after no_deeds side maximum reports calls))
resends side maximum reports calls some g =
    let c = watch_comes calls (record { end = fresh side maximum reports; past = λ p. [] }) g
    (begins side maximum reports some) in
    subst KeepsBlocks (sym c.is) (keeps_blocks c.maximum c.steps c.some)
