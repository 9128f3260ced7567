-- In a step of a life no new block is built, and no bearer writes; or one is, behind what its end tells.
use Rattle.std.proofs.Common.{◌≡◌, ℕ, ◌==◌, Option, Some, None, List, []}
use Rattle.std.proofs.Common.{◌++◌, slice_get, append-nil, refl, sym, subst, ◌∙◌}
use Rattle.std.specs.List.{AllByRecursion}
use Rattle.bearer_types.specs.Sides.{heard_by}
use Rattle.harq.specs.declared.sender.Visit.{Visit}
use Rattle.harq.specs.declared.sender.Visit.TheVariants.{New, Resend, Silent}
use Rattle.l2_node.specs.Building.{visit, visited}
use Rattle.l2_node.specs.End.{End}
use Rattle.l2_node.specs.Submitting.{refusal}
use Rattle.l2_types.specs.declared.side.Side.{Side}
use Rattle.l2_types.specs.declared.side.Side.TheVariants.{Nb, Ue}
use Rattle.promises.specs.Pdus.{carried}
use Rattle.law_bearer.specs.AnyBearer.Calls.{Call as BearerCall, Expire as Expires, SetDiscard as SetsDiscard}
use Rattle.law_deliver.specs.AmChannel.Lives.{InLife, brought}
use Rattle.law_deliver.specs.AmFlow.Air.{Block, Air, Act, Calls, Comes, Goes, Step, AtNb, AtUe, Passes}
use Rattle.law_deliver.specs.AmFlow.Air.{IsDone, IsGiven}
use Rattle.law_deliver.specs.AmFlow.Carrying.{Builds}
use Rattle.law_deliver.specs.AmFlow.Channels.{calls_of, takes_of}
use Rattle.law_deliver.specs.AmFlow.Ups.{calls_over}
use Rattle.law_given.proofs.Tied.{calls_of_step}
use Rattle.law_node.specs.Calls.{Turn, Call, SetVisits, SetReports, Add, Submit, SetDiscard, Tick, TickBuckets, Visits}
use Rattle.law_node.specs.Calls.{Grants, Granted, Assigned, Pass, Receive, Expire, Move}
use Rattle.law_node.specs.Telling.{told_of}
use Rattle.law_run.specs.TwoEnds.Logs.{log_at, log_come}
use Rattle.law_run.proofs.OwnPdus.Bearers.{IsQuiet, quiet_arrives, quiet_only, quiet_submits}
use Rattle.law_sound.specs.BesideLaws.{station_of}
use Rattle.law_run.specs.TwoEnds.Along.{at_side}
use Rattle.law_sound.proofs.LoggedEvents.{IsUnbuilt, tells_unbuilt}
use Rattle.law_sound.proofs.StepLogs.{log_at_side, resends_none, silent_none}
use Rattle.law_sound.proofs.StepRecords.{plain_logs}

-- ---- how a step goes

pub data HowItBuilds (l : ℕ) (a : Air) (s : Step) : Type 0 where
  -- no bearer of the channel writes
  BuildsNone : ((side : Side) → AllByRecursion IsQuiet (calls_of_step l side a (InLife s)))
      → AllByRecursion IsUnbuilt (log_at a (InLife s)) → HowItBuilds l a s
  BuildsOne : (side : Side) (t : Turn) → s ≡ at_side side (Calls (Visits t))
      → IsGiven l a (at_side side (Calls (Visits t))) → visit t.tti t.order (station_of side a).end ≡ New
      → HowItBuilds l a s

quiet_more : (cs : List BearerCall) → AllByRecursion IsQuiet cs → AllByRecursion IsQuiet (cs ++ [])
quiet_more cs q = subst (AllByRecursion IsQuiet) (sym (append-nil cs)) q

visit_quiet : (v : Visit) (t : Turn) (e : End) (l : ℕ) → (v ≡ New → ⊥) → AllByRecursion IsQuiet (takes_of v t e l)
visit_quiet New t e l none = absurd (none refl)
visit_quiet (Resend rv) t e l none = tt
visit_quiet Silent t e l none = tt

call_quiet : (l : ℕ) (e : End) (c : Call) → (Builds e (Calls c) → ⊥) → AllByRecursion IsQuiet (calls_of l e c)
call_quiet l e (SetVisits maximum) none = tt
call_quiet l e (SetReports reports) none = tt
call_quiet l e (Add config keys) none = tt
call_quiet l e (Submit lcid octets) none = quiet_submits (refusal lcid octets e) (lcid == l) octets
call_quiet l e (SetDiscard lcid ttis) none = quiet_only (lcid == l) (SetsDiscard ttis) tt
call_quiet l e Tick none = (tt, tt)
call_quiet l e TickBuckets none = tt
call_quiet l e (Visits t) none =
    visit_quiet (visit t.tti t.order e) t (visited t.tti t.order e) l
    (λ new. none (record { turn = t; is = refl; new = new }))
call_quiet l e (Grants tti) none = tt
call_quiet l e (Granted tti good) none = tt
call_quiet l e (Assigned tti ndi good) none = tt
call_quiet l e (Pass tti) none = tt
call_quiet l e (Receive block) none = quiet_arrives (carried l (heard_by e.side) block)
call_quiet l e (Expire lcid clock) none = quiet_only (lcid == l) (Expires clock) tt
call_quiet l e (Move keys) none = tt

-- of an act of a side, the other side's bearer isn't called
both_quiet : (l : ℕ) (a : Air) (side : Side) (x : Act)
    → AllByRecursion IsQuiet (calls_of_step l side a (InLife (at_side side x))) → (own : Side)
    → AllByRecursion IsQuiet (calls_of_step l own a (InLife (at_side side x)))
both_quiet l a Nb x h Nb = h
both_quiet l a Nb x h Ue = tt
both_quiet l a Ue x h Nb = tt
both_quiet l a Ue x h Ue = h

pub act_calls : (l : ℕ) (a : Air) (side : Side) (c : Call)
    → calls_of_step l side a (InLife (at_side side (Calls c))) ≡ calls_of l (station_of side a).end c ++ []
act_calls l a Nb c = refl
act_calls l a Ue c = refl

pub done_act : (l : ℕ) (a : Air) (side : Side) (x : Act) → IsGiven l a (at_side side x) → IsDone l (station_of side a) x
done_act l a Nb x given = given
done_act l a Ue x given = given

call_builds : (l : ℕ) (a : Air) (side : Side) (c : Call) → IsGiven l a (at_side side (Calls c))
    → (Builds (station_of side a).end (Calls c) → ⊥) → HowItBuilds l a (at_side side (Calls c))
call_builds l a side c given none =
    let done = done_act l a side (Calls c) given in
    BuildsNone
    (both_quiet l a side (Calls c)
    (subst (AllByRecursion IsQuiet) (sym (act_calls l a side c))
    (quiet_more (calls_of l (station_of side a).end c) (call_quiet l (station_of side a).end c none))))
    (subst (AllByRecursion IsUnbuilt)
    (sym (log_at_side side a (Calls c) ∙ plain_logs side 0 (station_of side a) c none done.2))
    (tells_unbuilt side (told_of (station_of side a).end c)))

comes_unbuilt : (side : Side) (e : End) (o : Option Block) → AllByRecursion IsUnbuilt (log_come side e o)
comes_unbuilt side e None = tt
comes_unbuilt side e (Some b) = (tt, tells_unbuilt side (told_of e (Receive b.octets)))

comes_quiet : (l : ℕ) (e : End) (o : Option Block) → AllByRecursion IsQuiet (calls_over l (brought o) e)
comes_quiet l e None = tt
comes_quiet l e (Some b) =
    quiet_more (calls_of l e (Receive b.octets)) (quiet_arrives (carried l (heard_by e.side) b.octets))

act_builds : (l : ℕ) (a : Air) (side : Side) (x : Act) → IsGiven l a (at_side side x) → HowItBuilds l a (at_side side x)
act_builds l a side (Calls (Visits t)) given = by (visit t.tti t.order (station_of side a).end) refl
  where
    by : (v : Visit) → visit t.tti t.order (station_of side a).end ≡ v
        → HowItBuilds l a (at_side side (Calls (Visits t)))
    by New new = BuildsOne side t refl given new
    by (Resend rv) q =
        call_builds l a side (Visits t) given (λ b. resends_none t rv (station_of side a).end q b)
    by Silent q = call_builds l a side (Visits t) given (λ b. silent_none t (station_of side a).end q b)
act_builds l a side (Calls c) given = call_builds l a side c given (λ b. let no = b.is in absurd cc)
act_builds l a Nb (Comes k) given =
    BuildsNone (both_quiet l a Nb (Comes k) (comes_quiet l a.nb.end (slice_get a.ue.blocks k)))
    (comes_unbuilt Nb a.nb.end (slice_get a.ue.blocks k))
act_builds l a Ue (Comes k) given =
    BuildsNone (both_quiet l a Ue (Comes k) (comes_quiet l a.ue.end (slice_get a.nb.blocks k)))
    (comes_unbuilt Ue a.ue.end (slice_get a.nb.blocks k))
act_builds l a Nb (Goes k) given = BuildsNone (both_quiet l a Nb (Goes k) tt) tt
act_builds l a Ue (Goes k) given = BuildsNone (both_quiet l a Ue (Goes k) tt) tt

pub how_it_builds : (l : ℕ) (a : Air) (s : Step) → IsGiven l a s → HowItBuilds l a s
how_it_builds l a (AtNb x) given = act_builds l a Nb x given
how_it_builds l a (AtUe x) given = act_builds l a Ue x given
how_it_builds l a Passes given = BuildsNone (λ side. by side) tt
  where
    by : (side : Side) → AllByRecursion IsQuiet (calls_of_step l side a (InLife Passes))
    by Nb = tt
    by Ue = tt
