-- A step of a life in which no bearer of a channel writes, none being of acknowledged data: what is kept of the flow
-- that each side sends goes on beside the bearers, and each record is right.
use Rattle.std.proofs.Common.{◌≡◌, ◌≤◌, ℕ, Some, None, List, [], ◌++◌, ap, sym, subst, ◌∙◌, ◌⊎◌, inl, inr}
use Rattle.std.specs.List.{AllByRecursion, flat_map}
use Rattle.air_record.specs.declared.record.Record.{Record}
use Rattle.air_record.specs.Submissions.{submitted_by}
use Rattle.air_text.specs.Groups.{Group}
use Rattle.bearer.specs.declared.flow.Flow.{Flow as BearerFlow}
use Rattle.bearer_types.specs.declared.event.Event.{Event}
use Rattle.l2_types.specs.declared.side.Side.{Side}
use Rattle.promises.specs.Events.{told_on}
use Rattle.promises.specs.Flows.{looped_at}
use Rattle.promises.specs.Records.{events_of}
use Rattle.journal_sent.specs.RightSent.{Flow}
use Rattle.law_bearer.specs.AnyBearer.Calls.{Call as BearerCall, after_all}
use Rattle.law_bearer.specs.AnyBearer.Queue.{submits}
use Rattle.law_bearer.proofs.AnyBearer.Between.{IsBetween}
use Rattle.law_deliver.specs.AmChannel.Lives.{InLife, end_at, calls_at}
use Rattle.law_deliver.specs.AmFlow.Air.{Air, Step, happens}
use Rattle.law_deliver.specs.AmFlow.Ups.{tells_over}
use Rattle.law_deliver.proofs.AmFlow.Accepting.{AreAcceptable}
use Rattle.law_given.proofs.Tied.{calls_of_step}
use Rattle.law_given.proofs.WaitingBearers.{step_acceptable, submits_or_tells}
use Rattle.law_node.specs.Holding.{flow}
use Rattle.law_run.specs.TwoEnds.Logs.{Flight}
use Rattle.law_run.proofs.OwnPdus.Bearers.{IsQuiet}
use Rattle.law_sound.specs.LivedFails.{HaveComeNew}
use Rattle.law_sound.specs.NamedSteps.{SendsNoNewBlock}
use Rattle.law_sound.proofs.GivenCalls.{submits_over}
use Rattle.law_sound.proofs.GivenStepFacts.{step_bearer, step_told}
use Rattle.law_sound.proofs.LivedFails.{AreThere}
use Rattle.law_sound.proofs.QueueAt.{AreRightRecords, IsQueuedOn, TellsStep}
use Rattle.law_sound.proofs.QueueBearers.{queue_keeps}
use Rattle.law_sound.proofs.QueueBeside.{AreRightHere, KeepsSo, queue_over, queue_submits}
use Rattle.law_sound.proofs.QueueRecords.{AreRightOver, all_right, flow_goes, go_by_events, go_by_loops, not_data}
use Rattle.law_sound.proofs.QueueRecords.{queue_records}
use Rattle.law_sound.proofs.SentRecords.{sending_first}
use Rattle.law_sound.proofs.WaitingSteps.{bearer_between}

-- ---- records that tell what the calls of a side's bearer do

module _ (l : ℕ) (side : Side) (x : BearerFlow) (cs : List BearerCall) (xs : List Record)
    (told_is : told_on l (events_of side xs) ≡ tells_over l x cs)
    (loops_are : looped_at side l xs ≡ flat_map submits cs) where
  abbrev behind : Flow → Flow
  behind f = queue_over (tells_over l x cs) (queue_submits (flat_map submits cs) f)

  record GoBy (f : Flow) : Type 0 where
    flow_is : queue_records side l xs f ≡ behind f
    right : AreRightHere (tells_over l x cs) (queue_submits (flat_map submits cs) f) → AreRightOver side l xs f

  -- they submit one, or tell of some
  go_by : (f : Flow) → (flat_map submits cs ≡ []) ⊎ (tells_over l x cs ≡ []) → GoBy f
  go_by f (inl nothing) =
      let g = go_by_events side l xs f (loops_are ∙ nothing) in
      let es = tells_over l x cs in
      let same : queue_submits (flat_map submits cs) f ≡ f =
      ap (λ (sdus : List (List ℕ)). queue_submits sdus f) nothing in
      record {
        flow_is = g.flow_is ∙ ap (λ (zs : List Event). queue_over zs f) told_is ∙ ap (queue_over es) (sym same);
        right = λ right. g.right
            (subst (λ (zs : List Event). AreRightHere zs f) (sym told_is) (subst (AreRightHere es) same right));
      }
  go_by f (inr silent) =
      let g = go_by_loops side l xs f (told_is ∙ silent) in
      let h = queue_submits (flat_map submits cs) f in
      record {
        flow_is = g.flow_is
            ∙ ap (λ (sdus : List (List ℕ)). queue_submits sdus f) loops_are
            ∙ ap (λ (zs : List Event). queue_over zs h) (sym silent);
        right = λ right. g.right;
      }

  module _ (now : Group) (past : List Group) (none : submitted_by now.line ≡ None) where
    pub record GoesQuietly (told : List Record) (f : Flow) : Type 0 where
      pub queued : IsQueuedOn side l (after_all x cs) (sending_first now past (told ++ xs))
      pub right : AreRightOver side l xs f

    -- in which the bearer writes nothing
    pub goes_quietly : (told : List Record) → AreAcceptable x cs → AllByRecursion IsQuiet cs → IsBetween l x
        → AllByRecursion SendsNoNewBlock xs → (h : IsQueuedOn side l x (sending_first now past told))
        → GoesQuietly told h.flow
    goes_quietly told acceptable quiet between unsent h =
        let k : KeepsSo l x cs h.flow = queue_keeps l x cs h.flow between acceptable quiet h.queued in
        let g = go_by h.flow (submits_or_tells l x cs acceptable) in
        record {
          queued = record {
            flow = behind h.flow;
            stands = flow_goes l now past none side xs told h.flow unsent (not_data x h.flow h.queued) h.stands
                ∙ ap (λ (f : Flow). Some f) g.flow_is;
            queued = k.behind;
          };
          right = g.right k.right;
        }

-- ---- a step

module _ (l : ℕ) (low : l ≤ 10) (newer : List Group) (now : Group) (past : List Group)
    (none : submitted_by now.line ≡ None) (a : Air) (s : Step) (sent : Flight) (told xs : List Record)
    (tells : TellsStep l low newer now past none a s sent xs) (new : HaveComeNew l a) (there : AreThere l a) where
  abbrev bearer : Side → BearerFlow
  bearer side = flow l (end_at side a)

  abbrev calls : Side → List BearerCall
  calls side = calls_of_step l side a (InLife s)

  pub tells_so : (side : Side) → told_on l (events_of side xs) ≡ tells_over l (bearer side) (calls side)
  tells_so side = step_told l a s tells.given new there sent xs tells.logs side

  pub loops_so : (side : Side) → looped_at side l xs ≡ flat_map submits (calls side)
  loops_so side = tells.looped side l ∙ submits_over l (calls_at side a (InLife s)) (end_at side a)

  -- both sides' flows behind it, and its records are right
  pub record QueuesGo : Type 0 where
    pub queued : (side : Side)
        → IsQueuedOn side l (flow l (end_at side (happens a s))) (sending_first now past (told ++ xs))
    pub right : AreRightRecords l now past told xs

  pub quiet_go : ((side : Side) → AllByRecursion IsQuiet (calls side)) → AllByRecursion SendsNoNewBlock xs
      → ((side : Side) → IsQueuedOn side l (bearer side) (sending_first now past told)) → QueuesGo
  quiet_go quiet unsent h = record {
    queued = λ side. subst (λ (x : BearerFlow). IsQueuedOn side l x (sending_first now past (told ++ xs)))
        (sym (step_bearer l a s tells.given new there side)) (goes side).queued;
    right = all_right l now past none xs told (λ side. (h side).flow) (λ side. (h side).stands)
        (λ side. not_data (bearer side) (h side).flow (h side).queued) unsent (λ side. (goes side).right);
  }
    where
      goes : (side : Side) → GoesQuietly l side (bearer side) (calls side) xs (tells_so side) (loops_so side) now past
          none told (h side).flow
      goes side =
          goes_quietly l side (bearer side) (calls side) xs (tells_so side) (loops_so side) now past none told
          (step_acceptable l side a s) (quiet side) (bearer_between l a new there side) unsent (h side)
