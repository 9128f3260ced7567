-- Behind one more group whose line is no handover, on a channel whose bearers aren't of acknowledged data: what is kept
-- of the flows stands beside both ends, and each record is right on the channel.
use Rattle.std.proofs.Common.{◌≡◌, ◌≤◌, ℕ, ◌==◌, Bool, true, false, List, [], ◌∷◌, ◌++◌, Option, Some, None}
use Rattle.std.proofs.Common.{option_map, refl, ap, sym, subst, ◌∙◌, inr, arith}
use Rattle.std.proofs.lemmas.Bool.{eqb-true}
use Rattle.air_link.specs.Lines.{no_place}
use Rattle.air_link.specs.Link.{end_of}
use Rattle.air_record.specs.declared.line.Line.TheVariants as lines
use Rattle.air_record.specs.declared.record.Record.{Record}
use Rattle.air_record.specs.declared.record.Record.TheVariants as records
use Rattle.air_record.specs.declared.submission.Submission.{Submission}
use Rattle.air_record.specs.Submissions.{submitted_by}
use Rattle.air_run.specs.Playing.{acted, keys_or_none}
use Rattle.air_text.specs.Groups.{Group}
use Rattle.bearer.specs.Submitting.{refusal as flow_refusal}
use Rattle.bearer.specs.declared.flow.Flow.{Flow as BearerFlow}
use Rattle.bearer_types.specs.Sides.{other}
use Rattle.bearer_types.specs.declared.config.BearerConfig.{BearerConfig}
use Rattle.eps_sec.specs.declared.Keys.{Keys}
use Rattle.l2_bits.specs.declared.fault.SubmitRefusal.{SubmitRefusal}
use Rattle.l2_node.specs.End.{End}
use Rattle.l2_node.specs.Submitting.{refusal}
use Rattle.l2_types.specs.declared.channel.Kind.{Kind}
use Rattle.l2_types.specs.declared.channel.Kind.TheVariants as bearers
use Rattle.l2_types.specs.declared.side.Side.{Side}
use Rattle.l2_types.specs.declared.side.Side.TheVariants.{Nb, Ue}
use Rattle.promises.specs.Delivery.{forges}
use Rattle.promises.specs.Parts.{is_handover}
use Rattle.journal_flows.specs.Accounts.{account_at}
use Rattle.journal_given.specs.Giving as giving
use Rattle.journal_given.specs.Supplies as given
use Rattle.journal_sent.specs.RightSent.{AllSent, Flow}
use Rattle.journal_sent.specs.SentFlows.{flow_settled, flow_submitted}
use Rattle.journal_sent.specs.SentPdus.{histories}
use Rattle.journal_sent.specs.Sending.{all_sending, released, renewed_by}
use Rattle.law_bearer.specs.AnyBearer.Calls.{Call as BearerCall, Submit as Submits, after_all}
use Rattle.law_deliver.specs.AmChannel.Lives.{AirStep, InLife, AreLiving, end_at, lives}
use Rattle.law_deliver.specs.AmFlow.Air.{Air, Calls, Step, happens, IsGiven}
use Rattle.law_given.proofs.Tied.{calls_of_step}
use Rattle.law_node.specs.Calls.{Submit}
use Rattle.law_node.specs.Holding.{flow}
use Rattle.law_run.specs.AnyCalls.Runs.{Submit as LinkSubmit, step}
use Rattle.law_run.specs.Order.{state_behind, IsFirstCount, IsRight, KeepsOrder}
use Rattle.law_run.specs.TwoEnds.Along.{at_side, IsHandedIn}
use Rattle.law_run.specs.TwoEnds.Logs.{Flight}
use Rattle.law_run.specs.TwoEnds.On.{IsOn}
use Rattle.law_run.proofs.AnyAir.{at_end}
use Rattle.law_run.proofs.BearerWalk.{adds_one}
use Rattle.law_run.proofs.Knowing.{has_place}
use Rattle.law_run.proofs.Past.{behind as past_behind, link_behind}
use Rattle.law_run.proofs.Standing.{lines_tell}
use Rattle.law_run.proofs.TwoEnds.Advancing.{steps_stay}
use Rattle.law_run.proofs.TwoEnds.Coming.{same_on}
use Rattle.law_sent.specs.Channels.{flow_on, only_at}
use Rattle.law_sent.specs.Flows.{submits_to}
use Rattle.law_sent.proofs.Channels.{bearers_begin}
use Rattle.law_sent.proofs.ChannelsNamed.{as_named}
use Rattle.law_sent.proofs.Flows.{flows_go_on}
use Rattle.law_sent.proofs.FlowsNamed.{record_unsubmitted}
use Rattle.law_sound.specs.LivedFails.{HaveComeNew}
use Rattle.law_sound.proofs.GivenBeside.{of_both}
use Rattle.law_sound.proofs.GivenStepFacts.{step_bearer}
use Rattle.law_sound.proofs.GivenSubmits.{far_calls, own_calls, refuses_it}
use Rattle.law_sound.proofs.GroupCarrying.{is_submission}
use Rattle.law_sound.proofs.LivedFails.{AreThere}
use Rattle.law_sound.proofs.QueueAt.{AreRightRecords, IsAirBehind, IsBase, IsQueuedAt, IsQueuedOn, QueuesBehind}
use Rattle.law_sound.proofs.QueueAt.{QueuesOn}
use Rattle.law_sound.proofs.QueueBases.{AreBasesLow}
use Rattle.law_sound.proofs.QueueBearers.{IsOfQueue, flow_first, queue_begins, queue_keeps, queue_settles}
use Rattle.law_sound.proofs.QueueBeside.{IsQueuedBy}
use Rattle.law_sound.proofs.QueueNamed.{none_named_first}
use Rattle.law_sound.proofs.QueueRecords.{first_unsubmitted}
use Rattle.law_sound.proofs.QueueWalk.{LineQueues, line_queues}
use Rattle.law_sound.proofs.SentBegins.{ends_begin, in_force}
use Rattle.law_sound.proofs.SentKeys.{keeps_channels, none_named, none_renewed}
use Rattle.law_sound.proofs.SentRecords.{giving_before, sending_first}
use Rattle.law_sound.proofs.SentStays.{begins_alike}
use Rattle.law_sound.proofs.WaitingSteps.{bearer_between}

-- ---- a group ends

module _ (l : ℕ) (now : Group) (past : List Group) (side : Side) where
  abbrev told : AllSent
  told = sending_first now past now.events

  abbrev bearer : BearerFlow
  bearer = flow l (end_of side (link_behind (now ∷ past)))

  -- that of no handover, with the SDU that is left of its line
  pub group_settles : (f : Flow) → is_handover now.line ≡ false → AreBasesLow l now past
      → flow_on side l (released told.submitted told) ≡ Some f → IsQueuedBy bearer f
      → IsQueuedOn side l bearer (all_sending histories given.histories (now ∷ past))
  group_settles f here low is h =
      let j = giving.all_given given.histories (now ∷ past) in
      let account = account_at side l j.kept.journal.flows in
      record {
        flow = flow_settled histories account f;
        stands = (flows_go_on side l).ends j told
            ∙ ap (option_map (λ (g : Flow). flow_settled histories account (renewed_by histories told.renewal g))) is
            ∙ ap (λ (keys : Option Keys). Some (flow_settled histories account (renewed_by histories keys f)))
            (none_renewed now past now.events here);
        queued = queue_settles bearer account f (low side) h;
      }

  -- where none is left
  pub none_released : (f : Flow) → told.submitted ≡ None → flow_on side l told ≡ Some f
      → flow_on side l (released told.submitted told) ≡ Some f
  none_released f none is =
      (flows_go_on side l).releases told.submitted told
      ∙ ap (λ (o : Option Submission). option_map (submits_to side l o) (flow_on side l told)) none
      ∙ ap (option_map (submits_to side l None)) is

-- ---- a line that is neither the channel's own bearers', nor a handover, nor a submission

module _ (l : ℕ) (low : l ≤ 10) (now : Group) (past : List Group) (none : submitted_by now.line ≡ None)
    (right : IsRight past now) (order : KeepsOrder past) (other' : adds_one l now.line ≡ false)
    (own : forges now.line ≡ false) (here : is_handover now.line ≡ false)
    (unsubmitted : is_submission now.line ≡ false) where
  -- it leaves the flows
  first_queued : (a : Air) → IsOn (link_behind past) a → HaveComeNew l a → AreThere l a → QueuesOn l past
      → IsQueuedAt l low [] now past none [] a
  first_queued a on new there queues = record {
    new = new;
    there = there;
    queued = λ side.
        let q = queues side in
        record {
          flow = q.flow;
          stands = (flows_go_on side l).lines now.line (all_sending histories given.histories past)
              (begins_alike l now.line other') ∙ q.stands;
          queued = subst (λ (e : End). IsQueuedBy (flow l e) q.flow) (sym (at_end side (link_behind past) a on))
              q.queued;
        };
    silent = λ side. none_named_first l low [] now past none side order;
    alike = λ side.
        none_named_first l low [] now past none side order ∙ sym (ap as_named (none_named side now past));
  }

  pub stays_queued : (Base : Flight → List Record → List Record → Air → Type 0)
      → IsBase l low [] now past none Base → (sent : Flight) (a : Air) → IsOn (link_behind past) a → HaveComeNew l a
      → AreThere l a → Base sent [] now.events a → AreBasesLow l now past → QueuesOn l past
      → QueuesBehind l (now ∷ past)
  stays_queued Base base sent a on new there stands bases queues =
      let x : LineQueues l low [] now past none Base base =
      line_queues l low [] now past none Base base sent a right order other' own here unsubmitted on
      (first_queued a on new there queues) stands in
      record {
        queues = λ side.
            let q = x.stands.queued side in
            group_settles l now past side q.flow here bases
            (none_released l now past side q.flow (first_unsubmitted now past now.events none) q.stands)
            (subst (λ (e : End). IsQueuedBy (flow l e) q.flow) (at_end side (link_behind (now ∷ past)) x.air x.on)
            q.queued);
        right = x.right;
      }

-- ---- a line that submits an SDU

own_to : (side : Side) (l lcid : ℕ) (octets : List ℕ) (f : Flow)
    → submits_to side l (Some (record { side = side; lcid = lcid; octets = octets })) f
    ≡ only_at (lcid == l) (flow_submitted octets) f
own_to Nb l lcid octets f = refl
own_to Ue l lcid octets f = refl

far_to : (side : Side) (l lcid : ℕ) (octets : List ℕ) (f : Flow)
    → submits_to (other side) l (Some (record { side = side; lcid = lcid; octets = octets })) f ≡ f
far_to Nb l lcid octets f = refl
far_to Ue l lcid octets f = refl

module _ (l : ℕ) (side : Side) (lcid : ℕ) (octets : List ℕ) where
  abbrev one : Submission
  one = record { side = side; lcid = lcid; octets = octets }

  abbrev submits : Step
  submits = at_side side (Calls (Submit lcid octets))

  accepts : (e : End) → (lcid == l) ≡ true → refusal lcid octets e ≡ None → flow_refusal (flow l e) octets ≡ None
  unfolding refusal
  accepts e at taken = ap (λ (k : ℕ). flow_refusal (flow k e) octets) (sym (eqb-true lcid l at)) ∙ taken

  -- the SDU goes to its side's bearer, where it is that of the channel
  module _ (a : Air) (new : HaveComeNew l a) (there : AreThere l a) (given : IsGiven l a submits)
      (taken : refusal lcid octets (end_at side a) ≡ None) (f : Flow) where
    abbrev was : Side → BearerFlow
    was z = flow l (end_at z a)

    abbrev Keeps : Side → Type 0
    Keeps z = IsQueuedBy (was z) f → IsQueuedBy (flow l (end_at z (happens a submits))) (submits_to z l (Some one) f)

    called : (z : Side) (g : Flow) → submits_to z l (Some one) f ≡ g
        → IsQueuedBy (after_all (was z) (calls_of_step l z a (InLife submits))) g
        → IsQueuedBy (flow l (end_at z (happens a submits))) (submits_to z l (Some one) f)
    called z g is k =
        subst (λ (x : BearerFlow). IsQueuedBy x (submits_to z l (Some one) f))
        (sym (step_bearer l a submits given new there z))
        (subst (IsQueuedBy (after_all (was z) (calls_of_step l z a (InLife submits)))) (sym is) k)

    own_at : (here : Bool) → (lcid == l) ≡ here → IsQueuedBy (was side) f
        → IsQueuedBy (after_all (was side) (calls_of_step l side a (InLife submits)))
        (only_at here (flow_submitted octets) f)
    own_at true at h =
        subst (λ (cs : List BearerCall). IsQueuedBy (after_all (was side) cs) (flow_submitted octets f))
        (sym (own_calls l lcid octets side a true taken at))
        (queue_keeps l (was side) (Submits octets ∷ []) f (bearer_between l a new there side)
        (inr (record { sdu = octets; calls_are = refl; accepts = accepts (end_at side a) at taken })) (tt, tt) h).behind
    own_at false at h =
        subst (λ (cs : List BearerCall). IsQueuedBy (after_all (was side) cs) f)
        (sym (own_calls l lcid octets side a false taken at)) h

    own_keeps : Keeps side
    own_keeps h =
        called side (only_at (lcid == l) (flow_submitted octets) f) (own_to side l lcid octets f)
        (own_at (lcid == l) refl h)

    far_keeps : Keeps (other side)
    far_keeps h =
        called (other side) f (far_to side l lcid octets f)
        (subst (λ (cs : List BearerCall). IsQueuedBy (after_all (was (other side)) cs) f)
        (sym (far_calls l lcid octets side a)) h)

    submits_keeps : (z : Side) → Keeps z
    submits_keeps = of_both side Keeps own_keeps far_keeps

  module _ (g : Group) (past : List Group) (right : IsRight past (record g { line = lines.Submit side lcid octets }))
      (order : KeepsOrder past) (air : IsAirBehind l past)
      (bases : AreBasesLow l (record g { line = lines.Submit side lcid octets }) past) (queues : QueuesOn l past) where
    abbrev now : Group
    now = record g { line = lines.Submit side lcid octets }

    abbrev before : AllSent
    before = all_sending histories given.histories past

    -- as its line stands
    line_stands : (z : Side) → flow_on z l (sending_first now past []) ≡ Some (queues z).flow
    line_stands z = (flows_go_on z l).lines now.line before refl ∙ (queues z).stands

    -- one call hands it in, and nothing is told
    taken_in : refusal lcid octets (end_of side (link_behind past)) ≡ None → g.events ≡ []
        → (there : IsOn (link_behind (now ∷ past)) (happens air.air submits)) → IsGiven l air.air submits
        → QueuesBehind l (now ∷ past)
    taken_in taken none on given = record {
      queues = λ z.
          let f = (queues z).flow in
          group_settles l now past z (submits_to z l (Some one) f) refl bases
          (subst (λ (told : List Record). flow_on z l (released (sending_first now past told).submitted
          (sending_first now past told)) ≡ Some (submits_to z l (Some one) f)) (sym none)
          ((flows_go_on z l).releases (Some one) (sending_first now past [])
          ∙ ap (option_map (submits_to z l (Some one))) (line_stands z)))
          (subst (λ (e : End). IsQueuedBy (flow l e) (submits_to z l (Some one) f))
          (at_end z (link_behind (now ∷ past)) (happens air.air submits) on)
          (submits_keeps air.air air.new air.there given
          (ap (refusal lcid octets) (at_end side (link_behind past) air.air air.on) ∙ taken) f z
          (subst (λ (e : End). IsQueuedBy (flow l e) f) (sym (at_end z (link_behind past) air.air air.on))
          (queues z).queued)));
      right = subst (AreRightRecords l now past []) (sym none) tt;
    }

    -- it is refused, as one record tells
    refused : (why : SubmitRefusal) → g.events ≡ records.Refused side lcid (no_place why) ∷ []
        → IsOn (link_behind (now ∷ past)) air.air → QueuesBehind l (now ∷ past)
    refused why are on =
        let one' = records.Refused side lcid (no_place why) in
        let first = sending_first now past [] in
        let j = giving_before now past [] one' in
        record {
          queues = λ z.
              let f = (queues z).flow in
              let told = sending_first now past (one' ∷ []) in
              let stands : flow_on z l told ≡ Some f =
              (flows_go_on z l).records one' j first
              ∙ ap (option_map (λ (x : Flow). x))
              ((flows_go_on z l).settles one' first
              ∙ ap (λ (o : Option Submission). option_map (submits_to z l o) (flow_on z l first))
              (refuses_it side lcid octets (no_place why))
              ∙ ap (option_map (submits_to z l None)) (line_stands z)) in
              group_settles l now past z f refl bases
              (subst (λ (xs : List Record). flow_on z l (released (sending_first now past xs).submitted
              (sending_first now past xs)) ≡ Some f) (sym are)
              (none_released l (record now { events = one' ∷ [] }) past z f (record_unsubmitted one' j first) stands))
              (subst (λ (e : End). IsQueuedBy (flow l e) f)
              (sym (at_end z (link_behind past) air.air air.on)
              ∙ at_end z (link_behind (now ∷ past)) air.air on) (queues z).queued);
          right = subst (AreRightRecords l now past []) (sym are) (tt, tt);
        }

    -- by the steps of its line
    record GoesBy (steps : List AirStep) (more : List Record) : Type 0 where
      events_are : g.events ≡ more
      living : AreLiving l air.air steps
      on : IsOn (link_behind (now ∷ past)) (lives steps air.air)

    submits_by : (steps : List AirStep) (more : List Record) → GoesBy steps more
        → IsHandedIn side lcid octets (link_behind past) steps more → QueuesBehind l (now ∷ past)
    submits_by steps more x handed = by (refusal lcid octets (end_of side (link_behind past))) refl
      where
        at : (steps' : List AirStep) (more' : List Record) → (steps ≡ steps') × (more ≡ more') → GoesBy steps' more'
        at steps' more' e = subst (λ (zs : List Record). GoesBy steps' zs) e.1
            (subst (λ (xs : List AirStep). GoesBy xs more) e.0 x)

        by : (r : Option SubmitRefusal) → refusal lcid octets (end_of side (link_behind past)) ≡ r
            → QueuesBehind l (now ∷ past)
        by None q = let y = at _ _ (handed.taken q) in taken_in q y.events_are y.on y.living.0
        by (Some why) q = let y = at _ _ (handed.refused why q) in refused why y.events_are y.on

    pub submits_queued : QueuesBehind l (now ∷ past)
    unfolding acted
    submits_queued =
        let k = link_behind past in
        let x = steps_stay l (LinkSubmit side lcid octets) k air.air tt air.on in
        let more = x.goes.more in
        submits_by x.goes.by.steps more
        (record {
          events_are = right.events_are
              ∙ (x.goes.out_is ∙ ap (λ (o : List Record). o ++ more) (past_behind past order).nothing);
          living = x.goes.by.living;
          on = same_on (step (LinkSubmit side lcid octets) k) (link_behind (now ∷ past)) (lives x.goes.by.steps air.air)
              refl refl refl x.goes.by.on;
        })
        x.goes.submits

-- ---- the line in which its bearers come

first_zero : (kind : Kind) (first : ℕ) → IsOfQueue kind → IsFirstCount kind first → first ≡ 0
first_zero bearers.Tm first of is = is
first_zero bearers.Srb first of is = is
first_zero bearers.Um first of is = is
first_zero bearers.Am first of is = absurd of

module _ (g : Group) (past : List Group) (c : BearerConfig) (options : List ℕ)
    (right : IsRight past (record g { line = lines.Bearer c options })) (order : KeepsOrder past)
    (kind : IsOfQueue c.kind)
    (bases : AreBasesLow c.channel.lcid (record g { line = lines.Bearer c options }) past) where
  abbrev begun : Group
  begun = record g { line = lines.Bearer c options }

  abbrev first_keys : Keys
  first_keys = keys_or_none (state_behind past).rules.keys

  none_told : g.events ≡ []
  none_told = (lines_tell (begun ∷ past) (right, order)).0

  flow_begins : (side : Side) → flow_on side c.channel.lcid (sending_first begun past [])
      ≡ Some (flow_first c side first_keys)
  flow_begins side =
      let h = keeps_channels past in
      let fits = has_place c.kind c.channel.lcid right.in_range.lcid in
      bearers_begin side c options (all_sending histories given.histories past) h.channels (omega (arith, fits))
      ∙ ap (λ (keys : Keys). Some (flow_first c side keys)) (h.keys ∙ in_force past g c options right order)

  queued_first : (side : Side) → IsQueuedBy (flow c.channel.lcid (end_of side (link_behind (begun ∷ past))))
      (flow_first c side first_keys)
  queued_first side =
      subst (λ (x : BearerFlow). IsQueuedBy x (flow_first c side first_keys))
      (sym (ends_begin past g c options right order side).bearer_is)
      (queue_begins c first_keys side kind right.in_range
      (first_zero c.kind c.first kind right.first))

  pub begins_queued : QueuesBehind c.channel.lcid (begun ∷ past)
  begins_queued = record {
    queues = λ side.
        let f = flow_first c side first_keys in
        group_settles c.channel.lcid begun past side f refl bases
        (subst (λ (told : List Record). flow_on side c.channel.lcid (released (sending_first begun past told).submitted
        (sending_first begun past told)) ≡ Some f) (sym none_told)
        (none_released c.channel.lcid (record begun { events = [] }) past side f refl (flow_begins side)))
        (queued_first side);
    right = subst (AreRightRecords c.channel.lcid begun past []) (sym none_told) tt;
  }
