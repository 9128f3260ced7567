-- Behind a handover, on a channel whose bearers aren't of acknowledged data: what is kept of the flows stands beside
-- both ends in their next life, in which only SDUs are submitted, and each record is right on the channel.
use Rattle.std.proofs.Common.{◌≡◌, ◌<◌, ◌≤◌, ℕ, false, List, [], ◌∷◌, ◌++◌, Option, Some, option_map, refl, ap}
use Rattle.std.proofs.Common.{sym, subst, ◌∙◌, arith}
use Rattle.std.specs.List.{AllByRecursion, flat_map}
use Rattle.air_link.specs.Link.{end_of}
use Rattle.air_record.specs.declared.line.Line.TheVariants as lines
use Rattle.air_record.specs.declared.record.Record.{Record}
use Rattle.air_run.specs.Playing.{acted}
use Rattle.air_text.specs.Groups.{Group}
use Rattle.bearer.specs.declared.flow.Flow.{Flow as BearerFlow}
use Rattle.bearer_types.specs.Configs.{IsChannelOf}
use Rattle.bearer_types.specs.declared.config.BearerConfig.{BearerConfig}
use Rattle.bearer_types.specs.declared.event.Event.{Event}
use Rattle.bearer_types.specs.declared.event.Event.TheVariants as events
use Rattle.eps_sec.specs.declared.Cipher.{Cipher}
use Rattle.eps_sec.specs.declared.Key.{Key}
use Rattle.eps_sec.specs.declared.Keys.{Keys}
use Rattle.l2_node.specs.End.{End}
use Rattle.l2_types.specs.declared.channel.Kind.{Kind}
use Rattle.l2_types.specs.declared.channel.Kind.TheVariants as bearers
use Rattle.l2_types.specs.declared.side.Side.{Side}
use Rattle.l2_types.specs.declared.side.Side.TheVariants.{Nb, Ue}
use Rattle.pdu_show.specs.Kinds.{layout_of}
use Rattle.pdu_show.specs.declared.kinds.Layout.{Layout}
use Rattle.pdu_show.specs.declared.kinds.Layout.TheVariants as layouts
use Rattle.pdcp_pdu.specs.declared.PdcpKind.{PdcpKind}
use Rattle.promises.specs.Configs.{config_of}
use Rattle.promises.specs.Events.{told_on}
use Rattle.promises.specs.Flows.{looped_at}
use Rattle.promises.specs.Records.{event_of}
use Rattle.promises.specs.Telling.{channels}
use Rattle.journal_flows.specs.Accounts.{account_at}
use Rattle.journal_given.specs.Giving.{all_given}
use Rattle.journal_given.specs.Supplies as given
use Rattle.journal_sent.specs.RightSent.{AllSent, Flow}
use Rattle.journal_sent.specs.SentFlows.{flow_renewed, flow_settled, flow_submitted, is_data}
use Rattle.journal_sent.specs.SentPdus.{histories}
use Rattle.journal_sent.specs.Sending.{all_sending, renewed_by}
use Rattle.law_bearer.specs.AnyBearer.Calls.{after_all}
use Rattle.law_bearer.specs.AnyBearer.Queue.{submits}
use Rattle.law_deliver.specs.AmChannel.Lives.{AirStep, InLife, Moves, AreLiving, calls_at, end_at, lives, lives_on}
use Rattle.law_deliver.specs.AmFlow.Air.{Air, Step, happens, IsGiven}
use Rattle.law_deliver.specs.AmFlow.Ups.{tells_over}
use Rattle.law_deliver.proofs.AmFlow.Carrying.{front, rest}
use Rattle.law_deliver.proofs.AmFlow.Ups.{the_end}
use Rattle.law_given.proofs.Tied.{calls_of_step}
use Rattle.law_given.proofs.WaitingBearers.{step_acceptable}
use Rattle.law_node.specs.Holding.{flow}
use Rattle.law_run.specs.AnyCalls.Calls as calls
use Rattle.law_run.specs.AnyCalls.Runs.{Calls, step}
use Rattle.law_run.specs.Order.{IsRight, KeepsOrder}
use Rattle.law_run.specs.TwoEnds.Along.{AreAlong}
use Rattle.law_run.specs.TwoEnds.Logs.{Flight, flight_in, log_at, logged, no_flight}
use Rattle.law_run.specs.TwoEnds.On.{IsOn}
use Rattle.law_run.specs.TwoEnds.Staying.{AreInLife, MovesOn}
use Rattle.law_run.proofs.AnyAir.{at_end}
use Rattle.law_run.proofs.Flowing.{looped_then}
use Rattle.law_run.proofs.Past.{behind as past_behind, link_behind}
use Rattle.law_run.proofs.Standing.{lines_tell}
use Rattle.law_run.proofs.TwoEnds.Advancing.{handovers_move}
use Rattle.law_run.proofs.TwoEnds.Coming.{same_on}
use Rattle.law_run.proofs.Unlooped.{none_looped}
use Rattle.law_sent.specs.Channels.{flow_on}
use Rattle.law_sent.proofs.Flows.{flows_go_on}
use Rattle.law_sound.specs.LivedFails.{HaveComeNew}
use Rattle.law_sound.proofs.GivenCalls.{submits_over}
use Rattle.law_sound.proofs.GivenLater.{gone_log_events, gone_told}
use Rattle.law_sound.proofs.GivenStepFacts.{stands_at, step_bearer, step_there, step_told}
use Rattle.law_sound.proofs.GroupKinds.{layout_by}
use Rattle.law_sound.proofs.GroupReading.{moved_keys}
use Rattle.law_sound.proofs.SentLayouts.{all_layout}
use Rattle.law_sound.proofs.LivedFails.{AreThere}
use Rattle.law_sound.proofs.LoggedEvents.{IsUnbuilt, none_sent_anew}
use Rattle.law_sound.proofs.MovingFails.{lives_come_new}
use Rattle.law_sound.proofs.QueueAirs.{moved_there}
use Rattle.law_sound.proofs.QueueAt.{IsAirBehind, IsQueuedOn, QueuesBehind, QueuesOn}
use Rattle.law_sound.proofs.QueueBases.{AreBasesLow}
use Rattle.law_sound.proofs.QueueBearers.{IsOfQueue, queue_keeps, queue_restarts, queue_settles}
use Rattle.law_sound.proofs.QueueBeside.{AreRightHere, IsQueuedBy, IsRightHere, queue_by, queue_over, queue_submits}
use Rattle.law_sound.proofs.QueueLines.{none_released}
use Rattle.law_sound.proofs.QueueRecords.{AreRightOver, all_right, first_unsubmitted, flow_goes, not_data, queue_record}
use Rattle.law_sound.proofs.QueueRecords.{queue_records, submits_both, submitted_layout}
use Rattle.law_sound.proofs.SentBegins.{keys_stand}
use Rattle.law_sound.proofs.SentKeys.{keys_renewed}
use Rattle.law_sound.proofs.SentMoves.{quiet_step}
use Rattle.law_sound.proofs.SentRecords.{sending_first, told_one}
use Rattle.law_sound.proofs.Still.{IsGone, IsGoneEvent, AreGone, handover_gone}
use Rattle.law_sound.proofs.WaitingSteps.{bearer_between}

-- ---- records that tell only what goes up, is dropped or looped

gone_over : (es : List Event) (f : Flow) → AllByRecursion IsGoneEvent es → queue_over es f ≡ f
gone_over [] f gone = refl
gone_over (e ∷ es) f gone = ap (queue_over es) (one e gone.0) ∙ gone_over es f gone.1
  where
    one : (e : Event) → IsGoneEvent e → queue_by e f ≡ f
    one (events.Take lcid count len) h = absurd h
    one (events.Report lcid fms bitmap) h = absurd h
    one (events.Discard lcid len) h = absurd h
    one e h = refl

gone_right : (es : List Event) (f : Flow) → AllByRecursion IsGoneEvent es → AreRightHere es f
gone_right [] f gone = tt
gone_right (e ∷ es) f gone = (one e gone.0, gone_right es (queue_by e f) gone.1)
  where
    one : (e : Event) → IsGoneEvent e → IsRightHere e f
    one (events.Take lcid count len) h = absurd h
    one (events.Report lcid fms bitmap) h = absurd h
    one (events.Discard lcid len) h = absurd h
    one e h = tt

module _ (l : ℕ) (side : Side) where
  told_gone : (one : Record) → IsGone one → AllByRecursion IsGoneEvent (told_on l (event_of side one))
  told_gone one gone = subst (AllByRecursion IsGoneEvent) (told_one l side one) (gone_told l side (one ∷ []) (gone, tt))

  gone_record : (one : Record) (f : Flow) → IsGone one
      → queue_record side l one f ≡ queue_submits (looped_at side l (one ∷ [])) f
  gone_record one f gone = gone_over (told_on l (event_of side one)) _ (told_gone one gone)

  gone_queue : (xs : List Record) (f : Flow) → AreGone xs
      → queue_records side l xs f ≡ queue_submits (looped_at side l xs) f
  gone_queue [] f gone = nothing side
    where
      nothing : (x : Side) → f ≡ queue_submits (looped_at x l []) f
      nothing Nb = refl
      nothing Ue = refl
  gone_queue (one ∷ xs) f gone =
      let first = looped_at side l (one ∷ []) in
      gone_queue xs (queue_record side l one f) gone.1
      ∙ ap (queue_submits (looped_at side l xs)) (gone_record one f gone.0)
      ∙ sym (submits_both first (looped_at side l xs) f)
      ∙ ap (λ (sdus : List (List ℕ)). queue_submits sdus f) (sym (looped_then side l (one ∷ []) xs))

  gone_right_over : (xs : List Record) (f : Flow) → AreGone xs → AreRightOver side l xs f
  gone_right_over [] f gone = tt
  gone_right_over (one ∷ xs) f gone = (
    gone_right (told_on l (event_of side one)) f (told_gone one gone.0),
    gone_right_over xs (queue_record side l one f) gone.1,
  )

-- ---- steps of the next life: the bearer is submitted what the loop brings

module _ (l : ℕ) (side : Side) where
  step_keeps : (s : Step) (a : Air) (sent : Flight) (told : List Record) (f : Flow) → IsGiven l a s
      → HaveComeNew l a → AreThere l a → logged sent told ≡ log_at a (InLife s) → AreGone told
      → looped_at side l told ≡ flat_map submits (calls_of_step l side a (InLife s))
      → IsQueuedBy (flow l (end_at side a)) f
      → IsQueuedBy (flow l (end_at side (happens a s))) (queue_submits (looped_at side l told) f)
  step_keeps s a sent told f given new there logs gone loops h =
      let x = flow l (end_at side a) in
      let cs = calls_of_step l side a (InLife s) in
      let unbuilt = subst (AllByRecursion IsUnbuilt) logs (gone_log_events IsUnbuilt (λ own e. tt) sent told gone) in
      let k = queue_keeps l x cs f (bearer_between l a new there side) (step_acceptable l side a s)
      (quiet_step l a s given unbuilt side) h in
      let tells : AllByRecursion IsGoneEvent (tells_over l x cs) =
      subst (AllByRecursion IsGoneEvent) (step_told l a s given new there sent told logs side)
      (gone_told l side told gone) in
      subst (λ (y : BearerFlow). IsQueuedBy y (queue_submits (looped_at side l told) f))
      (sym (step_bearer l a s given new there side))
      (subst (IsQueuedBy (after_all x cs))
      (gone_over (tells_over l x cs) (queue_submits (flat_map submits cs) f) tells
      ∙ ap (λ (sdus : List (List ℕ)). queue_submits sdus f) (sym loops)) k.behind)

  steps_keep : (steps : List AirStep) (a : Air) (sent : Flight) (told : List Record) (f : Flow)
      → AreLiving l a steps → AreInLife steps → AreAlong sent steps a told → AreGone told → HaveComeNew l a
      → AreThere l a → IsQueuedBy (flow l (end_at side a)) f
      → IsQueuedBy (flow l (end_at side (lives steps a))) (queue_submits (looped_at side l told) f)
  steps_keep [] a sent told f living life along gone new there h =
      subst (λ (sdus : List (List ℕ)). IsQueuedBy (flow l (end_at side a)) (queue_submits sdus f))
      (sym (along.1 side l)) h
  steps_keep (InLife s ∷ steps) a sent told f living life along gone new there h =
      let now = along.now in
      let later = along.later in
      let all : AreGone (now ++ later) = subst AreGone along.are gone in
      let loops = along.looped side l ∙ submits_over l (calls_at side a (InLife s)) (end_at side a) in
      let k = step_keeps s a sent now f living.0 new there along.logs (front IsGone now later all) loops h in
      let y = steps_keep steps (happens a s) (flight_in now sent) later (queue_submits (looped_at side l now) f)
      living.1 life along.others (rest IsGone now later all) (lives_come_new l (InLife s ∷ []) a new (living.0, tt))
      (step_there l a s living.0 new there) k in
      subst (IsQueuedBy (flow l (end_at side (lives steps (happens a s)))))
      (sym (submits_both (looped_at side l now) (looped_at side l later) f)
      ∙ ap (λ (sdus : List (List ℕ)). queue_submits sdus f)
      (sym (ap (looped_at side l) along.are ∙ looped_then side l now later))) y
  steps_keep (Moves keys ∷ steps) a sent told f living life along gone new there h = absurd life

-- ---- an SDU that is submitted before the next life begins, or behind that

module _ (keys : Keys) where
  abbrev Renews : List (List ℕ) → Flow → Type 0
  Renews sdus f =
      flow_renewed histories keys (queue_submits sdus f) ≡ queue_submits sdus (flow_renewed histories keys f)

  -- on an unacknowledged channel it waits on
  one_renews : (sdu : List ℕ) (f : Flow) (rlc_bits : ℕ) (kind : PdcpKind) → f.layout ≡ layouts.Um rlc_bits kind
      → Renews (sdu ∷ []) f
  one_renews sdu f rlc_bits kind is =
      subst (λ (layout : Layout). Renews (sdu ∷ []) (record f { layout = layout })) (sym is) refl

  waits_on : (sdus : List (List ℕ)) (f : Flow) (rlc_bits : ℕ) (kind : PdcpKind) → f.layout ≡ layouts.Um rlc_bits kind
      → Renews sdus f
  waits_on [] f rlc_bits kind is = refl
  waits_on (sdu ∷ sdus) f rlc_bits kind is =
      waits_on sdus (flow_submitted sdu f) rlc_bits kind
      (submitted_layout (is_data f.layout) f (f.waiting ++ sdu ∷ []) ∙ is)
      ∙ ap (queue_submits sdus) (one_renews sdu f rlc_bits kind is)

  none_renews : (sdus : List (List ℕ)) (f : Flow) → sdus ≡ [] → Renews sdus f
  none_renews sdus f none = subst (λ (xs : List (List ℕ)). Renews xs f) (sym none) refl

-- ---- a handover

-- no SDU is looped on a transparent or a signalling channel
renews_by : (kind : Kind) (rlc_bits pdcp_bits l : ℕ) (keys : Keys) (sdus : List (List ℕ)) (f : Flow) → IsOfQueue kind
    → IsChannelOf kind l → f.layout ≡ layout_of kind rlc_bits pdcp_bits → (l < 3 → sdus ≡ []) → Renews keys sdus f
renews_by bearers.Tm rlc_bits pdcp_bits l keys sdus f of channel is none =
    none_renews keys sdus f (none (omega (arith, channel)))
renews_by bearers.Srb rlc_bits pdcp_bits l keys sdus f of channel is none =
    let few = channel.1 in none_renews keys sdus f (none (omega (arith, few)))
renews_by bearers.Um rlc_bits pdcp_bits l keys sdus f of channel is none = waits_on keys sdus f rlc_bits _ is
renews_by bearers.Am rlc_bits pdcp_bits l keys sdus f of channel is none = absurd of

module _ (l : ℕ) (g : Group) (past : List Group) (c : BearerConfig) (user rrc integrity : Key)
    (right : IsRight past (record g { line = lines.Handover user rrc integrity })) (order : KeepsOrder past)
    (kind : IsOfQueue c.kind) (channel : IsChannelOf c.kind l) (low : l ≤ 10) (config : config_of l past ≡ Some c)
    (air : IsAirBehind l past)
    (bases : AreBasesLow l (record g { line = lines.Handover user rrc integrity }) past)
    (queues : QueuesOn l past) where
  abbrev now : Group
  now = record g { line = lines.Handover user rrc integrity }

  abbrev keys : Keys
  keys = moved_keys user rrc integrity past

  abbrev before : AllSent
  before = all_sending histories given.histories past

  -- both ends have moved
  abbrev moved : Air
  moved = lives_on air.air (Moves keys)

  m : MovesOn l keys (link_behind past) air.air
  m = handovers_move l keys (link_behind past) air.air air.on

  abbrev bearer : Side → BearerFlow
  bearer side = flow l (end_of side (link_behind (now ∷ past)))

  gone : AreGone g.events
  gone = handover_gone (λ side. channels past) g.events (lines_tell (now ∷ past) (right, order)).0

  events_are : g.events ≡ m.leaving ++ m.behind
  unfolding acted
  events_are =
      right.events_are
      ∙ (m.out_is ∙ ap (λ (o : List Record). o ++ (m.leaving ++ m.behind)) (past_behind past order).nothing)

  behind_gone : AreGone m.behind
  behind_gone = rest IsGone m.leaving m.behind (subst AreGone events_are gone)

  loops_are : (side : Side) → looped_at side l g.events ≡ looped_at side l m.behind
  loops_are side =
      ap (looped_at side l) events_are ∙ looped_then side l m.leaving m.behind
      ∙ ap (λ (sdus : List (List ℕ)). sdus ++ looped_at side l m.behind) (m.none_looped side l)

  on : IsOn (link_behind (now ∷ past)) (lives m.by.steps moved)
  unfolding acted
  on = same_on (step (Calls (calls.HandsOver keys)) (link_behind past)) (link_behind (now ∷ past))
      (lives m.by.steps moved) refl refl refl m.by.on

  module _ (side : Side) where
    abbrev f : Flow
    f = (queues side).flow

    abbrev sdus : List (List ℕ)
    sdus = looped_at side l g.events

    abbrev told : AllSent
    told = sending_first now past g.events

    -- the bearer restarts, and is submitted what the loop brings
    restarts : (s : Side) → IsQueuedBy (flow l (end_at s air.air)) f
        → IsQueuedBy (flow l (end_at s moved)) (flow_renewed histories keys f)
    restarts Nb h =
        subst (λ (x : BearerFlow). IsQueuedBy x (flow_renewed histories keys f))
        (sym (the_end Nb l air.air.nb.end keys (stands_at Nb l air.air air.new air.there)).bearer_is)
        (queue_restarts (flow l air.air.nb.end) keys f h)
    restarts Ue h =
        subst (λ (x : BearerFlow). IsQueuedBy x (flow_renewed histories keys f))
        (sym (the_end Ue l air.air.ue.end keys (stands_at Ue l air.air air.new air.there)).bearer_is)
        (queue_restarts (flow l air.air.ue.end) keys f h)

    lives_so : IsQueuedBy (bearer side) (queue_submits sdus (flow_renewed histories keys f))
    lives_so =
        subst (λ (xs : List (List ℕ)). IsQueuedBy (bearer side) (queue_submits xs (flow_renewed histories keys f)))
        (sym (loops_are side))
        (subst (λ (e : End). IsQueuedBy (flow l e)
        (queue_submits (looped_at side l m.behind) (flow_renewed histories keys f)))
        (at_end side (link_behind (now ∷ past)) (lives m.by.steps moved) on)
        (steps_keep l side m.by.steps moved no_flight m.behind (flow_renewed histories keys f) m.by.living m.in_life
        (m.along no_flight) behind_gone (lives_come_new l (Moves keys ∷ []) air.air air.new (tt, tt))
        (moved_there l air.air keys air.new air.there)
        (restarts side (subst (λ (e : End). IsQueuedBy (flow l e) f)
        (sym (at_end side (link_behind past) air.air air.on)) (queues side).queued))))

    layout_is : f.layout ≡ layout_of c.kind c.rlc_bits c.pdcp_bits
    layout_is =
        let is : Some f.layout ≡ Some (layout_of c.kind c.rlc_bits c.pdcp_bits) =
        ap (option_map (λ (x : Flow). x.layout)) (sym (queues side).stands) ∙ all_layout past side l low
        ∙ ap layout_by config in
        cc

    queued_so : IsQueuedBy (bearer side) (flow_renewed histories keys (queue_submits sdus f))
    queued_so =
        subst (IsQueuedBy (bearer side))
        (sym (renews_by c.kind c.rlc_bits c.pdcp_bits l keys sdus f kind channel layout_is
        (λ few. none_looped side l past now few (right, order)))) lives_so

    -- what is kept of its flow
    first_stands : flow_on side l (sending_first now past []) ≡ Some f
    first_stands = (flows_go_on side l).lines now.line before refl ∙ (queues side).stands

    plain : is_data f.layout ≡ false
    plain = not_data (flow l (end_of side (link_behind past))) f (queues side).queued

    told_stands : flow_on side l told ≡ Some (queue_submits sdus f)
    told_stands =
        flow_goes l now past refl side g.events [] f
        (none_sent_anew no_flight g.events (gone_log_events IsUnbuilt (λ own e. tt) no_flight g.events gone)) plain
        first_stands
        ∙ ap (λ (x : Flow). Some x) (gone_queue l side g.events f gone)

    renewal_is : told.renewal ≡ Some keys
    renewal_is =
        keys_renewed now past g.events user rrc integrity
        ∙ ap (λ (alg : Cipher). Some (record { alg = alg; user = user; rrc = rrc; integrity = integrity }))
        (keys_stand past).cipher

    ends_queued : IsQueuedOn side l (bearer side) (all_sending histories given.histories (now ∷ past))
    ends_queued =
        let j = all_given given.histories (now ∷ past) in
        let account = account_at side l j.kept.journal.flows in
        let x = queue_submits sdus f in
        record {
          flow = flow_settled histories account (flow_renewed histories keys x);
          stands = (flows_go_on side l).ends j told
              ∙ ap (option_map (λ (y : Flow). flow_settled histories account (renewed_by histories told.renewal y)))
              (none_released l now past side x (first_unsubmitted now past g.events refl) told_stands)
              ∙ ap (λ (k : Option Keys). Some (flow_settled histories account (renewed_by histories k x))) renewal_is;
          queued = queue_settles (bearer side) account (flow_renewed histories keys x) (bases side) queued_so;
        }

  pub moves_queued : QueuesBehind l (now ∷ past)
  moves_queued = record {
    queues = ends_queued;
    right = all_right l now past refl g.events [] (λ side. (queues side).flow) first_stands plain
        (none_sent_anew no_flight g.events (gone_log_events IsUnbuilt (λ own e. tt) no_flight g.events gone))
        (λ side. gone_right_over l side g.events (queues side).flow gone);
  }
