-- Behind a handover, the flows that both ends of a channel send stand beside them in their next life, in which nothing
-- was written yet, under the keys of the next cell.
use Rattle.std.proofs.Common.{◌≡◌, ℕ, ◌%◌, List, [], ◌∷◌, ◌++◌}
use Rattle.std.proofs.Common.{Option, Some, None, refl, ap, sym, subst}
use Rattle.std.proofs.Common.{◌∙◌}
use Rattle.std.specs.List.{AllByRecursion}
use Rattle.air_record.specs.declared.line.Line.TheVariants as lines
use Rattle.air_record.specs.declared.record.Record.{Record}
use Rattle.air_record.specs.declared.record.Record.TheVariants as records
use Rattle.air_text.specs.Groups.{Group}
use Rattle.bearer.specs.Acknowledged.State.{State}
use Rattle.bearer.specs.declared.flow.Flow.{Flow as BearerFlow}
use Rattle.bearer.specs.declared.flow.Flow.TheVariants.{Am}
use Rattle.bearer_types.specs.declared.config.BearerConfig.{BearerConfig}
use Rattle.bearer_types.specs.declared.event.Event.{Event}
use Rattle.bearer_types.specs.declared.event.Event.TheVariants as events
use Rattle.eps_sec.specs.declared.Cipher.{Cipher}
use Rattle.eps_sec.specs.declared.Key.{Key}
use Rattle.eps_sec.specs.declared.Keys.{Keys}
use Rattle.l2_node.specs.Building.{visited}
use Rattle.l2_node.specs.Writing.{new_block}
use Rattle.l2_types.specs.declared.channel.Kind.TheVariants as bearers
use Rattle.l2_types.specs.declared.event.Clock.TheVariants.{Poll}
use Rattle.l2_types.specs.declared.side.Side.{Side}
use Rattle.l2_types.specs.declared.side.Side.TheVariants.{Nb, Ue}
use Rattle.pdcp_pdu.specs.declared.pdu.PdcpKind.{PdcpKind}
use Rattle.pdcp_pdu.specs.declared.pdu.PdcpKind.TheVariants as pdcp
use Rattle.pdcp_sec.specs.Protection.{Protection, protection_of}
use Rattle.pdcp_tx.specs.State.{restarted as restarted_sending}
use Rattle.pdu_show.specs.declared.kinds.Layout.{Layout}
use Rattle.pdu_show.specs.declared.kinds.Layout.TheVariants as layouts
use Rattle.promises.specs.Events.{told_on}
use Rattle.promises.specs.Flows.{loops_in}
use Rattle.promises.specs.Records.{events_of}
use Rattle.journal_flows.specs.FlowsTold.{flows_told}
use Rattle.journal_flows.specs.Laws.{bearer_on, account_by}
use Rattle.journal_given.specs.Giving.{lives_ended}
use Rattle.journal_given.specs.Supplies.{Bearer, History}
use Rattle.journal_given.specs.Supplies as given
use Rattle.journal_lives.specs.FlowLives.{FlowLives}
use Rattle.journal_sent.specs.RightSent.{AllSent, Flow, IsSdu}
use Rattle.journal_sent.specs.SentFlows.{Cover, cover_renewed, waiting_behind, flow_renewed}
use Rattle.journal_sent.specs.SentPdus.{histories, nothing_sent}
use Rattle.journal_sent.specs.Sending.{renewed_by, all_sending}
use Rattle.journal_takes.specs.TakeEvents.{TakeEvent, SduSubmitted}
use Rattle.law_bearer.specs.AmBearer.Calls.{IsOfData, IsIdle}
use Rattle.law_bearer.specs.AmBearer.Lives.{restarts}
use Rattle.law_bearer.specs.AnyBearer.Calls.{Restart, after_all, goes}
use Rattle.law_bearer.proofs.AmBearer.Lives.{restarts_are_deeds}
use Rattle.law_deliver.specs.AmChannel.Lives.{AirStep, InLife, Moves, AreLiving, lives, lives_on, end_at}
use Rattle.law_deliver.specs.AmChannel.Lives.{all_calls}
use Rattle.law_deliver.specs.AmFlow.Air.{Air, Calls, Step}
use Rattle.law_deliver.specs.AmFlow.Air.{IsGiven, happens}
use Rattle.law_deliver.proofs.AmFlow.Carrying.{front, rest}
use Rattle.law_deliver.proofs.AmFlow.Links.{same_bearer}
use Rattle.law_deliver.proofs.AmFlow.Ups.{the_end}
use Rattle.law_given.proofs.SupplyPdusKept.{WereSubmitted}
use Rattle.law_given.proofs.Submissions.{submissions}
use Rattle.law_given.proofs.Tied.{calls_of_step}
use Rattle.law_node.specs.Calls.{Visits}
use Rattle.law_node.specs.Holding.{flow}
use Rattle.law_node.specs.Telling.{told_of}
use Rattle.law_run.specs.Order.{IsRight, KeepsOrder}
use Rattle.law_run.specs.TwoEnds.Logs.{Builds, no_flight, all_tell}
use Rattle.law_run.specs.TwoEnds.Logs.{log_at, log_of}
use Rattle.law_run.specs.TwoEnds.Staying.{AreInLife}
use Rattle.law_run.proofs.AnyAir.{at_end}
use Rattle.law_run.proofs.Flowing.{looped_then}
use Rattle.law_run.proofs.OwnPdus.Bearers.{IsQuiet}
use Rattle.law_run.proofs.Past.{link_behind}
use Rattle.law_sent.specs.Channels.{StandsOn}
use Rattle.law_sent.proofs.Channels.{lines_go_alone}
use Rattle.law_sound.specs.BesideLaws.{station_of}
use Rattle.law_sound.specs.ComingLaws.{TellsFlows}
use Rattle.law_sound.specs.LivedFails.{HaveComeNew}
use Rattle.law_sound.proofs.GivenBetween.{may, GoesBehind}
use Rattle.law_sound.proofs.GivenLater.{gone_log_events, gone_told, submitted_to}
use Rattle.law_sound.proofs.GivenMoves.{bearer_so}
use Rattle.law_sound.proofs.GivenStepFacts.{stands_at, step_bearer, step_there}
use Rattle.law_sound.proofs.GroupReading.{MovesCarrying, moved_keys, moves, outset_moment}
use Rattle.law_sound.proofs.LaterRecords.{TellsOfNoTaking}
use Rattle.law_sound.proofs.LivedFails.{AreThere, lived_there}
use Rattle.law_sound.proofs.LoggedEvents.{IsUnbuilt, none_sent_anew}
use Rattle.law_sound.proofs.MovingFails.{lives_come_new}
use Rattle.law_sound.proofs.SentBegins.{keys_stand}
use Rattle.law_sound.proofs.SentBehind.{EndsBeside, sender_at, sender_there, sender_behind, sends_behind}
use Rattle.law_sound.proofs.SentBeside.{IsSentBy}
use Rattle.law_sound.proofs.SentBetween.{HaveSizes, StandsBeside, IsSentOn, SentSaid, SendsBehind}
use Rattle.law_sound.proofs.SentCalls.{sent_begins}
use Rattle.law_sound.proofs.SentKeys.{keys_renewed}
use Rattle.law_sound.proofs.SentQuiet.{IsSentTo, calls_keep}
use Rattle.law_sound.proofs.SentRecords.{sent_still, sending_first}
use Rattle.law_sound.proofs.SentSteps.{BuildsNone, BuildsOne, HowItBuilds, how_it_builds}
use Rattle.law_sound.proofs.SentSubmitted.{all_sized}
use Rattle.law_sound.proofs.StepLogs.{log_at_side}
use Rattle.law_sound.proofs.StepRecords.{building_log}
use Rattle.law_sound.proofs.Still.{IsGoneEvent, IsGone, AreGone}

-- ---- a bearer restarts

module _ (bits : ℕ) (b : State) (keys : Keys) (f : Flow) (data' : IsOfData bits b) (h : IsSentBy bits b f) where
  protected_then : protection_of (pdcp.Am bits) keys b.pdcp.tx.protection.bearer b.pdcp.tx.protection.direction
      ≡ (restarts b keys).pdcp.tx.protection
  unfolding restarted_sending
  protected_then =
      ap (λ (kind : PdcpKind).
      protection_of kind keys b.pdcp.tx.protection.bearer b.pdcp.tx.protection.direction) (sym data'.sending)

  abbrev with_layout : Layout → Option Cover → Flow
  with_layout layout cover = record {
    layout = layout;
    cover = cover_renewed keys cover;
    waiting = waiting_behind layout f.waiting;
    given = 0;
    floor = 0;
    stream = nothing_sent histories;
  }

  -- its next life begins
  restarts_sent : IsSentBy bits (restarts b keys) (flow_renewed histories keys f)
  restarts_sent =
      subst (IsSentBy bits (restarts b keys))
      (sym (ap (λ (layout : Layout). with_layout layout f.cover) h.layout_is
      ∙ ap (with_layout (layouts.Am (pdcp.Am bits))) h.cover_is
      ∙ ap (λ (p : Protection). record (with_layout (layouts.Am (pdcp.Am bits)) None) {
        cover = Some (record { kind = pdcp.Am bits; protection = p });
      }) protected_then))
      (sent_begins bits b.tx_config (restarts b keys) refl)

-- ---- steps of a life in which no block is built

-- no bearer writes in them
pub quiet_step : (l : ℕ) (a : Air) (s : Step) → IsGiven l a s → AllByRecursion IsUnbuilt (log_at a (InLife s))
    → (side : Side) → AllByRecursion IsQuiet (calls_of_step l side a (InLife s))
quiet_step l a s given unbuilt = by (how_it_builds l a s given)
  where
    by : HowItBuilds l a s → (side : Side) → AllByRecursion IsQuiet (calls_of_step l side a (InLife s))
    by (BuildsNone quiet none) = quiet
    by (BuildsOne own t step acts build) =
        let e = (station_of own a).end in
        let said = all_tell own (told_of e (Visits t)) in
        let block = new_block (visited t.tti t.order e) t.grant in
        let log : log_at a (InLife s) ≡ said ++ Builds own (t.tti % 8) block ∷ [] =
        ap (λ (x : Step). log_at a (InLife x)) step ∙ log_at_side own a (Calls (Visits t))
        ∙ building_log own 0 e t build in
        let built = rest IsUnbuilt said _ (subst (AllByRecursion IsUnbuilt) log unbuilt) in
        absurd built.0

-- and what is kept of what it sends stands beside it
steps_keep : (bits l : ℕ) (side : Side) (f : Flow) (xs : List AirStep) (a : Air) → AreInLife xs → AreLiving l a xs
    → HaveComeNew l a → AreThere l a → AllByRecursion IsUnbuilt (log_of xs a)
    → IsSentTo bits (flow l (end_at side a)) f → IsSentTo bits (flow l (end_at side (lives xs a))) f
steps_keep bits l side f [] a in_life living new there none h = h
steps_keep bits l side f (Moves keys ∷ xs) a in_life living new there none h = absurd in_life
steps_keep bits l side f (InLife s ∷ xs) a in_life living new there none h =
    let cs = calls_of_step l side a (InLife s) in
    let now = log_at a (InLife s) in
    let later = log_of xs (happens a s) in
    let x = calls_keep bits f cs h.bearer (quiet_step l a s living.0 (front IsUnbuilt now later none) side) h.sent in
    steps_keep bits l side f xs (happens a s) in_life living.1 (lives_come_new l (InLife s ∷ []) a new (living.0, tt))
    (step_there l a s living.0 new there) (rest IsUnbuilt now later none)
    (record {
      bearer = x.bearer;
      is = step_bearer l a s living.0 new there side ∙ ap (λ (y : BearerFlow). after_all y cs) h.is ∙ x.is;
      sent = x.sent;
    })

-- ---- SDUs that are submitted in them

were_more : (sdus : List (List ℕ)) (es : List TakeEvent) → AllByRecursion IsSdu sdus → WereSubmitted IsSdu es
    → WereSubmitted IsSdu (submissions sdus es)
were_more [] es h w = w
were_more (sdu ∷ sdus) es h w = were_more sdus (SduSubmitted sdu ∷ es) h.1 (h.0, w)

same_some : (x y : Bearer History) → Some x ≡ Some y → x ≡ y
same_some x y e = cc

lives_sized : (of_nb of_ue : Option FlowLives) (sdus : List (List ℕ)) (b : Bearer History) → AllByRecursion IsSdu sdus
    → HaveSizes b → HaveSizes (lives_ended given.histories of_nb of_ue (submitted_to sdus b))
lives_sized of_nb of_ue sdus b some h = record { nb = h.nb; ue = were_more sdus b.ue.takes.events some h.ue }

-- ---- records that tell only what goes up, is dropped or looped

gone_untaken : (l : ℕ) (es : List Event) → AllByRecursion IsGoneEvent es → AllByRecursion (TellsOfNoTaking l) es
gone_untaken l [] gone = tt
gone_untaken l (e ∷ es) gone = (by e gone.0, gone_untaken l es gone.1)
  where
    by : (e : Event) → IsGoneEvent e → TellsOfNoTaking l e
    by (events.Take lcid count len) h = absurd h
    by (events.Report lcid fms bitmap) h = absurd h
    by (events.Expired lcid Poll) h = absurd h
    by e h = tt

gone_stands : (side : Side) (l : ℕ) (now : Group) (past : List Group) (told xs : List Record) (f : Flow) → AreGone xs
    → StandsOn side l (sending_first now past told) f → StandsOn side l (sending_first now past (told ++ xs)) f
gone_stands side l now past told xs f gone =
    sent_still l now past side xs told f (gone_untaken l (told_on l (events_of side xs)) (gone_told l side xs gone))
    (none_sent_anew no_flight xs (gone_log_events IsUnbuilt (λ own e. tt) no_flight xs gone))

-- ---- a handover

module _ (newer : List Group) (c : BearerConfig) (l : ℕ) (past : List Group) (g : Group) (user rrc integrity : Key)
    (right : IsRight past (record g { line = lines.Handover user rrc integrity })) (order : KeepsOrder past)
    (told : TellsFlows (record g { line = lines.Handover user rrc integrity } ∷ past)) (data' : c.kind ≡ bearers.Am)
    (h : GoesBehind (newer ++ record g { line = lines.Handover user rrc integrity } ∷ past) c l past)
    (s : SendsBehind (newer ++ record g { line = lines.Handover user rrc integrity } ∷ past) c l past h)
    (k : GoesBehind (newer ++ record g { line = lines.Handover user rrc integrity } ∷ past) c l
    (record g { line = lines.Handover user rrc integrity } ∷ past)) where
  abbrev now : Group
  now = record g { line = lines.Handover user rrc integrity }

  abbrev whole : List Group
  whole = newer ++ now ∷ past

  abbrev keys : Keys
  keys = moved_keys user rrc integrity past

  m : MovesCarrying (may whole) c l past g user rrc integrity h.read
  m = moves (may whole) c l past g user rrc integrity right order h.read

  abbrev before : AllSent
  before = all_sending histories given.histories past

  -- both ends have moved
  abbrev moved : Air
  moved = lives_on h.read.air (Moves keys)

  abbrev steps : List AirStep
  steps = m.moved.by.steps

  abbrev was : Side → State
  was side = sender_at whole c l past h side

  abbrev now_is : Side → State
  now_is side = sender_at whole c l (now ∷ past) k side

  beside : (side : Side) → StandsBeside side l c.pdcp_bits (was side) before
  beside Nb = s.sent.beside.nb
  beside Ue = s.sent.beside.ue

  of_data : (side : Side) → IsOfData c.pdcp_bits (was side)
  of_data Nb = h.given.tied.joined.one_data
  of_data Ue = h.given.tied.joined.two_data

  idle : (side : Side) → IsIdle (was side)
  idle Nb = h.given.tied.joined.one_idle
  idle Ue = h.given.tied.joined.two_idle

  there : AreThere l h.read.air
  there = lived_there l h.read.air h.read.moment h.read.read.lived

  bearer_moves : (side : Side) → flow l (end_at side moved) ≡ goes (flow l (end_at side h.read.air)) (Restart keys)
  bearer_moves Nb =
      (the_end Nb l h.read.air.nb.end keys (stands_at Nb l h.read.air h.read.read.new there)).bearer_is
  bearer_moves Ue =
      (the_end Ue l h.read.air.ue.end keys (stands_at Ue l h.read.air h.read.read.new there)).bearer_is

  abbrev renewed : Side → Flow
  renewed side = flow_renewed histories keys (beside side).flow

  restarts_so : (side : Side) → IsSentTo c.pdcp_bits (flow l (end_at side moved)) (renewed side)
  restarts_so side = record {
    bearer = restarts (was side) keys;
    is = bearer_moves side
        ∙ ap (λ (x : BearerFlow). goes x (Restart keys)) (sender_there whole c l past h side)
        ∙ (restarts_are_deeds c.pdcp_bits (was side) keys (of_data side) (idle side)).left;
    sent = restarts_sent c.pdcp_bits (was side) keys (beside side).flow (of_data side) (beside side).by_bearer;
  }

  none_built : AllByRecursion IsUnbuilt (log_of steps moved)
  none_built =
      subst (AllByRecursion IsUnbuilt) (sym m.moved.by.logged_is)
      (gone_log_events IsUnbuilt (λ own e. tt) no_flight m.moved.behind
      (rest IsGone m.moved.leaving m.moved.behind (subst AreGone m.are m.gone)))

  goes_so : (side : Side) → IsSentTo c.pdcp_bits (flow l (end_at side (lives steps moved))) (renewed side)
  goes_so side =
      steps_keep c.pdcp_bits l side (renewed side) steps moved m.moved.in_life m.moved.by.living m.begun.new
      (lived_there l moved outset_moment m.begun.lived) none_built (restarts_so side)

  flow_so : (side : Side) → flow l (end_at side (lives steps moved)) ≡ Am (now_is side)
  flow_so side =
      ap (λ (a : Air). flow l (end_at side a)) (sym m.air_is)
      ∙ ap (flow l) (at_end side (link_behind (now ∷ past)) m.behind.air m.behind.on)
      ∙ sender_behind whole c l (now ∷ past) k side

  sent_so : (side : Side) → IsSentBy c.pdcp_bits (now_is side) (renewed side)
  sent_so side =
      let x = goes_so side in
      subst (λ (b : State). IsSentBy c.pdcp_bits b (renewed side))
      (same_bearer (flow l (end_at side (lives steps moved))) x.bearer (now_is side) x.is (flow_so side)) x.sent

  -- ---- what is kept of its flows

  renewal_is : (sending_first now past g.events).renewal ≡ Some keys
  renewal_is =
      keys_renewed now past g.events user rrc integrity
      ∙ ap (λ (alg : Cipher). Some (record { alg = alg; user = user; rrc = rrc; integrity = integrity }))
      (keys_stand past).cipher

  ends : (side : Side) → EndsBeside newer c l now past data' k side
  ends side = record {
    flow = (beside side).flow;
    stands =
        gone_stands side l now past [] g.events (beside side).flow m.gone
        (lines_go_alone side l now.line before (beside side).flow refl (beside side).stands);
    by_bearer =
        subst (λ (renewal : Option Keys).
        IsSentBy c.pdcp_bits (now_is side) (renewed_by histories renewal (beside side).flow)) (sym renewal_is)
        (sent_so side);
  }

  -- ---- SDUs

  loops_sized : AllByRecursion IsSdu (loops_in l g.events)
  loops_sized =
      subst (AllByRecursion IsSdu)
      (m.moved.by.submitted_is Ue l
      ∙ sym (ap (loops_in l) m.are ∙ looped_then Ue l m.moved.leaving m.moved.behind
      ∙ ap (λ (zs : List (List ℕ)). zs ++ loops_in l m.moved.behind) (m.moved.none_looped Ue l)))
      (all_sized l (all_calls Ue steps moved) (end_at Ue moved))

  abbrev lived : Side → Option FlowLives
  lived from = account_by (bearer_on l (now ∷ past)) (flows_told (may whole) (now ∷ past) from l)

  sizes : HaveSizes k.given.bearer
  sizes =
      subst HaveSizes
      (same_some (lives_ended given.histories (lived Nb) (lived Ue) (submitted_to (loops_in l g.events) h.given.bearer))
      k.given.bearer (sym (bearer_so newer c l past g user rrc integrity right order told data' h) ∙ k.given.is))
      (lives_sized (lived Nb) (lived Ue) (loops_in l g.events) h.given.bearer loops_sized s.sent.beside.sizes)

  -- ---- no block is new

  gone_said : (first : List Record) (one : Record) → IsGone one → IsSentOn l now past first one
  gone_said first (records.Block way process fresh version octets) gone = absurd gone
  gone_said first one gone = tt

  said : SentSaid l (now ∷ past)
  said first one others parts =
      gone_said first one (rest IsGone first (one ∷ others) (subst AreGone parts m.gone)).0

  moves_on : SendsBehind whole c l (now ∷ past) k
  moves_on = sends_behind newer c l now past data' k ends sizes said

pub moves_sent : (all newer : List Group) (c : BearerConfig) (l : ℕ) (past : List Group) (g : Group)
    (user rrc integrity : Key) → all ≡ newer ++ record g { line = lines.Handover user rrc integrity } ∷ past
    → IsRight past (record g { line = lines.Handover user rrc integrity }) → KeepsOrder past
    → TellsFlows (record g { line = lines.Handover user rrc integrity } ∷ past) → c.kind ≡ bearers.Am
    → (h : GoesBehind all c l past) → SendsBehind all c l past h
    → (k : GoesBehind all c l (record g { line = lines.Handover user rrc integrity } ∷ past))
    → SendsBehind all c l (record g { line = lines.Handover user rrc integrity } ∷ past) k
moves_sent all newer c l past g user rrc integrity is right order told data' =
    subst (λ (x : List Group). (h : GoesBehind x c l past) → SendsBehind x c l past h
    → (k : GoesBehind x c l (record g { line = lines.Handover user rrc integrity } ∷ past))
    → SendsBehind x c l (record g { line = lines.Handover user rrc integrity } ∷ past) k) (sym is)
    (λ h s k. moves_on newer c l past g user rrc integrity right order told data' h s k)
