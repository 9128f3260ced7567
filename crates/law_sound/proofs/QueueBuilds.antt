-- A step of a life in which a new block is built: what is kept of the flows of a channel, whose bearers aren't of
-- acknowledged data, goes on by it beside both ends, and its records are right.
use Rattle.std.proofs.Common.{◌≡◌, ◌≤◌, ℕ, ◌-◌, ◌%◌, Bool, true, false, if◌then◌else◌, Option, Some, None, List, []}
use Rattle.std.proofs.Common.{◌∷◌, ◌++◌, map, append-nil, refl, ap, sym, subst, ◌∙◌}
use Rattle.std.specs.List.{AllByRecursion, flat_map}
use Rattle.air_record.specs.declared.record.Record.{Record}
use Rattle.air_record.specs.Submissions.{submitted_by}
use Rattle.air_text.specs.Groups.{Group}
use Rattle.bearer.specs.declared.flow.Flow.{Flow as BearerFlow}
use Rattle.bearer.specs.Taking.{pdus, told as tells_of_taking}
use Rattle.bearer.specs.Transparent.{data_told}
use Rattle.bearer_pdcp.specs.Telling.{pdus_of}
use Rattle.bearer_types.specs.Sides.{other, sender_of, sent_by}
use Rattle.bearer_types.specs.declared.event.Event.{Event}
use Rattle.harq.specs.declared.sender.Visit.{Visit}
use Rattle.harq.specs.declared.sender.Visit.TheVariants.{New}
use Rattle.l2_node.specs.Building.{visit, visited}
use Rattle.l2_node.specs.End.{End}
use Rattle.l2_node.specs.Finding.{bearer_at, find}
use Rattle.l2_node.specs.Writing.{new_block}
use Rattle.l2_types.specs.declared.side.Side.{Side}
use Rattle.l2_types.specs.declared.side.Side.TheVariants.{Nb, Ue}
use Rattle.prioritise.specs.Channels.{has as has_channel}
use Rattle.promises.specs.Events.{told_on}
use Rattle.promises.specs.Flows.{looped_at}
use Rattle.promises.specs.Names.{sent_pdus}
use Rattle.promises.specs.Pdus.{carried}
use Rattle.promises.specs.Records.{events_of}
use Rattle.journal_sent.specs.RightSent.{AllSent, Flow}
use Rattle.journal_sent.specs.Sending.{acked_at, named_of}
use Rattle.journal_sent.specs.SentFlows.{first_of, is_data}
use Rattle.rlc_um.specs.Transparent.{taken as tm_taken}
use Rattle.law_bearer.specs.AnyBearer.Calls.{Call as BearerCall, Take as Takes, after_all}
use Rattle.law_bearer.specs.AnyBearer.Queue.{submits}
use Rattle.law_deliver.specs.AmChannel.Lives.{InLife, end_at}
use Rattle.law_deliver.specs.AmFlow.Air.{Air, Calls, Step, IsBuilding, IsDone, IsVisiting}
use Rattle.law_deliver.specs.AmFlow.Channels.{held_of, only, share_of, takes_of}
use Rattle.law_deliver.specs.AmFlow.Ups.{tells_over}
use Rattle.law_deliver.proofs.AmFlow.Stations.{come_sound}
use Rattle.law_deliver.proofs.AmFlow.Ups.{Stands}
use Rattle.law_deliver.proofs.AmFlow.Visiting.{carries_so}
use Rattle.law_given.proofs.Tied.{calls_of_step}
use Rattle.law_node.specs.Calls.{Turn, Visits, reached}
use Rattle.law_node.specs.Holding.{flow}
use Rattle.law_node.specs.Telling.{told_of}
use Rattle.law_node.proofs.Keeping.{at_is, reached_are, share_most}
use Rattle.law_node.proofs.Ready.{WritesWell, ready_kept}
use Rattle.law_node.proofs.Sound.{visited_sound}
use Rattle.law_run.specs.TwoEnds.Along.{StandTogether, TellsTogether, at_side}
use Rattle.law_run.specs.TwoEnds.Logs.{Builds, Flight, all_tell, logged}
use Rattle.law_run.proofs.EmptyLists.{parts_empty}
use Rattle.law_run.proofs.Flowing.{looped_then}
use Rattle.law_sent.specs.Channels.{AreRight, SentPdu, behind_all, flow_on, sent_on}
use Rattle.law_sent.proofs.ChannelsNamed.{as_named}
use Rattle.law_sent.proofs.FlowsNamed.{passed_on}
use Rattle.law_sound.specs.BesideLaws.{station_of}
use Rattle.law_sound.specs.LoadLaws.{name_of}
use Rattle.law_sound.proofs.BuiltRecords.{BuiltAmong, block_of, built_among, step_log}
use Rattle.law_sound.proofs.GivenBeside.{of_both}
use Rattle.law_sound.proofs.GivenStepFacts.{stands_at, step_bearer}
use Rattle.law_sound.proofs.QueueAt.{AreRightRecords, IsQueuedAt, IsQueuedOn, KnowsAcked, TellsStep}
use Rattle.law_sound.proofs.QueueBearers.{queue_writes}
use Rattle.law_sound.proofs.QueueBeside.{AreRightHere, ArePdusOf, CanWrite, IsQueuedBy, queue_over}
use Rattle.law_sound.proofs.QueuePassed.{IsOfEnd, TellsAt, first_together, is_transparent, new_together}
use Rattle.law_sound.proofs.QueuePassed.{none_passed_on, passed_first, passed_in, tells_ends, transparent_tells}
use Rattle.law_sound.proofs.QueuePassed.{transparent_writes}
use Rattle.law_sound.proofs.QueueQuiet.{QueuesGo, loops_so, tells_so}
use Rattle.law_sound.proofs.QueueRecords.{AreRightOver, all_right, block_right, far_builds, flow_builds, flow_goes}
use Rattle.law_sound.proofs.QueueRecords.{flow_stays, go_by_events, go_by_loops, not_data, right_then}
use Rattle.law_sound.proofs.SentBetween.{IsRightPdu}
use Rattle.law_sound.proofs.SentBuilds.{from_side, reads_so, same_station, visited_flow}
use Rattle.law_sound.proofs.SentJournals.{named_told}
use Rattle.law_sound.proofs.SentPdus.{AreOnChannel, hows_told, none_on_channel, on_channel}
use Rattle.law_sound.proofs.SentRecords.{giving_before, sending_first}
use Rattle.law_sound.proofs.SentSteps.{act_calls}
use Rattle.law_sound.proofs.WaitingSteps.{bearer_between}

-- what is known of a bearer that writes
writes_well : (side : Side) (l : ℕ) (e : End) → Stands side l e → (lcid : ℕ) × WritesWell lcid (flow l e)
writes_well side l e s =
    let h = s.come in
    let r = reached side h.maximum h.reports h.past in
    let at = find l r.bearers in
    let lcid = (bearer_at r.bearers at).channel.lcid in (
      lcid,
      subst (WritesWell lcid) (ap (λ (x : End). flow l x) (sym h.end_is))
          (at_is WritesWell r.bearers at ready_kept
          (reached_are WritesWell ready_kept side h.maximum h.reports h.past h.given)),
    )

submits_only : (here : Bool) (share : ℕ) (held : Option ℕ) → flat_map submits (only here (Takes share held)) ≡ []
submits_only true share held = refl
submits_only false share held = refl

module _ (l : ℕ) (low : l ≤ 10) (newer : List Group) (now : Group) (past : List Group)
    (none : submitted_by now.line ≡ None) (a : Air) (s : Step) (sent : Flight) (told xs : List Record)
    (tells : TellsStep l low newer now past none a s sent xs)
    (knows : KnowsAcked l low newer now past none told a) (h : IsQueuedAt l low newer now past none told a)
    (side : Side) (turn : Turn) (step : s ≡ at_side side (Calls (Visits turn)))
    (done : IsDone l (station_of side a) (Calls (Visits turn)))
    (build : visit turn.tti turn.order (station_of side a).end ≡ New) where
  abbrev e : End
  e = (station_of side a).end

  abbrev u : End
  u = visited turn.tti turn.order e

  abbrev share : ℕ
  share = share_of u turn.grant l

  abbrev held : Option ℕ
  held = held_of u l

  abbrev process : ℕ
  process = turn.tti % 8

  abbrev octets : List ℕ
  octets = new_block u turn.grant

  abbrev said : List Event
  said = told_of e (Visits turn)

  -- the side's bearer, and its flow
  abbrev x : BearerFlow
  x = flow l (end_at side a)

  abbrev f : Flow
  f = (h.queued side).flow

  abbrev calls : Side → List BearerCall
  calls z = calls_of_step l z a (InLife s)

  stands : Stands side l e
  stands = subst (Stands side l) (sym (same_station side a)) (stands_at side l a h.new h.there)

  log_is : logged sent xs ≡ all_tell side said ++ Builds side process octets ∷ []
  log_is = step_log side a s turn sent xs tells.logs step build

  among : BuiltAmong side process octets said sent xs
  among = built_among side process octets said sent xs log_is

  abbrev first : List Record
  first = among.first

  abbrev version : ℕ
  version = among.version

  abbrev behind : List Record
  behind = among.behind

  abbrev block : Record
  block = block_of side process version octets

  abbrev at_first : AllSent
  at_first = sending_first now past (told ++ first)

  abbrev acked : ℕ → Bool
  acked = acked_at side l (giving_before now past (told ++ first) block)

  abbrev ps : List SentPdu
  ps = sent_on l (sent_by side) octets at_first

  -- ---- the calls of both bearers

  abbrev here : Bool
  here = has_channel l u.buckets.channels

  own_calls : calls side ≡ only here (Takes share held)
  own_calls =
      ap (λ (y : Step). calls_of_step l side a (InLife y)) step ∙ act_calls l a side (Visits turn)
      ∙ append-nil (takes_of (visit turn.tti turn.order e) turn u l)
      ∙ ap (λ (v : Visit). takes_of v turn u l) build

  far_calls : calls (other side) ≡ []
  far_calls = ap (λ (y : Step). calls_of_step l (other side) a (InLife y)) step ∙ quiet side
    where
      quiet : (z : Side) → calls_of_step l (other z) a (InLife (at_side z (Calls (Visits turn)))) ≡ []
      quiet Nb = refl
      quiet Ue = refl

  -- no SDU is submitted
  unlooped : (z : Side) → looped_at z l xs ≡ []
  unlooped = of_both side (λ (z : Side). looped_at z l xs ≡ [])
      (loops_so l low newer now past none a s sent told xs tells h.new h.there side
      ∙ ap (flat_map submits) own_calls ∙ submits_only here share held)
      (loops_so l low newer now past none a s sent told xs tells h.new h.there (other side)
      ∙ ap (flat_map submits) far_calls)

  loops_parts : (z : Side) → (looped_at z l first ≡ []) × (looped_at z l (block ∷ behind) ≡ [])
  loops_parts z =
      parts_empty (looped_at z l first) (looped_at z l (block ∷ behind))
      (sym (ap (looped_at z l) among.told_is
      ∙ looped_then z l first (block ∷ behind)) ∙ unlooped z)

  behind_loops : (z : Side) → looped_at z l behind ≡ []
  behind_loops z =
      (parts_empty (looped_at z l (block ∷ [])) (looped_at z l behind)
      (sym (looped_then z l (block ∷ []) behind) ∙ (loops_parts z).1)).1

  -- what is told before the block, and behind it
  first_told : told_on l (events_of side first) ≡ tells_over l x (only here (Takes share held))
  first_told =
      ap (told_on l) among.first_all
      ∙ tells_so l low newer now past none a s sent told xs tells h.new h.there side
      ∙ ap (tells_over l x) own_calls

  told_far : told_on l (events_of (other side) first) ≡ []
  told_far = ap (told_on l) among.first_far

  told_behind : (z : Side) → told_on l (events_of z behind) ≡ []
  told_behind z = ap (told_on l) (among.behind_told z)

  -- ---- what it tells stands together

  visit_stands : (z : Side) → TellsTogether (InLife (at_side z (Calls (Visits turn)))) a xs
      → StandTogether z (told_of (station_of z a).end (Visits turn)) xs
  visit_stands Nb h = h
  visit_stands Ue h = h

  first_stands : StandTogether side said first
  first_stands =
      let all = visit_stands side (subst (λ (y : Step). TellsTogether (InLife y) a xs) step tells.tells) in
      let said_is : events_of side xs ≡ said =
      sym among.first_all ∙ among.first_said in
      first_together side said all.before all.behind first (block ∷ behind)
      (subst (AllByRecursion IsOfEnd) said_is (tells_ends side xs))
      (among.behind_told side) (sym among.told_is ∙ all.are)

  -- ---- what the block carries

  flow_u : flow l u ≡ x
  flow_u = visited_flow l turn.tti turn.order e ∙ ap (flow l) (same_station side a)

  carries : carried l (sent_by side) octets ≡ (if here then pdus x share held else [])
  carries =
      let building : IsBuilding (station_of side a) turn =
      subst (λ (v : Visit). IsVisiting v (station_of side a) turn) build done.2 in
      carries_so side e stands.come turn.tti turn.order turn.grant l building.some done.0.0 stands.there
      ∙ ap (λ (b : BearerFlow). if here then pdus b share held else []) flow_u

  named_so : as_named (named_of (sender_of (sent_by side)) at_first) ≡ map name_of (sent_pdus said)
  named_so =
      ap (λ (z : Side). as_named (named_of z at_first)) (from_side side)
      ∙ named_told l low newer now past none told first side sent said
      among.first_logs (h.silent side) h.alike

  on_it : AreOnChannel l (sent_by side) octets (sent_pdus said) ps
  on_it =
      on_channel l (sent_by side) octets (sent_pdus said) (named_of (sender_of (sent_by side)) at_first)
      (reads_so side e stands.come turn done.0 build) named_so

  -- the PDU of a transparent bearer is the SDU that is taken
  passed : here ≡ true → told_on l (events_of side first) ≡ tells_of_taking l x share held
      → carried l (sent_by side) octets ≡ pdus x share held → f.cover ≡ None
      → AllByRecursion (λ (p : SentPdu). p.passed ≡ first_of f.waiting) ps
  passed known told_is carried_is plain =
      let t = is_transparent x f (h.queued side).queued plain in
      let r = tm_taken t.0 (share - 3) in
      let tells_is : tells_of_taking l x share held ≡ data_told l r =
      ap (λ (b : BearerFlow). tells_of_taking l b share held) t.1 ∙ transparent_tells l t.0 share held in
      let writes_is : pdus x share held ≡ pdus_of r =
      ap (λ (b : BearerFlow). pdus b share held) t.1 ∙ transparent_writes t.0 share held in
      passed_first side l now past told first said f ps none first_stands
      among.first_unsent (loops_parts side).0 (not_data x f (h.queued side).queued)
      (h.queued side).stands plain
      (none_passed_on l (named_of side (sending_first now past told)) (sym (h.alike side) ∙ h.silent side))
      (passed_in l (sent_by side) octets (sent_pdus said) (named_of (sender_of (sent_by side)) at_first)
      (reads_so side e stands.come turn done.0 build) named_so
      ∙ ap (λ (z : Side). passed_on l (named_of z at_first)) (from_side side)) r
      (subst (TellsAt said) (ap (λ (b : BearerFlow). tells_of_taking l b share held) flow_u ∙ tells_is)
      (new_together side l e turn stands.come build stands.there known)) (told_is ∙ tells_is)
      (λ empty. none_on_channel l (sent_by side) octets (sent_pdus said) ps on_it (carried_is ∙ writes_is ∙ empty))

  -- ---- the side's flow goes over the records before the block, and over the block

  record IsBuilt : Type 0 where
    mid : Flow
    first_flow : flow_on side l at_first ≡ Some mid
    first_right : AreRightOver side l first f
    pdus_right : AreRight IsRightPdu acked ps mid
    behind_is : IsQueuedBy (after_all x (calls side)) (behind_all acked ps mid)

  -- over the first by what they tell
  goes_first : (es : List Event) → told_on l (events_of side first) ≡ es → AreRightHere es f
      → (flow_on side l at_first ≡ Some (queue_over es f)) × AreRightOver side l first f
  goes_first es are right =
      let g = go_by_events side l first f (loops_parts side).0 in (
        flow_goes l now past none side first told f among.first_unsent
            (not_data x f (h.queued side).queued) (h.queued side).stands
            ∙ ap (λ (y : Flow). Some y) (g.flow_is ∙ ap (λ (zs : List Event). queue_over zs f) are),
        g.right (subst (λ (zs : List Event). AreRightHere zs f) (sym are) right),
      )

  -- the bearer isn't called, and the block carries nothing of the channel
  none_built : calls side ≡ [] → told_on l (events_of side first) ≡ [] → carried l (sent_by side) octets ≡ []
      → IsBuilt
  none_built quiet silent empty =
      let no_pdus : ps ≡ [] = none_on_channel l (sent_by side) octets (sent_pdus said) ps on_it empty in
      let goes = goes_first [] silent tt in
      record {
        mid = f;
        first_flow = goes.0;
        first_right = goes.1;
        pdus_right = subst (λ (qs : List SentPdu). AreRight IsRightPdu acked qs f) (sym no_pdus) tt;
        behind_is = subst (λ (cs : List BearerCall). IsQueuedBy (after_all x cs) (behind_all acked ps f)) (sym quiet)
            (subst (λ (qs : List SentPdu). IsQueuedBy x (behind_all acked qs f)) (sym no_pdus) (h.queued side).queued);
      }

  -- it writes the PDUs that the block carries
  taken_built : here ≡ true → calls side ≡ Takes share held ∷ []
      → told_on l (events_of side first) ≡ tells_of_taking l x share held
      → carried l (sent_by side) octets ≡ pdus x share held → IsBuilt
  taken_built known one told_is carried_is =
      let es = tells_of_taking l x share held in
      let well = writes_well side l (end_at side a) (stands_at side l a h.new h.there) in
      let can : CanWrite l x share = record {
        few = share_most u turn.grant l (visited_sound turn.tti turn.order e (come_sound side e stands.come)) done.0.0;
        between = bearer_between l a h.new h.there side;
        lcid = well.0;
        well = well.1;
      } in
      let are : ArePdusOf l x share held f ps = record {
        octets_are = on_it.octets_are ∙ carried_is;
        hows_are = on_it.hows_are ∙ sym (hows_told l said)
            ∙ ap (λ (zs : List Event). map (λ n. n.how) (sent_pdus (told_on l zs)))
            (sym among.first_said)
            ∙ ap (λ (zs : List Event). map (λ n. n.how) (sent_pdus zs)) told_is;
        passed_are = passed known told_is carried_is;
      } in
      let writes = queue_writes l x share held acked ps f can
      (knows side first block among.first_brings
      among.first_unsent) are (h.queued side).queued in
      let goes = goes_first es told_is writes.right in
      record {
        mid = queue_over es f;
        first_flow = goes.0;
        first_right = goes.1;
        pdus_right = writes.pdus_right;
        behind_is = subst (λ (cs : List BearerCall). IsQueuedBy (after_all x cs)
            (behind_all acked ps (queue_over es f))) (sym one) writes.behind;
      }

  built : IsBuilt
  built = by here refl own_calls first_told carries
    where
      by : (b : Bool) → here ≡ b → calls side ≡ only b (Takes share held)
          → told_on l (events_of side first) ≡ tells_over l x (only b (Takes share held))
          → carried l (sent_by side) octets ≡ (if b then pdus x share held else []) → IsBuilt
      by true known one told_is carried_is =
          taken_built known one (told_is ∙ append-nil (tells_of_taking l x share held)) carried_is
      by false known quiet silent empty = none_built quiet silent empty

  -- ---- both sides' flows behind the records before the block, behind it, and behind all

  abbrev far : Flow
  far = (h.queued (other side)).flow

  far_plain : is_data far.layout ≡ false
  far_plain = not_data (flow l (end_at (other side) a)) far (h.queued (other side)).queued

  far_first : flow_on (other side) l at_first ≡ Some far
  far_first =
      flow_stays l now past none (other side) first told far among.first_unsent
      far_plain told_far (loops_parts (other side)).0 (h.queued (other side)).stands

  abbrev at_block : List Record
  at_block = (told ++ first) ++ block ∷ []

  record StandsBehind (z : Side) : Type 0 where
    flow_at : Flow
    stands_so : flow_on z l (sending_first now past at_block) ≡ Some flow_at
    queued : IsQueuedBy (after_all (flow l (end_at z a)) (calls z)) flow_at

  own_behind : StandsBehind side
  own_behind = record {
    flow_at = behind_all acked ps built.mid;
    stands_so = flow_builds l now past none side (told ++ first) process version octets built.mid built.first_flow;
    queued = built.behind_is;
  }

  far_behind : StandsBehind (other side)
  far_behind = record {
    flow_at = far;
    stands_so = far_builds l now past none side (told ++ first) process version octets far far_first;
    queued = subst (λ (cs : List BearerCall). IsQueuedBy (after_all (flow l (end_at (other side) a)) cs) far)
        (sym far_calls) (h.queued (other side)).queued;
  }

  both_behind : (z : Side) → StandsBehind z
  both_behind = of_both side StandsBehind own_behind far_behind

  plain_behind : (z : Side) → is_data (both_behind z).flow_at.layout ≡ false
  plain_behind z = not_data (after_all (flow l (end_at z a)) (calls z)) (both_behind z).flow_at (both_behind z).queued

  first_over : (z : Side) → AreRightOver z l first (h.queued z).flow
  first_over = of_both side (λ (z : Side). AreRightOver z l first (h.queued z).flow) built.first_right
      (go_by_loops (other side) l first far told_far).right

  pub builds_go : QueuesGo l low newer now past none a s sent told xs tells h.new h.there
  builds_go = record {
    queued = λ z. subst (λ (y : BearerFlow). IsQueuedOn z l y (sending_first now past (told ++ xs)))
        (sym (step_bearer l a s tells.given h.new h.there z)) (record {
          flow = (both_behind z).flow_at;
          stands = ap (λ (zs : List Record). flow_on z l (sending_first now past zs))
              (sym (among.together told))
              ∙ flow_stays l now past none z behind at_block (both_behind z).flow_at
              among.behind_unsent (plain_behind z) (told_behind z)
              (behind_loops z) (both_behind z).stands_so;
          queued = (both_behind z).queued;
        });
    right = subst (AreRightRecords l now past told) (sym among.told_is)
        (right_then l now past none first (block ∷ behind) told
        (all_right l now past none first told (λ z. (h.queued z).flow) (λ z. (h.queued z).stands)
        (λ z. not_data (flow l (end_at z a)) (h.queued z).flow (h.queued z).queued)
        among.first_unsent first_over) (
          block_right l now past none side (told ++ first) process version octets built.mid built.first_flow
              built.pdus_right,
          all_right l now past none behind at_block (λ z. (both_behind z).flow_at) (λ z. (both_behind z).stands_so)
              plain_behind among.behind_unsent
              (λ z. (go_by_loops z l behind (both_behind z).flow_at (told_behind z)).right),
        ));
  }
