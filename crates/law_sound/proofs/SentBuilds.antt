-- A step of a life in which a new block is built: the PDUs of a channel in it are right by what is kept of the flow of
-- its side, which goes on by them beside the bearer that writes them.
use Rattle.std.proofs.Common.{◌≡◌, ◌≤◌, ℕ, ◌%◌, Bool, true, false, if◌then◌else◌, Option, Some, None, List, [], ◌∷◌}
use Rattle.std.proofs.Common.{◌++◌, map, append-nil, refl, ap, sym, subst, ◌∙◌}
use Rattle.std.specs.List.{AllByRecursion}
use Rattle.air_record.specs.declared.record.Record.{Record}
use Rattle.air_record.specs.Submissions.{submitted_by}
use Rattle.air_text.specs.Groups.{Group}
use Rattle.bearer.specs.Acknowledged.State.{State}
use Rattle.bearer.specs.declared.flow.Flow.{Flow as BearerFlow}
use Rattle.bearer.specs.declared.flow.Flow.TheVariants.{Am}
use Rattle.bearer.specs.Taking.{pdus}
use Rattle.bearer_types.specs.Sides.{other, sender_of, sent_by}
use Rattle.bearer_types.specs.declared.config.BearerConfig.{BearerConfig}
use Rattle.bearer_types.specs.declared.event.Event.{Event}
use Rattle.harq.specs.declared.sender.Order.{Order}
use Rattle.harq.specs.declared.sender.Visit.{Visit}
use Rattle.harq.specs.declared.sender.Visit.TheVariants.{New}
use Rattle.l2_node.specs.Building.{visit, visited}
use Rattle.l2_node.specs.End.{End}
use Rattle.l2_node.specs.Writing.{new_block}
use Rattle.l2_types.specs.declared.side.Side.{Side}
use Rattle.l2_types.specs.declared.side.Side.TheVariants.{Nb, Ue}
use Rattle.mac_pdu.specs.declared.item.Direction.TheVariants as directions
use Rattle.prioritise.specs.Channels.{has as has_channel}
use Rattle.promises.specs.Events.{told_on}
use Rattle.promises.specs.Flows.{loops_in}
use Rattle.promises.specs.Names.{sent_pdus}
use Rattle.promises.specs.Pdus.{carried}
use Rattle.promises.specs.Records.{events_of}
use Rattle.journal_account.specs.Acked.{is_acked}
use Rattle.journal_given.specs.Giving.{side_of}
use Rattle.journal_given.specs.Supplies.{Bearer, History}
use Rattle.journal_sent.specs.RightSent.{AllSent, Flow, IsSdu}
use Rattle.journal_sent.specs.Sending.{acked_at, named_of}
use Rattle.journal_sent.specs.SentFlows.{is_data}
use Rattle.law_account.specs.History.{Follows}
use Rattle.law_bearer.specs.AmBearer.Calls.{tells}
use Rattle.law_bearer.specs.AnyBearer.Calls.{Call as BearerCall, Take as Takes}
use Rattle.law_deliver.specs.AmChannel.Lives.{AirStep, InLife, end_at, lives}
use Rattle.law_deliver.specs.AmFlow.Air.{Air, Calls, Step, HasCome, IsBuilding, IsDone, IsVisiting, outset}
use Rattle.law_deliver.specs.AmFlow.Channels.{held_of, only, share_of, takes_of}
use Rattle.law_deliver.proofs.AmFlow.Octets.{some_octets}
use Rattle.law_deliver.proofs.AmFlow.Stations.{come_sound}
use Rattle.law_deliver.proofs.AmFlow.Ups.{Stands}
use Rattle.law_deliver.proofs.AmFlow.Visiting.{carries_so}
use Rattle.law_given.specs.BearerRecords.{bearer_first}
use Rattle.law_given.specs.Beside.{progress}
use Rattle.law_given.specs.Joined.{rlc}
use Rattle.law_given.proofs.GivenRecords.{BringsNoBlock}
use Rattle.law_given.proofs.Tied.{AreTied, calls_of_step}
use Rattle.law_node.specs.Calls.{Turn, Visits, IsGiven as IsGivenCall}
use Rattle.law_node.specs.Holding.{flow}
use Rattle.law_node.specs.Names.{modes_of}
use Rattle.law_node.specs.Telling.{told_of}
use Rattle.law_node.proofs.Keeping.{share_most}
use Rattle.law_node.proofs.Sound.{visited_sound}
use Rattle.law_rlc.specs.AmPair.Flow.{sender}
use Rattle.law_run.specs.TwoEnds.Logs.{Flight, all_tell, log_at, logged}
use Rattle.law_run.specs.TwoEnds.Logs.{Builds as EndBuilds}
use Rattle.law_run.proofs.EmptyLists.{parts_empty}
use Rattle.law_run.proofs.Flowing.{looped_then}
use Rattle.law_run.proofs.OwnPdus.Bearers.{IsQuiet}
use Rattle.law_run.proofs.OwnPdus.Ends.{well_at}
use Rattle.law_sent.specs.Channels.{AreRight, SentPdu, StandsOn, behind_all, flow_on, sent_on}
use Rattle.law_sent.proofs.ChannelsNamed.{as_named}
use Rattle.law_sound.specs.BesideLaws.{station_of}
use Rattle.law_run.specs.TwoEnds.Along.{at_side}
use Rattle.law_sound.specs.LivedHistories.{Moment}
use Rattle.law_sound.specs.LoadLaws.{name_of}
use Rattle.law_sound.specs.NamedSteps.{SendsNoNewBlock}
use Rattle.law_sound.proofs.BuiltRecords.{BuiltAmong, block_of, built_among, step_log}
use Rattle.law_sound.proofs.GivenBeside.{AreGivenOf, of_both}
use Rattle.law_sound.proofs.GivenMoments.{FollowsSome, bearer, history, way}
use Rattle.law_sound.proofs.GivenWays.{was_at}
use Rattle.law_sound.proofs.NamedForm.{new_block_formed}
use Rattle.law_given.proofs.SupplyPdusKept.{WereSubmitted}
use Rattle.law_sound.proofs.SentBeside.{IsSentBy, flow_over}
use Rattle.law_sound.proofs.SentBetween.{HaveSizes, IsRightPdu, IsSentOn, StandsBeside}
use Rattle.law_sound.proofs.SentCalls.{CanTake, take_writes}
use Rattle.law_sound.proofs.SentJournals.{acked_kept_is}
use Rattle.law_sound.proofs.SentNames.{AreOfCall}
use Rattle.law_sound.proofs.SentPdus.{AreOnChannel, ReadsAs, hows_told, none_on_channel, on_channel}
use Rattle.law_sound.proofs.SentRecords.{block_far, block_next, gathers_sent, giving_before, sending_first, sent_quiet}
use Rattle.law_sound.proofs.SentQuiet.{GoesBy, all_keep_sent, bits_at, call_gives, data_at, kind_is, none_looped}
use Rattle.law_sound.proofs.SentQuiet.{none_told, one_goes, one_told, spelled_at, supplied_at}
use Rattle.law_sound.proofs.SentSteps.{act_calls}

-- ---- what is read in a new block is what its end tells of

pub reads_so : (side : Side) (e : End) → HasCome side e → (t : Turn) → IsGivenCall (Visits t)
    → visit t.tti t.order e ≡ New
    → ReadsAs (sent_by side) (new_block (visited t.tti t.order e) t.grant) (sent_pdus (told_of e (Visits t)))
reads_so side e come t given new =
    let f = new_block_formed side e t come given new in
    record { modes = modes_of (visited t.tti t.order e); items = f.items; read = f.read; named = f.named }

pub visited_flow : (l tti : ℕ) (order : Order) (e : End) → flow l (visited tti order e) ≡ flow l e
unfolding visited
visited_flow l tti order e = refl

-- ---- the block of a side

pub from_side : (side : Side) → sender_of (sent_by side) ≡ side
from_side Nb = refl
from_side Ue = refl

own_block : (l : ℕ) (now : Group) (past : List Group) (told : List Record) (side : Side) (process version : ℕ)
    (octets : List ℕ) (f : Flow) → StandsOn side l (sending_first now past told) f
    → StandsOn side l (sending_first now past (told ++ block_of side process version octets ∷ []))
    (behind_all (acked_at side l (giving_before now past told (block_of side process version octets)))
    (sent_on l (sent_by side) octets (sending_first now past told)) f)
own_block l now past told Nb process version octets f stands =
    block_next l now past told directions.Down process version octets f stands
own_block l now past told Ue process version octets f stands =
    block_next l now past told directions.Up process version octets f stands

far_block : (l : ℕ) (now : Group) (past : List Group) (told : List Record) (side : Side) (process version : ℕ)
    (octets : List ℕ) (f : Flow) → StandsOn (other side) l (sending_first now past told) f
    → StandsOn (other side) l (sending_first now past (told ++ block_of side process version octets ∷ [])) f
far_block l now past told Nb process version octets f stands =
    block_far l now past told directions.Down process version octets f stands
far_block l now past told Ue process version octets f stands =
    block_far l now past told directions.Up process version octets f stands

abbrev IsRightBlock : ℕ → Group → List Group → List Record → Side → ℕ → ℕ → List ℕ → Type 0
IsRightBlock l now past told side process version octets =
    (f : Flow) → flow_on side l (sending_first now past told) ≡ Some f → is_data f.layout ≡ true
    → AreRight IsRightPdu (acked_at side l (giving_before now past told (block_of side process version octets)))
    (sent_on l (sent_by side) octets (sending_first now past told)) f

is_sent : (l : ℕ) (now : Group) (past : List Group) (told : List Record) (side : Side) (process version : ℕ)
    (octets : List ℕ) → IsRightBlock l now past told side process version octets
    → IsSentOn l now past told (block_of side process version octets)
is_sent l now past told Nb process version octets h = h
is_sent l now past told Ue process version octets h = h

-- the flow that stands there is one
same_flow : (side : Side) (l : ℕ) (s : AllSent) (f x : Flow) → StandsOn side l s f → flow_on side l s ≡ Some x → f ≡ x
same_flow side l s f x stands is = let same : Some f ≡ Some x = sym stands.is ∙ is in cc

pub same_station : (side : Side) (a : Air) → (station_of side a).end ≡ end_at side a
same_station Nb a = refl
same_station Ue a = refl

-- ---- the step

module _ (l : ℕ) (low : l ≤ 10) (newer : List Group) (now : Group) (past : List Group)
    (none : submitted_by now.line ≡ None) (c : BearerConfig) (nb ue : End) (steps : List AirStep) (s : Step)
    (t : AreTied l c nb ue steps) (t' : AreTied l c nb ue (steps ++ InLife s ∷ [])) (sent : Flight)
    (told xs : List Record) (logs : logged sent xs ≡ log_at (lives steps (outset nb ue)) (InLife s))
    (by : GoesBy l c nb ue steps s t t' xs) (m : Moment) (b : Bearer History)
    (is : bearer_first l now past told ≡ Some b)
    (g : AreGivenOf c t.joined.there t.joined.back t.joined.one t.joined.two m.down m.up b) (sizes : HaveSizes b)
    (side : Side) (turn : Turn) (step : s ≡ at_side side (Calls (Visits turn)))
    (done : IsDone l (station_of side (lives steps (outset nb ue))) (Calls (Visits turn)))
    (build : visit turn.tti turn.order (station_of side (lives steps (outset nb ue))).end ≡ New)
    (stands : Stands side l (station_of side (lives steps (outset nb ue))).end)
    (follows : FollowsSome l c nb ue steps t (history side m) (way l c nb ue steps t side)) where
  abbrev air : Air
  air = lives steps (outset nb ue)

  abbrev was : Side → State
  was z = bearer l c nb ue steps t z

  abbrev now_is : Side → State
  now_is z = bearer l c nb ue (steps ++ InLife s ∷ []) t' z

  abbrev calls : Side → List BearerCall
  calls z = calls_of_step l z air (InLife s)

  abbrev e : End
  e = (station_of side air).end

  abbrev u : End
  u = visited turn.tti turn.order e

  abbrev share : ℕ
  share = share_of u turn.grant l

  abbrev held : Option ℕ
  held = held_of u l

  abbrev process : ℕ
  process = turn.tti % 8

  abbrev octets : List ℕ
  octets = new_block u turn.grant

  abbrev said : List Event
  said = told_of e (Visits turn)

  flow_is : flow l e ≡ Am (was side)
  flow_is = ap (flow l) (same_station side air) ∙ was_at l c nb ue steps t side

  log_is : logged sent xs ≡ all_tell side said ++ EndBuilds side process octets ∷ []
  log_is = step_log side air s turn sent xs logs step build

  among : BuiltAmong side process octets said sent xs
  among = built_among side process octets said sent xs log_is

  abbrev first : List Record
  first = among.first

  abbrev block : Record
  block = block_of side process among.version octets

  -- ---- what the records before the block tell, and those behind it

  first_far : told_on l (events_of (other side) first) ≡ []
  first_far = ap (told_on l) among.first_far

  first_told : told_on l (events_of side first) ≡ told_on l (events_of side xs)
  first_told = ap (told_on l) among.first_all

  first_loops : loops_in l xs ≡ [] → loops_in l first ≡ []
  first_loops unlooped = (parts_empty (loops_in l first) (loops_in l (block ∷ among.behind))
      (sym (ap (loops_in l) among.told_is ∙ looped_then Ue l first (block ∷ among.behind)) ∙ unlooped)).0

  to_end : (z : Side) (f : Flow) → StandsOn z l (sending_first now past ((told ++ first) ++ block ∷ [])) f
      → StandsOn z l (sending_first now past (told ++ xs)) f
  to_end z f h =
      subst (λ (zs : List Record). StandsOn z l (sending_first now past zs) f) (among.together told)
      (sent_quiet l now past z among.behind ((told ++ first) ++ block ∷ []) f (ap (told_on l) (among.behind_told z))
      among.behind_unsent h)

  -- ---- the calls of both bearers

  own_calls : calls side ≡ only (has_channel l u.buckets.channels) (Takes share held)
  own_calls =
      ap (λ (y : Step). calls_of_step l side air (InLife y)) step ∙ act_calls l air side (Visits turn)
      ∙ append-nil (takes_of (visit turn.tti turn.order e) turn u l)
      ∙ ap (λ (v : Visit). takes_of v turn u l) build

  far_calls : calls (other side) ≡ []
  far_calls = ap (λ (y : Step). calls_of_step l (other side) air (InLife y)) step ∙ quiet side
    where
      quiet : (z : Side) → calls_of_step l (other z) air (InLife (at_side z (Calls (Visits turn)))) ≡ []
      quiet Nb = refl
      quiet Ue = refl

  -- the one that isn't called
  uncalled : (z : Side) (f : Flow) → calls z ≡ [] → IsSentBy c.pdcp_bits (was z) f → IsSentBy c.pdcp_bits (now_is z) f
  uncalled z f quiet h =
      all_keep_sent c.pdcp_bits (calls z) (was z) (now_is z) f (subst (AllByRecursion IsQuiet) (sym quiet) tt)
      (by.goes_are z) h

  far_beside : StandsBeside (other side) l c.pdcp_bits (was (other side)) (sending_first now past told)
      → StandsBeside (other side) l c.pdcp_bits (now_is (other side)) (sending_first now past (told ++ xs))
  far_beside h = record {
    flow = h.flow;
    stands = to_end (other side) h.flow
        (far_block l now past (told ++ first) side process among.version octets h.flow
        (sent_quiet l now past (other side) first told h.flow first_far among.first_unsent h.stands));
    by_bearer = uncalled (other side) h.flow far_calls h.by_bearer;
  }

  -- ---- what the block carries

  abbrev at_first : AllSent
  at_first = sending_first now past (told ++ first)

  abbrev acked : ℕ → Bool
  acked = acked_at side l (giving_before now past (told ++ first) block)

  abbrev ps : List SentPdu
  ps = sent_on l (sent_by side) octets at_first

  carries : carried l (sent_by side) octets
      ≡ (if has_channel l u.buckets.channels then pdus (Am (was side)) share held else [])
  carries =
      let building : IsBuilding (station_of side air) turn =
      subst (λ (v : Visit). IsVisiting v (station_of side air) turn) build done.2 in
      carries_so side e stands.come turn.tti turn.order turn.grant l building.some done.0.0 stands.there
      ∙ ap (λ (x : BearerFlow). if has_channel l u.buckets.channels then pdus x share held else [])
      (visited_flow l turn.tti turn.order e ∙ flow_is)

  module _ (named : (before : List Record) → logged sent before ≡ all_tell side said
      → as_named (named_of side (sending_first now past (told ++ before))) ≡ map name_of (sent_pdus said))
      (acks : (before : List Record) (one : Record) → AllByRecursion BringsNoBlock before
      → AllByRecursion SendsNoNewBlock before → (n : ℕ)
      → acked_at side l (giving_before now past (told ++ before) one) n ≡ is_acked (history side m) n) where
    on_it : AreOnChannel l (sent_by side) octets (sent_pdus said) ps
    on_it =
        on_channel l (sent_by side) octets (sent_pdus said) (named_of (sender_of (sent_by side)) at_first)
        (reads_so side e stands.come turn done.0 build)
        (ap (λ (z : Side). as_named (named_of z at_first)) (from_side side) ∙ named first among.first_logs)

    -- behind the block
    record IsBuilt (was_beside : StandsBeside side l c.pdcp_bits (was side) (sending_first now past told)) : Type 0
      where
        beside : StandsBeside side l c.pdcp_bits (now_is side) (sending_first now past (told ++ xs))
        right : IsRightBlock l now past (told ++ first) side process among.version octets

    module _ (h : StandsBeside side l c.pdcp_bits (bearer l c nb ue steps t side) (sending_first now past told)) where
      -- the bearer isn't called, and the block carries nothing of the channel
      none_built : calls side ≡ [] → carried l (sent_by side) octets ≡ [] → IsBuilt h
      none_built quiet empty =
          let no_pdus : ps ≡ [] = none_on_channel l (sent_by side) octets (sent_pdus said) ps on_it empty in
          let before = sent_quiet l now past side first told h.flow
          (first_told ∙ none_told l c nb ue steps s t t' xs by side quiet) among.first_unsent h.stands in
          record {
            beside = record {
              flow = h.flow;
              stands = to_end side h.flow
                  (subst (λ (qs : List SentPdu). StandsOn side l
                  (sending_first now past ((told ++ first) ++ block ∷ [])) (behind_all acked qs h.flow)) no_pdus
                  (own_block l now past (told ++ first) side process among.version octets h.flow before));
              by_bearer = uncalled side h.flow quiet h.by_bearer;
            };
            right = λ f there data'. subst (λ (qs : List SentPdu). AreRight IsRightPdu acked qs f) (sym no_pdus) tt;
          }

      -- it writes the PDUs that the block carries
      taken_built : calls side ≡ Takes share held ∷ []
          → carried l (sent_by side) octets ≡ pdus (Am (was side)) share held → IsBuilt h
      taken_built one carried_is =
          let call : BearerCall = Takes share held in
          let told_one : told_on l (events_of side xs) ≡ tells (was side) call =
          one_told l c nb ue steps s t t' xs by side call one in
          let left = one_goes l c nb ue steps s t t' xs by side call one in
          let gives = call_gives l c nb ue steps s t t' m b g side call tt left in
          let es = tells (was side) call in
          let supply = side_of side b in
          let f = flow_over es supply h.flow in
          let before : StandsOn side l at_first f =
          gathers_sent l low newer now past none side first told es b h.flow (first_told ∙ told_one) first_far
          (first_loops (none_looped l c nb ue steps s t t' xs by side call one far_calls refl)) among.first_brings
          among.first_unsent is gives.right h.stands in
          let come = stands.come in
          let well = well_at side l e (was side) stands flow_is in
          let can : CanTake c.pdcp_bits well.0 (progress (way l c nb ue steps t side) (history side m)) (was side)
          share held supply = record {
            few = share_most u turn.grant l
                (visited_sound turn.tti turn.order e (come_sound side e come)) done.0.0;
            some = some_octets side come.maximum come.reports come.past l (was side) share held come.given
                (ap (λ (x : End). flow l x) (sym come.end_is) ∙ flow_is);
            well = well.1;
            of_data = data_at l c nb ue steps s t t' side;
            known = kind_is l c nb ue steps s t t';
            supplied = supplied_at l c nb ue steps s t t' m b g side;
            bits_are = bits_at l c nb ue steps s t t' m b g side;
            were = sized side;
            spelled = spelled_at l c nb ue steps s t t' side;
            right = gives.right;
          } in
          let of_call : AreOfCall (was side) share held ps = record {
            octets_are = on_it.octets_are ∙ carried_is;
            hows_are = on_it.hows_are ∙ sym (hows_told l said)
                ∙ ap (λ (zs : List Event). map (λ n. n.how) (sent_pdus zs))
                (ap (told_on l) (sym among.first_said ∙ among.first_all) ∙ told_one);
          } in
          let writes = take_writes c.pdcp_bits well.0 (progress (way l c nb ue steps t side) (history side m))
          (was side) (now_is side) share held supply h.flow follows.most (history side m) acked ps can left h.by_bearer
          (sends side follows.follows)
          (λ n. acks first block among.first_brings among.first_unsent n
          ∙ sym (acked_kept_is follows.most (history side m) follows.follows.history n)) of_call in
          record {
            beside = record {
              flow = behind_all acked ps f;
              stands = to_end side (behind_all acked ps f)
                  (own_block l now past (told ++ first) side process among.version octets f before);
              by_bearer = writes.1;
            };
            right = λ x there data'.
                subst (AreRight IsRightPdu acked ps) (same_flow side l at_first f x before there) writes.0;
          }
        where
          sized : (z : Side) → WereSubmitted IsSdu (side_of z b).takes.events
          sized Nb = sizes.nb
          sized Ue = sizes.ue

          sends : (z : Side) → Follows follows.most (history side m) (sender (rlc (way l c nb ue steps t z))).state
              → Follows follows.most (history side m) (was z).tx
          sends Nb f = subst (Follows follows.most (history side m)) t.joined.there_joins.rlc_sender_is f
          sends Ue f = subst (Follows follows.most (history side m)) t.joined.back_joins.rlc_sender_is f

      built : IsBuilt h
      built = by_channel (has_channel l u.buckets.channels) own_calls carries
        where
          by_channel : (here : Bool) → calls side ≡ only here (Takes share held)
              → carried l (sent_by side) octets ≡ (if here then pdus (Am (was side)) share held else [])
              → IsBuilt h
          by_channel true one carried_is = taken_built one carried_is
          by_channel false quiet empty = none_built quiet empty

    -- both sides stand beside their bearers, and the block is right
    pub record IsBuiltOn : Type 0 where
      pub first : List Record
      pub one : Record
      pub behind : List Record
      pub are : xs ≡ first ++ one ∷ behind
      pub first_unsent : AllByRecursion SendsNoNewBlock first
      pub behind_unsent : AllByRecursion SendsNoNewBlock behind
      pub beside : (z : Side)
          → StandsBeside z l c.pdcp_bits (bearer l c nb ue (steps ++ InLife s ∷ []) t' z)
          (sending_first now past (told ++ xs))
      pub right : IsSentOn l now past (told ++ first) one

    pub built_on : ((z : Side)
        → StandsBeside z l c.pdcp_bits (bearer l c nb ue steps t z) (sending_first now past told)) → IsBuiltOn
    built_on h = record {
      first = first;
      one = block;
      behind = among.behind;
      are = among.told_is;
      first_unsent = among.first_unsent;
      behind_unsent = among.behind_unsent;
      beside = of_both side
          (λ (x : Side). StandsBeside x l c.pdcp_bits (now_is x) (sending_first now past (told ++ xs)))
          (built (h side)).beside (far_beside (h (other side)));
      right = is_sent l now past (told ++ first) side process among.version octets (built (h side)).right;
    }
