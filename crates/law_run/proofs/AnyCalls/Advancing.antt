-- How the ends go on in each call of a link.
use Rattle.std.proofs.Common.{◌≡◌, ◌≤◌, ℕ, Bool, true, false, if◌then◌else◌, Option, Some, None, IfSome, List, [], ◌∷◌}
use Rattle.std.proofs.Common.{◌++◌, map, append_assoc, append-nil, refl, ap, sym, subst, ◌∙◌}
use Rattle.std.specs.Prelude.{unwrap_or}
use Rattle.std.specs.List.{filter}
use Rattle.std.proofs.lemmas.List.Elements.{filter-append}
use Rattle.air_record.specs.declared.line.Outcome.{Outcome}
use Rattle.bearer_types.specs.Configs.{IsConfig}
use Rattle.bearer_types.specs.declared.config.BearerConfig.{BearerConfig}
use Rattle.bearer_types.specs.declared.event.Event.{Event}
use Rattle.eps_sec.specs.declared.Keys.{Keys}
use Rattle.l2_bits.specs.declared.fault.SubmitRefusal.{SubmitRefusal}
use Rattle.l2_node.specs.Finding.{has}
use Rattle.l2_node.specs.Moving.{leaving}
use Rattle.l2_node.specs.End.{End}
use Rattle.l2_node.specs.Hearing.{expired}
use Rattle.l2_node.specs.Submitting.{refusal, submitted}
use Rattle.l2_types.specs.declared.event.Clock.{Clock}
use Rattle.l2_types.specs.declared.event.Clock.TheVariants.{Poll, Reorder, Prohibit}
use Rattle.l2_types.specs.declared.side.Side.{Side}
use Rattle.l2_types.specs.declared.side.Side.TheVariants.{Nb, Ue}
use Rattle.law_node.specs.Calls.{Call as EndCall, SetVisits, SetReports, Add, SetDiscard, Expire, Move}
use Rattle.law_node.specs.Calls.{after as after_call, IsGiven as IsGivenTo}
use Rattle.law_node.specs.Telling.{told_of}
use Rattle.law_node.specs.Writing.{TellNone}
use Rattle.law_node.proofs.Looping.{tells_no_loop}
use Rattle.law_node.proofs.Silences.{writes_nothing}
use Rattle.pdu_show.specs.declared.kinds.Layout.{Layout}
use Rattle.test_loop.specs.declared.Mode.{Mode}
use Rattle.test_loop.specs.Loops.{after_set}
use Rattle.air_link.specs.Link.{Link, end_of}
use Rattle.bearer_types.specs.Lcids.{all_lcids}
use Rattle.air_link.specs.Telling.{tells_all}
use Rattle.air_link.specs.Loops.{loops, pays, loop_set}
use Rattle.air_link.specs.Downlink.{hears, down_order, downlink}
use Rattle.air_link.specs.Uplink.{uplink}
use Rattle.air_link.specs.Ttis.{begins, grows, sleeps, tells_sleep, timed, tti_by, tti}
use Rattle.air_record.specs.Outcomes.{missed, intact}
use Rattle.air_link.specs.Draining.{drain_tti, timer_expires, receiver_expires, all_receivers_expire, receivers_expire}
use Rattle.air_link.specs.Draining.{all_senders_expire, senders_expire}
use Rattle.air_record.specs.declared.record.Record.{Record}
use Rattle.air_record.specs.declared.record.Record.TheVariants as records
use Rattle.air_link.specs.Lines.{bears, discards, visits, reports, listens, no_place, submits_by, submitting}
use Rattle.air_link.specs.Lines.{expires_by, expiring, expires_alone, expires, forges, moves, hands_over}
use Rattle.law_run.specs.AnyCalls.Calls.{Call, Bears, Discards, Visits, Reports, Listens, Loops, Expires, Forges}
use Rattle.law_run.specs.AnyCalls.Calls.{HandsOver, ReceiversExpire, SendersExpire, after}
use Rattle.law_run.specs.AnyCalls.Ends.{begins_life, GoesThrough, GoesOn, GoesOnByVisits, visit_told, IsGiven, known}
use Rattle.law_run.specs.AnyCalls.Ends.{lives_in}
use Rattle.promises.specs.Records.{events_of, is_of_building}
use Rattle.law_run.proofs.AnyCalls.Going.{told_both, own_told, other_told, by_none, by_call, by_submit, through_then}
use Rattle.law_run.proofs.AnyCalls.Going.{goes_then, goes_by, Seen, seen, behind, through_seen, goes_seen, blocks_of}
use Rattle.law_run.proofs.AnyCalls.Going.{told_seen, Rests, rests_then, unseen_rests, says_rests, call_goes, call_tells}
use Rattle.law_run.proofs.AnyCalls.Going.{hears_rests, loops_rests, pays_rests, woken_rests, grown_rests}
use Rattle.law_run.proofs.AnyCalls.Visiting.{downlink_goes, uplink_goes}

-- ---- a TTI

-- what comes before the blocks, the downlink, the loop, the uplink
by_visits : (t up_grant : ℕ) (up : Outcome) (down_grant : ℕ) (down : Outcome) (l m : Link) → GoesOn [] l m
    → up_grant ≤ 9422 → down_grant ≤ 9422
    → GoesOnByVisits t up_grant down_grant l (uplink t up_grant up (loops (downlink t down_grant down m)))
by_visits t up_grant up down_grant down l m first up_within down_within =
    let down_told = visit_told Nb t down_grant (down_order down_grant) l.kinds m.nb in
    let n = downlink t down_grant down m in
    let p = loops n in
    let q = uplink t up_grant up p in
    let u = uplink_goes t up_grant up p up_within in
    let up_told = visit_told Ue t up_grant u.order l.kinds p.ue in
    let down_goes =
    subst (λ (x : List (Option Layout)). GoesOn (visit_told Nb t down_grant (down_order down_grant) x m.nb) m n)
    first.kinds_are (downlink_goes t down_grant down m down_within) in
    let to_n = goes_then [] down_told l m n first down_goes in
    let to_p = goes_by down_told l n p to_n (loops_rests n).goes in
    record {
      nb = m.nb;
      nb_told = first.more;
      nb_by = first.nb;
      ue = p.ue;
      ue_told = to_p.more;
      ue_by = to_p.ue;
      up_order = u.order;
      enough = u.enough;
      goes =
          goes_then down_told up_told l p q to_p
          (subst (λ (x : List (Option Layout)). GoesOn (visit_told Ue t up_grant u.order x p.ue) p q) to_p.kinds_are
          u.goes);
    }

pub tti_goes : (up_grant : ℕ) (up : Outcome) (down_grant : ℕ) (down : Outcome) (l : Link) → up_grant ≤ 9422
    → down_grant ≤ 9422
    → GoesOnByVisits l.ttis up_grant down_grant l (tti up_grant up down_grant down l)
unfolding tti tti_by
tti_goes up_grant up down_grant down l up_within down_within =
    let asleep = sleeps l.ttis l in
    by_visits l.ttis up_grant (missed asleep up) down_grant (missed asleep down) l
    (timed (tells_sleep asleep (begins l))) (woken_rests asleep l).goes up_within down_within

pub drain_goes : (grant : ℕ) (l : Link) → grant ≤ 9422 → GoesOnByVisits l.ttis grant grant l (drain_tti grant l)
unfolding drain_tti
drain_goes grant l within =
    by_visits l.ttis grant intact grant intact l (grows Ue (grows Nb (begins l))) (grown_rests l).goes within within

-- ---- a timer expires, a block is forged

pub none_if : (r : Option (List Event)) → IfSome r TellNone → TellNone (unwrap_or r [])
none_if None p = refl
none_if (Some events) p = p

-- behind what the end tells of it
expires_if : (r : Option (List Event)) (side : Side) (l : Link)
    → Rests (tells_all side (unwrap_or r []) l) (expires_by r side l)
expires_if None side l = unseen_rests l l refl
expires_if (Some events) side l = loops_rests (tells_all side events l)

pub expires_rests : (side : Side) (lcid : ℕ) (clock : Clock) (l : Link) → Rests l (expires side lcid clock l)
unfolding expires expired
expires_rests side lcid clock l =
    let m = expires_alone side lcid clock l in
    let r = expiring side lcid clock l in
    rests_then l (tells_all side (unwrap_or r []) m) (expires_by r side m)
    (call_tells side (Expire lcid clock) l tt refl (none_if r ((writes_nothing (end_of side l)).expiring lcid clock))
    refl) (expires_if r side m)

timer_if : (b : Bool) (side : Side) (clock : Clock) (lcid : ℕ) (l : Link)
    → Rests l (if b then expires side lcid clock l else l)
timer_if true side clock lcid l = expires_rests side lcid clock l
timer_if false side clock lcid l = unseen_rests l l refl

pub timer_rests : (side : Side) (clock : Clock) (lcid : ℕ) (l : Link) → Rests l (timer_expires side clock lcid l)
unfolding timer_expires
timer_rests side clock lcid l = timer_if (has lcid (end_of side l).bearers) side clock lcid l

pub all_receivers_rest : (side : Side) (lcids : List ℕ) (l : Link) → Rests l (all_receivers_expire side lcids l)
all_receivers_rest side [] l = unseen_rests l l refl
all_receivers_rest side (lcid ∷ lcids) l =
    let m = timer_expires side Reorder lcid l in
    let n = receiver_expires side lcid l in
    rests_then l n (all_receivers_expire side lcids n)
    (rests_then l m n (timer_rests side Reorder lcid l) (timer_rests side Prohibit lcid m))
    (all_receivers_rest side lcids n)

pub all_senders_rest : (side : Side) (lcids : List ℕ) (l : Link) → Rests l (all_senders_expire side lcids l)
all_senders_rest side [] l = unseen_rests l l refl
all_senders_rest side (lcid ∷ lcids) l =
    let m = timer_expires side Poll lcid l in
    rests_then l m (all_senders_expire side lcids m) (timer_rests side Poll lcid l) (all_senders_rest side lcids m)

pub receivers_rest : (l : Link) → Rests l (receivers_expire l)
unfolding receivers_expire
receivers_rest l =
    let m = all_receivers_expire Nb all_lcids l in
    rests_then l m (all_receivers_expire Ue all_lcids m) (all_receivers_rest Nb all_lcids l)
    (all_receivers_rest Ue all_lcids m)

pub senders_rest : (l : Link) → Rests l (senders_expire l)
unfolding senders_expire
senders_rest l =
    let m = all_senders_expire Nb all_lcids l in
    rests_then l m (all_senders_expire Ue all_lcids m) (all_senders_rest Nb all_lcids l)
    (all_senders_rest Ue all_lcids m)

pub forges_rests : (side : Side) (block : List ℕ) (l : Link) → Rests l (forges side block l)
unfolding forges
forges_rests side block l =
    let m = hears side block l in
    rests_then l m (loops m) (hears_rests side block l) (loops_rests m)

-- ---- what both ends are told

-- each end goes on by a call in which it tells nothing
both_go : (lives : List EndCall) (l m : Link) (c : EndCall) → IsGivenTo c → filter begins_life (c ∷ []) ≡ lives
    → seen m ≡ behind l (after_call l.nb c) (after_call l.ue c) [] → told_of l.nb c ≡ [] → told_of l.ue c ≡ []
    → GoesThrough lives [] l m
both_go lives l m c g begun is nb ue =
    through_seen lives [] [] l m (after_call l.nb c) (after_call l.ue c) is refl
    (by_call lives Nb [] c l.nb (after_call l.nb c) g begun refl (sym nb))
    (by_call lives Ue [] c l.ue (after_call l.ue c) g begun refl (sym ue))

-- no record is added
none_added : (l : Link) (nb ue : End) → record { nb = nb; ue = ue; out = l.out; kinds = l.kinds } ≡ behind l nb ue []
none_added l nb ue =
    ap (λ (x : List Record). record { nb = nb; ue = ue; out = x; kinds = l.kinds }) (sym (append-nil l.out))

bears_goes : (config : BearerConfig) (keys : Keys) (l : Link) → IsConfig config
    → GoesThrough (Add config keys ∷ []) [] (known (Bears config keys) l) (bears config keys l)
unfolding bears
bears_goes config keys l g =
    let k = known (Bears config keys) l in
    both_go (Add config keys ∷ []) k (bears config keys l) (Add config keys) g refl
    (none_added k (after_call l.nb (Add config keys)) (after_call l.ue (Add config keys))) refl refl

discards_goes : (lcid ttis : ℕ) (l : Link) → GoesOn [] l (discards lcid ttis l)
unfolding discards
discards_goes lcid ttis l =
    let c = SetDiscard lcid ttis in
    both_go [] l (discards lcid ttis l) c tt refl (none_added l (after_call l.nb c) (after_call l.ue c)) refl refl

visits_goes : (maximum : ℕ) (l : Link) → 1 ≤ maximum → GoesOn [] l (visits maximum l)
unfolding visits
visits_goes maximum l some =
    let c = SetVisits maximum in
    both_go [] l (visits maximum l) c some refl (none_added l (after_call l.nb c) (after_call l.ue c)) refl refl

reports_goes : (l : Link) → GoesOn [] l (reports l)
unfolding reports
reports_goes l = call_goes Ue (SetReports true) l tt refl refl

-- both move, and then both tell what they leave
hands_over_goes : (keys : Keys) (l : Link) → GoesThrough (Move keys ∷ []) [] l (hands_over keys l)
unfolding hands_over
hands_over_goes keys l =
    let j = moves keys l in
    let xs = map (records.Of Nb) (leaving l.nb) in
    let ys = map (records.Of Ue) (leaving l.ue) in
    let m = tells_all Nb (leaving l.nb) j in
    let n = tells_all Ue (leaving l.ue) m in
    let nb = after_call l.nb (Move keys) in
    let ue = after_call l.ue (Move keys) in
    let n_seen : seen n ≡ behind l nb ue (xs ++ ys) =
    told_seen Ue (leaving l.ue) m
    ∙ ap (λ (s : Seen). record { nb = s.nb; ue = s.ue; out = s.out ++ ys; kinds = s.kinds })
    (told_seen Nb (leaving l.nb) j)
    ∙ ap (λ (x : List Record). record { nb = nb; ue = ue; out = x; kinds = l.kinds }) (append_assoc l.out xs ys) in
    let none : filter is_of_building (xs ++ ys) ≡ [] =
    filter-append is_of_building xs ys
    ∙ ap (λ (x : List Record). x ++ filter is_of_building ys)
    (blocks_of Nb (leaving l.nb) ∙ ap (map (records.Of Nb)) (writes_nothing l.nb).moving)
    ∙ blocks_of Ue (leaving l.ue) ∙ ap (map (records.Of Ue)) (writes_nothing l.ue).moving in
    let nb_told : events_of Nb (xs ++ ys) ≡ leaving l.nb =
    told_both Nb xs ys (leaving l.nb) [] (own_told Nb (leaving l.nb) (tells_no_loop l.nb (Move keys)))
    (other_told Ue (leaving l.ue)) ∙ append-nil (leaving l.nb) in
    let ue_told : events_of Ue (xs ++ ys) ≡ leaving l.ue =
    told_both Ue xs ys [] (leaving l.ue) (other_told Nb (leaving l.nb))
    (own_told Ue (leaving l.ue) (tells_no_loop l.ue (Move keys))) in
    let lives = Move keys ∷ [] in
    let first = through_seen lives [] (xs ++ ys) l n nb ue n_seen none
    (by_call lives Nb (xs ++ ys) (Move keys) l.nb nb tt refl refl nb_told)
    (by_call lives Ue (xs ++ ys) (Move keys) l.ue ue tt refl refl ue_told) in
    through_then lives [] [] l n (loops n) first (loops_rests n).goes

pub loop_set_rests : (mode : Mode) (l : Link) → Rests l (loop_set mode l)
unfolding loop_set
loop_set_rests mode l =
    let m : Link = record l { looping = after_set l.looping mode } in
    rests_then l m (pays m) (unseen_rests l m refl) (pays_rests m)

-- ---- the calls

pub call_goes_on : (c : Call) (l : Link) → IsGiven c → GoesThrough (lives_in c) [] (known c l) (after c l)
unfolding listens
call_goes_on (Bears config keys) l g = bears_goes config keys l g
call_goes_on (Discards lcid ttis) l g = discards_goes lcid ttis l
call_goes_on (Visits maximum) l g = visits_goes maximum l g
call_goes_on Reports l g = reports_goes l
call_goes_on (Listens c) l g = (unseen_rests l (listens c l) refl).goes
call_goes_on (Loops mode) l g = (loop_set_rests mode l).goes
call_goes_on (Expires side lcid clock) l g = (expires_rests side lcid clock l).goes
call_goes_on (Forges side block) l g = (forges_rests side block l).goes
call_goes_on (HandsOver keys) l g = hands_over_goes keys l
call_goes_on ReceiversExpire l g = (receivers_rest l).goes
call_goes_on SendersExpire l g = (senders_rest l).goes

submits_by_rests : (broken : Option SubmitRefusal) (side : Side) (lcid : ℕ) (sdu : List ℕ) (l : Link)
    → refusal lcid sdu (end_of side l) ≡ broken → Rests l (submits_by broken side lcid sdu l)
unfolding submitted
submits_by_rests (Some broken) side lcid sdu l e =
    says_rests (records.Refused side lcid (no_place broken)) l refl refl refl
submits_by_rests None Nb lcid sdu l e = record {
  goes = goes_seen [] [] l _ (submitted lcid sdu l.nb) l.ue (none_added l (submitted lcid sdu l.nb) l.ue) refl
      (by_submit Nb [] lcid sdu l.nb e refl) (by_none Ue l.ue);
  entities_are = refl;
}
submits_by_rests None Ue lcid sdu l e = record {
  goes = goes_seen [] [] l _ l.nb (submitted lcid sdu l.ue) (none_added l l.nb (submitted lcid sdu l.ue)) refl
      (by_none Nb l.nb) (by_submit Ue [] lcid sdu l.ue e refl);
  entities_are = refl;
}

pub submitting_rests : (side : Side) (lcid : ℕ) (sdu : List ℕ) (l : Link) → Rests l (submitting side lcid sdu l)
unfolding submitting
submitting_rests side lcid sdu l = submits_by_rests (refusal lcid sdu (end_of side l)) side lcid sdu l refl

pub submitting_goes : (side : Side) (lcid : ℕ) (sdu : List ℕ) (l : Link) → GoesOn [] l (submitting side lcid sdu l)
submitting_goes side lcid sdu l = (submitting_rests side lcid sdu l).goes
