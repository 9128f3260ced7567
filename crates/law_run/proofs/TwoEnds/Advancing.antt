-- What a link plays goes by air: a TTI, a submission, and any other call.
use Rattle.std.proofs.Common.{◌≡◌, ◌≤◌, ℕ, ◌+◌, ◌==◌, Bool, false, Option, None, slice_set, List, [], ◌∷◌, ◌++◌, map}
use Rattle.std.proofs.Common.{append-nil, append_assoc, refl, ap, sym, subst, arith, ◌∙◌, get_or-set_other, inl, inr}
use Rattle.std.proofs.lemmas.Bool.Decides.{nat_tests}
use Rattle.std.specs.List.{AllByRecursion, filter}
use Rattle.air_link.specs.Downlink.{downlink}
use Rattle.air_link.specs.Draining.{drain_tti}
use Rattle.air_record.specs.Outcomes.{intact, missed}
use Rattle.air_link.specs.Lines.{bears, visits, hands_over as hands_over_link}
use Rattle.air_link.specs.Link.{Link, with_end}
use Rattle.air_link.specs.Loops.{loops}
use Rattle.air_link.specs.Ttis.{begins, grows, sleeps, tells_sleep, timed, tti_by, tti}
use Rattle.air_link.specs.Uplink.{uplink}
use Rattle.air_record.specs.declared.line.Outcome.{Outcome}
use Rattle.air_record.specs.declared.record.Record.{Record}
use Rattle.bearer_types.specs.Configs.{IsConfig}
use Rattle.bearer_types.specs.declared.config.BearerConfig.{BearerConfig}
use Rattle.eps_sec.specs.declared.Keys.{Keys}
use Rattle.harq.specs.Sending.{Sending, fresh}
use Rattle.l2_node.specs.End.{End, with_bearer, with_visits}
use Rattle.bearer_types.specs.Sides.{sent_by}
use Rattle.um_losses.specs.declared.cursor.Cursor.{Cursor}
use Rattle.um_losses.specs.declared.flow.Happening.{Happening}
use Rattle.um_losses.specs.Told.{told_in}
use Rattle.pdu_show.specs.declared.kinds.Layout.{Layout}
use Rattle.l2_types.specs.declared.side.Side.{Side}
use Rattle.l2_types.specs.declared.side.Side.TheVariants.{Nb, Ue}
use Rattle.law_node.specs.Calls.{SetVisits, Add, Move, after as after_call}
use Rattle.law_node.specs.Telling.{told_of}
use Rattle.promises.specs.Records.{events_of}
use Rattle.law_run.specs.AnyCalls.Calls.{Call, Bears, Discards, Visits, Reports, Listens, Loops, Expires, Forges}
use Rattle.law_run.specs.AnyCalls.Calls.{HandsOver, ReceiversExpire, SendersExpire, after}
use Rattle.law_run.specs.AnyCalls.Runs.{Step as LinkStep, Tti, Drains, Submit, Calls as LinkCalls, step}
use Rattle.law_run.proofs.AnyCalls.Calling.{calls_adds, submitting_adds}
use Rattle.law_run.proofs.AnyCalls.Passing.{tti_adds, drain_adds}
use Rattle.law_deliver.specs.AmFlow.Air.{Block, Station, Air, outset, older, passed}
use Rattle.law_deliver.proofs.AmFlow.Stations.{come_more}
use Rattle.law_words.specs.Arrivals.{AccountEntry}
use Rattle.law_deliver.specs.AmChannel.Lives.{end_at}
use Rattle.law_run.specs.TwoEnds.Arrival.{renewals_in}
use Rattle.promises.specs.Arrival.{entries_in}
use Rattle.law_run.specs.TwoEnds.Logs.{Flight, no_flight}
use Rattle.law_run.specs.TwoEnds.Staying.{is_handover_step, Stays, MovesOn}
use Rattle.law_run.specs.TwoEnds.Going.{handed_in, is_submission, SubmissionsGoAlone, sets, GoesOn, IsCallSince}
use Rattle.law_run.specs.TwoEnds.Going.{IsStepSince}
use Rattle.promises.specs.Flows.{looped_at}
use Rattle.law_run.specs.TwoEnds.Shown.{IsShown, anew}
use Rattle.law_run.specs.TwoEnds.On.{until, IsHeld, IsFlying, IsStation, IsOn}
use Rattle.law_run.proofs.TwoEnds.Flying.{keep_all}
use Rattle.law_run.proofs.TwoEnds.Going.{Marks, calm, setting, handing, none, Any, Block', Renewed, Unread}
use Rattle.law_run.proofs.TwoEnds.Steps.{by_sides}
use Rattle.law_run.proofs.TwoEnds.Going.{Behind, Fits, IsAt, ended, first_whats, no_whats, goes_then}
use Rattle.law_run.proofs.TwoEnds.Steps.{call_whats, goes_off}
use Rattle.law_run.proofs.TwoEnds.Going.{Goes, station, with_station}
use Rattle.law_run.proofs.TwoEnds.Steps.{goes_pass}
use Rattle.law_run.proofs.TwoEnds.Moving.{fresh_at, left_told, moved_link, moved_so, handover_stage}
use Rattle.law_run.proofs.TwoEnds.Resting.{call_rests, loops_rests, loop_set_rests, woken_rests, grown_rests}
use Rattle.law_run.proofs.TwoEnds.Resting.{expires_rests, receivers_rest, senders_rest, discards_rests, reports_rests}
use Rattle.law_run.proofs.TwoEnds.Resting.{listens_rests, submitting_hands, submitting_alone}
use Rattle.law_run.proofs.TwoEnds.Stages.{Both, Stands, Reaches, Stage, unlooped_goes, stage_then, Rests, rests_then}
use Rattle.law_run.proofs.TwoEnds.Stages.{still_rests, shows_nothing, goes_plain, says_so, none_flown, none_looped}
use Rattle.law_run.proofs.TwoEnds.Stations.{Moment, Waits, Done, wait}
use Rattle.law_run.proofs.TwoEnds.Visiting.{downlink_stage, uplink_stage}

-- ---- between two lines

on_both : (k : Link) (a : Air) → IsOn k a → Both (Stands Nb (Waits k.ttis)) (Stands Ue (Waits k.ttis)) k a
on_both k a h = record {
  nb_is = h.nb_is;
  ue_is = h.ue_is;
  nb = record { is = h.nb; idle = h.nb_idle };
  ue = record { is = h.ue; idle = h.ue_idle };
}

pub both_on : (t : ℕ) (m : Link) (a : Air) → m.ttis ≡ t → Both (Stands Nb (Waits t)) (Stands Ue (Waits t)) m a
    → IsOn m a
both_on t m a same h = record {
  nb_is = h.nb_is;
  ue_is = h.ue_is;
  nb = subst (λ (n : ℕ). IsStation Nb (until n) a.nb) (sym same) h.nb.is;
  ue = subst (λ (n : ℕ). IsStation Ue (until n) a.ue) (sym same) h.ue.is;
  nb_idle = h.nb.idle;
  ue_idle = h.ue.idle;
}

-- what a step may do
abbrev marks : ℕ → LinkStep → Marks
marks l s = record { sets = sets l s; moves = is_handover_step s; hands = is_submission s }

same_behind : (c : Behind) (xs ys : List AccountEntry) → ended c ++ xs ≡ ended c ++ ys → xs ≡ ys
same_behind Any xs ys e = e
same_behind (Block' side octets process) xs ys e = e
same_behind Renewed xs ys e = cc
same_behind Unread xs ys e = e

-- behind what a step ends
goes_behind : (l t : ℕ) (c : Behind) (s : LinkStep) (k : Link) (a : Air) → ended c ≡ renewals_in s
    → first_whats c ≡ anew s
    → ((sent : Flight) → Fits c sent) → ((p : Cursor) → IsAt c p)
    → (r : Reaches l (marks l s) c Any (λ side n. handed_in side n s k) (Stands Nb (Waits t)) (Stands Ue (Waits t)) k
    (step s k) a) → (step s k).ttis ≡ t → SubmissionsGoAlone s k r.goes.steps r.more → Stays l s k a
goes_behind l t c s k a ends firsts fits at r same alone = record {
  goes = record {
    more = r.more;
    out_is = r.out_is;
    alone =
        λ bits from sent. same_behind c _ _ (sym (r.goes.reads bits from (record no_flight { octets = sent })
        (fits (record no_flight { octets = sent })))
        ∙ r.goes.reads bits from no_flight (fits no_flight));
    log_alone = λ sent. sym (r.goes.logs sent (fits sent)) ∙ r.goes.logs no_flight (fits no_flight);
    by = record {
      steps = r.goes.steps;
      living = r.goes.living;
      told_is = r.goes.told_is;
      logged_is = r.goes.logs no_flight (fits no_flight);
      submitted_is = r.goes.submitted_is;
      happened_is = λ bits from. r.goes.reads bits from no_flight (fits no_flight)
          ∙ ap (λ (hs : List AccountEntry). hs ++ entries_in bits l from [] r.more) ends;
      sets_none = r.goes.sets_none;
      on = subst (IsOn (step s k)) (sym r.goes.air_is) (both_on t (step s k) r.air same r.both);
    };
    along = λ off sent. r.goes.along off sent (fits sent);
    submits = alone;
    stays = r.stays;
    shown = λ bits h from p.
        r.goes.whats_are bits from
        ∙ (sym (r.shown bits h from p (at p))
        ∙ ap (λ (ws : List Happening). ws ++ told_in (sent_by from) l p r.more) firsts);
  };
  in_life = r.goes.stays;
}

goes_so : (l t : ℕ) (s : LinkStep) (k : Link) (a : Air) → renewals_in s ≡ [] → anew s ≡ []
    → (r : Reaches l (marks l s) Any Any (λ side n. handed_in side n s k) (Stands Nb (Waits t)) (Stands Ue (Waits t)) k
    (step s k) a) → (step s k).ttis ≡ t → SubmissionsGoAlone s k r.goes.steps r.more → Stays l s k a
goes_so l t s k a stays still r same alone =
    goes_behind l t Any s k a (sym stays) (sym still) (λ sent. tt) (λ p. tt) r same alone

-- ---- a TTI ends

aged_held : (t : ℕ) (s : Sending) (bs : List Block) → AllByRecursion (IsHeld (wait (Done t)) s) bs
    → AllByRecursion (IsHeld (until (t + 1)) s) (map older bs)
aged_held t s [] h = tt
aged_held t s (b ∷ bs) h =
    let x = h.0 in
    let age = x.age_is in (
      record {
        process = x.process;
        held = x.held;
        held_is = x.held_is;
        octets_are = x.octets_are;
        some = x.some;
        age_is = omega (arith, age);
      },
      aged_held t s bs h.1,
    )

aged_flying : (p : ℕ) (bs : List Block) → IsFlying p bs → IsFlying p (map older bs)
aged_flying p [] h = h
aged_flying p (b ∷ bs) (inl e) = inl e
aged_flying p (b ∷ bs) (inr h) = inr (aged_flying p bs h)

aged : (side : Side) (t : ℕ) (s : Station) → IsStation side (wait (Done t)) s → Stands side (Waits (t + 1)) (passed s)
aged side t s h = record {
  is = record {
    come = h.come;
    some = h.some;
    few = h.few;
    held = aged_held t s.end.sender s.blocks h.held;
    flying = λ p n. aged_flying p s.blocks (h.flying p n);
  };
  idle = refl;
}

pass_stage : (l : ℕ) (set : Marks) (t : ℕ) (k : Link)
    → Stage l set (Stands Nb (Done t)) (Stands Ue (Done t)) (Stands Nb (Waits (t + 1))) (Stands Ue (Waits (t + 1))) k
    k
pass_stage l set t k a h = record {
  air = record { nb = passed a.nb; ue = passed a.ue };
  more = [];
  out_is = sym (append-nil k.out);
  ws = no_whats;
  goes = unlooped_goes l set [] a (record { nb = passed a.nb; ue = passed a.ue }) (λ n. refl)
      (goes_pass l set t a h.nb.is h.ue.is);
  left = λ sent fits. tt;
  stands = λ p at. tt;
  stays = λ bits s. s;
  shown = λ bits s from c at. refl;
  both = record { nb_is = h.nb_is; ue_is = h.ue_is; nb = aged Nb t a.nb h.nb.is; ue = aged Ue t a.ue h.ue.is };
}

-- what comes before the blocks, the downlink, the loop, the uplink
by_visits : (l : ℕ) (set : Marks) (t up_grant : ℕ) (up : Outcome) (down_grant : ℕ) (down : Outcome) (k m : Link)
    → Rests l set k m → up_grant ≤ 9422 → down_grant ≤ 9422
    → Stage l set (Stands Nb (Waits t)) (Stands Ue (Waits t)) (Stands Nb (Waits (t + 1))) (Stands Ue (Waits (t + 1)))
    k (uplink t up_grant up (loops (downlink t down_grant down m)))
by_visits l set t up_grant up down_grant down k m first up_within down_within =
    let n = downlink t down_grant down m in
    let p = loops n in
    let q = uplink t up_grant up p in
    let W = Stands Nb (Waits t) in
    let V = Stands Ue (Waits t) in
    let D = Stands Nb (Done t) in
    let E = Stands Ue (Done t) in
    let to_n = stage_then l set W V W V D V k m n (first (Waits t) (Waits t))
    (downlink_stage l set t down_grant down m (Waits t) down_within) in
    let to_p = stage_then l set W V D V D V k n p to_n (loops_rests l set n (Done t) (Waits t)) in
    let to_q = stage_then l set W V D V D E k p q to_p (uplink_stage l set t up_grant up p (Done t) up_within) in
    stage_then l set W V D E (Stands Nb (Waits (t + 1))) (Stands Ue (Waits (t + 1))) k q q to_q (pass_stage l set t q)

ttis_go : (l up_grant : ℕ) (up : Outcome) (down_grant : ℕ) (down : Outcome) (k : Link) (a : Air) → up_grant ≤ 9422
    → down_grant ≤ 9422 → IsOn k a → Stays l (Tti up_grant up down_grant down) k a
unfolding tti tti_by
ttis_go l up_grant up down_grant down k a up_within down_within h =
    let asleep = sleeps k.ttis k in
    let m = timed (tells_sleep asleep (begins k)) in
    goes_so l (k.ttis + 1) (Tti up_grant up down_grant down) k a refl refl
    (by_visits l calm k.ttis up_grant (missed asleep up) down_grant (missed asleep down) k m
    (woken_rests l calm asleep k) up_within down_within a (on_both k a h))
    (tti_adds up_grant up down_grant down k).ttis_is tt

drains_go : (l grant : ℕ) (k : Link) (a : Air) → grant ≤ 9422 → IsOn k a → Stays l (Drains grant) k a
unfolding drain_tti
drains_go l grant k a within h =
    let m = grows Ue (grows Nb (begins k)) in
    goes_so l (k.ttis + 1) (Drains grant) k a refl refl
    (by_visits l calm k.ttis grant intact grant intact k m (grown_rests l calm k) within within a (on_both k a h))
    (drain_adds grant k).ttis_is tt

-- ---- another number of visits empties the processes

abbrev keeps_none : Block → Bool
keeps_none b = false

fresh_most : (n : ℕ) → (fresh n).maximum ≡ n
unfolding fresh
fresh_most n = refl

emptied_station : (side : Side) (w : ℕ → ℕ) (s : Station) (maximum : ℕ) → IsStation side w s → 1 ≤ maximum
    → maximum ≤ 28
    → IsStation side w (record {
      end = after_call s.end (SetVisits maximum);
      blocks = filter keeps_none s.blocks;
      busy = s.busy;
    })
unfolding with_visits
emptied_station side w s maximum h some few =
    let most : (fresh maximum).maximum ≡ maximum = fresh_most maximum in
    record {
      come = come_more side s.end (SetVisits maximum) h.come some;
      some = subst (λ (n : ℕ). 1 ≤ n) (sym most) some;
      few = subst (λ (n : ℕ). n ≤ 28) (sym most) few;
      held = keep_all (IsHeld w s.end.sender) (IsHeld w (fresh maximum)) keeps_none (λ b held e. absurd cc) s.blocks
          h.held;
      flying = λ p n. absurd (n (fresh_at maximum p));
    }

emptied_stands : (side : Side) (n : Moment) (s : Station) (maximum : ℕ) → Stands side n s → 1 ≤ maximum → maximum ≤ 28
    → Stands side n (record {
      end = after_call s.end (SetVisits maximum);
      blocks = filter keeps_none s.blocks;
      busy = s.busy;
    })
emptied_stands side (Waits t) s maximum h some few =
    record { is = emptied_station side (wait (Waits t)) s maximum h.is some few; idle = h.idle }
emptied_stands side (Done t) s maximum h some few =
    record { is = emptied_station side (wait (Done t)) s maximum h.is some few; idle = tt }

-- the array of HARQ processes of an end begins anew, and what was under way from it is let go
abbrev emptied_at : ℕ → Station → Station
emptied_at maximum s = record {
  end = after_call s.end (SetVisits maximum);
  blocks = filter keeps_none s.blocks;
  busy = s.busy;
}

emptied_by : (l : ℕ) (set : Marks) (side : Side) (maximum : ℕ) (b : Air) → 1 ≤ maximum
    → Goes l set [] none (call_whats side l (station side b).end (SetVisits maximum)) b
    (with_station side (record (station side b) { end = after_call (station side b).end (SetVisits maximum) }) b)
emptied_by l set side maximum b some =
    goes_plain l set side [] none (SetVisits maximum) b tt some
    (record { adds_none = refl; moves_none = refl; unset = λ off. refl })
    (says_so side [] none (station side b).end (SetVisits maximum) tt refl none_flown refl refl (λ i. refl) (λ i. refl)
    (λ sent. refl)) (λ off s i. none_looped [] (λ j. refl) s i)

emptied_goes : (l : ℕ) (set : Marks) (side : Side) (maximum : ℕ) (a : Air) → 1 ≤ maximum
    → Goes l set [] (λ at n. looped_at at n []) (call_whats side l (station side a).end (SetVisits maximum)) a
    (with_station side (emptied_at maximum (station side a)) a)
emptied_goes l set Nb maximum a some =
    let b : Air = record a { nb = record a.nb { blocks = filter keeps_none a.nb.blocks } } in
    let c : Air = record a { nb = emptied_at maximum a.nb } in
    unlooped_goes l set [] a c (λ i. refl)
    (goes_then l set [] [] none none a b c (goes_off l set Nb keeps_none a) (emptied_by l set Nb maximum b some))
emptied_goes l set Ue maximum a some =
    let b : Air = record a { ue = record a.ue { blocks = filter keeps_none a.ue.blocks } } in
    let c : Air = record a { ue = emptied_at maximum a.ue } in
    unlooped_goes l set [] a c (λ i. refl)
    (goes_then l set [] [] none none a b c (goes_off l set Ue keeps_none a) (emptied_by l set Ue maximum b some))

emptied_stage : (l : ℕ) (set : Marks) (side : Side) (maximum : ℕ) (R S : Station → Type 0) (k m : Link) (a : Air)
    → 1 ≤ maximum → m.out ≡ k.out → m.kinds ≡ k.kinds
    → Both R S m (with_station side (emptied_at maximum (station side a)) a) → Reaches l set Any Any none R S k m a
emptied_stage l set side maximum R S k m a some out kinds both = record {
  air = with_station side (emptied_at maximum (station side a)) a;
  more = [];
  out_is = out ∙ sym (append-nil k.out);
  goes = emptied_goes l set side maximum a some;
  ws = call_whats side l (station side a).end (SetVisits maximum);
  left = λ sent fits. tt;
  stands = λ p at. tt;
  stays = λ bits. subst (IsShown l bits) (sym kinds);
  shown = λ bits s from p at. shows_nothing l side (station side a).end (SetVisits maximum) tt refl bits from p;
  both = both;
}

visits_nb : (l : ℕ) (set : Marks) (maximum : ℕ) (k : Link) → 1 ≤ maximum → maximum ≤ 28
    → Rests l set k (with_end Nb (after_call k.nb (SetVisits maximum)) k)
visits_nb l set maximum k some few n u a h =
    emptied_stage l set Nb maximum (Stands Nb n) (Stands Ue u) k (with_end Nb (after_call k.nb (SetVisits maximum)) k) a
    some refl refl (record {
      nb_is = ap (λ (e : End). after_call e (SetVisits maximum)) h.nb_is;
      ue_is = h.ue_is;
      nb = emptied_stands Nb n a.nb maximum h.nb some few;
      ue = h.ue;
    })

visits_ue : (l : ℕ) (set : Marks) (maximum : ℕ) (k : Link) → 1 ≤ maximum → maximum ≤ 28
    → Rests l set k (with_end Ue (after_call k.ue (SetVisits maximum)) k)
visits_ue l set maximum k some few n u a h =
    emptied_stage l set Ue maximum (Stands Nb n) (Stands Ue u) k (with_end Ue (after_call k.ue (SetVisits maximum)) k) a
    some refl refl (record {
      nb_is = h.nb_is;
      ue_is = ap (λ (e : End). after_call e (SetVisits maximum)) h.ue_is;
      nb = h.nb;
      ue = emptied_stands Ue u a.ue maximum h.ue some few;
    })

visits_rests : (l : ℕ) (set : Marks) (maximum : ℕ) (k : Link) → 1 ≤ maximum → maximum ≤ 28
    → Rests l set k (visits maximum k)
unfolding visits
visits_rests l set maximum k some few =
    let m = with_end Nb (after_call k.nb (SetVisits maximum)) k in
    rests_then l set k m (with_end Ue (after_call m.ue (SetVisits maximum)) m) (visits_nb l set maximum k some few)
    (visits_ue l set maximum m some few)

-- ---- a bearer of another channel comes

-- it is shown as it was
shown_still : (l bits lcid : ℕ) (kinds : List (Option Layout)) (new : Option Layout) → (lcid == l) ≡ false
    → IsShown l bits kinds → IsShown l bits (slice_set kinds lcid new)
shown_still l bits lcid kinds new apart h =
    let other : l ≡ lcid → ⊥ = λ e. let same : (lcid == lcid) ≡ false = ap (λ (n : ℕ). lcid == n) (sym e) ∙ apart in
    grind (arith, nat_tests) in
    record { kind = h.kind; is = get_or-set_other kinds lcid l new None other ∙ h.is }

bears_rests : (l : ℕ) (set : Marks) (config : BearerConfig) (keys : Keys) (k : Link) → IsConfig config
    → (config.channel.lcid == l) ≡ false → Rests l set k (bears config keys k)
unfolding bears with_bearer
bears_rests l set config keys k g apart =
    let c = Add config keys in
    let m = with_end Nb (after_call k.nb c) k in
    let n = with_end Ue (after_call m.ue c) m in
    let to_n =
    rests_then l set k m n
    (call_rests l set Nb c k tt g (record { adds_none = apart; moves_none = refl; unset = λ off. refl })
    (λ e. refl) refl (λ n. refl))
    (call_rests l set Ue c m tt g (record { adds_none = apart; moves_none = refl; unset = λ off. refl }) (λ e. refl)
    refl (λ n. refl)) in
    rests_then l set k n (bears config keys k) to_n
    (still_rests l set n (bears config keys k) refl refl refl
    (λ bits s. shown_still l bits config.channel.lcid k.kinds _ apart s))

-- ---- any call

-- in which both ends stay in their cell
stays_by : (l : ℕ) (c : Call) (k : Link) (a : Air) → renewals_in (LinkCalls c) ≡ [] → anew (LinkCalls c) ≡ []
    → Rests l (marks l (LinkCalls c)) k (after c k) → IsOn k a → Stays l (LinkCalls c) k a
stays_by l c k a stays still f h =
    goes_so l k.ttis (LinkCalls c) k a stays still (f (Waits k.ttis) (Waits k.ttis) a (on_both k a h))
    (calls_adds c k).ttis_is tt

calls_go : (l : ℕ) (c : Call) (k : Link) (a : Air) → IsCallSince l c → IsOn k a → Stays l (LinkCalls c) k a
calls_go l (Bears config keys) k a g h =
    stays_by l (Bears config keys) k a refl refl (bears_rests l calm config keys k g.0 g.1) h
calls_go l (Discards lcid ttis) k a g h =
    stays_by l (Discards lcid ttis) k a refl refl (discards_rests l (setting (lcid == l)) lcid ttis k (λ off. off)) h
calls_go l (Visits maximum) k a g h =
    stays_by l (Visits maximum) k a refl refl (visits_rests l calm maximum k g.0 g.1) h
calls_go l Reports k a g h = stays_by l Reports k a refl refl (reports_rests l calm k) h
calls_go l (Listens c) k a g h = stays_by l (Listens c) k a refl refl (listens_rests l calm c k) h
calls_go l (Loops mode) k a g h = stays_by l (Loops mode) k a refl refl (loop_set_rests l calm mode k) h
calls_go l (Expires side lcid clock) k a g h =
    stays_by l (Expires side lcid clock) k a refl refl (expires_rests l calm side lcid clock k) h
calls_go l (Forges side block) k a g h = absurd g
calls_go l (HandsOver keys) k a g h =
    goes_behind l k.ttis Renewed (LinkCalls (HandsOver keys)) k a refl refl (λ sent. tt) (λ p. tt)
    (handover_stage l false keys k k.ttis a (on_both k a h)) (calls_adds (HandsOver keys) k).ttis_is tt
calls_go l ReceiversExpire k a g h = stays_by l ReceiversExpire k a refl refl (receivers_rest l calm k) h
calls_go l SendersExpire k a g h = stays_by l SendersExpire k a refl refl (senders_rest l calm k) h

-- ---- any step

pub steps_stay : (l : ℕ) (s : LinkStep) (k : Link) (a : Air) → IsStepSince l s → IsOn k a → Stays l s k a
steps_stay l (Tti up_grant up down_grant down) k a g h = ttis_go l up_grant up down_grant down k a g.0 g.1 h
steps_stay l (Drains grant) k a g h = drains_go l grant k a g h
steps_stay l (Submit side lcid sdu) k a g h =
    let t = k.ttis in
    let both = on_both k a h in
    goes_so l t (Submit side lcid sdu) k a refl refl
    (submitting_hands l handing refl side lcid sdu k (Waits t) (Waits t) a both)
    (submitting_adds side lcid sdu k).ttis_is
    (submitting_alone l handing refl side lcid sdu k (Waits t) (Waits t) a both)
steps_stay l (LinkCalls c) k a g h = calls_go l c k a g h

pub steps_go : (l : ℕ) (s : LinkStep) (k : Link) (a : Air) → IsStepSince l s → IsOn k a → GoesOn l s k a
steps_go l s k a g h = (steps_stay l s k a g h).goes

-- ---- a handover, in two parts

pub handovers_move : (l : ℕ) (keys : Keys) (k : Link) (a : Air) → IsOn k a → MovesOn l keys k a
unfolding hands_over_link
handovers_move l keys k a h =
    let t = k.ttis in
    let n = moved_link keys k in
    let m = moved_so keys k t a (on_both k a h) in
    let b = outset (after_call a.nb.end (Move keys)) (after_call a.ue.end (Move keys)) in
    let r = loops_rests l calm n (Waits t) (Waits t) b m.both in
    record {
      leaving = left_told k;
      behind = r.more;
      out_is = r.out_is ∙ ap (λ (o : List Record). o ++ r.more) m.out_is ∙ append_assoc k.out (left_told k) r.more;
      told_is =
          by_sides (λ side. events_of side (left_told k) ≡ told_of (end_at side a) (Move keys)) m.nb_told m.ue_told;
      none_looped = by_sides (λ side. (i : ℕ) → looped_at side i (left_told k) ≡ []) (λ i. refl) m.unlooped;
      by = record {
        steps = r.goes.steps;
        living = r.goes.living;
        told_is = r.goes.told_is;
        logged_is = r.goes.logs no_flight tt;
        submitted_is = r.goes.submitted_is;
        happened_is = λ bits from. r.goes.reads bits from no_flight tt;
        sets_none = r.goes.sets_none;
        on =
            subst (IsOn (loops n)) (sym r.goes.air_is)
            (both_on t (loops n) r.air (calls_adds (HandsOver keys) k).ttis_is r.both);
      };
      in_life = r.goes.stays refl;
      along = λ sent. r.goes.along refl sent tt;
    }
