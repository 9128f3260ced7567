-- A round of a drain is calls of the bearers of each channel.
use Rattle.std.proofs.Common.{◌≡◌, ◌≤◌, ℕ, Bool, true, false, if◌then◌else◌, List, [], ◌∷◌, ◌++◌, refl, ap, sym}
use Rattle.std.proofs.Common.{◌∙◌}
use Rattle.std.specs.List.{AllByRecursion}
use Rattle.air_link.specs.Draining.{drain_tti, receivers_expire}
use Rattle.air_link.specs.Link.{Link}
use Rattle.air_link.specs.Loops.{loops}
use Rattle.air_record.specs.Outcomes.{intact}
use Rattle.bearer.specs.declared.flow.Flow.{Flow}
use Rattle.harq.specs.declared.sender.Order.{Order}
use Rattle.harq.specs.declared.sender.Order.TheVariants.{Free, Grant}
use Rattle.l2_node.specs.Building.{visited}
use Rattle.l2_node.specs.End.{End}
use Rattle.l2_types.specs.declared.Clock.TheVariants.{Poll}
use Rattle.prioritise.specs.Channels.{has as has_channel}
use Rattle.test_loop.specs.Loops.{is_on}
use Rattle.law_bearer.specs.AnyBearer.Calls.{Call, Expire, after_all}
use Rattle.law_bearer.specs.AnyBearer.Rounds.{Share, takes_in, writes_in, arrivals, expiries}
use Rattle.law_node.specs.Holding.{flow}
use Rattle.law_deliver.specs.AmFlow.Channels.{share_of, held_of, written_by}
use Rattle.law_run.specs.DrainTtis.{Step, Tti, ReceiversExpire, SendersExpire, IsGranted, goes, ttis, grown}
use Rattle.law_run.specs.DrainTtis.{HaveChannel}
use Rattle.law_run.specs.DrainTtis.{IsLoopOff}
use Rattle.law_run.specs.DrainRounds.{IsOfDrain, MayDrain, round_of, IsRoundOn}
use Rattle.law_run.proofs.AnyCalls.Settling.{downlink_goes}
use Rattle.law_run.proofs.DrainRounds.Staying.{step_stays, channel_stays, drains_stay, channels_stay}
use Rattle.law_run.proofs.DrainTtis.Expiring.{after_more, loops_off, timers_expire}
use Rattle.law_run.proofs.DrainTtis.Hearing.{after_down, up_ndi, BothHear, both_hear}

granted : (steps : List Step) → AllByRecursion IsOfDrain steps → AllByRecursion IsGranted steps
granted [] g = tt
granted (Tti grant ∷ steps) g = (g.0.0, granted steps g.1)
granted (ReceiversExpire ∷ steps) g = (tt, granted steps g.1)
granted (SendersExpire ∷ steps) g = (tt, granted steps g.1)

-- ---- shares

abbrev pub share_at : ℕ → ℕ → ℕ → Order → End → Share
share_at l t grant order e = record {
  here = has_channel l (visited t order e).buckets.channels;
  octets = share_of (visited t order e) grant l;
  held = held_of (visited t order e) l;
}

pub same_written : (l t grant : ℕ) (order : Order) (e : End)
    → written_by (visited t order e) grant l ≡ writes_in (share_at l t grant order e) (flow l e)
unfolding visited
same_written l t grant order e = refl

-- ---- the TTI

-- no loop is on behind the downlink
pub down_off : (grant : ℕ) (m : Link) → MayDrain m → IsLoopOff (after_down grant m)
down_off grant m h =
    let j = grown m in
    let w = downlink_goes m.looping.mode m.ttis grant intact j (record {
      mode_is = refl;
      none_kept = h.rests.none_kept;
      none_waits = λ off. h.rests.none_waits;
    }) in
    ap is_on w.stands.mode_is ∙ h.off

pub record InTti (down up : Share) (nb ue nb' ue' : Flow) : Type 0 where
  pub nb_is : nb'
      ≡ after_all nb (takes_in down ++ arrivals (writes_in up (after_all ue (arrivals (writes_in down nb)))))
  pub ue_is : ue' ≡ after_all ue (arrivals (writes_in down nb) ++ takes_in up)

pub in_tti : (l grant : ℕ) (m : Link) → MayDrain m → BothHear l grant m
    → InTti (share_at l m.ttis grant Free (grown m).nb)
    (share_at l m.ttis grant (Grant (up_ndi grant m)) (loops (after_down grant m)).ue)
    (flow l m.nb) (flow l m.ue) (flow l (drain_tti grant m).nb) (flow l (drain_tti grant m).ue)
in_tti l grant m h b =
    let d = after_down grant m in
    let i = loops d in
    let order = Grant (up_ndi grant m) in
    let off = loops_off d (down_off grant m h) in
    let down = share_at l m.ttis grant Free (grown m).nb in
    let up = share_at l m.ttis grant order i.ue in
    let f = flow l m.nb in
    let g = flow l m.ue in
    let nb_rests : flow l i.nb ≡ flow l d.nb = ap (λ (x : Link). flow l x.nb) off in
    let ue_rests : flow l i.ue ≡ flow l d.ue = ap (λ (x : Link). flow l x.ue) off in
    let came : flow l d.ue ≡ after_all g (arrivals (writes_in down f)) =
    b.goes_down.hears
    ∙ ap (λ (ps : List (List ℕ)). after_all g (arrivals ps)) (same_written l m.ttis grant Free (grown m).nb) in
    let wrote : written_by (visited m.ttis order i.ue) grant l
    ≡ writes_in up (after_all g (arrivals (writes_in down f))) =
    same_written l m.ttis grant order i.ue ∙ ap (writes_in up) (ue_rests ∙ came) in
    record {
      nb_is =
          b.goes_up.hears
          ∙ ap (λ (x : Flow). after_all x (arrivals (written_by (visited m.ttis order i.ue) grant l)))
          (nb_rests ∙ b.goes_down.takes)
          ∙ ap (λ (ps : List (List ℕ)). after_all (after_all f (takes_in down)) (arrivals ps)) wrote
          ∙ sym (after_more (takes_in down) (arrivals (writes_in up (after_all g (arrivals (writes_in down f))))) f);
      ue_is =
          b.goes_up.takes
          ∙ ap (λ (x : Flow). after_all x (takes_in up)) (ue_rests ∙ came)
          ∙ sym (after_more (arrivals (writes_in down f)) (takes_in up) g);
    }

-- ---- the timers behind it

abbrev behind : Bool → Link → Link
behind polls m = goes (ReceiversExpire ∷ (if polls then SendersExpire ∷ [] else [])) m

pub record AllExpire (polls : Bool) (nb ue nb' ue' : Flow) : Type 0 where
  pub nb_is : nb' ≡ after_all nb (expiries polls)
  pub ue_is : ue' ≡ after_all ue (expiries polls)

pub all_expire : (polls : Bool) (l : ℕ) (m : Link) → l ≤ 10 → MayDrain m → HaveChannel l m
    → AllExpire polls (flow l m.nb) (flow l m.ue) (flow l (behind polls m).nb) (flow l (behind polls m).ue)
all_expire false l m low h c =
    let x = (timers_expire m l low h.off h.come c).0 in
    record { nb_is = x.nb_is; ue_is = x.ue_is }
all_expire true l m low h c =
    let x = (timers_expire m l low h.off h.come c).0 in
    let n = receivers_expire m in
    let k = step_stays ReceiversExpire m tt h in
    let y = (timers_expire n l low k.off k.come (channel_stays ReceiversExpire m l tt h c)).1 in
    record {
      nb_is = y.nb_is ∙ ap (λ (f : Flow). after_all f (Expire Poll ∷ [])) x.nb_is;
      ue_is = y.ue_is ∙ ap (λ (f : Flow). after_all f (Expire Poll ∷ [])) x.ue_is;
    }

-- ---- the round

pub behind_all : (cs ds es : List Call) (f g h : Flow) → g ≡ after_all f (cs ++ ds) → h ≡ after_all g es
    → h ≡ after_all f (cs ++ (ds ++ es))
behind_all cs ds es f g h p q =
    q
    ∙ ap (λ (x : Flow). after_all x es) (p ∙ after_more cs ds f)
    ∙ sym (after_more ds es (after_all f cs))
    ∙ sym (after_more cs (ds ++ es) f)

pub rounds_are_calls : (steps : List Step) (grant : ℕ) (polls : Bool) (k : Link) (l : ℕ)
    → AllByRecursion IsOfDrain steps → 8 ≤ ttis steps → IsOfDrain (Tti grant) → l ≤ 10 → MayDrain k → HaveChannel l k
    → IsRoundOn l polls (goes steps k) (goes (round_of grant polls) (goes steps k))
rounds_are_calls steps grant polls k l g many given low h c =
    let m = goes steps k in
    let n = drain_tti grant m in
    let may = drains_stay steps k g h in
    let channel = channels_stay steps k l g h c in
    let b = both_hear steps grant k l h.eight (granted steps g) many given.0 given.1 may.come channel in
    let x = in_tti l grant m may b in
    let y = all_expire polls l n low (step_stays (Tti grant) m given may)
    (channel_stays (Tti grant) m l given may channel) in
    let down = share_at l m.ttis grant Free (grown m).nb in
    let up = share_at l m.ttis grant (Grant (up_ndi grant m)) (loops (after_down grant m)).ue in
    let f = flow l m.nb in
    let u = flow l m.ue in
    record {
      round = record { down = down; up = up; polls = polls };
      polls_are = refl;
      is = record {
        nb_is =
            behind_all (takes_in down) (arrivals (writes_in up (after_all u (arrivals (writes_in down f)))))
            (expiries polls) f (flow l n.nb) _ x.nb_is y.nb_is;
        ue_is =
            behind_all (arrivals (writes_in down f)) (takes_in up) (expiries polls) u (flow l n.ue) _ x.ue_is y.ue_is;
      };
    }
