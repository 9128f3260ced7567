-- What the bearers of a channel at both ends do as a block arrives in the TTI that builds it.
use Rattle.std.proofs.Common.{◌≡◌, ◌≤◌, ℕ, ◌%◌, Bool, true, List, length, map, refl, ap, sym, subst, ◌∙◌}
use Rattle.std.specs.List.{AllByRecursion}
use Rattle.air_link.specs.Downlink.{downlink}
use Rattle.air_link.specs.Draining.{drain_tti}
use Rattle.air_link.specs.Link.{Link}
use Rattle.air_link.specs.Loops.{loops}
use Rattle.air_record.specs.Outcomes.{intact}
use Rattle.air_record.specs.declared.record.Record.{Record}
use Rattle.bearer.specs.Bearer.{Of, Life}
use Rattle.bearer_types.specs.Sides.{sent_by, heard_by}
use Rattle.harq.specs.declared.sender.Order.{Order}
use Rattle.harq.specs.declared.sender.Order.TheVariants.{Free, Grant}
use Rattle.harq.specs.declared.sender.Visit.{Visit}
use Rattle.harq.specs.declared.sender.Visit.TheVariants.{New}
use Rattle.harq.specs.Receiving.{grant_ndi}
use Rattle.harq.specs.Sending.{Sending, held_of}
use Rattle.l2_node.specs.Building.{visit, visited, built, IsEnough}
use Rattle.l2_node.specs.End.{End}
use Rattle.l2_node.specs.Finding.{has, find, bearer_at}
use Rattle.l2_node.specs.Hearing.{received}
use Rattle.l2_node.specs.Writing.{written, new_block}
use Rattle.l2_types.specs.declared.side.Side.{Side}
use Rattle.l2_types.specs.declared.side.Side.TheVariants.{Nb, Ue}
use Rattle.law_bearer.specs.AnyBearer.Calls.{Arrive, after_all}
use Rattle.law_node.specs.Calls.{Turn, Visits, Receive, after as after_call, answered}
use Rattle.law_node.specs.Holding.{flow}
use Rattle.law_deliver.specs.AmFlow.Air.{HasCome as AirCome}
use Rattle.law_deliver.specs.AmFlow.Channels.{calls_of, takes_of, written_by}
use Rattle.law_deliver.proofs.AmFlow.Channels.{calls_reach_bearers, blocks_carry_pdus}
use Rattle.promises.specs.Pdus.{carried}
use Rattle.law_run.specs.AnyCalls.Deeds.{Entities, entities}
use Rattle.law_run.specs.AnyCalls.Ends.{ByCalls, GoesOn}
use Rattle.law_run.specs.AnyCalls.Zero.{HasCome, HaveCome}
use Rattle.law_run.specs.DrainTtis.{HaveEight, IsClear, Step, IsGranted, goes, ttis, Brings, grown, taken_by}
use Rattle.law_run.specs.DrainTtis.{TakesAndHears}
use Rattle.law_run.specs.DrainTtis.{BothTakeAndHear, HaveChannel}
use Rattle.law_run.proofs.AnyCalls.Blocks.{reached_whole}
use Rattle.law_run.proofs.AnyCalls.Bringing.{come_on}
use Rattle.law_run.proofs.AnyCalls.Going.{loops_rests, grown_rests}
use Rattle.law_run.proofs.AnyCalls.Sending.{downlink_turn}
use Rattle.law_run.proofs.AnyCalls.Visiting.{downlink_goes}
use Rattle.law_run.proofs.DrainTtis.Bringing.{built_new, loaded_bearers, brings_down, brings_up, clear_as, eight_as}
use Rattle.law_run.proofs.DrainTtis.Clearing.{next_clear, went}
use Rattle.law_run.proofs.DrainTtis.Processes.{new_free, new_granted}
use Rattle.law_run.proofs.TwoEnds.Lives.{stays_there}

-- ---- ends that have come so far

air_come : (side : Side) (e : End) → HasCome side e → AirCome side e
air_come side e h = record {
  maximum = h.maximum;
  reports = h.reports;
  past = h.calls;
  given = h.given;
  end_is = h.end_is;
}

there_on : (side : Side) (l : ℕ) (told : List Record) (e f : End) → ByCalls side told e f → HasCome side e
    → has l e.bearers ≡ true → has l f.bearers ≡ true
there_on side l told e f k h there =
    ap (λ (x : End). has l x.bearers) k.end_is ∙ stays_there side l k.calls e (air_come side e h) k.given there

pub record Ready (l : ℕ) (k : Link) : Type 0 where
  pub come : HaveCome k
  pub channel : HaveChannel l k

pub come_both : (blocks : List Record) (k m : Link) → GoesOn blocks k m → HaveCome k → HaveCome m
come_both blocks k m g h = record {
  nb = come_on Nb g.more k.nb m.nb g.nb.by h.nb;
  ue = come_on Ue g.more k.ue m.ue g.ue.by h.ue;
}

pub ready_on : (l : ℕ) (blocks : List Record) (k m : Link) → GoesOn blocks k m → Ready l k → Ready l m
ready_on l blocks k m g r = record {
  come = come_both blocks k m g r.come;
  channel = (
    there_on Nb l g.more k.nb m.nb g.nb.by r.come.nb r.channel.0,
    there_on Ue l g.more k.ue m.ue g.ue.by r.come.ue r.channel.1,
  );
}

-- ---- one channel at one end

pub flow_by : (l : ℕ) (e f : End) → e.bearers ≡ f.bearers → flow l e ≡ flow l f
flow_by l e f q = ap (λ (bearers : List (Of Life)). (bearer_at bearers (find l bearers)).state.flow) q

takes : (side : Side) (l t grant : ℕ) (order : Order) (e left : End) → HasCome side e → has l e.bearers ≡ true
    → grant ≤ 9422 → IsEnough order grant → visit t order e ≡ New
    → left.bearers ≡ (written (visited t order e) grant).bearers
    → flow l left ≡ after_all (flow l e) (taken_by (visited t order e) grant l)
takes side l t grant order e left h there most enough new is =
    let x : Turn = record { tti = t; grant = grant; order = order; good = true } in
    let c = Visits x in
    let at = subst (λ (y : End). has l y.bearers ≡ true) h.end_is there in
    let reach : flow l (after_call e c) ≡ after_all (flow l e) (calls_of l e c) =
    subst (λ (y : End). flow l (after_call y c) ≡ after_all (flow l y) (calls_of l y c)) (sym h.end_is)
    (calls_reach_bearers side h.maximum h.reports h.calls c l h.given (most, enough)
    (record { adds_none = refl; moves_none = refl }) at) in
    flow_by l left (built t grant order e)
    (is ∙ sym (ap (λ (y : End). y.bearers) (built_new t grant order e new)
    ∙ loaded_bearers t grant (visited t order e)))
    ∙ (ap (λ (v : Visit). flow l (answered v x (built t grant order e))) (sym new)
    ∙ (reach ∙ ap (λ (v : Visit). after_all (flow l e) (takes_of v x (visited t order e) l)) new))

hears : (side : Side) (l : ℕ) (e left : End) (block : List ℕ) (pdus : List (List ℕ)) → HasCome side e
    → has l e.bearers ≡ true → left.bearers ≡ (received e block).bearers → carried l (heard_by e.side) block ≡ pdus
    → flow l left ≡ after_all (flow l e) (map (λ pdu. Arrive pdu) pdus)
hears side l e left block pdus h there is brought =
    let at = subst (λ (y : End). has l y.bearers ≡ true) h.end_is there in
    let reach : flow l (after_call e (Receive block)) ≡ after_all (flow l e) (calls_of l e (Receive block)) =
    subst (λ (y : End). flow l (after_call y (Receive block)) ≡ after_all (flow l y) (calls_of l y (Receive block)))
    (sym h.end_is)
    (calls_reach_bearers side h.maximum h.reports h.calls (Receive block) l h.given tt
    (record { adds_none = refl; moves_none = refl }) at) in
    flow_by l left (after_call e (Receive block)) is
    ∙ (reach ∙ ap (λ (ps : List (List ℕ)). after_all (flow l e) (map (λ pdu. Arrive pdu) ps)) brought)

carries : (side : Side) (l t grant : ℕ) (order : Order) (e : End) → HasCome side e → has l e.bearers ≡ true
    → 1 ≤ grant → grant ≤ 9422
    → carried l (sent_by side) (new_block (visited t order e) grant) ≡ written_by (visited t order e) grant l
carries side l t grant order e h there some most =
    subst (λ (y : End). carried l (sent_by side) (new_block (visited t order y) grant)
    ≡ written_by (visited t order y) grant l) (sym h.end_is)
    (blocks_carry_pdus side h.maximum h.reports h.calls h.given t order grant l some most
    (subst (λ (y : End). has l y.bearers ≡ true) h.end_is there))

side_is : (side : Side) (e : End) → HasCome side e → e.side ≡ side
side_is side e h =
    ap (λ (y : End). y.side) h.end_is ∙ (reached_whole side h.maximum h.reports h.calls).side_is

both : (near far : Side) (l t grant : ℕ) (order : Order) (from to from' to' : End) → heard_by far ≡ sent_by near
    → HasCome near from → HasCome far to → has l from.bearers ≡ true → has l to.bearers ≡ true → 1 ≤ grant
    → grant ≤ 9422 → IsEnough order grant → visit t order from ≡ New → Brings t grant order from to from' to'
    → TakesAndHears l t grant order from to from' to'
both near far l t grant order from to from' to' same h k there here some most enough new b = record {
  takes = takes near l t grant order from from' h there most enough new b.built_is;
  hears =
      hears far l to to' (new_block (visited t order from) grant) (written_by (visited t order from) grant l) k here
      b.heard_is
      (ap (λ (s : Side). carried l (heard_by s) (new_block (visited t order from) grant)) (side_is far to k)
      ∙ (ap (λ d. carried l d (new_block (visited t order from) grant)) same
      ∙ carries near l t grant order from h there some most));
}

-- ---- the whole

-- behind the downlink of the TTI
abbrev pub after_down : ℕ → Link → Link
after_down grant m = downlink m.ttis grant intact (grown m)

-- the NDI of its uplink grant
abbrev pub up_ndi : ℕ → Link → Bool
up_ndi grant m = grant_ndi (loops (after_down grant m)).nb.receiver m.ttis

pub record BothHear (l grant : ℕ) (m : Link) : Type 0 where
  pub goes_down : TakesAndHears l m.ttis grant Free (grown m).nb (grown m).ue (after_down grant m).nb
      (after_down grant m).ue
  pub goes_up : TakesAndHears l m.ttis grant (Grant (up_ndi grant m)) (loops (after_down grant m)).ue
      (loops (after_down grant m)).nb (drain_tti grant m).ue (drain_tti grant m).nb

-- where the processes of the TTI are clear
pub hear_when_clear : (grant : ℕ) (m : Link) (l : ℕ) → HaveEight (entities m) → IsClear m.ttis (entities m)
    → 1 ≤ grant → grant ≤ 9422 → HaveCome m → HaveChannel l m → BothHear l grant m
unfolding drain_tti
hear_when_clear grant m l eight cleared some most come channel =
    let t = m.ttis in
    let j = grown m in
    let same : entities j ≡ entities m = (grown_rests m).entities_are in
    let clear = clear_as t (entities j) (entities m) same cleared in
    let whole = eight_as (entities j) (entities m) same eight in
    let d = downlink t grant intact j in
    let i = loops d in
    let sender : i.ue.sender ≡ j.ue.sender =
    ap (λ (e : Entities). e.ue.sender) (loops_rests d).entities_are ∙ (downlink_turn t grant intact j).ue_rests in
    let empty : held_of i.ue.sender (t % 8) ≡ _ = ap (λ (s : Sending). held_of s (t % 8)) sender ∙ clear.up in
    let ndi = grant_ndi i.nb.receiver t in
    let at_j = ready_on l _ m j (grown_rests m).goes (record { come = come; channel = channel }) in
    let at_d = ready_on l _ j d (downlink_goes t grant intact j most) at_j in
    let at_i = ready_on l _ d i (loops_rests d).goes at_d in
    record {
      goes_down =
          both Nb Ue l t grant Free j.nb j.ue d.nb d.ue refl at_j.come.nb at_j.come.ue at_j.channel.0 at_j.channel.1
          some most some (new_free j.nb.sender t clear.down)
          (brings_down t grant j some whole.nb_sends clear.down clear.decoded);
      goes_up =
          both Ue Nb l t grant (Grant ndi) i.ue i.nb (drain_tti grant m).ue (drain_tti grant m).nb refl at_i.come.ue
          at_i.come.nb at_i.channel.1 at_i.channel.0 some most some (new_granted i.ue.sender t ndi empty)
          (brings_up t grant i some (ap (λ (s : Sending). length s.processes) sender ∙ whole.ue_sends) empty);
    }

pub both_hear : (steps : List Step) (grant : ℕ) (k : Link) (l : ℕ) → HaveEight (entities k)
    → AllByRecursion IsGranted steps → 8 ≤ ttis steps → 1 ≤ grant → grant ≤ 9422 → HaveCome (goes steps k)
    → HaveChannel l (goes steps k) → BothHear l grant (goes steps k)
both_hear steps grant k l eight granted many some most come channel =
    hear_when_clear grant (goes steps k) l (went steps k eight granted).eight
    (next_clear steps k eight granted many) some most come channel

pub bearers_hear : (steps : List Step) (grant : ℕ) (k : Link) (l : ℕ) → HaveEight (entities k)
    → AllByRecursion IsGranted steps → 8 ≤ ttis steps → 1 ≤ grant → grant ≤ 9422 → HaveCome (goes steps k)
    → HaveChannel l (goes steps k)
    → BothTakeAndHear l (goes steps k).ttis grant (grown (goes steps k)) (drain_tti grant (goes steps k))
bearers_hear steps grant k l eight granted many some most come channel =
    let m = goes steps k in
    let h = both_hear steps grant k l eight granted many some most come channel in
    record { down = after_down grant m; ndi = up_ndi grant m; goes_down = h.goes_down; goes_up = h.goes_up }
