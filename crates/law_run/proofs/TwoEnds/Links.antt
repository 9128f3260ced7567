-- A link from its beginning on: its acknowledged bearers are flows.
use Rattle.std.proofs.Common.{◌≡◌, ℕ, false, List, [], ◌∷◌, ◌++◌, map, refl, ap, sym, subst, ◌∙◌}
use Rattle.air_link.specs.Lines.{bears}
use Rattle.air_link.specs.Link.{Link, fresh}
use Rattle.bearer.specs.declared.flow.Flow.TheVariants.{Am}
use Rattle.bearer.specs.Acknowledged.State.{State}
use Rattle.bearer_types.specs.Configs.{IsConfig}
use Rattle.bearer_types.specs.declared.config.BearerConfig.{BearerConfig}
use Rattle.eps_sec.specs.declared.Keys.{Keys}
use Rattle.l2_node.specs.End.{End}
use Rattle.l2_types.specs.declared.AmRxConfig.{AmRxConfig}
use Rattle.l2_types.specs.declared.config.AmTxConfig.{AmTxConfig}
use Rattle.l2_types.specs.declared.side.Side.{Side}
use Rattle.l2_types.specs.declared.side.Side.TheVariants.{Nb, Ue}
use Rattle.law_node.specs.Calls.{Add, after as after_call}
use Rattle.law_node.specs.Holding.{flow}
use Rattle.law_run.specs.AnyCalls.Calls.{Call, Bears, after}
use Rattle.law_run.specs.AnyCalls.Runs.{Step, Calls, Run, emptied, goes as run_goes, goes_on as run_on}
use Rattle.law_deliver.specs.AmFlow.Air.{Air, goes, outset, HasCome, Begins}
use Rattle.law_deliver.specs.AmFlow.Links.{IsFlowOn, AreOrdered}
use Rattle.law_deliver.proofs.AmFlow.Links.{channels_are_flows, numbers_are_ordered}
use Rattle.law_deliver.proofs.AmFlow.Lives.{adds_begin}
use Rattle.law_deliver.proofs.AmFlow.Stations.{come_more}
use Rattle.law_deliver.specs.AmChannel.Lives.{lives}
use Rattle.law_run.specs.TwoEnds.Links.{AreCallsBefore, link_since, IsRun, AreFlows}
use Rattle.law_run.specs.TwoEnds.Coming.{none_yet}
use Rattle.law_run.specs.TwoEnds.Lived.{HasBearer}
use Rattle.law_run.specs.TwoEnds.Lives.{IsAtRest}
use Rattle.law_run.specs.TwoEnds.On.{IsOn}
use Rattle.law_run.proofs.TwoEnds.Keeping.{Keeps, Runs, steps_run}
use Rattle.law_run.proofs.TwoEnds.Coming.{same_on}
use Rattle.law_run.proofs.TwoEnds.Lived.{added_bearer, bearers_live, ends_live, runs_live}
use Rattle.law_run.proofs.TwoEnds.Lives.{first_rests, calls_rest}

run_more : (xs ys : List Step) (r : Run) → run_on (xs ++ ys) r ≡ run_on ys (run_on xs r)
run_more [] ys r = refl
run_more (x ∷ xs) ys r = run_more xs ys (run_goes x r)

record RestsYet (r : Run) : Type 0 where
  rest : IsAtRest r.link
  none_yet : r.link.out ≡ []

before_rests : (cs : List Call) (r : Run) → AreCallsBefore cs → RestsYet r → RestsYet (run_on (map Calls cs) r)
before_rests [] r g h = h
before_rests (c ∷ cs) r g h =
    let m = after c r.link in
    before_rests cs (run_goes (Calls c) r) g.1
    (record {
      rest =
          same_on m (emptied m) (outset m.nb m.ue) refl refl refl (calls_rest c r.link g.0.0 g.0.1 h.rest);
      none_yet = refl;
    })

abbrev at_first : Run
at_first = record { link = fresh; journal = []; given = λ side k. 0 }

first_yet : RestsYet at_first
unfolding fresh
first_yet = record { rest = first_rests; none_yet = refl }

-- ---- the life that runs

record RunsOn (l : ℕ) (k : Link) : Type 0 where
  air : Air
  runs : Runs l air
  on : IsOn k air

add_begins : (side : Side) (e : End) (config : BearerConfig) (keys : Keys) → HasCome side e → IsConfig config
    → (h : HasBearer config.channel.lcid (after_call e (Add config keys)))
    → Begins side config.channel.lcid (after_call e (Add config keys)) h.bearer
add_begins side e config keys x g h =
    subst (λ (y : End). Begins side config.channel.lcid (after_call y (Add config keys)) h.bearer) (sym x.end_is)
    (adds_begin side x.maximum x.reports x.past config keys h.bearer x.given g
    (ap (λ (y : End). flow config.channel.lcid (after_call y (Add config keys))) (sym x.end_is) ∙ h.bearer_is))

first_runs : (config : BearerConfig) (keys : Keys) (k : Link) → IsConfig config → IsAtRest k
    → HasBearer config.channel.lcid (after_call k.nb (Add config keys))
    → HasBearer config.channel.lcid (after_call k.ue (Add config keys))
    → Runs config.channel.lcid (outset (after_call k.nb (Add config keys)) (after_call k.ue (Add config keys)))
first_runs config keys k g h nb ue = record {
  nb = after_call k.nb (Add config keys);
  nb_bearer = nb.bearer;
  nb_begins = add_begins Nb k.nb config keys h.nb.come g nb;
  ue = after_call k.ue (Add config keys);
  ue_bearer = ue.bearer;
  ue_begins = add_begins Ue k.ue config keys h.ue.come g ue;
  steps = [];
  given = tt;
  air_is = refl;
}

run_since : (before : List Call) (config : BearerConfig) (keys : Keys) (ss : List Step) → IsRun before config ss
    → RunsOn config.channel.lcid (link_since before config keys ss)
run_since before config keys ss g =
    let l = config.channel.lcid in
    let r = run_on (map Calls before) at_first in
    let yet = before_rests before at_first g.0 first_yet in
    let k = r.link in
    let nb = after_call k.nb (Add config keys) in
    let ue = after_call k.ue (Add config keys) in
    let nb_has = added_bearer k.nb config keys g.2 in
    let ue_has = added_bearer k.ue config keys g.2 in
    let first = first_runs config keys k g.1 yet.rest nb_has ue_has in
    let nb_keeps : Keeps l Nb nb =
    record { come = come_more Nb k.nb (Add config keys) yet.rest.nb.come g.1; bearer = nb_has } in
    let ue_keeps : Keeps l Ue ue =
    record { come = come_more Ue k.ue (Add config keys) yet.rest.ue.come g.1; bearer = ue_has } in
    let came = bearers_live config keys k g.1 g.2 yet.rest in
    let x = runs_live l nb ue [] none_yet (λ bits from. []) false ss (run_goes (Calls (Bears config keys)) r) g.3 refl
    (ends_live l nb ue [] none_yet (λ bits from. []) false (bears config keys k) (emptied (bears config keys k))
    refl refl refl came.lived) in
    let h = x.lived.by in
    let same = run_more (map Calls before) (Calls (Bears config keys) ∷ ss) at_first in
    record {
      air = lives h.steps (outset nb ue);
      runs = steps_run l h.steps (outset nb ue) h.living nb_keeps ue_keeps first;
      on = subst (λ (q : Run). IsOn q.link (lives h.steps (outset nb ue))) (sym same) h.on;
    }

-- ---- so they are flows

flows_at : (l : ℕ) (sending : AmTxConfig) (receiving : AmRxConfig) (from to e f : End) → from ≡ e → to ≡ f
    → IsFlowOn l sending receiving from to → IsFlowOn l sending receiving e f
flows_at l sending receiving from to e f p q h =
    subst (λ (x : End). IsFlowOn l sending receiving x f) p (subst (IsFlowOn l sending receiving from) q h)

pub links_flow : (before : List Call) (config : BearerConfig) (keys : Keys) (ss : List Step) → IsRun before config ss
    → AreFlows config.channel.lcid (link_since before config keys ss)
links_flow before config keys ss g =
    let l = config.channel.lcid in
    let x = run_since before config keys ss g in
    let r = x.runs in
    let f = channels_are_flows l r.nb r.ue r.nb_bearer r.ue_bearer r.steps r.nb_begins r.ue_begins r.given in
    let k = link_since before config keys ss in
    let a = goes r.steps (outset r.nb r.ue) in
    let nb_is : a.nb.end ≡ k.nb = ap (λ (b : Air). b.nb.end) r.air_is ∙ x.on.nb_is in
    let ue_is : a.ue.end ≡ k.ue = ap (λ (b : Air). b.ue.end) r.air_is ∙ x.on.ue_is in
    record {
      nb_bearer = r.nb_bearer;
      ue_bearer = r.ue_bearer;
      down = flows_at l r.nb_bearer.tx_config r.ue_bearer.rx_config a.nb.end a.ue.end k.nb k.ue nb_is ue_is f.down;
      up = flows_at l r.ue_bearer.tx_config r.nb_bearer.rx_config a.ue.end a.nb.end k.ue k.nb ue_is nb_is f.up;
    }

pub links_are_ordered : (before : List Call) (config : BearerConfig) (keys : Keys) (ss : List Step)
    → IsRun before config ss
    → (nb ue : State) → flow config.channel.lcid (link_since before config keys ss).nb ≡ Am nb
    → flow config.channel.lcid (link_since before config keys ss).ue ≡ Am ue
    → AreOrdered nb.tx ue.rx × AreOrdered ue.tx nb.rx
links_are_ordered before config keys ss g nb ue nb_is ue_is =
    let l = config.channel.lcid in
    let x = run_since before config keys ss g in
    let r = x.runs in
    numbers_are_ordered l r.nb r.ue r.nb_bearer r.ue_bearer r.steps r.nb_begins r.ue_begins r.given nb ue
    (ap (λ (b : Air). flow l b.nb.end) r.air_is ∙ ap (flow l) x.on.nb_is ∙ nb_is)
    (ap (λ (b : Air). flow l b.ue.end) r.air_is ∙ ap (flow l) x.on.ue_is ∙ ue_is)
