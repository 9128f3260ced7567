-- The poll timer of a quiet bearer runs, whatever a link has played: both ends of an acknowledged channel are a flow in
-- each direction, and each bearer settles in its calls.
use Rattle.std.proofs.Common.{◌≡◌, ℕ, false, Some, List, [], refl, ap, sym, subst, ◌∙◌}
use Rattle.air_link.specs.Link.{Link}
use Rattle.air_text.specs.Groups.{Group}
use Rattle.bearer.specs.Acknowledged.Lives.{stopped as am_stopped, restarted as am_restarted}
use Rattle.bearer.specs.Acknowledged.State.{State, fresh as fresh_am}
use Rattle.bearer.specs.Bearer.{flow_of}
use Rattle.bearer.specs.Hearing.{arrived, expired, ticked, with_discard}
use Rattle.bearer.specs.Lives.{stopped, restarted}
use Rattle.bearer.specs.Submitting.{submitted}
use Rattle.bearer.specs.Taking.{after as taken}
use Rattle.bearer.specs.declared.flow.Flow.{Flow}
use Rattle.bearer.specs.declared.flow.Flow.TheVariants.{Tm, Um, Am}
use Rattle.bearer_types.specs.declared.BearerConfig.{BearerConfig}
use Rattle.eps_sec.specs.declared.Keys.{Keys}
use Rattle.l2_node.specs.End.{End}
use Rattle.l2_node.specs.Finding.{find}
use Rattle.l2_types.specs.declared.channel.Kind.{Kind}
use Rattle.l2_types.specs.declared.channel.Kind.TheVariants as kinds
use Rattle.l2_types.specs.declared.side.Side.{Side}
use Rattle.l2_types.specs.declared.side.Side.TheVariants.{Nb, Ue}
use Rattle.pdcp_pdu.specs.declared.PdcpKind.TheVariants.{Srb as SrbKind, Am as AmKind}
use Rattle.law_rlc.specs.AmSender.Watched.{IsWatched}
use Rattle.law_rlc.proofs.AmPair.Laws.{poll-timer-runs}
use Rattle.law_bearer.specs.AnyBearer.Calls.{Call, Submit, Take, Arrive, Expire, Tick, SetDiscard, after}
use Rattle.law_node.specs.Holding.{flow}
use Rattle.law_node.proofs.Keeping.{IsKept, AllAre, at_is, reached_are}
use Rattle.law_drain.specs.Falling.{AwaitsPoll}
use Rattle.law_drain.specs.Bearer.{bearer_quiet}
use Rattle.law_drain.specs.Settled.{HasSettled}
use Rattle.law_drain.proofs.Settled.{bearers_settle, lives_begin_settled, quiet_awaits_poll}
use Rattle.law_deliver.specs.AmChannel.Lives.{lives}
use Rattle.law_deliver.specs.AmFlow.Air.{Air, goes, outset}
use Rattle.law_deliver.specs.AmFlow.Flows.{BeginsLife}
use Rattle.law_deliver.specs.AmFlow.Links.{IsFlowOn}
use Rattle.law_deliver.proofs.AmFlow.Links.{channels_are_flows}
use Rattle.law_run.specs.AnyCalls.Runs.{Step, step}
use Rattle.law_run.specs.AnyCalls.Zero.{HasCome}
use Rattle.law_run.specs.TwoEnds.Going.{IsStepSince}
use Rattle.law_run.specs.TwoEnds.Lived.{IsAcknowledged}
use Rattle.law_run.specs.TwoEnds.On.{IsOn}
use Rattle.law_run.proofs.TwoEnds.Advancing.{steps_go}
use Rattle.law_run.proofs.TwoEnds.Coming.{same_on}
use Rattle.law_run.proofs.TwoEnds.Keeping.{Keeps, Runs, steps_keep, steps_run}
use Rattle.promises.specs.Configs.{config_of}
use Rattle.promises.specs.Delivery.{is_forged}
use Rattle.law_run.specs.Order.{KeepsOrder}
use Rattle.law_run.proofs.Delivering.{is_delivering}
use Rattle.law_run.proofs.DrainFlows.{Standing, StandsWell, stands_kept}
use Rattle.law_run.proofs.Past.{link_behind}

-- ---- a channel of a link, in the running life of its bearers

pub record RunsAt (l : ℕ) (k : Link) : Type 0 where
  pub air : Air
  pub runs : Runs l air
  pub nb : Keeps l Nb air.nb.end
  pub ue : Keeps l Ue air.ue.end
  pub on : IsOn k air

record BegunAs (kind : Kind) (c : BearerConfig) (keys : Keys) (side : Side) : Type 0 where
  bearer : State
  is : flow_of kind c keys side ≡ Am bearer
  life : BeginsLife bearer

begun_as : (kind : Kind) (c : BearerConfig) (keys : Keys) (side : Side) → IsAcknowledged kind
    → BegunAs kind c keys side
unfolding fresh_am
begun_as kinds.Tm c keys side a = absurd a
begun_as kinds.Srb c keys side a =
    record { bearer = fresh_am c SrbKind keys side; is = refl; life = record { sends = refl; hears = refl } }
begun_as kinds.Um c keys side a = absurd a
begun_as kinds.Am c keys side a =
    record {
      bearer = fresh_am c (AmKind c.pdcp_bits) keys side;
      is = refl;
      life = record { sends = refl; hears = refl };
    }

-- from the line on in which its bearers come
pub links_run : (l : ℕ) (past : List Group) (c : BearerConfig) → KeepsOrder past → config_of l past ≡ Some c
    → is_forged past ≡ false → IsAcknowledged c.kind → RunsAt l (link_behind past)
links_run l past c order e own a =
    let d = is_delivering l past c order e own in
    let nb = begun_as c.kind c d.keys Nb a in
    let ue = begun_as c.kind c d.keys Ue a in
    let by = d.lived.by in
    let start = outset d.nb d.ue in
    let nb_is = d.nb_begun.bearer_is ∙ nb.is in
    let ue_is = d.ue_begun.bearer_is ∙ ue.is in
    let nb_keeps : Keeps l Nb d.nb = record {
      come = d.nb_begun.come;
      bearer = record { there = d.nb_begun.there; bearer = nb.bearer; bearer_is = nb_is };
    } in
    let ue_keeps : Keeps l Ue d.ue = record {
      come = d.ue_begun.come;
      bearer = record { there = d.ue_begun.there; bearer = ue.bearer; bearer_is = ue_is };
    } in
    let first : Runs l start = record {
      nb = d.nb;
      nb_bearer = nb.bearer;
      nb_begins =
          record { come = d.nb_begun.come; there = d.nb_begun.there; bearer_is = nb_is; life = nb.life };
      ue = d.ue;
      ue_bearer = ue.bearer;
      ue_begins =
          record { come = d.ue_begun.come; there = d.ue_begun.there; bearer_is = ue_is; life = ue.life };
      steps = [];
      given = tt;
      air_is = refl;
    } in
    record {
      air = lives by.steps start;
      runs = steps_run l by.steps start by.living nb_keeps ue_keeps first;
      nb = steps_keep l Nb start by.steps by.living nb_keeps;
      ue = steps_keep l Ue start by.steps by.living ue_keeps;
      on = by.on;
    }

-- and through each further step
pub runs_on : (l : ℕ) (s : Step) (k : Link) → IsStepSince l s → RunsAt l k → RunsAt l (step s k)
runs_on l s k g r =
    let by = (steps_go l s k r.air g r.on).by in
    record {
      air = lives by.steps r.air;
      runs = steps_run l by.steps r.air by.living r.nb r.ue r.runs;
      nb = steps_keep l Nb r.air by.steps by.living r.nb;
      ue = steps_keep l Ue r.air by.steps by.living r.ue;
      on = by.on;
    }

pub runs_as : (l : ℕ) (k : Link) → RunsAt l k → RunsAt l (record k { out = [] })
runs_as l k r = record {
  air = r.air;
  runs = r.runs;
  nb = r.nb;
  ue = r.ue;
  on = same_on k (record k { out = [] }) r.air refl refl refl r.on;
}

-- ---- so each sender is one of a flow

same_bearer : (f : Flow) (x y : State) → f ≡ Am x → f ≡ Am y → x ≡ y
same_bearer f x y p q = let same : Am x ≡ Am y = sym p ∙ q in cc

from_watched : (l : ℕ) (a : _) (b : _) (from to : End) (x : State) → IsFlowOn l a b from to → flow l from ≡ Am x
    → IsWatched x.tx
from_watched l a b from to x h is =
    subst IsWatched (h.sender_is ∙ ap (λ (s : State). s.tx) (same_bearer (flow l from) h.from_bearer x h.from_is is))
    (poll-timer-runs a b h.steps h.given)

pub nb_watched : (l : ℕ) (k : Link) (b : State) → RunsAt l k → flow l k.nb ≡ Am b → IsWatched b.tx
nb_watched l k b h is =
    let r = h.runs in
    let f = channels_are_flows l r.nb r.ue r.nb_bearer r.ue_bearer r.steps r.nb_begins r.ue_begins r.given in
    let air = goes r.steps (outset r.nb r.ue) in
    from_watched l r.nb_bearer.tx_config r.ue_bearer.rx_config air.nb.end air.ue.end b f.down
    (ap (λ (a : Air). flow l a.nb.end) r.air_is ∙ ap (flow l) h.on.nb_is ∙ is)

pub ue_watched : (l : ℕ) (k : Link) (b : State) → RunsAt l k → flow l k.ue ≡ Am b → IsWatched b.tx
ue_watched l k b h is =
    let r = h.runs in
    let f = channels_are_flows l r.nb r.ue r.nb_bearer r.ue_bearer r.steps r.nb_begins r.ue_begins r.given in
    let air = goes r.steps (outset r.nb r.ue) in
    from_watched l r.ue_bearer.tx_config r.nb_bearer.rx_config air.ue.end air.nb.end b f.up
    (ap (λ (a : Air). flow l a.ue.end) r.air_is ∙ ap (flow l) h.on.ue_is ∙ is)

-- ---- each bearer settles

call_settles : (f : Flow) (c : Call) → Standing f → HasSettled f → HasSettled (after f c)
unfolding submitted taken arrived expired ticked with_discard
call_settles (Tm b) (Submit sdu) s h = tt
call_settles (Tm b) (Take share held) s h = tt
call_settles (Tm b) (Arrive pdu) s h = tt
call_settles (Tm b) (Expire clock) s h = tt
call_settles (Tm b) Tick s h = tt
call_settles (Tm b) (SetDiscard ttis) s h = tt
call_settles (Um b) (Submit sdu) s h = tt
call_settles (Um b) (Take share held) s h = tt
call_settles (Um b) (Arrive pdu) s h = tt
call_settles (Um b) (Expire clock) s h = tt
call_settles (Um b) Tick s h = tt
call_settles (Um b) (SetDiscard ttis) s h = tt
call_settles (Am b) c s h = bearers_settle b c s h

first_settled : (kind : Kind) (c : BearerConfig) (keys : Keys) (side : Side) → HasSettled (flow_of kind c keys side)
unfolding fresh_am
first_settled kinds.Tm c keys side = tt
first_settled kinds.Srb c keys side = lives_begin_settled (fresh_am c SrbKind keys side) refl
first_settled kinds.Um c keys side = tt
first_settled kinds.Am c keys side = lives_begin_settled (fresh_am c (AmKind c.pdcp_bits) keys side) refl

settles_again : (f : Flow) (keys : Keys) → HasSettled (restarted (stopped f) keys)
unfolding restarted stopped am_restarted
settles_again (Tm b) keys = tt
settles_again (Um b) keys = tt
settles_again (Am b) keys = lives_begin_settled (am_restarted (am_stopped b) keys) refl

abbrev SettlesWell : ℕ → Flow → Type 0
SettlesWell lcid f = StandsWell lcid f × HasSettled f

settled_kept : IsKept SettlesWell
settled_kept = record {
  idle = (stands_kept.idle, tt);
  begins = λ c keys side g. (stands_kept.begins c keys side g, first_settled c.kind c keys side);
  submits = λ lcid f octets e p.
      (stands_kept.submits lcid f octets e p.0, call_settles f (Submit octets) p.0.1 p.1);
  discards = λ lcid f ttis p. (stands_kept.discards lcid f ttis p.0, call_settles f (SetDiscard ttis) p.0.1 p.1);
  takes = λ lcid f share held most p.
      (stands_kept.takes lcid f share held most p.0, call_settles f (Take share held) p.0.1 p.1);
  arrives = λ lcid f pdu p. (stands_kept.arrives lcid f pdu p.0, call_settles f (Arrive pdu) p.0.1 p.1);
  expires = λ lcid f clock p. (stands_kept.expires lcid f clock p.0, call_settles f (Expire clock) p.0.1 p.1);
  ticks = λ lcid f p. (stands_kept.ticks lcid f p.0, call_settles f Tick p.0.1 p.1);
  moves = λ lcid f keys p. (stands_kept.moves lcid f keys p.0, settles_again f keys);
}

pub come_settled : (side : Side) (e : End) (l : ℕ) → HasCome side e → HasSettled (flow l e)
come_settled side e l h =
    let at = find l e.bearers in
    let all = subst (λ (x : End). AllAre SettlesWell x.bearers) (sym h.end_is)
    (reached_are SettlesWell settled_kept side h.maximum h.reports h.calls h.given) in
    (at_is SettlesWell e.bearers at settled_kept all).1

-- ---- so a quiet bearer waits for its poll timer

pub quiet_awaits : (side : Side) (e : End) (l : ℕ) (b : State) → HasCome side e → flow l e ≡ Am b → IsWatched b.tx
    → bearer_quiet b ≡ 1 → AwaitsPoll (flow l e)
quiet_awaits side e l b h is w quiet =
    subst AwaitsPoll (sym is)
    ((quiet, quiet_awaits_poll b w (subst HasSettled is (come_settled side e l h)) quiet))
