-- Acknowledged bearers stand so at any end, and a round of a drain costs their flows.
use Rattle.std.proofs.Common.{◌≡◌, ◌≤◌, ℕ, Bool, true, false, List, [], ◌∷◌, ◌++◌, refl}
use Rattle.std.proofs.Common.{ap}
use Rattle.std.proofs.Common.{sym, subst, ◌∙◌, arith}
use Rattle.std.specs.List.{AllByRecursion}
use Rattle.air_link.specs.Link.{Link}
use Rattle.bearer.specs.Acknowledged.State.{State}
use Rattle.bearer.specs.Bearer.{flow_of}
use Rattle.bearer.specs.Hearing.{arrived, expired, ticked, with_discard}
use Rattle.bearer.specs.Lives.{stopped, restarted}
use Rattle.bearer.specs.Submitting.{submitted}
use Rattle.bearer.specs.Taking.{after as taken}
use Rattle.bearer.specs.declared.flow.Flow.{Flow}
use Rattle.bearer.specs.declared.flow.Flow.TheVariants.{Tm, Um, Am}
use Rattle.bearer_types.specs.declared.config.BearerConfig.{BearerConfig}
use Rattle.eps_sec.specs.declared.Keys.{Keys}
use Rattle.l2_node.specs.End.{End}
use Rattle.l2_node.specs.Finding.{find, bearer_at}
use Rattle.l2_types.specs.declared.channel.Kind.{Kind}
use Rattle.l2_types.specs.declared.channel.Kind.TheVariants as kinds
use Rattle.l2_types.specs.declared.side.Side.{Side}
use Rattle.l2_types.specs.declared.side.Side.TheVariants.{Nb, Ue}
use Rattle.law_bearer.specs.AnyBearer.Calls.{Call, Submit, Take, Arrive, Expire, Tick, SetDiscard, after, after_all}
use Rattle.law_bearer.specs.AnyBearer.Rounds.{IsRound, writes_in, arrivals}
use Rattle.law_node.specs.Holding.{flow}
use Rattle.law_node.proofs.Keeping.{IsKept, AllAre, at_is, reached_are}
use Rattle.law_node.proofs.Ready.{WritesWell, ready_kept}
use Rattle.law_deliver.proofs.AmFlow.Octets.{some_of}
use Rattle.law_drain.specs.Ends.{Stands, OffersOctets, CostsBoth}
use Rattle.law_drain.specs.Round.{behind}
use Rattle.law_drain.proofs.Ends.{stands-on, arrivals-other, rounds_cost_both}
use Rattle.law_drain.proofs.Octets.{GiveOctets, others-give, share-gives}
use Rattle.law_drain.proofs.Standing.{data-stands, signalling-stands, stands-anew}
use Rattle.law_run.specs.AnyCalls.Zero.{HasCome}
use Rattle.law_run.specs.DrainTtis.{Step, Tti, ReceiversExpire, SendersExpire, happens, goes, ttis, HaveChannel}
use Rattle.law_run.specs.DrainRounds.{IsOfDrain, MayDrain, round_of}
use Rattle.law_run.proofs.DrainRounds.Calling.{rounds_are_calls}
use Rattle.law_run.proofs.DrainRounds.Staying.{drains_stay}
use Rattle.law_run.specs.DrainFlows.{HasFlows, CostsFlows, rounds_of, NoneRises}

-- ---- what each bearer of an end keeps

abbrev pub Standing : Flow → Type 0
Standing (Tm b) = Unit {0}
Standing (Um b) = Unit {0}
Standing (Am b) = Stands b

pub offers : (lcid : ℕ) (b : State) → WritesWell lcid (Am b) → OffersOctets b
offers lcid b w = λ share held. some_of b share held lcid w

call_gives : (lcid : ℕ) (b : State) (c : Call) → WritesWell lcid (Am b) → GiveOctets (c ∷ []) b
call_gives lcid b (Submit sdu) w = others-give (Submit sdu ∷ []) b (tt, tt)
call_gives lcid b (Take share held) w = share-gives true share held b (offers lcid b w)
call_gives lcid b (Arrive pdu) w = others-give (Arrive pdu ∷ []) b (tt, tt)
call_gives lcid b (Expire clock) w = others-give (Expire clock ∷ []) b (tt, tt)
call_gives lcid b Tick w = others-give (Tick ∷ []) b (tt, tt)
call_gives lcid b (SetDiscard ttis) w = others-give (SetDiscard ttis ∷ []) b (tt, tt)

still_stands : (lcid : ℕ) (f : Flow) (c : Call) → WritesWell lcid f → Standing f → Standing (after f c)
unfolding submitted taken arrived expired ticked with_discard
still_stands lcid (Tm b) (Submit sdu) w h = tt
still_stands lcid (Tm b) (Take share held) w h = tt
still_stands lcid (Tm b) (Arrive pdu) w h = tt
still_stands lcid (Tm b) (Expire clock) w h = tt
still_stands lcid (Tm b) Tick w h = tt
still_stands lcid (Tm b) (SetDiscard ttis) w h = tt
still_stands lcid (Um b) (Submit sdu) w h = tt
still_stands lcid (Um b) (Take share held) w h = tt
still_stands lcid (Um b) (Arrive pdu) w h = tt
still_stands lcid (Um b) (Expire clock) w h = tt
still_stands lcid (Um b) Tick w h = tt
still_stands lcid (Um b) (SetDiscard ttis) w h = tt
still_stands lcid (Am b) c w h =
    let x = stands-on (c ∷ []) b h (call_gives lcid b c w) in
    subst Standing (sym x.left) x.stands

first_stands : (kind : Kind) (c : BearerConfig) (keys : Keys) (side : Side) → Standing (flow_of kind c keys side)
first_stands kinds.Tm c keys side = tt
first_stands kinds.Srb c keys side = signalling-stands c keys side
first_stands kinds.Um c keys side = tt
first_stands kinds.Am c keys side = data-stands c c.pdcp_bits keys side

stands_again : (f : Flow) (keys : Keys) → Standing f → Standing (restarted (stopped f) keys)
unfolding restarted stopped
stands_again (Tm b) keys h = tt
stands_again (Um b) keys h = tt
stands_again (Am b) keys h =
    let x = stands-anew b keys h in
    subst Standing (sym x.left) x.stands

abbrev pub StandsWell : ℕ → Flow → Type 0
StandsWell lcid f = WritesWell lcid f × Standing f

pub stands_kept : IsKept StandsWell
stands_kept = record {
  idle = (ready_kept.idle, tt);
  begins = λ c keys side g. (ready_kept.begins c keys side g, first_stands c.kind c keys side);
  submits = λ lcid f octets e p.
      (ready_kept.submits lcid f octets e p.0, still_stands lcid f (Submit octets) p.0 p.1);
  discards = λ lcid f ttis p. (ready_kept.discards lcid f ttis p.0, still_stands lcid f (SetDiscard ttis) p.0 p.1);
  takes = λ lcid f share held most p.
      (ready_kept.takes lcid f share held most p.0, still_stands lcid f (Take share held) p.0 p.1);
  arrives = λ lcid f pdu p. (ready_kept.arrives lcid f pdu p.0, still_stands lcid f (Arrive pdu) p.0 p.1);
  expires = λ lcid f clock p. (ready_kept.expires lcid f clock p.0, still_stands lcid f (Expire clock) p.0 p.1);
  ticks = λ lcid f p. (ready_kept.ticks lcid f p.0, still_stands lcid f Tick p.0 p.1);
  moves = λ lcid f keys p. (ready_kept.moves lcid f keys p.0, stands_again f keys p.1);
}

-- ---- an end that has come so far

pub record StandsAt (l : ℕ) (e : End) : Type 0 where
  pub lcid : ℕ
  pub well : StandsWell lcid (flow l e)

pub come_stands : (side : Side) (e : End) (l : ℕ) → HasCome side e → StandsAt l e
come_stands side e l h =
    let at = find l e.bearers in
    let all = subst (λ (x : End). AllAre StandsWell x.bearers) (sym h.end_is)
    (reached_are StandsWell stands_kept side h.maximum h.reports h.calls h.given) in
    record { lcid = (bearer_at e.bearers at).channel.lcid; well = at_is StandsWell e.bearers at stands_kept all }

pub bearers_stand : (side : Side) (e : End) (l : ℕ) (b : State) → HasCome side e → flow l e ≡ Am b → Stands b
bearers_stand side e l b h is = subst Standing is (come_stands side e l h).well.1

-- ---- a bearer behind PDUs that come

pub arrives_well : (lcid : ℕ) (ps : List (List ℕ)) (f : Flow) → WritesWell lcid f
    → WritesWell lcid (after_all f (arrivals ps))
arrives_well lcid [] f w = w
arrives_well lcid (p ∷ ps) f w = arrives_well lcid ps (arrived f p) (ready_kept.arrives lcid f p w)

-- what it is to one that stands
arrives_octets : (lcid : ℕ) (ps : List (List ℕ)) (b : State) → Stands b → WritesWell lcid (Am b)
    → OffersOctets (behind (arrivals ps) b)
arrives_octets lcid ps b h w =
    offers lcid (behind (arrivals ps) b)
    (subst (WritesWell lcid) (stands-on (arrivals ps) b h (others-give (arrivals ps) b (arrivals-other ps))).left
    (arrives_well lcid ps (Am b) w))

-- ---- a round

pub rounds_cost_flows : (steps : List Step) (grant : ℕ) (polls : Bool) (k : Link) (l : ℕ)
    → AllByRecursion IsOfDrain steps → 8 ≤ ttis steps → IsOfDrain (Tti grant) → l ≤ 10 → MayDrain k → HaveChannel l k
    → (h : HasFlows l (goes steps k))
    → CostsFlows l polls (goes steps k) (goes (round_of grant polls) (goes steps k)) h
rounds_cost_flows steps grant polls k l g many given low may channel h =
    let m = goes steps k in
    let n = goes (round_of grant polls) m in
    let come = (drains_stay steps k g may).come in
    let x = rounds_are_calls steps grant polls k l g many given low may channel in
    let r = x.round in
    let at_nb = come_stands Nb m.nb l come.nb in
    let at_ue = come_stands Ue m.ue l come.ue in
    let nb_well = subst (WritesWell at_nb.lcid) h.nb_is at_nb.well.0 in
    let ue_well = subst (WritesWell at_ue.lcid) h.ue_is at_ue.well.0 in
    let costs : CostsBoth r h.nb h.ue h.nb_stands h.ue_stands =
    rounds_cost_both r h.nb h.ue h.nb_stands h.ue_stands (offers at_nb.lcid h.nb nb_well)
    (arrives_octets at_ue.lcid (writes_in r.down (Am h.nb)) h.ue h.ue_stands ue_well) in
    let is : IsRound r (Am h.nb) (Am h.ue) (flow l n.nb) (flow l n.ue) =
    subst (λ (f : Flow). IsRound r f (Am h.ue) (flow l n.nb) (flow l n.ue)) h.nb_is
    (subst (λ (f : Flow). IsRound r (flow l m.nb) f (flow l n.nb) (flow l n.ue)) h.ue_is x.is) in
    record {
      left = record {
        nb = costs.nb';
        ue = costs.ue';
        nb_is = is.nb_is ∙ sym costs.is.nb_is;
        ue_is = is.ue_is ∙ sym costs.is.ue_is;
        nb_stands = costs.nb_stands;
        ue_stands = costs.ue_stands;
      };
      round = r;
      polls_are = x.polls_are;
      down = costs.down;
      up = costs.up;
    }

-- ---- any rounds

pub goes_then : (xs ys : List Step) (k : Link) → goes (xs ++ ys) k ≡ goes ys (goes xs k)
goes_then [] ys k = refl
goes_then (x ∷ xs) ys k = goes_then xs ys (happens k x)

pub drain_then : (xs ys : List Step) → AllByRecursion IsOfDrain xs → AllByRecursion IsOfDrain ys
    → AllByRecursion IsOfDrain (xs ++ ys)
drain_then [] ys a b = b
drain_then (x ∷ xs) ys a b = (a.0, drain_then xs ys a.1 b)

pub ttis_more : (xs ys : List Step) → ttis xs ≤ ttis (xs ++ ys)
ttis_more [] ys = omega arith
ttis_more (Tti grant ∷ xs) ys = omega (arith, ttis_more xs ys)
ttis_more (ReceiversExpire ∷ xs) ys = ttis_more xs ys
ttis_more (SendersExpire ∷ xs) ys = ttis_more xs ys

pub round_drains : (grant : ℕ) (polls : Bool) → IsOfDrain (Tti grant) → AllByRecursion IsOfDrain (round_of grant polls)
round_drains grant true given = (given, (tt, (tt, tt)))
round_drains grant false given = (given, (tt, tt))

none_rises : (rounds : List Bool) (steps : List Step) (grant : ℕ) (k m : Link) (l : ℕ) → goes steps k ≡ m
    → AllByRecursion IsOfDrain steps → 8 ≤ ttis steps → IsOfDrain (Tti grant) → l ≤ 10 → MayDrain k → HaveChannel l k
    → (h : HasFlows l m) → NoneRises l m (goes (rounds_of grant rounds) m) h
none_rises [] steps grant k m l same g many given low may channel h =
    record { left = h; down = omega arith; up = omega arith }
none_rises (polls ∷ more) steps grant k m l same g many given low may channel h =
    let round = round_of grant polls in
    let n = goes round m in
    let cost : CostsFlows l polls m n h =
    subst (λ (x : Link). (e : HasFlows l x) → CostsFlows l polls x (goes (round_of grant polls) x) e) same
    (rounds_cost_flows steps grant polls k l g many given low may channel) h in
    let longer : 8 ≤ ttis (steps ++ round) = omega (arith, many, ttis_more steps round) in
    let rest = none_rises more (steps ++ round) grant k n l (goes_then steps round k ∙ ap (goes round) same)
    (drain_then steps round g (round_drains grant polls given)) longer given low may channel cost.left in
    subst (λ (x : Link). NoneRises l m x h) (sym (goes_then round (rounds_of grant more) m))
    (record {
      left = rest.left;
      down = omega (arith, rest.down, cost.down.falls);
      up = omega (arith, rest.up, cost.up.falls);
    })

pub flows_never_rise : (steps : List Step) (grant : ℕ) (rounds : List Bool) (k : Link) (l : ℕ)
    → AllByRecursion IsOfDrain steps → 8 ≤ ttis steps → IsOfDrain (Tti grant) → l ≤ 10 → MayDrain k → HaveChannel l k
    → (h : HasFlows l (goes steps k))
    → NoneRises l (goes steps k) (goes (rounds_of grant rounds) (goes steps k)) h
flows_never_rise steps grant rounds k l g many given low may channel h =
    none_rises rounds steps grant k (goes steps k) l refl g many given low may channel h
