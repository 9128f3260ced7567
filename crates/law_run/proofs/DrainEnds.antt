-- The rounds of a drain end it.
use Rattle.std.proofs.Common.{◌≡◌, ◌⊎◌, inl, inr, ◌<◌, ◌≤◌, ℕ, zero, suc, ◌+◌, ◌==◌, Bool, true, false, ◌&&◌, ◌||◌}
use Rattle.std.proofs.Common.{if◌then◌else◌, None, List, [], ◌∷◌, length, refl, ap, sym, subst, ◌∙◌}
use Rattle.std.proofs.Common.{arith}
use Rattle.std.proofs.lemmas.Bool.{cases_lt, false≢true}
use Rattle.std.proofs.lemmas.Bool.Decides.{nat_tests}
use Rattle.std.specs.List.{AllByRecursion, list_all}
use Rattle.air_link.specs.Draining.{drain_tti, carried, is_drained}
use Rattle.air_link.specs.Link.{Link, end_of}
use Rattle.air_run.specs.Draining.{shown, round, rounds, left_by}
use Rattle.air_text.specs.Groups.{Group}
use Rattle.bearer.specs.Acknowledged.State.{State}
use Rattle.bearer.specs.Bearer.{Of, Life}
use Rattle.bearer.specs.Sums.{need as flow_need, is_drained as flow_drained}
use Rattle.bearer.specs.declared.flow.Flow.{Flow}
use Rattle.bearer.specs.declared.flow.Flow.TheVariants.{Tm, Um, Am}
use Rattle.bearer_types.specs.Configs.{IsChannelOf}
use Rattle.l2_node.specs.End.{End}
use Rattle.l2_node.specs.Finding.{has}
use Rattle.l2_node.specs.Sums.{is_drained as end_drained}
use Rattle.l2_types.specs.declared.channel.Kind.{Kind}
use Rattle.l2_types.specs.declared.channel.Kind.TheVariants as kinds
use Rattle.l2_types.specs.declared.side.Side.{Side}
use Rattle.l2_types.specs.declared.side.Side.TheVariants.{Nb, Ue}
use Rattle.law_run.specs.DrainRounds.{IsOfDrain, MayDrain, round_of}
use Rattle.law_run.specs.DrainShares.{dealt, WritesNone, DealsRound}
use Rattle.law_run.specs.DrainTtis.{Tti, goes}
use Rattle.law_run.specs.TwoEnds.Lived.{IsAcknowledged}
use Rattle.law_run.proofs.DrainRounds.Dealing.{rounds_are_dealt}
use Rattle.law_bearer.specs.AmBearer.Calls.{IsOfSignalling}
use Rattle.law_bearer.specs.AnyBearer.Calls.{after_all}
use Rattle.law_bearer.specs.AnyBearer.Rounds.{writes_in, arrivals}
use Rattle.law_deliver.proofs.AmFlow.Alone.{many_of, IsAlone}
use Rattle.law_deliver.proofs.AmFlow.Places.{has_behind, flow_behind}
use Rattle.law_drain.specs.Channels.{channel_measure}
use Rattle.law_drain.specs.Falling.{AreAlike, AwaitsPoll}
use Rattle.law_drain.specs.Signalling.{KeepsNone}
use Rattle.law_drain.proofs.Signalling.{idle_stands_drained}
use Rattle.law_node.specs.Holding.{flow}
use Rattle.law_node.proofs.Holding.{flow_at}
use Rattle.promises.specs.Delivery.{is_forged}
use Rattle.promises.specs.Order.{Channels}
use Rattle.law_run.specs.DrainEnds.{behind_eight, lcids}
use Rattle.law_run.specs.DrainLinks.{AllMeasured, link_measure, IsChannelOn}
use Rattle.law_run.specs.Order.{KeepsOrder}
use Rattle.law_run.proofs.DrainChannels.{has_listed, HasConfig, has_config, end_channels}
use Rattle.law_run.proofs.DrainFalls.{alike, AreAtTop, is_listed, down_on, up_on, LinkRoundFalls, link_falls}
use Rattle.law_run.proofs.DrainFlows.{bearers_stand}
use Rattle.law_run.proofs.DrainGoing.{Going, goes_first, shown_going, not_carried, round_is, round_going, ttis_going}
use Rattle.law_run.proofs.DrainGoing.{eight_told}
use Rattle.law_run.proofs.DrainNeeds.{IsTracked, SomeWrites, none_needs, e_has}
use Rattle.law_run.proofs.DrainRuns.{nb_watched, ue_watched, quiet_awaits}
use Rattle.law_run.proofs.DrainTracks.{IsOfKind, links_track, holds_none}
use Rattle.law_run.proofs.Past.{link_behind}

-- ---- lists

pub all_listed : (P : ℕ → Type 0) (ls : List ℕ) → ((l : ℕ) → is_listed l ls ≡ true → P l) → AllByRecursion P ls
all_listed P [] each = tt
all_listed P (n ∷ ls) each = (
  each n (first n (is_listed n ls)),
  all_listed P ls (λ l here. each l (later (l == n) (is_listed l ls) here)),
)
  where
    first : (n : ℕ) (b : Bool) → ((n == n) || b) ≡ true
    first n b = let same : (n == n) ≡ true = grind (arith, nat_tests) in rw same refl

    later : (a b : Bool) → b ≡ true → (a || b) ≡ true
    later true b e = refl
    later false b e = e

none_left : (ps : List (List ℕ)) → (0 < length ps → ⊥) → ps ≡ []
none_left [] none = refl
none_left (p ∷ ps) none = absurd (none (omega arith))

-- ---- an end whose bearers are drained, of which each channel has one

some_by : (l : ℕ) (b : Of Life) (bs : List (Of Life)) (t : Bool) → (b.channel.lcid == l) ≡ t
    → (has l bs ≡ true → 1 ≤ many_of l bs) → has l (b ∷ bs) ≡ true → 1 ≤ many_of l (b ∷ bs)
some_by l b bs true e more there = omega (arith, ap (λ (x : Bool). (if x then 1 else 0) + many_of l bs) e)
some_by l b bs false e more there =
    let some = more (sym (has_behind l b bs e) ∙ there) in
    omega (arith, some)

has_some : (l : ℕ) (bs : List (Of Life)) → has l bs ≡ true → 1 ≤ many_of l bs
has_some l [] there = absurd cc
has_some l (b ∷ bs) there = some_by l b bs (b.channel.lcid == l) refl (has_some l bs) there

later_alone : (l : ℕ) (b : Of Life) (bs : List (Of Life)) (t : Bool) → (b.channel.lcid == l) ≡ t → has l bs ≡ true
    → IsAlone l (b ∷ bs) → (b.channel.lcid == l) ≡ false
later_alone l b bs false e there one = e
later_alone l b bs true e there one =
    let some = has_some l bs there in
    absurd (omega (arith, one, some, ap (λ (x : Bool). (if x then 1 else 0) + many_of l bs) e))

all_drained : (bs : List (Of Life)) → ((l : ℕ) → has l bs ≡ true → IsAlone l bs)
    → ((l : ℕ) → has l bs ≡ true → flow_drained (flow_at l bs) ≡ true)
    → list_all (λ (b : Of Life). flow_drained b.state.flow) bs ≡ true
all_drained [] alone each = refl
all_drained (b ∷ bs) alone each = both first (all_drained bs (λ l there. less l there) (λ l there. behind l there))
  where
    both : {x y : Bool} → x ≡ true → y ≡ true → (x && y) ≡ true
    both e f = rw (e, f) refl

    same : (b.channel.lcid == b.channel.lcid) ≡ true
    same = grind (arith, nat_tests)

    first : flow_drained b.state.flow ≡ true
    first =
        let there : has b.channel.lcid (b ∷ bs) ≡ true = rw same (grind (arith, nat_tests)) in
        let here : flow_at b.channel.lcid (b ∷ bs) ≡ b.state.flow = rw (flow_at, same) refl in
        ap flow_drained (sym here) ∙ each b.channel.lcid there

    apart : (l : ℕ) → has l bs ≡ true → (b.channel.lcid == l) ≡ false
    apart l there = by (b.channel.lcid == l) refl
      where
        by : (t : Bool) → (b.channel.lcid == l) ≡ t → (b.channel.lcid == l) ≡ false
        by false e = e
        by true e =
            let at : has l (b ∷ bs) ≡ true = rw e (grind (arith, nat_tests)) in
            later_alone l b bs true e there (alone l at)

    wider : (l : ℕ) → has l bs ≡ true → has l (b ∷ bs) ≡ true
    wider l there = has_behind l b bs (apart l there) ∙ there

    less : (l : ℕ) → has l bs ≡ true → IsAlone l bs
    less l there =
        let one = alone l (wider l there) in
        omega (arith, one)

    behind : (l : ℕ) → has l bs ≡ true → flow_drained (flow_at l bs) ≡ true
    behind l there = ap flow_drained (sym (flow_behind l b bs (apart l there))) ∙ each l (wider l there)

-- ---- the channels of a link in a drain

low_of : (kind : Kind) (l : ℕ) → IsChannelOf kind l → l ≤ 10
low_of kinds.Tm l h = omega (arith, h)
low_of kinds.Srb l h = omega (arith, h.1)
low_of kinds.Um l h = omega (arith, h.1)
low_of kinds.Am l h = omega (arith, h.1)

acknowledged_kind : (kind : Kind) (b : State) → IsOfKind kind (Am b) → IsAcknowledged kind
acknowledged_kind kinds.Tm b h = absurd h
acknowledged_kind kinds.Srb b h = tt
acknowledged_kind kinds.Um b h = absurd h
acknowledged_kind kinds.Am b h = tt

module _ (past : List Group) (order : KeepsOrder past) {count : ℕ} (k : Link) (g : Going count past k) where
  nb_listed : (l : ℕ) → has l k.nb.bearers ≡ is_listed l (lcids past)
  nb_listed l = has_listed l k.nb ∙ ap (λ (c : Channels). is_listed l c.by_lcid) g.nb_same

  ue_listed : (l : ℕ) → has l k.ue.bearers ≡ is_listed l (lcids past)
  ue_listed l = has_listed l k.ue ∙ ap (λ (c : Channels). is_listed l c.by_lcid) g.ue_same

  nb_config : (l : ℕ) → has l k.nb.bearers ≡ true → HasConfig l past
  nb_config l there = has_config l past k.nb g.nb_same there

  ue_config : (l : ℕ) → has l k.ue.bearers ≡ true → HasConfig l past
  ue_config l there = has_config l past k.ue g.ue_same there

  nb_tracked : (l : ℕ) → has l k.nb.bearers ≡ true → IsTracked Nb l k.nb
  nb_tracked l there =
      let c = nb_config l there in
      let t = g.tracks l c.config c.is in
      record { kind = c.config.kind; goes_with = t.goes_with; tracks = t.nb }

  ue_tracked : (l : ℕ) → has l k.ue.bearers ≡ true → IsTracked Ue l k.ue
  ue_tracked l there =
      let c = ue_config l there in
      let t = g.tracks l c.config c.is in
      record { kind = c.config.kind; goes_with = t.goes_with; tracks = t.ue }

  is_on : (l : ℕ) → is_listed l (lcids past) ≡ true → IsChannelOn k l
  is_on l here =
      let there = nb_listed l ∙ here in
      let t = nb_tracked l there in
      (low_of t.kind l t.goes_with, (there, ue_listed l ∙ here))

  pub are_on : AllByRecursion (IsChannelOn k) (lcids past)
  are_on = all_listed (IsChannelOn k) (lcids past) is_on

  pub are_alike : AllByRecursion (λ (l : ℕ). AreAlike (flow l k.nb) (flow l k.ue)) (lcids past)
  are_alike = all_listed (λ (l : ℕ). AreAlike (flow l k.nb) (flow l k.ue)) (lcids past)
      (λ l here.
      let c = nb_config l (nb_listed l ∙ here) in
      let t = g.tracks l c.config c.is in
      alike c.config.kind (flow l k.nb) (flow l k.ue) t.nb.of_kind t.ue.of_kind)

  -- a bearer that needs nothing and doesn't wait for its poll timer is drained
  nb_rests : (l grant : ℕ) → has l k.nb.bearers ≡ true → flow_need (flow l k.nb) grant None ≡ 0
      → (AwaitsPoll (flow l k.nb) → ⊥) → flow_drained (flow l k.nb) ≡ true
  unfolding flow_need flow_drained
  nb_rests l grant there none awake = by (flow l k.nb) refl
    where
      by : (f : Flow) → flow l k.nb ≡ f → flow_drained f ≡ true
      by (Tm b) is = refl
      by (Um b) is = refl
      by (Am b) is =
          let c = nb_config l there in
          let t = g.tracks l c.config c.is in
          let stands = bearers_stand Nb k.nb l b g.gone.may.come.nb is in
          let kept = holds_none c.config.kind (flow l k.nb) b is t.nb.of_kind in
          let runs = g.runs l c.config c.is
          (acknowledged_kind c.config.kind b (subst (IsOfKind c.config.kind) is t.nb.of_kind)) in
          elim (idle_stands_drained b stands kept (subst (λ (f : Flow). flow_need f grant None ≡ 0) is none)) [
            | inl done ↦ done
            | inr quiet ↦
                absurd (awake (quiet_awaits Nb k.nb l b g.gone.may.come.nb is (nb_watched l k b runs is) quiet))
          ]

  ue_rests : (l grant : ℕ) → has l k.ue.bearers ≡ true → flow_need (flow l k.ue) grant None ≡ 0
      → (AwaitsPoll (flow l k.ue) → ⊥) → flow_drained (flow l k.ue) ≡ true
  unfolding flow_need flow_drained
  ue_rests l grant there none awake = by (flow l k.ue) refl
    where
      by : (f : Flow) → flow l k.ue ≡ f → flow_drained f ≡ true
      by (Tm b) is = refl
      by (Um b) is = refl
      by (Am b) is =
          let c = ue_config l there in
          let t = g.tracks l c.config c.is in
          let stands = bearers_stand Ue k.ue l b g.gone.may.come.ue is in
          let kept = holds_none c.config.kind (flow l k.ue) b is t.ue.of_kind in
          let runs = g.runs l c.config c.is
          (acknowledged_kind c.config.kind b (subst (IsOfKind c.config.kind) is t.ue.of_kind)) in
          elim (idle_stands_drained b stands kept (subst (λ (f : Flow). flow_need f grant None ≡ 0) is none)) [
            | inl done ↦ done
            | inr quiet ↦
                absurd (awake (quiet_awaits Ue k.ue l b g.gone.may.come.ue is (ue_watched l k b runs is) quiet))
          ]

  -- so are both ends where all do so
  both_rest : ((l : ℕ) → has l k.nb.bearers ≡ true → flow_drained (flow l k.nb) ≡ true)
      → ((l : ℕ) → has l k.ue.bearers ≡ true → flow_drained (flow l k.ue) ≡ true) → is_drained k ≡ true
  unfolding end_drained
  both_rest nb ue =
      both
      (all_drained k.nb.bearers
      (λ l there. let c = nb_config l there in (g.tracks l c.config c.is).nb.stands.alone) nb)
      (all_drained k.ue.bearers
      (λ l there. let c = ue_config l there in (g.tracks l c.config c.is).ue.stands.alone) ue)
    where
      both : {x y : Bool} → x ≡ true → y ≡ true → (x && y) ≡ true
      both e f = rw (e, f) refl

-- ---- what is told of a link doesn't matter to its measure

abbrev shown_measured : (ls : List ℕ) (k : Link) → AllMeasured ls k → AllMeasured ls (shown k)
shown_measured [] k h = tt
shown_measured (l ∷ ls) k h = (h.0, shown_measured ls k h.1)

shown_measure : (ls : List ℕ) (k : Link) (h : AllMeasured ls k)
    → link_measure ls k h ≡ link_measure ls (shown k) (shown_measured ls k h)
shown_measure [] k h = refl
shown_measure (l ∷ ls) k h =
    ap (λ (n : ℕ). channel_measure (flow l k.nb) (flow l k.ue) h.0 + n) (shown_measure ls k h.1)

shown_top : (ls : List ℕ) (k : Link) → AreAtTop ls k → AreAtTop ls (shown k)
shown_top [] k h = tt
shown_top (l ∷ ls) k h = (h.0, shown_top ls k h.1)

drained_rests : (n grant : ℕ) (k : Link) → is_drained k ≡ true → is_drained (rounds n grant k).link ≡ true
drained_rests zero grant k e = e
drained_rests (suc n) grant k e =
    subst (λ (x : Bool). is_drained (rounds n grant (left_by x grant k)).link ≡ true) (sym e)
    (drained_rests n grant k e)

-- what a round is to what comes behind it
record BehindAs (past : List Group) (k : Link) (h : AllMeasured (lcids past) k) (m : Link) : Type 0 where
  going : Going 8 past m
  left : AllMeasured (lcids past) m
  top : AreAtTop (lcids past) m
  rests : link_measure (lcids past) m left ≤ link_measure (lcids past) k h
  falls : AreAtTop (lcids past) k → is_drained k ≡ false
      → link_measure (lcids past) m left + 1 ≤ link_measure (lcids past) k h

abbrev Behind : (past : List Group) (grant : ℕ) (k : Link) → AllMeasured (lcids past) k → Type 0
Behind past grant k h = BehindAs past k h (shown (round grant k))

-- ---- a round

module _ (past : List Group) (order : KeepsOrder past) (grant : ℕ) (some : 200 ≤ grant) (few : grant ≤ 9422) where
  given : IsOfDrain (Tti grant)
  given = (omega (arith, some), few)

  abbrev ls : List ℕ
  ls = lcids past

  module _ (k : Link) (g : Going 8 past k) (told : k.out ≡ []) (polls : Bool)
      (is : polls ≡ not_carried (carried (drain_tti grant k))) (h : AllMeasured (lcids past) k) where
    abbrev deals : DealsRound grant polls k (goes (round_of grant polls) k)
    deals = rounds_are_dealt grant polls k given g.gone

    falls : LinkRoundFalls grant polls k g.gone deals ls h
    falls = link_falls grant polls k g.gone deals ls (are_on past order k g) (are_alike past order k g) h

    abbrev m : Link
    m = goes (round_of grant polls) k

    abbrev Pays : Type 0
    Pays = link_measure ls m falls.left + 1 ≤ link_measure ls k h

    module _ (top : AreAtTop (lcids past) k) (unpaid : Pays → ⊥) where
      none_down : (l : ℕ) → is_listed l ls ≡ true → down_on grant polls k g.gone deals l ≡ []
      none_down l here =
          none_left (down_on grant polls k g.gone deals l) (λ writes. unpaid (falls.writes top l here (inl writes)))

      none_up : (l : ℕ) → is_listed l ls ≡ true → up_on grant polls k g.gone deals l ≡ []
      none_up l here =
          none_left (up_on grant polls k g.gone deals l) (λ writes. unpaid (falls.writes top l here (inr writes)))

      nb_listing : (l : ℕ) → has l deals.nb.bearers ≡ true → is_listed l ls ≡ true
      nb_listing l there =
          sym (nb_listed past order k g l)
          ∙ sym (e_has past order Nb k.nb deals.nb deals.nb_builds g.nb_same g.gone.may.come.nb
          (nb_tracked past order k g) grant some few l)
          ∙ there

      ue_listing : (l : ℕ) → has l deals.ue.bearers ≡ true → is_listed l ls ≡ true
      ue_listing l there =
          sym (ue_listed past order k g l)
          ∙ sym (e_has past order Ue k.ue deals.ue deals.ue_builds g.ue_same g.gone.may.come.ue
          (ue_tracked past order k g) grant some few l)
          ∙ there

      nb_none : WritesNone grant deals.nb
      nb_none l there =
          ap (writes_in (dealt deals.nb grant l)) (deals.nb_is l) ∙ none_down l (nb_listing l there)

      ue_flow : (l : ℕ) → is_listed l ls ≡ true
          → flow l deals.ue ≡ after_all (flow l k.ue) (arrivals (down_on grant polls k g.gone deals l))
      ue_flow l here =
          let on = is_on past order k g l here in
          deals.ue_is l on.0 on.1

      ue_none : WritesNone grant deals.ue
      ue_none l there =
          let here = ue_listing l there in
          ap (writes_in (dealt deals.ue grant l)) (ue_flow l here) ∙ none_up l here

      polled : polls ≡ true
      polled = is ∙ ap not_carried (deals.silent told nb_none ue_none)

      sleeps : (l : ℕ) → is_listed l ls ≡ true → AwaitsPoll (flow l k.nb) ⊎ AwaitsPoll (flow l k.ue) → ⊥
      sleeps l here waits = unpaid (falls.recalls polled l here (none_down l here) (none_up l here) waits)

      writes_none : (e : End) → WritesNone grant e → SomeWrites e grant → ⊥
      writes_none e none w =
          let nothing = none w.lcid w.there in
          let zero' : length (writes_in (dealt e grant w.lcid) (flow w.lcid e)) ≡ 0 =
          ap (λ (ps : List (List ℕ)). length ps) nothing in
          let some' = w.writes in
          omega (arith, zero', some')

      nb_needs : (l : ℕ) → is_listed l ls ≡ true → flow_need (flow l k.nb) grant None ≡ 0
      nb_needs l here =
          let there = e_has past order Nb k.nb deals.nb deals.nb_builds g.nb_same g.gone.may.come.nb
          (nb_tracked past order k g) grant some few l ∙ (nb_listed past order k g l ∙ here) in
          subst (λ (f : Flow). flow_need f grant None ≡ 0) (deals.nb_is l)
          (none_needs past order Nb k.nb deals.nb deals.nb_builds g.nb_same g.gone.may.come.nb
          (nb_tracked past order k g) grant some few (writes_none deals.nb nb_none) l there)

      ue_needs : (l : ℕ) → is_listed l ls ≡ true → flow_need (flow l k.ue) grant None ≡ 0
      ue_needs l here =
          let there = e_has past order Ue k.ue deals.ue deals.ue_builds g.ue_same g.gone.may.come.ue
          (ue_tracked past order k g) grant some few l ∙ (ue_listed past order k g l ∙ here) in
          subst (λ (f : Flow). flow_need f grant None ≡ 0)
          (ue_flow l here
          ∙ ap (λ (ps : List (List ℕ)). after_all (flow l k.ue) (arrivals ps)) (none_down l here))
          (none_needs past order Ue k.ue deals.ue deals.ue_builds g.ue_same g.gone.may.come.ue
          (ue_tracked past order k g) grant some few (writes_none deals.ue ue_none) l there)

      done : is_drained k ≡ true
      done =
          both_rest past order k g
          (λ l there.
          let here = sym (nb_listed past order k g l) ∙ there in
          nb_rests past order k g l grant there (nb_needs l here) (λ waits. sleeps l here (inl waits)))
          (λ l there.
          let here = sym (ue_listed past order k g l) ∙ there in
          ue_rests past order k g l grant there (ue_needs l here) (λ waits. sleeps l here (inr waits)))

    -- a round that doesn't begin drained pays
    pays : AreAtTop (lcids past) k → is_drained k ≡ false → Pays
    pays top open' = by (cases_lt (link_measure ls m falls.left) (link_measure ls k h))
      where
        by : (link_measure ls m falls.left < link_measure ls k h) ⊎ (link_measure ls k h ≤ link_measure ls m falls.left)
            → Pays
        by (inl less) = omega (arith, less)
        by (inr more) =
            let unpaid : Pays → ⊥ = λ paid. omega (arith, paid, more) in
            absurd (false≢true (sym open' ∙ done top unpaid))

    to_m : shown (round grant k) ≡ shown m
    to_m = ap shown (round_is grant k (carried (drain_tti grant k)) polls refl is)

    behind : Behind past grant k h
    behind =
        subst (λ (x : Link). BehindAs past k h x) (sym to_m)
        (record {
          going = shown_going 8 past m (round_going grant polls past k given g);
          left = shown_measured ls m falls.left;
          top = shown_top ls m falls.top;
          rests = subst (λ (n : ℕ). n ≤ link_measure ls k h) (shown_measure ls m falls.left) falls.rests;
          falls = λ top open'.
              subst (λ (n : ℕ). n + 1 ≤ link_measure ls k h) (shown_measure ls m falls.left) (pays top open');
        })

-- ---- any rounds

module _ (past : List Group) (order : KeepsOrder past) (grant : ℕ) (some : 200 ≤ grant) (few : grant ≤ 9422) where
  next : (k : Link) → Going 8 past k → k.out ≡ [] → (h : AllMeasured (lcids past) k) → Behind past grant k h
  next k g told h = behind past order grant some few k g told (not_carried (carried (drain_tti grant k))) refl h

  -- a round, where it isn't drained
  step_by : (n : ℕ) (k : Link) (b : Bool) → is_drained k ≡ b
      → (is_drained k ≡ false → is_drained (rounds n grant (shown (round grant k))).link ≡ true)
      → is_drained (rounds n grant (left_by (is_drained k) grant k)).link ≡ true
  step_by n k true e more =
      subst (λ (x : Bool). is_drained (rounds n grant (left_by x grant k)).link ≡ true) (sym e)
      (drained_rests n grant k e)
  step_by n k false e more =
      subst (λ (x : Bool). is_drained (rounds n grant (left_by x grant k)).link ≡ true) (sym e) (more e)

  -- where a round has been before
  ends_from : (n : ℕ) (k : Link) → Going 8 past k → k.out ≡ [] → AreAtTop (lcids past) k
      → (h : AllMeasured (lcids past) k) → link_measure (lcids past) k h ≤ n → is_drained (rounds n grant k).link ≡ true
  ends_from zero k g told top h most = by (is_drained k) refl
    where
      by : (b : Bool) → is_drained k ≡ b → is_drained k ≡ true
      by true e = e
      by false e =
          let paid = (next k g told h).falls top e in
          absurd (omega (arith, paid, most))
  ends_from (suc n) k g told top h most =
      step_by n k (is_drained k) refl (λ e.
      let b = next k g told h in
      let paid = b.falls top e in
      ends_from n (shown (round grant k)) b.going refl b.top b.left (omega (arith, paid, most)))

  -- the first round may not pay
  ends_in : (n : ℕ) (k : Link) → Going 8 past k → k.out ≡ [] → (h : AllMeasured (lcids past) k)
      → link_measure (lcids past) k h < n → is_drained (rounds n grant k).link ≡ true
  ends_in zero k g told h less = absurd (omega (arith, less))
  ends_in (suc n) k g told h less =
      step_by n k (is_drained k) refl (λ e.
      let b = next k g told h in
      let rests = b.rests in
      ends_from n (shown (round grant k)) b.going refl b.top b.left (omega (arith, rests, less)))

pub rounds_end : (past : List Group) (grant n : ℕ) → KeepsOrder past → is_forged past ≡ false
    → MayDrain (link_behind past) → 200 ≤ grant → grant ≤ 9422
    → (h : AllMeasured (lcids past) (behind_eight grant past))
    → link_measure (lcids past) (behind_eight grant past) h < n
    → is_drained (rounds n grant (behind_eight grant past)).link ≡ true
rounds_end past grant n order own may some few h less =
    let some' : 1 ≤ grant = omega (arith, some) in
    ends_in past order grant some few n (behind_eight grant past)
    (ttis_going 8 grant 0 past (link_behind past) (some', few) (goes_first past order own may))
    (eight_told grant (link_behind past)) h less

-- ---- what a signalling bearer's PDCP keeps

pub links_keep_no_signalling : (past : List Group) (side : Side) (l : ℕ) (b : State) → KeepsOrder past
    → has l (end_of side (link_behind past)).bearers ≡ true
    → flow l (end_of side (link_behind past)) ≡ Am b → IsOfSignalling b → KeepsNone b.pdcp.tx
links_keep_no_signalling past Nb l b order there is signalling =
    let c = has_config l past (link_behind past).nb (end_channels Nb past order) there in
    let t = links_track l past c.config order c.is in
    holds_none c.config.kind (flow l (link_behind past).nb) b is t.nb.of_kind signalling
links_keep_no_signalling past Ue l b order there is signalling =
    let c = has_config l past (link_behind past).ue (end_channels Ue past order) there in
    let t = links_track l past c.config order c.is in
    holds_none c.config.kind (flow l (link_behind past).ue) b is t.ue.of_kind signalling
