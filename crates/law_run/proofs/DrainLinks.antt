-- The measure of a link never rises in the rounds of a drain.
use Rattle.std.proofs.Common.{◌≡◌, ◌≤◌, ℕ, Bool, List, [], ◌∷◌, ◌++◌, refl, ap, sym, subst, ◌∙◌, arith}
use Rattle.std.specs.List.{AllByRecursion}
use Rattle.air_link.specs.Link.{Link}
use Rattle.bearer.specs.declared.flow.Flow.{Flow}
use Rattle.bearer.specs.declared.flow.Flow.TheVariants.{Tm, Um, Am}
use Rattle.l2_types.specs.declared.side.Side.TheVariants.{Nb, Ue}
use Rattle.law_bearer.specs.AnyBearer.Calls.{after_all}
use Rattle.law_bearer.specs.AnyBearer.Rounds.{writes_in, arrivals}
use Rattle.law_node.specs.Holding.{flow}
use Rattle.law_node.proofs.Ready.{WritesWell}
use Rattle.law_drain.specs.Channels.{Measured, OffersIn, FallsTo}
use Rattle.law_drain.proofs.Channels.{channels_never_rise}
use Rattle.law_run.specs.AnyCalls.Zero.{HaveCome}
use Rattle.law_run.specs.DrainTtis.{Step, Tti, goes, ttis}
use Rattle.law_run.specs.DrainRounds.{IsOfDrain, MayDrain, round_of}
use Rattle.law_run.proofs.DrainRounds.Calling.{rounds_are_calls}
use Rattle.law_run.proofs.DrainRounds.Staying.{drains_stay}
use Rattle.law_run.specs.DrainFlows.{rounds_of}
use Rattle.law_run.specs.DrainLinks.{AllMeasured, IsChannelOn, LinkFallsTo}
use Rattle.law_run.proofs.DrainFlows.{Standing, come_stands, arrives_well, offers, goes_then, drain_then}
use Rattle.law_run.proofs.DrainFlows.{ttis_more, round_drains}

-- ---- both ends are measured

both_stand : (nb ue : Flow) → Standing nb → Standing ue → Measured nb ue
both_stand (Tm b) ue h k = tt
both_stand (Um b) ue h k = tt
both_stand (Am b) (Tm d) h k = tt
both_stand (Am b) (Um d) h k = tt
both_stand (Am b) (Am d) h k = (h, k)

pub links_are_measured : (ls : List ℕ) (k : Link) → HaveCome k → AllMeasured ls k
links_are_measured [] k h = tt
links_are_measured (l ∷ ls) k h = (
  both_stand (flow l k.nb) (flow l k.ue) (come_stands Nb k.nb l h.nb).well.1 (come_stands Ue k.ue l h.ue).well.1,
  links_are_measured ls k h,
)

-- ---- a round

pub offers_in : (lcid : ℕ) (f : Flow) → WritesWell lcid f → OffersIn f
offers_in lcid (Tm b) w = tt
offers_in lcid (Um b) w = tt
offers_in lcid (Am b) w = offers lcid b w

channel_falls : (steps : List Step) (grant : ℕ) (polls : Bool) (k : Link) (l : ℕ) → AllByRecursion IsOfDrain steps
    → 8 ≤ ttis steps → IsOfDrain (Tti grant) → MayDrain k → IsChannelOn k l
    → (h : Measured (flow l (goes steps k).nb) (flow l (goes steps k).ue))
    → FallsTo (flow l (goes steps k).nb) (flow l (goes steps k).ue)
    (flow l (goes (round_of grant polls) (goes steps k)).nb)
    (flow l (goes (round_of grant polls) (goes steps k)).ue) h
channel_falls steps grant polls k l g many given may on h =
    let m = goes steps k in
    let n = goes (round_of grant polls) m in
    let come = (drains_stay steps k g may).come in
    let x = rounds_are_calls steps grant polls k l g many given on.0 may on.1 in
    let r = x.round in
    let at_nb = come_stands Nb m.nb l come.nb in
    let at_ue = come_stands Ue m.ue l come.ue in
    channels_never_rise r (flow l m.nb) (flow l m.ue) (flow l n.nb) (flow l n.ue) x.is
    (offers_in at_nb.lcid (flow l m.nb) at_nb.well.0)
    (offers_in at_ue.lcid (after_all (flow l m.ue) (arrivals (writes_in r.down (flow l m.nb))))
    (arrives_well at_ue.lcid (writes_in r.down (flow l m.nb)) (flow l m.ue) at_ue.well.0)) h

round_falls : (ls : List ℕ) (steps : List Step) (grant : ℕ) (polls : Bool) (k : Link) → AllByRecursion IsOfDrain steps
    → 8 ≤ ttis steps → IsOfDrain (Tti grant) → MayDrain k → AllByRecursion (IsChannelOn k) ls
    → (h : AllMeasured ls (goes steps k))
    → LinkFallsTo ls (goes steps k) (goes (round_of grant polls) (goes steps k)) h
round_falls [] steps grant polls k g many given may on h = record { left = tt; falls = omega arith }
round_falls (l ∷ ls) steps grant polls k g many given may on h =
    let one = channel_falls steps grant polls k l g many given may on.0 h.0 in
    let rest = round_falls ls steps grant polls k g many given may on.1 h.1 in
    record { left = (one.left, rest.left); falls = omega (arith, one.falls, rest.falls) }

-- ---- any rounds

any_falls : (rounds : List Bool) (steps : List Step) (grant : ℕ) (k m : Link) (ls : List ℕ) → goes steps k ≡ m
    → AllByRecursion IsOfDrain steps → 8 ≤ ttis steps → IsOfDrain (Tti grant) → MayDrain k
    → AllByRecursion (IsChannelOn k) ls → (h : AllMeasured ls m)
    → LinkFallsTo ls m (goes (rounds_of grant rounds) m) h
any_falls [] steps grant k m ls same g many given may on h = record { left = h; falls = omega arith }
any_falls (polls ∷ more) steps grant k m ls same g many given may on h =
    let round = round_of grant polls in
    let n = goes round m in
    let one : LinkFallsTo ls m n h =
    subst (λ (x : Link). (e : AllMeasured ls x) → LinkFallsTo ls x (goes (round_of grant polls) x) e) same
    (round_falls ls steps grant polls k g many given may on) h in
    let longer : 8 ≤ ttis (steps ++ round) = omega (arith, many, ttis_more steps round) in
    let rest = any_falls more (steps ++ round) grant k n ls (goes_then steps round k ∙ ap (goes round) same)
    (drain_then steps round g (round_drains grant polls given)) longer given may on one.left in
    subst (λ (x : Link). LinkFallsTo ls m x h) (sym (goes_then round (rounds_of grant more) m))
    (record { left = rest.left; falls = omega (arith, rest.falls, one.falls) })

pub links_never_rise : (steps : List Step) (grant : ℕ) (rounds : List Bool) (k : Link) (ls : List ℕ)
    → AllByRecursion IsOfDrain steps → 8 ≤ ttis steps → IsOfDrain (Tti grant) → MayDrain k
    → AllByRecursion (IsChannelOn k) ls → (h : AllMeasured ls (goes steps k))
    → LinkFallsTo ls (goes steps k) (goes (rounds_of grant rounds) (goes steps k)) h
links_never_rise steps grant rounds k ls g many given may on h =
    any_falls rounds steps grant k (goes steps k) ls refl g many given may on h
