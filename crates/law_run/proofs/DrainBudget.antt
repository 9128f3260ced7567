-- The measure of a link behind the first TTIs of a drain, by what is left as they begin.
use Rattle.std.proofs.Common.{◌≡◌, ◌≤◌, ◌<◌, ℕ, zero, suc, ◌+◌, ◌-◌, ◌*◌, ◌^◌, ◌==◌, Bool}
use Rattle.std.proofs.Common.{true, false, if◌then◌else◌, List, [], ◌∷◌, ◌++◌, length, map, Option, refl, ap, sym}
use Rattle.std.proofs.Common.{subst}
use Rattle.std.proofs.Common.{◌∙◌, arith}
use Rattle.std.proofs.lemmas.Bool.Decides.{nat_tests}
use Rattle.std.specs.List.{AllByRecursion}
use Rattle.std.specs.Prelude.{min}
use Rattle.air_link.specs.Draining.{count, drain_tti}
use Rattle.air_link.specs.Link.{Link}
use Rattle.air_run.specs.Draining.{shown, ttis, budget}
use Rattle.bearer.specs.Acknowledged.Sums.{left as am_left}
use Rattle.bearer.specs.Bearer.{Of, Life}
use Rattle.bearer.specs.Sums.{left as flow_left}
use Rattle.bearer.specs.declared.flow.Flow.{Flow}
use Rattle.bearer.specs.declared.flow.Flow.TheVariants.{Tm, Um, Am}
use Rattle.harq.specs.declared.sender.Visit.{Visit}
use Rattle.harq.specs.declared.sender.Visit.TheVariants.{New, Resend, Silent}
use Rattle.l2_node.specs.Building.{visit, visited}
use Rattle.l2_node.specs.End.{End, fresh}
use Rattle.l2_node.specs.Finding.{has}
use Rattle.l2_node.specs.Sums.{left as end_left, all_left}
use Rattle.l2_num.specs.Ascending.{IsAscending}
use Rattle.l2_types.specs.declared.event.Clock.{Clock}
use Rattle.l2_types.specs.declared.side.Side.{Side}
use Rattle.l2_types.specs.declared.side.Side.TheVariants.{Nb, Ue}
use Rattle.bearer_types.specs.Sides.{heard_by}
use Rattle.prioritise.specs.Channels.{has as has_channel}
use Rattle.promises.specs.Pdus.{carried}
use Rattle.law_bearer.specs.AnyBearer.Calls.{Call, Take, Arrive, Expire as Expires, after, after_all}
use Rattle.law_node.specs.Calls.{Turn, Call as EndCall, SetVisits, SetReports, Add, Submit, SetDiscard, Tick}
use Rattle.law_node.specs.Calls.{TickBuckets, Visits, Grants, Granted, Assigned, Pass, Receive, Expire, Move}
use Rattle.law_node.specs.Calls.{IsGiven as IsGivenTo, AreGiven, after as after_call, run_end}
use Rattle.law_node.specs.Holding.{flow}
use Rattle.law_node.proofs.Holding.{flow_at}
use Rattle.law_deliver.specs.AmFlow.Channels.{only, share_of, held_of, calls_of, takes_of, GoesOnInLife}
use Rattle.law_deliver.proofs.AmFlow.Channels.{calls_reach_bearers}
use Rattle.law_deliver.proofs.AmFlow.Places.{has_behind, flow_behind}
use Rattle.law_drain.specs.Bearer.{IsOfDrain as IsCallOfDrain}
use Rattle.law_drain.specs.Channels.{OffersIn, Measured, channel_measure}
use Rattle.law_drain.specs.Left.{StandsIn, uncut_left, both_stand, OffersAlong, EndFallsTo}
use Rattle.law_drain.proofs.Few.{end_measures_are_few}
use Rattle.law_drain.proofs.Left.{end_measures_are_left, channels_are_ends, ends_never_rise}
use Rattle.law_run.specs.AnyCalls.Zero.{HasCome, HaveCome}
use Rattle.law_run.specs.DrainTtis.{Step, Tti, ReceiversExpire, SendersExpire, goes}
use Rattle.law_run.specs.DrainRounds.{IsOfDrain, MayDrain}
use Rattle.law_run.proofs.AnyCalls.Going.{run_on, given_on}
use Rattle.law_run.proofs.DrainRounds.Staying.{step_stays}
use Rattle.law_run.proofs.TwoEnds.Lives.{stays_there}
use Rattle.law_run.specs.DrainBudget.{IsTtiOfDrain, all_uncut, IsMeasuredWithin, MeasuresAreLeft}
use Rattle.law_run.specs.DrainBudget.{CountsEnd, HaveCounts, BudgetsSuffice, LinesHaveBudgets}
use Rattle.law_run.specs.DrainLinks.{AllMeasured, link_measure, IsChannelOn}
use Rattle.law_run.proofs.DrainCalls.{IsDraining, EndDrains, BothDrain, tti_drains, both_then, both_rest}
use Rattle.law_run.proofs.DrainFew.{come_few}
use Rattle.law_run.proofs.DrainFits.{come_fits}
use Rattle.law_run.proofs.DrainFlows.{Standing, come_stands}
use Rattle.law_run.proofs.DrainLinks.{offers_in}

-- ---- what a call of an end is to its bearer of a channel

in_life : (l : ℕ) (c : EndCall) → IsDraining c → GoesOnInLife l c
in_life l (SetVisits maximum) d = absurd d
in_life l (SetReports reports) d = absurd d
in_life l (Add config keys) d = absurd d
in_life l (Submit lcid sdu) d = absurd d
in_life l (SetDiscard lcid ttis) d = absurd d
in_life l Tick d = absurd d
in_life l TickBuckets d = record { adds_none = refl; moves_none = refl }
in_life l (Visits t) d = record { adds_none = refl; moves_none = refl }
in_life l (Grants tti) d = record { adds_none = refl; moves_none = refl }
in_life l (Granted tti good) d = record { adds_none = refl; moves_none = refl }
in_life l (Assigned tti ndi good) d = record { adds_none = refl; moves_none = refl }
in_life l (Pass tti) d = record { adds_none = refl; moves_none = refl }
in_life l (Receive block) d = record { adds_none = refl; moves_none = refl }
in_life l (Expire lcid clock) d = record { adds_none = refl; moves_none = refl }
in_life l (Move keys) d = absurd d

-- calls of a drain, and where it takes each PDU of its PDCP has an octet
record MayCall (f : Flow) (cs : List Call) : Type 0 where
  drain : AllByRecursion IsCallOfDrain cs
  offers : OffersAlong cs f

arrivals_may : (f : Flow) (pdus : List (List ℕ)) → MayCall f (map (λ pdu. Arrive pdu) pdus)
arrivals_may f [] = record { drain = tt; offers = tt }
arrivals_may f (p ∷ ps) =
    let rest = arrivals_may (after f (Arrive p)) ps in
    record { drain = (tt, rest.drain); offers = (tt, rest.offers) }

take_may : (b : Bool) (share : ℕ) (held : Option ℕ) (f : Flow) → OffersIn f → MayCall f (only b (Take share held))
take_may true share held f offers = record { drain = (tt, tt); offers = (offers, tt) }
take_may false share held f offers = record { drain = tt; offers = tt }

takes_may : (v : Visit) (t : Turn) (e : End) (l : ℕ) (f : Flow) → OffersIn f → MayCall f (takes_of v t e l)
takes_may New t e l f offers =
    take_may (has_channel l e.buckets.channels) (share_of e t.grant l) (held_of e l) f offers
takes_may (Resend rv) t e l f offers = record { drain = tt; offers = tt }
takes_may Silent t e l f offers = record { drain = tt; offers = tt }

one_may : (b : Bool) (f : Flow) (clock : Clock) → MayCall f (only b (Expires clock))
one_may true f clock = record { drain = (tt, tt); offers = (tt, tt) }
one_may false f clock = record { drain = tt; offers = tt }

calls_may : (l : ℕ) (e : End) (c : EndCall) → IsDraining c → OffersIn (flow l e) → MayCall (flow l e) (calls_of l e c)
calls_may l e (SetVisits maximum) d offers = absurd d
calls_may l e (SetReports reports) d offers = absurd d
calls_may l e (Add config keys) d offers = absurd d
calls_may l e (Submit lcid sdu) d offers = absurd d
calls_may l e (SetDiscard lcid ttis) d offers = absurd d
calls_may l e Tick d offers = absurd d
calls_may l e TickBuckets d offers = record { drain = tt; offers = tt }
calls_may l e (Visits t) d offers =
    takes_may (visit t.tti t.order e) t (visited t.tti t.order e) l (flow l e) offers
calls_may l e (Grants tti) d offers = record { drain = tt; offers = tt }
calls_may l e (Granted tti good) d offers = record { drain = tt; offers = tt }
calls_may l e (Assigned tti ndi good) d offers = record { drain = tt; offers = tt }
calls_may l e (Pass tti) d offers = record { drain = tt; offers = tt }
calls_may l e (Receive block) d offers = arrivals_may (flow l e) (carried l (heard_by e.side) block)
calls_may l e (Expire lcid clock) d offers = one_may (lcid == l) (flow l e) clock
calls_may l e (Move keys) d offers = absurd d

-- ---- so what a bearer has still to send doesn't rise

end_after : (side : Side) (e : End) (c : EndCall) → IsGivenTo c → HasCome side e → HasCome side (after_call e c)
end_after side e c g h = record {
  maximum = h.maximum;
  reports = h.reports;
  calls = h.calls ++ c ∷ [];
  given = given_on h.calls (c ∷ []) h.given (g, tt);
  end_is = ap (λ (x : End). after_call x c) h.end_is ∙ sym (run_on h.calls (c ∷ []) (fresh side h.maximum h.reports));
}

there_after : (side : Side) (l : ℕ) (e : End) (c : EndCall) → IsGivenTo c → HasCome side e → has l e.bearers ≡ true
    → has l (after_call e c).bearers ≡ true
there_after side l e c g h there =
    stays_there side l (c ∷ []) e (record {
      maximum = h.maximum;
      reports = h.reports;
      past = h.calls;
      given = h.given;
      end_is = h.end_is;
    }) (g, tt) there

call_falls : (side : Side) (l : ℕ) (e : End) (c : EndCall) → HasCome side e → has l e.bearers ≡ true → IsGivenTo c
    → IsDraining c → (h : StandsIn (flow l e)) → EndFallsTo (flow l e) (flow l (after_call e c)) h
call_falls side l e c come there g d h =
    let at = subst (λ (x : End). has l x.bearers ≡ true) come.end_is there in
    let reach : flow l (after_call e c) ≡ after_all (flow l e) (calls_of l e c) =
    subst (λ (x : End). flow l (after_call x c) ≡ after_all (flow l x) (calls_of l x c)) (sym come.end_is)
    (calls_reach_bearers side come.maximum come.reports come.calls c l come.given g (in_life l c d) at) in
    let well = come_stands side e l come in
    let may = calls_may l e c d (offers_in well.lcid (flow l e) well.well.0) in
    subst (λ (f : Flow). EndFallsTo (flow l e) f h) (sym reach)
    (ends_never_rise (calls_of l e c) (flow l e) may.drain may.offers h)

calls_fall : (side : Side) (l : ℕ) (cs : List EndCall) (e : End) → HasCome side e → has l e.bearers ≡ true
    → AreGiven cs → AllByRecursion IsDraining cs → (h : StandsIn (flow l e))
    → EndFallsTo (flow l e) (flow l (run_end cs e)) h
calls_fall side l [] e come there g d h = record { left = h; falls = omega arith }
calls_fall side l (c ∷ cs) e come there g d h =
    let one = call_falls side l e c come there g.0 d.0 h in
    let rest = calls_fall side l cs (after_call e c) (end_after side e c g.0 come)
    (there_after side l e c g.0 come there) g.1 d.1 one.left in
    record { left = rest.left; falls = omega (arith, rest.falls, one.falls) }

end_falls : (side : Side) (l : ℕ) (e f : End) → EndDrains e f → HasCome side e → has l e.bearers ≡ true
    → (h : StandsIn (flow l e)) → EndFallsTo (flow l e) (flow l f) h
end_falls side l e f x come there h =
    subst (λ (y : End). EndFallsTo (flow l e) (flow l y) h) (sym x.end_is)
    (calls_fall side l x.calls e come there x.given x.draining h)

-- ---- over any TTIs

ttis_drain : (steps : List Step) (k : Link) → AllByRecursion IsTtiOfDrain steps → MayDrain k
    → BothDrain k (goes steps k)
ttis_drain [] k g may = both_rest k k refl refl
ttis_drain (Tti grant ∷ steps) k g may =
    let m = drain_tti grant k in
    both_then k m (goes steps m) (tti_drains grant k g.0.0 g.0.1 may)
    (ttis_drain steps m g.1 (step_stays (Tti grant) k g.0 may))
ttis_drain (ReceiversExpire ∷ steps) k g may = absurd g.0
ttis_drain (SendersExpire ∷ steps) k g may = absurd g.0

-- ---- one channel

as_stands : (f : Flow) → Standing f → StandsIn f
as_stands (Tm b) h = tt
as_stands (Um b) h = tt
as_stands (Am b) h = h

record ChannelWithin (nb ue nb' ue' : Flow) : Type 0 where
  measured : Measured nb' ue'
  within : channel_measure nb' ue' measured ≤ 594 * (uncut_left nb + uncut_left ue) + 406104
  few : CountsEnd nb → CountsEnd ue → channel_measure nb' ue' measured ≤ 2 ^ 55

channel_within : (l : ℕ) (k m : Link) → BothDrain k m → HaveCome k → IsChannelOn k l
    → ChannelWithin (flow l k.nb) (flow l k.ue) (flow l m.nb) (flow l m.ue)
channel_within l k m both come on =
    let n = as_stands (flow l k.nb) (come_stands Nb k.nb l come.nb).well.1 in
    let u = as_stands (flow l k.ue) (come_stands Ue k.ue l come.ue).well.1 in
    let x = end_falls Nb l k.nb m.nb both.nb come.nb on.1.0 n in
    let y = end_falls Ue l k.ue m.ue both.ue come.ue on.1.1 u in
    let parts = channels_are_ends (flow l m.nb) (flow l m.ue) x.left y.left in
    record {
      measured = both_stand (flow l m.nb) (flow l m.ue) x.left y.left;
      within = omega (
        arith,
        parts,
        x.falls,
        y.falls,
        end_measures_are_left (flow l k.nb) n (come_fits Nb k.nb l come.nb),
        end_measures_are_left (flow l k.ue) u (come_fits Ue k.ue l come.ue),
      );
      few = λ a b. omega (
        arith,
        parts,
        x.falls,
        y.falls,
        end_measures_are_few (flow l k.nb) n (come_few Nb k.nb l come.nb a),
        end_measures_are_few (flow l k.ue) u (come_few Ue k.ue l come.ue b),
      );
    }

-- ---- all channels

abbrev sum_on : List ℕ → (ℕ → ℕ) → ℕ
sum_on [] f = 0
sum_on (l ∷ ls) f = f l + sum_on ls f

sum_le : (ls : List ℕ) (f g : ℕ → ℕ) → ((l : ℕ) → f l ≤ g l) → sum_on ls f ≤ sum_on ls g
sum_le [] f g h = omega arith
sum_le (l ∷ ls) f g h = omega (arith, h l, sum_le ls f g h)

both_sum : (ls : List ℕ) (f g : ℕ → ℕ) → sum_on ls (λ l. f l + g l) ≡ sum_on ls f + sum_on ls g
both_sum [] f g = refl
both_sum (l ∷ ls) f g = omega (arith, both_sum ls f g)

-- of one number at most one is in a list that ascends
abbrev one_at : ℕ → ℕ → ℕ → ℕ
one_at lcid x l = if lcid == l then x else 0

none_above : (ls : List ℕ) (low lcid x : ℕ) → lcid < low → IsAscending low ls → sum_on ls (one_at lcid x) ≡ 0
none_above [] low lcid x lt a = refl
none_above (l ∷ ls) low lcid x lt a =
    let no : (lcid == l) ≡ false = grind (arith, nat_tests, lt, a.0) in
    let here : one_at lcid x l ≡ 0 = ap (λ (b : Bool). if b then x else 0) no in
    omega (arith, here, none_above ls (l + 1) lcid x (omega (arith, lt, a.0)) a.1)

one_sum : (ls : List ℕ) (low lcid x : ℕ) → IsAscending low ls → sum_on ls (one_at lcid x) ≤ x
one_sum [] low lcid x a = omega arith
one_sum (l ∷ ls) low lcid x a = by (lcid == l) refl (one_sum ls (l + 1) lcid x a.1)
  where
    by : (b : Bool) → (lcid == l) ≡ b → sum_on ls (one_at lcid x) ≤ x
        → (if b then x else 0) + sum_on ls (one_at lcid x) ≤ x
    by true e rest =
        let same : lcid ≡ l = grind (arith, nat_tests, e) in
        omega (arith, none_above ls (l + 1) lcid x (omega (arith, same)) a.1)
    by false e rest = omega (arith, rest)

-- a sum over channels is at most that over bearers
abbrev all_of : (Of Life → ℕ) → List (Of Life) → ℕ
all_of g [] = 0
all_of g (b ∷ bs) = g b + all_of g bs

no_sum : (f : ℕ → List (Of Life) → ℕ) → ((l : ℕ) → f l [] ≡ 0) → (ls : List ℕ) → sum_on ls (λ l. f l []) ≡ 0
no_sum f none [] = refl
no_sum f none (l ∷ ls) = omega (arith, none l, no_sum f none ls)

channels_most : (f : ℕ → List (Of Life) → ℕ) (g : Of Life → ℕ) → ((l : ℕ) → f l [] ≡ 0)
    → ((l : ℕ) (b : Of Life) (bs : List (Of Life)) → f l (b ∷ bs) ≤ one_at b.channel.lcid (g b) l + f l bs)
    → (ls : List ℕ) (bs : List (Of Life)) → IsAscending 0 ls → sum_on ls (λ l. f l bs) ≤ all_of g bs
channels_most f g none more ls [] a = omega (arith, no_sum f none ls)
channels_most f g none more ls (b ∷ bs) a = omega (
  arith,
  sum_le ls (λ l. f l (b ∷ bs)) (λ l. one_at b.channel.lcid (g b) l + f l bs) (λ l. more l b bs),
  both_sum ls (one_at b.channel.lcid (g b)) (λ l. f l bs),
  one_sum ls 0 b.channel.lcid (g b) a,
  channels_most f g none more ls bs a,
)

-- of what is left
left_more : (l : ℕ) (b : Of Life) (bs : List (Of Life))
    → uncut_left (flow_at l (b ∷ bs)) ≤ one_at b.channel.lcid (uncut_left b.state.flow) l + uncut_left (flow_at l bs)
left_more l b bs = by (b.channel.lcid == l) refl
  where
    by : (t : Bool) → (b.channel.lcid == l) ≡ t
        → uncut_left (flow_at l (b ∷ bs)) ≤ (if t then uncut_left b.state.flow else 0) + uncut_left (flow_at l bs)
    by true e = rw (flow_at, e) (omega arith)
    by false e = let same = ap uncut_left (flow_behind l b bs e) in omega (arith, same)

all_left_is : (bs : List (Of Life))
    → all_of (λ (b : Of Life). uncut_left b.state.flow) bs ≡ all_uncut bs
all_left_is [] = refl
all_left_is (b ∷ bs) = omega (arith, all_left_is bs)

left_most : (ls : List ℕ) (bs : List (Of Life)) → IsAscending 0 ls
    → sum_on ls (λ l. uncut_left (flow_at l bs)) ≤ all_uncut bs
left_most ls bs a =
    omega (
      arith,
      channels_most (λ l bs. uncut_left (flow_at l bs)) (λ b. uncut_left b.state.flow) (λ l. refl) left_more ls bs a,
      all_left_is bs,
    )

-- and of how many there are
abbrev one_if : Bool → ℕ
one_if true = 1
one_if false = 0

abbrev here : ℕ → List (Of Life) → ℕ
here l bs = one_if (has l bs)

here_more : (l : ℕ) (b : Of Life) (bs : List (Of Life)) → here l (b ∷ bs) ≤ one_at b.channel.lcid 1 l + here l bs
here_more l b bs = by (b.channel.lcid == l) refl
  where
    most : (t : Bool) → one_if t ≤ 1
    most true = omega arith
    most false = omega arith

    by : (t : Bool) → (b.channel.lcid == l) ≡ t → here l (b ∷ bs) ≤ (if t then 1 else 0) + here l bs
    by true e = omega (arith, most (has l (b ∷ bs)))
    by false e = let same = ap one_if (has_behind l b bs e) in omega (arith, same)

all_here_is : (bs : List (Of Life)) → all_of (λ (b : Of Life). 1) bs ≡ length bs
all_here_is [] = refl
all_here_is (b ∷ bs) = omega (arith, all_here_is bs)

all_here : (ls : List ℕ) (k : Link) → AllByRecursion (IsChannelOn k) ls
    → sum_on ls (λ l. here l k.nb.bearers) ≡ length ls
all_here [] k on = refl
all_here (l ∷ ls) k on =
    let one = ap one_if on.0.1.0 in
    omega (arith, one, all_here ls k on.1)

count_most : (ls : List ℕ) (k : Link) → IsAscending 0 ls → AllByRecursion (IsChannelOn k) ls → length ls ≤ count k
count_most ls k a on =
    omega (
      arith,
      channels_most here (λ b. 1) (λ l. refl) here_more ls k.nb.bearers a,
      all_here_is k.nb.bearers,
      all_here ls k on,
    )

-- ---- the link

record LinkWithin (ls : List ℕ) (k m : Link) : Type 0 where
  measured : AllMeasured ls m
  within : link_measure ls m measured
      ≤ 594 * (sum_on ls (λ l. uncut_left (flow l k.nb)) + sum_on ls (λ l. uncut_left (flow l k.ue)))
      + 406104 * length ls
  few : AllByRecursion (HaveCounts k) ls → link_measure ls m measured ≤ 2 ^ 55 * length ls

link_within : (ls : List ℕ) (k m : Link) → BothDrain k m → HaveCome k → AllByRecursion (IsChannelOn k) ls
    → LinkWithin ls k m
link_within [] k m both come on = record { measured = tt; within = omega arith; few = λ counts. omega arith }
link_within (l ∷ ls) k m both come on =
    let one = channel_within l k m both come on.0 in
    let rest = link_within ls k m both come on.1 in
    record {
      measured = (one.measured, rest.measured);
      within = omega (arith, one.within, rest.within);
      few = λ counts. omega (arith, one.few counts.0.0 counts.0.1, rest.few counts.1);
    }

-- there are at most 11 channels
eleven : (ls : List ℕ) (low : ℕ) (k : Link) → IsAscending low ls → AllByRecursion (IsChannelOn k) ls
    → length ls ≤ 11 - low
eleven [] low k a on = omega arith
eleven (l ∷ ls) low k a on = omega (arith, a.0, on.0.0, eleven ls (l + 1) k a.1 on.1)

pub measures_are_left : MeasuresAreLeft
measures_are_left steps k ls g may a on =
    let x = link_within ls k (goes steps k) (ttis_drain steps k g may) may.come on in
    record {
      measured = x.measured;
      within = omega (
        arith,
        x.within,
        left_most ls k.nb.bearers a,
        left_most ls k.ue.bearers a,
        count_most ls k a on,
      );
    }

-- ---- the budget of the line

-- a sum that is cut at what 64 bits hold is cut once
flow_most : (f : Flow) → min (uncut_left f) (2 ^ 64 - 1) ≤ flow_left f
unfolding flow_left am_left
flow_most (Tm b) = omega arith
flow_most (Um b) = omega arith
flow_most (Am b) = omega arith

all_most : (bs : List (Of Life)) (sum : ℕ) → min (sum + all_uncut bs) (2 ^ 64 - 1) ≤ all_left bs sum
all_most [] sum = omega arith
all_most (b ∷ bs) sum =
    omega (
      arith,
      flow_most b.state.flow,
      all_most bs (min (sum + flow_left b.state.flow) (2 ^ 64 - 1)),
    )

end_most : (e : End) → min (all_uncut e.bearers) (2 ^ 64 - 1) ≤ end_left e
unfolding end_left
end_most e = omega (arith, all_most e.bearers 0)

budget_within : (k m : Link) (ls : List ℕ) → BothDrain k m → MayDrain k → IsAscending 0 ls
    → AllByRecursion (IsChannelOn k) ls → AllByRecursion (HaveCounts k) ls → IsMeasuredWithin ls (budget k) m
budget_within k m ls both may a on counts =
    let x = link_within ls k m both may.come on in
    record {
      measured = x.measured;
      within = omega (
        arith,
        x.within,
        left_most ls k.nb.bearers a,
        left_most ls k.ue.bearers a,
        count_most ls k a on,
        x.few counts,
        eleven ls 0 k a on,
        end_most k.nb,
        end_most k.ue,
      );
    }

pub budgets_suffice : BudgetsSuffice
budgets_suffice steps k ls g may a on counts =
    budget_within k (goes steps k) ls (ttis_drain steps k g may) may a on counts

-- ---- behind the TTIs of a line, of which the records are written

shown_may : (k : Link) → MayDrain k → MayDrain (shown k)
shown_may k h = record {
  eight = h.eight;
  come = record { nb = h.come.nb; ue = h.come.ue };
  rests = record { none_waits = h.rests.none_waits; none_kept = h.rests.none_kept };
  off = h.off;
}

lines_drain : (n grant : ℕ) (k : Link) → IsOfDrain (Tti grant) → MayDrain k → BothDrain k (ttis n grant k).link
lines_drain zero grant k g may = both_rest k k refl refl
lines_drain (suc n) grant k g may =
    let m = drain_tti grant k in
    both_then k m (ttis n grant (shown m)).link (tti_drains grant k g.0 g.1 may)
    (both_then m (shown m) (ttis n grant (shown m)).link (both_rest m (shown m) refl refl)
    (lines_drain n grant (shown m) g (shown_may m (step_stays (Tti grant) k g may))))

pub lines_have_budgets : LinesHaveBudgets
lines_have_budgets n grant k ls g may a on counts =
    budget_within k (ttis n grant k).link ls (lines_drain n grant k g may) may a on counts
