-- From life to life.
use Rattle.std.proofs.Common.{ℕ, List, [], ◌∷◌}
use Rattle.bearer.specs.Acknowledged.State.{State}
use Rattle.bearer_types.specs.declared.BearerConfig.{BearerConfig}
use Rattle.eps_sec.specs.declared.Keys.{Keys}
use Rattle.law_deliver.specs.AmFlow.Pair.{Pair, am_pair_outset}
use Rattle.law_deliver.specs.SrbDelivery.Life.{near_ups, far_ups, near_submits, far_submits}
use Rattle.law_deliver.specs.SrbDelivery.Lives.{renewed_bearer, AreBothEnds, LifeStep, InLife, Restarts, lives_on}
use Rattle.law_deliver.specs.SrbDelivery.Lives.{lives}
use Rattle.law_deliver.specs.SrbDelivery.Lives.{IsLiving, AreLiving, since_by, since, AreOfThisLife}
use Rattle.law_deliver.specs.SrbDelivery.Arrival.{there_in, back_in}
use Rattle.law_deliver.proofs.SrbDelivery.Joined.{Way, with_told}
use Rattle.law_deliver.proofs.SrbDelivery.Laws.{BothWays, way, begin_both, step_on, front_of, all_of}
use Rattle.law_deliver.proofs.SrbDelivery.Renewing.{both_anew, first_life_begins}

-- in the running life
record Lives (p : Pair) (near_sent far_up far_sent near_up : List (List ℕ)) : Type 0 where
  there : Way
  back : Way
  ways : BothWays there back p near_sent far_up far_sent near_up

one_lives : (p : Pair) (x : LifeStep) (ns fu fs nu : List (List ℕ)) → IsLiving p x → Lives p ns fu fs nu
    → Lives (lives_on p x) (since_by near_submits ns p x) (since_by far_ups fu p x) (since_by far_submits fs p x)
    (since_by near_ups nu p x)
one_lives p (InLife s) ns fu fs nu g h =
    record {
      there = with_told (there_in p s) h.there;
      back = with_told (back_in p s) h.back;
      ways = step_on h.there h.back p s ns fu fs nu g.0 g.1 h.ways;
    }
one_lives p (Restarts keys) ns fu fs nu g h =
    let near = renewed_bearer p.near.bearer keys in
    let far = renewed_bearer p.far.bearer keys in
    record {
      there = way near far;
      back = way far near;
      ways = begin_both near far (both_anew h.there h.back p ns fu fs nu keys h.ways).both;
    }

all_live : (xs : List LifeStep) (p : Pair) (ns fu fs nu : List (List ℕ)) → AreLiving p xs → Lives p ns fu fs nu
    → Lives (lives xs p) (since near_submits ns xs p) (since far_ups fu xs p) (since far_submits fs xs p)
    (since near_ups nu xs p)
all_live [] p ns fu fs nu g h = h
all_live (x ∷ xs) p ns fu fs nu g h =
    all_live xs (lives_on p x) (since_by near_submits ns p x) (since_by far_ups fu p x) (since_by far_submits fs p x)
    (since_by near_ups nu p x) g.1 (one_lives p x ns fu fs nu g.0 h)

pub delivers_in_each_life : (c : BearerConfig) (keys : Keys) (nb ue : State) (steps : List LifeStep)
    → AreBothEnds c keys nb ue → AreLiving (am_pair_outset nb ue) steps
    → AreOfThisLife nb ue steps
delivers_in_each_life c keys nb ue steps h g =
    let p = am_pair_outset nb ue in
    let q = lives steps p in
    let ns = since near_submits [] steps p in
    let fu = since far_ups [] steps p in
    let fs = since far_submits [] steps p in
    let nu = since near_ups [] steps p in
    let l =
    all_live steps p [] [] [] [] g (record {
      there = way nb ue;
      back = way ue nb;
      ways = begin_both nb ue (first_life_begins c keys nb ue h);
    }) in
    record {
      down = front_of l.there q.near q.far ns fu l.ways.out;
      up = front_of l.back q.far q.near fs nu l.ways.inn;
      all_down = λ d. all_of l.there q.near q.far ns fu l.ways.out d;
      all_up = λ d. all_of l.back q.far q.near fs nu l.ways.inn d;
    }
