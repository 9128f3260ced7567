-- What the steps of two ends over the air make of both directions of a bearer of acknowledged data.
use Rattle.std.proofs.Common.{◌≡◌, ℕ, List, ap, sym, subst, ◌∙◌, arith}
use Rattle.bearer.specs.declared.flow.Flow.TheVariants.{Am}
use Rattle.bearer_types.specs.declared.config.BearerConfig.{BearerConfig}
use Rattle.eps_sec.specs.declared.Keys.{Keys}
use Rattle.l2_node.specs.End.{End}
use Rattle.l2_types.specs.declared.side.Side.{Side}
use Rattle.l2_types.specs.declared.side.Side.TheVariants.{Nb, Ue}
use Rattle.pdcp_sec.specs.Protection.{Protection}
use Rattle.law_bearer.specs.AmBearer.Calls.{IsIdle}
use Rattle.law_bearer.specs.AmBearer.Lives.{protection_at}
use Rattle.law_bearer.specs.AnyBearer.Calls.{Step as BearerStep, run_bearer, reached as bearer_reached}
use Rattle.law_words.specs.Arrivals.{AccountEntry, Account, no_account, account}
use Rattle.law_node.specs.Holding.{flow}
use Rattle.law_deliver.specs.AmFlow.Air.{outset}
use Rattle.law_deliver.specs.AmFlow.Pair.{BearerEnd, Pair, DataComes, StatusComes}
use Rattle.law_deliver.specs.AmDelivery.Lives.{LifeStep, lives as pair_lives, over}
use Rattle.law_deliver.specs.AmDelivery.Lives.{near_news_in, far_news_in, near_ups_in, far_ups_in}
use Rattle.law_deliver.specs.AmChannel.Arrival.{happened}
use Rattle.law_deliver.specs.AmChannel.Delivery.{AmEndsBeginAlike, steps_over, taken_at, ups_at}
use Rattle.law_deliver.specs.AmChannel.Lives.{AirStep, AreLiving, lives, end_at, all_calls}
use Rattle.law_deliver.proofs.AmDelivery.Accounts.{Agrees, told_of}
use Rattle.law_deliver.proofs.AmDelivery.Arrived.{handed_come, place_is, passed_come, next_missing}
use Rattle.law_deliver.proofs.AmDelivery.Beginning.{first_way}
use Rattle.law_deliver.proofs.AmDelivery.Coming.{comes_go_on}
use Rattle.law_deliver.proofs.AmDelivery.Delivering.{AllGoOn, from_the_first, begins_account}
use Rattle.law_deliver.proofs.AmDelivery.Joined.{Way, IsWay, JoinedPair, pdcp as way_pdcp}
use Rattle.law_deliver.proofs.AmDelivery.Joined.{Joins as WayJoins, Reports as WaysReport}
use Rattle.law_deliver.proofs.AmDelivery.Promises.{GoesOn, StepsGoOn}
use Rattle.law_deliver.proofs.AmDelivery.Reached.{ends_are_reached}
use Rattle.law_deliver.proofs.AmDelivery.Stepping.{steps_go_on}
use Rattle.law_deliver.proofs.AmChannel.Delivery.{first_of, stands_so, pair, begun, both_ends, walk, does_is, ups_is}
use Rattle.law_deliver.proofs.AmChannel.Delivery.{news_is}
use Rattle.law_deliver.proofs.AmChannel.Ends.{ends_go_by_calls, are_calls, all_go}
use Rattle.law_deliver.proofs.AmChannel.Pairs.{own}
use Rattle.law_given.specs.Joined.{Direction, IsDirection, Joins, Reports, IsTold, AreJoined}

-- ---- a direction

abbrev pub of_way : Way → Direction
of_way w = record {
  bits = w.bits;
  protection = w.protection;
  first = w.first;
  events = w.events;
  sending = w.sending;
  receiving = w.receiving;
  steps = w.steps;
}

pub is_direction : (c : BearerConfig) (w : Way) → IsWay w → w.bits ≡ c.pdcp_bits → w.first ≡ c.first
    → IsDirection c (of_way w)
is_direction c w h bits first = record {
  bits = bits;
  first = first;
  kind = h.kind;
  counts = h.first;
  events = h.events;
  steps = h.steps;
}

pub joins_so : (w : Way) (from to : BearerEnd) → WayJoins w from to → Joins (of_way w) from.bearer to.bearer
joins_so w from to j = record {
  sender_is = j.sender_is;
  receiver_is = j.receiver_is;
  rlc_sender_is = j.rlc_is.sender_is;
  rlc_receiver_is = j.rlc_is.receiver_is;
  stream_is = j.stream_is;
  passed_is = j.passed_is;
  whole_is = j.whole_is;
}

pub reports_so : (there back : Way) → WaysReport there back → Reports (of_way there) (of_way back)
reports_so there back h = record { owed = h.owed; sent = h.sent }

pub told_so : {told : List AccountEntry} (c : BearerConfig) (p : Protection) (w : Way) (from to : BearerEnd)
    (news ups : List (List ℕ))
    → IsWay w → WayJoins w from to → IsIdle to.bearer → GoesOn (first_way c p) w news ups told
    → IsTold (of_way w) (account told no_account) news ups
told_so {told} c p w from to news ups is j idle g =
    let a : Account = account told no_account in
    let k : Agrees a (way_pdcp w) (told_of w) = g.tells no_account (begins_account c p) in
    record {
      sdus_are = g.sdus_are;
      ups_are = g.ups_are;
      stream_is = k.given_are;
      whole_is = λ place. j.whole_is place ∙ sym (place_is w from to a place is j k);
      passed_is = record {
        from = omega arith;
        refused = place_is w from to a (way_pdcp w).passed is j k ∙ next_missing w from to is j idle;
        before = λ n le lt. place_is w from to a n is j k ∙ passed_come w from to n is j lt;
      };
      handed_is = λ count. handed_come w from to a count is j idle k;
    }

-- ---- both directions, from each end

-- what goes on by the same
pub goes_as : {told hs : List AccountEntry} (w v : Way) (news taken ups went : List (List ℕ)) → news ≡ taken
    → ups ≡ went
    → told ≡ hs
    → GoesOn w v news ups told → GoesOn w v taken went hs
goes_as {told} {hs} w v news taken ups went p q r g =
    subst (λ (l : List (List ℕ)). GoesOn w v l went hs) p
    (subst (λ (l : List (List ℕ)). GoesOn w v news l hs) q (subst (λ
    (l : List AccountEntry). GoesOn w v news ups l) r g))

module _ (l : ℕ) (c : BearerConfig) (nb ue : End) (xs : List AirStep) where
  -- both ways of a pair that the ends are
  abbrev pub joined_by : (p q : Protection) (last : Pair) (down up : Way)
      → flow l (end_at Nb (lives xs (outset nb ue))) ≡ Am last.near.bearer
      → flow l (end_at Ue (lives xs (outset nb ue))) ≡ Am last.far.bearer
      → JoinedPair c.pdcp_bits down up last
      → GoesOn (first_way c p) down (taken_at l Nb xs (outset nb ue)) (ups_at l Ue xs (outset nb ue))
      (happened c.pdcp_bits l Nb xs (outset nb ue))
      → GoesOn (first_way c q) up (taken_at l Ue xs (outset nb ue)) (ups_at l Nb xs (outset nb ue))
      (happened c.pdcp_bits l Ue xs (outset nb ue))
      → AreJoined l c nb ue Nb xs
  joined_by p q last down up one two j there back = record {
    one = last.near.bearer;
    two = last.far.bearer;
    one_data = j.near_data;
    two_data = j.far_data;
    one_idle = j.near_idle;
    two_idle = j.far_idle;
    one_is = one;
    two_is = two;
    there = of_way down;
    back = of_way up;
    there_is = is_direction c down j.down_is j.down_bits there.first;
    back_is = is_direction c up j.up_is j.up_bits back.first;
    there_joins = joins_so down last.near last.far j.down_joins;
    back_joins = joins_so up last.far last.near j.up_joins;
    there_reports = reports_so down up j.down_reports;
    back_reports = reports_so up down j.up_reports;
    there_told = told_so c p down last.near last.far _ _ j.down_is j.down_joins j.far_idle there;
    back_told = told_so c q up last.far last.near _ _ j.up_is j.up_joins j.near_idle back;
  }

  abbrev pub from_the_other : AreJoined l c nb ue Nb xs → AreJoined l c nb ue Ue xs
  from_the_other j = record {
    one = j.two;
    two = j.one;
    one_data = j.two_data;
    two_data = j.one_data;
    one_idle = j.two_idle;
    two_idle = j.one_idle;
    one_is = j.two_is;
    two_is = j.one_is;
    there = j.back;
    back = j.there;
    there_is = j.back_is;
    back_is = j.there_is;
    there_joins = j.back_joins;
    back_joins = j.there_joins;
    there_reports = j.back_reports;
    back_reports = j.there_reports;
    there_told = j.back_told;
    back_told = j.there_told;
  }

-- ---- two ends go on as both directions

pub all_steps : StepsGoOn
all_steps = steps_go_on (λ k bits out inn e o h. comes_go_on bits out inn e o (DataComes k) tt h)
    (λ k bits out inn e o h. comes_go_on bits out inn e o (StatusComes k) tt h)

module _ (l : ℕ) (c : BearerConfig) (keys : Keys) (nb ue : End) (h : AmEndsBeginAlike l c keys nb ue)
    (xs : List AirStep)
    (g : AreLiving l (outset nb ue) xs) where
  abbrev steps : List LifeStep
  steps = (walk l c keys nb ue h xs g).steps

  abbrev last : Pair
  last = pair_lives steps (pair l c keys nb ue h)

  ways : AllGoOn c.pdcp_bits (first_way c (protection_at c keys Nb)) (first_way c (protection_at c keys Ue))
      (pair l c keys nb ue h) steps
  ways = from_the_first all_steps c keys (first_of c keys Nb) (first_of c keys Ue) steps (both_ends l c keys nb ue h)
      (walk l c keys nb ue h xs g).living

  abbrev does : Side → List BearerStep
  does side = steps_over l (all_calls side xs (outset nb ue)) (end_at side (outset nb ue))

  pair_reaches : (side : Side) → bearer_reached c keys side (does side) ≡ Am (own side last).bearer
  pair_reaches Nb =
      ap (bearer_reached c keys Nb) (sym (does_is l c keys nb ue h Nb xs g))
      ∙ (ends_are_reached c keys (first_of c keys Nb) (first_of c keys Ue) steps (both_ends l c keys nb ue h)).nb_is
  pair_reaches Ue =
      ap (bearer_reached c keys Ue) (sym (does_is l c keys nb ue h Ue xs g))
      ∙ (ends_are_reached c keys (first_of c keys Nb) (first_of c keys Ue) steps (both_ends l c keys nb ue h)).ue_is

  pub reaches : (side : Side)
      → flow l (end_at side (lives xs (outset nb ue)))
      ≡ run_bearer (does side) (flow l (end_at side (outset nb ue)))
  reaches side =
      let e = end_at side (outset nb ue) in
      ap (flow l) (ends_go_by_calls nb ue side xs)
      ∙ (all_go side l e (all_calls side xs (outset nb ue)) (stands_so side l c keys e (begun l c keys nb ue h side))
      (are_calls l side xs (outset nb ue) g)).bearer_is

  last_is : (side : Side) → flow l (end_at side (lives xs (outset nb ue))) ≡ Am (own side last).bearer
  last_is side =
      reaches side ∙ ap (run_bearer (does side)) (begun l c keys nb ue h side).bearer_is ∙ pair_reaches side

  near_joined : AreJoined l c nb ue Nb xs
  near_joined =
      let p = pair l c keys nb ue h in
      let w = walk l c keys nb ue h xs g in
      joined_by l c nb ue xs (protection_at c keys Nb) (protection_at c keys Ue) last ways.down_after ways.up_after
      (last_is Nb) (last_is Ue) ways.joined
      (goes_as (first_way c (protection_at c keys Nb)) ways.down_after (over near_news_in w.steps p) _
      (over far_ups_in w.steps p) _ (news_is l c keys nb ue h Nb xs g) (ups_is l c keys nb ue h Ue xs g) w.down_is
      ways.down_goes)
      (goes_as (first_way c (protection_at c keys Ue)) ways.up_after (over far_news_in w.steps p) _
      (over near_ups_in w.steps p) _ (news_is l c keys nb ue h Ue xs g) (ups_is l c keys nb ue h Nb xs g) w.up_is
      ways.up_goes)

  joined : (from : Side) → AreJoined l c nb ue from xs
  joined Nb = near_joined
  joined Ue = from_the_other l c nb ue xs near_joined

pub bearers_are_joined : (l : ℕ) (c : BearerConfig) (keys : Keys) (nb ue : End) (from : Side) (steps : List AirStep)
    → AmEndsBeginAlike l c keys nb ue → AreLiving l (outset nb ue) steps → AreJoined l c nb ue from steps
bearers_are_joined l c keys nb ue from steps h g = joined l c keys nb ue h steps g from
