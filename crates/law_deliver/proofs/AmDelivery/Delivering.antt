-- Through lives both directions go on as two ways, so what goes up at an end are the SDUs that the other took first.
use Rattle.std.proofs.Common.{◌≡◌, ℕ, ◌-◌, List, [], ◌∷◌, ◌++◌, take, drop, append-nil, subst, refl, ap, sym}
use Rattle.std.proofs.Common.{◌∙◌}
use Rattle.std.proofs.lemmas.List.{take-append-drop}
use Rattle.std.specs.List.{AllByRecursion}
use Rattle.bearer.specs.Acknowledged.State.{State}
use Rattle.bearer_types.specs.declared.BearerConfig.{BearerConfig}
use Rattle.eps_sec.specs.declared.Keys.{Keys}
use Rattle.l2_types.specs.declared.Side.TheVariants.{Nb, Ue}
use Rattle.pdcp_rx.specs.State.{State as Receiving}
use Rattle.pdcp_sec.specs.Protection.{Protection}
use Rattle.law_bearer.specs.AmBearer.Calls.{IsIdle}
use Rattle.law_bearer.specs.AmBearer.Lives.{protection_at}
use Rattle.law_words.specs.Arrivals.{AccountEntry, Account, no_account, account}
use Rattle.law_words.specs.Lists.{AreFirstSdus}
use Rattle.law_pdcp.specs.AmPair.Expected.{IsExpected}
use Rattle.law_pdcp.proofs.AmPair.Laws.{expected}
use Rattle.law_deliver.specs.AmFlow.Pair.{BearerEnd, Pair, am_pair_outset}
use Rattle.law_deliver.specs.AmDelivery.Delivery.{IsPdcpFlow, AreBothEnds, BearersArePdcpFlows, DeliversInOrder}
use Rattle.law_deliver.specs.AmDelivery.Lives.{LifeStep, InLife, Restarts, lives_on, lives, IsLiving, AreLiving}
use Rattle.law_deliver.specs.AmDelivery.Lives.{far_ups_in, near_ups_in, near_news_in, far_news_in, over}
use Rattle.law_deliver.specs.AmDelivery.Arrival.{down_in, up_in, IsWhatCame, DeliversWhatCame}
use Rattle.law_deliver.proofs.AmDelivery.Accounts.{told_of, Agrees}
use Rattle.law_deliver.proofs.AmDelivery.Arrived.{is_what_came}
use Rattle.law_deliver.proofs.AmDelivery.Beginning.{first_way, begins_joined}
use Rattle.law_deliver.proofs.AmDelivery.Joined.{Way, IsWay, Joins, JoinedPair, pdcp}
use Rattle.law_deliver.proofs.AmDelivery.Lasting.{Lasts, lasts_so, lasts_then, IsOfLife, given_by, raised_by}
use Rattle.law_deliver.proofs.AmDelivery.Lasting.{confirmed_by, near_in, far_in}
use Rattle.law_deliver.proofs.AmDelivery.Promises.{GoesOn, BothGoOn, StepsGoOn, goes_then, goes_not}
use Rattle.law_deliver.proofs.AmDelivery.Restarting.{restarts_go_on}

-- ---- any steps

pub goes_once : StepsGoOn → (bits : ℕ) (down up : Way) (p : Pair) (x : LifeStep) → IsLiving p x
    → JoinedPair bits down up p → BothGoOn bits down up p x
goes_once steps bits down up p (InLife s) given h = steps bits down up p s h given.0 given.1
goes_once steps bits down up p (Restarts keys) given h = restarts_go_on bits down up p keys h

pub record AllGoOn (bits : ℕ) (down up : Way) (p : Pair) (xs : List LifeStep) : Type 0 where
  pub down_after : Way
  pub up_after : Way
  pub joined : JoinedPair bits down_after up_after (lives xs p)
  pub down_goes : GoesOn down down_after (over near_news_in xs p) (over far_ups_in xs p) (over down_in xs p)
  pub up_goes : GoesOn up up_after (over far_news_in xs p) (over near_ups_in xs p) (over up_in xs p)
  pub down_lasts : AllByRecursion IsOfLife xs
      → Lasts down down_after (over (near_in given_by) xs p) (over (far_in raised_by) xs p)
      (over (near_in confirmed_by) xs p)
  pub up_lasts : AllByRecursion IsOfLife xs
      → Lasts up up_after (over (far_in given_by) xs p) (over (near_in raised_by) xs p)
      (over (far_in confirmed_by) xs p)

pub all_go : StepsGoOn → (xs : List LifeStep) (bits : ℕ) (down up : Way) (p : Pair) → AreLiving p xs
    → JoinedPair bits down up p → AllGoOn bits down up p xs
all_go steps [] bits down up p given h = record {
  down_after = down;
  up_after = up;
  joined = h;
  down_goes = goes_not down;
  up_goes = goes_not up;
  down_lasts = λ in'. lasts_so down;
  up_lasts = λ in'. lasts_so up;
}
all_go steps (x ∷ xs) bits down up p given h =
    let one = goes_once steps bits down up p x given.0 h in
    let q = lives_on p x in
    let rest = all_go steps xs bits one.down_after one.up_after q given.1 one.joined in
    record {
      down_after = rest.down_after;
      up_after = rest.up_after;
      joined = rest.joined;
      down_goes = goes_then down one.down_after rest.down_after
          (near_news_in p x) (over near_news_in xs q) (far_ups_in p x) (over far_ups_in xs q) one.down_goes
          rest.down_goes;
      up_goes = goes_then up one.up_after rest.up_after
          (far_news_in p x) (over far_news_in xs q) (near_ups_in p x) (over near_ups_in xs q) one.up_goes rest.up_goes;
      down_lasts = λ in'.
          lasts_then down one.down_after rest.down_after (near_in given_by p x) (over (near_in given_by) xs q)
          (far_in raised_by p x) (over (far_in raised_by) xs q)
          (near_in confirmed_by p x) (over (near_in confirmed_by) xs q)
          (one.down_lasts in'.0) (rest.down_lasts in'.1);
      up_lasts = λ in'.
          lasts_then up one.up_after rest.up_after (far_in given_by p x) (over (far_in given_by) xs q)
          (near_in raised_by p x) (over (near_in raised_by) xs q)
          (far_in confirmed_by p x) (over (far_in confirmed_by) xs q)
          (one.up_lasts in'.0) (rest.up_lasts in'.1);
    }

pub from_the_first : StepsGoOn → (c : BearerConfig) (keys : Keys) (nb ue : State) (xs : List LifeStep)
    → AreBothEnds c keys nb ue → AreLiving (am_pair_outset nb ue) xs
    → AllGoOn c.pdcp_bits (first_way c (protection_at c keys Nb)) (first_way c (protection_at c keys Ue))
    (am_pair_outset nb ue) xs
from_the_first steps c keys nb ue xs h given =
    all_go steps xs c.pdcp_bits (first_way c (protection_at c keys Nb)) (first_way c (protection_at c keys Ue))
    (am_pair_outset nb ue) given (begins_joined c keys nb ue h)

-- ---- a direction is a flow of PDCP

way_flow : (w : Way) (from to : BearerEnd) → IsWay w → Joins w from to
    → IsPdcpFlow w.bits w.protection w.first from.bearer to.bearer (pdcp w).sdus (pdcp w).up
way_flow w from to is j = record {
  events = w.events;
  given = is.events;
  sender_is = j.sender_is;
  receiver_is = j.receiver_is;
  sdus_are = refl;
  ups_are = refl;
}

flow_from : {told : List AccountEntry} (c : BearerConfig) (p : Protection) (w : Way) (from to : BearerEnd)
    (news ups : List (List ℕ)) → IsWay w → Joins w from to
    → GoesOn (first_way c p) w news ups told → IsPdcpFlow c.pdcp_bits p c.first from.bearer to.bearer news ups
flow_from c p w from to news ups is j g =
    subst (λ (bits : ℕ). IsPdcpFlow bits p c.first from.bearer to.bearer news ups) g.bits
    (subst (λ (q : Protection). IsPdcpFlow w.bits q c.first from.bearer to.bearer news ups) g.protection
    (subst (λ (first : ℕ). IsPdcpFlow w.bits w.protection first from.bearer to.bearer news ups) g.first
    (subst (λ (l : List (List ℕ)). IsPdcpFlow w.bits w.protection w.first from.bearer to.bearer l ups) g.sdus_are
    (subst (λ (l : List (List ℕ)). IsPdcpFlow w.bits w.protection w.first from.bearer to.bearer (pdcp w).sdus l)
    g.ups_are (way_flow w from to is j)))))

pub are_pdcp_flows : StepsGoOn → BearersArePdcpFlows
are_pdcp_flows steps c keys nb ue xs h given =
    let r = from_the_first steps c keys nb ue xs h given in
    let p = am_pair_outset nb ue in
    let q = lives xs p in
    record {
      down = flow_from c (protection_at c keys Nb) r.down_after q.near q.far (over near_news_in xs p)
          (over far_ups_in xs p) r.joined.down_is r.joined.down_joins r.down_goes;
      up = flow_from c (protection_at c keys Ue) r.up_after q.far q.near (over far_news_in xs p)
          (over near_ups_in xs p) r.joined.up_is r.joined.up_joins r.up_goes;
    }

-- ---- what went up of it

front_of : (w : Way) (from to : BearerEnd) → IsWay w → Joins w from to → IsIdle to.bearer
    → AreFirstSdus (pdcp w).up (pdcp w).sdus
front_of w from to is j idle =
    let f = pdcp w in
    let e : IsExpected (pdcp w) = expected w.bits w.protection w.first w.events is.kind is.first is.events in
    let n = f.receiver.next - f.first in
    let none : f.receiver.ready ≡ [] = ap (λ (r : Receiving). r.ready) j.receiver_is ∙ idle.raised in
    let up : f.up ≡ take n f.sdus = sym (append-nil f.up) ∙ ap (λ (l : List (List ℕ)). f.up ++ l) (sym none)
    ∙ e.delivered in
    record {
      rest = drop n f.sdus;
      is = sym (take-append-drop n f.sdus)
          ∙ ap (λ (l : List (List ℕ)). l ++ drop n f.sdus) (sym up);
    }

front_from : {told : List AccountEntry} (c : BearerConfig) (p : Protection) (w : Way) (news ups : List (List ℕ))
    → GoesOn (first_way c p) w news ups told
    → AreFirstSdus (pdcp w).up (pdcp w).sdus
    → AreFirstSdus ups news
front_from c p w news ups g h =
    subst (λ (l : List (List ℕ)). AreFirstSdus ups l) g.sdus_are
    (subst (λ (l : List (List ℕ)). AreFirstSdus l (pdcp w).sdus) g.ups_are h)

pub delivers_in_order : StepsGoOn → DeliversInOrder
delivers_in_order steps c keys nb ue xs h given =
    let r = from_the_first steps c keys nb ue xs h given in
    let j = r.joined in
    let p = am_pair_outset nb ue in
    let q = lives xs p in
    record {
      down = front_from c (protection_at c keys Nb) r.down_after (over near_news_in xs p) (over far_ups_in xs p)
          r.down_goes
          (front_of r.down_after q.near q.far j.down_is j.down_joins j.far_idle);
      up = front_from c (protection_at c keys Ue) r.up_after (over far_news_in xs p) (over near_ups_in xs p) r.up_goes
          (front_of r.up_after q.far q.near j.up_is j.up_joins j.near_idle);
    }

-- ---- none that has come is held back

pub begins_account : (c : BearerConfig) (p : Protection)
    → Agrees no_account (pdcp (first_way c p)) (told_of (first_way c p))
begins_account c p = record { given_are = refl; rlc_is = refl; handed_are = λ count. refl }

what_came_from : {told : List AccountEntry} (c : BearerConfig) (p : Protection) (w : Way) (from to : BearerEnd)
    (news ups : List (List ℕ)) → IsWay w → Joins w from to
    → IsIdle to.bearer
    → GoesOn (first_way c p) w news ups told → IsWhatCame c.first (account told no_account) news ups
what_came_from {told} c p w from to news ups is j idle g =
    let a : Account = account told no_account in
    let k : Agrees a (pdcp w) (told_of w) = g.tells no_account (begins_account c p) in
    subst (λ (first : ℕ). IsWhatCame first a news ups) g.first
    (subst (λ (l : List (List ℕ)). IsWhatCame w.first a l ups) g.sdus_are
    (subst (λ (l : List (List ℕ)). IsWhatCame w.first a (pdcp w).sdus l) g.ups_are
    (is_what_came w from to a is j idle k)))

pub delivers_what_came : StepsGoOn → DeliversWhatCame
delivers_what_came steps c keys nb ue xs h given =
    let r = from_the_first steps c keys nb ue xs h given in
    let j = r.joined in
    let p = am_pair_outset nb ue in
    let q = lives xs p in
    record {
      down = what_came_from c (protection_at c keys Nb) r.down_after q.near q.far (over near_news_in xs p)
          (over far_ups_in xs p) j.down_is j.down_joins j.far_idle r.down_goes;
      up = what_came_from c (protection_at c keys Ue) r.up_after q.far q.near (over far_news_in xs p)
          (over near_ups_in xs p) j.up_is j.up_joins j.near_idle r.up_goes;
    }
