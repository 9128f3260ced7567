-- Through the steps of a life both directions go on, so what has gone up is the front of what was submitted.
use Rattle.std.proofs.Common.{◌≡◌, ℕ, ◌+◌, ◌==◌, Bool, true, false, not, ◌&&◌, ◌||◌, List, [], ◌∷◌, ◌++◌, map, length}
use Rattle.std.proofs.Common.{is_some, slice_get, append-nil, append_assoc, length-append, refl, ap, sym, subst, ◌∙◌}
use Rattle.std.proofs.Common.{arith}
use Rattle.std.proofs.lemmas.Bool.Decides.{nat_tests}
use Rattle.law_rlc.specs.AmPair.Flow.{sender}
use Rattle.law_rlc.specs.AmPair.Sdus.{offered}
use Rattle.law_words.specs.Lists.{AreFirstSdus}
use Rattle.law_words.specs.Passing.{Passing, Told, nothing_told}
use Rattle.law_rlc.proofs.AmArrival.Telling.{told_then}
use Rattle.law_rlc.proofs.AmPair.Laws.{hands-up-all}
use Rattle.bearer.specs.Acknowledged.State.{State, has_more}
use Rattle.bearer.specs.Acknowledged.Sums.{is_drained}
use Rattle.law_bearer.specs.AmBearer.Calls.{IsIdle}
use Rattle.law_deliver.specs.AmDelivery.Drained.{IsDrained}
use Rattle.law_deliver.specs.AmDelivery.Ends.{submitted_by}
use Rattle.law_deliver.specs.AmDelivery.Lives.{calls_in, ups_by}
use Rattle.law_deliver.specs.AmFlow.Flows.{BeginsLife}
use Rattle.law_deliver.specs.AmFlow.Pair.{BearerEnd, Pair, Step, Near, Far, Passes, happens, goes, begins}
use Rattle.law_deliver.specs.AmFlow.Pair.{am_pair_outset}
use Rattle.law_deliver.specs.AmFlow.Pair.{IsGiven}
use Rattle.law_pdcp.specs.OneEnd.Lives.{queue}
use Rattle.pdcp_tx_store.specs.Waiting.{Waits}
use Rattle.pdcp_rx.specs.State.{State as Receiving}
use Rattle.pdcp_sec.specs.Protection.{Protection}
use Rattle.pdcp_tx.specs.State.{State as Sending, Offer, new_offers, left as pdcp_left}
use Rattle.rlc_am_tx.specs.Need.{left as rlc_left}
use Rattle.law_pdcp.specs.SrbPair.Flow.{SrbPdcpBeginAlike}
use Rattle.law_pdcp.proofs.SrbPair.Laws.{Hears, begins_sends}
use Rattle.law_pdcp.proofs.SrbPair.Sending.{offers_by}
use Rattle.law_deliver.specs.SrbDelivery.Delivery.{AreTheFront, AreAll}
use Rattle.law_deliver.specs.SrbDelivery.Life.{BothBegin, MayHappen, AreLived, near_ups, far_ups, near_submits}
use Rattle.law_deliver.specs.SrbDelivery.Life.{far_submits, over}
use Rattle.law_deliver.specs.SrbDelivery.Losses.{near_losses, far_losses, LoseNone}
use Rattle.bearer_types.specs.declared.Event.{Event}
use Rattle.law_deliver.proofs.SrbDelivery.Doing.{IsSignalling, Both, does_on, passes_on}
use Rattle.law_deliver.proofs.SrbDelivery.Going.{total}
use Rattle.law_deliver.specs.SrbDelivery.Arrival.{there_in, back_in}
use Rattle.law_deliver.proofs.SrbDelivery.Joined.{Way, with_told, flow_by, Joined}
use Rattle.law_deliver.proofs.SrbDelivery.Taking.{pdus_from}

-- ---- both ends

pub record BothWays (there back : Way) (p : Pair) (near_sent far_up far_sent near_up : List (List ℕ)) : Type 0 where
  pub out : Joined there p.near p.far near_sent far_up
  pub inn : Joined back p.far p.near far_sent near_up
  pub near_is : IsSignalling p.near.bearer
  pub far_is : IsSignalling p.far.bearer

from_near : (there back : Way) (p : Pair) (e : BearerEnd) (ns fu fs nu : List (List ℕ))
    → Both there back e p.far ns fu nu fs → BothWays there back (record p { near = e }) ns fu fs nu
from_near there back p e ns fu fs nu h =
    record { out = h.out_joins; inn = h.inn_joins; near_is = h.own; far_is = h.other }

from_far : (there back : Way) (p : Pair) (e : BearerEnd) (ns fu fs nu : List (List ℕ))
    → Both back there e p.near fs nu fu ns → BothWays there back (record p { far = e }) ns fu fs nu
from_far there back p e ns fu fs nu h =
    record { out = h.inn_joins; inn = h.out_joins; near_is = h.other; far_is = h.own }

-- what goes up nowhere
same_ways : (there back : Way) (p : Pair) (ns fu fs nu : List (List ℕ)) → BothWays there back p ns fu fs nu
    → BothWays there back p (ns ++ []) (fu ++ []) (fs ++ []) (nu ++ [])
same_ways there back p ns fu fs nu h =
    subst (λ l. BothWays there back p l (fu ++ []) (fs ++ []) (nu ++ [])) (sym (append-nil ns))
    (subst (λ l. BothWays there back p ns l (fs ++ []) (nu ++ [])) (sym (append-nil fu))
    (subst (λ l. BothWays there back p ns fu l (nu ++ [])) (sym (append-nil fs))
    (subst (BothWays there back p ns fu fs) (sym (append-nil nu)) h)))

near_end : (there back : Way) (p : Pair) (ns fu fs nu more news : List (List ℕ))
    → BothWays there back p (ns ++ more) fu fs (nu ++ news)
    → BothWays there back p (ns ++ more) (fu ++ []) (fs ++ []) (nu ++ news)
near_end there back p ns fu fs nu more news h =
    subst (λ l. BothWays there back p (ns ++ more) l (fs ++ []) (nu ++ news)) (sym (append-nil fu))
    (subst (λ l. BothWays there back p (ns ++ more) fu l (nu ++ news)) (sym (append-nil fs)) h)

far_end : (there back : Way) (p : Pair) (ns fu fs nu more news : List (List ℕ))
    → BothWays there back p ns (fu ++ news) (fs ++ more) nu
    → BothWays there back p (ns ++ []) (fu ++ news) (fs ++ more) (nu ++ [])
far_end there back p ns fu fs nu more news h =
    subst (λ l. BothWays there back p l (fu ++ news) (fs ++ more) (nu ++ [])) (sym (append-nil ns))
    (subst (BothWays there back p ns (fu ++ news) (fs ++ more)) (sym (append-nil nu)) h)

pub step_on : (there back : Way) (p : Pair) (s : Step) (ns fu fs nu : List (List ℕ)) → IsGiven p s → MayHappen p s
    → BothWays there back p ns fu fs nu
    → BothWays (with_told (there_in p s) there) (with_told (back_in p s) back) (happens p s) (ns ++ near_submits p s)
    (fu ++ far_ups p s) (fs ++ far_submits p s) (nu ++ near_ups p s)
step_on there back p (Near d) ns fu fs nu g may h =
    let out = with_told (there_in p (Near d)) there in
    let inn = with_told (back_in p (Near d)) back in
    near_end out inn (happens p (Near d)) ns fu fs nu (submitted_by (calls_in p.far d))
    (ups_by p.near.bearer (calls_in p.far d))
    (from_near out inn p (happens p (Near d)).near (ns ++ submitted_by (calls_in p.far d)) fu fs
    (nu ++ ups_by p.near.bearer (calls_in p.far d))
    (does_on there back p.near p.far ns fu nu fs d g may
    (record { out_joins = h.out; inn_joins = h.inn; own = h.near_is; other = h.far_is })).both)
step_on there back p (Far d) ns fu fs nu g may h =
    let out = with_told (there_in p (Far d)) there in
    let inn = with_told (back_in p (Far d)) back in
    far_end out inn (happens p (Far d)) ns fu fs nu (submitted_by (calls_in p.near d))
    (ups_by p.far.bearer (calls_in p.near d))
    (from_far out inn p (happens p (Far d)).far ns (fu ++ ups_by p.far.bearer (calls_in p.near d))
    (fs ++ submitted_by (calls_in p.near d)) nu
    (does_on back there p.far p.near fs nu fu ns d g may
    (record { out_joins = h.inn; inn_joins = h.out; own = h.far_is; other = h.near_is })).both)
step_on there back p Passes ns fu fs nu g may h =
    same_ways there back (happens p Passes) ns fu fs nu
    (record {
      out = passes_on there p.near p.far ns fu g.1 h.out;
      inn = passes_on back p.far p.near fs nu g.0 h.inn;
      near_is = h.near_is;
      far_is = h.far_is;
    })

-- ---- any steps

-- what is told, one behind the other
ways_as : (there back : Way) (a b c d : List Passing) (p : Pair) (ns fu fs nu : List (List ℕ))
    → BothWays (with_told b (with_told a there)) (with_told d (with_told c back)) p ns fu fs nu
    → BothWays (with_told (a ++ b) there) (with_told (c ++ d) back) p ns fu fs nu
ways_as there back a b c d p ns fu fs nu h =
    subst (λ (t : Told). BothWays (record there { told = t }) (with_told (c ++ d) back) p ns fu fs nu)
    (sym (told_then a b there.told))
    (subst (λ (t : Told). BothWays (with_told b (with_told a there)) (record back { told = t }) p ns fu fs nu)
    (sym (told_then c d back.told)) h)

more_on : (there back : Way) (p : Pair) (ns a b fu c d fs e f nu g k : List (List ℕ))
    → BothWays there back p ((ns ++ a) ++ b) ((fu ++ c) ++ d) ((fs ++ e) ++ f) ((nu ++ g) ++ k)
    → BothWays there back p (ns ++ (a ++ b)) (fu ++ (c ++ d)) (fs ++ (e ++ f)) (nu ++ (g ++ k))
more_on there back p ns a b fu c d fs e f nu g k h =
    subst (λ l. BothWays there back p l (fu ++ (c ++ d)) (fs ++ (e ++ f)) (nu ++ (g ++ k))) (append_assoc ns a b)
    (subst (λ l. BothWays there back p ((ns ++ a) ++ b) l (fs ++ (e ++ f)) (nu ++ (g ++ k))) (append_assoc fu c d)
    (subst (λ l. BothWays there back p ((ns ++ a) ++ b) ((fu ++ c) ++ d) l (nu ++ (g ++ k))) (append_assoc fs e f)
    (subst (λ l. BothWays there back p ((ns ++ a) ++ b) ((fu ++ c) ++ d) ((fs ++ e) ++ f) l) (append_assoc nu g k) h)))

pub steps_on : (there back : Way) (ss : List Step) (p : Pair) (ns fu fs nu : List (List ℕ)) → AreLived p ss
    → BothWays there back p ns fu fs nu
    → BothWays (with_told (over there_in ss p) there) (with_told (over back_in ss p) back) (goes ss p)
    (ns ++ over near_submits ss p) (fu ++ over far_ups ss p) (fs ++ over far_submits ss p)
    (nu ++ over near_ups ss p)
steps_on there back [] p ns fu fs nu g h = same_ways there back p ns fu fs nu h
steps_on there back (s ∷ ss) p ns fu fs nu g h =
    let q = happens p s in
    let out = with_told (over there_in (s ∷ ss) p) there in
    let inn = with_told (over back_in (s ∷ ss) p) back in
    more_on out inn (goes ss q) ns (near_submits p s) (over near_submits ss q) fu (far_ups p s) (over far_ups ss q)
    fs (far_submits p s) (over far_submits ss q) nu (near_ups p s) (over near_ups ss q)
    (ways_as there back (there_in p s) (over there_in ss q) (back_in p s) (over back_in ss q) (goes ss q)
    ((ns ++ near_submits p s) ++ over near_submits ss q) ((fu ++ far_ups p s) ++ over far_ups ss q)
    ((fs ++ far_submits p s) ++ over far_submits ss q) ((nu ++ near_ups p s) ++ over near_ups ss q)
    (steps_on (with_told (there_in p s) there) (with_told (back_in p s) back) ss q (ns ++ near_submits p s)
    (fu ++ far_ups p s) (fs ++ far_submits p s) (nu ++ near_ups p s) g.1
    (step_on there back p s ns fu fs nu g.0.0 g.0.1 h)))

-- ---- as the life begins

abbrev pub way : State → State → Way
way from to = record {
  first = from.pdcp.tx.next;
  protection = from.pdcp.tx.protection;
  sending = from.tx_config;
  receiving = to.rx_config;
  told = nothing_told;
}

begins_hears : (s : Sending) (r : Receiving) → SrbPdcpBeginAlike s r → Hears s.next s.protection 0 r
begins_hears s r h = record { srb = h.hears; key = h.key; none_held = h.none_held; next = omega (arith, h.awaited) }

joined_first : (from to : State) → BeginsLife from → BeginsLife to → SrbPdcpBeginAlike from.pdcp.tx to.pdcp.rx
    → Joined (way from to) (begins from) (begins to) [] []
joined_first from to h k b = record {
  steps = [];
  given = tt;
  is = record {
    sender_is = sym h.sends;
    receiver_is = sym k.hears;
    copies_are = refl;
    reports_are = refl;
    busy_is = refl;
  };
  later = [];
  sends = begins_sends from.pdcp.tx to.pdcp.rx b;
  offered_is = refl;
  total_is = refl;
  hears = begins_hears from.pdcp.tx to.pdcp.rx b;
  told_is = refl;
  submitted_is = ap (λ (l : List Waits). map (λ (w : Waits). w.sdu) l) (sym b.none_waits);
}

begins_idle : (b : State) → BeginsLife b → b.pdcp.rx.ready ≡ [] → IsIdle b
begins_idle b h q = record {
  heard = ap (λ r. r.out.ready) h.hears;
  raised = q;
  confirmed = ap (λ s. s.accounts.news) h.sends;
}

pub begin_both : (near far : State) → BothBegin near far
    → BothWays (way near far) (way far near) (am_pair_outset near far) [] [] [] []
begin_both near far h = record {
  out = joined_first near far h.near_life h.far_life h.there;
  inn = joined_first far near h.far_life h.near_life h.back;
  near_is = record { kind = h.near_kind; idle = begins_idle near h.near_life h.back.none_ready };
  far_is = record { kind = h.far_kind; idle = begins_idle far h.far_life h.there.none_ready };
}

-- the ways behind steps
abbrev pub way_there : State → State → List Step → Way
way_there near far steps = with_told (over there_in steps (am_pair_outset near far)) (way near far)

abbrev pub way_back : State → State → List Step → Way
way_back near far steps = with_told (over back_in steps (am_pair_outset near far)) (way far near)

pub lived : (near far : State) (steps : List Step) → BothBegin near far → AreLived (am_pair_outset near far) steps
    → BothWays (way_there near far steps) (way_back near far steps) (goes steps (am_pair_outset near far))
    (over near_submits steps (am_pair_outset near far)) (over far_ups steps (am_pair_outset near far))
    (over far_submits steps (am_pair_outset near far)) (over near_ups steps (am_pair_outset near far))
lived near far steps h g =
    steps_on (way near far) (way far near) steps (am_pair_outset near far) [] [] [] [] g (begin_both near far h)

-- ---- the laws

pub front_of : (w : Way) (from to : BearerEnd) (sent up : List (List ℕ)) → Joined w from to sent up
    → AreFirstSdus up sent
front_of w from to sent up j =
    record {
      rest = j.later ++ queue from.bearer.pdcp.tx;
      is = j.submitted_is ∙ append_assoc up j.later (queue from.bearer.pdcp.tx);
    }

pub delivers_front : (near far : State) (steps : List Step) → BothBegin near far
    → AreLived (am_pair_outset near far) steps
    → AreTheFront near far steps
delivers_front near far steps h g =
    let l = lived near far steps h g in
    let q = goes steps (am_pair_outset near far) in
    record {
      there = front_of (way_there near far steps) q.near q.far (over near_submits steps (am_pair_outset near far))
          (over far_ups steps (am_pair_outset near far)) l.out;
      back = front_of (way_back near far steps) q.far q.near (over far_submits steps (am_pair_outset near far))
          (over near_ups steps (am_pair_outset near far)) l.inn;
    }

-- ---- where nothing is left

drained_parts : (f m : Bool) (p r : ℕ) → (f || ((p == 0) && (r == 0) && not m)) ≡ true → f ≡ false
    → (r ≡ 0) × (m ≡ false)
drained_parts f m p r e u = (grind (arith, nat_tests), grind (arith, nat_tests))

record NoneLeft (b : State) : Type 0 where
  rlc_none : rlc_left b.tx ≡ 0
  no_more : has_more b.pdcp ≡ false

none_left : (b : State) → IsDrained b → NoneLeft b
unfolding is_drained
none_left b h =
    let parts = drained_parts b.tx.failed (has_more b.pdcp) (pdcp_left b.pdcp.tx) (rlc_left b.tx) h.drained h.unfailed
    in
    record { rlc_none = parts.0; no_more = parts.1 }

none_offered : (n : ℕ) (ws : List Waits) → is_some (slice_get (new_offers n ws) 0) ≡ false
    → map (λ (w : Waits). w.sdu) ws ≡ []
none_offered n [] e = refl
none_offered n (w ∷ ws) e = absurd cc

none_later : (p : Protection) (count : ℕ) (up later : List (List ℕ))
    → pdus_from p count up ≡ pdus_from p count (up ++ later) → later ≡ []
none_later p count up [] e = refl
none_later p count up (x ∷ later) e =
    absurd (omega (
      arith,
      length_pdus p count up,
      length_pdus p count (up ++ (x ∷ later)),
      ap length e,
      length-append up (x ∷ later),
    ))
  where
    length_pdus : (p : Protection) (count : ℕ) (xs : List (List ℕ)) → length (pdus_from p count xs) ≡ length xs
    length_pdus p count [] = refl
    length_pdus p count (y ∷ xs) = let rest = length_pdus p (count + 1) xs in omega (arith, rest)

pub all_of : (w : Way) (from to : BearerEnd) (sent up : List (List ℕ)) → Joined w from to sent up
    → IsDrained from.bearer → up ≡ sent
all_of w from to sent up j d =
    let none = none_left from.bearer d in
    let f = flow_by w j.steps in
    let left : rlc_left (sender f).state ≡ 0 = ap rlc_left j.is.sender_is ∙ none.rlc_none in
    let all : total f ≡ offered f = hands-up-all w.sending w.receiving j.steps j.given left in
    let later : j.later ≡ [] = none_later w.protection w.first up j.later (sym j.total_is ∙ all ∙ j.offered_is) in
    let s = from.bearer.pdcp.tx in
    let waits : queue s ≡ [] =
    none_offered s.next s.waiting
    (ap (λ (l : List Offer). is_some (slice_get l 0))
    (sym (offers_by w.first w.protection (up ++ j.later) s j.sends)) ∙ none.no_more) in
    sym (append-nil up) ∙ ap (λ l. up ++ l) (sym later) ∙ sym (append-nil (up ++ j.later))
    ∙ ap (λ l. (up ++ j.later) ++ l) (sym waits) ∙ sym j.submitted_is

pub drained_delivers : (near far : State) (steps : List Step) → BothBegin near far
    → AreLived (am_pair_outset near far) steps
    → AreAll near far steps
drained_delivers near far steps h g =
    let l = lived near far steps h g in
    let q = goes steps (am_pair_outset near far) in
    record {
      there = λ d. all_of (way_there near far steps) q.near q.far (over near_submits steps (am_pair_outset near far))
          (over far_ups steps (am_pair_outset near far)) l.out d;
      back = λ d. all_of (way_back near far steps) q.far q.near (over far_submits steps (am_pair_outset near far))
          (over near_ups steps (am_pair_outset near far)) l.inn d;
    }

-- ---- nothing is lost

record StepLosesNone (p : Pair) (s : Step) : Type 0 where
  near_none : near_losses p s ≡ []
  far_none : far_losses p s ≡ []

step_loses_none : (there back : Way) (p : Pair) (s : Step) (ns fu fs nu : List (List ℕ)) → IsGiven p s → MayHappen p s
    → BothWays there back p ns fu fs nu → StepLosesNone p s
step_loses_none there back p (Near d) ns fu fs nu g may h = record {
  near_none =
      (does_on there back p.near p.far ns fu nu fs d g may
      (record { out_joins = h.out; inn_joins = h.inn; own = h.near_is; other = h.far_is })).none;
  far_none = refl;
}
step_loses_none there back p (Far d) ns fu fs nu g may h = record {
  near_none = refl;
  far_none =
      (does_on back there p.far p.near fs nu fu ns d g may
      (record { out_joins = h.inn; inn_joins = h.out; own = h.far_is; other = h.near_is })).none;
}
step_loses_none there back p Passes ns fu fs nu g may h = record { near_none = refl; far_none = refl }

record Loses (ss : List Step) (p : Pair) : Type 0 where
  near_none : over near_losses ss p ≡ []
  far_none : over far_losses ss p ≡ []

steps_lose_none : (there back : Way) (ss : List Step) (p : Pair) (ns fu fs nu : List (List ℕ)) → AreLived p ss
    → BothWays there back p ns fu fs nu → Loses ss p
steps_lose_none there back [] p ns fu fs nu g h = record { near_none = refl; far_none = refl }
steps_lose_none there back (s ∷ ss) p ns fu fs nu g h =
    let q = happens p s in
    let one = step_loses_none there back p s ns fu fs nu g.0.0 g.0.1 h in
    let rest =
    steps_lose_none (with_told (there_in p s) there) (with_told (back_in p s) back) ss q
    (ns ++ near_submits p s) (fu ++ far_ups p s) (fs ++ far_submits p s)
    (nu ++ near_ups p s) g.1 (step_on there back p s ns fu fs nu g.0.0 g.0.1 h) in
    record {
      near_none = ap (λ (l : List Event). l ++ over near_losses ss q) one.near_none ∙ rest.near_none;
      far_none = ap (λ (l : List Event). l ++ over far_losses ss q) one.far_none ∙ rest.far_none;
    }

pub nothing_is_lost : (near far : State) (steps : List Step) → BothBegin near far
    → AreLived (am_pair_outset near far) steps
    → LoseNone near far steps
nothing_is_lost near far steps h g =
    let l = steps_lose_none (way near far) (way far near) steps (am_pair_outset near far) [] [] [] [] g
    (begin_both near far h) in
    record { near_none = l.near_none; far_none = l.far_none }
