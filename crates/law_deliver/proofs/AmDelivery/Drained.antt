-- Once nothing is left of a direction, all that was taken has gone up.
use Rattle.std.proofs.Common.{◌≡◌, ◌<◌, ℕ, Bool, true, false, not, ◌&&◌, ◌||◌, ◌==◌, List, [], ◌∷◌, ◌++◌, map, length}
use Rattle.std.proofs.Common.{Option, Some, None, is_some, slice_get, append-nil, subst, refl, ap, sym, ◌∙◌, arith}
use Rattle.std.specs.List.{AllByRecursion}
use Rattle.std.proofs.lemmas.Bool.Decides.{nat_tests}
use Rattle.std.proofs.lemmas.List.{length-map}
use Rattle.law_bearer.specs.AmBearer.Calls.{IsIdle}
use Rattle.law_bearer.specs.AmBearer.Lives.{protection_at}
use Rattle.law_words.specs.Arrivals.{AccountEntry}
use Rattle.law_rlc.specs.AmPair.Flow.{Copy, Report, sender}
use Rattle.law_rlc.specs.AmPair.Sdus.{offered, handed_up, ready}
use Rattle.law_rlc.proofs.AmPair.Laws.{hands-up-all, next-is-ready}
use Rattle.law_pdcp.proofs.AmPair.InStep.{delivers_all}
use Rattle.bearer.specs.declared.flow.Flow.{Flow}
use Rattle.bearer.specs.declared.flow.Flow.TheVariants.{Am}
use Rattle.bearer.specs.Bearer.{flow_of}
use Rattle.bearer.specs.Acknowledged.State.{State, has_more}
use Rattle.bearer.specs.Acknowledged.Sums.{is_drained}
use Rattle.law_bearer.specs.AnyBearer.Calls.{Submit, Take, Arrive, Expire, Tick, SetDiscard, reached, ends}
use Rattle.law_bearer.specs.AnyBearer.Queue.{queue, all_left}
use Rattle.bearer_types.specs.declared.BearerConfig.{BearerConfig}
use Rattle.eps_sec.specs.declared.Keys.{Keys}
use Rattle.l2_types.specs.declared.Kind.TheVariants as kinds
use Rattle.l2_types.specs.declared.Side.{Side}
use Rattle.l2_types.specs.declared.Side.TheVariants.{Nb, Ue}
use Rattle.pdcp_tx_store.specs.declared.given.Sent.{Sent}
use Rattle.pdcp_tx_store.specs.Waiting.{Waits, length_all}
use Rattle.pdcp_rx.specs.State.{State as Receiving}
use Rattle.pdcp_sec.specs.Protection.{Protection}
use Rattle.pdcp_tx.specs.declared.sender.Next.{Next}
use Rattle.pdcp_tx.specs.State.{State as Sending, Offer, offers, owed_offers, again_offer, refusal, left as pdcp_left}
use Rattle.rlc_am_rx.specs.State.{State as Hearing}
use Rattle.rlc_am_tx.specs.Need.{left as rlc_left}
use Rattle.law_deliver.specs.AmFlow.Pair.{BearerEnd, Pair, Deed, Calls as Asks, DataComes}
use Rattle.law_deliver.specs.AmFlow.Pair.{StatusComes, DataGoes, StatusGoes, Near, Far, Passes, HasOctet}
use Rattle.law_deliver.specs.AmFlow.Pair.{am_pair_outset}
use Rattle.law_deliver.specs.AmDelivery.Drained.{IsDrained, AllAreUp, DrainedHasDelivered}
use Rattle.law_deliver.specs.AmDelivery.Ends.{submitted_by, near_submitted_in, far_submitted_in}
use Rattle.law_deliver.specs.AmDelivery.Lives.{LifeStep, InLife, Restarts, lives_on, lives, MayBeDone, IsLiving}
use Rattle.law_deliver.specs.AmDelivery.Lives.{AreLiving, call_by, call_of, calls_in, near_news_in, far_news_in}
use Rattle.law_deliver.specs.AmDelivery.Lives.{near_ups_in, far_ups_in, over}
use Rattle.law_deliver.proofs.AmDelivery.Beginning.{first_way}
use Rattle.law_deliver.proofs.AmDelivery.Delivering.{from_the_first}
use Rattle.law_deliver.proofs.AmDelivery.Joined.{Way, IsWay, Joins, rlc, pdcp}
use Rattle.law_deliver.proofs.AmDelivery.Promises.{GoesOn, StepsGoOn}
use Rattle.law_deliver.proofs.AmDelivery.Reached.{End, near_end, far_end, ends_are_reached}
use Rattle.law_deliver.proofs.AmDelivery.Submitted.{Queues, near_queues, far_queues, still, left_then_waits}
use Rattle.law_deliver.proofs.AmDelivery.Submitted.{taken_then_waits}

-- ---- what is drained

record NoneLeft (b : State) : Type 0 where
  rlc_none : rlc_left b.tx ≡ 0
  again_none : b.pdcp.tx.again ≡ []
  octets_none : length_all b.pdcp.tx.waiting ≡ 0

drained_parts : (f m : Bool) (p r : ℕ) → (f || ((p == 0) && (r == 0) && not m)) ≡ true → f ≡ false
    → (p ≡ 0) × (r ≡ 0) × (m ≡ false)
drained_parts f m p r e u = (grind (arith, nat_tests), grind (arith, nat_tests), grind (arith, nat_tests))

none_again : (owed : Option (List ℕ)) (again : List Sent) (rest : List Offer)
    → is_some (slice_get (owed_offers owed ++ map again_offer again ++ rest) 0) ≡ false → again ≡ []
none_again owed [] rest e = refl
none_again None (x ∷ xs) rest e = absurd cc
none_again (Some report) (x ∷ xs) rest e = absurd cc

none_left : (b : State) → IsDrained b → NoneLeft b
unfolding is_drained pdcp_left offers
none_left b h =
    let parts = drained_parts b.tx.failed (has_more b.pdcp) (pdcp_left b.pdcp.tx) (rlc_left b.tx) h.drained h.unfailed
    in
    let nothing = parts.0 in
    record {
      rlc_none = parts.1;
      again_none = none_again b.pdcp.tx.owed b.pdcp.tx.again _ parts.2;
      octets_none = omega (arith, nothing);
    }

-- ---- a direction has brought all that was taken

all_up : (w : Way) (from to : BearerEnd) → IsWay w → Joins w from to → IsIdle to.bearer → NoneLeft from.bearer
    → (pdcp w).up ≡ (pdcp w).sdus
all_up w from to is j idle none =
    let f = rlc w in
    let g = pdcp w in
    let left : rlc_left (sender f).state ≡ 0 = ap rlc_left j.rlc_is.sender_is ∙ none.rlc_none in
    let all : handed_up f ++ ready f ≡ offered f = hands-up-all w.sending w.receiving w.steps is.steps left in
    let still : ready f ≡ [] = (next-is-ready w.sending w.receiving w.steps is.steps).held
    ∙ ap (λ (r : Hearing). r.out.ready) j.rlc_is.receiver_is ∙ idle.heard in
    let high : handed_up f ≡ offered f = sym (append-nil (handed_up f))
    ∙ ap (λ (l : List (List ℕ)). handed_up f ++ l) (sym still) ∙ all in
    let many : length (offered f) ≡ length g.stream = ap (λ (l : List (List ℕ)). length l) (sym j.stream_is)
    ∙ length-map g.stream (λ (n : Next). n.octets) in
    let passed : g.passed ≡ length g.stream = j.passed_is ∙ ap (λ (l : List (List ℕ)). length l) high ∙ many in
    let again : g.sender.again ≡ [] = ap (λ (s : Sending). s.again) j.sender_is ∙ none.again_none in
    let raised : g.receiver.ready ≡ [] = ap (λ (r : Receiving). r.ready) j.receiver_is ∙ idle.raised in
    sym (append-nil g.up) ∙ ap (λ (l : List (List ℕ)). g.up ++ l) (sym raised)
    ∙ delivers_all w.bits w.protection w.first w.events is.kind is.first is.events passed again

all_from : {told : List AccountEntry} (c : BearerConfig) (p : Protection) (w : Way) (news ups : List (List ℕ))
    → GoesOn (first_way c p) w news ups told → (pdcp w).up ≡ (pdcp w).sdus
    → ups ≡ news
all_from c p w news ups g h = sym g.ups_are ∙ h ∙ g.sdus_are

-- ---- what is submitted has octets

accepted_some : (s : Sending) (sdu : List ℕ) → refusal s sdu ≡ None → 0 < length sdu
unfolding refusal
accepted_some s [] e = absurd cc
accepted_some s (x ∷ xs) e = omega arith

data_some : (o : Option Copy) → AllByRecursion HasOctet (submitted_by (call_by o))
data_some None = tt
data_some (Some c) = tt

status_some : (o : Option Report) → AllByRecursion HasOctet (submitted_by (call_of o))
status_some None = tt
status_some (Some s) = tt

deed_some : (b : State) (other : BearerEnd) (d : Deed) → MayBeDone b d
    → AllByRecursion HasOctet (submitted_by (calls_in other d))
deed_some b other (Asks (Submit sdu)) h = (accepted_some b.pdcp.tx sdu h, tt)
deed_some b other (Asks (Take share held)) h = tt
deed_some b other (Asks (Arrive pdu)) h = tt
deed_some b other (Asks (Expire clock)) h = tt
deed_some b other (Asks Tick) h = tt
deed_some b other (Asks (SetDiscard ttis)) h = tt
deed_some b other (DataComes k) h = data_some (slice_get other.copies k)
deed_some b other (StatusComes k) h = status_some (slice_get other.reports k)
deed_some b other (DataGoes k) h = tt
deed_some b other (StatusGoes k) h = tt

near_some : (p : Pair) (x : LifeStep) → IsLiving p x → AllByRecursion HasOctet (near_submitted_in p x)
near_some p (InLife (Near d)) h = deed_some p.near.bearer p.far d h.1
near_some p (InLife (Far d)) h = tt
near_some p (InLife Passes) h = tt
near_some p (Restarts keys) h = tt

far_some : (p : Pair) (x : LifeStep) → IsLiving p x → AllByRecursion HasOctet (far_submitted_in p x)
far_some p (InLife (Near d)) h = tt
far_some p (InLife (Far d)) h = deed_some p.far.bearer p.near d h.1
far_some p (InLife Passes) h = tt
far_some p (Restarts keys) h = tt

both_some : (xs ys : List (List ℕ)) → AllByRecursion HasOctet xs → AllByRecursion HasOctet ys
    → AllByRecursion HasOctet (xs ++ ys)
both_some [] ys h k = k
both_some (x ∷ xs) ys h k = (h.0, both_some xs ys h.1 k)

over_some : (what : Pair → LifeStep → List (List ℕ))
    → ((p : Pair) (x : LifeStep) → IsLiving p x → AllByRecursion HasOctet (what p x))
    → (xs : List LifeStep) (p : Pair) → AreLiving p xs → AllByRecursion HasOctet (over what xs p)
over_some what some [] p h = tt
over_some what some (x ∷ xs) p h =
    both_some (what p x) (over what xs (lives_on p x)) (some p x h.0) (over_some what some xs (lives_on p x) h.1)

-- ---- so none waits

none_waits : (left : List (List ℕ)) (ws : List Waits) → AllByRecursion HasOctet (left ++ map (λ w. w.sdu) ws)
    → length_all ws ≡ 0 → ws ≡ []
none_waits (x ∷ xs) ws h e = none_waits xs ws h.1 e
none_waits [] [] h e = refl
none_waits [] (w ∷ ws) h e = let some = h.0 in absurd (omega (arith, some, e))

-- ---- an end

module _ (c : BearerConfig) (keys : Keys) (side : Side) (e : End) (t : Queues e) (xs : List LifeStep) (p : Pair) where
  abbrev after : State
  after = e.at (lives xs p)

  waits_of : reached c keys side (over e.steps xs p) ≡ Am after
      → still c keys side e xs p ≡ map (λ w. w.sdu) after.pdcp.tx.waiting
  waits_of is = ap (λ (f : Flow). queue (ends f)) is

  none_still : c.kind ≡ kinds.Am → reached c keys side (over e.steps xs p) ≡ Am after
      → AllByRecursion HasOctet (over t.submitted xs p) → NoneLeft after
      → after.pdcp.tx.waiting ≡ []
  none_still kind is some none =
      let left = all_left (flow_of c.kind c keys side) (over e.steps xs p) in
      none_waits left after.pdcp.tx.waiting
      (subst (λ (l : List (List ℕ)). AllByRecursion HasOctet (left ++ l)) (waits_of is)
      (subst (AllByRecursion HasOctet) (sym (left_then_waits c keys side e t xs p kind)) some))
      none.octets_none

  all_are_up : (ups : List (List ℕ)) → c.kind ≡ kinds.Am → flow_of c.kind c keys side ≡ Am (e.at p)
      → reached c keys side (over e.steps xs p) ≡ Am after
      → AllByRecursion HasOctet (over t.submitted xs p) → NoneLeft after → ups ≡ over t.news xs p
      → AllAreUp after ups (over t.news xs p) (over t.dropped xs p) (over t.submitted xs p)
  all_are_up ups kind begins is some none same =
      let gone = none_still kind is some none in
      record {
        taken = same;
        waits = gone;
        submitted = λ dropped.
            same ∙ sym (append-nil (over t.news xs p))
            ∙ ap (λ (l : List (List ℕ)). over t.news xs p ++ l)
            (sym (waits_of is ∙ ap (λ (ws : List Waits). map (λ w. w.sdu) ws) gone))
            ∙ taken_then_waits c keys side e t xs p kind begins dropped;
      }

pub drained_delivers : StepsGoOn → DrainedHasDelivered
drained_delivers steps c keys nb ue xs h given =
    let r = from_the_first steps c keys nb ue xs h given in
    let j = r.joined in
    let p = am_pair_outset nb ue in
    let q = lives xs p in
    let ends' = ends_are_reached c keys nb ue xs h in
    record {
      down = λ d.
          let none = none_left q.near.bearer d in
          all_are_up c keys Nb near_end near_queues xs p (over far_ups_in xs p) h.kind h.nb_is ends'.nb_is
          (over_some near_submitted_in near_some xs p given) none
          (all_from c (protection_at c keys Nb) r.down_after (over near_news_in xs p) (over far_ups_in xs p) r.down_goes
          (all_up r.down_after q.near q.far j.down_is j.down_joins j.far_idle none));
      up = λ d.
          let none = none_left q.far.bearer d in
          all_are_up c keys Ue far_end far_queues xs p (over near_ups_in xs p) h.kind h.ue_is ends'.ue_is
          (over_some far_submitted_in far_some xs p given) none
          (all_from c (protection_at c keys Ue) r.up_after (over far_news_in xs p) (over near_ups_in xs p) r.up_goes
          (all_up r.up_after q.far q.near j.up_is j.up_joins j.near_idle none));
    }
