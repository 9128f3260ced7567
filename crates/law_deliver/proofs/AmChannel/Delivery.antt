-- What a channel delivers.
use Rattle.std.proofs.Common.{◌≡◌, ◌≤◌, inr, ℕ, ◌+◌, ◌-◌, refl, Bool, length, drop, Some, None, false, List, [], ◌∷◌}
use Rattle.std.proofs.Common.{◌++◌, append_assoc, length-append, ap, sym, subst, ◌∙◌, arith}
use Rattle.std.proofs.lemmas.List.{take-append-le}
use Rattle.std.specs.List.{AllByRecursion, flat_map}
use Rattle.bearer.specs.Bearer.{flow_of}
use Rattle.bearer.specs.declared.flow.Flow.{Flow}
use Rattle.bearer.specs.declared.flow.Flow.TheVariants.{Am}
use Rattle.bearer.specs.Acknowledged.State.{State, fresh as fresh_am}
use Rattle.law_bearer.specs.AnyBearer.Calls.{Step as BearerStep, run_bearer, reached as bearer_reached, ends}
use Rattle.law_bearer.specs.AnyBearer.Queue.{queue, all_news, all_left}
use Rattle.law_bearer.specs.AnyBearer.Stream.{all_taken as all_offers}
use Rattle.law_bearer.proofs.AnyBearer.Between.{IsBetween}
use Rattle.law_bearer.proofs.AnyBearer.Names.{AllNamed, am_named}
use Rattle.law_bearer.proofs.AnyBearer.Queues.{leaves_in_order}
use Rattle.bearer_types.specs.Configs.{IsConfig}
use Rattle.bearer_types.specs.declared.config.BearerConfig.{BearerConfig}
use Rattle.eps_sec.specs.declared.Keys.{Keys}
use Rattle.l2_node.specs.End.{End, fresh}
use Rattle.l2_node.specs.Finding.{has}
use Rattle.l2_types.specs.declared.Kind.{Kind}
use Rattle.l2_types.specs.declared.Kind.TheVariants as kinds
use Rattle.l2_types.specs.declared.side.Side.{Side}
use Rattle.l2_types.specs.declared.side.Side.TheVariants.{Nb, Ue}
use Rattle.law_node.specs.Calls.{Call, Add, AreGiven, after, run_end, reached}
use Rattle.law_node.specs.Holding.{flow}
use Rattle.law_node.specs.Telling.{told_over}
use Rattle.law_node.proofs.Living.{added, reached_side}
use Rattle.pdcp_pdu.specs.declared.PdcpKind.TheVariants.{Am as AmKind}
use Rattle.pdcp_tx.specs.State.{State as Sending, Offer, start}
use Rattle.rlc_am_rx.specs.State.{fresh as fresh_receiver}
use Rattle.rlc_am_tx.specs.Machine.{start as start_sender}
use Rattle.bearer_types.specs.Sides.{other}
use Rattle.law_bearer.specs.AmBearer.Lives.{BeginsAs}
use Rattle.law_bearer.proofs.AmBearer.Lives.{first_life_begins, ends_begin_alike}
use Rattle.law_words.specs.Lists.{AreFirstSdus, IsSubsequence}
use Rattle.law_deliver.specs.AmFlow.Air.{Begins, outset}
use Rattle.law_deliver.specs.AmFlow.Flows.{BeginsLife}
use Rattle.law_deliver.specs.AmFlow.Pair.{Pair, am_pair_outset}
use Rattle.law_deliver.specs.AmFlow.Ups.{IsNew, AreNew}
use Rattle.law_deliver.proofs.AmFlow.Air.{begins_so}
use Rattle.law_deliver.proofs.AmFlow.Stations.{run_on, given_on}
use Rattle.law_deliver.proofs.AmFlow.Ups.{Stands, stands, come_between, between_at}
use Rattle.law_deliver.specs.AmDelivery.Delivery.{AreBothEnds}
use Rattle.law_words.specs.Arrivals.{AccountEntry, Account, no_account, account}
use Rattle.law_deliver.specs.AmDelivery.Arrival.{down_in, up_in, IsWhatCame}
use Rattle.law_deliver.specs.AmChannel.Arrival.{happened, told_from}
use Rattle.law_deliver.proofs.AmDelivery.Laws.{delivers_what_was_taken, what_came_is_delivered, bearers_take_in_half}
use Rattle.law_deliver.specs.AmDelivery.Lives.{LifeStep, over}
use Rattle.law_deliver.specs.AmChannel.Delivery.{HasBegun, AmEndsBeginAlike, was_taken, was_submitted, steps_over}
use Rattle.law_deliver.specs.AmChannel.Delivery.{DiscardsNone, SetNone, ups_at, submitted_at, taken_at, DiscardsNoneAt}
use Rattle.law_deliver.specs.AmChannel.Delivery.{SetNoneAt}
use Rattle.law_deliver.specs.AmChannel.Lives.{AirStep, AreLiving, lives, end_at, all_calls}
use Rattle.law_deliver.proofs.AmChannel.Bearers.{IsSteady}
use Rattle.law_bearer.proofs.AnyBearer.Streams.{am_begins, begun_tx}
use Rattle.bearer_pdcp.specs.Ends.{Ends, begun as begun_ends, bearer_of, sends}
use Rattle.pdcp_sec.specs.Protection.{Protection, protection_of}
use Rattle.promises.specs.HalfWindow.{AreInHalf}
use Rattle.promises.specs.Taken.{leaving_in, were_taken, chosen, leaves, taken_of, kept_of, TakenSdu, takes_on}
use Rattle.promises.specs.Taken.{NamesSdu}
use Rattle.law_deliver.specs.AmChannel.Leaving.{AreTold}
use Rattle.law_deliver.proofs.AmChannel.Leaving.{all_flags, flags_choose, flags_many, flags_leave, flags_told}
use Rattle.law_deliver.proofs.AmChannel.Ends.{all_leaving, all_took, IsCall, are_calls, GoesAll, all_go, all_ups}
use Rattle.law_deliver.proofs.AmChannel.Ends.{all_discards, goes_by_calls}
use Rattle.law_deliver.proofs.AmChannel.Naming.{taken_as, all_told, each_named}
use Rattle.law_deliver.proofs.AmChannel.Pairs.{own, all_does, ups_in_at, news_in_at, lives_go}
use Rattle.law_deliver.proofs.AmChannel.Submitted.{submitted_is, steps_unset}
use Rattle.law_deliver.proofs.AmChannel.Unset.{none_discarded}
use Rattle.law_deliver.proofs.AmChannel.Waiting.{news_leave, front_thin, all_taken}
use Rattle.law_pdcp.proofs.OneEnd.Lists.{thinner}
use Rattle.law_deliver.proofs.AmChannel.Walk.{BothMatch, WalksOn, walks_on}

-- ---- a channel begins

-- the bearer of acknowledged data that begins at a side
abbrev pub first_of : BearerConfig → Keys → Side → State
first_of c keys side = fresh_am c (AmKind c.pdcp_bits) keys side

first_is : (c : BearerConfig) (keys : Keys) (side : Side) → c.kind ≡ kinds.Am
    → flow_of c.kind c keys side ≡ Am (first_of c keys side)
first_is c keys side k = ap (λ (x : Kind). flow_of x c keys side) k

life_begins : (c : BearerConfig) (b : State) → BeginsAs c b → BeginsLife b
life_begins c b h = record {
  sends = h.tx ∙ ap start_sender (sym h.tx_config);
  hears = h.rx ∙ ap fresh_receiver (sym h.rx_config);
}

pub stands_so : (side : Side) (l : ℕ) (c : BearerConfig) (keys : Keys) (e : End) → HasBegun side l c keys e
    → Stands side l e
stands_so side l c keys e h =
    let come = h.come in
    let is = come.end_is in
    subst (Stands side l) (sym is)
    (stands side come.maximum come.reports come.past l come.given h.new
    (ap (λ (x : End). has l x.bearers) (sym is) ∙ h.there))

steady_so : (side : Side) (l : ℕ) (c : BearerConfig) (keys : Keys) (e : End) → c.kind ≡ kinds.Am
    → HasBegun side l c keys e → IsSteady c.pdcp_bits l (first_of c keys side)
steady_so side l c keys e k h =
    let first = first_life_begins c keys side (first_of c keys side) k (first_is c keys side k) in
    record {
      data' = first.stays;
      idle = first.idle;
      between = subst (λ (f : Flow). IsBetween l f) (h.bearer_is ∙ first_is c keys side k)
          (between_at l e.bearers h.there (come_between side e h.come));
    }

begins_life : (side : Side) (l : ℕ) (c : BearerConfig) (keys : Keys) (e : End) → c.kind ≡ kinds.Am
    → HasBegun side l c keys e → Begins side l e (first_of c keys side)
begins_life side l c keys e k h = record {
  come = h.come;
  there = h.there;
  bearer_is = h.bearer_is ∙ first_is c keys side k;
  life =
      life_begins c (first_of c keys side)
      (first_life_begins c keys side (first_of c keys side) k (first_is c keys side k));
}

-- ---- two ends go on as a pair

module _ (l : ℕ) (c : BearerConfig) (keys : Keys) (nb ue : End) (h : AmEndsBeginAlike l c keys nb ue) where
  abbrev pub pair : Pair
  pair = am_pair_outset (first_of c keys Nb) (first_of c keys Ue)

  pub begun : (side : Side) → HasBegun side l c keys (end_at side (outset nb ue))
  begun Nb = h.nb_begun
  begun Ue = h.ue_begun

  pub both_match : BothMatch c.pdcp_bits l (outset nb ue) pair
  both_match = record {
    nb = begins_so Nb l nb (first_of c keys Nb) (begins_life Nb l c keys nb h.kind h.nb_begun);
    ue = begins_so Ue l ue (first_of c keys Ue) (begins_life Ue l c keys ue h.kind h.ue_begun);
    nb_steady = steady_so Nb l c keys nb h.kind h.nb_begun;
    ue_steady = steady_so Ue l c keys ue h.kind h.ue_begun;
    nb_stands = stands_so Nb l c keys nb h.nb_begun;
    ue_stands = stands_so Ue l c keys ue h.ue_begun;
  }

  pub both_ends : AreBothEnds c keys (first_of c keys Nb) (first_of c keys Ue)
  both_ends = record {
    config = h.config;
    first = h.first;
    kind = h.kind;
    nb_is = first_is c keys Nb h.kind;
    ue_is = first_is c keys Ue h.kind;
  }

  pub walk : (xs : List AirStep) → AreLiving l (outset nb ue) xs → WalksOn c.pdcp_bits l (outset nb ue) xs pair
  walk xs g = walks_on c.pdcp_bits l xs (outset nb ue) pair g both_match

  own_steady : (side : Side) → IsSteady c.pdcp_bits l (own side pair).bearer
  own_steady Nb = both_match.nb_steady
  own_steady Ue = both_match.ue_steady

  own_is : (side : Side) → flow l (end_at side (outset nb ue)) ≡ Am (own side pair).bearer
  own_is Nb = h.nb_begun.bearer_is ∙ first_is c keys Nb h.kind
  own_is Ue = h.ue_begun.bearer_is ∙ first_is c keys Ue h.kind

  pub does_is : (side : Side) (xs : List AirStep) (g : AreLiving l (outset nb ue) xs)
      → all_does side (walk xs g).steps pair
      ≡ steps_over l (all_calls side xs (outset nb ue)) (end_at side (outset nb ue))
  does_is Nb xs g = (walk xs g).nb_does
  does_is Ue xs g = (walk xs g).ue_does

  pub ups_is : (side : Side) (xs : List AirStep) (g : AreLiving l (outset nb ue) xs)
      → over (ups_in_at side) (walk xs g).steps pair ≡ ups_at l side xs (outset nb ue)
  ups_is side xs g =
      let cs = all_calls side xs (outset nb ue) in
      let e = end_at side (outset nb ue) in
      (lives_go c.pdcp_bits l side (walk xs g).steps pair (own_steady side)).ups_are
      ∙ ap (all_ups l (Am (own side pair).bearer)) (does_is side xs g)
      ∙ ap (λ (f : Flow). all_ups l f (steps_over l cs e)) (sym (own_is side))
      ∙ sym (all_go side l e cs (stands_so side l c keys e (begun side)) (are_calls l side xs (outset nb ue) g)).ups_are

  pub news_is : (side : Side) (xs : List AirStep) (g : AreLiving l (outset nb ue) xs)
      → over (news_in_at side) (walk xs g).steps pair ≡ taken_at l side xs (outset nb ue)
  news_is side xs g =
      let cs = all_calls side xs (outset nb ue) in
      let e = end_at side (outset nb ue) in
      (lives_go c.pdcp_bits l side (walk xs g).steps pair (own_steady side)).news_are
      ∙ ap (all_news (Am (own side pair).bearer)) (does_is side xs g)
      ∙ ap (λ (f : Flow). all_news f (steps_over l cs e)) (sym (own_is side))

  pair_delivers : (from : Side) (xs : List AirStep) (g : AreLiving l (outset nb ue) xs)
      → AreFirstSdus (over (ups_in_at (other from)) (walk xs g).steps pair)
      (over (news_in_at from) (walk xs g).steps pair)
  pair_delivers Nb xs g =
      (delivers_what_was_taken c keys (first_of c keys Nb) (first_of c keys Ue) (walk xs g).steps both_ends
      (walk xs g).living).down
  pair_delivers Ue xs g =
      (delivers_what_was_taken c keys (first_of c keys Nb) (first_of c keys Ue) (walk xs g).steps both_ends
      (walk xs g).living).up

  delivers : (from : Side) (xs : List AirStep) → AreLiving l (outset nb ue) xs
      → AreFirstSdus (ups_at l (other from) xs (outset nb ue)) (taken_at l from xs (outset nb ue))
  delivers from xs g =
      subst (λ (up : List (List ℕ)). AreFirstSdus up (taken_at l from xs (outset nb ue))) (ups_is (other from) xs g)
      (subst (AreFirstSdus (over (ups_in_at (other from)) (walk xs g).steps pair)) (news_is from xs g)
      (pair_delivers from xs g))

  -- ---- exactly which

  -- what is told of a direction of the pair
  abbrev told_at : Side → Pair → LifeStep → List AccountEntry
  told_at Nb = down_in
  told_at Ue = up_in

  told_is : (from : Side) (xs : List AirStep) (g : AreLiving l (outset nb ue) xs)
      → over (told_at from) (walk xs g).steps pair ≡ happened c.pdcp_bits l from xs (outset nb ue)
  told_is Nb xs g = (walk xs g).down_is
  told_is Ue xs g = (walk xs g).up_is

  pair_came : (from : Side) (xs : List AirStep) (g : AreLiving l (outset nb ue) xs)
      → IsWhatCame c.first (account (over (told_at from) (walk xs g).steps pair) no_account)
      (over (news_in_at from) (walk xs g).steps pair) (over (ups_in_at (other from)) (walk xs g).steps pair)
  pair_came Nb xs g =
      (what_came_is_delivered c keys (first_of c keys Nb) (first_of c keys Ue) (walk xs g).steps both_ends
      (walk xs g).living).down
  pair_came Ue xs g =
      (what_came_is_delivered c keys (first_of c keys Nb) (first_of c keys Ue) (walk xs g).steps both_ends
      (walk xs g).living).up

  pub came : (from : Side) (xs : List AirStep) → AreLiving l (outset nb ue) xs
      → IsWhatCame c.first (told_from c l from xs (outset nb ue)) (taken_at l from xs (outset nb ue))
      (ups_at l (other from) xs (outset nb ue))
  came from xs g =
      subst (λ (up : List (List ℕ)). IsWhatCame c.first (told_from c l from xs (outset nb ue))
      (taken_at l from xs (outset nb ue)) up) (ups_is (other from) xs g)
      (subst (λ (all : List (List ℕ)). IsWhatCame c.first (told_from c l from xs (outset nb ue)) all
      (over (ups_in_at (other from)) (walk xs g).steps pair)) (news_is from xs g)
      (subst (λ (hs : List AccountEntry). IsWhatCame c.first (account hs no_account)
      (over (news_in_at from) (walk xs g).steps pair) (over (ups_in_at (other from)) (walk xs g).steps pair))
      (told_is from xs g)
      (pair_came from xs g)))

  -- ---- how far the COUNTs run ahead

  pair_in_half : (from : Side) (xs : List AirStep) (g : AreLiving l (outset nb ue) xs)
      → AreInHalf c.pdcp_bits c.first no_account (over (told_at from) (walk xs g).steps pair)
  pair_in_half Nb xs g =
      (bearers_take_in_half c keys (first_of c keys Nb) (first_of c keys Ue) (walk xs g).steps both_ends
      (walk xs g).living).0
  pair_in_half Ue xs g =
      (bearers_take_in_half c keys (first_of c keys Nb) (first_of c keys Ue) (walk xs g).steps both_ends
      (walk xs g).living).1

  pub channels_take_in_half : (from : Side) (xs : List AirStep) → AreLiving l (outset nb ue) xs
      → AreInHalf c.pdcp_bits c.first no_account (happened c.pdcp_bits l from xs (outset nb ue))
  channels_take_in_half from xs g =
      subst (λ (hs : List AccountEntry). AreInHalf c.pdcp_bits c.first no_account hs) (told_is from xs g)
      (pair_in_half from xs g)

-- ---- of what is submitted

front_more : (front all more : List (List ℕ)) → AreFirstSdus front all → AreFirstSdus front (all ++ more)
front_more front all more h =
    record { rest = h.rest ++ more; is = ap (λ (l : List (List ℕ)). l ++ more) h.is ∙ append_assoc front h.rest more }

first_unset : (side : Side) (c : BearerConfig) (keys : Keys) → c.kind ≡ kinds.Am
    → (first_of c keys side).pdcp.tx.discard ≡ None
unfolding start
first_unset side c keys k =
    ap (λ (s : Sending). s.discard)
    (ends_begin_alike c keys side (first_of c keys side) (first_of c keys (other side)) k (first_is c keys side k)
    (first_is c keys (other side) k)).sender

module _ (side : Side) (l : ℕ) (c : BearerConfig) (keys : Keys) (e : End) (cs : List Call) (k : c.kind ≡ kinds.Am)
    (h : HasBegun side l c keys e) where
  -- the steps of the bearer, and what still waits in the end
  abbrev own_steps : List BearerStep
  own_steps = steps_over l cs e

  abbrev pub waits : List (List ℕ)
  waits = queue (ends (bearer_reached c keys side (steps_over l cs e)))

  abbrev first_bearer : State
  first_bearer = first_of c keys side

  starts_as : flow l e ≡ Am first_bearer
  starts_as = h.bearer_is ∙ first_is c keys side k

  leaves_then : all_left (flow l e) own_steps ++ waits ≡ was_submitted l cs e
  leaves_then =
      ap (λ (f : Flow). all_left f own_steps ++ waits) h.bearer_is
      ∙ leaves_in_order c keys side own_steps (inr k)
      ∙ sym (submitted_is l cs e)

  all_goes : AllByRecursion (IsCall l) cs → GoesAll l e cs
  all_goes g = all_go side l e cs (stands_so side l c keys e h) g

  none_told : AllByRecursion (IsCall l) cs → SetNone l cs → DiscardsNone l cs e
  none_told g none =
      (all_goes g).discards_are
      ∙ ap (λ (f : Flow). all_discards l f own_steps) starts_as
      ∙ none_discarded c.pdcp_bits l own_steps first_bearer (steady_so side l c keys e k h)
      (first_unset side c keys k) (steps_unset l cs e none)

  pub taken_then : AllByRecursion (IsCall l) cs → DiscardsNone l cs e → was_taken l cs e ++ waits ≡ was_submitted l cs e
  taken_then g none =
      let told : all_discards l (Am first_bearer) own_steps ≡ [] =
      ap (λ (f : Flow). all_discards l f own_steps) (sym starts_as) ∙ sym (all_goes g).discards_are ∙ none in
      let left : all_left (flow l e) own_steps ≡ was_taken l cs e =
      ap (λ (f : Flow). all_left f own_steps) starts_as
      ∙ all_taken c.pdcp_bits l own_steps first_bearer (steady_so side l c keys e k h) told
      ∙ ap (λ (f : Flow). all_news f own_steps) (sym starts_as) in
      ap (λ (taken : List (List ℕ)). taken ++ waits) (sym left) ∙ leaves_then

  taken_thin : IsSubsequence (was_taken l cs e) (was_submitted l cs e)
  taken_thin =
      let left = all_left (flow l e) own_steps in
      subst (IsSubsequence (was_taken l cs e)) leaves_then
      (thinner (was_taken l cs e) left (left ++ waits) (news_leave own_steps (flow l e)) (front_thin left waits))

  -- what it takes is told
  abbrev guard : Protection
  guard = protection_of (AmKind c.pdcp_bits) keys (bearer_of c.channel.lcid) (sends side)

  first_sender : first_bearer.pdcp.tx ≡ start (AmKind c.pdcp_bits) guard c.first
  first_sender =
      let some : Some first_bearer.pdcp ≡ Some (begun_ends c.channel.lcid (AmKind c.pdcp_bits) c.first keys side) =
      am_begins c keys side in
      let same : first_bearer.pdcp ≡ begun_ends c.channel.lcid (AmKind c.pdcp_bits) c.first keys side = cc in
      ap (λ (x : Ends). x.tx) same ∙ begun_tx c.channel.lcid (AmKind c.pdcp_bits) c.first keys side

  start_next : (start (AmKind c.pdcp_bits) guard c.first).next ≡ c.first
  unfolding start
  start_next = refl

  flags_are : AllByRecursion (IsCall l) cs → were_taken c.first (flat_map (leaving_in l) (told_over cs e))
      ≡ all_flags (flow l e) own_steps
  flags_are g =
      ap (were_taken c.first) (all_goes g).leaving_are
      ∙ (ap (λ (f : Flow). were_taken c.first (all_leaving l f own_steps)) starts_as
      ∙ (ap (λ (n : ℕ). were_taken n (all_leaving l (Am first_bearer) own_steps))
      (sym (ap (λ s. s.next) first_sender ∙ start_next))
      ∙ (flags_told (AmKind c.pdcp_bits) guard c.first c.pdcp_bits l own_steps first_bearer
      (steady_so side l c keys e k h) (record { steps = []; is = first_sender })
      ∙ ap (λ (f : Flow). all_flags f own_steps) (sym starts_as))))

  pub taken_is_told : AllByRecursion (IsCall l) cs
      → was_taken l cs e ≡ taken_of l c.first (told_over cs e) (was_submitted l cs e)
  taken_is_told g =
      sym (flags_choose own_steps (flow l e) waits)
      ∙ (ap (chosen (all_flags (flow l e) own_steps)) leaves_then
      ∙ ap (λ (bs : List Bool). chosen bs (was_submitted l cs e)) (sym (flags_are g)))

  -- those that were submitted have left the queue, or wait
  pub all_leave_or_wait : AllByRecursion (IsCall l) cs
      → length (was_submitted l cs e) ≡ length (leaves l c.first (told_over cs e)) + length waits
  all_leave_or_wait g =
      let all = ap length leaves_then in
      let parts = length-append (all_left (flow l e) own_steps) waits in
      let many = flags_many own_steps (flow l e) in
      let told = ap length (flags_are g) in
      omega (arith, all, parts, many, told)

  pub waits_are : AllByRecursion (IsCall l) cs → waits ≡ queue (ends (flow l (run_end cs e)))
  waits_are g = sym (ap (λ (f : Flow). queue (ends f))
      ((all_goes g).bearer_is ∙ ap (run_bearer own_steps) h.bearer_is))

  -- none leaves that wasn't submitted
  pub none_beyond : AllByRecursion (IsCall l) cs
      → length (leaves l c.first (told_over cs e)) ≤ length (was_submitted l cs e)
  none_beyond g = let all = all_leave_or_wait g in omega (arith, all)

  -- and each is named
  pub takes_are_named : AllByRecursion (IsCall l) cs
      → AllByRecursion (NamesSdu c.first (was_taken l cs e)) (takes_on l (told_over cs e))
  takes_are_named g =
      let offered : List Offer = all_offers (flow l e) own_steps in
      let flow_is : flow l e ≡ flow_of kinds.Am c keys side =
      h.bearer_is ∙ ap (λ (kind : Kind). flow_of kind c keys side) k in
      let told : takes_on l (told_over cs e) ≡ flat_map taken_as offered =
      (all_goes g).takes_are
      ∙ (ap (λ (f : Flow). all_took l f own_steps) starts_as
      ∙ (all_told c.pdcp_bits l own_steps first_bearer (steady_so side l c keys e k h)
      ∙ ap (λ (f : Flow). flat_map taken_as (all_offers f own_steps)) (sym starts_as))) in
      subst (λ (ts : List TakenSdu). AllByRecursion (NamesSdu c.first (was_taken l cs e)) ts) (sym told)
      (each_named c.first (was_taken l cs e) offered
      (subst (λ (f : Flow). AllNamed c.first (all_news f own_steps) (all_offers f own_steps)) (sym flow_is)
      (am_named c keys side own_steps)))

  -- and so is what it doesn't discard
  pub kept_is_told : AllByRecursion (IsCall l) cs
      → was_taken l cs e ++ waits ≡ kept_of l c.first (told_over cs e) (was_submitted l cs e)
  kept_is_told g =
      let still : waits ≡ drop (length (were_taken c.first (flat_map (leaving_in l) (told_over cs e))))
      (was_submitted l cs e) =
      sym (flags_leave own_steps (flow l e) waits)
      ∙ (ap (drop (length (all_flags (flow l e) own_steps))) leaves_then
      ∙ ap (λ (bs : List Bool). drop (length bs) (was_submitted l cs e)) (sym (flags_are g))) in
      ap (λ (taken : List (List ℕ)). taken ++ waits) (taken_is_told g)
      ∙ ap (λ (ws : List (List ℕ)). taken_of l c.first (told_over cs e) (was_submitted l cs e) ++ ws) still

-- ---- the laws

pub channels_tell_what_is_taken : (l : ℕ) (c : BearerConfig) (keys : Keys) (nb ue : End) (from : Side)
    (steps : List AirStep)
    → AmEndsBeginAlike l c keys nb ue → AreLiving l (outset nb ue) steps
    → AreTold l c.first (told_over (all_calls from steps (outset nb ue)) (end_at from (outset nb ue)))
    (submitted_at l from steps (outset nb ue)) (taken_at l from steps (outset nb ue))
channels_tell_what_is_taken l c keys nb ue from steps h g =
    let e = end_at from (outset nb ue) in
    let cs = all_calls from steps (outset nb ue) in
    let b = begun l c keys nb ue h from in
    let calls = are_calls l from steps (outset nb ue) g in
    record {
      taken_are = taken_is_told from l c keys e cs h.kind b calls;
      were_submitted = none_beyond from l c keys e cs h.kind b calls;
      are_named = takes_are_named from l c keys e cs h.kind b calls;
    }

-- those that were submitted and are told of neither as taken nor as discarded wait at the end
pub channels_tell_what_waits : (l : ℕ) (c : BearerConfig) (keys : Keys) (nb ue : End) (from : Side)
    (steps : List AirStep)
    → AmEndsBeginAlike l c keys nb ue → AreLiving l (outset nb ue) steps
    → length (submitted_at l from steps (outset nb ue))
    ≡ length (leaves l c.first (told_over (all_calls from steps (outset nb ue)) (end_at from (outset nb ue))))
    + length (queue (ends (flow l (end_at from (lives steps (outset nb ue))))))
channels_tell_what_waits l c keys nb ue from steps h g =
    let a = outset nb ue in
    let e = end_at from a in
    let cs = all_calls from steps a in
    let b = begun l c keys nb ue h from in
    let calls = are_calls l from steps a g in
    let gone = length (leaves l c.first (told_over cs e)) in
    all_leave_or_wait from l c keys e cs h.kind b calls
    ∙ (ap (λ (ws : List (List ℕ)). gone + length ws) (waits_are from l c keys e cs h.kind b calls)
    ∙ ap (λ (x : End). gone + length (queue (ends (flow l x)))) (sym (goes_by_calls from steps a)))

pub channels_deliver_what_is_taken : (l : ℕ) (c : BearerConfig) (keys : Keys) (nb ue : End) (from : Side)
    (steps : List AirStep)
    → AmEndsBeginAlike l c keys nb ue → AreLiving l (outset nb ue) steps
    → AreFirstSdus (ups_at l (other from) steps (outset nb ue)) (taken_at l from steps (outset nb ue))
channels_deliver_what_is_taken l c keys nb ue from steps h g = delivers l c keys nb ue h from steps g

pub channels_deliver_in_order : (l : ℕ) (c : BearerConfig) (keys : Keys) (nb ue : End) (from : Side)
    (steps : List AirStep)
    → AmEndsBeginAlike l c keys nb ue → AreLiving l (outset nb ue) steps
    → IsSubsequence (ups_at l (other from) steps (outset nb ue)) (submitted_at l from steps (outset nb ue))
channels_deliver_in_order l c keys nb ue from steps h g =
    let cs = all_calls from steps (outset nb ue) in
    let e = end_at from (outset nb ue) in
    let up = ups_at l (other from) steps (outset nb ue) in
    let front : AreFirstSdus up (was_taken l cs e) = delivers l c keys nb ue h from steps g in
    thinner up (was_taken l cs e) (was_submitted l cs e)
    (subst (IsSubsequence up) (sym front.is) (front_thin up front.rest))
    (taken_thin from l c keys e cs h.kind (begun l c keys nb ue h from))

pub channels_deliver_undiscarded : (l : ℕ) (c : BearerConfig) (keys : Keys) (nb ue : End) (from : Side)
    (steps : List AirStep)
    → AmEndsBeginAlike l c keys nb ue → AreLiving l (outset nb ue) steps → DiscardsNoneAt l from steps (outset nb ue)
    → AreFirstSdus (ups_at l (other from) steps (outset nb ue)) (submitted_at l from steps (outset nb ue))
channels_deliver_undiscarded l c keys nb ue from steps h g none =
    let cs = all_calls from steps (outset nb ue) in
    let e = end_at from (outset nb ue) in
    let b = begun l c keys nb ue h from in
    let up = ups_at l (other from) steps (outset nb ue) in
    subst (AreFirstSdus up) (taken_then from l c keys e cs h.kind b (are_calls l from steps (outset nb ue) g) none)
    (front_more up (was_taken l cs e) (waits from l c keys e cs h.kind b) (delivers l c keys nb ue h from steps g))

pub unset_discards_none : (l : ℕ) (c : BearerConfig) (keys : Keys) (nb ue : End) (side : Side) (steps : List AirStep)
    → AmEndsBeginAlike l c keys nb ue → AreLiving l (outset nb ue) steps → SetNoneAt l side steps (outset nb ue)
    → DiscardsNoneAt l side steps (outset nb ue)
unset_discards_none l c keys nb ue side steps h g none =
    none_told side l c keys (end_at side (outset nb ue)) (all_calls side steps (outset nb ue)) h.kind
    (begun l c keys nb ue h side) (are_calls l side steps (outset nb ue) g) none

pub channels_deliver : (l : ℕ) (c : BearerConfig) (keys : Keys) (nb ue : End) (from : Side) (steps : List AirStep)
    → AmEndsBeginAlike l c keys nb ue → AreLiving l (outset nb ue) steps → SetNoneAt l from steps (outset nb ue)
    → AreFirstSdus (ups_at l (other from) steps (outset nb ue)) (submitted_at l from steps (outset nb ue))
channels_deliver l c keys nb ue from steps h g none =
    channels_deliver_undiscarded l c keys nb ue from steps h g (unset_discards_none l c keys nb ue from steps h g none)

-- ---- as a bearer is added

new_on : (l : ℕ) (cs : List Call) (c : Call) (e : End) → AreNew l cs e → IsNew l (run_end cs e) c
    → AreNew l (cs ++ c ∷ []) e
new_on l [] c e h new = (new, tt)
new_on l (x ∷ xs) c e h new = (h.0, new_on l xs c (after e x) h.1 new)

pub channels_begin : (side : Side) (maximum : ℕ) (reports : Bool) (past : List Call) (c : BearerConfig) (keys : Keys)
    → AreGiven past → AreNew c.channel.lcid past (fresh side maximum reports)
    → has c.channel.lcid (reached side maximum reports past).bearers ≡ false → IsConfig c
    → HasBegun side c.channel.lcid c keys (after (reached side maximum reports past) (Add c keys))
channels_begin side maximum reports past c keys given new none is =
    let e = reached side maximum reports past in
    let a = added e c keys in
    record {
      come = record {
        maximum = maximum;
        reports = reports;
        past = past ++ Add c keys ∷ [];
        given = given_on past (Add c keys) given is;
        end_is = sym (run_on past (Add c keys ∷ []) (fresh side maximum reports));
      };
      new = new_on c.channel.lcid past (Add c keys) (fresh side maximum reports) new (λ q. none);
      there = a.there;
      bearer_is = a.flow_is ∙ ap (λ (s : Side). flow_of c.kind c keys s) (reached_side side maximum reports past);
    }

-- ---- exactly which

pub channels_deliver_what_came : (l : ℕ) (c : BearerConfig) (keys : Keys) (nb ue : End) (from : Side)
    (steps : List AirStep)
    → AmEndsBeginAlike l c keys nb ue → AreLiving l (outset nb ue) steps
    → IsWhatCame c.first (told_from c l from steps (outset nb ue)) (taken_at l from steps (outset nb ue))
    (ups_at l (other from) steps (outset nb ue))
channels_deliver_what_came l c keys nb ue from steps h g = came l c keys nb ue h from steps g

-- with more behind what was taken
came_more : (first : ℕ) (a : Account) (news more ups : List (List ℕ)) → IsWhatCame first a news ups
    → IsWhatCame first a (news ++ more) ups
came_more first a news more ups h =
    let t = h.taken in
    let l = length-append news more in
    record {
      next = h.next;
      least = h.least;
      taken = omega (arith, t, l);
      ups_are = h.ups_are ∙ sym (take-append-le (h.next - first) news more (omega (arith, t)));
    }

pub channels_deliver_what_came_undiscarded : (l : ℕ) (c : BearerConfig) (keys : Keys) (nb ue : End) (from : Side)
    (steps : List AirStep)
    → AmEndsBeginAlike l c keys nb ue → AreLiving l (outset nb ue) steps → DiscardsNoneAt l from steps (outset nb ue)
    → IsWhatCame c.first (told_from c l from steps (outset nb ue)) (submitted_at l from steps (outset nb ue))
    (ups_at l (other from) steps (outset nb ue))
channels_deliver_what_came_undiscarded l c keys nb ue from steps h g none =
    let cs = all_calls from steps (outset nb ue) in
    let e = end_at from (outset nb ue) in
    let b = begun l c keys nb ue h from in
    let up = ups_at l (other from) steps (outset nb ue) in
    let a = told_from c l from steps (outset nb ue) in
    subst (λ (all : List (List ℕ)). IsWhatCame c.first a all up)
    (taken_then from l c keys e cs h.kind b (are_calls l from steps (outset nb ue) g) none)
    (came_more c.first a (was_taken l cs e) (waits from l c keys e cs h.kind b) up (came l c keys nb ue h from steps g))
