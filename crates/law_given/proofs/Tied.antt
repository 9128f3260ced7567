-- Both directions of a bearer of acknowledged data carried on step by step, as ways of a pair that the ends are.
use Rattle.std.proofs.Common.{◌≡◌, ℕ, List, [], ◌∷◌, ◌++◌, map, length, Result, Ok, Err, append-nil, append_assoc, refl}
use Rattle.std.proofs.Common.{ap, sym, subst, ◌∙◌}
use Rattle.std.proofs.lemmas.Grind.{flat_map-append}
use Rattle.std.specs.List.{AllByRecursion}
use Rattle.bearer.specs.declared.flow.Flow.{Flow}
use Rattle.bearer.specs.Acknowledged.State.{State}
use Rattle.bearer.specs.declared.flow.Flow.TheVariants.{Tm, Um, Am}
use Rattle.bearer_types.specs.declared.config.BearerConfig.{BearerConfig}
use Rattle.bearer_types.specs.declared.event.Event.{Event}
use Rattle.eps_sec.specs.declared.Keys.{Keys}
use Rattle.l2_node.specs.End.{End}
use Rattle.l2_types.specs.declared.side.Side.{Side}
use Rattle.l2_types.specs.declared.side.Side.TheVariants.{Nb, Ue}
use Rattle.pdcp_sec.specs.Protection.{Protection}
use Rattle.rlc_am_rx.specs.State.{State as Receiver}
use Rattle.rlc_pdu.specs.declared.fault.RlcRefusal.{RlcRefusal}
use Rattle.rlc_pdu.specs.Pdus.{AcknowledgedPdu, Payload, Status}
use Rattle.rlc_pdu.specs.Reading.{am_at}
use Rattle.law_bearer.specs.AmBearer.Lives.{protection_at}
use Rattle.law_bearer.specs.AnyBearer.Calls.{Call as BearerCall, Submit, Take, Arrive, Expire, Tick, SetDiscard}
use Rattle.law_bearer.specs.AnyBearer.Calls.{Step as BearerStep, Calls as CallsIt, Restart, after as called}
use Rattle.law_bearer.specs.AnyBearer.Calls.{goes as bearer_goes, run_bearer}
use Rattle.law_bearer.specs.AnyBearer.Queue.{news, all_news}
use Rattle.law_bearer.proofs.AnyBearer.Flows.{run_more}
use Rattle.law_words.specs.Arrivals.{AccountEntry, Account, no_account, account}
use Rattle.law_words.specs.Passing.{Told, nothing_told}
use Rattle.law_node.specs.Calls.{Call, after, run_end}
use Rattle.law_node.specs.Holding.{flow}
use Rattle.law_node.specs.Telling.{told_of as told_in, told_over}
use Rattle.law_rlc.specs.AmPair.Flow.{sender, am_rlc_outset}
use Rattle.law_rlc.specs.AmPair.Sdus.{offered, handed_up}
use Rattle.law_rlc.specs.AmPair.Confirmed.{confirmed}
use Rattle.law_rlc.specs.AmSender.Confirmed.{times}
use Rattle.law_rlc.specs.AmSender.Octets.{HasOctets}
use Rattle.law_rlc.proofs.AmArrival.Telling.{TellsOf, steps_tell, first_tells}
use Rattle.law_rlc.proofs.AmPair.Laws.{sound}
use Rattle.law_rlc.proofs.AmSender.Credits.{times-append}
use Rattle.law_deliver.specs.AmFlow.Air.{Air, Step, outset}
use Rattle.law_deliver.specs.AmFlow.Pair.{Pair}
use Rattle.law_deliver.specs.AmFlow.Ups.{up_on, ups_on, of_calls, calls_over}
use Rattle.law_deliver.specs.AmDelivery.Lives.{lives as pair_lives, over}
use Rattle.law_deliver.specs.AmDelivery.Lives.{near_news_in, far_news_in, near_ups_in, far_ups_in}
use Rattle.law_deliver.specs.AmDelivery.Arrival.{down_in, up_in}
use Rattle.law_deliver.specs.AmChannel.Arrival.{happens_in, happened, told_from}
use Rattle.law_deliver.specs.AmChannel.Delivery.{AmEndsBeginAlike, went_up, steps_over, taken_at, ups_at}
use Rattle.law_deliver.specs.AmChannel.Lives.{AirStep, InLife, Moves, IsLiving, lives, end_at, calls_at}
use Rattle.law_deliver.specs.AmChannel.Lives.{all_calls}
use Rattle.law_deliver.proofs.AmFlow.Ups.{Stands}
use Rattle.law_deliver.proofs.AmDelivery.Accounts.{Agrees, told_of}
use Rattle.law_deliver.proofs.AmDelivery.Beginning.{first_way, begins_joined}
use Rattle.law_deliver.proofs.AmDelivery.Delivering.{AllGoOn, all_go as ways_go, begins_account}
use Rattle.law_deliver.proofs.AmDelivery.Joined.{Way, IsWay, JoinedPair, rlc as way_rlc, pdcp as way_pdcp}
use Rattle.law_deliver.proofs.AmDelivery.Lasting.{Lasts, given_in, raised_by_pdu, raised_in}
use Rattle.law_deliver.proofs.AmDelivery.Lasting.{confirmed_by_pdu, confirmed_in, given_by, raised_by, confirmed_by}
use Rattle.law_deliver.proofs.AmDelivery.Promises.{GoesOn, goes_then, goes_not}
use Rattle.law_deliver.proofs.AmChannel.Bearers.{IsSteady}
use Rattle.law_deliver.proofs.AmChannel.Delivery.{first_of, pair, both_ends, both_match}
use Rattle.law_deliver.proofs.AmChannel.Ends.{step_end, step_so, step_in_life, steps_more, calls_are, of_life, all_go}
use Rattle.law_deliver.proofs.AmChannel.Ends.{all_ups, goes_by_calls}
use Rattle.law_deliver.proofs.AmChannel.Pairs.{own, all_does, ups_in_at, news_in_at, in_at, acked_on, ends_none}
use Rattle.law_deliver.proofs.AmChannel.Pairs.{all_acked, LivesGo, lives_go}
use Rattle.law_deliver.proofs.AmChannel.Walk.{BothMatch, Walks, step_walks, matches_on}
use Rattle.law_given.specs.Beside.{GoesOnAs}
use Rattle.law_given.specs.Joined.{Direction, AreJoined, rlc}
use Rattle.law_given.specs.Landing.{news_in, ready_in}
use Rattle.law_given.specs.SupplyLaws.{offered_in}
use Rattle.law_given.proofs.Joined.{of_way, all_steps, goes_as, joined_by}
use Rattle.law_given.proofs.JoinedSteps.{lives_more, happened_more, calls_more}

-- ---- both directions in one state

pub record AreTied (l : ℕ) (c : BearerConfig) (nb ue : End) (steps : List AirStep) : Type 0 where
  pub last : Pair
  pub matched : BothMatch c.pdcp_bits l (lives steps (outset nb ue)) last
  pub reached : (side : Side) → flow l (end_at side (lives steps (outset nb ue)))
      ≡ run_bearer (steps_over l (all_calls side steps (outset nb ue)) (end_at side (outset nb ue)))
      (flow l (end_at side (outset nb ue)))
  -- the way from each end, from the first one on
  pub down : Way
  pub up : Way
  pub ways : JoinedPair c.pdcp_bits down up last
  pub down_guard : Protection
  pub up_guard : Protection
  pub down_goes : GoesOn (first_way c down_guard) down (taken_at l Nb steps (outset nb ue))
      (ups_at l Ue steps (outset nb ue)) (happened c.pdcp_bits l Nb steps (outset nb ue))
  pub up_goes : GoesOn (first_way c up_guard) up (taken_at l Ue steps (outset nb ue))
      (ups_at l Nb steps (outset nb ue)) (happened c.pdcp_bits l Ue steps (outset nb ue))
  -- are both directions
  pub joined : AreJoined l c nb ue Nb steps
  pub there_is : joined.there ≡ of_way down
  pub back_is : joined.back ≡ of_way up
  -- the fields that RLC has written so far, by what is told
  pub there_fields : (told_from c l Nb steps (outset nb ue)).rlc.fields
      ≡ map length (sender (rlc joined.there)).past.sent
  pub back_fields : (told_from c l Ue steps (outset nb ue)).rlc.fields
      ≡ map length (sender (rlc joined.back)).past.sent
  pub there_octets : AllByRecursion HasOctets (rlc joined.there).sent
  pub back_octets : AllByRecursion HasOctets (rlc joined.back).sent

pub fields_told : (c : BearerConfig) (p : Protection) (w : Way) (news ups : List (List ℕ)) (told : List AccountEntry)
    → IsWay w → GoesOn (first_way c p) w news ups told
    → (account told no_account).rlc.fields ≡ map length (sender (way_rlc w)).past.sent
fields_told c p w news ups told is g =
    let a : Account = account told no_account in
    let k : Agrees a (way_pdcp w) (told_of w) = g.tells no_account (begins_account c p) in
    let t : TellsOf (way_rlc w) (told_of w) =
    steps_tell w.steps (am_rlc_outset w.sending w.receiving) nothing_told is.steps
    (sound w.sending w.receiving [] tt) (first_tells w.sending w.receiving) in
    ap (λ (x : Told). x.fields) (sym k.rlc_is) ∙ t.fields

pub have_octets : (w : Way) → IsWay w → AllByRecursion HasOctets (way_rlc w).sent
have_octets w is = (sound w.sending w.receiving w.steps is.steps).offered

abbrev tied_by : (l : ℕ) (c : BearerConfig) (nb ue : End) (steps : List AirStep) (p q : Protection) (last : Pair)
    (down up : Way)
    → BothMatch c.pdcp_bits l (lives steps (outset nb ue)) last
    → ((side : Side) → flow l (end_at side (lives steps (outset nb ue)))
    ≡ run_bearer (steps_over l (all_calls side steps (outset nb ue)) (end_at side (outset nb ue)))
    (flow l (end_at side (outset nb ue))))
    → JoinedPair c.pdcp_bits down up last
    → GoesOn (first_way c p) down (taken_at l Nb steps (outset nb ue)) (ups_at l Ue steps (outset nb ue))
    (happened c.pdcp_bits l Nb steps (outset nb ue))
    → GoesOn (first_way c q) up (taken_at l Ue steps (outset nb ue)) (ups_at l Nb steps (outset nb ue))
    (happened c.pdcp_bits l Ue steps (outset nb ue))
    → AreTied l c nb ue steps
tied_by l c nb ue steps p q last down up m r j there back = record {
  last = last;
  matched = m;
  reached = r;
  down = down;
  up = up;
  ways = j;
  down_guard = p;
  up_guard = q;
  down_goes = there;
  up_goes = back;
  joined = joined_by l c nb ue steps p q last down up m.nb.bearer_is m.ue.bearer_is j there back;
  there_is = refl;
  back_is = refl;
  there_fields = fields_told c p down _ _ _ j.down_is there;
  back_fields = fields_told c q up _ _ _ j.up_is back;
  there_octets = have_octets down j.down_is;
  back_octets = have_octets up j.up_is;
}

-- ---- as the bearers come

pub ties_begin : (l : ℕ) (c : BearerConfig) (keys : Keys) (nb ue : End) → AmEndsBeginAlike l c keys nb ue
    → AreTied l c nb ue []
ties_begin l c keys nb ue h =
    let there = first_way c (protection_at c keys Nb) in
    let back = first_way c (protection_at c keys Ue) in
    tied_by l c nb ue [] (protection_at c keys Nb) (protection_at c keys Ue) (pair l c keys nb ue h) there back
    (both_match l c keys nb ue h) (λ side. refl)
    (begins_joined c keys (first_of c keys Nb) (first_of c keys Ue) (both_ends l c keys nb ue h))
    (goes_not there) (goes_not back)

-- ---- a step further: what is taken, goes up and is told grows by what the step brings

over_more : (cs ds : List Call) (e : End) → told_over (cs ++ ds) e ≡ told_over cs e ++ told_over ds (run_end cs e)
over_more [] ds e = refl
over_more (c ∷ cs) ds e =
    ap (λ (es : List Event). told_in e c ++ es) (over_more cs ds (after e c))
    ∙ sym (append_assoc (told_in e c) (told_over cs (after e c)) (told_over ds (run_end cs (after e c))))

news_more : (xs ys : List BearerStep) (f : Flow)
    → all_news f (xs ++ ys) ≡ all_news f xs ++ all_news (run_bearer xs f) ys
news_more [] ys f = refl
news_more (CallsIt c ∷ xs) ys f =
    ap (λ (l : List (List ℕ)). news f c ++ l) (news_more xs ys (called f c))
    ∙ sym (append_assoc (news f c) (all_news (called f c) xs) (all_news (run_bearer xs (called f c)) ys))
news_more (Restart keys ∷ xs) ys f = news_more xs ys (bearer_goes f (Restart keys))

-- the calls of a side, with those of the step
calls_then : (side : Side) (steps : List AirStep) (x : AirStep) (a : Air)
    → all_calls side (steps ++ x ∷ []) a ≡ all_calls side steps a ++ calls_at side (lives steps a) x
calls_then side steps x a =
    calls_more side steps (x ∷ []) a
    ∙ ap (λ (cs : List Call). all_calls side steps a ++ cs) (append-nil (calls_at side (lives steps a) x))

happened_then : (bits l : ℕ) (side : Side) (steps : List AirStep) (x : AirStep) (a : Air)
    → happened bits l side steps a ++ happens_in bits l side (lives steps a) x
    ≡ happened bits l side (steps ++ x ∷ []) a
happened_then bits l side steps x a =
    ap (λ (hs : List AccountEntry). happened bits l side steps a ++ hs)
    (sym (append-nil (happens_in bits l side (lives steps a) x)))
    ∙ sym (happened_more bits l side steps (x ∷ []) a)

module _ (l : ℕ) (c : BearerConfig) (nb ue : End) (steps : List AirStep) (x : AirStep)
    (g : IsLiving l (lives steps (outset nb ue)) x)
    (t : AreTied l c nb ue steps) where
  abbrev at : Air
  at = lives steps (outset nb ue)

  abbrev walk : Walks c.pdcp_bits l at x t.last
  walk = step_walks c.pdcp_bits l at x t.last g t.matched

  abbrev begun : Side → End
  begun side = end_at side (outset nb ue)

  abbrev so_far : Side → List Call
  so_far side = all_calls side steps (outset nb ue)

  abbrev now : Side → List Call
  now side = calls_at side at x

  stands : (side : Side) → Stands side l (end_at side at)
  stands Nb = t.matched.nb_stands
  stands Ue = t.matched.ue_stands

  steady : (side : Side) → IsSteady c.pdcp_bits l (own side t.last).bearer
  steady Nb = t.matched.nb_steady
  steady Ue = t.matched.ue_steady

  own_is : (side : Side) → flow l (end_at side at) ≡ Am (own side t.last).bearer
  own_is Nb = t.matched.nb.bearer_is
  own_is Ue = t.matched.ue.bearer_is

  does_is : (side : Side) → all_does side walk.steps t.last ≡ steps_over l (now side) (end_at side at)
  does_is Nb = walk.nb_does
  does_is Ue = walk.ue_does

  ends_at : (side : Side) → end_at side at ≡ run_end (so_far side) (begun side)
  ends_at side = goes_by_calls side steps (outset nb ue)

  -- its bearer
  steps_then : (side : Side)
      → steps_over l (all_calls side (steps ++ x ∷ []) (outset nb ue)) (begun side)
      ≡ steps_over l (so_far side) (begun side) ++ steps_over l (now side) (end_at side at)
  steps_then side =
      ap (λ (cs : List Call). steps_over l cs (begun side)) (calls_then side steps x (outset nb ue))
      ∙ steps_more l (so_far side) (now side) (begun side)
      ∙ ap (λ (e : End). steps_over l (so_far side) (begun side) ++ steps_over l (now side) e) (sym (ends_at side))

  reaches : (side : Side) → flow l (end_at side (lives (steps ++ x ∷ []) (outset nb ue)))
      ≡ run_bearer (steps_over l (all_calls side (steps ++ x ∷ []) (outset nb ue)) (begun side))
      (flow l (begun side))
  reaches side =
      ap (λ (a : Air). flow l (end_at side a)) (lives_more steps (x ∷ []) (outset nb ue))
      ∙ ap (flow l) (step_end side at x)
      ∙ (all_go side l (end_at side at) (now side) (stands side) (step_so l side at x g)).bearer_is
      ∙ ap (run_bearer (steps_over l (now side) (end_at side at))) (t.reached side)
      ∙ sym (run_more (flow l (begun side)) (steps_over l (so_far side) (begun side))
      (steps_over l (now side) (end_at side at)))
      ∙ ap (λ (ss : List BearerStep). run_bearer ss (flow l (begun side))) (sym (steps_then side))

  taken_then : (side : Side)
      → taken_at l side steps (outset nb ue) ++ over (news_in_at side) walk.steps t.last
      ≡ taken_at l side (steps ++ x ∷ []) (outset nb ue)
  taken_then side =
      let f = flow l (begun side) in
      let before = steps_over l (so_far side) (begun side) in
      let own_steps = steps_over l (now side) (end_at side at) in
      ap (λ (xs : List (List ℕ)). taken_at l side steps (outset nb ue) ++ xs)
      ((lives_go c.pdcp_bits l side walk.steps t.last (steady side)).news_are
      ∙ ap (all_news (Am (own side t.last).bearer)) (does_is side)
      ∙ ap (λ (y : Flow). all_news y own_steps) (sym (own_is side) ∙ t.reached side))
      ∙ sym (news_more before own_steps f)
      ∙ ap (all_news f) (sym (steps_then side))

  ups_then : (side : Side)
      → ups_at l side steps (outset nb ue) ++ over (ups_in_at side) walk.steps t.last
      ≡ ups_at l side (steps ++ x ∷ []) (outset nb ue)
  ups_then side =
      let e = begun side in
      let own_steps = steps_over l (now side) (end_at side at) in
      ap (λ (xs : List (List ℕ)). ups_at l side steps (outset nb ue) ++ xs)
      ((lives_go c.pdcp_bits l side walk.steps t.last (steady side)).ups_are
      ∙ ap (all_ups l (Am (own side t.last).bearer)) (does_is side)
      ∙ ap (λ (y : Flow). all_ups l y own_steps) (sym (own_is side))
      ∙ sym (all_go side l (end_at side at) (now side) (stands side) (step_so l side at x g)).ups_are
      ∙ ap (went_up l (now side)) (ends_at side))
      ∙ sym (flat_map-append (up_on l) (told_over (so_far side) e) (told_over (now side) (run_end (so_far side) e)))
      ∙ ap (ups_on l) (sym (over_more (so_far side) (now side) e))
      ∙ ap (λ (cs : List Call). went_up l cs e) (sym (calls_then side steps x (outset nb ue)))

  -- both ways behind it
  abbrev gone : AllGoOn c.pdcp_bits t.down t.up t.last walk.steps
  gone = ways_go all_steps walk.steps c.pdcp_bits t.down t.up t.last walk.living t.ways

  matches : BothMatch c.pdcp_bits l (lives (steps ++ x ∷ []) (outset nb ue)) (pair_lives walk.steps t.last)
  matches =
      subst (λ (a : Air). BothMatch c.pdcp_bits l a (pair_lives walk.steps t.last))
      (sym (lives_more steps (x ∷ []) (outset nb ue)))
      (matches_on c.pdcp_bits l at x t.last g t.matched walk)

  down_told : happened c.pdcp_bits l Nb steps (outset nb ue) ++ over down_in walk.steps t.last
      ≡ happened c.pdcp_bits l Nb (steps ++ x ∷ []) (outset nb ue)
  down_told = ap (λ (hs : List AccountEntry). happened c.pdcp_bits l Nb steps (outset nb ue) ++ hs) walk.down_is
      ∙ happened_then c.pdcp_bits l Nb steps x (outset nb ue)

  up_told : happened c.pdcp_bits l Ue steps (outset nb ue) ++ over up_in walk.steps t.last
      ≡ happened c.pdcp_bits l Ue (steps ++ x ∷ []) (outset nb ue)
  up_told = ap (λ (hs : List AccountEntry). happened c.pdcp_bits l Ue steps (outset nb ue) ++ hs) walk.up_is
      ∙ happened_then c.pdcp_bits l Ue steps x (outset nb ue)

  abbrev next : AreTied l c nb ue (steps ++ x ∷ [])
  next =
      let one = first_way c t.down_guard in
      let two = first_way c t.up_guard in
      tied_by l c nb ue (steps ++ x ∷ []) t.down_guard t.up_guard (pair_lives walk.steps t.last) gone.down_after
      gone.up_after matches reaches gone.joined
      (goes_as one gone.down_after _ _ _ _ (taken_then Nb) (ups_then Ue) down_told
      (goes_then one t.down gone.down_after _ (over near_news_in walk.steps t.last) _
      (over far_ups_in walk.steps t.last) t.down_goes gone.down_goes))
      (goes_as two gone.up_after _ _ _ _ (taken_then Ue) (ups_then Nb) up_told
      (goes_then two t.up gone.up_after _ (over far_news_in walk.steps t.last) _
      (over near_ups_in walk.steps t.last) t.up_goes gone.up_goes))

-- ---- what RLC is given, hands up and newly confirms in a step of a life

-- by the calls of a bearer of acknowledged data
abbrev pub acked_over : {X : Type 0} → (State → BearerCall → List X) → Flow → List BearerCall → List X
acked_over by f [] = []
acked_over by f (c ∷ cs) = acked_on by f c ++ acked_over by (called f c) cs

abbrev pub offered_over : Flow → List BearerCall → List (List ℕ)
offered_over = acked_over offered_in

abbrev pub ready_as : State → BearerCall → List (List ℕ)
ready_as b (Submit sdu) = []
ready_as b (Take share held) = []
ready_as b (Arrive pdu) = ready_in (am_at pdu) b.rx
ready_as b (Expire clock) = []
ready_as b Tick = []
ready_as b (SetDiscard ttis) = []

abbrev pub ready_over : Flow → List BearerCall → List (List ℕ)
ready_over = acked_over ready_as

-- what it newly confirms as STATUS PDUs come
abbrev pub news_as : State → BearerCall → List ℕ
news_as b (Submit sdu) = []
news_as b (Take share held) = []
news_as b (Arrive pdu) = news_in (am_at pdu) b
news_as b (Expire clock) = []
news_as b Tick = []
news_as b (SetDiscard ttis) = []

abbrev pub news_over : Flow → List BearerCall → List ℕ
news_over = acked_over news_as

-- as in its steps
abbrev AreSame : {X : Type 0} → (State → BearerCall → List X) → (State → BearerCall → List X) → Type 0
AreSame in' by = (b : State) (c : BearerCall) → in' b c ≡ by b c

given_same : AreSame given_in offered_in
given_same b (Submit sdu) = refl
given_same b (Take share held) = refl
given_same b (Arrive pdu) = refl
given_same b (Expire clock) = refl
given_same b Tick = refl
given_same b (SetDiscard ttis) = refl

read_same : (x : Result AcknowledgedPdu RlcRefusal) (r : Receiver) → raised_by_pdu x r ≡ ready_in x r
read_same (Err refused) r = refl
read_same (Ok (Payload pdu)) r = refl
read_same (Ok (Status pdu)) r = refl

raised_same : AreSame raised_in ready_as
raised_same b (Submit sdu) = refl
raised_same b (Take share held) = refl
raised_same b (Arrive pdu) = read_same (am_at pdu) b.rx
raised_same b (Expire clock) = refl
raised_same b Tick = refl
raised_same b (SetDiscard ttis) = refl

told_same : (x : Result AcknowledgedPdu RlcRefusal) (b : State) → confirmed_by_pdu x b.tx ≡ news_in x b
told_same (Err refused) b = refl
told_same (Ok (Payload pdu)) b = refl
told_same (Ok (Status pdu)) b = refl

confirmed_same : AreSame confirmed_in news_as
confirmed_same b (Submit sdu) = refl
confirmed_same b (Take share held) = refl
confirmed_same b (Arrive pdu) = told_same (am_at pdu) b
confirmed_same b (Expire clock) = refl
confirmed_same b Tick = refl
confirmed_same b (SetDiscard ttis) = refl

module _ {X : Type 0} (in' by : State → BearerCall → List X) (same : AreSame in' by) where
  one_same : (f : Flow) (c : BearerCall) → acked_on in' f c ≡ acked_on by f c
  one_same (Tm b) c = refl
  one_same (Um b) c = refl
  one_same (Am b) c = same b c

  all_same : (l : ℕ) (cs : List BearerCall) (f : Flow) → of_calls (λ n. acked_on in') l f cs ≡ acked_over by f cs
  all_same l [] f = refl
  all_same l (c ∷ cs) f =
      ap (λ (xs : List X). xs ++ of_calls (λ n. acked_on in') l (called f c) cs) (one_same f c)
      ∙ ap (λ (xs : List X). acked_on by f c ++ xs) (all_same l cs (called f c))

-- a direction goes on
goes_so : (d : Direction) (w v : Way) (given raised offers ups : List (List ℕ)) (told newly : List ℕ) → d ≡ of_way w
    → given ≡ offers → raised ≡ ups → told ≡ newly
    → Lasts w v given raised told → GoesOnAs d (of_way v) offers ups newly
goes_so d w v given raised offers ups told newly is p q r h =
    subst (λ (x : Direction). GoesOnAs x (of_way v) offers ups newly) (sym is)
    (record {
      offered_is = h.offered_is ∙ ap (λ (l : List (List ℕ)). offered (way_rlc w) ++ l) p;
      handed_is = h.handed_is ∙ ap (λ (l : List (List ℕ)). handed_up (way_rlc w) ++ l) q;
      confirmed_is = λ k. ap (times k) (h.confirmed_is ∙ ap (λ (l : List ℕ). confirmed (way_rlc w) ++ l) r)
          ∙ times-append k (confirmed (way_rlc w)) newly;
    })

-- the calls of a side's bearer in a step
abbrev pub calls_of_step : ℕ → Side → Air → AirStep → List BearerCall
calls_of_step l side a x = calls_over l (calls_at side a x) (end_at side a)

abbrev pub GoesFrom : ℕ → Side → Side → Air → AirStep → Direction → Direction → Type 0
GoesFrom l from to a x d e =
    GoesOnAs d e (offered_over (flow l (end_at from a)) (calls_of_step l from a x))
    (ready_over (flow l (end_at to a)) (calls_of_step l to a x))
    (news_over (flow l (end_at from a)) (calls_of_step l from a x))

module _ (l : ℕ) (c : BearerConfig) (nb ue : End) (steps : List AirStep) (s : Step)
    (g : IsLiving l (lives steps (outset nb ue)) (InLife s))
    (t : AreTied l c nb ue steps) where
  abbrev here : Air
  here = lives steps (outset nb ue)

  abbrev one : Walks c.pdcp_bits l here (InLife s) t.last
  one = walk l c nb ue steps (InLife s) g t

  life_does : (side : Side)
      → all_does side one.steps t.last
      ≡ map (λ y. CallsIt y) (calls_of_step l side here (InLife s))
  life_does side =
      does_is l c nb ue steps (InLife s) g t side
      ∙ calls_are l (calls_at side here (InLife s)) (end_at side here) (step_in_life l side here s g)

  -- what is said of the steps of the pair, by the calls
  so_over : {X : Type 0} (in' by : State → BearerCall → List X) → AreSame in' by → (side : Side) (said : List X)
      → said ≡ all_acked in' l (Am (own side t.last).bearer) (all_does side one.steps t.last)
      → said ≡ acked_over by (flow l (end_at side here)) (calls_of_step l side here (InLife s))
  so_over in' by same side said is =
      let cs = calls_of_step l side here (InLife s) in
      is
      ∙ ap (all_acked in' l (Am (own side t.last).bearer)) (life_does side)
      ∙ ap (λ (f : Flow). all_acked in' l f (map (λ y. CallsIt y) cs))
      (sym (own_is l c nb ue steps (InLife s) g t side))
      ∙ of_life (λ n. acked_on in') ends_none l cs (flow l (end_at side here))
      ∙ all_same in' by same l cs (flow l (end_at side here))

  goes : (side : Side) → LivesGo c.pdcp_bits l side t.last one.steps
  goes side = lives_go c.pdcp_bits l side one.steps t.last (steady l c nb ue steps (InLife s) g t side)

  given_so : (side : Side) → over (in_at side given_by) one.steps t.last
      ≡ offered_over (flow l (end_at side here)) (calls_of_step l side here (InLife s))
  given_so side = so_over given_in offered_in given_same side _ (goes side).given_are

  raised_so : (side : Side) → over (in_at side raised_by) one.steps t.last
      ≡ ready_over (flow l (end_at side here)) (calls_of_step l side here (InLife s))
  raised_so side = so_over raised_in ready_as raised_same side _ (goes side).raised_are

  confirmed_so : (side : Side) → over (in_at side confirmed_by) one.steps t.last
      ≡ news_over (flow l (end_at side here)) (calls_of_step l side here (InLife s))
  confirmed_so side = so_over confirmed_in news_as confirmed_same side _ (goes side).confirmed_are

  there_on : GoesFrom l Nb Ue here (InLife s) t.joined.there (next l c nb ue steps (InLife s) g t).joined.there
  there_on =
      let r = gone l c nb ue steps (InLife s) g t in
      goes_so t.joined.there t.down r.down_after _ _ _ _ _ _ t.there_is (given_so Nb) (raised_so Ue) (confirmed_so Nb)
      (r.down_lasts (one.of_life tt))

  back_on : GoesFrom l Ue Nb here (InLife s) t.joined.back (next l c nb ue steps (InLife s) g t).joined.back
  back_on =
      let r = gone l c nb ue steps (InLife s) g t in
      goes_so t.joined.back t.up r.up_after _ _ _ _ _ _ t.back_is (given_so Ue) (raised_so Nb) (confirmed_so Ue)
      (r.up_lasts (one.of_life tt))

-- ---- a step

pub record TiesGoOn (l : ℕ) (c : BearerConfig) (nb ue : End) (steps : List AirStep) (x : AirStep)
    (t : AreTied l c nb ue steps) : Type 0 where
  pub next : AreTied l c nb ue (steps ++ x ∷ [])
  pub there_goes : (s : Step) → x ≡ InLife s
      → GoesFrom l Nb Ue (lives steps (outset nb ue)) (InLife s) t.joined.there next.joined.there
  pub back_goes : (s : Step) → x ≡ InLife s
      → GoesFrom l Ue Nb (lives steps (outset nb ue)) (InLife s) t.joined.back next.joined.back

same_step : (s r : Step) → InLife s ≡ InLife r → s ≡ r
same_step s r q = cc

pub ties_go_on : (l : ℕ) (c : BearerConfig) (nb ue : End) (steps : List AirStep) (x : AirStep)
    → IsLiving l (lives steps (outset nb ue)) x → (t : AreTied l c nb ue steps) → TiesGoOn l c nb ue steps x t
ties_go_on l c nb ue steps (InLife s) g t = record {
  next = next l c nb ue steps (InLife s) g t;
  there_goes = λ r q.
      subst (λ (y : Step). GoesFrom l Nb Ue (lives steps (outset nb ue)) (InLife y) t.joined.there
      (next l c nb ue steps (InLife s) g t).joined.there) (same_step s r q) (there_on l c nb ue steps s g t);
  back_goes = λ r q.
      subst (λ (y : Step). GoesFrom l Ue Nb (lives steps (outset nb ue)) (InLife y) t.joined.back
      (next l c nb ue steps (InLife s) g t).joined.back) (same_step s r q) (back_on l c nb ue steps s g t);
}
ties_go_on l c nb ue steps (Moves keys) g t = record {
  next = next l c nb ue steps (Moves keys) g t;
  there_goes = λ r q. let no : Moves keys ≡ InLife r = q in cc;
  back_goes = λ r q. let no : Moves keys ≡ InLife r = q in cc;
}
