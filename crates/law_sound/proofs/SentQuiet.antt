-- A step of a life in which no new block is built: what is kept of the flow that each side sends stays, and stands
-- beside the bearers as they go on.
use Rattle.std.proofs.Common.{◌≡◌, ◌≤◌, ℕ, Option, Some, None, List, []}
use Rattle.std.proofs.Common.{◌∷◌, ◌++◌, slice_get, append-nil, refl, ap, sym, subst, ◌∙◌, inl, inr}
use Rattle.std.specs.List.{AllByRecursion}
use Rattle.air_record.specs.declared.record.Record.{Record}
use Rattle.air_record.specs.Submissions.{submitted_by}
use Rattle.air_text.specs.Groups.{Group}
use Rattle.bearer.specs.Acknowledged.State.{State}
use Rattle.bearer.specs.declared.flow.Flow.{Flow as BearerFlow}
use Rattle.bearer.specs.declared.flow.Flow.TheVariants.{Am}
use Rattle.bearer_types.specs.Sides.{other, heard_by}
use Rattle.bearer_types.specs.declared.config.BearerConfig.{BearerConfig}
use Rattle.bearer_types.specs.declared.event.Event.{Event}
use Rattle.bearer_types.specs.declared.event.Event.TheVariants as events
use Rattle.eps_sec.specs.declared.Keys.{Keys}
use Rattle.l2_node.specs.End.{End}
use Rattle.l2_types.specs.declared.side.Side.{Side}
use Rattle.l2_types.specs.declared.side.Side.TheVariants.{Nb, Ue}
use Rattle.pdcp_pdu.specs.Kinds.{IsKind}
use Rattle.pdcp_pdu.specs.declared.PdcpKind.TheVariants.{Am as AmKind}
use Rattle.pdcp_sec.specs.Protection.{Protection}
use Rattle.promises.specs.Events.{told_on}
use Rattle.promises.specs.Flows.{looped_at, loops_in}
use Rattle.promises.specs.Pdus.{carried}
use Rattle.promises.specs.Records.{events_of}
use Rattle.journal_given.specs.Giving.{side_of}
use Rattle.journal_given.specs.Supplies.{Bearer, History, Supply}
use Rattle.journal_given.specs.Supplies as given
use Rattle.journal_sent.specs.RightSent.{Flow}
use Rattle.journal_sent.specs.SentFlows.{gives_data}
use Rattle.journal_sent.specs.SentPdus.{histories}
use Rattle.law_bearer.specs.AmBearer.Calls.{IsOfData, tells}
use Rattle.law_bearer.specs.AnyBearer.Calls.{Call as BearerCall, Submit as Submits, Take as Takes, Arrive as Arrives}
use Rattle.law_bearer.specs.AnyBearer.Calls.{Expire as Expires, Tick as Ticks, SetDiscard as SetsDiscard, after}
use Rattle.law_bearer.specs.AnyBearer.Calls.{after_all}
use Rattle.law_bearer.specs.AnyBearer.Queue.{submits as submits_in}
use Rattle.law_bearer.specs.AnyBearer.Rounds.{arrivals}
use Rattle.law_deliver.specs.AmChannel.Delivery.{AmEndsBeginAlike, was_submitted}
use Rattle.law_deliver.specs.AmChannel.Lives.{AirStep, InLife, AreLiving, brought, calls_at, end_at, lives}
use Rattle.law_deliver.specs.AmFlow.Air.{Air, Block, Comes, Step, IsGiven, outset}
use Rattle.law_deliver.specs.AmFlow.Pair.{called}
use Rattle.law_deliver.specs.AmFlow.Ups.{calls_over, tells_over}
use Rattle.law_deliver.proofs.AmFlow.Sending.{is_called}
use Rattle.law_given.specs.BearerRecords.{bearer_first}
use Rattle.law_given.specs.Beside.{progress}
use Rattle.law_given.specs.Supplied.{IsSupplied}
use Rattle.law_given.specs.SupplyLaws.{AreRight, IsOwn, offered_in, supplied_by}
use Rattle.law_given.specs.SupplyLaws.{submitted_by as supply_submits}
use Rattle.law_given.specs.SupplyPdus.{IsSpelled, pdu_if, pdus_in, pdus_told}
use Rattle.law_given.proofs.SupplyPdus.{offered_are_told}
use Rattle.law_given.proofs.SupplyPdusSpelled.{one_owes_spelled, two_owes_spelled}
use Rattle.law_given.proofs.Supplying.{calls_are_gathered}
use Rattle.law_given.proofs.Tied.{AreTied, calls_of_step}
use Rattle.law_run.specs.TwoEnds.Logs.{Flight, log_at, logged}
use Rattle.law_run.proofs.OwnPdus.Bearers.{IsQuiet}
use Rattle.law_run.proofs.EmptyLists.{parts_empty}
use Rattle.law_sent.specs.Channels.{StandsOn}
use Rattle.law_sound.specs.BesideLaws.{station_of}
use Rattle.law_run.specs.TwoEnds.Along.{at_side}
use Rattle.law_sound.specs.LivedFails.{HaveComeNew}
use Rattle.law_sound.specs.LivedHistories.{Moment}
use Rattle.law_sound.specs.NamedSteps.{SendsNoNewBlock}
use Rattle.law_sound.proofs.GivenBeside.{AreGivenOf, of_both}
use Rattle.law_sound.proofs.GivenCalls.{one_tells, submits_all, submits_over}
use Rattle.law_sound.proofs.GivenHow.{HowItGoes, Few, Brought, how_it_goes}
use Rattle.law_sound.proofs.GivenMoments.{way, bearer, history}
use Rattle.law_sound.proofs.GivenStepFacts.{events_are, bearers_go}
use Rattle.law_sound.proofs.GivenWays.{same_state, lcid_at}
use Rattle.law_sound.proofs.LaterRecords.{TellsOfNoTaking, arrivals_over}
use Rattle.law_sound.proofs.LivedFails.{AreThere}
use Rattle.law_sound.proofs.LoggedEvents.{HearsNone, none_comes_in}
use Rattle.law_sound.proofs.SentBeside.{IsSentBy, flow_by, flow_over}
use Rattle.law_sound.proofs.SentBetween.{StandsBeside}
use Rattle.law_sound.proofs.SentCalls.{calls_keep_sent}
use Rattle.law_sound.proofs.SentRecords.{sending_first, sent_quiet, sent_still, gathers_sent}

-- ---- events that give RLC nothing leave the flow

given_same : (bits count : ℕ) (protection : Protection) (sdu : Option (List ℕ)) (f : Flow)
    → pdu_if bits protection count sdu ≡ [] → gives_data histories (Some count) sdu f ≡ f
given_same bits count protection None f none = refl
given_same bits count protection (Some sdu) f none = absurd cc

event_same : (protection : Protection) (e : Event) (s : Supply History) (f : Flow) → pdus_in protection e s ≡ []
    → flow_by e s f ≡ f
event_same protection (events.Take lcid None len) s f none = refl
event_same protection (events.Take lcid (Some count) len) s f none =
    given_same s.bits count protection (given.histories.sdu count s.takes) f none
event_same protection (events.Report lcid fms bitmap) s f none = absurd cc
event_same protection e s f none = refl

flow_same : (protection : Protection) (es : List Event) (s : Supply History) (f : Flow)
    → pdus_told protection es s ≡ [] → flow_over es s f ≡ f
flow_same protection [] s f none = refl
flow_same protection (e ∷ es) s f none =
    let parts = parts_empty (pdus_in protection e s) (pdus_told protection es (supplied_by e s)) none in
    ap (flow_over es (supplied_by e s)) (event_same protection e s f parts.0)
    ∙ flow_same protection es (supplied_by e s) f parts.1

-- ---- calls in which a bearer writes nothing

pub record IsSentTo (bits : ℕ) (x : BearerFlow) (f : Flow) : Type 0 where
  pub bearer : State
  pub is : x ≡ Am bearer
  pub sent : IsSentBy bits bearer f

pub calls_keep : (bits : ℕ) (f : Flow) (cs : List BearerCall) (b : State) → AllByRecursion IsQuiet cs
    → IsSentBy bits b f → IsSentTo bits (after_all (Am b) cs) f
calls_keep bits f [] b quiet h = record { bearer = b; is = refl; sent = h }
calls_keep bits f (c ∷ cs) b quiet h =
    let q = is_called b c in
    let x = calls_keep bits f cs (called b c) quiet.1 (calls_keep_sent bits b (called b c) c f quiet.0 q h) in
    record {
      bearer = x.bearer;
      is = ap (λ (y : BearerFlow). after_all y cs) q ∙ x.is;
      sent = x.sent;
    }

pub all_keep_sent : (bits : ℕ) (cs : List BearerCall) (b d : State) (f : Flow) → AllByRecursion IsQuiet cs
    → after_all (Am b) cs ≡ Am d → IsSentBy bits b f → IsSentBy bits d f
all_keep_sent bits cs b d f quiet is h =
    let x = calls_keep bits f cs b quiet h in
    subst (λ (y : State). IsSentBy bits y f) (same_state d x.bearer (sym is ∙ x.is)) x.sent

-- a block comes to one side
comes_calls : (l : ℕ) (a : Air) (from : Side) (k : ℕ) (block : Block)
    → slice_get (station_of from a).blocks k ≡ Some block → (side : Side) → (pdus : List (List ℕ))
    × (calls_of_step l side a (InLife (at_side (other from) (Comes k))) ≡ arrivals pdus)
comes_calls l a Nb k block at Nb = ([], refl)
comes_calls l a Nb k block at Ue = (
  carried l (heard_by a.ue.end.side) block.octets,
  ap (λ (o : Option Block). calls_over l (brought o) a.ue.end) at
      ∙ append-nil (arrivals (carried l (heard_by a.ue.end.side) block.octets)),
)
comes_calls l a Ue k block at Ue = ([], refl)
comes_calls l a Ue k block at Nb = (
  carried l (heard_by a.nb.end.side) block.octets,
  ap (λ (o : Option Block). calls_over l (brought o) a.nb.end) at
      ∙ append-nil (arrivals (carried l (heard_by a.nb.end.side) block.octets)),
)

-- ---- what a step makes of both bearers, and what its records tell

module _ (l : ℕ) (c : BearerConfig) (nb ue : End) (steps : List AirStep) (s : Step) (t : AreTied l c nb ue steps)
    (t' : AreTied l c nb ue (steps ++ InLife s ∷ [])) where
  abbrev pub air : Air
  air = lives steps (outset nb ue)

  abbrev pub was : Side → State
  was side = bearer l c nb ue steps t side

  abbrev pub now_is : Side → State
  now_is side = bearer l c nb ue (steps ++ InLife s ∷ []) t' side

  abbrev pub calls : Side → List BearerCall
  calls side = calls_of_step l side air (InLife s)

  pub record GoesBy (xs : List Record) : Type 0 where
    pub tells_are : (side : Side) → told_on l (events_of side xs) ≡ tells_over l (Am (was side)) (calls side)
    pub goes_are : (side : Side) → after_all (Am (was side)) (calls side) ≡ Am (now_is side)
    pub loops_are : (side : Side) → looped_at side l xs ≡ submits_all (calls side)

  module _ (xs : List Record) (by : GoesBy xs) where
    -- where a side's bearer is called once by itself
    pub one_told : (side : Side) (call : BearerCall) → calls side ≡ call ∷ []
        → told_on l (events_of side xs) ≡ tells (was side) call
    one_told side call one =
        by.tells_are side ∙ ap (tells_over l (Am (was side))) one
        ∙ one_tells l (was side) call (lcid_at l c nb ue steps t side)

    pub one_goes : (side : Side) (call : BearerCall) → calls side ≡ call ∷ []
        → after (Am (was side)) call ≡ Am (now_is side)
    one_goes side call one = ap (after_all (Am (was side))) (sym one) ∙ by.goes_are side

    -- or isn't
    pub none_told : (side : Side) → calls side ≡ [] → told_on l (events_of side xs) ≡ []
    none_told side quiet = by.tells_are side ∙ ap (tells_over l (Am (was side))) quiet

    -- and submits nothing
    pub none_looped : (side : Side) (call : BearerCall) → calls side ≡ call ∷ [] → calls (other side) ≡ []
        → submits_in call ≡ [] → loops_in l xs ≡ []
    none_looped Nb call one far unlooped = by.loops_are Ue ∙ ap submits_all far
    none_looped Ue call one far unlooped =
        by.loops_are Ue ∙ ap submits_all one ∙ append-nil (submits_in call) ∙ unlooped

  pub data_at : (side : Side) → IsOfData c.pdcp_bits (was side)
  data_at Nb = t.joined.one_data
  data_at Ue = t.joined.two_data

  pub kind_is : IsKind (AmKind c.pdcp_bits)
  kind_is = subst (λ (n : ℕ). IsKind (AmKind n)) t.joined.there_is.bits t.joined.there_is.kind

  pub spelled_at : (side : Side) → IsSpelled c.pdcp_bits (was side).pdcp.tx.owed
  spelled_at Nb = one_owes_spelled l c nb ue Nb steps t.joined
  spelled_at Ue = two_owes_spelled l c nb ue Nb steps t.joined

  module _ (m : Moment) (b : Bearer History)
      (g : AreGivenOf c t.joined.there t.joined.back t.joined.one t.joined.two m.down m.up b) where
    pub supplied_at : (side : Side)
        → IsSupplied (progress (way l c nb ue steps t side) (history side m)) (was side).pdcp.tx (side_of side b)
    supplied_at Nb = g.own_is.supplied
    supplied_at Ue = g.far_is.supplied

    pub bits_at : (side : Side) → (side_of side b).bits ≡ c.pdcp_bits
    bits_at Nb = g.own_is.bits
    bits_at Ue = g.far_is.bits

    -- what an own call tells is right by what is gathered, and offers the PDUs that it tells of
    pub record CallGives (side : Side) (call : BearerCall) : Type 0 where
      pub right : AreRight (tells (was side) call) (supply_submits call (side_of side b))
      pub offered : offered_in (was side) call
          ≡ pdus_told (was side).pdcp.tx.protection (tells (was side) call) (supply_submits call (side_of side b))

    pub call_gives : (side : Side) (call : BearerCall) → IsOwn call
        → after (Am (was side)) call ≡ Am (now_is side) → CallGives side call
    call_gives side call own left =
        let supply = side_of side b in
        let kind = subst (λ (n : ℕ). IsKind (AmKind n)) (sym (bits_at side)) kind_is in
        let data' = subst (λ (n : ℕ). IsOfData n (was side)) (sym (bits_at side)) (data_at side) in
        let rlc = progress (way l c nb ue steps t side) (history side m) in
        record {
          right = (calls_are_gathered rlc (was side) (now_is side) call supply own kind data' left
              (supplied_at side)).right;
          offered = offered_are_told rlc (was side) (now_is side) call supply own kind data'
              (subst (λ (n : ℕ). IsSpelled n (was side).pdcp.tx.owed) (sym (bits_at side)) (spelled_at side)) left
              (supplied_at side);
        }

-- by what its records log
pub goes_by : (l : ℕ) (c : BearerConfig) (keys : Keys) (nb ue : End) → AmEndsBeginAlike l c keys nb ue
    → (steps : List AirStep) (s : Step) (t : AreTied l c nb ue steps) (t' : AreTied l c nb ue (steps ++ InLife s ∷ []))
    → AreLiving l (outset nb ue) (steps ++ InLife s ∷ []) → IsGiven l (lives steps (outset nb ue)) s
    → HaveComeNew l (lives steps (outset nb ue)) → AreThere l (lives steps (outset nb ue)) → (sent : Flight)
    (xs : List Record) → logged sent xs ≡ log_at (lives steps (outset nb ue)) (InLife s)
    → ((side : Side) (k : ℕ) → looped_at side k xs
    ≡ was_submitted k (calls_at side (lives steps (outset nb ue)) (InLife s))
    (end_at side (lives steps (outset nb ue))))
    → GoesBy l c nb ue steps s t t' xs
goes_by l c keys nb ue begins steps s t t' living given' new there sent xs logs looped = record {
  tells_are = λ side. events_are l c keys nb ue begins steps s t t' living given' new there sent xs logs side;
  goes_are = λ side. bearers_go l c keys nb ue begins steps s t t' living given' new there sent xs logs side;
  loops_are = λ side. looped side l
      ∙ submits_over l (calls_at side (lives steps (outset nb ue)) (InLife s)) (end_at side (lives steps
      (outset nb ue)));
}

-- ---- no new block is built

module _ (l : ℕ) (low : l ≤ 10) (newer : List Group) (now : Group) (past : List Group)
    (none : submitted_by now.line ≡ None) (c : BearerConfig) (nb ue : End) (steps : List AirStep) (s : Step)
    (t : AreTied l c nb ue steps) (t' : AreTied l c nb ue (steps ++ InLife s ∷ []))
    (given' : IsGiven l (lives steps (outset nb ue)) s) (sent : Flight) (told xs : List Record)
    (logs : logged sent xs ≡ log_at (lives steps (outset nb ue)) (InLife s)) (by : GoesBy l c nb ue steps s t t' xs)
    (m : Moment) (b : Bearer History) (is : bearer_first l now past told ≡ Some b)
    (g : AreGivenOf c t.joined.there t.joined.back t.joined.one t.joined.two m.down m.up b)
    (unsent : AllByRecursion SendsNoNewBlock xs) where
  abbrev bearer_was : Side → State
  bearer_was side = bearer l c nb ue steps t side

  abbrev calls_are : Side → List BearerCall
  calls_are side = calls_of_step l side (lives steps (outset nb ue)) (InLife s)

  abbrev HearsNoBlock : Type 0
  HearsNoBlock = AllByRecursion HearsNone (log_at (lives steps (outset nb ue)) (InLife s))

  abbrev Stays : Side → Type 0
  Stays side = (f : Flow) → StandsOn side l (sending_first now past told) f
      → StandsOn side l (sending_first now past (told ++ xs)) f

  quiet_stays : (side : Side) → told_on l (events_of side xs) ≡ [] → Stays side
  quiet_stays side quiet f stands = sent_quiet l now past side xs told f quiet unsent stands

  own_stays : (side : Side) (call : BearerCall) → IsOwn call → calls_are side ≡ call ∷ []
      → calls_are (other side) ≡ [] → HearsNoBlock → supply_submits call (side_of side b) ≡ side_of side b
      → offered_in (bearer_was side) call ≡ [] → submits_in call ≡ [] → Stays side
  own_stays side call own one far hears kept offered unlooped f stands =
      let supply = side_of side b in
      let gives = call_gives l c nb ue steps s t t' m b g side call own
      (one_goes l c nb ue steps s t t' xs by side call one) in
      let es = tells (bearer_was side) call in
      let protection = (bearer_was side).pdcp.tx.protection in
      let same : flow_over es supply f ≡ f =
      flow_same protection es supply f
      (ap (pdus_told protection es) (sym kept) ∙ sym gives.offered ∙ offered) in
      subst (λ (x : Flow). StandsOn side l (sending_first now past (told ++ xs)) x) same
      (gathers_sent l low newer now past none side xs told es b f
      (one_told l c nb ue steps s t t' xs by side call one)
      (none_told l c nb ue steps s t t' xs by (other side) far)
      (none_looped l c nb ue steps s t t' xs by side call one far unlooped)
      (none_comes_in sent xs (subst (AllByRecursion HearsNone) (sym logs) hears)) unsent is
      (subst (AreRight es) kept gives.right) stands)

  call_stays : (side : Side) (call : BearerCall) → IsOwn call → IsQuiet call → calls_are side ≡ call ∷ []
      → calls_are (other side) ≡ [] → HearsNoBlock → Stays side
  call_stays side (Submits sdu) own quiet one far hears =
      quiet_stays side (one_told l c nb ue steps s t t' xs by side (Submits sdu) one)
  call_stays side (Takes share held) own quiet one far hears = absurd quiet
  call_stays side (Arrives pdu) own quiet one far hears = absurd own
  call_stays side (Expires clock) own quiet one far hears =
      own_stays side (Expires clock) own one far hears refl refl refl
  call_stays side Ticks own quiet one far hears = own_stays side Ticks own one far hears refl refl refl
  call_stays side (SetsDiscard ttis) own quiet one far hears =
      own_stays side (SetsDiscard ttis) own one far hears refl refl refl

  arrivals_stay : (side : Side) (pdus : List (List ℕ)) → calls_are side ≡ arrivals pdus → Stays side
  arrivals_stay side pdus are f stands =
      sent_still l now past side xs told f
      (subst (AllByRecursion (TellsOfNoTaking l))
      (sym (by.tells_are side ∙ ap (tells_over l (Am (bearer_was side))) are))
      (arrivals_over l (bearer_was side) pdus)) unsent stands

  flows_stay : ((side : Side) → AllByRecursion IsQuiet (calls_are side))
      → HowItGoes l (lives steps (outset nb ue)) s → (side : Side) → Stays side
  flows_stay quiet (Few side (inl none') far hears) z =
      of_both side Stays (quiet_stays side (none_told l c nb ue steps s t t' xs by side none'))
      (quiet_stays (other side) (none_told l c nb ue steps s t t' xs by (other side) far)) z
  flows_stay quiet (Few side (inr one) far hears) z =
      of_both side Stays
      (call_stays side one.0 one.1.1 (subst (AllByRecursion IsQuiet) one.1.0 (quiet side)).0 one.1.0 far hears)
      (quiet_stays (other side) (none_told l c nb ue steps s t t' xs by (other side) far)) z
  flows_stay quiet (Brought from k block step at) z =
      let comes = comes_calls l (lives steps (outset nb ue)) from k block at z in
      arrivals_stay z comes.0
      (ap (λ (y : Step). calls_of_step l z (lives steps (outset nb ue)) (InLife y)) step ∙ comes.1)

  -- so each stands beside its bearer
  pub stays_beside : ((side : Side) → AllByRecursion IsQuiet (calls_are side)) → (side : Side)
      → StandsBeside side l c.pdcp_bits (bearer_was side) (sending_first now past told)
      → StandsBeside side l c.pdcp_bits (bearer l c nb ue (steps ++ InLife s ∷ []) t' side)
      (sending_first now past (told ++ xs))
  stays_beside quiet side h = record {
    flow = h.flow;
    stands = flows_stay quiet (how_it_goes l (lives steps (outset nb ue)) s given') side h.flow h.stands;
    by_bearer = all_keep_sent c.pdcp_bits (calls_are side) (bearer_was side)
        (bearer l c nb ue (steps ++ InLife s ∷ []) t' side) h.flow (quiet side) (by.goes_are side) h.by_bearer;
  }
