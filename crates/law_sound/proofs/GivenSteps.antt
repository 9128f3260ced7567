-- A step of a life in which no block comes: what is gathered of what PDCP gives RLC goes on beside both ends.
use Rattle.std.proofs.Common.{◌≡◌, ◌≤◌, ℕ, List, [], ◌∷◌, ◌++◌, Some, None}
use Rattle.std.proofs.Common.{append-nil, ap, sym, ◌∙◌, inl, inr}
use Rattle.std.specs.List.{AllByRecursion}
use Rattle.air_record.specs.declared.record.Record.{Record}
use Rattle.air_record.specs.Submissions.{submitted_by}
use Rattle.air_text.specs.Groups.{Group}
use Rattle.bearer.specs.Acknowledged.State.{State}
use Rattle.bearer.specs.declared.flow.Flow.TheVariants.{Am}
use Rattle.bearer_types.specs.Sides.{other}
use Rattle.bearer_types.specs.declared.config.BearerConfig.{BearerConfig}
use Rattle.eps_sec.specs.declared.Keys.{Keys}
use Rattle.l2_node.specs.End.{End}
use Rattle.l2_types.specs.declared.side.Side.{Side}
use Rattle.l2_types.specs.declared.side.Side.TheVariants.{Ue}
use Rattle.promises.specs.Events.{told_on}
use Rattle.promises.specs.Flows.{looped_at}
use Rattle.promises.specs.Records.{events_of}
use Rattle.journal_given.specs.Supplies.{Bearer, History}
use Rattle.law_bearer.specs.AnyBearer.Calls.{Call as BearerCall, after, after_all}
use Rattle.law_bearer.specs.AnyBearer.Queue.{submits as submits_in}
use Rattle.law_bearer.specs.AmBearer.Calls.{tells}
use Rattle.law_deliver.specs.AmChannel.Delivery.{AmEndsBeginAlike, was_submitted}
use Rattle.law_deliver.specs.AmChannel.Lives.{AirStep, InLife, AreLiving, lives, end_at, calls_at}
use Rattle.law_deliver.specs.AmFlow.Air.{Step, outset, IsGiven}
use Rattle.law_deliver.specs.AmFlow.Ups.{tells_over}
use Rattle.law_given.specs.Beside.{GoesOnAs}
use Rattle.law_given.specs.BearerRecords.{bearer_first}
use Rattle.law_given.specs.Confirming.{AreSizesTold}
use Rattle.law_given.specs.Joined.{rlc}
use Rattle.law_given.specs.SupplyLaws.{IsOwn, offered_in}
use Rattle.law_given.proofs.GivenRecords.{BringsNoBlock}
use Rattle.law_given.proofs.Tied.{AreTied, TiesGoOn, calls_of_step}
use Rattle.law_given.proofs.TiedEnds.{AreFewOwn}
use Rattle.law_run.specs.TwoEnds.Logs.{Flight, logged, log_at}
use Rattle.law_sound.specs.LivedFails.{HaveComeNew}
use Rattle.law_sound.specs.LivedHistories.{AreLived, Moment}
use Rattle.law_sound.proofs.GivenActs.{IsGatheredOn, call_goes, quiet_goes}
use Rattle.law_sound.proofs.GivenBeside.{AreGivenOf, of_both}
use Rattle.law_sound.proofs.GivenCalls.{submits_all, submits_over, one_tells}
use Rattle.law_sound.proofs.GivenMoments.{way, bearer, history}
use Rattle.law_sound.proofs.GivenStepFacts.{events_are, bearers_go}
use Rattle.law_sound.proofs.GivenWays.{same_state, lcid_at, quiet_ways, own_way, far_way}
use Rattle.law_sound.proofs.LivedFails.{AreThere}

module _ (l : ℕ) (low : l ≤ 10) (newer : List Group) (now : Group) (past : List Group)
    (none : submitted_by now.line ≡ None) (c : BearerConfig) (keys : Keys) (nb ue : End)
    (begins : AmEndsBeginAlike l c keys nb ue) (steps : List AirStep) (s : Step) (t : AreTied l c nb ue steps)
    (n : TiesGoOn l c nb ue steps (InLife s) t) (living : AreLiving l (outset nb ue) (steps ++ InLife s ∷ []))
    (given : IsGiven l (lives steps (outset nb ue)) s)
    (new : HaveComeNew l (lives steps (outset nb ue))) (there : AreThere l (lives steps (outset nb ue)))
    (sent : Flight) (told xs : List Record) (logs : logged sent xs ≡ log_at (lives steps (outset nb ue)) (InLife s))
    (looped : (side : Side) (k : ℕ) → looped_at side k xs
    ≡ was_submitted k (calls_at side (lives steps (outset nb ue)) (InLife s)) (end_at side (lives steps
    (outset nb ue))))
  where
    abbrev behind : List AirStep
    behind = steps ++ InLife s ∷ []

    abbrev was : Side → State
    was side = bearer l c nb ue steps t side

    abbrev now_is : Side → State
    now_is side = bearer l c nb ue behind n.next side

    abbrev calls : Side → List BearerCall
    calls side = calls_of_step l side (lives steps (outset nb ue)) (InLife s)

    pub tells_are : (side : Side) → told_on l (events_of side xs) ≡ tells_over l (Am (was side)) (calls side)
    tells_are side = events_are l c keys nb ue begins steps s t n.next living given new there sent xs logs side

    pub goes_are : (side : Side) → after_all (Am (was side)) (calls side) ≡ Am (now_is side)
    goes_are side = bearers_go l c keys nb ue begins steps s t n.next living given new there sent xs logs side

    pub loops_are : (side : Side) → looped_at side l xs ≡ submits_all (calls side)
    loops_are side =
        looped side l ∙ submits_over l (calls_at side (lives steps (outset nb ue)) (InLife s))
        (end_at side (lives steps (outset nb ue)))

    -- ---- no bearer of the channel is called, or one of a side

    pub record NoneCalled : Type 0 where
      pub goes : (from : Side) → GoesOnAs (way l c nb ue steps t from) (way l c nb ue behind n.next from) [] [] []
      pub same : (side : Side) → now_is side ≡ was side
      pub events : (side : Side) → told_on l (events_of side xs) ≡ []
      pub loops : looped_at Ue l xs ≡ []

    pub none_is_called : ((side : Side) → calls side ≡ []) → NoneCalled
    none_is_called none' = record {
      goes = quiet_ways l c nb ue steps s t n none';
      same = λ side. same_state (was side) (now_is side)
          (ap (after_all (Am (was side))) (sym (none' side)) ∙ goes_are side);
      events = λ side. tells_are side ∙ ap (tells_over l (Am (was side))) (none' side);
      loops = loops_are Ue ∙ ap submits_all (none' Ue);
    }

    pub record OneCalled (side : Side) (call : BearerCall) : Type 0 where
      pub goes : GoesOnAs (way l c nb ue steps t side) (way l c nb ue behind n.next side) (offered_in
          (was side) call) [] []
      pub far : GoesOnAs (way l c nb ue steps t (other side)) (way l c nb ue behind n.next (other side)) [] [] []
      pub left : after (Am (was side)) call ≡ Am (now_is side)
      pub same : now_is (other side) ≡ was (other side)
      pub events : told_on l (events_of side xs) ≡ tells (was side) call
      pub none_told : told_on l (events_of (other side) xs) ≡ []
      pub loops : looped_at side l xs ≡ submits_in call
      pub none_looped : looped_at (other side) l xs ≡ []

    pub one_is_called : (side : Side) (call : BearerCall) → IsOwn call → calls side ≡ call ∷ []
        → calls (other side) ≡ []
        → OneCalled side call
    one_is_called side call own one far = record {
      goes = own_way l c nb ue steps s t n side call own one far;
      far = far_way l c nb ue steps s t n side call own one far;
      left = ap (after_all (Am (was side))) (sym one) ∙ goes_are side;
      same = same_state (was (other side)) (now_is (other side))
          (ap (after_all (Am (was (other side)))) (sym far) ∙ goes_are (other side));
      events = tells_are side ∙ ap (tells_over l (Am (was side))) one
          ∙ one_tells l (was side) call (lcid_at l c nb ue steps t side);
      none_told = tells_are (other side) ∙ ap (tells_over l (Am (was (other side)))) far;
      loops = loops_are side ∙ ap submits_all one ∙ append-nil (submits_in call);
      none_looped = loops_are (other side) ∙ ap submits_all far;
    }

    module _ (m m' : Moment) (lived : AreLived l (lives steps (outset nb ue)) m.pdus m.down m.up)
        (lived' : AreLived l (lives behind (outset nb ue)) m'.pdus m'.down m'.up)
        (sizes : (from : Side) → AreSizesTold (rlc (way l c nb ue behind n.next from))
        (history from m'))
        (b : Bearer History) (is : bearer_first l now past told ≡ Some b)
        (g : AreGivenOf c t.joined.there t.joined.back t.joined.one t.joined.two m.down m.up b)
        (blocks : AllByRecursion BringsNoBlock xs) where
      pub none_called : ((side : Side) → calls side ≡ [])
          → IsGatheredOn l low newer now past none c nb ue told xs behind n.next m'
      none_called none' =
          let is_called = none_is_called none' in
          quiet_goes l low newer now past none c nb ue told xs steps
          (InLife s) t n.next m m' lived lived' sizes b is g blocks
          is_called.goes is_called.same is_called.events is_called.loops

      pub one_called : (side : Side) (call : BearerCall) → IsOwn call → calls side ≡ call ∷ [] → calls (other side) ≡ []
          → IsGatheredOn l low newer now past none c nb ue told xs behind n.next m'
      one_called side call own one far =
          let is_called = one_is_called side call own one far in
          call_goes l low newer now past none c nb ue told xs steps
          (InLife s) t n.next m m' lived lived' sizes b is g blocks
          side call own is_called.goes is_called.far is_called.left is_called.same is_called.events is_called.none_told
          is_called.loops is_called.none_looped

      -- ---- an end's call

      pub few_called : (side : Side) → AreFewOwn (calls side) → calls (other side) ≡ []
          → IsGatheredOn l low newer now past none c nb ue told xs behind n.next m'
      few_called side (inl none') far = none_called (of_both side (λ (z : Side). calls z ≡ []) none' far)
      few_called side (inr one) far = one_called side one.0 one.1.1 one.1.0 far
