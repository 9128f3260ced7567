-- One side's bearer of a channel is called, or none is: what its records gather of what PDCP gives RLC goes on beside
-- both ends.
use Rattle.std.proofs.Common.{◌≡◌, ◌≤◌, ℕ, List, [], ◌∷◌, ◌++◌, Some, None}
use Rattle.std.specs.List.{AllByRecursion}
use Rattle.air_record.specs.declared.record.Record.{Record}
use Rattle.air_record.specs.Submissions.{submitted_by}
use Rattle.air_text.specs.Groups.{Group}
use Rattle.bearer.specs.Acknowledged.State.{State}
use Rattle.bearer.specs.declared.flow.Flow.TheVariants.{Am}
use Rattle.bearer_types.specs.Sides.{other}
use Rattle.bearer_types.specs.declared.config.BearerConfig.{BearerConfig}
use Rattle.bearer_types.specs.declared.event.Event.{Event}
use Rattle.l2_node.specs.End.{End}
use Rattle.l2_types.specs.declared.side.Side.{Side}
use Rattle.l2_types.specs.declared.side.Side.TheVariants.{Nb, Ue}
use Rattle.promises.specs.Events.{told_on}
use Rattle.promises.specs.Flows.{looped_at}
use Rattle.promises.specs.Records.{events_of}
use Rattle.journal_given.specs.Giving.{side_of, on_side}
use Rattle.journal_given.specs.Supplies.{Bearer, History}
use Rattle.law_bearer.specs.AnyBearer.Calls.{Call, Submit, Take, Arrive, Expire, Tick, SetDiscard, after}
use Rattle.law_bearer.specs.AnyBearer.Queue.{submits as submits_in}
use Rattle.law_bearer.specs.AmBearer.Calls.{tells}
use Rattle.law_deliver.specs.AmChannel.Lives.{AirStep, lives}
use Rattle.law_deliver.specs.AmFlow.Air.{outset}
use Rattle.law_given.specs.BearerRecords.{bearer_first}
use Rattle.law_given.specs.Beside.{GoesOnAs}
use Rattle.law_given.specs.Confirming.{AreSizesTold}
use Rattle.law_given.specs.Joined.{Direction, rlc}
use Rattle.law_given.specs.SupplyLaws.{IsOwn, offered_in, supplied_all, AreRight}
use Rattle.law_given.specs.SupplyLaws.{submitted_by as supply_submits}
use Rattle.law_given.proofs.GivenRecords.{BringsNoBlock, AllRight, records_gather, loops_gather}
use Rattle.law_given.proofs.Tied.{AreTied}
use Rattle.law_sound.specs.LivedHistories.{AreLived, Moment}
use Rattle.law_sound.proofs.GivenBeside.{AreGivenOf, of_both, own_after, given_by_none, given_by_call}
use Rattle.law_sound.proofs.GivenMoments.{way, bearer, history}

module _ (l : ℕ) (low : l ≤ 10) (newer : List Group) (now : Group) (past : List Group)
    (none : submitted_by now.line ≡ None) (c : BearerConfig) (nb ue : End) where
  -- behind more records
  pub record IsGatheredOn (told xs : List Record) (steps : List AirStep) (t : AreTied l c nb ue steps) (m : Moment)
      : Type 0 where
    pub gathered_on : Bearer History
    pub is : bearer_first l now past (told ++ xs) ≡ Some gathered_on
    pub given : AreGivenOf c t.joined.there t.joined.back t.joined.one t.joined.two m.down m.up gathered_on
    pub right : AllRight l low newer now past none told xs

  module _ (told xs : List Record) (steps : List AirStep) (x : AirStep) (t : AreTied l c nb ue steps)
      (t' : AreTied l c nb ue (steps ++ x ∷ [])) (m m' : Moment)
      (lived : AreLived l (lives steps (outset nb ue)) m.pdus m.down m.up)
      (lived' : AreLived l (lives (steps ++ x ∷ []) (outset nb ue)) m'.pdus m'.down m'.up)
      (sizes : (from : Side) → AreSizesTold (rlc (way l c nb ue (steps ++ x ∷ []) t' from))
      (history from m'))
      (b : Bearer History) (is : bearer_first l now past told ≡ Some b)
      (g : AreGivenOf c t.joined.there t.joined.back t.joined.one t.joined.two m.down m.up b)
      (blocks : AllByRecursion BringsNoBlock xs) where
    abbrev before : Side → Direction
    before from = way l c nb ue steps t from

    abbrev behind : Side → Direction
    behind from = way l c nb ue (steps ++ x ∷ []) t' from

    abbrev was : Side → State
    was side = bearer l c nb ue steps t side

    abbrev now_is : Side → State
    now_is side = bearer l c nb ue (steps ++ x ∷ []) t' side

    -- ---- no bearer of the channel is called

    pub quiet_goes : ((from : Side) → GoesOnAs (before from) (behind from) [] [] [])
        → ((side : Side) → now_is side ≡ was side) → ((side : Side) → told_on l (events_of side xs) ≡ [])
        → looped_at Ue l xs ≡ [] → IsGatheredOn told xs (steps ++ x ∷ []) t' m'
    quiet_goes goes same events loops =
        let r = records_gather l low newer now past none Nb xs told [] b (events Nb) (events Ue) loops blocks is tt in
        record {
          gathered_on = b;
          is = r.is;
          given = given_by_none l c nb ue steps x t t' m m' lived lived' sizes b g goes same;
          right = r.right;
        }

    -- ---- one of a side is

    -- what the records of the call make of what is gathered
    record ReadCall (side : Side) (call : Call) : Type 0 where
      so : bearer_first l now past (told ++ xs) ≡ Some (own_after (was side) side call b)
      right : AllRight l low newer now past none told xs

    by_events : (side : Side) (es : List Event) → told_on l (events_of side xs) ≡ es
        → told_on l (events_of (other side) xs) ≡ [] → looped_at Ue l xs ≡ [] → AreRight es (side_of side b)
        → (bearer_first l now past (told ++ xs) ≡ Some (on_side side (supplied_all es) b))
        × AllRight l low newer now past none told xs
    by_events side es own far loops right =
        let r = records_gather l low newer now past none side xs told es b own far loops blocks is right in
        (r.is, r.right)

    submission : (side : Side) (sdu : List ℕ) → ((s : Side) → told_on l (events_of s xs) ≡ [])
        → looped_at side l xs ≡ sdu ∷ [] → ReadCall side (Submit sdu)
    submission Nb sdu events loops = absurd cc
    submission Ue sdu events loops =
        let r = loops_gather l low newer now past none xs told sdu b (events Nb) (events Ue) loops blocks is in
        record { so = r.is; right = r.right }

    none_looped : (side : Side) → looped_at side l xs ≡ [] → looped_at (other side) l xs ≡ [] → looped_at Ue l xs ≡ []
    none_looped Nb own far = far
    none_looped Ue own far = own

    read_call : (side : Side) (call : Call) → IsOwn call → told_on l (events_of side xs) ≡ tells (was side) call
        → told_on l (events_of (other side) xs) ≡ [] → looped_at side l xs ≡ submits_in call
        → looped_at (other side) l xs ≡ [] → AreRight (tells (was side) call) (supply_submits call (side_of side b))
        → ReadCall side call
    read_call side (Submit sdu) own events far loops none' right =
        submission side sdu (of_both side (λ (s : Side). told_on l (events_of s xs) ≡ []) events far) loops
    read_call side (Take share held) own events far loops none' right =
        let r = by_events side _ events far (none_looped side loops none') right in record { so = r.0; right = r.1 }
    read_call side (Arrive pdu) own events far loops none' right = absurd own
    read_call side (Expire clock) own events far loops none' right =
        let r = by_events side _ events far (none_looped side loops none') right in record { so = r.0; right = r.1 }
    read_call side Tick own events far loops none' right =
        let r = by_events side _ events far (none_looped side loops none') right in record { so = r.0; right = r.1 }
    read_call side (SetDiscard ttis) own events far loops none' right =
        let r = by_events side _ events far (none_looped side loops none') right in record { so = r.0; right = r.1 }

    pub call_goes : (side : Side) (call : Call) → IsOwn call
        → GoesOnAs (before side) (behind side) (offered_in (was side) call) [] []
        → GoesOnAs (before (other side)) (behind (other side)) [] [] []
        → after (Am (was side)) call ≡ Am (now_is side) → now_is (other side) ≡ was (other side)
        → told_on l (events_of side xs) ≡ tells (was side) call → told_on l (events_of (other side) xs) ≡ []
        → looped_at side l xs ≡ submits_in call → looped_at (other side) l xs ≡ []
        → IsGatheredOn told xs (steps ++ x ∷ []) t' m'
    call_goes side call own goes far left same events none' loops unlooped =
        let s = given_by_call l c nb ue steps x t t' m m' lived lived' sizes b g side call own goes far left same in
        let r = read_call side call own events none' loops unlooped s.1 in
        record { gathered_on = own_after (was side) side call b; is = r.so; given = s.0; right = r.right }
