-- What is gathered of what PDCP gives RLC stays beside both ends as one side's bearer of a channel is called in a step,
-- and as none is.
use Rattle.std.proofs.Common.{◌≡◌, ℕ, List, [], ◌∷◌, ◌++◌, sym, subst}
use Rattle.bearer.specs.Acknowledged.State.{State}
use Rattle.bearer.specs.declared.flow.Flow.TheVariants.{Am}
use Rattle.bearer_types.specs.Sides.{other}
use Rattle.bearer_types.specs.declared.config.BearerConfig.{BearerConfig}
use Rattle.l2_node.specs.End.{End}
use Rattle.l2_types.specs.declared.side.Side.{Side}
use Rattle.l2_types.specs.declared.side.Side.TheVariants.{Nb, Ue}
use Rattle.pdcp_pdu.specs.Kinds.{IsKind}
use Rattle.pdcp_pdu.specs.declared.PdcpKind.TheVariants.{Am as AmKind}
use Rattle.journal_account.specs.Confirmed.{is_confirmed_sdu}
use Rattle.journal_account.specs.FlowEvents.{FlowEvent}
use Rattle.journal_given.specs.Giving.{side_of, on_side}
use Rattle.journal_given.specs.Supplies.{Supply, Bearer, History}
use Rattle.law_bearer.specs.AnyBearer.Calls.{Call, after}
use Rattle.law_bearer.specs.AmBearer.Calls.{tells}
use Rattle.law_deliver.specs.AmChannel.Lives.{AirStep, lives}
use Rattle.law_deliver.specs.AmFlow.Air.{outset}
use Rattle.law_given.specs.Beside.{GoesOnAs, AreGivenBy, StayByCall}
use Rattle.law_given.specs.Confirming.{AreSizesTold}
use Rattle.law_given.specs.Joined.{Direction, rlc}
use Rattle.law_given.specs.SupplyLaws.{IsOwn, gathered, offered_in, AreRight}
use Rattle.law_given.specs.SupplyLaws.{submitted_by as supply_submits}
use Rattle.law_given.proofs.Beside.{own_calls_stay_beside, other_steps_stay_beside}
use Rattle.law_given.proofs.BesideConfirming.{none_confirmed_anew}
use Rattle.law_given.proofs.Tied.{AreTied}
use Rattle.law_sound.specs.LivedHistories.{AreLived, Moment}
use Rattle.law_sound.proofs.GivenMoments.{way, bearer, history, FollowsSome, follows_so}

-- ---- the two sides

-- what holds of a side and of the other one
pub of_both : (side : Side) (P : Side → Type 0) → P side → P (other side) → (s : Side) → P s
of_both Nb P own far Nb = own
of_both Nb P own far Ue = far
of_both Ue P own far Nb = far
of_both Ue P own far Ue = own

abbrev pub AreGivenOf : BearerConfig → Direction → Direction → State → State → List FlowEvent → List FlowEvent
    → Bearer History → Type 0
AreGivenOf c there back one two down up b = AreGivenBy c there back one two down up b.nb b.ue

swapped : (c : BearerConfig) (there back : Direction) (one two : State) (es xs : List FlowEvent)
    (own far : Supply History) → AreGivenBy c there back one two es xs own far
    → AreGivenBy c back there two one xs es far own
swapped c there back one two es xs own far h = record { own_is = h.far_is; far_is = h.own_is }

-- the sides of a bearer behind a call of one of them
abbrev pub own_after : State → Side → Call → Bearer History → Bearer History
own_after own side call b = on_side side (gathered own call) b

-- ---- by what the calls of a step make of both directions, where what is confirmed stays

module _ (l : ℕ) (c : BearerConfig) (nb ue : End) (steps : List AirStep) (x : AirStep) (t : AreTied l c nb ue steps)
    (t' : AreTied l c nb ue (steps ++ x ∷ [])) where
  abbrev before : Side → Direction
  before from = way l c nb ue steps t from

  abbrev behind : Side → Direction
  behind from = way l c nb ue (steps ++ x ∷ []) t' from

  abbrev was : Side → State
  was side = bearer l c nb ue steps t side

  abbrev now_is : Side → State
  now_is side = bearer l c nb ue (steps ++ x ∷ []) t' side

  kind_is : IsKind (AmKind c.pdcp_bits)
  kind_is = subst (λ (n : ℕ). IsKind (AmKind n)) t.joined.there_is.bits t.joined.there_is.kind

  module _ (es es' : Side → List FlowEvent) (sizes : (from : Side) → AreSizesTold (rlc (behind from)) (es' from))
      (confirmed : (from : Side) (k : ℕ) → is_confirmed_sdu (es' from) k ≡ is_confirmed_sdu (es from) k)
      (b : Bearer History)
      (g : AreGivenOf c t.joined.there t.joined.back t.joined.one t.joined.two (es Nb) (es Ue) b) where
    abbrev GivenBehind : Bearer History → Type 0
    GivenBehind now = AreGivenOf c (behind Nb) (behind Ue) (now_is Nb) (now_is Ue) (es' Nb) (es' Ue) now

    -- no bearer of the channel is called
    pub given_in_quiet : ((from : Side) → GoesOnAs (before from) (behind from) [] [] [])
        → ((side : Side) → now_is side ≡ was side) → GivenBehind b
    given_in_quiet goes same =
        let stay : AreGivenBy c (behind Nb) (behind Ue) (was Nb) (was Ue) (es' Nb) (es' Ue) b.nb b.ue =
        other_steps_stay_beside c (before Nb) (before Ue) (behind Nb) (behind Ue) (was Nb) (was Ue) (es Nb) (es' Nb)
        (es Ue) (es' Ue) b.nb b.ue (goes Nb) (goes Ue) (sizes Nb) (sizes Ue) (confirmed Nb) (confirmed Ue) g in
        subst (λ (s : State). AreGivenOf c (behind Nb) (behind Ue) s (now_is Ue) (es' Nb) (es' Ue) b) (sym (same Nb))
        (subst (λ (s : State). AreGivenOf c (behind Nb) (behind Ue) (was Nb) s (es' Nb) (es' Ue) b) (sym
        (same Ue)) stay)

    -- one of a side is
    pub given_in_call : (side : Side) (call : Call) → IsOwn call
        → GoesOnAs (before side) (behind side) (offered_in (was side) call) [] []
        → GoesOnAs (before (other side)) (behind (other side)) [] [] []
        → after (Am (was side)) call ≡ Am (now_is side) → now_is (other side) ≡ was (other side)
        → GivenBehind (own_after (was side) side call b)
        × AreRight (tells (was side) call) (supply_submits call (side_of side b))
    given_in_call Nb call own goes far left same =
        let s : StayByCall c (behind Nb) (behind Ue) (was Nb) (now_is Nb) (was Ue) (es' Nb) (es' Ue) call b.nb b.ue =
        own_calls_stay_beside c (before Nb) (before Ue) (behind Nb) (behind Ue) (was Nb) (was Ue) (now_is Nb) (es Nb)
        (es' Nb) (es Ue) (es' Ue) call b.nb b.ue own kind_is t.joined.one_data t.joined.one_idle left goes far
        (sizes Nb)
        (sizes Ue) (confirmed Nb) (confirmed Ue) g in (
          subst (λ (o : State). AreGivenOf c (behind Nb) (behind Ue) (now_is Nb) o (es' Nb) (es' Ue)
              (own_after (was Nb) Nb call b)) (sym same) s.given,
          s.right,
        )
    given_in_call Ue call own goes far left same =
        let s : StayByCall c (behind Ue) (behind Nb) (was Ue) (now_is Ue) (was Nb) (es' Ue) (es' Nb) call b.ue b.nb =
        own_calls_stay_beside c (before Ue) (before Nb) (behind Ue) (behind Nb) (was Ue) (was Nb) (now_is Ue) (es Ue)
        (es' Ue) (es Nb) (es' Nb) call b.ue b.nb own kind_is t.joined.two_data t.joined.two_idle left goes far
        (sizes Ue)
        (sizes Nb) (confirmed Ue) (confirmed Nb)
        (swapped c (before Nb) (before Ue) (was Nb) (was Ue) (es Nb) (es Ue) b.nb b.ue g) in (
          subst (λ (o : State). AreGivenOf c (behind Nb) (behind Ue) o (now_is Ue) (es' Nb) (es' Ue)
              (own_after (was Ue) Ue call b)) (sym same)
              (swapped c (behind Ue) (behind Nb) (now_is Ue) (was Nb) (es' Ue) (es' Nb) (gathered
              (was Ue) call b.ue) b.nb
              s.given),
          s.right,
        )

  -- ---- and so beside the histories of moments

  module _ (m m' : Moment) (lived : AreLived l (lives steps (outset nb ue)) m.pdus m.down m.up)
      (lived' : AreLived l (lives (steps ++ x ∷ []) (outset nb ue)) m'.pdus m'.down m'.up)
      (sizes : (from : Side) → AreSizesTold (rlc (behind from)) (history from m')) (b : Bearer History)
      (g : AreGivenOf c t.joined.there t.joined.back t.joined.one t.joined.two m.down m.up b) where
    sizes_before : (from : Side) → AreSizesTold (rlc (before from)) (history from m)
    sizes_before Nb = g.own_is.sizes
    sizes_before Ue = g.far_is.sizes

    confirmed_same : (from : Side) (offers ups : List (List ℕ)) → GoesOnAs (before from) (behind from) offers ups []
        → (k : ℕ) → is_confirmed_sdu (history from m') k ≡ is_confirmed_sdu (history from m) k
    confirmed_same from offers ups goes =
        let f : FollowsSome l c nb ue steps t (history from m) (before from) =
        follows_so l c nb ue steps t from m lived in
        let f' : FollowsSome l c nb ue (steps ++ x ∷ []) t' (history from m') (behind from) =
        follows_so l c nb ue (steps ++ x ∷ []) t' from m' lived' in
        none_confirmed_anew f.most f'.most (before from) (behind from) (history from m)
        (history from m') offers ups goes
        (sizes_before from) (sizes from) f.follows f'.follows

    pub given_by_none : ((from : Side) → GoesOnAs (before from) (behind from) [] [] [])
        → ((side : Side) → now_is side ≡ was side)
        → AreGivenOf c (behind Nb) (behind Ue) (now_is Nb) (now_is Ue) m'.down m'.up b
    given_by_none goes same =
        given_in_quiet (λ from. history from m) (λ from. history from m') sizes
        (λ from. confirmed_same from [] [] (goes from)) b g goes same

    pub given_by_call : (side : Side) (call : Call) → IsOwn call
        → GoesOnAs (before side) (behind side) (offered_in (was side) call) [] []
        → GoesOnAs (before (other side)) (behind (other side)) [] [] []
        → after (Am (was side)) call ≡ Am (now_is side) → now_is (other side) ≡ was (other side)
        → AreGivenOf c (behind Nb) (behind Ue) (now_is Nb) (now_is Ue) m'.down m'.up (own_after (was side) side call b)
        × AreRight (tells (was side) call) (supply_submits call (side_of side b))
    given_by_call side call own goes far left same =
        given_in_call (λ from. history from m) (λ from. history from m') sizes
        (of_both side (λ from. (k : ℕ) → is_confirmed_sdu (history from m') k ≡ is_confirmed_sdu (history from m) k)
        (confirmed_same side (offered_in (was side) call) [] goes) (confirmed_same
        (other side) [] [] far)) b g side call
        own goes far left same
