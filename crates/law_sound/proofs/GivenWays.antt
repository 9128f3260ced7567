-- A step of a life of a channel's bearers of acknowledged data: both directions go on by the calls of their bearers.
-- Where one side's bearer is called once by itself, or none is, they go on by that alone.
use Rattle.std.proofs.Common.{◌≡◌, ℕ, List, [], ◌∷◌, ◌++◌, refl, sym, subst}
use Rattle.bearer.specs.Acknowledged.State.{State}
use Rattle.bearer.specs.declared.flow.Flow.{Flow}
use Rattle.bearer.specs.declared.flow.Flow.TheVariants.{Am}
use Rattle.bearer_types.specs.Sides.{other}
use Rattle.bearer_types.specs.declared.config.BearerConfig.{BearerConfig}
use Rattle.l2_node.specs.End.{End}
use Rattle.l2_types.specs.declared.side.Side.{Side}
use Rattle.l2_types.specs.declared.side.Side.TheVariants.{Nb, Ue}
use Rattle.law_bearer.specs.AnyBearer.Calls.{Call as BearerCall}
use Rattle.law_deliver.specs.AmChannel.Lives.{AirStep, InLife, lives, end_at}
use Rattle.law_deliver.specs.AmFlow.Air.{Step, outset}
use Rattle.law_deliver.proofs.AmChannel.Bearers.{same_bearer}
use Rattle.law_given.specs.Beside.{GoesOnAs}
use Rattle.law_given.specs.Joined.{Direction}
use Rattle.law_given.specs.SupplyLaws.{IsOwn, offered_in}
use Rattle.law_given.proofs.Tied.{AreTied, TiesGoOn, GoesFrom, calls_of_step, offered_over, ready_over, news_over}
use Rattle.law_given.proofs.TiedEnds.{steady_at}
use Rattle.law_node.specs.Holding.{flow}
use Rattle.law_sound.proofs.GivenCalls.{GoesBy, sender_goes, receiver_goes}
use Rattle.law_sound.proofs.GivenMoments.{way, bearer}

pub same_state : (a b : State) → Am a ≡ Am b → b ≡ a
same_state a b e = sym (same_bearer a b e)

module _ (l : ℕ) (c : BearerConfig) (nb ue : End) (steps : List AirStep) (t : AreTied l c nb ue steps) where
  pub was_at : (side : Side) → flow l (end_at side (lives steps (outset nb ue))) ≡ Am (bearer l c nb ue steps t side)
  was_at Nb = t.joined.one_is
  was_at Ue = t.joined.two_is

  pub lcid_at : (side : Side) → (bearer l c nb ue steps t side).pdcp.lcid ≡ l
  lcid_at Nb = (steady_at l c nb ue steps t).0.between.own
  lcid_at Ue = (steady_at l c nb ue steps t).1.between.own

module _ (l : ℕ) (c : BearerConfig) (nb ue : End) (steps : List AirStep) (s : Step) (t : AreTied l c nb ue steps)
    (n : TiesGoOn l c nb ue steps (InLife s) t) where
  abbrev before : Side → Direction
  before from = way l c nb ue steps t from

  abbrev behind : Side → Direction
  behind from = way l c nb ue (steps ++ InLife s ∷ []) n.next from

  abbrev was : Side → State
  was side = bearer l c nb ue steps t side

  abbrev calls : Side → List BearerCall
  calls side = calls_of_step l side (lives steps (outset nb ue)) (InLife s)

  from_to : (from to : Side) → GoesFrom l from to (lives steps (outset nb ue)) (InLife s) (before from) (behind from)
      → GoesBy (before from) (behind from) (was from) (calls from) (was to) (calls to)
  from_to from to g =
      subst (λ (f : Flow). GoesOnAs (before from) (behind from) (offered_over (Am (was from)) (calls from))
      (ready_over f (calls to)) (news_over (Am (was from)) (calls from))) (was_at l c nb ue steps t to)
      (subst (λ (f : Flow). GoesOnAs (before from) (behind from) (offered_over f (calls from))
      (ready_over (flow l (end_at to (lives steps (outset nb ue)))) (calls to))
      (news_over f (calls from))) (was_at l c nb ue steps t from) g)

  pub ways_go : (from : Side)
      → GoesBy (before from) (behind from) (was from) (calls from) (was (other from)) (calls (other from))
  ways_go Nb = from_to Nb Ue (n.there_goes s refl)
  ways_go Ue = from_to Ue Nb (n.back_goes s refl)

  by_calls : (from to : Side) (cs ds : List BearerCall) → calls from ≡ cs → calls to ≡ ds
      → GoesBy (before from) (behind from) (was from) (calls from) (was to) (calls to)
      → GoesBy (before from) (behind from) (was from) cs (was to) ds
  by_calls from to cs ds p q g =
      subst (λ (zs : List BearerCall). GoesBy (before from) (behind from) (was from) zs (was to) ds) p
      (subst (λ (zs : List BearerCall). GoesBy (before from) (behind from) (was from) (calls from) (was to) zs) q g)

  -- ---- no bearer of the channel is called

  pub quiet_ways : ((side : Side) → calls side ≡ []) → (from : Side) → GoesOnAs (before from) (behind from) [] [] []
  quiet_ways quiet from = by_calls from (other from) [] [] (quiet from) (quiet (other from)) (ways_go from)

  -- ---- one of a side is

  pub own_way : (side : Side) (call : BearerCall) → IsOwn call → calls side ≡ call ∷ [] → calls (other side) ≡ []
      → GoesOnAs (before side) (behind side) (offered_in (was side) call) [] []
  own_way side call own one far =
      sender_goes (before side) (behind side) (was side) (was (other side)) call own
      (by_calls side (other side) (call ∷ []) [] one far (ways_go side))

  pub far_way : (side : Side) (call : BearerCall) → IsOwn call → calls side ≡ call ∷ [] → calls (other side) ≡ []
      → GoesOnAs (before (other side)) (behind (other side)) [] [] []
  far_way side call own one far =
      receiver_goes (before (other side)) (behind (other side)) (was (other side)) (was side) call own
      (by side one far)
    where
      by : (side : Side) → calls side ≡ call ∷ [] → calls (other side) ≡ []
          → GoesBy (before (other side)) (behind (other side)) (was (other side)) [] (was side) (call ∷ [])
      by Nb p q = by_calls Ue Nb [] (call ∷ []) q p (ways_go Ue)
      by Ue p q = by_calls Nb Ue [] (call ∷ []) q p (ways_go Nb)
