-- The calls of the bearer at each end, in the order of the steps (TS 36.322 5.1.2).
use Rattle.std.specs.Prelude.{◌≡◌, List, [], ◌∷◌, ◌++◌, Option, Some, None, slice_get}
use Rattle.bearer.specs.declared.flow.Flow.TheVariants.{Um}
use Rattle.bearer.specs.Unacknowledged.State.{State}
use Rattle.law_bearer.specs.AnyBearer.Calls.{Call, Arrive, after_all}
use Rattle.law_rlc.specs.AmPair.Flow.{Copy}
use Rattle.law_deliver.specs.UmFlow.Pair.{BearerEnd, Pair, Deed, Calls, Comes, Goes, Step, Near}
use Rattle.law_deliver.specs.UmFlow.Pair.{Far, happens, goes, um_pair_outset}

abbrev pub arrives : Option Copy → List Call
arrives None = []
arrives (Some c) = Arrive c.octets ∷ []

-- of a deed of an end, by what the other has under way
abbrev pub calls_in : BearerEnd → Deed → List Call
calls_in other (Calls c) = c ∷ []
calls_in other (Comes k) = arrives (slice_get other.copies k)
calls_in other (Goes k) = []

abbrev pub near_calls_in : Pair → Step → List Call
near_calls_in p (Near d) = calls_in p.far d
near_calls_in p (Far d) = []

abbrev pub far_calls_in : Pair → Step → List Call
far_calls_in p (Near d) = []
far_calls_in p (Far d) = calls_in p.near d

abbrev pub near_calls : Pair → List Step → List Call
near_calls p [] = []
near_calls p (s ∷ ss) = near_calls_in p s ++ near_calls (happens p s) ss

abbrev pub far_calls : Pair → List Step → List Call
far_calls p [] = []
far_calls p (s ∷ ss) = far_calls_in p s ++ far_calls (happens p s) ss

-- ---- the law

pub record AreTheirCalls (near far : State) (p : Pair) (steps : List Step) : Type 0 where
  pub near_is : after_all (Um near) (near_calls p steps) ≡ Um (goes steps p).near.bearer
  pub far_is : after_all (Um far) (far_calls p steps) ≡ Um (goes steps p).far.bearer

abbrev pub EndsAreTheirCalls : Type 0
EndsAreTheirCalls = (near far : State) (steps : List Step)
    → AreTheirCalls near far (um_pair_outset near far) steps
