-- Both ends of a signalling bearer in a life, with what is under way between them (TS 36.323 5.1,
-- TS 36.322 4.2.1.3).
use Rattle.std.specs.Prelude.{◌≡◌, ℕ, List, [], ◌∷◌, ◌++◌, None}
use Rattle.bearer.specs.Acknowledged.State.{State}
use Rattle.law_bearer.specs.AnyBearer.Calls.{Call, Submit, Take, Arrive, Expire, Tick, SetDiscard}
use Rattle.law_deliver.specs.AmDelivery.Ends.{submitted_by}
use Rattle.law_deliver.specs.AmDelivery.Lives.{near_calls, far_calls, ups_by}
use Rattle.law_deliver.specs.AmFlow.Flows.{BeginsLife}
use Rattle.law_deliver.specs.AmFlow.Pair.{Pair, Deed, Calls, DataComes, StatusComes, DataGoes}
use Rattle.law_deliver.specs.AmFlow.Pair.{StatusGoes, Step, Near, Far, Passes, happens, IsGiven}
use Rattle.pdcp_pdu.specs.declared.PdcpKind.TheVariants.{Srb}
use Rattle.pdcp_tx.specs.State.{refusal}
use Rattle.law_pdcp.specs.SrbPair.Flow.{SrbPdcpBeginAlike}

-- ---- it begins: RLC anew, and PDCP at both ends alike

pub record BothBegin (near far : State) : Type 0 where
  pub near_kind : near.pdcp.kind ≡ Srb
  pub far_kind : far.pdcp.kind ≡ Srb
  pub near_life : BeginsLife near
  pub far_life : BeginsLife far
  pub there : SrbPdcpBeginAlike near.pdcp.tx far.pdcp.rx
  pub back : SrbPdcpBeginAlike far.pdcp.tx near.pdcp.rx

-- ---- what is asked of its steps: besides what RLC asks, that PDCP doesn't refuse what is
-- submitted, and that no discard timers are set

abbrev pub IsAccepted : State → Call → Type 0
IsAccepted b (Submit sdu) = refusal b.pdcp.tx sdu ≡ None
IsAccepted b (Take share held) = Unit {0}
IsAccepted b (Arrive pdu) = Unit {0}
IsAccepted b (Expire clock) = Unit {0}
IsAccepted b Tick = Unit {0}
IsAccepted b (SetDiscard ttis) = ⊥

abbrev pub MayBeDone : State → Deed → Type 0
MayBeDone b (Calls c) = IsAccepted b c
MayBeDone b (DataComes k) = Unit {0}
MayBeDone b (StatusComes k) = Unit {0}
MayBeDone b (DataGoes k) = Unit {0}
MayBeDone b (StatusGoes k) = Unit {0}

abbrev pub MayHappen : Pair → Step → Type 0
MayHappen p (Near d) = MayBeDone p.near.bearer d
MayHappen p (Far d) = MayBeDone p.far.bearer d
MayHappen p Passes = Unit {0}

abbrev pub AreLived : Pair → List Step → Type 0
AreLived p [] = Unit {0}
AreLived p (s ∷ ss) = (IsGiven p s × MayHappen p s) × AreLived (happens p s) ss

-- ---- what goes up at an end in a step, and what is submitted there

abbrev pub near_ups : Pair → Step → List (List ℕ)
near_ups p s = ups_by p.near.bearer (near_calls p s)

abbrev pub far_ups : Pair → Step → List (List ℕ)
far_ups p s = ups_by p.far.bearer (far_calls p s)

abbrev pub near_submits : Pair → Step → List (List ℕ)
near_submits p s = submitted_by (near_calls p s)

abbrev pub far_submits : Pair → Step → List (List ℕ)
far_submits p s = submitted_by (far_calls p s)

-- over the steps of a life, in order
abbrev pub over : {A : Type 0} → (Pair → Step → List A) → List Step → Pair → List A
over what [] p = []
over what (s ∷ ss) p = what p s ++ over what ss (happens p s)
