-- What an end does in a step of a life is deeds of its unacknowledged bearer that may happen.
use Rattle.std.proofs.Common.{◌≡◌, ℕ, List, [], ◌∷◌, ◌++◌, slice_get}
use Rattle.std.proofs.Common.{refl, sym, subst, inl, inr}
use Rattle.std.specs.List.{AllByRecursion}
use Rattle.bearer.specs.declared.flow.Flow.{Flow}
use Rattle.bearer.specs.declared.flow.Flow.TheVariants.{Um}
use Rattle.bearer.specs.Submitting.{refusal as flow_refusal}
use Rattle.bearer.specs.Unacknowledged.State.{State}
use Rattle.law_bearer.specs.AnyBearer.Calls.{Call as BearerCall}
use Rattle.bearer_types.specs.Sides.{heard_by, sent_by}
use Rattle.l2_types.specs.declared.side.Side.{Side}
use Rattle.law_node.specs.Holding.{flow}
use Rattle.law_deliver.specs.AmFlow.Air.{Station, Act, does, IsDone}
use Rattle.law_deliver.proofs.AmFlow.Acts.{act_by}
use Rattle.law_deliver.proofs.AmFlow.Accepting.{IsQuiet, AreAcceptable, act_acceptable, quiet_accepted}
use Rattle.law_deliver.proofs.AmFlow.Air.{calls_in as act_calls}
use Rattle.law_deliver.specs.UmDelivery.Lives.{AreAccepted}
use Rattle.law_deliver.specs.UmFlow.Handing.{all_called}
use Rattle.law_deliver.specs.UmFlow.Pair.{BearerEnd, called}
use Rattle.law_deliver.specs.UmChannel.Pairs.{deeds_in}
use Rattle.law_deliver.proofs.UmChannel.Stations.{Matches, Acts, hears, lets_go, plain_call}
use Rattle.law_deliver.proofs.UmChannel.Visiting.{visits}

pub acts : (side oside : Side) (l : ℕ) (s o : Station) (n m : BearerEnd) (x : Act) → heard_by side ≡ sent_by oside
    → Matches side l s n → Matches oside l o m → IsDone l s x
    → Acts side l (does o s x) m n (deeds_in l side o s x) (act_calls l o s x)
acts side oside l s o n m x dir h k =
    act_by l o s (λ v y. Acts side l v m n (deeds_in l side o s y) (act_calls l o s y))
    (λ c given life no_turn no_block. plain_call side l s n m c h given life no_turn no_block)
    (λ t given turn. visits side l s n m t h given turn)
    (λ place. hears side oside l place s o n m (slice_get o.blocks place) dir h k refl)
    (λ place. lets_go side l place s n m (slice_get s.blocks place) h refl) x

-- ---- PDCP refuses nothing of it

pub accepted_then : (b : State) (xs ys : List BearerCall) → AreAccepted b xs → AreAccepted (all_called b xs) ys
    → AreAccepted b (xs ++ ys)
accepted_then b [] ys h k = k
accepted_then b (x ∷ xs) ys h k = (h.0, accepted_then (called b x) xs ys h.1 k)

quiet_all : (cs : List BearerCall) (b : State) → AllByRecursion IsQuiet cs → AreAccepted b cs
quiet_all [] b q = tt
quiet_all (c ∷ cs) b q = (quiet_accepted b.pdcp.tx c q.0, quiet_all cs (called b c) q.1)

accepts : (b : State) (cs : List BearerCall) → AreAcceptable (Um b) cs → AreAccepted b cs
unfolding flow_refusal
accepts b cs (inl quiet) = quiet_all cs b quiet
accepts b cs (inr one) = subst (AreAccepted b) (sym one.calls_are) (one.accepts, tt)

pub act_accepted : (l : ℕ) (other s : Station) (x : Act) (b : State) → flow l s.end ≡ Um b
    → AreAccepted b (act_calls l other s x)
act_accepted l other s x b is =
    accepts b (act_calls l other s x)
    (subst (λ (f : Flow). AreAcceptable f (act_calls l other s x)) is (act_acceptable l other s x))
