-- A call of an end in a life: no block comes in it, its bearer goes by its own calls, and a block is built in a turn.
use Rattle.std.proofs.Common.{◌≡◌, ◌≤◌, ℕ, List, map, refl, ap, subst, ◌∙◌}
use Rattle.std.specs.List.{AllByRecursion}
use Rattle.harq.specs.declared.sender.Visit.{Visit}
use Rattle.harq.specs.declared.sender.Visit.TheVariants.{New, Resend, Silent}
use Rattle.l2_node.specs.Building.{visit, visited}
use Rattle.l2_node.specs.End.{End}
use Rattle.l2_node.specs.Writing.{new_block}
use Rattle.l2_types.specs.declared.side.Side.{Side}
use Rattle.l2_types.specs.declared.limits.TheConstants.{GREATEST_GRANT}
use Rattle.law_bearer.specs.AnyBearer.Calls.{after_all}
use Rattle.law_node.specs.Calls.{Turn, Call, SetVisits, SetReports, Add, Submit, SetDiscard, Tick, TickBuckets, Visits}
use Rattle.law_node.specs.Calls.{Grants, Granted, Assigned, Pass, Receive, Expire, Move, IsGiven as IsGivenCall}
use Rattle.law_node.specs.Holding.{flow}
use Rattle.law_deliver.specs.AmChannel.Arrival.{built_in}
use Rattle.law_deliver.specs.AmFlow.Air.{Block, Station, Calls, calls, built_at, IsBuilding, IsVisiting, IsCalling}
use Rattle.law_deliver.specs.AmFlow.Air.{IsDone}
use Rattle.law_deliver.specs.AmFlow.Channels.{calls_of}
use Rattle.law_deliver.specs.AmFlow.NoPdus.{BringsNoBlock}
use Rattle.law_deliver.specs.AmFlow.Pair.{BearerEnd}
use Rattle.law_deliver.proofs.AmChannel.Ends.{calls_end}
use Rattle.law_deliver.proofs.AmFlow.Channels.{call_by}
use Rattle.law_deliver.proofs.AmFlow.Stations.{Matches, come_sound}

pub no_block : (s : Station) (c : Call) → IsCalling s c → BringsNoBlock c
no_block s (SetVisits maximum) g = tt
no_block s (SetReports reports) g = tt
no_block s (Add config keys) g = tt
no_block s (Submit lcid octets) g = tt
no_block s (SetDiscard lcid ttis) g = tt
no_block s Tick g = tt
no_block s TickBuckets g = tt
no_block s (Visits t) g = tt
no_block s (Grants tti) g = tt
no_block s (Granted tti good) g = tt
no_block s (Assigned tti ndi good) g = tt
no_block s (Pass tti) g = tt
no_block s (Receive block) g = absurd g
no_block s (Expire lcid clock) g = tt
no_block s (Move keys) g = tt

pub call_goes_by : (side : Side) (l : ℕ) (s : Station) (n : BearerEnd) (c : Call) → Matches side l s n
    → IsDone l s (Calls c) → flow l (calls s c).end ≡ after_all (flow l s.end) (calls_of l s.end c)
call_goes_by side l s n c m done =
    ap (λ (e : End). flow l e) (calls_end s c) ∙ call_by l s.end c (come_sound side s.end m.come) done.1 m.there

-- ---- a new block

pub visit_by : (P : Visit → Type 0) (v : Visit) → (v ≡ New → P New) → ((rv : ℕ) → P (Resend rv)) → P Silent → P v
visit_by P New new again none = new refl
visit_by P (Resend rv) new again none = again rv
visit_by P Silent new again none = none

-- what holds of each that a turn builds
pub all_built : (P : List ℕ → Type 0) (s : Station) (c : Call) → IsGivenCall c → IsCalling s c
    → ((t : Turn) → visit t.tti t.order s.end ≡ New → IsBuilding s t → t.grant ≤ GREATEST_GRANT
    → P (new_block (visited t.tti t.order s.end) t.grant)) → AllByRecursion P (built_in s.end c)
all_built P s (SetVisits maximum) given g new = tt
all_built P s (SetReports reports) given g new = tt
all_built P s (Add config keys) given g new = tt
all_built P s (Submit lcid octets) given g new = tt
all_built P s (SetDiscard lcid ttis) given g new = tt
all_built P s Tick given g new = tt
all_built P s TickBuckets given g new = tt
all_built P s (Visits t) given g new =
    visit_by
    (λ (v : Visit).
    AllByRecursion P (map (λ (b : Block). b.octets) (built_at v t (visited t.tti t.order s.end))))
    (visit t.tti t.order s.end)
    (λ is. (new t is (subst (λ (v : Visit). IsVisiting v s t) is g) given.0, tt)) (λ rv. tt) tt
all_built P s (Grants tti) given g new = tt
all_built P s (Granted tti good) given g new = tt
all_built P s (Assigned tti ndi good) given g new = tt
all_built P s (Pass tti) given g new = tt
all_built P s (Receive block) given g new = tt
all_built P s (Expire lcid clock) given g new = tt
all_built P s (Move keys) given g new = tt
