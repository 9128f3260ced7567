-- An act in a life is a turn, a block that comes or is let go, or another call, which the end alone goes by.
use Rattle.std.proofs.Common.{◌≡◌, ℕ, List}
use Rattle.l2_node.specs.Building.{visit}
use Rattle.law_node.specs.Calls.{Turn, Call, SetVisits, SetReports, Add, Submit, SetDiscard, Tick, TickBuckets, Visits}
use Rattle.law_node.specs.Calls.{Grants, Granted, Assigned, Pass, Receive, Expire, Move, IsGiven as IsGivenCall, after}
use Rattle.law_deliver.specs.AmFlow.Air.{Station, Act, Calls, Comes, Goes, calls, does, IsDone, IsVisiting}
use Rattle.law_deliver.specs.AmFlow.Channels.{GoesOnInLife}

pub act_by : (l : ℕ) (o s : Station) (R : Station → Act → Type 0)
    → ((c : Call) → IsGivenCall c → GoesOnInLife l c → ((t : Turn) → c ≡ Visits t → ⊥)
    → ((block : List ℕ) → c ≡ Receive block → ⊥) → R (record s { end = after s.end c }) (Calls c))
    → ((t : Turn) → IsGivenCall (Visits t) → IsVisiting (visit t.tti t.order s.end) s t
    → R (calls s (Visits t)) (Calls (Visits t)))
    → ((k : ℕ) → R (does o s (Comes k)) (Comes k)) → ((k : ℕ) → R (does o s (Goes k)) (Goes k)) → (x : Act)
    → IsDone l s x → R (does o s x) x
act_by l o s R plain turn come go (Calls (SetVisits maximum)) g =
    plain (SetVisits maximum) g.0 g.1 (λ t q. cc) (λ b q. cc)
act_by l o s R plain turn come go (Calls (SetReports reports)) g =
    plain (SetReports reports) g.0 g.1 (λ t q. cc) (λ b q. cc)
act_by l o s R plain turn come go (Calls (Add c keys)) g = plain (Add c keys) g.0 g.1 (λ t q. cc) (λ b q. cc)
act_by l o s R plain turn come go (Calls (Submit lcid octets)) g =
    plain (Submit lcid octets) g.0 g.1 (λ t q. cc) (λ b q. cc)
act_by l o s R plain turn come go (Calls (SetDiscard lcid ttis)) g =
    plain (SetDiscard lcid ttis) g.0 g.1 (λ t q. cc) (λ b q. cc)
act_by l o s R plain turn come go (Calls Tick) g = plain Tick g.0 g.1 (λ t q. cc) (λ b q. cc)
act_by l o s R plain turn come go (Calls TickBuckets) g = plain TickBuckets g.0 g.1 (λ t q. cc) (λ b q. cc)
act_by l o s R plain turn come go (Calls (Visits t)) g = turn t g.0 g.2
act_by l o s R plain turn come go (Calls (Grants tti)) g = plain (Grants tti) g.0 g.1 (λ t q. cc) (λ b q. cc)
act_by l o s R plain turn come go (Calls (Granted tti good)) g =
    plain (Granted tti good) g.0 g.1 (λ t q. cc) (λ b q. cc)
act_by l o s R plain turn come go (Calls (Assigned tti ndi good)) g =
    plain (Assigned tti ndi good) g.0 g.1 (λ t q. cc) (λ b q. cc)
act_by l o s R plain turn come go (Calls (Pass tti)) g = plain (Pass tti) g.0 g.1 (λ t q. cc) (λ b q. cc)
act_by l o s R plain turn come go (Calls (Receive block)) g = absurd g.2
act_by l o s R plain turn come go (Calls (Expire lcid clock)) g =
    plain (Expire lcid clock) g.0 g.1 (λ t q. cc) (λ b q. cc)
act_by l o s R plain turn come go (Calls (Move keys)) g = plain (Move keys) g.0 g.1 (λ t q. cc) (λ b q. cc)
act_by l o s R plain turn come go (Comes k) g = come k
act_by l o s R plain turn come go (Goes k) g = go k
