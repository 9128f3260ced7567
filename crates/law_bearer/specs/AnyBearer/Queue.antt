-- SDUs from their submission to their first taking (TS 36.323 5.1.1, 5.4).
use Rattle.std.specs.Prelude.{◌≡◌, ◌⊎◌, ℕ, ◌-◌, ◌≤◌, List, [], ◌∷◌, ◌++◌, map, length, take, Option}
use Rattle.std.specs.Prelude.{Some, None, slice_get}
use Rattle.bearer_types.specs.declared.BearerConfig.{BearerConfig}
use Rattle.eps_sec.specs.declared.Keys.{Keys}
use Rattle.l2_types.specs.declared.Kind.TheVariants as kinds
use Rattle.l2_types.specs.declared.Side.{Side}
use Rattle.pdcp_tx.specs.State.{Offer}
use Rattle.bearer_pdcp.specs.Ends.{Ends}
use Rattle.bearer.specs.declared.flow.Flow.{Flow}
use Rattle.bearer.specs.Bearer.{flow_of}
use Rattle.law_bearer.specs.AnyBearer.Calls.{Call, Submit, Take, Arrive, Expire, Tick, SetDiscard}
use Rattle.law_bearer.specs.AnyBearer.Calls.{after, Step, Calls, Restart, goes, reached, ends}
use Rattle.law_bearer.specs.AnyBearer.Stream.{all_taken}

-- the SDUs that have no COUNT yet
abbrev pub queue : Option Ends → List (List ℕ)
queue None = []
queue (Some e) = map (λ w. w.sdu) e.tx.waiting

abbrev pub submits : Call → List (List ℕ)
submits (Submit sdu) = sdu ∷ []
submits (Take share held) = []
submits (Arrive pdu) = []
submits (Expire clock) = []
submits Tick = []
submits (SetDiscard ttis) = []

-- the first SDUs, without those that still wait afterwards
abbrev pub off : List (List ℕ) → List (List ℕ) → List (List ℕ)
off before after = take (length before - length after) before

-- those that a call takes for the first time
abbrev pub news : Flow → Call → List (List ℕ)
news f (Submit sdu) = []
news f (Take share held) = off (queue (ends f)) (queue (ends (after f (Take share held))))
news f (Arrive pdu) = []
news f (Expire clock) = []
news f Tick = []
news f (SetDiscard ttis) = []

-- those that a call discards
abbrev pub drops : Flow → Call → List (List ℕ)
drops f (Submit sdu) = []
drops f (Take share held) = []
drops f (Arrive pdu) = []
drops f (Expire clock) = []
drops f Tick = off (queue (ends f)) (queue (ends (after f Tick)))
drops f (SetDiscard ttis) = []

-- through lives: what was submitted, what was taken for the first time, and what left the queue
-- either way, in order

abbrev pub all_submitted : List Step → List (List ℕ)
all_submitted [] = []
all_submitted (Calls c ∷ xs) = submits c ++ all_submitted xs
all_submitted (Restart keys ∷ xs) = all_submitted xs

abbrev pub all_news : Flow → List Step → List (List ℕ)
all_news f [] = []
all_news f (Calls c ∷ xs) = news f c ++ all_news (after f c) xs
all_news f (Restart keys ∷ xs) = all_news (goes f (Restart keys)) xs

abbrev pub all_left : Flow → List Step → List (List ℕ)
all_left f [] = []
all_left f (Calls c ∷ xs) = (news f c ++ drops f c) ++ all_left (after f c) xs
all_left f (Restart keys ∷ xs) = all_left (goes f (Restart keys)) xs

-- on a data bearer SDUs leave the queue in the order in which they were submitted, each once
abbrev pub LeavesInOrder : Type 0
LeavesInOrder = (c : BearerConfig) (keys : Keys) (side : Side) (steps : List Step)
    → (c.kind ≡ kinds.Um) ⊎ (c.kind ≡ kinds.Am)
    → all_left (flow_of c.kind c keys side) steps ++ queue (ends (reached c keys side steps))
    ≡ all_submitted steps

-- an SDU with its COUNT: `first` and its place among those that were taken for the first time
abbrev pub IsNamed : ℕ → List (List ℕ) → Offer → Type 0
IsNamed first sdus o = (n : ℕ) → o.count ≡ Some n
    → (first ≤ n) × (slice_get sdus (n - first) ≡ Some o.text)

-- on an acknowledged data bearer each SDU has the COUNT of its place through all lives
abbrev pub NamesByPlace : Type 0
NamesByPlace =
    (c : BearerConfig) (keys : Keys) (side : Side) (steps : List Step) (i : ℕ) (o : Offer)
    → c.kind ≡ kinds.Am
    → slice_get (all_taken (flow_of c.kind c keys side) steps) i ≡ Some o
    → IsNamed c.first (all_news (flow_of c.kind c keys side) steps) o
