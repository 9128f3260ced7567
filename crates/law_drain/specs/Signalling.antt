-- What a bearer of signalling has left (TS 36.323 5.1.1, 5.9): its PDCP keeps nothing of what it
-- gave RLC, and COUNTs end below its bound.
use Rattle.std.specs.Prelude.{◌≡◌, ◌⊎◌, ◌+◌, ◌^◌, ◌<◌, ◌≤◌, true, [], length, None}
use Rattle.bearer.specs.Acknowledged.State.{State, fresh}
use Rattle.bearer.specs.Acknowledged.Sums.{need, is_drained}
use Rattle.bearer.specs.declared.flow.Flow.TheVariants.{Am}
use Rattle.bearer_types.specs.declared.BearerConfig.{BearerConfig}
use Rattle.eps_sec.specs.declared.Keys.{Keys}
use Rattle.l2_types.specs.declared.Side.{Side}
use Rattle.pdcp_pdu.specs.declared.pdu.PdcpKind.TheVariants.{Srb as SrbKind}
use Rattle.pdcp_tx.specs.State.{State as PdcpState, refusal}
use Rattle.law_bearer.specs.AnyBearer.Calls.{Call, Submit, Take, Arrive, Expire, Tick, SetDiscard}
use Rattle.law_bearer.specs.AnyBearer.Calls.{Restart, goes}
use Rattle.law_bearer.specs.AmBearer.Calls.{IsOfSignalling, IsIdle, deeds_of}
use Rattle.law_bearer.specs.AmBearer.Deeds.{does_all}
use Rattle.law_drain.specs.Bearer.{bearer_quiet}
use Rattle.law_drain.specs.Ends.{Stands}

pub record KeepsNone (s : PdcpState) : Type 0 where
  pub given : s.given.entries ≡ []
  pub again : s.again ≡ []
  pub owed : s.owed ≡ None
  pub counts : s.next + length s.waiting ≤ 2 ^ 32
  pub bound : 2 ^ 32 ≤ s.bound

-- PDCP doesn't refuse what is submitted
abbrev pub IsAccepted : State → Call → Type 0
IsAccepted b (Submit sdu) = refusal b.pdcp.tx sdu ≡ None
IsAccepted b (Take share held) = Unit {0}
IsAccepted b (Arrive pdu) = Unit {0}
IsAccepted b (Expire clock) = Unit {0}
IsAccepted b Tick = Unit {0}
IsAccepted b (SetDiscard ttis) = Unit {0}

-- no call of a life changes that
abbrev pub SignallingKeepsNone : Type 0
SignallingKeepsNone = (b : State) (c : Call) → IsOfSignalling b → IsAccepted b c
    → KeepsNone b.pdcp.tx → KeepsNone (does_all (deeds_of b c) b).pdcp.tx

-- as its first life begins, with a first COUNT of 32 bits
abbrev pub SignallingBeginsEmpty : Type 0
SignallingBeginsEmpty = (c : BearerConfig) (keys : Keys) (side : Side) → c.first < 2 ^ 32
    → KeepsNone (fresh c SrbKind keys side).pdcp.tx

-- and as a further one does (TS 36.323 5.2.2.3)
pub record RestartsEmpty (b : State) (keys : Keys) : Type 0 where
  pub bearer : State
  pub left : goes (Am b) (Restart keys) ≡ Am bearer
  pub kind : IsOfSignalling bearer
  pub idle : IsIdle bearer
  pub keeps : KeepsNone bearer.pdcp.tx

abbrev pub SignallingGoesOnEmpty : Type 0
SignallingGoesOnEmpty = (b : State) (keys : Keys) → IsOfSignalling b → IsIdle b
    → KeepsNone b.pdcp.tx → RestartsEmpty b keys

-- ---- where nothing is needed of a grant, while HARQ holds none of its numbers

-- any acknowledged bearer is drained then, or waits for its poll timer
abbrev pub IdleStandsDrained : Type 0
IdleStandsDrained = (b : State) → Stands b → (IsOfSignalling b → KeepsNone b.pdcp.tx)
    → need b None ≡ 0 → (is_drained b ≡ true) ⊎ (bearer_quiet b ≡ 1)
