-- A life of a bearer of acknowledged data ends, and the next one begins (TS 36.322 5.4, TS 36.323
-- 5.2); both ends of a bearer begin alike.
use Rattle.std.specs.Prelude.{◌≡◌, ℕ, List, [], ◌∷◌}
use Rattle.bearer_types.specs.Sides.{other}
use Rattle.bearer_types.specs.declared.BearerConfig.{BearerConfig}
use Rattle.eps_sec.specs.declared.Keys.{Keys}
use Rattle.l2_types.specs.declared.Kind.TheVariants as kinds
use Rattle.l2_types.specs.declared.Side.{Side}
use Rattle.l2_types.specs.declared.Side.TheVariants.{Nb, Ue}
use Rattle.pdcp_pdu.specs.declared.PdcpKind.TheVariants.{Am as AmKind}
use Rattle.pdcp_rx.specs.declared.got.Cause.TheVariants.{Reestablished}
use Rattle.pdcp_rx.specs.State.{State as Receiving, arrived, report}
use Rattle.pdcp_rx.specs.State.{restarted as restarted_receiving, fresh as fresh_receiving}
use Rattle.pdcp_sec.specs.Protection.{Protection, protection_of}
use Rattle.pdcp_tx.specs.Runs.{Owe, after as asked}
use Rattle.pdcp_tx.specs.State.{restarted as restarted_sending, start as start_sending}
use Rattle.rlc_am_rx.specs.State.{fresh as fresh_receiver}
use Rattle.rlc_am_rx.specs.Machine.{finished}
use Rattle.rlc_am_tx.specs.Machine.{start as start_sender}
use Rattle.bearer_pdcp.specs.Ends.{bearer_of, sends}
use Rattle.bearer.specs.Acknowledged.State.{State}
use Rattle.bearer.specs.declared.flow.Flow.{Flow}
use Rattle.bearer.specs.declared.flow.Flow.TheVariants.{Am}
use Rattle.bearer.specs.Bearer.{flow_of}
use Rattle.bearer.specs.Lives.{stopping}
use Rattle.law_bearer.specs.AnyBearer.Calls.{Step, Restart, goes, reached}
use Rattle.law_bearer.specs.AmBearer.Deeds.{Deed, does, all_raised}
use Rattle.law_bearer.specs.AmBearer.Calls.{IsOfData, IsIdle, ups_among}

-- ---- the next life

-- SDUs come to PDCP's receiver at the end of a life, one after the other
abbrev pub closes : List (List ℕ) → Receiving → Receiving
closes [] r = r
closes (sdu ∷ sdus) r = closes sdus (arrived r sdu Reestablished)

-- with those that RLC's receiver can put together
abbrev pub closed : State → Receiving
closed b = closes (finished b.rx) b.pdcp.rx

-- all that is ready then goes up; PDCP keeps COUNTs, what it holds and what is to be taken, and
-- owes a status report; RLC begins anew
abbrev pub restarts : State → Keys → State
restarts b keys = record b {
  pdcp = record b.pdcp {
    tx = asked (restarted_sending b.pdcp.tx keys) (Owe (report (closed b)));
    rx = all_raised (restarted_receiving (closed b) keys);
  };
  tx = start_sender b.tx_config;
  rx = fresh_receiver b.rx_config;
}

pub record RestartsAs (bits : ℕ) (b : State) (keys : Keys) : Type 0 where
  pub left : goes (Am b) (Restart keys) ≡ Am (restarts b keys)
  pub ups : (closed b).ready ≡ ups_among (stopping (Am b))
  pub stays : IsOfData bits (restarts b keys)
  pub idle : IsIdle (restarts b keys)

abbrev pub RestartsAreDeeds : Type 0
RestartsAreDeeds = (bits : ℕ) (b : State) (keys : Keys) → IsOfData bits b → IsIdle b
    → RestartsAs bits b keys

-- ---- the first life

-- PDCP's sender at an end and its receiver at the other begin alike
pub record AmPdcpBeginAlike (bits : ℕ) (p : Protection) (first : ℕ) (from to : State) : Type 0 where
  pub sender : from.pdcp.tx ≡ start_sending (AmKind bits) p first
  pub receiver : to.pdcp.rx ≡ fresh_receiving (AmKind bits) p first

-- RLC begins too
pub record BeginsAs (c : BearerConfig) (b : State) : Type 0 where
  pub tx : b.tx ≡ start_sender c.tx
  pub rx : b.rx ≡ fresh_receiver c.rx
  pub tx_config : b.tx_config ≡ c.tx
  pub rx_config : b.rx_config ≡ c.rx
  pub stays : IsOfData c.pdcp_bits b
  pub idle : IsIdle b

-- the protection of what a side sends
abbrev pub protection_at : BearerConfig → Keys → Side → Protection
protection_at c keys side =
    protection_of (AmKind c.pdcp_bits) keys (bearer_of c.channel.lcid) (sends side)

abbrev pub EndsBeginAlike : Type 0
EndsBeginAlike = (c : BearerConfig) (keys : Keys) (side : Side) (near far : State)
    → c.kind ≡ kinds.Am
    → flow_of c.kind c keys side ≡ Am near → flow_of c.kind c keys (other side) ≡ Am far
    → AmPdcpBeginAlike c.pdcp_bits (protection_at c keys side) c.first near far

abbrev pub FirstLifeBegins : Type 0
FirstLifeBegins = (c : BearerConfig) (keys : Keys) (side : Side) (b : State) → c.kind ≡ kinds.Am
    → flow_of c.kind c keys side ≡ Am b → BeginsAs c b

-- ---- through any calls and lives it stays so

pub record StandsIdle (bits : ℕ) (f : Flow) : Type 0 where
  pub bearer : State
  pub is : f ≡ Am bearer
  pub stays : IsOfData bits bearer
  pub idle : IsIdle bearer

abbrev pub NothingIsLeftOver : Type 0
NothingIsLeftOver = (c : BearerConfig) (keys : Keys) (side : Side) (steps : List Step)
    → c.kind ≡ kinds.Am → StandsIdle c.pdcp_bits (reached c keys side steps)

-- ---- what is sent from an end and heard at the other is protected alike

abbrev pub AreProtectedAlike : State → State → Type 0
AreProtectedAlike from to = from.pdcp.tx.protection ≡ to.pdcp.rx.protection

-- no deed changes that
pub record KeepsProtection (b d : State) : Type 0 where
  pub sending : d.pdcp.tx.protection ≡ b.pdcp.tx.protection
  pub receiving : d.pdcp.rx.protection ≡ b.pdcp.rx.protection

abbrev pub DeedsKeepProtection : Type 0
DeedsKeepProtection = (b : State) (deed : Deed) → KeepsProtection b (does b deed)

-- the next life of both ends under the same keys
abbrev pub RestartsProtectAlike : Type 0
RestartsProtectAlike = (bits : ℕ) (from to : State) (keys : Keys) → IsOfData bits from
    → IsOfData bits to → AreProtectedAlike from to
    → AreProtectedAlike (restarts from keys) (restarts to keys)
