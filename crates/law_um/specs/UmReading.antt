-- What goes up of unacknowledged data at a bearer is what PDCP reads, as a checker of journals asks
-- it, of the SDUs that RLC hands up (docs/laws/ACCOUNT.md; TS 36.322 5.1.2.2, 5.4, TS 36.323
-- 5.1.2.1.3, 5.2.2.2, 5.6).
use Rattle.std.specs.Prelude.{◌≡◌, ℕ, List, [], ◌∷◌}
use Rattle.bearer_types.specs.declared.config.BearerConfig.{BearerConfig}
use Rattle.bearer_types.specs.Sides.{other}
use Rattle.eps_sec.specs.declared.Keys.{Keys}
use Rattle.l2_types.specs.declared.side.Side.{Side}
use Rattle.pdcp_pdu.specs.declared.pdu.PdcpKind.TheVariants.{Um as UmKind}
use Rattle.rlc_um.specs.Receiver.{all_joined}
use Rattle.bearer.specs.Lives.{stopping}
use Rattle.bearer.specs.Unacknowledged.State.{State, fresh}
use Rattle.bearer.specs.Unacknowledged.Lives.{stopped, restarted}
use Rattle.bearer.specs.declared.flow.Flow.TheVariants.{Um}
use Rattle.journal_edge.specs.RightEdge.{protection}
use Rattle.journal_edge.specs.UmReading.{Reader, as_begun, all_read, read_by, behind, renewed}
use Rattle.law_bearer.specs.AnyBearer.Calls.{Call}
use Rattle.law_deliver.specs.AmFlow.Ups.{ups_on, goes_up_in, go_up_over}
use Rattle.law_deliver.specs.UmFlow.Handing.{IsOfData, hands, handed, all_called}
use Rattle.law_deliver.specs.UmFlow.Pair.{called}

-- ---- who reads

-- PDCP's receiver at a bearer, of SNs of so many bits
abbrev pub reader_of : ℕ → State → Reader
reader_of bits b =
    record { bits = bits; protection = b.pdcp.rx.protection; next = b.pdcp.rx.next }

-- a bearer of unacknowledged data on a channel, between its calls: nothing waits in its receivers
pub record IsReader (l bits : ℕ) (b : State) : Type 0 where
  pub own : b.pdcp.lcid ≡ l
  pub of_data : IsOfData bits b
  pub kind : b.pdcp.rx.kind ≡ UmKind bits
  pub none_held : b.pdcp.rx.held ≡ []
  pub none_ready : b.rx.joined.ready ≡ []

-- ---- what is read of SDUs of RLC, one behind the other

abbrev pub sdus_read : Reader → List (List ℕ) → List (List ℕ)
sdus_read r sdus = all_read r.bits r.protection r.next sdus

-- who reads behind them
abbrev pub behind_all : List (List ℕ) → Reader → Reader
behind_all [] r = r
behind_all (sdu ∷ sdus) r = behind_all sdus (behind (read_by r sdu) r)

-- ---- the laws

-- a bearer begins under the protection of what the other side sends, with the first COUNT that it
-- is configured with
pub record BeginsToRead (c : BearerConfig) (keys : Keys) (side : Side) : Type 0 where
  pub reads : IsReader c.channel.lcid c.pdcp_bits (fresh c keys side)
  pub reader_is : reader_of c.pdcp_bits (fresh c keys side)
      ≡ record (as_begun c.pdcp_bits (protection (other side) c keys)) { next = c.first }

abbrev pub UmReadersBegin : Type 0
UmReadersBegin = (c : BearerConfig) (keys : Keys) (side : Side) → BeginsToRead c keys side

-- in a call what goes up is what is read of the SDUs that RLC hands up in it (TS 36.322 5.1.2.2, TS
-- 36.323 5.1.2.1.3, 5.6)
pub record GoesUpRead (l bits : ℕ) (b : State) (c : Call) : Type 0 where
  pub ups_are : goes_up_in l (Um b) c ≡ sdus_read (reader_of bits b) (hands b c)
  pub reader_is : reader_of bits (called b c) ≡ behind_all (hands b c) (reader_of bits b)
  pub reads : IsReader l bits (called b c)

abbrev pub UmCallsAreRead : Type 0
UmCallsAreRead = (l bits : ℕ) (b : State) (c : Call) → IsReader l bits b → GoesUpRead l bits b c

-- so it is in any calls of a life
pub record GoUpRead (l bits : ℕ) (b : State) (cs : List Call) : Type 0 where
  pub ups_are : go_up_over l (Um b) cs ≡ sdus_read (reader_of bits b) (handed b cs)
  pub reader_is : reader_of bits (all_called b cs) ≡ behind_all (handed b cs) (reader_of bits b)
  pub reads : IsReader l bits (all_called b cs)

abbrev pub UmLivesAreRead : Type 0
UmLivesAreRead =
    (l bits : ℕ) (b : State) (cs : List Call) → IsReader l bits b → GoUpRead l bits b cs

-- and as a life ends, of what RLC can put together then (TS 36.322 5.4); the next begins with COUNT
-- 0 under other keys (TS 36.323 5.2.2.2)
pub record EndsRead (l bits : ℕ) (b : State) (keys : Keys) : Type 0 where
  pub ups_are : ups_on l (stopping (Um b)) ≡ sdus_read (reader_of bits b) (all_joined b.rx)
  pub reader_is : reader_of bits (restarted (stopped b) keys)
      ≡ renewed keys (behind_all (all_joined b.rx) (reader_of bits b))
  pub reads : IsReader l bits (restarted (stopped b) keys)

abbrev pub UmEndsAreRead : Type 0
UmEndsAreRead =
    (l bits : ℕ) (b : State) (keys : Keys) → IsReader l bits b → EndsRead l bits b keys
