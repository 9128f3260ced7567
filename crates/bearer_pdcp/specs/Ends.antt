-- PDCP of a bearer at one end: the sender and the receiver (TS 36.323 4.2.2).
use Rattle.std.specs.Prelude.{ℕ, ◌-◌, if◌then◌else◌, nat_lt}
use Rattle.eps_sec.specs.declared.Keys.{Keys}
use Rattle.l2_types.specs.declared.Side.{Side}
use Rattle.l2_types.specs.declared.Side.TheVariants.{Nb, Ue}
use Rattle.pdcp_pdu.specs.declared.PdcpKind.{PdcpKind}
use Rattle.pdcp_sec.specs.Protection.{protection_of}
use Rattle.pdcp_tx.specs.State.{State as Sending, start}
use Rattle.pdcp_rx.specs.State.{State as Receiving, fresh}

pub record Ends : Type 0 where
  pub lcid : ℕ
  pub kind : PdcpKind
  pub tx : Sending
  pub rx : Receiving

-- BEARER: the radio bearer's identity less 1 (TS 36.323 5.6), which is that of the LCID for
-- signalling; data follows from LCID 3 on
abbrev pub bearer_of : ℕ → ℕ
bearer_of lcid = if nat_lt lcid 3 then lcid - 1 else lcid - 3

-- DIRECTION of what an end sends and of what it hears: 0 on the uplink, 1 on the downlink (TS
-- 33.401 B.1.1)
abbrev pub sends : Side → ℕ
sends Nb = 1
sends Ue = 0

abbrev pub hears : Side → ℕ
hears Nb = 0
hears Ue = 1

-- a bearer that begins with a COUNT
unfoldable pub begun : ℕ → PdcpKind → ℕ → Keys → Side → Ends
begun lcid kind first keys side = record {
  lcid = lcid;
  kind = kind;
  tx = start kind (protection_of kind keys (bearer_of lcid) (sends side)) first;
  rx = fresh kind (protection_of kind keys (bearer_of lcid) (hears side)) first;
}
