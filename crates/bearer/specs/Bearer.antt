-- A bearer at one end (TS 36.322 4.2.1, TS 36.323 4.2): of one of three kinds, in a life or between
-- two lives.
use Rattle.std.specs.Prelude.{Bool, false}
use Rattle.bearer_types.specs.declared.BearerConfig.{BearerConfig}
use Rattle.eps_sec.specs.declared.Keys.{Keys}
use Rattle.l2_types.specs.declared.Channel.{Channel}
use Rattle.l2_types.specs.declared.Kind.{Kind}
use Rattle.l2_types.specs.declared.Kind.TheVariants as kinds
use Rattle.l2_types.specs.declared.Side.{Side}
use Rattle.pdcp_pdu.specs.declared.PdcpKind.TheVariants as pdcp
use Rattle.rlc_um.specs.Transparent.{nothing_submitted}
use Rattle.bearer.specs.Unacknowledged.State.{fresh as fresh_um}
use Rattle.bearer.specs.Acknowledged.State.{fresh as fresh_am}
use Rattle.bearer.specs.declared.flow.Flow.{Flow}
use Rattle.bearer.specs.declared.flow.Flow.TheVariants.{Tm, Um, Am}

-- a bearer in some state, with its logical channel as MAC is configured with it (TS 36.321 5.4.3.1)
pub record Of (S : Type 0) : Type 0 where
  pub channel : Channel
  pub state : S

module _ {S : Type 0} where
  abbrev pub of : Channel → S → Of S
  of channel state = record { channel = channel; state = state }

-- a bearer in a life; one that ran out of memory answers so from then on to each call that can
pub record Life : Type 0 where
  pub flow : Flow
  pub dead : Bool

abbrev pub alive : Flow → Life
alive flow = record { flow = flow; dead = false }

abbrev pub flow_of : Kind → BearerConfig → Keys → Side → Flow
flow_of kinds.Tm c keys side = Tm nothing_submitted
flow_of kinds.Srb c keys side = Am (fresh_am c pdcp.Srb keys side)
flow_of kinds.Um c keys side = Um (fresh_um c keys side)
flow_of kinds.Am c keys side = Am (fresh_am c (pdcp.Am c.pdcp_bits) keys side)

-- a bearer as both ends are configured with it
unfoldable pub begun : BearerConfig → Keys → Side → Of Life
begun c keys side = of c.channel (alive (flow_of c.kind c keys side))
