-- A bearer over acknowledged RLC at one end: of data, or of signalling (TS 36.300 6).
use Rattle.std.specs.Prelude.{Bool, is_some, slice_get, List}
use Rattle.bearer_types.specs.declared.BearerConfig.{BearerConfig}
use Rattle.bearer_types.specs.declared.Event.{Event}
use Rattle.eps_sec.specs.declared.Keys.{Keys}
use Rattle.l2_types.specs.declared.AmRxConfig.{AmRxConfig}
use Rattle.l2_types.specs.declared.AmTxConfig.{AmTxConfig}
use Rattle.l2_types.specs.declared.Side.{Side}
use Rattle.pdcp_pdu.specs.declared.PdcpKind.{PdcpKind}
use Rattle.pdcp_tx.specs.State.{offers}
use Rattle.rlc_am_tx.specs.Machine.{State as Sender, start}
use Rattle.rlc_am_rx.specs.State.{State as Receiver, fresh as fresh_receiver}
use Rattle.bearer_pdcp.specs.Ends.{Ends, begun}

pub record State : Type 0 where
  pub pdcp : Ends
  pub tx : Sender
  pub rx : Receiver
  pub tx_config : AmTxConfig
  pub rx_config : AmRxConfig

-- a bearer over RLC entities that begin anew
abbrev pub with_new_rlc : AmTxConfig → AmRxConfig → Ends → State
with_new_rlc tc rc pdcp =
    record { pdcp = pdcp; tx = start tc; rx = fresh_receiver rc; tx_config = tc; rx_config = rc }

unfoldable pub fresh : BearerConfig → PdcpKind → Keys → Side → State
fresh c kind keys side = with_new_rlc c.tx c.rx (begun c.channel.lcid kind c.first keys side)

-- PDCP may hand over more
abbrev pub has_more : Ends → Bool
has_more e = is_some (slice_get (offers e.tx) 0)

-- the sending side and what has been told, which a call passes from stage to stage
pub record Work : Type 0 where
  pub pdcp : Ends
  pub tx : Sender
  pub events : List Event

abbrev pub work : Ends → Sender → List Event → Work
work pdcp tx events = record { pdcp = pdcp; tx = tx; events = events }

-- the bearer behind it
abbrev pub with_work : Work → State → State
with_work w s = record s { pdcp = w.pdcp; tx = w.tx }
