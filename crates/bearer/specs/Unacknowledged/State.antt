-- An unacknowledged data bearer at one end: PDCP over unacknowledged RLC (TS 36.300 6).
use Rattle.std.specs.Prelude.{ℕ}
use Rattle.bearer_types.specs.declared.BearerConfig.{BearerConfig}
use Rattle.eps_sec.specs.declared.Keys.{Keys}
use Rattle.l2_types.specs.declared.Side.{Side}
use Rattle.pdcp_pdu.specs.declared.PdcpKind.TheVariants.{Um}
use Rattle.rlc_um.specs.Sender.{Sender, idle_sender, width_of}
use Rattle.rlc_um.specs.Receiver.{State as Receiver, start}
use Rattle.bearer_pdcp.specs.Ends.{Ends, begun}

-- `bits` is the length of RLC's numbers, `reorder` that of the reordering timer in TTIs
pub record State : Type 0 where
  pub bits : ℕ
  pub reorder : ℕ
  pub pdcp : Ends
  pub tx : Sender
  pub rx : Receiver

-- a bearer over RLC entities that begin anew
abbrev pub with_new_rlc : ℕ → ℕ → Ends → State
with_new_rlc bits reorder pdcp =
    record {
      bits = bits;
      reorder = reorder;
      pdcp = pdcp;
      tx = idle_sender bits;
      rx = start (width_of bits) reorder;
    }

unfoldable pub fresh : BearerConfig → Keys → Side → State
fresh c keys side =
    with_new_rlc c.rlc_bits c.rx.reorder (begun c.channel.lcid (Um c.pdcp_bits) c.first keys side)
