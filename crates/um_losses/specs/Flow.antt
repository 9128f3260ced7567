-- One direction of an unacknowledged bearer, as records show it.
use Rattle.std.specs.Prelude.{ℕ, Bool, true, ◌&&◌, ◌==◌, if◌then◌else◌, [], Option, Some, None}
use Rattle.std.specs.Prelude.{slice_index_or}
use Rattle.mac_pdu.specs.declared.item.Direction.{Direction}
use Rattle.rlc_um.specs.Receiver.{State as Receiver, start, arrival, expired, all_joined}
use Rattle.rlc_um.specs.Sender.{width_of}
use Rattle.um_losses.specs.declared.flow.Happening.{Happening}
use Rattle.um_losses.specs.declared.flow.Happening.TheVariants.{BlockRenewed, PduWritten}
use Rattle.um_losses.specs.declared.flow.Happening.TheVariants.{BlockArrived, PduForged}
use Rattle.um_losses.specs.declared.flow.Happening.TheVariants.{TimerExpired, LifeRestarted}
use Rattle.um_losses.specs.declared.flow.Whose.{Whose}
use Rattle.um_losses.specs.declared.flow.Whose.TheVariants.{All, Each, One}
use Rattle.um_losses.specs.declared.gaps.Gaps.{Gaps}
use Rattle.um_losses.specs.declared.pdu.Pdu.{Pdu}
use Rattle.um_losses.specs.declared.sending.InFlight.{InFlight}
use Rattle.um_losses.specs.Gaps.{no_gaps, numbered, all_counted, restarted}
use Rattle.um_losses.specs.Pdus.{is_pdu}
use Rattle.um_losses.specs.Sending.{Sending, nothing_written, renewed, written}
use Rattle.um_losses.specs.Tags.{tagged}
use Rattle.bearer_types.specs.Sides.{is_same_way}

-- `bits` is the length of RLC's numbers, and `receiver` hears tags (TS 36.322 5.1.2.2)
pub record Flow : Type 0 where
  pub direction : Direction
  pub lcid : ℕ
  pub bits : ℕ
  pub sending : Sending
  pub receiver : Receiver
  pub gaps : Gaps

-- the clock of this receiver stands still: records tell when the timer expires
abbrev pub fresh_receiver : ℕ → Receiver
fresh_receiver bits = start (width_of bits) 0

abbrev pub begun : Direction → ℕ → ℕ → ℕ → Flow
begun direction lcid bits counts = record {
  direction = direction;
  lcid = lcid;
  bits = bits;
  sending = nothing_written;
  receiver = fresh_receiver bits;
  gaps = no_gaps (width_of bits) counts;
}

abbrev pub none_ready : Receiver → Receiver
none_ready r = record r { joined = record r.joined { ready = [] } }

-- what the receiver has ready is handed up
abbrev pub all_gone : Flow → Flow
all_gone f = record f {
  receiver = none_ready f.receiver;
  gaps = all_counted f.receiver.joined.ready f.gaps;
}

-- the receiver hears a PDU, whose first element is of the SDU with this COUNT, or forged
abbrev pub heard : Option ℕ → Pdu → Flow → Flow
heard first p f = if is_pdu f.bits p
    then all_gone (record f { receiver = arrival (tagged first p) f.receiver }) else f

-- a PDU of the sender arrives
abbrev pub arrived : InFlight → Flow → Flow
arrived s f = heard (Some s.first) s.pdu (record f { gaps = numbered s.number f.gaps })

abbrev pub arrived_if : Option InFlight → Flow → Flow
arrived_if None f = f
arrived_if (Some s) f = arrived s f

abbrev pub written_in : ℕ → Pdu → Flow → Flow
written_in process p f = if is_pdu f.bits p
    then record f { sending = written process p f.sending } else f

-- the reordering timer expires (TS 36.322 5.1.2.2.4)
abbrev pub expires : Flow → Flow
expires f = all_gone (record f { receiver = expired f.receiver })

-- both ends are re-established: what can be put together is handed up, and all begins again (TS
-- 36.322 5.4)
abbrev pub restarts : Flow → Flow
restarts f = record f {
  sending = nothing_written;
  receiver = fresh_receiver f.bits;
  gaps = restarted (all_counted (all_joined f.receiver) f.gaps);
}

abbrev pub after : Happening → Flow → Flow
after (BlockRenewed process) f = record f { sending = renewed process f.sending }
after (PduWritten process p) f = written_in process p f
after (BlockArrived process) f = arrived_if (slice_index_or f.sending.under_way process None) f
after (PduForged p) f = heard None p f
after TimerExpired f = expires f
after LifeRestarted f = restarts f

abbrev pub is_of : Direction → ℕ → Flow → Bool
is_of direction lcid f = is_same_way f.direction direction && (f.lcid == lcid)

abbrev pub concerns : Whose → Flow → Bool
concerns All f = true
concerns (Each direction) f = is_same_way f.direction direction
concerns (One direction lcid) f = is_of direction lcid f
