-- What the records of a run mean for the flows of unacknowledged bearers
-- (TS 36.322 5.1.2, TS 36.323 5.1.2.1).
use Rattle.std.specs.Prelude.{ℕ, Bool, true, false, length, Option, Some, None}
use Rattle.air_record.specs.declared.record.Arrived.TheVariants.{Got}
use Rattle.air_record.specs.declared.record.Record.{Record}
use Rattle.air_record.specs.declared.record.Record.TheVariants as records
use Rattle.bearer_types.specs.declared.event.Event.TheVariants as events
use Rattle.l2_types.specs.declared.event.Clock.TheVariants.{Reorder}
use Rattle.l2_types.specs.declared.side.Side.{Side}
use Rattle.mac_pdu.specs.declared.item.Direction.{Direction}
use Rattle.um_losses.specs.declared.cursor.Change.{Change}
use Rattle.um_losses.specs.declared.cursor.Cursor.{Cursor}
use Rattle.um_losses.specs.declared.flow.Happening.{Happening}
use Rattle.um_losses.specs.declared.flow.Happening.TheVariants.{BlockRenewed, PduWritten}
use Rattle.um_losses.specs.declared.flow.Happening.TheVariants.{BlockArrived, PduForged}
use Rattle.um_losses.specs.declared.flow.Happening.TheVariants.{TimerExpired}
use Rattle.um_losses.specs.declared.flow.Whose.TheVariants.{Each, One}
use Rattle.bearer_types.specs.Sides.{heard_by}

abbrev pub renewal : Direction → ℕ → Bool → Option Change
renewal direction process true =
    Some (record { whose = Each direction; what = BlockRenewed process })
renewal direction process false = None

abbrev pub on_channel : Direction → Option ℕ → Happening → Option Change
on_channel direction None what = None
on_channel direction (Some lcid) what = Some (record { whose = One direction lcid; what = what })

-- ---- the records of a run: a block, what it carries, how it fares, and the timers

-- the block and the channel that the next records are about
abbrev pub passed : Record → Cursor → Cursor
passed (records.Block direction process fresh rv octets) c =
    record { direction = direction; process = process; channel = None }
passed (records.MacSdu lcid len) c = record c { channel = Some lcid }
passed other c = c

abbrev pub change_of : Record → Cursor → Option Change
change_of (records.Block direction process fresh rv octets) c = renewal direction process fresh
change_of (records.RlcUm sn fi lens) c =
    on_channel c.direction c.channel
    (PduWritten c.process (record { sn = sn; fi = fi; elements = length lens }))
change_of (records.Air direction Got heard) c =
    Some (record { whose = Each direction; what = BlockArrived c.process })
change_of (records.Of side (events.Expired lcid Reorder)) c =
    Some (record { whose = One (heard_by side) lcid; what = TimerExpired })
change_of other c = None

-- ---- what is shown of a block that is forged at a side: its PDUs arrive at once

abbrev pub passed_forged : Record → Cursor → Cursor
passed_forged (records.MacSdu lcid len) c = record c { channel = Some lcid }
passed_forged other c = c

abbrev pub forged_change_of : Side → Record → Cursor → Option Change
forged_change_of side (records.RlcUm sn fi lens) c =
    on_channel (heard_by side) c.channel
    (PduForged (record { sn = sn; fi = fi; elements = length lens }))
forged_change_of side other c = None
