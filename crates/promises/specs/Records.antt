-- What the records of a journal tell, by side and by kind (docs/formats/JOURNAL.md).
use Rattle.std.specs.Prelude.{ℕ, ◌==◌, Bool, false, ◌&&◌, true, not, if◌then◌else◌, List, [], ◌∷◌}
use Rattle.std.specs.Prelude.{◌++◌, map}
use Rattle.std.specs.List.{filter}
use Rattle.bearer_types.specs.Sides.{is_same}
use Rattle.air_record.specs.declared.record.Record.{Record}
use Rattle.bearer_types.specs.declared.event.Event.TheVariants.{Up}
use Rattle.l2_types.specs.declared.side.Side.{Side}
use Rattle.bearer_types.specs.declared.event.Event.{Event}
use Rattle.promises.specs.Events.{is_of_loop, is_of_writing}
use Rattle.air_record.specs.declared.record.Arrived.{Arrived}
use Rattle.air_record.specs.declared.record.Arrived.TheVariants.{Got}
use Rattle.air_record.specs.declared.record.Record.TheVariants as records

-- an SDU is delivered at a side, on a channel
abbrev pub is_up : Side → ℕ → Record → Bool
is_up side lcid (records.Of s (Up l octets)) = is_same side s && l == lcid
is_up side lcid one = false

-- the test loop submits an SDU, on a channel
abbrev pub is_looped : ℕ → Record → Bool
is_looped lcid (records.Looped l octets) = l == lcid
is_looped lcid one = false

-- a record of the script's run, and of neither end: a line, a TTI, the end of a drain, a sum, a
-- block that a line shows
abbrev pub is_of_run : Record → Bool
is_of_run (records.Line number line) = true
is_of_run (records.Tti tti) = true
is_of_run (records.Drained rounds) = true
is_of_run (records.Sum direction lcid submitted delivered state) = true
is_of_run (records.Shown number direction len) = true
is_of_run one = false

-- what is told of the air: that the terminal sleeps, a block that is sent, or what comes of one
abbrev pub is_of_air : Record → Bool
is_of_air records.Sleep = true
is_of_air (records.Block direction process fresh rv octets) = true
is_of_air (records.Air direction what heard) = true
is_of_air one = false

-- ---- what records tell of an end

-- the event of a side's end; what the test loop drops is told in the terminal's name, and is none
-- of its end
abbrev pub event_of : Side → Record → List Event
event_of side (records.Of s event) =
    if is_same side s && not (is_of_loop event) then event ∷ [] else []
event_of side one = []

-- the events of a side's end, in order
abbrev pub events_of : Side → List Record → List Event
events_of side [] = []
events_of side (one ∷ told) = event_of side one ++ events_of side told

-- ---- what is told of new blocks

-- a record that shows a part of a block
abbrev pub is_shown : Record → Bool
is_shown records.MacFront = true
is_shown (records.MacSdu lcid len) = true
is_shown (records.MacPad octets) = true
is_shown (records.MacControl control) = true
is_shown (records.RlcTm len) = true
is_shown (records.RlcUm sn fi lens) = true
is_shown (records.RlcAm sn poll fi lens) = true
is_shown (records.RlcSeg sn poll fi last so lens) = true
is_shown (records.RlcStatus ack nacks) = true
is_shown (records.PdcpData sn len) = true
is_shown (records.PdcpSrb sn len tag) = true
is_shown (records.PdcpReport fms bitmap) = true
is_shown (records.BadMac fault) = true
is_shown (records.BadRlc fault) = true
is_shown (records.BadPdcp fault) = true
is_shown one = false

-- what is told of a new block: what the bearers take and write, why some write nothing, the block,
-- and what shows it
abbrev pub is_of_building : Record → Bool
is_of_building (records.Of side event) = is_of_writing event
is_of_building (records.Block direction process fresh version octets) = fresh
is_of_building one = is_shown one

-- ---- the SDUs that go up

-- the SDU of an `up` or of a `loop` record
abbrev pub sdu_of : Record → List ℕ
sdu_of (records.Of side (Up lcid octets)) = octets
sdu_of (records.Looped lcid octets) = octets
sdu_of one = []

-- those that go up at a side, on a channel
abbrev pub ups_in : Side → ℕ → List Record → List (List ℕ)
ups_in side lcid told = map sdu_of (filter (is_up side lcid) told)

-- ---- the blocks that arrive

-- the block that was told last as it was sent
abbrev pub sent_last : Record → List ℕ → List ℕ
sent_last (records.Block direction process fresh version octets) before = octets
sent_last one before = before

-- the record behind it tells what comes of it: got, it arrives, intact and for the first time,
-- where its direction is heard
abbrev pub is_got : Arrived → Bool
is_got Got = true
is_got what = false
