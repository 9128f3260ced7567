-- Whether records tell of a PDU of an acknowledged bearer that is sent (TS 36.322 4.2.1.3).
use Rattle.std.specs.Prelude.{Bool, true, false, Option, Some, List, None, slice_index_or}
use Rattle.pdu_show.specs.declared.kinds.Layout.{Layout}
use Rattle.pdu_show.specs.declared.kinds.Layout.TheVariants.{Am}
use Rattle.bearer_types.specs.declared.event.Event.{Event}
use Rattle.bearer_types.specs.declared.event.Event.TheVariants.{Send}
use Rattle.air_record.specs.declared.record.Record.{Record}
use Rattle.air_record.specs.declared.record.Record.TheVariants as records

-- ---- whether the records so far hold a data PDU or a STATUS of an acknowledged bearer

abbrev pub is_acknowledged : Option Layout → Bool
is_acknowledged (Some (Am kind)) = true
is_acknowledged layout = false

abbrev pub sends_on : List (Option Layout) → Event → Bool
sends_on kinds (Send lcid how sn) = is_acknowledged (slice_index_or kinds lcid None)
sends_on kinds event = false

abbrev pub is_carried : List (Option Layout) → Record → Bool
is_carried kinds (records.Of side event) = sends_on kinds event
is_carried kinds one = false
