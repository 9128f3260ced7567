-- What an end tells becomes records; SDUs are counted, and those that go up at the terminal wait
-- for the loop (docs/formats/JOURNAL.md).
use Rattle.std.specs.Prelude.{ℕ, ◌+◌, true, nat_le, ◌&&◌, length, if◌then◌else◌, List, [], ◌∷◌}
use Rattle.std.specs.Prelude.{◌++◌, slice_index, slice_set}
use Rattle.air_record.specs.declared.record.Record.TheVariants as records
use Rattle.bearer_types.specs.declared.event.Event.{Event}
use Rattle.bearer_types.specs.declared.event.Event.TheVariants.{Up, Fail}
use Rattle.l2_types.specs.declared.side.Side.{Side}
use Rattle.l2_types.specs.declared.side.Side.TheVariants.{Nb, Ue}
use Rattle.test_loop.specs.Items.{item}
use Rattle.test_loop.specs.Loops.{is_on}
use Rattle.air_link.specs.Link.{Link, says, sent_flows, with_sent_flows}
use Rattle.bearer_types.specs.Sides.{other}

abbrev pub one_more : List ℕ → ℕ → List ℕ
one_more counts lcid = slice_set counts lcid (slice_index counts lcid + 1)

-- an SDU is submitted at a side
abbrev pub submits : Side → ℕ → Link → Link
submits side lcid l =
    with_sent_flows side
    (record (sent_flows side l) { submitted = one_more (sent_flows side l).submitted lcid }) l

-- an SDU is delivered at a side: of a flow that the other side sends
abbrev pub delivers : Side → ℕ → Link → Link
delivers side lcid l =
    with_sent_flows (other side)
    (record (sent_flows (other side) l) {
      delivered =
          one_more (sent_flows (other side) l).delivered lcid;
    }) l

-- the sender of a side reaches the limit
abbrev pub fails : Side → ℕ → Link → Link
fails side lcid l =
    with_sent_flows side
    (record (sent_flows side l) { failed = slice_set (sent_flows side l).failed lcid true }) l

-- an SDU of a data bearer waits for a loop that is on
abbrev pub gathers : Side → ℕ → List ℕ → Link → Link
gathers Nb lcid octets l = l
gathers Ue lcid octets l = if (is_on l.looping.mode && nat_le 3 lcid) && nat_le 1 (length octets)
    then record l { ups = l.ups ++ item lcid octets ∷ [] } else l

abbrev pub noted : Side → Event → Link → Link
noted side (Up lcid octets) l = gathers side lcid octets (delivers side lcid l)
noted side (Fail lcid sn) l = fails side lcid l
noted side e l = l

abbrev pub tells : Side → Event → Link → Link
tells side e l = says (records.Of side e) (noted side e l)

abbrev pub tells_all : Side → List Event → Link → Link
tells_all side [] l = l
tells_all side (e ∷ es) l = tells_all side es (tells side e l)
