-- What became of the SDUs of a flow (docs/formats/JOURNAL.md).
use Rattle.std.specs.Prelude.{ℕ, false, slice_index_or}
use Rattle.l2_types.specs.declared.side.Side.{Side}
use Rattle.air_link.specs.declared.sums.Sums.{Sums}
use Rattle.air_link.specs.Link.{Link, Flows, sent_flows}

abbrev pub sums_of : Flows → ℕ → Sums
sums_of f lcid = record {
  submitted = slice_index_or f.submitted lcid 0;
  delivered = slice_index_or f.delivered lcid 0;
  failed = slice_index_or f.failed lcid false;
}

-- the flow that a side sends
unfoldable pub sums : Side → ℕ → Link → Sums
sums side lcid l = sums_of (sent_flows side l) lcid
