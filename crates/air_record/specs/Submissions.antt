-- The SDU of a `submit` line (docs/formats/JOURNAL.md). It is submitted with its line, before the
-- records of its group, unless a `refused` record of its side and channel stands directly behind
-- the line; a `refused` record elsewhere says nothing.
use Rattle.std.specs.Prelude.{ℕ, Bool, false, ◌==◌, ◌&&◌, if◌then◌else◌, Option, Some, None}
use Rattle.l2_types.specs.declared.side.Side.{Side}
use Rattle.bearer_types.specs.Sides.{is_same}
use Rattle.air_record.specs.declared.line.Line.{Line}
use Rattle.air_record.specs.declared.line.Line.TheVariants as lines
use Rattle.air_record.specs.declared.record.Record.{Record}
use Rattle.air_record.specs.declared.record.Record.TheVariants as records
use Rattle.air_record.specs.declared.submission.Submission.{Submission}

-- a record refuses an SDU of a side, on a channel
abbrev pub refuses : Side → ℕ → Record → Bool
refuses side lcid (records.Refused s l why) = is_same s side && l == lcid
refuses side lcid one = false

abbrev pub submitted_by : Line → Option Submission
submitted_by (lines.Submit side lcid octets) =
    Some (record { side = side; lcid = lcid; octets = octets })
submitted_by line = None

-- what the record directly behind the line leaves of it
abbrev pub unrefused : Record → Option Submission → Option Submission
unrefused one None = None
unrefused one (Some sdu) = if refuses sdu.side sdu.lcid one then None else Some sdu
