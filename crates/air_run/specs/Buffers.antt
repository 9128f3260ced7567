-- What the base station is told of the terminal's buffers, by the records of a run
-- (TS 36.321 5.4.5, 6.1.3.1).
use Rattle.std.specs.Prelude.{ℕ, nat_lt, if◌then◌else◌, List, [], ◌∷◌, length, replicate, slice_set}
use Rattle.std.specs.Prelude.{Option, Some, None, Result, Ok, Err}
use Rattle.air_record.specs.declared.line.Line.{Line}
use Rattle.air_record.specs.declared.line.Line.TheVariants as lines
use Rattle.air_record.specs.declared.record.Arrived.TheVariants.{Got}
use Rattle.air_record.specs.declared.record.Record.{Record}
use Rattle.air_record.specs.declared.record.Record.TheVariants as records
use Rattle.l2_bits.specs.declared.limits.TheConstants.{OCTETS_LIMIT}
use Rattle.mac_pdu.specs.declared.fault.MacRefusal.{MacRefusal}
use Rattle.mac_pdu.specs.declared.item.Bsr.{Bsr}
use Rattle.mac_pdu.specs.declared.item.Bsr.TheVariants.{Truncated, Short, Long}
use Rattle.mac_pdu.specs.declared.item.Control.TheVariants.{Report}
use Rattle.mac_pdu.specs.declared.item.Direction.TheVariants.{Up}
use Rattle.mac_pdu.specs.Items.{MacItem, element}
use Rattle.mac_pdu.specs.Reading.{reading}

-- the report in the last uplink block, and the Buffer Size level of each group
pub record Buffers : Type 0 where
  pub report : Option Bsr
  pub levels : List ℕ

unfoldable pub no_buffers : Buffers
no_buffers = record { report = None; levels = replicate 4 0 }

-- ---- the report in a block

abbrev pub report_of_items : List MacItem → Option Bsr
report_of_items [] = None
report_of_items (element (Report report) ∷ items) = Some report
report_of_items (item ∷ items) = report_of_items items

abbrev pub report_of_reading : Result (List MacItem) MacRefusal → Option Bsr
report_of_reading (Ok items) = report_of_items items
report_of_reading (Err refusal) = None

-- none in one that is too long to be read
unfoldable pub report_of_block : List ℕ → Option Bsr
report_of_block block =
    if nat_lt (length block) OCTETS_LIMIT then report_of_reading (reading Up block) else None

-- ---- what changes the levels

-- a report tells all groups, or one; a short one says that the others have no data
abbrev pub levels_by : Option Bsr → List ℕ → List ℕ
levels_by None levels = levels
levels_by (Some (Long told)) levels = told
levels_by (Some (Short group level)) levels = slice_set (replicate 4 0) group level
levels_by (Some (Truncated group level)) levels = slice_set levels group level

-- a handover begins anew
abbrev pub after_line : Line → Buffers → Buffers
after_line (lines.Handover user rrc integrity) b = no_buffers
after_line line b = b

-- the report of an uplink block counts where the block arrives
abbrev pub after_record : Record → Buffers → Buffers
after_record (records.Line number line) b = after_line line b
after_record (records.Block Up process fresh rv octets) b =
    record b { report = report_of_block octets }
after_record (records.Air Up Got heard) b =
    record b { levels = levels_by b.report b.levels }
after_record one b = b

abbrev pub after_records : List Record → Buffers → Buffers
after_records [] b = b
after_records (one ∷ more) b = after_records more (after_record one b)
