use Rattle.std.proofs.Common.{◌≡◌, ◌++◌, length}
use Rattle.air_record.specs.Text.{texts_of}
use Rattle.pdu_show.proofs.decoder.append_records.Given as goal

abbrev pub invariant-loop-one : goal.invariant-loop-one
invariant-loop-one l = l.text ++ texts_of l.records ≡ l.fn.text ++ texts_of l.fn.records

abbrev pub decreases-loop-one : goal.decreases-loop-one
decreases-loop-one l = length l.records
