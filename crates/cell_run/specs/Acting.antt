-- What a line of a cell's input leaves in the cell and in the sink (docs/formats/CELL.md).
use Rattle.std.specs.Prelude.{◌≡◌, ℕ, List, Option, Result, Ok, Err}
use Rattle.l2_io.specs.Known.{after}
use Rattle.cell_run.specs.Entries.{Entry, entry_text, texts_of}
use Rattle.cell_run.specs.declared.fault.CellFault.{CellFault}
use Rattle.cell_run.specs.declared.fault.CellFault.TheVariants as faults
use Rattle.cell_run.specs.declared.fault.CellRule.{CellRule}
use Rattle.line_player.specs.Journal.{Outcome, Goes, Ends, Refuses}
use Rattle.line_player.specs.Plays.{HasPart}
use Rattle.line_player.specs.Streams.{WritesFront}
use Rattle.line_player.specs.declared.reason.Reason.TheVariants as reasons

-- a text is put, or a front of it where the sink fails or memory runs out
abbrev pub PutsText : List ℕ → Option (List ℕ) → Option (List ℕ) → Type 0 → Result Unit CellFault
    → Type 0
PutsText text written written' fault (Ok _) = written' ≡ after written text
PutsText text written written' fault (Err (faults.Refused rule)) = ⊥
PutsText text written written' fault (Err faults.WriteFault) =
    fault × WritesFront text written written'
PutsText text written written' fault (Err faults.NoMemory) = WritesFront text written written'

-- a line was run: what it leaves, and its text; or it was refused, or a part of it is written
abbrev pub Acts : {S : Type 0} → Outcome S Entry CellRule → S → Option (List ℕ) → Option (List ℕ)
    → Type 0 → Result Unit CellFault → Type 0
Acts (Goes t journal) new written written' fault (Ok _) =
    (new ≡ t) × (written' ≡ after written (texts_of journal))
Acts (Ends t journal) new written written' fault (Ok _) =
    (new ≡ t) × (written' ≡ after written (texts_of journal))
Acts (Refuses reason) new written written' fault (Ok _) = ⊥
Acts outcome new written written' fault (Err (faults.Refused rule)) =
    (outcome ≡ Refuses (reasons.Rule rule)) × (written' ≡ written)
Acts outcome new written written' fault (Err faults.WriteFault) =
    fault × HasPart entry_text outcome written written'
Acts outcome new written written' fault (Err faults.NoMemory) =
    HasPart entry_text outcome written written'
