-- The line that ends the input is the only one that does, and it leaves all as it was.
use Rattle.std.proofs.Common.{◌≡◌, List, ℕ, [], ap, refl, true, false, if◌then◌else◌, replicate}
use Rattle.std.specs.Prelude.{Option, None, Some, Result, Ok, Err}
use Rattle.air_record.specs.declared.line.Line.{Line}
use Rattle.air_run.specs.Run.{Left}
use Rattle.air_run.specs.declared.refusal.RunRefusal.{RunRefusal}
use Rattle.cell_run.specs.Cells.{CellState, terminal_at, cell_line, read_by, acted, founds, own_line, unless, unknown}
use Rattle.cell_run.specs.Cells.{missing, has_none, goes, placed, is_own, is_end, set_air}
use Rattle.cell_run.specs.Entries.{Entry, entry_text}
use Rattle.line_player.specs.Journal.{Outcome, Goes, Ends, Refuses}
use Rattle.cell_run.specs.Acting.{Acts}
use Rattle.line_player.specs.Plays.{HasGone, HasEnded}
use Rattle.cell_run.specs.Terminals.{Terminal, fresh_terminal, own_step, stepped}
use Rattle.cell_run.specs.declared.fault.CellRule.TheVariants as rules
use Rattle.line_player.specs.declared.reason.Reason.TheVariants as reasons
use Rattle.cell_run.specs.declared.fault.CellRefusal.{CellRefusal}
use Rattle.cell_run.specs.declared.fault.CellRefusal.TheVariants.{CellTwice, NotHere}
use Rattle.cell_text.specs.Reading.{read_cell_of}
use Rattle.cell_text.specs.declared.line.CellLine.{CellLine}
use Rattle.cell_text.specs.declared.line.CellLine.TheVariants as lines
use Rattle.cell_run.specs.declared.fault.CellRule.{CellRule}
use Rattle.cell_run.specs.declared.fault.CellFault.{CellFault}
use Rattle.cell_run.specs.declared.fault.CellFault.TheVariants as cells

pub record HasEndedAs (line : CellLine) (c c' : CellState) (es : List Entry) : Type 0 where
  pub line_is : line ≡ lines.End
  pub state : c' ≡ c
  pub entries : es ≡ []

unless-ends : (why : Option CellRefusal) (o : Outcome CellState Entry CellRule) (c' : CellState) (es : List Entry)
    → unless why o ≡ Ends c' es → o ≡ Ends c' es
unless-ends None o c' es e = e
unless-ends (Some refusal) o c' es e = cc

placed-ends : (u : ℕ) (c c' : CellState) (es : List Entry) (line : Line) (t : Terminal)
    (result : Result Left RunRefusal)
    → placed u c (stepped u line t result) ≡ Ends c' es → ⊥
placed-ends u c c' es line t (Ok left) e = absurd (cc)
placed-ends u c c' es line t (Err broken) e = absurd (cc)

own-ends : (u : ℕ) (line : Option Line) (c c' : CellState) (es : List Entry) → own_line u line c ≡ Ends c' es → ⊥
own-ends u None c c' es e = absurd (cc)
own-ends u (Some line) c c' es e =
    elim (is_own line) as (λ b. (if b then placed u c (own_step u line (terminal_at u c))
    else Refuses (reasons.Rule (rules.Cell NotHere))) ≡ Ends c' es → ⊥) [
      | true ↦ λ ends. placed-ends u c c' es line (terminal_at u c) _ ends
      | false ↦ λ bad. absurd (cc)
    ] e

founds-ends : (users : ℕ) (c c' : CellState) (es : List Entry) → founds users c ≡ Ends c' es → ⊥
founds-ends users c c' es e =
    elim (has_none c) as (λ b. (if b then Goes (record c { terminals = replicate users fresh_terminal }) []
    else Refuses (reasons.Rule (rules.Cell CellTwice)))
    ≡ Ends c' es → ⊥) [
      | true ↦ λ bad. absurd (cc)
      | false ↦ λ bad. absurd (cc)
    ] e

goes-no-end : {S R : Type 0} (a b : S) (xs ys : List Entry)
    → ◌≡◌ {A = Outcome S Entry R} (Goes a xs) (Ends b ys) → ⊥
goes-no-end a b xs ys e = absurd (cc)

acted-ends : (line : CellLine) (c c' : CellState) (es : List Entry) → acted line c ≡ Ends c' es
    → HasEndedAs line c c' es
unfolding acted
acted-ends (lines.Cell users) c c' es e = absurd (founds-ends users c c' es e)
acted-ends (lines.To u line) c c' es e = absurd (own-ends u line c c' es (unless-ends (unknown u c) _ c' es e))
acted-ends (lines.Air u up down) c c' es e =
    absurd (goes-no-end _ _ _ _ (unless-ends (unknown u c) (Goes (set_air u up down c) []) c' es e))
acted-ends (lines.Go up_total down_total) c c' es e =
    absurd (goes-no-end _ _ _ _ (unless-ends (missing c) (goes up_total down_total c) c' es e))
acted-ends lines.End c c' es e = record { line_is = refl; state = cc; entries = cc }

-- what the end of an input is
pub record IsAsBefore (c c' : CellState) (es : List Entry) : Type 0 where
  pub state : c' ≡ c
  pub entries : es ≡ []

read-ends : (line : Option CellLine) (c c' : CellState) (es : List Entry) → read_by c (Ok line) ≡ Ends c' es
    → IsAsBefore c c' es
read-ends None c c' es e = absurd (goes-no-end _ _ _ _ e)
read-ends (Some line) c c' es e =
    let ended = acted-ends line c c' es e in record { state = ended.state; entries = ended.entries }

pub line-ends : (c c' : CellState) (number : ℕ) (text : List ℕ) (es : List Entry)
    → cell_line c number text ≡ Ends c' es → IsAsBefore c c' es
line-ends c c' number text es e =
    elim (read_cell_of text) as (λ read. read_by c read ≡ Ends c' es → IsAsBefore c c' es) [
      | Err refusal ↦ λ bad. cc
      | Ok line ↦ λ ends. read-ends line c c' es ends
    ] e

-- ---- what was written of a line

pub acts-ended : (line : CellLine) (c c' : CellState) (w w' : Option (List ℕ)) (fault : Type 0) (u : Unit {0})
    → is_end line ≡ true → Acts (acted line c) c' w w' fault (Ok u)
    → HasEnded entry_text (acted line c) (Some c') w w'
unfolding acted
acts-ended (lines.Cell users) c c' w w' fault u is acts = cc
acts-ended (lines.To user line) c c' w w' fault u is acts = cc
acts-ended (lines.Air user up down) c c' w w' fault u is acts = cc
acts-ended (lines.Go up_total down_total) c c' w w' fault u is acts = cc
acts-ended lines.End c c' w w' fault u is acts = (ap Some acts.0, acts.1)

gone-by : (line : CellLine) (c c' : CellState) (o : Outcome CellState Entry CellRule) (w w' : Option (List ℕ))
    (fault : Type 0) (u : Unit {0}) → acted line c ≡ o → is_end line ≡ false → Acts o c' w w' fault (Ok u)
    → HasGone entry_text o (Some c') w w'
gone-by line c c' (Goes t journal) w w' fault u is not acts = (ap Some acts.0, acts.1)
gone-by line c c' (Ends t journal) w w' fault u is not acts =
    let ended = acted-ends line c t journal is in let at = ap is_end ended.line_is in absurd (cc)
gone-by line c c' (Refuses reason) w w' fault u is not acts = absurd acts

pub acts-gone : (line : CellLine) (c c' : CellState) (w w' : Option (List ℕ)) (fault : Type 0) (u : Unit {0})
    → is_end line ≡ false → Acts (acted line c) c' w w' fault (Ok u)
    → HasGone entry_text (acted line c) (Some c') w w'
acts-gone line c c' w w' fault u not acts = gone-by line c c' (acted line c) w w' fault u refl not acts

-- ---- a line that puts nothing can't fail at the sink

unfailed : (o : Outcome CellState Entry CellRule) (c : CellState) (w : Option (List ℕ)) (fault : Type 0)
    (r : Result Unit CellFault) → Acts o c w w ⊥ r → Acts o c w w fault r
unfailed (Goes t journal) c w fault (Ok u) h = h
unfailed (Goes t journal) c w fault (Err (cells.Refused rule)) h = h
unfailed (Goes t journal) c w fault (Err cells.WriteFault) h = absurd h.0
unfailed (Goes t journal) c w fault (Err cells.NoMemory) h = h
unfailed (Ends t journal) c w fault (Ok u) h = h
unfailed (Ends t journal) c w fault (Err (cells.Refused rule)) h = h
unfailed (Ends t journal) c w fault (Err cells.WriteFault) h = absurd h.0
unfailed (Ends t journal) c w fault (Err cells.NoMemory) h = h
unfailed (Refuses reason) c w fault (Ok u) h = h
unfailed (Refuses reason) c w fault (Err (cells.Refused rule)) h = h
unfailed (Refuses reason) c w fault (Err cells.WriteFault) h = absurd h.0
unfailed (Refuses reason) c w fault (Err cells.NoMemory) h = h

pub acts-cell : (users : ℕ) (line : CellLine) (c c' : CellState) (w : Option (List ℕ)) (fault : Type 0)
    (r : Result Unit CellFault) → line ≡ lines.Cell users → Acts (founds users c) c' w w ⊥ r
    → Acts (acted line c) c' w w fault r
unfolding acted
acts-cell users line c c' w fault r is h = rw is (unfailed (founds users c) c' w fault r h)
