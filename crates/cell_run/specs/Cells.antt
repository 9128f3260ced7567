-- A cell of several terminals, line by line (docs/formats/CELL.md).
use Rattle.std.specs.Prelude.{ℕ, ◌+◌, ◌%◌, ◌==◌, nat_le, Bool, true, false, if◌then◌else◌, List, []}
use Rattle.std.specs.Prelude.{length, replicate, slice_index_or, slice_set, Option, None, Some}
use Rattle.std.specs.Prelude.{Result, Ok, Err}
use Rattle.air_record.specs.declared.line.Line.{Line}
use Rattle.air_record.specs.declared.line.Line.TheVariants.{Tti, Drain, Forge, End}
use Rattle.air_record.specs.declared.line.Outcome.{Outcome as Fate}
use Rattle.air_text.specs.declared.fault.LineRefusal.{LineRefusal}
use Rattle.cell_run.specs.declared.fault.CellRule.{CellRule}
use Rattle.cell_run.specs.declared.fault.CellRule.TheVariants as rules
use Rattle.cell_run.specs.declared.fault.CellRefusal.{CellRefusal}
use Rattle.cell_run.specs.declared.fault.CellRefusal.TheVariants.{NoCell, CellTwice, UnknownUser}
use Rattle.cell_run.specs.declared.fault.CellRefusal.TheVariants.{NotHere}
use Rattle.cell_run.specs.Entries.{Entry}
use Rattle.cell_run.specs.Terminals.{Terminal, fresh_terminal, own_step, up_wish, down_wish}
use Rattle.cell_run.specs.Terminals.{all_wishes, all_behind, all_entries, last_entries}
use Rattle.cell_sched.specs.Grants.{grants_of}
use Rattle.cell_text.specs.declared.line.CellLine.{CellLine}
use Rattle.cell_text.specs.declared.line.CellLine.TheVariants as lines
use Rattle.cell_text.specs.Reading.{read_cell_of}
use Rattle.line_player.specs.Journal.{Outcome, Goes, Ends, Refuses, Player, Played, journal_by}
use Rattle.line_player.specs.declared.reason.Reason.TheVariants as reasons

-- its terminals, none before the `cell` line, and the `go` lines so far
pub record CellState : Type 0 where
  pub terminals : List Terminal
  pub gone : ℕ

abbrev pub fresh_cell : CellState
fresh_cell = record { terminals = []; gone = 0 }

-- ---- what is refused

abbrev pub has_none : CellState → Bool
has_none c = length c.terminals == 0

abbrev pub unless : {S : Type 0} → Option CellRefusal → Outcome S Entry CellRule
    → Outcome S Entry CellRule
unless None outcome = outcome
unless (Some refusal) outcome = Refuses (reasons.Rule (rules.Cell refusal))

abbrev pub missing : CellState → Option CellRefusal
missing c = if has_none c then Some NoCell else None

-- a terminal that isn't there
abbrev pub unknown : ℕ → CellState → Option CellRefusal
unknown user c =
    if has_none c then Some NoCell
    else if nat_le (length c.terminals) user then Some UnknownUser
    else None

-- the lines that a terminal's own script may have beside those that the cell gives it
abbrev pub is_own : Line → Bool
is_own (Tti up_grant up down_grant down) = false
is_own (Drain grant) = false
is_own (Forge side octets) = false
is_own End = false
is_own line = true

-- the line that ends the input
abbrev pub is_end : CellLine → Bool
is_end lines.End = true
is_end line = false

-- ---- what a line does

abbrev pub terminal_at : ℕ → CellState → Terminal
terminal_at user c = slice_index_or c.terminals user fresh_terminal

abbrev pub with_terminal : ℕ → Terminal → CellState → CellState
with_terminal user t c = record c { terminals = slice_set c.terminals user t }

abbrev pub placed : ℕ → CellState → Outcome Terminal Entry CellRule
    → Outcome CellState Entry CellRule
placed user c (Goes t entries) = Goes (with_terminal user t c) entries
placed user c (Ends t entries) = Ends (with_terminal user t c) entries
placed user c (Refuses reason) = Refuses reason

abbrev pub founds : ℕ → CellState → Outcome CellState Entry CellRule
founds users c = if has_none c
    then Goes (record c { terminals = replicate users fresh_terminal }) []
    else Refuses (reasons.Rule (rules.Cell CellTwice))

abbrev pub own_line : ℕ → Option Line → CellState → Outcome CellState Entry CellRule
own_line user None c = Refuses (reasons.Rule (rules.Cell NotHere))
own_line user (Some line) c = if is_own line
    then placed user c (own_step user line (terminal_at user c))
    else Refuses (reasons.Rule (rules.Cell NotHere))

abbrev pub set_air : ℕ → Fate → Fate → CellState → CellState
set_air user up down c =
    with_terminal user (record (terminal_at user c) { up = up; down = down }) c

-- the grants of a total by what each terminal wishes; in the n-th `go` line, counted from 0, the
-- order begins with terminal n modulo their number
abbrev pub grants : (Terminal → ℕ) → ℕ → CellState → List ℕ
grants wish total c =
    grants_of (all_wishes wish c.terminals) (length c.terminals) (c.gone % length c.terminals) total

abbrev pub goes_by : List ℕ → List ℕ → CellState → Outcome CellState Entry CellRule
goes_by ups downs c =
    Goes (record { terminals = all_behind ups downs 0 c.terminals; gone = c.gone + 1 })
    (all_entries ups downs 0 c.terminals)

abbrev pub goes : ℕ → ℕ → CellState → Outcome CellState Entry CellRule
goes up_total down_total c = goes_by (grants up_wish up_total c) (grants down_wish down_total c) c

-- a line of the grammar
unfoldable pub acted : CellLine → CellState → Outcome CellState Entry CellRule
acted (lines.Cell users) c = founds users c
acted (lines.To user line) c = unless (unknown user c) (own_line user line c)
acted (lines.Air user up down) c = unless (unknown user c) (Goes (set_air user up down c) [])
acted (lines.Go up_total down_total) c = unless (missing c) (goes up_total down_total c)
acted lines.End c = Ends c []

abbrev pub read_by : CellState → Result (Option CellLine) LineRefusal
    → Outcome CellState Entry CellRule
read_by c (Err refusal) = Refuses (reasons.Line refusal)
read_by c (Ok None) = Goes c []
read_by c (Ok (Some line)) = acted line c

-- what a text does as a line, whatever its number
abbrev pub cell_line : CellState → ℕ → List ℕ → Outcome CellState Entry CellRule
cell_line c number text = read_by c (read_cell_of text)

-- the cell; at its end each terminal's last records stand, in ascending order
abbrev pub cell : Player CellState Entry CellRule
cell = record { first = fresh_cell; line = cell_line; last = λ c. last_entries 0 c.terminals }

-- the journal of a cell's input, and why it ends
abbrev pub CellPlayed : Type 0
CellPlayed = Played Entry CellRule

-- the journal of a cell's input, whose octets are all there are, or of which more may come
abbrev pub cell_of : Bool → List ℕ → CellPlayed
cell_of whole octets = journal_by cell whole octets
