-- The journal of a script (docs/formats/JOURNAL.md): what its lines do to a run.
use Rattle.std.specs.Prelude.{ℕ, Bool, List, [], Option, None, Some, Result, Ok, Err}
use Rattle.air_text.specs.Reading.{read_of}
use Rattle.air_record.specs.declared.line.Line.{Line}
use Rattle.air_record.specs.declared.line.Line.TheVariants as lines
use Rattle.air_text.specs.declared.fault.LineRefusal.{LineRefusal}
use Rattle.air_record.specs.declared.record.Record.{Record}
use Rattle.air_run.specs.declared.refusal.RunRefusal.{RunRefusal}
use Rattle.air_run.specs.Run.{RunState, Left, fresh, step, finish}
use Rattle.line_player.specs.Journal.{Player, Outcome, Goes, Ends, Refuses, Close, Played}
use Rattle.line_player.specs.Journal.{journal_by}
use Rattle.line_player.specs.declared.reason.Reason.TheVariants as reasons

-- the journal of a script, and why it ends
abbrev pub RunPlayed : Type 0
RunPlayed = Played Record RunRefusal

abbrev pub RunClose : Type 0
RunClose = Close RunRefusal

abbrev pub left_by : Line → Result Left RunRefusal → Outcome RunState Record RunRefusal
left_by line (Err broken) = Refuses (reasons.Rule broken)
left_by lines.End (Ok left) = Ends left.state left.journal
left_by line (Ok left) = Goes left.state left.journal

abbrev pub read_by : RunState → ℕ → Result (Option Line) LineRefusal
    → Outcome RunState Record RunRefusal
read_by r number (Err broken) = Refuses (reasons.Line broken)
read_by r number (Ok None) = Goes r []
read_by r number (Ok (Some line)) = left_by line (step r number line)

-- what a text does as a line of a script
abbrev pub script_line : RunState → ℕ → List ℕ → Outcome RunState Record RunRefusal
script_line r number text = read_by r number (read_of text)

-- the run of a script
abbrev pub script : Player RunState Record RunRefusal
script = record { first = fresh; line = script_line; last = finish }

-- the journal of a script, whose octets are all there are, or of which more may come
abbrev pub journal_of : Bool → List ℕ → RunPlayed
journal_of whole octets = journal_by script whole octets
