-- The journals of the commands (docs/formats/JOURNAL.md): the showing of blocks, and the run of a
-- script for its sums alone. That of a script is `journal_of` of `air_run`.
use Rattle.std.specs.Prelude.{◌≡◌, ℕ, Bool, List, [], Option, None, Some, Result, Ok, Err}
use Rattle.air_record.specs.Text.{text_of}
use Rattle.air_record.specs.declared.record.Record.{Record}
use Rattle.air_text.specs.declared.fault.LineRefusal.{LineRefusal}
use Rattle.air_run.specs.Run.{RunState, fresh, finish}
use Rattle.air_run.specs.Journal.{RunPlayed, script_line}
use Rattle.air_run.specs.declared.refusal.RunRefusal.{RunRefusal}
use Rattle.line_player.specs.Journal.{Player, Outcome, Goes, Ends, Refuses, finished, journal_by}
use Rattle.line_player.specs.Plays.{Plays}
use Rattle.line_player.specs.declared.ending.Ending.{Ending}
use Rattle.line_player.specs.declared.reason.Reason.TheVariants as reasons
use Rattle.pdu_show.specs.Decoding.{Decoding, Decoded, undecoded, decode_line}

-- ---- blocks are shown

abbrev pub shown_by : Result Decoded LineRefusal → Outcome Decoding Record RunRefusal
shown_by (Err refusal) = Refuses (reasons.Line refusal)
shown_by (Ok left) = Goes left.state left.journal

-- what a text does as a line whose block is shown
abbrev pub shown_line : Decoding → ℕ → List ℕ → Outcome Decoding Record RunRefusal
shown_line d number text = shown_by (decode_line d text)

-- the showing of an input's blocks; nothing stands at its end
abbrev pub showing : Player Decoding Record RunRefusal
showing = record { first = undecoded; line = shown_line; last = λ d. [] }

-- the records that show the blocks of an input, whose octets are all there are, or of which more
-- may come
abbrev pub blocks_of : Bool → List ℕ → RunPlayed
blocks_of whole octets = journal_by showing whole octets

-- ---- a script is run, and only what stands at its end is written

abbrev pub muted : {S E R : Type 0} → Outcome S E R → Outcome S E R
muted (Goes t journal) = Goes t []
muted (Ends t journal) = Ends t []
muted (Refuses reason) = Refuses reason

abbrev pub muted_line : RunState → ℕ → List ℕ → Outcome RunState Record RunRefusal
muted_line r number text = muted (script_line r number text)

-- the run of a script without the records of its lines
abbrev pub summing : Player RunState Record RunRefusal
summing = record { first = fresh; line = muted_line; last = finish }

-- the sums of a script, whose octets are all there are, or of which more may come
abbrev pub sums_of : Bool → List ℕ → RunPlayed
sums_of whole octets = journal_by summing whole octets

-- what running lines leaves where nothing is written before their end: all were run, or the run
-- stopped with an ending
abbrev pub PassesLines : RunPlayed → RunState → Option (Ending RunRefusal) → Type 0
PassesLines played state None = played ≡ finished summing state
PassesLines played state (Some ending) = (written : Option (List ℕ))
    → Plays text_of played written written ⊥ ⊥ ending
