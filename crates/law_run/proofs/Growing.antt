-- A line adds a group.
use Rattle.std.proofs.Common.{◌≡◌, ℕ, List, [], ◌∷◌, ◌++◌, refl, sym, append-nil}
use Rattle.std.specs.Prelude.{Option, Some, None, Result, Ok, Err}
use Rattle.air_record.specs.declared.line.Line.{Line}
use Rattle.air_record.specs.declared.line.Line.TheVariants as lines
use Rattle.air_record.specs.declared.record.Record.{Record}
use Rattle.air_record.specs.declared.record.Record.TheVariants as records
use Rattle.air_text.specs.Groups.{Group, history}
use Rattle.air_text.specs.Reading.{read_of}
use Rattle.air_text.specs.declared.fault.LineRefusal.{LineRefusal}
use Rattle.air_run.specs.declared.refusal.RunRefusal.{RunRefusal}
use Rattle.air_run.specs.Journal.{left_by, read_by, script_line}
use Rattle.line_player.specs.Journal.{Outcome, Goes, Ends, Refuses}
use Rattle.air_run.specs.Rules.{refusal}
use Rattle.air_run.specs.Run.{RunState, Left, behind_line, done, step_by}
use Rattle.law_run.specs.Order.{state_behind, KeepsOrder}
use Rattle.law_run.specs.Script.{NumberedLine, said, to_end, lines_of}
use Rattle.law_run.proofs.Past.{behind, of_their_time}
use Rattle.law_run.proofs.Ranges.{IsWithin, in-range, has-count, has-first, has-first-count, read-within}
use Rattle.law_run.proofs.Reaching.{line_is_told}

-- the groups behind a text, that says these lines, and the state that they give
pub record Grows (past : List Group) (t : RunState) (part : List Record) (these : List NumberedLine) : Type 0 where
  pub later : List Group
  pub state_is : t ≡ state_behind later
  pub order : KeepsOrder later
  pub history_is : history later ≡ history past ++ part
  pub lines_are : lines_of later ≡ lines_of past ++ these

abbrev group : ℕ → Line → List Record → Group
group number line events = record { number = number; line = line; events = events }

-- a group is added
adds : (past : List Group) (number : ℕ) (line : Line) → KeepsOrder past → IsWithin line
    → refusal line (state_behind past).rules (state_behind past).link ≡ None
    → Grows past (done line (state_behind past)) (records.Line number line ∷ (behind_line line (state_behind past)).out)
    (said number (Ok (Some line)))
adds past number line order fits allowed = record {
  later = group number line (behind_line line (state_behind past)).out ∷ past;
  state_is = refl;
  order = (
    record {
      in_range = in-range line fits;
      count = has-count line fits;
      transparent = has-first line fits;
      first = has-first-count line fits;
      allowed = allowed;
      events_are = refl;
      of_its_time = of_their_time past line (behind past order);
      blocks = line_is_told past line order (in-range line fits);
    },
    order,
  );
  history_is = refl;
  lines_are = refl;
}

-- none of these lines is the last one
pub record GoesOn (past : List Group) (t : RunState) (part : List Record) (these : List NumberedLine) : Type 0 where
  pub grows : Grows past t part these
  pub goes : (more : List NumberedLine) → to_end (these ++ more) ≡ these ++ to_end more

-- it is
pub record EndsSo (past : List Group) (t : RunState) (part : List Record) (these : List NumberedLine) : Type 0 where
  pub grows : Grows past t part these
  pub ends : (more : List NumberedLine) → to_end (these ++ more) ≡ these

-- what a text leaves as a line
abbrev pub LineTo : List Group → List NumberedLine → Outcome RunState Record RunRefusal → Type 0
LineTo past these (Goes t part) = GoesOn past t part these
LineTo past these (Ends t part) = EndsSo past t part these
LineTo past these (Refuses reason) = Unit {0}

left-to : (past : List Group) (number : ℕ) (line : Line) (left : Left)
    → Grows past left.state left.journal (said number (Ok (Some line)))
    → LineTo past (said number (Ok (Some line))) (left_by line (Ok left))
left-to past number lines.End left g = record { grows = g; ends = λ more. refl }
left-to past number (lines.Bearer config options) left g = record { grows = g; goes = λ more. refl }
left-to past number (lines.Submit side lcid octets) left g = record { grows = g; goes = λ more. refl }
left-to past number (lines.Tti up_grant up down_grant down) left g = record { grows = g; goes = λ more. refl }
left-to past number (lines.Harq visits) left g = record { grows = g; goes = λ more. refl }
left-to past number lines.Bsr left g = record { grows = g; goes = λ more. refl }
left-to past number (lines.Keys keys) left g = record { grows = g; goes = λ more. refl }
left-to past number (lines.Expire side lcid clock) left g = record { grows = g; goes = λ more. refl }
left-to past number (lines.Handover user rrc integrity) left g = record { grows = g; goes = λ more. refl }
left-to past number lines.LoopOff left g = record { grows = g; goes = λ more. refl }
left-to past number (lines.LoopA size) left g = record { grows = g; goes = λ more. refl }
left-to past number (lines.LoopB delay) left g = record { grows = g; goes = λ more. refl }
left-to past number (lines.Drain grant) left g = record { grows = g; goes = λ more. refl }
left-to past number (lines.Forge side octets) left g = record { grows = g; goes = λ more. refl }
left-to past number (lines.Discard lcid count) left g = record { grows = g; goes = λ more. refl }
left-to past number (lines.Drx config) left g = record { grows = g; goes = λ more. refl }

step-to : (past : List Group) (number : ℕ) (line : Line) (broken : Option RunRefusal)
    → refusal line (state_behind past).rules (state_behind past).link ≡ broken → KeepsOrder past → IsWithin line
    → LineTo past (said number (Ok (Some line))) (left_by line (step_by broken (state_behind past) number line))
step-to past number line (Some why) e order fits = tt
step-to past number line None e order fits = left-to past number line _ (adds past number line order fits e)

-- a text that says no line leaves all as it is
stays : (past : List Group) → KeepsOrder past → GoesOn past (state_behind past) [] []
stays past order = record {
  grows = record {
    later = past;
    state_is = refl;
    order = order;
    history_is = sym (append-nil (history past));
    lines_are = sym (append-nil (lines_of past));
  };
  goes = λ more. refl;
}

read-to : (past : List Group) (number : ℕ) (text : List ℕ) (read : Result (Option Line) LineRefusal)
    → read_of text ≡ read → KeepsOrder past
    → LineTo past (said number read) (read_by (state_behind past) number read)
read-to past number text (Err refused) e order = tt
read-to past number text (Ok None) e order = stays past order
read-to past number text (Ok (Some line)) e order = step-to past number line _ refl order (read-within text line e)

pub line-to : (past : List Group) (number : ℕ) (text : List ℕ) → KeepsOrder past
    → LineTo past (said number (read_of text)) (script_line (state_behind past) number text)
line-to past number text order = read-to past number text (read_of text) refl order
