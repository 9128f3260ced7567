-- A terminal of a cell and its own script (docs/formats/CELL.md).
use Rattle.std.specs.Prelude.{ℕ, ◌+◌, ◌-◌, ◌^◌, min, false, List, [], ◌∷◌, ◌++◌, map, length}
use Rattle.std.specs.Prelude.{replicate, slice_index, Option, None, Some, Result, Ok, Err}
use Rattle.l2_node.specs.Sums.{left}
use Rattle.air_record.specs.declared.line.Fate.TheVariants as fates
use Rattle.air_record.specs.declared.line.Line.{Line}
use Rattle.air_record.specs.declared.line.Line.TheVariants.{Tti}
use Rattle.air_record.specs.declared.line.Outcome.{Outcome as Fate}
use Rattle.air_record.specs.declared.record.Record.{Record}
use Rattle.air_record.specs.declared.record.Record.TheVariants as records
use Rattle.air_run.specs.declared.refusal.RunRefusal.{RunRefusal}
use Rattle.air_run.specs.Run.{RunState, Left, fresh, step, done, behind_line, finish}
use Rattle.air_text.specs.Fields.{outcome}
use Rattle.cell_run.specs.declared.fault.CellRule.{CellRule}
use Rattle.cell_run.specs.declared.fault.CellRule.TheVariants as rules
use Rattle.cell_run.specs.Entries.{Entry}
use Rattle.cell_sched.specs.declared.levels.TheConstants.{LEAST_WISH}
use Rattle.cell_sched.specs.Wishes.{wish_of}
use Rattle.line_player.specs.Journal.{Outcome, Goes, Refuses}
use Rattle.line_player.specs.declared.reason.Reason.TheVariants as reasons

-- a run that ran out of memory stands as one that didn't begin
abbrev pub run_of : Option RunState → RunState
run_of None = fresh
run_of (Some run) = run

-- a terminal: its run, what becomes of its blocks, and the lines of its own script so far
pub record Terminal : Type 0 where
  pub run : RunState
  pub up : Fate
  pub down : Fate
  pub lines : ℕ

-- at first all its blocks arrive
unfoldable pub fresh_terminal : Terminal
fresh_terminal = record {
  run = fresh;
  up = outcome fates.Ok false;
  down = outcome fates.Ok false;
  lines = 0;
}

abbrev pub behind_step : RunState → Terminal → Terminal
behind_step run t = record t { run = run; lines = t.lines + 1 }

-- ---- a line of its own script

abbrev pub own_entry : ℕ → Line → List Record → Entry
own_entry user line records = record { user = user; line = Some line; records = records }

abbrev pub stepped : ℕ → Line → Terminal → Result Left RunRefusal
    → Outcome Terminal Entry CellRule
stepped user line t (Ok left) =
    Goes (behind_step left.state t) (own_entry user line left.journal ∷ [])
stepped user line t (Err broken) = Refuses (reasons.Rule (rules.Run broken))

abbrev pub own_step : ℕ → Line → Terminal → Outcome Terminal Entry CellRule
own_step user line t = stepped user line t (step t.run (t.lines + 1) line)

-- ---- a TTI of all terminals

-- what a terminal wants to send, and what waits for it
abbrev pub up_wish : Terminal → ℕ
up_wish t = wish_of t.run.buffers.levels

abbrev pub down_wish : Terminal → ℕ
down_wish t = min (left t.run.link.nb + LEAST_WISH) (2 ^ 64 - 1)

-- by terminal, 0 for one that isn't there
abbrev pub all_wishes : (Terminal → ℕ) → List Terminal → List ℕ
all_wishes wish ts = map wish ts ++ replicate (8 - length ts) 0

-- the line that a TTI with these grants is to a terminal
abbrev pub tti_line : ℕ → ℕ → Terminal → Line
tti_line up_grant down_grant t = Tti up_grant t.up down_grant t.down

abbrev pub tti_records : Line → Terminal → List Record
tti_records line t = records.Line (t.lines + 1) line ∷ (behind_line line t.run).out

-- a `tti` line is never refused
abbrev pub behind_tti : ℕ → ℕ → Terminal → Terminal
behind_tti up_grant down_grant t = behind_step (done (tti_line up_grant down_grant t) t.run) t

abbrev pub tti_entry : ℕ → ℕ → ℕ → Terminal → Entry
tti_entry user up_grant down_grant t =
    own_entry user (tti_line up_grant down_grant t)
    (tti_records (tti_line up_grant down_grant t) t)

-- the terminals from one on, in ascending order, by the grants of both directions
abbrev pub all_behind : List ℕ → List ℕ → ℕ → List Terminal → List Terminal
all_behind ups downs user [] = []
all_behind ups downs user (t ∷ ts) =
    behind_tti (slice_index ups user) (slice_index downs user) t
    ∷ all_behind ups downs (user + 1) ts

abbrev pub all_entries : List ℕ → List ℕ → ℕ → List Terminal → List Entry
all_entries ups downs user [] = []
all_entries ups downs user (t ∷ ts) =
    tti_entry user (slice_index ups user) (slice_index downs user) t
    ∷ all_entries ups downs (user + 1) ts

-- ---- the end

abbrev pub last_entry : ℕ → Terminal → Entry
last_entry user t = record { user = user; line = None; records = finish t.run }

abbrev pub last_entries : ℕ → List Terminal → List Entry
last_entries user [] = []
last_entries user (t ∷ ts) = last_entry user t ∷ last_entries (user + 1) ts
