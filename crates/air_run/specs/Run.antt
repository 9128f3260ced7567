-- The run of a script (docs/formats/SCRIPT.md, docs/formats/JOURNAL.md): its state, what a line
-- does to it, and the records that it leaves.
use Rattle.std.specs.Prelude.{ℕ, List, ◌∷◌, Option, None, Some, Result, Ok, Err}
use Rattle.air_link.specs.Link.{Link, fresh as fresh_link}
use Rattle.air_record.specs.declared.line.Line.{Line}
use Rattle.air_record.specs.declared.record.Record.{Record}
use Rattle.air_record.specs.declared.record.Record.TheVariants as records
use Rattle.air_run.specs.declared.refusal.RunRefusal.{RunRefusal}
use Rattle.air_run.specs.Buffers.{Buffers, no_buffers, after_line, after_records}
use Rattle.air_run.specs.Draining.{shown}
use Rattle.air_run.specs.Written.{all_seen, noticed}
use Rattle.air_run.specs.Playing.{played}
use Rattle.air_run.specs.Rules.{Rules, no_rules, refusal, accepted}
use Rattle.air_run.specs.Sums.{finishing}
use Rattle.um_losses.specs.Losses.{Losses, none_seen}

-- both ends over the air, the rules, and what records told of losses and of the terminal's buffers
pub record RunState : Type 0 where
  pub link : Link
  pub rules : Rules
  pub losses : Losses
  pub buffers : Buffers

unfoldable pub fresh : RunState
fresh = record {
  link = fresh_link;
  rules = no_rules;
  losses = none_seen;
  buffers = no_buffers;
}

-- both ends behind a line that isn't refused, with its records
abbrev pub behind_line : Line → RunState → Link
behind_line line r = played line r.rules.keys r.link

-- its records are written, and tell
abbrev pub done_by : Link → Line → RunState → RunState
done_by l line r = record {
  link = shown l;
  rules = accepted line r.rules;
  losses = all_seen l.out (noticed line l r.losses);
  buffers = after_records l.out (after_line line r.buffers);
}

abbrev pub done : Line → RunState → RunState
done line r = done_by (behind_line line r) line r

-- what a line leaves: the state after it, and its records
pub record Left : Type 0 where
  pub state : RunState
  pub journal : List Record

abbrev pub step_by : Option RunRefusal → RunState → ℕ → Line → Result Left RunRefusal
step_by (Some broken) r number line = Err broken
step_by None r number line =
    Ok (record {
      state = done line r;
      journal =
          records.Line number line ∷ (behind_line line r).out;
    })

-- a line of this number
abbrev pub step : RunState → ℕ → Line → Result Left RunRefusal
step r number line = step_by (refusal line r.rules r.link) r number line

-- the records at the end
abbrev pub finish : RunState → List Record
finish r = finishing r.link r.losses
