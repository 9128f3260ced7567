-- What is kept of a journal while the air of it is checked, and how each line and record changes it
-- (TS 36.321 5.3.2, 5.4.2). Nothing of it grows with the journal.
use Rattle.std.specs.Prelude.{ℕ, ◌+◌, ◌==◌, nat_le, Bool, true, false, not, ◌&&◌, ◌||◌, Option}
use Rattle.std.specs.Prelude.{Some, None, List, [], ◌∷◌}
use Rattle.air_record.specs.declared.line.Line.{Line}
use Rattle.air_record.specs.declared.line.Line.TheVariants as lines
use Rattle.air_record.specs.declared.record.Record.{Record}
use Rattle.air_record.specs.declared.record.Record.TheVariants as records
use Rattle.air_record.specs.Outcomes.{missed, intact}
use Rattle.air_text.specs.Groups.{Group}
use Rattle.journal_air.specs.declared.granted.Granted.{Granted}
use Rattle.journal_air.specs.declared.granted.Due.{Due}
use Rattle.journal_air.specs.declared.granted.Due.TheVariants.{Nothing, Once, Often}
use Rattle.journal_air.specs.Told.{TtiTold, block_told, blank_tti, tells_sleep, tells_block}
use Rattle.journal_air.specs.Told.{tells_air}
use Rattle.journal_air.specs.Ends.{BothEnds, fresh_ends, reset_ends, after_down, is_down_right}
use Rattle.journal_air.specs.Ends.{after_up, is_up_right}

-- a TTI that runs: its number, what its line grants, and what is told of it
pub record Running : Type 0 where
  pub number : ℕ
  pub granted : Granted
  pub told : TtiTold

-- the ends of both directions, the TTIs that the line may still have, the one that runs, the number
-- of the next, and whether all was right
pub record Checking : Type 0 where
  pub down : BothEnds
  pub up : BothEnds
  pub due : Due
  pub running : Option Running
  pub next : ℕ
  pub right : Bool

abbrev pub nothing_checked : Checking
nothing_checked = record {
  down = fresh_ends 4;
  up = fresh_ends 4;
  due = Nothing;
  running = None;
  next = 0;
  right = true;
}

-- ---- the end of a TTI

abbrev pub is_tti_right : ℕ → Granted → TtiTold → BothEnds → BothEnds → Bool
is_tti_right t g x down up =
    x.in_order && (not x.asleep || g.may_sleep)
    && is_down_right t g.down_grant (missed x.asleep g.down) x.down.block x.down.air down
    && is_up_right t g.up_grant (missed x.asleep g.up) x.up.block x.up.air up

abbrev pub tti_judged : ℕ → Granted → TtiTold → Checking → Checking
tti_judged t g x c = record {
  down = after_down t x.down.block x.down.air c.down;
  up = after_up t (missed x.asleep g.up) x.up.block x.up.air c.up;
  due = c.due;
  running = c.running;
  next = c.next;
  right = c.right;
}

abbrev pub after_tti_by : Option Running → Checking → Checking
after_tti_by None c = c
after_tti_by (Some r) c = record {
  down = after_down r.number r.told.down.block r.told.down.air c.down;
  up = after_up r.number (missed r.told.asleep r.granted.up) r.told.up.block r.told.up.air c.up;
  due = c.due;
  running = None;
  next = c.next;
  right = c.right && is_tti_right r.number r.granted r.told c.down c.up;
}

abbrev pub after_tti : Checking → Checking
after_tti c = after_tti_by c.running c

-- ---- a record

abbrev pub with_tti : ℕ → Granted → Due → Checking → Checking
with_tti t g due c = record {
  down = c.down;
  up = c.up;
  due = due;
  running = Some (record { number = t; granted = g; told = blank_tti });
  next = c.next + 1;
  right = c.right && (t == c.next);
}

-- in a drain nobody sleeps, and every block arrives intact
abbrev pub granted_often : ℕ → Granted
granted_often grant = record {
  up_grant = grant;
  up = intact;
  down_grant = grant;
  down = intact;
  may_sleep = false;
}

abbrev pub found_wrong : Checking → Checking
found_wrong c = record {
  down = c.down;
  up = c.up;
  due = c.due;
  running = c.running;
  next = c.next;
  right = false;
}

abbrev pub tti_begun : ℕ → Due → Checking → Checking
tti_begun t Nothing c = found_wrong c
tti_begun t (Once g) c = with_tti t g Nothing c
tti_begun t (Often grant) c = with_tti t (granted_often grant) (Often grant) c

abbrev pub told_more_by : (TtiTold → TtiTold) → Option Running → Checking → Checking
told_more_by f None c = found_wrong c
told_more_by f (Some r) c = record {
  down = c.down;
  up = c.up;
  due = c.due;
  running = Some (record { number = r.number; granted = r.granted; told = f r.told });
  next = c.next;
  right = c.right;
}

abbrev pub told_more : (TtiTold → TtiTold) → Checking → Checking
told_more f c = told_more_by f c.running c

abbrev pub after_record : Record → Checking → Checking
after_record (records.Line number line) c = found_wrong c
after_record (records.Tti t) c = tti_begun t c.due (after_tti c)
after_record records.Sleep c = told_more tells_sleep c
after_record (records.Block d process fresh version octets) c =
    told_more (tells_block d (block_told process fresh version octets)) c
after_record (records.Air d what heard) c =
    told_more (tells_air d (record { what = what; heard = heard })) c
after_record one c = c

abbrev pub after_records : List Record → Checking → Checking
after_records [] c = c
after_records (one ∷ told) c = after_records told (after_record one c)

-- ---- a line

abbrev pub due_of : Line → Due
due_of (lines.Tti up_grant up down_grant down) = Once (record {
  up_grant = up_grant;
  up = up;
  down_grant = down_grant;
  down = down;
  may_sleep = true;
})
due_of (lines.Drain grant) = Often grant
due_of line = Nothing

-- it empties the processes, or leaves them
abbrev pub ends_by : Line → BothEnds → BothEnds
ends_by (lines.Harq visits) e = fresh_ends visits
ends_by (lines.Handover user rrc integrity) e = reset_ends e
ends_by line e = e

abbrev pub has_visits : Line → Bool
has_visits (lines.Harq visits) = nat_le 1 visits
has_visits line = true

abbrev pub after_line : Line → Checking → Checking
after_line line c = record {
  down = ends_by line c.down;
  up = ends_by line c.up;
  due = due_of line;
  running = None;
  next = c.next;
  right = c.right && has_visits line;
}

-- it has had its TTIs
abbrev pub is_met : Due → Bool
is_met Nothing = true
is_met (Once g) = false
is_met (Often grant) = true

abbrev pub after_group : Checking → Checking
after_group c = record {
  down = (after_tti c).down;
  up = (after_tti c).up;
  due = Nothing;
  running = None;
  next = c.next;
  right = (after_tti c).right && is_met c.due;
}

-- ---- groups, of which the newest stands first

abbrev pub all_checked : List Group → Checking
all_checked [] = nothing_checked
all_checked (g ∷ past) = after_group (after_records g.events (after_line g.line (all_checked past)))
