-- A journal in groups (docs/formats/JOURNAL.md): the record of an accepted line, with the records
-- up to the next line or the sums.
use Rattle.std.specs.Prelude.{ℕ, List, [], ◌∷◌, ◌++◌}
use Rattle.air_record.specs.declared.line.Line.{Line}
use Rattle.air_record.specs.declared.record.Record.{Record}
use Rattle.air_record.specs.declared.record.Record.TheVariants as records

pub record Group : Type 0 where
  pub number : ℕ
  pub line : Line
  pub events : List Record

abbrev pub group_records : Group → List Record
group_records g = records.Line g.number g.line ∷ g.events

-- the records of groups, of which the newest stands first
abbrev pub history : List Group → List Record
history [] = []
history (g ∷ past) = history past ++ group_records g
