-- The fields of what cuts lines (docs/formats/SCRIPT.md).
use Rattle.std.specs.Prelude.{◌≡◌, ◌<◌, ◌≤◌, ◌+◌, ◌^◌, length}
use Rattle.l2_io.specs.declared.lines.Lines.TheInside.{Inside}

-- the last line stands before what is kept, and both within the buffer
pub record IsInPlace (m : Inside) : Type 0 where
  pub line : m.line_start ≤ m.line_end
  pub line_in : m.line_end ≤ m.start
  pub kept : m.start ≤ m.end
  pub kept_in : m.end ≤ length m.buffer.items
  pub size : length m.buffer.items ≡ m.longest + 4097
  pub small : m.longest < 2 ^ 31
