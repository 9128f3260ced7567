-- What a line that isn't refused does to both ends (docs/formats/SCRIPT.md).
use Rattle.std.specs.Prelude.{ℕ, Option, Some, None}
use Rattle.air_link.specs.Lines.{bears, discards, visits, reports, listens, submitting, expires}
use Rattle.air_link.specs.Lines.{forges, hands_over}
use Rattle.air_link.specs.Link.{Link}
use Rattle.air_link.specs.Loops.{loop_set}
use Rattle.air_link.specs.Ttis.{tti}
use Rattle.air_record.specs.declared.line.Line.{Line}
use Rattle.air_record.specs.declared.line.Line.TheVariants as lines
use Rattle.air_run.specs.Draining.{drained}
use Rattle.eps_sec.specs.declared.Keys.{Keys}
use Rattle.test_loop.specs.declared.Mode.TheVariants.{Off, A, B}
use Rattle.air_record.specs.Cells.{no_keys, next_keys}

abbrev pub keys_or_none : Option Keys → Keys
keys_or_none (Some keys) = keys
keys_or_none None = no_keys

-- a line other than a drain
unfoldable pub acted : Line → Option Keys → Link → Link
acted (lines.Harq maximum) keys l = visits maximum l
acted lines.Bsr keys l = reports l
acted (lines.Bearer config options) keys l = bears config (keys_or_none keys) l
acted (lines.Submit side lcid octets) keys l = submitting side lcid octets l
acted (lines.Tti up_grant up down_grant down) keys l = tti up_grant up down_grant down l
acted (lines.Expire side lcid clock) keys l = expires side lcid clock l
acted (lines.Handover user rrc integrity) keys l =
    hands_over (next_keys user rrc integrity (keys_or_none keys)) l
acted lines.LoopOff keys l = loop_set Off l
acted (lines.LoopA size) keys l = loop_set (A size) l
acted (lines.LoopB delay) keys l = loop_set (B delay) l
acted (lines.Forge side octets) keys l = forges side octets l
acted (lines.Discard lcid ttis) keys l = discards lcid ttis l
acted (lines.Drx config) keys l = listens config l
acted line keys l = l

-- a drain, with all its records
abbrev pub drains : ℕ → Link → Link
drains grant l = record (drained grant l).link { out = (drained grant l).journal }

abbrev pub played : Line → Option Keys → Link → Link
played (lines.Drain grant) keys l = drains grant l
played line keys l = acted line keys l
