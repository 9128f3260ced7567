-- Lines by which PDUs can be read (TS 36.321 6.2.1, TS 36.322 6.2.2.3, TS 36.323 6.3.2).
use Rattle.std.specs.Prelude.{◌≤◌}
use Rattle.bearer_types.specs.Configs.{AreRlcBits, ArePdcpBits}
use Rattle.air_record.specs.declared.line.Line.{Line}
use Rattle.air_record.specs.declared.line.Line.TheVariants as lines

-- the channel of a bearer, and the bits of its numbers, are those of its kind
abbrev pub HasLayout : Line → Type 0
HasLayout (lines.Bearer config options) =
    (config.channel.lcid ≤ 10) × AreRlcBits config.kind config.rlc_bits
    × ArePdcpBits config.kind config.pdcp_bits
HasLayout line = Unit {0}
