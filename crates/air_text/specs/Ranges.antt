-- The fields of a line in their ranges (docs/formats/SCRIPT.md).
use Rattle.std.specs.Prelude.{ℕ, ◌≤◌, List, length}
use Rattle.bearer_types.specs.Configs.{IsConfig}
use Rattle.air_record.specs.declared.line.Line.{Line}
use Rattle.air_record.specs.declared.line.Line.TheVariants as lines
use Rattle.l2_types.specs.declared.limits.TheConstants.{GREATEST_GRANT, GREATEST_SDU}

-- an SDU of 1 to 8188 octets
pub record IsSdu (octets : List ℕ) : Type 0 where
  pub some : 1 ≤ length octets
  pub short : length octets ≤ GREATEST_SDU

-- a block of 1 to 9422 octets
pub record IsBlock (octets : List ℕ) : Type 0 where
  pub some : 1 ≤ length octets
  pub short : length octets ≤ GREATEST_GRANT

-- both grants of a TTI
pub record AreGrants (upward downward : ℕ) : Type 0 where
  pub up : upward ≤ GREATEST_GRANT
  pub down : downward ≤ GREATEST_GRANT

-- 1 to 28 visits of a block
pub record AreVisits (visits : ℕ) : Type 0 where
  pub some : 1 ≤ visits
  pub few : visits ≤ 28

-- the SDUs, blocks, grants, visits and configurations of a line
abbrev pub IsInRange : Line → Type 0
IsInRange (lines.Submit side lcid octets) = IsSdu octets
IsInRange (lines.Tti up_grant up down_grant down) = AreGrants up_grant down_grant
IsInRange (lines.Drain grant) = grant ≤ GREATEST_GRANT
IsInRange (lines.Forge side octets) = IsBlock octets
IsInRange (lines.Bearer config options) = IsConfig config
IsInRange (lines.Harq visits) = AreVisits visits
IsInRange line = Unit {0}
