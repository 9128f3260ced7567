-- What a line is to flows and to time (docs/formats/SCRIPT.md).
use Rattle.std.specs.Prelude.{ℕ, List, Bool, true, false}
use Rattle.air_record.specs.declared.line.Outcome.{Outcome}
use Rattle.l2_types.specs.declared.side.Side.{Side}
use Rattle.air_record.specs.declared.line.Line.{Line}
use Rattle.air_record.specs.declared.line.Line.TheVariants as lines

pub data Part : Type 0 where
  Submits : Side → ℕ → List ℕ → Part
  Passes : ℕ → Outcome → ℕ → Outcome → Part
  Drains : ℕ → Part
  Rests : Part

abbrev pub part_of_line : Line → Part
part_of_line (lines.Submit side lcid octets) = Submits side lcid octets
part_of_line (lines.Tti up_grant up down_grant down) = Passes up_grant up down_grant down
part_of_line (lines.Drain grant) = Drains grant
part_of_line line = Rests

-- ---- a sender gives up at its limit of retransmissions, for the sequence number that it tells

-- and begins anew in a handover (TS 36.322 5.4)
abbrev pub is_handover : Line → Bool
is_handover (lines.Handover user rrc integrity) = true
is_handover line = false
