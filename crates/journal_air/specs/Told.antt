-- What a journal tells of a TTI, gathered record by record, and the records that it is
-- (docs/formats/JOURNAL.md; TS 36.321 5.3.2, 5.4.2, 5.7).
use Rattle.std.specs.Prelude.{ℕ, List, [], ◌∷◌, ◌++◌, Bool, true, false, not, ◌&&◌, Option, Some}
use Rattle.std.specs.Prelude.{None, is_none, is_some}
use Rattle.mac_pdu.specs.declared.item.Direction.{Direction}
use Rattle.mac_pdu.specs.declared.item.Direction.TheVariants.{Down, Up}
use Rattle.air_record.specs.declared.record.Arrived.{Arrived}
use Rattle.air_record.specs.declared.record.Record.{Record}
use Rattle.air_record.specs.declared.record.Record.TheVariants as records

-- a `block` record, and an `air` record
pub record BlockTold : Type 0 where
  pub process : ℕ
  pub fresh : Bool
  pub version : ℕ
  pub octets : List ℕ

abbrev pub block_told : ℕ → Bool → ℕ → List ℕ → BlockTold
block_told process fresh version octets =
    record { process = process; fresh = fresh; version = version; octets = octets }

pub record AirTold : Type 0 where
  pub what : Arrived
  pub heard : Option Bool

-- those of a direction
pub record WayTold : Type 0 where
  pub block : Option BlockTold
  pub air : Option AirTold

-- all that is told of a TTI, and whether each of it was told once, a block before what came of it
pub record TtiTold : Type 0 where
  pub in_order : Bool
  pub asleep : Bool
  pub down : WayTold
  pub up : WayTold

abbrev pub no_way : WayTold
no_way = record { block = None; air = None }

abbrev pub blank_tti : TtiTold
blank_tti = record { in_order = true; asleep = false; down = no_way; up = no_way }

-- ---- record by record, in any order of the directions and of that the terminal sleeps

abbrev pub is_blank : WayTold → Bool
is_blank w = is_none w.block && is_none w.air

abbrev pub tells_sleep : TtiTold → TtiTold
tells_sleep x = record {
  in_order = x.in_order && not x.asleep;
  asleep = true;
  down = x.down;
  up = x.up;
}

abbrev pub put_block : BlockTold → WayTold → WayTold
put_block b w = record { block = Some b; air = w.air }

abbrev pub put_air : AirTold → WayTold → WayTold
put_air a w = record { block = w.block; air = Some a }

abbrev pub tells_block : Direction → BlockTold → TtiTold → TtiTold
tells_block Down b x = record {
  in_order = x.in_order && is_blank x.down;
  asleep = x.asleep;
  down = put_block b x.down;
  up = x.up;
}
tells_block Up b x = record {
  in_order = x.in_order && is_blank x.up;
  asleep = x.asleep;
  down = x.down;
  up = put_block b x.up;
}

abbrev pub tells_air : Direction → AirTold → TtiTold → TtiTold
tells_air Down a x = record {
  in_order = x.in_order && not (is_some x.down.air);
  asleep = x.asleep;
  down = put_air a x.down;
  up = x.up;
}
tells_air Up a x = record {
  in_order = x.in_order && not (is_some x.up.air);
  asleep = x.asleep;
  down = x.down;
  up = put_air a x.up;
}

-- ---- the records that it is

abbrev pub block_records : Direction → Option BlockTold → List Record
block_records d None = []
block_records d (Some b) = records.Block d b.process b.fresh b.version b.octets ∷ []

abbrev pub air_records : Direction → Option AirTold → List Record
air_records d None = []
air_records d (Some a) = records.Air d a.what a.heard ∷ []

abbrev pub way_records : Direction → WayTold → List Record
way_records d w = block_records d w.block ++ air_records d w.air
