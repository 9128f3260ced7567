-- What is counted and marked in the records that both ends leave (docs/formats/JOURNAL.md).
use Rattle.std.specs.Prelude.{◌≡◌, ℕ, ◌+◌, ◌<◌, ◌==◌, Bool, false, ◌&&◌, ◌||◌, List, length}
use Rattle.std.specs.Prelude.{slice_index, slice_index_or}
use Rattle.std.specs.List.{filter, list_any}
use Rattle.air_record.specs.declared.record.Record.{Record}
use Rattle.air_record.specs.declared.record.Record.TheVariants as records
use Rattle.bearer_types.specs.Sides.{is_same}
use Rattle.bearer_types.specs.declared.event.Event.TheVariants.{Fail}
use Rattle.l2_types.specs.declared.side.Side.{Side}
use Rattle.promises.specs.Records.{is_up, is_looped}

abbrev pub ups : Side → ℕ → List Record → ℕ
ups side lcid told = length (filter (is_up side lcid) told)

abbrev pub loopeds : ℕ → List Record → ℕ
loopeds lcid told = length (filter (is_looped lcid) told)

-- a table of counts by LCID grows in each place by so much
pub record Grows (by : ℕ → ℕ) (before after : List ℕ) : Type 0 where
  pub same_length : length after ≡ length before
  pub grown : (lcid : ℕ) → lcid < length before
      → slice_index after lcid ≡ slice_index before lcid + by lcid

-- the sender of a side gives up, on a channel
abbrev pub is_fail : Side → ℕ → Record → Bool
is_fail side lcid (records.Of s (Fail l sn)) = is_same side s && l == lcid
is_fail side lcid one = false

abbrev pub gives_up : Side → ℕ → List Record → Bool
gives_up side lcid told = list_any (is_fail side lcid) told

-- in a table of marks by LCID places are marked by this, and none is cleared
pub record AreMarked (by : ℕ → Bool) (before after : List Bool) : Type 0 where
  pub same_length : length after ≡ length before
  pub marked : (lcid : ℕ) → lcid < length before
      → slice_index_or after lcid false ≡ slice_index_or before lcid false || by lcid
