-- The records of a step of lives, in their order, and what is gathered behind all of them
-- (docs/formats/JOURNAL.md; TS 36.321 5.3.2, 5.4.2).
use Rattle.std.specs.Prelude.{◌≡◌, ℕ, ◌%◌, Bool, true, List, [], ◌∷◌, ◌++◌, Option, Some, slice_get}
use Rattle.air_record.specs.declared.record.Record.TheVariants as records
use Rattle.bearer_types.specs.Sides.{other, heard_by, sent_by}
use Rattle.l2_types.specs.declared.side.Side.{Side}
use Rattle.pdu_show.specs.declared.kinds.Layout.{Layout}
use Rattle.promises.specs.Pdus.{carried}
use Rattle.promises.specs.Records.{is_got}
use Rattle.journal_account.specs.FlowEvents.{FlowEvent}
use Rattle.journal_flows.specs.FlowsTold.{Histories}
use Rattle.journal_flows.specs.Gathering.{Journal, sending_of}
use Rattle.law_deliver.specs.AmFlow.Air.{Block, Air, Act, Comes, Step, Passes, IsDone}
use Rattle.law_deliver.specs.AmFlow.Carrying.{Carried, Builds}
use Rattle.law_run.specs.TwoEnds.Along.{at_side}
use Rattle.law_sound.specs.BesideLaws.{IsGatheredBeside, IsGatheredBehind, ReadRecord, behind_all}
use Rattle.law_sound.specs.BesideLaws.{station_of, RecordsOfAct, IsSentLast, octets_of}
use Rattle.law_sound.specs.BesideLaws.{IsNamed}
use Rattle.law_sound.specs.LivedHistories.{AreLived, coming_in}

-- what a side tells; behind the record that a block is got; or before that of a new block
pub data AreOfStep (kinds : List (Option Layout)) (l : ℕ) (a : Air) (c : Carried)
    (down up : List FlowEvent) (h : AreLived l a c down up) (j : Journal Histories) (s : Step)
    (rs : List ReadRecord) : Type 0 where
  OfAct : (side : Side) (x : Act) → s ≡ at_side side x → IsDone l (station_of side a) x
      → (Builds (station_of side a).end x → ⊥)
      → coming_in (other side) (at_side side x) c ≡ []
      → RecordsOfAct kinds l side a x c down up h rs []
      → AreOfStep kinds l a c down up h j s rs
  OfComing : (side : Side) (k : ℕ) (block : Block) (more : Bool) (what : _) (heard : _)
      (xs : List ReadRecord) → s ≡ at_side side (Comes k) → is_got what ≡ true
      → rs ≡ record { more = more; one = records.Air (heard_by side) what heard } ∷ xs
      → slice_get (station_of (other side) a).blocks k ≡ Some block
      → IsSentLast (sending_of (other side) j) (station_of (other side) a).blocks block
      → RecordsOfAct kinds l side a (Comes k) c down up h xs []
      → AreOfStep kinds l a c down up h j s rs
  OfBuilding : (side : Side) (x : Act) (b : Builds (station_of side a).end x) (more : Bool)
      (rv : _) (xs : List ReadRecord) → s ≡ at_side side x → IsDone l (station_of side a) x
      → rs ≡ xs ++ record {
        more = more;
        one = records.Block (sent_by side) (b.turn.tti % 8) true rv
            (octets_of (station_of side a) x b);
      } ∷ []
      → RecordsOfAct kinds l side a x c down up h xs
      (carried l (sent_by side) (octets_of (station_of side a) x b))
      → IsNamed kinds l side (octets_of (station_of side a) x b) (behind_all kinds xs j)
      → AreOfStep kinds l a c down up h j s rs
  OfTti : s ≡ Passes → rs ≡ [] → AreOfStep kinds l a c down up h j s rs

abbrev pub StepsAreGathered : Type 0
StepsAreGathered =
    (kinds : List (Option Layout)) (l : ℕ) (a : Air) (s : Step) (c : Carried)
    (down up : List FlowEvent) (j : Journal Histories) (rs : List ReadRecord)
    → (h : AreLived l a c down up) → AreOfStep kinds l a c down up h j s rs
    → IsGatheredBeside l a c down up j
    → IsGatheredBehind l a s c down up h (behind_all kinds rs j)
