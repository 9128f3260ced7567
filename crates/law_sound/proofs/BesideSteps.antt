-- All records of a step take what is gathered to the moment behind it.
use Rattle.std.proofs.Common.{◌≡◌, ℕ, ◌%◌, Bool, true, if◌then◌else◌, List, [], ◌∷◌, ◌++◌, Option, refl, sym, subst}
use Rattle.air_record.specs.declared.record.Record.TheVariants as records
use Rattle.bearer_types.specs.Sides.{heard_by, sent_by}
use Rattle.pdu_show.specs.declared.kinds.Layout.{Layout}
use Rattle.journal_account.specs.FlowEvents.{FlowEvent}
use Rattle.journal_flows.specs.FlowsTold.{Histories, histories}
use Rattle.journal_flows.specs.Gathering.{Journal, behind_landing, behind_record}
use Rattle.law_deliver.specs.AmFlow.Air.{Air, Comes, Step, Passes}
use Rattle.law_deliver.specs.AmFlow.Carrying.{Carried}
use Rattle.law_run.specs.TwoEnds.Along.{at_side}
use Rattle.law_sound.specs.BesideLaws.{IsGatheredBehind, ReadRecord, behind_all, station_of, octets_of}
use Rattle.law_sound.specs.BesideSteps.{OfAct, OfComing, OfBuilding, OfTti, StepsAreGathered}
use Rattle.law_sound.specs.LivedHistories.{AreLived}
use Rattle.law_sound.proofs.BesideActs.{acts_are_gathered, ttis_are_gathered}
use Rattle.law_sound.proofs.BesideBuilding.{new_blocks_are_gathered}
use Rattle.law_sound.proofs.BesideComing.{blocks_come}

pub behind_last : (kinds : List (Option Layout)) (xs : List ReadRecord) (x : ReadRecord) (j : Journal Histories)
    → behind_all kinds (xs ++ x ∷ []) j ≡ behind_record histories kinds x.more x.one (behind_all kinds xs j)
behind_last kinds [] x j = refl
behind_last kinds (y ∷ xs) x j = behind_last kinds xs x (behind_record histories kinds y.more y.one j)

module _ (kinds : List (Option Layout)) (l : ℕ) (a : Air) (c : Carried) (down up : List FlowEvent)
    (h : AreLived l a c down up) (j : Journal Histories) where
  -- of that step, and by those records
  moved : (s y : Step) (rs xs : List ReadRecord) → s ≡ y → rs ≡ xs
      → IsGatheredBehind l a y c down up h (behind_all kinds xs j)
      → IsGatheredBehind l a s c down up h (behind_all kinds rs j)
  moved s y rs xs e o g =
      subst (λ (z : Step). IsGatheredBehind l a z c down up h (behind_all kinds rs j)) (sym e)
      (subst (λ (zs : List ReadRecord). IsGatheredBehind l a y c down up h (behind_all kinds zs j)) (sym o) g)

pub steps_are_gathered : StepsAreGathered
steps_are_gathered kinds l a s c down up j rs h (OfAct side x is done none quiet r) g =
    moved kinds l a c down up h j s (at_side side x) rs rs is refl
    (acts_are_gathered kinds l side a x c down up j rs h done none quiet r g)
steps_are_gathered kinds l a s c down up j rs h (OfComing side k block more what heard xs is got are at sent r) g =
    moved kinds l a c down up h j s (at_side side (Comes k)) rs
    (record { more = more; one = records.Air (heard_by side) what heard } ∷ xs) is are
    (subst (λ (b : Bool). IsGatheredBehind l a (at_side side (Comes k)) c down up h
    (behind_all kinds xs (if b then behind_landing histories (heard_by side) j else j))) (sym got)
    (blocks_come kinds l side a k c down up j xs block h at sent r g))
steps_are_gathered kinds l a s c down up j rs h (OfBuilding side x b more rv xs is done are r names) g =
    let last : ReadRecord = record {
      more = more;
      one = records.Block (sent_by side) (b.turn.tti % 8) true rv (octets_of (station_of side a) x b);
    } in
    moved kinds l a c down up h j s (at_side side x) rs (xs ++ last ∷ []) is are
    (subst (IsGatheredBehind l a (at_side side x) c down up h) (sym (behind_last kinds xs last j))
    (new_blocks_are_gathered kinds l side a x c down up j xs h done b r names g))
steps_are_gathered kinds l a s c down up j rs h (OfTti is are) g =
    moved kinds l a c down up h j s Passes rs [] is are (ttis_are_gathered l a c down up j h g)
