-- Records that tell nothing of a channel's flows leave what is gathered of it.
use Rattle.std.proofs.Common.{◌≡◌, ℕ, Bool, true, false, if◌then◌else◌, List, [], ◌∷◌, length, Option, None}
use Rattle.std.proofs.Common.{slice_index_or, refl, ap, ◌∙◌}
use Rattle.std.specs.List.{AllByRecursion}
use Rattle.std.specs.Prelude.{unwrap_or}
use Rattle.air_record.specs.declared.record.Record.{Record}
use Rattle.air_record.specs.declared.record.Record.TheVariants as records
use Rattle.bearer_types.specs.declared.event.Event.{Event}
use Rattle.bearer_types.specs.declared.event.Event.TheVariants as events
use Rattle.l2_types.specs.declared.event.Clock.TheVariants.{Poll, Reorder, Prohibit}
use Rattle.l2_types.specs.declared.side.Side.{Side}
use Rattle.l2_types.specs.declared.side.Side.TheVariants.{Nb, Ue}
use Rattle.mac_pdu.specs.declared.item.Direction.TheVariants as directions
use Rattle.pdu_show.specs.declared.kinds.Layout.{Layout}
use Rattle.promises.specs.Records.{is_got}
use Rattle.journal_lives.specs.LifeEvents.{LifeEvent, running}
use Rattle.journal_flows.specs.declared.parcels.Parcel.{Parcel}
use Rattle.journal_flows.specs.FlowsTold.{Histories, histories}
use Rattle.journal_flows.specs.Gathering.{Journal, Sending, all_told, told_by, behind_event, behind_landing}
use Rattle.journal_flows.specs.Gathering.{behind_record}
use Rattle.law_deliver.specs.AmFlow.Air.{Block}
use Rattle.law_deliver.specs.AmFlow.Carrying.{CarriedPdu}
use Rattle.law_sound.specs.BesideLaws.{HoldsAs, tells_flow, LeavesFlows, OtherRecordsLeave}
use Rattle.law_sound.specs.CarriedLaws.{parcels_on}
use Rattle.law_sound.specs.HeldLaws.{AreHeldAs}
use Rattle.law_sound.proofs.ReorderGathering.{IsElsewhere, all_elsewhere, event_elsewhere}

-- ---- what processes hold

same_held : (l : ℕ) (x y : Sending) (bs : List Block) (pdus : List (List CarriedPdu)) → y.held ≡ x.held
    → AreHeldAs l x bs pdus → AreHeldAs l y bs pdus
same_held l x y [] [] e h = tt
same_held l x y (b ∷ bs) (own ∷ pdus) e h = (
  ap (λ (held : List (Option (List Parcel))). parcels_on l (unwrap_or (slice_index_or held b.process None) [])) e
      ∙ h.0,
  same_held l x y bs pdus e h.1,
)
same_held l x y [] (own ∷ pdus) e h = absurd h
same_held l x y (b ∷ bs) [] e h = absurd h

pub holds_same : (l : ℕ) (x y : Sending) (bs : List Block) (pdus : List (List CarriedPdu)) → y.held ≡ x.held
    → HoldsAs l x bs pdus → HoldsAs l y bs pdus
holds_same l x y bs pdus e h = record {
  held = same_held l x y bs pdus e h.held;
  processes = ap (λ (held : List (Option (List Parcel))). length held) e ∙ h.processes;
}

-- ---- what happens at an end adds what it tells, and changes nothing that is held

pub flows_behind : (kinds : List (Option Layout)) (more : Bool) (side : Side) (e : Event) (j : Journal Histories)
    → (behind_event histories kinds more side e j).flows ≡ all_told histories (told_by kinds more side e) j.flows
flows_behind kinds more Nb (events.Send lcid how sn) j = refl
flows_behind kinds more Ue (events.Send lcid how sn) j = refl
flows_behind kinds more side e j = refl

pub nb_held : (kinds : List (Option Layout)) (more : Bool) (side : Side) (e : Event) (j : Journal Histories)
    → (behind_event histories kinds more side e j).nb.held ≡ j.nb.held
nb_held kinds more Nb (events.Send lcid how sn) j = refl
nb_held kinds more Ue (events.Send lcid how sn) j = refl
nb_held kinds more side e j = refl

pub ue_held : (kinds : List (Option Layout)) (more : Bool) (side : Side) (e : Event) (j : Journal Histories)
    → (behind_event histories kinds more side e j).ue.held ≡ j.ue.held
ue_held kinds more Nb (events.Send lcid how sn) j = refl
ue_held kinds more Ue (events.Send lcid how sn) j = refl
ue_held kinds more side e j = refl

none_told : (kinds : List (Option Layout)) (more : Bool) (side : Side) (l : ℕ) (e : Event) → tells_flow l e ≡ false
    → AllByRecursion (IsElsewhere l) (told_by kinds more side e)
none_told kinds more side l (events.Take lcid count len) q =
    event_elsewhere kinds more side l (events.Take lcid count len) q
none_told kinds more side l (events.Report lcid fms bitmap) q =
    event_elsewhere kinds more side l (events.Report lcid fms bitmap) q
none_told kinds more side l (events.Start lcid Reorder) q =
    event_elsewhere kinds more side l (events.Start lcid Reorder) q
none_told kinds more side l (events.Start lcid Poll) q = tt
none_told kinds more side l (events.Start lcid Prohibit) q = tt
none_told kinds more side l (events.Expired lcid Reorder) q =
    event_elsewhere kinds more side l (events.Expired lcid Reorder) q
none_told kinds more side l (events.Expired lcid Poll) q =
    event_elsewhere kinds more side l (events.Expired lcid Poll) q
none_told kinds more side l (events.Expired lcid Prohibit) q = tt
none_told kinds more side l e q = tt

-- ---- so a record leaves it

pub record IsLeft (l : ℕ) (i j : Journal Histories) : Type 0 where
  pub flow : (side : Side) → i.flows.acked side l ≡ j.flows.acked side l
  pub nb : i.nb.held ≡ j.nb.held
  pub ue : i.ue.held ≡ j.ue.held

pub one_left : (kinds : List (Option Layout)) (more : Bool) (l : ℕ) (one : Record) (j : Journal Histories)
    → LeavesFlows l one → IsLeft l (behind_record histories kinds more one j) j
one_left kinds more l (records.Of side e) j h = record {
  flow = λ s. ap (λ (f : Histories). f.acked s l) (flows_behind kinds more side e j)
      ∙ all_elsewhere s l (told_by kinds more side e) j.flows (none_told kinds more side l e h);
  nb = nb_held kinds more side e j;
  ue = ue_held kinds more side e j;
}
one_left kinds more l (records.Block direction process true rv octets) j h = absurd h
one_left kinds more l (records.Block directions.Down process false rv octets) j h =
    record { flow = λ s. refl; nb = refl; ue = refl }
one_left kinds more l (records.Block directions.Up process false rv octets) j h =
    record { flow = λ s. refl; nb = refl; ue = refl }
one_left kinds more l (records.Air direction what heard) j h = by (is_got what) h
  where
    by : (b : Bool) → b ≡ false → IsLeft l (if b then behind_landing histories direction j else j) j
    by false e = record { flow = λ s. refl; nb = refl; ue = refl }
    by true e = absurd cc
one_left kinds more l one j h = record { flow = λ s. refl; nb = refl; ue = refl }

pub other_records_leave : OtherRecordsLeave
other_records_leave kinds more l a c down up one j leaves h =
    let i = behind_record histories kinds more one j in
    let left = one_left kinds more l one j leaves in
    record {
      down_is = ap (λ (es : List LifeEvent). running es) (left.flow Nb) ∙ h.down_is;
      up_is = ap (λ (es : List LifeEvent). running es) (left.flow Ue) ∙ h.up_is;
      by_nb = holds_same l j.nb i.nb a.nb.blocks c.nb left.nb h.by_nb;
      by_ue = holds_same l j.ue i.ue a.ue.blocks c.ue left.ue h.by_ue;
    }
