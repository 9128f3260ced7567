-- Behind the record of a new block its process holds what it carries.
use Rattle.std.proofs.Common.{◌≡◌, ℕ, zero, suc, ◌%◌, List, [], ◌∷◌, map, Some, None, slice_get, refl, ap, sym, subst}
use Rattle.std.proofs.Common.{◌∙◌}
use Rattle.l2_node.specs.Building.{visited}
use Rattle.l2_types.specs.declared.side.Side.{Side}
use Rattle.l2_types.specs.declared.side.Side.TheVariants.{Nb, Ue}
use Rattle.mac_pdu.specs.Reading.{reading}
use Rattle.bearer_types.specs.Sides.{sender_of}
use Rattle.journal_account.specs.FlowEvents.{next_of}
use Rattle.journal_lives.specs.LifeEvents.{running}
use Rattle.journal_flows.specs.declared.sending.Named.{Named}
use Rattle.journal_flows.specs.FlowsTold.{Histories, histories}
use Rattle.journal_flows.specs.Gathering.{Journal, Sending, Loaded, sending_of, with_loaded, holds}
use Rattle.journal_flows.specs.Gathering.{loads, sdus_read, sent_last}
use Rattle.law_deliver.specs.AmFlow.Air.{Block, does}
use Rattle.law_deliver.specs.AmFlow.Carrying.{CarriedPdu, written_on, behind_act}
use Rattle.law_sound.specs.RecordLaws.{IsBuiltIn, NewRecordsBuild, LandingRecordsBring}
use Rattle.law_sound.specs.CarriedLaws.{parcels_on, parcels_of}
use Rattle.law_sound.specs.HeldLaws.{AreHeldAs, held_parcels}
use Rattle.law_sound.specs.LoadLaws.{name_of, IsLoadedWith}
use Rattle.law_sound.proofs.CarriedBlocks.{parcels_bring}
use Rattle.law_sound.proofs.HeldBlocks.{new_blocks_are_held}
use Rattle.law_sound.proofs.LoadedBlocks.{new_blocks_are_loaded}
use Rattle.law_sound.proofs.NamedBlocks.{new_blocks_are_named}

loaded_in : (from : Side) (l process : ℕ) (j : Journal Histories) (c : Loaded Histories) (blocks : List Block)
    (pdus : List (List CarriedPdu)) (own : List CarriedPdu)
    → AreHeldAs l (holds process c.parcels (sending_of from j)) blocks pdus
    → IsLoadedWith from l (record { flows = j.flows; parcels = [] }) c own
    → IsBuiltIn from l j (with_loaded from process c j) blocks pdus own
loaded_in Nb l process j c blocks pdus own held h =
    record { held = held; named = refl; out = h.own; back = h.back }
loaded_in Ue l process j c blocks pdus own held h =
    record { held = held; named = refl; out = h.own; back = h.back }

pub new_records_build : NewRecordsBuild
new_records_build kinds direction l octets j o s act pdus done b h held =
    let from = sender_of direction in
    let own = written_on l b.turn (visited b.turn.tti b.turn.order s.end) in
    let none : Loaded Histories = record { flows = j.flows; parcels = [] } in
    let sdus = sdus_read (reading direction octets) in
    let c = loads histories kinds from (sending_of from j).named sdus none in
    let named =
    new_blocks_are_named kinds h.kind direction octets l (next_of (running (j.flows.acked from l))) h.sent own h.known
    h.form h.numbers h.carried_is h.gathered.read h.gathered.one in
    let loaded : IsLoadedWith from l none c own =
    subst (λ (sent : List Named). IsLoadedWith from l none (loads histories kinds from sent sdus none) own)
    (sym h.named)
    (new_blocks_are_loaded kinds h.kind from l (map name_of h.sent) sdus none own h.known named h.gathered.each
    h.gathered.room h.gathered.one) in
    loaded_in from l (b.turn.tti % 8) j c (does o s act).blocks (behind_act l s.end act pdus) own
    (new_blocks_are_held l (sending_of from j) o s act c.parcels pdus done b h.processes loaded.parcels held) loaded

-- ---- a block is got

pub held_at : (l : ℕ) (x : Sending) (bs : List Block) (pdus : List (List CarriedPdu)) (k : ℕ) (block : Block)
    (own : List CarriedPdu) → AreHeldAs l x bs pdus → slice_get bs k ≡ Some block → slice_get pdus k ≡ Some own
    → parcels_on l (held_parcels x block.process) ≡ parcels_of l own
held_at l x [] pdus k block own h at there = let no : None ≡ Some block = at in absurd cc
held_at l x (b ∷ bs) [] k block own h at there = absurd h
held_at l x (b ∷ bs) (ps ∷ pdus) zero block own h at there =
    let same : Some b ≡ Some block = at in
    let alike : Some ps ≡ Some own = there in
    let is : b ≡ block = cc in
    let are : ps ≡ own = cc in
    ap (λ (y : Block). parcels_on l (held_parcels x y.process)) (sym is) ∙ (h.0 ∙ ap (parcels_of l) are)
held_at l x (b ∷ bs) (ps ∷ pdus) (suc k) block own h at there = held_at l x bs pdus k block own h.1 at there

pub landing_records_bring : LandingRecordsBring
landing_records_bring direction l j blocks pdus own held h =
    let from = sender_of direction in
    let x = sending_of from j in
    let same : parcels_on l (sent_last x) ≡ parcels_of l own =
    ap (λ (p : ℕ). parcels_on l (held_parcels x p)) h.last
    ∙ held_at l x blocks pdus h.place h.block own held h.there h.carries in
    let brought = parcels_bring from l own (sent_last x) j.flows same h.possible in
    record { out = brought.own; back = brought.back }
