-- What processes hold is what the blocks under way carry.
use Rattle.std.proofs.Common.{◌≡◌, ℕ, zero, suc, ◌%◌, List, [], ◌∷◌, ◌++◌, map, Option, Some, None}
use Rattle.std.proofs.Common.{get_or-set_same, get_or-set_other, slice_get, refl, ap, sym, subst, ◌∙◌, arith}
use Rattle.std.specs.Prelude.{unwrap_or}
use Rattle.std.specs.List.{AllByRecursion}
use Rattle.harq.specs.declared.sender.Visit.{Visit}
use Rattle.harq.specs.declared.sender.Visit.TheVariants.{New}
use Rattle.l2_node.specs.Building.{visit, visited}
use Rattle.law_rlc.specs.AmPair.Flow.{except}
use Rattle.journal_flows.specs.declared.parcels.Parcel.{Parcel}
use Rattle.journal_flows.specs.Gathering.{Sending, holds}
use Rattle.harq.specs.Sending.{Sending as Sender}
use Rattle.law_deliver.specs.AmFlow.Air.{Block, Act, built_at, comes, does, older, IsBuilding, IsVisiting}
use Rattle.law_deliver.specs.AmFlow.Air.{IsDone}
use Rattle.law_deliver.specs.AmFlow.Carrying.{CarriedPdu, Builds, with_built, behind_act}
use Rattle.law_deliver.proofs.AmFlow.Acts.{act_by}
use Rattle.law_deliver.proofs.AmFlow.Loads.{IsHeldBy, held_by}
use Rattle.law_deliver.proofs.AmFlow.Stations.{plain_stays}
use Rattle.law_deliver.proofs.AmFlow.Visiting.{new_empty}
use Rattle.law_sound.specs.CarriedLaws.{parcels_on}
use Rattle.law_sound.specs.HeldLaws.{AreHeldAs, HeldBlocksStay, HeldBlocksAge, NewBlocksAreHeld}
use Rattle.law_deliver.proofs.AmFlow.Turns.{visit_by}

except_held : (l : ℕ) (x : Sending) (k : ℕ) (bs : List Block) (pdus : List (List CarriedPdu)) → AreHeldAs l x bs pdus
    → AreHeldAs l x (except k bs) (except k pdus)
except_held l x k [] [] h = tt
except_held l x zero (b ∷ bs) (own ∷ pdus) h = h.1
except_held l x (suc k) (b ∷ bs) (own ∷ pdus) h = (h.0, except_held l x k bs pdus h.1)
except_held l x k [] (own ∷ pdus) h = absurd h
except_held l x k (b ∷ bs) [] h = absurd h

pub held_blocks_stay : HeldBlocksStay
held_blocks_stay l x o s act pdus done none h =
    act_by l o s (λ t y. (Builds s.end y → ⊥) → AreHeldAs l x t.blocks (behind_act l s.end y pdus))
    (λ c given life no_turn no_block n. subst (AreHeldAs l x s.blocks) (plain_stays l s.end c pdus no_turn) h)
    (λ t given turn n. visit_by
    (λ (v : Visit). AreHeldAs l x (built_at v t (visited t.tti t.order s.end) ++ s.blocks)
    (with_built l v t (visited t.tti t.order s.end) pdus)) (visit t.tti t.order s.end)
    (λ e. absurd (n (record { turn = t; is = refl; new = e }))) (λ rv. h) h)
    (λ k n. come (slice_get o.blocks k)) (λ k n. except_held l x k s.blocks pdus h) act done none
  where
    come : (b : Option Block) → AreHeldAs l x (comes s b).blocks pdus
    come None = h
    come (Some b) = h

aged : (l : ℕ) (x : Sending) (bs : List Block) (pdus : List (List CarriedPdu)) → AreHeldAs l x bs pdus
    → AreHeldAs l x (map older bs) pdus
aged l x [] [] h = tt
aged l x (b ∷ bs) (own ∷ pdus) h = (h.0, aged l x bs pdus h.1)
aged l x [] (own ∷ pdus) h = absurd h
aged l x (b ∷ bs) [] h = absurd h

pub held_blocks_age : HeldBlocksAge
held_blocks_age l x s pdus h = aged l x s.blocks pdus h

-- ---- a new block

others_held : (l : ℕ) (x : Sending) (process : ℕ) (parcels : List Parcel) (bs : List Block)
    (pdus : List (List CarriedPdu)) → AllByRecursion (λ (b : Block). b.process ≡ process → ⊥) bs
    → AreHeldAs l x bs pdus → AreHeldAs l (holds process parcels x) bs pdus
others_held l x process parcels [] [] other h = tt
others_held l x process parcels (b ∷ bs) (own ∷ pdus) other h = (
  ap (λ (o : Option (List Parcel)). parcels_on l (unwrap_or o []))
      (get_or-set_other x.held process b.process (Some parcels) None other.0) ∙ h.0,
  others_held l x process parcels bs pdus other.1 h.1,
)
others_held l x process parcels [] (own ∷ pdus) other h = absurd h
others_held l x process parcels (b ∷ bs) [] other h = absurd h

others_of : (process : ℕ) (s : Sender) (bs : List Block) → AllByRecursion (IsHeldBy process s) bs
    → AllByRecursion (λ (b : Block). b.process ≡ process → ⊥) bs
others_of process s [] k = tt
others_of process s (b ∷ bs) k = (k.0.other, others_of process s bs k.1)

pub new_blocks_are_held : NewBlocksAreHeld
new_blocks_are_held l x o s act parcels pdus done b size same h =
    let t = b.turn in
    let e = visited t.tti t.order s.end in
    let y = holds (t.tti % 8) parcels x in
    let building : IsBuilding s t =
    subst (λ (v : Visit). IsVisiting v s t) b.new (subst (λ (a : Act). IsDone l s a) b.is done).2 in
    let here : AreHeldAs l y (built_at New t e ++ s.blocks) (with_built l New t e pdus) = (
      ap (λ (q : Option (List Parcel)). parcels_on l (unwrap_or q []))
          (get_or-set_same x.held (t.tti % 8) (Some parcels) None (omega (arith, size)))
          ∙ same,
      others_held l x (t.tti % 8) parcels s.blocks pdus
          (others_of (t.tti % 8) e.sender s.blocks
          (held_by (t.tti % 8) e.sender s.blocks (new_empty t.tti t.order s.end b.new) building.held)) h,
    ) in
    subst (λ (a : Act). AreHeldAs l y (does o s a).blocks (behind_act l s.end a pdus)) (sym b.is)
    (subst (λ (v : Visit). AreHeldAs l y (built_at v t e ++ s.blocks) (with_built l v t e pdus)) (sym b.new) here)
