-- What a journal tells that the processes of a side hold is, on an acknowledged channel, what the
-- blocks under way of these processes carry (docs/formats/JOURNAL.md; TS 36.321 5.3.2.2, 5.4.2.2).
use Rattle.std.specs.Prelude.{◌≡◌, ℕ, ◌%◌, List, [], ◌∷◌, None, length, slice_index_or, unwrap_or}
use Rattle.l2_node.specs.Building.{visited}
use Rattle.journal_flows.specs.declared.parcels.Parcel.{Parcel}
use Rattle.journal_flows.specs.Gathering.{Sending, holds}
use Rattle.law_deliver.specs.AmFlow.Air.{Block, Station, Act, does, passed, IsDone}
use Rattle.law_deliver.specs.AmFlow.Carrying.{CarriedPdu, Builds, written_on, behind_act}
use Rattle.law_sound.specs.CarriedLaws.{parcels_on, parcels_of}

-- the parcels of the last new block of a process
abbrev pub held_parcels : Sending → ℕ → List Parcel
held_parcels x process = unwrap_or (slice_index_or x.held process None) []

-- block by block
abbrev pub AreHeldAs : ℕ → Sending → List Block → List (List CarriedPdu) → Type 0
AreHeldAs l x [] [] = Unit {0}
AreHeldAs l x (b ∷ bs) (own ∷ pdus) =
    (parcels_on l (held_parcels x b.process) ≡ parcels_of l own) × AreHeldAs l x bs pdus
AreHeldAs l x [] (own ∷ pdus) = ⊥
AreHeldAs l x (b ∷ bs) [] = ⊥

-- ---- an act in a life that builds no block, and a TTI that ends

abbrev pub HeldBlocksStay : Type 0
HeldBlocksStay =
    (l : ℕ) (x : Sending) (o s : Station) (act : Act) (pdus : List (List CarriedPdu))
    → IsDone l s act → (Builds s.end act → ⊥) → AreHeldAs l x s.blocks pdus
    → AreHeldAs l x (does o s act).blocks (behind_act l s.end act pdus)

abbrev pub HeldBlocksAge : Type 0
HeldBlocksAge = (l : ℕ) (x : Sending) (s : Station) (pdus : List (List CarriedPdu))
    → AreHeldAs l x s.blocks pdus → AreHeldAs l x (passed s).blocks pdus

-- ---- a new block: its process has held none, and now holds its parcels

abbrev pub NewBlocksAreHeld : Type 0
NewBlocksAreHeld =
    (l : ℕ) (x : Sending) (o s : Station) (act : Act) (parcels : List Parcel)
    (pdus : List (List CarriedPdu)) → IsDone l s act → (b : Builds s.end act) → length x.held ≡ 8
    → parcels_on l parcels
    ≡ parcels_of l (written_on l b.turn (visited b.turn.tti b.turn.order s.end))
    → AreHeldAs l x s.blocks pdus
    → AreHeldAs l (holds (b.turn.tti % 8) parcels x) (does o s act).blocks
    (behind_act l s.end act pdus)
