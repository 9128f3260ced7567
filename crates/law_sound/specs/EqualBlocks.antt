-- Blocks of equal octets that are under way from an end carry the same parcels of an acknowledged
-- channel: so which of them comes is no matter to what is gathered of it (TS 36.321 5.3.2.2,
-- 5.4.2.2, TS 36.322 7.1).
use Rattle.std.specs.Prelude.{◌≡◌, ℕ, List, Some, slice_get}
use Rattle.bearer.specs.Acknowledged.State.{State}
use Rattle.l2_node.specs.End.{End}
use Rattle.l2_types.specs.declared.side.Side.TheVariants.{Nb, Ue}
use Rattle.law_deliver.specs.AmFlow.Air.{Block, Air, Step, goes, outset, AreGiven, Begins}
use Rattle.law_deliver.specs.AmFlow.Carrying.{CarriedPdu, Carried, carried_behind, carries_none}
use Rattle.law_sound.specs.CarriedLaws.{parcels_of}

-- any two of them
abbrev pub AreGatheredAlike : ℕ → List Block → List (List CarriedPdu) → Type 0
AreGatheredAlike l blocks pdus =
    (j k : ℕ) (one other : Block) (own others : List CarriedPdu) → slice_get blocks j ≡ Some one
    → slice_get pdus j ≡ Some own → slice_get blocks k ≡ Some other → slice_get pdus k ≡ Some others
    → one.octets ≡ other.octets → parcels_of l own ≡ parcels_of l others

pub record GatherAlike (l : ℕ) (a : Air) (c : Carried) : Type 0 where
  pub by_nb : AreGatheredAlike l a.nb.blocks c.nb
  pub by_ue : AreGatheredAlike l a.ue.blocks c.ue

-- at each moment of a life
abbrev pub EqualBlocksCarryAlike : Type 0
EqualBlocksCarryAlike = (l : ℕ) (nb ue : End) (b d : State) (steps : List Step) → Begins Nb l nb b
    → Begins Ue l ue d → AreGiven l (outset nb ue) steps
    → GatherAlike l (goes steps (outset nb ue))
    (carried_behind l steps (outset nb ue) carries_none)
