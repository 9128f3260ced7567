-- A link and the two ends between which its blocks are under way belong together, between two lines
-- (TS 36.321 5.3.2, 5.4.2).
use Rattle.std.specs.Prelude.{◌≡◌, ◌⊎◌, ℕ, ◌+◌, ◌-◌, ◌*◌, ◌%◌, ◌<◌, ◌≤◌, false, Option, Some, None}
use Rattle.std.specs.Prelude.{List, [], ◌∷◌, slice_index_or}
use Rattle.std.specs.List.{AllByRecursion}
use Rattle.harq.specs.Sending.{Sending, Block as HeldBlock, empty}
use Rattle.l2_types.specs.declared.side.Side.{Side}
use Rattle.l2_types.specs.declared.side.Side.TheVariants.{Nb, Ue}
use Rattle.air_link.specs.Link.{Link}
use Rattle.law_deliver.specs.AmFlow.Air.{Block, Station, Air, HasCome}

-- the TTIs from one on until the next in which a process is visited: process p is in those with t
-- mod 8 = p
abbrev pub until : ℕ → ℕ → ℕ
until tti process = ((process + 8) - tti % 8) % 8

abbrev pub block_at : Sending → ℕ → Option HeldBlock
block_at s process = (slice_index_or s.processes process empty).held

-- a block under way is the one that its process holds, and its visits are 8 TTIs apart: those that
-- it has left, and the TTIs until the next
pub record IsHeld (wait : ℕ → ℕ) (s : Sending) (b : Block) : Type 0 where
  pub process : b.process < 8
  pub held : HeldBlock
  pub held_is : block_at s b.process ≡ Some held
  pub octets_are : held.octets ≡ b.octets
  pub some : 1 ≤ held.left
  pub age_is : b.age + wait b.process + 8 * held.left ≡ 8 * s.maximum

-- a block of the process is under way
abbrev pub IsFlying : ℕ → List Block → Type 0
IsFlying process [] = ⊥
IsFlying process (b ∷ bs) = (b.process ≡ process) ⊎ IsFlying process bs

-- an end that has come so far by calls, with 1 to 28 visits of a block: what is under way from it
-- is what its processes hold
pub record IsStation (side : Side) (wait : ℕ → ℕ) (s : Station) : Type 0 where
  pub come : HasCome side s.end
  pub some : 1 ≤ s.end.sender.maximum
  pub few : s.end.sender.maximum ≤ 28
  pub held : AllByRecursion (IsHeld wait s.end.sender) s.blocks
  pub flying : (process : ℕ) → (block_at s.end.sender process ≡ None → ⊥)
      → IsFlying process s.blocks

-- before the next TTI, in which neither end has built a block
pub record IsOn (k : Link) (a : Air) : Type 0 where
  pub nb_is : a.nb.end ≡ k.nb
  pub ue_is : a.ue.end ≡ k.ue
  pub nb : IsStation Nb (until k.ttis) a.nb
  pub ue : IsStation Ue (until k.ttis) a.ue
  pub nb_idle : a.nb.busy ≡ false
  pub ue_idle : a.ue.busy ≡ false
