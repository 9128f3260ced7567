-- The processes of a sender, and the numbers in their last blocks.
use Rattle.std.specs.Prelude.{◌≡◌, None, [], ◌∷◌, All}
use Rattle.harq.specs.Sending.{Sending, held_of}
use Rattle.l2_node.specs.Finding.{Numbers}

pub record Holding : Type 0 where
  pub sender : Sending
  pub numbers : Numbers

-- no process holds a block
abbrev pub HoldsNone : Sending → Type 0
HoldsNone sender = All (λ p. held_of sender p ≡ None) (0 ∷ 1 ∷ 2 ∷ 3 ∷ 4 ∷ 5 ∷ 6 ∷ 7 ∷ [])
