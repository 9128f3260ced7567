-- VR(MS) by the marks whose timer has expired (TS 36.322 5.1.3.2.4, 7.1).
use Rattle.std.specs.Prelude.{ℕ, ◌<◌, ◌≤◌, List, [], ◌∷◌, Option, Some, None, max}
use Rattle.l2_types.specs.declared.AmRxConfig.{AmRxConfig}
use Rattle.rlc_am_rx.specs.State.{State}
use Rattle.law_rlc.specs.AmReceiver.Run.{Call, Arrive, Up, Write, ExpireReorder, ExpireProhibit}
use Rattle.law_rlc.specs.AmReceiver.Run.{TickReorder, TickProhibit, World, happens, begin}
use Rattle.law_rlc.specs.AmReceiver.Run.{IsComplete}

-- a receiver, and the greatest mark, VR(X), whose timer has expired
pub record Marked : Type 0 where
  pub world : World
  pub base : ℕ

abbrev pub greatest : Option ℕ → ℕ → ℕ
greatest None base = base
greatest (Some x) base = max base x

abbrev pub base_after : State → Call → ℕ → ℕ
base_after s (Arrive p) base = base
base_after s Up base = base
base_after s Write base = base
base_after s ExpireReorder base = greatest s.mark base
base_after s ExpireProhibit base = base
base_after s TickReorder base = base
base_after s TickProhibit base = base

abbrev pub goes : Marked → Call → Marked
goes m c = record { world = happens m.world c; base = base_after m.world.state c m.base }

abbrev pub go : List Call → Marked → Marked
go [] m = m
go (c ∷ cs) m = go cs (goes m c)

abbrev pub marked_outset : AmRxConfig → Marked
marked_outset config = record { world = begin config; base = 0 }

-- VR(MS) is the least number that isn't complete at or above 0 and every such mark
pub record IsBound (m : Marked) : Type 0 where
  pub from : m.base ≤ m.world.state.bound
  pub between : (n : ℕ) → m.base ≤ n → n < m.world.state.bound → IsComplete m.world.kept n
  pub here : IsComplete m.world.kept m.world.state.bound → ⊥
