-- As it builds a block an end hands nothing up.
use Rattle.std.proofs.Common.{◌≡◌, ℕ, Bool, true, false, List, refl}
use Rattle.std.specs.List.{AllByRecursion}
use Rattle.bearer_types.specs.declared.event.Event.{Event}
use Rattle.bearer_types.specs.declared.event.Event.TheVariants as events
use Rattle.harq.specs.declared.sender.Order.{Order}
use Rattle.l2_node.specs.Building.{building}
use Rattle.l2_node.specs.End.{End}
use Rattle.law_node.proofs.Built.{building_all}

-- an SDU is handed up
abbrev pub is_up : Event → Bool
is_up (events.Up lcid octets) = true
is_up event = false

abbrev pub HandUpNone : List Event → Type 0
HandUpNone told' = AllByRecursion (λ event. is_up event ≡ false) told'

pub building_none : (tti grant : ℕ) (order : Order) (e : End) → HandUpNone (building tti grant order e)
building_none =
    building_all (λ event. is_up event ≡ false) (λ lcid count len. refl) (λ lcid fms bitmap. refl) (λ lcid how sn. refl)
    (λ lcid why. refl) (λ lcid clock. refl)
