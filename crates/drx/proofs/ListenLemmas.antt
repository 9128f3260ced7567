-- TTIs within a cycle.
use Rattle.std.proofs.Common.{◌≡◌, ◌<◌, ℕ, ◌+◌, ◌-◌, ◌*◌, ◌/◌, ◌%◌, ap, sym, arith, ◌∙◌}
use Rattle.std.proofs.lemmas.Nat.{mod-mul-add, div-add-mod', mod_below}

-- a TTI may be reduced before the offset is taken away
pub cycle_place : (tti cycle offset : ℕ) → offset < cycle
    → (tti % cycle + cycle - offset) % cycle ≡ (tti + cycle - offset) % cycle
cycle_place tti cycle offset lt =
    let whole : tti + cycle - offset ≡ (tti / cycle + (tti % cycle + cycle - offset) / cycle) * cycle
    + (tti % cycle + cycle - offset) % cycle =
    omega (arith, div-add-mod' tti cycle, div-add-mod' (tti % cycle + cycle - offset) cycle) in
    sym (ap (λ (n : ℕ). n % cycle) whole
    ∙ mod-mul-add (tti / cycle + (tti % cycle + cycle - offset) / cycle) cycle
    ((tti % cycle + cycle - offset) % cycle) (mod_below (tti % cycle + cycle - offset) cycle (omega arith)))
