-- One more bearer ticks.
use Rattle.std.proofs.Common.{◌≡◌, ◌<◌, ℕ, zero, suc, ◌+◌, List, [], ◌∷◌, length, drop, refl, arith, add-one, subst}
use Rattle.bearer.specs.Bearer.{Of, Life}
use Rattle.l2_node.specs.Hearing.{Heard, ticks_over, ticks_at}

pub ticks_next : (xs : List (Of Life)) (at from : ℕ) (h : Heard) → at < length xs
    → ticks_over (drop (at + 1) xs) (from + 1) (ticks_at from h) ≡ ticks_over (drop at xs) from h
ticks_next [] at from h lt = absurd (omega arith)
ticks_next (x ∷ xs) zero from h lt = refl
ticks_next (x ∷ xs) (suc k) from h lt =
    rw (add-one (suc k))
    (subst (λ (m : ℕ). ticks_over (drop m xs) (from + 1) (ticks_at from h) ≡ ticks_over (drop k xs) from h)
    (add-one k) (ticks_next xs k from h (omega arith)))
