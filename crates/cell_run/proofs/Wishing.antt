-- The wishes of terminals, one after another.
use Rattle.std.proofs.Common.{◌≡◌, ◌+◌, ◌-◌, ◌∙◌, ◌≤◌, ◌<◌, ℕ, zero, suc, List, [], ◌∷◌, ◌++◌, refl, ap, arith, take}
use Rattle.std.proofs.Common.{length}
use Rattle.std.proofs.Common.{map, replicate, slice_set, slice_index_or}
use Rattle.cell_run.specs.Terminals.{Terminal}

-- the wishes of the first terminals, and 0 for the others
abbrev pub wishes_of : (Terminal → ℕ) → List Terminal → ℕ → List ℕ
wishes_of wish ts others = map wish ts ++ replicate others 0

wish-by : (wish : Terminal → ℕ) (ts : List Terminal) (d : Terminal) (i others : ℕ) → i < length ts
    → slice_set (wishes_of wish (take i ts) (suc others)) i (wish (slice_index_or ts i d))
    ≡ wishes_of wish (take (i + 1) ts) others
wish-by wish [] d i others inside = absurd (omega (arith, inside))
wish-by wish (t ∷ ts) d zero others inside = refl
wish-by wish (t ∷ ts) d (suc i) others inside =
    let next : suc (i + 1) ≡ suc i + 1 = omega arith in
    ap (λ (wishes : List ℕ). wish t ∷ wishes) (wish-by wish ts d i others (omega (arith, inside)))
    ∙ ap (λ (n : ℕ). wishes_of wish (take n (t ∷ ts)) others) next

-- the next terminal's wish
pub wishes-next : (wish : Terminal → ℕ) (ts : List Terminal) (d : Terminal) (i : ℕ) (wishes : List ℕ) (next : ℕ)
    → i < length ts → length ts ≤ 8 → wishes ≡ wishes_of wish (take i ts) (8 - i)
    → next ≡ wish (slice_index_or ts i d)
    → slice_set wishes i next ≡ wishes_of wish (take (i + 1) ts) (8 - (i + 1))
wishes-next wish ts d i wishes next inside few so is =
    let more : 8 - i ≡ suc (8 - (i + 1)) = omega (arith, inside, few) in
    rw (so, is, more) (wish-by wish ts d i (8 - (i + 1)) inside)
