-- Bearers by their LCID, as one of them changes.
use Rattle.std.proofs.Common.{◌≡◌, ℕ, zero, suc, ◌+◌, ◌==◌, if◌then◌else◌, Bool, true, false, List, [], ◌∷◌, set}
use Rattle.std.proofs.Common.{get_or-set_other, refl, ap, sym, ◌∙◌, arith}
use Rattle.std.proofs.lemmas.Bool.Decides.{nat_tests}
use Rattle.std.proofs.Math.ListN.{length-set}
use Rattle.bearer.specs.Bearer.{Of, Life}
use Rattle.l2_node.specs.Finding.{find, has, no_bearer, bearer_at}

-- another bearer of the same LCID in its place moves none
pub find_set : (l : ℕ) (bs : List (Of Life)) (at : ℕ) (x : Of Life) → (bearer_at bs at).channel.lcid ≡ x.channel.lcid
    → find l (set bs at x) ≡ find l bs
find_set l [] at x e = refl
find_set l (b ∷ bs) zero x e = ap (λ (n : ℕ). if n == l then 0 else find l bs + 1) (sym e)
find_set l (b ∷ bs) (suc at) x e = ap (λ (n : ℕ). if b.channel.lcid == l then 0 else n + 1) (find_set l bs at x e)

pub has_set : (l : ℕ) (bs : List (Of Life)) (at : ℕ) (x : Of Life) → (bearer_at bs at).channel.lcid ≡ x.channel.lcid
    → has l (set bs at x) ≡ has l bs
has_set l bs at x e = rw (find_set l bs at x e, length-set bs at x) refl

-- a bearer that is found has the LCID
found_by : (l : ℕ) (b : Of Life) (bs : List (Of Life)) (t : Bool) → (b.channel.lcid == l) ≡ t
    → (has l bs ≡ true → (bearer_at bs (find l bs)).channel.lcid ≡ l) → has l (b ∷ bs) ≡ true
    → (bearer_at (b ∷ bs) (find l (b ∷ bs))).channel.lcid ≡ l
found_by l b bs true e ih h = rw e (grind (arith, nat_tests))
found_by l b bs false e ih h =
    let there : has l bs ≡ true = grind (arith, nat_tests) in
    let next : find l bs + 1 ≡ suc (find l bs) = omega arith in
    rw e (rw next (ih there))

pub found : (l : ℕ) (bs : List (Of Life)) → has l bs ≡ true → (bearer_at bs (find l bs)).channel.lcid ≡ l
found l [] h = absurd cc
found l (b ∷ bs) h = found_by l b bs (b.channel.lcid == l) refl (found l bs) h

-- a change at the place of one LCID leaves the bearer of another
pub found_other : (l m : ℕ) (bs : List (Of Life)) (x : Of Life) → (l ≡ m → ⊥) → has l bs ≡ true → has m bs ≡ true
    → x.channel.lcid ≡ m
    → bearer_at (set bs (find m bs) x) (find l (set bs (find m bs) x)) ≡ bearer_at bs (find l bs)
found_other l m bs x apart h k e =
    let same : find l (set bs (find m bs) x) ≡ find l bs = find_set l bs (find m bs) x (found m bs k ∙ sym e) in
    let places : find l bs ≡ find m bs → ⊥ =
    λ p. apart (sym (found l bs h) ∙ ap (λ (n : ℕ). (bearer_at bs n).channel.lcid) p ∙ found m bs k) in
    ap (λ (n : ℕ). bearer_at (set bs (find m bs) x) n) same
    ∙ get_or-set_other bs (find m bs) (find l bs) x no_bearer places
