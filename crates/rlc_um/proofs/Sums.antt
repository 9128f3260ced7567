-- SDUs with one more.
use Rattle.std.proofs.Common.{◌≡◌, ℕ, ◌+◌, ◌<◌, ◌≤◌, List, [], ◌∷◌, ◌++◌, length, length-append, arith, sym, subst}
use Rattle.rlc_queue.specs.Waiting.{HaveOctets, total}

total-push : (sdus : List (List ℕ)) (x : List ℕ) → total (sdus ++ x ∷ []) ≡ total sdus + length x
total-push [] x = omega arith
total-push (y ∷ ys) x = let ih = total-push ys x in omega arith

pub total_push : (sdus more : List (List ℕ)) (x : List ℕ) (n : ℕ) → more ≡ sdus ++ x ∷ [] → total sdus ≡ n
    → total more ≡ n + length x
total_push sdus more x n e t = let h = total-push sdus x in rw e (omega arith)

pub fits_push : (sdus more : List (List ℕ)) (x : List ℕ) (n k : ℕ) → more ≡ sdus ++ x ∷ [] → n + length sdus < k
    → n + length more ≤ k
fits_push sdus more x n k e h = let l = length-append sdus (x ∷ []) in rw e (omega arith)

some-push : (sdus : List (List ℕ)) (x : List ℕ) → HaveOctets sdus → 0 < length x → HaveOctets (sdus ++ x ∷ [])
some-push [] x some one = (one, tt)
some-push (y ∷ ys) x some one = (some.0, some-push ys x some.1 one)

pub some_push : (sdus more : List (List ℕ)) (x : List ℕ) → more ≡ sdus ++ x ∷ [] → HaveOctets sdus → 0 < length x
    → HaveOctets more
some_push sdus more x e some one = subst (λ (l : List (List ℕ)). HaveOctets l) (sym e) (some-push sdus x some one)

pub ruleset pushes = (total_push, fits_push)
