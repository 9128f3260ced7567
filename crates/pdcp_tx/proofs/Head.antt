-- Each take is the head of what may be taken.
use Rattle.std.proofs.Common.{◌≡◌, ℕ, suc, zero, ◌+◌, ◌-◌, List, [], ◌∷◌, ◌++◌, map, drop, take, Option, Some, None}
use Rattle.std.proofs.Common.{refl, ap, ◌∙◌, arith}
use Rattle.pdcp_tx_store.specs.declared.given.Sent.{Sent}
use Rattle.pdcp_tx_store.specs.Waiting.{Waits}
use Rattle.pdcp_tx.specs.State.{State, offers, owed_offers, again_offer, new_offers, took, took_owed, took_again}
use Rattle.pdcp_tx.specs.State.{took_new}

new_head : (k n : ℕ) (ws : List Waits) (left : ℕ) → left ≡ k - 1
    → new_offers (n + 1) (take left (drop 1 ws)) ≡ drop 1 (new_offers n (take k ws))
new_head zero n [] left e = let z : left ≡ 0 = omega arith in rw z refl
new_head zero n (w ∷ ws) left e = let z : left ≡ 0 = omega arith in rw z refl
new_head (suc k) n [] zero e = refl
new_head (suc k) n [] (suc m) e = refl
new_head (suc k) n (w ∷ ws) left e = let z : left ≡ k = omega arith in rw z refl

new_then : (s : State) (ws : List Waits) → take (s.bound - s.next) s.waiting ≡ ws → s.owed ≡ None → s.again ≡ []
    → offers (took_new ws s) ≡ drop 1 (new_offers s.next ws)
unfolding offers
new_then s [] e o a = rw (o, a, e) refl
new_then s (w ∷ ws) e o a =
    rw (o, a) (new_head (s.bound - s.next) s.next s.waiting (s.bound - (s.next + 1)) (omega arith)
    ∙ ap (λ l. drop 1 (new_offers s.next l)) e)

again_then : (s : State) (ss : List Sent) → s.again ≡ ss → s.owed ≡ None
    → offers (took_again ss s) ≡ drop 1 (map again_offer ss ++ new_offers s.next (take (s.bound - s.next) s.waiting))
unfolding offers
again_then s [] a o = new_then s (take (s.bound - s.next) s.waiting) refl o a
again_then s (x ∷ xs) a o = rw o refl

owed_then : (s : State) (r : Option (List ℕ)) → s.owed ≡ r
    → offers (took_owed r s)
    ≡ drop 1 (owed_offers r ++ map again_offer s.again ++ new_offers s.next (take (s.bound - s.next) s.waiting))
unfolding offers
owed_then s None o = again_then s s.again refl o
owed_then s (Some r) o = refl

pub heads : (s : State) → offers (took s) ≡ drop 1 (offers s)
unfolding offers took
heads s = owed_then s s.owed refl
