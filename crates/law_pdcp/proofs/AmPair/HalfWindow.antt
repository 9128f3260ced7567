-- What may be taken lies less than half the numbers above the first COUNT that hasn't come whole.
use Rattle.std.proofs.Common.{◌≡◌, ◌<◌, ◌≤◌, ℕ, zero, suc, ◌+◌, ◌-◌, ◌^◌, Bool, true, false, ◌||◌, List, [], ◌∷◌, ◌++◌}
use Rattle.std.proofs.Common.{map, take, drop, Option, Some, None, refl, arith}
use Rattle.std.specs.List.{AllByRecursion}
use Rattle.l2_num.specs.Ascending.{AreBetween}
use Rattle.pdcp_tx.specs.State.{State, Offer, owed_offers, again_offer, new_offers, offers}
use Rattle.pdcp_tx_store.specs.Waiting.{Waits}
use Rattle.pdcp_tx_store.specs.declared.given.Sent.{Sent}
use Rattle.law_pdcp.specs.AmPair.Flow.{Flow, closed}
use Rattle.law_pdcp.proofs.AmPair.Ending.{closed_more, closed_came}
use Rattle.law_pdcp.proofs.AmPair.Numbers.{counts, again_counts, came, between_end, between_rest}
use Rattle.law_pdcp.proofs.AmPair.Sound.{IsSound}

-- ---- what may be taken lies below the bound

abbrev IsBelow : ℕ → Offer → Type 0
IsBelow bound o = (count : ℕ) → o.count ≡ Some count → count < bound

both : {A : Type 0} (P : A → Type 0) (xs ys : List A) → AllByRecursion P xs → AllByRecursion P ys
    → AllByRecursion P (xs ++ ys)
both P [] ys h k = k
both P (x ∷ xs) ys h k = (h.0, both P xs ys h.1 k)

each : {A : Type 0} (P Q : A → Type 0) (xs : List A) → ((x : A) → P x → Q x) → AllByRecursion P xs
    → AllByRecursion Q xs
each P Q [] f h = tt
each P Q (x ∷ xs) f h = (f x h.0, each P Q xs f h.1)

owed_below : (bound : ℕ) (o : Option (List ℕ)) → AllByRecursion (IsBelow bound) (owed_offers o)
owed_below bound None = tt
owed_below bound (Some report) = (λ count e. let no : None ≡ Some count = e in cc, tt)

again_below : (bound low end : ℕ) (ss : List Sent) → AreBetween low (again_counts ss) end → end ≤ bound
    → AllByRecursion (IsBelow bound) (map again_offer ss)
again_below bound low end [] h le = tt
again_below bound low end (s ∷ ss) h le = (
  λ count e.
      let some : Some s.count ≡ Some count = e in
      let same : s.count ≡ count = cc in
      let last = between_end (s.count + 1) (again_counts ss) end h.1 in
      omega (arith, same, last, le),
  again_below bound (s.count + 1) end ss h.1 le,
)

new_below : (bound k n : ℕ) (ws : List Waits) → n + k ≤ bound
    → AllByRecursion (IsBelow bound) (new_offers n (take k ws))
new_below bound zero n ws le = tt
new_below bound (suc k) n [] le = tt
new_below bound (suc k) n (w ∷ ws) le = (
  λ count e.
      let some : Some n ≡ Some count = e in
      let same : n ≡ count = cc in
      omega (arith, same, le),
  new_below bound k (n + 1) ws (omega (arith, le)),
)

offers_below : (s : State) → AreBetween 0 (again_counts s.again) s.next → s.next ≤ s.bound
    → AllByRecursion (IsBelow s.bound) (offers s)
unfolding offers
offers_below s order near =
    let news = new_offers s.next (take (s.bound - s.next) s.waiting) in
    both (IsBelow s.bound) (owed_offers s.owed ++ map again_offer s.again) news
    (both (IsBelow s.bound) (owed_offers s.owed) (map again_offer s.again) (owed_below s.bound s.owed)
    (again_below s.bound 0 s.next s.again order near))
    (new_below s.bound (s.bound - s.next) s.next s.waiting (omega (arith, near)))

-- ---- what lies half the numbers below the bound has come

-- each COUNT half the numbers or more below what may be taken has arrived whole
abbrev pub TakesInHalf : ℕ → Flow → Offer → Type 0
TakesInHalf bits f o = (count below : ℕ) → o.count ≡ Some count → f.first ≤ below → below + 2 ^ (bits - 1) ≤ count
    → closed f.whole f.passed (drop f.passed f.stream) f.handed below ≡ true

come_by : (a b c : Bool) → (a ≡ true → c ≡ true) → (b ≡ true → c ≡ true) → a || b ≡ true → c ≡ true
come_by true b c f g e = f refl
come_by false b c f g e = g e

pub offers_in_half : (bits : ℕ) (f : Flow) → IsSound bits f → AllByRecursion (TakesInHalf bits f) (offers f.sender)
offers_in_half bits f h =
    let s = f.sender in
    let pdus = drop f.passed f.stream in
    each (IsBelow s.bound) (TakesInHalf bits f) (offers s)
    (λ o under count below e from half.
    let lt = under count e in
    come_by (f.handed below) (came f.whole f.passed pdus below) (closed f.whole f.passed pdus f.handed below)
    (closed_more f.whole pdus f.passed f.handed below) (closed_came f.whole pdus f.passed f.handed below)
    (h.links.floor below from (omega (arith, lt, half))))
    (offers_below s (between_rest 0 (counts pdus) (again_counts s.again) s.next h.links.order) h.sends.near)
