-- At a COUNT stands one text.
use Rattle.std.proofs.Common.{◌≡◌, ◌⊎◌, inl, inr, ◌≤◌, ℕ, zero, suc, ◌+◌, List, [], ◌∷◌, ◌++◌, Option, Some, None}
use Rattle.std.proofs.Common.{slice_get, subst, ap, sym, ◌∙◌, arith}
use Rattle.bearer_types.specs.declared.BearerConfig.{BearerConfig}
use Rattle.eps_sec.specs.declared.Keys.{Keys}
use Rattle.l2_num.specs.Ascending.{IsAscending}
use Rattle.l2_types.specs.declared.Side.{Side}
use Rattle.pdcp_tx.specs.State.{Offer}
use Rattle.pdcp_tx.specs.Runs.{counts_in}
use Rattle.law_bearer.specs.AnyBearer.Calls.{Call, Step as BearerStep, reached, ends}
use Rattle.law_bearer.specs.AnyBearer.Stream.{AreSdus, AreInOrder, taken, counts}
use Rattle.law_bearer.specs.AnyBearer.Texts.{AreOneText}
use Rattle.law_bearer.proofs.AnyBearer.Streams.{Arrived, arrives, life_order, none_stream}

-- ---- what is taken in order is taken once

ascend : (low : ℕ) (os : List Offer) → AreSdus low os → IsAscending low (counts os)
ascend low [] h = tt
ascend low (o ∷ os) h =
    subst (λ c. IsAscending low (counts_in c ++ counts os)) (sym h.0.is) (h.0.from, ascend (h.0.count + 1) os h.1)

once : (o : Option (List ℕ)) (os : List Offer) → AreInOrder o os → IsAscending 0 (counts os)
once None os h = ascend 0 os h
once (Some report) [] h = tt
once (Some report) (o ∷ os) h =
    subst (λ (x : Offer). IsAscending 0 (counts_in x.count ++ counts os)) (sym h.0) (ascend 0 os h.1)

from_on : (low : ℕ) (os : List Offer) (j n : ℕ) (b : Offer) → AreSdus low os → slice_get os j ≡ Some b
    → b.count ≡ Some n → low ≤ n
from_on low [] j n b h g e = let no : None ≡ Some b = g in cc
from_on low (o ∷ os) zero n b h g e =
    let same : o ≡ b = cc in
    let some : Some h.0.count ≡ Some n = sym h.0.is ∙ ap (λ (x : Offer). x.count) same ∙ e in
    let is : h.0.count ≡ n = cc in
    omega (arith, is, h.0.from)
from_on low (o ∷ os) (suc j) n b h g e = let more = from_on (h.0.count + 1) os j n b h.1 g e in
    omega (arith, more, h.0.from)

-- the first has a COUNT that no later one has
first_alone : (low : ℕ) (o : Offer) (os : List Offer) (j n : ℕ) (b : Offer) → AreSdus low (o ∷ os)
    → slice_get os j ≡ Some b → o.count ≡ Some n → b.count ≡ Some n → ⊥
first_alone low o os j n b h g a e =
    let some : Some h.0.count ≡ Some n = sym h.0.is ∙ a in
    let is : h.0.count ≡ n = cc in
    let above : h.0.count + 1 ≤ n = from_on (h.0.count + 1) os j n b h.1 g e in
    omega (arith, is, above)

sdus_one : (low : ℕ) (os : List Offer) → AreSdus low os → AreOneText os
sdus_one low [] h i j n a b g k d e = let no : None ≡ Some a = g in cc
sdus_one low (o ∷ os) h zero zero n a b g k d e = let same : a ≡ b = cc in ap (λ (x : Offer). x.text) same
sdus_one low (o ∷ os) h zero (suc j) n a b g k d e = let same : o ≡ a = cc in
    absurd (first_alone low o os j n b h k (ap (λ (x : Offer). x.count) same ∙ d) e)
sdus_one low (o ∷ os) h (suc i) zero n a b g k d e = let same : o ≡ b = cc in
    absurd (first_alone low o os i n a h g (ap (λ (x : Offer). x.count) same ∙ e) d)
sdus_one low (o ∷ os) h (suc i) (suc j) n a b g k d e = sdus_one (h.0.count + 1) os h.1 i j n a b g k d e

order_one : (r : Option (List ℕ)) (os : List Offer) → AreInOrder r os → AreOneText os
order_one None os h i j n a b g k d e = sdus_one 0 os h i j n a b g k d e
order_one (Some report) [] h i j n a b g k d e = let no : None ≡ Some a = g in cc
order_one (Some report) (o ∷ os) h zero j n a b g k d e =
    let same : o ≡ a = cc in
    let no : None ≡ Some n = sym (ap (λ (x : Offer). x.count) h.0) ∙ ap (λ (x : Offer). x.count) same ∙ d in
    cc
order_one (Some report) (o ∷ os) h (suc i) zero n a b g k d e =
    let same : o ≡ b = cc in
    let no : None ≡ Some n = sym (ap (λ (x : Offer). x.count) h.0) ∙ ap (λ (x : Offer). x.count) same ∙ e in
    cc
order_one (Some report) (o ∷ os) h (suc i) (suc j) n a b g k d e = sdus_one 0 os h.1 i j n a b g k d e

nothing_one : (os : List Offer) → os ≡ [] → AreOneText os
nothing_one os q i j n a b g k d e = let no : None ≡ Some a = sym (ap (λ l. slice_get l i) q) ∙ g in cc

pub takes_once : (c : BearerConfig) (keys : Keys) (side : Side) (xs : List BearerStep) (cs : List Call)
    → IsAscending 0 (counts (taken (reached c keys side xs) cs))
takes_once c keys side xs cs = by (arrives c keys side xs)
  where
    by : (ends (reached c keys side xs) ≡ None) ⊎ Arrived (reached c keys side xs)
        → IsAscending 0 (counts (taken (reached c keys side xs) cs))
    by (inl q) = rw ((none_stream (reached c keys side xs) cs q).1) tt
    by (inr a) =
        once a.now.tx.owed (taken (reached c keys side xs) cs)
        (life_order (reached c keys side xs) a.now cs a.is a.ordered)

pub in_a_life : (c : BearerConfig) (keys : Keys) (side : Side) (xs : List BearerStep) (cs : List Call)
    → AreOneText (taken (reached c keys side xs) cs)
in_a_life c keys side xs cs = by (arrives c keys side xs)
  where
    by : (ends (reached c keys side xs) ≡ None) ⊎ Arrived (reached c keys side xs)
        → AreOneText (taken (reached c keys side xs) cs)
    by (inl q) = nothing_one (taken (reached c keys side xs) cs) (none_stream (reached c keys side xs) cs q).1
    by (inr a) =
        order_one a.now.tx.owed (taken (reached c keys side xs) cs)
        (life_order (reached c keys side xs) a.now cs a.is a.ordered)
