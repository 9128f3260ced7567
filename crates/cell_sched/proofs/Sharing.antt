-- Grants that are given one after the other.
use Rattle.std.proofs.Common.{◌≡◌, ◌≢◌, ◌<◌, ◌≤◌, ◌+◌, ◌-◌, ◌*◌, ◌%◌, ◌∙◌, ℕ, suc, Bool, true, false, not}
use Rattle.std.proofs.Common.{◌||◌, ◌==◌, nat_lt, cond, min, take, List, [], ◌∷◌, length, map, sum, refl}
use Rattle.std.proofs.Common.{ap, sym, subst, arith}
use Rattle.std.proofs.Common.{slice_index, slice_index_or, slice_set, replicate}
use Rattle.std.specs.List.{All, before_first, prefix_len, range_with_len, sum_by}
use Rattle.std.proofs.lemmas.List.{get_or-set_same, get_or-set_other, ext_get_or, get_or-replicate, length-set}
use Rattle.std.proofs.lemmas.List.FromFn.{get_or-map-range_with_len, length-map-range_with_len}
use Rattle.std.proofs.lemmas.List.Sums.{sum_by-cons, sum_by-set, sum_by-le}
use Rattle.std.proofs.lemmas.List.Elements.{All-map}
use Rattle.l2_types.specs.declared.limits.TheConstants.{GREATEST_GRANT}
use Rattle.cell_sched.specs.Grants.{turn_order, those_before, grantable, grant_of, grants_of}
use Rattle.cell_sched.proofs.Orders.{has, is_distinct, are_few, first-true, second-true, distinct, few_all, has-order}
use Rattle.cell_sched.proofs.Orders.{fewer-before}

-- the grants so far, and what is left of the total
pub record Giving : Type 0 where
  pub grants : List ℕ
  pub left : ℕ

abbrev pub giving : List ℕ → ℕ → Giving
giving grants left = record { grants = grants; left = left }

abbrev pub gift : List ℕ → ℕ → Giving → ℕ
gift wishes user g = min (grantable wishes user) g.left

abbrev pub given_to : List ℕ → ℕ → Giving → Giving
given_to wishes user g =
    giving (slice_set g.grants user (gift wishes user g)) (g.left - gift wishes user g)

abbrev pub given : List ℕ → List ℕ → Giving → Giving
given wishes [] g = g
given wishes (user ∷ users) g = given wishes users (given_to wishes user g)

-- the terminals from a place of the order on
abbrev pub from_place : ℕ → ℕ → ℕ → ℕ → List ℕ
from_place users first place n = map (λ k. (first + k) % users) (range_with_len place n)

fewer : (users place : ℕ) → place < users → users - place ≡ suc (users - (place + 1))
fewer users place lt = omega (arith, lt)

pub given_next : (wishes : List ℕ) (users first place : ℕ) (g : Giving) → place < users
    → given wishes (from_place users first place (users - place)) g
    ≡ given wishes (from_place users first (place + 1) (users - (place + 1)))
    (given_to wishes ((first + place) % users) g)
given_next wishes users first place g lt = rw (fewer users place lt) refl

pub given_none : (wishes : List ℕ) (users first : ℕ) (g : Giving)
    → given wishes (from_place users first users (users - users)) g ≡ g
given_none wishes users first g = let none : users - users ≡ 0 = omega arith in rw none refl

-- ---- what each gets

-- the least of a wish and of what those before leave
abbrev part : List ℕ → List ℕ → ℕ → ℕ → ℕ
part wishes users left user =
    min (grantable wishes user) (left - sum_by (grantable wishes) (before_first (λ other. other == user) users))

gets-head : (wishes : List ℕ) (v : ℕ) (vs : List ℕ) (left : ℕ)
    → part wishes (v ∷ vs) left v ≡ min (grantable wishes v) left
gets-head wishes v vs left =
    let is : (v == v) ≡ true = grind arith in let none : left - 0 ≡ left = omega arith in rw (is, none) refl

less-left : (x left s : ℕ) → left - min x left - s ≡ left - (x + s)
less-left x left s = omega arith

take-next : (n v : ℕ) (vs : List ℕ) → take (1 + n) (v ∷ vs) ≡ v ∷ take n vs
take-next n v vs = let next : 1 + n ≡ suc n = omega arith in rw next refl

gets-tail : (wishes : List ℕ) (v : ℕ) (vs : List ℕ) (left user : ℕ) → (v == user) ≡ false
    → part wishes (v ∷ vs) left user ≡ part wishes vs (left - min (grantable wishes v) left) user
gets-tail wishes v vs left user other =
    let f = grantable wishes in
    let before = before_first (λ o. o == user) vs in
    let here : before_first (λ o. o == user) (v ∷ vs) ≡ v ∷ before =
    rw other (take-next (prefix_len (λ o. not (o == user)) vs) v vs) in
    ap (λ (us : List ℕ). min (f user) (left - sum_by f us)) here
    ∙ ap (λ (n : ℕ). min (f user) (left - n)) (sum_by-cons f v before)
    ∙ ap (min (f user)) (sym (less-left (f v) left (sum_by f before)))

abbrev Gets : List ℕ → List ℕ → Giving → ℕ → Type 0
Gets wishes users g user =
    slice_index (given wishes users g).grants user
    ≡ cond (has user users) (part wishes users g.left user) (slice_index g.grants user)

differs : (v user : ℕ) → (v == user) ≡ false → v ≢ user
differs v user is e = let same : (v == user) ≡ true = grind (arith, e) in absurd (cc)

gets-by : (b : Bool) (wishes : List ℕ) (v : ℕ) (vs : List ℕ) (g : Giving) (user : ℕ) → (v == user) ≡ b
    → has v vs ≡ false → v < length g.grants → Gets wishes vs (given_to wishes v g) user
    → Gets wishes (v ∷ vs) g user
gets-by true wishes v vs g user is once lt later =
    let same : v ≡ user = grind arith in
    subst (λ (u : ℕ). slice_index (given wishes (v ∷ vs) g).grants u
    ≡ cond ((v == u) || has u vs) (part wishes (v ∷ vs) g.left u) (slice_index g.grants u)) same
    (let self : (v == v) ≡ true = grind arith in
    let at : slice_index (given wishes vs (given_to wishes v g)).grants v
    ≡ cond (has v vs) (part wishes vs (given_to wishes v g).left v) (slice_index (given_to wishes v g).grants v) =
    subst (Gets wishes vs (given_to wishes v g)) (sym same) later in
    let before = slice_index (given_to wishes v g).grants v in
    at ∙ ap (λ (b : Bool). cond b (part wishes vs (g.left - gift wishes v g) v) before) once
    ∙ get_or-set_same g.grants v (gift wishes v g) 0 lt
    ∙ sym (gets-head wishes v vs g.left)
    ∙ sym (ap (λ (b : Bool). cond (b || has v vs) (part wishes (v ∷ vs) g.left v) (slice_index g.grants v)) self))
gets-by false wishes v vs g user is once lt later =
    let differ : user ≢ v = λ e. differs v user is (sym e) in
    later
    ∙ ap (λ (n : ℕ). cond (has user vs) (part wishes vs (g.left - gift wishes v g) user) n)
    (get_or-set_other g.grants v user (gift wishes v g) 0 differ)
    ∙ ap (λ (n : ℕ). cond (has user vs) n (slice_index g.grants user)) (sym (gets-tail wishes v vs g.left user is))
    ∙ sym (ap (λ (b : Bool). cond (b || has user vs) (part wishes (v ∷ vs) g.left user) (slice_index g.grants user)) is)

not-true : (a : Bool) → not a ≡ true → a ≡ false
not-true true e = cc
not-true false e = refl

pub gets : (wishes users : List ℕ) (g : Giving) (user : ℕ) → is_distinct users ≡ true → are_few users ≡ true
    → length g.grants ≡ 8 → Gets wishes users g user
gets wishes [] g user once small size = refl
gets wishes (v ∷ vs) g user once small size =
    let lt8 = first-true (nat_lt v 8) (are_few vs) small in
    let lt : v < length g.grants = grind (arith, lt8, size) in
    gets-by (v == user) wishes v vs g user refl (not-true (has v vs) (first-true _ _ once)) lt
    (gets wishes vs (given_to wishes v g) user (second-true _ _ once) (second-true _ _ small)
    (length-set g.grants v (gift wishes v g) ∙ size))

-- ---- the whole

size-given : (wishes users : List ℕ) (g : Giving) → length (given wishes users g).grants ≡ length g.grants
size-given wishes [] g = refl
size-given wishes (v ∷ vs) g =
    size-given wishes vs (given_to wishes v g) ∙ length-set g.grants v (gift wishes v g)

abbrev share_of : List ℕ → ℕ → ℕ → ℕ → ℕ → ℕ
share_of wishes users first total user =
    cond (nat_lt user users) (grant_of wishes users first total user) 0

pub all_given : (wishes : List ℕ) (users first total : ℕ) → users ≤ 8 → first < users
    → (given wishes (turn_order users first) (giving (replicate 8 0) total)).grants ≡ grants_of wishes users first total
unfolding grants_of
all_given wishes users first total few8 lt =
    let g = giving (replicate 8 0) total in
    let us = turn_order users first in
    let size = size-given wishes us g in
    ext_get_or 0 (given wishes us g).grants (grants_of wishes users first total)
    (size ∙ sym (length-map-range_with_len (share_of wishes users first total) 0 8))
    (λ user at.
    let small : user < 8 = subst (λ (n : ℕ). user < n) size at in
    let none : 0 + user ≡ user = omega arith in
    gets wishes us g user (distinct users first few8 lt) (few_all users first few8 lt) refl
    ∙ ap (λ (b : Bool). cond b (part wishes us total user) (slice_index g.grants user))
    (has-order users first user few8 lt small)
    ∙ ap (λ (n : ℕ). cond (nat_lt user users) (part wishes us total user) n)
    (get_or-replicate {A = ℕ} 8 user 0 0 small)
    ∙ sym (get_or-map-range_with_len (share_of wishes users first total) 0 8 user user 0 small none))

-- ---- they keep within the total, and within the greatest grant

gift-within : (wishes : List ℕ) (user : ℕ) (g : Giving) → gift wishes user g ≤ g.left
gift-within wishes user g = omega arith

sum-set : (xs : List ℕ) (i x : ℕ) → i < length xs → sum (slice_set xs i x) ≤ sum xs + x
sum-set xs i x lt = let s = sum_by-set (λ (y : ℕ). y) xs i x 0 lt in omega (arith, s)

pub within_total : (wishes users : List ℕ) (g : Giving) → are_few users ≡ true → length g.grants ≡ 8
    → sum (given wishes users g).grants + (given wishes users g).left ≤ sum g.grants + g.left
within_total wishes [] g small size = omega arith
within_total wishes (v ∷ vs) g small size =
    let lt8 = first-true (nat_lt v 8) (are_few vs) small in
    let lt : v < length g.grants = grind (arith, lt8, size) in
    let later : sum (given wishes vs (given_to wishes v g)).grants + (given wishes vs (given_to wishes v g)).left
    ≤ sum (given_to wishes v g).grants + (given_to wishes v g).left =
    within_total wishes vs (given_to wishes v g) (second-true (nat_lt v 8) (are_few vs) small)
    (length-set g.grants v (gift wishes v g) ∙ size) in
    let here = sum-set g.grants v (gift wishes v g) lt in
    let some = gift-within wishes v g in
    omega (arith, later, here, some)

pub shared_within : (wishes : List ℕ) (users first total : ℕ) → users ≤ 8 → first < users
    → sum (grants_of wishes users first total) ≤ total
shared_within wishes users first total few8 lt =
    let g = given wishes (turn_order users first) (giving (replicate 8 0) total) in
    let all : sum g.grants + g.left ≤ 0 + total =
    within_total wishes (turn_order users first) (giving (replicate 8 0) total) (few_all users first few8 lt) refl in
    let whole : sum g.grants ≤ total = omega (arith, all) in
    subst (λ (grants : List ℕ). sum grants ≤ total) (all_given wishes users first total few8 lt) whole

within-by : (b : Bool) (x y : ℕ) → cond b (min (min x GREATEST_GRANT) y) 0 ≤ GREATEST_GRANT
within-by true x y = omega arith
within-by false x y = omega arith

pub each_within : (wishes : List ℕ) (users first total : ℕ)
    → All (λ grant. grant ≤ GREATEST_GRANT) (grants_of wishes users first total)
unfolding grants_of
each_within wishes users first total =
    All-map (λ grant. grant ≤ GREATEST_GRANT) (share_of wishes users first total) (range_with_len 0 8)
    (λ k d lt. within-by (nat_lt (slice_index_or (range_with_len 0 8) k d) users) _ _)

pub each_gets_its_wish : (wishes : List ℕ) (users first total user : ℕ) → users ≤ 8 → first < users → user < users
    → users * GREATEST_GRANT ≤ total
    → slice_index (grants_of wishes users first total) user ≡ min (slice_index wishes user) GREATEST_GRANT
unfolding grants_of
each_gets_its_wish wishes users first total user few8 lt one enough =
    let f = grantable wishes in
    let before = those_before users first user in
    let small : user < 8 = omega (arith, one, few8) in
    let none : 0 + user ≡ user = omega arith in
    let there : nat_lt user users ≡ true = grind (arith, one) in
    let fewer = fewer-before users first user few8 lt one in
    let most : sum_by f before ≤ length before * GREATEST_GRANT =
    sum_by-le f GREATEST_GRANT before (λ k d at. omega arith) in
    let left : GREATEST_GRANT ≤ total - sum_by f before = omega (arith, enough, fewer, most) in
    let whole : min (f user) (total - sum_by f before) ≡ f user = omega (arith, left) in
    get_or-map-range_with_len (share_of wishes users first total) 0 8 user user 0 small none
    ∙ ap (λ (b : Bool). cond b (grant_of wishes users first total user) 0) there
    ∙ whole
