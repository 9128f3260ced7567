-- The gaps in what is handed up, by the tags.
use Rattle.std.proofs.Common.{◌≡◌, ◌<◌, ℕ, suc, ◌+◌, ◌-◌, ◌^◌, ◌==◌, nat_lt, Bool, true, false, ◌||◌, if◌then◌else◌}
use Rattle.std.proofs.Common.{List, [], ◌∷◌, ◌++◌, map, refl, ap, sym, ◌∙◌, arith}
use Rattle.std.proofs.lemmas.Bool.Decides.{nat_tests}
use Rattle.law_deliver.specs.UmDelivery.Delivery.{FewBetween}
use Rattle.um_losses.specs.Gaps.{counted, all_counted}
use Rattle.um_losses.specs.declared.gaps.Gaps.{Gaps}
use Rattle.um_losses.specs.Tags.{last_tag}

-- one above the last COUNT, and whether one gap was long
abbrev pub tags_next : ℕ → List ℕ → ℕ
tags_next low [] = low
tags_next low (t ∷ ts) = tags_next (if t == 0 then low else t) ts

abbrev pub tags_long : ℕ → ℕ → List ℕ → Bool
tags_long counts low [] = false
tags_long counts low (t ∷ ts) = (if t == 0 then false else nat_lt (low + counts) t)
    || tags_long counts (if t == 0 then low else t) ts

pub record IsCounted (sdus : List (List ℕ)) (g h : Gaps) : Type 0 where
  pub width_is : h.width ≡ g.width
  pub counts_are : h.counts ≡ g.counts
  pub top_is : h.top ≡ g.top
  pub next_is : h.next ≡ tags_next g.next (map last_tag sdus)
  pub long_is : h.long ≡ (g.long || tags_long g.counts g.next (map last_tag sdus))

or_false : (b : Bool) → b ≡ (b || false)
or_false true = refl
or_false false = refl

or_more : (x y z : Bool) → ((x || y) || z) ≡ (x || (y || z))
or_more true y z = refl
or_more false y z = refl

counted_width : (tag : ℕ) (g : Gaps) → ((counted tag g).width ≡ g.width) × ((counted tag g).counts ≡ g.counts)
    × ((counted tag g).top ≡ g.top)
counted_width tag g = by_test (tag == 0) refl
  where
    by_test : (b : Bool) → (tag == 0) ≡ b → ((counted tag g).width ≡ g.width) × ((counted tag g).counts ≡ g.counts)
        × ((counted tag g).top ≡ g.top)
    by_test true e = (rw e refl, rw e refl, rw e refl)
    by_test false e = (rw e refl, rw e refl, rw e refl)

counted_next : (tag : ℕ) (g : Gaps) → (counted tag g).next ≡ (if tag == 0 then g.next else tag)
counted_next tag g = by_test (tag == 0) refl
  where
    by_test : (b : Bool) → (tag == 0) ≡ b → (counted tag g).next ≡ (if tag == 0 then g.next else tag)
    by_test true e = rw e refl
    by_test false e = rw e refl

counted_long : (tag : ℕ) (g : Gaps)
    → (counted tag g).long ≡ (g.long || (if tag == 0 then false else nat_lt (g.next + g.counts) tag))
counted_long tag g = by_test (tag == 0) refl
  where
    by_test : (b : Bool) → (tag == 0) ≡ b
        → (counted tag g).long ≡ (g.long || (if tag == 0 then false else nat_lt (g.next + g.counts) tag))
    by_test true e = rw e (or_false g.long)
    by_test false e = rw e refl

pub all_counted_so : (sdus : List (List ℕ)) (g : Gaps) → IsCounted sdus g (all_counted sdus g)
all_counted_so [] g = record {
  width_is = refl;
  counts_are = refl;
  top_is = refl;
  next_is = refl;
  long_is = or_false g.long;
}
all_counted_so (sdu ∷ sdus) g =
    let tag = last_tag sdu in
    let k : Gaps = counted tag g in
    let rest = all_counted_so sdus k in
    let kept = counted_width tag g in
    let ts = map last_tag sdus in
    record {
      width_is = rest.width_is ∙ kept.0;
      counts_are = rest.counts_are ∙ kept.1;
      top_is = rest.top_is ∙ kept.2;
      next_is = rest.next_is ∙ ap (λ (n : ℕ). tags_next n ts) (counted_next tag g);
      long_is =
          rest.long_is
          ∙ ap (λ (b : Bool). b || tags_long k.counts k.next ts) (counted_long tag g)
          ∙ ap (λ (n : ℕ). (g.long || (if tag == 0 then false else nat_lt (g.next + g.counts) tag))
          || tags_long n k.next ts) kept.1
          ∙ ap (λ (n : ℕ). (g.long || (if tag == 0 then false else nat_lt (g.next + g.counts) tag))
          || tags_long g.counts n ts) (counted_next tag g)
          ∙ or_more g.long (if tag == 0 then false else nat_lt (g.next + g.counts) tag)
          (tags_long g.counts (if tag == 0 then g.next else tag) ts);
    }

-- ---- more of them

pub next_then : (low : ℕ) (xs ys : List ℕ) → tags_next low (xs ++ ys) ≡ tags_next (tags_next low xs) ys
next_then low [] ys = refl
next_then low (x ∷ xs) ys = next_then (if x == 0 then low else x) xs ys

pub long_then : (counts low : ℕ) (xs ys : List ℕ)
    → tags_long counts low (xs ++ ys) ≡ (tags_long counts low xs || tags_long counts (tags_next low xs) ys)
long_then counts low [] ys = refl
long_then counts low (x ∷ xs) ys =
    let here = if x == 0 then false else nat_lt (low + counts) x in
    ap (λ (b : Bool). here || b) (long_then counts (if x == 0 then low else x) xs ys)
    ∙ sym (or_more here (tags_long counts (if x == 0 then low else x) xs)
    (tags_long counts (tags_next (if x == 0 then low else x) xs) ys))

pub both_false : (x y : Bool) → (x || y) ≡ false → (x ≡ false) × (y ≡ false)
both_false true y e = absurd cc
both_false false y e = (refl, e)

-- ---- tags of places

pub few : (bits low : ℕ) (places : List ℕ) → 0 < 2 ^ bits → tags_long (2 ^ bits) low (map suc places) ≡ false
    → FewBetween bits low places
few bits low [] some e = tt
few bits low (p ∷ ps) some e =
    let tag : (suc p == 0) ≡ false = grind (arith, nat_tests) in
    let parts = both_false (if suc p == 0 then false else nat_lt (low + 2 ^ bits) (suc p))
    (tags_long (2 ^ bits) (if suc p == 0 then low else suc p) (map suc ps)) e in
    let near : nat_lt (low + 2 ^ bits) (suc p) ≡ false =
    sym (ap (λ (b : Bool). if b then false else nat_lt (low + 2 ^ bits) (suc p)) tag) ∙ parts.0 in
    let rest : tags_long (2 ^ bits) (suc p) (map suc ps) ≡ false =
    sym (ap (λ (b : Bool). tags_long (2 ^ bits) (if b then low else suc p) (map suc ps)) tag) ∙ parts.1 in
    let next : suc p ≡ p + 1 = omega arith in (
      below (2 ^ bits) near some,
      few bits (p + 1) ps some (sym (ap (λ (n : ℕ). tags_long (2 ^ bits) n (map suc ps)) next) ∙ rest),
    )
  where
    below : (n : ℕ) → nat_lt (low + n) (suc p) ≡ false → 0 < n → p - low < n
    below n e some = grind (arith, nat_tests, e)
