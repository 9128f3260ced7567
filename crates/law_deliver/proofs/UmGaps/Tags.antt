-- PDUs with tags in the place of octets: each SDU that they join to ends with the tag of its place.
use Rattle.std.proofs.Common.{◌≡◌, ◌⊎◌, inl, inr, ◌<◌, ◌≤◌, ℕ, zero, suc, ◌+◌, ◌-◌, ◌^◌, nat_lt, Bool, true, false, not}
use Rattle.std.proofs.Common.{◌||◌, if◌then◌else◌, List, [], ◌∷◌, ◌++◌, length, map, Option, Some, None, is_some}
use Rattle.std.proofs.Common.{slice_get, slice_index_or, length-append, refl, ap, sym, subst, ◌∙◌, arith}
use Rattle.std.proofs.lemmas.Bool.Decides.{nat_tests}
use Rattle.l2_num.specs.Ascending.{AreBetween}
use Rattle.rlc_pdu.specs.Pdus.{UmdPdu}
use Rattle.rlc_um.specs.Joined.{Joined, opened, finished, left_open, with_element, with_elements}
use Rattle.law_words.specs.Lists.{those}
use Rattle.um_losses.specs.Laws.{AreAlike}
use Rattle.um_losses.specs.Tags.{octets_of, last_tag, tags, tagged}
use Rattle.um_losses.proofs.LastTag.{reads}
use Rattle.law_deliver.specs.UmGaps.Whats.{fields}

-- ---- PDUs that are alike

pub tags_many : (tag step n : ℕ) → length (tags tag step n) ≡ n
tags_many tag step zero = refl
tags_many tag step (suc n) = ap suc (tags_many (tag + step) step n)

pub tagged_alike : (first : ℕ) (p : UmdPdu) → AreAlike p (tagged (Some first) (fields p))
tagged_alike first p = record { sn = refl; fi = refl; elements = sym (tags_many (first + 1) 1 (length p.elements)) }

abbrev pub AllAlike : List UmdPdu → List UmdPdu → Type 0
AllAlike [] [] = Unit {0}
AllAlike [] (q ∷ qs) = ⊥
AllAlike (p ∷ ps) [] = ⊥
AllAlike (p ∷ ps) (q ∷ qs) = AreAlike p q × AllAlike ps qs

pub alike_push : (ps qs : List UmdPdu) (p q : UmdPdu) → AllAlike ps qs → AreAlike p q
    → AllAlike (ps ++ p ∷ []) (qs ++ q ∷ [])
alike_push [] [] p q h a = (a, tt)
alike_push [] (x ∷ xs) p q h a = absurd h
alike_push (x ∷ xs) [] p q h a = absurd h
alike_push (x ∷ xs) (y ∷ ys) p q h a = (h.0, alike_push xs ys p q h.1 a)

pub alike_many : (ps qs : List UmdPdu) → AllAlike ps qs → length ps ≡ length qs
alike_many [] [] h = refl
alike_many [] (q ∷ qs) h = absurd h
alike_many (p ∷ ps) [] h = absurd h
alike_many (p ∷ ps) (q ∷ qs) h = ap suc (alike_many ps qs h.1)

pub alike_at : (ps qs : List UmdPdu) (k : ℕ) (p q : UmdPdu) → AllAlike ps qs → slice_get ps k ≡ Some p
    → slice_get qs k ≡ Some q → AreAlike p q
alike_at [] [] k p q h d e = let no : None ≡ Some p = d in absurd cc
alike_at [] (y ∷ ys) k p q h d e = absurd h
alike_at (x ∷ xs) [] k p q h d e = absurd h
alike_at (x ∷ xs) (y ∷ ys) zero p q h d e =
    let a : Some x ≡ Some p = d in
    let b : Some y ≡ Some q = e in
    let is : x ≡ p = cc in
    let also : y ≡ q = cc in
    subst (λ (z : UmdPdu). AreAlike z q) is (subst (AreAlike x) also h.0)
alike_at (x ∷ xs) (y ∷ ys) (suc k) p q h d e = alike_at xs ys k p q h.1 d e

-- ---- SDUs that end with tags

abbrev pub EndsWith : List ℕ → ℕ → Type 0
EndsWith sdu tag = (before : List ℕ) × (sdu ≡ before ++ octets_of tag)

-- from one on
abbrev pub TagsFrom : ℕ → List (List ℕ) → Type 0
TagsFrom tag [] = Unit {0}
TagsFrom tag (x ∷ xs) = EndsWith x tag × TagsFrom (tag + 1) xs

tags_push : (tag : ℕ) (xs : List (List ℕ)) (x : List ℕ) → TagsFrom tag xs → EndsWith x (tag + length xs)
    → TagsFrom tag (xs ++ x ∷ [])
tags_push tag [] x h e = let same : tag + 0 ≡ tag = omega arith in (subst (EndsWith x) same e, tt)
tags_push tag (y ∷ ys) x h e = let same : tag + length (y ∷ ys) ≡ tag + 1 + length ys = omega arith in
    (h.0, tags_push (tag + 1) ys x h.1 (subst (EndsWith x) same e))

-- ---- what an element with a tag opens

record Opens (begins : Bool) (x : List ℕ) (part : Option (List ℕ)) : Type 0 where
  sdu : List ℕ
  is : opened begins x part ≡ Some sdu
  before : List ℕ
  ends : sdu ≡ before ++ x

opens : (begins : Bool) (x : List ℕ) (part : Option (List ℕ)) → (begins ≡ true) ⊎ (is_some part ≡ true)
    → Opens begins x part
opens true x part h = record { sdu = x; is = refl; before = []; ends = refl }
opens false x None (inl e) = absurd cc
opens false x None (inr e) = absurd cc
opens false x (Some p) h = record { sdu = p ++ x; is = refl; before = p; ends = refl }

-- SDUs so far, and what is open
pub record AreTagged (ended : ℕ) (open' : Bool) (j : Joined) : Type 0 where
  pub ready : TagsFrom 1 j.ready
  pub ended_is : length j.ready ≡ ended
  pub open_is : is_some j.part ≡ open'

ends_one : (begins : Bool) (t : ℕ) (j : Joined) → (begins ≡ true) ⊎ (is_some j.part ≡ true) → t ≡ length j.ready + 1
    → TagsFrom 1 j.ready → AreTagged t false (with_element begins true (octets_of t) j)
ends_one begins t j h e r =
    let o = opens begins (octets_of t) j.part h in
    let same : t ≡ 1 + length j.ready = omega arith in
    let ended : EndsWith o.sdu (1 + length j.ready) = subst (EndsWith o.sdu) same (o.before, o.ends) in
    subst
    (λ (q : Option (List ℕ)). AreTagged t false
    (record { ready = j.ready ++ finished true q; part = left_open true q })) (sym o.is)
    (record {
      ready = tags_push 1 j.ready o.sdu r ended;
      ended_is = length-append j.ready (o.sdu ∷ []) ∙ sym e;
      open_is = refl;
    })

goes_on : (begins : Bool) (t : ℕ) (j : Joined) → (begins ≡ true) ⊎ (is_some j.part ≡ true) → t ≡ length j.ready + 1
    → TagsFrom 1 j.ready → AreTagged (t - 1) true (with_element begins false (octets_of t) j)
goes_on begins t j h e r =
    let o = opens begins (octets_of t) j.part h in
    let none : j.ready ++ [] ≡ j.ready = nothing_more j.ready in
    subst (λ (q : Option (List ℕ)). AreTagged (t - 1) true
    (record { ready = j.ready ++ finished false q; part = left_open false q })) (sym o.is)
    (subst (λ (xs : List (List ℕ)). AreTagged (t - 1) true (record { ready = xs; part = Some o.sdu })) (sym none)
    (record { ready = r; ended_is = omega arith; open_is = refl }))
  where
    nothing_more : (xs : List (List ℕ)) → xs ++ [] ≡ xs
    nothing_more [] = refl
    nothing_more (x ∷ xs) = ap (λ (ys : List (List ℕ)). x ∷ ys) (nothing_more xs)

one_by : (begins ends : Bool) (t : ℕ) (j : Joined) → (begins ≡ true) ⊎ (is_some j.part ≡ true)
    → t ≡ length j.ready + 1 → TagsFrom 1 j.ready
    → AreTagged (t - (if ends then 0 else 1)) (not ends) (with_element begins (ends || nat_lt 0 0) (octets_of t) j)
one_by begins true t j h e r = let same : t - 0 ≡ t = omega arith in
    subst (λ (n : ℕ). AreTagged n false (with_element begins true (octets_of t) j)) (sym same)
    (ends_one begins t j h e r)
one_by begins false t j h e r = goes_on begins t j h e r

not_last : (ends : Bool) (xs : List (List ℕ)) (n : ℕ) → length xs ≡ suc n → (ends || nat_lt 0 (length xs)) ≡ true
not_last true xs n e = refl
not_last false xs n e = grind (arith, nat_tests, e)

-- those of a PDU: all but the last end an SDU, and the last where it should
pub elements_tag : (n : ℕ) (begins ends : Bool) (t : ℕ) (j : Joined) → (begins ≡ true) ⊎ (is_some j.part ≡ true)
    → t ≡ length j.ready + 1 → TagsFrom 1 j.ready
    → AreTagged ((t + n) - (if ends then 0 else 1)) (not ends) (with_elements begins ends (tags t 1 (suc n)) j)
elements_tag zero begins ends t j h e r =
    let same : t + 0 ≡ t = omega arith in
    subst (λ (m : ℕ). AreTagged (m - (if ends then 0 else 1)) (not ends) (with_elements begins ends (tags t 1 1) j))
    (sym same) (one_by begins ends t j h e r)
elements_tag (suc n) begins ends t j h e r =
    let more = tags (t + 1) 1 (suc n) in
    let last : (ends || nat_lt 0 (length more)) ≡ true = not_last ends more n (tags_many (t + 1) 1 (suc n)) in
    let k : Joined = with_element begins true (octets_of t) j in
    let one = ends_one begins t j h e r in
    let same : t + 1 + n ≡ t + suc n = omega arith in
    let next : t + 1 ≡ length k.ready + 1 = ap (λ (m : ℕ). m + 1) (sym one.ended_is) in
    let rest : AreTagged ((t + 1 + n) - (if ends then 0 else 1)) (not ends) (with_elements true ends more k) =
    elements_tag n true ends (t + 1) k (inl refl) next one.ready in
    subst (λ (b : Bool). AreTagged ((t + suc n) - (if ends then 0 else 1)) (not ends)
    (with_elements true ends more (with_element begins b (octets_of t) j))) (sym last)
    (subst (λ (m : ℕ). AreTagged (m - (if ends then 0 else 1)) (not ends) (with_elements true ends more k)) same rest)

-- ---- tags are read

tag_at : (n : ℕ) (xs : List (List ℕ)) (k : ℕ) → TagsFrom n xs → k < length xs → n + k < 2 ^ 64
    → last_tag (slice_index_or xs k []) ≡ n + k
tag_at n [] k h lt few = absurd (omega (arith, lt))
tag_at n (x ∷ xs) zero h lt few =
    let e = h.0 in
    let same : n + 0 ≡ n = omega arith in
    ap last_tag e.1 ∙ reads e.0 n (omega (arith, few)) ∙ sym same
tag_at n (x ∷ xs) (suc k) h lt few =
    let same : n + 1 + k ≡ n + suc k = omega arith in
    tag_at (n + 1) xs k h.1 (omega (arith, lt)) (omega (arith, few)) ∙ same

between_low : (low : ℕ) (ps : List ℕ) (n : ℕ) → AreBetween low ps n → low ≤ n
between_low low [] n h = h
between_low low (p ∷ ps) n h = let more = between_low (p + 1) ps n h.1 in let from = h.0 in omega (arith, more, from)

pub tags_of : (low : ℕ) (places : List ℕ) (xs : List (List ℕ)) → AreBetween low places (length xs) → TagsFrom 1 xs
    → length xs < 2 ^ 64 → map last_tag (those places xs) ≡ map suc places
tags_of low [] xs h r few = refl
tags_of low (p ∷ ps) xs h r few =
    let within = between_low (p + 1) ps (length xs) h.1 in
    let one : last_tag (slice_index_or xs p []) ≡ 1 + p =
    tag_at 1 xs p r (omega (arith, within)) (omega (arith, within, few)) in
    let same : 1 + p ≡ suc p = omega arith in
    ap (λ (n : ℕ). n ∷ map last_tag (those ps xs)) (one ∙ same)
    ∙ ap (λ (l : List ℕ). suc p ∷ l) (tags_of (p + 1) ps xs h.1 r few)
