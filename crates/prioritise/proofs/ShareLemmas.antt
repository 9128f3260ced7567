-- Shares of a grant by two rounds.
use Rattle.std.proofs.Common.{◌≡◌, ◌<◌, ◌≤◌, ℕ, zero, suc, ◌+◌, ◌-◌, ◌==◌, min, true, false, Option, Some, None, List}
use Rattle.std.proofs.Common.{[], ◌∷◌, length, get_or, set, replicate, sum, get_or-set_same, get_or-set_other, refl, ap}
use Rattle.std.proofs.Common.{sym, subst, ◌∙◌, arith, inl, inr}
use Rattle.std.specs.List.{All, IsDistinct}
use Rattle.std.proofs.lemmas.List.Sums.{sum_by-cons}
use Rattle.std.proofs.lemmas.Bool.Decides.{nat_tests}
use Rattle.std.proofs.Math.ListN.{length-set}
use Rattle.l2_types.specs.declared.channel.Channel.{Channel}
use Rattle.prioritise.specs.Channels.{lcids, AreSound, has}
use Rattle.prioritise.specs.Shares.{Bucketed, Giving, over, bounded, fallen, first_part, first_given, round_one}
use Rattle.prioritise.specs.Shares.{second_part, second_given, round_two, ungiven, first_shared, shared, allotted}
use Rattle.prioritise.specs.Shares.{after_allot}
use Rattle.prioritise.specs.ShareLaws.{IsSound, IsOneOf, FallsBy, IsShared}
use Rattle.prioritise.proofs.ChannelLemmas.{both_false, apart_has}

-- ---- the sum

sum_cons : (x : ℕ) (xs : List ℕ) → sum (x ∷ xs) ≡ x + sum xs
sum_cons x xs = sum_by-cons (λ n. n) x xs

sum_set : (xs : List ℕ) (at v : ℕ) → sum (set xs at v) ≤ sum xs + v
sum_set [] at v = omega arith
sum_set (x ∷ xs) zero v = let one : sum (set (x ∷ xs) zero v) ≡ v + sum xs = sum_cons v xs in
    omega (arith, sum_cons x xs)
sum_set (x ∷ xs) (suc at) v = let one : sum (set (x ∷ xs) (suc at) v) ≡ x + sum (set xs at v) =
    sum_cons x (set xs at v) in omega (arith, sum_cons x xs, sum_set xs at v)

sum_add : (xs : List ℕ) (at y : ℕ) → sum (set xs at (get_or xs at 0 + y)) ≤ sum xs + y
sum_add [] at y = omega arith
sum_add (x ∷ xs) zero y = let one : sum (set (x ∷ xs) zero (x + y)) ≡ x + y + sum xs = sum_cons (x + y) xs in
    omega (arith, sum_cons x xs)
sum_add (x ∷ xs) (suc at) y =
    let one : sum (set (x ∷ xs) (suc at) (get_or xs at 0 + y)) ≡ x + sum (set xs at (get_or xs at 0 + y)) =
    sum_cons x (set xs at (get_or xs at 0 + y)) in
    omega (arith, sum_cons x xs, sum_add xs at y)

sum_none : (n : ℕ) → sum (replicate n 0) ≡ 0
sum_none zero = refl
sum_none (suc n) = sum_none n

bounded_le : (pbr : Option ℕ) (level x : ℕ) → bounded pbr level x ≤ x
bounded_le None level x = omega arith
bounded_le (Some rate) level x = omega arith

first_le : (c : Channel) (needs : List ℕ) (g : Giving) → (first_part c needs g ≤ g.left)
    × (first_part c needs g ≤ get_or needs c.lcid 0)
first_le c needs g =
    let b = bounded_le c.pbr (get_or g.levels c.lcid 0) (min (get_or needs c.lcid 0) g.left) in
    (omega arith, omega arith)

one_sum : (cs : List Channel) (needs : List ℕ) (g : Giving)
    → sum (round_one cs needs g).shares + (round_one cs needs g).left ≤ sum g.shares + g.left
one_sum [] needs g = omega arith
one_sum (c ∷ cs) needs g =
    let x = first_part c needs g in
    let ih = one_sum cs needs (first_given c x g) in
    let fits = first_le c needs g in
    omega (arith, sum_set g.shares c.lcid x, fits.0)

two_sum : (cs : List Channel) (needs : List ℕ) (g : Giving)
    → sum (round_two cs needs g).shares + (round_two cs needs g).left ≤ sum g.shares + g.left
two_sum [] needs g = omega arith
two_sum (c ∷ cs) needs g =
    let y = second_part c needs g in
    let ih = two_sum cs needs (second_given c y g) in
    omega (arith, sum_add g.shares c.lcid y)

-- ---- each channel by itself

-- the channels' LCIDs lie below 11, and no two are the same
abbrev Apart : List Channel → Type 0
Apart [] = Unit {0}
Apart (c ∷ cs) = (c.lcid < 11) × (has c.lcid cs ≡ false) × Apart cs

sound_apart : (cs : List Channel) → All (λ c. c.lcid < 11) cs → IsDistinct ◌==◌ (lcids cs) → Apart cs
unfolding IsDistinct
sound_apart [] a d = tt
sound_apart (c ∷ cs) a d =
    (a 0 c (omega arith), apart_has c.lcid cs d.0, sound_apart cs (λ k x h. a (suc k) x (omega arith)) d.1)

-- a grant on its way has a place for each LCID
record Fits (g : Giving) : Type 0 where
  levels : length g.levels ≡ 11
  shares : length g.shares ≡ 11

first_fits : (c : Channel) (x : ℕ) (g : Giving) → Fits g → Fits (first_given c x g)
first_fits c x g f = record {
  levels = length-set g.levels c.lcid (fallen c.pbr (get_or g.levels c.lcid 0) x) ∙ f.levels;
  shares = length-set g.shares c.lcid x ∙ f.shares;
}

second_fits : (c : Channel) (y : ℕ) (g : Giving) → Fits g → Fits (second_given c y g)
second_fits c y g f =
    record { levels = f.levels; shares = length-set g.shares c.lcid (get_or g.shares c.lcid 0 + y) ∙ f.shares }

one_fits : (cs : List Channel) (needs : List ℕ) (g : Giving) → Fits g → Fits (round_one cs needs g)
one_fits [] needs g f = f
one_fits (c ∷ cs) needs g f =
    one_fits cs needs (first_given c (first_part c needs g) g) (first_fits c (first_part c needs g) g f)

-- what another channel is given leaves a place as it was
record SameAt (lcid : ℕ) (g g' : Giving) : Type 0 where
  level : get_or g'.levels lcid 0 ≡ get_or g.levels lcid 0
  share : get_or g'.shares lcid 0 ≡ get_or g.shares lcid 0

one_others : (cs : List Channel) (needs : List ℕ) (g : Giving) (lcid : ℕ) → has lcid cs ≡ false
    → SameAt lcid g (round_one cs needs g)
one_others [] needs g lcid e = record { level = refl; share = refl }
one_others (c ∷ cs) needs g lcid e =
    let b = both_false (lcid == c.lcid) (has lcid cs) e in
    let apart : lcid ≡ c.lcid → ⊥ = grind (arith, nat_tests) in
    let x = first_part c needs g in
    let ih = one_others cs needs (first_given c x g) lcid b.1 in
    record {
      level = ih.level ∙ get_or-set_other g.levels c.lcid lcid (fallen c.pbr (get_or g.levels c.lcid 0) x) 0 apart;
      share = ih.share ∙ get_or-set_other g.shares c.lcid lcid x 0 apart;
    }

two_others : (cs : List Channel) (needs : List ℕ) (g : Giving) (lcid : ℕ) → has lcid cs ≡ false
    → SameAt lcid g (round_two cs needs g)
two_others [] needs g lcid e = record { level = refl; share = refl }
two_others (c ∷ cs) needs g lcid e =
    let b = both_false (lcid == c.lcid) (has lcid cs) e in
    let apart : lcid ≡ c.lcid → ⊥ = grind (arith, nat_tests) in
    let y = second_part c needs g in
    let ih = two_others cs needs (second_given c y g) lcid b.1 in
    record {
      level = ih.level;
      share = ih.share ∙ get_or-set_other g.shares c.lcid lcid (get_or g.shares c.lcid 0 + y) 0 apart;
    }

two_levels : (cs : List Channel) (needs : List ℕ) (g : Giving) → (round_two cs needs g).levels ≡ g.levels
two_levels [] needs g = refl
two_levels (c ∷ cs) needs g = two_levels cs needs (second_given c (second_part c needs g) g)

-- one of the channels isn't another that comes before it
one_of_has : (c : Channel) (cs : List Channel) → IsOneOf c cs → has c.lcid cs ≡ true
one_of_has c [] o = absurd o
one_of_has c (d ∷ ds) (inl e) = let same : (c.lcid == d.lcid) ≡ true =
    grind (arith, nat_tests, ap (λ (x : Channel). x.lcid) e) in rw same refl
one_of_has c (d ∷ ds) (inr o) = let there = one_of_has c ds o in grind (arith, nat_tests, there)

not_before : (c d : Channel) (ds : List Channel) → has d.lcid ds ≡ false → IsOneOf c ds → c.lcid ≡ d.lcid → ⊥
not_before c d ds none o e =
    let there : has c.lcid ds ≡ true = one_of_has c ds o in
    let here : has c.lcid ds ≡ false = ap (λ (x : ℕ). has x ds) e ∙ none in
    cc

falls : (pbr : Option ℕ) (level need : ℕ)
    → FallsBy pbr level (bounded pbr level need) (fallen pbr level (bounded pbr level need))
falls None level need = refl
falls (Some rate) level need = omega arith

one_falls : (cs : List Channel) (needs : List ℕ) (g : Giving) → Apart cs → Fits g → (c : Channel) → IsOneOf c cs
    → FallsBy c.pbr (get_or g.levels c.lcid 0) (get_or (round_one cs needs g).shares c.lcid 0)
    (get_or (round_one cs needs g).levels c.lcid 0)
one_falls [] needs g a f c o = absurd o
one_falls (d ∷ ds) needs g a f c (inl e) =
    subst (λ x. FallsBy x.pbr (get_or g.levels x.lcid 0) (get_or (round_one (d ∷ ds) needs g).shares x.lcid 0)
    (get_or (round_one (d ∷ ds) needs g).levels x.lcid 0)) (sym e) here
  where
    part : ℕ
    part = first_part d needs g

    level' : get_or (round_one ds needs (first_given d (first_part d needs g) g)).levels d.lcid 0
        ≡ fallen d.pbr (get_or g.levels d.lcid 0) (first_part d needs g)
    level' = (one_others ds needs (first_given d (first_part d needs g) g) d.lcid a.1).level
        ∙ get_or-set_same g.levels d.lcid (fallen d.pbr (get_or g.levels d.lcid 0) (first_part d needs g)) 0
        (omega (arith, f.levels, a.0))

    share' : get_or (round_one ds needs (first_given d (first_part d needs g) g)).shares d.lcid 0 ≡ first_part d needs g
    share' = (one_others ds needs (first_given d (first_part d needs g) g) d.lcid a.1).share
        ∙ get_or-set_same g.shares d.lcid (first_part d needs g) 0 (omega (arith, f.shares, a.0))

    here : FallsBy d.pbr (get_or g.levels d.lcid 0)
        (get_or (round_one ds needs (first_given d (first_part d needs g) g)).shares d.lcid 0)
        (get_or (round_one ds needs (first_given d (first_part d needs g) g)).levels d.lcid 0)
    here = rw (level', share') (falls d.pbr (get_or g.levels d.lcid 0) (min (get_or needs d.lcid 0) g.left))
one_falls (d ∷ ds) needs g a f c (inr o) =
    let x = first_part d needs g in
    let ih = one_falls ds needs (first_given d x g) a.2 (first_fits d x g f) c o in
    let same = get_or-set_other g.levels d.lcid c.lcid (fallen d.pbr (get_or g.levels d.lcid 0) x) 0
    (not_before c d ds a.1 o) in
    subst (λ (l : ℕ). FallsBy c.pbr l (get_or (round_one ds needs (first_given d x g)).shares c.lcid 0)
    (get_or (round_one ds needs (first_given d x g)).levels c.lcid 0)) same ih

-- ---- needs

one_within : (cs : List Channel) (needs : List ℕ) (g : Giving) → Apart cs → Fits g → (c : Channel) → IsOneOf c cs
    → get_or (round_one cs needs g).shares c.lcid 0 ≤ get_or needs c.lcid 0
one_within [] needs g a f c o = absurd o
one_within (d ∷ ds) needs g a f c (inl e) =
    subst (λ x. get_or (round_one (d ∷ ds) needs g).shares x.lcid 0 ≤ get_or needs x.lcid 0) (sym e) here
  where
    here : get_or (round_one ds needs (first_given d (first_part d needs g) g)).shares d.lcid 0 ≤ get_or needs d.lcid 0
    here =
        let share = (one_others ds needs (first_given d (first_part d needs g) g) d.lcid a.1).share in
        let given = get_or-set_same g.shares d.lcid (first_part d needs g) 0 (omega (arith, f.shares, a.0)) in
        let fits = first_le d needs g in
        rw (share, given) fits.1
one_within (d ∷ ds) needs g a f c (inr o) =
    one_within ds needs (first_given d (first_part d needs g) g) a.2 (first_fits d (first_part d needs g) g f) c o

two_share : (d : Channel) (ds : List Channel) (needs : List ℕ) (g : Giving) → Apart (d ∷ ds) → Fits g
    → get_or (round_two (d ∷ ds) needs g).shares d.lcid 0 ≡ get_or g.shares d.lcid 0 + second_part d needs g
two_share d ds needs g a f =
    (two_others ds needs (second_given d (second_part d needs g) g) d.lcid a.1).share
    ∙ get_or-set_same g.shares d.lcid (get_or g.shares d.lcid 0 + second_part d needs g) 0
    (omega (arith, f.shares, a.0))

two_same : (c d : Channel) (ds : List Channel) (y : ℕ) (g : Giving) → has d.lcid ds ≡ false → IsOneOf c ds
    → get_or (second_given d y g).shares c.lcid 0 ≡ get_or g.shares c.lcid 0
two_same c d ds y g none o =
    get_or-set_other g.shares d.lcid c.lcid (get_or g.shares d.lcid 0 + y) 0 (not_before c d ds none o)

two_within : (cs : List Channel) (needs : List ℕ) (g : Giving) → Apart cs → Fits g → (c : Channel) → IsOneOf c cs
    → get_or g.shares c.lcid 0 ≤ get_or needs c.lcid 0
    → get_or (round_two cs needs g).shares c.lcid 0 ≤ get_or needs c.lcid 0
two_within [] needs g a f c o le = absurd o
two_within (d ∷ ds) needs g a f c (inl e) le =
    subst (λ x. get_or g.shares x.lcid 0 ≤ get_or needs x.lcid 0
    → get_or (round_two (d ∷ ds) needs g).shares x.lcid 0 ≤ get_or needs x.lcid 0) (sym e) here le
  where
    here : get_or g.shares d.lcid 0 ≤ get_or needs d.lcid 0
        → get_or (round_two (d ∷ ds) needs g).shares d.lcid 0 ≤ get_or needs d.lcid 0
    here low = rw (two_share d ds needs g a f) (omega arith)
two_within (d ∷ ds) needs g a f c (inr o) le =
    two_within ds needs (second_given d (second_part d needs g) g) a.2 (second_fits d (second_part d needs g) g f) c o
    (rw (two_same c d ds (second_part d needs g) g a.1 o) le)

-- what the channels still need
abbrev rest_of : List Channel → List ℕ → List ℕ → ℕ
rest_of [] needs shares = 0
rest_of (c ∷ cs) needs shares = (get_or needs c.lcid 0 - get_or shares c.lcid 0) + rest_of cs needs shares

abbrev all_of : List Channel → List ℕ → ℕ
all_of [] needs = 0
all_of (c ∷ cs) needs = get_or needs c.lcid 0 + all_of cs needs

all_is : (cs : List Channel) (needs : List ℕ) → over cs needs ≡ all_of cs needs
all_is [] needs = refl
all_is (c ∷ cs) needs = sum_by-cons (λ (d : Channel). get_or needs d.lcid 0) c cs
    ∙ ap (λ (n : ℕ). get_or needs c.lcid 0 + n) (all_is cs needs)

all_same : (cs : List Channel) (xs : List ℕ) (lcid v : ℕ) → has lcid cs ≡ false
    → all_of cs (set xs lcid v) ≡ all_of cs xs
all_same [] xs lcid v e = refl
all_same (c ∷ cs) xs lcid v e =
    let b = both_false (lcid == c.lcid) (has lcid cs) e in
    let apart : c.lcid ≡ lcid → ⊥ = grind (arith, nat_tests) in
    rw (get_or-set_other xs lcid c.lcid v 0 apart, all_same cs xs lcid v b.1) refl

sum_without : (xs : List ℕ) (at : ℕ) → sum (set xs at 0) + get_or xs at 0 ≡ sum xs
sum_without [] at = refl
sum_without (x ∷ xs) zero = omega (arith, sum_cons x xs, sum_cons 0 xs)
sum_without (x ∷ xs) (suc at) = let one : sum (set (x ∷ xs) (suc at) 0) ≡ x + sum (set xs at 0) =
    sum_cons x (set xs at 0) in omega (arith, one, sum_cons x xs, sum_without xs at)

-- channels of different LCIDs have no more together than all LCIDs
all_le : (cs : List Channel) (xs : List ℕ) → Apart cs → all_of cs xs ≤ sum xs
all_le [] xs a = omega arith
all_le (c ∷ cs) xs a =
    let ih = all_le cs (set xs c.lcid 0) a.2 in
    omega (arith, ih, all_same cs xs c.lcid 0 a.1, sum_without xs c.lcid)

rest_same : (cs : List Channel) (needs shares : List ℕ) (lcid v : ℕ) → has lcid cs ≡ false
    → rest_of cs needs (set shares lcid v) ≡ rest_of cs needs shares
rest_same [] needs shares lcid v e = refl
rest_same (c ∷ cs) needs shares lcid v e =
    let b = both_false (lcid == c.lcid) (has lcid cs) e in
    let apart : c.lcid ≡ lcid → ⊥ = grind (arith, nat_tests) in
    rw (get_or-set_other shares lcid c.lcid v 0 apart, rest_same cs needs shares lcid v b.1) refl

-- a grant that is enough is enough for what is left after round one
one_enough : (cs : List Channel) (needs : List ℕ) (g : Giving) (more : ℕ) → Apart cs → Fits g
    → all_of cs needs + more ≤ g.left → rest_of cs needs (round_one cs needs g).shares + more
    ≤ (round_one cs needs g).left
one_enough [] needs g more a f le = le
one_enough (d ∷ ds) needs g more a f le =
    let x = first_part d needs g in
    let fits = first_le d needs g in
    let ih = one_enough ds needs (first_given d x g) ((get_or needs d.lcid 0 - x) + more) a.2 (first_fits d x g f)
    (omega (arith, fits.0, fits.1)) in
    let share = (one_others ds needs (first_given d x g) d.lcid a.1).share in
    let given = get_or-set_same g.shares d.lcid x 0 (omega (arith, f.shares, a.0)) in
    rw (share, given) (omega (arith, ih))

two_met : (cs : List Channel) (needs : List ℕ) (g : Giving) → Apart cs → Fits g → rest_of cs needs g.shares ≤ g.left
    → (c : Channel) → IsOneOf c cs → get_or g.shares c.lcid 0 ≤ get_or needs c.lcid 0
    → get_or (round_two cs needs g).shares c.lcid 0 ≡ get_or needs c.lcid 0
two_met [] needs g a f most c o le = absurd o
two_met (d ∷ ds) needs g a f most c (inl e) le =
    subst (λ x. get_or g.shares x.lcid 0 ≤ get_or needs x.lcid 0
    → get_or (round_two (d ∷ ds) needs g).shares x.lcid 0 ≡ get_or needs x.lcid 0) (sym e) here le
  where
    here : get_or g.shares d.lcid 0 ≤ get_or needs d.lcid 0
        → get_or (round_two (d ∷ ds) needs g).shares d.lcid 0 ≡ get_or needs d.lcid 0
    here low = rw (two_share d ds needs g a f) (omega arith)
two_met (d ∷ ds) needs g a f most c (inr o) le =
    let y = second_part d needs g in
    let same = rest_same ds needs g.shares d.lcid (get_or g.shares d.lcid 0 + y) a.1 in
    two_met ds needs (second_given d y g) a.2 (second_fits d y g f) (rw same (omega arith)) c o
    (rw (two_same c d ds y g a.1 o) le)

-- ---- nothing of the grant is lost

sum_put : (xs : List ℕ) (at v : ℕ) → at < length xs → sum (set xs at v) + get_or xs at 0 ≡ sum xs + v
sum_put [] at v lt = absurd (omega (arith, lt))
sum_put (x ∷ xs) zero v lt = omega (arith, sum_cons x xs, sum_cons v xs)
sum_put (x ∷ xs) (suc at) v lt = let one : sum (set (x ∷ xs) (suc at) v) ≡ x + sum (set xs at v) =
    sum_cons x (set xs at v) in omega (arith, one, sum_cons x xs, sum_put xs at v (omega (arith, lt)))

abbrev AreUnshared : List Channel → Giving → Type 0
AreUnshared cs g = (c : Channel) → IsOneOf c cs → get_or g.shares c.lcid 0 ≡ 0

still_unshared : (d : Channel) (ds : List Channel) (x : ℕ) (g : Giving) → has d.lcid ds ≡ false
    → AreUnshared (d ∷ ds) g → AreUnshared ds (first_given d x g)
still_unshared d ds x g none u c o =
    get_or-set_other g.shares d.lcid c.lcid x 0 (not_before c d ds none o) ∙ u c (inr o)

one_kept : (cs : List Channel) (needs : List ℕ) (g : Giving) → Apart cs → Fits g → AreUnshared cs g
    → sum (round_one cs needs g).shares + (round_one cs needs g).left ≡ sum g.shares + g.left
one_kept [] needs g a f u = refl
one_kept (d ∷ ds) needs g a f u =
    let x = first_part d needs g in
    let fits = first_le d needs g in
    let ih = one_kept ds needs (first_given d x g) a.2 (first_fits d x g f) (still_unshared d ds x g a.1 u) in
    omega (arith, ih, fits.0, u d (inl refl), sum_put g.shares d.lcid x (omega (arith, f.shares, a.0)))

two_kept : (cs : List Channel) (needs : List ℕ) (g : Giving) → Apart cs → Fits g
    → sum (round_two cs needs g).shares + (round_two cs needs g).left ≡ sum g.shares + g.left
two_kept [] needs g a f = refl
two_kept (d ∷ ds) needs g a f =
    let y = second_part d needs g in
    let ih = two_kept ds needs (second_given d y g) a.2 (second_fits d y g f) in
    omega (arith, ih, sum_put g.shares d.lcid (get_or g.shares d.lcid 0 + y) (omega (arith, f.shares, a.0)))

-- what round one gives is needed no more
one_rest : (cs : List Channel) (needs : List ℕ) (g : Giving) → Apart cs → Fits g
    → rest_of cs needs (round_one cs needs g).shares + g.left ≡ all_of cs needs + (round_one cs needs g).left
one_rest [] needs g a f = refl
one_rest (d ∷ ds) needs g a f =
    let x = first_part d needs g in
    let fits = first_le d needs g in
    let ih = one_rest ds needs (first_given d x g) a.2 (first_fits d x g f) in
    let share = (one_others ds needs (first_given d x g) d.lcid a.1).share in
    let given = get_or-set_same g.shares d.lcid x 0 (omega (arith, f.shares, a.0)) in
    rw (share, given) (omega (arith, ih, fits.0, fits.1))

-- round two leaves what nobody needs
two_left : (cs : List Channel) (needs : List ℕ) (g : Giving) → Apart cs
    → (round_two cs needs g).left ≡ g.left - rest_of cs needs g.shares
two_left [] needs g a = omega arith
two_left (d ∷ ds) needs g a =
    let y = second_part d needs g in
    let ih = two_left ds needs (second_given d y g) a.2 in
    let same = rest_same ds needs g.shares d.lcid (get_or g.shares d.lcid 0 + y) a.1 in
    omega (arith, ih, same)

-- ---- the whole

abbrev nought : ℕ
nought = 0

none_given : (n p : ℕ) → get_or (replicate n nought) p nought ≡ nought
none_given zero p = refl
none_given (suc n) zero = refl
none_given (suc n) (suc p) = none_given n p

pub within_grant : (b : Bucketed) (needs : List ℕ) (grant : ℕ) → AreSound b.channels
    → over b.channels (allotted b needs grant) ≤ grant
unfolding allotted shared first_shared
within_grant b needs grant s =
    let g = ungiven b grant in
    let one = round_one b.channels needs g in
    let shares = (round_two b.channels needs one).shares in
    omega (
      arith,
      all_is b.channels shares,
      all_le b.channels shares (sound_apart b.channels s.within s.distinct),
      one_sum b.channels needs g,
      two_sum b.channels needs one,
      sum_none 11,
    )

pub shared_by : (b : Bucketed) (needs : List ℕ) (grant : ℕ) → IsSound b → IsShared b needs grant
unfolding allotted after_allot shared first_shared
shared_by b needs grant s =
    let cs = b.channels in
    let g = ungiven b grant in
    let one = round_one cs needs g in
    let a = sound_apart cs s.channels.within s.channels.distinct in
    let f : Fits g = record { levels = s.levels; shares = refl } in
    let f1 = one_fits cs needs g f in
    record {
      within_grant = omega (arith, one_sum cs needs g, two_sum cs needs one, sum_none 11);
      from_bucket =
          λ c o. subst (λ (l : List ℕ). FallsBy c.pbr (get_or b.levels c.lcid 0) (get_or one.shares c.lcid 0)
          (get_or l c.lcid 0)) (sym (two_levels cs needs one)) (one_falls cs needs g a f c o);
      within_need = λ c o. two_within cs needs one a f1 c o (one_within cs needs g a f c o);
      enough = λ most c o.
          let left = one_enough cs needs g 0 a f (omega (arith, all_is cs needs)) in
          two_met cs needs one a f1 (omega (arith, left)) c o (one_within cs needs g a f c o);
      whole = λ most.
          let left = two_left cs needs one a in
          let rest = one_rest cs needs g a f in
          let unshared : AreUnshared cs g = λ c o. none_given 11 c.lcid in
          omega (
            arith,
            all_is cs needs,
            left,
            rest,
            two_kept cs needs one a f1,
            one_kept cs needs g a f unshared,
            sum_none 11,
          );
      none = λ lcid e. (two_others cs needs one lcid e).share ∙ (one_others cs needs g lcid e).share
          ∙ none_given 11 lcid;
    }
