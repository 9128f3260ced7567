-- Where no further element fits, or nothing waits.
use Rattle.std.proofs.Common.{◌≡◌, ℕ, Bool, List, [], ◌∷◌, ◌++◌, length, length-append, map, refl, ap, sym, ◌∙◌, ◌<◌}
use Rattle.std.proofs.Common.{◌≤◌, ◌+◌, ◌⊎◌, true, false, inl, inr, ◌&&◌, nat_lt, drop, take, slice_index_or, arith}
use Rattle.std.proofs.Common.{drop-cons, add-one, subst, if◌then◌else◌}
use Rattle.std.proofs.lemmas.List.{append-nil, drop_all, length-drop, length-take, drop-drop}
use Rattle.std.proofs.lemmas.Grind.{common_steps}
use Rattle.std.proofs.lemmas.Bool.Decides.{nat_tests}
use Rattle.std.specs.List.{concat}
use Rattle.rlc_queue.specs.NewPdu.{room, elements, rest, partial, fits_more, may_follow}
use Rattle.rlc_queue.specs.Waiting.{HaveOctets, behind, first, total, unsent}

pub lens-full : (xs : List ℕ) (head size count used : ℕ) (sdus : List (List ℕ)) → room head size count used ≡ 0
    → xs ++ map length (elements head size count used sdus) ≡ xs
lens-full xs head size count used [] e = append-nil xs
lens-full xs head size count used (x ∷ s) e = rw e (append-nil xs)

pub field-full : (xs : List ℕ) (head size count used : ℕ) (sdus : List (List ℕ)) → room head size count used ≡ 0
    → xs ++ concat (elements head size count used sdus) ≡ xs
field-full xs head size count used [] e = append-nil xs
field-full xs head size count used (x ∷ s) e = rw e (append-nil xs)

pub rest-full : (head size count used : ℕ) (sdus : List (List ℕ)) → room head size count used ≡ 0
    → rest head size count used sdus ≡ sdus
rest-full head size count used [] e = refl
rest-full head size count used (x ∷ s) e = rw e refl

pub partial-full : (head size count used : ℕ) (begun : Bool) (sdus : List (List ℕ)) → room head size count used ≡ 0
    → partial head size count used begun sdus ≡ begun
partial-full head size count used begun [] e = refl
partial-full head size count used begun (x ∷ s) e = rw e refl

pub lens-none : (xs : List ℕ) (head size count used : ℕ) (sdus : List (List ℕ)) → length sdus ≡ 0
    → xs ++ map length (elements head size count used sdus) ≡ xs
lens-none xs head size count used [] e = append-nil xs
lens-none xs head size count used (x ∷ s) e = absurd (omega arith)

pub field-none : (xs : List ℕ) (head size count used : ℕ) (sdus : List (List ℕ)) → length sdus ≡ 0
    → xs ++ concat (elements head size count used sdus) ≡ xs
field-none xs head size count used [] e = append-nil xs
field-none xs head size count used (x ∷ s) e = absurd (omega arith)

pub rest-none : (head size count used : ℕ) (sdus : List (List ℕ)) → length sdus ≡ 0
    → rest head size count used sdus ≡ sdus
rest-none head size count used [] e = refl
rest-none head size count used (x ∷ s) e = absurd (omega arith)

pub partial-none : (head size count used : ℕ) (begun : Bool) (sdus : List (List ℕ)) → length sdus ≡ 0
    → partial head size count used begun sdus ≡ begun
partial-none head size count used begun [] e = refl
partial-none head size count used begun (x ∷ s) e = absurd (omega arith)

pub ruleset ends = (lens-full, field-full, rest-full, partial-full, lens-none, field-none, rest-none, partial-none)

-- one more SDU that is whole
pub fits-step : (head size count used i : ℕ) (sdus : List (List ℕ)) → i < length sdus
    → fits_more head size count used (drop i sdus) ≡ may_follow (room head size count used) (slice_index_or sdus i [])
    && nat_lt 0 (room head size count used)
    && fits_more head size (count + 1) (used + length (slice_index_or sdus i [])) (drop (i + 1) sdus)
fits-step head size count used i sdus h =
    ap (fits_more head size count used) (drop-cons sdus i [] h
    ∙ ap (λ n. slice_index_or sdus i [] ∷ drop n sdus) (sym (add-one i)))

pub fits-end : (head size count used i : ℕ) (sdus : List (List ℕ)) → length sdus ≤ i
    → fits_more head size count used (drop i sdus) ≡ nat_lt 0 (room head size count used)
fits-end head size count used i sdus h = ap (fits_more head size count used) (drop_all i sdus h)

pub ruleset fits = (fits-step, fits-end)

-- the octets that wait
pub octets-push : (sdus : List (List ℕ)) (x : List ℕ) → total (sdus ++ x ∷ []) ≡ total sdus + length x
octets-push [] x = omega arith
octets-push (y ∷ ys) x = let ih = octets-push ys x in omega arith

pub octets-behind : (n : ℕ) (sdus : List (List ℕ)) → total (behind n sdus) + length (take n (first sdus)) ≡ total sdus
octets-behind n [] = grind (arith, common_steps)
octets-behind n (x ∷ xs) = grind (arith, nat_tests, common_steps, length-drop n x, length-take n x)

-- and those that are left, with some of the first sent
pub unsent-push : (n : ℕ) (sdus : List (List ℕ)) (x : List ℕ) → (n ≡ 0) ⊎ (n < length (first sdus))
    → unsent n (sdus ++ x ∷ []) ≡ unsent n sdus ++ x ∷ []
unsent-push n [] x (inl e) = rw e refl
unsent-push n [] x (inr h) = absurd (omega arith)
unsent-push n (y ∷ ys) x h = refl

pub octets-unsent : (n : ℕ) (sdus : List (List ℕ)) (x : List ℕ) → (n ≡ 0) ⊎ (n < length (first sdus))
    → total (unsent n (sdus ++ x ∷ [])) ≡ total (unsent n sdus) + length x
octets-unsent n sdus x h = ap total (unsent-push n sdus x h) ∙ octets-push (unsent n sdus) x

pub still-within : (n : ℕ) (sdus : List (List ℕ)) (x : List ℕ) → (n ≡ 0) ⊎ (n < length (first sdus))
    → (n ≡ 0) ⊎ (n < length (first (sdus ++ x ∷ [])))
still-within n [] x (inl e) = inl e
still-within n [] x (inr h) = absurd (omega arith)
still-within n (y ∷ ys) x h = h

some-append : (sdus : List (List ℕ)) (x : List ℕ) → HaveOctets sdus → 0 < length x → HaveOctets (sdus ++ x ∷ [])
some-append [] x some one = (one, tt)
some-append (y ∷ ys) x some one = (some.0, some-append ys x some.1 one)

pub some-push : (n : ℕ) (sdus : List (List ℕ)) (x : List ℕ) → (n ≡ 0) ⊎ (n < length (first sdus))
    → HaveOctets (unsent n sdus) → 1 ≤ length x → HaveOctets (unsent n (sdus ++ x ∷ []))
some-push n sdus x h some one =
    subst (λ (l : List (List ℕ)). HaveOctets l) (sym (unsent-push n sdus x h))
    (some-append (unsent n sdus) x some one)

pub push-length : (sdus : List (List ℕ)) (x : List ℕ) → length (sdus ++ x ∷ []) ≡ length sdus + 1
push-length sdus x = length-append sdus (x ∷ [])

pub ruleset pushes = (unsent-push, octets-unsent, still-within, some-push, push-length)

-- what is left once some is taken
pub unsent-more : (n most : ℕ) (sdus : List (List ℕ)) → most < length (first (unsent n sdus))
    → unsent (n + most) sdus ≡ behind most (unsent n sdus)
unsent-more n most [] h = absurd (omega arith)
unsent-more n most (x ∷ xs) h = grind (arith, nat_tests, common_steps, drop-drop n most x)

pub unsent-all : (n most : ℕ) (sdus : List (List ℕ)) → length (first (unsent n sdus)) ≤ most
    → unsent 0 (drop 1 sdus) ≡ behind most (unsent n sdus)
unsent-all n most [] h = refl
unsent-all n most (x ∷ []) h = grind (arith, nat_tests, common_steps)
unsent-all n most (x ∷ y ∷ xs) h = grind (arith, nat_tests, common_steps)

some-behind-step : (n : ℕ) (x : List ℕ) (xs : List (List ℕ)) (b : Bool) → nat_lt n (length x) ≡ b → HaveOctets xs
    → HaveOctets (if b then drop n x ∷ xs else xs)
some-behind-step n x xs true e some =
    (let d = length-drop n x in let l : n < length x = grind (arith, nat_tests, e) in omega arith, some)
some-behind-step n x xs false e some = some

pub some-behind : (n : ℕ) (sdus : List (List ℕ)) → HaveOctets sdus → HaveOctets (behind n sdus)
some-behind n [] some = some
some-behind n (x ∷ xs) some = some-behind-step n x xs (nat_lt n (length x)) refl some.1

pub some-more : (n most : ℕ) (sdus : List (List ℕ)) → most < length (first (unsent n sdus))
    → HaveOctets (unsent n sdus) → HaveOctets (unsent (n + most) sdus)
some-more n most sdus h some =
    subst (λ (l : List (List ℕ)). HaveOctets l) (sym (unsent-more n most sdus h))
    (some-behind most (unsent n sdus) some)

pub some-all : (n most : ℕ) (sdus : List (List ℕ)) → length (first (unsent n sdus)) ≤ most
    → HaveOctets (unsent n sdus) → HaveOctets (unsent 0 (drop 1 sdus))
some-all n most sdus h some =
    subst (λ (l : List (List ℕ)). HaveOctets l) (sym (unsent-all n most sdus h))
    (some-behind most (unsent n sdus) some)

pub ruleset pulls = (unsent-more, unsent-all, octets-behind, some-more, some-all)
