-- Channels in their order.
use Rattle.std.proofs.Common.{◌≡◌, ℕ, zero, suc, ◌+◌, ◌<◌, ◌≤◌, Bool, true, false, not, ◌&&◌, List, [], ◌∷◌, ◌++◌}
use Rattle.std.proofs.Common.{length, take, drop, Option, None, is_none, slice_set, slice_index_or, refl, ap, sym, ◌∙◌}
use Rattle.std.proofs.Common.{arith}
use Rattle.std.proofs.Common.{append-nil}
use Rattle.journal_failure.specs.declared.sender.Sender.{Sender}
use Rattle.journal_failure.specs.Checking.{is_sender_right, all_right, all_ended, with_end, nothing_told, is_at_rest}
use Rattle.journal_failure.specs.Checking.{same_sn, sn_due}

drop_past : (xs : List Sender) (at : ℕ) → length xs ≤ at → drop at xs ≡ []
drop_past [] zero h = refl
drop_past [] (suc at) h = refl
drop_past (x ∷ xs) zero h = absurd (omega (arith, h))
drop_past (x ∷ xs) (suc at) h = drop_past xs at (omega (arith, h))

take_past : (xs : List Sender) (at : ℕ) → length xs ≤ at → take at xs ≡ xs
take_past [] zero h = refl
take_past [] (suc at) h = refl
take_past (x ∷ xs) zero h = absurd (omega (arith, h))
take_past (x ∷ xs) (suc at) h = ap (λ (ys : List Sender). x ∷ ys) (take_past xs at (omega (arith, h)))

drop_at : (xs : List Sender) (at : ℕ) → at < length xs
    → drop at xs ≡ slice_index_or xs at nothing_told ∷ drop (suc at) xs
drop_at [] at h = absurd (omega (arith, h))
drop_at (x ∷ xs) zero h = refl
drop_at (x ∷ xs) (suc at) h = drop_at xs at (omega (arith, h))

-- ---- whether each is right

abbrev pub right_from : (ℕ → Option ℕ) → ℕ → List Sender → Bool
right_from limits at xs = all_right limits at (drop at xs)

drop_set : (xs : List Sender) (at : ℕ) (s : Sender) → drop (suc at) (slice_set xs at s) ≡ drop (suc at) xs
drop_set [] zero s = refl
drop_set [] (suc at) s = refl
drop_set (x ∷ xs) zero s = refl
drop_set (x ∷ xs) (suc at) s = drop_set xs at s

-- so far, and from a channel on
abbrev pub right_through : Bool → (ℕ → Option ℕ) → ℕ → List Sender → Bool
right_through so_far limits at xs = so_far && right_from limits at xs

and-moved : (a b c : Bool) → ((a && b) && c) ≡ (a && (b && c))
and-moved true b c = refl
and-moved false b c = refl

and-true : (b : Bool) → (b && true) ≡ b
and-true true = refl
and-true false = refl

pub right_next : (so_far : Bool) (limits : ℕ → Option ℕ) (xs ys : List Sender) (at : ℕ) (s : Sender) → at < length xs
    → ys ≡ slice_set xs at s
    → right_through (so_far && is_sender_right (limits at) (slice_index_or xs at nothing_told)) limits (at + 1) ys
    ≡ right_through so_far limits at xs
right_next so_far limits xs ys at s h is =
    let next : at + 1 ≡ suc at = omega arith in
    let here = is_sender_right (limits at) (slice_index_or xs at nothing_told) in
    let behind : drop (at + 1) ys ≡ drop (suc at) xs =
    ap (λ (n : ℕ). drop n ys) next ∙ ap (λ (zs : List Sender). drop (suc at) zs) is ∙ drop_set xs at s in
    ap (λ (zs : List Sender). (so_far && here) && all_right limits (at + 1) zs) behind
    ∙ and-moved so_far here (all_right limits (at + 1) (drop (suc at) xs))
    ∙ ap (λ (zs : List Sender). so_far && all_right limits at zs) (sym (drop_at xs at h))

pub right_past : (so_far : Bool) (limits : ℕ → Option ℕ) (xs : List Sender) (at : ℕ) → length xs ≤ at
    → right_through so_far limits at xs ≡ so_far
right_past so_far limits xs at h =
    ap (λ (zs : List Sender). so_far && all_right limits at zs) (drop_past xs at h) ∙ and-true so_far

-- ---- each ends

abbrev pub ended_from : Bool → (ℕ → Option ℕ) → ℕ → List Sender → List Sender
ended_from hands_over limits at xs = take at xs ++ all_ended hands_over limits at (drop at xs)

end_at : (hands_over : Bool) (limits : ℕ → Option ℕ) (xs : List Sender) (at n : ℕ) → at < length xs
    → take (suc at) (slice_set xs at (with_end hands_over (limits n) (slice_index_or xs at nothing_told)))
    ++ all_ended hands_over limits (n + 1)
    (drop (suc at) (slice_set xs at (with_end hands_over (limits n) (slice_index_or xs at nothing_told))))
    ≡ take at xs ++ all_ended hands_over limits n (drop at xs)
end_at hands_over limits [] at n h = absurd (omega (arith, h))
end_at hands_over limits (x ∷ xs) zero n h = refl
end_at hands_over limits (x ∷ xs) (suc at) n h =
    ap (λ (ys : List Sender). x ∷ ys) (end_at hands_over limits xs at n (omega (arith, h)))

pub ends_next : (hands_over : Bool) (limits : ℕ → Option ℕ) (xs ys : List Sender) (at : ℕ) → at < length xs
    → ys ≡ slice_set xs at (with_end hands_over (limits at) (slice_index_or xs at nothing_told))
    → ended_from hands_over limits (at + 1) ys ≡ ended_from hands_over limits at xs
ends_next hands_over limits xs ys at h is =
    let next : at + 1 ≡ suc at = omega arith in
    ap (λ (n : ℕ). take n ys ++ all_ended hands_over limits (at + 1) (drop n ys)) next
    ∙ ap (λ (zs : List Sender). take (suc at) zs ++ all_ended hands_over limits (at + 1) (drop (suc at) zs)) is
    ∙ end_at hands_over limits xs at at h

pub ends_past : (hands_over : Bool) (limits : ℕ → Option ℕ) (xs : List Sender) (at : ℕ) → length xs ≤ at
    → ended_from hands_over limits at xs ≡ xs
ends_past hands_over limits xs at h =
    ap (λ (zs : List Sender). zs ++ all_ended hands_over limits at (drop at xs)) (take_past xs at h)
    ∙ ap (λ (zs : List Sender). xs ++ all_ended hands_over limits at zs) (drop_past xs at h) ∙ append-nil xs

-- ---- a sender at rest, of a flow that stands at no limit

right-at-rest : (s : Sender) → is_at_rest s ≡ true → is_sender_right None s ≡ true
right-at-rest s h = by s.failed s.told s.twice s.gave_up s.spoke s.known s.begins h
  where
    by : (failed : Bool) (told : Option ℕ) (twice gave_up spoke known begins : Bool)
        → (not failed && (is_none told && (not twice && (not gave_up && (not spoke && not begins))))) ≡ true
        → (not twice && same_sn told (sn_due failed None) && not (known && spoke)) ≡ true
    by false None false false false true false h = refl
    by false None false false false false false h = refl
    by failed told twice gave_up spoke known begins h = cc

abbrev sender : Bool → Option ℕ → Bool → Bool → Bool → Bool → Bool → Sender
sender failed told twice gave_up spoke known begins = record {
  failed = failed;
  told = told;
  twice = twice;
  gave_up = gave_up;
  spoke = spoke;
  known = known;
  begins = begins;
}

ended-at-rest : (hands_over : Bool) (s : Sender) → is_at_rest s ≡ true → with_end hands_over None s ≡ s
ended-at-rest hands_over s h = by hands_over s.failed s.told s.twice s.gave_up s.spoke s.known s.begins h
  where
    by : (hands_over failed : Bool) (told : Option ℕ) (twice gave_up spoke known begins : Bool)
        → (not failed && (is_none told && (not twice && (not gave_up && (not spoke && not begins))))) ≡ true
        → with_end hands_over None (sender failed told twice gave_up spoke known begins)
        ≡ sender failed told twice gave_up spoke known begins
    by true false None false false false true false h = refl
    by true false None false false false false false h = refl
    by false false None false false false true false h = refl
    by false false None false false false false false h = refl
    by hands_over failed told twice gave_up spoke known begins h = cc

set-same : (xs : List Sender) (at : ℕ) → slice_set xs at (slice_index_or xs at nothing_told) ≡ xs
set-same [] zero = refl
set-same [] (suc at) = refl
set-same (x ∷ xs) zero = refl
set-same (x ∷ xs) (suc at) = ap (λ (ys : List Sender). x ∷ ys) (set-same xs at)

-- it is right, and stays as it is
pub right_rests : (so_far : Bool) (limits : ℕ → Option ℕ) (xs : List Sender) (at : ℕ) → at < length xs
    → limits at ≡ None → is_at_rest (slice_index_or xs at nothing_told) ≡ true
    → right_through so_far limits (at + 1) xs ≡ right_through so_far limits at xs
right_rests so_far limits xs at h none rests =
    let s = slice_index_or xs at nothing_told in
    let right : is_sender_right (limits at) s ≡ true =
    ap (λ (o : Option ℕ). is_sender_right o s) none ∙ right-at-rest s rests in
    ap (λ (b : Bool). right_through b limits (at + 1) xs) (sym (and-true so_far)
    ∙ ap (λ (b : Bool). so_far && b) (sym right))
    ∙ right_next so_far limits xs xs at s h (sym (set-same xs at))

pub ends_rest : (hands_over : Bool) (limits : ℕ → Option ℕ) (xs : List Sender) (at : ℕ) → at < length xs
    → limits at ≡ None → is_at_rest (slice_index_or xs at nothing_told) ≡ true
    → ended_from hands_over limits (at + 1) xs ≡ ended_from hands_over limits at xs
ends_rest hands_over limits xs at h none rests =
    let s = slice_index_or xs at nothing_told in
    let same : with_end hands_over (limits at) s ≡ s =
    ap (λ (o : Option ℕ). with_end hands_over o s) none ∙ ended-at-rest hands_over s rests in
    ends_next hands_over limits xs xs at h
    (sym (set-same xs at) ∙ ap (slice_set xs at) (sym same))

pub ruleset walks = (right_next, right_past, ends_next, ends_past, right_rests, ends_rest)
