-- COUNTs that come one by one.
use Rattle.std.proofs.Common.{◌≡◌, ℕ, zero, suc, ◌+◌, Bool, true, false, List, [], ◌∷◌, ◌++◌, Option}
use Rattle.std.proofs.Common.{Some, None, refl, ap, sym, ◌∙◌, arith, if◌then◌else◌, slice_get, drop}
use Rattle.journal_lives.specs.CountsCome.{CountsCome, with_count, with_counts}
use Rattle.journal_lives.specs.FlowLives.{whole_counts}
use Rattle.journal_account.specs.FlowAccount.{FlowAccount}
use Rattle.journal_account.specs.FlowWholes.{is_whole_kept}

pub counts_both : (xs ys : List (Option ℕ)) (c : CountsCome)
    → with_counts (xs ++ ys) c ≡ with_counts ys (with_counts xs c)
counts_both [] ys c = refl
counts_both (None ∷ xs) ys c = counts_both xs ys c
counts_both (Some x ∷ xs) ys c = counts_both xs ys (with_count x c)

passes_one : (b : Bool) (count : Option ℕ) (rest : List (Option ℕ)) (c : CountsCome)
    → with_counts (if b then count ∷ rest else rest) c
    ≡ with_counts rest (with_counts (if b then count ∷ [] else []) c)
passes_one true count rest c = counts_both (count ∷ []) rest c
passes_one false count rest c = refl

left_at : (counts : List (Option ℕ)) (at : ℕ) (count : Option ℕ) → slice_get counts at ≡ Some count
    → drop at counts ≡ count ∷ drop (at + 1) counts
left_at [] at count is = absurd cc
left_at (x ∷ xs) zero count is = let same : x ≡ count = cc in ap (λ (y : Option ℕ). y ∷ xs) same
left_at (x ∷ xs) (suc at) count is =
    let next : suc at + 1 ≡ suc (at + 1) = omega arith in
    left_at xs at count is ∙ ap (λ (n : ℕ). count ∷ drop n (x ∷ xs)) (sym next)

pub whole_go : (a : FlowAccount) (from at : ℕ) (counts : List (Option ℕ)) (count : Option ℕ) (c : CountsCome)
    → slice_get counts at ≡ Some count
    → with_counts (whole_counts a (from + at) (drop at counts)) c
    ≡ with_counts (whole_counts a (from + (at + 1)) (drop (at + 1) counts))
    (with_counts (if is_whole_kept (from + at) a then count ∷ [] else []) c)
whole_go a from at counts count c is =
    let next : from + at + 1 ≡ from + (at + 1) = omega arith in
    rw (left_at counts at count is)
    (passes_one (is_whole_kept (from + at) a) count (whole_counts a (from + at + 1) (drop (at + 1) counts)) c
    ∙ ap (λ (n : ℕ). with_counts (whole_counts a n (drop (at + 1) counts))
    (with_counts (if is_whole_kept (from + at) a then count ∷ [] else []) c)) next)
