-- One share of a grant that is used up is at least an even part of it.
use Rattle.std.proofs.Common.{◌≡◌, ◌<◌, ◌≤◌, inl, inr, ◌⊎◌, ℕ, suc, ◌+◌, ◌-◌, ◌*◌, ◌==◌, Bool, true, false, List}
use Rattle.std.proofs.Common.{[], ◌∷◌, length, get_or, sum, refl, ap, sym, subst, ◌∙◌, arith}
use Rattle.std.proofs.lemmas.List.Sums.{sum_by-cons}
use Rattle.std.proofs.lemmas.Bool.{or_cases, cases_lt}
use Rattle.std.proofs.lemmas.Bool.Decides.{nat_tests}
use Rattle.std.proofs.Math.Nat.{mul-suc}
use Rattle.std.proofs.Math.ListN.{length-set}
use Rattle.l2_types.specs.declared.channel.Channel.{Channel}
use Rattle.prioritise.specs.Channels.{has}
use Rattle.prioritise.specs.Shares.{Bucketed, Giving, first_part, first_given, round_one, second_part, second_given}
use Rattle.prioritise.specs.Shares.{round_two, ungiven, first_shared, shared, allotted}
use Rattle.prioritise.specs.ShareLaws.{IsOneOf, IsShared}
use Rattle.prioritise.proofs.ShareLemmas.{shared_by}
use Rattle.law_drain.specs.Grants.{HasEvenShare, OneShareIsEven}

-- ---- of amounts, one is at least an even part of the sum

sum_cons : (x : ℕ) (xs : List ℕ) → sum (x ∷ xs) ≡ x + sum xs
sum_cons x xs = sum_by-cons (λ n. n) x xs

-- of eleven
abbrev HasEven : List ℕ → ℕ → Type 0
HasEven xs whole = (at : ℕ) × (at < length xs) × (whole ≤ 11 * get_or xs at 0)

even-part : (xs : List ℕ) (whole : ℕ) → HasEven xs whole ⊎ (11 * sum xs ≤ (whole - 1) * length xs)
even-part [] whole = inr (omega arith)
even-part (x ∷ xs) whole = step (cases_lt (11 * x) whole) (even-part xs whole)
  where
    step : (11 * x < whole) ⊎ (whole ≤ 11 * x) → HasEven xs whole ⊎ (11 * sum xs ≤ (whole - 1) * length xs)
        → HasEven (x ∷ xs) whole ⊎ (11 * sum (x ∷ xs) ≤ (whole - 1) * length (x ∷ xs))
    step (inr here) ih = inl (0, omega arith, here)
    step (inl less) (inl there) = inl (suc there.0, omega (arith, there.1), there.2)
    step (inl less) (inr few) =
        let more : (whole - 1) * suc (length xs) ≡ (whole - 1) * length xs + (whole - 1) =
        mul-suc (whole - 1) (length xs) in
        inr (omega (arith, less, few, more, sum_cons x xs))

-- ---- a share has a place for each LCID

pub one-length : (cs : List Channel) (needs : List ℕ) (g : Giving)
    → length (round_one cs needs g).shares ≡ length g.shares
one-length [] needs g = refl
one-length (c ∷ cs) needs g = one-length cs needs (first_given c (first_part c needs g) g)
    ∙ length-set g.shares c.lcid (first_part c needs g)

two-length : (cs : List Channel) (needs : List ℕ) (g : Giving)
    → length (round_two cs needs g).shares ≡ length g.shares
two-length [] needs g = refl
two-length (c ∷ cs) needs g = two-length cs needs (second_given c (second_part c needs g) g)
    ∙ length-set g.shares c.lcid (get_or g.shares c.lcid 0 + second_part c needs g)

allotted-length : (b : Bucketed) (needs : List ℕ) (grant : ℕ) → length (allotted b needs grant) ≡ 11
unfolding allotted shared first_shared
allotted-length b needs grant = two-length b.channels needs (round_one b.channels needs (ungiven b grant))
    ∙ one-length b.channels needs (ungiven b grant)

pub channel-of : (lcid : ℕ) (cs : List Channel) → has lcid cs ≡ true → (c : Channel) × IsOneOf c cs × (c.lcid ≡ lcid)
channel-of lcid [] e = let no' : false ≡ true = e in cc
channel-of lcid (c ∷ cs) e = elim (or_cases (lcid == c.lcid) (has lcid cs) e) [
  | inl here ↦ (c, inl refl, grind (arith, nat_tests))
  | inr there ↦ let more = channel-of lcid cs there in (more.0, inr more.1, more.2)
]

pub one_share_is_even : OneShareIsEven
one_share_is_even b needs grant sound some reached = by (even-part shares grant)
  where
    shares : List ℕ
    shares = allotted b needs grant

    law : IsShared b needs grant
    law = shared_by b needs grant sound

    at-channel : (at : ℕ) → grant ≤ 11 * get_or shares at 0 → (t : Bool) → has at b.channels ≡ t
        → HasEvenShare b needs grant
    at-channel at le true e =
        let c = channel-of at b.channels e in
        record {
          channel = c.0;
          one = c.1;
          share = subst (λ (n : ℕ). grant ≤ 11 * get_or shares n 0) (sym c.2) le;
        }
    at-channel at le false e = absurd (omega (arith, le, law.none at e, some))

    by : HasEven shares grant ⊎ (11 * sum shares ≤ (grant - 1) * length shares) → HasEvenShare b needs grant
    by (inl there) = at-channel there.0 there.2 (has there.0 b.channels) refl
    by (inr few) =
        let eleven : (grant - 1) * length shares ≡ (grant - 1) * 11 =
        ap (λ (n : ℕ). (grant - 1) * n) (allotted-length b needs grant) in
        absurd (omega (arith, few, eleven, law.whole reached, some))
