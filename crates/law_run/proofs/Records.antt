-- The records of a run itself: which of them number TTIs.
use Rattle.std.proofs.Common.{◌≡◌, ℕ, zero, suc, ◌+◌, Bool, true, false, cond, List, [], ◌∷◌, ◌++◌, length, append-nil}
use Rattle.std.proofs.Common.{refl, ap, arith, ◌∙◌}
use Rattle.std.specs.List.{filter}
use Rattle.std.proofs.lemmas.List.Elements.{filter-append}
use Rattle.air_record.specs.declared.record.Record.{Record}
use Rattle.air_record.specs.declared.record.Record.TheVariants as records
use Rattle.promises.specs.Records.{is_of_run}
use Rattle.promises.specs.Air.{is_tti, numbered}

is_of_a_run : (one : Record) → is_tti one ≡ true → is_of_run one ≡ true
is_of_a_run (records.Tti tti) e = refl
is_of_a_run (records.Line number line) e = cc
is_of_a_run records.Sleep e = cc
is_of_a_run (records.Of side event) e = cc
is_of_a_run (records.Block direction process fresh rv octets) e = cc
is_of_a_run (records.Air direction what heard) e = cc
is_of_a_run (records.Refused side lcid why) e = cc
is_of_a_run (records.Looped lcid octets) e = cc
is_of_a_run (records.Drained rounds) e = cc
is_of_a_run (records.Sum direction lcid submitted delivered state) e = cc
is_of_a_run (records.Shown number direction len) e = cc
is_of_a_run one e = cc

kept : (one : Record) (xs : List Record) (a b : Bool) → is_of_run one ≡ a → is_tti one ≡ b
    → filter is_tti (filter is_of_run xs) ≡ filter is_tti xs
    → filter is_tti (cond a (one ∷ filter is_of_run xs) (filter is_of_run xs))
    ≡ cond b (one ∷ filter is_tti xs) (filter is_tti xs)
kept one xs true true e f h = rw f (ap (λ (ys : List Record). one ∷ ys) h)
kept one xs true false e f h = rw f h
kept one xs false true e f h = let now = is_of_a_run one f in cc
kept one xs false false e f h = h

-- a TTI's number is told by a run alone
pub of_run_alone : (xs : List Record) → filter is_tti (filter is_of_run xs) ≡ filter is_tti xs
of_run_alone [] = refl
of_run_alone (one ∷ xs) = kept one xs (is_of_run one) (is_tti one) refl refl (of_run_alone xs)

-- ---- numbers

pub all_ttis : (from count : ℕ) → filter is_tti (numbered from count) ≡ numbered from count
all_ttis from zero = refl
all_ttis from (suc n) = ap (λ (ys : List Record). records.Tti from ∷ ys) (all_ttis (from + 1) n)

pub count_numbered : (from count : ℕ) → length (numbered from count) ≡ count
count_numbered from zero = refl
count_numbered from (suc n) = ap suc (count_numbered (from + 1) n)

pub numbered_then : (from a b : ℕ) → numbered from (a + b) ≡ numbered from a ++ numbered (from + a) b
numbered_then from zero b =
    let none : zero + b ≡ b = omega arith in
    let same : from + zero ≡ from = omega arith in
    rw none (rw same refl)
numbered_then from (suc a) b =
    let more : suc a + b ≡ suc (a + b) = omega arith in
    let same : (from + 1) + a ≡ from + suc a = omega arith in
    rw more (ap (λ (ys : List Record). records.Tti from ∷ ys)
    (numbered_then (from + 1) a b ∙ ap (λ (n : ℕ). numbered (from + 1) a ++ numbered n b) same))

pub no_tti_ends : (rounds : ℕ) → filter is_tti (records.Drained rounds ∷ []) ≡ []
no_tti_ends rounds = refl

-- the TTIs of what a drain tells
pub ttis_of_drain : (from count rounds : ℕ)
    → filter is_tti (numbered from count ++ records.Drained rounds ∷ []) ≡ numbered from count
ttis_of_drain from count rounds =
    filter-append is_tti (numbered from count) (records.Drained rounds ∷ [])
    ∙ ap (λ (ys : List Record). filter is_tti (numbered from count) ++ ys) (no_tti_ends rounds)
    ∙ append-nil (filter is_tti (numbered from count)) ∙ all_ttis from count
