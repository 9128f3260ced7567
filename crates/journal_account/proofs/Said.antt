-- What is said of one number, entry by entry.
use Rattle.std.proofs.Common.{◌≡◌, ◌<◌, ℕ, ◌+◌, ◌==◌, Bool, true, false, ◌||◌, ◌&&◌, List, [], ◌∷◌}
use Rattle.std.proofs.Common.{◌++◌, map, Option, Some, None, refl, ap, sym, ◌∙◌, arith, min, max, nat_le, inl, inr}
use Rattle.std.proofs.Common.{slice_get}
use Rattle.std.specs.Prelude.{option_and_then}
use Rattle.std.proofs.lemmas.Bool.{cases_lt}
use Rattle.std.proofs.lemmas.Bool.Decides.{nat_tests}
use Rattle.rlc_pdu.specs.declared.pdu.Part.{Part}
use Rattle.rlc_pdu.specs.Runs.{Run, run_between, some_run, covers, AreAscending, gap_in}
use Rattle.journal_account.specs.declared.entry.StatusEntry.{StatusEntry}
use Rattle.journal_account.specs.FlowArrivals.{FieldArrivals}
use Rattle.journal_account.specs.TrueStatus.{range_of, whole_of}
use Rattle.journal_account.specs.FlowStatus.{gaps_in, is_all, said_of_field, behind_wanted, behind_said}
use Rattle.journal_account.proofs.Gaps.{none_between, run_there, gaps_end, gaps_go}

-- ---- ranges

pub ranges_end : (n size from : ℕ) (came : List Run) → gap_in came from size ≡ None
    → map (range_of n size) (gaps_in came from size) ≡ []
ranges_end n size from came none = rw (gaps_end came from size none) refl

pub ranges_go : (n size from : ℕ) (came : List Run) (p : Part) → AreAscending 0 came → gap_in came from size ≡ Some p
    → map (range_of n size) (gaps_in came from size)
    ≡ range_of n size (run_between p.start (p.end + 1)) ∷ map (range_of n size) (gaps_in came (p.end + 1) size)
ranges_go n size from came p up is = ap (map (range_of n size)) ((gaps_go 0 from size came p up is).gaps)

pub ruleset ranges = (ranges_end, ranges_go)

-- ---- all of a number

covers_append : (xs ys : List Run) (from to : ℕ) → covers (xs ++ ys) from to ≡ (covers xs from to || covers ys from to)
covers_append [] ys from to = refl
covers_append (x ∷ xs) ys from to =
    ap (λ (b : Bool). (nat_le x.from from && nat_le to x.to) || b) (covers_append xs ys from to)
    ∙ sym (or_assoc (nat_le x.from from && nat_le to x.to) (covers xs from to) (covers ys from to))
  where
    or_assoc : (a b c : Bool) → ((a || b) || c) ≡ (a || (b || c))
    or_assoc true b c = refl
    or_assoc false b c = refl

run_uncovered : (from to size : ℕ) → 0 < from → covers (some_run from to) 0 size ≡ false
run_uncovered from to size some = elim (cases_lt from to) [
  | inl lt ↦ rw (run_there from to lt) (late from size some)
  | inr le ↦ rw (none_between from to le) refl
]
  where
    late : (from size : ℕ) → 0 < from → ((nat_le from 0 && nat_le size to) || false) ≡ false
    late from size some = grind (arith, nat_tests)

gaps_uncovered : (runs : List Run) (from size : ℕ) → 0 < from → covers (gaps_in runs from size) 0 size ≡ false
gaps_uncovered [] from size some = run_uncovered from size size some
gaps_uncovered (r ∷ rs) from size some =
    covers_append (some_run from (min r.from size)) (gaps_in rs (max from r.to) size) 0 size
    ∙ rw (run_uncovered from (min r.from size) size some) (gaps_uncovered rs (max from r.to) size (omega arith))

pub all_is : (came : List Run) (size : ℕ) → AreAscending 0 came
    → covers (gaps_in came 0 size) 0 size ≡ is_all (gap_in came 0 size) size
all_is came size up = by (gap_in came 0 size) refl
  where
    same : (a size end : ℕ) (rest : Bool) → rest ≡ false
        → ((nat_le a 0 && nat_le size end) || rest) ≡ ((a == 0) && nat_le size end)
    same a size end rest none = grind (arith, nat_tests)

    by : (o : Option Part) → gap_in came 0 size ≡ o → covers (gaps_in came 0 size) 0 size ≡ is_all o size
    by None is = rw (gaps_end came 0 size is) refl
    by (Some p) is =
        rw (gaps_go 0 0 size came p up is).gaps
        (same p.start size (p.end + 1) (covers (gaps_in came (p.end + 1) size) 0 size)
        (gaps_uncovered came (p.end + 1) size (omega arith)))

and_then_some : (o : Option ℕ) → option_and_then (λ (at : ℕ). Some at) o ≡ o
and_then_some None = refl
and_then_some (Some at) = refl

pub field_all : (n : ℕ) (f : FieldArrivals) (entries : List StatusEntry) (at : ℕ) → AreAscending 0 f.came
    → is_all (gap_in f.came 0 f.size) f.size ≡ true
    → behind_said (said_of_field n f) entries at ≡ behind_wanted (slice_get entries at) (whole_of n) at
field_all n f entries at up all = rw (all_is f.came f.size up, all)
    (and_then_some (behind_wanted (slice_get entries at) (whole_of n) at))

pub field_ranges : (n : ℕ) (f : FieldArrivals) (entries : List StatusEntry) (at : ℕ) → AreAscending 0 f.came
    → is_all (gap_in f.came 0 f.size) f.size ≡ false
    → behind_said (said_of_field n f) entries at
    ≡ behind_said (map (range_of n f.size) (gaps_in f.came 0 f.size)) entries at
field_ranges n f entries at up not_all = rw (all_is f.came f.size up, not_all) refl

pub ruleset of_field = (field_all, field_ranges)
