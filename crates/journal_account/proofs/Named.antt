-- Which numbers the entries name that begin what is said of numbers one behind the other.
use Rattle.std.proofs.Common.{◌≡◌, ◌<◌, ◌≤◌, ℕ, zero, suc, ◌+◌, ◌==◌, Bool, true, false, ◌||◌, ◌⊎◌, List, [], ◌∷◌}
use Rattle.std.proofs.Common.{◌++◌, take, map, Option, Some, None, refl, ap, sym, ◌∙◌, arith, inl, inr, length, subst}
use Rattle.std.proofs.Common.{if◌then◌else◌}
use Rattle.std.proofs.lemmas.Bool.{and_parts}
use Rattle.std.proofs.lemmas.Bool.Decides.{nat_tests}
use Rattle.std.proofs.lemmas.List.{append-nil, length-take}
use Rattle.rlc_pdu.specs.declared.pdu.Part.{Part}
use Rattle.rlc_pdu.specs.Runs.{Run, AreAscending, covers, gap_in}
use Rattle.journal_account.specs.declared.entry.StatusEntry.{StatusEntry}
use Rattle.journal_account.specs.Entries.{names_number}
use Rattle.journal_account.specs.FlowArrivals.{FieldArrivals, field_at, is_whole}
use Rattle.journal_account.specs.TrueStatus.{range_of, whole_of, said_of}
use Rattle.journal_account.specs.FlowStatus.{gaps_in, said_of_field, said_of_fields, is_same_part, is_same_entry}
use Rattle.journal_account.specs.FlowStatus.{begin_so, behind_named}
use Rattle.journal_account.proofs.Gaps.{gaps_go}

-- ---- entries that begin so

same_number : (a b : ℕ) → (a == b) ≡ true → a ≡ b
same_number a b e = grind (arith, nat_tests)

same_part : (a b : Option Part) → is_same_part a b ≡ true → a ≡ b
same_part None None e = refl
same_part (Some p) (Some q) e =
    let both = and_parts (p.start == q.start) (p.end == q.end) e in
    let starts = same_number p.start q.start both.0 in
    let ends = same_number p.end q.end both.1 in
    ap (λ (start : ℕ). Some (record { start = start; end = p.end })) starts
    ∙ ap (λ (end : ℕ). Some (record { start = q.start; end = end })) ends
same_part None (Some q) e = absurd cc
same_part (Some p) None e = absurd cc

same_entry : (a b : StatusEntry) → is_same_entry a b ≡ true → a ≡ b
same_entry a b e =
    let both = and_parts (a.number == b.number) (is_same_part a.part b.part) e in
    ap (λ (number : ℕ). entry number a.part) (same_number a.number b.number both.0)
    ∙ ap (entry b.number) (same_part a.part b.part both.1)
  where
    entry : ℕ → Option Part → StatusEntry
    entry number part = record { number = number; part = part }

-- there is more of what is said behind them
pub record Begin (es said : List StatusEntry) : Type 0 where
  pub rest : List StatusEntry
  pub said_is : said ≡ es ++ rest

pub begin_all : (es said : List StatusEntry) → begin_so es said ≡ true → Begin es said
begin_all [] said e = record { rest = said; said_is = refl }
begin_all (x ∷ es) [] e = absurd cc
begin_all (x ∷ es) (s ∷ said) e =
    let both = and_parts (is_same_entry x s) (begin_so es said) e in
    let more = begin_all es said both.1 in
    record {
      rest = more.rest;
      said_is = ap (λ (one : StatusEntry). one ∷ said) (sym (same_entry x s both.0))
          ∙ ap (λ (ss : List StatusEntry). x ∷ ss) more.said_is;
    }

number_same : (a : ℕ) → (a == a) ≡ true
number_same a = grind (arith, nat_tests)

part_same : (a : Option Part) → is_same_part a a ≡ true
part_same None = refl
part_same (Some p) = rw (number_same p.start, number_same p.end) refl

pub begins_with : (es rest : List StatusEntry) → begin_so es (es ++ rest) ≡ true
begins_with [] rest = refl
begins_with (e ∷ es) rest = rw (number_same e.number, part_same e.part) (begins_with es rest)

-- ---- one list behind another, and where a beginning of both ends

data Split (xs ys es rest : List StatusEntry) : Type 0 where
  Inside : (more : List StatusEntry) → xs ≡ es ++ more → Split xs ys es rest
  Beyond : (more : List StatusEntry) → es ≡ xs ++ more → ys ≡ more ++ rest → Split xs ys es rest

split : (xs ys es rest : List StatusEntry) → xs ++ ys ≡ es ++ rest → Split xs ys es rest
split [] ys es rest e = Beyond es refl e
split (x ∷ xs) ys [] rest e = Inside (x ∷ xs) refl
split (x ∷ xs) ys (y ∷ es) rest e =
    let first : x ≡ y = cc in
    let left : xs ++ ys ≡ es ++ rest = cc in
    by (split xs ys es rest left) first
  where
    by : Split xs ys es rest → x ≡ y → Split (x ∷ xs) ys (y ∷ es) rest
    by (Inside more is) first = Inside more (let all : x ∷ xs ≡ y ∷ (es ++ more) = cc in all)
    by (Beyond more is left) first = Beyond more (let all : y ∷ es ≡ x ∷ (xs ++ more) = cc in all) left

-- ---- the entries of one number

abbrev Numbered : ℕ → List StatusEntry → Type 0
Numbered n [] = Unit {0}
Numbered n (e ∷ es) = (e.number ≡ n) × Numbered n es

ranges_numbered : (n size : ℕ) (runs : List Run) → Numbered n (map (range_of n size) runs)
ranges_numbered n size [] = tt
ranges_numbered n size (r ∷ rs) = (refl, ranges_numbered n size rs)

said_numbered : (n size : ℕ) (runs : List Run) → Numbered n (said_of n size runs)
said_numbered n size runs = by (covers runs 0 size)
  where
    by : (b : Bool) → Numbered n (if b then whole_of n ∷ [] else map (range_of n size) runs)
    by true = (refl, tt)
    by false = ranges_numbered n size runs

first_numbered : (n : ℕ) (es more : List StatusEntry) → Numbered n (es ++ more) → Numbered n es
first_numbered n [] more h = tt
first_numbered n (e ∷ es) more h = (h.0, first_numbered n es more h.1)

only_number : (n : ℕ) (es : List StatusEntry) (m : ℕ) → Numbered n es → names_number es m ≡ true → m ≡ n
only_number n [] m h named = absurd cc
only_number n (e ∷ es) m h named = by (e.number == m) refl named (only_number n es m h.1)
  where
    by : (b : Bool) → (e.number == m) ≡ b → (b || names_number es m) ≡ true
        → (names_number es m ≡ true → m ≡ n) → m ≡ n
    by true is named rest = sym (same_number e.number m is) ∙ h.0
    by false is named rest = rest named

first_named : (n : ℕ) (e : StatusEntry) (es : List StatusEntry) → e.number ≡ n → names_number (e ∷ es) n ≡ true
first_named n e es h = rw (h, number_same n) refl

behind_one : (n : ℕ) (e : StatusEntry) (es : List StatusEntry) → Numbered n (e ∷ es) → behind_named (e ∷ es) ≡ n + 1
behind_one n e [] h = ap (λ (k : ℕ). k + 1) h.0
behind_one n e (f ∷ es) h = behind_one n f es h.1

-- ---- of several numbers

behind_last : (xs : List StatusEntry) (y : StatusEntry) (ys : List StatusEntry)
    → behind_named (xs ++ y ∷ ys) ≡ behind_named (y ∷ ys)
behind_last [] y ys = refl
behind_last (x ∷ []) y ys = refl
behind_last (x ∷ z ∷ xs) y ys = behind_last (z ∷ xs) y ys

or_assoc : (a b c : Bool) → ((a || b) || c) ≡ (a || (b || c))
or_assoc true b c = refl
or_assoc false b c = refl

names_both : (xs ys : List StatusEntry) (m : ℕ)
    → names_number (xs ++ ys) m ≡ (names_number xs m || names_number ys m)
names_both [] ys m = refl
names_both (x ∷ xs) ys m = ap (λ (b : Bool). (x.number == m) || b) (names_both xs ys m)
    ∙ sym (or_assoc (x.number == m) (names_number xs m) (names_number ys m))

pub record Names (n : ℕ) (fields : List FieldArrivals) (es : List StatusEntry) : Type 0 where
  pub few : behind_named es ≤ n + length fields
  pub low : (m : ℕ) → names_number es m ≡ true → n ≤ m
  pub high : (m : ℕ) → names_number es m ≡ true → m < behind_named es
  pub named : (k : ℕ) → n + k < behind_named es
      → (said_of_field (n + k) (field_at fields k) ≡ []) ⊎ (names_number es (n + k) ≡ true)

none_named : (n : ℕ) (fields : List FieldArrivals) → Names n fields []
none_named n fields = record {
  few = omega arith;
  low = λ m h. absurd cc;
  high = λ m h. absurd cc;
  named = λ k lt. absurd (omega (arith, lt));
}

-- they name the first number alone
one_named : (n : ℕ) (f : FieldArrivals) (fs : List FieldArrivals) (es : List StatusEntry) → Numbered n es
    → Names n (f ∷ fs) es
one_named n f fs [] h = none_named n (f ∷ fs)
one_named n f fs (e ∷ es) h =
    let behind = behind_one n e es h in
    record {
      few = omega (arith, behind);
      low = λ m named. let same = only_number n (e ∷ es) m h named in omega (arith, same);
      high = λ m named. let same = only_number n (e ∷ es) m h named in omega (arith, same, behind);
      named = λ k lt.
          let first : n + k ≡ n = omega (arith, lt, behind) in
          inr (subst (λ (m : ℕ). names_number (e ∷ es) m ≡ true) (sym first) (first_named n e es h.0));
    }

more_named : (n : ℕ) (f : FieldArrivals) (fs : List FieldArrivals) (xs : List StatusEntry) (y : StatusEntry)
    (ys : List StatusEntry) → Numbered n xs → xs ≡ said_of_field n f → Names (n + 1) fs (y ∷ ys)
    → Names n (f ∷ fs) (xs ++ y ∷ ys)
more_named n f fs xs y ys h all more =
    let behind = behind_last xs y ys in
    let over : n < behind_named (y ∷ ys) =
    let there = first_named y.number y ys refl in
    omega (arith, more.low y.number there, more.high y.number there) in
    record {
      few = omega (arith, behind, more.few);
      low = λ m named. by m (names_number xs m) refl (sym (names_both xs (y ∷ ys) m) ∙ named);
      high = λ m named. up m (names_number xs m) refl (sym (names_both xs (y ∷ ys) m) ∙ named) behind over;
      named = λ k lt. at k (omega (arith, lt, behind));
    }
  where
    by : (m : ℕ) (b : Bool) → names_number xs m ≡ b → (b || names_number (y ∷ ys) m) ≡ true → n ≤ m
    by m true is named = let same = only_number n xs m h is in omega (arith, same)
    by m false is named = omega (arith, more.low m named)

    up : (m : ℕ) (b : Bool) → names_number xs m ≡ b → (b || names_number (y ∷ ys) m) ≡ true
        → behind_named (xs ++ y ∷ ys) ≡ behind_named (y ∷ ys) → n < behind_named (y ∷ ys)
        → m < behind_named (xs ++ y ∷ ys)
    up m true is named behind over = let same = only_number n xs m h is in omega (arith, same, behind, over)
    up m false is named behind over = omega (arith, behind, more.high m named)

    or_left : (a b : Bool) → a ≡ true → (a || b) ≡ true
    or_left a b e = rw e refl

    or_end : (a b : Bool) → b ≡ true → (a || b) ≡ true
    or_end true b e = refl
    or_end false b e = e

    here : (zs : List StatusEntry) → xs ≡ zs
        → (said_of_field n f ≡ []) ⊎ (names_number (xs ++ y ∷ ys) n ≡ true)
    here [] is = inl (sym all ∙ is)
    here (z ∷ zs) is =
        let one : (z.number ≡ n) × Numbered n zs = subst (Numbered n) is h in
        inr (names_both xs (y ∷ ys) n
        ∙ or_left (names_number xs n) (names_number (y ∷ ys) n)
        (ap (λ (qs : List StatusEntry). names_number qs n) is ∙ first_named n z zs one.0))

    at : (k : ℕ) → n + k < behind_named (y ∷ ys)
        → (said_of_field (n + k) (field_at (f ∷ fs) k) ≡ []) ⊎ (names_number (xs ++ y ∷ ys) (n + k) ≡ true)
    at zero lt =
        let same : n + 0 ≡ n = omega arith in
        subst (λ (m : ℕ). (said_of_field m f ≡ []) ⊎ (names_number (xs ++ y ∷ ys) m ≡ true)) (sym same)
        (here xs refl)
    at (suc k) lt =
        let same : n + 1 + k ≡ n + suc k = omega arith in
        elim (more.named k (omega (arith, lt))) [
          | inl none ↦ inl (subst (λ (m : ℕ). said_of_field m (field_at fs k) ≡ []) same none)
          | inr named ↦ inr (subst (λ (m : ℕ). names_number (xs ++ y ∷ ys) m ≡ true) same
              (names_both xs (y ∷ ys) (n + 1 + k)
              ∙ or_end (names_number xs (n + 1 + k)) (names_number (y ∷ ys) (n + 1 + k)) named))
        ]

pub names_so : (n : ℕ) (fields : List FieldArrivals) (es rest : List StatusEntry)
    → said_of_fields n fields ≡ es ++ rest → Names n fields es
names_so n [] [] rest is = none_named n []
names_so n [] (e ∷ es) rest is = absurd cc
names_so n (f ∷ fs) es rest is =
    by (split (said_of_field n f) (said_of_fields (n + 1) fs) es rest is)
    (λ more left. names_so (n + 1) fs more rest left)
  where
    numbered : Numbered n (said_of_field n f)
    numbered = said_numbered n f.size (gaps_in f.came 0 f.size)

    beyond : (more : List StatusEntry) → Names (n + 1) fs more → Names n (f ∷ fs) (said_of_field n f ++ more)
    beyond [] names = subst (λ (qs : List StatusEntry). Names n (f ∷ fs) qs) (sym (append-nil (said_of_field n f)))
        (one_named n f fs (said_of_field n f) numbered)
    beyond (y ∷ ys) names = more_named n f fs (said_of_field n f) y ys numbered refl names

    by : Split (said_of_field n f) (said_of_fields (n + 1) fs) es rest
        → ((more : List StatusEntry) → said_of_fields (n + 1) fs ≡ more ++ rest → Names (n + 1) fs more)
        → Names n (f ∷ fs) es
    by (Inside more first) below = one_named n f fs es
        (first_numbered n es more (subst (Numbered n) first numbered))
    by (Beyond more all left) below = subst (λ (qs : List StatusEntry). Names n (f ∷ fs) qs) (sym all)
        (beyond more (below more left))

-- ---- as they are decided

-- where all of a number has come, and only there, nothing is said of it
pub none_said : (n : ℕ) (f : FieldArrivals) → AreAscending 0 f.came → said_of_field n f ≡ [] → is_whole f ≡ true
none_said n f up none = by (covers runs 0 f.size) none
  where
    runs : List Run
    runs = gaps_in f.came 0 f.size

    no_runs : (rs : List Run) → map (range_of n f.size) rs ≡ [] → rs ≡ []
    no_runs [] e = refl
    no_runs (r ∷ rs) e = absurd cc

    whole : (o : Option Part) → gap_in f.came 0 f.size ≡ o → runs ≡ [] → is_whole f ≡ true
    whole None is empty = rw is refl
    whole (Some p) is empty =
        let some = (gaps_go 0 0 f.size f.came p up is).gaps in absurd (let no = sym some ∙ empty in cc)

    by : (b : Bool) → (if b then whole_of n ∷ [] else map (range_of n f.size) runs) ≡ [] → is_whole f ≡ true
    by true none = absurd cc
    by false none = whole (gap_in f.came 0 f.size) refl (no_runs runs none)

pub named_within : (n count : ℕ) (fields : List FieldArrivals) (es : List StatusEntry) → count ≤ length fields
    → begin_so es (said_of_fields n (take count fields)) ≡ true → behind_named es ≤ n + count
named_within n count fields es le e =
    let more = begin_all es (said_of_fields n (take count fields)) e in
    let names = names_so n (take count fields) es more.rest more.said_is in
    omega (arith, names.few, length-take count fields, le)
