-- A STATUS is said to be true exactly where it is.
use Rattle.std.proofs.Common.{◌≡◌, ◌<◌, ◌≤◌, ℕ, zero, suc, ◌+◌, ◌-◌, ◌==◌, Bool, true, false, not, ◌||◌, ◌&&◌}
use Rattle.std.proofs.Common.{List, [], ◌∷◌}
use Rattle.std.proofs.Common.{◌++◌, refl, ap, sym, ◌∙◌, arith, inl, inr, subst, length, take, drop, Some, None}
use Rattle.std.proofs.Common.{slice_get, nat_lt}
use Rattle.std.proofs.lemmas.Bool.{cases_lt, and_parts, and_from}
use Rattle.std.proofs.lemmas.Bool.Decides.{nat_tests}
use Rattle.std.proofs.lemmas.List.{drop-take, length-take, get_or_past}
use Rattle.std.proofs.lemmas.Option.{slice_get_past}
use Rattle.l2_num.specs.Least.{IsLeast}
use Rattle.rlc_pdu.specs.Runs.{Run, has, AreAscending}
use Rattle.journal_account.specs.declared.entry.StatusEntry.{StatusEntry}
use Rattle.journal_account.specs.FlowEvents.{FlowEvent, field_sizes}
use Rattle.journal_account.specs.Arrived.{octet_came, is_complete_in, expired_mark}
use Rattle.journal_account.specs.Entries.{names_number}
use Rattle.journal_account.specs.FlowArrivals.{FieldArrivals, FlowArrivals, field_at, open_number, is_whole}
use Rattle.journal_account.specs.FlowArrivals.{not_written}
use Rattle.journal_account.specs.TrueStatus.{AreMissing, AreSaid, said_of}
use Rattle.journal_account.specs.FlowStatus.{gaps_in, said_of_fields, all_said, begin_so, behind_named}
use Rattle.journal_account.specs.Laws.{IsJudged}
use Rattle.journal_account.proofs.ByPlace.{sizes}
use Rattle.journal_account.proofs.Complete.{complete_each}
use Rattle.journal_account.proofs.Missing.{are_missing, one_missing}
use Rattle.journal_account.proofs.Named.{begin_all, begins_with, names_so, none_said}
use Rattle.journal_account.proofs.Standing.{Stands}
use Rattle.journal_account.proofs.Telling.{whole_complete, sizes_from, least_open}

-- ---- what is said of numbers is one list

one_said : (es : List FlowEvent) (n : ℕ) (ss : List ℕ) (xs ys : List StatusEntry) → AreSaid es n ss xs
    → AreSaid es n ss ys → xs ≡ ys
one_said es n [] xs ys p q = p ∙ sym q
one_said es n (s ∷ ss) xs ys p q =
    let runs : p.0 ≡ q.0 = one_missing (octet_came es n) s p.0 q.0 p.2 q.2 in
    let rest : p.1 ≡ q.1 = one_said es (n + 1) ss p.1 q.1 p.4 q.4 in
    p.3 ∙ ap (λ (rs : List Run). said_of n s rs ++ p.1) runs
    ∙ ap (λ (more : List StatusEntry). said_of n s q.0 ++ more) rest ∙ sym q.3

-- ---- of complete numbers nothing is said

none_missing : (came : ℕ → Bool) (size : ℕ) → ((i : ℕ) → i < size → came i ≡ true) → AreMissing came size []
none_missing came size all = record {
  ascend = tt;
  are = λ i. elim (cases_lt i size) [
    | inl lt ↦ sym (came_in i (came i) (all i lt))
    | inr le ↦ sym (past i (came i) le)
  ];
}
  where
    came_in : (i : ℕ) (b : Bool) → b ≡ true → (nat_lt i size && not b) ≡ false
    came_in i b e = rw e (and_false (nat_lt i size))
      where
        and_false : (b : Bool) → (b && false) ≡ false
        and_false true = refl
        and_false false = refl

    past : (i : ℕ) (b : Bool) → size ≤ i → (nat_lt i size && not b) ≡ false
    past i true le = grind (arith, nat_tests)
    past i false le = grind (arith, nat_tests)

record StandsAt (xs : List ℕ) (n : ℕ) : Type 0 where
  one : ℕ
  get : slice_get xs n ≡ Some one
  left : drop n xs ≡ one ∷ drop (n + 1) xs

stands_at : (xs : List ℕ) (n : ℕ) → n < length xs → StandsAt xs n
stands_at [] n lt = absurd (omega (arith, lt))
stands_at (x ∷ xs) zero lt = record { one = x; get = refl; left = refl }
stands_at (x ∷ xs) (suc n) lt =
    let more = stands_at xs n (omega (arith, lt)) in
    let next : suc n + 1 ≡ suc (n + 1) = omega arith in
    record {
      one = more.one;
      get = more.get;
      left = more.left ∙ ap (λ (m : ℕ). more.one ∷ drop m (x ∷ xs)) (sym next);
    }

get_taken : (xs : List ℕ) (n count s : ℕ) → slice_get (take count xs) n ≡ Some s → slice_get xs n ≡ Some s
get_taken xs n zero s is = absurd (let no : None ≡ Some s = sym (slice_get_past [] n (omega arith)) ∙ is in cc)
get_taken [] n (suc count) s is = is
get_taken (x ∷ xs) zero (suc count) s is = is
get_taken (x ∷ xs) (suc n) (suc count) s is = get_taken xs n count s is

-- those before a number, as many as k, are complete
said_before : (es : List FlowEvent) (bound front k n : ℕ) (xs : List StatusEntry) → n + k ≡ front
    → front ≤ length (take bound (field_sizes es)) → ((m : ℕ) → m < front → is_complete_in es m ≡ true)
    → AreSaid es front (drop front (take bound (field_sizes es))) xs
    → AreSaid es n (drop n (take bound (field_sizes es))) xs
said_before es bound front zero n xs at le all said =
    let same : front ≡ n = omega (arith, at) in
    subst (λ (m : ℕ). AreSaid es m (drop m (take bound (field_sizes es))) xs) same said
said_before es bound front (suc k) n xs at le all said =
    let here = stands_at (take bound (field_sizes es)) n (omega (arith, at, le)) in
    let size_is : slice_get (field_sizes es) n ≡ Some here.one =
    get_taken (field_sizes es) n bound here.one here.get in
    let rest : AreSaid es (n + 1) (drop (n + 1) (take bound (field_sizes es))) xs =
    said_before es bound front k (n + 1) xs (omega (arith, at)) le all said in
    subst (λ (ss : List ℕ). AreSaid es n ss xs) (sym here.left) (
      [],
      xs,
      none_missing (octet_came es n) here.one
          (λ i lt. complete_each es n here.one i (all n (omega (arith, at))) size_is lt),
      refl,
      rest,
    )

-- ---- of those that are kept the kept runs are said

said_kept : (es : List FlowEvent) (n : ℕ) (fields : List FieldArrivals)
    → ((k : ℕ) → AreAscending 0 (field_at fields k).came)
    → ((k i : ℕ) → k < length fields → has (field_at fields k).came i ≡ octet_came es (n + k) i)
    → AreSaid es n (sizes fields) (said_of_fields n fields)
said_kept es n [] up came = refl
said_kept es n (f ∷ fs) up came =
    let first : n + 0 ≡ n = omega arith in (
      gaps_in f.came 0 f.size,
      said_of_fields (n + 1) fs,
      are_missing (octet_came es n) f.size f.came (up 0)
          (λ i. came 0 i (omega arith) ∙ ap (λ (m : ℕ). octet_came es m i) first),
      refl,
      said_kept es (n + 1) fs (λ k. up (suc k)) (λ k i lt.
          let next : n + suc k ≡ n + 1 + k = omega arith in
          came (suc k) i (omega (arith, lt)) ∙ ap (λ (m : ℕ). octet_came es m i) next),
    )

taken_field : (fields : List FieldArrivals) (count k : ℕ) → k < length (take count fields)
    → field_at (take count fields) k ≡ field_at fields k
taken_field fields zero k lt = absurd (omega (arith, lt))
taken_field [] (suc count) k lt = refl
taken_field (f ∷ fs) (suc count) zero lt = refl
taken_field (f ∷ fs) (suc count) (suc k) lt = taken_field fs count k (omega (arith, lt))

taken_ascends : (fields : List FieldArrivals) (count k : ℕ) → ((j : ℕ) → AreAscending 0 (field_at fields j).came)
    → AreAscending 0 (field_at (take count fields) k).came
taken_ascends fields count k up = elim (cases_lt k (length (take count fields))) [
  | inl lt ↦ subst (λ (f : FieldArrivals). AreAscending 0 f.came) (sym (taken_field fields count k lt)) (up k)
  | inr le ↦ subst (λ (f : FieldArrivals). AreAscending 0 f.came)
      (sym (get_or_past (take count fields) k not_written le)) tt
]

taken_sizes : (fields : List FieldArrivals) (count : ℕ) → take count (sizes fields) ≡ sizes (take count fields)
taken_sizes fields zero = refl
taken_sizes [] (suc count) = refl
taken_sizes (f ∷ fs) (suc count) = ap (λ (ss : List ℕ). f.size ∷ ss) (taken_sizes fs count)

front_low : (es : List FlowEvent) (a : FlowArrivals) → Stands es a → a.front ≤ a.bound
front_low es a s = elim (cases_lt a.bound a.front) [
  | inl lt ↦ let no : true ≡ false = sym (s.tells.below a.bound lt) ∙ s.bound.refused in absurd cc
  | inr le ↦ le
]

said_all : (es : List FlowEvent) (a : FlowArrivals) → Stands es a
    → AreSaid es 0 (take a.bound (field_sizes es)) (all_said a)
said_all es a s =
    let count : ℕ = a.bound - a.front in
    let low = front_low es a s in
    let all : a.front + (a.bound - a.front) ≡ a.bound = omega (arith, low) in
    let ends : a.front ≤ length (take a.bound (field_sizes es)) =
    omega (arith, low, s.tells.next, length-take a.bound (field_sizes es)) in
    let rest : drop a.front (take a.bound (field_sizes es)) ≡ sizes (take (a.bound - a.front) a.fields) =
    ap (λ (n : ℕ). drop a.front (take n (field_sizes es))) (sym all)
    ∙ drop-take a.front (a.bound - a.front) (field_sizes es)
    ∙ ap (take (a.bound - a.front)) (sizes_from es a.front a.fields s.tells)
    ∙ taken_sizes a.fields (a.bound - a.front) in
    let same : 0 + a.front ≡ a.front = omega arith in
    said_before es a.bound a.front a.front 0 (all_said a) same ends s.tells.below
    (subst (λ (ss : List ℕ). AreSaid es a.front ss (all_said a)) (sym rest)
    (said_kept es a.front (take (a.bound - a.front) a.fields)
    (λ k. taken_ascends a.fields (a.bound - a.front) k s.tells.ascends)
    (λ k i lt. ap (λ (f : FieldArrivals). has f.came i) (taken_field a.fields (a.bound - a.front) k lt)
    ∙ s.tells.came k i)))

-- ---- the ACK

is_or : (a b : Bool) → a ≡ true → (a || b) ≡ true
is_or a b e = rw e refl

or_is : (a b : Bool) → b ≡ true → (a || b) ≡ true
or_is true b e = refl
or_is false b e = e

neither : (a b : Bool) → a ≡ false → b ≡ false → (a || b) ≡ false
neither a b p q = rw p q

not_named : (entries : List StatusEntry) (n : ℕ) → ((names_number entries n ≡ true) → ⊥)
    → names_number entries n ≡ false
not_named entries n never = by (names_number entries n) refl
  where
    by : (b : Bool) → names_number entries n ≡ b → names_number entries n ≡ false
    by true e = absurd (never e)
    by false e = e

ack_least : (es : List FlowEvent) (a : FlowArrivals) (entries : List StatusEntry) → Stands es a
    → begin_so entries (all_said a) ≡ true
    → IsLeast (λ n. is_complete_in es n || names_number entries n) 0
    (open_number a.front a.fields (behind_named entries))
ack_least es a entries s e =
    let taken : List FieldArrivals = take (a.bound - a.front) a.fields in
    let begin = begin_all entries (all_said a) e in
    let names = names_so a.front (take (a.bound - a.front) a.fields) entries begin.rest begin.said_is in
    let o = least_open es a.front a.fields (behind_named entries) s.tells in
    let ack : ℕ = open_number a.front a.fields (behind_named entries) in
    record {
      from = omega arith;
      refused = neither (is_complete_in es (open_number a.front a.fields (behind_named entries)))
          (names_number entries (open_number a.front a.fields (behind_named entries))) o.refused
          (not_named entries (open_number a.front a.fields (behind_named entries))
          (λ named. absurd (omega (arith, names.high _ named, o.from))));
      before = λ n le lt. elim (cases_lt n a.front) [
        | inl low ↦ is_or (is_complete_in es n) (names_number entries n) (s.tells.below n low)
        | inr up ↦ elim (cases_lt n (behind_named entries)) [
          | inl within ↦
              let at : a.front + (n - a.front) ≡ n = omega (arith, up) in
              let there : n - a.front < length (take (a.bound - a.front) a.fields) =
              omega (arith, up, within, names.few) in
              elim (names.named (n - a.front) (omega (arith, up, within))) [
                | inl none ↦
                    let same = taken_field a.fields (a.bound - a.front) (n - a.front) there in
                    let whole = none_said (a.front + (n - a.front))
                    (field_at (take (a.bound - a.front) a.fields) (n - a.front))
                    (taken_ascends a.fields (a.bound - a.front) (n - a.front) s.tells.ascends) none in
                    is_or (is_complete_in es n) (names_number entries n)
                    (subst (λ (m : ℕ). is_complete_in es m ≡ true) at
                    (sym (whole_complete es a.front a.fields s.tells (n - a.front))
                    ∙ ap is_whole (sym same) ∙ whole))
                | inr named ↦ or_is (is_complete_in es n) (names_number entries n)
                    (subst (λ (m : ℕ). names_number entries m ≡ true) at named)
              ]
          | inr past ↦ is_or (is_complete_in es n) (names_number entries n) (o.before n past lt)
        ]
      ];
    }

-- ---- both ways

one_least : (p : ℕ → Bool) (m k l : ℕ) → IsLeast p m k → IsLeast p m l → k ≤ l
one_least p m k l g h = elim (cases_lt l k) [
  | inl lt ↦ let no : true ≡ false = sym (g.before l h.from lt) ∙ h.refused in absurd cc
  | inr le ↦ le
]

same_least : (p : ℕ → Bool) (m k l : ℕ) → IsLeast p m k → IsLeast p m l → k ≡ l
same_least p m k l g h = omega (arith, one_least p m k l g h, one_least p m l k h g)

eq_is : (a b : ℕ) → (a == b) ≡ true → a ≡ b
eq_is a b e = grind (arith, nat_tests)

is_eq : (a b : ℕ) → a ≡ b → (a == b) ≡ true
is_eq a b e = grind (arith, nat_tests)

pub is_judged : (es : List FlowEvent) (a : FlowArrivals) (ack : ℕ) (entries : List StatusEntry) → Stands es a
    → IsJudged es a ack entries
is_judged es a ack entries s = record {
  all = λ e.
      let both = and_parts (begin_so entries (all_said a))
      (ack == open_number a.front a.fields (behind_named entries)) e in
      let begin = begin_all entries (all_said a) both.0 in
      let same = eq_is ack (open_number a.front a.fields (behind_named entries)) both.1 in
      record {
        bound = a.bound;
        bound_is = s.bound;
        rest = begin.rest;
        said = subst (λ (xs : List StatusEntry). AreSaid es 0 (take a.bound (field_sizes es)) xs) begin.said_is
            (said_all es a s);
        ack_is = subst (λ (n : ℕ). IsLeast (λ n. is_complete_in es n || names_number entries n) 0 n) (sym same)
            (ack_least es a entries s both.0);
      };
  only = λ t.
      let bound : t.bound ≡ a.bound =
      same_least (is_complete_in es) (expired_mark es) t.bound a.bound t.bound_is s.bound in
      let all : all_said a ≡ entries ++ t.rest =
      one_said es 0 (take a.bound (field_sizes es)) (all_said a) (entries ++ t.rest) (said_all es a s)
      (subst (λ (n : ℕ). AreSaid es 0 (take n (field_sizes es)) (entries ++ t.rest)) bound t.said) in
      let begin : begin_so entries (all_said a) ≡ true =
      ap (begin_so entries) all ∙ begins_with entries t.rest in
      let same = same_least (λ n. is_complete_in es n || names_number entries n) 0 ack
      (open_number a.front a.fields (behind_named entries)) t.ack_is (ack_least es a entries s begin) in
      and_from (begin_so entries (all_said a)) (ack == open_number a.front a.fields (behind_named entries)) begin
      (is_eq ack (open_number a.front a.fields (behind_named entries)) same);
}
