-- The fields that an account keeps tell what has come of their numbers.
use Rattle.std.proofs.Common.{◌≡◌, ◌<◌, ◌≤◌, ℕ, zero, suc, ◌+◌, ◌-◌, Bool, true, false, ◌||◌, ◌&&◌, List, [], ◌∷◌, ◌++◌}
use Rattle.std.proofs.Common.{length, drop, Some, None, slice_get, inl, inr, refl, ap, sym, ◌∙◌, arith, subst}
use Rattle.std.proofs.lemmas.Bool.{cases_eq, cases_lt, ne_eqb, eq-eqb}
use Rattle.std.proofs.lemmas.List.{map-append, append-nil, length-set, length-drop, length_push}
use Rattle.std.proofs.lemmas.Option.{slice_get_past}
use Rattle.l2_num.specs.Least.{IsLeast}
use Rattle.rlc_pdu.specs.Runs.{has, AreAscending, lies_in, run_between}
use Rattle.rlc_pdu.proofs.RunSteps.{added_has, added_ascends}
use Rattle.journal_account.specs.FlowEvents.{FlowEvent, NumberWritten, OctetsArrived, field_sizes, size_in, next_of}
use Rattle.journal_account.specs.Arrived.{brings_octet, octet_came, all_octets, is_complete_in}
use Rattle.journal_account.specs.FlowArrivals.{FieldArrivals, nothing_came, field_at}
use Rattle.journal_account.specs.FlowArrivals.{whole_first, first_open, open_number, with_octets, octets_at}
use Rattle.journal_account.proofs.Complete.{whole_is, still_complete, get_left}
use Rattle.journal_account.proofs.ByPlace.{sizes, whole_at, lead_whole, whole_few, open_least, push_field, octets_size}
use Rattle.journal_account.proofs.ByPlace.{octets_here, octets_other, drop_size, drop_field}

pub record Tells (es : List FlowEvent) (front : ℕ) (fields : List FieldArrivals) : Type 0 where
  pub next : front + length fields ≡ next_of es
  pub sizes_are : (k : ℕ) → slice_get (field_sizes es) (front + k) ≡ slice_get (sizes fields) k
  pub came : (k i : ℕ) → has (field_at fields k).came i ≡ octet_came es (front + k) i
  pub ascends : (k : ℕ) → AreAscending 0 (field_at fields k).came
  pub below : (n : ℕ) → n < front → is_complete_in es n ≡ true

-- ---- the sizes that are kept

get_drop : (xs : List ℕ) (f k : ℕ) → slice_get (drop f xs) k ≡ slice_get xs (f + k)
get_drop xs zero k = let same : k ≡ 0 + k = omega arith in ap (slice_get xs) same
get_drop [] (suc f) k = refl
get_drop (x ∷ xs) (suc f) k = let same : suc (f + k) ≡ suc f + k = omega arith in
    get_drop xs f k ∙ ap (slice_get (x ∷ xs)) same

same_list : (xs ys : List ℕ) → ((k : ℕ) → slice_get xs k ≡ slice_get ys k) → xs ≡ ys
same_list [] [] same = refl
same_list [] (y ∷ ys) same = let never : None ≡ Some y = same 0 in absurd cc
same_list (x ∷ xs) [] same = let never : Some x ≡ None = same 0 in absurd cc
same_list (x ∷ xs) (y ∷ ys) same =
    let first : Some x ≡ Some y = same 0 in
    let head : x ≡ y = cc in
    let rest : xs ≡ ys = same_list xs ys (λ k. same (suc k)) in
    cc

pub sizes_from : (es : List FlowEvent) (front : ℕ) (fields : List FieldArrivals) → Tells es front fields
    → drop front (field_sizes es) ≡ sizes fields
sizes_from es front fields t = same_list (drop front (field_sizes es)) (sizes fields)
    (λ k. get_drop (field_sizes es) front k ∙ t.sizes_are k)

-- ---- a number is complete where its field is whole

size_whole : (fields : List FieldArrivals) (k : ℕ) (came : ℕ → Bool) → AreAscending 0 (field_at fields k).came
    → ((i : ℕ) → has (field_at fields k).came i ≡ came i)
    → whole_at fields k ≡ all_octets came (slice_get (sizes fields) k)
size_whole [] k came up same = refl
size_whole (f ∷ fs) zero came up same = whole_is f came up same
size_whole (f ∷ fs) (suc k) came up same = size_whole fs k came up same

pub whole_complete : (es : List FlowEvent) (front : ℕ) (fields : List FieldArrivals) → Tells es front fields → (k : ℕ)
    → whole_at fields k ≡ is_complete_in es (front + k)
whole_complete es front fields t k =
    size_whole fields k (octet_came es (front + k)) (t.ascends k) (t.came k)
    ∙ ap (all_octets (octet_came es (front + k))) (sym (t.sizes_are k))

-- two histories of which the same is kept have the same complete numbers
pub same_complete : (es ds : List FlowEvent) (front : ℕ) (fields gields : List FieldArrivals) → Tells es front fields
    → Tells ds front gields → ((k : ℕ) → whole_at fields k ≡ whole_at gields k) → (n : ℕ)
    → is_complete_in es n ≡ is_complete_in ds n
same_complete es ds front fields gields t u same n = elim (cases_lt n front) [
  | inl lt ↦ t.below n lt ∙ sym (u.below n lt)
  | inr le ↦
      let at : front + (n - front) ≡ n = omega arith in
      subst (λ (m : ℕ). is_complete_in es m ≡ is_complete_in ds m) at
      (sym (whole_complete es front fields t (n - front)) ∙ same (n - front)
      ∙ whole_complete ds front gields u (n - front))
]

-- from a number on, the first that isn't complete
pub least_open : (es : List FlowEvent) (front : ℕ) (fields : List FieldArrivals) (from : ℕ) → Tells es front fields
    → IsLeast (is_complete_in es) from (open_number front fields from)
least_open es front fields from t =
    let o = open_least fields (from - front) in
    record {
      from = omega (arith, o.from);
      refused = sym (whole_complete es front fields t (first_open fields (from - front))) ∙ o.refused;
      before = λ n le lt. elim (cases_lt n front) [
        | inl below ↦ t.below n below
        | inr above ↦
            let at : front + (n - front) ≡ n = omega arith in
            subst (λ (m : ℕ). is_complete_in es m ≡ true) at
            (sym (whole_complete es front fields t (n - front)) ∙ o.before (n - front) (omega arith) (omega arith))
      ];
    }

-- ---- events that change nothing of what is kept

pub tells_still : (e : FlowEvent) (es : List FlowEvent) (front : ℕ) (fields : List FieldArrivals) → size_in e ≡ []
    → ((k i : ℕ) → brings_octet e (front + k) i ≡ false) → Tells es front fields → Tells (e ∷ es) front fields
tells_still e es front fields none silent t =
    let same : field_sizes (e ∷ es) ≡ field_sizes es =
    ap (λ (more : List ℕ). field_sizes es ++ more) none ∙ append-nil (field_sizes es) in
    record {
      next = t.next ∙ sym (ap (λ (xs : List ℕ). length xs) same);
      sizes_are = λ k. ap (λ (xs : List ℕ). slice_get xs (front + k)) same ∙ t.sizes_are k;
      came = λ k i. t.came k i ∙ sym (ap (λ (b : Bool). b || octet_came es (front + k) i) (silent k i));
      ascends = t.ascends;
      below = λ n lt. still_complete e es n (t.below n lt);
    }

-- ---- a number is written

get_here : (xs : List ℕ) (s n : ℕ) → n ≡ length xs → slice_get (xs ++ s ∷ []) n ≡ Some s
get_here [] s n e = rw e refl
get_here (x ∷ xs) s zero e = absurd (omega arith)
get_here (x ∷ xs) s (suc n) e = get_here xs s n (omega arith)

pushed_same : (xs ys : List ℕ) (front s k : ℕ) → length xs ≡ front + length ys
    → slice_get xs (front + k) ≡ slice_get ys k → slice_get (xs ++ s ∷ []) (front + k) ≡ slice_get (ys ++ s ∷ []) k
pushed_same xs ys front s k len e = elim (cases_lt k (length ys)) [
  | inl lt ↦ get_left xs (s ∷ []) (front + k) (omega arith) ∙ e ∙ sym (get_left ys (s ∷ []) k lt)
  | inr le ↦ elim (cases_eq k (length ys)) [
    | inl same ↦ get_here xs s (front + k) (omega arith) ∙ sym (get_here ys s k same)
    | inr other ↦ slice_get_past (xs ++ s ∷ []) (front + k) (omega (arith, length_push xs s))
        ∙ sym (slice_get_past (ys ++ s ∷ []) k (omega (arith, length_push ys s)))
  ]
]

pub sizes_len : (fields : List FieldArrivals) → length (sizes fields) ≡ length fields
sizes_len [] = refl
sizes_len (f ∷ fs) = omega (arith, sizes_len fs)

pub tells_written : (size : ℕ) (es : List FlowEvent) (front : ℕ) (fields : List FieldArrivals) → Tells es front fields
    → Tells (NumberWritten size ∷ es) front (fields ++ nothing_came size ∷ [])
tells_written size es front fields t = record {
  next = omega (arith, t.next, length_push fields (nothing_came size), length_push (field_sizes es) size);
  sizes_are = λ k.
      pushed_same (field_sizes es) (sizes fields) front size k (omega (arith, t.next, sizes_len fields)) (t.sizes_are k)
      ∙ sym (ap (λ (xs : List ℕ). slice_get xs k)
      (map-append (λ (f : FieldArrivals). f.size) fields (nothing_came size ∷ [])));
  came = λ k i. ap (λ rs. has rs i) (push_field fields size k) ∙ t.came k i;
  ascends = λ k. subst (AreAscending 0) (sym (push_field fields size k)) (t.ascends k);
  below = λ n lt. still_complete (NumberWritten size) es n (t.below n lt);
}

-- ---- octets of a number come

pub tells_arrived : (n from to : ℕ) (es : List FlowEvent) (front : ℕ) (fields : List FieldArrivals) → front ≤ n
    → n < next_of es → from < to → Tells es front fields
    → Tells (OctetsArrived n from to ∷ es) front (octets_at (n - front) from to fields)
tells_arrived n from to es front fields above written lt t =
    let there : n - front < length fields = omega (arith, t.next) in
    let same : field_sizes es ++ [] ≡ field_sizes es = append-nil (field_sizes es) in
    record {
      next = omega (
        arith,
        t.next,
        length-set fields (n - front) (with_octets from to (field_at fields (n - front))),
        ap (λ (xs : List ℕ). length xs) same,
      );
      sizes_are = λ k. ap (λ (xs : List ℕ). slice_get xs (front + k)) same ∙ t.sizes_are k
          ∙ sym (octets_size fields (n - front) from to k);
      came = λ k i. elim (cases_eq k (n - front)) [
        | inl is ↦ subst
            (λ (j : ℕ). has (field_at (octets_at (n - front) from to fields) j).came i
            ≡ octet_came (OctetsArrived n from to ∷ es) (front + j) i) (sym is) (here there i)
        | inr other ↦ ap (λ (f : FieldArrivals). has f.came i) (octets_other fields (n - front) from to k other)
            ∙ t.came k i
            ∙ sym (ap (λ (b : Bool). (b && lies_in (run_between from to) i) || octet_came es (front + k) i)
            (ne_eqb n (front + k) (λ e. other (omega arith))))
      ];
      ascends = λ k. elim (cases_eq k (n - front)) [
        | inl is ↦ subst (λ (j : ℕ). AreAscending 0 (field_at (octets_at (n - front) from to fields) j).came) (sym is)
            (subst (λ (f : FieldArrivals). AreAscending 0 f.came) (sym (octets_here fields (n - front) from to there))
            (added_ascends (field_at fields (n - front)).came from to lt (t.ascends (n - front))))
        | inr other ↦ subst (λ (f : FieldArrivals). AreAscending 0 f.came)
            (sym (octets_other fields (n - front) from to k other)) (t.ascends k)
      ];
      below = λ m lt. still_complete (OctetsArrived n from to) es m (t.below m lt);
    }
  where
    here : n - front < length fields → (i : ℕ)
        → has (field_at (octets_at (n - front) from to fields) (n - front)).came i
        ≡ octet_came (OctetsArrived n from to ∷ es) (front + (n - front)) i
    here there i =
        ap (λ (f : FieldArrivals). has f.came i) (octets_here fields (n - front) from to there)
        ∙ added_has (field_at fields (n - front)).came from to lt i
        ∙ ap (λ (b : Bool). lies_in (run_between from to) i || b) (t.came (n - front) i)
        ∙ sym (ap (λ (b : Bool). (b && lies_in (run_between from to) i) || octet_came es (front + (n - front)) i)
        (eq-eqb n (front + (n - front)) (omega arith)))

-- ---- the complete numbers that stand first go

pub tells_rest : (es : List FlowEvent) (front : ℕ) (fields : List FieldArrivals) → Tells es front fields
    → Tells es (front + whole_first fields) (drop (whole_first fields) fields)
tells_rest es front fields t =
    let c : ℕ = whole_first fields in
    record {
      next = omega (arith, t.next, whole_few fields, length-drop (whole_first fields) fields);
      sizes_are = λ k.
          let at : front + c + k ≡ front + (c + k) = omega arith in
          ap (slice_get (field_sizes es)) at ∙ t.sizes_are (c + k) ∙ sym (drop_size fields c k);
      came = λ k i.
          let at : front + (c + k) ≡ front + c + k = omega arith in
          ap (λ (f : FieldArrivals). has f.came i) (drop_field fields c k) ∙ t.came (c + k) i
          ∙ ap (λ (m : ℕ). octet_came es m i) at;
      ascends = λ k. subst (λ (f : FieldArrivals). AreAscending 0 f.came) (sym (drop_field fields c k))
          (t.ascends (c + k));
      below = λ n lt. elim (cases_lt n front) [
        | inl below ↦ t.below n below
        | inr le ↦
            let at : front + (n - front) ≡ n = omega arith in
            subst (λ (m : ℕ). is_complete_in es m ≡ true) at
            (sym (whole_complete es front fields t (n - front)) ∙ lead_whole fields (n - front) (omega arith))
      ];
    }
