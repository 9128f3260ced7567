-- The account of what has arrived, along a history.
use Rattle.std.proofs.Common.{◌≡◌, ◌<◌, ◌≤◌, ℕ, suc, ◌+◌, ◌-◌, Bool, true, false, ◌&&◌, List, [], ◌∷◌, ◌++◌}
use Rattle.std.proofs.Common.{length, drop, inl, inr, refl, ap, sym, ◌∙◌, arith, max}
use Rattle.std.proofs.Common.{nat_le, nat_lt}
use Rattle.std.proofs.lemmas.Bool.{cases_eq, cases_lt, ne_eqb, ltb-true, ltb-false, lt-ltb}
use Rattle.std.proofs.lemmas.List.{get_or_append_left, get_or_push, get_or_past, length_push, append-nil}
use Rattle.l2_num.specs.Least.{IsLeast}
use Rattle.journal_account.specs.FlowEvents.{FlowEvent, SduTaken, NumberWritten, OctetsResent, OctetsArrived}
use Rattle.journal_account.specs.FlowEvents.{ReorderStarted, ReorderExpired, StatusHeard, PollExpired}
use Rattle.journal_account.specs.FlowEvents.{field_sizes, size_in, next_of, IsPossible}
use Rattle.journal_account.specs.Arrived.{brings_octet, is_complete_in, number_above, top_in, mark_in}
use Rattle.journal_account.specs.Arrived.{expired_mark}
use Rattle.journal_account.specs.FlowArrivals.{FieldArrivals, FlowArrivals, nothing_came, not_written}
use Rattle.journal_account.specs.FlowArrivals.{is_whole, whole_first, open_number, octets_at, landed_in}
use Rattle.journal_account.specs.FlowArrivals.{octets_first, none_written}
use Rattle.journal_account.specs.FlowAccount.{arrivals_with}
use Rattle.journal_account.specs.Stream.{place_of, end_of_all}
use Rattle.journal_account.proofs.Along.{place_left, place_pushed, place_more, first_place}
use Rattle.journal_account.proofs.Complete.{still_complete}
use Rattle.journal_account.proofs.ByPlace.{whole_at, stops}
use Rattle.journal_account.proofs.Telling.{Tells, whole_complete, same_complete, least_open, tells_still, tells_written}
use Rattle.journal_account.proofs.Telling.{sizes_from, tells_arrived, tells_rest}

pub record Stands (es : List FlowEvent) (a : FlowArrivals) : Type 0 where
  pub tells : Tells es a.front a.fields
  pub opens : is_complete_in es a.front ≡ false
  pub bound : IsLeast (is_complete_in es) (expired_mark es) a.bound
  pub top : a.top ≡ top_in es
  pub mark : a.mark ≡ mark_in es
  pub start : a.start ≡ place_of (field_sizes es) a.front
  pub written : a.written ≡ end_of_all (field_sizes es)

-- ---- least numbers

least_same : (p q : ℕ → Bool) (m k : ℕ) → ((n : ℕ) → p n ≡ q n) → IsLeast p m k → IsLeast q m k
least_same p q m k same h = record {
  from = h.from;
  refused = sym (same k) ∙ h.refused;
  before = λ n a b. sym (same n) ∙ h.before n a b;
}

least_on : (p q : ℕ → Bool) (m k l : ℕ) → ((n : ℕ) → p n ≡ true → q n ≡ true) → IsLeast p m k → IsLeast q k l
    → IsLeast q m l
least_on p q m k l more h g = record {
  from = omega (arith, h.from, g.from);
  refused = g.refused;
  before = λ n a b. elim (cases_lt n k) [
    | inl lt ↦ more n (h.before n a lt)
    | inr le ↦ g.before n le b
  ];
}

least_above : (p : ℕ → Bool) (m k x l : ℕ) → IsLeast p m k → IsLeast p (max k x) l → IsLeast p (max m x) l
least_above p m k x l h g = record {
  from = omega (arith, h.from, g.from);
  refused = g.refused;
  before = λ n a b. elim (cases_lt n (max k x)) [
    | inl lt ↦ h.before n (omega arith) (omega arith)
    | inr le ↦ g.before n le b
  ];
}

-- ---- places of the stream

written_before : (es : List FlowEvent) (a : FlowArrivals) → Stands es a → a.front ≤ length (field_sizes es)
written_before es a s = omega (arith, s.tells.next)

same_start : (e : FlowEvent) (es : List FlowEvent) (a : FlowArrivals) → Stands es a
    → a.start ≡ place_of (field_sizes (e ∷ es)) a.front
same_start e es a s = s.start ∙ sym (place_left (field_sizes es) (size_in e) a.front (written_before es a s))

same_written : (e : FlowEvent) (es : List FlowEvent) (a : FlowArrivals) → size_in e ≡ [] → Stands es a
    → a.written ≡ end_of_all (field_sizes (e ∷ es))
same_written e es a none s =
    let same : field_sizes (e ∷ es) ≡ field_sizes es =
    ap (λ (more : List ℕ). field_sizes es ++ more) none ∙ append-nil (field_sizes es) in
    s.written ∙ sym (ap end_of_all same)

-- ---- events that leave the fields

same_fields : (e : FlowEvent) (es : List FlowEvent) (front : ℕ) (fields : List FieldArrivals) → Tells es front fields
    → Tells (e ∷ es) front fields → (n : ℕ) → is_complete_in es n ≡ is_complete_in (e ∷ es) n
same_fields e es front fields t u = same_complete es (e ∷ es) front fields fields t u (λ k. refl)

quiet : (e : FlowEvent) (es : List FlowEvent) (a : FlowArrivals) → size_in e ≡ []
    → ((n i : ℕ) → brings_octet e n i ≡ false) → number_above e ≡ 0 → mark_in (e ∷ es) ≡ mark_in es
    → expired_mark (e ∷ es) ≡ expired_mark es → Stands es a → Stands (e ∷ es) a
quiet e es a none silent low mark expired s =
    let t : Tells (e ∷ es) a.front a.fields =
    tells_still e es a.front a.fields none (λ k i. silent (a.front + k) i) s.tells in
    let same : (n : ℕ) → is_complete_in es n ≡ is_complete_in (e ∷ es) n =
    same_fields e es a.front a.fields s.tells t in
    record {
      tells = t;
      opens = sym (same a.front) ∙ s.opens;
      bound = least_same (is_complete_in es) (is_complete_in (e ∷ es)) (expired_mark (e ∷ es)) a.bound same
          (rw expired s.bound);
      top = omega (arith, s.top, low);
      mark = s.mark ∙ sym mark;
      start = same_start e es a s;
      written = same_written e es a none s;
    }

started : (es : List FlowEvent) (a : FlowArrivals) → Stands es a
    → Stands (ReorderStarted ∷ es) (arrivals_with ReorderStarted a)
started es a s =
    let t : Tells (ReorderStarted ∷ es) a.front a.fields =
    tells_still ReorderStarted es a.front a.fields refl (λ k i. refl) s.tells in
    let same : (n : ℕ) → is_complete_in es n ≡ is_complete_in (ReorderStarted ∷ es) n =
    same_fields ReorderStarted es a.front a.fields s.tells t in
    record {
      tells = t;
      opens = sym (same a.front) ∙ s.opens;
      bound = least_same (is_complete_in es) (is_complete_in (ReorderStarted ∷ es)) (expired_mark es) a.bound same
          s.bound;
      top = omega (arith, s.top);
      mark = s.top;
      start = same_start ReorderStarted es a s;
      written = same_written ReorderStarted es a refl s;
    }

ended : (es : List FlowEvent) (a : FlowArrivals) → Stands es a
    → Stands (ReorderExpired ∷ es) (arrivals_with ReorderExpired a)
ended es a s =
    let t : Tells (ReorderExpired ∷ es) a.front a.fields =
    tells_still ReorderExpired es a.front a.fields refl (λ k i. refl) s.tells in
    let same : (n : ℕ) → is_complete_in es n ≡ is_complete_in (ReorderExpired ∷ es) n =
    same_fields ReorderExpired es a.front a.fields s.tells t in
    let was : IsLeast (is_complete_in (ReorderExpired ∷ es)) (expired_mark es) a.bound =
    least_same (is_complete_in es) (is_complete_in (ReorderExpired ∷ es)) (expired_mark es) a.bound same s.bound in
    record {
      tells = t;
      opens = sym (same a.front) ∙ s.opens;
      bound = rw (← s.mark) (least_above (is_complete_in (ReorderExpired ∷ es)) (expired_mark es) a.bound a.mark
          (open_number a.front a.fields (max a.bound a.mark)) was
          (least_open (ReorderExpired ∷ es) a.front a.fields (max a.bound a.mark) t));
      top = omega (arith, s.top);
      mark = s.mark;
      start = same_start ReorderExpired es a s;
      written = same_written ReorderExpired es a refl s;
    }

-- ---- a number is written

whole_pushed : (fields : List FieldArrivals) (size k : ℕ) → 0 < size
    → whole_at fields k ≡ whole_at (fields ++ nothing_came size ∷ []) k
whole_pushed fields size k some = elim (cases_lt k (length fields)) [
  | inl lt ↦ ap is_whole (sym (get_or_append_left fields (nothing_came size ∷ []) not_written k lt))
  | inr le ↦ elim (cases_eq k (length fields)) [
    | inl same ↦
        let last : is_whole (nothing_came size) ≡ false = rw (lt-ltb 0 size some) refl in
        ap is_whole (get_or_past fields k not_written le)
        ∙ sym (ap is_whole (get_or_push fields (nothing_came size) not_written k (sym same)) ∙ last)
    | inr other ↦
        ap is_whole (get_or_past fields k not_written le)
        ∙ sym (ap is_whole (get_or_past (fields ++ nothing_came size ∷ []) k not_written
        (omega (arith, length_push fields (nothing_came size)))))
  ]
]

written : (size : ℕ) (es : List FlowEvent) (a : FlowArrivals) → 0 < size → Stands es a
    → Stands (NumberWritten size ∷ es) (arrivals_with (NumberWritten size) a)
written size es a some s =
    let t : Tells (NumberWritten size ∷ es) a.front (a.fields ++ nothing_came size ∷ []) =
    tells_written size es a.front a.fields s.tells in
    let same : (n : ℕ) → is_complete_in es n ≡ is_complete_in (NumberWritten size ∷ es) n =
    same_complete es (NumberWritten size ∷ es) a.front a.fields (a.fields ++ nothing_came size ∷ []) s.tells t
    (λ k. whole_pushed a.fields size k some) in
    record {
      tells = t;
      opens = sym (same a.front) ∙ s.opens;
      bound = least_same (is_complete_in es) (is_complete_in (NumberWritten size ∷ es)) (expired_mark es) a.bound same
          s.bound;
      top = omega (arith, s.top);
      mark = s.mark;
      start = same_start (NumberWritten size) es a s;
      written = written_more;
    }
  where
    written_more : a.written + size ≡ end_of_all (field_sizes es ++ size ∷ [])
    written_more =
        let len : length (field_sizes es ++ size ∷ []) ≡ suc (length (field_sizes es)) =
        omega (arith, length_push (field_sizes es) size) in
        ap (λ (n : ℕ). n + size) s.written ∙ sym (place_pushed (field_sizes es) size)
        ∙ sym (ap (place_of (field_sizes es ++ size ∷ [])) len)

-- ---- octets of a number come

landed : (n from to : ℕ) (es : List FlowEvent) (a : FlowArrivals) (b : Bool) → nat_lt n a.front ≡ b
    → n < next_of es → from < to → Stands es a
    → Stands (OctetsArrived n from to ∷ es) (record (landed_in b n from to a) { top = max a.top (n + 1) })
landed n from to es a true is sent lt s =
    let below : n < a.front = ltb-true n a.front is in
    let t : Tells (OctetsArrived n from to ∷ es) a.front a.fields =
    tells_still (OctetsArrived n from to) es a.front a.fields refl (λ k i. ap
    (λ (b : Bool). b && (nat_le from i && nat_lt i to)) (ne_eqb n (a.front + k) (λ e. omega arith))) s.tells in
    let same : (m : ℕ) → is_complete_in es m ≡ is_complete_in (OctetsArrived n from to ∷ es) m =
    same_fields (OctetsArrived n from to) es a.front a.fields s.tells t in
    record {
      tells = t;
      opens = sym (same a.front) ∙ s.opens;
      bound = least_same (is_complete_in es) (is_complete_in (OctetsArrived n from to ∷ es)) (expired_mark es) a.bound
          same s.bound;
      top = ap (λ (x : ℕ). max x (n + 1)) s.top;
      mark = s.mark;
      start = same_start (OctetsArrived n from to) es a s;
      written = same_written (OctetsArrived n from to) es a refl s;
    }
landed n from to es a false is sent lt s =
    let above : a.front ≤ n = ltb-false n a.front is in
    let t : Tells (OctetsArrived n from to ∷ es) a.front (octets_at (n - a.front) from to a.fields) =
    tells_arrived n from to es a.front a.fields above sent lt s.tells in
    record {
      tells = tells_rest (OctetsArrived n from to ∷ es) a.front (octets_at (n - a.front) from to a.fields) t;
      opens = sym (whole_complete (OctetsArrived n from to ∷ es) a.front (octets_at (n - a.front) from to a.fields) t
          (whole_first (octets_at (n - a.front) from to a.fields)))
          ∙ stops (octets_at (n - a.front) from to a.fields);
      bound = least_on (is_complete_in es) (is_complete_in (OctetsArrived n from to ∷ es)) (expired_mark es) a.bound
          (open_number a.front (octets_at (n - a.front) from to a.fields) a.bound)
          (still_complete (OctetsArrived n from to) es) s.bound
          (least_open (OctetsArrived n from to ∷ es) a.front (octets_at (n - a.front) from to a.fields) a.bound t);
      top = ap (λ (x : ℕ). max x (n + 1)) s.top;
      mark = s.mark;
      start = moved t;
      written = same_written (OctetsArrived n from to) es a refl s;
    }
  where
    fields : List FieldArrivals
    fields = octets_at (n - a.front) from to a.fields

    moved : Tells (OctetsArrived n from to ∷ es) a.front fields
        → a.start + octets_first fields
        ≡ place_of (field_sizes (OctetsArrived n from to ∷ es)) (a.front + whole_first fields)
    moved t =
        let begun : a.start ≡ place_of (field_sizes (OctetsArrived n from to ∷ es)) a.front =
        same_start (OctetsArrived n from to) es a s in
        let passed : octets_first fields
        ≡ place_of (drop a.front (field_sizes (OctetsArrived n from to ∷ es))) (whole_first fields) =
        first_place fields
        ∙ sym (ap (λ (xs : List ℕ). place_of xs (whole_first fields))
        (sizes_from (OctetsArrived n from to ∷ es) a.front fields t)) in
        let whole = place_more (field_sizes (OctetsArrived n from to ∷ es)) a.front (whole_first fields) in
        omega (arith, begun, passed, whole)

-- ---- any event

pub step : (e : FlowEvent) (es : List FlowEvent) (a : FlowArrivals) → IsPossible e es → Stands es a
    → Stands (e ∷ es) (arrivals_with e a)
step (SduTaken size) es a h s = quiet (SduTaken size) es a refl (λ n i. refl) refl refl refl s
step (NumberWritten size) es a h s = written size es a h s
step (OctetsResent n from to) es a h s = quiet (OctetsResent n from to) es a refl (λ m i. refl) refl refl refl s
step (OctetsArrived n from to) es a h s = landed n from to es a (nat_lt n a.front) refl h.0 h.1 s
step ReorderStarted es a h s = started es a s
step ReorderExpired es a h s = ended es a s
step (StatusHeard ack entries) es a h s = quiet (StatusHeard ack entries) es a refl (λ n i. refl) refl refl refl s
step (PollExpired more) es a h s = quiet (PollExpired more) es a refl (λ n i. refl) refl refl refl s

pub outset : Stands [] none_written
outset = record {
  tells = record {
    next = omega arith;
    sizes_are = λ k. refl;
    came = λ k i. refl;
    ascends = λ k. tt;
    below = λ n lt. absurd (omega arith);
  };
  opens = refl;
  bound = record { from = omega arith; refused = refl; before = λ n a b. absurd (omega arith) };
  top = refl;
  mark = refl;
  start = refl;
  written = refl;
}
