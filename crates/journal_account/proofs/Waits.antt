-- Which octets wait, and how often each number was named, along a history.
use Rattle.std.proofs.Common.{◌≡◌, ◌<◌, ◌≤◌, ℕ, ◌+◌, Bool, true, false, not, ◌||◌, ◌&&◌, List, [], ◌∷◌}
use Rattle.std.proofs.Common.{◌++◌, length, inl, inr, refl, ap, sym, ◌∙◌, arith, subst}
use Rattle.std.proofs.Common.{nat_lt, if◌then◌else◌, ◌==◌, slice_index_or}
use Rattle.std.proofs.lemmas.Bool.{cases_eq, cases_lt, eq-eqb, and_left}
use Rattle.std.proofs.lemmas.List.{get_or_append_left, get_or_push, get_or_past}
use Rattle.std.proofs.lemmas.List.{length_push, append-nil}
use Rattle.rlc_pdu.specs.Runs.{has, AreAscending, lies_in, run_between}
use Rattle.rlc_pdu.proofs.RunSteps.{removed_has, removed_ascends}
use Rattle.journal_account.specs.declared.entry.StatusEntry.{StatusEntry}
use Rattle.journal_account.specs.FlowEvents.{FlowEvent, NumberWritten, OctetsResent}
use Rattle.journal_account.specs.FlowEvents.{StatusHeard, field_sizes}
use Rattle.journal_account.specs.FlowEvents.{size_in, next_of}
use Rattle.journal_account.specs.Entries.{names_number, names_octet}
use Rattle.journal_account.specs.Arrived.{all_below}
use Rattle.journal_account.specs.Acked.{is_applied, is_acked}
use Rattle.journal_account.specs.Waiting.{size_of, names, octets_named, names_at, resends, waits, names_old, namings}
use Rattle.journal_account.specs.FlowSending.{SentNumber, never_named, number_at, with_rest, heard_as}
use Rattle.journal_account.specs.FlowSending.{heard_number, names_new}
use Rattle.journal_account.specs.FlowSending.{counted}
use Rattle.journal_account.proofs.Naming.{woken_has, woken_ascends, new_is}
use Rattle.journal_account.proofs.Acking.{Acks, acked_still}

-- what is kept of a number is what its history says
pub record Says (es : List FlowEvent) (n : ℕ) (h : SentNumber) : Type 0 where
  pub size : h.size ≡ size_of es n
  pub ascends : AreAscending 0 h.waiting
  pub waiting : (i : ℕ) → has h.waiting i ≡ waits es n i
  pub namings_are : h.namings ≡ namings es n

abbrev pub SayAll : List FlowEvent → ℕ → List SentNumber → Type 0
SayAll es base hs = (k : ℕ) → Says es (base + k) (number_at hs k)

-- ---- an acknowledged number waits nowhere

pub acked_rests : (es : List FlowEvent) (n i : ℕ) → is_acked es n ≡ true → waits es n i ≡ false
acked_rests [] n i e = refl
acked_rests (d ∷ es) n i e = and_left (not (is_acked (d ∷ es) n))
    (names_at d (waits es) es n i || (waits es n i && not (resends d n i))) (ap not e)

-- ---- events that name nothing

unnamed : (a b c : Bool) → a ≡ false → b ≡ false → (a || (c && not b)) ≡ c
unnamed true b c e f = absurd cc
unnamed false true c e f = absurd cc
unnamed false false true e f = refl
unnamed false false false e f = refl

not_acked_and : (a c : Bool) → (a ≡ true → c ≡ false) → (not a && c) ≡ c
not_acked_and true c h = sym (h refl)
not_acked_and false c h = refl

pub waits_still : (e : FlowEvent) (es : List FlowEvent) (n i : ℕ) → is_acked (e ∷ es) n ≡ is_acked es n
    → names e (waits es) es n ≡ false → resends e n i ≡ false → waits (e ∷ es) n i ≡ waits es n i
waits_still e es n i same none rests =
    ap
    (λ (b : Bool). not (is_acked (e ∷ es) n) && b)
    (unnamed (names_at e (waits es) es n i) (resends e n i) (waits es n i)
    (and_left (names e (waits es) es n) (octets_named e (size_of es n) n i) none) rests)
    ∙ ap (λ (b : Bool). not b && waits es n i) same
    ∙ not_acked_and (is_acked es n) (waits es n i) (acked_rests es n i)

pub namings_still : (e : FlowEvent) (es : List FlowEvent) (n : ℕ) → names e (waits es) es n ≡ false
    → namings (e ∷ es) n ≡ namings es n
namings_still e es n none =
    ap
    (λ (b : Bool). if b && ((namings es n == 0) || not (names_old e es n)) then namings es n + 1 else namings es n)
    none

pub size_still : (e : FlowEvent) (es : List FlowEvent) (n : ℕ) → size_in e ≡ [] → size_of (e ∷ es) n ≡ size_of es n
size_still e es n none = ap (λ (xs : List ℕ). slice_index_or xs n 0)
    (ap (λ (more : List ℕ). field_sizes es ++ more) none ∙ append-nil (field_sizes es))

pub says_still : (e : FlowEvent) (es : List FlowEvent) (n : ℕ) (h : SentNumber) → size_in e ≡ []
    → is_acked (e ∷ es) n ≡ is_acked es n → names e (waits es) es n ≡ false → ((i : ℕ) → resends e n i ≡ false)
    → Says es n h → Says (e ∷ es) n h
says_still e es n h none same unnamed' rests s = record {
  size = s.size ∙ sym (size_still e es n none);
  ascends = s.ascends;
  waiting = λ i. s.waiting i ∙ sym (waits_still e es n i same unnamed' (rests i));
  namings_are = s.namings_are ∙ sym (namings_still e es n unnamed');
}

-- ---- a number is written

push_number : (hs : List SentNumber) (size k : ℕ) (P : ℕ → SentNumber → Type 0)
    → (k < length hs → P k (number_at hs k)) → (k ≡ length hs → P k (never_named size))
    → (length hs < k → P k (never_named 0)) → P k (number_at (hs ++ never_named size ∷ []) k)
push_number hs size k P old here past = elim (cases_lt k (length hs)) [
  | inl lt ↦ subst (P k) (sym (get_or_append_left hs (never_named size ∷ []) (never_named 0) k lt)) (old lt)
  | inr le ↦ elim (cases_eq k (length hs)) [
    | inl same ↦ subst (P k) (sym (get_or_push hs (never_named size) (never_named 0) k (sym same))) (here same)
    | inr other ↦ subst (P k)
        (sym (get_or_past (hs ++ never_named size ∷ []) k (never_named 0)
        (omega (arith, length_push hs (never_named size))))) (past (omega arith))
  ]
]

pub says_written : (size : ℕ) (es : List FlowEvent) (base : ℕ) (hs : List SentNumber) → Acks es base hs
    → SayAll es base hs → SayAll (NumberWritten size ∷ es) base (hs ++ never_named size ∷ [])
says_written size es base hs a s k =
    let none : (i : ℕ) → length hs ≤ k → waits es (base + k) i ≡ false = λ i le. sym ((s k).waiting i) ∙ empty i le in
    let never : length hs ≤ k → namings es (base + k) ≡ 0 = λ le.
    sym ((s k).namings_are) ∙ ap (λ (h : SentNumber). h.namings) (get_or_past hs k (never_named 0) le) in
    push_number hs size k (λ (j : ℕ) (h : SentNumber). Says (NumberWritten size ∷ es) (base + k) h)
    (λ lt. with_size (number_at hs k) (old lt) (s k).ascends (s k).waiting (s k).namings_are)
    (λ same. with_size (never_named size) (new same) tt (λ i. sym (none i (omega arith))) (sym (never (omega arith))))
    (λ lt. with_size (never_named 0) (past lt) tt (λ i. sym (none i (omega arith))) (sym (never (omega arith))))
  where
    empty : (i : ℕ) → length hs ≤ k → has (number_at hs k).waiting i ≡ false
    empty i le = ap (λ (h : SentNumber). has h.waiting i) (get_or_past hs k (never_named 0) le)

    with_size : (h : SentNumber) → h.size ≡ size_of (NumberWritten size ∷ es) (base + k) → AreAscending 0 h.waiting
        → ((i : ℕ) → has h.waiting i ≡ waits es (base + k) i) → h.namings ≡ namings es (base + k)
        → Says (NumberWritten size ∷ es) (base + k) h
    with_size h is up w m = record {
      size = is;
      ascends = up;
      waiting = λ i. w i ∙ sym (waits_still (NumberWritten size) es (base + k) i
          (acked_still (NumberWritten size) es (λ n. refl) (base + k)) refl refl);
      namings_are = m;
    }

    old : k < length hs → (number_at hs k).size ≡ size_of (NumberWritten size ∷ es) (base + k)
    old lt = (s k).size ∙ sym (get_or_append_left (field_sizes es) (size ∷ []) 0 (base + k) (omega (arith, a.next)))

    new : k ≡ length hs → size ≡ size_of (NumberWritten size ∷ es) (base + k)
    new same = sym (get_or_push (field_sizes es) size 0 (base + k) (omega (arith, a.next)))

    past : length hs < k → 0 ≡ size_of (NumberWritten size ∷ es) (base + k)
    past lt = sym (get_or_past (field_sizes es ++ size ∷ []) (base + k) 0
        (omega (arith, a.next, length_push (field_sizes es) size)))

-- ---- octets are written again

pub says_rested : (n from to : ℕ) (es : List FlowEvent) (h : SentNumber) → from < to → Says es n h
    → Says (OctetsResent n from to ∷ es) n (with_rest from to h)
says_rested n from to es h lt s = record {
  size = s.size ∙ sym (size_still (OctetsResent n from to) es n refl);
  ascends = removed_ascends h.waiting from to lt s.ascends;
  waiting = λ i. removed_has h.waiting from to lt i
      ∙ ap (λ (b : Bool). not (lies_in (run_between from to) i) && b) (s.waiting i) ∙ sym (now i);
  namings_are = s.namings_are;
}
  where
    turned : (a b c : Bool) → (a ≡ true → c ≡ false) → (not a && (c && not b)) ≡ (not b && c)
    turned true true c h = refl
    turned true false c h = sym (h refl)
    turned false true true h = refl
    turned false true false h = refl
    turned false false true h = refl
    turned false false false h = refl

    now : (i : ℕ)
        → waits (OctetsResent n from to ∷ es) n i ≡ (not (lies_in (run_between from to) i) && waits es n i)
    now i =
        ap (λ (b : Bool). not b && (waits es n i && not ((n == n) && lies_in (run_between from to) i)))
        (acked_still (OctetsResent n from to) es (λ m. refl) n)
        ∙ ap (λ (b : Bool). not (is_acked es n) && (waits es n i && not (b && lies_in (run_between from to) i)))
        (eq-eqb n n refl)
        ∙ turned (is_acked es n) (lies_in (run_between from to) i) (waits es n i) (acked_rests es n i)

-- ---- a STATUS that is applied

pub says_heard : (ack : ℕ) (entries : List StatusEntry) (es : List FlowEvent) (n : ℕ) (h : SentNumber)
    → is_applied (is_acked es) ack ≡ true → nat_lt n (next_of es) ≡ true → h.acked ≡ is_acked es n → Says es n h
    → Says (StatusHeard ack entries ∷ es) n (heard_number ack entries n h)
says_heard ack entries es n h applied written flag s =
    go h.acked (names_number entries n) (nat_lt n ack) (sym flag) refl refl
  where
    e : FlowEvent
    e = StatusHeard ack entries

    now_acked : (a named below : Bool) → is_acked es n ≡ a → names_number entries n ≡ named → nat_lt n ack ≡ below
        → is_acked (e ∷ es) n ≡ (a || (below && not named))
    now_acked a named below f g d =
        ap
        (λ (b : Bool). is_acked es n || (b && (nat_lt n ack && not (names_number entries n)))) applied
        ∙ ap (λ (b : Bool). b || (nat_lt n ack && not (names_number entries n))) f
        ∙ ap (λ (b : Bool). a || (b && not (names_number entries n))) d
        ∙ ap (λ (b : Bool). a || (below && not b)) g

    now_names : (a named : Bool) → is_acked es n ≡ a → names_number entries n ≡ named
        → names e (waits es) es n ≡ (not a && named)
    now_names a named f g =
        ap (λ (b : Bool). b && nat_lt n (next_of es) && not (is_acked es n) && names_number entries n) applied
        ∙ ap (λ (b : Bool). b && not (is_acked es n) && names_number entries n) written
        ∙ ap (λ (b : Bool). not b && names_number entries n) f ∙ ap (λ (b : Bool). not a && b) g

    size_is : h.size ≡ size_of (e ∷ es) n
    size_is = s.size ∙ sym (size_still e es n refl)

    gone : (i : ℕ) → is_acked (e ∷ es) n ≡ true → waits (e ∷ es) n i ≡ false
    gone i f = acked_rests (e ∷ es) n i f

    none : (a : Bool) → (a && false) ≡ false
    none true = refl
    none false = refl

    last : (o w : Bool) → (o || (w && true)) ≡ (o || w)
    last true w = refl
    last false true = refl
    last false false = refl

    now_waits : (i : ℕ) → is_acked (e ∷ es) n ≡ false → names e (waits es) es n ≡ true
        → waits (e ∷ es) n i ≡ (names_octet entries (size_of es n) n i || waits es n i)
    now_waits i open' named =
        ap
        (λ (b : Bool). not b && ((names e (waits es) es n && names_octet entries (size_of es n) n i)
        || (waits es n i && not false))) open'
        ∙ ap (λ (b : Bool). (b && names_octet entries (size_of es n) n i) || (waits es n i && not false)) named
        ∙ last (names_octet entries (size_of es n) n i) (waits es n i)

    old_is : names e (waits es) es n ≡ true → names_old e es n
        ≡ all_below (λ i. not (names_octet entries (size_of es n) n i) || waits es n i) (size_of es n)
    old_is named = ap
        (λ (b : Bool). all_below (λ i. not (b && names_octet entries (size_of es n) n i) || waits es n i)
        (size_of es n))
        named

    now_namings : names e (waits es) es n ≡ true → counted h (names_new entries n h) ≡ namings (e ∷ es) n
    now_namings named =
        ap (λ (m : ℕ). if (m == 0) || names_new entries n h then m + 1 else m) s.namings_are
        ∙ ap (λ (b : Bool). if (namings es n == 0) || b then namings es n + 1 else namings es n)
        (new_is h n entries (waits es n) s.ascends s.waiting
        ∙ ap (λ (z : ℕ). not (all_below (λ i. not (names_octet entries z n i) || waits es n i) z)) s.size
        ∙ sym (ap not (old_is named)))
        ∙ sym (ap
        (λ (b : Bool). if b && ((namings es n == 0) || not (names_old e es n)) then namings es n + 1 else namings es n)
        named)

    go : (a named below : Bool) → is_acked es n ≡ a → names_number entries n ≡ named → nat_lt n ack ≡ below
        → Says (e ∷ es) n (heard_as a named below entries n h)
    go true named below f g d = record {
      size = size_is;
      ascends = s.ascends;
      waiting = λ i. s.waiting i ∙ acked_rests es n i f ∙ sym (gone i (now_acked true named below f g d));
      namings_are = s.namings_are ∙ sym (namings_still e es n (now_names true named f g));
    }
    go false true below f g d =
        let open' : is_acked (e ∷ es) n ≡ false = now_acked false true below f g d ∙ none below in
        let named : names e (waits es) es n ≡ true = now_names false true f g in
        record {
          size = size_is;
          ascends = woken_ascends n h.size h.waiting entries s.ascends;
          waiting = λ i. woken_has n h.size h.waiting entries i
              ∙ ap (λ (b : Bool). names_octet entries h.size n i || b) (s.waiting i)
              ∙ ap (λ (z : ℕ). names_octet entries z n i || waits es n i) s.size ∙ sym (now_waits i open' named);
          namings_are = now_namings named;
        }
    go false false true f g d = record {
      size = size_is;
      ascends = tt;
      waiting = λ i. sym (gone i (now_acked false false true f g d));
      namings_are = s.namings_are ∙ sym (namings_still e es n (now_names false false f g));
    }
    go false false false f g d = says_still e es n h refl (now_acked false false false f g d ∙ sym f)
        (now_names false false f g) (λ i. refl) s
