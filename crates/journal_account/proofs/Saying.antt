-- What is kept of the numbers from VT(A) on, along a history.
use Rattle.std.proofs.Common.{◌≡◌, ◌<◌, ◌≤◌, ℕ, ◌+◌, ◌-◌, Bool, true, false, not, ◌||◌, ◌&&◌, List, [], ◌∷◌}
use Rattle.std.proofs.Common.{length, drop, Option, Some, None, slice_set, inl, inr, refl, ap, sym, ◌∙◌, arith, subst}
use Rattle.std.proofs.Common.{nat_lt, nat_le, if◌then◌else◌, ◌==◌, ◌⊎◌}
use Rattle.std.proofs.lemmas.Bool.{cases_eq, cases_lt, ltb-true, ltb-false, lt-ltb, le-ltb, le-leb, ne_eqb, and_left}
use Rattle.std.proofs.lemmas.Bool.{and_right}
use Rattle.std.proofs.lemmas.List.{get_or-drop, get_or_past, get_or-set_same, get_or-set_other}
use Rattle.std.proofs.lemmas.Option.{slice_get-get_or}
use Rattle.rlc_pdu.specs.declared.constants.TheConstants.{AM_WINDOW_SIZE}
use Rattle.journal_account.specs.declared.entry.StatusEntry.{StatusEntry}
use Rattle.journal_account.specs.FlowEvents.{FlowEvent, SduTaken, NumberWritten, OctetsResent, OctetsArrived}
use Rattle.journal_account.specs.FlowEvents.{ReorderStarted, ReorderExpired, StatusHeard, PollExpired, field_sizes}
use Rattle.journal_account.specs.FlowEvents.{next_of, IsPossible, IsHistory}
use Rattle.journal_account.specs.Entries.{names_number}
use Rattle.journal_account.specs.Acked.{is_applied, is_acked}
use Rattle.journal_account.specs.Waiting.{size_of, is_left, is_shut, none_waits, is_last_open, is_recalled, names}
use Rattle.journal_account.specs.Waiting.{waits, names_old, namings}
use Rattle.journal_account.specs.FlowSending.{SentNumber, FlowSending, never_named, number_at, with_rest, rested_in}
use Rattle.journal_account.specs.FlowSending.{heard_all, acked_first, applied_in, some_wait, is_quiet, last_open}
use Rattle.journal_account.specs.FlowSending.{recalled, recalled_at, polled_in}
use Rattle.journal_account.specs.FlowAccount.{FlowAccount, sending_with, left_to_send}
use Rattle.journal_account.proofs.Complete.{below_all, below_not}
use Rattle.journal_account.proofs.Order.{each_some}
use Rattle.journal_account.proofs.Naming.{between_has, between_ascends}
use Rattle.journal_account.proofs.Acking.{Acks, heard_at, heard_len, acked_still}
use Rattle.journal_account.proofs.Waits.{Says, SayAll, size_still, says_still, says_written, says_rested}
use Rattle.journal_account.proofs.Waits.{says_heard}
use Rattle.journal_account.proofs.Polling.{FoundNone, FoundLast, last_cases, none_last, is_the_last, other_last}
use Rattle.journal_account.proofs.Polling.{none_wait_is, rests_at, shut_is}

-- ---- events that name nothing

quiet_all : (e : FlowEvent) (es : List FlowEvent) (base : ℕ) (hs : List SentNumber)
    → ((n : ℕ) (h : SentNumber) → Says es n h → Says (e ∷ es) n h) → SayAll es base hs → SayAll (e ∷ es) base hs
quiet_all e es base hs one s k = one (base + k) (number_at hs k) (s k)

-- ---- octets are written again

rested_all : (n from to : ℕ) (es : List FlowEvent) (s : FlowSending) (b : Bool) → nat_lt n s.base ≡ b → from < to
    → n < next_of es → Acks es s.base s.numbers → SayAll es s.base s.numbers
    → SayAll (OctetsResent n from to ∷ es) (rested_in b n from to s).base (rested_in b n from to s).numbers
rested_all n from to es s true is lt written a h k =
    let low : n < s.base = ltb-true n s.base is in
    says_still (OctetsResent n from to) es (s.base + k) (number_at s.numbers k) refl
    (acked_still (OctetsResent n from to) es (λ m. refl) (s.base + k)) refl
    (λ i. and_left (n == s.base + k) (nat_le from i && nat_lt i to) (ne_eqb n (s.base + k) (λ e. omega arith))) (h k)
rested_all n from to es s false is lt written a h k =
    let up : s.base ≤ n = ltb-false n s.base is in
    let there : n - s.base < length s.numbers = omega (arith, a.next) in
    elim (cases_eq k (n - s.base)) [
      | inl same ↦
          let at : n ≡ s.base + k = omega arith in
          subst (λ (m : ℕ). Says (OctetsResent m from to ∷ es) (s.base + k)
          (number_at (slice_set s.numbers (n - s.base) (with_rest from to (number_at s.numbers (n - s.base)))) k))
          (sym at)
          (subst (Says (OctetsResent (s.base + k) from to ∷ es) (s.base + k)) (sym (here there same))
          (says_rested (s.base + k) from to es (number_at s.numbers k) lt (h k)))
      | inr other ↦
          subst (Says (OctetsResent n from to ∷ es) (s.base + k))
          (sym (get_or-set_other s.numbers (n - s.base) k (with_rest from to (number_at s.numbers (n - s.base)))
          (never_named 0) other))
          (says_still (OctetsResent n from to) es (s.base + k) (number_at s.numbers k) refl
          (acked_still (OctetsResent n from to) es (λ m. refl) (s.base + k)) refl
          (λ i. and_left (n == s.base + k) (nat_le from i && nat_lt i to)
          (ne_eqb n (s.base + k) (λ e. other (omega arith)))) (h k))
    ]
  where
    here : n - s.base < length s.numbers → k ≡ n - s.base
        → number_at (slice_set s.numbers (n - s.base) (with_rest from to (number_at s.numbers (n - s.base)))) k
        ≡ with_rest from to (number_at s.numbers k)
    here there same =
        ap
        (λ (j : ℕ). number_at
        (slice_set s.numbers (n - s.base) (with_rest from to (number_at s.numbers (n - s.base)))) j)
        same
        ∙ get_or-set_same s.numbers (n - s.base) (with_rest from to (number_at s.numbers (n - s.base))) (never_named 0)
        there
        ∙ ap (λ (j : ℕ). with_rest from to (number_at s.numbers j)) (sym same)

-- ---- a STATUS

heard_each : (ack : ℕ) (entries : List StatusEntry) (es : List FlowEvent) (base : ℕ) (hs : List SentNumber)
    → ack ≤ next_of es → base ≤ ack → Acks es base hs → SayAll es base hs
    → SayAll (StatusHeard ack entries ∷ es) base (heard_all ack entries base hs)
heard_each ack entries es base hs high le a s k = elim (cases_lt k (length hs)) [
  | inl lt ↦ subst (Says (StatusHeard ack entries ∷ es) (base + k)) (sym (heard_at ack entries base hs k lt))
      (says_heard ack entries es (base + k) (number_at hs k)
      (ap not (below_not (is_acked es) (ack + 1) base (omega arith) a.opens))
      (lt-ltb (base + k) (next_of es) (omega (arith, a.next))) (a.acked k) (s k))
  | inr past ↦
      let beyond : next_of es ≤ base + k = omega (arith, a.next) in
      let low : nat_lt (base + k) ack ≡ false = le-ltb (base + k) ack (omega arith) in
      subst (Says (StatusHeard ack entries ∷ es) (base + k))
      (get_or_past hs k (never_named 0) past
      ∙ sym (get_or_past (heard_all ack entries base hs) k (never_named 0)
      (omega (arith, heard_len ack entries base hs))))
      (says_still (StatusHeard ack entries) es (base + k) (number_at hs k) refl (still low) (unnamed beyond) (λ i. refl)
      (s k))
]
  where
    or_none : (x y : Bool) → y ≡ false → (x || y) ≡ x
    or_none true y e = refl
    or_none false y e = e

    still : nat_lt (base + k) ack ≡ false
        → is_acked (StatusHeard ack entries ∷ es) (base + k) ≡ is_acked es (base + k)
    still low = or_none (is_acked es (base + k))
        (is_applied (is_acked es) ack && (nat_lt (base + k) ack && not (names_number entries (base + k))))
        (and_right (is_applied (is_acked es) ack) (nat_lt (base + k) ack && not (names_number entries (base + k)))
        (and_left (nat_lt (base + k) ack) (not (names_number entries (base + k))) low))

    unnamed : next_of es ≤ base + k → names (StatusHeard ack entries) (waits es) es (base + k) ≡ false
    unnamed beyond = and_left
        (is_applied (is_acked es) ack && nat_lt (base + k) (next_of es) && not (is_acked es (base + k)))
        (names_number entries (base + k))
        (and_left (is_applied (is_acked es) ack && nat_lt (base + k) (next_of es)) (not (is_acked es (base + k)))
        (and_right (is_applied (is_acked es) ack) (nat_lt (base + k) (next_of es))
        (le-ltb (base + k) (next_of es) beyond)))

heard_all_say : (ack : ℕ) (entries : List StatusEntry) (es : List FlowEvent) (s : FlowSending) (b : Bool)
    → nat_lt ack s.base ≡ b → ack ≤ next_of es → Acks es s.base s.numbers → SayAll es s.base s.numbers
    → SayAll (StatusHeard ack entries ∷ es) (applied_in b ack entries s).base (applied_in b ack entries s).numbers
heard_all_say ack entries es s true is high a h k =
    let low : ack < s.base = ltb-true ack s.base is in
    let ignored : is_applied (is_acked es) ack ≡ false =
    ap not (below_all (is_acked es) (ack + 1) (λ i l. a.below i (omega arith))) in
    says_still (StatusHeard ack entries) es (s.base + k) (number_at s.numbers k) refl
    (acked_still (StatusHeard ack entries) es (λ n. and_left (is_applied (is_acked es) ack)
    (nat_lt n ack && not (names_number entries n)) ignored) (s.base + k))
    (and_left (is_applied (is_acked es) ack && nat_lt (s.base + k) (next_of es) && not (is_acked es (s.base + k)))
    (names_number entries (s.base + k))
    (and_left (is_applied (is_acked es) ack && nat_lt (s.base + k) (next_of es)) (not (is_acked es (s.base + k)))
    (and_left (is_applied (is_acked es) ack) (nat_lt (s.base + k) (next_of es)) ignored))) (λ i. refl) (h k)
heard_all_say ack entries es s false is high a h k =
    let up : s.base ≤ ack = ltb-false ack s.base is in
    let at : s.base + (acked_first (gs 0) + k) ≡ s.base + acked_first (gs 0) + k = omega arith in
    subst (λ (n : ℕ). Says (StatusHeard ack entries ∷ es) n (number_at (drop (acked_first (gs 0)) (gs 0)) k)) at
    (subst (Says (StatusHeard ack entries ∷ es) (s.base + (acked_first (gs 0) + k)))
    (sym (get_or-drop (acked_first (gs 0)) (gs 0) k (never_named 0)))
    (heard_each ack entries es s.base s.numbers high up a h (acked_first (gs 0) + k)))
  where
    gs : ℕ → List SentNumber
    gs unused = heard_all ack entries s.base s.numbers

-- ---- the poll timer expires

-- the flow is quiet where its history says so
pub quiet_is : (more left : Bool) (es : List FlowEvent) (s : FlowSending) → left ≡ is_left more es
    → Acks es s.base s.numbers → SayAll es s.base s.numbers
    → is_quiet left s ≡ (none_waits (waits es) es && (not (is_left more es) || is_shut es))
quiet_is more left es s same a h =
    ap (λ (b : Bool). b && (not left || (length s.numbers == AM_WINDOW_SIZE)))
    (none_wait_is es s.base s.numbers a h)
    ∙ ap (λ (b : Bool). none_waits (waits es) es && (not b || (length s.numbers == AM_WINDOW_SIZE))) same
    ∙ ap (λ (b : Bool). none_waits (waits es) es && (not (is_left more es) || b)) (shut_is es s.base s.numbers a)

unpolled : (more : Bool) (es : List FlowEvent) (n : ℕ) (h : SentNumber) → is_recalled more (waits es) es n ≡ false
    → Says es n h → Says (PollExpired more ∷ es) n h
unpolled more es n h none s =
    says_still (PollExpired more) es n h refl (acked_still (PollExpired more) es (λ m. refl) n) none (λ i. refl) s

says_recalled : (more : Bool) (es : List FlowEvent) (n : ℕ) (h : SentNumber) → is_recalled more (waits es) es n ≡ true
    → is_acked es n ≡ false → 0 < size_of es n → ((i : ℕ) → waits es n i ≡ false) → Says es n h
    → Says (PollExpired more ∷ es) n (recalled h)
says_recalled more es n h named open' some rests s = record {
  size = s.size ∙ sym (size_still (PollExpired more) es n refl);
  ascends = between_ascends 0 h.size h.waiting s.ascends;
  waiting = λ i. between_has 0 h.size h.waiting i
      ∙ ap (λ (b : Bool). (nat_le 0 i && nat_lt i h.size) || b) (s.waiting i ∙ rests i)
      ∙ ap (λ (b : Bool). (b && nat_lt i h.size) || false) (le-leb 0 i (omega arith))
      ∙ ap (λ (z : ℕ). nat_lt i z || false) s.size ∙ sym (now i);
  namings_are = ap (λ (m : ℕ). m + 1) s.namings_are ∙ sym now_namings;
}
  where
    now : (i : ℕ) → waits (PollExpired more ∷ es) n i ≡ (nat_lt i (size_of es n) || false)
    now i =
        ap
        (λ (b : Bool). not b
        && ((is_recalled more (waits es) es n && nat_lt i (size_of es n)) || (waits es n i && not false)))
        (acked_still (PollExpired more) es (λ m. refl) n ∙ open')
        ∙ ap (λ (b : Bool). (b && nat_lt i (size_of es n)) || (waits es n i && not false)) named
        ∙ ap (λ (b : Bool). nat_lt i (size_of es n) || (b && not false)) (rests i)

    fresh : names_old (PollExpired more) es n ≡ false
    fresh = below_not
        (λ i. not (is_recalled more (waits es) es n && nat_lt i (size_of es n)) || waits es n i) (size_of es n) 0 some
        (ap (λ (b : Bool). not (b && nat_lt 0 (size_of es n)) || waits es n 0) named
        ∙ ap (λ (b : Bool). not b || waits es n 0) (lt-ltb 0 (size_of es n) some) ∙ rests 0)

    or_true : (x : Bool) → (x || true) ≡ true
    or_true true = refl
    or_true false = refl

    now_namings : namings (PollExpired more ∷ es) n ≡ namings es n + 1
    now_namings =
        ap
        (λ (b : Bool). if b && ((namings es n == 0) || not (names_old (PollExpired more) es n)) then namings es n + 1
        else namings es n) named
        ∙ ap (λ (b : Bool). if (namings es n == 0) || not b then namings es n + 1 else namings es n) fresh
        ∙ ap (λ (b : Bool). if b then namings es n + 1 else namings es n) (or_true (namings es n == 0))

-- a number from VT(A) on below VT(S) has an octet
some_octet : (es : List FlowEvent) (n : ℕ) → IsHistory es → n < next_of es → 0 < size_of es n
some_octet es n h lt =
    each_some es h n (size_of es n) (slice_get-get_or (field_sizes es) n 0 lt)

recalled_all : (more : Bool) (es : List FlowEvent) (s : FlowSending) (o : Option ℕ) → IsHistory es
    → (none_waits (waits es) es && (not (is_left more es) || is_shut es)) ≡ true → some_wait s.numbers ≡ false
    → (FoundNone s.numbers None o ⊎ FoundLast s.numbers 0 o) → Acks es s.base s.numbers → SayAll es s.base s.numbers
    → SayAll (PollExpired more ∷ es) (recalled_at o s).base (recalled_at o s).numbers
recalled_all more es s None past quiet rests (inl found) a h k =
    unpolled more es (s.base + k) (number_at s.numbers k)
    (and_right (none_waits (waits es) es && (not (is_left more es) || is_shut es)) (is_last_open es (s.base + k))
    (none_last es s.base s.numbers a found.all (s.base + k))) (h k)
recalled_all more es s (Some at) past quiet rests (inl found) a h k =
    let never : Some at ≡ None = found.is in absurd cc
recalled_all more es s None past quiet rests (inr found) a h k =
    let never : None ≡ Some (0 + found.place) = found.is in absurd cc
recalled_all more es s (Some at) past quiet rests (inr found) a h k =
    let it : Some at ≡ Some (0 + found.place) = found.is in
    let plus : at ≡ 0 + found.place = cc in
    let is : at ≡ found.place = omega arith in
    elim (cases_eq k found.place) [
      | inl same ↦
          let here : k ≡ at = omega arith in
          subst (Says (PollExpired more ∷ es) (s.base + k))
          (sym (ap (λ (j : ℕ). number_at (slice_set s.numbers at (recalled (number_at s.numbers at))) j) here
          ∙ get_or-set_same s.numbers at (recalled (number_at s.numbers at)) (never_named 0)
          (omega (arith, found.last.within))
          ∙ ap (λ (j : ℕ). recalled (number_at s.numbers j)) (sym here)))
          (says_recalled more es (s.base + k) (number_at s.numbers k) (named same)
          (sym (a.acked k) ∙ ap (λ (j : ℕ). (number_at s.numbers j).acked) same ∙ found.last.open')
          (some_octet es (s.base + k) past (omega (arith, a.next, found.last.within)))
          (λ i. rests_at es s.base s.numbers a h rests (s.base + k) i) (h k))
      | inr other ↦
          subst (Says (PollExpired more ∷ es) (s.base + k))
          (sym (get_or-set_other s.numbers at k (recalled (number_at s.numbers at)) (never_named 0)
          (λ e. other (omega arith))))
          (unpolled more es (s.base + k) (number_at s.numbers k)
          (and_right (none_waits (waits es) es && (not (is_left more es) || is_shut es)) (is_last_open es (s.base + k))
          (other_last es s.base s.numbers found.place (s.base + k) a found.last (λ e. other (omega arith)))) (h k))
    ]
  where
    named : k ≡ found.place → is_recalled more (waits es) es (s.base + k) ≡ true
    named same =
        ap (λ (b : Bool). b && is_last_open es (s.base + k)) quiet
        ∙ ap (λ (j : ℕ). is_last_open es (s.base + j)) same ∙ is_the_last es s.base s.numbers found.place a found.last

quiet_rests : (x y : Bool) → (not x && y) ≡ true → x ≡ false
quiet_rests true y e = absurd cc
quiet_rests false y e = refl

polled_all : (more left : Bool) (es : List FlowEvent) (s : FlowSending) (b : Bool) → is_quiet left s ≡ b
    → left ≡ is_left more es → IsHistory es → Acks es s.base s.numbers → SayAll es s.base s.numbers
    → SayAll (PollExpired more ∷ es) (polled_in b s).base (polled_in b s).numbers
polled_all more left es s true is same past a h k =
    recalled_all more es s (last_open 0 None s.numbers) past (sym (quiet_is more left es s same a h) ∙ is)
    (quiet_rests (some_wait s.numbers) (not left || (length s.numbers == AM_WINDOW_SIZE)) is)
    (last_cases s.numbers 0 None) a h k
polled_all more left es s false is same past a h k =
    unpolled more es (s.base + k) (number_at s.numbers k)
    (and_left (none_waits (waits es) es && (not (is_left more es) || is_shut es)) (is_last_open es (s.base + k))
    (sym (quiet_is more left es s same a h) ∙ is)) (h k)

-- ---- any event

pub says_step : (e : FlowEvent) (es : List FlowEvent) (a : FlowAccount)
    → ((more : Bool) → left_to_send more a ≡ is_left more es) → IsPossible e es → IsHistory es
    → Acks es a.sending.base a.sending.numbers → SayAll es a.sending.base a.sending.numbers
    → SayAll (e ∷ es) (sending_with e a).base (sending_with e a).numbers
says_step (SduTaken size) es a left possible past c s =
    quiet_all (SduTaken size) es a.sending.base a.sending.numbers
    (λ n h t. says_still (SduTaken size) es n h refl (acked_still (SduTaken size) es (λ m. refl) n) refl (λ i. refl)
    t) s
says_step (NumberWritten size) es a left possible past c s =
    says_written size es a.sending.base a.sending.numbers c s
says_step (OctetsResent n from to) es a left possible past c s =
    rested_all n from to es a.sending (nat_lt n a.sending.base) refl possible.1 possible.0 c s
says_step (OctetsArrived n from to) es a left possible past c s =
    quiet_all (OctetsArrived n from to) es a.sending.base a.sending.numbers
    (λ m h t. says_still (OctetsArrived n from to) es m h refl (acked_still (OctetsArrived n from to) es (λ l. refl) m)
    refl (λ i. refl) t) s
says_step ReorderStarted es a left possible past c s =
    quiet_all ReorderStarted es a.sending.base a.sending.numbers
    (λ n h t. says_still ReorderStarted es n h refl (acked_still ReorderStarted es (λ m. refl) n) refl (λ i. refl) t) s
says_step ReorderExpired es a left possible past c s =
    quiet_all ReorderExpired es a.sending.base a.sending.numbers
    (λ n h t. says_still ReorderExpired es n h refl (acked_still ReorderExpired es (λ m. refl) n) refl (λ i. refl) t) s
says_step (StatusHeard ack entries) es a left possible past c s =
    heard_all_say ack entries es a.sending (nat_lt ack a.sending.base) refl possible c s
says_step (PollExpired more) es a left possible past c s =
    polled_all more (left_to_send more a) es a.sending (is_quiet (left_to_send more a) a.sending) refl (left more) past
    c s

pub says_outset : SayAll [] 0 []
says_outset k = record { size = refl; ascends = tt; waiting = λ i. refl; namings_are = refl }
