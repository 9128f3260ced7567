-- The numbers that both sides of an account keep are as long.
use Rattle.std.proofs.Common.{◌≡◌, ◌<◌, inl, inr, ℕ, zero, suc, ◌+◌, ◌-◌, Bool, true, false, List, []}
use Rattle.std.proofs.Common.{◌∷◌, ◌++◌, length, Option, Some, None, slice_get, slice_set, refl, ap, sym}
use Rattle.std.proofs.Common.{◌∙◌, arith, nat_lt}
use Rattle.std.proofs.lemmas.Bool.{cases_eq, cases_lt}
use Rattle.std.proofs.lemmas.List.{get_or-set_same, get_or-set_other, set_past, get_or_append_left, get_or_push}
use Rattle.std.proofs.lemmas.List.{get_or_past, get_or-drop, length_push}
use Rattle.std.proofs.lemmas.Option.{slice_get-get_or}
use Rattle.journal_account.specs.declared.entry.StatusEntry.{StatusEntry}
use Rattle.journal_account.specs.Entries.{names_number}
use Rattle.journal_account.specs.FlowEvents.{FlowEvent, SduTaken, NumberWritten, OctetsResent, OctetsArrived}
use Rattle.journal_account.specs.FlowEvents.{ReorderStarted, ReorderExpired, StatusHeard, PollExpired, field_sizes}
use Rattle.journal_account.specs.FlowEvents.{next_of, IsHistory}
use Rattle.journal_account.specs.Waiting.{size_of}
use Rattle.journal_account.specs.FlowArrivals.{FieldArrivals, FlowArrivals, field_at}
use Rattle.journal_account.specs.FlowSending.{SentNumber, FlowSending, never_named, sent_in, number_at, with_rest}
use Rattle.journal_account.specs.FlowSending.{rested_in, heard_as, heard_number, heard_all, acked_first}
use Rattle.journal_account.specs.FlowSending.{applied_in, recalled, recalled_at, last_open, polled_in}
use Rattle.journal_account.specs.FlowSending.{is_quiet}
use Rattle.journal_account.specs.FlowAccount.{FlowAccount, sending_with, account_of, left_to_send}
use Rattle.journal_account.specs.Laws.{IsAccount}
use Rattle.journal_account.proofs.Accounts.{accounts_are_true}
use Rattle.journal_account.proofs.Acking.{heard_at, heard_len}
use Rattle.journal_account.proofs.ByPlace.{sizes}
use Rattle.journal_account.proofs.Standing.{Stands, step, outset}
use Rattle.journal_account.proofs.Waits.{size_still}
use Rattle.law_account.specs.FlowReceiving.{AccountsHaveSizesAlike}

-- ---- at the sender's side: each number has the size with which it was written

abbrev Sized : List FlowEvent → ℕ → List SentNumber → Type 0
Sized es base hs = (k : ℕ) → (number_at hs k).size ≡ size_of es (base + k)

set_size : (hs : List SentNumber) (at : ℕ) (x : SentNumber) → x.size ≡ (number_at hs at).size → (k : ℕ)
    → (number_at (slice_set hs at x) k).size ≡ (number_at hs k).size
set_size hs at x same k = elim (cases_lt at (length hs)) [
  | inl lt ↦ elim (cases_eq k at) [
    | inl is ↦ ap (λ (j : ℕ). (number_at (slice_set hs at x) j).size) is
        ∙ ap (λ (h : SentNumber). h.size) (get_or-set_same hs at x (never_named 0) lt) ∙ same
        ∙ ap (λ (j : ℕ). (number_at hs j).size) (sym is)
    | inr other ↦ ap (λ (h : SentNumber). h.size) (get_or-set_other hs at k x (never_named 0) other)
  ]
  | inr le ↦ ap (λ (l : List SentNumber). (number_at l k).size) (set_past hs at x le)
]

rested_sized : (es : List FlowEvent) (b : Bool) (n from to : ℕ) (s : FlowSending) → Sized es s.base s.numbers
    → Sized es (rested_in b n from to s).base (rested_in b n from to s).numbers
rested_sized es true n from to s h k = h k
rested_sized es false n from to s h k =
    set_size s.numbers (n - s.base) (with_rest from to (number_at s.numbers (n - s.base))) refl k ∙ h k

heard_size : (ack : ℕ) (entries : List StatusEntry) (n : ℕ) (h : SentNumber)
    → (heard_number ack entries n h).size ≡ h.size
heard_size ack entries n h = by h.acked (names_number entries n) (nat_lt n ack)
  where
    by : (acked named below : Bool) → (heard_as acked named below entries n h).size ≡ h.size
    by true named below = refl
    by false true below = refl
    by false false true = refl
    by false false false = refl

all_size : (ack : ℕ) (entries : List StatusEntry) (n : ℕ) (hs : List SentNumber) (k : ℕ)
    → (number_at (heard_all ack entries n hs) k).size ≡ (number_at hs k).size
all_size ack entries n hs k = elim (cases_lt k (length hs)) [
  | inl lt ↦ ap (λ (h : SentNumber). h.size) (heard_at ack entries n hs k lt)
      ∙ heard_size ack entries (n + k) (number_at hs k)
  | inr le ↦ ap (λ (h : SentNumber). h.size)
      (get_or_past (heard_all ack entries n hs) k (never_named 0) (omega (arith, le, heard_len ack entries n hs))
      ∙ sym (get_or_past hs k (never_named 0) le))
]

heard_sized : (es : List FlowEvent) (b : Bool) (ack : ℕ) (entries : List StatusEntry) (s : FlowSending)
    → Sized es s.base s.numbers
    → Sized es (applied_in b ack entries s).base (applied_in b ack entries s).numbers
heard_sized es true ack entries s h k = h k
heard_sized es false ack entries s h k =
    ap (λ (x : SentNumber). x.size) (get_or-drop c heard k (never_named 0))
    ∙ (all_size ack entries s.base s.numbers (c + k)
    ∙ (h (c + k) ∙ ap (size_of es) (omega arith)))
  where
    heard : List SentNumber
    heard = heard_all ack entries s.base s.numbers

    c : ℕ
    c = acked_first heard

recalled_sized : (es : List FlowEvent) (o : Option ℕ) (s : FlowSending) → Sized es s.base s.numbers
    → Sized es (recalled_at o s).base (recalled_at o s).numbers
recalled_sized es None s h k = h k
recalled_sized es (Some at) s h k = set_size s.numbers at (recalled (number_at s.numbers at)) refl k ∙ h k

polled_sized : (es : List FlowEvent) (b : Bool) (s : FlowSending) → Sized es s.base s.numbers
    → Sized es (polled_in b s).base (polled_in b s).numbers
polled_sized es true s h = recalled_sized es (last_open 0 None s.numbers) s h
polled_sized es false s h = h

written_sized : (size : ℕ) (es : List FlowEvent) (s : FlowSending) → sent_in s ≡ next_of es
    → Sized es s.base s.numbers → Sized (NumberWritten size ∷ es) s.base (s.numbers ++ never_named size ∷ [])
written_sized size es s next h k = elim (cases_lt k (length s.numbers)) [
  | inl lt ↦
      ap (λ (x : SentNumber). x.size) (get_or_append_left s.numbers (never_named size ∷ []) (never_named 0) k lt)
      ∙ (h k ∙ sym (get_or_append_left (field_sizes es) (size ∷ []) 0 (s.base + k) (omega (arith, next, lt))))
  | inr le ↦ elim (cases_eq k (length s.numbers)) [
    | inl same ↦
        ap (λ (x : SentNumber). x.size) (get_or_push s.numbers (never_named size) (never_named 0) k (sym same))
        ∙ sym (get_or_push (field_sizes es) size 0 (s.base + k) (omega (arith, next, same)))
    | inr other ↦
        ap (λ (x : SentNumber). x.size) (get_or_past (s.numbers ++ never_named size ∷ []) k (never_named 0)
        (omega (arith, length_push s.numbers (never_named size), le, other)))
        ∙ sym (get_or_past (field_sizes es ++ size ∷ []) (s.base + k) 0
        (omega (arith, length_push (field_sizes es) size, next, le, other)))
  ]
]

still : (e : FlowEvent) (es : List FlowEvent) (base : ℕ) (hs : List SentNumber)
    → ((n : ℕ) → size_of (e ∷ es) n ≡ size_of es n) → Sized es base hs → Sized (e ∷ es) base hs
still e es base hs same h k = h k ∙ sym (same (base + k))

sized_step : (e : FlowEvent) (es : List FlowEvent) (a : FlowAccount) → sent_in a.sending ≡ next_of es
    → Sized es a.sending.base a.sending.numbers → Sized (e ∷ es) (sending_with e a).base (sending_with e a).numbers
sized_step (SduTaken size) es a next h =
    still (SduTaken size) es a.sending.base a.sending.numbers (λ n. size_still (SduTaken size) es n refl) h
sized_step (NumberWritten size) es a next h = written_sized size es a.sending next h
sized_step (OctetsResent n from to) es a next h =
    rested_sized (OctetsResent n from to ∷ es) (nat_lt n a.sending.base) n from to a.sending
    (still (OctetsResent n from to) es a.sending.base a.sending.numbers
    (λ m. size_still (OctetsResent n from to) es m refl) h)
sized_step (OctetsArrived n from to) es a next h =
    still (OctetsArrived n from to) es a.sending.base a.sending.numbers
    (λ m. size_still (OctetsArrived n from to) es m refl) h
sized_step ReorderStarted es a next h =
    still ReorderStarted es a.sending.base a.sending.numbers (λ n. size_still ReorderStarted es n refl) h
sized_step ReorderExpired es a next h =
    still ReorderExpired es a.sending.base a.sending.numbers (λ n. size_still ReorderExpired es n refl) h
sized_step (StatusHeard ack entries) es a next h =
    heard_sized (StatusHeard ack entries ∷ es) (nat_lt ack a.sending.base) ack entries a.sending
    (still (StatusHeard ack entries) es a.sending.base a.sending.numbers
    (λ n. size_still (StatusHeard ack entries) es n refl) h)
sized_step (PollExpired more) es a next h =
    polled_sized (PollExpired more ∷ es) (is_quiet (left_to_send more a) a.sending) a.sending
    (still (PollExpired more) es a.sending.base a.sending.numbers (λ n. size_still (PollExpired more) es n refl) h)

sized : (most : ℕ) (es : List FlowEvent) → IsHistory es
    → Sized es (account_of most es).sending.base (account_of most es).sending.numbers
sized most [] h k = refl
sized most (e ∷ es) h k =
    sized_step e es (account_of most es) (accounts_are_true most es h.1).sending.next (sized most es h.1) k

-- ---- at the receiver's side

stands : (most : ℕ) (es : List FlowEvent) → IsHistory es → Stands es (account_of most es).arrivals
stands most [] h = outset
stands most (e ∷ es) h = step e es (account_of most es).arrivals h.0 (stands most es h.1)

field_size : (fields : List FieldArrivals) (k s : ℕ) → k < length fields → slice_get (sizes fields) k ≡ Some s
    → (field_at fields k).size ≡ s
field_size [] k s lt is = absurd (omega (arith, lt))
field_size (f ∷ fs) zero s lt is = let same : f.size ≡ s = cc in same
field_size (f ∷ fs) (suc k) s lt is = field_size fs k s (omega (arith, lt)) is

pub sizes_alike : AccountsHaveSizesAlike
sizes_alike most es h = record {
  next = both.sending.next ∙ sym both.arrivals.next;
  sizes = λ n base front lt.
      let here : s.base + (n - s.base) ≡ n = omega (arith, base) in
      let there : a.front + (n - a.front) ≡ n = omega (arith, front) in
      let known : n < length (field_sizes es) = omega (arith, lt, both.arrivals.next) in
      sized most es h (n - s.base)
      ∙ (ap (size_of es) here
      ∙ sym (field_size a.fields (n - a.front) (size_of es n) (omega (arith, lt, front))
      (sym ((stands most es h).tells.sizes_are (n - a.front))
      ∙ (ap (slice_get (field_sizes es)) there ∙ slice_get-get_or (field_sizes es) n 0 known))));
}
  where
    s : FlowSending
    s = (account_of most es).sending

    a : FlowArrivals
    a = (account_of most es).arrivals

    both : IsAccount most es (account_of most es)
    both = accounts_are_true most es h
