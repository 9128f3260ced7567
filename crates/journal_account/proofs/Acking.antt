-- Which numbers are acknowledged, along a history.
use Rattle.std.proofs.Common.{◌≡◌, ◌<◌, ◌≤◌, ℕ, zero, suc, ◌+◌, ◌-◌, Bool, true, false, not, ◌||◌, ◌&&◌, List, [], ◌∷◌}
use Rattle.std.proofs.Common.{◌++◌, length, drop, Option, Some, None, slice_set, inl, inr, refl, ap, sym, ◌∙◌, arith}
use Rattle.std.proofs.Common.{nat_lt, if◌then◌else◌, add-one, length-append}
use Rattle.std.proofs.lemmas.Bool.{cases_eq, cases_lt, ltb-true, ltb-false, le-ltb, and_left, or_from}
use Rattle.std.proofs.lemmas.List.{get_or-drop, get_or_append_left, get_or_push, get_or_past, get_or-set_same}
use Rattle.std.proofs.lemmas.List.{get_or-set_other, length_push, length-set, length-drop, set_past}
use Rattle.journal_account.specs.declared.entry.StatusEntry.{StatusEntry}
use Rattle.journal_account.specs.FlowEvents.{FlowEvent, SduTaken, NumberWritten, OctetsResent, OctetsArrived}
use Rattle.journal_account.specs.FlowEvents.{ReorderStarted, ReorderExpired, StatusHeard, PollExpired, field_sizes}
use Rattle.journal_account.specs.FlowEvents.{size_in, next_of, IsPossible}
use Rattle.journal_account.specs.Entries.{names_number}
use Rattle.journal_account.specs.Arrived.{all_below}
use Rattle.journal_account.specs.Acked.{is_applied, acks, is_acked}
use Rattle.journal_account.specs.FlowSending.{SentNumber, FlowSending, never_named, number_at, with_rest}
use Rattle.journal_account.specs.FlowSending.{rested_in, heard_as, heard_number, heard_all, acked_first}
use Rattle.journal_account.specs.FlowSending.{applied_in, recalled, recalled_at, polled_in, last_open}
use Rattle.journal_account.specs.FlowSending.{is_quiet}
use Rattle.journal_account.specs.FlowAccount.{FlowAccount, sending_with, left_to_send}
use Rattle.journal_account.proofs.Complete.{below_all, below_not}

pub record Acks (es : List FlowEvent) (base : ℕ) (numbers : List SentNumber) : Type 0 where
  pub next : base + length numbers ≡ next_of es
  pub acked : (k : ℕ) → (number_at numbers k).acked ≡ is_acked es (base + k)
  pub below : (n : ℕ) → n < base → is_acked es n ≡ true
  pub above : (n : ℕ) → next_of es ≤ n → is_acked es n ≡ false
  pub opens : is_acked es base ≡ false

-- ---- the acknowledged numbers that stand first

lead_step : (h : SentNumber) (hs : List SentNumber) (k : ℕ) (b : Bool) → h.acked ≡ b
    → k < (if b then acked_first hs + 1 else 0)
    → ((j : ℕ) → j < acked_first hs → (number_at hs j).acked ≡ true) → (number_at (h ∷ hs) k).acked ≡ true
lead_step h hs k false e lt rest = absurd (omega arith)
lead_step h hs zero true e lt rest = e
lead_step h hs (suc k) true e lt rest = rest k (omega arith)

lead_acked : (hs : List SentNumber) (k : ℕ) → k < acked_first hs → (number_at hs k).acked ≡ true
lead_acked [] k lt = absurd (omega arith)
lead_acked (h ∷ hs) k lt = lead_step h hs k h.acked refl lt (λ j l. lead_acked hs j l)

stop_step : (h : SentNumber) (hs : List SentNumber) (b : Bool) → h.acked ≡ b
    → (number_at hs (acked_first hs)).acked ≡ false
    → (number_at (h ∷ hs) (if b then acked_first hs + 1 else 0)).acked ≡ false
stop_step h hs true e rest = rw (add-one (acked_first hs)) rest
stop_step h hs false e rest = e

stops_acked : (hs : List SentNumber) → (number_at hs (acked_first hs)).acked ≡ false
stops_acked [] = refl
stops_acked (h ∷ hs) = stop_step h hs h.acked refl (stops_acked hs)

few_step : (n : ℕ) (b : Bool) (len : ℕ) → n ≤ len → (if b then n + 1 else 0) ≤ suc len
few_step n true len le = omega arith
few_step n false len le = omega arith

pub acked_few : (hs : List SentNumber) → acked_first hs ≤ length hs
acked_few [] = omega arith
acked_few (h ∷ hs) = few_step (acked_first hs) h.acked (length hs) (acked_few hs)

-- ---- the numbers in their places

pub heard_at : (ack : ℕ) (entries : List StatusEntry) (n : ℕ) (hs : List SentNumber) (k : ℕ) → k < length hs
    → number_at (heard_all ack entries n hs) k ≡ heard_number ack entries (n + k) (number_at hs k)
heard_at ack entries n [] k lt = absurd (omega arith)
heard_at ack entries n (h ∷ hs) zero lt = let same : n ≡ n + 0 = omega arith in
    ap (λ (m : ℕ). heard_number ack entries m h) same
heard_at ack entries n (h ∷ hs) (suc k) lt = let same : n + 1 + k ≡ n + suc k = omega arith in
    heard_at ack entries (n + 1) hs k (omega arith) ∙ ap (λ (m : ℕ). heard_number ack entries m (number_at hs k)) same

pub heard_len : (ack : ℕ) (entries : List StatusEntry) (n : ℕ) (hs : List SentNumber)
    → length (heard_all ack entries n hs) ≡ length hs
heard_len ack entries n [] = refl
heard_len ack entries n (h ∷ hs) = omega (arith, heard_len ack entries (n + 1) hs)

heard_acked : (ack : ℕ) (entries : List StatusEntry) (n : ℕ) (h : SentNumber)
    → (heard_number ack entries n h).acked ≡ (h.acked || (nat_lt n ack && not (names_number entries n)))
heard_acked ack entries n h = go h.acked (names_number entries n) (nat_lt n ack) refl
  where
    go : (a named below : Bool) → h.acked ≡ a
        → (heard_as a named below entries n h).acked ≡ (a || (below && not named))
    go true named below e = e
    go false true true e = e
    go false true false e = e
    go false false true e = refl
    go false false false e = e

pub set_acked : (hs : List SentNumber) (at : ℕ) (x : SentNumber) → x.acked ≡ (number_at hs at).acked → (k : ℕ)
    → (number_at (slice_set hs at x) k).acked ≡ (number_at hs k).acked
set_acked hs at x same k = elim (cases_lt at (length hs)) [
  | inl lt ↦ elim (cases_eq k at) [
    | inl is ↦ ap (λ (j : ℕ). (number_at (slice_set hs at x) j).acked) is
        ∙ ap (λ (h : SentNumber). h.acked) (get_or-set_same hs at x (never_named 0) lt) ∙ same
        ∙ ap (λ (j : ℕ). (number_at hs j).acked) (sym is)
    | inr other ↦ ap (λ (h : SentNumber). h.acked) (get_or-set_other hs at k x (never_named 0) other)
  ]
  | inr le ↦ ap (λ (l : List SentNumber). (number_at l k).acked) (set_past hs at x le)
]

push_acked : (hs : List SentNumber) (size k : ℕ)
    → (number_at (hs ++ never_named size ∷ []) k).acked ≡ (number_at hs k).acked
push_acked hs size k = elim (cases_lt k (length hs)) [
  | inl lt ↦ ap (λ (h : SentNumber). h.acked)
      (get_or_append_left hs (never_named size ∷ []) (never_named 0) k lt)
  | inr le ↦ elim (cases_eq k (length hs)) [
    | inl same ↦ ap (λ (h : SentNumber). h.acked) (get_or_push hs (never_named size) (never_named 0) k (sym same))
        ∙ sym (ap (λ (h : SentNumber). h.acked) (get_or_past hs k (never_named 0) le))
    | inr other ↦ ap (λ (h : SentNumber). h.acked)
        (get_or_past (hs ++ never_named size ∷ []) k (never_named 0) (omega (arith, length_push hs (never_named size))))
        ∙ sym (ap (λ (h : SentNumber). h.acked) (get_or_past hs k (never_named 0) le))
  ]
]

-- ---- events that acknowledge nothing

or_none : (a b : Bool) → b ≡ false → (a || b) ≡ a
or_none true b e = refl
or_none false b e = e

pub acked_still : (e : FlowEvent) (es : List FlowEvent) → ((n : ℕ) → acks e (is_acked es) n ≡ false) → (n : ℕ)
    → is_acked (e ∷ es) n ≡ is_acked es n
acked_still e es silent n = or_none (is_acked es n) (acks e (is_acked es) n) (silent n)

pub next_still : (e : FlowEvent) (es : List FlowEvent) → size_in e ≡ [] → next_of (e ∷ es) ≡ next_of es
next_still e es none =
    omega (arith, length-append (field_sizes es) (size_in e), ap (λ (xs : List ℕ). length xs) none)

acks_still : (e : FlowEvent) (es : List FlowEvent) (base : ℕ) (hs gs : List SentNumber) → size_in e ≡ []
    → ((n : ℕ) → acks e (is_acked es) n ≡ false) → length gs ≡ length hs
    → ((k : ℕ) → (number_at gs k).acked ≡ (number_at hs k).acked) → Acks es base hs → Acks (e ∷ es) base gs
acks_still e es base hs gs none silent len same h =
    let still : (n : ℕ) → is_acked (e ∷ es) n ≡ is_acked es n = acked_still e es silent in
    let next : next_of (e ∷ es) ≡ next_of es = next_still e es none in
    record {
      next = omega (arith, h.next);
      acked = λ k. same k ∙ h.acked k ∙ sym (still (base + k));
      below = λ n lt. still n ∙ h.below n lt;
      above = λ n le. still n ∙ h.above n (omega arith);
      opens = still base ∙ h.opens;
    }

acks_written : (size : ℕ) (es : List FlowEvent) (base : ℕ) (hs : List SentNumber) → Acks es base hs
    → Acks (NumberWritten size ∷ es) base (hs ++ never_named size ∷ [])
acks_written size es base hs h =
    let still : (n : ℕ) → is_acked (NumberWritten size ∷ es) n ≡ is_acked es n =
    acked_still (NumberWritten size) es (λ n. refl) in
    record {
      next = omega (arith, h.next, length_push hs (never_named size), length_push (field_sizes es) size);
      acked = λ k. push_acked hs size k ∙ h.acked k ∙ sym (still (base + k));
      below = λ n lt. still n ∙ h.below n lt;
      above = λ n le. still n ∙ h.above n (omega (arith, length_push (field_sizes es) size));
      opens = still base ∙ h.opens;
    }

-- ---- a STATUS

acks_ignored : (ack : ℕ) (entries : List StatusEntry) (es : List FlowEvent) (base : ℕ) (hs : List SentNumber)
    → ack < base → Acks es base hs → Acks (StatusHeard ack entries ∷ es) base hs
acks_ignored ack entries es base hs lt h =
    let all : all_below (is_acked es) (ack + 1) ≡ true =
    below_all (is_acked es) (ack + 1) (λ i l. h.below i (omega arith)) in
    acks_still (StatusHeard ack entries) es base hs hs refl
    (λ n. and_left (not (all_below (is_acked es) (ack + 1))) (nat_lt n ack && not (names_number entries n))
    (ap not all)) refl (λ k. refl) h

acks_heard : (ack : ℕ) (entries : List StatusEntry) (es : List FlowEvent) (base : ℕ) (hs : List SentNumber)
    → ack ≤ next_of es → base ≤ ack → Acks es base hs
    → Acks (StatusHeard ack entries ∷ es) (base + acked_first (heard_all ack entries base hs))
    (drop (acked_first (heard_all ack entries base hs)) (heard_all ack entries base hs))
acks_heard ack entries es base hs high le h =
    let few : acked_first gs ≤ length gs = acked_few gs in
    let len : length gs ≡ length hs = heard_len ack entries base hs in
    let next : next_of (StatusHeard ack entries ∷ es) ≡ next_of es = next_still (StatusHeard ack entries) es refl in
    record {
      next = omega (arith, h.next, length-drop (acked_first gs) gs);
      acked = λ k.
          let at : base + (acked_first gs + k) ≡ base + acked_first gs + k = omega arith in
          ap (λ (x : SentNumber). x.acked) (get_or-drop (acked_first gs) gs k (never_named 0))
          ∙ each (acked_first gs + k) ∙ ap (is_acked (StatusHeard ack entries ∷ es)) at;
      below = λ n lt. elim (cases_lt n base) [
        | inl was ↦ ap (λ (b : Bool). b || acks (StatusHeard ack entries) (is_acked es) n) (h.below n was)
        | inr now ↦
            let at : base + (n - base) ≡ n = omega arith in
            sym (ap (is_acked (StatusHeard ack entries ∷ es)) at) ∙ sym (each (n - base))
            ∙ lead_acked gs (n - base) (omega arith)
      ];
      above = λ n up. beyond n (omega arith);
      opens = sym (each (acked_first gs)) ∙ stops_acked gs;
    }
  where
    gs : List SentNumber
    gs = heard_all ack entries base hs

    applied : is_applied (is_acked es) ack ≡ true
    applied = ap not (below_not (is_acked es) (ack + 1) base (omega arith) h.opens)

    now_acked : (n : ℕ)
        → is_acked (StatusHeard ack entries ∷ es) n ≡ (is_acked es n || (nat_lt n ack && not (names_number entries n)))
    now_acked n = ap (λ (b : Bool). is_acked es n || (b && (nat_lt n ack && not (names_number entries n)))) applied

    beyond : (n : ℕ) → next_of es ≤ n → is_acked (StatusHeard ack entries ∷ es) n ≡ false
    beyond n up = now_acked n ∙ or_from (is_acked es n) (nat_lt n ack && not (names_number entries n)) (h.above n up)
        (and_left (nat_lt n ack) (not (names_number entries n)) (le-ltb n ack (omega arith)))

    each : (k : ℕ) → (number_at gs k).acked ≡ is_acked (StatusHeard ack entries ∷ es) (base + k)
    each k = elim (cases_lt k (length hs)) [
      | inl lt ↦ ap (λ (x : SentNumber). x.acked) (heard_at ack entries base hs k lt)
          ∙ heard_acked ack entries (base + k) (number_at hs k)
          ∙ ap (λ (b : Bool). b || (nat_lt (base + k) ack && not (names_number entries (base + k)))) (h.acked k)
          ∙ sym (now_acked (base + k))
      | inr past ↦ ap (λ (x : SentNumber). x.acked)
          (get_or_past gs k (never_named 0) (omega (arith, heard_len ack entries base hs)))
          ∙ sym (beyond (base + k) (omega (arith, h.next)))
    ]

acks_status : (ack : ℕ) (entries : List StatusEntry) (es : List FlowEvent) (s : FlowSending) (b : Bool)
    → nat_lt ack s.base ≡ b → ack ≤ next_of es → Acks es s.base s.numbers
    → Acks (StatusHeard ack entries ∷ es) (applied_in b ack entries s).base (applied_in b ack entries s).numbers
acks_status ack entries es s true is high h =
    acks_ignored ack entries es s.base s.numbers (ltb-true ack s.base is) h
acks_status ack entries es s false is high h =
    acks_heard ack entries es s.base s.numbers high (ltb-false ack s.base is) h

-- ---- octets are written again, and the poll timer expires

acks_rested : (n from to : ℕ) (es : List FlowEvent) (s : FlowSending) (b : Bool) → Acks es s.base s.numbers
    → Acks (OctetsResent n from to ∷ es) (rested_in b n from to s).base (rested_in b n from to s).numbers
acks_rested n from to es s true h =
    acks_still (OctetsResent n from to) es s.base s.numbers s.numbers refl (λ m. refl) refl (λ k. refl) h
acks_rested n from to es s false h =
    acks_still (OctetsResent n from to) es s.base s.numbers
    (slice_set s.numbers (n - s.base) (with_rest from to (number_at s.numbers (n - s.base)))) refl (λ m. refl)
    (length-set s.numbers (n - s.base) (with_rest from to (number_at s.numbers (n - s.base))))
    (set_acked s.numbers (n - s.base) (with_rest from to (number_at s.numbers (n - s.base))) refl) h

acks_recalled : (more : Bool) (es : List FlowEvent) (s : FlowSending) (o : Option ℕ) → Acks es s.base s.numbers
    → Acks (PollExpired more ∷ es) (recalled_at o s).base (recalled_at o s).numbers
acks_recalled more es s None h =
    acks_still (PollExpired more) es s.base s.numbers s.numbers refl (λ m. refl) refl (λ k. refl) h
acks_recalled more es s (Some at) h =
    acks_still (PollExpired more) es s.base s.numbers (slice_set s.numbers at (recalled (number_at s.numbers at))) refl
    (λ m. refl) (length-set s.numbers at (recalled (number_at s.numbers at)))
    (set_acked s.numbers at (recalled (number_at s.numbers at)) refl) h

acks_polled : (more : Bool) (es : List FlowEvent) (s : FlowSending) (b : Bool) → Acks es s.base s.numbers
    → Acks (PollExpired more ∷ es) (polled_in b s).base (polled_in b s).numbers
acks_polled more es s true h = acks_recalled more es s (last_open 0 None s.numbers) h
acks_polled more es s false h =
    acks_still (PollExpired more) es s.base s.numbers s.numbers refl (λ m. refl) refl (λ k. refl) h

-- ---- any event

pub acks_step : (e : FlowEvent) (es : List FlowEvent) (a : FlowAccount) → IsPossible e es
    → Acks es a.sending.base a.sending.numbers → Acks (e ∷ es) (sending_with e a).base (sending_with e a).numbers
acks_step (SduTaken size) es a possible h =
    acks_still (SduTaken size) es a.sending.base a.sending.numbers a.sending.numbers refl (λ n. refl) refl (λ k. refl) h
acks_step (NumberWritten size) es a possible h = acks_written size es a.sending.base a.sending.numbers h
acks_step (OctetsResent n from to) es a possible h =
    acks_rested n from to es a.sending (nat_lt n a.sending.base) h
acks_step (OctetsArrived n from to) es a possible h =
    acks_still (OctetsArrived n from to) es a.sending.base a.sending.numbers a.sending.numbers refl (λ m. refl) refl
    (λ k. refl) h
acks_step ReorderStarted es a possible h =
    acks_still ReorderStarted es a.sending.base a.sending.numbers a.sending.numbers refl (λ n. refl) refl (λ k. refl) h
acks_step ReorderExpired es a possible h =
    acks_still ReorderExpired es a.sending.base a.sending.numbers a.sending.numbers refl (λ n. refl) refl (λ k. refl) h
acks_step (StatusHeard ack entries) es a possible h =
    acks_status ack entries es a.sending (nat_lt ack a.sending.base) refl possible h
acks_step (PollExpired more) es a possible h =
    acks_polled more es a.sending (is_quiet (left_to_send more a) a.sending) h

pub acks_outset : Acks [] 0 []
acks_outset = record {
  next = omega arith;
  acked = λ k. refl;
  below = λ n lt. absurd (omega arith);
  above = λ n le. refl;
  opens = refl;
}
