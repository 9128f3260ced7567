-- Where the poll timer names a number, along a history.
use Rattle.std.proofs.Common.{◌≡◌, ◌<◌, ◌≤◌, ℕ, zero, suc, ◌+◌, ◌-◌, Bool, true, false, not, ◌||◌, ◌&&◌, List, [], ◌∷◌}
use Rattle.std.proofs.Common.{length, Option, Some, inl, inr, refl, ap, sym, ◌∙◌, arith, ◌⊎◌}
use Rattle.std.proofs.Common.{nat_lt, nat_le, if◌then◌else◌, ◌==◌}
use Rattle.std.proofs.lemmas.Bool.{cases_eq, cases_lt, ltb-true, lt-ltb, le-ltb, le-leb, lt-leb, eqb-true}
use Rattle.std.proofs.lemmas.Bool.{ne_eqb, eq-eqb, and_left, and_right, and_from, and_parts, or_cases, or_left}
use Rattle.std.proofs.lemmas.Bool.{or_right}
use Rattle.std.proofs.lemmas.List.{get_or_append_left, get_or_past}
use Rattle.rlc_pdu.specs.Runs.{Run, has, AreAscending}
use Rattle.rlc_pdu.specs.declared.constants.TheConstants.{AM_WINDOW_SIZE}
use Rattle.journal_account.specs.declared.entry.StatusEntry.{StatusEntry}
use Rattle.journal_account.specs.FlowEvents.{FlowEvent, SduTaken, NumberWritten, OctetsResent, OctetsArrived}
use Rattle.journal_account.specs.FlowEvents.{ReorderStarted, ReorderExpired, StatusHeard, PollExpired, field_sizes}
use Rattle.journal_account.specs.FlowEvents.{size_in, next_of}
use Rattle.journal_account.specs.Entries.{names_octet, start_of, stop_of}
use Rattle.journal_account.specs.Arrived.{all_below}
use Rattle.journal_account.specs.Acked.{is_acked}
use Rattle.journal_account.specs.Waiting.{size_of, is_shut, none_waits, is_last_open, names}
use Rattle.journal_account.specs.Waiting.{octets_named, names_at, resends, waits}
use Rattle.journal_account.specs.FlowSending.{SentNumber, number_at, is_resting, some_wait}
use Rattle.journal_account.specs.FlowSending.{last_open}
use Rattle.journal_account.proofs.Complete.{below_all, below_not}
use Rattle.journal_account.proofs.Naming.{stop_low}
use Rattle.journal_account.proofs.Acking.{Acks}
use Rattle.journal_account.proofs.Waits.{SayAll, acked_rests}

-- ---- what waits lies in the field

entries_low : (ms : List StatusEntry) (size n i : ℕ) → names_octet ms size n i ≡ true → i < size
entries_low [] size n i e = absurd cc
entries_low (m ∷ ms) size n i e =
    step (or_cases ((m.number == n) && (nat_le (start_of m.part) i && nat_lt i (stop_of m.part size)))
    (names_octet ms size n i) e) (λ f. entries_low ms size n i f)
  where
    step : ((((m.number == n) && (nat_le (start_of m.part) i && nat_lt i (stop_of m.part size))) ≡ true)
        ⊎ (names_octet ms size n i ≡ true)) → (names_octet ms size n i ≡ true → i < size) → i < size
    step (inl here) rest =
        let parts = and_parts (m.number == n) (nat_le (start_of m.part) i && nat_lt i (stop_of m.part size)) here in
        let ends = and_parts (nat_le (start_of m.part) i) (nat_lt i (stop_of m.part size)) parts.1 in
        let lt : i < stop_of m.part size = ltb-true i (stop_of m.part size) ends.1 in
        let low : stop_of m.part size ≤ size = stop_low m.part size in
        omega arith
    step (inr there) rest = rest there

octets_low : (e : FlowEvent) (size n i : ℕ) → octets_named e size n i ≡ true → i < size
octets_low (SduTaken len) size n i f = ltb-true i size f
octets_low (NumberWritten len) size n i f = ltb-true i size f
octets_low (OctetsResent m from to) size n i f = ltb-true i size f
octets_low (OctetsArrived m from to) size n i f = ltb-true i size f
octets_low ReorderStarted size n i f = ltb-true i size f
octets_low ReorderExpired size n i f = ltb-true i size f
octets_low (StatusHeard ack entries) size n i f = entries_low entries size n i f
octets_low (PollExpired more) size n i f = ltb-true i size f

size_grows : (e : FlowEvent) (es : List FlowEvent) (n i : ℕ) → i < size_of es n → i < size_of (e ∷ es) n
size_grows e es n i lt = elim (cases_lt n (length (field_sizes es))) [
  | inl in_it ↦
      let same : size_of (e ∷ es) n ≡ size_of es n = get_or_append_left (field_sizes es) (size_in e) 0 n in_it in
      omega arith
  | inr past ↦
      let none : size_of es n ≡ 0 = get_or_past (field_sizes es) n 0 past in
      absurd (omega arith)
]

waits_low : (es : List FlowEvent) (n i : ℕ) → waits es n i ≡ true → i < size_of es n
waits_low [] n i f = absurd cc
waits_low (e ∷ es) n i f =
    let parts = and_parts (not (is_acked (e ∷ es) n)) (names_at e (waits es) es n i
    || (waits es n i && not (resends e n i))) f in
    step (or_cases (names_at e (waits es) es n i) (waits es n i && not (resends e n i)) parts.1)
    (λ g. waits_low es n i g)
  where
    step : ((names_at e (waits es) es n i ≡ true) ⊎ ((waits es n i && not (resends e n i)) ≡ true))
        → (waits es n i ≡ true → i < size_of es n) → i < size_of (e ∷ es) n
    step (inl here) rest =
        let parts = and_parts (names e (waits es) es n) (octets_named e (size_of es n) n i) here in
        size_grows e es n i (octets_low e (size_of es n) n i parts.1)
    step (inr was) rest =
        let parts = and_parts (waits es n i) (not (resends e n i)) was in
        size_grows e es n i (rest parts.0)

-- ---- whether something waits

no_run : (rs : List Run) → (length rs == 0) ≡ true → rs ≡ []
no_run [] e = refl
no_run (r ∷ rs) e = let none : suc (length rs) ≡ 0 = eqb-true (suc (length rs)) 0 e in absurd (omega arith)

resting_none : (h : SentNumber) (i : ℕ) → is_resting h ≡ true → has h.waiting i ≡ false
resting_none h i e = ap (λ (rs : List Run). has rs i) (no_run h.waiting e)

some_run : (rs : List Run) → AreAscending 0 rs → (length rs == 0) ≡ false → (i : ℕ) × (has rs i ≡ true)
some_run [] up e = absurd cc
some_run (r ∷ rs) up e = (
  r.from,
  or_left (nat_le r.from r.from && nat_lt r.from r.to) (has rs r.from)
      (and_from (nat_le r.from r.from) (nat_lt r.from r.to) (le-leb r.from r.from (omega arith))
      (lt-ltb r.from r.to up.1)),
)

some_cases : (hs : List SentNumber) → some_wait hs ≡ true → (k : ℕ) × (is_resting (number_at hs k) ≡ false)
some_cases [] e = absurd cc
some_cases (h ∷ hs) e = step (is_resting h) refl (some_cases hs)
  where
    step : (b : Bool) → is_resting h ≡ b
        → (some_wait hs ≡ true → (k : ℕ) × (is_resting (number_at hs k) ≡ false))
        → (k : ℕ) × (is_resting (number_at (h ∷ hs) k) ≡ false)
    step true is rest =
        let later : some_wait hs ≡ true = sym (ap (λ (b : Bool). not b || some_wait hs) is) ∙ e in
        let found = rest later in
        (suc found.0, found.1)
    step false is rest = (0, is)

none_cases : (hs : List SentNumber) → some_wait hs ≡ false → (k : ℕ) → is_resting (number_at hs k) ≡ true
none_cases [] e k = refl
none_cases (h ∷ hs) e zero = step (is_resting h) refl
  where
    step : (b : Bool) → is_resting h ≡ b → is_resting h ≡ true
    step true is = is
    step false is =
        let some : some_wait (h ∷ hs) ≡ true = ap (λ (b : Bool). not b || some_wait hs) is in
        let never : true ≡ false = sym some ∙ e in
        absurd cc
none_cases (h ∷ hs) e (suc k) = none_cases hs (step (is_resting h) refl) k
  where
    step : (b : Bool) → is_resting h ≡ b → some_wait hs ≡ false
    step true is = sym (ap (λ (b : Bool). not b || some_wait hs) is) ∙ e
    step false is =
        let some : some_wait (h ∷ hs) ≡ true = ap (λ (b : Bool). not b || some_wait hs) is in
        let never : true ≡ false = sym some ∙ e in
        absurd cc

pub rests_at : (es : List FlowEvent) (base : ℕ) (hs : List SentNumber) → Acks es base hs → SayAll es base hs
    → some_wait hs ≡ false → (n i : ℕ) → waits es n i ≡ false
rests_at es base hs a s none n i = elim (cases_lt n base) [
  | inl lt ↦ acked_rests es n i (a.below n lt)
  | inr le ↦
      let at : base + (n - base) ≡ n = omega arith in
      sym (ap (λ (m : ℕ). waits es m i) at) ∙ sym ((s (n - base)).waiting i)
      ∙ resting_none (number_at hs (n - base)) i (none_cases hs none (n - base))
]

pub none_wait_is : (es : List FlowEvent) (base : ℕ) (hs : List SentNumber) → Acks es base hs → SayAll es base hs
    → not (some_wait hs) ≡ none_waits (waits es) es
none_wait_is es base hs a s = go (some_wait hs) refl
  where
    go : (b : Bool) → some_wait hs ≡ b → not b ≡ none_waits (waits es) es
    go false is = sym (below_all (λ n. all_below (λ i. not (waits es n i)) (size_of es n)) (next_of es)
        (λ n lt. below_all (λ i. not (waits es n i)) (size_of es n)
        (λ i low. ap not (rests_at es base hs a s is n i))))
    go true is =
        let found = some_cases hs is in
        let run = some_run (number_at hs found.0).waiting (s found.0).ascends found.1 in
        let wait : waits es (base + found.0) run.0 ≡ true = sym ((s found.0).waiting run.0) ∙ run.1 in
        let low : run.0 < size_of es (base + found.0) = waits_low es (base + found.0) run.0 wait in
        let sent : base + found.0 < next_of es = written (base + found.0) run.0 low in
        sym (below_not (λ n. all_below (λ i. not (waits es n i)) (size_of es n)) (next_of es) (base + found.0) sent
        (below_not (λ i. not (waits es (base + found.0) i)) (size_of es (base + found.0)) run.0 low (ap not wait)))
      where
        written : (n i : ℕ) → i < size_of es n → n < next_of es
        written n i lt = elim (cases_lt n (next_of es)) [
          | inl in_it ↦ in_it
          | inr past ↦ let none : size_of es n ≡ 0 = get_or_past (field_sizes es) n 0 past in absurd (omega arith)
        ]

-- ---- whether the window is shut

pub shut_is : (es : List FlowEvent) (base : ℕ) (hs : List SentNumber) → Acks es base hs
    → (length hs == AM_WINDOW_SIZE) ≡ is_shut es
shut_is es base hs a = elim (cases_eq (length hs) AM_WINDOW_SIZE) [
  | inl same ↦
      let at : next_of es - AM_WINDOW_SIZE ≡ base = omega (arith, a.next) in
      eq-eqb (length hs) AM_WINDOW_SIZE same
      ∙ sym (and_from (nat_le AM_WINDOW_SIZE (next_of es) && all_below (is_acked es) (next_of es - AM_WINDOW_SIZE))
      (not (is_acked es (next_of es - AM_WINDOW_SIZE)))
      (and_from (nat_le AM_WINDOW_SIZE (next_of es)) (all_below (is_acked es) (next_of es - AM_WINDOW_SIZE))
      (le-leb AM_WINDOW_SIZE (next_of es) (omega (arith, a.next)))
      (below_all (is_acked es) (next_of es - AM_WINDOW_SIZE) (λ n lt. a.below n (omega arith))))
      (ap not (ap (is_acked es) at ∙ a.opens)))
  | inr other ↦ ne_eqb (length hs) AM_WINDOW_SIZE other ∙ sym (elim (cases_lt (next_of es) AM_WINDOW_SIZE) [
    | inl few ↦ and_left (nat_le AM_WINDOW_SIZE (next_of es) && all_below (is_acked es) (next_of es - AM_WINDOW_SIZE))
        (not (is_acked es (next_of es - AM_WINDOW_SIZE)))
        (and_left (nat_le AM_WINDOW_SIZE (next_of es)) (all_below (is_acked es) (next_of es - AM_WINDOW_SIZE))
        (lt-leb AM_WINDOW_SIZE (next_of es) few))
    | inr many ↦ elim (cases_lt base (next_of es - AM_WINDOW_SIZE)) [
      | inl past ↦ and_left
          (nat_le AM_WINDOW_SIZE (next_of es) && all_below (is_acked es) (next_of es - AM_WINDOW_SIZE))
          (not (is_acked es (next_of es - AM_WINDOW_SIZE)))
          (and_right (nat_le AM_WINDOW_SIZE (next_of es)) (all_below (is_acked es) (next_of es - AM_WINDOW_SIZE))
          (below_not (is_acked es) (next_of es - AM_WINDOW_SIZE) base past a.opens))
      | inr low ↦ and_right
          (nat_le AM_WINDOW_SIZE (next_of es) && all_below (is_acked es) (next_of es - AM_WINDOW_SIZE))
          (not (is_acked es (next_of es - AM_WINDOW_SIZE)))
          (ap not (a.below (next_of es - AM_WINDOW_SIZE) (omega (arith, a.next))))
    ]
  ])
]

-- ---- the greatest number that isn't acknowledged

pub record IsLast (hs : List SentNumber) (k : ℕ) : Type 0 where
  pub within : k < length hs
  pub open' : (number_at hs k).acked ≡ false
  pub later : (j : ℕ) → k < j → j < length hs → (number_at hs j).acked ≡ true

pub record FoundNone (hs : List SentNumber) (found r : Option ℕ) : Type 0 where
  pub all : (k : ℕ) → k < length hs → (number_at hs k).acked ≡ true
  pub is : r ≡ found

pub record FoundLast (hs : List SentNumber) (at : ℕ) (r : Option ℕ) : Type 0 where
  pub place : ℕ
  pub last : IsLast hs place
  pub is : r ≡ Some (at + place)

all_more : (h : SentNumber) (hs : List SentNumber) → h.acked ≡ true
    → ((k : ℕ) → k < length hs → (number_at hs k).acked ≡ true) → (k : ℕ) → k < length (h ∷ hs)
    → (number_at (h ∷ hs) k).acked ≡ true
all_more h hs e all zero lt = e
all_more h hs e all (suc k) lt = all k (omega arith)

later_first : (h : SentNumber) (hs : List SentNumber)
    → ((k : ℕ) → k < length hs → (number_at hs k).acked ≡ true) → (j : ℕ) → 0 < j → j < length (h ∷ hs)
    → (number_at (h ∷ hs) j).acked ≡ true
later_first h hs all zero up lt = absurd (omega arith)
later_first h hs all (suc j) up lt = all j (omega arith)

later_more : (h : SentNumber) (hs : List SentNumber) (k : ℕ)
    → ((j : ℕ) → k < j → j < length hs → (number_at hs j).acked ≡ true) → (j : ℕ) → suc k < j → j < length (h ∷ hs)
    → (number_at (h ∷ hs) j).acked ≡ true
later_more h hs k later zero up lt = absurd (omega arith)
later_more h hs k later (suc j) up lt = later j (omega arith) (omega arith)

last_step : (h : SentNumber) (hs : List SentNumber) (at : ℕ) (found r : Option ℕ) (b : Bool) → h.acked ≡ b
    → (FoundNone hs (if b then found else Some at) r ⊎ FoundLast hs (at + 1) r)
    → (FoundNone (h ∷ hs) found r ⊎ FoundLast (h ∷ hs) at r)
last_step h hs at found r b is (inr rest) =
    let same : at + 1 + rest.place ≡ at + suc rest.place = omega arith in
    inr (record {
      place = suc rest.place;
      last = record {
        within = omega (arith, rest.last.within);
        open' = rest.last.open';
        later = later_more h hs rest.place rest.last.later;
      };
      is = rest.is ∙ ap (λ (n : ℕ). Some n) same;
    })
last_step h hs at found r true is (inl rest) = inl (record { all = all_more h hs is rest.all; is = rest.is })
last_step h hs at found r false is (inl rest) =
    let same : at ≡ at + 0 = omega arith in
    inr (record {
      place = 0;
      last = record { within = omega arith; open' = is; later = later_first h hs rest.all };
      is = rest.is ∙ ap (λ (n : ℕ). Some n) same;
    })

pub last_cases : (hs : List SentNumber) (at : ℕ) (found : Option ℕ)
    → (FoundNone hs found (last_open at found hs) ⊎ FoundLast hs at (last_open at found hs))
last_cases [] at found = inl (record { all = λ k lt. absurd (omega arith); is = refl })
last_cases (h ∷ hs) at found =
    last_step h hs at found (last_open (at + 1) (if h.acked then found else Some at) hs) h.acked refl
    (last_cases hs (at + 1) (if h.acked then found else Some at))

not_last : (es : List FlowEvent) (n : ℕ) → is_acked es n ≡ true → is_last_open es n ≡ false
not_last es n e = and_left (nat_lt n (next_of es) && not (is_acked es n))
    (all_below (λ k. nat_le k n || is_acked es k) (next_of es))
    (and_right (nat_lt n (next_of es)) (not (is_acked es n)) (ap not e))

past_last : (es : List FlowEvent) (n : ℕ) → next_of es ≤ n → is_last_open es n ≡ false
past_last es n le = and_left (nat_lt n (next_of es) && not (is_acked es n))
    (all_below (λ k. nat_le k n || is_acked es k) (next_of es))
    (and_left (nat_lt n (next_of es)) (not (is_acked es n)) (le-ltb n (next_of es) le))

-- none is open
pub none_last : (es : List FlowEvent) (base : ℕ) (hs : List SentNumber) → Acks es base hs
    → ((k : ℕ) → k < length hs → (number_at hs k).acked ≡ true) → (n : ℕ) → is_last_open es n ≡ false
none_last es base hs a all n = elim (cases_lt n base) [
  | inl low ↦ not_last es n (a.below n low)
  | inr up ↦ elim (cases_lt n (next_of es)) [
    | inl in_it ↦
        let at : base + (n - base) ≡ n = omega arith in
        not_last es n (sym (ap (is_acked es) at) ∙ sym (a.acked (n - base)) ∙ all (n - base) (omega (arith, a.next)))
    | inr past ↦ past_last es n past
  ]
]

pub is_the_last : (es : List FlowEvent) (base : ℕ) (hs : List SentNumber) (k : ℕ) → Acks es base hs → IsLast hs k
    → is_last_open es (base + k) ≡ true
is_the_last es base hs k a l =
    and_from (nat_lt (base + k) (next_of es) && not (is_acked es (base + k)))
    (all_below (λ j. nat_le j (base + k) || is_acked es j) (next_of es))
    (and_from (nat_lt (base + k) (next_of es)) (not (is_acked es (base + k)))
    (lt-ltb (base + k) (next_of es) (omega (arith, a.next, l.within)))
    (ap not (sym (a.acked k) ∙ l.open')))
    (below_all (λ j. nat_le j (base + k) || is_acked es j) (next_of es) (λ j lt. each j lt))
  where
    each : (j : ℕ) → j < next_of es → (nat_le j (base + k) || is_acked es j) ≡ true
    each j lt = elim (cases_lt (base + k) j) [
      | inl up ↦
          let at : base + (j - base) ≡ j = omega arith in
          or_right (nat_le j (base + k)) (is_acked es j)
          (sym (ap (is_acked es) at) ∙ sym (a.acked (j - base))
          ∙ l.later (j - base) (omega arith) (omega (arith, a.next)))
      | inr low ↦ or_left (nat_le j (base + k)) (is_acked es j) (le-leb j (base + k) low)
    ]

pub other_last : (es : List FlowEvent) (base : ℕ) (hs : List SentNumber) (k n : ℕ) → Acks es base hs → IsLast hs k
    → (n ≡ base + k → ⊥) → is_last_open es n ≡ false
other_last es base hs k n a l other = elim (cases_lt n (base + k)) [
  | inl low ↦ and_right (nat_lt n (next_of es) && not (is_acked es n))
      (all_below (λ j. nat_le j n || is_acked es j) (next_of es))
      (below_not (λ j. nat_le j n || is_acked es j) (next_of es) (base + k) (omega (arith, a.next, l.within))
      (ap (λ (b : Bool). b || is_acked es (base + k)) (lt-leb (base + k) n low) ∙ sym (a.acked k) ∙ l.open'))
  | inr up ↦ elim (cases_lt n (next_of es)) [
    | inl in_it ↦
        let at : base + (n - base) ≡ n = omega arith in
        not_last es n (sym (ap (is_acked es) at) ∙ sym (a.acked (n - base))
        ∙ l.later (n - base) (omega arith) (omega (arith, a.next)))
    | inr past ↦ past_last es n past
  ]
]
