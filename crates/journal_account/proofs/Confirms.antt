-- Which SDUs are confirmed, by what is kept and by the history.
use Rattle.std.proofs.Common.{◌≡◌, ◌<◌, ◌≤◌, ℕ, zero, suc, ◌+◌, ◌-◌, Bool, true, false, ◌||◌, List, []}
use Rattle.std.proofs.Common.{◌∷◌, ◌++◌, refl, ap, map}
use Rattle.std.proofs.Common.{sym, ◌∙◌, arith, inl, inr, length, drop, min, nat_lt, nat_le, Option, None, Some}
use Rattle.std.proofs.Common.{slice_get, slice_index_or, if◌then◌else◌}
use Rattle.std.proofs.lemmas.Bool.{cases_lt, and_parts, and_from, leb-true, le-leb}
use Rattle.std.proofs.lemmas.List.{get_or-drop, ext_get_or, length-drop}
use Rattle.journal_account.specs.declared.entry.StatusEntry.{StatusEntry}
use Rattle.journal_account.specs.FlowEvents.{FlowEvent, SduTaken, NumberWritten, OctetsResent, OctetsArrived}
use Rattle.journal_account.specs.FlowEvents.{ReorderStarted, ReorderExpired, StatusHeard, PollExpired}
use Rattle.journal_account.specs.FlowEvents.{field_sizes, size_in}
use Rattle.journal_account.specs.Acked.{is_acked}
use Rattle.journal_account.specs.Arrived.{all_between}
use Rattle.journal_account.specs.Stream.{place_of, came_along, sdu_sizes}
use Rattle.journal_account.specs.Confirmed.{place_acked}
use Rattle.journal_account.specs.FlowSending.{SentNumber, FlowSending, number_at, heard_as, heard_number}
use Rattle.journal_account.specs.FlowSending.{heard_all, acked_first, acked_octets, rested_in, applied_in, recalled_at}
use Rattle.journal_account.specs.FlowSending.{polled_in, last_open, is_quiet}
use Rattle.journal_account.specs.Entries.{names_number}
use Rattle.journal_account.specs.FlowConfirmed.{octets_acked, places_acked, stream_acked}
use Rattle.journal_account.specs.FlowAccount.{FlowAccount, sending_with, left_to_send}
use Rattle.journal_account.specs.Laws.{AreConfirmed}
use Rattle.journal_account.proofs.Acking.{Acks}
use Rattle.journal_account.proofs.Along.{along_behind, along_before, place_left, place_more}
use Rattle.journal_account.proofs.Complete.{between_all, between_each}
use Rattle.journal_account.proofs.Sequenced.{Ends}
use Rattle.journal_account.proofs.Waits.{SayAll}
use Rattle.journal_account.proofs.Wholes.{within, behind, iff, sdus_tell}

-- ---- number by number

pub numbers_left : (numbers : List SentNumber) (at : ℕ) (h : SentNumber) → slice_get numbers at ≡ Some h
    → drop at numbers ≡ h ∷ drop (at + 1) numbers
numbers_left [] at h is = absurd cc
numbers_left (g ∷ hs) zero h is = let same : g ≡ h = cc in ap (λ (x : SentNumber). x ∷ hs) same
numbers_left (g ∷ hs) (suc at) h is =
    let next : suc at + 1 ≡ suc (at + 1) = omega arith in
    numbers_left hs at h is ∙ ap (λ (n : ℕ). h ∷ drop n (g ∷ hs)) (sym next)

-- where no place is left to look for
pub none_left : (numbers : List SentNumber) (from to : ℕ) → to ≤ from → places_acked numbers from to ≡ true
none_left [] from to le = le-leb to from le
none_left (h ∷ hs) from to le =
    and_from (octets_acked from to h) (places_acked hs (from - h.size) (to - h.size)) (here h.acked)
    (none_left hs (from - h.size) (to - h.size) (omega (arith, le)))
  where
    here : (b : Bool) → (b || nat_le (min to h.size) from) ≡ true
    here true = refl
    here false = le-leb (min to h.size) from (omega (arith, le))

pub ruleset numbers_walked = (numbers_left, none_left)

abbrev pub sent_sizes : List SentNumber → List ℕ
sent_sizes hs = map (λ (h : SentNumber). h.size) hs

-- the octets of an acknowledged number
acked_all : (h : SentNumber) (from to q : ℕ) → octets_acked from to h ≡ true → from ≤ q → q < to → q < h.size
    → h.acked ≡ true
acked_all h from to q e le lt small = by h.acked e
  where
    by : (b : Bool) → (b || nat_le (min to h.size) from) ≡ true → b ≡ true
    by true d = refl
    by false d = absurd (let low : min to h.size ≤ from = leb-true (min to h.size) from d in omega arith)

all_acked : (h : SentNumber) (from to : ℕ) → (from < min to h.size → h.acked ≡ true)
    → octets_acked from to h ≡ true
all_acked h from to all = elim (cases_lt from (min to h.size)) [
  | inl some ↦ ap (λ (b : Bool). b || nat_le (min to h.size) from) (all some)
  | inr none ↦ or_so h.acked (nat_le (min to h.size) from) (le-leb (min to h.size) from none)
]
  where
    or_so : (a b : Bool) → b ≡ true → (a || b) ≡ true
    or_so true b e = refl
    or_so false b e = e

first_of : (acked : ℕ → Bool) (h : SentNumber) (hs : List SentNumber) (n : ℕ)
    → ((k : ℕ) → (number_at (h ∷ hs) k).acked ≡ acked (n + k)) → h.acked ≡ acked n
first_of acked h hs n same = let at : n + 0 ≡ n = omega arith in same 0 ∙ ap acked at

rest_of : (acked : ℕ → Bool) (h : SentNumber) (hs : List SentNumber) (n : ℕ)
    → ((k : ℕ) → (number_at (h ∷ hs) k).acked ≡ acked (n + k)) → (k : ℕ) → (number_at hs k).acked ≡ acked (n + 1 + k)
rest_of acked h hs n same k = let next : n + suc k ≡ n + 1 + k = omega arith in same (suc k) ∙ ap acked next

acked_to : (acked : ℕ → Bool) (hs : List SentNumber) (n from to : ℕ)
    → ((k : ℕ) → (number_at hs k).acked ≡ acked (n + k)) → places_acked hs from to ≡ true → (q : ℕ) → from ≤ q
    → q < to → came_along (λ m i. acked m) (sent_sizes hs) n q ≡ true
acked_to acked [] n from to same e q le lt = absurd (omega (arith, le, lt, leb-true to from e))
acked_to acked (h ∷ hs) n from to same e q le lt =
    let both = and_parts (octets_acked from to h) (places_acked hs (from - h.size) (to - h.size)) e in
    elim (cases_lt q h.size) [
      | inl here ↦
          within (λ m i. acked m) h.size (sent_sizes hs) n q here ∙ sym (first_of acked h hs n same)
          ∙ acked_all h from to q both.0 le lt here
      | inr past ↦
          behind (λ m i. acked m) h.size (sent_sizes hs) n q past
          ∙ acked_to acked hs (n + 1) (from - h.size) (to - h.size) (rest_of acked h hs n same) both.1 (q - h.size)
          (omega (arith, le)) (omega (arith, lt, past))
    ]

to_acked : (acked : ℕ → Bool) (hs : List SentNumber) (n from to : ℕ)
    → ((k : ℕ) → (number_at hs k).acked ≡ acked (n + k))
    → ((q : ℕ) → from ≤ q → q < to → came_along (λ m i. acked m) (sent_sizes hs) n q ≡ true)
    → places_acked hs from to ≡ true
to_acked acked [] n from to same all = elim (cases_lt from to) [
  | inl lt ↦ let no : false ≡ true = all from (omega arith) lt in absurd cc
  | inr le ↦ le-leb to from le
]
to_acked acked (h ∷ hs) n from to same all =
    and_from (octets_acked from to h) (places_acked hs (from - h.size) (to - h.size))
    (all_acked h from to (λ some.
    first_of acked h hs n same
    ∙ sym (within (λ m i. acked m) h.size (sent_sizes hs) n from (omega (arith, some)))
    ∙ all from (omega arith) (omega (arith, some))))
    (to_acked acked hs (n + 1) (from - h.size) (to - h.size) (rest_of acked h hs n same) (λ q le lt.
    let there : q + h.size - h.size ≡ q = omega arith in
    ap (came_along (λ m i. acked m) (sent_sizes hs) (n + 1)) (sym there)
    ∙ sym (behind (λ m i. acked m) h.size (sent_sizes hs) n (q + h.size) (omega arith))
    ∙ all (q + h.size) (omega (arith, le)) (omega (arith, lt))))

-- ---- where the numbers begin

size_at : (hs : List SentNumber) (k : ℕ) → slice_index_or (sent_sizes hs) k 0 ≡ (number_at hs k).size
size_at [] k = refl
size_at (h ∷ hs) zero = refl
size_at (h ∷ hs) (suc k) = size_at hs k

len_sizes : (hs : List SentNumber) → length (sent_sizes hs) ≡ length hs
len_sizes [] = refl
len_sizes (h ∷ hs) = ap suc (len_sizes hs)

sizes_behind : (es : List FlowEvent) (base : ℕ) (hs : List SentNumber) → Acks es base hs → SayAll es base hs
    → drop base (field_sizes es) ≡ sent_sizes hs
sizes_behind es base hs a s =
    ext_get_or 0 (drop base (field_sizes es)) (sent_sizes hs)
    (omega (arith, length-drop base (field_sizes es), len_sizes hs, a.next))
    (λ k lt. get_or-drop base (field_sizes es) k 0 ∙ sym ((s k).size) ∙ sym (size_at hs k))

-- the numbers from VT(A) on begin there
abbrev pub Begins : List FlowEvent → FlowSending → Type 0
Begins es s = s.start ≡ place_of (field_sizes es) s.base

octets_place : (hs : List SentNumber) → acked_octets hs ≡ place_of (sent_sizes hs) (acked_first hs)
octets_place [] = refl
octets_place (h ∷ hs) = step h.acked (octets_place hs)
  where
    step : (b : Bool) → acked_octets hs ≡ place_of (sent_sizes hs) (acked_first hs)
        → (if b then h.size + acked_octets hs else 0)
        ≡ place_of (h.size ∷ sent_sizes hs) (if b then acked_first hs + 1 else 0)
    step true e =
        let same : acked_first hs + 1 ≡ suc (acked_first hs) = omega arith in
        ap (λ (k : ℕ). h.size + k) e ∙ sym (ap (place_of (h.size ∷ sent_sizes hs)) same)
    step false e = refl

heard_size : (ack : ℕ) (entries : List StatusEntry) (n : ℕ) (h : SentNumber)
    → (heard_number ack entries n h).size ≡ h.size
heard_size ack entries n h = go h.acked (names_number entries n) (nat_lt n ack)
  where
    go : (a named below : Bool) → (heard_as a named below entries n h).size ≡ h.size
    go true named below = refl
    go false true below = refl
    go false false true = refl
    go false false false = refl

heard_sizes : (ack : ℕ) (entries : List StatusEntry) (n : ℕ) (hs : List SentNumber)
    → sent_sizes (heard_all ack entries n hs) ≡ sent_sizes hs
heard_sizes ack entries n [] = refl
heard_sizes ack entries n (h ∷ hs) =
    ap (λ (k : ℕ). k ∷ sent_sizes (heard_all ack entries (n + 1) hs)) (heard_size ack entries n h)
    ∙ ap (λ (ks : List ℕ). h.size ∷ ks) (heard_sizes ack entries (n + 1) hs)

begins_still : (e : FlowEvent) (es : List FlowEvent) (s : FlowSending) → Acks es s.base s.numbers → Begins es s
    → s.start ≡ place_of (field_sizes (e ∷ es)) s.base
begins_still e es s a b =
    b ∙ sym (place_left (field_sizes es) (size_in e) s.base (omega (arith, a.next)))

begins_rested : (n from to : ℕ) (es : List FlowEvent) (s : FlowSending) (b : Bool) → Acks es s.base s.numbers
    → Begins es s → Begins (OctetsResent n from to ∷ es) (rested_in b n from to s)
begins_rested n from to es s true a h = begins_still (OctetsResent n from to) es s a h
begins_rested n from to es s false a h = begins_still (OctetsResent n from to) es s a h

begins_recalled : (more : Bool) (es : List FlowEvent) (s : FlowSending) (o : Option ℕ) → Acks es s.base s.numbers
    → Begins es s → Begins (PollExpired more ∷ es) (recalled_at o s)
begins_recalled more es s None a h = begins_still (PollExpired more) es s a h
begins_recalled more es s (Some at) a h = begins_still (PollExpired more) es s a h

begins_polled : (more : Bool) (es : List FlowEvent) (s : FlowSending) (b : Bool) → Acks es s.base s.numbers
    → Begins es s → Begins (PollExpired more ∷ es) (polled_in b s)
begins_polled more es s true a h = begins_recalled more es s (last_open 0 None s.numbers) a h
begins_polled more es s false a h = begins_still (PollExpired more) es s a h

begins_heard : (ack : ℕ) (entries : List StatusEntry) (es : List FlowEvent) (s : FlowSending) (b : Bool)
    → Acks es s.base s.numbers → SayAll es s.base s.numbers → Begins es s
    → Begins (StatusHeard ack entries ∷ es) (applied_in b ack entries s)
begins_heard ack entries es s true a t h = begins_still (StatusHeard ack entries) es s a h
begins_heard ack entries es s false a t h =
    let begun : s.start ≡ place_of (field_sizes (StatusHeard ack entries ∷ es)) s.base =
    begins_still (StatusHeard ack entries) es s a h in
    let rest : drop s.base (field_sizes (StatusHeard ack entries ∷ es)) ≡ sent_sizes (gs 0) =
    ap (drop s.base) (append-none (field_sizes es)) ∙ sizes_behind es s.base s.numbers a t
    ∙ sym (heard_sizes ack entries s.base s.numbers) in
    let passed : acked_octets (gs 0)
    ≡ place_of (drop s.base (field_sizes (StatusHeard ack entries ∷ es))) (acked_first (gs 0)) =
    octets_place (gs 0) ∙ sym (ap (λ (xs : List ℕ). place_of xs (acked_first (gs 0))) rest) in
    let whole = place_more (field_sizes (StatusHeard ack entries ∷ es)) s.base (acked_first (gs 0)) in
    omega (arith, begun, passed, whole)
  where
    gs : ℕ → List SentNumber
    gs unused = heard_all ack entries s.base s.numbers

    append-none : (xs : List ℕ) → xs ++ [] ≡ xs
    append-none [] = refl
    append-none (x ∷ xs) = ap (λ (ys : List ℕ). x ∷ ys) (append-none xs)

pub begins_step : (e : FlowEvent) (es : List FlowEvent) (a : FlowAccount) → Acks es a.sending.base a.sending.numbers
    → SayAll es a.sending.base a.sending.numbers → Begins es a.sending → Begins (e ∷ es) (sending_with e a)
begins_step (SduTaken size) es a c s h = begins_still (SduTaken size) es a.sending c h
begins_step (NumberWritten size) es a c s h = begins_still (NumberWritten size) es a.sending c h
begins_step (OctetsResent n from to) es a c s h =
    begins_rested n from to es a.sending (nat_lt n a.sending.base) c h
begins_step (OctetsArrived n from to) es a c s h = begins_still (OctetsArrived n from to) es a.sending c h
begins_step ReorderStarted es a c s h = begins_still ReorderStarted es a.sending c h
begins_step ReorderExpired es a c s h = begins_still ReorderExpired es a.sending c h
begins_step (StatusHeard ack entries) es a c s h =
    begins_heard ack entries es a.sending (nat_lt ack a.sending.base) c s h
begins_step (PollExpired more) es a c s h =
    begins_polled more es a.sending (is_quiet (left_to_send more a) a.sending) c h

-- ---- it never goes back

start_polled : (o : Option ℕ) (s : FlowSending) → (recalled_at o s).start ≡ s.start
start_polled None s = refl
start_polled (Some at) s = refl

pub start_grows : (e : FlowEvent) (a : FlowAccount) → a.sending.start ≤ (sending_with e a).start
start_grows (SduTaken size) a = omega arith
start_grows (NumberWritten size) a = omega arith
start_grows (OctetsResent n from to) a = by (nat_lt n a.sending.base)
  where
    by : (b : Bool) → a.sending.start ≤ (rested_in b n from to a.sending).start
    by true = omega arith
    by false = omega arith
start_grows (OctetsArrived n from to) a = omega arith
start_grows ReorderStarted a = omega arith
start_grows ReorderExpired a = omega arith
start_grows (StatusHeard ack entries) a = by (nat_lt ack a.sending.base)
  where
    by : (b : Bool) → a.sending.start ≤ (applied_in b ack entries a.sending).start
    by true = omega arith
    by false = omega arith
start_grows (PollExpired more) a = by (is_quiet (left_to_send more a) a.sending)
  where
    by : (b : Bool) → a.sending.start ≤ (polled_in b a.sending).start
    by true = omega (arith, start_polled (last_open 0 None a.sending.numbers) a.sending)
    by false = omega arith

-- ---- the places of the stream

below_start : (es : List FlowEvent) (s : FlowSending) → Acks es s.base s.numbers → Begins es s → (i : ℕ)
    → i < s.start → place_acked es i ≡ true
below_start es s a b i lt =
    along_before (λ n k. is_acked es n) (field_sizes es) s.base 0 i (omega (arith, a.next)) (omega (arith, lt, b))
    (λ m z k few is small.
    let same : m ≡ 0 + m = omega arith in
    ap (is_acked es) (sym same) ∙ a.below m few)

kept_acked : (es : List FlowEvent) (s : FlowSending) → Acks es s.base s.numbers → SayAll es s.base s.numbers
    → Begins es s → (q : ℕ)
    → place_acked es (s.start + q) ≡ came_along (λ n k. is_acked es n) (sent_sizes s.numbers) s.base q
kept_acked es s a t b q =
    let le : s.base ≤ length (field_sizes es) = omega (arith, a.next) in
    let from : drop s.base (field_sizes es) ≡ sent_sizes s.numbers = sizes_behind es s.base s.numbers a t in
    let same : 0 + s.base ≡ s.base = omega arith in
    ap (λ (n : ℕ). place_acked es (n + q)) b
    ∙ along_behind (λ n k. is_acked es n) (field_sizes es) s.base 0 q le
    ∙ ap (λ (n : ℕ). came_along (λ n k. is_acked es n) (drop s.base (field_sizes es)) n q) same
    ∙ ap (λ (xs : List ℕ). came_along (λ n k. is_acked es n) xs s.base q) from

stream_is_acked : (es : List FlowEvent) (s : FlowSending) (from to : ℕ) → Acks es s.base s.numbers
    → SayAll es s.base s.numbers → Begins es s → stream_acked s from to ≡ all_between (place_acked es) from to
stream_is_acked es s from to a t b = iff (stream_acked s from to) (all_between (place_acked es) from to)
    (λ e. between_all (place_acked es) from to (λ i le lt. elim (cases_lt i s.start) [
      | inl low ↦ below_start es s a b i low
      | inr up ↦
          let at : s.start + (i - s.start) ≡ i = omega (arith, up) in
          ap (place_acked es) (sym at) ∙ kept_acked es s a t b (i - s.start)
          ∙ acked_to (is_acked es) s.numbers s.base (from - s.start) (to - s.start) a.acked e (i - s.start)
          (omega (arith, le)) (omega (arith, lt, up))
    ]))
    (λ e. to_acked (is_acked es) s.numbers s.base (from - s.start) (to - s.start) a.acked (λ q le lt.
    sym (kept_acked es s a t b q)
    ∙ between_each (place_acked es) from to (s.start + q) e (omega (arith, le)) (omega (arith, lt))))

pub are_confirmed : (es : List FlowEvent) (a : FlowAccount) → Acks es a.sending.base a.sending.numbers
    → SayAll es a.sending.base a.sending.numbers → Begins es a.sending
    → Ends (sdu_sizes es) a.sending.start a.confirmed → AreConfirmed es a
are_confirmed es a c t b h =
    sdus_tell (sdu_sizes es) (place_acked es) (stream_acked a.sending) a.sending.start a.confirmed h
    (λ i lt. below_start es a.sending c b i lt)
    (λ from to. stream_is_acked es a.sending from to c t b)
