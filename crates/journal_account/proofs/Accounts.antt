-- The account of a history tells what the history says.
use Rattle.std.proofs.Common.{◌≡◌, ◌<◌, ◌≤◌, ℕ, ◌+◌, ◌-◌, Bool, true, false, List, [], ◌∷◌}
use Rattle.std.proofs.Common.{length, Some, inl, inr, refl, ap, sym, ◌∙◌, arith, subst}
use Rattle.std.proofs.Common.{slice_index_or}
use Rattle.std.proofs.lemmas.Bool.{cases_lt, or_right}
use Rattle.std.proofs.lemmas.List.{append-nil}
use Rattle.l2_num.specs.Least.{IsLeast}
use Rattle.journal_account.specs.FlowEvents.{FlowEvent, SduTaken, NumberWritten, OctetsResent, OctetsArrived}
use Rattle.journal_account.specs.FlowEvents.{ReorderStarted, ReorderExpired, StatusHeard, PollExpired}
use Rattle.journal_account.specs.FlowEvents.{field_sizes, size_in, IsPossible, IsHistory}
use Rattle.journal_account.specs.Arrived.{brings_octet, octet_came, is_complete_in, top_in, expired_mark}
use Rattle.journal_account.specs.Stream.{place_of, sdu_sizes, place_came}
use Rattle.journal_account.specs.FlowArrivals.{FlowArrivals, field_at, leading_octets, stream_gap}
use Rattle.journal_account.specs.FlowSdus.{FlowSdus}
use Rattle.journal_account.specs.FlowAccount.{FlowAccount, arrivals_with, sdus_with, sending_with, account_with}
use Rattle.journal_account.specs.FlowAccount.{account_of}
use Rattle.journal_account.specs.Laws.{AreArrivals, AreSdus, IsSending, AccountsAreTrue}
use Rattle.journal_account.specs.Acked.{is_acked, ignored_in}
use Rattle.journal_account.specs.Waiting.{waits, namings, is_left, IsWithin, FailsAt}
use Rattle.journal_account.specs.FlowAccount.{left_to_send}
use Rattle.journal_account.proofs.Waits.{SayAll, acked_rests}
use Rattle.journal_account.proofs.Saying.{says_step, says_outset}
use Rattle.journal_account.proofs.Limits.{Limits, limits_step, limits_outset}
use Rattle.journal_account.specs.Stream.{end_of_all}
use Rattle.std.proofs.Common.{nat_lt, ◌||◌}
use Rattle.std.specs.Prelude.{MatchOption, MatchBool, is_none}
use Rattle.std.proofs.Common.{nat_le, ◌&&◌, if◌then◌else◌, Option, None, Some}
use Rattle.std.proofs.lemmas.Bool.{le-ltb, le-leb, lt-leb}
use Rattle.rlc_pdu.specs.Runs.{has, gap_in}
use Rattle.rlc_pdu.specs.declared.pdu.Part.{Part}
use Rattle.rlc_pdu.specs.Places.{IsGap}
use Rattle.rlc_pdu.proofs.PlaceLaws.{gaps_are_first}
use Rattle.journal_account.specs.FlowSending.{SentNumber, number_at, octets_wait}
use Rattle.journal_account.specs.Laws.{AreWaiting}
use Rattle.journal_account.proofs.Waits.{Says}
use Rattle.journal_account.specs.FlowSending.{FlowSending}
use Rattle.journal_account.proofs.Acking.{Acks, acks_step, acks_outset}
use Rattle.journal_account.proofs.Ignored.{ignored_step}
use Rattle.journal_account.proofs.Complete.{complete_each}
use Rattle.journal_account.proofs.Statuses.{is_judged}
use Rattle.journal_account.proofs.Wholes.{kept_place, are_whole}
use Rattle.journal_account.proofs.Confirms.{Begins, begins_step, start_grows, are_confirmed}
use Rattle.journal_account.proofs.Telling.{whole_complete}
use Rattle.journal_account.proofs.Order.{expired_low, top_written, top_open}
use Rattle.journal_account.proofs.Along.{along_before, along_more, gap_first}
use Rattle.journal_account.proofs.Sequenced.{Ends, ends_reached, ends_taken, first_behind, ends_least}
use Rattle.journal_account.proofs.Standing.{Stands, step, outset}

-- ---- the first place of the stream that hasn't come

gap_least : (es : List FlowEvent) (a : FlowArrivals) → Stands es a → IsLeast (place_came es) 0 (stream_gap a)
gap_least es a s =
    let le : a.front ≤ length (field_sizes es) = omega (arith, s.tells.next) in
    let at : a.front + 0 ≡ a.front = omega arith in
    let g = gap_first (octet_came es) a.fields a.front (s.tells.ascends 0) (λ i. s.tells.came 0 i
    ∙ ap (λ (n : ℕ). octet_came es n i) at) (whole_complete es a.front a.fields s.tells 0 ∙ ap (is_complete_in es) at
    ∙ s.opens) in
    record {
      from = omega arith;
      refused = kept_place es a s (leading_octets (field_at a.fields 0)) ∙ g.here;
      before = λ p low lt. elim (cases_lt p (place_of (field_sizes es) a.front)) [
        | inl below ↦ along_before (octet_came es) (field_sizes es) a.front 0 p le below
            (λ m z i few is small.
            let same : m ≡ 0 + m = omega arith in
            ap (λ (n : ℕ). octet_came es n i) (sym same) ∙ complete_each es m z i (s.tells.below m few) is small)
        | inr past ↦
            let place : p ≡ a.start + (p - place_of (field_sizes es) a.front) = omega (arith, s.start) in
            ap (place_came es) place ∙ kept_place es a s (p - place_of (field_sizes es) a.front)
            ∙ g.before (p - place_of (field_sizes es) a.front) (omega (arith, s.start))
      ];
    }

still_came : (e : FlowEvent) (es : List FlowEvent) (p : ℕ) → place_came es p ≡ true → place_came (e ∷ es) p ≡ true
still_came e es p = along_more (octet_came es) (octet_came (e ∷ es)) (field_sizes es) (size_in e) 0 p
    (λ m i c. or_right (brings_octet e m i) (octet_came es m i) c)

gap_grows : (e : FlowEvent) (es : List FlowEvent) (p q : ℕ) → IsLeast (place_came es) 0 p
    → IsLeast (place_came (e ∷ es)) 0 q → p ≤ q
gap_grows e es p q h g = elim (cases_lt q p) [
  | inl lt ↦ let came : place_came (e ∷ es) q ≡ true = still_came e es q (h.before q (omega arith) lt) in
      let not_came : place_came (e ∷ es) q ≡ false = g.refused in
      absurd cc
  | inr le ↦ le
]

-- ---- the whole account

record StandsAll (es : List FlowEvent) (a : FlowAccount) : Type 0 where
  arrivals : Stands es a.arrivals
  sdus : Ends (sdu_sizes es) (stream_gap a.arrivals) a.sdus
  first : 0 < length a.sdus.ends → stream_gap a.arrivals < slice_index_or a.sdus.ends 0 0
  sending : Acks es a.sending.base a.sending.numbers
  says : SayAll es a.sending.base a.sending.numbers
  begins : Begins es a.sending
  confirmed : Ends (sdu_sizes es) a.sending.start a.confirmed
  ignored : a.ignored ≡ ignored_in es

sdus_step : (e : FlowEvent) (es : List FlowEvent) (place : ℕ) (s : FlowSdus) → Ends (sdu_sizes es) place s
    → Ends (sdu_sizes (e ∷ es)) place (sdus_with e s)
sdus_step (SduTaken size) es place s h = ends_taken (sdu_sizes es) place size s h
sdus_step (NumberWritten size) es place s h =
    subst (λ (xs : List ℕ). Ends xs place s) (sym (append-nil (sdu_sizes es))) h
sdus_step (OctetsResent n from to) es place s h =
    subst (λ (xs : List ℕ). Ends xs place s) (sym (append-nil (sdu_sizes es))) h
sdus_step (OctetsArrived n from to) es place s h =
    subst (λ (xs : List ℕ). Ends xs place s) (sym (append-nil (sdu_sizes es))) h
sdus_step ReorderStarted es place s h =
    subst (λ (xs : List ℕ). Ends xs place s) (sym (append-nil (sdu_sizes es))) h
sdus_step ReorderExpired es place s h =
    subst (λ (xs : List ℕ). Ends xs place s) (sym (append-nil (sdu_sizes es))) h
sdus_step (StatusHeard ack entries) es place s h =
    subst (λ (xs : List ℕ). Ends xs place s) (sym (append-nil (sdu_sizes es))) h
sdus_step (PollExpired more) es place s h =
    subst (λ (xs : List ℕ). Ends xs place s) (sym (append-nil (sdu_sizes es))) h

left_is : (es : List FlowEvent) (a : FlowAccount) → StandsAll es a → (more : Bool)
    → left_to_send more a ≡ is_left more es
left_is es a s more =
    ap (λ (n : ℕ). more || nat_lt n a.sdus.taken) s.arrivals.written
    ∙ ap (λ (n : ℕ). more || nat_lt (end_of_all (field_sizes es)) n) s.sdus.taken

all_step : (e : FlowEvent) (es : List FlowEvent) (a : FlowAccount) → IsPossible e es → IsHistory es
    → StandsAll es a → StandsAll (e ∷ es) (account_with e a)
all_step e es a h past s =
    let next : Stands (e ∷ es) (arrivals_with e a.arrivals) = step e es a.arrivals h s.arrivals in
    let grows : stream_gap a.arrivals ≤ stream_gap (arrivals_with e a.arrivals) =
    gap_grows e es (stream_gap a.arrivals) (stream_gap (arrivals_with e a.arrivals))
    (gap_least es a.arrivals s.arrivals)
    (gap_least (e ∷ es) (arrivals_with e a.arrivals) next) in
    record {
      arrivals = next;
      sdus = ends_reached (sdu_sizes (e ∷ es)) (stream_gap a.arrivals) (stream_gap (arrivals_with e a.arrivals))
          (sdus_with e a.sdus) grows (sdus_step e es (stream_gap a.arrivals) a.sdus s.sdus);
      first = first_behind (stream_gap (arrivals_with e a.arrivals)) (sdus_with e a.sdus);
      sending = acks_step e es a h s.sending;
      says = says_step e es a (left_is es a s) h past s.sending s.says;
      begins = begins_step e es a s.sending s.says s.begins;
      confirmed = ends_reached (sdu_sizes (e ∷ es)) a.sending.start (sending_with e a).start
          (sdus_with e a.confirmed) (start_grows e a) (sdus_step e es a.sending.start a.confirmed s.confirmed);
      ignored = ignored_step e es a s.sending s.ignored;
    }

all_stand : (most : ℕ) (es : List FlowEvent) → IsHistory es → StandsAll es (account_of most es)
all_stand most [] h = record {
  arrivals = outset;
  sdus = record {
    count = omega arith;
    taken = refl;
    ends_are = λ j lt. absurd (omega arith);
    gone = λ k lt. absurd (omega arith);
  };
  first = λ lt. absurd (omega arith);
  sending = acks_outset;
  says = says_outset;
  begins = refl;
  confirmed = record {
    count = omega arith;
    taken = refl;
    ends_are = λ j lt. absurd (omega arith);
    gone = λ k lt. absurd (omega arith);
  };
  ignored = refl;
}
all_stand most (e ∷ es) h = all_step e es (account_of most es) h.0 h.1 (all_stand most es h.1)

-- ---- the law

least_le : (p : ℕ → Bool) (m k n : ℕ) → IsLeast p m k → m ≤ n → p n ≡ false → k ≤ n
least_le p m k n h le e = elim (cases_lt n k) [
  | inl lt ↦ let all : p n ≡ true = h.before n le lt in absurd cc
  | inr ge ↦ ge
]

are_arrivals : (es : List FlowEvent) (a : FlowArrivals) → IsHistory es → Stands es a → AreArrivals es a
are_arrivals es a h s =
    let front : IsLeast (is_complete_in es) 0 a.front = record {
      from = omega arith;
      refused = s.opens;
      before = λ n le lt. s.tells.below n lt;
    } in
    record {
      front = front;
      bound = s.bound;
      top = s.top;
      mark = s.mark;
      front_low = least_le (is_complete_in es) 0 a.front a.bound front (omega arith) s.bound.refused;
      bound_low = rw s.top (least_le (is_complete_in es) (expired_mark es) a.bound (top_in es) s.bound (expired_low es)
          (top_open es h));
      top_low = rw s.top (top_written es h);
      next = s.tells.next;
      came = λ n i le.
          let at : a.front + (n - a.front) ≡ n = omega arith in
          s.tells.came (n - a.front) i ∙ ap (λ (m : ℕ). octet_came es m i) at;
      written = s.written;
      gap = gap_least es a s;
    }

are_sdus : (es : List FlowEvent) (a : FlowAccount) → StandsAll es a → AreSdus es a.sdus
are_sdus es a s = record {
  taken = s.sdus.taken;
  sequenced = ends_least es (stream_gap a.arrivals) a.sdus (gap_least es a.arrivals s.arrivals) s.sdus s.first;
}

-- octets of a number from VT(A) on wait where no gap is among them
gap_waits : (es : List FlowEvent) (n from to : ℕ) (h : SentNumber) → from < to → Says es n h
    → MatchBool (is_none (gap_in h.waiting from to)) ((i : ℕ) → from ≤ i → i < to → waits es n i ≡ true)
    (((i : ℕ) → from ≤ i → i < to → waits es n i ≡ true) → ⊥)
gap_waits es n from to h lt s = go (gap_in h.waiting from to) (gaps_are_first h.waiting from to s.ascends)
  where
    go : (o : Option Part)
        → MatchOption o ((i : ℕ) → from ≤ i → i < to → has h.waiting i ≡ true) (IsGap h.waiting from to)
        → MatchBool (is_none o) ((i : ℕ) → from ≤ i → i < to → waits es n i ≡ true)
        (((i : ℕ) → from ≤ i → i < to → waits es n i ≡ true) → ⊥)
    go None all = λ i a b. sym (s.waiting i) ∙ all i a b
    go (Some p) gap = λ all.
        let waited : waits es n p.start ≡ true = all p.start gap.above (omega (arith, gap.some, gap.below)) in
        let never : has h.waiting p.start ≡ false = gap.missing p.start (omega arith) gap.some in
        let same : has h.waiting p.start ≡ waits es n p.start = s.waiting p.start in
        absurd cc

all_from : (b : Bool) (P : Type 0) → MatchBool b P (P → ⊥) → b ≡ true → P
all_from true P h e = h
all_from false P h e = absurd cc

from_all : (b : Bool) (P : Type 0) → MatchBool b P (P → ⊥) → P → b ≡ true
from_all true P h p = refl
from_all false P h p = absurd (h p)

are_waiting : (es : List FlowEvent) (s : FlowSending) → Acks es s.base s.numbers → SayAll es s.base s.numbers
    → (n from to : ℕ) → from < to → AreWaiting es s n from to
are_waiting es s h t n from to lt = elim (cases_lt n s.base) [
  | inl low ↦ record {
    all = λ e i a b.
        let below : nat_le s.base n ≡ false = lt-leb s.base n low in
        let never : octets_wait n from to s ≡ false =
        ap (λ (x : Bool). x && is_none (gap_in (number_at s.numbers (n - s.base)).waiting from to)) below in
        absurd cc;
    only = λ all.
        let waited : waits es n from ≡ true = all from (omega arith) lt in
        let never : waits es n from ≡ false = acked_rests es n from (h.below n low) in
        absurd cc;
  }
  | inr up ↦
      let at : s.base + (n - s.base) ≡ n = omega arith in
      let says : Says es n (number_at s.numbers (n - s.base)) =
      subst (λ (m : ℕ). Says es m (number_at s.numbers (n - s.base))) at (t (n - s.base)) in
      let is : octets_wait n from to s ≡ is_none (gap_in (number_at s.numbers (n - s.base)).waiting from to) =
      ap (λ (x : Bool). x && is_none (gap_in (number_at s.numbers (n - s.base)).waiting from to))
      (le-leb s.base n up) in
      record {
        all = λ e. all_from (is_none (gap_in (number_at s.numbers (n - s.base)).waiting from to))
            ((i : ℕ) → from ≤ i → i < to → waits es n i ≡ true)
            (gap_waits es n from to (number_at s.numbers (n - s.base)) lt says) (sym is ∙ e);
        only = λ all. is ∙ from_all (is_none (gap_in (number_at s.numbers (n - s.base)).waiting from to))
            ((i : ℕ) → from ≤ i → i < to → waits es n i ≡ true)
            (gap_waits es n from to (number_at s.numbers (n - s.base)) lt says) all;
      }
]

is_sending : (most : ℕ) (es : List FlowEvent) (s : FlowSending) → Acks es s.base s.numbers
    → SayAll es s.base s.numbers → MatchOption s.limit (IsWithin most es) (FailsAt most es) → IsSending most es s
is_sending most es s h t limit = record {
  base = record { from = omega arith; refused = h.opens; before = λ n le lt. h.below n lt };
  next = h.next;
  acked = λ n le lt.
      let at : s.base + (n - s.base) ≡ n = omega arith in
      h.acked (n - s.base) ∙ ap (is_acked es) at;
  waiting = λ n from to lt. are_waiting es s h t n from to lt;
  namings_are = λ n le.
      let at : s.base + (n - s.base) ≡ n = omega arith in
      ap (λ (b : Bool). if b then 0 else (number_at s.numbers (n - s.base)).namings) (le-ltb n s.base le)
      ∙ (t (n - s.base)).namings_are ∙ ap (namings es) at;
  limit = limit;
}

limits : (most : ℕ) (es : List FlowEvent) → IsHistory es → Limits most es (account_of most es).sending
limits most [] h = limits_outset most
limits most (e ∷ es) h =
    let s : StandsAll es (account_of most es) = all_stand most es h.1 in
    let t : StandsAll (e ∷ es) (account_of most (e ∷ es)) = all_stand most (e ∷ es) h in
    limits_step most e es (account_of most es) (left_is es (account_of most es) s) s.sending s.says t.sending t.says
    (limits most es h.1)

pub accounts_are_true : AccountsAreTrue
accounts_are_true most es h =
    let s : StandsAll es (account_of most es) = all_stand most es h in
    record {
      arrivals = are_arrivals es (account_of most es).arrivals h s.arrivals;
      statuses = λ ack entries. is_judged es (account_of most es).arrivals ack entries s.arrivals;
      sdus = are_sdus es (account_of most es) s;
      whole = are_whole es (account_of most es) s.arrivals s.sdus
          (gap_least es (account_of most es).arrivals s.arrivals);
      sending = is_sending most es (account_of most es).sending s.sending s.says (limits most es h).limit;
      confirmed = are_confirmed es (account_of most es) s.sending s.says s.begins s.confirmed;
      ignored = s.ignored;
    }
