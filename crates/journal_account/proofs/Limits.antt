-- Where an acknowledged flow fails, along a history.
use Rattle.std.proofs.Common.{◌≡◌, ◌<◌, ◌≤◌, ℕ, zero, suc, ◌+◌, ◌-◌, Bool, true, false, not, ◌||◌, ◌&&◌, List, [], ◌∷◌}
use Rattle.std.proofs.Common.{Option, Some, None, inl, inr, refl, ap, sym, ◌∙◌, arith, ◌⊎◌}
use Rattle.std.proofs.Common.{nat_lt, nat_le, if◌then◌else◌}
use Rattle.std.specs.Prelude.{MatchOption}
use Rattle.std.proofs.lemmas.Bool.{cases_lt, ltb-true, ltb-false, and_left, and_right}
use Rattle.journal_account.specs.declared.entry.StatusEntry.{StatusEntry}
use Rattle.journal_account.specs.FlowEvents.{FlowEvent, SduTaken, NumberWritten, OctetsResent, OctetsArrived}
use Rattle.journal_account.specs.FlowEvents.{ReorderStarted, ReorderExpired, StatusHeard, PollExpired, next_of}
use Rattle.journal_account.specs.Entries.{names_number}
use Rattle.journal_account.specs.Arrived.{all_below}
use Rattle.journal_account.specs.Acked.{is_applied, is_acked}
use Rattle.journal_account.specs.Waiting.{is_left, is_shut, none_waits, is_last_open, names, waits, namings, IsWithin}
use Rattle.journal_account.specs.Waiting.{FailsAt}
use Rattle.journal_account.specs.FlowSending.{SentNumber, FlowSending, none_sent, number_at, rested_in, first_over}
use Rattle.journal_account.specs.FlowSending.{or_over, applied_in, is_quiet, last_open, recalled_at, polled_in}
use Rattle.journal_account.specs.FlowAccount.{FlowAccount, sending_with, left_to_send}
use Rattle.journal_account.proofs.Complete.{below_all}
use Rattle.journal_account.proofs.Acking.{Acks}
use Rattle.journal_account.proofs.Waits.{SayAll, namings_still}
use Rattle.journal_account.proofs.Polling.{FoundNone, FoundLast, last_cases, none_last}
use Rattle.journal_account.proofs.Saying.{quiet_is}

pub record Limits (most : ℕ) (es : List FlowEvent) (s : FlowSending) : Type 0 where
  pub most_is : s.most ≡ most
  pub limit : MatchOption s.limit (IsWithin most es) (FailsAt most es)

-- ---- the first number that was named too often

record FoundOver (most base : ℕ) (hs : List SentNumber) (n : ℕ) : Type 0 where
  place : ℕ
  is : n ≡ base + place
  over : most < (number_at hs place).namings
  least : (j : ℕ) → j < place → (number_at hs j).namings ≤ most

few_more : (most : ℕ) (h : SentNumber) (hs : List SentNumber) → h.namings ≤ most
    → ((k : ℕ) → (number_at hs k).namings ≤ most) → (k : ℕ) → (number_at (h ∷ hs) k).namings ≤ most
few_more most h hs le all zero = le
few_more most h hs le all (suc k) = all k

few_before : (most : ℕ) (h : SentNumber) (hs : List SentNumber) (k : ℕ) → h.namings ≤ most
    → ((j : ℕ) → j < k → (number_at hs j).namings ≤ most) → (j : ℕ) → j < suc k
    → (number_at (h ∷ hs) j).namings ≤ most
few_before most h hs k le all zero lt = le
few_before most h hs k le all (suc j) lt = all j (omega arith)

over_cases : (most base : ℕ) (hs : List SentNumber)
    → MatchOption (first_over most base hs) ((k : ℕ) → (number_at hs k).namings ≤ most) (FoundOver most base hs)
over_cases most base [] = λ k. omega arith
over_cases most base (h ∷ hs) =
    step (nat_lt most h.namings) refl (first_over most (base + 1) hs) (over_cases most (base + 1) hs)
  where
    step : (b : Bool) → nat_lt most h.namings ≡ b → (o : Option ℕ)
        → MatchOption o ((k : ℕ) → (number_at hs k).namings ≤ most) (FoundOver most (base + 1) hs)
        → MatchOption (if b then Some base else o) ((k : ℕ) → (number_at (h ∷ hs) k).namings ≤ most)
        (FoundOver most base (h ∷ hs))
    step true is o rest = record {
      place = 0;
      is = omega arith;
      over = ltb-true most h.namings is;
      least = λ j lt. absurd (omega arith);
    }
    step false is None rest = few_more most h hs (ltb-false most h.namings is) rest
    step false is (Some n) rest = record {
      place = suc rest.place;
      is = omega (arith, rest.is);
      over = rest.over;
      least = few_before most h hs rest.place (ltb-false most h.namings is) rest.least;
    }

-- ---- a number that is acknowledged isn't named

acked_unnamed : (e : FlowEvent) (es : List FlowEvent) (n : ℕ) → is_acked (e ∷ es) n ≡ true
    → names e (waits es) es n ≡ false
acked_unnamed (SduTaken size) es n f = refl
acked_unnamed (NumberWritten size) es n f = refl
acked_unnamed (OctetsResent m from to) es n f = refl
acked_unnamed (OctetsArrived m from to) es n f = refl
acked_unnamed ReorderStarted es n f = refl
acked_unnamed ReorderExpired es n f = refl
acked_unnamed (StatusHeard ack entries) es n f =
    go (is_acked es n) (is_applied (is_acked es) ack) (nat_lt n ack) (names_number entries n)
    (nat_lt n (next_of es)) f
  where
    go : (a p below m sent : Bool) → (a || (p && (below && not m))) ≡ true → (p && sent && not a && m) ≡ false
    go true p below m sent g = and_left (p && sent && false) m (and_right (p && sent) false refl)
    go false true true true sent g = absurd cc
    go false true true false sent g = and_right (true && sent && true) false refl
    go false true false m sent g = absurd cc
    go false false below m sent g = absurd cc
acked_unnamed (PollExpired more) es n f =
    and_right (none_waits (waits es) es && (not (is_left more es) || is_shut es)) (is_last_open es n)
    (and_left (nat_lt n (next_of es) && not (is_acked es n))
    (all_below (λ k. nat_le k n || is_acked es k) (next_of es))
    (and_right (nat_lt n (next_of es)) (not (is_acked es n)) (ap not (was (is_acked es n) f))))
  where
    was : (a : Bool) → (a || false) ≡ true → a ≡ true
    was true g = refl
    was false g = absurd cc

-- ---- the limit, where an event names nothing, and where it may

kept_limit : (most : ℕ) (e : FlowEvent) (es : List FlowEvent) (o : Option ℕ)
    → ((n : ℕ) → namings (e ∷ es) n ≡ namings es n) → MatchOption o (IsWithin most es) (FailsAt most es)
    → MatchOption o (IsWithin most (e ∷ es)) (FailsAt most (e ∷ es))
kept_limit most e es None same h = λ n. let is : namings (e ∷ es) n ≡ namings es n = same n in
    let le : namings es n ≤ most = h n in
    omega arith
kept_limit most e es (Some n) same h = inl h

found_limit : (most : ℕ) (e : FlowEvent) (es : List FlowEvent) (base : ℕ) (hs : List SentNumber) (o : Option ℕ)
    → IsWithin most es → Acks (e ∷ es) base hs → SayAll (e ∷ es) base hs
    → MatchOption o ((k : ℕ) → (number_at hs k).namings ≤ most) (FoundOver most base hs)
    → MatchOption o (IsWithin most (e ∷ es)) (FailsAt most (e ∷ es))
found_limit most e es base hs None h a s all = λ n. elim (cases_lt n base) [
  | inl lt ↦
      let same : namings (e ∷ es) n ≡ namings es n = namings_still e es n (acked_unnamed e es n (a.below n lt)) in
      let le : namings es n ≤ most = h n in
      omega arith
  | inr up ↦
      let at : base + (n - base) ≡ n = omega arith in
      let is : (number_at hs (n - base)).namings ≡ namings (e ∷ es) n =
      (s (n - base)).namings_are ∙ ap (namings (e ∷ es)) at in
      let le : (number_at hs (n - base)).namings ≤ most = all (n - base) in
      omega arith
]
found_limit most e es base hs (Some n) h a s f = inr (record {
  within = h;
  over =
      let at : base + f.place ≡ n = omega (arith, f.is) in
      let is : (number_at hs f.place).namings ≡ namings (e ∷ es) n =
      (s f.place).namings_are ∙ ap (namings (e ∷ es)) at in
      omega (arith, f.over);
  least = λ m lt. elim (cases_lt m base) [
    | inl low ↦
        let same : namings (e ∷ es) m ≡ namings es m = namings_still e es m (acked_unnamed e es m (a.below m low)) in
        let le : namings es m ≤ most = h m in
        omega arith
    | inr up ↦
        let at : base + (m - base) ≡ m = omega arith in
        let is : (number_at hs (m - base)).namings ≡ namings (e ∷ es) m =
        (s (m - base)).namings_are ∙ ap (namings (e ∷ es)) at in
        let le : (number_at hs (m - base)).namings ≤ most = f.least (m - base) (omega (arith, f.is)) in
        omega arith
  ];
})

or_limit : (most : ℕ) (e : FlowEvent) (es : List FlowEvent) (base : ℕ) (hs : List SentNumber) (o : Option ℕ)
    → MatchOption o (IsWithin most es) (FailsAt most es) → Acks (e ∷ es) base hs → SayAll (e ∷ es) base hs
    → MatchOption (or_over o most base hs) (IsWithin most (e ∷ es)) (FailsAt most (e ∷ es))
or_limit most e es base hs (Some n) h a s = inl h
or_limit most e es base hs None h a s =
    found_limit most e es base hs (first_over most base hs) h a s (over_cases most base hs)

-- ---- any event

kept : (most : ℕ) (e : FlowEvent) (es : List FlowEvent) (s : FlowSending)
    → ((n : ℕ) → namings (e ∷ es) n ≡ namings es n) → Limits most es s → Limits most (e ∷ es) s
kept most e es s same h = record {
  most_is = h.most_is;
  limit = kept_limit most e es s.limit same h.limit;
}

limits_rested : (most n from to : ℕ) (es : List FlowEvent) (s : FlowSending) (b : Bool) → Limits most es s
    → Limits most (OctetsResent n from to ∷ es) (rested_in b n from to s)
limits_rested most n from to es s true h = kept most (OctetsResent n from to) es s (λ m. refl) h
limits_rested most n from to es s false h = record {
  most_is = h.most_is;
  limit = kept_limit most (OctetsResent n from to) es s.limit (λ m. refl) h.limit;
}

limits_heard : (most ack : ℕ) (entries : List StatusEntry) (es : List FlowEvent) (s : FlowSending) (b : Bool)
    → nat_lt ack s.base ≡ b → Acks es s.base s.numbers
    → Acks (StatusHeard ack entries ∷ es) (applied_in b ack entries s).base (applied_in b ack entries s).numbers
    → SayAll (StatusHeard ack entries ∷ es) (applied_in b ack entries s).base (applied_in b ack entries s).numbers
    → Limits most es s → Limits most (StatusHeard ack entries ∷ es) (applied_in b ack entries s)
limits_heard most ack entries es s true is a c t h =
    let low : ack < s.base = ltb-true ack s.base is in
    let ignored : is_applied (is_acked es) ack ≡ false =
    ap not (below_all (is_acked es) (ack + 1) (λ i l. a.below i (omega arith))) in
    kept most (StatusHeard ack entries) es s (λ n. namings_still (StatusHeard ack entries) es n
    (and_left (is_applied (is_acked es) ack && nat_lt n (next_of es) && not (is_acked es n)) (names_number entries n)
    (and_left (is_applied (is_acked es) ack && nat_lt n (next_of es)) (not (is_acked es n))
    (and_left (is_applied (is_acked es) ack) (nat_lt n (next_of es)) ignored)))) h
limits_heard most ack entries es s false is a c t h = record {
  most_is = h.most_is;
  limit = rw h.most_is (or_limit most (StatusHeard ack entries) es (applied_in false ack entries s).base
      (applied_in false ack entries s).numbers s.limit h.limit c t);
}

limits_recalled : (most : ℕ) (more : Bool) (es : List FlowEvent) (s : FlowSending) (o : Option ℕ)
    → (FoundNone s.numbers None o ⊎ FoundLast s.numbers 0 o) → Acks es s.base s.numbers
    → Acks (PollExpired more ∷ es) (recalled_at o s).base (recalled_at o s).numbers
    → SayAll (PollExpired more ∷ es) (recalled_at o s).base (recalled_at o s).numbers → Limits most es s
    → Limits most (PollExpired more ∷ es) (recalled_at o s)
limits_recalled most more es s None (inl found) a c t h =
    kept most (PollExpired more) es s (λ n. namings_still (PollExpired more) es n
    (and_right (none_waits (waits es) es && (not (is_left more es) || is_shut es)) (is_last_open es n)
    (none_last es s.base s.numbers a found.all n))) h
limits_recalled most more es s None (inr found) a c t h =
    let never : None ≡ Some (0 + found.place) = found.is in absurd cc
limits_recalled most more es s (Some at) found a c t h = record {
  most_is = h.most_is;
  limit = rw h.most_is (or_limit most (PollExpired more) es (recalled_at (Some at) s).base
      (recalled_at (Some at) s).numbers s.limit h.limit c t);
}

limits_polled : (most : ℕ) (more left : Bool) (es : List FlowEvent) (s : FlowSending) (b : Bool)
    → is_quiet left s ≡ b → left ≡ is_left more es → Acks es s.base s.numbers → SayAll es s.base s.numbers
    → Acks (PollExpired more ∷ es) (polled_in b s).base (polled_in b s).numbers
    → SayAll (PollExpired more ∷ es) (polled_in b s).base (polled_in b s).numbers → Limits most es s
    → Limits most (PollExpired more ∷ es) (polled_in b s)
limits_polled most more left es s true is same a u c t h =
    limits_recalled most more es s (last_open 0 None s.numbers) (last_cases s.numbers 0 None) a c t h
limits_polled most more left es s false is same a u c t h =
    kept most (PollExpired more) es s (λ n. namings_still (PollExpired more) es n
    (and_left (none_waits (waits es) es && (not (is_left more es) || is_shut es)) (is_last_open es n)
    (sym (quiet_is more left es s same a u) ∙ is))) h

pub limits_step : (most : ℕ) (e : FlowEvent) (es : List FlowEvent) (a : FlowAccount)
    → ((more : Bool) → left_to_send more a ≡ is_left more es) → Acks es a.sending.base a.sending.numbers
    → SayAll es a.sending.base a.sending.numbers → Acks (e ∷ es) (sending_with e a).base (sending_with e a).numbers
    → SayAll (e ∷ es) (sending_with e a).base (sending_with e a).numbers → Limits most es a.sending
    → Limits most (e ∷ es) (sending_with e a)
limits_step most (SduTaken size) es a left c s d t h = kept most (SduTaken size) es a.sending (λ n. refl) h
limits_step most (NumberWritten size) es a left c s d t h = record {
  most_is = h.most_is;
  limit = kept_limit most (NumberWritten size) es a.sending.limit (λ n. refl) h.limit;
}
limits_step most (OctetsResent n from to) es a left c s d t h =
    limits_rested most n from to es a.sending (nat_lt n a.sending.base) h
limits_step most (OctetsArrived n from to) es a left c s d t h =
    kept most (OctetsArrived n from to) es a.sending (λ m. refl) h
limits_step most ReorderStarted es a left c s d t h = kept most ReorderStarted es a.sending (λ n. refl) h
limits_step most ReorderExpired es a left c s d t h = kept most ReorderExpired es a.sending (λ n. refl) h
limits_step most (StatusHeard ack entries) es a left c s d t h =
    limits_heard most ack entries es a.sending (nat_lt ack a.sending.base) refl c d t h
limits_step most (PollExpired more) es a left c s d t h =
    limits_polled most more (left_to_send more a) es a.sending (is_quiet (left_to_send more a) a.sending) refl
    (left more) c s d t h

pub limits_outset : (most : ℕ) → Limits most [] (none_sent most)
limits_outset most = record { most_is = refl; limit = λ n. omega arith }
