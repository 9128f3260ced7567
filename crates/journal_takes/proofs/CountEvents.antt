-- What events make of what is kept of COUNTs.
use Rattle.std.proofs.Common.{◌≡◌, ◌<◌, ◌≤◌, ℕ, ◌+◌, ◌==◌, Bool, true, false, ◌||◌, ◌&&◌, List, refl, ap, sym, ◌∙◌}
use Rattle.std.proofs.Common.{arith, inl, inr, min, max, nat_lt}
use Rattle.std.specs.BTreeSet.{insert_key}
use Rattle.std.specs.Ordering.{nat_cmp}
use Rattle.std.proofs.lemmas.Bool.{cases_lt, cases_eq, eq-eqb, ne_eqb, lt-ltb, le-ltb, and_left, and_from}
use Rattle.journal_takes.specs.TakeEvents.{has_count}
use Rattle.journal_takes.specs.FlowTakes.{with_marks}
use Rattle.journal_takes.proofs.CountSets.{insert_has, marks_have, or_swap}
use Rattle.journal_takes.proofs.CountFronts.{Kept}

or_late : (a b : Bool) → b ≡ true → (a || b) ≡ true
or_late true b e = refl
or_late false b e = e

or_later : (a b c : Bool) → (b || c) ≡ true → ((a || b) || c) ≡ true
or_later true b c e = refl
or_later false b c e = e

-- RLC takes the PDU of the COUNT that is next
pub kept_taken : (first next more : ℕ) (conf rep taken : ℕ → Bool) (low begun at : ℕ) (confirmed reported : List ℕ)
    → next ≤ more → at < more → Kept first next conf rep taken low begun at confirmed reported
    → Kept first more conf rep (λ n. (at == n) || taken n) low begun (at + 1) confirmed reported
kept_taken first next more conf rep taken low begun at confirmed reported le lt h = record {
  low_first = h.low_first;
  low_next = omega (arith, le, h.low_next);
  low_below = h.low_below;
  low_above = h.low_above;
  begun_first = h.begun_first;
  at_begun = omega (arith, h.at_begun);
  at_next = omega (arith, lt);
  at_below = λ n a b. elim (cases_eq at n) [
    | inl same ↦ or_late (rep n) ((at == n) || taken n) (ap (λ (b : Bool). b || taken n) (eq-eqb at n same))
    | inr other ↦
        or_swap (rep n) (at == n) (taken n)
        ∙ or_late (at == n) (rep n || taken n) (h.at_below n a (omega (arith, b, other)))
  ];
  untaken = λ n a.
      ap (λ (b : Bool). b || taken n) (ne_eqb at n (λ e. absurd (omega (arith, e, a))))
      ∙ h.untaken n (omega (arith, a));
  reported_are = λ n a. h.reported_are n (omega (arith, a));
  beyond = λ n a. h.beyond n (omega (arith, a, le));
  beyond_rep = λ n a. h.beyond_rep n (omega (arith, a, le));
}

-- RLC confirms that the PDU of a COUNT has come
pub kept_confirmed : (first next count : ℕ) (conf rep taken : ℕ → Bool) (low begun at : ℕ) (confirmed reported : List ℕ)
    → count < next → Kept first next conf rep taken low begun at confirmed reported
    → Kept first next (λ n. (count == n) || conf n) rep taken low begun at (insert_key nat_cmp confirmed count) reported
kept_confirmed first next count conf rep taken low begun at confirmed reported lt h = record {
  low_first = h.low_first;
  low_next = h.low_next;
  low_below = λ n a b. or_late (count == n) (conf n) (h.low_below n a b);
  low_above = λ n a.
      ap (λ (b : Bool). (count == n) || b) (h.low_above n a) ∙ sym (insert_has confirmed count n);
  begun_first = h.begun_first;
  at_begun = h.at_begun;
  at_next = h.at_next;
  at_below = h.at_below;
  untaken = h.untaken;
  reported_are = h.reported_are;
  beyond = λ n a.
      ap (λ (b : Bool). b || conf n) (ne_eqb count n (λ e. absurd (omega (arith, e, a, lt)))) ∙ h.beyond n a;
  beyond_rep = h.beyond_rep;
}

-- ---- a status report comes

abbrev pub says : ℕ → ℕ → List ℕ → ℕ → Bool
says next fms marks n = nat_lt n next && (nat_lt n fms || has_count marks n)

says_low : (next fms n : ℕ) (marks : List ℕ) → n < min fms next → says next fms marks n ≡ true
says_low next fms n marks lt =
    and_from (nat_lt n next) (nat_lt n fms || has_count marks n) (lt-ltb n next (omega (arith, lt)))
    (ap (λ (b : Bool). b || has_count marks n) (lt-ltb n fms (omega (arith, lt))))

says_high : (next fms n : ℕ) (marks : List ℕ) → min fms next ≤ n
    → says next fms marks n ≡ (nat_lt n next && has_count marks n)
says_high next fms n marks le = elim (cases_lt n fms) [
  | inl lt ↦
      let past : nat_lt n next ≡ false = le-ltb n next (omega (arith, lt, le)) in
      and_left (nat_lt n next) (nat_lt n fms || has_count marks n) past
      ∙ sym (and_left (nat_lt n next) (has_count marks n) past)
  | inr up ↦ ap (λ (b : Bool). nat_lt n next && (b || has_count marks n)) (le-ltb n fms up)
]

says_none : (next fms n : ℕ) (marks : List ℕ) → next ≤ n → says next fms marks n ≡ false
says_none next fms n marks le =
    and_left (nat_lt n next) (nat_lt n fms || has_count marks n) (le-ltb n next le)

among : (next fms n : ℕ) (marks counts : List ℕ) (b : Bool) → min fms next ≤ n → b ≡ has_count counts n
    → (says next fms marks n || b) ≡ has_count (with_marks next marks counts) n
among next fms n marks counts b le is =
    ap (λ (a : Bool). a || b) (says_high next fms n marks le)
    ∙ ap (λ (a : Bool). (nat_lt n next && has_count marks n) || a) is ∙ sym (marks_have next n marks counts)

pub kept_reported : (first next fms : ℕ) (marks : List ℕ) (conf rep taken : ℕ → Bool) (low begun at : ℕ)
    (confirmed reported : List ℕ) → Kept first next conf rep taken low begun at confirmed reported
    → Kept first next (λ n. says next fms marks n || conf n) (λ n. says next fms marks n || rep n) taken
    (max low (min fms next)) begun (max at (min fms next)) (with_marks next marks confirmed)
    (with_marks next marks reported)
kept_reported first next fms marks conf rep taken low begun at confirmed reported h = record {
  low_first = omega (arith, h.low_first);
  low_next = omega (arith, h.low_next);
  low_below = λ n a b. elim (cases_lt n low) [
    | inl lt ↦ or_late (says next fms marks n) (conf n) (h.low_below n a lt)
    | inr ge ↦ ap (λ (b : Bool). b || conf n) (says_low next fms n marks (omega (arith, b, ge)))
  ];
  low_above = λ n a.
      among next fms n marks confirmed (conf n) (omega (arith, a)) (h.low_above n (omega (arith, a)));
  begun_first = h.begun_first;
  at_begun = omega (arith, h.at_begun);
  at_next = omega (arith, h.at_next);
  at_below = λ n a b. elim (cases_lt n at) [
    | inl lt ↦ or_later (says next fms marks n) (rep n) (taken n) (h.at_below n a lt)
    | inr ge ↦ ap (λ (b : Bool). (b || rep n) || taken n) (says_low next fms n marks (omega (arith, b, ge)))
  ];
  untaken = λ n a. h.untaken n (omega (arith, a));
  reported_are = λ n a.
      among next fms n marks reported (rep n) (omega (arith, a)) (h.reported_are n (omega (arith, a)));
  beyond = λ n a. ap (λ (b : Bool). b || conf n) (says_none next fms n marks a) ∙ h.beyond n a;
  beyond_rep = λ n a. ap (λ (b : Bool). b || rep n) (says_none next fms n marks a) ∙ h.beyond_rep n a;
}

-- the next life begins
pub kept_ended : (first next : ℕ) (conf rep taken : ℕ → Bool) (low begun at : ℕ) (confirmed reported : List ℕ)
    → Kept first next conf rep taken low begun at confirmed reported
    → Kept first next conf rep (λ n. false) low low low confirmed reported
kept_ended first next conf rep taken low begun at confirmed reported h = record {
  low_first = h.low_first;
  low_next = h.low_next;
  low_below = h.low_below;
  low_above = h.low_above;
  begun_first = h.low_first;
  at_begun = omega arith;
  at_next = h.low_next;
  at_below = λ n a b. absurd (omega (arith, a, b));
  untaken = λ n a. refl;
  reported_are = λ n a. h.reported_are n (omega (arith, a));
  beyond = h.beyond;
  beyond_rep = h.beyond_rep;
}
