-- What is kept of COUNTs that are confirmed, reported or taken, and how it moves.
use Rattle.std.proofs.Common.{◌≡◌, ◌<◌, ◌≤◌, ℕ, ◌-◌, Bool, true, false, ◌||◌, List, refl, ap, sym, ◌∙◌, arith, inl}
use Rattle.std.proofs.Common.{inr, min}
use Rattle.std.proofs.lemmas.Bool.{cases_lt}
use Rattle.l2_num.specs.Least.{IsLeast}
use Rattle.l2_num.proofs.LeastLemmas.{past_from, past_to, past_before, past_stops}
use Rattle.journal_takes.specs.TakeEvents.{has_count}
use Rattle.journal_takes.specs.FlowTakes.{counts_from, first_open}
use Rattle.journal_takes.proofs.CountSets.{from_has}

-- By tests of what is confirmed, reported, and taken in this life: all from the first COUNT on below
-- U is confirmed, all from U0 on below the COUNT that is next is reported or taken; and what is kept
-- tells it of those from there on.
pub record Kept (first next : ℕ) (conf rep taken : ℕ → Bool) (low begun at : ℕ) (confirmed reported : List ℕ)
    : Type 0 where
  pub low_first : first ≤ low
  pub low_next : low ≤ next
  pub low_below : (n : ℕ) → first ≤ n → n < low → conf n ≡ true
  pub low_above : (n : ℕ) → low ≤ n → conf n ≡ has_count confirmed n
  pub begun_first : first ≤ begun
  pub at_begun : begun ≤ at
  pub at_next : at ≤ next
  pub at_below : (n : ℕ) → begun ≤ n → n < at → (rep n || taken n) ≡ true
  pub untaken : (n : ℕ) → at ≤ n → taken n ≡ false
  pub reported_are : (n : ℕ) → min low at ≤ n → rep n ≡ has_count reported n
  pub beyond : (n : ℕ) → next ≤ n → conf n ≡ false
  pub beyond_rep : (n : ℕ) → next ≤ n → rep n ≡ false

-- and both are the first such ones
pub record Told (first next : ℕ) (conf rep taken : ℕ → Bool) (low begun at : ℕ) (confirmed reported : List ℕ)
    : Type 0 where
  pub kept : Kept first next conf rep taken low begun at confirmed reported
  pub low_open : conf low ≡ false
  pub at_open : (rep at || taken at) ≡ false

-- what is kept tells the same of tests that are the same
pub kept_same : (first next : ℕ) (conf rep taken conf' rep' taken' : ℕ → Bool) (low begun at : ℕ)
    (confirmed reported : List ℕ) → ((n : ℕ) → conf n ≡ conf' n) → ((n : ℕ) → rep n ≡ rep' n)
    → ((n : ℕ) → taken n ≡ taken' n) → Kept first next conf rep taken low begun at confirmed reported
    → Kept first next conf' rep' taken' low begun at confirmed reported
kept_same first next conf rep taken conf' rep' taken' low begun at confirmed reported c r t h = record {
  low_first = h.low_first;
  low_next = h.low_next;
  low_below = λ n le lt. sym (c n) ∙ h.low_below n le lt;
  low_above = λ n le. sym (c n) ∙ h.low_above n le;
  begun_first = h.begun_first;
  at_begun = h.at_begun;
  at_next = h.at_next;
  at_below = λ n le lt. sym (passes n) ∙ h.at_below n le lt;
  untaken = λ n le. sym (t n) ∙ h.untaken n le;
  reported_are = λ n le. sym (r n) ∙ h.reported_are n le;
  beyond = λ n le. sym (c n) ∙ h.beyond n le;
  beyond_rep = λ n le. sym (r n) ∙ h.beyond_rep n le;
}
  where
    passes : (n : ℕ) → (rep n || taken n) ≡ (rep' n || taken' n)
    passes n = ap (λ (b : Bool). b || taken n) (r n) ∙ ap (λ (b : Bool). rep' n || b) (t n)

pub told_same : (first next : ℕ) (conf rep taken conf' rep' taken' : ℕ → Bool) (low begun at : ℕ)
    (confirmed reported : List ℕ) → ((n : ℕ) → conf n ≡ conf' n) → ((n : ℕ) → rep n ≡ rep' n)
    → ((n : ℕ) → taken n ≡ taken' n) → Told first next conf rep taken low begun at confirmed reported
    → Told first next conf' rep' taken' low begun at confirmed reported
told_same first next conf rep taken conf' rep' taken' low begun at confirmed reported c r t h = record {
  kept = kept_same first next conf rep taken conf' rep' taken' low begun at confirmed reported c r t h.kept;
  low_open = sym (c low) ∙ h.low_open;
  at_open =
      sym (ap (λ (b : Bool). b || taken at) (r at) ∙ ap (λ (b : Bool). rep' at || b) (t at)) ∙ h.at_open;
}

-- ---- a front moves to the first that isn't kept

pub open_from : (counts : List ℕ) (next at : ℕ) → at ≤ first_open counts next at
open_from counts next at = past_from (has_count counts) (next - at) at

pub open_to : (counts : List ℕ) (next at : ℕ) → at ≤ next → first_open counts next at ≤ next
open_to counts next at le = omega (arith, le, past_to (has_count counts) (next - at) at)

moved : (p : ℕ → Bool) (from at next : ℕ) (counts : List ℕ) → from ≤ at → at ≤ next
    → ((n : ℕ) → from ≤ n → n < at → p n ≡ true) → ((n : ℕ) → at ≤ n → p n ≡ has_count counts n)
    → p next ≡ false → IsLeast p from (first_open counts next at)
moved p from at next counts le high below above end' = record {
  from = omega (arith, le, open_from counts next at);
  refused = elim (cases_lt (first_open counts next at) next) [
    | inl lt ↦
        above (first_open counts next at) (open_from counts next at)
        ∙ past_stops (has_count counts) (next - at) at (omega (arith, lt, high))
    | inr up ↦
        let is : first_open counts next at ≡ next = omega (arith, up, open_to counts next at high) in
        ap p is ∙ end'
  ];
  before = λ n a b. elim (cases_lt n at) [
    | inl lt ↦ below n a lt
    | inr ge ↦ above n ge ∙ past_before (has_count counts) (next - at) at n ge b
  ];
}

-- both fronts move
pub fronts_moved : (first next : ℕ) (conf rep taken : ℕ → Bool) (low begun at : ℕ) (confirmed reported : List ℕ)
    → Kept first next conf rep taken low begun at confirmed reported
    → Told first next conf rep taken (first_open confirmed next low) begun (first_open reported next at)
    (counts_from (first_open confirmed next low) confirmed)
    (counts_from (min (first_open confirmed next low) (first_open reported next at)) reported)
fronts_moved first next conf rep taken low begun at confirmed reported h =
    let l = moved conf first low next confirmed h.low_first h.low_next h.low_below h.low_above
    (h.beyond next (omega arith)) in
    let a = moved (λ n. rep n || taken n) begun at next reported h.at_begun h.at_next h.at_below passes
    (none next (omega arith)) in
    let up : low ≤ first_open confirmed next low = open_from confirmed next low in
    let on : at ≤ first_open reported next at = open_from reported next at in
    record {
      kept = record {
        low_first = l.from;
        low_next = open_to confirmed next low h.low_next;
        low_below = l.before;
        low_above = λ n le.
            h.low_above n (omega (arith, le, up)) ∙ sym (from_has (first_open confirmed next low) confirmed n le);
        begun_first = h.begun_first;
        at_begun = a.from;
        at_next = open_to reported next at h.at_next;
        at_below = a.before;
        untaken = λ n le. h.untaken n (omega (arith, le, on));
        reported_are = λ n le.
            h.reported_are n (omega (arith, le, up, on))
            ∙ sym (from_has (min (first_open confirmed next low) (first_open reported next at)) reported n le);
        beyond = h.beyond;
        beyond_rep = h.beyond_rep;
      };
      low_open = l.refused;
      at_open = a.refused;
    }
  where
    or_none : (a b : Bool) → b ≡ false → (a || b) ≡ a
    or_none true b e = refl
    or_none false b e = e

    passes : (n : ℕ) → at ≤ n → (rep n || taken n) ≡ has_count reported n
    passes n le = or_none (rep n) (taken n) (h.untaken n le) ∙ h.reported_are n (omega (arith, le))

    none : (n : ℕ) → next ≤ n → (rep n || taken n) ≡ false
    none n le = or_none (rep n) (taken n) (h.untaken n (omega (arith, le, h.at_next))) ∙ h.beyond_rep n le
