-- The account of takes tells what its history says.
use Rattle.std.proofs.Common.{◌≡◌, ◌<◌, ◌≤◌, ℕ, ◌+◌, ◌-◌, ◌==◌, Bool, true, false, ◌||◌, ◌&&◌, List, [], ◌∷◌, ◌++◌}
use Rattle.std.proofs.Common.{length, drop, take, min, max, nat_lt, Option, Some, None, slice_get, inl, inr}
use Rattle.std.proofs.Common.{if◌then◌else◌, refl, ap, sym, ◌∙◌, arith, subst}
use Rattle.std.proofs.lemmas.Bool.{cases_lt, and_parts, ltb-true, le-ltb, cases_eq, eq-eqb, ne_eqb}
use Rattle.std.proofs.lemmas.List.{drop_all, length-take}
use Rattle.l2_num.specs.Least.{IsLeast}
use Rattle.journal_takes.specs.declared.take.Take.{Take}
use Rattle.journal_takes.specs.declared.take.Take.TheVariants.{Pdu}
use Rattle.journal_takes.specs.TakeEvents.{TakeEvent, SduSubmitted, SduDiscarded, PduTaken, ReportTaken}
use Rattle.journal_takes.specs.TakeEvents.{PduConfirmed, ReportConfirmed, ReportHeard, LifeEnded, next_new, kept}
use Rattle.journal_takes.specs.TakeEvents.{without, is_reported, is_delivered, is_confirmed, outset_of, is_taken}
use Rattle.journal_takes.specs.TakeEvents.{is_report_due, is_reporting, sdu_of}
use Rattle.journal_takes.specs.Takeable.{is_passed, half, offer, IsTakeable, IsPossible, AreTakes}
use Rattle.journal_takes.specs.FlowTakes.{FlowTakes, no_takes, bound_of, is_free, next_take, sdu_kept, first_open}
use Rattle.journal_takes.specs.FlowTakes.{settled, taken_as, reported_by, takes_with, takes_of}
use Rattle.journal_takes.specs.Laws.{TakesAreTrue, SdusStay}
use Rattle.journal_takes.proofs.CountSets.{or_swap}
use Rattle.journal_takes.proofs.CountFronts.{Kept, Told, kept_same, told_same, fronts_moved, open_from, open_to}
use Rattle.journal_takes.proofs.CountEvents.{says, kept_taken, kept_confirmed, kept_reported, kept_ended}
use Rattle.journal_takes.proofs.SduLists.{Holds, get_behind, holds_submitted, holds_discarded, holds_taken}
use Rattle.journal_takes.proofs.SduLists.{get_alike, submitted_alike, discarded_alike}
use Rattle.journal_takes.proofs.SduLists.{holds_from, holds_all, how_many_wait}
use Rattle.journal_takes.proofs.Offers.{offered}

-- what isn't of COUNTs
record Stays (first bits : ℕ) (es : List TakeEvent) (t : FlowTakes) : Type 0 where
  next : t.next ≡ next_new first es
  begun : IsLeast (is_confirmed first (outset_of es)) first t.begun
  due : t.due ≡ is_report_due es
  reporting : t.reporting ≡ is_reporting es
  width : t.width ≡ half bits

record Stands (first bits : ℕ) (es : List TakeEvent) (t : FlowTakes) : Type 0 where
  told : Told first t.next (is_confirmed first es) (is_reported first es) (is_taken es) t.low t.begun t.at t.confirmed
      t.reported
  stays : Stays first bits es t
  from : t.from ≡ min t.low t.at
  holds : Holds first t.next t.from (kept first es) t.sdus t.waiting

-- ---- both fronts move

settles : (first bits : ℕ) (es : List TakeEvent) (t : FlowTakes)
    → Kept first t.next (is_confirmed first es) (is_reported first es) (is_taken es) t.low t.begun t.at t.confirmed
    t.reported
    → Stays first bits es t → t.from ≤ t.low → t.from ≤ t.at
    → Holds first t.next t.from (kept first es) t.sdus t.waiting → Stands first bits es (settled t)
settles first bits es t k s low at h =
    let up : t.low ≤ first_open t.confirmed t.next t.low = open_from t.confirmed t.next t.low in
    let on : t.at ≤ first_open t.reported t.next t.at = open_from t.reported t.next t.at in
    let low_to : first_open t.confirmed t.next t.low ≤ t.next = open_to t.confirmed t.next t.low k.low_next in
    record {
      told = fronts_moved first t.next (is_confirmed first es) (is_reported first es) (is_taken es) t.low t.begun t.at
          t.confirmed t.reported k;
      stays = record { next = s.next; begun = s.begun; due = s.due; reporting = s.reporting; width = s.width };
      from = refl;
      holds = holds_from first t.next t.from (min (first_open t.confirmed t.next t.low)
          (first_open t.reported t.next t.at)) (kept first es) t.sdus t.waiting (omega (arith, low, at, up, on))
          (omega (arith, low_to)) h;
    }

-- an event that says nothing of COUNTs
untold : (first next : ℕ) (e : TakeEvent) (es : List TakeEvent) (low begun at : ℕ) (confirmed reported : List ℕ)
    → ((n : ℕ) → is_confirmed first es n ≡ is_confirmed first (e ∷ es) n)
    → ((n : ℕ) → is_reported first es n ≡ is_reported first (e ∷ es) n)
    → ((n : ℕ) → is_taken es n ≡ is_taken (e ∷ es) n)
    → Told first next (is_confirmed first es) (is_reported first es) (is_taken es) low begun at confirmed reported
    → Told first next (is_confirmed first (e ∷ es)) (is_reported first (e ∷ es)) (is_taken (e ∷ es)) low begun at
    confirmed reported
untold first next e es low begun at confirmed reported =
    told_same first next (is_confirmed first es) (is_reported first es) (is_taken es) (is_confirmed first (e ∷ es))
    (is_reported first (e ∷ es)) (is_taken (e ∷ es)) low begun at confirmed reported

-- ---- what is takeable

least_once : (p : ℕ → Bool) (m a b : ℕ) → IsLeast p m a → IsLeast p m b → a ≡ b
least_once p m a b h g = elim (cases_lt a b) [
  | inl lt ↦
      let yes : p a ≡ true = g.before a h.from lt in
      absurd (let no : true ≡ false = sym yes ∙ h.refused in cc)
  | inr le ↦ elim (cases_lt b a) [
    | inl lt ↦
        let yes : p b ≡ true = h.before b g.from lt in
        absurd (let no : true ≡ false = sym yes ∙ g.refused in cc)
    | inr ge ↦ omega (arith, le, ge)
  ]
]

low_least : (first bits : ℕ) (es : List TakeEvent) (t : FlowTakes) → Stands first bits es t
    → IsLeast (is_confirmed first es) first t.low
low_least first bits es t s = record {
  from = s.told.kept.low_first;
  refused = s.told.low_open;
  before = s.told.kept.low_below;
}

at_least : (first bits : ℕ) (es : List TakeEvent) (t : FlowTakes) → Stands first bits es t
    → IsLeast (is_passed first es) t.begun t.at
at_least first bits es t s = record {
  from = s.told.kept.at_begun;
  refused = s.told.at_open;
  before = s.told.kept.at_below;
}

-- by the history, for any U, U0 and COUNT
abbrev offer_by : ℕ → ℕ → List TakeEvent → ℕ → ℕ → ℕ → Option Take
offer_by first bits es low begun count = offer (is_report_due es)
    (nat_lt count (first + length (kept first es))
    && nat_lt count ((if is_reporting es then begun else low) + half bits)) count

next_is : (first bits : ℕ) (es : List TakeEvent) (t : FlowTakes) → Stands first bits es t
    → next_take t ≡ offer_by first bits es t.low t.begun t.at
next_is first bits es t s =
    let all : t.next + length t.waiting ≡ first + length (kept first es) =
    how_many_wait first t.next t.from (kept first es) t.sdus t.waiting s.holds in
    ap (λ (b : Bool). offer b (is_free t) t.at) s.stays.due
    ∙ ap (λ (n : ℕ). offer (is_report_due es) (nat_lt t.at n && nat_lt t.at (bound_of t)) t.at) all
    ∙ ap
    (λ (b : Bool). offer (is_report_due es) (nat_lt t.at (first + length (kept first es))
    && nat_lt t.at ((if b then t.begun else t.low) + t.width)) t.at) s.stays.reporting
    ∙ ap
    (λ (w : ℕ). offer (is_report_due es) (nat_lt t.at (first + length (kept first es))
    && nat_lt t.at ((if is_reporting es then t.begun else t.low) + w)) t.at) s.stays.width

only_next : (first bits : ℕ) (es : List TakeEvent) (t : FlowTakes) → Stands first bits es t → (next : Option Take)
    → IsTakeable first bits es next → next ≡ next_take t
only_next first bits es t s next p =
    let low : p.low ≡ t.low =
    least_once (is_confirmed first es) first p.low t.low p.low_is (low_least first bits es t s) in
    let begun : p.begun ≡ t.begun =
    least_once (is_confirmed first (outset_of es)) first p.begun t.begun p.begun_is s.stays.begun in
    let count : p.count ≡ t.at =
    least_once (is_passed first es) t.begun p.count t.at
    (subst (λ (n : ℕ). IsLeast (is_passed first es) n p.count) begun p.count_is) (at_least first bits es t s) in
    p.next_is ∙ ap (λ (n : ℕ). offer_by first bits es n p.begun p.count) low
    ∙ ap (λ (n : ℕ). offer_by first bits es t.low n p.count) begun
    ∙ ap (offer_by first bits es t.low t.begun) count ∙ sym (next_is first bits es t s)

-- ---- RLC takes a PDU

record IsNext (first : ℕ) (es : List TakeEvent) (t : FlowTakes) (count : ℕ) : Type 0 where
  same : count ≡ t.at
  there : t.at < first + length (kept first es)

is_next : (first bits : ℕ) (es : List TakeEvent) (t : FlowTakes) (count : ℕ) → Stands first bits es t
    → IsTakeable first bits es (Some (Pdu count)) → IsNext first es t count
is_next first bits es t count s p =
    let is : offer_by first bits es t.low t.begun t.at ≡ Some (Pdu count) =
    sym (only_next first bits es t s (Some (Pdu count)) p ∙ next_is first bits es t s) in
    let o = offered (is_report_due es) (nat_lt t.at (first + length (kept first es))
    && nat_lt t.at ((if is_reporting es then t.begun else t.low) + half bits)) t.at count is in
    let both = and_parts (nat_lt t.at (first + length (kept first es)))
    (nat_lt t.at ((if is_reporting es then t.begun else t.low) + half bits)) o.is_free in
    record { same = o.same; there = ltb-true t.at (first + length (kept first es)) both.0 }

low_from : (first bits : ℕ) (es : List TakeEvent) (t : FlowTakes) → Stands first bits es t → t.from ≤ t.low
low_from first bits es t s = omega (arith, s.from)

at_from : (first bits : ℕ) (es : List TakeEvent) (t : FlowTakes) → Stands first bits es t → t.from ≤ t.at
at_from first bits es t s = omega (arith, s.from)

-- the COUNT that is next, as an event tells it
taken_kept : (first bits more : ℕ) (es : List TakeEvent) (t : FlowTakes) (count : ℕ) → count ≡ t.at → t.next ≤ more
    → t.at < more → Stands first bits es t
    → Kept first more (is_confirmed first (PduTaken count ∷ es)) (is_reported first (PduTaken count ∷ es))
    (is_taken (PduTaken count ∷ es)) t.low t.begun (count + 1) t.confirmed t.reported
taken_kept first bits more es t count same le lt s =
    kept_same first more (is_confirmed first es) (is_reported first es) (λ n. (count == n) || is_taken es n)
    (is_confirmed first (PduTaken count ∷ es)) (is_reported first (PduTaken count ∷ es))
    (is_taken (PduTaken count ∷ es)) t.low t.begun (count + 1) t.confirmed t.reported (λ n. refl) (λ n. refl)
    (λ n. refl)
    (subst (λ (c : ℕ). Kept first more (is_confirmed first es) (is_reported first es)
    (λ n. (c == n) || is_taken es n) t.low t.begun (c + 1) t.confirmed t.reported) (sym same)
    (kept_taken first t.next more (is_confirmed first es) (is_reported first es) (is_taken es) t.low t.begun t.at
    t.confirmed t.reported le lt s.told.kept))

taken_stays : (first bits more : ℕ) (es : List TakeEvent) (t : FlowTakes) (count : ℕ) → more ≡ max t.next (count + 1)
    → Stands first bits es t → more ≡ next_new first (PduTaken count ∷ es)
taken_stays first bits more es t count is s =
    is ∙ ap (λ (n : ℕ). max n (count + 1)) s.stays.next

took : (first bits : ℕ) (es : List TakeEvent) (t : FlowTakes) (count : ℕ) (b : Bool) → (count == t.next) ≡ b
    → IsNext first es t count → Stands first bits es t
    → Stands first bits (PduTaken count ∷ es) (settled (taken_as b count t))
took first bits es t count b is p s = elim (cases_eq count t.next) [
  | inl same ↦ subst (λ (c : Bool). Stands first bits (PduTaken count ∷ es) (settled (taken_as c count t)))
      (sym (eq-eqb count t.next same) ∙ is)
      (settles first bits (PduTaken count ∷ es) (taken_as true count t)
      (taken_kept first bits (count + 1) es t count p.same (omega (arith, same)) (omega (arith, p.same)) s)
      (record {
        next = taken_stays first bits (count + 1) es t count (omega (arith, same)) s;
        begun = s.stays.begun;
        due = s.stays.due;
        reporting = s.stays.reporting;
        width = s.stays.width;
      })
      (low_from first bits es t s) (omega (arith, p.same, at_from first bits es t s))
      (subst (λ (n : ℕ). Holds first (n + 1) t.from (kept first es) (t.sdus ++ take 1 t.waiting) (drop 1 t.waiting))
      (sym same) (holds_taken first t.next t.from (kept first es) t.sdus t.waiting
      (omega (arith, same, p.same, p.there)) s.holds)))
  | inr other ↦ subst (λ (c : Bool). Stands first bits (PduTaken count ∷ es) (settled (taken_as c count t)))
      (sym (ne_eqb count t.next other) ∙ is)
      (settles first bits (PduTaken count ∷ es) (taken_as false count t)
      (taken_kept first bits t.next es t count p.same (omega arith)
      (omega (arith, p.same, other, s.told.kept.at_next)) s)
      (record {
        next = taken_stays first bits t.next es t count (omega (arith, p.same, other, s.told.kept.at_next)) s;
        begun = s.stays.begun;
        due = s.stays.due;
        reporting = s.stays.reporting;
        width = s.stays.width;
      })
      (low_from first bits es t s) (omega (arith, p.same, at_from first bits es t s)) s.holds)
]

-- ---- any event

or_assoc : (a b c : Bool) → (a || (b || c)) ≡ ((a || b) || c)
or_assoc true b c = refl
or_assoc false b c = refl

confirmed : (first bits : ℕ) (es : List TakeEvent) (t : FlowTakes) (count : ℕ) → count < next_new first es
    → Stands first bits es t → Stands first bits (PduConfirmed count ∷ es) (takes_with (PduConfirmed count) t)
confirmed first bits es t count lt s =
    settles first bits (PduConfirmed count ∷ es) _
    (kept_same first t.next (λ n. (count == n) || is_confirmed first es n) (is_reported first es) (is_taken es)
    (is_confirmed first (PduConfirmed count ∷ es)) (is_reported first (PduConfirmed count ∷ es))
    (is_taken (PduConfirmed count ∷ es)) t.low t.begun t.at _ t.reported
    (λ n. or_swap (count == n) (is_reported first es n) (is_delivered es n)) (λ n. refl) (λ n. refl)
    (kept_confirmed first t.next count (is_confirmed first es) (is_reported first es) (is_taken es) t.low t.begun t.at
    t.confirmed t.reported (omega (arith, lt, s.stays.next)) s.told.kept))
    (record {
      next = s.stays.next;
      begun = s.stays.begun;
      due = s.stays.due;
      reporting = s.stays.reporting;
      width = s.stays.width;
    })
    (low_from first bits es t s) (at_from first bits es t s) s.holds

heard : (first bits : ℕ) (es : List TakeEvent) (t : FlowTakes) (fms : ℕ) (marks : List ℕ) → Stands first bits es t
    → Stands first bits (ReportHeard fms marks ∷ es) (takes_with (ReportHeard fms marks) t)
heard first bits es t fms marks s =
    settles first bits (ReportHeard fms marks ∷ es) (reported_by fms marks t)
    (kept_same first t.next (λ n. says t.next fms marks n || is_confirmed first es n)
    (λ n. says t.next fms marks n || is_reported first es n) (is_taken es)
    (is_confirmed first (ReportHeard fms marks ∷ es)) (is_reported first (ReportHeard fms marks ∷ es))
    (is_taken (ReportHeard fms marks ∷ es)) _ t.begun _ _ _
    (λ n. or_assoc (says t.next fms marks n) (is_reported first es n) (is_delivered es n)
    ∙ ap (λ (k : ℕ). (says k fms marks n || is_reported first es n) || is_delivered es n) s.stays.next)
    (λ n. ap (λ (k : ℕ). says k fms marks n || is_reported first es n) s.stays.next) (λ n. refl)
    (kept_reported first t.next fms marks (is_confirmed first es) (is_reported first es) (is_taken es) t.low t.begun
    t.at t.confirmed t.reported s.told.kept))
    (record {
      next = s.stays.next;
      begun = s.stays.begun;
      due = s.stays.due;
      reporting = s.stays.reporting;
      width = s.stays.width;
    })
    (omega (arith, low_from first bits es t s)) (omega (arith, at_from first bits es t s)) s.holds

ended : (first bits : ℕ) (es : List TakeEvent) (t : FlowTakes) (report : Bool) → Stands first bits es t
    → Stands first bits (LifeEnded report ∷ es) (takes_with (LifeEnded report) t)
ended first bits es t report s =
    settles first bits (LifeEnded report ∷ es) _
    (kept_same first t.next (is_confirmed first es) (is_reported first es) (λ n. false)
    (is_confirmed first (LifeEnded report ∷ es)) (is_reported first (LifeEnded report ∷ es))
    (is_taken (LifeEnded report ∷ es)) t.low t.low t.low t.confirmed t.reported (λ n. refl) (λ n. refl) (λ n. refl)
    (kept_ended first t.next (is_confirmed first es) (is_reported first es) (is_taken es) t.low t.begun t.at
    t.confirmed t.reported s.told.kept))
    (record {
      next = s.stays.next;
      begun = record {
        from = s.told.kept.low_first;
        refused = s.told.low_open;
        before = s.told.kept.low_below;
      };
      due = refl;
      reporting = refl;
      width = s.stays.width;
    })
    (low_from first bits es t s) (low_from first bits es t s) s.holds

step : (first bits : ℕ) (e : TakeEvent) (es : List TakeEvent) (t : FlowTakes) → IsPossible first bits e es
    → Stands first bits es t → Stands first bits (e ∷ es) (takes_with e t)
step first bits (SduSubmitted octets) es t h s = record {
  told = untold first t.next (SduSubmitted octets) es t.low t.begun t.at t.confirmed t.reported (λ n. refl) (λ n. refl)
      (λ n. refl) s.told;
  stays = record {
    next = s.stays.next;
    begun = s.stays.begun;
    due = s.stays.due;
    reporting = s.stays.reporting;
    width = s.stays.width;
  };
  from = s.from;
  holds = holds_submitted first t.next t.from (kept first es) t.sdus t.waiting octets s.holds;
}
step first bits SduDiscarded es t h s = record {
  told = untold first t.next SduDiscarded es t.low t.begun t.at t.confirmed t.reported (λ n. refl) (λ n. refl)
      (λ n. refl) s.told;
  stays = record {
    next = s.stays.next;
    begun = s.stays.begun;
    due = s.stays.due;
    reporting = s.stays.reporting;
    width = s.stays.width;
  };
  from = s.from;
  holds = subst (λ (n : ℕ). Holds first t.next t.from (without (n - first) (kept first es)) t.sdus (drop 1 t.waiting))
      s.stays.next (holds_discarded first t.next t.from (kept first es) t.sdus t.waiting s.holds);
}
step first bits (PduTaken count) es t h s =
    took first bits es t count (count == t.next) refl (is_next first bits es t count s h) s
step first bits ReportTaken es t h s = record {
  told = untold first t.next ReportTaken es t.low t.begun t.at t.confirmed t.reported (λ n. refl) (λ n. refl)
      (λ n. refl) s.told;
  stays = record {
    next = s.stays.next;
    begun = s.stays.begun;
    due = refl;
    reporting = s.stays.reporting;
    width = s.stays.width;
  };
  from = s.from;
  holds = s.holds;
}
step first bits (PduConfirmed count) es t h s = confirmed first bits es t count h s
step first bits ReportConfirmed es t h s = record {
  told = untold first t.next ReportConfirmed es t.low t.begun t.at t.confirmed t.reported (λ n. refl) (λ n. refl)
      (λ n. refl) s.told;
  stays = record {
    next = s.stays.next;
    begun = s.stays.begun;
    due = s.stays.due;
    reporting = refl;
    width = s.stays.width;
  };
  from = s.from;
  holds = s.holds;
}
step first bits (ReportHeard fms marks) es t h s = heard first bits es t fms marks s
step first bits (LifeEnded report) es t h s = ended first bits es t report s

abbrev no_sdus : List (List ℕ)
no_sdus = []

outset : (first bits : ℕ) → Stands first bits [] (no_takes first bits)
outset first bits = record {
  told = record {
    kept = record {
      low_first = omega arith;
      low_next = omega arith;
      low_below = λ n a b. absurd (omega (arith, a, b));
      low_above = λ n a. refl;
      begun_first = omega arith;
      at_begun = omega arith;
      at_next = omega arith;
      at_below = λ n a b. absurd (omega (arith, a, b));
      untaken = λ n a. refl;
      reported_are = λ n a. refl;
      beyond = λ n a. refl;
      beyond_rep = λ n a. refl;
    };
    low_open = refl;
    at_open = refl;
  };
  stays = record {
    next = refl;
    begun = record { from = omega arith; refused = refl; before = λ n a b. absurd (omega (arith, a, b)) };
    due = refl;
    reporting = refl;
    width = refl;
  };
  from = omega arith;
  holds = record {
    order = omega arith;
    within = omega arith;
    few = omega arith;
    sdus_are = sym (drop_all (first - first) (take (first - first) no_sdus)
        (omega (arith, length-take (first - first) no_sdus)));
    waiting_are = sym (drop_all (first - first) [] (omega arith));
  };
}

all_stand : (first bits : ℕ) (es : List TakeEvent) → AreTakes first bits es
    → Stands first bits es (takes_of first bits es)
all_stand first bits [] h = outset first bits
all_stand first bits (e ∷ es) h =
    step first bits e es (takes_of first bits es) h.0 (all_stand first bits es h.1)

-- ---- the law

sdu_is : (first bits : ℕ) (es : List TakeEvent) (t : FlowTakes) → Stands first bits es t → (count : ℕ)
    → t.from ≤ count → sdu_kept count t ≡ sdu_of first es count
sdu_is first bits es t s count le =
    let at : t.from - first + (count - t.from) ≡ count - first = omega (arith, le, s.holds.order) in
    ap (λ (b : Bool). if b then None else slice_get (t.sdus ++ t.waiting) (count - t.from)) (le-ltb count t.from le)
    ∙ ap (λ (xs : List (List ℕ)). slice_get xs (count - t.from))
    (holds_all first t.next t.from (kept first es) t.sdus t.waiting s.holds)
    ∙ get_behind (t.from - first) (count - t.from) (kept first es)
    ∙ ap (slice_get (kept first es)) at

pub takes_are_true : TakesAreTrue
takes_are_true first bits es h =
    let t = takes_of first bits es in
    let s : Stands first bits es t = all_stand first bits es h in
    record {
      low = low_least first bits es t s;
      next = s.stays.next;
      takes = record {
        low = t.low;
        low_is = low_least first bits es t s;
        begun = t.begun;
        begun_is = s.stays.begun;
        count = t.at;
        count_is = at_least first bits es t s;
        next_is = next_is first bits es t s;
      };
      only = only_next first bits es t s;
      from_low = low_from first bits es t s;
      from_at = at_from first bits es t s;
      ascend = s.told.kept.untaken;
      sdus = sdu_is first bits es t s;
      waiting = s.holds.waiting_are;
    }

-- ---- SDUs stay

pub sdus_stay : SdusStay
sdus_stay first bits e es h count from lt = by e
  where
    s : Stands first bits es (takes_of first bits es)
    s = all_stand first bits es h.1

    few : next_new first es - first ≤ length (kept first es)
    few = omega (arith, s.holds.few, s.stays.next)

    alike : (xs : List (List ℕ))
        → take (next_new first es - first) xs ≡ take (next_new first es - first) (kept first es)
        → slice_get xs (count - first) ≡ slice_get (kept first es) (count - first)
    alike xs =
        get_alike (next_new first es - first) (count - first) xs (kept first es) (omega (arith, from, lt))

    by : (d : TakeEvent) → sdu_of first (d ∷ es) count ≡ sdu_of first es count
    by (SduSubmitted octets) =
        alike (kept first es ++ octets ∷ [])
        (submitted_alike (next_new first es - first) (kept first es) octets few)
    by SduDiscarded =
        alike (without (next_new first es - first) (kept first es))
        (discarded_alike (next_new first es - first) (kept first es) few)
    by (PduTaken own) = refl
    by ReportTaken = refl
    by (PduConfirmed own) = refl
    by ReportConfirmed = refl
    by (ReportHeard fms marks) = refl
    by (LifeEnded report) = refl
