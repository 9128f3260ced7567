-- The COUNTs that have come by a history are those that PDCP's flow has handed.
use Rattle.std.proofs.Common.{◌≡◌, ◌<◌, ◌≤◌, ℕ, zero, suc, ◌+◌, ◌-◌, ◌==◌, Bool, true, false, ◌||◌, ◌&&◌, nat_lt}
use Rattle.std.proofs.Common.{if◌then◌else◌, List, [], ◌∷◌, ◌++◌, map, length, drop, Option, Some, None, slice_get}
use Rattle.std.proofs.Common.{append_assoc, length-append, inl, inr, refl, ap, sym, ◌∙◌, arith}
use Rattle.std.specs.List.{AllByRecursion}
use Rattle.std.proofs.lemmas.Bool.Decides.{nat_tests}
use Rattle.std.proofs.lemmas.Bool.{and_parts, and_from, lt-ltb, le-ltb, cases_lt}
use Rattle.std.proofs.lemmas.List.{append-nil, map-append}
use Rattle.bearer.specs.Acknowledged.State.{State}
use Rattle.bearer_types.specs.declared.config.BearerConfig.{BearerConfig}
use Rattle.eps_sec.specs.declared.Keys.{Keys}
use Rattle.pdcp_rx.specs.State.{report}
use Rattle.pdcp_sec.specs.Protection.{Protection}
use Rattle.pdcp_tx.specs.declared.sender.Next.{Next}
use Rattle.pdcp_tx.specs.Runs.{Take}
use Rattle.pdcp_tx.specs.State.{taking}
use Rattle.journal_account.specs.Arrived.{all_below}
use Rattle.journal_account.specs.FlowEvents.{FlowEvent}
use Rattle.journal_account.specs.Stream.{is_in_sequence, is_whole_sdu, place_came, place_of, sdu_end, sdu_sizes}
use Rattle.journal_account.proofs.Complete.{below_each, below_all}
use Rattle.journal_lives.specs.CountsCome.{CountsCome}
use Rattle.journal_lives.specs.LifeEvents.{LifeEvent, PduGiven, InLife, LifeEnded, running, counts_in, is_count}
use Rattle.journal_lives.specs.LifeEvents.{passes_with, came_before, count_came}
use Rattle.rlc_am_rx.specs.State.{State as Receiver}
use Rattle.law_bearer.specs.AmBearer.Calls.{IsIdle}
use Rattle.law_bearer.specs.AmBearer.Lives.{closed as closed_end}
use Rattle.law_pdcp.specs.AmPair.Flow.{Flow, Event, Sends, SetDiscard, Arrive, HandUp, Raise, Restart, happens, passes}
use Rattle.law_pdcp.specs.AmPair.Flow.{run_am_pdcp, am_pdcp_outset, with_count, closed, ended}
use Rattle.law_pdcp.specs.OneEnd.Given.{pdus_given, nexts_of}
use Rattle.law_rlc.specs.AmPair.Arrives.{HasReady}
use Rattle.law_rlc.specs.AmPair.Sdus.{handed_up, ready}
use Rattle.law_rlc.proofs.AmPair.ByPlace.{has-ready}
use Rattle.law_rlc.proofs.AmPair.Laws.{sound}
use Rattle.law_given.proofs.SayingReports.{ends_say}
use Rattle.law_given.specs.Confirming.{HandsUpAsTold}
use Rattle.law_given.specs.Joined.{Direction, IsDirection, Joins, pdcp, rlc}
use Rattle.law_given.specs.Saying.{AreThoseCome, SaysAlike, IsLivedBeside, given_by, all_given}
use Rattle.law_given.specs.Saying.{IsWithin, IsToldWithin}
use Rattle.law_given.specs.Supplied.{IsReadAs}

-- ---- PDUs that pass

abbrev counts_of : List Next → List (Option ℕ)
counts_of ns = map (λ (n : Next). n.count) ns

abbrev below : ℕ → ℕ → Bool
below n k = nat_lt k n

or_assoc : (a b c : Bool) → ((a || b) || c) ≡ (a || (b || c))
or_assoc true b c = refl
or_assoc false b c = refl

or_false : (b : Bool) → (b || false) ≡ b
or_false true = refl
or_false false = refl

or_swap : (a b c : Bool) → (a || (b || c)) ≡ (b || (a || c))
or_swap true true c = refl
or_swap true false c = refl
or_swap false b c = refl

pub passes_alike : (p q : ℕ → Bool) (k : ℕ) (xs : List (Option ℕ)) (count : ℕ)
    → ((j : ℕ) → k ≤ j → p j ≡ q j) → passes_with p k xs count ≡ passes_with q k xs count
passes_alike p q k [] count same = refl
passes_alike p q k (x ∷ xs) count same =
    ap (λ (b : Bool). (b && is_count x count) || passes_with p (k + 1) xs count) (same k (omega arith))
    ∙ ap (λ (b : Bool). (q k && is_count x count) || b)
    (passes_alike p q (k + 1) xs count (λ j le. same j (omega (arith, le))))

passes_none : (p : ℕ → Bool) (k : ℕ) (xs : List (Option ℕ)) (count : ℕ) → ((j : ℕ) → k ≤ j → p j ≡ false)
    → passes_with p k xs count ≡ false
passes_none p k [] count none = refl
passes_none p k (x ∷ xs) count none =
    ap (λ (b : Bool). (b && is_count x count) || passes_with p (k + 1) xs count) (none k (omega arith))
    ∙ passes_none p (k + 1) xs count (λ j le. none j (omega (arith, le)))

-- what stands behind them doesn't pass
passes_before : (p : ℕ → Bool) (k : ℕ) (xs ys : List (Option ℕ)) (count : ℕ)
    → ((j : ℕ) → k + length xs ≤ j → p j ≡ false) → passes_with p k (xs ++ ys) count ≡ passes_with p k xs count
passes_before p k [] ys count none = passes_none p k ys count (λ j le. none j (omega (arith, le)))
passes_before p k (x ∷ xs) ys count none =
    ap (λ (b : Bool). (p k && is_count x count) || b)
    (passes_before p (k + 1) xs ys count (λ j le. none j (omega (arith, le))))

-- one more passes
passes_more : (p q : ℕ → Bool) (k at : ℕ) (ns : List Next) (n : Next) (count : ℕ) → slice_get ns at ≡ Some n
    → q (k + at) ≡ true → ((j : ℕ) → k ≤ j → (j ≡ k + at → ⊥) → q j ≡ p j)
    → passes_with q k (counts_of ns) count ≡ (is_count n.count count || passes_with p k (counts_of ns) count)
passes_more p q k at [] n count is here same = absurd (let no : None ≡ Some n = is in cc)
passes_more p q k zero (x ∷ ns) n count is here same =
    let first : k + 0 ≡ k = omega arith in
    let some : Some x ≡ Some n = is in
    let one : x ≡ n = cc in
    let yes : q k ≡ true = ap q (sym first) ∙ here in
    ap (λ (b : Bool). (b && is_count x.count count) || passes_with q (k + 1) (counts_of ns) count) yes
    ∙ ap (λ (b : Bool). is_count x.count count || b)
    (passes_alike q p (k + 1) (counts_of ns) count
    (λ j le. same j (omega (arith, le)) (λ e. absurd (omega (arith, le, e)))))
    ∙ twice (p k) (is_count x.count count) (passes_with p (k + 1) (counts_of ns) count)
    ∙ ap (λ (m : Next). is_count m.count count
    || ((p k && is_count x.count count) || passes_with p (k + 1) (counts_of ns) count)) one
  where
    twice : (a b c : Bool) → (b || c) ≡ (b || ((a && b) || c))
    twice a true c = refl
    twice true false c = refl
    twice false false c = refl
passes_more p q k (suc at) (x ∷ ns) n count is here same =
    let next : k + suc at ≡ k + 1 + at = omega arith in
    ap (λ (b : Bool). (b && is_count x.count count) || passes_with q (k + 1) (counts_of ns) count)
    (same k (omega arith) (λ e. absurd (omega (arith, e))))
    ∙ ap (λ (b : Bool). (p k && is_count x.count count) || b)
    (passes_more p q (k + 1) at ns n count is (ap q (sym next) ∙ here)
    (λ j le other. same j (omega (arith, le)) (λ e. other (e ∙ next))))
    ∙ or_swap (p k && is_count x.count count) (is_count n.count count) (passes_with p (k + 1) (counts_of ns) count)

-- those below a place pass, and of the others those that are whole
passes_both : (p whole : ℕ → Bool) (k n : ℕ) (ns : List Next) (count : ℕ)
    → ((j : ℕ) → k ≤ j → p j ≡ nat_lt j (k + n)) → ((j : ℕ) → k ≤ j → j < k + n → whole j ≡ true)
    → (passes_with p k (counts_of ns) count || passes_with whole (k + n) (counts_of (drop n ns)) count)
    ≡ passes_with whole k (counts_of ns) count
passes_both p whole k zero ns count first all =
    let at : k + 0 ≡ k = omega arith in
    ap (λ (b : Bool). b || passes_with whole (k + 0) (counts_of ns) count)
    (passes_none p k (counts_of ns) count (λ j le. first j le ∙ le-ltb j (k + 0) (omega (arith, le))))
    ∙ ap (λ (m : ℕ). passes_with whole m (counts_of ns) count) at
passes_both p whole k (suc n) [] count first all = refl
passes_both p whole k (suc n) (x ∷ ns) count first all =
    let next : k + suc n ≡ k + 1 + n = omega arith in
    let c = is_count x.count count in
    let rest : Bool = passes_with p (k + 1) (counts_of ns) count in
    ap (λ (b : Bool). ((b && c) || rest) || passes_with whole (k + suc n) (counts_of (drop n ns)) count)
    (first k (omega arith) ∙ lt-ltb k (k + suc n) (omega arith) ∙ sym (all k (omega arith) (omega arith)))
    ∙ or_assoc (whole k && c) rest (passes_with whole (k + suc n) (counts_of (drop n ns)) count)
    ∙ ap (λ (m : ℕ). (whole k && c) || (rest || passes_with whole m (counts_of (drop n ns)) count)) next
    ∙ ap (λ (b : Bool). (whole k && c) || b)
    (passes_both p whole (k + 1) n ns count
    (λ j le. first j (omega (arith, le)) ∙ ap (nat_lt j) next)
    (λ j le lt. all j (omega (arith, le)) (omega (arith, lt))))

-- ---- one more COUNT

same_count : (a b : ℕ) → (a == b) ≡ (b == a)
same_count a b = grind (arith, nat_tests)

with_is : (o : Option ℕ) (handed : ℕ → Bool) (count : ℕ)
    → with_count o handed count ≡ (is_count o count || handed count)
with_is None handed count = refl
with_is (Some own) handed count = ap (λ (b : Bool). b || handed count) (same_count count own)

closed_is : (whole : ℕ → Bool) (k : ℕ) (ns : List Next) (handed : ℕ → Bool) (count : ℕ)
    → closed whole k ns handed count ≡ (handed count || passes_with whole k (counts_of ns) count)
closed_is whole k [] handed count = sym (or_false (handed count))
closed_is whole k (n ∷ ns) handed count =
    closed_is whole (k + 1) ns (if whole k then with_count n.count handed else handed) count
    ∙ by (whole k)
  where
    by : (b : Bool)
        → ((if b then with_count n.count handed else handed) count || passes_with whole (k + 1) (counts_of ns) count)
        ≡ (handed count || ((b && is_count n.count count) || passes_with whole (k + 1) (counts_of ns) count))
    by false = refl
    by true =
        ap (λ (b : Bool). b || passes_with whole (k + 1) (counts_of ns) count) (with_is n.count handed count)
        ∙ or_assoc (is_count n.count count) (handed count) (passes_with whole (k + 1) (counts_of ns) count)
        ∙ or_swap (is_count n.count count) (handed count) (passes_with whole (k + 1) (counts_of ns) count)

-- ---- what is in sequence is whole

sequence_whole : (es : List FlowEvent) (k : ℕ) → is_in_sequence es k ≡ true → is_whole_sdu es k ≡ true
sequence_whole es k e =
    let parts = and_parts (nat_lt k (length (sdu_sizes es))) (all_below (place_came es) (sdu_end es k)) e in
    let from = place_of (sdu_sizes es) k in
    and_from (nat_lt k (length (sdu_sizes es))) (all_below (λ (i : ℕ). place_came es (from + i)) (sdu_end es k - from))
    parts.0
    (below_all (λ (i : ℕ). place_came es (from + i)) (sdu_end es k - from)
    (λ i lt. below_each (place_came es) (sdu_end es k) (from + i) parts.1 (omega (arith, lt))))

-- ---- what a history says of a direction

pub say_alike : (c : BearerConfig) (d : Direction) (from to : State) (es : List LifeEvent) → IsDirection c d
    → Joins d from to → IsIdle to → HandsUpAsTold (rlc d) (running es) → SaysAlike es (pdcp d)
say_alike c d from to es is j idle up =
    let f = rlc d in
    let has : HasReady f = has-ready f (sound d.sending d.receiving d.steps is.steps) in
    let none : ready f ≡ [] = has.held ∙ ap (λ (r : Receiver). r.out.ready) j.rlc_receiver_is ∙ idle.heard in
    let many : length (handed_up f) + length (ready f) ≡ (pdcp d).passed =
    omega (arith, ap (length {A = List ℕ}) none, j.passed_is) in
    record {
      sequenced = λ k. up.in_sequence k ∙ ap (nat_lt k) many;
      whole = λ k. up.whole k ∙ sym (j.whole_is k);
    }

-- ---- the same COUNTs have come

pub come_as_handed : (es : List LifeEvent) (f : Flow) (count : ℕ) → IsLivedBeside es f → SaysAlike es f
    → count_came es count ≡ f.handed count
come_as_handed es f count h says =
    ap (λ (b : Bool). came_before es count || b)
    (passes_alike (is_in_sequence (running es)) (below f.passed) 0 (counts_in es) count (λ j le. says.sequenced j))
    ∙ sym (h.handed count)

-- ---- it goes on so

pub begin_beside : (bits : ℕ) (p : Protection) (first : ℕ) → IsLivedBeside [] (am_pdcp_outset bits p first)
begin_beside bits p first = record { counts = refl; few = omega arith; handed = λ count. refl }

-- the COUNTs that the flow has handed, beside those that came before the life
record Hands (before : ℕ → Bool) (f : Flow) : Type 0 where
  few : f.passed ≤ length f.stream
  handed : (count : ℕ) → f.handed count ≡ (before count || passes_with (below f.passed) 0 (counts_of f.stream) count)

length_counts : (ns : List Next) → length (counts_of ns) ≡ length ns
length_counts [] = refl
length_counts (n ∷ ns) = ap suc (length_counts ns)

more_given : (before : ℕ → Bool) (f g : Flow) (ns : List Next) → g.stream ≡ f.stream ++ ns → g.passed ≡ f.passed
    → ((count : ℕ) → g.handed count ≡ f.handed count) → Hands before f → Hands before g
more_given before f g ns stream passed handed h = record {
  few = omega (arith, passed, h.few, ap length stream, length-append f.stream ns);
  handed = λ count.
      handed count ∙ h.handed count
      ∙ ap (λ (b : Bool). before count || b)
      (sym (passes_before (below f.passed) 0 (counts_of f.stream) (counts_of ns) count
      (λ j le. le-ltb j f.passed (omega (arith, le, h.few, length_counts f.stream))))
      ∙ ap (λ (xs : List (Option ℕ)). passes_with (below f.passed) 0 xs count)
      (sym (map-append (λ (m : Next). m.count) f.stream ns) ∙ ap counts_of (sym stream))
      ∙ ap (λ (m : ℕ). passes_with (below m) 0 (counts_of g.stream) count) (sym passed));
}

within : (ns : List Next) (k : ℕ) (n : Next) → slice_get ns k ≡ Some n → k < length ns
within [] k n is = absurd (let no : None ≡ Some n = is in cc)
within (x ∷ ns) zero n is = omega arith
within (x ∷ ns) (suc k) n is = omega (arith, within ns k n is)

next_handed : (before : ℕ → Bool) (f : Flow) (o : Option Next) → slice_get f.stream f.passed ≡ o → Hands before f
    → Hands before (passes o f)
next_handed before f None is h = h
next_handed before f (Some n) is h = record {
  few = omega (arith, within f.stream f.passed n is);
  handed = λ count.
      with_is n.count f.handed count
      ∙ ap (λ (b : Bool). is_count n.count count || b) (h.handed count)
      ∙ or_swap (is_count n.count count) (before count) (passes_with (below f.passed) 0 (counts_of f.stream) count)
      ∙ ap (λ (b : Bool). before count || b)
      (sym (passes_more (below f.passed) (below (f.passed + 1)) 0 f.passed f.stream n count is
      (lt-ltb (0 + f.passed) (f.passed + 1) (omega arith))
      (λ j le other. one_more j (λ e. other (omega (arith, e))))));
}
  where
    one_more : (j : ℕ) → (j ≡ f.passed → ⊥) → nat_lt j (f.passed + 1) ≡ nat_lt j f.passed
    one_more j other = elim (cases_lt j f.passed) [
      | inl lt ↦ lt-ltb j (f.passed + 1) (omega (arith, lt)) ∙ sym (lt-ltb j f.passed lt)
      | inr le ↦ elim (cases_lt f.passed j) [
        | inl gt ↦ le-ltb j (f.passed + 1) (omega (arith, gt)) ∙ sym (le-ltb j f.passed le)
        | inr ge ↦ absurd (other (omega (arith, le, ge)))
      ]
    ]

one_hands : (before : ℕ → Bool) (f : Flow) (e : Event) → IsWithin e → Hands before f → Hands before (happens f e)
one_hands before f (Sends c) ok h =
    more_given before f (happens f (Sends c)) (pdus_given f.sender c) refl refl (λ count. refl) h
one_hands before f (SetDiscard ttis) ok h = record { few = h.few; handed = h.handed }
one_hands before f (Arrive place) ok h = record { few = h.few; handed = h.handed }
one_hands before f HandUp ok h = next_handed before f (slice_get f.stream f.passed) refl h
one_hands before f Raise ok h = record { few = h.few; handed = h.handed }
one_hands before f (Restart keys) ok h = absurd ok

all_hand : (before : ℕ → Bool) (f : Flow) (events : List Event) → AllByRecursion IsWithin events → Hands before f
    → Hands before (run_am_pdcp events f)
all_hand before f [] ok h = h
all_hand before f (e ∷ events) ok h = all_hand before (happens f e) events ok.1 (one_hands before f e ok.0 h)

passes_stream : (f : Flow) (o : Option Next) → (passes o f).stream ≡ f.stream
passes_stream f None = refl
passes_stream f (Some n) = refl

one_stream : (f : Flow) (e : Event) → IsWithin e → (happens f e).stream ≡ f.stream ++ given_by f e
one_stream f (Sends c) ok = refl
one_stream f (SetDiscard ttis) ok = sym (append-nil f.stream)
one_stream f (Arrive place) ok = sym (append-nil f.stream)
one_stream f HandUp ok = passes_stream f (slice_get f.stream f.passed) ∙ sym (append-nil f.stream)
one_stream f Raise ok = sym (append-nil f.stream)
one_stream f (Restart keys) ok = absurd ok

all_stream : (f : Flow) (events : List Event) → AllByRecursion IsWithin events
    → (run_am_pdcp events f).stream ≡ f.stream ++ all_given f events
all_stream f [] ok = sym (append-nil f.stream)
all_stream f (e ∷ events) ok =
    all_stream (happens f e) events ok.1
    ∙ ap (λ (ns : List Next). ns ++ all_given (happens f e) events) (one_stream f e ok.0)
    ∙ append_assoc f.stream (given_by f e) (all_given (happens f e) events)

told_counts : (more es : List LifeEvent) → AllByRecursion IsToldWithin more
    → counts_in (more ++ es) ≡ counts_in es ++ counts_in more
told_counts [] es ok = sym (append-nil (counts_in es))
told_counts (PduGiven count size ∷ more) es ok =
    ap (λ (xs : List (Option ℕ)). xs ++ count ∷ []) (told_counts more es ok.1)
    ∙ append_assoc (counts_in es) (counts_in more) (count ∷ [])
told_counts (InLife e ∷ more) es ok = told_counts more es ok.1
told_counts (LifeEnded ∷ more) es ok = absurd ok.0

told_before : (more es : List LifeEvent) (count : ℕ) → AllByRecursion IsToldWithin more
    → came_before (more ++ es) count ≡ came_before es count
told_before [] es count ok = refl
told_before (PduGiven own size ∷ more) es count ok = told_before more es count ok.1
told_before (InLife e ∷ more) es count ok = told_before more es count ok.1
told_before (LifeEnded ∷ more) es count ok = absurd ok.0

pub within_beside : (es more : List LifeEvent) (f : Flow) (events : List Event) → AllByRecursion IsWithin events
    → AllByRecursion IsToldWithin more → counts_in more ≡ map (λ (n : Next). n.count) (all_given f events)
    → IsLivedBeside es f → IsLivedBeside (more ++ es) (run_am_pdcp events f)
within_beside es more f events ok told given h =
    let g = run_am_pdcp events f in
    let k : Hands (came_before es) g = all_hand (came_before es) f events ok (record {
      few = h.few;
      handed = λ count.
          h.handed count
          ∙ ap (λ (xs : List (Option ℕ)). came_before es count || passes_with (below f.passed) 0 xs count) h.counts;
    }) in
    let counts : counts_in (more ++ es) ≡ counts_of g.stream =
    told_counts more es told
    ∙ ap (λ (xs : List (Option ℕ)). counts_in es ++ xs) given
    ∙ ap (λ (xs : List (Option ℕ)). xs ++ counts_of (all_given f events)) h.counts
    ∙ sym (map-append (λ (m : Next). m.count) f.stream (all_given f events))
    ∙ ap counts_of (sym (all_stream f events ok)) in
    record {
      counts = counts;
      few = k.few;
      handed = λ count.
          k.handed count
          ∙ ap (λ (b : Bool). b || passes_with (below g.passed) 0 (counts_of g.stream) count)
          (sym (told_before more es count told))
          ∙ ap (λ (xs : List (Option ℕ)). came_before (more ++ es) count || passes_with (below g.passed) 0 xs count)
          (sym counts);
    }

pub given_beside : (es : List LifeEvent) (f : Flow) (pdu : Next) (size : ℕ) → taking f.sender ≡ Some pdu
    → IsLivedBeside es f
    → IsLivedBeside (PduGiven pdu.count size ∷ es) (happens f (Sends Take))
given_beside es f pdu size is h =
    within_beside es (PduGiven pdu.count size ∷ []) f (Sends Take ∷ []) (tt, tt) (tt, tt)
    (ap (λ (o : Option Next). counts_of (nexts_of o ++ [])) (sym is)) h

-- ---- the life ends

ended_handed : (es : List LifeEvent) (f : Flow) (count : ℕ) → IsLivedBeside es f → SaysAlike es f
    → (ended f).handed count ≡ came_before (LifeEnded ∷ es) count
ended_handed es f count h says =
    let at : f.passed ≡ 0 + f.passed = omega arith in
    let before = came_before es count in
    let behind = passes_with f.whole f.passed (counts_of (drop f.passed f.stream)) count in
    let is_whole : (j : ℕ) → 0 ≤ j → j < 0 + f.passed → f.whole j ≡ true = λ j le lt.
    sym (says.whole j)
    ∙ sequence_whole (running es) j (says.sequenced j ∙ lt-ltb j f.passed (omega (arith, lt))) in
    closed_is f.whole f.passed (drop f.passed f.stream) f.handed count
    ∙ ap (λ (b : Bool). b || behind) (h.handed count)
    ∙ or_assoc before (passes_with (below f.passed) 0 (counts_in es) count) behind
    ∙ ap (λ (xs : List (Option ℕ)). before || (passes_with (below f.passed) 0 xs count || behind)) h.counts
    ∙ ap (λ (b : Bool). before || b)
    (ap (λ (m : ℕ). passes_with (below f.passed) 0 (counts_of f.stream) count
    || passes_with f.whole m (counts_of (drop f.passed f.stream)) count) at
    ∙ passes_both (below f.passed) f.whole 0 f.passed f.stream count (λ j le. ap (nat_lt j) at) is_whole
    ∙ ap (λ (xs : List (Option ℕ)). passes_with f.whole 0 xs count) (sym h.counts)
    ∙ passes_alike f.whole (is_whole_sdu (running es)) 0 (counts_in es) count (λ j le. sym (says.whole j)))

pub ended_beside : (es : List LifeEvent) (f : Flow) (keys : Keys) → IsLivedBeside es f → SaysAlike es f
    → IsLivedBeside (LifeEnded ∷ es) (happens f (Restart keys))
ended_beside es f keys h says = record {
  counts = refl;
  few = omega arith;
  handed = λ count. ended_handed es f count h says ∙ sym (or_false (came_before (LifeEnded ∷ es) count));
}

pub begun_alike : (es : List LifeEvent) (f : Flow) (keys : Keys)
    → SaysAlike (LifeEnded ∷ es) (happens f (Restart keys))
begun_alike es f keys = record {
  sequenced = λ k. grind (arith, nat_tests);
  whole = λ k. grind (arith, nat_tests);
}

pub lives_say : (c : BearerConfig) (d : Direction) (from to : State) (es : List LifeEvent) (said : CountsCome)
    → IsDirection c d → Joins d from to → IsLivedBeside es (pdcp d) → SaysAlike es (pdcp d)
    → AreThoseCome (count_came (LifeEnded ∷ es)) d.first said → IsReadAs d.bits (report (closed_end to)) said
lives_say c d from to es said is j h says k =
    let same : (n : ℕ) → count_came (LifeEnded ∷ es) n ≡ (ended (pdcp d)).handed n = λ n.
    or_false (came_before (LifeEnded ∷ es) n) ∙ sym (ended_handed es (pdcp d) n h says) in
    ends_say c d from to said is j (record {
      next = record {
        from = k.next.from;
        refused = sym (same said.next) ∙ k.next.refused;
        before = λ n le lt. sym (same n) ∙ k.next.before n le lt;
      };
      ascend = k.ascend;
      beyond = λ n le. sym (same n) ∙ k.beyond n le;
    })
