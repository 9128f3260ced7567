-- What has come by an account is what PDCP has heard: in sequence in the life that runs, and whole as a life ends.
use Rattle.std.proofs.Common.{◌≡◌, ◌<◌, ◌≤◌, ℕ, zero, suc, ◌+◌, ◌-◌, Bool, true, false, ◌&&◌, ◌||◌, if◌then◌else◌, List}
use Rattle.std.proofs.Common.{[], ◌∷◌, ◌++◌, map, length, take, drop, slice_get, slice_index_or, Option, Some, None}
use Rattle.std.proofs.Common.{nat_lt, refl, ap, sym, subst, ◌∙◌, arith, length-append, append-nil}
use Rattle.std.proofs.lemmas.Bool.Decides.{nat_tests}
use Rattle.l2_num.specs.Least.{IsLeast}
use Rattle.pdcp_rx.specs.State.{State as Receiving}
use Rattle.pdcp_tx.specs.declared.sender.Next.{Next}
use Rattle.rlc_am_rx.specs.State.{State as Receiver}
use Rattle.law_bearer.specs.AmBearer.Calls.{IsIdle}
use Rattle.law_rlc.specs.AmReceiver.Finish.{Place, all_come, octets_of}
use Rattle.law_rlc.specs.AmPair.Arrives.{arrives, HasReady}
use Rattle.law_rlc.specs.AmPair.Flow.{Flow as Rlc}
use Rattle.law_rlc.specs.AmPair.Sdus.{offered, handed_up, ready}
use Rattle.law_rlc.specs.AmPair.Seen.{seen, in_sequence}
use Rattle.law_rlc.proofs.AmPair.ByPlace.{has-ready}
use Rattle.law_rlc.proofs.AmPair.Laws.{sound}
use Rattle.law_rlc.proofs.AmPair.Sequence.{goes-up-in-sequence}
use Rattle.law_rlc.proofs.AmPair.Sound.{IsSound}
use Rattle.law_words.specs.Passing.{Told}
use Rattle.law_words.specs.Arrivals.{Given, Account, has_place, is_count, whole_in, sequence_in, has_come}
use Rattle.law_words.specs.Stretches.{has_arrived}
use Rattle.law_rlc.proofs.AmArrival.Laws.{tell_what_arrives}
use Rattle.law_pdcp.specs.AmPair.Expected.{IsExpected}
use Rattle.law_pdcp.specs.AmPair.Flow.{Flow as Pdcp, Event, Sends, SetDiscard, Arrive, HandUp, Raise, Restart}
use Rattle.law_pdcp.specs.AmPair.Flow.{with_count, passes, closed, happens as pdcp_happens, run_am_pdcp}
use Rattle.law_pdcp.specs.AmPair.Flow.{am_pdcp_outset}
use Rattle.law_pdcp.proofs.AmPair.Laws.{expected}
use Rattle.law_deliver.specs.AmFlow.Pair.{BearerEnd}
use Rattle.law_deliver.specs.AmDelivery.Arrival.{IsWhatCame}
use Rattle.law_deliver.proofs.AmDelivery.Accounts.{told_of, given_of, is_among, Agrees, handed_too}
use Rattle.law_deliver.proofs.AmDelivery.Joined.{Way, IsWay, Joins, rlc, pdcp}

-- ---- what has arrived to RLC

sizes : (ns : List Next) → map (λ (g : Given). g.size) (map given_of ns) ≡ map length (map (λ (n : Next). n.octets) ns)
sizes [] = refl
sizes (n ∷ ns) = ap (λ (l : List ℕ). length n.octets ∷ l) (sizes ns)

pub place_is : (w : Way) (from to : BearerEnd) (a : Account) (place : ℕ) → IsWay w → Joins w from to
    → Agrees a (pdcp w) (told_of w) → has_place a place ≡ arrives (rlc w) place
place_is w from to a place is j k =
    let lens : map (λ (g : Given). g.size) a.given ≡ map length (offered (rlc w)) =
    ap (λ (l : List Given). map (λ (g : Given). g.size) l) (sym k.given_are)
    ∙ (sizes (pdcp w).stream ∙ ap (λ (l : List (List ℕ)). map length l) j.stream_is) in
    ap (λ (l : List ℕ). has_arrived l a.rlc.fields a.rlc.came place) lens
    ∙ (ap (λ (t : Told). has_arrived (map length (offered (rlc w))) t.fields t.came place) (sym k.rlc_is)
    ∙ sym (tell_what_arrives w.sending w.receiving w.steps is.steps place))

pub in_sequence_come : (ss : List (List Place)) (k : ℕ) → k < length (in_sequence ss)
    → (nat_lt k (length ss) && all_come (slice_index_or ss k [])) ≡ true
in_sequence_come [] k lt = absurd (omega (arith, lt))
in_sequence_come (s ∷ ss) k lt = by (all_come s) k refl (λ j. in_sequence_come ss j) lt
  where
    by : (b : Bool) (k : ℕ) → all_come s ≡ b
        → ((j : ℕ) → j < length (in_sequence ss) → (nat_lt j (length ss) && all_come (slice_index_or ss j [])) ≡ true)
        → k < length (if b then octets_of s ∷ in_sequence ss else [])
        → (nat_lt k (length (s ∷ ss)) && all_come (slice_index_or (s ∷ ss) k [])) ≡ true
    by true zero e rest lt = grind (arith, nat_tests, e)
    by true (suc j) e rest lt = let r = rest j (omega (arith, lt)) in grind (arith, nat_tests, r)
    by false k e rest lt = absurd (omega (arith, lt))

pub passed_come : (w : Way) (from to : BearerEnd) (j : ℕ) → IsWay w → Joins w from to → j < (pdcp w).passed
    → arrives (rlc w) j ≡ true
passed_come w from to j is joins lt =
    let f : Rlc = rlc w in
    let ok : IsSound f = sound w.sending w.receiving w.steps is.steps in
    let l = length-append (handed_up f) (ready f) in
    let e = ap (λ (l : List (List ℕ)). length l) (goes-up-in-sequence f ok) in
    let p = joins.passed_is in
    in_sequence_come (seen f) j (omega (arith, l, e, p, lt))

pub next_missing : (w : Way) (from to : BearerEnd) → IsWay w → Joins w from to → IsIdle to.bearer
    → arrives (rlc w) (pdcp w).passed ≡ false
next_missing w from to is joins idle =
    let f : Rlc = rlc w in
    let has : HasReady f = has-ready f (sound w.sending w.receiving w.steps is.steps) in
    let none : ready f ≡ [] = has.held ∙ ap (λ (r : Receiver). r.out.ready) joins.rlc_is.receiver_is ∙ idle.heard in
    let e : (pdcp w).passed ≡ length (handed_up f) + length (ready f) = let n =
    ap (λ (l : List (List ℕ)). length l) none in let p = joins.passed_is in omega (arith, n, p) in
    ap (arrives f) e ∙ has.stops

-- ---- in sequence

sequence_among : (arrived : ℕ → Bool) (ns : List Next) (p k count : ℕ) → ((j : ℕ) → j < p → arrived (k + j) ≡ true)
    → arrived (k + p) ≡ false
    → sequence_in arrived k (map given_of ns) count ≡ is_among (take p ns) count
sequence_among arrived [] zero k count all none = refl
sequence_among arrived [] (suc p) k count all none = refl
sequence_among arrived (n ∷ ns) zero k count all none =
    let z : k + 0 ≡ k = omega arith in
    let e : arrived k ≡ false = ap arrived (sym z) ∙ none in
    grind (arith, nat_tests, e)
sequence_among arrived (n ∷ ns) (suc p) k count all none =
    let z : k + 0 ≡ k = omega arith in
    let e : arrived k ≡ true = ap arrived (sym z) ∙ all 0 (omega arith) in
    let ih = sequence_among arrived ns p (k + 1) count
    (λ j lt. let s : k + suc j ≡ k + 1 + j = omega arith in ap arrived (sym s) ∙ all (suc j) (omega (arith, lt)))
    (let s : k + suc p ≡ k + 1 + p = omega arith in ap arrived (sym s) ∙ none) in
    ap (λ (b : Bool). b && (is_count n.count count || sequence_in arrived (k + 1) (map given_of ns) count)) e
    ∙ ap (λ (b : Bool). is_count n.count count || b) ih

-- ---- as a life ends

closed_too : (whole arrived : ℕ → Bool) → ((k : ℕ) → whole k ≡ arrived k)
    → (k : ℕ) (ns : List Next) (handed : ℕ → Bool) (count : ℕ)
    → closed whole k ns handed count ≡ (handed count || whole_in arrived k (map given_of ns) count)
closed_too whole arrived same k [] handed count = last (handed count)
  where
    last : (b : Bool) → b ≡ (b || false)
    last true = refl
    last false = refl
closed_too whole arrived same k (n ∷ ns) handed count =
    by (whole k) (arrived k) (same k) (λ (h : ℕ → Bool). closed_too whole arrived same (k + 1) ns h count)
  where
    by : (b c : Bool) → b ≡ c
        → ((h : ℕ → Bool) → closed whole (k + 1) ns h count
        ≡ (h count || whole_in arrived (k + 1) (map given_of ns) count))
        → closed whole (k + 1) ns (if b then with_count n.count handed else handed) count
        ≡ (handed count || ((c && is_count n.count count) || whole_in arrived (k + 1) (map given_of ns) count))
    by true true e rest = rest (with_count n.count handed)
        ∙ ap (λ (b : Bool). b || whole_in arrived (k + 1) (map given_of ns) count) (handed_too n.count handed count)
        ∙ sides (handed count) (is_count n.count count) (whole_in arrived (k + 1) (map given_of ns) count)
      where
        sides : (a b c : Bool) → ((a || b) || c) ≡ (a || (b || c))
        sides true b c = refl
        sides false b c = refl
    by true false e rest = cc
    by false true e rest = cc
    by false false e rest = rest handed

whole_split : (arrived : ℕ → Bool) (ns : List Next) (p k count : ℕ) → ((j : ℕ) → j < p → arrived (k + j) ≡ true)
    → whole_in arrived k (map given_of ns) count
    ≡ (is_among (take p ns) count || whole_in arrived (k + p) (map given_of (drop p ns)) count)
whole_split arrived [] zero k count all = refl
whole_split arrived [] (suc p) k count all = refl
whole_split arrived (n ∷ ns) zero k count all = let z : k ≡ k + 0 = omega arith in
    ap (λ (i : ℕ). whole_in arrived i (map given_of (n ∷ ns)) count) z
whole_split arrived (n ∷ ns) (suc p) k count all =
    let z : k + 0 ≡ k = omega arith in
    let e : arrived k ≡ true = ap arrived (sym z) ∙ all 0 (omega arith) in
    let s : k + 1 + p ≡ k + suc p = omega arith in
    let ih = whole_split arrived ns p (k + 1) count (λ j lt. let s : k + suc j ≡ k + 1 + j = omega arith in
    ap arrived (sym s) ∙ all (suc j) (omega (arith, lt))) in
    ap (λ (b : Bool). (b && is_count n.count count) || whole_in arrived (k + 1) (map given_of ns) count) e
    ∙ ap (λ (b : Bool). is_count n.count count || b)
    (ih ∙ ap (λ (i : ℕ). is_among (take p ns) count || whole_in arrived i (map given_of (drop p ns)) count) s)
    ∙ sides (is_count n.count count) (is_among (take p ns) count)
    (whole_in arrived (k + suc p) (map given_of (drop p ns)) count)
  where
    sides : (a b c : Bool) → (a || (b || c)) ≡ ((a || b) || c)
    sides true b c = refl
    sides false b c = refl

whole_alike : (f g : ℕ → Bool) → ((k : ℕ) → f k ≡ g k) → (k : ℕ) (gs : List Given) (count : ℕ)
    → whole_in f k gs count ≡ whole_in g k gs count
whole_alike f g same k [] count = refl
whole_alike f g same k (x ∷ gs) count =
    ap (λ (b : Bool). (b && is_count x.count count) || whole_in f (k + 1) gs count) (same k)
    ∙ ap (λ (b : Bool). (g k && is_count x.count count) || b) (whole_alike f g same (k + 1) gs count)

sequence_alike : (f g : ℕ → Bool) → ((k : ℕ) → f k ≡ g k) → (k : ℕ) (gs : List Given) (count : ℕ)
    → sequence_in f k gs count ≡ sequence_in g k gs count
sequence_alike f g same k [] count = refl
sequence_alike f g same k (x ∷ gs) count =
    ap (λ (b : Bool). b && (is_count x.count count || sequence_in f (k + 1) gs count)) (same k)
    ∙ ap (λ (b : Bool). g k && (is_count x.count count || b)) (sequence_alike f g same (k + 1) gs count)

-- ---- of a way

pub handed_come : (w : Way) (from to : BearerEnd) (a : Account) (count : ℕ) → IsWay w → Joins w from to
    → IsIdle to.bearer → Agrees a (pdcp w) (told_of w)
    → (pdcp w).handed count ≡ has_come a count
handed_come w from to a count is j idle k =
    k.handed_are count
    ∙ ap (λ (b : Bool). a.ended count || b)
    (sym (sequence_among (arrives (rlc w)) (pdcp w).stream (pdcp w).passed 0 count
    (λ i lt. let z : 0 + i ≡ i = omega arith in ap (arrives (rlc w)) z ∙ passed_come w from to i is j lt)
    (let z : 0 + (pdcp w).passed ≡ (pdcp w).passed = omega arith in
    ap (arrives (rlc w)) z ∙ next_missing w from to is j idle))
    ∙ ap (λ (l : List Given). sequence_in (arrives (rlc w)) 0 l count) k.given_are
    ∙ sym (sequence_alike (has_place a) (arrives (rlc w)) (λ i. place_is w from to a i is j k) 0 a.given count))

pub closed_come : (w : Way) (from to : BearerEnd) (a : Account) (count : ℕ) → IsWay w → Joins w from to
    → Agrees a (pdcp w) (told_of w)
    → closed (pdcp w).whole (pdcp w).passed (drop (pdcp w).passed (pdcp w).stream) (pdcp w).handed count
    ≡ (a.ended count || whole_in (has_place a) 0 a.given count)
closed_come w from to a count is j k =
    let g = pdcp w in
    let arrived = arrives (rlc w) in
    let rest = whole_in arrived g.passed (map given_of (drop g.passed g.stream)) count in
    let z : 0 + g.passed ≡ g.passed = omega arith in
    closed_too g.whole arrived j.whole_is g.passed (drop g.passed g.stream) g.handed count
    ∙ (ap (λ (b : Bool). b || rest) (k.handed_are count)
    ∙ (sides (a.ended count) (is_among (take g.passed g.stream) count) rest
    ∙ ap (λ (b : Bool). a.ended count || b)
    (ap (λ (i : ℕ). is_among (take g.passed g.stream) count
    || whole_in arrived i (map given_of (drop g.passed g.stream)) count) (sym z)
    ∙ (sym (whole_split arrived g.stream g.passed 0 count (λ i lt. let z : 0 + i ≡ i = omega arith in
    ap arrived z ∙ passed_come w from to i is j lt))
    ∙ (ap (λ (l : List Given). whole_in arrived 0 l count) k.given_are
    ∙ sym (whole_alike (has_place a) arrived (λ i. place_is w from to a i is j k) 0 a.given count))))))
  where
    sides : (a b c : Bool) → ((a || b) || c) ≡ (a || (b || c))
    sides true b c = refl
    sides false b c = refl

-- the first COUNT is that of the way
passes_first : (o : Option Next) (f : Pdcp) → (passes o f).first ≡ f.first
passes_first None f = refl
passes_first (Some n) f = refl

keeps_first : (events : List Event) (f : Pdcp) → (run_am_pdcp events f).first ≡ f.first
keeps_first [] f = refl
keeps_first (Sends c ∷ events) f = keeps_first events (pdcp_happens f (Sends c))
keeps_first (SetDiscard ttis ∷ events) f = keeps_first events (pdcp_happens f (SetDiscard ttis))
keeps_first (Arrive place ∷ events) f = keeps_first events (pdcp_happens f (Arrive place))
keeps_first (HandUp ∷ events) f = keeps_first events (pdcp_happens f HandUp)
    ∙ passes_first (slice_get f.stream f.passed) f
keeps_first (Raise ∷ events) f = keeps_first events (pdcp_happens f Raise)
keeps_first (Restart keys ∷ events) f = keeps_first events (pdcp_happens f (Restart keys))

pub first_is : (w : Way) → (pdcp w).first ≡ w.first
first_is w = keeps_first w.events (am_pdcp_outset w.bits w.protection w.first)

least_alike : (f g : ℕ → Bool) (p q : ℕ) → ((n : ℕ) → f n ≡ g n) → IsLeast f p q → IsLeast g p q
least_alike f g p q same h = record {
  from = h.from;
  refused = sym (same q) ∙ h.refused;
  before = λ n a b. sym (same n) ∙ h.before n a b;
}

pub is_what_came : (w : Way) (from to : BearerEnd) (a : Account) → IsWay w → Joins w from to → IsIdle to.bearer
    → Agrees a (pdcp w) (told_of w)
    → IsWhatCame w.first a (pdcp w).sdus (pdcp w).up
is_what_came w from to a is j idle k =
    let f = pdcp w in
    let e : IsExpected f = expected w.bits w.protection w.first w.events is.kind is.first is.events in
    let none : f.receiver.ready ≡ [] = ap (λ (r : Receiving). r.ready) j.receiver_is ∙ idle.raised in
    record {
      next = f.receiver.next;
      least = least_alike f.handed (has_come a) w.first f.receiver.next (λ n. handed_come w from to a n is j idle k)
          (subst (λ (n : ℕ). IsLeast f.handed n f.receiver.next) (first_is w) e.least);
      taken = subst (λ (n : ℕ). f.receiver.next ≤ n + length f.sdus) (first_is w) e.taken;
      ups_are = sym (append-nil f.up)
          ∙ (ap (λ (l : List (List ℕ)). f.up ++ l) (sym none)
          ∙ (e.delivered ∙ ap (λ (n : ℕ). take (f.receiver.next - n) f.sdus) (first_is w)));
    }
