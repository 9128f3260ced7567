-- RLC confirms a place.
use Rattle.std.proofs.Common.{◌≡◌, ◌<◌, ◌≤◌, ℕ, suc, zero, ◌+◌, ◌-◌, ◌^◌, Bool, true, false, not, ◌||◌, ◌&&◌, List, []}
use Rattle.std.proofs.Common.{◌∷◌, ◌++◌, length, take, drop, map, Option, Some, None, slice_get, slice_set, nat_lt}
use Rattle.std.proofs.Common.{subst, refl, ap, sym, ◌∙◌, arith}
use Rattle.std.specs.Prelude.{if◌then◌else◌, ◌==◌}
use Rattle.std.proofs.lemmas.Bool.Decides.{nat_tests}
use Rattle.std.proofs.lemmas.List.{append-nil}
use Rattle.pdcp_pdu.specs.declared.PdcpKind.TheVariants.{Am}
use Rattle.pdcp_tx_store.specs.declared.given.Sent.{Sent}
use Rattle.pdcp_tx_store.specs.declared.given.Entry.{Entry}
use Rattle.pdcp_tx_store.specs.declared.given.Entry.TheVariants.{Data, Own, Gone}
use Rattle.pdcp_tx_store.specs.Given.{Given, settled, acked, acked_at, entry_at, is_own, with_ack, data_of}
use Rattle.pdcp_tx_store.specs.Given.{first_unacked}
use Rattle.pdcp_tx.specs.declared.sender.Next.{Next}
use Rattle.pdcp_tx.specs.Pdus.{width}
use Rattle.pdcp_tx.specs.State.{State, or_else, low, moved, confirmed}
use Rattle.pdcp_tx.specs.Runs.{Confirm, counts_in}
use Rattle.law_pdcp.specs.OneEnd.Lives.{Calls}
use Rattle.law_pdcp.proofs.OneEnd.Naming.{NamesKept}
use Rattle.law_pdcp.proofs.OneEnd.Thinning.{In, names}
use Rattle.law_pdcp.specs.AmPair.Flow.{Flow, Sends as Sending, happens}
use Rattle.law_pdcp.proofs.AmPair.Numbers.{among, among_more, counts, has, came}
use Rattle.law_pdcp.proofs.AmPair.Opens.{all_of, is_among, low_is, first_rises, first_below, first_end, trimmed_among}
use Rattle.law_pdcp.proofs.AmPair.Places.{settled_places, ack_places, acked_came}
use Rattle.law_pdcp.proofs.OneEnd.Submitting.{AreNonempty}
use Rattle.law_pdcp.proofs.AmPair.Sound.{Owes, Sends, IsSound}
use Rattle.law_pdcp.proofs.AmPair.Takings.{kept_after, order_after, none_given}

-- ---- the bound moves

moved_bound : (b : Bool) (next bound first w : ℕ) → next ≤ bound → bound ≤ first + w
    → (next ≤ (if b then bound else first + w)) × ((if b then bound else first + w) ≤ first + w)
moved_bound true next bound first w a b = (a, b)
moved_bound false next bound first w a b = (omega arith, omega arith)

moved_first : (s : State) (bits : ℕ) → s.kind ≡ Am bits
    → low s + width s.kind ≡ or_else (first_unacked (all_of s)) s.next + 2 ^ (bits - 1)
moved_first s bits am = ap (λ n. n + width s.kind) (low_is s)
    ∙ ap (λ k. or_else (first_unacked (all_of s)) s.next + width k) am

moved_is : (s : State) (bits : ℕ) → s.kind ≡ Am bits
    → (moved s).bound ≡ (if s.reporting then s.bound else or_else (first_unacked (all_of s)) s.next + 2 ^ (bits - 1))
moved_is s bits am = ap (λ n. if s.reporting then s.bound else n) (moved_first s bits am)

-- a state before the bound moves
pub record Before (bits first : ℕ) (sdus : List (List ℕ)) (s : State) : Type 0 where
  pub am : s.kind ≡ Am bits
  pub room : s.next + length s.waiting ≤ 2 ^ 32
  pub some : AreNonempty sdus
  pub waits_some : AreNonempty (map (λ w. w.sdu) s.waiting)
  pub owes : Owes s.kind s.owed
  pub near : s.next ≤ s.bound
  pub lag : s.bound ≤ or_else (first_unacked (all_of s)) s.next + 2 ^ (bits - 1)

pub moved_sends : (bits first : ℕ) (sdus : List (List ℕ)) (s : State) → Before bits first sdus s
    → NamesKept first sdus (moved s) → In 0 (names (all_of s)) s.next → Sends bits first sdus (moved s)
moved_sends bits first sdus s h kept order =
    let b = moved_bound s.reporting s.next s.bound (or_else (first_unacked (all_of s)) s.next) (2 ^ (bits - 1)) h.near
    h.lag in
    let is = moved_is s bits h.am in
    record {
      am = h.am;
      room = h.room;
      some = h.some;
      waits_some = h.waits_some;
      owes = h.owes;
      kept = kept;
      order = order;
      near = subst (λ n. s.next ≤ n) (sym is) b.0;
      lag = subst (λ n. n ≤ or_else (first_unacked (all_of s)) s.next + 2 ^ (bits - 1)) (sym is) b.1;
    }

floor_step : (b : Bool) (bound first w n : ℕ) (done : Bool) → (n + w < bound → done ≡ true)
    → (n < first → done ≡ true) → n + w < (if b then bound else first + w) → done ≡ true
floor_step true bound first w n done f g lt = f lt
floor_step false bound first w n done f g lt = g (omega arith)

pub moved_floor : (bits : ℕ) (s : State) (done : ℕ → Bool) (n : ℕ) → s.kind ≡ Am bits → In 0 (names (all_of s)) s.next
    → (n + 2 ^ (bits - 1) < s.bound → done n ≡ true) → (n < s.next → done n || is_among (all_of s) n ≡ true)
    → n + 2 ^ (bits - 1) < (moved s).bound → done n ≡ true
moved_floor bits s done n am order f g lt =
    let first = or_else (first_unacked (all_of s)) s.next in
    floor_step s.reporting s.bound first (2 ^ (bits - 1)) n (done n) f
    (λ l. let end : first ≤ s.next = first_end 0 (all_of s) s.next order in
    let no : is_among (all_of s) n ≡ true → first ≤ n = first_below 0 (all_of s) s.next n order in
    grind (arith, nat_tests, g, no, end))
    (subst (λ m. n + 2 ^ (bits - 1) < m) (moved_is s bits am) lt)

-- ---- a confirmation

came_drop : (whole : ℕ → Bool) (g k : ℕ) (os : List Next) (n : ℕ) → came whole (k + g) (drop g os) n ≡ true
    → came whole k os n ≡ true
came_drop whole zero k os n e = let same : k + 0 ≡ k = omega arith in subst (λ m. came whole m os n ≡ true) same e
came_drop whole (suc g) k [] n e = let no : false ≡ true = e in cc
came_drop whole (suc g) k (x ∷ os) n e =
    let same : k + suc g ≡ k + 1 + g = omega arith in
    let ih : came whole (k + 1) os n ≡ true =
    came_drop whole g (k + 1) os n (subst (λ m. came whole m (drop g os) n ≡ true) same e) in
    grind (arith, nat_tests, ih)

pub has_among : (c : Option ℕ) (n : ℕ) → has c n ≡ true → among (counts_in c) n ≡ true
has_among None n e = let no : false ≡ true = e in cc
has_among (Some c) n e = grind (arith, nat_tests, e)

pub came_split : (whole : ℕ → Bool) (m k : ℕ) (os : List Next) (n : ℕ) → came whole k os n ≡ true
    → among (counts (take m os)) n || came whole (k + m) (drop m os) n ≡ true
came_split whole zero k os n e = let same : k + 0 ≡ k = omega arith in
    subst (λ m. came whole m os n ≡ true) (sym same) e
came_split whole (suc m) k [] n e = let no : false ≡ true = e in cc
came_split whole (suc m) k (x ∷ os) n e =
    let same : k + 1 + m ≡ k + suc m = omega arith in
    let ih : came whole (k + 1) os n ≡ true → among (counts (take m os)) n || came whole (k + suc m) (drop m os) n
    ≡ true =
    λ q. subst (λ j. among (counts (take m os)) n || came whole j (drop m os) n ≡ true) same
    (came_split whole m (k + 1) os n q) in
    grind (arith, nat_tests, ih, has_among x.count n, among_more (counts_in x.count) (counts (take m os)) n)

acked_first_less : (x : Entry) (es : List Entry) (ss : List Sent) (n : ℕ)
    → is_among (data_of (acked x ∷ es) ++ ss) n ≡ true → is_among (data_of (x ∷ es) ++ ss) n ≡ true
acked_first_less (Data x) es ss n e = less (n == x.count) x.acked (is_among (data_of es ++ ss) n) e
  where
    less : (a b c : Bool) → (a && not true) || c ≡ true → (a && not b) || c ≡ true
    less true true c e = e
    less true false c e = refl
    less false b c e = e
acked_first_less Own es ss n e = e
acked_first_less Gone es ss n e = e

less_behind : (x : Entry) (es fs : List Entry) (ss : List Sent) (n : ℕ)
    → (is_among (data_of es ++ ss) n ≡ true → is_among (data_of fs ++ ss) n ≡ true)
    → is_among (data_of (x ∷ es) ++ ss) n ≡ true → is_among (data_of (x ∷ fs) ++ ss) n ≡ true
less_behind (Data x) es fs ss n f e = grind (arith, nat_tests, f)
less_behind Own es fs ss n f e = f e
less_behind Gone es fs ss n f e = f e

set_less : (es : List Entry) (k : ℕ) (e : Entry) (ss : List Sent) (n : ℕ) → slice_get es k ≡ Some e
    → is_among (data_of (slice_set es k (acked e)) ++ ss) n ≡ true → is_among (data_of es ++ ss) n ≡ true
set_less [] k e ss n q i = let no : None ≡ Some e = q in cc
set_less (x ∷ es) zero e ss n q i =
    let some : Some x ≡ Some e = q in
    let same : x ≡ e = cc in
    acked_first_less x es ss n (subst (λ y. is_among (data_of (acked y ∷ es) ++ ss) n ≡ true) (sym same) i)
set_less (x ∷ es) (suc k) e ss n q i = less_behind x (slice_set es k (acked e)) es ss n (set_less es k e ss n q) i

ack_less : (g : Given) (place : ℕ) (ss : List Sent) (n : ℕ)
    → is_among (data_of (with_ack g place).entries ++ ss) n ≡ true → is_among (data_of g.entries ++ ss) n ≡ true
ack_less g place ss n i = by_place (nat_lt place g.gone) refl
  where
    none : entry_at g place ≡ None → is_among (data_of g.entries ++ ss) n ≡ true
    none e = subst (λ (o : Option Entry). is_among (data_of (acked_at o g.entries (place - g.gone)) ++ ss) n ≡ true) e i

    by_entry : (o : Option Entry) → slice_get g.entries (place - g.gone) ≡ o → entry_at g place ≡ o
        → is_among (data_of g.entries ++ ss) n ≡ true
    by_entry None q e = none e
    by_entry (Some x) q e =
        set_less g.entries (place - g.gone) x ss n q
        (subst (λ (o : Option Entry). is_among (data_of (acked_at o g.entries (place - g.gone)) ++ ss) n ≡ true) e i)

    by_place : (b : Bool) → nat_lt place g.gone ≡ b → is_among (data_of g.entries ++ ss) n ≡ true
    by_place true a = none (ap (λ (t : Bool). if t then None else slice_get g.entries (place - g.gone)) a)
    by_place false a =
        by_entry (slice_get g.entries (place - g.gone)) refl
        (ap (λ (t : Bool). if t then None else slice_get g.entries (place - g.gone)) a)

abbrev with_confirmed : State → ℕ → State
with_confirmed s place = record s {
  given = settled (with_ack s.given place);
  reporting = s.reporting && not (is_own (entry_at s.given place));
}

confirmed_is : (s : State) (place : ℕ) → confirmed s place ≡ moved (with_confirmed s place)
unfolding confirmed
confirmed_is s place = refl

confirmed_less : (s : State) (place n : ℕ) → is_among (all_of (with_confirmed s place)) n ≡ true
    → is_among (all_of s) n ≡ true
confirmed_less s place n e =
    ack_less s.given place s.again n (sym (trimmed_among (with_ack s.given place).entries s.again n) ∙ e)

-- what is confirmed has come
confirmed_came : (bits : ℕ) (f : Flow) (place n : ℕ) → f.whole place ≡ true → IsSound bits f
    → is_among (all_of f.sender) n ≡ true
    → (f.handed n || came f.whole f.passed (drop f.passed f.stream) n)
    || is_among (all_of (with_confirmed f.sender place)) n ≡ true
confirmed_came bits f place n w h e =
    let s = f.sender in
    let zero_gone : 0 + s.given.gone ≡ s.given.gone = omega arith in
    let zero_passed : 0 + f.passed ≡ f.passed = omega arith in
    let here : came f.whole s.given.gone (drop s.given.gone f.stream) n
    || is_among (data_of (with_ack s.given place).entries ++ s.again) n ≡ true =
    acked_came s.given f.stream s.again f.whole place n h.places w e in
    let split : came f.whole s.given.gone (drop s.given.gone f.stream) n ≡ true
    → among (counts (take f.passed f.stream)) n || came f.whole f.passed (drop f.passed f.stream) n ≡ true =
    λ q. subst (λ j. among (counts (take f.passed f.stream)) n || came f.whole j (drop f.passed f.stream) n ≡ true)
    zero_passed
    (came_split f.whole f.passed 0 f.stream n
    (came_drop f.whole s.given.gone 0 f.stream n
    (subst (λ j. came f.whole j (drop s.given.gone f.stream) n ≡ true) (sym zero_gone) q))) in
    let trim : is_among (all_of (with_confirmed s place)) n
    ≡ is_among (data_of (with_ack s.given place).entries ++ s.again) n =
    trimmed_among (with_ack s.given place).entries s.again n in
    grind (arith, nat_tests, here, split, trim, h.passed n)

confirm_moved : (bits : ℕ) (f : Flow) (place : ℕ) → f.whole place ≡ true → IsSound bits f
    → IsSound bits (record f { sender = moved (with_confirmed f.sender place) })
confirm_moved bits f place w h =
    let s = f.sender in
    let pre = with_confirmed s place in
    let kept : NamesKept f.first f.sdus (moved pre) =
    subst (λ t. NamesKept f.first f.sdus t) (confirmed_is s place)
    (subst (λ l. NamesKept f.first l (confirmed s place)) (append-nil f.sdus)
    (kept_after f.first f.sdus s (Calls (Confirm place)) h.sends.kept)) in
    let order : In 0 (names (all_of pre)) s.next =
    subst (λ t. In 0 (names (all_of t)) t.next) (confirmed_is s place)
    (order_after s bits (Calls (Confirm place)) h.sends.am h.sends.order) in
    let rise = first_rises (all_of s) (all_of pre) s.next h.sends.order (λ n e. confirmed_less s place n e) in
    let opens : (n : ℕ) → f.first ≤ n → n < s.next
    → (f.handed n || came f.whole f.passed (drop f.passed f.stream) n) || is_among (all_of pre) n ≡ true =
    λ n a b. grind (arith, nat_tests, h.links.opens n a b, confirmed_came bits f place n w h) in
    record {
      width = h.width;
      sends = moved_sends bits f.first f.sdus pre
          (record {
            am = h.sends.am;
            room = h.sends.room;
            some = h.sends.some;
            waits_some = h.sends.waits_some;
            owes = h.sends.owes;
            near = h.sends.near;
            lag = omega (arith, h.sends.lag, rise);
          }) kept order;
      links = record {
        within = h.links.within;
        order = h.links.order;
        covered = h.links.covered;
        opens = opens;
        floor = λ n a lt. moved_floor bits pre (λ m. f.handed m || came f.whole f.passed (drop f.passed f.stream) m) n
            h.sends.am order (h.links.floor n a) (opens n a) lt;
        late = h.links.late;
        written = h.links.written;
      };
      receives = h.receives;
      hears_am = h.hears_am;
      key = h.key;
      places = settled_places (with_ack s.given place) f.stream (ack_places s.given place f.stream h.places);
      few = h.few;
      passed = h.passed;
      told = h.told;
    }

pub confirm_sound : (bits : ℕ) (f : Flow) (place : ℕ) → f.whole place ≡ true → IsSound bits f
    → IsSound bits (happens f (Sending (Confirm place)))
confirm_sound bits f place w h =
    none_given bits f (confirmed f.sender place)
    (subst (λ t. IsSound bits (record f { sender = t })) (sym (confirmed_is f.sender place))
    (confirm_moved bits f place w h))
