-- The steps of RLC and of the layer above: one arrives whole, the next in sequence is handed up, an SDU goes up.
use Rattle.std.proofs.Common.{◌≡◌, ◌<◌, ◌≤◌, ℕ, suc, zero, ◌+◌, ◌-◌, Bool, true, false, ◌||◌, List, [], ◌∷◌, ◌++◌}
use Rattle.std.proofs.Common.{length, take, drop, Option, Some, None, slice_get, append_assoc, ⊎_elim, subst, refl, ap}
use Rattle.std.proofs.Common.{sym, ◌∙◌, arith}
use Rattle.std.specs.Prelude.{◌==◌}
use Rattle.std.proofs.lemmas.Bool.Decides.{nat_tests}
use Rattle.std.proofs.lemmas.Bool.{cases_lt}
use Rattle.l2_num.specs.Ascending.{AreBetween}
use Rattle.pdcp_tx.specs.declared.sender.Next.{Next}
use Rattle.pdcp_tx.specs.State.{State}
use Rattle.pdcp_tx.specs.Runs.{counts_in}
use Rattle.pdcp_rx.specs.declared.got.Cause.TheVariants.{Arrived}
use Rattle.pdcp_rx.specs.State.{arrived}
use Rattle.law_pdcp.specs.AmPair.Flow.{Flow, HandUp, Raise, Arrive, IsReport, with_count, passes, happens}
use Rattle.law_pdcp.proofs.AmPair.Numbers.{among, among_more, between_from, counts, counts_more, has, came}
use Rattle.law_pdcp.proofs.AmPair.Receives.{Receives}
use Rattle.law_pdcp.proofs.AmPair.Passing.{front_of, front_pass, line_at, line_of, head_receives, report_ignored}
use Rattle.law_pdcp.proofs.AmPair.Passing.{arrived_kind, arrived_key}
use Rattle.law_pdcp.proofs.AmPair.Sound.{IsWritten, rest, Links, IsSound}

-- ---- one arrives whole

came_wider : (whole more : ℕ → Bool) (k : ℕ) (os : List Next) (n : ℕ) → ((j : ℕ) → whole j ≡ true → more j ≡ true)
    → came whole k os n ≡ true → came more k os n ≡ true
came_wider whole more k [] n f e = e
came_wider whole more k (x ∷ os) n f e = let ih = came_wider whole more (k + 1) os n f in
    grind (arith, nat_tests, ih, f k)

pub arrive_sound : (bits : ℕ) (f : Flow) (place : ℕ) → IsSound bits f → IsSound bits (happens f (Arrive place))
arrive_sound bits f place h =
    let pdus = drop f.passed f.stream in
    let grows : (n : ℕ) → came f.whole f.passed pdus n ≡ true
    → came (λ n. n == place || f.whole n) f.passed pdus n ≡ true =
    λ n. came_wider f.whole (λ n. n == place || f.whole n) f.passed pdus n (λ j e. grind (arith, nat_tests)) in
    record {
      width = h.width;
      sends = h.sends;
      links = record {
        within = h.links.within;
        order = h.links.order;
        covered = h.links.covered;
        opens = λ n a b. grind (arith, nat_tests, h.links.opens n a b, grows n);
        floor = λ n a b. grind (arith, nat_tests, h.links.floor n a b, grows n);
        late = h.links.late;
        written = h.links.written;
      };
      receives = h.receives;
      hears_am = h.hears_am;
      key = h.key;
      places = h.places;
      few = h.few;
      passed = h.passed;
      told = h.told;
    }

-- ---- an SDU goes up

first_then : (xs : List (List ℕ)) → take 1 xs ++ drop 1 xs ≡ xs
first_then [] = refl
first_then (x ∷ xs) = refl

pub raise_sound : (bits : ℕ) (f : Flow) → IsSound bits f → IsSound bits (happens f Raise)
raise_sound bits f h = record {
  width = h.width;
  sends = h.sends;
  links = h.links;
  receives = record {
    least = h.receives.least;
    held_is = h.receives.held_is;
    sdu_is = h.receives.sdu_is;
    up_is = append_assoc f.up (take 1 f.receiver.ready) (drop 1 f.receiver.ready)
        ∙ ap (λ l. f.up ++ l) (first_then f.receiver.ready) ∙ h.receives.up_is;
    ends = h.receives.ends;
  };
  hears_am = h.hears_am;
  key = h.key;
  places = h.places;
  few = h.few;
  passed = h.passed;
  told = h.told;
}

-- ---- the next in sequence is handed up

pub drop_at : (os : List Next) (k : ℕ) (x : Next) → slice_get os k ≡ Some x → drop k os ≡ x ∷ drop (k + 1) os
drop_at [] k x e = let no : None ≡ Some x = e in cc
drop_at (y ∷ os) zero x e = let some : Some y ≡ Some x = e in let same : y ≡ x = cc in ap (λ z. z ∷ os) same
drop_at (y ∷ os) (suc k) x e = let one : suc k + 1 ≡ suc (k + 1) = omega arith in
    drop_at os k x e ∙ ap (λ n. x ∷ drop n (y ∷ os)) (sym one)

take_at : (os : List Next) (k : ℕ) (x : Next) → slice_get os k ≡ Some x → take (k + 1) os ≡ take k os ++ x ∷ []
take_at [] k x e = let no : None ≡ Some x = e in cc
take_at (y ∷ os) zero x e = let some : Some y ≡ Some x = e in let same : y ≡ x = cc in ap (λ z. z ∷ []) same
take_at (y ∷ os) (suc k) x e = let one : suc k + 1 ≡ suc (k + 1) = omega arith in
    ap (λ n. take n (y ∷ os)) one ∙ ap (λ l. y ∷ l) (take_at os k x e)

get_below : (os : List Next) (k : ℕ) (x : Next) → slice_get os k ≡ Some x → k + 1 ≤ length os
get_below [] k x e = let no : None ≡ Some x = e in cc
get_below (y ∷ os) zero x e = omega arith
get_below (y ∷ os) (suc k) x e = omega (arith, get_below os k x e)

front_counts : (os : List Next) (k : ℕ) (x : Next) (n : ℕ) → slice_get os k ≡ Some x
    → among (counts (take (k + 1) os)) n ≡ among (counts (take k os)) n || among (counts_in x.count ++ []) n
front_counts os k x n e = ap (λ l. among (counts l) n) (take_at os k x e)
    ∙ ap (λ l. among l n) (counts_more (take k os) (x ∷ []))
    ∙ among_more (counts (take k os)) (counts_in x.count ++ []) n

-- a status report
report_links : (bits first : ℕ) (sdus : List (List ℕ)) (s : State) (handed whole : ℕ
    → Bool) (k : ℕ) (x : Next) (os : List Next) → x.count ≡ None → Links bits first sdus s handed whole k (x ∷ os)
    → Links bits first sdus s handed whole (k + 1) os
report_links bits first sdus s handed whole k x os e h =
    let line : rest (x ∷ os) s ≡ rest os s = line_of x os s ∙ ap (λ q. counts_in q ++ rest os s) e in
    let none : (n : ℕ) → has x.count n ≡ false = λ n. ap (λ q. has q n) e in
    record {
      within = h.within;
      order = subst (λ l. AreBetween 0 l s.next) line h.order;
      covered = λ n a b. subst (λ l. handed n || among l n ≡ true) line (h.covered n a b);
      opens = λ n a b. grind (arith, nat_tests, h.opens n a b, none n);
      floor = λ n a b. grind (arith, nat_tests, h.floor n a b, none n);
      late = λ n c q i. h.late n c q (subst (λ l. among l c ≡ true) (sym line) i);
      written = h.written.1;
    }

pass_report : (bits : ℕ) (f : Flow) (x : Next) → slice_get f.stream f.passed ≡ Some x → x.count ≡ None
    → Links bits f.first f.sdus f.sender f.handed f.whole f.passed (x ∷ drop (f.passed + 1) f.stream) → IsSound bits f
    → IsSound bits (passes (Some x) f)
pass_report bits f x e none links h =
    let report : IsReport f.sender.kind x.octets =
    subst (λ q. IsWritten f.first f.sdus f.sender.kind f.sender.protection q x.octets) none links.written.0 in
    let same : arrived f.receiver x.octets Arrived ≡ f.receiver =
    report_ignored f.receiver f.sender.kind x.octets Arrived (h.hears_am ∙ sym h.sends.am) report in
    let here : IsSound bits (record f { passed = f.passed + 1 }) = record {
      width = h.width;
      sends = h.sends;
      links = report_links bits f.first f.sdus f.sender f.handed f.whole f.passed x (drop (f.passed + 1) f.stream)
          none links;
      receives = h.receives;
      hears_am = h.hears_am;
      key = h.key;
      places = h.places;
      few = get_below f.stream f.passed x e;
      passed =
          λ n q. h.passed n
          (none_more (among (counts (take f.passed f.stream)) n) (among (counts_in x.count ++ []) n)
          (ap (λ c. among (counts_in c ++ []) n) none) (sym (front_counts f.stream f.passed x n e) ∙ q));
      told = h.told;
    } in
    subst
    (λ q. IsSound bits (record f {
      receiver = arrived f.receiver x.octets Arrived;
      passed = f.passed + 1;
      handed = with_count q f.handed;
    })) (sym none)
    (subst (λ r. IsSound bits (record f { receiver = r; passed = f.passed + 1 })) (sym same) here)
  where
    none_more : (a b : Bool) → b ≡ false → a || b ≡ true → a ≡ true
    none_more true b e q = refl
    none_more false b e q = sym e ∙ q

-- an SDU
data_links : (bits first : ℕ) (sdus : List (List ℕ)) (s : State) (handed whole : ℕ
    → Bool) (k : ℕ) (x : Next) (os : List Next) (c : ℕ) → x.count ≡ Some c
    → Links bits first sdus s handed whole k (x ∷ os)
    → Links bits first sdus s (with_count (Some c) handed) whole (k + 1) os
data_links bits first sdus s handed whole k x os c e h =
    let front = front_pass bits first sdus s handed whole k x os c e
    (front_of bits first sdus s handed whole k (x ∷ os) h) in
    let line : (n : ℕ) → among (rest (x ∷ os) s) n ≡ n == c || among (rest os s) n =
    λ n. ap (λ l. among l n) (line_at x os s c e) in
    let here : (n : ℕ) → has x.count n ≡ (n == c) = λ n. ap (λ q. has q n) e in
    record {
      within = front.within;
      order = front.order;
      covered = λ n a b. grind (arith, nat_tests, h.covered n a b, line n);
      opens = λ n a b. grind (arith, nat_tests, h.opens n a b, here n);
      floor = front.floor;
      late = front.late;
      written = front.written;
    }

-- all below it has come
next_is : (bits : ℕ) (f : Flow) (x : Next) (c : ℕ) → x.count ≡ Some c
    → Links bits f.first f.sdus f.sender f.handed f.whole f.passed (x ∷ drop (f.passed + 1) f.stream)
    → Receives f.first f.sdus f.handed f.up f.receiver → c - f.receiver.next ≡ 0
next_is bits f x c e links h = ⊎_elim
    (λ (l : f.receiver.next < c).
    let os = drop (f.passed + 1) f.stream in
    let order : AreBetween 0 (c ∷ rest os f.sender) f.sender.next =
    subst (λ l. AreBetween 0 l f.sender.next) (line_at x os f.sender c e) links.order in
    let line : among (rest (x ∷ os) f.sender) f.receiver.next ≡ f.receiver.next == c
    || among (rest os f.sender) f.receiver.next = ap (λ l. among l f.receiver.next) (line_at x os f.sender c e) in
    let below : c < f.sender.next = between_under c (rest os f.sender) f.sender.next order in
    let got = links.covered f.receiver.next h.least.from (omega (arith, below)) in
    let after : among (rest os f.sender) f.receiver.next ≡ true → c + 1 ≤ f.receiver.next =
    between_from (c + 1) (rest os f.sender) f.sender.next f.receiver.next order.1 in
    let refused = h.least.refused in
    absurd (grind (arith, nat_tests)))
    (λ (l : c ≤ f.receiver.next). omega arith)
    (cases_lt f.receiver.next c)
  where
    between_under : (c : ℕ) (l : List ℕ) (end : ℕ) → AreBetween 0 (c ∷ l) end → c < end
    between_under c l end h = omega (arith, between_last (c + 1) l end h.1)
      where
        between_last : (low : ℕ) (xs : List ℕ) (end : ℕ) → AreBetween low xs end → low ≤ end
        between_last low [] end h = h
        between_last low (x ∷ xs) end h = omega (arith, h.0, between_last (x + 1) xs end h.1)

pass_data : (bits : ℕ) (f : Flow) (x : Next) (c : ℕ) → slice_get f.stream f.passed ≡ Some x → x.count ≡ Some c
    → Links bits f.first f.sdus f.sender f.handed f.whole f.passed (x ∷ drop (f.passed + 1) f.stream) → IsSound bits f
    → IsSound bits (passes (Some x) f)
pass_data bits f x c e some links h =
    let os = drop (f.passed + 1) f.stream in
    let front = front_of bits f.first f.sdus f.sender f.handed f.whole f.passed (x ∷ os) links in
    subst
    (λ q. IsSound bits (record f {
      receiver = arrived f.receiver x.octets Arrived;
      passed = f.passed + 1;
      handed = with_count q f.handed;
    })) (sym some)
    (record {
      width = h.width;
      sends = h.sends;
      links = data_links bits f.first f.sdus f.sender f.handed f.whole f.passed x os c some links;
      receives = head_receives bits f.first f.sdus f.sender f.handed f.whole f.passed x os c f.up f.receiver Arrived
          h.width h.sends.am h.hears_am h.key h.sends.near (omega (arith, h.sends.room)) some
          (next_is bits f x c some links h.receives) front h.receives;
      hears_am = arrived_kind f.receiver x.octets Arrived ∙ h.hears_am;
      key = arrived_key f.receiver x.octets Arrived ∙ h.key;
      places = h.places;
      few = get_below f.stream f.passed x e;
      passed = λ n q. one_more (among (counts (take f.passed f.stream)) n) (n == c) (f.handed n) (h.passed n)
          (sym (ap (λ b. among (counts (take f.passed f.stream)) n || b) (ap (λ d. among (counts_in d ++ []) n) some))
          ∙ sym (front_counts f.stream f.passed x n e) ∙ q);
      told = λ fms bitmap from n a b t l. or_more (n == c) (f.handed n) (h.told fms bitmap from n a b t l);
    })
  where
    one_more : (a b d : Bool) → (a ≡ true → d ≡ true) → a || (b || false) ≡ true → b || d ≡ true
    one_more a true d f q = refl
    one_more true false d f q = f refl
    one_more false false d f q = absurd cc

    or_more : (a b : Bool) → b ≡ true → a || b ≡ true
    or_more true b q = refl
    or_more false b q = q

by_count : (bits : ℕ) (f : Flow) (x : Next) (o : Option ℕ) → x.count ≡ o → slice_get f.stream f.passed ≡ Some x
    → Links bits f.first f.sdus f.sender f.handed f.whole f.passed (x ∷ drop (f.passed + 1) f.stream) → IsSound bits f
    → IsSound bits (passes (Some x) f)
by_count bits f x None c e links h = pass_report bits f x e c links h
by_count bits f x (Some n) c e links h = pass_data bits f x n e c links h

by_place : (bits : ℕ) (f : Flow) (o : Option Next) → slice_get f.stream f.passed ≡ o → IsSound bits f
    → IsSound bits (passes o f)
by_place bits f None e h = h
by_place bits f (Some x) e h =
    by_count bits f x x.count refl e
    (subst (Links bits f.first f.sdus f.sender f.handed f.whole f.passed) (drop_at f.stream f.passed x e) h.links) h

pub hand_up_sound : (bits : ℕ) (f : Flow) → IsSound bits f → IsSound bits (happens f HandUp)
hand_up_sound bits f h = by_place bits f (slice_get f.stream f.passed) refl h
