-- An SDU all of whose octets lie in acknowledged numbers has arrived.
use Rattle.std.proofs.Common.{◌≡◌, ◌<◌, ◌≤◌, inl, inr, ℕ, suc, zero, ◌+◌, ◌-◌, Bool, true, false, not, ◌||◌, ◌&&◌, ◌==◌}
use Rattle.std.proofs.Common.{if◌then◌else◌, List, [], ◌∷◌, ◌++◌, length, map, take, drop, replicate, slice_index_or}
use Rattle.std.proofs.Common.{refl, ap, sym, subst, ◌∙◌, arith, append_assoc, nat_lt}
use Rattle.std.proofs.lemmas.Bool.Decides.{nat_tests}
use Rattle.std.proofs.lemmas.Bool.{cases_lt, cases_eq, eq-eqb}
use Rattle.std.proofs.lemmas.List.{append-nil, length-take, length-drop, length-map, get_or_past}
use Rattle.rlc_queue.specs.Waiting.{HaveOctets}
use Rattle.law_rlc.specs.AmSender.Octets.{places as places_of}
use Rattle.law_rlc.specs.AmSender.Confirmed.{Confirmations, times, octets_in, is_done}
use Rattle.law_rlc.proofs.AmSender.Books.{marks}
use Rattle.law_rlc.proofs.AmSender.Credits.{times-append}
use Rattle.law_rlc.proofs.AmSender.Confirms.{confirms}
use Rattle.law_rlc.proofs.AmSender.Dealing.{stream as stream_of}
use Rattle.rlc_am_rx_window.specs.Cells.{Cell}
use Rattle.rlc_am_rx_window.specs.Held.{Held, nothing}
use Rattle.rlc_am_rx_window.specs.Window.{top, slot_at}
use Rattle.law_rlc.specs.AmReceiver.Run.{place_has_come, begin}
use Rattle.law_rlc.specs.AmReceiver.Finish.{Place, marked, places, cut, all_come, arrived_in}
use Rattle.law_rlc.specs.AmReceiver.Stream.{stream}
use Rattle.law_rlc.proofs.AmReceiver.Least.{run-keeps, fresh-keeps}
use Rattle.law_rlc.proofs.AmReceiver.Places.{there}
use Rattle.law_rlc.specs.AmPair.Flow.{Flow, sender, receiver}
use Rattle.law_rlc.specs.AmPair.Fields.{cells_of, field_of}
use Rattle.law_rlc.specs.AmPair.Numbers.{is_acked, HasArrived}
use Rattle.law_rlc.specs.AmPair.Sdus.{offered}
use Rattle.law_rlc.specs.AmPair.Seen.{seen}
use Rattle.law_rlc.specs.AmPair.Confirmed.{confirmations, confirmed, Arrives}
use Rattle.law_rlc.proofs.AmPair.Parts.{cells-length}
use Rattle.law_rlc.proofs.AmPair.Sound.{IsSound}
use Rattle.law_rlc.proofs.AmPair.Fields.{sent-field}
use Rattle.law_rlc.proofs.AmPair.Arrived.{has-arrived}
use Rattle.law_rlc.proofs.AmPair.Whole.{together, whole-stream, have-octets}
use Rattle.law_rlc.proofs.AmPair.Sdus.{cells-append, stream-split}
use Rattle.law_rlc.proofs.AmPair.Owners.{lens-at, lens-many, Alike, alike, same-acked, joined_marks, all_marks}
use Rattle.law_rlc.proofs.AmPair.Owners.{flow-marks}

-- ---- the octets with a mark have arrived

abbrev pub Covered : ℕ → List ℕ → List Place → Type 0
Covered p [] qs = Unit {0}
Covered p (o ∷ os) [] = (o ≡ p → ⊥) × Covered p os []
Covered p (o ∷ os) (q ∷ qs) = (o ≡ p → q.come ≡ true) × Covered p os qs

covered-join : (p : ℕ) (os ps : List ℕ) (qs rs : List Place) → length os ≡ length qs → Covered p os qs
    → Covered p ps rs → Covered p (os ++ ps) (qs ++ rs)
covered-join p [] ps [] rs e a b = b
covered-join p [] ps (q ∷ qs) rs e a b = absurd (omega arith)
covered-join p (o ∷ os) ps [] rs e a b = absurd (omega arith)
covered-join p (o ∷ os) ps (q ∷ qs) rs e a b = (a.0, covered-join p os ps qs rs (omega arith) a.1 b)

none-join : (p : ℕ) (os ps : List ℕ) → Covered p os [] → Covered p ps [] → Covered p (os ++ ps) []
none-join p [] ps a b = b
none-join p (o ∷ os) ps a b = (a.0, none-join p os ps a.1 b)

covered-split : (p : ℕ) (os ps : List ℕ) (qs : List Place) → Covered p (os ++ ps) qs
    → Covered p os (take (length os) qs) × Covered p ps (drop (length os) qs)
covered-split p [] ps qs c = (tt, c)
covered-split p (o ∷ os) ps [] c = let r = covered-split p os ps [] c.1 in
    ((c.0, none-take (length os) r.0), none-drop (length os) r.1)
  where
    none-take : (n : ℕ) → Covered p os (take n []) → Covered p os []
    none-take zero h = h
    none-take (suc n) h = h

    none-drop : (n : ℕ) → Covered p ps (drop n []) → Covered p ps []
    none-drop zero h = h
    none-drop (suc n) h = h
covered-split p (o ∷ os) ps (q ∷ qs) c = let r = covered-split p os ps qs c.1 in ((c.0, r.0), r.1)

-- no octet has the mark
covered-none : (p : ℕ) (os : List ℕ) (qs : List Place) → times p os ≡ 0 → Covered p os qs
covered-none p [] qs e = tt
covered-none p (o ∷ os) [] e = by (o == p) refl e (λ z. covered-none p os [] z)
  where
    by : (b : Bool) → (o == p) ≡ b → (if b then 1 else 0) + times p os ≡ 0 → (times p os ≡ 0 → Covered p os [])
        → (o ≡ p → ⊥) × Covered p os []
    by true g h rest = absurd (omega (arith, h))
    by false g h rest = (
      λ s. let t : (o == p) ≡ true = eq-eqb o p s in let no' : true ≡ false = sym t ∙ g in
          cc,
      rest (omega (arith, h)),
    )
covered-none p (o ∷ os) (q ∷ qs) e = by (o == p) refl e (λ z. covered-none p os qs z)
  where
    by : (b : Bool) → (o == p) ≡ b → (if b then 1 else 0) + times p os ≡ 0 → (times p os ≡ 0 → Covered p os qs)
        → (o ≡ p → q.come ≡ true) × Covered p os qs
    by true g h rest = absurd (omega (arith, h))
    by false g h rest = (
      λ s. let t : (o == p) ≡ true = eq-eqb o p s in let no' : true ≡ false = sym t ∙ g in
          cc,
      rest (omega (arith, h)),
    )

-- all octets of a number have arrived
covered-all : (p : ℕ) (os : List ℕ) (cells : List Cell) (come : ℕ → Bool) (i : ℕ) → length os ≡ length cells
    → ((j : ℕ) → i ≤ j → j < i + length cells → come j ≡ true) → Covered p os (marked cells come i)
covered-all p [] [] come i e h = tt
covered-all p [] (c ∷ cs) come i e h = absurd (omega arith)
covered-all p (o ∷ os) [] come i e h = absurd (omega arith)
covered-all p (o ∷ os) (c ∷ cs) come i e h = (
  λ s. h i (omega arith) (omega arith),
  covered-all p os cs come (i + 1) (omega arith) (λ j a b. h j (omega arith) (omega arith)),
)

-- ---- the numbers one after the other

abbrev pub from_number : (ℕ → List Cell) → (ℕ → ℕ → Bool) → ℕ → ℕ → List Place
from_number field come n zero = []
from_number field come n (suc k) = marked (field n) (come n) 0 ++ from_number field come (n + 1) k

pub places-from : (field : ℕ → List Cell) (come : ℕ → ℕ → Bool) (n k : ℕ)
    → places field come (n + k) ≡ places field come n ++ from_number field come n k
places-from field come n zero = let e : n + 0 ≡ n = omega arith in
    ap (λ (m : ℕ). places field come m) e ∙ sym (append-nil (places field come n))
places-from field come n (suc k) =
    let e : n + suc k ≡ n + 1 + k = omega arith in
    let g : n + 1 ≡ suc n = omega arith in
    ap (λ (m : ℕ). places field come m) e
    ∙ (places-from field come (n + 1) k
    ∙ (ap (λ (m : ℕ). places field come m ++ from_number field come (n + 1) k) g
    ∙ append_assoc (places field come n) (marked (field n) (come n) 0) (from_number field come (n + 1) k)))

marked-length : (cells : List Cell) (come : ℕ → Bool) (i : ℕ) → length (marked cells come i) ≡ length cells
marked-length [] come i = refl
marked-length (c ∷ cs) come i = ap suc (marked-length cs come (i + 1))

-- where no octet of an SDU lies in a number that isn't acknowledged, or isn't sent, all have arrived
covered-from : (p : ℕ) (acked : ℕ → Bool) (field : ℕ → List Cell) (come : ℕ → ℕ
    → Bool) (xs : List (List ℕ)) (more : List ℕ) (n k : ℕ)
    → ((m : ℕ) → n ≤ m → acked m ≡ true → (m < n + k) × ((i : ℕ) → i < length (field m) → come m i ≡ true))
    → ((j : ℕ) → j < length xs → length (slice_index_or xs j []) ≡ length (field (n + j)))
    → octets_in (λ m. not (acked m)) n xs p ≡ 0 → times p more ≡ 0 → k ≤ length xs
    → Covered p (joined_marks xs ++ more) (from_number field come n k)
covered-from p acked field come [] more n k all lens zero' none few =
    covered-none p more (from_number field come n k) none
covered-from p acked field come (x ∷ xs) more n k all lens zero' none few =
    subst (λ (os : List ℕ). Covered p os (from_number field come n k)) (sym (append_assoc x (joined_marks xs) more))
    (by k (acked n) refl few (λ e. (all n (omega arith) e))
    (covered-from p acked field come xs more (n + 1) (k - 1) (λ m le e. let r = all m (omega arith) e in
    let lt = r.0 in (omega (arith, lt, le), r.1))
    (λ j lt. let e : n + suc j ≡ n + 1 + j = omega arith in
    lens (suc j) (omega arith) ∙ ap (λ (m : ℕ). length (field m)) e)
    (omega (arith, zero')) none (omega (arith, few))))
  where
    n-is : n + 0 ≡ n
    n-is = omega arith

    long : length x ≡ length (field n)
    long = lens 0 (omega arith) ∙ ap (λ (m : ℕ). length (field m)) n-is

    first : acked n ≡ false → times p x ≡ 0
    first e = let a = ap (λ (b : Bool). if not b then times p x else 0) e in omega (arith, zero', a)

    by : (k : ℕ) (b : Bool) → acked n ≡ b → k ≤ length (x ∷ xs)
        → (acked n ≡ true → (n < n + k) × ((i : ℕ) → i < length (field n) → come n i ≡ true))
        → Covered p (joined_marks xs ++ more) (from_number field come (n + 1) (k - 1))
        → Covered p (x ++ (joined_marks xs ++ more)) (from_number field come n k)
    by zero true e few here rest = let lt = (here e).0 in absurd (omega (arith, lt))
    by zero false e few here rest = none-join p x (joined_marks xs ++ more) (covered-none p x [] (first e)) rest
    by (suc k) true e few here rest =
        let less : suc k - 1 ≡ k = omega arith in
        covered-join p x (joined_marks xs ++ more) (marked (field n) (come n) 0) (from_number field come (n + 1) k)
        (long ∙ sym (marked-length (field n) (come n) 0))
        (covered-all p x (field n) (come n) 0 long (λ j a b. (here e).1 j (omega (arith, b))))
        (subst (λ (m : ℕ). Covered p (joined_marks xs ++ more) (from_number field come (n + 1) m)) less rest)
    by (suc k) false e few here rest =
        let less : suc k - 1 ≡ k = omega arith in
        covered-join p x (joined_marks xs ++ more) (marked (field n) (come n) 0) (from_number field come (n + 1) k)
        (long ∙ sym (marked-length (field n) (come n) 0))
        (covered-none p x (marked (field n) (come n) 0) (first e))
        (subst (λ (m : ℕ). Covered p (joined_marks xs ++ more) (from_number field come (n + 1) m)) less rest)

-- ---- the SDUs of places that are those of the stream, as far as they go

abbrev pub AreOf : List Place → List Cell → Type 0
AreOf [] cs = Unit {0}
AreOf (q ∷ qs) [] = ⊥
AreOf (q ∷ qs) (c ∷ cs) = (q.cell ≡ c) × AreOf qs cs

are-front : (qs : List Place) (cs more : List Cell) → map (λ (q : Place). q.cell) qs ≡ cs → AreOf qs (cs ++ more)
are-front [] cs more e = tt
are-front (q ∷ qs) [] more e = cc
are-front (q ∷ qs) (c ∷ cs) more e = let a : q.cell ≡ c = cc in let b : map (λ (q : Place). q.cell) qs ≡ cs = cc in
    (a, are-front qs cs more b)

are-split : (cs ds : List Cell) (qs : List Place) → AreOf qs (cs ++ ds)
    → AreOf (take (length cs) qs) cs × AreOf (drop (length cs) qs) ds
are-split [] ds qs a = (tt, a)
are-split (c ∷ cs) ds [] a = (tt, tt)
are-split (c ∷ cs) ds (q ∷ qs) a = let r = are-split cs ds qs a.1 in ((a.0, r.0), r.1)

-- the first SDU, where all of it is there
cut-one : (b : Bool) (x : List ℕ) (current qs rs : List Place) → 0 < length x → length qs ≡ length x
    → AreOf qs (cells_of (places_of b x)) → cut current (qs ++ rs) ≡ (current ++ qs) ∷ cut [] rs
cut-one b [] current qs rs some e a = absurd (omega arith)
cut-one b (o ∷ xs) current [] rs some e a = absurd (omega arith)
cut-one b (o ∷ []) current (q ∷ []) rs some e a = let t : q.cell.ends ≡ true = ap (λ (c : Cell). c.ends) a.0 in
    rw t refl
cut-one b (o ∷ []) current (q ∷ r ∷ qs) rs some e a = absurd (omega arith)
cut-one b (o ∷ y ∷ ys) current (q ∷ qs) rs some e a =
    let t : q.cell.ends ≡ false = ap (λ (c : Cell). c.ends) a.0 in
    ap (λ (c : Bool). if c then (current ++ q ∷ []) ∷ cut [] (qs ++ rs) else cut (current ++ q ∷ []) (qs ++ rs)) t
    ∙ (cut-one false (y ∷ ys) (current ++ q ∷ []) qs rs (omega arith) (omega arith) a.1
    ∙ ap (λ (s : List Place). s ∷ cut [] rs) (append_assoc current (q ∷ []) qs))

all-covered : (p : ℕ) (qs : List Place) → Covered p (replicate (length qs) p) qs → all_come qs ≡ true
all-covered p [] c = refl
all-covered p (q ∷ qs) c = let a : q.come ≡ true = c.0 refl in let b = all-covered p qs c.1 in rw (a, b) refl

-- some octet with the mark isn't there
short-covered : (p n : ℕ) (qs : List Place) → length qs < n → Covered p (replicate n p) qs → ⊥
short-covered p zero qs lt c = absurd (omega arith)
short-covered p (suc n) [] lt c = c.0 refl
short-covered p (suc n) (q ∷ qs) lt c = short-covered p n qs (omega arith) c.1

pub record IsThere (sdus : List (List Place)) (k : ℕ) : Type 0 where
  pub ends : k < length sdus
  pub octets : all_come (slice_index_or sdus k []) ≡ true

take-all-drop : (n : ℕ) (qs : List Place) → take n qs ++ drop n qs ≡ qs
take-all-drop zero qs = refl
take-all-drop (suc n) [] = refl
take-all-drop (suc n) (q ∷ qs) = ap (λ (s : List Place). q ∷ s) (take-all-drop n qs)

places-long : (b : Bool) (x : List ℕ) → length (cells_of (places_of b x)) ≡ length x
places-long b [] = refl
places-long b (x ∷ []) = refl
places-long b (x ∷ y ∷ ys) = ap suc (places-long false (y ∷ ys))

replicate-long : (n p : ℕ) → length (replicate n p) ≡ n
replicate-long zero p = refl
replicate-long (suc n) p = ap suc (replicate-long n p)

no-sdus : (qs : List Place) → length qs ≡ 0 → length (cut [] qs) ≡ 0
no-sdus [] e = refl
no-sdus (q ∷ qs) e = absurd (omega arith)

pub sdu-there : (xs : List (List ℕ)) (from k p : ℕ) (qs : List Place) → HaveOctets xs → k < length xs → p ≡ from + k
    → AreOf qs (cells_of (stream_of false xs)) → Covered p (marks from (map length xs)) qs → IsThere (cut [] qs) k
sdu-there [] from k p qs h lt e a c = absurd (omega arith)
sdu-there (x ∷ xs) from k p qs h lt e a c =
    let rest : (j : ℕ) → j < length xs → p ≡ from + 1 + j → IsThere (cut [] (drop (length x) qs)) j =
    λ j below is. sdu-there xs (from + 1) j p (drop (length x) qs) h.1 below is as'.1 cs'.1 in
    elim (cases_lt (length qs) (length x)) [
      | inr enough ↦ subst (λ (s : List (List Place)). IsThere s k) (sym (one enough)) (whole k enough lt e rest)
      | inl short ↦ absurd (lacks k short lt e rest)
    ]
  where
    long : length (cells_of (places_of true x)) ≡ length x
    long = places-long true x

    as' : AreOf (take (length x) qs) (cells_of (places_of true x))
        × AreOf (drop (length x) qs) (cells_of (stream_of false xs))
    as' =
        let r = are-split (cells_of (places_of true x)) (cells_of (stream_of false xs)) qs
        (subst (λ (cs : List Cell). AreOf qs cs) (cells-append (places_of true x) (stream_of false xs)) a) in
        subst (λ (n : ℕ). AreOf (take n qs) (cells_of (places_of true x))
        × AreOf (drop n qs) (cells_of (stream_of false xs))) long r

    cs' : Covered p (replicate (length x) from) (take (length x) qs)
        × Covered p (marks (from + 1) (map length xs)) (drop (length x) qs)
    cs' =
        let r = covered-split p (replicate (length x) from) (marks (from + 1) (map length xs)) qs c in
        subst (λ (n : ℕ). Covered p (replicate (length x) from) (take n qs)
        × Covered p (marks (from + 1) (map length xs)) (drop n qs)) (replicate-long (length x) from) r

    one : length x ≤ length qs → cut [] qs ≡ take (length x) qs ∷ cut [] (drop (length x) qs)
    one enough = ap (λ (s : List Place). cut [] s) (sym (take-all-drop (length x) qs))
        ∙ cut-one true x [] (take (length x) qs) (drop (length x) qs) h.0 (let l = length-take (length x) qs in
        omega (arith, l, enough)) as'.0

    own : p ≡ from + 0 → Covered p (replicate (length x) p) (take (length x) qs)
    own e = let f : from ≡ p = omega (arith, e) in
        subst (λ (n : ℕ). Covered p (replicate (length x) n) (take (length x) qs)) f cs'.0

    whole : (k : ℕ) → length x ≤ length qs → k < length (x ∷ xs) → p ≡ from + k
        → ((j : ℕ) → j < length xs → p ≡ from + 1 + j → IsThere (cut [] (drop (length x) qs)) j)
        → IsThere (take (length x) qs ∷ cut [] (drop (length x) qs)) k
    whole zero enough lt e rest =
        let l = length-take (length x) qs in
        let n : length x ≡ length (take (length x) qs) = omega (arith, l, enough) in
        record {
          ends = omega arith;
          octets =
              all-covered p (take (length x) qs)
              (subst (λ (m : ℕ). Covered p (replicate m p) (take (length x) qs)) n (own e));
        }
    whole (suc k) enough lt e rest = let r = rest k (omega (arith, lt)) (omega (arith, e)) in let b = r.ends in
        record { ends = omega (arith, b); octets = r.octets }

    lacks : (k : ℕ) → length qs < length x → k < length (x ∷ xs) → p ≡ from + k
        → ((j : ℕ) → j < length xs → p ≡ from + 1 + j → IsThere (cut [] (drop (length x) qs)) j) → ⊥
    lacks zero short lt e rest = let l = length-take (length x) qs in
        short-covered p (length x) (take (length x) qs) (omega (arith, l, short)) (own e)
    lacks (suc k) short lt e rest =
        let r = (rest k (omega (arith, lt)) (omega (arith, e))).ends in let d = length-drop (length x) qs in
        let z = no-sdus (drop (length x) qs) (omega (arith, d, short)) in absurd (omega (arith, r, z))

-- ---- along a flow

-- what is acknowledged lies below VR(H), and all its octets have arrived
acked-come : (f : Flow) → IsSound f → (n : ℕ) → is_acked f n ≡ true
    → (n < top (receiver f).state.window)
    × ((i : ℕ) → i < length (field_of (sender f).past.sent n) → arrived_in (receiver f) n i ≡ true)
acked-come f h n a = (
  below,
  λ i lt. or-come (nat_lt n (receiver f).state.window.front) (place_has_come (receiver f).kept n i)
      (r.octets i (omega (arith, lt, long))),
)
  where
    r : HasArrived f n
    r = has-arrived f n h a

    long : length (field_of (sender f).past.sent n) ≡ length (slice_index_or (sender f).past.sent n [])
    long = ap (λ (cs : List Cell). length cs) (sent-field (sender f).past.sent n r.sent)
        ∙ cells-length (slice_index_or (sender f).past.sent n [])

    or-come : (x y : Bool) → y ≡ true → (x || y) ≡ true
    or-come true y e = refl
    or-come false y e = e

    first : place_has_come (receiver f).kept n 0 ≡ true
    first = r.octets 0 (h.aired n r.sent).some

    none-there : (k : ℕ) → length (receiver f).state.window.slots ≤ k
        → there (slot_at (receiver f).state.window.slots k).cells 0 ≡ false
    none-there k le = ap (λ (x : Held). there x.cells 0) (get_or_past (receiver f).state.window.slots k nothing le)

    below : n < top (receiver f).state.window
    below = elim (cases_lt n (top (receiver f).state.window)) [
      | inl lt ↦ lt
      | inr ge ↦
          let front : ℕ = (receiver f).state.window.front in
          let same : (receiver f).state.window.front + (n - (receiver f).state.window.front) ≡ n = omega (arith, ge) in
          let m =
          ((run-keeps f.heard (begin f.receiving) (fresh-keeps f.receiving)).agrees.slots_match
          (n - (receiver f).state.window.front)).cells 0 in
          let here : place_has_come (receiver f).kept
          ((receiver f).state.window.front + (n - (receiver f).state.window.front)) 0 ≡ true =
          ap (λ (k : ℕ). place_has_come (receiver f).kept k 0) same ∙ first in
          let no' : false ≡ true = sym (none-there (n - (receiver f).state.window.front) (omega (arith, ge)))
          ∙ (m ∙ here) in cc
    ]

places-cells : (field : ℕ → List Cell) (come : ℕ → ℕ → Bool) (n : ℕ)
    → map (λ (q : Place). q.cell) (places field come n) ≡ stream field n
places-cells field come zero = refl
places-cells field come (suc n) =
    cells-of (places field come n) (marked (field n) (come n) 0)
    ∙ (ap (λ (cs : List Cell). cs ++ map (λ (q : Place). q.cell) (marked (field n) (come n) 0))
    (places-cells field come n)
    ∙ ap (λ (cs : List Cell). stream field n ++ cs) (marked-cells (field n) (come n) 0))
  where
    cells-of : (qs rs : List Place) → map (λ (q : Place). q.cell) (qs ++ rs)
        ≡ map (λ (q : Place). q.cell) qs ++ map (λ (q : Place). q.cell) rs
    cells-of [] rs = refl
    cells-of (q ∷ qs) rs = ap (λ (cs : List Cell). q.cell ∷ cs) (cells-of qs rs)

    marked-cells : (cells : List Cell) (come : ℕ → Bool) (i : ℕ)
        → map (λ (q : Place). q.cell) (marked cells come i) ≡ cells
    marked-cells [] come i = refl
    marked-cells (c ∷ cs) come i = ap (λ (ds : List Cell). c ∷ ds) (marked-cells cs come (i + 1))

-- the places that are seen are those of the SDUs offered, as far as they go
seen-of : (f : Flow) → IsSound f
    → AreOf (places (field_of (sender f).past.sent) (arrived_in (receiver f)) (top (receiver f).state.window))
    (cells_of (stream_of false (offered f)))
seen-of f h =
    let field : (n : ℕ) → List Cell = field_of (sender f).past.sent in
    let t : ℕ = top (receiver f).state.window in
    let all : cells_of (stream_of false (offered f))
    ≡ stream (field_of (sender f).past.sent) (top (receiver f).state.window)
    ++ (cells_of (together (drop (top (receiver f).state.window) (sender f).past.sent))
    ++ cells_of (sender f).past.unsent) =
    ap cells_of (sym (whole-stream f)) ∙ (cells-append (together (sender f).past.sent) (sender f).past.unsent
    ∙ (ap (λ (cs : List Cell). cs ++ cells_of (sender f).past.unsent)
    (stream-split (sender f).past.sent (field_of (sender f).past.sent) (top (receiver f).state.window)
    (sent-field (sender f).past.sent) h.top)
    ∙ append_assoc (stream (field_of (sender f).past.sent) (top (receiver f).state.window))
    (cells_of (together (drop (top (receiver f).state.window) (sender f).past.sent)))
    (cells_of (sender f).past.unsent))) in
    subst
    (λ (cs : List Cell). AreOf
    (places (field_of (sender f).past.sent) (arrived_in (receiver f)) (top (receiver f).state.window)) cs)
    (sym all)
    (are-front (places (field_of (sender f).past.sent) (arrived_in (receiver f)) (top (receiver f).state.window))
    (stream (field_of (sender f).past.sent) (top (receiver f).state.window))
    (cells_of (together (drop (top (receiver f).state.window) (sender f).past.sent))
    ++ cells_of (sender f).past.unsent)
    (places-cells (field_of (sender f).past.sent) (arrived_in (receiver f)) (top (receiver f).state.window)))

done-parts : (a u z : ℕ) → (nat_lt 0 a && (u + z == 0)) ≡ true → (0 < a) × (u ≡ 0) × (z ≡ 0)
done-parts a u z e = (grind (arith, nat_tests), grind (arith, nat_tests), grind (arith, nat_tests))

-- a mark is that of an SDU that was offered
mark-known : (from : ℕ) (ns : List ℕ) (p : ℕ) → 0 < times p (marks from ns) → (from ≤ p) × (p < from + length ns)
mark-known from [] p h = absurd (omega arith)
mark-known from (n ∷ ns) p h = elim (cases_eq from p) [
  | inl same ↦ (omega (arith, same), omega (arith, same))
  | inr other ↦
      let a = times-append p (replicate n from) (marks (from + 1) ns) in
      let b = others n from p other in
      let r = mark-known (from + 1) ns p (omega (arith, h, a, b)) in
      let c = r.0 in let d = r.1 in (omega (arith, c), omega (arith, d))
]
  where
    others : (n from p : ℕ) → (from ≡ p → ⊥) → times p (replicate n from) ≡ 0
    others zero from p other = refl
    others (suc n) from p other = let t : (from == p) ≡ false = grind (arith, nat_tests, other) in
        let ih = others n from p other in rw t (omega (arith, ih))

all-times : (acked : ℕ → Bool) (n : ℕ) (xs : List (List ℕ)) (p : ℕ) → octets_in acked n xs p ≤ times p (joined_marks xs)
all-times acked n [] p = omega arith
all-times acked n (x ∷ xs) p = by (acked n) (all-times acked (n + 1) xs p) (times-append p x (joined_marks xs))
  where
    by : (b : Bool) → octets_in acked (n + 1) xs p ≤ times p (joined_marks xs)
        → times p (x ++ joined_marks xs) ≡ times p x + times p (joined_marks xs)
        → (if b then times p x else 0) + octets_in acked (n + 1) xs p ≤ times p (x ++ joined_marks xs)
    by true ih a = omega (arith, ih, a)
    by false ih a = omega (arith, ih, a)

pub arrives : (f : Flow) (p : ℕ) → IsSound f → 0 < times p (confirmed f) → Arrives f p
arrives f p h some = let r : IsThere (seen f) p =
    sdu-there (offered f) 0 p p ps (have-octets f.sent h.offered) known (omega arith) (seen-of f h) covered in
    record { ends = r.ends; octets = r.octets }
  where
    g : Confirmations
    g = (confirmations f).past

    field : ℕ → List Cell
    field = field_of (sender f).past.sent

    come : ℕ → ℕ → Bool
    come = arrived_in (receiver f)

    t : ℕ
    t = top (receiver f).state.window

    ps : List Place
    ps = places (field_of (sender f).past.sent) (arrived_in (receiver f)) (top (receiver f).state.window)

    like : Alike (sender f).past (confirmations f).past
    like = alike f

    done : is_done (confirmations f).past p ≡ true
    done = by (is_done (confirmations f).past p) (confirms f.sending f.sent).once
      where
        by : (b : Bool) → ((q : ℕ) → times q (confirmed f) ≡ (if is_done (confirmations f).past q then 1 else 0))
            → is_done (confirmations f).past p ≡ true
        by b once = one (is_done (confirmations f).past p) (once p)
          where
            one : (c : Bool) → times p (confirmed f) ≡ (if c then 1 else 0) → c ≡ true
            one true e = refl
            one false e = absurd (omega (arith, e, some))

    parts : (0 < octets_in g.acked 0 g.sent p) × (octets_in (λ n. not (g.acked n)) 0 g.sent p ≡ 0)
        × (times p g.unsent ≡ 0)
    parts = done-parts (octets_in g.acked 0 g.sent p) (octets_in (λ n. not (g.acked n)) 0 g.sent p) (times p g.unsent)
        done

    known : p < length (offered f)
    known =
        let a = parts.0 in let b = all-times g.acked 0 g.sent p in
        let c = times-append p (joined_marks g.sent) g.unsent in
        let d = ap (λ (ms : List ℕ). times p ms) (flow-marks f) in
        let m = (mark-known 0 (map length (offered f)) p (omega (arith, a, b, c, d))).1 in
        let l = length-map (offered f) (λ (x : List ℕ). length x) in omega (arith, m, l)

    all : (m : ℕ) → 0 ≤ m → g.acked m ≡ true → (m < 0 + t) × ((i : ℕ) → i < length (field m) → come m i ≡ true)
    all m le e =
        let r = acked-come f h m (sym (ap (λ (a : ℕ → Bool). a m) (same-acked f)) ∙ e) in
        let lt = r.0 in (omega (arith, lt), r.1)

    lens : (j : ℕ) → j < length g.sent → length (slice_index_or g.sent j []) ≡ length (field (0 + j))
    lens j lt =
        let z : j ≡ 0 + j = omega arith in
        let n = lens-many g.sent (sender f).past.sent like.sent in
        lens-at g.sent (sender f).past.sent j like.sent lt
        ∙ (sym (cells-length (slice_index_or (sender f).past.sent j []))
        ∙ (sym (ap (λ (cs : List Cell). length cs) (sent-field (sender f).past.sent j (omega (arith, lt, n))))
        ∙ ap (λ (k : ℕ). length (field k)) z))

    from : Covered p (all_marks g) (from_number field come 0 t)
    from = covered-from p g.acked field come g.sent g.unsent 0 t all lens parts.1 parts.2 (let n =
        lens-many g.sent (sender f).past.sent like.sent in let e = h.top in omega (arith, n, e))

    same : from_number field come 0 t ≡ ps
    same = let z : 0 + t ≡ t = omega arith in sym (places-from field come 0 t) ∙ ap (λ (k : ℕ). places field come k) z

    covered : Covered p (marks 0 (map length (offered f))) ps
    covered = subst (λ (os : List ℕ). Covered p os ps) (flow-marks f)
        (subst (λ (qs : List Place). Covered p (all_marks g) qs) same from)
