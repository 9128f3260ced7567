-- What goes up is all that is in sequence.
use Rattle.std.proofs.Common.{◌≡◌, ◌<◌, ◌≤◌, inl, inr, ℕ, suc, zero, ◌+◌, Bool, true, false, ◌&&◌, if◌then◌else◌, List}
use Rattle.std.proofs.Common.{[], ◌∷◌, ◌++◌, length, map, take, drop, Option, Some, None, refl, ap, sym, subst, ◌∙◌}
use Rattle.std.proofs.Common.{arith, append_assoc}
use Rattle.std.proofs.lemmas.Bool.{cases_lt, lt-ltb, le-ltb}
use Rattle.std.proofs.lemmas.List.{append-nil, take-append-drop, length-take, length-drop}
use Rattle.rlc_am_rx_window.specs.Cells.{Cell, leading}
use Rattle.rlc_am_rx_window.specs.Held.{Held, is_complete, is_full}
use Rattle.rlc_am_rx_window.specs.Joined.{empty, joined}
use Rattle.rlc_am_rx_window.specs.Window.{top, slot_at}
use Rattle.rlc_am_rx.specs.State.{State}
use Rattle.law_rlc.specs.AmReceiver.Run.{place_has_come, begin}
use Rattle.law_rlc.specs.AmReceiver.Finish.{Place, marked, places, cut, all_come, octets_of, arrived_in}
use Rattle.law_rlc.specs.AmReceiver.Stream.{flow, initial, stream, stream_to, somes, IsInSequence}
use Rattle.law_rlc.proofs.AmReceiver.Least.{Keeps, run-keeps, fresh-keeps}
use Rattle.law_rlc.proofs.AmReceiver.Places.{there, each-holds}
use Rattle.law_rlc.proofs.AmReceiver.InSequence.{SlotFits, Flows, somes_append, in_sequence as comes_in_sequence}
use Rattle.law_rlc.specs.AmPair.Flow.{Flow, sender, receiver}
use Rattle.law_rlc.specs.AmPair.Fields.{field_of}
use Rattle.law_rlc.specs.AmPair.Sdus.{handed_up, ready}
use Rattle.law_rlc.specs.AmPair.Seen.{seen, in_sequence}
use Rattle.law_rlc.proofs.AmPair.Sound.{IsSound}
use Rattle.law_rlc.proofs.AmPair.Fields.{sent-field, are-fields}
use Rattle.law_rlc.proofs.AmPair.Sdus.{heard-flows, heard-state, given-none}
use Rattle.law_rlc.proofs.AmPair.Finished.{as_sent, sent-append, marked-sent, places-sent, cut-ready}
use Rattle.law_rlc.proofs.AmPair.Covered.{from_number, places-from}

-- ---- SDUs of places that have arrived, up to one that hasn't

-- the first place hasn't arrived, if there is one
abbrev Stops : List Place → Type 0
Stops [] = Unit {0}
Stops (q ∷ qs) = q.come ≡ false

pub come-push : (ps : List Place) (p : Place) → all_come (ps ++ p ∷ []) ≡ (all_come ps && p.come)
come-push [] p = and-true p.come
  where
    and-true : (b : Bool) → (b && true) ≡ b
    and-true true = refl
    and-true false = refl
come-push (q ∷ qs) p = ap (λ (b : Bool). q.come && b) (come-push qs p) ∙ sym (and-assoc q.come (all_come qs) p.come)
  where
    and-assoc : (a b c : Bool) → ((a && b) && c) ≡ (a && (b && c))
    and-assoc true b c = refl
    and-assoc false b c = refl

and-false : (b : Bool) → (b && false) ≡ false
and-false true = refl
and-false false = refl

-- behind an SDU that lacks an octet nothing is in sequence
none-behind : (qs current : List Place) → all_come current ≡ false → in_sequence (cut current qs) ≡ []
none-behind [] current e = refl
none-behind (q ∷ qs) current e = by q.cell.ends (none-behind qs (current ++ q ∷ []) lacks)
  where
    lacks : all_come (current ++ q ∷ []) ≡ false
    lacks = come-push current q ∙ ap (λ (b : Bool). b && q.come) e

    by : (b : Bool) → in_sequence (cut (current ++ q ∷ []) qs) ≡ []
        → in_sequence (if b then (current ++ q ∷ []) ∷ cut [] qs else cut (current ++ q ∷ []) qs) ≡ []
    by true on = ap (λ (b : Bool). if b then octets_of (current ++ q ∷ []) ∷ in_sequence (cut [] qs) else []) lacks
    by false on = on

stops-here : (qs current : List Place) → Stops qs → in_sequence (cut current qs) ≡ []
stops-here [] current s = refl
stops-here (q ∷ qs) current s = by q.cell.ends (none-behind qs (current ++ q ∷ []) lacks)
  where
    lacks : all_come (current ++ q ∷ []) ≡ false
    lacks = come-push current q ∙ (ap (λ (b : Bool). all_come current && b) s ∙ and-false (all_come current))

    by : (b : Bool) → in_sequence (cut (current ++ q ∷ []) qs) ≡ []
        → in_sequence (if b then (current ++ q ∷ []) ∷ cut [] qs else cut (current ++ q ∷ []) qs) ≡ []
    by true on = ap (λ (b : Bool). if b then octets_of (current ++ q ∷ []) ∷ in_sequence (cut [] qs) else []) lacks
    by false on = on

front-come : (ps qs current : List Place) → all_come ps ≡ true → all_come current ≡ true → Stops qs
    → in_sequence (cut current (ps ++ qs)) ≡ map octets_of (cut current ps)
front-come [] qs current a c s = stops-here qs current s
front-come (p ∷ ps) qs current a c s =
    by p.cell.ends (front-come ps qs [] rest refl s) (front-come ps qs (current ++ p ∷ []) rest whole s)
  where
    both : (a b : Bool) → (a && b) ≡ true → (a ≡ true) × (b ≡ true)
    both true true e = (refl, refl)
    both true false e = cc
    both false b e = cc

    rest : all_come ps ≡ true
    rest = (both p.come (all_come ps) a).1

    whole : all_come (current ++ p ∷ []) ≡ true
    whole = let here = (both p.come (all_come ps) a).0 in come-push current p ∙ rw (c, here) refl

    by : (b : Bool) → in_sequence (cut [] (ps ++ qs)) ≡ map octets_of (cut [] ps)
        → in_sequence (cut (current ++ p ∷ []) (ps ++ qs)) ≡ map octets_of (cut (current ++ p ∷ []) ps)
        → in_sequence (if b then (current ++ p ∷ []) ∷ cut [] (ps ++ qs) else cut (current ++ p ∷ []) (ps ++ qs))
        ≡ map octets_of (if b then (current ++ p ∷ []) ∷ cut [] ps else cut (current ++ p ∷ []) ps)
    by true ended on =
        ap (λ (b : Bool). if b then octets_of (current ++ p ∷ []) ∷ in_sequence (cut [] (ps ++ qs)) else []) whole
        ∙ ap (λ (xs : List (List ℕ)). octets_of (current ++ p ∷ []) ∷ xs) ended
    by false ended on = on

-- ---- the places of a flow

marked-append : (xs ys : List Cell) (come : ℕ → Bool) (i : ℕ)
    → marked (xs ++ ys) come i ≡ marked xs come i ++ marked ys come (i + length xs)
marked-append [] ys come i = let e : i ≡ i + 0 = omega arith in ap (λ (n : ℕ). marked ys come n) e
marked-append (x ∷ xs) ys come i =
    let e : i + 1 + length xs ≡ i + suc (length xs) = omega arith in
    ap (λ (ps : List Place). record { cell = x; come = come i } ∷ ps)
    (marked-append xs ys come (i + 1) ∙ ap (λ (n : ℕ). marked xs come (i + 1) ++ marked ys come n) e)

come-append : (ps qs : List Place) → all_come ps ≡ true → all_come qs ≡ true → all_come (ps ++ qs) ≡ true
come-append [] qs a b = b
come-append (p ∷ ps) qs a b = by p.come (all_come ps) a (λ e. come-append ps qs e b)
  where
    by : (x y : Bool) → (x && y) ≡ true → (y ≡ true → all_come (ps ++ qs) ≡ true) → (x && all_come (ps ++ qs)) ≡ true
    by true true e rest = rest refl
    by true false e rest = cc
    by false y e rest = cc

marked-come : (xs : List Cell) (come : ℕ → Bool) (i : ℕ) → ((j : ℕ) → i ≤ j → j < i + length xs → come j ≡ true)
    → all_come (marked xs come i) ≡ true
marked-come [] come i h = refl
marked-come (x ∷ xs) come i h =
    let here : come i ≡ true = h i (omega arith) (omega arith) in
    let rest = marked-come xs come (i + 1) (λ j a b. h j (omega arith) (omega arith)) in rw (here, rest) refl

places-come : (field : ℕ → List Cell) (come : ℕ → ℕ → Bool) (n : ℕ) → ((m i : ℕ) → m < n → come m i ≡ true)
    → all_come (places field come n) ≡ true
places-come field come zero h = refl
places-come field come (suc n) h =
    come-append (places field come n) (marked (field n) (come n) 0)
    (places-come field come n (λ m i lt. h m i (omega arith)))
    (marked-come (field n) (come n) 0 (λ j a b. h n j (omega arith)))

stops-front : (xs : List Cell) (come : ℕ → Bool) (i : ℕ) (more : List Place) → 0 < length xs → come i ≡ false
    → Stops (marked xs come i ++ more)
stops-front [] come i more some e = absurd (omega arith)
stops-front (x ∷ xs) come i more some e = e

-- an octet that stands first in what is held
lead-there : (cells : List (Option Cell)) (i : ℕ) → i < length (leading cells) → there cells i ≡ true
lead-there [] i lt = absurd (omega arith)
lead-there (None ∷ cs) i lt = absurd (omega arith)
lead-there (Some c ∷ cs) zero lt = refl
lead-there (Some c ∷ cs) (suc i) lt = lead-there cs i (omega arith)

lead-stop : (cells : List (Option Cell)) → there cells (length (leading cells)) ≡ false
lead-stop [] = refl
lead-stop (None ∷ cs) = refl
lead-stop (Some c ∷ cs) = lead-stop cs

lead-few : (cells : List (Option Cell)) → length (leading cells) ≤ length cells
lead-few [] = omega arith
lead-few (None ∷ cs) = omega arith
lead-few (Some c ∷ cs) = let ih = lead-few cs in omega (arith, ih)

-- not all of a field that isn't complete stands first
not-full : (h : Held) (field : List Cell) → SlotFits h field → is_complete h ≡ false
    → length (leading h.cells) < length field
not-full h field fits part = elim (cases_lt (length (leading h.cells)) (length field)) [
  | inl lt ↦ lt
  | inr ge ↦ let few = lead-few h.cells in absurd (by h.size refl (λ e. fits.size e) ge (omega (arith, few, ge)))
]
  where
    by : (o : Option ℕ) → h.size ≡ o → ((n : ℕ) → h.size ≡ Some n → n ≡ length field)
        → length field ≤ length (leading h.cells) → length field ≤ length h.cells → ⊥
    by None e size ge long = let s = fits.short e in omega (arith, s, long)
    by (Some n) e size ge long =
        let is : n ≡ length field = size n e in
        let full : is_full h.cells (Some n) ≡ true =
        each-holds h.cells n (λ i lt. lead-there h.cells i (omega (arith, lt, is, ge))) in
        let no' : true ≡ false = sym full ∙ (sym (ap (λ (o : Option ℕ). is_full h.cells o) e) ∙ part) in cc

pub goes-up-in-sequence : (f : Flow) → IsSound f → handed_up f ++ ready f ≡ in_sequence (seen f)
goes-up-in-sequence f h =
    q.sdus
    ∙ (ap (λ (s : State). (joined empty (somes (stream_to field s.window.front s.window.given))).ready)
    (heard-state f) ∙ by (length slots) refl)
  where
    field : ℕ → List Cell
    field = field_of (sender f).past.sent

    front : ℕ
    front = (receiver f).state.window.front

    given : ℕ
    given = (receiver f).state.window.given

    slots : List Held
    slots = (receiver f).state.window.slots

    come : ℕ → ℕ → Bool
    come = arrived_in (receiver f)

    q : IsInSequence field (flow f.heard (initial f.receiving))
    q = comes_in_sequence field f.receiving f.heard (are-fields (sender f).past.sent h.aired)
        (h.honest field (sent-field (sender f).past.sent))

    g : Flows field (record { state = (receiver f).state; gone = (flow f.heard (initial f.receiving)).gone })
    g = subst (λ (s : State). Flows field (record { state = s; gone = (flow f.heard (initial f.receiving)).gone }))
        (heard-state f) (let k = heard-flows f h in record { fits = k.fits; given = k.given; total = k.total })

    keeps : Keeps (receiver f)
    keeps = run-keeps f.heard (begin f.receiving) (fresh-keeps f.receiving)

    before : (m i : ℕ) → m < front → come m i ≡ true
    before m i lt = rw (lt-ltb m front lt) refl

    here : (i : ℕ) → come front i ≡ there (slot_at slots 0).cells i
    here i = let z : front + 0 ≡ front = omega arith in
        rw (le-ltb front front (omega arith)) (ap (λ (n : ℕ). place_has_come (receiver f).kept n i) (sym z)
        ∙ sym ((keeps.agrees.slots_match 0).cells i))

    -- the places that have arrived, and those behind them
    split : (ps qs : List Place) → places field come (top (receiver f).state.window) ≡ ps ++ qs
        → as_sent ps ≡ somes (stream_to field front given) → all_come ps ≡ true → Stops qs
        → (joined empty (somes (stream_to field front given))).ready ≡ in_sequence (seen f)
    split ps qs e sent a s =
        ap (λ (cs : List (Option Cell)). (joined empty cs).ready) (sym sent)
        ∙ (cut-ready ps [] []
        ∙ (sym (front-come ps qs [] a refl s) ∙ ap (λ (rs : List Place). in_sequence (cut [] rs)) (sym e)))

    in' : (m : ℕ) → length slots ≡ suc m → (joined empty (somes (stream_to field front given))).ready
        ≡ in_sequence (seen f)
    in' m long =
        let have : List Cell = take given (field front) in
        let few : length (leading (slot_at slots 0).cells) < length (field front) =
        let z : front + 0 ≡ front = omega arith in
        subst (λ (n : ℕ). length (leading (slot_at slots 0).cells) < length (field n)) z
        (not-full (slot_at slots 0) (field (front + 0)) (g.fits 0) keeps.stops) in
        let lead : given ≡ length (leading (slot_at slots 0).cells) = g.given in
        let count : length (take given (field front)) ≡ given = let l = length-take given (field front) in
        omega (arith, l, lead, few) in
        let at : 0 + length (take given (field front)) ≡ given = omega (arith, count) in
        let t : top (receiver f).state.window ≡ front + suc m = omega (arith, long) in
        let own : marked (field front) (come front) 0 ≡ marked (take given (field front)) (come front) 0
        ++ marked (drop given (field front)) (come front) (0 + length (take given (field front))) =
        ap (λ (cs : List Cell). marked cs (come front) 0) (sym (take-append-drop given (field front)))
        ∙ marked-append (take given (field front)) (drop given (field front)) (come front) 0 in
        split
        (places field come front ++ marked (take given (field front)) (come front) 0)
        (marked (drop given (field front)) (come front) (0 + length (take given (field front)))
        ++ from_number field come (front + 1) m)
        (ap (λ (n : ℕ). places field come n) t
        ∙ (places-from field come front (suc m)
        ∙ (ap (λ (ps : List Place). places field come front ++ (ps ++ from_number field come (front + 1) m)) own
        ∙ (ap (λ (ps : List Place). places field come front ++ ps)
        (append_assoc (marked (take given (field front)) (come front) 0)
        (marked (drop given (field front)) (come front) (0 + length (take given (field front))))
        (from_number field come (front + 1) m))
        ∙ sym (append_assoc (places field come front) (marked (take given (field front)) (come front) 0)
        (marked (drop given (field front)) (come front) (0 + length (take given (field front)))
        ++ from_number field come (front + 1) m))))))
        (sent-append (places field come front) (marked (take given (field front)) (come front) 0)
        ∙ (ap (λ (cs : List (Option Cell)). cs ++ as_sent (marked (take given (field front)) (come front) 0))
        (places-sent field come front)
        ∙ (ap (λ (cs : List (Option Cell)). somes (stream field front) ++ cs)
        (marked-sent (take given (field front)) (come front) 0)
        ∙ sym (somes_append (stream field front) (take given (field front))))))
        (come-append (places field come front) (marked (take given (field front)) (come front) 0)
        (places-come field come front before)
        (marked-come (take given (field front)) (come front) 0
        (λ j a b. here j ∙ lead-there (slot_at slots 0).cells j (omega (arith, b, count, lead)))))
        (stops-front (drop given (field front)) (come front) (0 + length (take given (field front)))
        (from_number field come (front + 1) m) (let l = length-drop given (field front) in
        omega (arith, l, lead, few))
        (ap (come front) (at ∙ lead)
        ∙ (here (length (leading (slot_at slots 0).cells)) ∙ lead-stop (slot_at slots 0).cells)))

    out : length slots ≡ 0 → (joined empty (somes (stream_to field front given))).ready ≡ in_sequence (seen f)
    out none =
        let z : given ≡ 0 = given-none slots given none g.given in
        let t : top (receiver f).state.window ≡ front = omega (arith, none) in
        split (places field come front) [] (ap (λ (n : ℕ). places field come n) t
        ∙ sym (append-nil (places field come front)))
        (places-sent field come front
        ∙ ap (λ (cs : List Cell). somes cs) (sym (append-nil (stream field front))
        ∙ ap (λ (n : ℕ). stream field front ++ take n (field front)) (sym z)))
        (places-come field come front before) tt

    by : (n : ℕ) → length slots ≡ n → (joined empty (somes (stream_to field front given))).ready ≡ in_sequence (seen f)
    by zero e = out e
    by (suc m) e = in' m e
