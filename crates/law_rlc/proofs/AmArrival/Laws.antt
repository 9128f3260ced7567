-- An SDU has arrived exactly where each of its octets lies in what came.
use Rattle.std.proofs.Common.{◌≡◌, ◌<◌, ◌≤◌, ℕ, zero, suc, ◌+◌, ◌-◌, Bool, false, ◌&&◌, List, [], ◌∷◌, ◌++◌, map}
use Rattle.std.proofs.Common.{length, take, slice_index, slice_index_or, nat_lt, refl, ap, sym, ◌∙◌, arith}
use Rattle.std.proofs.Common.{length-append}
use Rattle.std.proofs.lemmas.List.{append-nil}
use Rattle.law_rlc.specs.AmSender.Octets.{Place as Sent}
use Rattle.law_rlc.proofs.AmSender.Dealing.{stream}
use Rattle.rlc_am_rx_window.specs.Cells.{Cell}
use Rattle.rlc_am_rx_window.specs.Window.{top}
use Rattle.law_rlc.specs.AmReceiver.Finish.{Place, marked, places, cut, arrived_in}
use Rattle.law_rlc.specs.AmPair.Fields.{cells_of, field_of}
use Rattle.law_rlc.specs.AmPair.Flow.{Flow, sender, receiver, goes, am_rlc_outset}
use Rattle.law_rlc.specs.AmPair.Sdus.{offered}
use Rattle.law_rlc.proofs.AmPair.Covered.{from_number, places-from}
use Rattle.law_rlc.proofs.AmPair.Fields.{sent-field}
use Rattle.law_rlc.proofs.AmPair.Laws.{sound}
use Rattle.law_rlc.proofs.AmPair.Parts.{cells-length}
use Rattle.law_rlc.proofs.AmPair.Sound.{IsSound}
use Rattle.law_rlc.proofs.AmPair.Whole.{together, whole-stream, have-octets}
use Rattle.law_words.specs.Stretches.{place_of, octet_has_come, all_from}
use Rattle.law_words.specs.Passing.{Told, nothing_told, with_passings}
use Rattle.law_rlc.specs.AmArrival.Arrival.{passed, ArrivesAsTold, PdusTellWhatArrives}
use Rattle.law_rlc.proofs.AmArrival.Places.{come_covered, none_behind}
use Rattle.law_rlc.proofs.AmArrival.Kept.{kept_is, none_above}
use Rattle.law_rlc.proofs.AmArrival.Telling.{TellsOf, lens_at, steps_tell, first_tells}
use Rattle.law_rlc.proofs.AmArrival.Flat.{is_whole, NoneCome, whole_behind, marked_then, marked_as, marks, cut_stream}
use Rattle.law_rlc.proofs.AmArrival.Flat.{take_past, cells_then}

-- ---- numbers that weren't seen have nothing that has come

none_marked : (cells : List Cell) (come : ℕ → Bool) (i : ℕ) (qs : List Place) → ((j : ℕ) → come j ≡ false)
    → NoneCome qs → NoneCome (marked cells come i ++ qs)
none_marked [] come i qs none h = h
none_marked (c ∷ cs) come i qs none h = (none i, none_marked cs come (i + 1) qs none h)

none_from : (field : ℕ → List Cell) (come : ℕ → ℕ → Bool) (n k : ℕ) → ((m i : ℕ) → n ≤ m → come m i ≡ false)
    → NoneCome (from_number field come n k)
none_from field come n zero none = tt
none_from field come n (suc k) none =
    none_marked (field n) (come n) 0 (from_number field come (n + 1) k) (λ j. none n j (omega arith))
    (none_from field come (n + 1) k (λ m i le. none m i (omega (arith, le))))

-- ---- the fields that were sent, one behind the other

fields_flat : (sent : List (List Sent)) (field : ℕ → List Cell) (come : ℕ → ℕ → Bool) (at : ℕ → Bool) (n i : ℕ)
    → ((j : ℕ) → j < length sent → field (n + j) ≡ cells_of (slice_index_or sent j []))
    → ((j p : ℕ) → j < length sent → p < length (slice_index_or sent j [])
    → come (n + j) p ≡ at (i + place_of (map length sent) j + p))
    → from_number field come n (length sent) ≡ marks (together sent) at i
fields_flat [] field come at n i are same = refl
fields_flat (ps ∷ sent) field come at n i are same =
    let z : n + 0 ≡ n = omega arith in
    let l = cells-length ps in
    let first : field n ≡ cells_of ps = ap field (sym z) ∙ are 0 (omega arith) in
    let here : marked (field n) (come n) 0 ≡ marks ps at i = ap (λ (cs : List Cell). marked cs (come n) 0) first
    ∙ marked_as (cells_of ps) (come n) at 0 i (λ j lt.
    let a : 0 + j ≡ j = omega arith in
    let b : i + 0 + j ≡ i + j = omega arith in
    ap (come n) a ∙ (ap (λ (m : ℕ). come m j) (sym z) ∙ (same 0 j (omega arith) (omega (arith, lt, l)) ∙ ap at b))) in
    let rest : from_number field come (n + 1) (length sent) ≡ marks (together sent) at (i + length ps) =
    fields_flat sent field come at (n + 1) (i + length ps)
    (λ j lt. let e : n + 1 + j ≡ n + suc j = omega arith in ap field e ∙ are (suc j) (omega (arith, lt)))
    (λ j p lt in'.
    let e : n + 1 + j ≡ n + suc j = omega arith in
    let f : i + (length ps + place_of (map length sent) j) + p ≡ i + length ps + place_of (map length sent) j + p =
    omega arith in
    ap (λ (m : ℕ). come m p) e ∙ (same (suc j) p (omega (arith, lt)) in' ∙ ap at f)) in
    ap (λ (qs : List Place). qs ++ from_number field come (n + 1) (length sent)) here
    ∙ (ap (λ (qs : List Place). marks ps at i ++ qs) rest
    ∙ (ap (λ (k : ℕ). marks ps at i ++ marks (together sent) at (i + k)) (sym l)
    ∙ (sym (marked_then (cells_of ps) (cells_of (together sent)) at i)
    ∙ ap (λ (cs : List Cell). marked cs at i) (sym (cells_then ps (together sent))))))

together_long : (sent : List (List Sent))
    → length (together sent) ≡ place_of (map length sent) (length (map length sent))
together_long [] = refl
together_long (ps ∷ sent) = let l = length-append ps (together sent) in let ih = together_long sent in
    omega (arith, l, ih)

-- ---- the law

pub arrives_as_told : (f : Flow) (t : Told) → IsSound f → TellsOf f t → ArrivesAsTold f t
arrives_as_told f t h k place =
    sym (whole_behind (places field come seen) (from_number field come seen (length sent - seen)) [] place
    (none_from field come seen (length sent - seen) (λ m i le. none_above f m i le)))
    ∙ (ap (λ (qs : List Place). is_whole (cut [] qs) place) (sym all ∙ flat)
    ∙ (ap (λ (xs : List Sent). is_whole (cut [] (marks xs at 0)) place) front
    ∙ (cut_stream (offered f) (length (together sent)) at 0 place (have-octets f.sent h.offered) none
    ∙ ap (λ (j : ℕ). nat_lt place (length (map length (offered f)))
    && all_from at j (slice_index (map length (offered f)) place)) start)))
  where
    sent : List (List Sent)
    sent = (sender f).past.sent

    field : ℕ → List Cell
    field = field_of (sender f).past.sent

    come : ℕ → ℕ → Bool
    come = arrived_in (receiver f)

    seen : ℕ
    seen = top (receiver f).state.window

    at : ℕ → Bool
    at = octet_has_come t.fields t.came

    start : 0 + place_of (map length (offered f)) place ≡ place_of (map length (offered f)) place
    start = omega arith

    all : places field come (length sent) ≡ places field come seen ++ from_number field come seen (length sent - seen)
    all = let high = h.top in
        let e : length sent ≡ seen + (length sent - seen) = omega (arith, high) in
        ap (places field come) e ∙ places-from field come seen (length sent - seen)

    lens : length t.fields ≡ length (map length sent)
    lens = ap (λ (l : List ℕ). length l) k.fields

    many : (l : List (List Sent)) → length (map length l) ≡ length l
    many [] = refl
    many (x ∷ l) = ap suc (many l)

    flat : places field come (length sent) ≡ marks (together sent) at 0
    flat =
        let z : length sent ≡ 0 + length sent = omega arith in
        ap (places field come) z ∙ (places-from field come 0 (length sent)
        ∙ fields_flat sent field come at 0 0
        (λ j lt. let e : 0 + j ≡ j = omega arith in ap field e ∙ sent-field sent j lt)
        (λ j p lt in'.
        let e : 0 + j ≡ j = omega arith in
        let m = many sent in
        let s : slice_index t.fields j ≡ length (slice_index_or sent j []) =
        ap (λ (l : List ℕ). slice_index l j) k.fields ∙ lens_at sent j in
        let g : place_of t.fields j + p ≡ 0 + place_of (map length sent) j + p = let q =
        ap (λ (l : List ℕ). place_of l j) k.fields in omega (arith, q) in
        ap (λ (n : ℕ). come n p) e
        ∙ (kept_is f j p h in'
        ∙ (k.same j p lt in'
        ∙ (sym (come_covered t.fields t.came j p k.within (omega (arith, lens, m, lt)) (omega (arith, s, in')))
        ∙ ap at g)))))

    front : together sent ≡ take (length (together sent)) (stream false (offered f))
    front =
        let z : length (together sent) + 0 ≡ length (together sent) = omega arith in
        sym (append-nil (together sent))
        ∙ (sym (take_past (together sent) (sender f).past.unsent 0)
        ∙ (ap (λ (n : ℕ). take n (together sent ++ (sender f).past.unsent)) z
        ∙ ap (λ (xs : List Sent). take (length (together sent)) xs) (whole-stream f)))

    none : (j : ℕ) → 0 + length (together sent) ≤ j → at j ≡ false
    none j le =
        let l = together_long sent in
        let e : place_of t.fields (length t.fields) ≡ place_of (map length sent) (length (map length sent)) =
        ap (λ (x : List ℕ). place_of x (length x)) k.fields in
        none_behind t.fields t.came j k.within (omega (arith, l, e, le))

pub tell_what_arrives : PdusTellWhatArrives
tell_what_arrives sending receiving steps given =
    let f : Flow = am_rlc_outset sending receiving in
    let first : IsSound f = sound sending receiving [] tt in
    arrives_as_told (goes steps f) (with_passings (passed steps f) nothing_told) (sound sending receiving steps given)
    (steps_tell steps f nothing_told given first (first_tells sending receiving))
