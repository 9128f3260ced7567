-- A receiver looks at no octet: what is left of it without octets goes on by itself.
use Rattle.std.proofs.Common.{◌≡◌, ℕ, zero, suc, ◌+◌, ◌-◌, ◌*◌, ◌%◌, Bool, true, false, ◌||◌, if◌then◌else◌, nat_lt}
use Rattle.std.proofs.Common.{List, [], ◌∷◌, ◌++◌, length, map, take, drop, replicate, slice_set, Option, Some, None}
use Rattle.std.proofs.Common.{is_some, min, arith, refl, ap, sym, ◌∙◌}
use Rattle.std.proofs.lemmas.List.{take-map, drop-map, length-map, map-append, map-set}
use Rattle.std.proofs.Math.ListN.{get_or-map}
use Rattle.l2_num.specs.Numbers.{ahead}
use Rattle.rlc_pdu.specs.Pdus.{UmdPdu}
use Rattle.rlc_pdu.specs.declared.outcome.Landed.{Landed}
use Rattle.rlc_pdu.specs.declared.outcome.Landed.TheVariants.{Kept, Repeat, Outside, Clash}
use Rattle.rlc_um.specs.Joined.{Parts, parts_of, Joined, opened, finished, left_open, with_element, with_elements}
use Rattle.rlc_um.specs.Joined.{with_number, with_numbers}
use Rattle.rlc_um.specs.Window.{Window, top_of, number_of, leading, slot_at, grown, passed, fallen, placed, with_placed}
use Rattle.rlc_um.specs.Receiver.{State, pass, advanced, landed, mark_left, mark_begun, timed, put, kept, after_landing}
use Rattle.rlc_um.specs.Receiver.{arrival, at_mark, after_expiry, expired, handed, all_joined}
use Rattle.um_losses.specs.Laws.{blanks, blank_slot, blank_part, blank_window, blank_joined, Outline, outline, AreAlike}
use Rattle.um_losses.specs.Laws.{HearAlike}

abbrev blank_parts : Parts → Parts
blank_parts p = record p { elements = blanks p.elements }

abbrev blank_pdu : UmdPdu → UmdPdu
blank_pdu p = record p { elements = blanks p.elements }

-- ---- joining

blank-opened : (begins : Bool) (x : List ℕ) (part : Option (List ℕ))
    → blank_part (opened begins x part) ≡ opened begins [] (blank_part part)
blank-opened true x part = refl
blank-opened false x None = refl
blank-opened false x (Some p) = refl

blank-finished : (ends : Bool) (part : Option (List ℕ)) → blanks (finished ends part) ≡ finished ends (blank_part part)
blank-finished true None = refl
blank-finished true (Some p) = refl
blank-finished false part = refl

blank-left : (ends : Bool) (part : Option (List ℕ))
    → blank_part (left_open ends part) ≡ left_open ends (blank_part part)
blank-left true part = refl
blank-left false part = refl

blank-element : (begins ends : Bool) (x : List ℕ) (j : Joined)
    → blank_joined (with_element begins ends x j) ≡ with_element begins ends [] (blank_joined j)
blank-element begins ends x j =
    let o = opened begins x j.part in
    ap (λ (r : List (List ℕ)). record { ready = r; part = blank_part (left_open ends o) })
    (map-append (λ (octets : List ℕ). []) j.ready (finished ends o)
    ∙ ap (λ (r : List (List ℕ)). blanks j.ready ++ r) (blank-finished ends o))
    ∙ ap (λ (p : Option (List ℕ)). record { ready = blanks j.ready ++ finished ends (blank_part o); part = p })
    (blank-left ends o)
    ∙ ap (λ (p : Option (List ℕ)). record { ready = blanks j.ready ++ finished ends p; part = left_open ends p })
    (blank-opened begins x j.part)

blank-elements : (begins ends : Bool) (xs : List (List ℕ)) (j : Joined)
    → blank_joined (with_elements begins ends xs j) ≡ with_elements begins ends (blanks xs) (blank_joined j)
blank-elements begins ends [] j = refl
blank-elements begins ends (x ∷ xs) j =
    blank-elements true ends xs (with_element begins (ends || nat_lt 0 (length xs)) x j)
    ∙ ap (λ (k : Joined). with_elements true ends (blanks xs) k)
    (blank-element begins (ends || nat_lt 0 (length xs)) x j)
    ∙ ap (λ (n : ℕ). with_elements true ends (blanks xs)
    (with_element begins (ends || nat_lt 0 n) [] (blank_joined j))) (sym (length-map xs (λ (octets : List ℕ). [])))

blank-number : (s : Option Parts) (j : Joined)
    → blank_joined (with_number s j) ≡ with_number (blank_slot s) (blank_joined j)
blank-number None j = refl
blank-number (Some p) j = blank-elements p.begins p.ends p.elements j

pub blank-numbers : (ss : List (Option Parts)) (j : Joined)
    → blank_joined (with_numbers ss j) ≡ with_numbers (map blank_slot ss) (blank_joined j)
blank-numbers [] j = refl
blank-numbers (s ∷ ss) j = blank-numbers ss (with_number s j)
    ∙ ap (λ (k : Joined). with_numbers (map blank_slot ss) k) (blank-number s j)

-- ---- windows

blank-leading : (ss : List (Option Parts)) → leading (map blank_slot ss) ≡ leading ss
blank-leading [] = refl
blank-leading (None ∷ ss) = refl
blank-leading (Some p ∷ ss) = ap (λ (n : ℕ). n + 1) (blank-leading ss)

blank-nones : (n : ℕ) → map blank_slot (replicate n None) ≡ replicate n None
blank-nones zero = refl
blank-nones (suc n) = ap (λ (l : List (Option Parts)). None ∷ l) (blank-nones n)

blank-grown : (ss : List (Option Parts)) (size : ℕ) → map blank_slot (grown ss size) ≡ grown (map blank_slot ss) size
blank-grown ss size =
    map-append blank_slot ss (replicate (size - length ss) None)
    ∙ ap (λ (l : List (Option Parts)). map blank_slot ss ++ l) (blank-nones (size - length ss))
    ∙ ap (λ (n : ℕ). map blank_slot ss ++ replicate (size - n) None) (sym (length-map ss blank_slot))

blank-placed : (ss : List (Option Parts)) (at : ℕ) (p : Parts)
    → map blank_slot (placed ss at p) ≡ placed (map blank_slot ss) at (blank_parts p)
blank-placed ss at p =
    map-set blank_slot (grown ss (at + 1)) at (Some p)
    ∙ ap (λ (l : List (Option Parts)). slice_set l at (Some (blank_parts p))) (blank-grown ss (at + 1))

blank-passed : (n : ℕ) (w : Window) → blank_window (passed n w) ≡ passed n (blank_window w)
blank-passed n w =
    ap (λ (l : List (Option Parts)). record { width = w.width; edge = w.edge + min n (length w.slots); slots = l })
    (sym (drop-map blank_slot n w.slots))
    ∙ ap (λ (k : ℕ). record { width = w.width; edge = w.edge + min n k; slots = drop n (map blank_slot w.slots) })
    (sym (length-map w.slots blank_slot))

blank-top : (w : Window) → top_of (blank_window w) ≡ top_of w
blank-top w = ap (λ (n : ℕ). w.edge + n) (length-map w.slots blank_slot)

is-some : (s : Option Parts) → is_some (blank_slot s) ≡ is_some s
is-some None = refl
is-some (Some p) = refl

blank-slot : (ss : List (Option Parts)) (at : ℕ) → is_some (slot_at (map blank_slot ss) at) ≡ is_some (slot_at ss at)
blank-slot ss at = ap (λ (s : Option Parts). is_some s) (get_or-map blank_slot ss at None) ∙ is-some (slot_at ss at)

-- ---- the steps of a receiver, without octets

abbrev Pass : ℕ → Outline → Outline
Pass n o = record { window = passed n o.window; joined = with_numbers (take n o.window.slots) o.joined; mark = o.mark }

pass-is : (n : ℕ) (s : State) → outline (pass n s) ≡ Pass n (outline s)
pass-is n s =
    ap (λ (w : Window). record {
      window = w;
      joined = blank_joined (with_numbers (take n s.window.slots) s.joined);
      mark = s.mark;
    }) (blank-passed n s.window)
    ∙ ap (λ (j : Joined). record { window = passed n (blank_window s.window); joined = j; mark = s.mark })
    (blank-numbers (take n s.window.slots) s.joined
    ∙ ap (λ (l : List (Option Parts)). with_numbers l (blank_joined s.joined))
    (sym (take-map blank_slot n s.window.slots)))

abbrev Advanced : Outline → Outline
Advanced o = Pass (leading o.window.slots) o

advanced-is : (s : State) → outline (advanced s) ≡ Advanced (outline s)
advanced-is s = pass-is (leading s.window.slots) s
    ∙ ap (λ (n : ℕ). Pass n (outline s)) (sym (blank-leading s.window.slots))

abbrev Put : ℕ → Parts → Outline → Outline
Put at p o =
    record (Pass (fallen o.window at) o) {
      window =
          with_placed (at - fallen o.window at) p (passed (fallen o.window at) o.window);
    }

put-is : (at : ℕ) (p : Parts) (s : State) → outline (put at p s) ≡ Put at (blank_parts p) (outline s)
put-is at p s =
    let f = fallen s.window at in
    ap (λ (l : List (Option Parts)). record (outline (pass f s)) {
      window =
          record (passed f s.window) { slots = l };
    }) (blank-placed (passed f s.window).slots (at - f) p)
    ∙ ap (λ (o : Outline). record o { window = with_placed (at - f) (blank_parts p) o.window }) (pass-is f s)

abbrev Kept-at : ℕ → Parts → Outline → Outline
Kept-at at p o = Advanced (Put at p o)

kept-is : (at : ℕ) (p : Parts) (s : State) → outline (kept at p s) ≡ Kept-at at (blank_parts p) (outline s)
kept-is at p s = advanced-is (put at p s) ∙ ap Advanced (put-is at p s)

abbrev Timed : Outline → Outline
Timed o = record o { mark = mark_begun (mark_left o.mark o.window.edge) o.window.edge (top_of o.window) }

timed-is : (s : State) → outline (timed s) ≡ Timed (outline s)
timed-is s = ap (λ (n : ℕ). record (outline s) { mark = mark_begun (mark_left s.mark s.window.edge) s.window.edge n })
    (sym (blank-top s.window))

-- ---- a PDU arrives

abbrev pub Landed-at : Outline → ℕ → Landed
Landed-at o x = if nat_lt x o.window.edge || is_some (slot_at o.window.slots (x - o.window.edge)) then Repeat else Kept

pub landed-is : (s : State) (x : ℕ) → landed s x ≡ Landed-at (outline s) x
landed-is s x =
    ap (λ (b : Bool). if nat_lt x s.window.edge || b then Repeat else Kept)
    (sym (blank-slot s.window.slots (x - s.window.edge)))

abbrev After : Landed → ℕ → Parts → Outline → Outline
After Kept x p o = Timed (Kept-at (x - o.window.edge) p o)
After Repeat x p o = o
After Outside x p o = o
After Clash x p o = o

after-is : (l : Landed) (x : ℕ) (p : Parts) (s : State)
    → outline (after_landing l x p s) ≡ After l x (blank_parts p) (outline s)
after-is Kept x p s = timed-is (kept (x - s.window.edge) p s) ∙ ap Timed (kept-is (x - s.window.edge) p s)
after-is Repeat x p s = refl
after-is Outside x p s = refl
after-is Clash x p s = refl

abbrev Arrived-at : ℕ → Parts → Outline → Outline
Arrived-at x p o = After (Landed-at o x) x p o

abbrev Arrival : UmdPdu → Outline → Outline
Arrival pdu o = Arrived-at (number_of o.window pdu.sn) (parts_of pdu) o

pub number-is : (w : Window) (sn : ℕ) → number_of w sn ≡ number_of (blank_window w) sn
number-is w sn =
    ap (λ (n : ℕ). n - w.width + ahead sn ((n - w.width) % (2 * w.width)) (2 * w.width)) (sym (blank-top w))

arrival-is : (pdu : UmdPdu) (s : State) → outline (arrival pdu s) ≡ Arrival (blank_pdu pdu) (outline s)
unfolding arrival
arrival-is pdu s =
    let x = number_of s.window pdu.sn in
    after-is (landed s x) x (parts_of pdu) s
    ∙ ap (λ (l : Landed). After l x (parts_of (blank_pdu pdu)) (outline s)) (landed-is s x)
    ∙ ap (λ (n : ℕ). Arrived-at n (parts_of (blank_pdu pdu)) (outline s)) (number-is s.window pdu.sn)

-- ---- the timer expires

abbrev After-expiry : Option ℕ → Outline → Outline
After-expiry None o = o
After-expiry (Some x) o = Timed (record (Advanced (Pass (x - o.window.edge) o)) { mark = None })

expiry-is : (m : Option ℕ) (s : State) → outline (after_expiry m s) ≡ After-expiry m (outline s)
expiry-is None s = refl
expiry-is (Some x) s =
    timed-is (at_mark x s)
    ∙ ap (λ (o : Outline). Timed (record o { mark = None })) (advanced-is (pass (x - s.window.edge) s)
    ∙ ap Advanced (pass-is (x - s.window.edge) s))

expired-is : (s : State) → outline (expired s) ≡ After-expiry s.mark (outline s)
unfolding expired
expired-is s = expiry-is s.mark s

-- ---- the law

blank-same : (xs ys : List (List ℕ)) → length xs ≡ length ys → blanks xs ≡ blanks ys
blank-same [] [] h = refl
blank-same [] (y ∷ ys) h = let no : 0 ≡ suc (length ys) = h in cc
blank-same (x ∷ xs) [] h = let no : suc (length xs) ≡ 0 = h in cc
blank-same (x ∷ xs) (y ∷ ys) h = let less : length xs ≡ length ys = omega (arith, h) in
    ap (λ (l : List (List ℕ)). [] ∷ l) (blank-same xs ys less)

pdu-same : (p q : UmdPdu) → AreAlike p q → blank_pdu p ≡ blank_pdu q
pdu-same p q a =
    ap (λ (n : ℕ). record { sn = n; fi = p.fi; elements = blanks p.elements }) a.sn
    ∙ ap (λ (n : ℕ). record { sn = q.sn; fi = n; elements = blanks p.elements }) a.fi
    ∙ ap (λ (l : List (List ℕ)). record { sn = q.sn; fi = q.fi; elements = l })
    (blank-same p.elements q.elements a.elements)

arrives-alike : (s t : State) → outline s ≡ outline t → (p q : UmdPdu) → AreAlike p q
    → outline (arrival p s) ≡ outline (arrival q t)
arrives-alike s t e p q a =
    arrival-is p s ∙ ap (λ (r : UmdPdu). Arrival r (outline s)) (pdu-same p q a)
    ∙ ap (λ (o : Outline). Arrival (blank_pdu q) o) e ∙ sym (arrival-is q t)

expires-alike : (s t : State) → outline s ≡ outline t → outline (expired s) ≡ outline (expired t)
expires-alike s t e = expired-is s ∙ ap (λ (o : Outline). After-expiry o.mark o) e ∙ sym (expired-is t)

abbrev Handed : Outline → Outline
Handed o = record o { joined = record o.joined { ready = drop 1 o.joined.ready } }

handed-is : (s : State) → outline (handed s) ≡ Handed (outline s)
handed-is s = ap (λ (l : List (List ℕ)). record (outline s) { joined = record (blank_joined s.joined) { ready = l } })
    (sym (drop-map (λ (octets : List ℕ). []) 1 s.joined.ready))

long-as : (xs ys : List (List ℕ)) → blanks xs ≡ blanks ys → length xs ≡ length ys
long-as xs ys e = sym (length-map xs (λ (octets : List ℕ). [])) ∙ ap (λ (l : List (List ℕ)). length l) e
    ∙ length-map ys (λ (octets : List ℕ). [])

ends-alike : (s t : State) → outline s ≡ outline t → length (all_joined s) ≡ length (all_joined t)
unfolding all_joined
ends-alike s t e =
    long-as (with_numbers s.window.slots s.joined).ready (with_numbers t.window.slots t.joined).ready
    (ap (λ (j : Joined). j.ready) (blank-numbers s.window.slots s.joined
    ∙ ap (λ (o : Outline). with_numbers o.window.slots o.joined) e ∙ sym (blank-numbers t.window.slots t.joined)))

pub hear_alike : HearAlike
hear_alike s t e = record {
  arrives = arrives-alike s t e;
  expires = expires-alike s t e;
  ticks = e;
  hands = handed-is s ∙ ap Handed e ∙ sym (handed-is t);
  ready = long-as s.joined.ready t.joined.ready (ap (λ (o : Outline). o.joined.ready) e);
  ends = ends-alike s t e;
}
