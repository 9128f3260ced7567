-- What is joined, beside the row of elements that came or didn't.
use Rattle.std.proofs.Common.{◌≡◌, ◌<◌, ◌≤◌, ℕ, zero, suc, ◌+◌, ◌-◌, ◌*◌, Bool, true, false, ◌||◌, List, [], ◌∷◌, ◌++◌}
use Rattle.std.proofs.Common.{length, take, Option, Some, None, is_some, slice_index_or, refl, ap, sym, subst, ◌∙◌}
use Rattle.std.proofs.Common.{append_assoc, append-nil, arith, nat_lt}
use Rattle.l2_num.specs.Ascending.{AreBetween}
use Rattle.rlc_pdu.specs.Pdus.{UmdPdu, IsUmBits}
use Rattle.rlc_um.specs.Joined.{Parts, parts_of, Joined, nothing_joined, opened, finished, with_element, with_elements}
use Rattle.rlc_um.specs.Joined.{with_number, with_numbers}
use Rattle.rlc_um.specs.Sender.{width_of}
use Rattle.rlc_um.specs.Receiver.{all_joined}
use Rattle.law_rlc.specs.UmPair.Run.{Call, World, Accepted, fresh, run_um_receiver, found, is_accepted, numbers}
use Rattle.law_rlc.specs.UmPair.Run.{joined_below}
use Rattle.law_rlc.specs.UmPair.Send.{Step, Flow, flow, at_first, carried, completed, joined}
use Rattle.law_rlc.specs.UmPair.Air.{AreSent}
use Rattle.law_rlc.specs.UmPair.Which.{Row, nothing_sent, with_element as row_element, with_elements as row_elements}
use Rattle.law_rlc.specs.UmPair.Which.{with_parts, with_pdus, places_below, IsWhatCameToRlc}
use Rattle.law_words.specs.Lists.{those}
use Rattle.law_rlc.proofs.UmPair.Air.{Agrees, shifted, Meets, met, some-numbers}
use Rattle.law_rlc.proofs.UmPair.Edge.{finished_all}
use Rattle.law_rlc.proofs.UmPair.Whole.{whole}

-- ---- places

between_end : (low : ℕ) (xs : List ℕ) (n m : ℕ) → n ≤ m → AreBetween low xs n → AreBetween low xs m
between_end low [] n m l h = omega (arith, l, h)
between_end low (x ∷ xs) n m l h = (h.0, between_end (x + 1) xs n m l h.1)

between_push : (low : ℕ) (xs : List ℕ) (n : ℕ) → AreBetween low xs n → AreBetween low (xs ++ n ∷ []) (n + 1)
between_push low [] n h = (h, omega arith)
between_push low (x ∷ xs) n h = (h.0, between_push (x + 1) xs n h.1)

between_low : (low : ℕ) (xs : List ℕ) (n : ℕ) → AreBetween low xs n → low ≤ n
between_low low [] n h = h
between_low low (x ∷ xs) n h = let more = between_low (x + 1) xs n h.1 in let from = h.0 in omega (arith, more, from)

at_left : (xs ys : List (List ℕ)) (k : ℕ) → k < length xs → slice_index_or (xs ++ ys) k [] ≡ slice_index_or xs k []
at_left [] ys k h = absurd (omega (arith, h))
at_left (x ∷ xs) ys zero h = refl
at_left (x ∷ xs) ys (suc k) h = at_left xs ys k (omega (arith, h))

at_last : (xs : List (List ℕ)) (x : List ℕ) → slice_index_or (xs ++ x ∷ []) (length xs) [] ≡ x
at_last [] x = refl
at_last (y ∷ xs) x = at_last xs x

pub those_left : (low : ℕ) (places : List ℕ) (xs ys : List (List ℕ)) → AreBetween low places (length xs)
    → those places (xs ++ ys) ≡ those places xs
those_left low [] xs ys h = refl
those_left low (p ∷ ps) xs ys h =
    let within = between_low (p + 1) ps (length xs) h.1 in
    ap (λ (x : List ℕ). x ∷ those ps (xs ++ ys)) (at_left xs ys p (omega (arith, within)))
    ∙ ap (λ (l : List (List ℕ)). slice_index_or xs p [] ∷ l) (those_left (p + 1) ps xs ys h.1)

pub those_then : (ps qs : List ℕ) (xs : List (List ℕ)) → those (ps ++ qs) xs ≡ those ps xs ++ those qs xs
those_then [] qs xs = refl
those_then (p ∷ ps) qs xs = ap (λ (l : List (List ℕ)). slice_index_or xs p [] ∷ l) (those_then ps qs xs)

those_push : (places : List ℕ) (xs : List (List ℕ)) (x : List ℕ) → AreBetween 0 places (length xs)
    → those (places ++ length xs ∷ []) (xs ++ x ∷ []) ≡ those places xs ++ x ∷ []
those_push places xs x h =
    those_then places (length xs ∷ []) (xs ++ x ∷ [])
    ∙ ap (λ (l : List (List ℕ)). l ++ slice_index_or (xs ++ x ∷ []) (length xs) [] ∷ [])
    (those_left 0 places xs (x ∷ []) h)
    ∙ ap (λ (y : List ℕ). those places xs ++ y ∷ []) (at_last xs x)

longer : (xs : List (List ℕ)) (x : List ℕ) → length (xs ++ x ∷ []) ≡ length xs + 1
longer [] x = refl
longer (y ∷ xs) x = let ih = longer xs x in omega (arith, ih)

-- ---- the row beside joining with losses and joining without

abbrev open_of : Bool → Option (List ℕ) → Option (List ℕ)
open_of true o = o
open_of false o = None

pub record Told (r : Row) (k j : Joined) : Type 0 where
  pub order : AreBetween 0 r.places (length j.ready)
  pub up : k.ready ≡ those r.places j.ready

pub record Beside (r : Row) (k j : Joined) : Type 0 where
  pub ended : r.ended ≡ length j.ready
  pub going : r.going ≡ is_some j.part
  pub whole' : r.whole ≡ true → r.going ≡ true
  pub part : k.part ≡ open_of r.whole j.part
  pub told : Told r k j

-- nothing ends
stays : (going w : Bool) (o p : Option (List ℕ)) (ps : List ℕ) (ks js : List (List ℕ)) → going ≡ is_some o
    → (w ≡ true → going ≡ true) → p ≡ open_of w o → AreBetween 0 ps (length js) → ks ≡ those ps js
    → Beside (record { ended = length js; going = going; whole = w; places = ps })
    (record { ready = ks ++ []; part = p }) (record { ready = js ++ []; part = o })
stays going w o p ps ks js g h q order up = record {
  ended = ap length (sym (append-nil js));
  going = g;
  whole' = h;
  part = q;
  told = record {
    order = subst (λ (l : List (List ℕ)). AreBetween 0 ps (length l)) (sym (append-nil js)) order;
    up = append-nil ks ∙ up ∙ ap (those ps) (sym (append-nil js));
  };
}

-- one ends that came whole
comes : (x : List ℕ) (ps : List ℕ) (ks js : List (List ℕ)) → AreBetween 0 ps (length js) → ks ≡ those ps js
    → Beside (record { ended = length js + 1; going = false; whole = false; places = ps ++ length js ∷ [] })
    (record { ready = ks ++ x ∷ []; part = None }) (record { ready = js ++ x ∷ []; part = None })
comes x ps ks js order up = record {
  ended = sym (longer js x);
  going = refl;
  whole' = λ e. absurd cc;
  part = refl;
  told = record {
    order = subst (λ (n : ℕ). AreBetween 0 (ps ++ length js ∷ []) n) (sym (longer js x))
        (between_push 0 ps (length js) order);
    up = ap (λ (l : List (List ℕ)). l ++ x ∷ []) up ∙ sym (those_push ps js x order);
  };
}

-- one ends that didn't
passes : (x : List ℕ) (ps : List ℕ) (ks kt js : List (List ℕ)) → kt ≡ ks → AreBetween 0 ps (length js)
    → ks ≡ those ps js
    → Beside (record { ended = length js + 1; going = false; whole = false; places = ps })
    (record { ready = kt; part = None }) (record { ready = js ++ x ∷ []; part = None })
passes x ps ks kt js same order up = record {
  ended = sym (longer js x);
  going = refl;
  whole' = λ e. absurd cc;
  part = refl;
  told = record {
    order = subst (λ (n : ℕ). AreBetween 0 ps n) (sym (longer js x))
        (between_end 0 ps (length js) (length js + 1) (omega arith) order);
    up = same ∙ up ∙ sym (those_left 0 ps js (x ∷ []) order);
  };
}

abbrev of_row : ℕ → Bool → Bool → List ℕ → Row
of_row ended going w ps = record { ended = ended; going = going; whole = w; places = ps }

came_by : (begins ends w : Bool) (o : Option (List ℕ)) (x : List ℕ) (ps : List ℕ) (ks js : List (List ℕ))
    → (w ≡ true → is_some o ≡ true) → AreBetween 0 ps (length js) → ks ≡ those ps js
    → Beside (row_element true begins ends (of_row (length js) (is_some o) w ps))
    (with_element begins ends x (record { ready = ks; part = open_of w o }))
    (with_element begins ends x (record { ready = js; part = o }))
came_by true true w o x ps ks js h order up = comes x ps ks js order up
came_by true false w o x ps ks js h order up = stays true true (Some x) (Some x) ps ks js refl (λ e. refl) refl order up
came_by false true true None x ps ks js h order up = let no : false ≡ true = h refl in absurd cc
came_by false false true None x ps ks js h order up = let no : false ≡ true = h refl in absurd cc
came_by false true false None x ps ks js h order up =
    stays false false None None ps ks js refl (λ e. absurd cc) refl order up
came_by false false false None x ps ks js h order up =
    stays false false None None ps ks js refl (λ e. absurd cc) refl order up
came_by false true true (Some p) x ps ks js h order up = comes (p ++ x) ps ks js order up
came_by false false true (Some p) x ps ks js h order up =
    stays true true (Some (p ++ x)) (Some (p ++ x)) ps ks js refl (λ e. refl) refl order up
came_by false true false (Some p) x ps ks js h order up = passes (p ++ x) ps ks (ks ++ []) js (append-nil ks) order up
came_by false false false (Some p) x ps ks js h order up =
    stays true false (Some (p ++ x)) None ps ks js refl (λ e. absurd cc) refl order up

lost_by : (begins ends : Bool) (o : Option (List ℕ)) (x : List ℕ) (ps : List ℕ) (ks js : List (List ℕ))
    → AreBetween 0 ps (length js) → ks ≡ those ps js
    → Beside (row_element false begins ends (of_row (length js) (is_some o) false ps))
    (record { ready = ks ++ []; part = None }) (with_element begins ends x (record { ready = js; part = o }))
lost_by true true o x ps ks js order up = passes x ps ks (ks ++ []) js (append-nil ks) order up
lost_by true false o x ps ks js order up = stays true false (Some x) None ps ks js refl (λ e. absurd cc) refl order up
lost_by false true None x ps ks js order up = stays false false None None ps ks js refl (λ e. absurd cc) refl order up
lost_by false false None x ps ks js order up = stays false false None None ps ks js refl (λ e. absurd cc) refl order up
lost_by false true (Some p) x ps ks js order up = passes (p ++ x) ps ks (ks ++ []) js (append-nil ks) order up
lost_by false false (Some p) x ps ks js order up =
    stays true false (Some (p ++ x)) None ps ks js refl (λ e. absurd cc) refl order up

-- ---- elements

row_is : (r : Row) (n : ℕ) (g : Bool) → r.ended ≡ n → r.going ≡ g → r ≡ of_row n g r.whole r.places
row_is r n g e f = ap (λ (m : ℕ). of_row m r.going r.whole r.places) e
    ∙ ap (λ (b : Bool). of_row n b r.whole r.places) f

came_element : (begins ends : Bool) (x : List ℕ) (r : Row) (k j : Joined) → Beside r k j
    → Beside (row_element true begins ends r) (with_element begins ends x k) (with_element begins ends x j)
came_element begins ends x r k j h =
    let here : k ≡ record { ready = k.ready; part = open_of r.whole j.part } =
    ap (λ (o : Option (List ℕ)). record { ready = k.ready; part = o }) h.part in
    subst (λ (s : Row). Beside (row_element true begins ends s) (with_element begins ends x k)
    (with_element begins ends x j)) (sym (row_is r (length j.ready) (is_some j.part) h.ended h.going))
    (subst
    (λ (i : Joined). Beside
    (row_element true begins ends (of_row (length j.ready) (is_some j.part) r.whole r.places))
    (with_element begins ends x i) (with_element begins ends x j)) (sym here)
    (came_by begins ends r.whole j.part x r.places k.ready j.ready (λ e. sym h.going ∙ h.whole' e) h.told.order
    h.told.up))

lost_element : (begins ends : Bool) (x : List ℕ) (ended : ℕ) (going : Bool) (places : List ℕ) (ready : List (List ℕ))
    (j : Joined) → Beside (of_row ended going false places) (record { ready = ready; part = None }) j
    → Beside (row_element false begins ends (of_row ended going false places)) (record { ready = ready; part = None })
    (with_element begins ends x j)
lost_element begins ends x ended going places ready j h =
    subst (λ (s : Row). Beside (row_element false begins ends s) (record { ready = ready; part = None })
    (with_element begins ends x j))
    (sym (row_is (of_row ended going false places) (length j.ready) (is_some j.part) h.ended h.going))
    (subst
    (λ (l : List (List ℕ)). Beside
    (row_element false begins ends (of_row (length j.ready) (is_some j.part) false places))
    (record { ready = l; part = None }) (with_element begins ends x j)) (append-nil ready)
    (lost_by begins ends j.part x places ready j.ready h.told.order h.told.up))

came_elements : (begins ends : Bool) (xs : List (List ℕ)) (r : Row) (k j : Joined) → Beside r k j
    → Beside (row_elements true begins ends xs r) (with_elements begins ends xs k) (with_elements begins ends xs j)
came_elements begins ends [] r k j h = h
came_elements begins ends (x ∷ xs) r k j h =
    let last : Bool = ends || nat_lt 0 (length xs) in
    came_elements true ends xs (row_element true begins last r) (with_element begins last x k)
    (with_element begins last x j) (came_element begins last x r k j h)

lost_elements : (begins ends : Bool) (xs : List (List ℕ)) (ended : ℕ) (going : Bool) (places : List ℕ)
    (ready : List (List ℕ)) (j : Joined)
    → Beside (of_row ended going false places) (record { ready = ready; part = None }) j
    → Beside (row_elements false begins ends xs (of_row ended going false places))
    (record { ready = ready; part = None }) (with_elements begins ends xs j)
lost_elements begins ends [] ended going places ready j h = h
lost_elements begins ends (x ∷ xs) ended going places ready j h =
    let last : Bool = ends || nat_lt 0 (length xs) in
    let r : Row = row_element false begins last (of_row ended going false places) in
    lost_elements true ends xs r.ended r.going r.places ready (with_element begins last x j)
    (lost_element begins last x ended going places ready j h)

-- ---- PDUs

came_parts : (p : Parts) (r : Row) (k j : Joined) → Beside r k j
    → Beside (with_parts true p r) (with_number (Some p) k) (with_number (Some p) j)
came_parts p r k j h = came_elements p.begins p.ends p.elements r k j h

lost_parts : (p : Parts) (r : Row) (k j : Joined) → Beside r k j
    → Beside (with_parts false p r) (with_number None k) (with_number (Some p) j)
lost_parts p r k j h = lost_elements p.begins p.ends p.elements r.ended r.going r.places k.ready j (record {
  ended = h.ended;
  going = h.going;
  whole' = λ e. absurd cc;
  part = refl;
  told = record { order = h.told.order; up = h.told.up };
})

-- where no PDU was made none was accepted
none_here : (o : Option Parts) (log : List Accepted) (from : ℕ) (k : Joined) → found log from ≡ o → Agrees [] from log
    → with_number o k ≡ record { ready = k.ready; part = None }
none_here None log from k q a = refl
none_here (Some p) log from k q a = let no : None ≡ Some p = a 0 p (ap (found log) (omega arith) ∙ q) in absurd cc

none_left : (n : ℕ) (log : List Accepted) (from : ℕ) (k : Joined) → Agrees [] from log
    → (with_numbers (numbers log from n) k).ready ≡ k.ready
none_left zero log from k a = refl
none_left (suc n) log from k a =
    ap (λ (j : Joined). (with_numbers (numbers log (from + 1) n) j).ready)
    (none_here (found log from) log from k refl a)
    ∙ none_left n log (from + 1) (record { ready = k.ready; part = None })
    (λ i p e. a (suc i) p (ap (found log) (omega arith) ∙ e))

one_pdu : (o : Option Parts) (log : List Accepted) (from : ℕ) (pdu : UmdPdu) (pdus : List UmdPdu) (r : Row)
    (k j : Joined) → found log from ≡ o → Agrees (Some (parts_of pdu) ∷ carried pdus) from log → Beside r k j
    → Beside (with_parts (is_some o) (parts_of pdu) r) (with_number o k) (with_number (Some (parts_of pdu)) j)
one_pdu None log from pdu pdus r k j q a h = lost_parts (parts_of pdu) r k j h
one_pdu (Some p) log from pdu pdus r k j q a h =
    let same : Some (parts_of pdu) ≡ Some p = a 0 p (ap (found log) (omega arith) ∙ q) in
    subst (λ (s : Option Parts). Beside (with_parts true (parts_of pdu) r) (with_number s k)
    (with_number (Some (parts_of pdu)) j)) same (came_parts (parts_of pdu) r k j h)

pub all_pdus : (n : ℕ) (log : List Accepted) (from : ℕ) (made : List UmdPdu) (r : Row) (k j : Joined)
    → Agrees (carried made) from log → Beside r k j
    → Told (with_pdus log from n made r) (with_numbers (numbers log from n) k) (with_numbers (take n (carried made)) j)
all_pdus zero log from made r k j a h = h.told
all_pdus (suc n) log from [] r k j a h = record {
  order = h.told.order;
  up = none_left (suc n) log from k a ∙ h.told.up;
}
all_pdus (suc n) log from (pdu ∷ pdus) r k j a h =
    all_pdus n log (from + 1) pdus (with_parts (is_accepted log from) (parts_of pdu) r)
    (with_number (found log from) k) (with_number (Some (parts_of pdu)) j)
    (shifted (Some (parts_of pdu)) (carried pdus) from log a)
    (one_pdu (found log from) log from pdu pdus r k j refl a h)

-- ---- what is joined grows

pub record Grows (j k : Joined) : Type 0 where
  pub rest : List (List ℕ)
  pub is : k.ready ≡ j.ready ++ rest

grows_then : (i j k : Joined) → Grows i j → Grows j k → Grows i k
grows_then i j k g h =
    record {
      rest = g.rest ++ h.rest;
      is = h.is ∙ ap (λ (l : List (List ℕ)). l ++ h.rest) g.is
          ∙ append_assoc i.ready g.rest h.rest;
    }

grows_none : (j : Joined) → Grows j j
grows_none j = record { rest = []; is = sym (append-nil j.ready) }

grows_elements : (begins ends : Bool) (xs : List (List ℕ)) (j : Joined) → Grows j (with_elements begins ends xs j)
grows_elements begins ends [] j = grows_none j
grows_elements begins ends (x ∷ xs) j =
    let last : Bool = ends || nat_lt 0 (length xs) in
    let i : Joined = with_element begins last x j in
    grows_then j i (with_elements true ends xs i)
    (record { rest = finished last (opened begins x j.part); is = refl }) (grows_elements true ends xs i)

grows_number : (s : Option Parts) (j : Joined) → Grows j (with_number s j)
grows_number None j = record { rest = []; is = sym (append-nil j.ready) }
grows_number (Some p) j = grows_elements p.begins p.ends p.elements j

grows_numbers : (ss : List (Option Parts)) (j : Joined) → Grows j (with_numbers ss j)
grows_numbers [] j = grows_none j
grows_numbers (s ∷ ss) j =
    grows_then j (with_number s j) (with_numbers ss (with_number s j)) (grows_number s j)
    (grows_numbers ss (with_number s j))

pub grows_from : (n : ℕ) (ss : List (Option Parts)) (j : Joined)
    → Grows (with_numbers (take n ss) j) (with_numbers ss j)
grows_from zero ss j = grows_numbers ss j
grows_from (suc n) [] j = grows_none j
grows_from (suc n) (s ∷ ss) j = grows_from n ss (with_number s j)

-- ---- the law

record AreThose (places : List ℕ) (xs offered : List (List ℕ)) : Type 0 where
  order : AreBetween 0 places (length offered)
  up : xs ≡ those places offered

length_then : (xs ys : List (List ℕ)) → length xs ≤ length (xs ++ ys)
length_then [] ys = omega arith
length_then (x ∷ xs) ys = let ih = length_then xs ys in omega (arith, ih)

among_offered : (places : List ℕ) (up front rest offered : List (List ℕ)) → front ++ rest ≡ offered
    → AreBetween 0 places (length front) → up ≡ those places front → AreThose places up offered
among_offered places up front rest offered q order is =
    subst (λ (l : List (List ℕ)). AreThose places up l) q
    (record {
      order = between_end 0 places (length front) (length (front ++ rest)) (length_then front rest) order;
      up = is ∙ sym (those_left 0 places front rest order);
    })

came_below : (bits : ℕ) (steps : List Step) (width : ℕ) (w : World) (edge : ℕ)
    → Agrees (carried (flow steps (at_first bits)).made) (2 * width) w.accepted
    → AreThose (places_below width w edge (flow steps (at_first bits)).made)
    (joined_below w.accepted (2 * width) edge).ready (flow steps (at_first bits)).offered
came_below bits steps width w edge a =
    let f : Flow = flow steps (at_first bits) in
    let n : ℕ = edge - 2 * width in
    let front : Joined = with_numbers (take n (carried f.made)) nothing_joined in
    let none : Beside nothing_sent nothing_joined nothing_joined =
    record {
      ended = refl;
      going = refl;
      whole' = λ e. absurd cc;
      part = refl;
      told = record { order = omega arith; up = refl };
    } in
    let told = all_pdus n w.accepted (2 * width) f.made nothing_sent nothing_joined nothing_joined a none in
    let more = grows_from n (carried f.made) nothing_joined in
    let behind : List (List ℕ) = completed (joined f.made).part f.sender.waiting.sdus in
    let all : front.ready ++ (more.rest ++ behind) ≡ f.offered =
    sym (append_assoc front.ready more.rest behind) ∙ ap (λ (l : List (List ℕ)). l ++ behind) (sym more.is)
    ∙ (whole bits steps).sdus in
    among_offered (places_below width w edge f.made) (joined_below w.accepted (2 * width) edge).ready front.ready
    (more.rest ++ behind) f.offered all told.order told.up

pub hands_up_what_came : (bits reorder : ℕ) (steps : List Step) (calls : List Call) → IsUmBits bits
    → AreSent (flow steps (at_first bits)).made (width_of bits) calls (fresh (width_of bits) reorder)
    → IsWhatCameToRlc (width_of bits) (flow steps (at_first bits))
    (run_um_receiver calls (fresh (width_of bits) reorder))
hands_up_what_came bits reorder steps calls u s =
    let f : Flow = flow steps (at_first bits) in
    let width : ℕ = width_of bits in
    let w : World = run_um_receiver calls (fresh width reorder) in
    let m : Meets f.made width w = met bits reorder steps calls u s in
    let up : w.gone ++ w.state.joined.ready ≡ (joined_below w.accepted (2 * width) w.state.window.edge).ready =
    m.keeps.rests.stands.sound.joined.ready
    ∙ ap (λ (v : ℕ). (joined_below w.accepted (2 * v) w.state.window.edge).ready) m.width_is in
    let last : w.gone ++ all_joined w.state ≡ (joined_below w.accepted (2 * width) w.top).ready =
    finished_all width reorder (some-numbers bits u) calls
    ∙ ap (λ (v : ℕ). (joined_below w.accepted (2 * v) w.top).ready) m.width_is in
    let here = came_below bits steps width w w.state.window.edge m.agrees in
    let end = came_below bits steps width w w.top m.agrees in
    record { order = here.order; up = up ∙ here.up; last_order = end.order; last = last ∙ end.up }
