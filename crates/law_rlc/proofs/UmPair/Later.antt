-- What came whole stays so, and only more comes whole later.
use Rattle.std.proofs.Common.{◌≡◌, ◌<◌, ◌≤◌, ℕ, zero, suc, ◌+◌, ◌-◌, ◌*◌, Bool, true, false, ◌||◌, ◌&&◌, if◌then◌else◌}
use Rattle.std.proofs.Common.{List, [], ◌∷◌, ◌++◌, length, Option, Some, None, is_some, refl, ap, sym, subst, ◌∙◌}
use Rattle.std.proofs.Common.{append_assoc, append-nil, arith, nat_lt}
use Rattle.std.proofs.lemmas.Bool.Decides.{nat_tests}
use Rattle.rlc_pdu.specs.Pdus.{UmdPdu, IsUmBits}
use Rattle.rlc_pdu.specs.declared.outcome.Landed.{Landed}
use Rattle.rlc_pdu.specs.declared.outcome.Landed.TheVariants.{Kept, Repeat, Outside, Clash}
use Rattle.rlc_um.specs.Joined.{Parts, parts_of}
use Rattle.rlc_um.specs.Window.{slot_at}
use Rattle.rlc_um.specs.Receiver.{State, landed, after_landing, after_expiry}
use Rattle.rlc_um.specs.Sender.{width_of, turn}
use Rattle.law_rlc.specs.UmPair.Run.{Call, Arrive, Expire, Tick, Up, World, Accepted, fresh, accepts, happens}
use Rattle.law_rlc.specs.UmPair.Run.{run_um_receiver}
use Rattle.law_rlc.specs.UmPair.Run.{found, is_accepted, read_number}
use Rattle.law_rlc.specs.UmPair.Send.{Step, Offer, Take, Flow, made_by, goes, flow, at_first}
use Rattle.law_rlc.specs.UmPair.Which.{Row, nothing_sent, with_element, with_elements, with_parts, with_pdus, HasMore}
use Rattle.law_rlc.specs.UmPair.Which.{GoesOn}
use Rattle.law_rlc.proofs.UmPair.Air.{some-numbers}
use Rattle.law_rlc.proofs.UmPair.Edge.{comes-is, ends-is, edge}
use Rattle.law_rlc.proofs.UmPair.Places.{found-else}

-- ---- the row only grows

none_more : (xs : List ℕ) → HasMore xs xs
none_more xs = record { rest = []; is = sym (append-nil xs) }

more_then : (xs ys zs : List ℕ) → HasMore xs ys → HasMore ys zs → HasMore xs zs
more_then xs ys zs g h =
    record {
      rest = g.rest ++ h.rest;
      is = h.is ∙ ap (λ (l : List ℕ). l ++ h.rest) g.is
          ∙ append_assoc xs g.rest h.rest;
    }

one_more : (b : Bool) (xs : List ℕ) (x : ℕ) → HasMore xs (if b then xs ++ x ∷ [] else xs)
one_more true xs x = record { rest = x ∷ []; is = refl }
one_more false xs x = none_more xs

elements_grow : (came' begins ends : Bool) (xs : List (List ℕ)) (r : Row)
    → HasMore r.places (with_elements came' begins ends xs r).places
elements_grow came' begins ends [] r = none_more r.places
elements_grow came' begins ends (x ∷ xs) r =
    let last : Bool = ends || nat_lt 0 (length xs) in
    let s : Row = with_element came' begins last r in
    more_then r.places s.places (with_elements came' true ends xs s).places
    (one_more ((came' && (begins || r.whole)) && last) r.places r.ended) (elements_grow came' true ends xs s)

parts_grow : (came' : Bool) (p : Parts) (r : Row) → HasMore r.places (with_parts came' p r).places
parts_grow came' p r = elements_grow came' p.begins p.ends p.elements (record r { whole = came' && r.whole })

pdus_grow : (log : List Accepted) (from n : ℕ) (made : List UmdPdu) (r : Row)
    → HasMore r.places (with_pdus log from n made r).places
pdus_grow log from zero made r = none_more r.places
pdus_grow log from (suc n) [] r = none_more r.places
pdus_grow log from (suc n) (pdu ∷ pdus) r =
    let s : Row = with_parts (is_accepted log from) (parts_of pdu) r in
    more_then r.places s.places (with_pdus log (from + 1) n pdus s).places
    (parts_grow (is_accepted log from) (parts_of pdu) r) (pdus_grow log (from + 1) n pdus s)

-- with the same PDUs in front
pdus_go_on : (log later : List Accepted) (from n m : ℕ) (made more : List UmdPdu) (r : Row) → n ≤ m
    → ((x : ℕ) → from ≤ x → x < from + n → found later x ≡ found log x)
    → HasMore (with_pdus log from n made r).places (with_pdus later from m (made ++ more) r).places
pdus_go_on log later from zero m made more r l same = pdus_grow later from m (made ++ more) r
pdus_go_on log later from (suc n) zero made more r l same = absurd (omega (arith, l))
pdus_go_on log later from (suc n) (suc m) [] more r l same = pdus_grow later from (suc m) more r
pdus_go_on log later from (suc n) (suc m) (pdu ∷ pdus) more r l same =
    subst
    (λ (o : Option Parts). HasMore
    (with_pdus log (from + 1) n pdus (with_parts (is_accepted log from) (parts_of pdu) r)).places
    (with_pdus later (from + 1) m (pdus ++ more) (with_parts (is_some o) (parts_of pdu) r)).places)
    (sym (same from (omega arith) (omega arith)))
    (pdus_go_on log later (from + 1) n m pdus more (with_parts (is_accepted log from) (parts_of pdu) r)
    (omega (arith, l)) (λ x a b. same x (omega (arith, a)) (omega (arith, b))))

-- ---- VR(UR) only rises, and below it nothing is accepted

record Rises (w v : World) : Type 0 where
  low : w.state.window.edge ≤ v.state.window.edge
  same : (x : ℕ) → x < w.state.window.edge → found v.accepted x ≡ found w.accepted x

rises_then : (w v u : World) → Rises w v → Rises v u → Rises w u
rises_then w v u g h =
    let a = g.low in
    let b = h.low in
    record { low = omega (arith, a, b); same = λ x l. h.same x (omega (arith, a, l)) ∙ g.same x l }

not_below : (b : Bool) (x edge' : ℕ) → (if nat_lt x edge' || b then Repeat else Kept) ≡ Kept → edge' ≤ x
not_below true x edge' e = absurd (by (nat_lt x edge') e)
  where
    by : (t : Bool) → (if t || true then Repeat else Kept) ≡ Kept → ⊥
    by true e = absurd cc
    by false e = absurd cc
not_below false x edge' e = by (nat_lt x edge') refl e
  where
    by : (t : Bool) → nat_lt x edge' ≡ t → (if t || false then Repeat else Kept) ≡ Kept → edge' ≤ x
    by true q e = absurd cc
    by false q e = grind (arith, nat_tests, q)

landed_rises : (l : Landed) (x : ℕ) (p : Parts) (w : World) → landed w.state x ≡ l
    → Rises w (record w { state = after_landing l x p w.state; accepted = accepts l x p w.accepted })
landed_rises Kept x p w q = record {
  low = omega arith;
  same = λ y below.
      let above = not_below (is_some (slot_at w.state.window.slots (x - w.state.window.edge))) x w.state.window.edge q
      in
      found-else (record { number = x; parts = p }) w.accepted y (λ e. omega (arith, above, below, e));
}
landed_rises Repeat x p w q = record { low = omega arith; same = λ y below. refl }
landed_rises Outside x p w q = record { low = omega arith; same = λ y below. refl }
landed_rises Clash x p w q = record { low = omega arith; same = λ y below. refl }

expiry_rises : (m : Option ℕ) (s : State) → s.window.edge ≤ (after_expiry m s).window.edge
expiry_rises None s = omega arith
expiry_rises (Some x) s = omega arith

happens_rises : (w : World) (c : Call) → Rises w (happens w c)
happens_rises w (Arrive pdu) =
    let x = read_number pdu w in
    let l = landed_rises (landed w.state x) x (parts_of pdu) w refl in
    subst (λ (v : World). Rises w v) (sym (comes-is w pdu)) (record { low = l.low; same = l.same })
happens_rises w Expire =
    subst (λ (v : World). Rises w v) (sym (ends-is w))
    (record { low = expiry_rises w.state.mark w.state; same = λ x l. refl })
happens_rises w Tick = record { low = omega arith; same = λ x l. refl }
happens_rises w Up = record { low = omega arith; same = λ x l. refl }

run_rises : (calls : List Call) (w : World) → Rises w (run_um_receiver calls w)
run_rises [] w = record { low = omega arith; same = λ x l. refl }
run_rises (c ∷ cs) w =
    rises_then w (happens w c) (run_um_receiver cs (happens w c)) (happens_rises w c) (run_rises cs (happens w c))

run_more : (cs ds : List Call) (w : World) → run_um_receiver (cs ++ ds) w ≡ run_um_receiver ds (run_um_receiver cs w)
run_more [] ds w = refl
run_more (c ∷ cs) ds w = run_more cs ds (happens w c)

-- ---- the sender only makes more

record Makes (f g : Flow) : Type 0 where
  rest : List UmdPdu
  is : g.made ≡ f.made ++ rest

goes_makes : (f : Flow) (s : Step) → Makes f (goes f s)
goes_makes f (Offer sdu) = record { rest = []; is = sym (append-nil f.made) }
goes_makes f (Take size held) = record { rest = made_by (turn f.sender size held) f.sender size; is = refl }

flow_makes : (steps : List Step) (f : Flow) → Makes f (flow steps f)
flow_makes [] f = record { rest = []; is = sym (append-nil f.made) }
flow_makes (s ∷ ss) f =
    let one = goes_makes f s in
    let more = flow_makes ss (goes f s) in
    record {
      rest = one.rest ++ more.rest;
      is = more.is ∙ ap (λ (l : List UmdPdu). l ++ more.rest) one.is
          ∙ append_assoc f.made one.rest more.rest;
    }

flow_more : (xs ys : List Step) (f : Flow) → flow (xs ++ ys) f ≡ flow ys (flow xs f)
flow_more [] ys f = refl
flow_more (x ∷ xs) ys f = flow_more xs ys (goes f x)

-- ---- the law

later_on : (first n m : ℕ) (f g : Flow) (w v : World) → Makes f g → n ≤ m
    → ((x : ℕ) → first ≤ x → x < first + n → found v.accepted x ≡ found w.accepted x)
    → HasMore (with_pdus w.accepted first n f.made nothing_sent).places
    (with_pdus v.accepted first m g.made nothing_sent).places
later_on first n m f g w v makes l same =
    subst (λ (made : List UmdPdu). HasMore (with_pdus w.accepted first n f.made nothing_sent).places
    (with_pdus v.accepted first m made nothing_sent).places) (sym makes.is)
    (pdus_go_on w.accepted v.accepted first n m f.made makes.rest nothing_sent l same)

goes_on_so : (width : ℕ) (f g : Flow) (w v : World) → Makes f g → Rises w v → v.state.window.edge ≤ v.top
    → GoesOn width f g w v
goes_on_so width f g w v makes rises top =
    let low = rises.low in
    let n : ℕ = w.state.window.edge - 2 * width in
    let same : (x : ℕ) → 2 * width ≤ x → x < 2 * width + n → found v.accepted x ≡ found w.accepted x =
    λ x a b. rises.same x (omega (arith, a, b)) in
    record {
      up = later_on (2 * width) n (v.state.window.edge - 2 * width) f g w v makes (omega (arith, low)) same;
      last = later_on (2 * width) n (v.top - 2 * width) f g w v makes (omega (arith, low, top)) same;
    }

pub more_go_up_later : (bits reorder : ℕ) (steps more : List Step) (calls later : List Call) → IsUmBits bits
    → GoesOn (width_of bits) (flow steps (at_first bits)) (flow (steps ++ more) (at_first bits))
    (run_um_receiver calls (fresh (width_of bits) reorder))
    (run_um_receiver (calls ++ later) (fresh (width_of bits) reorder))
more_go_up_later bits reorder steps more calls later u =
    let width : ℕ = width_of bits in
    let f : Flow = flow steps (at_first bits) in
    let w : World = run_um_receiver calls (fresh width reorder) in
    let v : World = run_um_receiver (calls ++ later) (fresh width reorder) in
    let top = (edge width reorder (some-numbers bits u) (calls ++ later)).top in
    goes_on_so width f (flow (steps ++ more) (at_first bits)) w v
    (subst (λ (g : Flow). Makes f g) (sym (flow_more steps more (at_first bits))) (flow_makes more f))
    (subst (λ (x : World). Rises w x) (sym (run_more calls later (fresh width reorder))) (run_rises later w))
    (omega (arith, top))
