-- A STATUS is due exactly where it was asked for.
use Rattle.std.proofs.Common.{◌≡◌, ◌<◌, ◌≤◌, ◌⊎◌, inl, inr, ℕ, suc, zero, ◌+◌, ◌-◌, ◌==◌, Bool, true, false, ◌||◌, ◌&&◌}
use Rattle.std.proofs.Common.{List, [], ◌∷◌, take, drop, Option, Some, None, refl, ap, sym, subst, ◌∙◌, arith, ltb}
use Rattle.std.proofs.Common.{if◌then◌else◌}
use Rattle.std.proofs.lemmas.Bool.{cases_lt, cases_eq, lt-ltb, ltb-true, ltb-false, eq-eqb, ne_eqb}
use Rattle.std.proofs.lemmas.List.{get_or-drop}
use Rattle.std.specs.List.{list_any}
use Rattle.l2_types.specs.declared.AmRxConfig.{AmRxConfig}
use Rattle.rlc_pdu.specs.declared.Landed.{Landed}
use Rattle.rlc_pdu.specs.declared.Landed.TheVariants.{Kept, Repeat, Outside, Clash}
use Rattle.rlc_pdu.specs.Pdus.{AmdPdu}
use Rattle.rlc_am_rx_window.specs.Piece.{piece_of}
use Rattle.rlc_am_rx_window.specs.Held.{Held, nothing}
use Rattle.rlc_am_rx_window.specs.Window.{RxWindow, offset_of, complete_first, first_incomplete, polled_in, slot_at}
use Rattle.rlc_am_rx.specs.State.{State}
use Rattle.rlc_am_rx.specs.Machine.{landed, after_landing, after_reorder, window_with, bound_moved, poll_passed}
use Rattle.rlc_am_rx.specs.Machine.{poll_below}
use Rattle.law_rlc.specs.AmReceiver.Run.{Call, Arrive, Up, Write, ExpireReorder, ExpireProhibit, TickReorder}
use Rattle.law_rlc.specs.AmReceiver.Run.{TickProhibit, state_after, number_read}
use Rattle.law_rlc.specs.AmReceiver.Bound.{Marked, goes, marked_outset}
use Rattle.law_rlc.specs.AmReceiver.Due.{Asked, some_below, not_below, with_poll, asked_on, asked_at, asks, ask}
use Rattle.law_rlc.specs.AmReceiver.Due.{unasked}
use Rattle.law_rlc.proofs.AmReceiver.Order.{first-least}
use Rattle.law_rlc.proofs.AmReceiver.Least.{kept-same, kept-other}
use Rattle.law_rlc.proofs.AmReceiver.Bound.{Bounded, goes-bounded, outset-bounded, IsFirst, moved-first, MarkAbove}
use Rattle.law_rlc.proofs.AmReceiver.TrueStatus.{either, same_number, or_true}

-- ---- polls by their numbers

abbrev pub mem : List ℕ → ℕ → Bool
mem ns n = list_any (λ (m : ℕ). m == n) ns

mem_left : (bound n : ℕ) (ns : List ℕ) → bound ≤ n → mem (not_below bound ns) n ≡ mem ns n
mem_left bound n [] h = refl
mem_left bound n (m ∷ ms) h = go (ltb m bound) refl (mem_left bound n ms h)
  where
    go : (b : Bool) → ltb m bound ≡ b → mem (not_below bound ms) n ≡ mem ms n
        → mem (if b then not_below bound ms else m ∷ not_below bound ms) n ≡ mem (m ∷ ms) n
    go true e rest =
        rest ∙ sym (ap (λ (b : Bool). b || mem ms n) (ne_eqb m n (λ f. omega (arith, f, h, ltb-true m bound e))))
    go false e rest = ap (λ (b : Bool). (m == n) || b) rest

left_above : (bound n : ℕ) (ns : List ℕ) → mem (not_below bound ns) n ≡ true → bound ≤ n
left_above bound n [] h = cc
left_above bound n (m ∷ ms) h = go (ltb m bound) refl (λ g. left_above bound n ms g) h
  where
    go : (b : Bool) → ltb m bound ≡ b → (mem (not_below bound ms) n ≡ true → bound ≤ n)
        → mem (if b then not_below bound ms else m ∷ not_below bound ms) n ≡ true → bound ≤ n
    go true e rest h = rest h
    go false e rest h =
        elim (either (m == n) (mem (not_below bound ms) n) h)
        [ inl is ↦ omega (arith, same_number m n is, ltb-false m bound e) | inr later ↦ rest later ]

below_mem : (bound n : ℕ) (ns : List ℕ) → mem ns n ≡ true → n < bound → some_below bound ns ≡ true
below_mem bound n [] h lt = cc
below_mem bound n (m ∷ ms) h lt = elim (either (m == n) (mem ms n) h) [
  | inl is ↦ rw (lt-ltb m bound (omega (arith, same_number m n is, lt))) refl
  | inr later ↦ rw (below_mem bound n ms later lt) (or_true (ltb m bound))
]

mem_below : (bound : ℕ) (ns : List ℕ) → some_below bound ns ≡ true → (n : ℕ) × (mem ns n ≡ true) × (n < bound)
mem_below bound [] h = cc
mem_below bound (m ∷ ms) h = elim (either (ltb m bound) (some_below bound ms) h) [
  | inl is ↦ (m, ap (λ (b : Bool). b || mem ms m) (eq-eqb m m refl), ltb-true m bound is)
  | inr later ↦ let r = mem_below bound ms later in
      (r.0, ap (λ (b : Bool). (m == r.0) || b) r.1 ∙ or_true (m == r.0), r.2)
]

-- ---- polls by their slots

any_first : (n : ℕ) (slots : List Held) → list_any (λ h. h.polled) (take n slots) ≡ true
    → (k : ℕ) × (k < n) × ((slot_at slots k).polled ≡ true)
any_first zero slots h = cc
any_first (suc n) [] h = cc
any_first (suc n) (s ∷ ss) h = elim (either s.polled (list_any (λ h. h.polled) (take n ss)) h) [
  | inl e ↦ (0, omega arith, e)
  | inr e ↦ let r = any_first n ss e in (suc r.0, omega (arith, r.1), r.2)
]

first_any : (n : ℕ) (slots : List Held) (k : ℕ) → k < n → (slot_at slots k).polled ≡ true
    → list_any (λ h. h.polled) (take n slots) ≡ true
first_any zero slots k lt h = absurd (omega (arith, lt))
first_any (suc n) [] k lt h = cc
first_any (suc n) (s ∷ ss) zero lt h = rw h refl
first_any (suc n) (s ∷ ss) (suc k) lt h = rw (first_any n ss k (omega (arith, lt)) h) (or_true s.polled)

polled_some : (slots : List Held) (from to : ℕ) → polled_in slots from to ≡ true
    → (k : ℕ) × (from ≤ k) × (k < to) × ((slot_at slots k).polled ≡ true)
polled_some slots from to h =
    let r = any_first (to - from) (drop from slots) h in (
      from + r.0,
      omega arith,
      omega (arith, r.1),
      ap (λ (x : Held). x.polled) (sym (get_or-drop from slots r.0 nothing)) ∙ r.2,
    )

some_polled : (slots : List Held) (from to k : ℕ) → from ≤ k → k < to → (slot_at slots k).polled ≡ true
    → polled_in slots from to ≡ true
some_polled slots from to k le lt h =
    let same : from + (k - from) ≡ k = omega (arith, le) in
    first_any (to - from) (drop from slots) (k - from) (omega (arith, le, lt))
    (ap (λ (x : Held). x.polled) (get_or-drop from slots (k - from) nothing
    ∙ ap (λ (j : ℕ). slot_at slots j) same) ∙ h)

-- ---- what holds along a run

pub record Good (a : Asked) : Type 0 where
  pub due : a.state.due ≡ a.asked
  pub polls : (n : ℕ) → a.state.bound ≤ n
      → mem a.polls n ≡ (slot_at a.state.window.slots (n - a.state.window.front)).polled
  pub above : (n : ℕ) → mem a.polls n ≡ true → a.state.bound ≤ n

iff : (a b : Bool) → (a ≡ true → b ≡ true) → (b ≡ true → a ≡ true) → a ≡ b
iff true b f g = sym (f refl)
iff false true f g = g refl
iff false false f g = refl

-- the polls with that of a PDU, and the slots with it
with_new : (s : State) (p : AmdPdu) (polls : List ℕ)
    → ((n : ℕ) → s.bound ≤ n → mem polls n ≡ (slot_at s.window.slots (n - s.window.front)).polled)
    → s.window.front ≤ s.bound
    → (n : ℕ) → s.bound ≤ n → mem (with_poll p.poll (number_read s p) polls) n
    ≡ (slot_at (window_with s.window p).slots (n - s.window.front)).polled
with_new s p polls same le n above = elim (cases_eq (n - front) at) [
  | inl is ↦
      let number : (number_read s p == n) ≡ true = eq-eqb (number_read s p) n (omega (arith, is, le, above)) in
      new p.poll number
      ∙ ap (λ (b : Bool). b || p.poll) (same n above ∙ ap (λ (k : ℕ). (slot_at s.window.slots k).polled) is)
      ∙ sym (ap (λ (h : Held). h.polled) (kept-same s.window at (piece_of p) p.poll))
      ∙ ap (λ (k : ℕ). (slot_at (window_with s.window p).slots k).polled) (sym is)
  | inr other ↦
      let number : (number_read s p == n) ≡ false = ne_eqb (number_read s p) n (λ e. other (omega (arith, e))) in
      old p.poll number ∙ same n above
      ∙ sym (ap (λ (h : Held). h.polled) (kept-other s.window at (piece_of p) p.poll (n - front) other))
]
  where
    front : ℕ
    front = s.window.front

    at : ℕ
    at = offset_of s.window.front p.sn

    new : (b : Bool) → (number_read s p == n) ≡ true → mem (with_poll b (number_read s p) polls) n ≡ (mem polls n || b)
    new true e = rw e (sym (or_true (mem polls n)))
    new false e = sym (or_false (mem polls n))
      where
        or_false : (a : Bool) → (a || false) ≡ a
        or_false true = refl
        or_false false = refl

    old : (b : Bool) → (number_read s p == n) ≡ false → mem (with_poll b (number_read s p) polls) n ≡ mem polls n
    old true e = rw e refl
    old false e = refl

-- a polled number lies below VR(MS)
passed : (s : State) (p : AmdPdu) (polls : List ℕ)
    → ((n : ℕ) → s.bound ≤ n → mem polls n ≡ (slot_at s.window.slots (n - s.window.front)).polled)
    → ((n : ℕ) → mem polls n ≡ true → s.bound ≤ n) → s.window.front ≤ s.bound
    → (poll_below (window_with s.window p) s.bound (offset_of s.window.front p.sn) p.poll
    || poll_passed (window_with s.window p) s.bound)
    ≡ some_below (bound_moved (window_with s.window p) s.bound) (with_poll p.poll (number_read s p) polls)
passed s p polls same above le =
    iff (poll_below w s.bound at p.poll || poll_passed w s.bound) (some_below (bound_moved w s.bound) new) there back
  where
    w : RxWindow
    w = window_with s.window p

    at : ℕ
    at = offset_of s.window.front p.sn

    new : List ℕ
    new = with_poll p.poll (number_read s p) polls

    to : ℕ
    to = first_incomplete w.slots (s.bound - w.front)

    own : (b : Bool) → (b && ltb at to) ≡ true
        → some_below (s.window.front + to) (with_poll b (number_read s p) polls) ≡ true
    own true h = rw (lt-ltb (number_read s p) (s.window.front + to) (omega (arith, ltb-true at to h))) refl
    own false h = cc

    there : (poll_below w s.bound at p.poll || poll_passed w s.bound) ≡ true
        → some_below (bound_moved w s.bound) new ≡ true
    there h = elim (either (poll_below w s.bound at p.poll) (poll_passed w s.bound) h) [
      | inl e ↦ own p.poll e
      | inr e ↦
          let r = polled_some w.slots (s.bound - w.front) to e in
          let place : s.window.front + r.0 - s.window.front ≡ r.0 = omega arith in
          below_mem (bound_moved w s.bound) (s.window.front + r.0) new
          (with_new s p polls same le (s.window.front + r.0) (omega (arith, r.1, le))
          ∙ ap (λ (k : ℕ). (slot_at w.slots k).polled) place ∙ r.3)
          (omega (arith, r.2))
    ]

    mine : (b : Bool) (n : ℕ) → n < s.window.front + to → mem (with_poll b (number_read s p) polls) n ≡ true
        → (mem polls n ≡ true) ⊎ ((b && ltb at to) ≡ true)
    mine true n lt h = elim (either (number_read s p == n) (mem polls n) h) [
      | inl is ↦ inr (lt-ltb at to (omega (arith, same_number (number_read s p) n is, lt)))
      | inr later ↦ inl later
    ]
    mine false n lt h = inl h

    back : some_below (bound_moved w s.bound) new ≡ true
        → (poll_below w s.bound at p.poll || poll_passed w s.bound) ≡ true
    back h =
        let r = mem_below (bound_moved w s.bound) new h in
        elim (mine p.poll r.0 r.2 r.1) [
          | inr e ↦ rw e refl
          | inl e ↦
              let from : s.bound ≤ r.0 = above r.0 e in
              let polled : (slot_at w.slots (r.0 - s.window.front)).polled ≡ true =
              sym (with_new s p polls same le r.0 from) ∙ r.1 in
              let is : poll_passed w s.bound ≡ true =
              some_polled w.slots (s.bound - w.front) to (r.0 - s.window.front) (omega (arith, from))
              (omega (arith, r.2, from, le)) polled in
              rw is (or_true (poll_below w s.bound at p.poll))
        ]

or_assoc : (a b c : Bool) → (a || b || c) ≡ (a || (b || c))
or_assoc true b c = refl
or_assoc false b c = refl

landing-good : (l : Landed) (a : Asked) (p : AmdPdu) → a.state.window.front ≤ a.state.bound → Good a
    → Good (asked_on l a p (after_landing l a.state p))
landing-good Kept a p le g = record {
  due = or_assoc a.state.due (poll_below w a.state.bound at p.poll) (poll_passed w a.state.bound)
      ∙ ap (λ (b : Bool). a.state.due || b) (passed a.state p a.polls g.polls g.above le)
      ∙ ap (λ (b : Bool). b || some_below (bound_moved w a.state.bound) new) g.due;
  polls = λ n above.
      let from : a.state.bound ≤ n = omega (arith, above, le) in
      let place : complete_first w.slots + (n - (a.state.window.front + complete_first w.slots))
      ≡ n - a.state.window.front =
      omega (arith, above, first-least w.slots (a.state.bound - a.state.window.front)) in
      mem_left (bound_moved w a.state.bound) n new above ∙ with_new a.state p a.polls g.polls le n from
      ∙ sym
      (ap (λ (h : Held). h.polled)
      (get_or-drop (complete_first w.slots) w.slots (n - (a.state.window.front + complete_first w.slots)) nothing)
      ∙ ap (λ (k : ℕ). (slot_at w.slots k).polled) place);
  above = λ n h. left_above (bound_moved w a.state.bound) n new h;
}
  where
    w : RxWindow
    w = window_with a.state.window p

    at : ℕ
    at = offset_of a.state.window.front p.sn

    new : List ℕ
    new = with_poll p.poll (number_read a.state p) a.polls
landing-good Repeat a p le g = record { due = ap (λ (b : Bool). b || p.poll) g.due; polls = g.polls; above = g.above }
landing-good Outside a p le g = record { due = ap (λ (b : Bool). b || p.poll) g.due; polls = g.polls; above = g.above }
landing-good Clash a p le g = record { due = g.due; polls = g.polls; above = g.above }

expiry-good : (o : Option ℕ) (a : Asked) → ((x : ℕ) → o ≡ Some x → a.state.bound ≤ bound_moved a.state.window x)
    → Good a → Good (asked_at o a (after_reorder o a.state))
expiry-good None a up g = record { due = g.due; polls = g.polls; above = g.above }
expiry-good (Some x) a up g = record {
  due = refl;
  polls = λ n above.
      let more : a.state.bound ≤ bound_moved a.state.window x = up x refl in
      mem_left (bound_moved a.state.window x) n a.polls above ∙ g.polls n (omega (arith, above, more));
  above = λ n h. left_above (bound_moved a.state.window x) n a.polls h;
}

-- VR(MS) never falls
bound_grows : (m : Marked) → Bounded m → (x : ℕ) → m.world.state.mark ≡ Some x
    → m.world.state.bound ≤ bound_moved m.world.state.window x
bound_grows m b x e = elim (cases_lt (bound_moved m.world.state.window x) m.world.state.bound) [
  | inr above ↦ above
  | inl below ↦
      let f : IsFirst m.world.kept x (bound_moved m.world.state.window x) =
      moved-first m.world.kept m.world.state.window x b.keeps.agrees in
      let base : m.base ≤ x = subst (λ (o : Option ℕ). MarkAbove o m.base) e b.mark in
      absurd (f.here (b.first.between (bound_moved m.world.state.window x) (omega (arith, base, f.le)) below))
]

call-good : (m : Marked) (a : Asked) (c : Call) → a.state ≡ m.world.state → Bounded m → Good a → Good (asks a c)
call-good m a (Arrive p) same b g = landing-good (landed a.state p) a p (rw same b.order.front) g
call-good m a Up same b g = record { due = g.due; polls = g.polls; above = g.above }
call-good m a Write same b g = record { due = refl; polls = g.polls; above = g.above }
call-good m a ExpireReorder same b g =
    expiry-good a.state.mark a
    (subst (λ (s : State). (x : ℕ) → s.mark ≡ Some x → s.bound ≤ bound_moved s.window x) (sym same) (bound_grows m b))
    g
call-good m a ExpireProhibit same b g = record { due = g.due; polls = g.polls; above = g.above }
call-good m a TickReorder same b g = record { due = g.due; polls = g.polls; above = g.above }
call-good m a TickProhibit same b g = record { due = g.due; polls = g.polls; above = g.above }

landing-state : (l : Landed) (a : Asked) (p : AmdPdu) (s : State) → (asked_on l a p s).state ≡ s
landing-state Kept a p s = refl
landing-state Repeat a p s = refl
landing-state Outside a p s = refl
landing-state Clash a p s = refl

expiry-state : (o : Option ℕ) (a : Asked) (s : State) → (asked_at o a s).state ≡ s
expiry-state None a s = refl
expiry-state (Some x) a s = refl

call-state : (a : Asked) (c : Call) → (asks a c).state ≡ state_after a.state c
call-state a (Arrive p) = landing-state (landed a.state p) a p (state_after a.state (Arrive p))
call-state a Up = refl
call-state a Write = refl
call-state a ExpireReorder = expiry-state a.state.mark a (state_after a.state ExpireReorder)
call-state a ExpireProhibit = refl
call-state a TickReorder = refl
call-state a TickProhibit = refl

run-good : (calls : List Call) (m : Marked) (a : Asked) → a.state ≡ m.world.state → Bounded m → Good a
    → Good (ask calls a)
run-good [] m a same b g = g
run-good (c ∷ cs) m a same b g =
    run-good cs (goes m c) (asks a c) (call-state a c ∙ ap (λ (s : State). state_after s c) same) (goes-bounded m c b)
    (call-good m a c same b g)

pub due_where_asked : (config : AmRxConfig) (calls : List Call)
    → (ask calls (unasked config)).state.due ≡ (ask calls (unasked config)).asked
due_where_asked config calls =
    (run-good calls (marked_outset config) (unasked config) refl (outset-bounded config)
    (record { due = refl; polls = λ n h. refl; above = λ n h. cc })).due
