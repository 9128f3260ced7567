-- VR(MS) is the least number that isn't complete at or above the marks whose timer has expired.
use Rattle.std.proofs.Common.{◌≡◌, ◌<◌, ◌≤◌, inl, inr, ℕ, suc, zero, ◌+◌, ◌-◌, Bool, true, false, List, [], ◌∷◌, length}
use Rattle.std.proofs.Common.{drop, Option, Some, None, max, refl, ap, sym, subst, ◌∙◌, arith, if◌then◌else◌}
use Rattle.std.proofs.lemmas.Grind.{common_steps}
use Rattle.std.proofs.lemmas.Bool.{cases_lt}
use Rattle.std.proofs.lemmas.List.{get_or-drop}
use Rattle.l2_types.specs.declared.AmRxConfig.{AmRxConfig}
use Rattle.rlc_pdu.specs.declared.Landed.{Landed}
use Rattle.rlc_pdu.specs.declared.Landed.TheVariants.{Kept, Repeat, Outside, Clash}
use Rattle.rlc_pdu.specs.Pdus.{AmdPdu}
use Rattle.rlc_am_rx_window.specs.Piece.{piece_of}
use Rattle.rlc_am_rx_window.specs.Held.{Held, is_complete, nothing}
use Rattle.rlc_am_rx_window.specs.Window.{RxWindow, top, offset_of, complete_first, first_incomplete, advanced, slot_at}
use Rattle.rlc_am_rx.specs.State.{State}
use Rattle.rlc_am_rx.specs.Machine.{landed, after_landing, after_reorder, window_with, mark_left, mark_begun}
use Rattle.rlc_am_rx.specs.Machine.{bound_moved}
use Rattle.law_rlc.specs.AmReceiver.Run.{Call, Arrive, Up, Write, ExpireReorder, ExpireProhibit, TickReorder}
use Rattle.law_rlc.specs.AmReceiver.Run.{TickProhibit, Came, came_of, kept_after, IsComplete}
use Rattle.law_rlc.specs.AmReceiver.Bound.{Marked, greatest, goes, go, marked_outset, IsBound}
use Rattle.law_rlc.proofs.AmReceiver.Order.{MarkBelow, InOrder, call-order, fresh-order, top-advanced, kept-length}
use Rattle.law_rlc.proofs.AmReceiver.Least.{Agrees, Keeps, happens-keeps, fresh-keeps, kept-agrees, popped-stops}
use Rattle.law_rlc.proofs.AmReceiver.Least.{complete-by, full-by, still-complete}

full_step : (s : Held) (ss : List Held) (k : ℕ) (b : Bool) → is_complete s ≡ b
    → k < (if b then complete_first ss + 1 else 0)
    → ((j : ℕ) → j < complete_first ss → is_complete (slot_at ss j) ≡ true) → is_complete (slot_at (s ∷ ss) k) ≡ true
full_step s ss k false part h rest = absurd (omega arith)
full_step s ss zero true full h rest = full
full_step s ss (suc k) true full h rest = rest k (omega arith)

-- the numbers that are passed over are complete
lead-full : (slots : List Held) (k : ℕ) → k < complete_first slots → is_complete (slot_at slots k) ≡ true
lead-full [] k h = absurd (omega arith)
lead-full (s ∷ ss) k h = full_step s ss k (is_complete s) refl h (λ j below. lead-full ss j below)

first-full : (slots : List Held) (from k : ℕ) → from ≤ k → k < first_incomplete slots from
    → is_complete (slot_at slots k) ≡ true
first-full slots from k le below =
    let here : is_complete (slot_at (drop from slots) (k - from)) ≡ true =
    lead-full (drop from slots) (k - from) (omega arith) in
    let same : from + (k - from) ≡ k = omega arith in
    ap (λ j. is_complete (slot_at slots j)) (sym same)
    ∙ ap is_complete (sym (get_or-drop from slots (k - from) nothing)) ∙ here

at-first : (xs : List Held) → slot_at xs (complete_first xs) ≡ slot_at (drop (complete_first xs) xs) 0
at-first xs = let same : complete_first xs + 0 ≡ complete_first xs = omega arith in
    sym (get_or-drop (complete_first xs) xs 0 nothing ∙ ap (slot_at xs) same)

-- the one that is reached isn't
first-stops : (slots : List Held) (from : ℕ) → is_complete (slot_at slots (first_incomplete slots from)) ≡ false
first-stops slots from =
    ap is_complete (sym (get_or-drop from slots (complete_first (drop from slots)) nothing))
    ∙ ap is_complete (at-first (drop from slots)) ∙ popped-stops (drop from slots)

-- a number whose slot is full is complete, and the other way round
pub full-complete : (ps : List Came) (front : ℕ) (slots : List Held) → Agrees ps front slots → (k : ℕ)
    → is_complete (slot_at slots k) ≡ true → IsComplete ps (front + k)
full-complete ps front slots a k full =
    complete-by ps (front + k) (slot_at slots k).cells (slot_at slots k).size (a.slots_match k).size
    (a.slots_match k).cells full

pub complete-full : (ps : List Came) (front : ℕ) (slots : List Held) → Agrees ps front slots → (k : ℕ)
    → IsComplete ps (front + k) → is_complete (slot_at slots k) ≡ true
complete-full ps front slots a k done =
    full-by ps (front + k) (slot_at slots k).cells (slot_at slots k).size (a.slots_match k).size
    (a.slots_match k).cells done

-- from a number on, the first that isn't complete
pub record IsFirst (ps : List Came) (from to : ℕ) : Type 0 where
  pub le : from ≤ to
  pub between : (n : ℕ) → from ≤ n → n < to → IsComplete ps n
  pub here : IsComplete ps to → ⊥

pub moved-first : (ps : List Came) (w : RxWindow) (from : ℕ) → Agrees ps w.front w.slots
    → IsFirst ps from (bound_moved w from)
moved-first ps w from a = record {
  le = omega arith;
  between = λ n le below. elim (cases_lt n w.front) [
    | inl passed ↦ a.below n passed
    | inr within ↦ subst (λ (m : ℕ). IsComplete ps m) (omega arith)
        (full-complete ps w.front w.slots a (n - w.front)
        (first-full w.slots (from - w.front) (n - w.front) (omega arith) (omega arith)))
  ];
  here = λ done.
      let full : is_complete (slot_at w.slots (first_incomplete w.slots (from - w.front))) ≡ true =
      complete-full ps w.front w.slots a (first_incomplete w.slots (from - w.front)) done in
      let not_full : is_complete (slot_at w.slots (first_incomplete w.slots (from - w.front))) ≡ false =
      first-stops w.slots (from - w.front) in
      cc;
}

abbrev pub MarkAbove : Option ℕ → ℕ → Type 0
MarkAbove None base = Unit {0}
MarkAbove (Some x) base = base ≤ x

pub record Bounded (m : Marked) : Type 0 where
  pub keeps : Keeps m.world
  pub order : InOrder m.world.state
  pub first : IsBound m
  pub mark : MarkAbove m.world.state.mark m.base
  pub top : m.base ≤ top m.world.state.window

turned-above : (m : Option ℕ) (front top base : ℕ) → base ≤ top → MarkAbove m base
    → MarkAbove (mark_begun (mark_left m front) front top) base
turned-above None front top base le h = grind (arith, common_steps)
turned-above (Some x) front top base le h = grind (arith, common_steps)

landing-bound : (l : Landed) (s : State) (p : AmdPdu) (ps : List Came) (base : ℕ)
    → Bounded (record { world = record { state = s; kept = ps }; base = base })
    → IsBound (record { world = record { state = after_landing l s p; kept = kept_after l s p ps }; base = base })
    × MarkAbove (after_landing l s p).mark base × (base ≤ top (after_landing l s p).window)
landing-bound Kept s p ps base b =
    let a : Agrees (came_of s p ∷ ps) s.window.front (window_with s.window p).slots =
    kept-agrees ps s.window (offset_of s.window.front p.sn) (piece_of p) p.poll b.keeps.agrees in
    let f : IsFirst (came_of s p ∷ ps) s.bound (bound_moved (window_with s.window p) s.bound) =
    moved-first (came_of s p ∷ ps) (window_with s.window p) s.bound a in
    let more : length s.window.slots ≤ length (window_with s.window p).slots =
    kept-length s.window (offset_of s.window.front p.sn) (piece_of p) p.poll in
    let top_is : top (advanced (window_with s.window p)) ≡ top (window_with s.window p) =
    top-advanced (window_with s.window p) in
    let was : base ≤ s.bound = b.first.from in
    let top_was : base ≤ top s.window = b.top in
    let high : base ≤ top (advanced (window_with s.window p)) = omega arith in (
      record {
        from = let le : s.bound ≤ bound_moved (window_with s.window p) s.bound = f.le in omega arith;
        between = λ n le below. elim (cases_lt n s.bound) [
          | inl before ↦ still-complete ps (came_of s p) n (b.first.between n le before)
          | inr past ↦ f.between n past below
        ];
        here = f.here;
      },
      turned-above s.mark (advanced (window_with s.window p)).front (top (advanced (window_with s.window p))) base
          high b.mark,
      high,
    )
landing-bound Repeat s p ps base b =
    (record { from = b.first.from; between = b.first.between; here = b.first.here }, b.mark, b.top)
landing-bound Outside s p ps base b =
    (record { from = b.first.from; between = b.first.between; here = b.first.here }, b.mark, b.top)
landing-bound Clash s p ps base b =
    (record { from = b.first.from; between = b.first.between; here = b.first.here }, b.mark, b.top)

expiry-bound : (o : Option ℕ) (s : State) (ps : List Came) (base : ℕ) → MarkBelow o (top s.window) → MarkAbove o base
    → Bounded (record { world = record { state = s; kept = ps }; base = base })
    → IsBound (record { world = record { state = after_reorder o s; kept = ps }; base = greatest o base })
    × MarkAbove (after_reorder o s).mark (greatest o base) × (greatest o base ≤ top (after_reorder o s).window)
expiry-bound None s ps base below above b =
    (record { from = b.first.from; between = b.first.between; here = b.first.here }, b.mark, b.top)
expiry-bound (Some x) s ps base below above b =
    let f : IsFirst ps x (bound_moved s.window x) = moved-first ps s.window x b.keeps.agrees in
    let high : max base x ≤ top s.window = omega arith in (
      record {
        from = let le : x ≤ bound_moved s.window x = f.le in omega arith;
        between = λ n le under. f.between n (omega arith) under;
        here = f.here;
      },
      grind (arith, common_steps, high),
      high,
    )

-- a call keeps it, by what becomes of the bound, the mark and the window
settled : (m : Marked) (c : Call) → Bounded m → (goes m c).base ≤ (goes m c).world.state.bound
    → ((n : ℕ) → (goes m c).base ≤ n → n < (goes m c).world.state.bound → IsComplete (goes m c).world.kept n)
    → (IsComplete (goes m c).world.kept (goes m c).world.state.bound → ⊥)
    → MarkAbove (goes m c).world.state.mark (goes m c).base → (goes m c).base ≤ top (goes m c).world.state.window
    → Bounded (goes m c)
settled m c b from between here mark top = record {
  keeps = happens-keeps m.world c b.keeps;
  order = call-order m.world.state c b.order;
  first = record { from = from; between = between; here = here };
  mark = mark;
  top = top;
}

pub goes-bounded : (m : Marked) (c : Call) → Bounded m → Bounded (goes m c)
goes-bounded m (Arrive p) b =
    let r = landing-bound (landed m.world.state p) m.world.state p m.world.kept m.base
    (record { keeps = b.keeps; order = b.order; first = b.first; mark = b.mark; top = b.top }) in
    settled m (Arrive p) b r.0.from r.0.between r.0.here r.1 r.2
goes-bounded m ExpireReorder b =
    let r = expiry-bound m.world.state.mark m.world.state m.world.kept m.base b.order.mark b.mark
    (record { keeps = b.keeps; order = b.order; first = b.first; mark = b.mark; top = b.top }) in
    settled m ExpireReorder b r.0.from r.0.between r.0.here r.1 r.2
goes-bounded m Up b = settled m Up b b.first.from b.first.between b.first.here b.mark b.top
goes-bounded m Write b = settled m Write b b.first.from b.first.between b.first.here b.mark b.top
goes-bounded m ExpireProhibit b = settled m ExpireProhibit b b.first.from b.first.between b.first.here b.mark b.top
goes-bounded m TickReorder b = settled m TickReorder b b.first.from b.first.between b.first.here b.mark b.top
goes-bounded m TickProhibit b = settled m TickProhibit b b.first.from b.first.between b.first.here b.mark b.top

pub go-bounded : (calls : List Call) (m : Marked) → Bounded m → Bounded (go calls m)
go-bounded [] m b = b
go-bounded (c ∷ cs) m b = go-bounded cs (goes m c) (goes-bounded m c b)

pub outset-bounded : (config : AmRxConfig) → Bounded (marked_outset config)
outset-bounded config = record {
  keeps = fresh-keeps config;
  order = fresh-order config;
  first = record { from = omega arith; between = λ n le below. absurd (omega arith); here = λ done. cc };
  mark = tt;
  top = omega arith;
}

pub bounded : (config : AmRxConfig) (calls : List Call) → IsBound (go calls (marked_outset config))
bounded config calls = (go-bounded calls (marked_outset config) (outset-bounded config)).first
