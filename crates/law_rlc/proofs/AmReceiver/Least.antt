-- VR(R) is the least number that isn't complete, along every run.
use Rattle.std.proofs.Common.{◌≡◌, ◌<◌, ◌≤◌, inl, inr, ℕ, suc, ◌+◌, ◌-◌, Bool, true, false, ◌||◌, ◌&&◌, List, [], ◌∷◌}
use Rattle.std.proofs.Common.{length, drop, replicate, Option, Some, None, refl, ap, sym, subst, ◌∙◌, arith, add-one}
use Rattle.std.proofs.Common.{length-append, nat_le, nat_lt, ◌==◌, get_or-set_same, get_or-set_other, if◌then◌else◌}
use Rattle.std.proofs.lemmas.Grind.{common_steps}
use Rattle.std.proofs.lemmas.Bool.{cases_eq, or_right, ne_eqb, eq-eqb}
use Rattle.std.proofs.Math.ListN.{length-replicate}
use Rattle.l2_types.specs.declared.AmRxConfig.{AmRxConfig}
use Rattle.rlc_pdu.specs.declared.Landed.{Landed}
use Rattle.rlc_pdu.specs.declared.Landed.TheVariants.{Kept, Repeat, Outside, Clash}
use Rattle.rlc_pdu.specs.Pdus.{AmdPdu}
use Rattle.rlc_am_rx_window.specs.Cells.{Cell}
use Rattle.rlc_am_rx_window.specs.Piece.{Piece, piece_of, end_of}
use Rattle.rlc_am_rx_window.specs.Held.{Held, is_complete, is_full, nothing, with_piece, told_size}
use Rattle.rlc_am_rx_window.specs.Window.{RxWindow, offset_of, complete_first, widened, with_kept, slot_at}
use Rattle.rlc_am_rx.specs.State.{State}
use Rattle.rlc_am_rx.specs.Machine.{landed, after_landing, after_reorder, window_with}
use Rattle.law_rlc.specs.AmReceiver.Run.{Call, Arrive, Up, Write, ExpireReorder, ExpireProhibit, TickReorder}
use Rattle.law_rlc.specs.AmReceiver.Run.{TickProhibit, World, Came, came_of, kept_after, happens, run_am_receiver}
use Rattle.law_rlc.specs.AmReceiver.Run.{begin, covers}
use Rattle.law_rlc.specs.AmReceiver.Run.{place_has_come, told, size_told_by, IsComplete, IsFirst}
use Rattle.law_rlc.proofs.AmReceiver.Places.{there, get_or-padded, laid_there, holds-each, each-holds}

-- what is held of a number is what has come of it
pub record Matches (ps : List Came) (n : ℕ) (h : Held) : Type 0 where
  pub cells : (i : ℕ) → there h.cells i ≡ place_has_come ps n i
  pub size : h.size ≡ told ps n

pub record Agrees (ps : List Came) (front : ℕ) (slots : List Held) : Type 0 where
  pub slots_match : (k : ℕ) → Matches ps (front + k) (slot_at slots k)
  pub below : (n : ℕ) → n < front → IsComplete ps n

-- a length and cells that match the pieces, and are full: the number is complete
pub complete-by : (ps : List Came) (n : ℕ) (cells : List (Option Cell)) (size : Option ℕ) → size ≡ told ps n
    → ((i : ℕ) → there cells i ≡ place_has_come ps n i) → is_full cells size ≡ true → IsComplete ps n
complete-by ps n cells None e m full = cc
complete-by ps n cells (Some size) e m full = (size, sym e, λ i below. sym (m i) ∙ holds-each cells size full i below)

pub full-by : (ps : List Came) (n : ℕ) (cells : List (Option Cell)) (size : Option ℕ) → size ≡ told ps n
    → ((i : ℕ) → there cells i ≡ place_has_come ps n i) → IsComplete ps n → is_full cells size ≡ true
full-by ps n cells None e m done = let same = e ∙ done.1 in cc
full-by ps n cells (Some size) e m done =
    let same : Some size ≡ Some done.0 = e ∙ done.1 in
    let same_size : size ≡ done.0 = cc in
    each-holds cells size (λ i below. m i ∙ done.2 i (omega arith))

-- one more piece leaves a complete number complete
pub still-complete : (ps : List Came) (p : Came) (n : ℕ) → IsComplete ps n → IsComplete (p ∷ ps) n
still-complete ps p n done = (
  done.0,
  ap (λ o. size_told_by o p n) done.1,
  λ i below. let was : place_has_come ps n i ≡ true = done.2 i below in
      or_right (covers p n i) (place_has_come ps n i) was,
)

-- a piece of another number changes nothing of this one
matches-other : (ps : List Came) (p : Came) (n : ℕ) (h : Held) → (p.number ≡ n → ⊥) → Matches ps n h
    → Matches (p ∷ ps) n h
matches-other ps p n h other m =
    let not_n : (p.number == n) ≡ false = ne_eqb p.number n other in
    record {
      cells = λ i. m.cells i
          ∙ sym (ap (λ b. (b && (nat_le p.piece.so i && nat_lt i (end_of p.piece))) || place_has_come ps n i) not_n);
      size = m.size ∙ sym (unchanged (told ps n) not_n);
    }
  where
    unchanged : (o : Option ℕ) → (p.number == n) ≡ false → size_told_by o p n ≡ o
    unchanged None not_n = grind (arith, common_steps, not_n)
    unchanged (Some x) not_n = refl

matches-same : (ps : List Came) (n : ℕ) (p : Piece) (poll : Bool) (h : Held) → Matches ps n h
    → Matches (record { number = n; piece = p } ∷ ps) n (with_piece h p poll)
matches-same ps n p poll h m =
    let is_n : (n == n) ≡ true = eq-eqb n n refl in
    record {
      cells = λ i. laid_there h.cells p.so p.cells i ∙ ap (λ b. (nat_le p.so i && nat_lt i (end_of p)) || b) (m.cells i)
          ∙ sym (ap (λ b. (b && (nat_le p.so i && nat_lt i (end_of p))) || place_has_come ps n i) is_n);
      size = ap (λ o. told_size o p.last (end_of p)) m.size ∙ sizes (told ps n) is_n;
    }
  where
    sizes : (o : Option ℕ) → (n == n) ≡ true
        → told_size o p.last (end_of p) ≡ size_told_by o (record { number = n; piece = p }) n
    sizes None is_n = grind (arith, common_steps, is_n)
    sizes (Some x) is_n = refl

-- the window with a piece kept at a place
pub slot-widened : (slots : List Held) (size k : ℕ) → slot_at (widened slots size) k ≡ slot_at slots k
slot-widened slots size k = get_or-padded slots (size - length slots) k nothing

length-widened : (slots : List Held) (size : ℕ) → size ≤ length (widened slots size)
length-widened slots size =
    omega (
      arith,
      add-one,
      length-append slots (replicate (size - length slots) nothing),
      length-replicate {A = Held} (size - length slots) nothing,
    )

pub kept-same : (w : RxWindow) (at : ℕ) (p : Piece) (poll : Bool)
    → slot_at (with_kept w at p poll).slots at ≡ with_piece (slot_at w.slots at) p poll
kept-same w at p poll =
    get_or-set_same (widened w.slots (at + 1)) at (with_piece (slot_at (widened w.slots (at + 1)) at) p poll) nothing
    (omega (arith, length-widened w.slots (at + 1)))
    ∙ ap (λ h. with_piece h p poll) (slot-widened w.slots (at + 1) at)

pub kept-other : (w : RxWindow) (at : ℕ) (p : Piece) (poll : Bool) (k : ℕ) → (k ≡ at → ⊥)
    → slot_at (with_kept w at p poll).slots k ≡ slot_at w.slots k
kept-other w at p poll k other =
    get_or-set_other (widened w.slots (at + 1)) at k (with_piece (slot_at (widened w.slots (at + 1)) at) p poll)
    nothing other
    ∙ slot-widened w.slots (at + 1) k

pub kept-agrees : (ps : List Came) (w : RxWindow) (at : ℕ) (p : Piece) (poll : Bool) → Agrees ps w.front w.slots
    → Agrees (record { number = w.front + at; piece = p } ∷ ps) w.front (with_kept w at p poll).slots
kept-agrees ps w at p poll a = record {
  slots_match = λ k. elim (cases_eq k at) [
    | inl same ↦ subst (λ (j : ℕ). Matches (one ∷ ps) (w.front + j) (slot_at after j)) (sym same)
        (subst (λ (h : Held). Matches (one ∷ ps) (w.front + at) h) (sym (kept-same w at p poll))
        (matches-same ps (w.front + at) p poll (slot_at w.slots at) (a.slots_match at)))
    | inr other ↦ subst (λ (h : Held). Matches (one ∷ ps) (w.front + k) h) (sym (kept-other w at p poll k other))
        (matches-other ps one (w.front + k) (slot_at w.slots k) (λ e. other (omega arith)) (a.slots_match k))
  ];
  below = λ n h. still-complete ps one n (a.below n h);
}
  where
    one : Came
    one = record { number = w.front + at; piece = p }

    after : List Held
    after = (with_kept w at p poll).slots

-- the front moves past a complete number
pop-agrees : (ps : List Came) (front : ℕ) (h : Held) (hs : List Held) → is_complete h ≡ true
    → Agrees ps front (h ∷ hs) → Agrees ps (front + 1) hs
pop-agrees ps front h hs full a = record {
  slots_match = λ k. subst (λ (n : ℕ). Matches ps n (slot_at hs k)) (omega arith) (a.slots_match (suc k));
  below = λ n below. elim (cases_eq n front) [
    | inl same ↦ subst (λ (m : ℕ). IsComplete ps m) (omega arith)
        (complete-by ps (front + 0) h.cells h.size (a.slots_match 0).size (a.slots_match 0).cells full)
    | inr other ↦ a.below n (omega arith)
  ];
}

popped-step : (ps : List Came) (front : ℕ) (h : Held) (hs : List Held) (b : Bool)
    → (b ≡ true → Agrees ps (front + 1 + complete_first hs) (drop (complete_first hs) hs)) → Agrees ps front (h ∷ hs)
    → Agrees ps (front + (if b then complete_first hs + 1 else 0))
    (drop (if b then complete_first hs + 1 else 0) (h ∷ hs))
popped-step ps front h hs true rest a =
    let same : front + 1 + complete_first hs ≡ front + suc (complete_first hs) = omega arith in
    rw (add-one (complete_first hs)) (subst (λ (n : ℕ). Agrees ps n (drop (complete_first hs) hs)) same (rest refl))
popped-step ps front h hs false rest a = subst (λ (n : ℕ). Agrees ps n (h ∷ hs)) (omega arith) a

pub popped-agrees : (ps : List Came) (slots : List Held) (front : ℕ) → Agrees ps front slots
    → Agrees ps (front + complete_first slots) (drop (complete_first slots) slots)
popped-agrees ps [] front a = subst (λ (n : ℕ). Agrees ps n []) (omega arith) a
popped-agrees ps (h ∷ hs) front a =
    popped-step ps front h hs (is_complete h)
    (λ full. popped-agrees ps hs (front + 1) (pop-agrees ps front h hs full a)) a

-- and stops before one that isn't
stops-step : (h : Held) (hs : List Held) (b : Bool) → is_complete h ≡ b
    → is_complete (slot_at (drop (complete_first hs) hs) 0) ≡ false
    → is_complete (slot_at (drop (if b then complete_first hs + 1 else 0) (h ∷ hs)) 0) ≡ false
stops-step h hs true full rest = rw (add-one (complete_first hs)) rest
stops-step h hs false part rest = part

pub popped-stops : (slots : List Held) → is_complete (slot_at (drop (complete_first slots) slots) 0) ≡ false
popped-stops [] = refl
popped-stops (h ∷ hs) = stops-step h hs (is_complete h) refl (popped-stops hs)

least-by : (ps : List Came) (front : ℕ) (slots : List Held) → Agrees ps front slots
    → is_complete (slot_at slots 0) ≡ false → IsComplete ps front → ⊥
least-by ps front slots a not_full done =
    let at : IsComplete ps (front + 0) = subst (λ (n : ℕ). IsComplete ps n) (omega arith) done in
    let full : is_complete (slot_at slots 0) ≡ true =
    full-by ps (front + 0) (slot_at slots 0).cells (slot_at slots 0).size (a.slots_match 0).size
    (a.slots_match 0).cells at in
    cc

-- what holds along a run
pub record Keeps (w : World) : Type 0 where
  pub agrees : Agrees w.kept w.state.window.front w.state.window.slots
  pub stops : is_complete (slot_at w.state.window.slots 0) ≡ false

landing-keeps : (l : Landed) (s : State) (p : AmdPdu) (ps : List Came) → Keeps (record { state = s; kept = ps })
    → Keeps (record { state = after_landing l s p; kept = kept_after l s p ps })
landing-keeps Kept s p ps k = record {
  agrees = popped-agrees (came_of s p ∷ ps) (window_with s.window p).slots s.window.front
      (kept-agrees ps s.window (offset_of s.window.front p.sn) (piece_of p) p.poll k.agrees);
  stops = popped-stops (window_with s.window p).slots;
}
landing-keeps Repeat s p ps k = record { agrees = k.agrees; stops = k.stops }
landing-keeps Outside s p ps k = record { agrees = k.agrees; stops = k.stops }
landing-keeps Clash s p ps k = record { agrees = k.agrees; stops = k.stops }

expiry-keeps : (m : Option ℕ) (s : State) (ps : List Came) → Keeps (record { state = s; kept = ps })
    → Keeps (record { state = after_reorder m s; kept = ps })
expiry-keeps None s ps k = k
expiry-keeps (Some x) s ps k = record { agrees = k.agrees; stops = k.stops }

pub happens-keeps : (w : World) (c : Call) → Keeps w → Keeps (happens w c)
happens-keeps w (Arrive p) k = landing-keeps (landed w.state p) w.state p w.kept k
happens-keeps w Up k = record { agrees = k.agrees; stops = k.stops }
happens-keeps w Write k = record { agrees = k.agrees; stops = k.stops }
happens-keeps w ExpireReorder k = expiry-keeps w.state.mark w.state w.kept k
happens-keeps w ExpireProhibit k = record { agrees = k.agrees; stops = k.stops }
happens-keeps w TickReorder k = record { agrees = k.agrees; stops = k.stops }
happens-keeps w TickProhibit k = record { agrees = k.agrees; stops = k.stops }

pub run-keeps : (calls : List Call) (w : World) → Keeps w → Keeps (run_am_receiver calls w)
run-keeps [] w k = k
run-keeps (c ∷ cs) w k = run-keeps cs (happens w c) (happens-keeps w c k)

pub fresh-keeps : (config : AmRxConfig) → Keeps (begin config)
fresh-keeps config = record {
  agrees = record { slots_match = λ k. record { cells = λ i. refl; size = refl }; below = λ n h. absurd (omega arith) };
  stops = refl;
}

pub least : (config : AmRxConfig) (calls : List Call) → IsFirst (run_am_receiver calls (begin config))
least config calls =
    let k : Keeps (run_am_receiver calls (begin config)) = run-keeps calls (begin config) (fresh-keeps config) in
    let w : World = run_am_receiver calls (begin config) in
    record { below = k.agrees.below; here = least-by w.kept w.state.window.front w.state.window.slots k.agrees k.stops }
