-- VR(UR) is the edge, along every run, and what went up is what the accepted numbers below it join to.
use Rattle.std.proofs.Common.{Bool, if◌then◌else◌, ◌++◌, ◌≡◌, ◌<◌, ◌≤◌, inl, inr, ℕ, suc, zero, ◌+◌, ◌-◌, ◌*◌, ◌%◌}
use Rattle.std.proofs.Common.{true, false, List, [], ◌∷◌, length, take, drop, Option, Some, None, is_some, refl, ap}
use Rattle.std.proofs.Common.{sym, subst, ◌∙◌, arith, max, min}
use Rattle.std.proofs.lemmas.List.{length-drop, take_all}
use Rattle.std.proofs.lemmas.Bool.{cases_lt}
use Rattle.std.proofs.lemmas.Bool.Decides.{nat_tests}
use Rattle.std.proofs.Math.Nat.{mod-lt}
use Rattle.rlc_pdu.specs.Pdus.{UmdPdu}
use Rattle.rlc_pdu.specs.declared.outcome.Landed.{Landed}
use Rattle.rlc_pdu.specs.declared.outcome.Landed.TheVariants.{Kept, Repeat, Outside, Clash}
use Rattle.rlc_um.specs.Joined.{Parts, parts_of, nothing_joined, with_numbers}
use Rattle.rlc_um.specs.Window.{Window, top_of, number_of, leading, slot_at, placed, fallen}
use Rattle.rlc_um.specs.Receiver.{State, landed, landing, arrived, arrival, pass, advanced, put, kept, timed, mark_left}
use Rattle.rlc_um.specs.Receiver.{mark_begun, after_landing, at_mark, after_expiry, expired, all_joined}
use Rattle.law_rlc.specs.UmPair.Run.{Call, Arrive, Expire, Tick, Up, World, Accepted, fresh, accepts, mark_after}
use Rattle.law_rlc.specs.UmPair.Run.{happens, run_um_receiver, found, is_accepted, joined_below, read_number, IsEdge}
use Rattle.law_rlc.specs.UmPair.Run.{IsHandedUp}
use Rattle.law_rlc.specs.UmPair.Run.{IsFinished, IsBounded}
use Rattle.law_rlc.proofs.UmPair.Joins.{Follows, follows-up}
use Rattle.law_rlc.proofs.UmPair.Places.{leading-le, leading-some, leading-stop, slot-drop, length-placed, Sound}
use Rattle.law_rlc.proofs.UmPair.Places.{sound-pass, sound-place, found-else}

abbrev pub or_zero : Option ℕ → ℕ
or_zero None = 0
or_zero (Some x) = x

-- a state with what was accepted, one above the greatest number, and the greatest mark that has expired
pub record Stands (log : List Accepted) (top mark : ℕ) (gone : List (List ℕ)) (s : State) : Type 0 where
  pub wide : 0 < s.window.width
  pub first : 2 * s.window.width ≤ mark
  pub below_top : s.window.edge + length s.window.slots ≤ top
  pub from_mark : mark ≤ s.window.edge
  pub from_top : top ≤ s.window.edge + s.window.width
  pub marked : or_zero s.mark ≤ top
  pub sound : Sound log (2 * s.window.width) s.window.edge s.window.slots gone s.joined
  pub between : (n : ℕ) → mark ≤ n → top ≤ n + s.window.width → n < s.window.edge → is_accepted log n ≡ true

-- VR(UH) is the top, and nothing is there at the edge
pub record Rests (log : List Accepted) (top mark : ℕ) (gone : List (List ℕ)) (s : State) : Type 0 where
  pub stands : Stands log top mark gone s
  pub top_is : s.window.edge + length s.window.slots ≡ top
  pub here : is_some (slot_at s.window.slots 0) ≡ false

-- the numbers that are passed lie below the base, or were received
pass-stands : (log : List Accepted) (top top' mark mark' : ℕ) (gone : List (List ℕ)) (s : State) (n : ℕ)
    → n ≤ length s.window.slots → top ≤ top' → top' ≤ s.window.edge + n + s.window.width → mark ≤ mark'
    → mark' ≤ s.window.edge + n
    → ((k : ℕ) → k < n → mark' ≤ s.window.edge + k → top' ≤ s.window.edge + k + s.window.width
    → is_some (slot_at s.window.slots k) ≡ true)
    → 0 < s.window.width → 2 * s.window.width ≤ mark → s.window.edge + length s.window.slots ≤ top
    → or_zero s.mark ≤ top
    → Sound log (2 * s.window.width) s.window.edge s.window.slots gone s.joined
    → ((k : ℕ) → mark ≤ k → top ≤ k + s.window.width → k < s.window.edge → is_accepted log k ≡ true)
    → Stands log top' mark' gone (pass n s)
pass-stands log top top' mark mark' gone s n within higher reach up to all wide first below_top marked sound between =
    let all_of : min n (length s.window.slots) ≡ n = omega arith in
    let there : length (drop n s.window.slots) ≡ length s.window.slots - n = length-drop n s.window.slots in
    record {
      wide = wide;
      first = omega arith;
      below_top = omega (arith, all_of, there);
      from_mark = omega (arith, all_of);
      from_top = omega (arith, all_of);
      marked = omega arith;
      sound =
          subst (λ (f : ℕ). Sound log (2 * s.window.width) (s.window.edge + f) (drop n s.window.slots) gone
          (with_numbers (take n s.window.slots) s.joined)) (sym all_of)
          (sound-pass n log (2 * s.window.width) s.window.edge s.window.slots gone s.joined within sound);
      between = λ k a b c. elim (cases_lt k s.window.edge) [
        | inl below ↦ between k (omega arith) (omega arith) below
        | inr above ↦
            let at : s.window.edge + (k - s.window.edge) ≡ k = omega arith in
            let got : is_some (slot_at s.window.slots (k - s.window.edge)) ≡ true =
            all (k - s.window.edge) (omega (arith, all_of)) (omega arith) (omega arith) in
            ap is_some (ap (found log) (sym at) ∙ sym (sound.slots_are (k - s.window.edge))) ∙ got
      ];
    }

-- past the received numbers that stand first
advanced-rests : (log : List Accepted) (top mark : ℕ) (gone : List (List ℕ)) (s : State)
    → s.window.edge + length s.window.slots ≡ top → Stands log top mark gone s → Rests log top mark gone (advanced s)
advanced-rests log top mark gone s same h =
    let le = leading-le s.window.slots in
    let fm = h.from_mark in
    let ft = h.from_top in
    let e : leading s.window.slots + 0 ≡ leading s.window.slots = omega arith in
    let all_of : min (leading s.window.slots) (length s.window.slots) ≡ leading s.window.slots = omega arith in
    let there : length (drop (leading s.window.slots) s.window.slots)
    ≡ length s.window.slots - leading s.window.slots = length-drop (leading s.window.slots) s.window.slots in
    record {
      stands = pass-stands log top top mark mark gone s (leading s.window.slots) le (omega arith) (omega arith)
          (omega arith) (omega arith) (λ k below a b. leading-some s.window.slots k below)
          h.wide h.first h.below_top h.marked h.sound h.between;
      top_is = omega (arith, all_of, there);
      here = ap is_some (slot-drop (leading s.window.slots) 0 s.window.slots ∙ ap (slot_at s.window.slots) e)
          ∙ leading-stop s.window.slots;
    }

begun-within : (o : Option ℕ) (front top : ℕ) → or_zero o ≤ top
    → or_zero (mark_begun (mark_left o front) front top) ≤ top
begun-within None front top h = grind (arith, nat_tests)
begun-within (Some x) front top h = grind (arith, nat_tests)

timed-rests : (log : List Accepted) (top mark : ℕ) (gone : List (List ℕ)) (s : State) → Rests log top mark gone s
    → Rests log top mark gone (timed s)
timed-rests log top mark gone s r =
    let h = r.stands in
    let m : or_zero s.mark ≤ s.window.edge + length s.window.slots = let a = h.marked in let b = r.top_is in
    omega arith in
    let w : or_zero (mark_begun (mark_left s.mark s.window.edge) s.window.edge (top_of s.window)) ≤ top = let a =
    begun-within s.mark s.window.edge (top_of s.window) m in let b = r.top_is in omega arith in
    record {
      stands = record {
        wide = h.wide;
        first = h.first;
        below_top = h.below_top;
        from_mark = h.from_mark;
        from_top = h.from_top;
        marked = w;
        sound = h.sound;
        between = h.between;
      };
      top_is = r.top_is;
      here = r.here;
    }

accepted-more : (a : Accepted) (log : List Accepted) (n : ℕ) → (a.number ≡ n → ⊥) → is_accepted log n ≡ true
    → is_accepted (a ∷ log) n ≡ true
accepted-more a log n other h = ap is_some (found-else a log n other) ∙ h

-- a PDU is kept at a place of the window
place-stands : (log : List Accepted) (top mark : ℕ) (gone : List (List ℕ)) (s : State) (at : ℕ) (p : Parts)
    → s.window.edge + at + 1 ≤ top → Stands log top mark gone s
    → Stands (record { number = s.window.edge + at; parts = p } ∷ log) top mark gone
    (record s { window = record s.window { slots = placed s.window.slots at p } })
place-stands log top mark gone s at p within h =
    let len = length-placed s.window.slots at p in
    let b = h.below_top in
    record {
      wide = h.wide;
      first = h.first;
      below_top = omega (arith, len);
      from_mark = h.from_mark;
      from_top = h.from_top;
      marked = h.marked;
      sound = sound-place log (2 * s.window.width) s.window.edge at p s.window.slots gone s.joined h.sound;
      between = λ n a b c. accepted-more (record { number = s.window.edge + at; parts = p }) log n (λ e. omega arith)
          (h.between n a b c);
    }

kept-rests : (log : List Accepted) (top mark : ℕ) (gone : List (List ℕ)) (s : State) (at : ℕ) (p : Parts)
    → at < length s.window.slots + s.window.width → Rests log top mark gone s
    → Rests (record { number = s.window.edge + at; parts = p } ∷ log) (max top (s.window.edge + at + 1)) mark gone
    (timed (kept at p s))
kept-rests log top mark gone s at p within r =
    let h = r.stands in
    let t = r.top_is in
    let w = h.wide in
    let fm = h.from_mark in
    let ft = h.from_top in
    let n : ℕ = fallen s.window at in
    let few : at + 1 - s.window.width ≤ length s.window.slots = omega arith in
    let all_of : min (at + 1 - s.window.width) (length s.window.slots) ≡ at + 1 - s.window.width = omega arith in
    let passed_on : Stands log (max top (s.window.edge + at + 1)) mark gone (pass (at + 1 - s.window.width) s) =
    pass-stands log top (max top (s.window.edge + at + 1)) mark mark gone s (at + 1 - s.window.width) few
    (omega arith) (omega arith) (omega arith) (omega arith) (λ k a b c. absurd (omega arith))
    h.wide h.first h.below_top h.marked h.sound h.between in
    let place : s.window.edge + min (at + 1 - s.window.width) (length s.window.slots)
    + (at - (at + 1 - s.window.width)) ≡ s.window.edge + at = omega arith in
    let there : length (drop (at + 1 - s.window.width) s.window.slots)
    ≡ length s.window.slots - (at + 1 - s.window.width) = length-drop (at + 1 - s.window.width) s.window.slots in
    let len = length-placed (drop (at + 1 - s.window.width) s.window.slots) (at - (at + 1 - s.window.width)) p in
    let put_on : Stands (record { number = s.window.edge + at; parts = p } ∷ log) (max top (s.window.edge + at + 1))
    mark gone (put at p s) =
    subst (λ (x : ℕ). Stands (record { number = x; parts = p } ∷ log) (max top (s.window.edge + at + 1)) mark gone
    (put at p s)) place
    (place-stands log (max top (s.window.edge + at + 1)) mark gone (pass (at + 1 - s.window.width) s)
    (at - (at + 1 - s.window.width)) p (omega arith) passed_on) in
    timed-rests (record { number = s.window.edge + at; parts = p } ∷ log) (max top (s.window.edge + at + 1)) mark gone
    (kept at p s)
    (advanced-rests (record { number = s.window.edge + at; parts = p } ∷ log) (max top (s.window.edge + at + 1)) mark
    gone (put at p s) (omega arith) put_on)

there-within : (slots : List (Option Parts)) (k : ℕ) → is_some (slot_at slots k) ≡ true → k < length slots
there-within [] k e = absurd cc
there-within (s ∷ ss) zero e = omega arith
there-within (s ∷ ss) (suc k) e = let ih = there-within ss k e in omega arith

-- a repeat lies below the top
repeat-below : (s : State) (x : ℕ) → landed s x ≡ Repeat → x + 1 ≤ s.window.edge + length s.window.slots
repeat-below s x e = elim (cases_lt x s.window.edge) [
  | inl below ↦ omega arith
  | inr above ↦
      let got : is_some (slot_at s.window.slots (x - s.window.edge)) ≡ true = grind (arith, nat_tests, e) in
      let g = there-within s.window.slots (x - s.window.edge) got in omega arith
]

never-outside : (b : Bool) → (if b then Repeat else Kept) ≡ Outside → ⊥
never-outside true e = cc
never-outside false e = cc

never-clash : (b : Bool) → (if b then Repeat else Kept) ≡ Clash → ⊥
never-clash true e = cc
never-clash false e = cc

-- a PDU comes with a number of the window
landing-rests : (l : Landed) (log : List Accepted) (top mark : ℕ) (gone : List (List ℕ)) (s : State) (x : ℕ)
    (p : Parts) → landed s x ≡ l → x < top + s.window.width → Rests log top mark gone s
    → Rests (accepts l x p log) (max top (x + 1)) mark gone (after_landing l x p s)
landing-rests Kept log top mark gone s x p e within r =
    let t = r.top_is in
    let above : s.window.edge ≤ x = grind (arith, nat_tests, e) in
    let at : s.window.edge + (x - s.window.edge) ≡ x = omega arith in
    subst (λ (y : ℕ). Rests (record { number = y; parts = p } ∷ log) (max top (y + 1)) mark gone
    (timed (kept (x - s.window.edge) p s))) at
    (kept-rests log top mark gone s (x - s.window.edge) p (omega arith) r)
landing-rests Repeat log top mark gone s x p e within r =
    let t = r.top_is in
    let old : x + 1 ≤ top = let g = repeat-below s x e in omega arith in
    let same : max top (x + 1) ≡ top = omega arith in
    subst (λ (y : ℕ). Rests log y mark gone s) (sym same) r
landing-rests Outside log top mark gone s x p e within r = absurd (never-outside _ e)
landing-rests Clash log top mark gone s x p e within r = absurd (never-clash _ e)

-- a timer expires
expiry-rests : (m : Option ℕ) (log : List Accepted) (top mark : ℕ) (gone : List (List ℕ)) (s : State) → s.mark ≡ m
    → Rests log top mark gone s → Rests log top (mark_after m mark) gone (after_expiry m s)
expiry-rests None log top mark gone s e r = r
expiry-rests (Some x) log top mark gone s e r =
    let h = r.stands in
    let t = r.top_is in
    let fm = h.from_mark in
    let ft = h.from_top in
    let bound : or_zero (Some x) ≤ top = subst (λ (o : Option ℕ). or_zero o ≤ top) e h.marked in
    let few : x - s.window.edge ≤ length s.window.slots = omega arith in
    let all_of : min (x - s.window.edge) (length s.window.slots) ≡ x - s.window.edge = omega arith in
    let there : length (drop (x - s.window.edge) s.window.slots) ≡ length s.window.slots - (x - s.window.edge) =
    length-drop (x - s.window.edge) s.window.slots in
    let passed_on : Stands log top (max mark x) gone (pass (x - s.window.edge) s) =
    pass-stands log top top mark (max mark x) gone s (x - s.window.edge) few (omega arith) (omega arith) (omega arith)
    (omega arith) (λ k a b c. absurd (omega arith))
    h.wide h.first h.below_top h.marked h.sound h.between in
    let r1 = advanced-rests log top (max mark x) gone (pass (x - s.window.edge) s) (omega arith) passed_on in
    let h1 = r1.stands in
    timed-rests log top (max mark x) gone (at_mark x s)
    (record {
      stands = record {
        wide = h1.wide;
        first = h1.first;
        below_top = h1.below_top;
        from_mark = h1.from_mark;
        from_top = h1.from_top;
        marked = omega arith;
        sound = h1.sound;
        between = h1.between;
      };
      top_is = r1.top_is;
      here = r1.here;
    })

number-below : (w : Window) (sn : ℕ) → 0 < w.width → 2 * w.width ≤ top_of w → number_of w sn < top_of w + w.width
number-below w sn h g = let p : 0 < 2 * w.width = omega arith in
    let m = mod-lt (sn + 2 * w.width - (top_of w - w.width) % (2 * w.width)) p in omega arith

pub record Keeps (w : World) : Type 0 where
  pub rests : Rests w.accepted w.top w.mark w.gone w.state

abbrev pub came : ℕ → Parts → World → World
came x p w = record w {
  state = arrived x p w.state;
  accepted = accepts (landed w.state x) x p w.accepted;
  top = max w.top (x + 1);
}

pub comes-is : (w : World) (pdu : UmdPdu) → happens w (Arrive pdu) ≡ came (read_number pdu w) (parts_of pdu) w
unfolding landing arrival
comes-is w pdu = refl

abbrev pub ended : World → World
ended w = record w { state = after_expiry w.state.mark w.state; mark = mark_after w.state.mark w.mark }

pub ends-is : (w : World) → happens w Expire ≡ ended w
unfolding expired
ends-is w = refl

pub happens-keeps : (w : World) (c : Call) → Keeps w → Keeps (happens w c)
happens-keeps w (Arrive pdu) k =
    let r = k.rests in
    let h = r.stands in
    let t = r.top_is in
    let f = h.first in
    let fm = h.from_mark in
    let b = number-below w.state.window pdu.sn h.wide (omega arith) in
    subst Keeps (sym (comes-is w pdu))
    (record {
      rests =
          landing-rests (landed w.state (read_number pdu w)) w.accepted w.top w.mark w.gone w.state (read_number pdu w)
          (parts_of pdu) refl (omega arith) r;
    })
happens-keeps w Expire k =
    subst Keeps (sym (ends-is w))
    (record { rests = expiry-rests w.state.mark w.accepted w.top w.mark w.gone w.state refl k.rests })
happens-keeps w Tick k =
    let r = k.rests in
    let h = r.stands in
    record {
      rests = record {
        stands = record {
          wide = h.wide;
          first = h.first;
          below_top = h.below_top;
          from_mark = h.from_mark;
          from_top = h.from_top;
          marked = h.marked;
          sound = h.sound;
          between = h.between;
        };
        top_is = r.top_is;
        here = r.here;
      };
    }
happens-keeps w Up k =
    let r = k.rests in
    let h = r.stands in
    record {
      rests = record {
        stands = record {
          wide = h.wide;
          first = h.first;
          below_top = h.below_top;
          from_mark = h.from_mark;
          from_top = h.from_top;
          marked = h.marked;
          sound = record {
            low = h.sound.low;
            slots_are = h.sound.slots_are;
            joined =
                follows-up w.gone w.state.joined
                (joined_below w.accepted (2 * w.state.window.width) w.state.window.edge) h.sound.joined;
          };
          between = h.between;
        };
        top_is = r.top_is;
        here = r.here;
      };
    }

run-keeps : (calls : List Call) (w : World) → Keeps w → Keeps (run_um_receiver calls w)
run-keeps [] w k = k
run-keeps (c ∷ cs) w k = run-keeps cs (happens w c) (happens-keeps w c k)

pub at-start : (width span : ℕ) → 0 < width → Keeps (fresh width span)
at-start width span h = record {
  rests = record {
    stands = record {
      wide = h;
      first = omega arith;
      below_top = omega arith;
      from_mark = omega arith;
      from_top = omega arith;
      marked = omega arith;
      sound = record { low = omega arith; slots_are = λ k. refl; joined = empty };
      between = λ n a b c. absurd (omega arith);
    };
    top_is = omega arith;
    here = refl;
  };
}
  where
    empty : Follows [] nothing_joined (joined_below [] (2 * width) (2 * width))
    empty = let e : 2 * width - 2 * width ≡ 0 = omega arith in rw e (record { ready = refl; part = refl })

pub edge : (width span : ℕ) → 0 < width → (calls : List Call) → IsEdge (run_um_receiver calls (fresh width span))
edge width span h calls =
    let k : Keeps (run_um_receiver calls (fresh width span)) =
    run-keeps calls (fresh width span) (at-start width span h) in
    let w : World = run_um_receiver calls (fresh width span) in
    let r = k.rests in
    let s = r.stands in
    let fm = s.from_mark in
    let ft = s.from_top in
    let z : w.state.window.edge + 0 ≡ w.state.window.edge = omega arith in
    record {
      top = r.top_is;
      from = omega arith;
      between = λ n a b. s.between n (omega arith) (omega arith) b;
      here = ap is_some (ap (found w.accepted) (sym z) ∙ sym (s.sound.slots_are 0)) ∙ r.here;
    }

pub handed_up : (width span : ℕ) → 0 < width → (calls : List Call)
    → IsHandedUp (run_um_receiver calls (fresh width span))
handed_up width span h calls =
    let k : Keeps (run_um_receiver calls (fresh width span)) =
    run-keeps calls (fresh width span) (at-start width span h) in
    record { ready = k.rests.stands.sound.joined.ready; part = k.rests.stands.sound.joined.part }

all-is : (s : State) → all_joined s ≡ (with_numbers s.window.slots s.joined).ready
unfolding all_joined
all-is s = refl

pub finished_all : (width span : ℕ) → 0 < width → (calls : List Call)
    → IsFinished (run_um_receiver calls (fresh width span))
finished_all width span h calls =
    let k : Keeps (run_um_receiver calls (fresh width span)) =
    run-keeps calls (fresh width span) (at-start width span h) in
    let w : World = run_um_receiver calls (fresh width span) in
    let r = k.rests in
    let p = sound-pass (length w.state.window.slots) w.accepted (2 * w.state.window.width) w.state.window.edge
    w.state.window.slots w.gone w.state.joined (omega arith) r.stands.sound in
    ap (λ (l : List (List ℕ)). w.gone ++ l) (all-is w.state)
    ∙ ap (λ (ss : List (Option Parts)). w.gone ++ (with_numbers ss w.state.joined).ready)
    (sym (take_all (length w.state.window.slots) w.state.window.slots (omega arith)))
    ∙ p.joined.ready ∙ ap (λ (n : ℕ). (joined_below w.accepted (2 * w.state.window.width) n).ready) r.top_is

pub bounded : (width reorder : ℕ) → 0 < width → (calls : List Call)
    → IsBounded (run_um_receiver calls (fresh width reorder))
bounded width reorder h calls =
    let k : Keeps (run_um_receiver calls (fresh width reorder)) =
    run-keeps calls (fresh width reorder) (at-start width reorder h) in
    let t = k.rests.top_is in
    let f = k.rests.stands.from_top in
    omega arith
