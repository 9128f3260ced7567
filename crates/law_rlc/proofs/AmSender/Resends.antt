-- What is sent again is what waits first.
use Rattle.std.proofs.Common.{◌≡◌, ◌<◌, ◌≤◌, ℕ, suc, zero, ◌+◌, ◌-◌, Bool, true, false, not, ◌&&◌, ◌==◌, if◌then◌else◌}
use Rattle.std.proofs.Common.{List, [], ◌∷◌, length, Option, Some, None, is_some, refl, sym, subst, ◌∙◌, arith}
use Rattle.std.proofs.lemmas.Grind.{common_steps}
use Rattle.std.proofs.lemmas.Bool.Decides.{nat_tests}
use Rattle.std.specs.Prelude.{MatchOption, IfSome}
use Rattle.std.specs.List.{sum}
use Rattle.rlc_pdu.specs.declared.pdu.Part.{Part}
use Rattle.rlc_pdu.specs.Runs.{has}
use Rattle.rlc_pdu.specs.Places.{IsGap}
use Rattle.rlc_pdu.proofs.PlaceLaws.{gaps_are_first}
use Rattle.rlc_am_tx_window.specs.Sent.{Sent, first_waiting, is_waiting, is_all, all_wait, next_stretch, stretch_from}
use Rattle.rlc_am_tx_window.specs.Sent.{stretch_in, Lies}
use Rattle.rlc_am_tx_window.proofs.SlotSteps.{gap-lies}
use Rattle.rlc_am_tx_window.specs.Window.{slot_at, leading_idle}
use Rattle.rlc_am_tx_window.proofs.CutSteps.{stretch-sum}
use Rattle.rlc_am_tx.specs.declared.turn.Turn.{Turn}
use Rattle.rlc_am_tx.specs.declared.turn.Turn.TheVariants as turns
use Rattle.rlc_am_tx.specs.Machine.{State, turn, waits, again, number_again, first_place}
use Rattle.rlc_am_tx.proofs.SendSteps.{first-waits}
use Rattle.law_rlc.specs.AmSender.Run.{run_am_sender, begun}
use Rattle.law_rlc.specs.AmSender.Namings.{Marks, unmarked, marks_after}
use Rattle.law_rlc.specs.AmSender.Resent.{IsLowest, IsResent, ResendsTheFirst}
use Rattle.law_rlc.proofs.AmSender.Marked.{Stands, stands, stretch-some, is-part}
use Rattle.law_rlc.proofs.AmSender.Heard.{IsSlot}

-- no octet of a slot waits that stands before the first
leading-rest : (slots : List Sent) (k : ℕ) → k < leading_idle slots → is_waiting (slot_at slots k) ≡ false
leading-rest [] k h = absurd (omega arith)
leading-rest (x ∷ xs) k h = step (is_waiting x) refl k h (leading-rest xs)
  where
    step : (b : Bool) → is_waiting x ≡ b → (k : ℕ) → k < (if b then 0 else leading_idle xs + 1)
        → ((j : ℕ) → j < leading_idle xs → is_waiting (slot_at xs j) ≡ false)
        → is_waiting (slot_at (x ∷ xs) k) ≡ false
    step true e k h ih = absurd (omega arith)
    step false e zero h ih = e
    step false e (suc k) h ih = ih k (omega arith)

pub leading-few : (slots : List Sent) → leading_idle slots ≤ length slots
leading-few [] = omega arith
leading-few (x ∷ xs) = step (is_waiting x) (leading-few xs)
  where
    step : (b : Bool) → leading_idle xs ≤ length xs → (if b then 0 else leading_idle xs + 1) ≤ suc (length xs)
    step true h = omega arith
    step false h = omega arith

pub not-true : (b : Bool) → true ≡ not b → b ≡ false
not-true true e = let no' : true ≡ false = e in cc
not-true false e = refl

not-false : (b : Bool) → false ≡ not b → b ≡ true
not-false true e = refl
not-false false e = let no' : false ≡ true = e in cc

-- what a slot's first gap says of its marks
pub rest-none : (h : Sent) (f : ℕ → Bool) (n most : ℕ) → IsSlot h f n most → is_waiting h ≡ false → (i : ℕ)
    → i < length h.field → f i ≡ false
rest-none h f n most s e i lt =
    by (first_waiting h) (gaps_are_first h.resting 0 (length h.field) (s.ascends (omega arith))) e
  where
    by : (o : Option Part)
        → MatchOption o ((j : ℕ) → 0 ≤ j → j < length h.field → has h.resting j ≡ true)
        (IsGap h.resting 0 (length h.field)) → is_some o ≡ false → f i ≡ false
    by None g e = not-true (f i) (sym (g i (omega arith) lt) ∙ s.rests i lt)
    by (Some p) g e = let no' : true ≡ false = e in cc

wait-all : (h : Sent) (f : ℕ → Bool) (n most : ℕ) → IsSlot h f n most → all_wait h ≡ true → (i : ℕ)
    → i < length h.field → f i ≡ true
wait-all h f n most s e i lt =
    by (first_waiting h) (gaps_are_first h.resting 0 (length h.field) (s.ascends (omega arith))) e
  where
    ends : (p : Part) → ((p.start == 0) && (p.end + 1 == length h.field)) ≡ true
        → (p.start ≡ 0) × (p.end + 1 ≡ length h.field)
    ends p e = (grind (arith, nat_tests), grind (arith, nat_tests))

    by : (o : Option Part)
        → MatchOption o ((j : ℕ) → 0 ≤ j → j < length h.field → has h.resting j ≡ true)
        (IsGap h.resting 0 (length h.field)) → is_all o 0 (length h.field) ≡ true → f i ≡ true
    by None g e = let no' : false ≡ true = e in cc
    by (Some p) g e = let w = ends p e in let a = w.0 in let b = w.1 in
        not-false (f i) (sym (g.missing i (omega arith) (omega arith)) ∙ s.rests i lt)

abbrev IsFrontOfField : Sent → (ℕ → Bool) → ℕ → ℕ → Type 0
IsFrontOfField h f from to = (to ≤ length h.field) × ((i : ℕ) → from ≤ i → i < to → f i ≡ true)
    × ((i : ℕ) → i < from → f i ≡ false)

wait-front : (h : Sent) (f : ℕ → Bool) (n most size : ℕ) → IsSlot h f n most → is_waiting h ≡ true
    → IsFrontOfField h f (next_stretch h size).from (next_stretch h size).to
wait-front h f n most size s w =
    by (first_waiting h) (gap-lies h.resting 0 (length h.field))
    (λ some. gaps_are_first h.resting 0 (length h.field) (s.ascends some)) w
  where
    here : (p : Part) → IsGap h.resting 0 (length h.field) p
        → IsFrontOfField h f p.start (p.start + sum (stretch_in h size p).lens)
    here p g =
        let a = g.some in let b = g.below in
        let t = stretch-sum size p.start p.end h.lens a (omega (arith, b, s.whole)) in (
          omega (arith, b, t),
          λ i lo hi. not-false (f i) (sym (g.missing i lo (omega (arith, hi, t)))
              ∙ s.rests i (omega (arith, hi, t, b))),
          λ i lt. not-true (f i) (sym (g.first i (omega arith) lt) ∙ s.rests i (omega (arith, lt, a, b))),
        )

    by : (o : Option Part) → IfSome o (Lies 0 (length h.field))
        → (0 < length h.field
        → MatchOption o ((j : ℕ) → 0 ≤ j → j < length h.field → has h.resting j ≡ true)
        (IsGap h.resting 0 (length h.field))) → is_some o ≡ true
        → IsFrontOfField h f (stretch_from o h size).from (stretch_from o h size).to
    by None l g w = let no' : false ≡ true = w in cc
    by (Some p) l g w = here p (g (let b = l.below in omega arith))

-- ---- what a call of `take` sends again

pub whole-waits : (s : State) (size : ℕ) (held : Option ℕ) (more : Bool) → turn s size held more ≡ turns.Whole
    → (waits s ≡ true) × (all_wait (again s) ≡ true)
unfolding turn
whole-waits s size held more e = (grind (arith, common_steps, nat_tests), grind (arith, common_steps, nat_tests))

lowest : (s : State) (m : Marks) → Stands s m → IsLowest s m
lowest s m h n i le lt i_in =
    let few = leading-few s.window.slots in
    let k_in : n - s.window.base < length s.window.slots = omega arith in
    let e : s.window.base + (n - s.window.base) ≡ n = omega arith in
    subst (λ (j : ℕ). m.waits j i ≡ false) e
    (rest-none (slot_at s.window.slots (n - s.window.base)) (m.waits (s.window.base + (n - s.window.base)))
    (m.namings (s.window.base + (n - s.window.base))) s.config.max_retx
    (h.slots (n - s.window.base) k_in) (leading-rest s.window.slots (n - s.window.base) (omega arith)) i i_in)

pub is-below : (s : State) → waits s ≡ true → first_place s < length s.window.slots
is-below s e = grind (arith, nat_tests)

pub resent-of : (t : Turn) (s : State) (size : ℕ) (m : Marks) → Stands s m
    → (t ≡ turns.Whole → (waits s ≡ true) × (all_wait (again s) ≡ true))
    → (t ≡ turns.Part → (waits s ≡ true) × (5 ≤ size)) → IsResent t s size m
resent-of turns.Whole s size m h whole part =
    let w = whole refl in
    record {
      lowest = lowest s m h;
      waits = wait-all (again s) (m.waits (number_again s)) (m.namings (number_again s)) s.config.max_retx
          (h.slots (first_place s) (is-below s w.0)) w.1;
    }
resent-of turns.Part s size m h whole part =
    let w = part refl in
    let slot = h.slots (first_place s) (is-below s w.0) in
    let front = wait-front (again s) (m.waits (number_again s)) (m.namings (number_again s)) s.config.max_retx size
    slot (first-waits s.window.slots (is-below s w.0)) in
    record {
      lowest = lowest s m h;
      some = stretch-some (again s) size slot.whole (first-waits s.window.slots (is-below s w.0)) w.1;
      within = front.0;
      waits = front.1;
      first = front.2;
    }
resent-of turns.New s size m h whole part = tt
resent-of turns.Idle s size m h whole part = tt
resent-of turns.Stopped s size m h whole part = tt
resent-of turns.Small s size m h whole part = tt
resent-of turns.Shut s size m h whole part = tt
resent-of turns.Held s size m h whole part = tt

pub resends : ResendsTheFirst
resends config calls size held more =
    resent-of (turn (run_am_sender marks_after calls (begun config unmarked)).state size held more)
    (run_am_sender marks_after calls (begun config unmarked)).state size
    (run_am_sender marks_after calls (begun config unmarked)).past
    (stands config calls) (whole-waits (run_am_sender marks_after calls (begun config unmarked)).state size held more)
    (is-part (run_am_sender marks_after calls (begun config unmarked)).state size held more)
