-- What a sender has that is watched by the poll timer, as PDUs are sent and as the timer expires.
use Rattle.std.proofs.Common.{◌≡◌, ◌<◌, ◌≤◌, inl, inr, ℕ, suc, zero, ◌+◌, ◌-◌, Bool, true, false, ◌||◌, ◌==◌}
use Rattle.std.proofs.Common.{if◌then◌else◌, List, [], ◌∷◌, ◌++◌, length, map, Option, Some, None, is_some, refl}
use Rattle.std.proofs.Common.{ap, sym, subst, ◌∙◌, arith, nat_lt, length-append, set}
use Rattle.std.proofs.Common.{get_or-set_same, get_or-set_other}
use Rattle.std.proofs.lemmas.Grind.{common_steps}
use Rattle.std.proofs.lemmas.Bool.Decides.{nat_tests}
use Rattle.std.proofs.lemmas.Bool.{cases_lt, cases_eq}
use Rattle.std.proofs.Math.ListN.{length-set}
use Rattle.std.specs.Prelude.{IfSome}
use Rattle.std.specs.List.{sum, concat}
use Rattle.l2_num.specs.Timers.{runs}
use Rattle.rlc_am_tx_window.specs.Sent.{Sent, is_waiting, recalled, rested, sent_part}
use Rattle.rlc_am_tx_window.specs.Sent.{next_stretch}
use Rattle.rlc_am_tx_window.specs.Window.{TxWindow, next, nothing, slot_at, leading_idle}
use Rattle.rlc_am_tx_window.specs.Window.{some_wait, last_open}
use Rattle.rlc_am_tx.specs.declared.turn.Turn.{Turn}
use Rattle.rlc_am_tx.specs.declared.turn.Turn.TheVariants as turns
use Rattle.rlc_am_tx.specs.Machine.{State, turn, waits, is_quiet, after_turn}
use Rattle.rlc_am_tx.specs.Machine.{with_poll, is_wanted, reaches, first_place, again}
use Rattle.rlc_am_tx.specs.Machine.{new_slot, sent_whole, sent_segment, sent_new, ended}
use Rattle.rlc_am_tx.specs.Machine.{with_recalled, with_owed, expired, recalled_place, expiry_limit}
use Rattle.rlc_pdu.specs.Pdus.{AreLens}
use Rattle.rlc_queue.specs.Waiting.{HaveOctets, behind}
use Rattle.rlc_queue.specs.NewPdu.{elements, rest, room, may_follow}
use Rattle.rlc_queue.proofs.Lens.{whole, written}
use Rattle.rlc_queue.proofs.Steps.{some-behind}
use Rattle.rlc_am_tx_window.proofs.CutSteps.{lens-some}
use Rattle.law_rlc.proofs.AmSender.Least.{at-old, at-new}
use Rattle.law_rlc.proofs.AmSender.Marked.{recalled-within}

-- something waits where some slot does

some-waits : (slots : List Sent) (k : ℕ) → k < length slots → is_waiting (slot_at slots k) ≡ true
    → leading_idle slots < length slots
some-waits [] k h w = absurd (omega arith)
some-waits (x ∷ xs) k h w = step (is_waiting x) refl k h w (some-waits xs)
  where
    step : (b : Bool) → is_waiting x ≡ b → (k : ℕ) → k < suc (length xs) → is_waiting (slot_at (x ∷ xs) k) ≡ true
        → ((j : ℕ) → j < length xs → is_waiting (slot_at xs j) ≡ true → leading_idle xs < length xs)
        → (if b then 0 else leading_idle xs + 1) < suc (length xs)
    step true e k h w ih = omega arith
    step false e zero h w ih = let no' : false ≡ true = sym e ∙ w in cc
    step false e (suc k) h w ih = let l = ih k (omega arith) w in omega arith

pub never : (s : State) (k : ℕ) → k < length s.window.slots → is_waiting (slot_at s.window.slots k) ≡ true
    → waits s ≡ false → ⊥
never s k lt w e = let l = some-waits s.window.slots k lt w in let no' : waits s ≡ true = grind (arith, nat_tests) in
    let no'' : true ≡ false = sym no' ∙ e in cc

-- what is known of the poll timer
abbrev pub Watched : State → Type 0
Watched s = s.failed ≡ false → length s.window.slots ≡ 512 → waits s ≡ false
    → (runs s.polls.timer ≡ true) × (s.window.base ≤ s.polls.poll_number)

-- a poll with a PDU
polled-watched : (b : Bool) (u : State) (more : Bool) → is_wanted u more ≡ b → Watched (with_poll b u)
polled-watched true u more e f shut quiet = (refl, omega (arith, shut))
polled-watched false u more e f shut quiet = let w : is_wanted u more ≡ true = wanted in
    let no' : true ≡ false = sym w ∙ e in cc
  where
    or-last : (a b c : Bool) → (a || b || c || true) ≡ true
    or-last true true true = refl
    or-last true true false = refl
    or-last true false true = refl
    or-last true false false = refl
    or-last false true true = refl
    or-last false true false = refl
    or-last false false true = refl
    or-last false false false = refl

    is-quiet : is_quiet u more ≡ true
    is-quiet = grind (arith, nat_tests, common_steps)

    wanted : is_wanted u more ≡ true
    wanted =
        rw is-quiet (or-last (reaches u.config.poll_pdu u.polls.pdus_without_poll)
        (reaches u.config.poll_byte u.polls.octets_without_poll) u.polls.owed)

pub turn-watched : (t : Turn) (s : State) (size : ℕ) (more : Bool) → Watched s → Watched (after_turn t s size more)
unfolding after_turn
turn-watched turns.Whole s size more h = polled-watched (is_wanted (sent_whole s) more) (sent_whole s) more refl
turn-watched turns.Part s size more h =
    polled-watched (is_wanted (sent_segment s size) more) (sent_segment s size) more refl
turn-watched turns.New s size more h = polled-watched (is_wanted (sent_new s size) more) (sent_new s size) more refl
turn-watched turns.Idle s size more h = h
turn-watched turns.Stopped s size more h = h
turn-watched turns.Small s size more h = h
turn-watched turns.Shut s size more h = h
turn-watched turns.Held s size more h = h

-- POLL_SN lies below VT(S)
abbrev pub Polled : State → Type 0
Polled s = s.polls.poll_number ≤ next s.window - 1

polled-polled : (b : Bool) (u : State) → Polled u → Polled (with_poll b u)
polled-polled true u h = omega arith
polled-polled false u h = h

pub turn-polled : (t : Turn) (s : State) (size : ℕ) (more : Bool) → Polled s → Polled (after_turn t s size more)
unfolding after_turn
turn-polled turns.Whole s size more h =
    polled-polled (is_wanted (sent_whole s) more) (sent_whole s)
    (omega (arith, h, length-set s.window.slots (first_place s) (rested (again s))))
turn-polled turns.Part s size more h =
    polled-polled (is_wanted (sent_segment s size) more) (sent_segment s size)
    (omega (
      arith,
      h,
      length-set s.window.slots (first_place s)
          (sent_part (again s) (next_stretch (again s) size).from (next_stretch (again s) size).to),
    ))
turn-polled turns.New s size more h =
    polled-polled (is_wanted (sent_new s size) more) (sent_new s size)
    (omega (arith, h, length-append s.window.slots (new_slot s size ∷ [])))
turn-polled turns.Idle s size more h = h
turn-polled turns.Stopped s size more h = h
turn-polled turns.Small s size more h = h
turn-polled turns.Shut s size more h = h
turn-polled turns.Held s size more h = h

-- each PDU has an octet, and so has what is left of each SDU
pub record IsFull (s : State) : Type 0 where
  pub slots : (k : ℕ) → k < length s.window.slots → 0 < length (slot_at s.window.slots k).field
  pub queue : HaveOctets s.queue.sdus

pub set-full : (slots : List Sent) (at : ℕ) (h : Sent) → h.field ≡ (slot_at slots at).field
    → ((k : ℕ) → k < length slots → 0 < length (slot_at slots k).field) → (k : ℕ) → k < length (set slots at h)
    → 0 < length (slot_at (set slots at h) k).field
set-full slots at h e f k lt =
    let l : k < length slots = omega (arith, length-set slots at h) in
    elim (cases_eq k at) [
      | inl same ↦ rw same
          (subst (λ (x : Sent). 0 < length x.field)
          (sym (get_or-set_same slots at h nothing (omega (arith, l, same))))
          (subst (λ (xs : List ℕ). 0 < length xs) (sym e) (f at (omega (arith, l, same)))))
      | inr other ↦ subst (λ (x : Sent). 0 < length x.field) (sym (get_or-set_other slots at k h nothing other)) (f k l)
    ]

pub some-append : (sdus : List (List ℕ)) (x : List ℕ) → HaveOctets sdus → 0 < length x → HaveOctets (sdus ++ x ∷ [])
some-append [] x h s = (s, tt)
some-append (y ∷ ys) x h s = (h.0, some-append ys x h.1 s)

rest-full : (size count used : ℕ) (sdus : List (List ℕ)) → HaveOctets sdus → HaveOctets (rest 2 size count used sdus)
rest-full size count used [] h = tt
rest-full size count used (x ∷ xs) h =
    step (room 2 size count used == 0) (may_follow (room 2 size count used) x)
    (rest-full size (count + 1) (used + length x) xs h.1)
  where
    step : (a b : Bool) → HaveOctets (rest 2 size (count + 1) (used + length x) xs)
        → HaveOctets (if a then x ∷ xs else if b then rest 2 size (count + 1) (used + length x) xs
        else behind (room 2 size count used) (x ∷ xs))
    step true b ih = h
    step false true ih = ih
    step false false ih = some-behind (room 2 size count used) (x ∷ xs) h

elements-some : (size : ℕ) (sdus : List (List ℕ)) → HaveOctets sdus → 0 < length sdus → 3 ≤ size
    → 0 < length (concat (elements 2 size 0 0 sdus))
elements-some size sdus h some three =
    by (elements 2 size 0 0 sdus) (written 2 size sdus h some (omega arith)) (whole (elements 2 size 0 0 sdus))
  where
    by : (es : List (List ℕ)) → AreLens (map length es) → sum (map length es) ≡ length (concat es)
        → 0 < length (concat es)
    by es l w = let p = lens-some (map length es) l in omega (arith, p, w)

pub is-new : (s : State) (size : ℕ) (held : Option ℕ) (more : Bool) → turn s size held more ≡ turns.New
    → (0 < length s.queue.sdus) × (3 ≤ size)
unfolding turn
is-new s size held more e = (grind (arith, common_steps, nat_tests), grind (arith, common_steps, nat_tests))

polled-full : (b : Bool) (u : State) → IsFull u → IsFull (with_poll b u)
polled-full true u h = record { slots = h.slots; queue = h.queue }
polled-full false u h = h

new-full : (s : State) (size : ℕ) → (0 < length s.queue.sdus) × (3 ≤ size) → IsFull s → IsFull (sent_new s size)
new-full s size able h = record {
  slots = λ k lt. elim (cases_lt k (length s.window.slots)) [
    | inl old ↦ subst (λ (x : Sent). 0 < length x.field) (sym (at-old s.window.slots (new_slot s size) k old))
        (h.slots k old)
    | inr past ↦ subst (λ (x : Sent). 0 < length x.field)
        (sym
        (at-new s.window.slots (new_slot s size) k
        (omega (arith, length-append s.window.slots (new_slot s size ∷ [])))))
        (elements-some size s.queue.sdus h.queue able.0 able.1)
  ];
  queue = rest-full size 0 0 s.queue.sdus h.queue;
}

pub turn-full : (t : Turn) (s : State) (size : ℕ) (more : Bool)
    → (t ≡ turns.New → (0 < length s.queue.sdus) × (3 ≤ size))
    → IsFull s → IsFull (after_turn t s size more)
unfolding after_turn
turn-full turns.Whole s size more able h =
    polled-full (is_wanted (sent_whole s) more) (sent_whole s)
    (record { slots = set-full s.window.slots (first_place s) (rested (again s)) refl h.slots; queue = h.queue })
turn-full turns.Part s size more able h =
    polled-full (is_wanted (sent_segment s size) more) (sent_segment s size)
    (record {
      slots =
          set-full s.window.slots (first_place s)
          (sent_part (again s) (next_stretch (again s) size).from (next_stretch (again s) size).to) refl h.slots;
      queue = h.queue;
    })
turn-full turns.New s size more able h =
    polled-full (is_wanted (sent_new s size) more) (sent_new s size) (new-full s size (able refl) h)
turn-full turns.Idle s size more able h = h
turn-full turns.Stopped s size more able h = h
turn-full turns.Small s size more able h = h
turn-full turns.Shut s size more able h = h
turn-full turns.Held s size more able h = h

-- ---- an expiry

found-some : (at : ℕ) (found : Option ℕ) (slots : List Sent) → is_some found ≡ true
    → is_some (last_open at found slots) ≡ true
found-some at found [] e = e
found-some at found (x ∷ xs) e = found-some (at + 1) (if x.acked then found else Some at) xs (step x.acked)
  where
    step : (b : Bool) → is_some (if b then found else Some at) ≡ true
    step true = e
    step false = refl

pub open-some : (slots : List Sent) → 0 < length slots → (slot_at slots 0).acked ≡ false
    → is_some (last_open 0 None slots) ≡ true
open-some [] h e = absurd (omega arith)
open-some (x ∷ xs) h e = found-some 1 (if x.acked then None else Some 0) xs (rw e refl)

pub recalled-waits : (most : ℕ) (h : Sent) → 0 < length h.field → is_waiting (recalled most h) ≡ true
recalled-waits most h some = let e : nat_lt 0 (length h.field) ≡ true = grind (arith, nat_tests) in rw e refl

expired-watched : (o : Option ℕ) (s : State) (more : Bool) → recalled_place s more ≡ o → IsFull s
    → (0 < length s.window.slots → (slot_at s.window.slots 0).acked ≡ false)
    → length (with_recalled o (with_owed s)).window.slots ≡ 512 → waits (with_recalled o (with_owed s)) ≡ false → ⊥
expired-watched None s more e full front shut quiet =
    let q : is_quiet s more ≡ true = grind (arith, nat_tests, common_steps) in
    let some = open-some s.window.slots (omega (arith, shut)) (front (omega (arith, shut))) in
    let is : last_open 0 None s.window.slots ≡ None = sym (rw q refl) ∙ e in
    let no' : false ≡ true = sym (ap is_some is) ∙ some in cc
expired-watched (Some at) s more e full front shut quiet =
    let lt : at < length s.window.slots = within (recalled_place s more) (recalled-within s more) e in
    never (with_recalled (Some at) (with_owed s)) at
    (omega (arith, lt, length-set s.window.slots at (recalled s.config.max_retx (slot_at s.window.slots at))))
    (ap is_waiting (get_or-set_same s.window.slots at (recalled s.config.max_retx (slot_at s.window.slots at)) nothing
    lt) ∙ recalled-waits s.config.max_retx (slot_at s.window.slots at) (full.slots at lt)) quiet
  where
    within : (o : Option ℕ) → IfSome o (λ k. k < length s.window.slots) → o ≡ Some at → at < length s.window.slots
    within None h x = let no' : None ≡ Some at = x in cc
    within (Some k) h x = let same : k ≡ at = cc in omega (arith, h, same)

pub ended-none : (l : Option ℕ) (b : Bool) (s : State) → (ended l b s).failed ≡ false → l ≡ None
ended-none (Some sn) b s e = let no' : true ≡ false = e in cc
ended-none None b s e = refl

pub ended-window : (l : Option ℕ) (b : Bool) (s : State) → (ended l b s).window ≡ s.window
ended-window (Some n) b s = refl
ended-window None true s = refl
ended-window None false s = refl

pub waits-of : (s t : State) → t.window ≡ s.window → waits t ≡ waits s
waits-of s t e = ap (λ (w : TxWindow). some_wait w.slots) e

pub expiry-watched : (b : Bool) (s : State) (more : Bool) → IsFull s
    → (0 < length s.window.slots → (slot_at s.window.slots 0).acked ≡ false) → Watched s
    → Watched (if b then ended (expiry_limit s more) false (expired s more) else s)
expiry-watched false s more full front h = h
expiry-watched true s more full front h = λ f shut quiet.
    let w = ended-window (expiry_limit s more) false (expired s more) in
    absurd (expired-watched (recalled_place s more) s more refl full front
    (sym (ap (λ (k : TxWindow). length k.slots) w) ∙ shut)
    (sym (waits-of (expired s more) (ended (expiry_limit s more) false (expired s more)) w) ∙ quiet))
