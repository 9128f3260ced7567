-- Where the poll timer runs, along every fair run.
use Rattle.std.proofs.Common.{◌≡◌, ◌<◌, ◌≤◌, ℕ, ◌+◌, ◌-◌, Bool, true, false, ◌||◌, ◌&&◌, ◌==◌}
use Rattle.std.proofs.Common.{if◌then◌else◌, List, [], ◌∷◌, length, drop, Option, Some, None, is_some, refl}
use Rattle.std.proofs.Common.{ap, sym, subst, ◌∙◌, arith, nat_le, nat_lt, length-drop}
use Rattle.std.proofs.lemmas.Grind.{common_steps}
use Rattle.std.proofs.lemmas.Bool.Decides.{nat_tests}
use Rattle.l2_num.specs.Timers.{Clock, runs, ticked, counted}
use Rattle.rlc_pdu.specs.declared.pdu.Nack.{Nack}
use Rattle.rlc_pdu.specs.Pdus.{StatusPdu}
use Rattle.rlc_am_tx_window.specs.Sent.{Sent, is_waiting, recalled, considered, considered_by}
use Rattle.rlc_am_tx_window.specs.Window.{TxWindow, slot_at, offset_of, leading_idle, leading_acked}
use Rattle.rlc_am_tx_window.specs.Window.{is_named}
use Rattle.rlc_am_tx.specs.Machine.{State, start, turn, waits, is_shut, is_quiet, after_status}
use Rattle.rlc_am_tx.specs.Machine.{after_expiry, is_ignored}
use Rattle.rlc_am_tx.specs.Machine.{ended, limit_of, stops, read, applied}
use Rattle.rlc_am_tx.specs.Machine.{with_recalled, with_owed, expired, recalled_place, expiry_limit, settled}
use Rattle.rlc_am_tx.specs.Machine.{settled_by, settles}
use Rattle.rlc_queue.specs.Waiting.{HaveOctets}
use Rattle.rlc_am_tx.proofs.SendSteps.{first-waits}
use Rattle.law_rlc.specs.AmSender.Run.{Call, Offer, Take, Status, Tick, Expire, Settle, Confirm, after}
use Rattle.law_rlc.specs.AmSender.Acked.{acks, acked_after}
use Rattle.law_rlc.specs.AmSender.Namings.{Marks, unmarked, names, heard_waits, heard_namings, marks_after}
use Rattle.law_rlc.specs.AmSender.Watched.{IsHonest, IsFair, AreFair, state_after, RunsThePollTimer}
use Rattle.law_rlc.proofs.AmSender.Slots.{acked_if, slot-drop}
use Rattle.law_rlc.proofs.AmSender.Least.{heard, Fits, after-fits, fresh-fits, heard_slots}
use Rattle.law_rlc.proofs.AmSender.Least.{heard-length}
use Rattle.law_rlc.proofs.AmSender.Named.{parts_at, some_parts, named-parts, named_by, named-acked, all-named-by}
use Rattle.law_rlc.proofs.AmSender.Marked.{Stands, after-stands, start-stands}
use Rattle.law_rlc.proofs.AmSender.Heard.{Holds, final, final-slot, heard-slot}
use Rattle.law_rlc.proofs.AmSender.Heard.{back, open-is}
use Rattle.law_rlc.proofs.AmSender.Carried.{applied-next, ended-next, recalled-next}
use Rattle.law_rlc.proofs.AmSender.Resends.{rest-none, is-below}
use Rattle.law_rlc.proofs.AmSender.Expiries.{never, Watched, turn-watched, Polled, turn-polled, IsFull, set-full}
use Rattle.law_rlc.proofs.AmSender.Expiries.{some-append, is-new, turn-full, ended-none, ended-window, waits-of}
use Rattle.law_rlc.proofs.AmSender.Expiries.{expiry-watched}

-- ---- a STATUS

record IsStill (s : State) (below : ℕ) (ns : List Nack) : Type 0 where
  few : length s.window.slots ≡ 512
  none : (k : ℕ) → k < length s.window.slots → is_named s.window.base k ns ≡ false
  nothing_below : below ≡ 0
  lead : leading_acked (heard_slots s.window below s.config.max_retx ns) ≡ 0

or-true : (b : Bool) → (b || true) ≡ true
or-true true = refl
or-true false = refl

if-field : (b : Bool) (h : Sent) → (acked_if b h).field ≡ h.field
if-field true h = grind (arith, common_steps)
if-field false h = refl

considered-field : (o : Option Bool) (most : ℕ) (h : Sent) → (considered_by o most h).field ≡ h.field
considered-field None most h = refl
considered-field (Some new) most h = refl

final-field : (w : TxWindow) (below most : ℕ) (ns : List Nack) (k : ℕ) → (slot_at w.slots k).acked ≡ false
    → (final w below most ns k).field ≡ (slot_at w.slots k).field
final-field w below most ns k e = step (some_parts (parts_at w.base k ns))
  where
    kept : (acked_if (nat_lt k below) (named_by (parts_at w.base k ns) (slot_at w.slots k))).field
        ≡ (slot_at w.slots k).field
    kept = if-field (nat_lt k below) (named_by (parts_at w.base k ns) (slot_at w.slots k))
        ∙ (all-named-by (parts_at w.base k ns) (slot_at w.slots k) e).field

    step : (b : Bool)
        → (if b then considered most (acked_if (nat_lt k below) (named_by (parts_at w.base k ns) (slot_at w.slots k)))
        else acked_if (nat_lt k below) (named_by (parts_at w.base k ns) (slot_at w.slots k))).field
        ≡ (slot_at w.slots k).field
    step true =
        considered-field (acked_if (nat_lt k below) (named_by (parts_at w.base k ns) (slot_at w.slots k))).named most
        (acked_if (nat_lt k below) (named_by (parts_at w.base k ns) (slot_at w.slots k))) ∙ kept
    step false = kept

-- what a STATUS names waits
named-waits : (w : TxWindow) (below most : ℕ) (ns : List Nack) (m : Marks) (k i : ℕ) → Holds w m most
    → k < length w.slots
    → is_named w.base k ns ≡ true → (slot_at w.slots k).acked ≡ false
    → i < length (slot_at w.slots k).field → names w.base k ns (length (slot_at w.slots k).field) i ≡ true
    → is_waiting (slot_at (heard_slots w below most ns) k) ≡ true
named-waits w below most ns m k i h lt e a i_in nm = by (is_waiting (slot_at (heard_slots w below most ns) k)) refl
  where
    here : heard_waits w below ns m.waits (w.base + k) i ≡ true
    here = rw (open-is w k lt, back w.base k, a, e, nm) (or-true (m.waits (w.base + k) i))

    by : (b : Bool) → is_waiting (slot_at (heard_slots w below most ns) k) ≡ b → b ≡ true
    by true q = refl
    by false q =
        let n = rest-none (slot_at (heard_slots w below most ns) k) (heard_waits w below ns m.waits (w.base + k))
        (heard_namings w ns m (w.base + k)) most (heard-slot w below most ns m k lt (h.slots k lt)) q i
        (subst (λ (xs : List ℕ). i < length xs)
        (sym (ap (λ (x : Sent). x.field) (final-slot w below most ns k lt) ∙ final-field w below most ns k a))
        i_in) in
        sym n ∙ here

none-parts : (ps : List _) → some_parts ps ≡ false → ps ≡ []
none-parts [] e = refl
none-parts (p ∷ ps) e = let no' : true ≡ false = e in cc

-- what it doesn't name, and that doesn't lie below its ACK_SN, stays
still-slot : (w : TxWindow) (below most : ℕ) (ns : List Nack) (k : ℕ) → k < length w.slots
    → is_named w.base k ns ≡ false
    → below ≡ 0 → slot_at (heard_slots w below most ns) k ≡ slot_at w.slots k
still-slot w below most ns k lt e z =
    final-slot w below most ns k lt
    ∙ (ap (λ (ps : List _). if some_parts ps
    then considered most (acked_if (nat_lt k below) (named_by ps (slot_at w.slots k)))
    else acked_if (nat_lt k below) (named_by ps (slot_at w.slots k)))
    (none-parts (parts_at w.base k ns) (sym (named-parts w.base k ns) ∙ e))
    ∙ ap (λ (b : Bool). acked_if b (slot_at w.slots k)) (off z))
  where
    off : below ≡ 0 → nat_lt k below ≡ false
    off z = grind (arith, nat_tests)

still : (s : State) (status : StatusPdu) (below : ℕ) (m : Marks) (acked : ℕ → Bool)
    → offset_of s.window.base status.ack ≡ below → Stands s m → IsHonest s status → Fits s.window acked
    → Fits (read s below status.nacks).window (λ n. acked n || (true && acks s.window.base below status.nacks n))
    → length (read s below status.nacks).window.slots ≡ 512 → waits (read s below status.nacks) ≡ false
    → IsStill s below status.nacks
still s status below m acked is h honest fits after' shut quiet = record {
  few = omega (arith, few, len, len-drop, shut);
  none = unnamed;
  nothing_below = zero_below;
  lead = none-lead;
}
  where
    all : List Sent
    all = heard_slots s.window below s.config.max_retx status.nacks

    len : length all ≡ length s.window.slots
    len = heard-length s.window below s.config.max_retx status.nacks

    len-drop : length (drop (leading_acked all) all) ≡ length all - leading_acked all
    len-drop = length-drop (leading_acked all) all

    few : length s.window.slots ≤ 512
    few = fits.few

    none-lead : leading_acked all ≡ 0
    none-lead = omega (arith, few, len, len-drop, shut)

    same : (k : ℕ) → slot_at (drop (leading_acked all) all) k ≡ slot_at all k
    same k = slot-drop all (leading_acked all) k ∙ ap (λ (j : ℕ). slot_at all j) (omega (arith, none-lead))

    many : 0 < length s.window.slots
    many = omega (arith, few, len, len-drop, shut)

    open' : (slot_at s.window.slots 0).acked ≡ false
    open' = fits.front many

    -- what it names of the first number would wait
    first : is_named s.window.base 0 status.nacks ≡ false
    first = step (is_named s.window.base 0 status.nacks) refl
      where
        step : (b : Bool) → is_named s.window.base 0 status.nacks ≡ b → b ≡ false
        step false e = refl
        step true e =
            let o = (honest 0 many e).octet open' in
            absurd (never (read s below status.nacks) 0 (omega (arith, many, len, len-drop, none-lead))
            (ap is_waiting (same 0) ∙ named-waits s.window below s.config.max_retx status.nacks m 0 o.0 h many e open'
            o.1 o.2) quiet)

    zero_below : below ≡ 0
    zero_below = by (nat_lt 0 below) refl
      where
        by : (b : Bool) → nat_lt 0 below ≡ b → below ≡ 0
        by false e = grind (arith, nat_tests)
        by true e =
            let some : 0 < length (read s below status.nacks).window.slots = omega (arith, shut) in
            let front : (acked (s.window.base + leading_acked all + 0)
            || (true && acks s.window.base below status.nacks (s.window.base + leading_acked all + 0))) ≡ false =
            sym (after'.slots 0 some) ∙ after'.front some in
            let at : s.window.base + leading_acked all + 0 ≡ s.window.base = omega (arith, none-lead) in
            let low : nat_le s.window.base s.window.base ≡ true = grind (arith, nat_tests) in
            let high : nat_lt s.window.base (s.window.base + below) ≡ true = grind (arith, nat_tests) in
            let zero' : s.window.base - s.window.base ≡ 0 = omega arith in
            let is : (acked s.window.base || (true && acks s.window.base below status.nacks s.window.base)) ≡ true =
            rw (low, high, zero', first) (or-true (acked s.window.base)) in
            let no' : true ≡ false =
            sym is ∙ subst (λ (n : ℕ). (acked n || (true && acks s.window.base below status.nacks n)) ≡ false) at
            front in cc

    unnamed : (k : ℕ) → k < length s.window.slots → is_named s.window.base k status.nacks ≡ false
    unnamed k lt = step (is_named s.window.base k status.nacks) refl
      where
        step : (b : Bool) → is_named s.window.base k status.nacks ≡ b → b ≡ false
        step false e = refl
        step true e = let b = (honest k lt e).below in absurd (omega (arith, b, is, zero_below))

still-waits : (s : State) (below : ℕ) (ns : List Nack) → IsStill s below ns → waits (read s below ns) ≡ false
    → waits s ≡ false
still-waits s below ns t quiet = by (waits s) refl
  where
    by : (b : Bool) → waits s ≡ b → b ≡ false
    by false e = refl
    by true e =
        let lt = is-below s e in
        let k = leading_idle s.window.slots in
        let at = slot-drop (heard_slots s.window below s.config.max_retx ns)
        (leading_acked (heard_slots s.window below s.config.max_retx ns)) (leading_idle s.window.slots)
        ∙ ap (λ (j : ℕ). slot_at (heard_slots s.window below s.config.max_retx ns) j) (omega (arith, t.lead)) in
        absurd (never (read s below ns) (leading_idle s.window.slots)
        (omega (
          arith,
          lt,
          t.lead,
          heard-length s.window below s.config.max_retx ns,
          length-drop (leading_acked (heard_slots s.window below s.config.max_retx ns))
              (heard_slots s.window below s.config.max_retx ns),
        ))
        (ap is_waiting (at ∙ still-slot s.window below s.config.max_retx ns (leading_idle s.window.slots) lt
        (t.none (leading_idle s.window.slots) lt) t.nothing_below) ∙ first-waits s.window.slots lt) quiet)

still-stops : (s : State) (below : ℕ) (ns : List Nack) → IsStill s below ns → s.window.base ≤ s.polls.poll_number
    → Polled s → stops s below ns ≡ false
still-stops s below ns t le polled =
    let k_in : s.polls.poll_number - s.window.base < length s.window.slots = omega (arith, le, polled, t.few) in
    let n = t.none (s.polls.poll_number - s.window.base) k_in in
    let o : nat_lt s.polls.poll_number (s.window.base + below) ≡ false = over t.nothing_below in
    rw (n, o) (off (runs s.polls.timer))
  where
    over : below ≡ 0 → nat_lt s.polls.poll_number (s.window.base + below) ≡ false
    over z = grind (arith, nat_tests)

    off : (b : Bool) → (b && (false || false)) ≡ false
    off true = refl
    off false = refl

ended-watched : (l : Option ℕ) (b : Bool) (r : State) → l ≡ None → b ≡ false
    → (runs r.polls.timer ≡ true) × (r.window.base ≤ r.polls.poll_number)
    → (runs (ended l b r).polls.timer ≡ true) × ((ended l b r).window.base ≤ (ended l b r).polls.poll_number)
ended-watched (Some sn) b r e f h = let no' : Some sn ≡ None = e in cc
ended-watched None true r e f h = let no' : true ≡ false = f in cc
ended-watched None false r e f h = h

ended-failed : (l : Option ℕ) (b : Bool) (r : State) → (ended l b r).failed ≡ false → r.failed ≡ false
ended-failed (Some sn) b r e = let no' : true ≡ false = e in cc
ended-failed None true r e = e
ended-failed None false r e = e

ended-number : (l : Option ℕ) (b : Bool) (r : State) → (ended l b r).polls.poll_number ≡ r.polls.poll_number
ended-number (Some sn) b r = refl
ended-number None true r = refl
ended-number None false r = refl

-- all that is known
record Guards (s : State) (m : Marks) (acked : ℕ → Bool) : Type 0 where
  stands : Stands s m
  fits : Fits s.window acked
  full : IsFull s
  polled : Polled s
  watched : Watched s

status-watched : (b : Bool) (s : State) (status : StatusPdu) (m : Marks) (acked : ℕ → Bool)
    → is_ignored s status.ack ≡ b → IsHonest s status → Guards s m acked
    → Watched (if b then s else applied s (offset_of s.window.base status.ack) status.nacks)
status-watched true s status m acked e honest g = g.watched
status-watched false s status m acked e honest g = λ f shut quiet.
    let w = ended-window (limit_of s below status.nacks) (stops s below status.nacks) (read s below status.nacks) in
    let shut' : length (read s below status.nacks).window.slots ≡ 512 =
    sym (ap (λ (k : TxWindow). length k.slots) w) ∙ shut in
    let quiet' : waits (read s below status.nacks) ≡ false =
    sym (waits-of (read s below status.nacks) (applied s below status.nacks) w) ∙ quiet in
    let t = still s status below m acked refl g.stands honest g.fits
    (heard s.window acked below s.config.max_retx status.nacks within g.fits) shut' quiet' in
    let old =
    g.watched (ended-failed (limit_of s below status.nacks) (stops s below status.nacks)
    (read s below status.nacks) f) t.few (still-waits s below status.nacks t quiet') in
    ended-watched (limit_of s below status.nacks) (stops s below status.nacks) (read s below status.nacks)
    (ended-none (limit_of s below status.nacks) (stops s below status.nacks) (read s below status.nacks) f)
    (still-stops s below status.nacks t old.1 g.polled)
    (old.0, omega (arith, old.1, t.lead))
  where
    below : ℕ
    below = offset_of s.window.base status.ack

    within : offset_of s.window.base status.ack ≤ length s.window.slots
    within = grind (arith, nat_tests)

any-field : (w : TxWindow) (below most : ℕ) (ns : List Nack) (k : ℕ)
    → (final w below most ns k).field ≡ (slot_at w.slots k).field
any-field w below most ns k = by (slot_at w.slots k).acked refl
  where
    kept : (slot_at w.slots k).acked ≡ true
        → (acked_if (nat_lt k below) (named_by (parts_at w.base k ns) (slot_at w.slots k))).field
        ≡ (slot_at w.slots k).field
    kept e = if-field (nat_lt k below) (named_by (parts_at w.base k ns) (slot_at w.slots k))
        ∙ ap (λ (x : Sent). x.field) (named-acked (parts_at w.base k ns) (slot_at w.slots k) e)

    step : (b : Bool) → (slot_at w.slots k).acked ≡ true
        → (if b then considered most (acked_if (nat_lt k below) (named_by (parts_at w.base k ns) (slot_at w.slots k)))
        else acked_if (nat_lt k below) (named_by (parts_at w.base k ns) (slot_at w.slots k))).field
        ≡ (slot_at w.slots k).field
    step true e =
        considered-field (acked_if (nat_lt k below) (named_by (parts_at w.base k ns) (slot_at w.slots k))).named most
        (acked_if (nat_lt k below) (named_by (parts_at w.base k ns) (slot_at w.slots k))) ∙ kept e
    step false e = kept e

    by : (a : Bool) → (slot_at w.slots k).acked ≡ a → (final w below most ns k).field ≡ (slot_at w.slots k).field
    by true e = step (some_parts (parts_at w.base k ns)) e
    by false e = final-field w below most ns k e

pub status-full : (b : Bool) (s : State) (status : StatusPdu) → IsFull s
    → IsFull (if b then s else applied s (offset_of s.window.base status.ack) status.nacks)
status-full true s status h = h
status-full false s status h = record {
  slots = λ k lt. subst (λ (w : TxWindow). k < length w.slots → 0 < length (slot_at w.slots k).field)
      (sym w) (here k) lt;
  queue =
      subst (λ (q : _). HaveOctets q.sdus)
      (sym (queue-same (limit_of s below status.nacks) (stops s below status.nacks))) h.queue;
}
  where
    below : ℕ
    below = offset_of s.window.base status.ack

    all : List Sent
    all = heard_slots s.window below s.config.max_retx status.nacks

    len : length all ≡ length s.window.slots
    len = heard-length s.window below s.config.max_retx status.nacks

    w : (applied s below status.nacks).window ≡ (read s below status.nacks).window
    w = ended-window (limit_of s below status.nacks) (stops s below status.nacks) (read s below status.nacks)

    queue-same : (l : Option ℕ) (b : Bool) → (ended l b (read s below status.nacks)).queue ≡ s.queue
    queue-same (Some sn) b = refl
    queue-same None true = refl
    queue-same None false = refl

    here : (k : ℕ) → k < length (read s below status.nacks).window.slots
        → 0 < length (slot_at (read s below status.nacks).window.slots k).field
    here k lt =
        let j : leading_acked all + k < length s.window.slots =
        omega (arith, lt, len, length-drop (leading_acked all) all) in
        let e =
        ap (λ (x : Sent). x.field) (slot-drop all (leading_acked all) k
        ∙ final-slot s.window below s.config.max_retx status.nacks (leading_acked all + k) j)
        ∙ any-field s.window below s.config.max_retx status.nacks (leading_acked all + k) in
        subst (λ (xs : List ℕ). 0 < length xs) (sym e) (h.slots (leading_acked all + k) j)

status-polled : (b : Bool) (s : State) (status : StatusPdu) → Polled s
    → Polled (if b then s else applied s (offset_of s.window.base status.ack) status.nacks)
status-polled true s status h = h
status-polled false s status h = let n = applied-next s (offset_of s.window.base status.ack) status in
    let p = ended-number (limit_of s (offset_of s.window.base status.ack) status.nacks)
    (stops s (offset_of s.window.base status.ack) status.nacks)
    (read s (offset_of s.window.base status.ack) status.nacks) in
    omega (arith, n, p, h)

-- ---- the other calls

recalled-number : (o : Option ℕ) (s : State) → (with_recalled o s).polls.poll_number ≡ s.polls.poll_number
recalled-number None s = refl
recalled-number (Some at) s = refl

expiry-polled : (b : Bool) (s : State) (more : Bool) → Polled s
    → Polled (if b then ended (expiry_limit s more) false (expired s more) else s)
expiry-polled false s more h = h
expiry-polled true s more h =
    let a = ended-next (expiry_limit s more) false (expired s more) in
    let b = recalled-next (recalled_place s more) (with_owed s) in
    let c = ended-number (expiry_limit s more) false (expired s more) in
    let d = recalled-number (recalled_place s more) (with_owed s) in
    omega (arith, a, b, c, d, h)

recalled-full : (o : Option ℕ) (s : State) → IsFull s → IsFull (with_recalled o s)
recalled-full None s h = h
recalled-full (Some at) s h =
    record {
      slots = set-full s.window.slots at (recalled s.config.max_retx (slot_at s.window.slots at)) refl h.slots;
      queue = h.queue;
    }

ended-full : (l : Option ℕ) (b : Bool) (s : State) → IsFull s → IsFull (ended l b s)
ended-full (Some sn) b s h = record { slots = h.slots; queue = h.queue }
ended-full None true s h = record { slots = h.slots; queue = h.queue }
ended-full None false s h = h

pub expiry-full : (b : Bool) (s : State) (more : Bool) → IsFull s
    → IsFull (if b then ended (expiry_limit s more) false (expired s more) else s)
expiry-full false s more h = h
expiry-full true s more h =
    ended-full (expiry_limit s more) false (expired s more)
    (recalled-full (recalled_place s more) (with_owed s) (record { slots = h.slots; queue = h.queue }))

pub settled-full : (b : Bool) (s : State) → IsFull s → IsFull (settled_by b s)
settled-full true s h = record { slots = h.slots; queue = h.queue }
settled-full false s h = h

settled-polled : (b : Bool) (s : State) → Polled s → Polled (settled_by b s)
settled-polled true s h = omega arith
settled-polled false s h = h

settled-watched : (b : Bool) (s : State) → Watched s → Watched (settled_by b s)
settled-watched true s h = λ f shut quiet. (refl, omega (arith, shut))
settled-watched false s h = h

ticked-runs : (c : Clock) → runs (ticked c) ≡ runs c
ticked-runs c = by c.left
  where
    by : (o : Option ℕ) → is_some (counted o) ≡ is_some o
    by None = refl
    by (Some n) = refl

full-after : (s : State) (c : Call) → IsFair s c → IsFull s → IsFull (after s c)
unfolding after_status after_expiry
full-after s (Offer sdu) fair h = record { slots = h.slots; queue = some-append s.queue.sdus sdu h.queue fair }
full-after s (Take size held more) fair h = turn-full (turn s size held more) s size more (is-new s size held more) h
full-after s (Status status) fair h = status-full (is_ignored s status.ack) s status h
full-after s Tick fair h = record { slots = h.slots; queue = h.queue }
full-after s (Expire more) fair h = expiry-full (runs s.polls.timer) s more h
full-after s (Settle more) fair h = settled-full (settles s more) s h
full-after s Confirm fair h = record { slots = h.slots; queue = h.queue }

polled-after : (s : State) (c : Call) → Polled s → Polled (after s c)
unfolding after_status after_expiry
polled-after s (Offer sdu) h = h
polled-after s (Take size held more) h = turn-polled (turn s size held more) s size more h
polled-after s (Status status) h = status-polled (is_ignored s status.ack) s status h
polled-after s Tick h = h
polled-after s (Expire more) h = expiry-polled (runs s.polls.timer) s more h
polled-after s (Settle more) h = settled-polled (settles s more) s h
polled-after s Confirm h = h

watched-after : (s : State) (c : Call) (m : Marks) (acked : ℕ → Bool) → IsFair s c → Guards s m acked
    → Watched (after s c)
unfolding after_status after_expiry
watched-after s (Offer sdu) m acked fair g = g.watched
watched-after s (Take size held more) m acked fair g = turn-watched (turn s size held more) s size more g.watched
watched-after s (Status status) m acked fair g = status-watched (is_ignored s status.ack) s status m acked refl fair g
watched-after s Tick m acked fair g = λ f shut quiet. let h = g.watched f shut quiet in
    (ticked-runs s.polls.timer ∙ h.0, h.1)
watched-after s (Expire more) m acked fair g = expiry-watched (runs s.polls.timer) s more g.full g.fits.front g.watched
watched-after s (Settle more) m acked fair g = settled-watched (settles s more) s g.watched
watched-after s Confirm m acked fair g = g.watched

run-guards : (calls : List Call) (s : State) (m : Marks) (acked : ℕ → Bool) → AreFair s calls → Guards s m acked
    → Watched (state_after calls s)
run-guards [] s m acked fair g = g.watched
run-guards (c ∷ cs) s m acked fair g =
    run-guards cs (after s c) (marks_after s c m) (acked_after s c acked) fair.1 (record {
      stands = after-stands s c m g.stands;
      fits = after-fits s c acked g.fits;
      full = full-after s c fair.0 g.full;
      polled = polled-after s c g.polled;
      watched = watched-after s c m acked fair.0 g;
    })

-- `settle` sees to the rest
settled-runs : (s : State) (more : Bool) → Watched s → s.failed ≡ false → 0 < length s.window.slots
    → is_quiet s more ≡ true → runs (settled s more).polls.timer ≡ true
unfolding settles
settled-runs s more h f some quiet = by (settles s more) refl
  where
    by : (b : Bool) → settles s more ≡ b → runs (settled_by b s).polls.timer ≡ true
    by true e = refl
    by false e = two (runs s.polls.timer) (is_shut s) refl refl
      where
        two : (r d : Bool) → runs s.polls.timer ≡ r → is_shut s ≡ d → r ≡ true
        two true d x y = refl
        two false true x y =
            let shut : length s.window.slots ≡ 512 = grind (arith, nat_tests) in
            let idle : waits s ≡ false = grind (arith, nat_tests, common_steps) in
            let w = h f shut idle in sym x ∙ w.0
        two false false x y =
            let none : (length s.window.slots == 0) ≡ false = grind (arith, nat_tests) in
            let t : settles s more ≡ true = grind (arith, nat_tests, common_steps) in
            let no' : false ≡ true = sym e ∙ t in cc

pub watches : RunsThePollTimer
watches config calls fair = record {
  shut = all;
  settled = λ more f some quiet. settled-runs (state_after calls (start config)) more all f some quiet;
}
  where
    all : Watched (state_after calls (start config))
    all = run-guards calls (start config) unmarked (λ n. false) fair (record {
      stands = start-stands config;
      fits = fresh-fits config;
      full = record { slots = λ k lt. absurd (omega arith); queue = tt };
      polled = omega arith;
      watched = λ f shut quiet. absurd (omega (arith, shut));
    })
