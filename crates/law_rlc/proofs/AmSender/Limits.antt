-- When the retransmission limit comes, along every run.
use Rattle.std.proofs.Common.{◌≡◌, ◌<◌, ◌≤◌, ◌⊎◌, inl, inr, ℕ, suc, zero, ◌+◌, ◌-◌, Bool, true, false, not, ◌||◌, ◌&&◌}
use Rattle.std.proofs.Common.{◌==◌, if◌then◌else◌, List, [], ◌∷◌, length, Option, Some, None, min, refl, ap, sym, subst}
use Rattle.std.proofs.Common.{◌∙◌, arith, nat_le, nat_lt, set, get_or-set_same}
use Rattle.std.proofs.lemmas.Bool.Decides.{nat_tests}
use Rattle.std.proofs.lemmas.Bool.{cases_lt, cases_eq}
use Rattle.std.specs.Prelude.{IfSome}
use Rattle.l2_num.specs.Timers.{runs}
use Rattle.l2_types.specs.declared.config.AmTxConfig.{AmTxConfig}
use Rattle.rlc_pdu.specs.declared.pdu.Nack.{Nack}
use Rattle.rlc_pdu.specs.Pdus.{StatusPdu}
use Rattle.rlc_am_tx_window.specs.Sent.{Sent, is_spent, recalled}
use Rattle.rlc_am_tx_window.specs.Window.{TxWindow, next, nothing, slot_at, offset_of, is_named, least, or_spent}
use Rattle.rlc_am_tx_window.specs.Window.{spent_among}
use Rattle.rlc_am_tx_window.proofs.RingSteps.{slot-past}
use Rattle.rlc_am_tx.specs.declared.turn.Turn.{Turn}
use Rattle.rlc_am_tx.specs.declared.turn.Turn.TheVariants as turns
use Rattle.rlc_am_tx.specs.declared.Heard.TheVariants as hears
use Rattle.rlc_am_tx.specs.declared.PollExpired.TheVariants as expires
use Rattle.rlc_am_tx.specs.Machine.{State, turn, after_turn, after_status, after_expiry, heard, heard_of, expiry}
use Rattle.rlc_am_tx.specs.Machine.{expiry_of, settles, settled_by, is_ignored, with_poll, is_wanted, sent_whole}
use Rattle.rlc_am_tx.specs.Machine.{sent_segment, sent_new, ended, limit_of, limit_in, stops, read, read_window}
use Rattle.rlc_am_tx.specs.Machine.{applied, with_recalled, with_owed, expired, recalled_place, expiry_limit, spent_at}
use Rattle.law_rlc.specs.AmSender.Run.{Call, Offer, Take, Status, Tick, Expire, Settle, Confirm, World, after}
use Rattle.law_rlc.specs.AmSender.Run.{run_am_sender, begun}
use Rattle.law_rlc.specs.AmSender.Namings.{Marks, unmarked, names, any_below, with_naming, is_open, size_at}
use Rattle.law_rlc.specs.AmSender.Namings.{heard_namings, heard_marks, recalled_marks, marks_by, marks_after, count_of}
use Rattle.law_rlc.specs.AmSender.Limit.{AreFew, IsLimit, LimitHeard, LimitExpired, NoLimit, IsSilent, ComesAtLimit}
use Rattle.law_rlc.specs.AmSender.Limit.{FailsAtLimit}
use Rattle.law_rlc.proofs.AmSender.Least.{heard_slots, heard-length}
use Rattle.law_rlc.proofs.AmSender.Marked.{recalled-within, recalled-slot, Stands, after-stands}
use Rattle.law_rlc.proofs.AmSender.Heard.{Holds, heard-slot}
use Rattle.law_rlc.proofs.AmSender.Marked.{start-stands, same-number, turn-config, ended-config, recalled-config}

is-less : (n m : ℕ) → nat_lt n m ≡ true → n < m
is-less n m e = grind (arith, nat_tests)

is-more : (n m : ℕ) → nat_lt n m ≡ false → m ≤ n
is-more n m e = grind (arith, nat_tests)

is-least : (n m : ℕ) → nat_le n m ≡ true → n ≤ m
is-least n m e = grind (arith, nat_tests)

-- RETX_COUNT has reached the limit with one counted naming more
some-count : (k most : ℕ) → count_of (suc k) most ≡ Some (min k most)
some-count k most = let e : (suc k == 0) ≡ false = grind (arith, nat_tests) in
    rw e (ap (λ (x : ℕ). Some x) (omega arith))

spent-is : (n most : ℕ) → is_spent (count_of n most) most ≡ nat_lt most n
spent-is zero most = let e : nat_lt most 0 ≡ false = grind (arith, nat_tests) in sym e
spent-is (suc k) most = ap (λ (c : Option ℕ). is_spent c most) (some-count k most) ∙ same
  where
    same : nat_le most (min k most) ≡ nat_lt most (suc k)
    same = grind (arith, nat_tests)

-- the least of the numbers that entries have and that are spent

abbrev Spent : List Sent → ℕ → ℕ → Type 0
Spent slots most k = is_spent (slot_at slots k).retransmissions most ≡ true

record IsFirst (base most : ℕ) (slots : List Sent) (found : Option ℕ) (ns : List Nack) (a : ℕ) : Type 0 where
  here : (found ≡ Some a) ⊎ Spent slots most a
  low : (k : ℕ) → is_named base k ns ≡ true → Spent slots most k → a ≤ k
  first : IfSome found (λ f. a ≤ f)

record IsNone (base most : ℕ) (slots : List Sent) (found : Option ℕ) (ns : List Nack) : Type 0 where
  here : found ≡ None
  none : (k : ℕ) → is_named base k ns ≡ true → Spent slots most k → ⊥

abbrev Answers : ℕ → ℕ → List Sent → Option ℕ → List Nack → Option ℕ → Type 0
Answers base most slots found ns None = IsNone base most slots found ns
Answers base most slots found ns (Some a) = IsFirst base most slots found ns a

among : (base most : ℕ) (slots : List Sent) (found : Option ℕ) (ns : List Nack)
    → Answers base most slots found ns (spent_among base most slots found ns)
among base most slots None [] = record { here = refl; none = λ k e s. let no' : false ≡ true = e in cc }
among base most slots (Some a) [] =
    record { here = inl refl; low = λ k e s. let no' : false ≡ true = e in cc; first = omega arith }
among base most slots found (n ∷ ns) =
    step (is_spent (slot_at slots (offset_of base n.sn)).retransmissions most) refl
    (spent_among base most slots (or_spent base most slots found n) ns)
    (among base most slots (or_spent base most slots found n) ns)
  where
    -- an entry's number or a later one's
    either : (k : ℕ) (b : Bool) → (offset_of base n.sn == k) ≡ b → (if b then true else is_named base k ns) ≡ true
        → (offset_of base n.sn ≡ k) ⊎ (is_named base k ns ≡ true)
    either k true e h = inl (grind (arith, nat_tests))
    either k false e h = inr h

    step : (b : Bool) → is_spent (slot_at slots (offset_of base n.sn)).retransmissions most ≡ b → (o : Option ℕ)
        → Answers base most slots (if b then least found (offset_of base n.sn) else found) ns o
        → Answers base most slots found (n ∷ ns) o
    step false e None h = record {
      here = h.here;
      none = λ k m s. elim (either k (offset_of base n.sn == k) refl m) [
        | inl same ↦ let t : is_spent (slot_at slots (offset_of base n.sn)).retransmissions most ≡ true =
            subst (λ (j : ℕ). Spent slots most j) (sym same) s in let no' : false ≡ true = sym e ∙ t in cc
        | inr later ↦ h.none k later s
      ];
    }
    step false e (Some a) h = record {
      here = h.here;
      low = λ k m s. elim (either k (offset_of base n.sn == k) refl m) [
        | inl same ↦ let t : is_spent (slot_at slots (offset_of base n.sn)).retransmissions most ≡ true =
            subst (λ (j : ℕ). Spent slots most j) (sym same) s in let no' : false ≡ true = sym e ∙ t in cc
        | inr later ↦ h.low k later s
      ];
      first = h.first;
    }
    step true e None h = absurd (never found h.here)
      where
        never : (o : Option ℕ) → least o (offset_of base n.sn) ≡ None → ⊥
        never None x = let no' : Some (offset_of base n.sn) ≡ None = x in cc
        never (Some f) x = let no' : Some (min f (offset_of base n.sn)) ≡ None = x in cc
    step true e (Some a) h = record {
      here = elim h.here [ inl old ↦ from found old | inr s ↦ inr s ];
      low = λ k m s. elim (either k (offset_of base n.sn == k) refl m) [
        | inl same ↦ let b = bound found h.first in let b0 = b.0 in omega (arith, b0, same)
        | inr later ↦ h.low k later s
      ];
      first = (bound found h.first).1;
    }
      where
        from : (o : Option ℕ) → least o (offset_of base n.sn) ≡ Some a → (o ≡ Some a) ⊎ Spent slots most a
        from None x = let same : offset_of base n.sn ≡ a = cc in inr (subst (λ (j : ℕ). Spent slots most j) same e)
        from (Some f) x = elim (cases_lt f (offset_of base n.sn)) [
          | inl less ↦ let m : min f (offset_of base n.sn) ≡ f = omega arith in
              let same : min f (offset_of base n.sn) ≡ a = cc in inl (ap (λ (j : ℕ). Some j) (sym m ∙ same))
          | inr more ↦ let m : min f (offset_of base n.sn) ≡ offset_of base n.sn = omega arith in
              let same : min f (offset_of base n.sn) ≡ a = cc in
              inr (subst (λ (j : ℕ). Spent slots most j) (sym m ∙ same) e)
        ]

        bound : (o : Option ℕ) → IfSome (least o (offset_of base n.sn)) (λ f. a ≤ f)
            → (a ≤ offset_of base n.sn) × IfSome o (λ f. a ≤ f)
        bound None x = (x, tt)
        bound (Some f) x = (omega (arith, x), omega (arith, x))

-- ---- a STATUS

-- a naming counts one at most
naming-most : (n : ℕ) (new : Bool) → with_naming n new ≤ n + 1
naming-most n new = step ((n == 0) || new)
  where
    step : (b : Bool) → (if b then n + 1 else n) ≤ n + 1
    step true = omega arith
    step false = omega arith

heard-most : (w : TxWindow) (ns : List Nack) (m : Marks) (n : ℕ) → heard_namings w ns m n ≤ m.namings n + 1
heard-most w ns m n = step (is_open w n && is_named w.base (n - w.base) ns)
  where
    step : (b : Bool)
        → (if b then with_naming (m.namings n)
        (any_below (size_at w n) (λ i. names w.base (n - w.base) ns (size_at w n) i && not (m.waits n i)))
        else m.namings n) ≤ m.namings n + 1
    step true =
        naming-most (m.namings n)
        (any_below (size_at w n) (λ i. names w.base (n - w.base) ns (size_at w n) i && not (m.waits n i)))
    step false = omega arith

-- a number that isn't named is left alone
record IsHere (w : TxWindow) (ns : List Nack) (n k : ℕ) : Type 0 where
  number : n ≡ w.base + k
  within : k < length w.slots
  named : is_named w.base k ns ≡ true

open-here : (w : TxWindow) (ns : List Nack) (n : ℕ) → is_open w n ≡ true → is_named w.base (n - w.base) ns ≡ true
    → IsHere w ns n (n - w.base)
open-here w ns n o e =
    let b = both (nat_le w.base n) (nat_lt n (next w)) (not (slot_at w.slots (n - w.base)).acked) o in
    let lo = is-least w.base n b.0 in let hi = is-less n (next w) b.1 in
    record { number = omega arith; within = omega arith; named = e }
  where
    both : (a b c : Bool) → (a && (b && c)) ≡ true → (a ≡ true) × (b ≡ true)
    both true true c e = (refl, refl)
    both true false c e = (refl, e)
    both false b c e = let no' : false ≡ true = e in cc

heard-or : (w : TxWindow) (ns : List Nack) (m : Marks) (n : ℕ)
    → (heard_namings w ns m n ≡ m.namings n) ⊎ IsHere w ns n (n - w.base)
heard-or w ns m n = step (is_open w n) (is_named w.base (n - w.base) ns) refl refl
  where
    step : (o e : Bool) → is_open w n ≡ o → is_named w.base (n - w.base) ns ≡ e
        → (heard_namings w ns m n ≡ m.namings n) ⊎ IsHere w ns n (n - w.base)
    step true true o e = inr (open-here w ns n o e)
    step true false o e = inl (rw (o, e) refl)
    step false e o f = inl (rw o refl)

heard-spent : (w : TxWindow) (below most : ℕ) (ns : List Nack) (m : Marks) (k : ℕ) → Holds w m most → k < length w.slots
    → is_spent (slot_at (heard_slots w below most ns) k).retransmissions most
    ≡ nat_lt most (heard_namings w ns m (w.base + k))
heard-spent w below most ns m k h lt =
    ap (λ (c : Option ℕ). is_spent c most) ((heard-slot w below most ns m k lt (h.slots k lt)).count)
    ∙ spent-is (heard_namings w ns m (w.base + k)) most

-- a number that isn't spent has few namings
few-at : (w : TxWindow) (below most : ℕ) (ns : List Nack) (m : Marks) (n : ℕ) → Holds w m most → AreFew m.namings most
    → ((k : ℕ) → n ≡ w.base + k → k < length w.slots → is_named w.base k ns ≡ true
    → Spent (heard_slots w below most ns) most k → ⊥)
    → heard_namings w ns m n ≤ most
few-at w below most ns m n h few away = elim (heard-or w ns m n) [
  | inl same ↦ let f = few n in omega (arith, same, f)
  | inr here ↦ by (nat_lt most (heard_namings w ns m n)) refl here
]
  where
    by : (b : Bool) → nat_lt most (heard_namings w ns m n) ≡ b → IsHere w ns n (n - w.base)
        → heard_namings w ns m n ≤ most
    by false e here = is-more most (heard_namings w ns m n) e
    by true e here = absurd (away (n - w.base) here.number here.within here.named
        (heard-spent w below most ns m (n - w.base) h here.within
        ∙ (ap (λ (j : ℕ). nat_lt most (heard_namings w ns m j)) (sym here.number) ∙ e)))

heard-limit : (w : TxWindow) (below most : ℕ) (ns : List Nack) (m : Marks) (o : Option ℕ) → Holds w m most
    → AreFew m.namings most
    → Answers w.base most (heard_slots w below most ns) None ns o
    → IsLimit (limit_in false w.base o) (heard_namings w ns m) most
heard-limit w below most ns m None h few a = λ n. few-at w below most ns m n h few (λ k e lt named s. a.none k named s)
heard-limit w below most ns m (Some at) h few a = record {
  number = w.base + at;
  is = refl;
  reached = let s =
      is-less most (heard_namings w ns m (w.base + at)) (sym (heard-spent w below most ns m at h there) ∙ spent) in
      let t = heard-most w ns m (w.base + at) in let f = few (w.base + at) in omega arith;
  least = λ n lt. few-at w below most ns m n h few (λ k e k_in named s. let le = a.low k named s in
      absurd (omega arith));
}
  where
    spent : Spent (heard_slots w below most ns) most at
    spent = elim a.here [ inl old ↦ let no' : None ≡ Some at = old in cc | inr s ↦ s ]

    there : at < length w.slots
    there = elim (cases_lt at (length w.slots)) [
      | inl lt ↦ lt
      | inr past ↦ let gone : slot_at (heard_slots w below most ns) at ≡ nothing =
          slot-past (heard_slots w below most ns) at (omega (arith, heard-length w below most ns)) in
          let no' : false ≡ true = sym (ap (λ (x : Sent). is_spent x.retransmissions most) gone) ∙ spent in cc
    ]

-- ---- an expiry

past-most : (most n : ℕ) → n ≤ most → nat_lt most (n + 1) ≡ true → n + 1 ≡ most + 1
past-most most n le e = let l = is-less most (n + 1) e in omega arith

expired-limit : (o : Option ℕ) (s : State) (m : Marks) → IfSome o (λ k. k < length s.window.slots) → Stands s m
    → AreFew m.namings s.config.max_retx
    → IsLimit (limit_in false s.window.base (spent_at o (with_recalled o s)))
    (recalled_marks o s.window.base m).namings s.config.max_retx
expired-limit None s m lt h few = few
expired-limit (Some at) s m lt h few =
    step
    (is_spent (slot_at (set s.window.slots at (recalled s.config.max_retx (slot_at s.window.slots at)))
    at).retransmissions s.config.max_retx) spent
  where
    spent : is_spent (slot_at (set s.window.slots at (recalled s.config.max_retx (slot_at s.window.slots at)))
        at).retransmissions s.config.max_retx ≡ nat_lt s.config.max_retx (m.namings (s.window.base + at) + 1)
    spent = ap (λ (x : Sent). is_spent x.retransmissions s.config.max_retx)
        (get_or-set_same s.window.slots at (recalled s.config.max_retx (slot_at s.window.slots at)) nothing lt)
        ∙ (ap (λ (c : Option ℕ). is_spent c s.config.max_retx)
        ((recalled-slot (slot_at s.window.slots at) (m.waits (s.window.base + at)) (m.namings (s.window.base + at))
        s.config.max_retx (h.slots at lt)).count)
        ∙ spent-is (m.namings (s.window.base + at) + 1) s.config.max_retx)

    others : (n : ℕ) → (n ≡ s.window.base + at → ⊥)
        → (if n == s.window.base + at then m.namings n + 1 else m.namings n) ≤ s.config.max_retx
    others n away = let off : (n == s.window.base + at) ≡ false = apart n (s.window.base + at) away in rw off (few n)
      where
        apart : (a b : ℕ) → (a ≡ b → ⊥) → (a == b) ≡ false
        apart a b away = grind (arith, nat_tests)

    here : (if s.window.base + at == s.window.base + at then m.namings (s.window.base + at) + 1
        else m.namings (s.window.base + at)) ≡ m.namings (s.window.base + at) + 1
    here = rw (same-number s.window.base at) refl

    step : (b : Bool) → b ≡ nat_lt s.config.max_retx (m.namings (s.window.base + at) + 1)
        → IsLimit (limit_in false s.window.base (if b then Some at else None))
        (λ n. if n == s.window.base + at then m.namings n + 1 else m.namings n) s.config.max_retx
    step true e = record {
      number = s.window.base + at;
      is = refl;
      reached = here ∙ past-most s.config.max_retx (m.namings (s.window.base + at)) (few (s.window.base + at)) (sym e);
      least = λ n less. others n (λ same. omega (arith, less, same));
    }
    step false e = λ n. elim (cases_eq n (s.window.base + at)) [
      | inl same ↦ let l = is-more s.config.max_retx (m.namings (s.window.base + at) + 1) (sym e) in
          subst (λ (j : ℕ). (if j == s.window.base + at then m.namings j + 1 else m.namings j) ≤ s.config.max_retx)
          (sym same) (omega (arith, here, l))
      | inr other ↦ others n other
    ]

-- ---- any call

pub record Knows (s : State) (m : Marks) : Type 0 where
  pub stands : Stands s m
  pub few : s.failed ≡ false → AreFew m.namings s.config.max_retx

pub polled-failed : (b : Bool) (s : State) → (with_poll b s).failed ≡ s.failed
polled-failed true s = refl
polled-failed false s = refl

pub turn-failed : (t : Turn) (s : State) (size : ℕ) (more : Bool) → (after_turn t s size more).failed ≡ s.failed
unfolding after_turn
turn-failed turns.Whole s size more = polled-failed (is_wanted (sent_whole s) more) (sent_whole s)
turn-failed turns.Part s size more = polled-failed (is_wanted (sent_segment s size) more) (sent_segment s size)
turn-failed turns.New s size more = polled-failed (is_wanted (sent_new s size) more) (sent_new s size)
turn-failed turns.Idle s size more = refl
turn-failed turns.Stopped s size more = refl
turn-failed turns.Small s size more = refl
turn-failed turns.Shut s size more = refl
turn-failed turns.Held s size more = refl

turn-namings : (t : Turn) (s : State) (size : ℕ) (m : Marks) → (marks_by t s size m).namings ≡ m.namings
turn-namings turns.Whole s size m = refl
turn-namings turns.Part s size m = refl
turn-namings turns.New s size m = refl
turn-namings turns.Idle s size m = refl
turn-namings turns.Stopped s size m = refl
turn-namings turns.Small s size m = refl
turn-namings turns.Shut s size m = refl
turn-namings turns.Held s size m = refl

pub settled-failed : (b : Bool) (s : State) → (settled_by b s).failed ≡ s.failed
settled-failed true s = refl
settled-failed false s = refl

settled-config : (b : Bool) (s : State) → (settled_by b s).config ≡ s.config
settled-config true s = refl
settled-config false s = refl

recalled-failed : (o : Option ℕ) (s : State) → (with_recalled o s).failed ≡ s.failed
recalled-failed None s = refl
recalled-failed (Some at) s = refl

-- where the sender goes on, the limit didn't come
ended-few : (l : Option ℕ) (b : Bool) (s : State) (namings : ℕ → ℕ) (most : ℕ)
    → (s.failed ≡ false → IsLimit l namings most) → (ended l b s).failed ≡ false → AreFew namings most
ended-few (Some sn) b s namings most h e = let no' : true ≡ false = e in cc
ended-few None true s namings most h e = h e
ended-few None false s namings most h e = h e

status-limit : (f : Bool) (s : State) (status : StatusPdu) (m : Marks) → s.failed ≡ f → f ≡ false → Stands s m
    → AreFew m.namings s.config.max_retx
    → IsLimit (limit_of s (offset_of s.window.base status.ack) status.nacks) (heard_namings s.window status.nacks m)
    s.config.max_retx
status-limit f s status m e z h few =
    subst
    (λ (b : Bool). IsLimit
    (limit_in b s.window.base
    (spent_among s.window.base s.config.max_retx
    (read_window s (offset_of s.window.base status.ack) status.nacks).slots None status.nacks))
    (heard_namings s.window status.nacks m) s.config.max_retx) (sym (e ∙ z))
    (heard-limit s.window (offset_of s.window.base status.ack) s.config.max_retx status.nacks m
    (spent_among s.window.base s.config.max_retx
    (heard_slots s.window (offset_of s.window.base status.ack) s.config.max_retx status.nacks) None status.nacks)
    h few
    (among s.window.base s.config.max_retx
    (heard_slots s.window (offset_of s.window.base status.ack) s.config.max_retx status.nacks) None status.nacks))

expiry-limit : (f : Bool) (s : State) (more : Bool) (m : Marks) → s.failed ≡ f → f ≡ false → Stands s m
    → AreFew m.namings s.config.max_retx
    → IsLimit (expiry_limit s more) (recalled_marks (recalled_place s more) s.window.base m).namings s.config.max_retx
expiry-limit f s more m e z h few =
    subst (λ (b : Bool). IsLimit (limit_in b s.window.base (spent_at (recalled_place s more) (expired s more)))
    (recalled_marks (recalled_place s more) s.window.base m).namings s.config.max_retx) (sym (e ∙ z))
    (expired-limit (recalled_place s more) (with_owed s) m (recalled-within s more) h few)

status-few : (b : Bool) (s : State) (status : StatusPdu) (m : Marks) → Knows s m
    → (if b then s else applied s (offset_of s.window.base status.ack) status.nacks).failed ≡ false
    → AreFew (if b then m else heard_marks s.window (offset_of s.window.base status.ack) status.nacks m).namings
    (if b then s else applied s (offset_of s.window.base status.ack) status.nacks).config.max_retx
status-few true s status m k e = k.few e
status-few false s status m k e =
    subst (λ (c : AmTxConfig). AreFew (heard_namings s.window status.nacks m) c.max_retx)
    (sym (ended-config (limit_of s (offset_of s.window.base status.ack) status.nacks)
    (stops s (offset_of s.window.base status.ack) status.nacks)
    (read s (offset_of s.window.base status.ack) status.nacks)))
    (ended-few (limit_of s (offset_of s.window.base status.ack) status.nacks)
    (stops s (offset_of s.window.base status.ack) status.nacks)
    (read s (offset_of s.window.base status.ack) status.nacks) (heard_namings s.window status.nacks m)
    s.config.max_retx
    (λ f. status-limit s.failed s status m refl f k.stands (k.few f)) e)

expiry-few : (b : Bool) (s : State) (more : Bool) (m : Marks) → Knows s m
    → (if b then ended (expiry_limit s more) false (expired s more) else s).failed ≡ false
    → AreFew (if b then recalled_marks (recalled_place s more) s.window.base m else m).namings
    (if b then ended (expiry_limit s more) false (expired s more) else s).config.max_retx
expiry-few false s more m k e = k.few e
expiry-few true s more m k e =
    subst (λ (c : AmTxConfig). AreFew (recalled_marks (recalled_place s more) s.window.base m).namings c.max_retx)
    (sym (ended-config (expiry_limit s more) false (expired s more)
    ∙ recalled-config (recalled_place s more) (with_owed s)))
    (ended-few (expiry_limit s more) false (expired s more)
    (recalled_marks (recalled_place s more) s.window.base m).namings s.config.max_retx
    (λ f. expiry-limit s.failed s more m refl (sym (recalled-failed (recalled_place s more) (with_owed s)) ∙ f)
    k.stands (k.few (sym (recalled-failed (recalled_place s more) (with_owed s)) ∙ f))) e)

pub after-few : (s : State) (c : Call) (m : Marks) → Knows s m → (after s c).failed ≡ false
    → AreFew (marks_after s c m).namings (after s c).config.max_retx
unfolding after_status after_expiry
after-few s (Offer sdu) m k e = k.few e
after-few s (Take size held more) m k e =
    subst (λ (c : AmTxConfig). AreFew (marks_by (turn s size held more) s size m).namings c.max_retx)
    (sym (turn-config (turn s size held more) s size more))
    (subst (λ (f : ℕ → ℕ). AreFew f s.config.max_retx) (sym (turn-namings (turn s size held more) s size m))
    (k.few (sym (turn-failed (turn s size held more) s size more) ∙ e)))
after-few s (Status status) m k e = status-few (is_ignored s status.ack) s status m k e
after-few s Tick m k e = k.few e
after-few s (Expire more) m k e = expiry-few (runs s.polls.timer) s more m k e
after-few s (Settle more) m k e =
    subst (λ (c : AmTxConfig). AreFew m.namings c.max_retx) (sym (settled-config (settles s more) s))
    (k.few (sym (settled-failed (settles s more) s) ∙ e))
after-few s Confirm m k e = k.few e

pub run-knows : (calls : List Call) (w : World Marks) → Knows w.state w.past
    → Knows (run_am_sender marks_after calls w).state (run_am_sender marks_after calls w).past
run-knows [] w k = k
run-knows (c ∷ cs) w k =
    run-knows cs (record { state = after w.state c; past = marks_after w.state c w.past })
    (record { stands = after-stands w.state c w.past k.stands; few = after-few w.state c w.past k })

-- ---- what the calls answer

limit-heard : (l : Option ℕ) (b : Bool) (namings : ℕ → ℕ) (most : ℕ) → IsLimit l namings most
    → LimitHeard (heard_of l b) namings most
limit-heard None b namings most h = h
limit-heard (Some sn) b namings most h = h

limit-expired : (l : Option ℕ) (namings : ℕ → ℕ) (most : ℕ) → IsLimit l namings most
    → LimitExpired (expiry_of l) namings most
limit-expired None namings most h = h
limit-expired (Some sn) namings most h = h

none-heard : (l : Option ℕ) (b : Bool) → l ≡ None → NoLimit (heard_of l b)
none-heard None b e = tt
none-heard (Some sn) b e = let no' : Some sn ≡ None = e in cc

limit-once : (f : Bool) (base : ℕ) (o : Option ℕ) → f ≡ true → limit_in f base o ≡ None
limit-once f base None e = refl
limit-once f base (Some at) e = rw e refl

status-says : (s : State) (status : StatusPdu) (m : Marks) → Knows s m → s.failed ≡ false
    → LimitHeard (heard s status) (marks_after s (Status status) m).namings s.config.max_retx
unfolding heard
status-says s status m k f = step (is_ignored s status.ack)
  where
    step : (b : Bool)
        → LimitHeard (if b then hears.Ignored
        else heard_of (limit_of s (offset_of s.window.base status.ack) status.nacks)
        (stops s (offset_of s.window.base status.ack) status.nacks))
        (if b then m else heard_marks s.window (offset_of s.window.base status.ack) status.nacks m).namings
        s.config.max_retx
    step true = tt
    step false = limit-heard (limit_of s (offset_of s.window.base status.ack) status.nacks)
        (stops s (offset_of s.window.base status.ack) status.nacks) (heard_namings s.window status.nacks m)
        s.config.max_retx (status-limit s.failed s status m refl f k.stands (k.few f))

status-once : (s : State) (status : StatusPdu) → s.failed ≡ true → NoLimit (heard s status)
unfolding heard
status-once s status f = step (is_ignored s status.ack)
  where
    step : (b : Bool)
        → NoLimit (if b then hears.Ignored
        else heard_of (limit_of s (offset_of s.window.base status.ack) status.nacks)
        (stops s (offset_of s.window.base status.ack) status.nacks))
    step true = tt
    step false = none-heard (limit_of s (offset_of s.window.base status.ack) status.nacks)
        (stops s (offset_of s.window.base status.ack) status.nacks)
        (limit-once s.failed s.window.base
        (spent_among s.window.base s.config.max_retx
        (read_window s (offset_of s.window.base status.ack) status.nacks).slots None status.nacks) f)

expiry-says : (s : State) (more : Bool) (m : Marks) → Knows s m → s.failed ≡ false
    → LimitExpired (expiry s more) (marks_after s (Expire more) m).namings s.config.max_retx
unfolding expiry
expiry-says s more m k f = step (runs s.polls.timer)
  where
    step : (b : Bool)
        → LimitExpired (if b then expiry_of (expiry_limit s more) else expires.NotRunning)
        (if b then recalled_marks (recalled_place s more) s.window.base m else m).namings s.config.max_retx
    step true = limit-expired (expiry_limit s more) (recalled_marks (recalled_place s more) s.window.base m).namings
        s.config.max_retx (expiry-limit s.failed s more m refl f k.stands (k.few f))
    step false = tt

pub silent : (s : State) (size : ℕ) (held : Option ℕ) (more : Bool) → s.failed ≡ true → IsSilent (turn s size held more)
unfolding turn
silent s size held more f = rw f (step (_))
  where
    step : (b : Bool) → IsSilent (if b then turns.Idle else turns.Stopped)
    step true = tt
    step false = tt

comes-of : (w : World Marks) → Knows w.state w.past → ComesAtLimit w
comes-of w k = record {
  before = k.few;
  status = λ status f. status-says w.state status w.past k f;
  expiry = λ more f. expiry-says w.state more w.past k f;
  once = λ status f. status-once w.state status f;
  after = λ size held more f. silent w.state size held more f;
}

pub fails : FailsAtLimit
fails config calls =
    comes-of (run_am_sender marks_after calls (begun config unmarked))
    (run-knows calls (begun config unmarked) (record { stands = start-stands config; few = λ e n. omega arith }))
