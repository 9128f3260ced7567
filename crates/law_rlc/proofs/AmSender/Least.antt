-- VT(A) is the least number that isn't acknowledged, along every run.
use Rattle.std.proofs.Common.{◌≡◌, ◌<◌, ◌≤◌, inl, inr, ℕ, suc, zero, ◌+◌, ◌-◌, Bool, true, false, not, ◌||◌, ◌&&◌}
use Rattle.std.proofs.Common.{if◌then◌else◌, List, [], ◌∷◌, ◌++◌, length, drop, Option, Some, None, is_some, refl, ap}
use Rattle.std.proofs.Common.{sym, subst, ◌∙◌, arith, length-append, length-drop, set, nat_le, nat_lt, get_or-set_same}
use Rattle.std.proofs.Common.{get_or-set_other}
use Rattle.std.proofs.lemmas.Grind.{common_steps}
use Rattle.std.proofs.lemmas.Bool.Decides.{nat_tests}
use Rattle.std.proofs.lemmas.Bool.{cases_lt, cases_eq}
use Rattle.std.proofs.Math.ListN.{length-set}
use Rattle.l2_num.specs.Timers.{runs}
use Rattle.l2_types.specs.declared.config.AmTxConfig.{AmTxConfig}
use Rattle.rlc_pdu.specs.declared.pdu.Nack.{Nack}
use Rattle.rlc_pdu.specs.Pdus.{StatusPdu}
use Rattle.rlc_am_tx_window.specs.Sent.{Sent, rested, sent_part, recalled, next_stretch}
use Rattle.rlc_am_tx_window.specs.Window.{TxWindow, next, nothing, slot_at, offset_of, named_all, acked_from}
use Rattle.rlc_am_tx_window.specs.Window.{considered_all, is_named, leading_acked, advanced}
use Rattle.rlc_am_tx.specs.declared.turn.Turn.{Turn}
use Rattle.rlc_am_tx.specs.declared.turn.Turn.TheVariants as turns
use Rattle.rlc_am_tx.specs.Machine.{State, start, turn, after_turn, after_status, after_expiry, settled_by, settles}
use Rattle.rlc_am_tx.specs.Machine.{is_ignored, with_poll, is_wanted, again, sent_whole, sent_segment, first_place}
use Rattle.rlc_am_tx.specs.Machine.{sent_new, new_slot, ended, limit_of, stops, read, applied, with_recalled, with_owed}
use Rattle.rlc_am_tx.specs.Machine.{expired, recalled_place, expiry_limit}
use Rattle.law_rlc.specs.AmSender.Run.{Call, Offer, Take, Status, Tick, Expire, Settle, Confirm, World, after}
use Rattle.law_rlc.specs.AmSender.Run.{run_am_sender}
use Rattle.law_rlc.specs.AmSender.Run.{begun}
use Rattle.law_rlc.specs.AmSender.Acked.{acks, acked_after, IsLeast, BaseIsLeast}
use Rattle.law_rlc.proofs.AmSender.Slots.{named-length, all-acked, all-named, acked-length, acked-at, one-closed}
use Rattle.law_rlc.proofs.AmSender.Slots.{one-kept, considered-length, considered-acked, considered-named}
use Rattle.law_rlc.proofs.AmSender.Slots.{leading-acked, leading-stop, leading-length, slot-drop}

pub record Fits (w : TxWindow) (acked : ℕ → Bool) : Type 0 where
  pub few : length w.slots ≤ 512
  pub below : (n : ℕ) → n < w.base → acked n ≡ true
  pub slots : (k : ℕ) → k < length w.slots → (slot_at w.slots k).acked ≡ acked (w.base + k)
  pub plain : (k : ℕ) → k < length w.slots → is_some (slot_at w.slots k).named ≡ false
  pub above : (n : ℕ) → next w ≤ n → acked n ≡ false
  pub front : 0 < length w.slots → (slot_at w.slots 0).acked ≡ false

-- a slot is changed that keeps its two marks
pub changed : (w : TxWindow) (acked : ℕ → Bool) (at : ℕ) (h : Sent) → h.acked ≡ (slot_at w.slots at).acked
    → is_some h.named ≡ is_some (slot_at w.slots at).named → Fits w acked
    → Fits (record w { slots = set w.slots at h }) acked
changed w acked at h a n f = record {
  few = omega (arith, f.few, length-set w.slots at h);
  below = f.below;
  slots = λ k lt. keeps-acked k (omega (arith, length-set w.slots at h))
      ∙ f.slots k (omega (arith, length-set w.slots at h));
  plain = λ k lt. keeps-named k (omega (arith, length-set w.slots at h))
      ∙ f.plain k (omega (arith, length-set w.slots at h));
  above = λ n le. f.above n (omega (arith, length-set w.slots at h));
  front = λ lt. keeps-acked 0 (omega (arith, length-set w.slots at h))
      ∙ f.front (omega (arith, length-set w.slots at h));
}
  where
    keeps-acked : (k : ℕ) → k < length w.slots → (slot_at (set w.slots at h) k).acked ≡ (slot_at w.slots k).acked
    keeps-acked k lt = elim (cases_eq k at) [
      | inl same ↦ rw same (ap (λ (x : Sent). x.acked) (get_or-set_same w.slots at h nothing (omega arith)) ∙ a)
      | inr other ↦ ap (λ (x : Sent). x.acked) (get_or-set_other w.slots at k h nothing other)
    ]

    keeps-named : (k : ℕ) → k < length w.slots
        → is_some (slot_at (set w.slots at h) k).named ≡ is_some (slot_at w.slots k).named
    keeps-named k lt = elim (cases_eq k at) [
      | inl same ↦ rw same (ap (λ (x : Sent). is_some x.named) (get_or-set_same w.slots at h nothing (omega arith)) ∙ n)
      | inr other ↦ ap (λ (x : Sent). is_some x.named) (get_or-set_other w.slots at k h nothing other)
    ]

pub at-old : (xs : List Sent) (h : Sent) (k : ℕ) → k < length xs → slot_at (xs ++ h ∷ []) k ≡ slot_at xs k
at-old [] h k lt = absurd (omega arith)
at-old (x ∷ xs) h zero lt = refl
at-old (x ∷ xs) h (suc k) lt = at-old xs h k (omega arith)

pub at-new : (xs : List Sent) (h : Sent) (k : ℕ) → k ≡ length xs → slot_at (xs ++ h ∷ []) k ≡ h
at-new [] h k e = rw e refl
at-new (x ∷ xs) h zero e = absurd (omega arith)
at-new (x ∷ xs) h (suc k) e = at-new xs h k (omega arith)

-- a PDU is added
pub added : (w : TxWindow) (acked : ℕ → Bool) (h : Sent) → h.acked ≡ false → is_some h.named ≡ false
    → length w.slots < 512 → Fits w acked → Fits (record w { slots = w.slots ++ h ∷ [] }) acked
added w acked h a n room f = record {
  few = omega (arith, length-append w.slots (h ∷ []));
  below = f.below;
  slots = λ k lt. elim (cases_lt k (length w.slots)) [
    | inl old ↦ ap (λ (x : Sent). x.acked) (at-old w.slots h k old) ∙ f.slots k old
    | inr new ↦ ap (λ (x : Sent). x.acked) (at-new w.slots h k (omega (arith, length-append w.slots (h ∷ [])))) ∙ a
        ∙ sym (f.above (w.base + k) (omega arith))
  ];
  plain = λ k lt. elim (cases_lt k (length w.slots)) [
    | inl old ↦ ap (λ (x : Sent). is_some x.named) (at-old w.slots h k old) ∙ f.plain k old
    | inr new ↦ ap (λ (x : Sent). is_some x.named)
        (at-new w.slots h k (omega (arith, length-append w.slots (h ∷ [])))) ∙ n
  ];
  above = λ n le. f.above n (omega (arith, length-append w.slots (h ∷ [])));
  front = λ lt. elim (cases_lt 0 (length w.slots)) [
    | inl old ↦ ap (λ (x : Sent). x.acked) (at-old w.slots h 0 old) ∙ f.front old
    | inr new ↦ ap (λ (x : Sent). x.acked) (at-new w.slots h 0 (omega arith)) ∙ a
  ];
}

pub polled-window : (b : Bool) (s : State) → (with_poll b s).window ≡ s.window
polled-window true s = refl
polled-window false s = refl

-- a new PDU is sent only where the window has room
pub new-room : (s : State) (size : ℕ) (held : Option ℕ) (more : Bool) → turn s size held more ≡ turns.New
    → length s.window.slots ≤ 512 → length s.window.slots < 512
unfolding turn
new-room s size held more e few = grind (arith, common_steps, nat_tests)

turn-fits : (t : Turn) (s : State) (size : ℕ) (more : Bool) (acked : ℕ → Bool)
    → (t ≡ turns.New → length s.window.slots < 512) → Fits s.window acked
    → Fits (after_turn t s size more).window acked
unfolding after_turn
turn-fits turns.Whole s size more acked room f =
    subst (λ (w : TxWindow). Fits w acked) (sym (polled-window (is_wanted (sent_whole s) more) (sent_whole s)))
    (changed s.window acked (first_place s) (rested (again s)) refl refl f)
turn-fits turns.Part s size more acked room f =
    subst (λ (w : TxWindow). Fits w acked)
    (sym (polled-window (is_wanted (sent_segment s size) more) (sent_segment s size)))
    (changed s.window acked (first_place s)
    (sent_part (again s) (next_stretch (again s) size).from (next_stretch (again s) size).to) refl refl f)
turn-fits turns.New s size more acked room f =
    subst (λ (w : TxWindow). Fits w acked) (sym (polled-window (is_wanted (sent_new s size) more) (sent_new s size)))
    (added s.window acked (new_slot s size) refl refl (room refl) f)
turn-fits turns.Idle s size more acked room f = f
turn-fits turns.Stopped s size more acked room f = f
turn-fits turns.Small s size more acked room f = f
turn-fits turns.Shut s size more acked room f = f
turn-fits turns.Held s size more acked room f = f

-- a STATUS is read
bool-off : (a b : Bool) → b ≡ false → (a || b) ≡ a
bool-off true b e = refl
bool-off false b e = e

bool-heard : (a b n : Bool) → (a || (b && not (n && not a))) ≡ (a || (true && (true && b && not n)))
bool-heard true b n = refl
bool-heard false true true = refl
bool-heard false true false = refl
bool-heard false false true = refl
bool-heard false false false = refl

bool-plain : (n a : Bool) → ((false || (n && a)) && not n) ≡ false
bool-plain true true = refl
bool-plain true false = refl
bool-plain false a = refl

abbrev pub heard_slots : TxWindow → ℕ → ℕ → List Nack → List Sent
heard_slots w below most ns = considered_all w.base most (acked_from 0 below (named_all w.base w.slots ns)) ns

pub heard-length : (w : TxWindow) (below most : ℕ) (ns : List Nack)
    → length (heard_slots w below most ns) ≡ length w.slots
heard-length w below most ns = considered-length w.base most (acked_from 0 below (named_all w.base w.slots ns)) ns
    ∙ (acked-length 0 below (named_all w.base w.slots ns) ∙ named-length w.base w.slots ns)

pub heard-acked : (w : TxWindow) (below most : ℕ) (ns : List Nack) (k : ℕ) → k < length w.slots
    → (slot_at (heard_slots w below most ns) k).acked
    ≡ ((slot_at (named_all w.base w.slots ns) k).acked
    || (nat_lt (0 + k) below && not (is_some (slot_at (named_all w.base w.slots ns) k).named)))
heard-acked w below most ns k lt =
    let a = named-length w.base w.slots ns in let b = acked-length 0 below (named_all w.base w.slots ns) in
    considered-acked w.base most (acked_from 0 below (named_all w.base w.slots ns)) ns k (omega arith)
    ∙ (ap (λ (x : Sent). x.acked) (acked-at 0 below (named_all w.base w.slots ns) k (omega arith))
    ∙ one-closed (nat_lt (0 + k) below) (slot_at (named_all w.base w.slots ns) k))

pub heard-named : (w : TxWindow) (below most : ℕ) (ns : List Nack) (k : ℕ) → k < length w.slots
    → is_some (slot_at (heard_slots w below most ns) k).named
    ≡ (is_some (slot_at (named_all w.base w.slots ns) k).named && not (is_named w.base k ns))
heard-named w below most ns k lt =
    let a = named-length w.base w.slots ns in let b = acked-length 0 below (named_all w.base w.slots ns) in
    considered-named w.base most (acked_from 0 below (named_all w.base w.slots ns)) ns k (omega arith)
    ∙ ap (λ (x : Option Bool). is_some x && not (is_named w.base k ns))
    (ap (λ (x : Sent). x.named) (acked-at 0 below (named_all w.base w.slots ns) k (omega arith))
    ∙ one-kept (nat_lt (0 + k) below) (slot_at (named_all w.base w.slots ns) k))

pub heard : (w : TxWindow) (acked : ℕ → Bool) (below most : ℕ) (ns : List Nack) → below ≤ length w.slots → Fits w acked
    → Fits (advanced (record { base = w.base; slots = heard_slots w below most ns }))
    (λ n. acked n || (true && acks w.base below ns n))
heard w acked below most ns within f = record {
  few = omega (arith, f.few, len, len-drop);
  below = λ n lt. elim (cases_lt n w.base) [
    | inl old ↦ rw (f.below n old) refl
    | inr new ↦ subst (λ (m : ℕ). (acked m || (true && acks w.base below ns m)) ≡ true) (omega arith)
        (sym (slot (n - w.base) (omega (arith, lead))) ∙ leading-acked all (n - w.base) (omega arith))
  ];
  slots = λ k lt. ap (λ (x : Sent). x.acked) (slot-drop all (leading_acked all) k)
      ∙ slot (leading_acked all + k) (omega (arith, len, len-drop))
      ∙ ap (λ (m : ℕ). acked m || (true && acks w.base below ns m)) (omega arith);
  plain = λ k lt. ap (λ (x : Sent). is_some x.named) (slot-drop all (leading_acked all) k)
      ∙ plains (leading_acked all + k) (omega (arith, len, len-drop));
  above = λ n le. bool-off (acked n) (true && acks w.base below ns n) (beyond n (omega (arith, len, len-drop, lead)))
      ∙ f.above n (omega (arith, len, len-drop, lead));
  front = λ lt. ap (λ (x : Sent). x.acked) (slot-drop all (leading_acked all) 0 ∙ ap (slot_at all) (omega arith))
      ∙ leading-stop all (omega (arith, len, len-drop));
}
  where
    all : List Sent
    all = heard_slots w below most ns

    len : length all ≡ length w.slots
    len = heard-length w below most ns

    len-drop : length (drop (leading_acked all) all) ≡ length all - leading_acked all
    len-drop = length-drop (leading_acked all) all

    lead : leading_acked all ≤ length w.slots
    lead = omega (arith, leading-length all, len)

    shape : (x y a : Bool) (k : ℕ) → x ≡ a → y ≡ (is_named w.base k ns && not a)
        → (x || (nat_lt (0 + k) below && not y)) ≡ (a || (true && acks w.base below ns (w.base + k)))
    shape x y a k e g =
        let back : w.base + k - w.base ≡ k = omega arith in
        let low : nat_le w.base (w.base + k) ≡ true = grind (arith, nat_tests) in
        let high : nat_lt (w.base + k) (w.base + below) ≡ nat_lt (0 + k) below = grind (arith, nat_tests) in
        rw (e, g, back, low, high) (bool-heard a (nat_lt (0 + k) below) (is_named w.base k ns))

    marks : (k : ℕ) → k < length w.slots → is_some (slot_at (named_all w.base w.slots ns) k).named
        ≡ (false || (is_named w.base k ns && not (acked (w.base + k))))
    marks k lt = all-named w.base w.slots ns k lt
        ∙ (ap (λ (b : Bool). b || (is_named w.base k ns && not (slot_at w.slots k).acked)) (f.plain k lt)
        ∙ ap (λ (b : Bool). false || (is_named w.base k ns && not b)) (f.slots k lt))

    slot : (k : ℕ) → k < length w.slots → (slot_at all k).acked
        ≡ (acked (w.base + k) || (true && acks w.base below ns (w.base + k)))
    slot k lt =
        heard-acked w below most ns k lt
        ∙ shape (slot_at (named_all w.base w.slots ns) k).acked
        (is_some (slot_at (named_all w.base w.slots ns) k).named) (acked (w.base + k)) k
        (all-acked w.base w.slots ns k lt ∙ f.slots k lt)
        (marks k lt)

    plains : (k : ℕ) → k < length w.slots → is_some (slot_at all k).named ≡ false
    plains k lt = heard-named w below most ns k lt
        ∙ (ap (λ (b : Bool). b && not (is_named w.base k ns)) (marks k lt)
        ∙ bool-plain (is_named w.base k ns) (not (acked (w.base + k))))

    beyond : (n : ℕ) → next w ≤ n → (true && acks w.base below ns n) ≡ false
    beyond n le = grind (arith, nat_tests)

-- the same numbers, told otherwise
same-fits : (w : TxWindow) (f g : ℕ → Bool) → ((n : ℕ) → g n ≡ f n) → Fits w f → Fits w g
same-fits w f g e h = record {
  few = h.few;
  below = λ n lt. e n ∙ h.below n lt;
  slots = λ k lt. h.slots k lt ∙ sym (e (w.base + k));
  plain = h.plain;
  above = λ n le. e n ∙ h.above n le;
  front = h.front;
}

or-false : (a b : Bool) → (a || (false && b)) ≡ a
or-false true b = refl
or-false false b = refl

pub ended-window : (l : Option ℕ) (b : Bool) (s : State) → (ended l b s).window ≡ s.window
ended-window (Some n) b s = refl
ended-window None true s = refl
ended-window None false s = refl

status-fits : (b : Bool) (s : State) (status : StatusPdu) (acked : ℕ → Bool) → is_ignored s status.ack ≡ b
    → Fits s.window acked
    → Fits (if b then s else applied s (offset_of s.window.base status.ack) status.nacks).window
    (λ n. acked n || (not b && acks s.window.base (offset_of s.window.base status.ack) status.nacks n))
status-fits true s status acked e f =
    same-fits s.window acked
    (λ n. acked n || (false && acks s.window.base (offset_of s.window.base status.ack) status.nacks n))
    (λ n. or-false (acked n) (acks s.window.base (offset_of s.window.base status.ack) status.nacks n)) f
status-fits false s status acked e f =
    subst
    (λ (w : TxWindow). Fits w
    (λ n. acked n || (true && acks s.window.base (offset_of s.window.base status.ack) status.nacks n)))
    (sym (ended-window (limit_of s (offset_of s.window.base status.ack) status.nacks)
    (stops s (offset_of s.window.base status.ack) status.nacks)
    (read s (offset_of s.window.base status.ack) status.nacks)))
    (heard s.window acked (offset_of s.window.base status.ack) s.config.max_retx status.nacks
    (grind (arith, nat_tests)) f)

recalled-fits : (o : Option ℕ) (s : State) (acked : ℕ → Bool) → Fits s.window acked
    → Fits (with_recalled o s).window acked
recalled-fits None s acked f = f
recalled-fits (Some at) s acked f =
    changed s.window acked at (recalled s.config.max_retx (slot_at s.window.slots at)) refl refl f

expiry-fits : (b : Bool) (s : State) (more : Bool) (acked : ℕ → Bool) → Fits s.window acked
    → Fits (if b then ended (expiry_limit s more) false (expired s more) else s).window acked
expiry-fits false s more acked f = f
expiry-fits true s more acked f =
    subst (λ (w : TxWindow). Fits w acked) (sym (ended-window (expiry_limit s more) false (expired s more)))
    (recalled-fits (recalled_place s more) (with_owed s) acked f)

pub settled-window : (b : Bool) (s : State) → (settled_by b s).window ≡ s.window
settled-window true s = refl
settled-window false s = refl

pub after-fits : (s : State) (c : Call) (acked : ℕ → Bool) → Fits s.window acked
    → Fits (after s c).window (acked_after s c acked)
unfolding after_status after_expiry
after-fits s (Offer sdu) acked f = f
after-fits s (Take size held more) acked f =
    turn-fits (turn s size held more) s size more acked (λ e. new-room s size held more e f.few) f
after-fits s (Status status) acked f = status-fits (is_ignored s status.ack) s status acked refl f
after-fits s Tick acked f = f
after-fits s (Expire more) acked f = expiry-fits (runs s.polls.timer) s more acked f
after-fits s (Settle more) acked f = subst (λ (k : TxWindow). Fits k acked) (sym (settled-window (settles s more) s)) f
after-fits s Confirm acked f = f

run-fits : (calls : List Call) (w : World (ℕ → Bool)) → Fits w.state.window w.past
    → Fits (run_am_sender acked_after calls w).state.window (run_am_sender acked_after calls w).past
run-fits [] w f = f
run-fits (c ∷ cs) w f =
    run-fits cs (record { state = after w.state c; past = acked_after w.state c w.past })
    (after-fits w.state c w.past f)

pub fresh-fits : (c : AmTxConfig) → Fits (start c).window (λ n. false)
fresh-fits c = record {
  few = omega arith;
  below = λ n lt. absurd (omega arith);
  slots = λ k lt. absurd (omega arith);
  plain = λ k lt. absurd (omega arith);
  above = λ n le. refl;
  front = λ lt. absurd (omega arith);
}

least-of : (w : World (ℕ → Bool)) → Fits w.state.window w.past → IsLeast w
least-of w f = record {
  below = f.below;
  here = elim (cases_lt 0 (length w.state.window.slots)) [
    | inl some ↦ ap w.past (omega arith) ∙ sym (f.slots 0 some) ∙ f.front some
    | inr none ↦ f.above w.state.window.base (omega arith)
  ];
  window = omega (arith, f.few);
}

pub least : BaseIsLeast
least config calls =
    least-of (run_am_sender acked_after calls (begun config (λ n. false)))
    (run-fits calls (begun config (λ n. false)) (fresh-fits config))
