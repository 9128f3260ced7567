-- The octets that wait and the namings that counted, along every run.
use Rattle.std.proofs.Common.{◌≡◌, ◌<◌, ◌≤◌, inl, inr, ℕ, suc, ◌+◌, ◌-◌, Bool, true, false, not, ◌||◌, ◌&&◌, ◌==◌}
use Rattle.std.proofs.Common.{if◌then◌else◌, List, [], ◌∷◌, ◌++◌, length, Option, Some, None, is_some, min, refl}
use Rattle.std.proofs.Common.{ap, sym, subst, ◌∙◌, arith, nat_le, nat_lt, length-append, set}
use Rattle.std.proofs.Common.{get_or-set_same, get_or-set_other}
use Rattle.std.proofs.lemmas.Grind.{common_steps}
use Rattle.std.proofs.lemmas.Bool.Decides.{nat_tests}
use Rattle.std.proofs.lemmas.Bool.{cases_lt, cases_eq}
use Rattle.std.proofs.Math.ListN.{length-set}
use Rattle.std.specs.List.{sum}
use Rattle.l2_num.specs.Timers.{runs}
use Rattle.l2_types.specs.declared.config.AmTxConfig.{AmTxConfig}
use Rattle.rlc_pdu.specs.Pdus.{StatusPdu}
use Rattle.rlc_pdu.specs.Runs.{run_between, lies_in}
use Rattle.rlc_pdu.proofs.RunSteps.{added_has, added_ascends}
use Rattle.rlc_am_tx_window.specs.Sent.{Sent, rested, recalled}
use Rattle.rlc_am_tx_window.specs.Sent.{sent_part, next_stretch, counted, fresh}
use Rattle.rlc_am_tx_window.specs.Window.{TxWindow, nothing, slot_at, offset_of}
use Rattle.rlc_am_tx_window.specs.Window.{last_open}
use Rattle.rlc_am_tx.specs.declared.turn.Turn.{Turn}
use Rattle.rlc_am_tx.specs.declared.turn.Turn.TheVariants as turns
use Rattle.rlc_am_tx.specs.Machine.{State, start, turn, waits, after_turn, after_status, after_expiry, settles}
use Rattle.rlc_am_tx.specs.Machine.{settled_by, is_ignored, with_poll, is_wanted, again, number_again, first_place}
use Rattle.rlc_am_tx.specs.Machine.{sent_whole, sent_segment, sent_new, new_slot, ended, limit_of, stops, read, applied}
use Rattle.rlc_am_tx.specs.Machine.{with_recalled, with_owed, expired, recalled_place, expiry_limit}
use Rattle.law_rlc.specs.AmSender.Run.{Call, Offer, Take, Status, Tick, Expire, Settle, Confirm, World, after}
use Rattle.law_rlc.specs.AmSender.Run.{run_am_sender, begun}
use Rattle.law_rlc.specs.AmSender.Namings.{Marks, unmarked, with_naming}
use Rattle.law_rlc.specs.AmSender.Namings.{heard_marks, resent, marks_by, recalled_marks, marks_after}
use Rattle.law_rlc.specs.AmSender.Namings.{count_of, IsMarked, CountsNamings}
use Rattle.rlc_queue.specs.NewPdu.{elements}
use Rattle.rlc_queue.proofs.Lens.{whole}
use Rattle.rlc_pdu.specs.declared.pdu.Part.{Part}
use Rattle.rlc_am_tx.proofs.SendSteps.{first-waits}
use Rattle.rlc_am_tx_window.specs.Cut.{cut, clip, goes_on, cost}
use Rattle.rlc_am_tx_window.specs.Sent.{first_waiting, stretch_from, is_waiting}
use Rattle.rlc_am_tx_window.specs.Sent.{Lies}
use Rattle.rlc_am_tx_window.proofs.CutSteps.{sum-first, clip-sum}
use Rattle.rlc_am_tx_window.proofs.SlotSteps.{gap-lies}
use Rattle.std.specs.Prelude.{IfSome}
use Rattle.law_rlc.proofs.AmSender.Named.{counted-is}
use Rattle.law_rlc.proofs.AmSender.Least.{at-old, at-new}
use Rattle.law_rlc.proofs.AmSender.Heard.{IsSlot, Holds, has-all, same-slot, not-false, heard-holds}

-- ---- a PDU is sent again

pub same-number : (b k : ℕ) → (b + k == b + k) ≡ true
same-number b k = grind (arith, nat_tests)

pub other-number : (b k at : ℕ) → (k ≡ at → ⊥) → (b + k == b + at) ≡ false
other-number b k at away = grind (arith, nat_tests)

keep-other : (w r : Bool) → (w && not (false && r)) ≡ w
keep-other true r = refl
keep-other false r = refl

resent-holds : (w : TxWindow) (m : Marks) (most at : ℕ) (h : Sent) (from to : ℕ)
    → (at < length w.slots
    → IsSlot h (λ i. m.waits (w.base + at) i && not (nat_le from i && nat_lt i to)) (m.namings (w.base + at)) most)
    → Holds w m most → Holds (record w { slots = set w.slots at h }) (resent m (w.base + at) from to) most
resent-holds w m most at h from to s f = record {
  slots = λ k lt. let l : k < length w.slots = omega (arith, length-set w.slots at h) in elim (cases_eq k at) [
    | inl same ↦ here k l same
    | inr other ↦ there k l other
  ];
  above = λ n le.
      let none = f.above n (omega (arith, length-set w.slots at h)) in
      (none.0, λ i. ap (λ (b : Bool). b && not ((n == w.base + at) && (nat_le from i && nat_lt i to))) (none.1 i));
}
  where
    here : (k : ℕ) → k < length w.slots → k ≡ at
        → IsSlot (slot_at (set w.slots at h) k) (λ i. m.waits (w.base + k) i
        && not ((w.base + k == w.base + at) && (nat_le from i && nat_lt i to))) (m.namings (w.base + k)) most
    here k l same =
        rw same
        (subst
        (λ (x : Sent). IsSlot x (λ i. m.waits (w.base + at) i
        && not ((w.base + at == w.base + at) && (nat_le from i && nat_lt i to))) (m.namings (w.base + at)) most)
        (sym (get_or-set_same w.slots at h nothing (omega (arith, l, same))))
        (same-slot h (λ i. m.waits (w.base + at) i && not (nat_le from i && nat_lt i to))
        (λ i. m.waits (w.base + at) i && not ((w.base + at == w.base + at) && (nat_le from i && nat_lt i to)))
        (m.namings (w.base + at)) (m.namings (w.base + at)) most
        (λ i i_in. rw (same-number w.base at) refl) refl (s (omega (arith, l, same)))))

    there : (k : ℕ) → k < length w.slots → (k ≡ at → ⊥)
        → IsSlot (slot_at (set w.slots at h) k) (λ i. m.waits (w.base + k) i
        && not ((w.base + k == w.base + at) && (nat_le from i && nat_lt i to))) (m.namings (w.base + k)) most
    there k l other =
        subst
        (λ (x : Sent). IsSlot x (λ i. m.waits (w.base + k) i
        && not ((w.base + k == w.base + at) && (nat_le from i && nat_lt i to))) (m.namings (w.base + k)) most)
        (sym (get_or-set_other w.slots at k h nothing other))
        (same-slot (slot_at w.slots k) (m.waits (w.base + k))
        (λ i. m.waits (w.base + k) i && not ((w.base + k == w.base + at) && (nat_le from i && nat_lt i to)))
        (m.namings (w.base + k)) (m.namings (w.base + k)) most
        (λ i i_in. rw (other-number w.base k at other)
        (keep-other (m.waits (w.base + k) i) (nat_le from i && nat_lt i to))) refl (f.slots k l))

in-whole : (size i : ℕ) → i < size → (nat_le 0 i && nat_lt i size) ≡ true
in-whole size i lt = grind (arith, nat_tests)

rested-slot : (h : Sent) (f : ℕ → Bool) (n most : ℕ) → IsSlot h f n most
    → IsSlot (rested h) (λ i. f i && not (nat_le 0 i && nat_lt i (length h.field))) n most
rested-slot h f n most s = record {
  ascends = λ some. (omega arith, some, tt);
  rests = λ i lt. has-all (length h.field) i lt ∙ rw (in-whole (length h.field) i lt) (not-false (f i));
  count = s.count;
  plain = s.plain;
  whole = s.whole;
}

bool-part : (r f : Bool) → (r || not f) ≡ not (f && not r)
bool-part true true = refl
bool-part true false = refl
bool-part false true = refl
bool-part false false = refl

part-slot : (h : Sent) (f : ℕ → Bool) (n most from to : ℕ) → from < to → IsSlot h f n most
    → IsSlot (sent_part h from to) (λ i. f i && not (nat_le from i && nat_lt i to)) n most
part-slot h f n most from to lt s = record {
  ascends = λ some. added_ascends h.resting from to lt (s.ascends some);
  rests = λ i i_in. added_has h.resting from to lt i
      ∙ (ap (λ (b : Bool). lies_in (run_between from to) i || b) (s.rests i i_in)
      ∙ bool-part (nat_le from i && nat_lt i to) (f i));
  count = s.count;
  plain = s.plain;
  whole = s.whole;
}

-- a segment has an octet

none-test : (n : ℕ) → (n == 0) ≡ true → n ≡ 0
none-test n e = grind (arith, nat_tests)

some-test : (n : ℕ) → (n == 0) ≡ false → 1 ≤ n
some-test n e = grind (arith, nat_tests)

cut-some : (room from to : ℕ) (ls : List ℕ) → 1 ≤ room → 1 ≤ sum (clip from to ls)
    → 1 ≤ sum (cut false room (clip from to ls))
cut-some room from to [] r h = absurd (omega arith)
cut-some room from to (l ∷ ls) r h =
    step (min to l - from) (min to l - from == 0) (some-test (min to l - from))
    (cut-some room (from - l) (to - l) ls r) h
  where
    step : (n : ℕ) (b : Bool) → (b ≡ false → 1 ≤ n)
        → (1 ≤ sum (clip (from - l) (to - l) ls) → 1 ≤ sum (cut false room (clip (from - l) (to - l) ls)))
        → 1 ≤ sum ((if b then [] else n ∷ []) ++ clip (from - l) (to - l) ls)
        → 1 ≤ sum (cut false room ((if b then [] else n ∷ []) ++ clip (from - l) (to - l) ls))
    step n true s ih h = ih h
    step n false s ih h =
        let o = s refl in
        rw (sum-first (min n room) (if goes_on false room n
        then cut true (room - (n + cost false)) (clip (from - l) (to - l) ls) else [])) (omega arith)

pub stretch-some : (h : Sent) (size : ℕ) → sum h.lens ≡ length h.field → is_waiting h ≡ true → 5 ≤ size
    → (next_stretch h size).from < (next_stretch h size).to
stretch-some h size whole' w five = by (first_waiting h) (gap-lies h.resting 0 (length h.field)) w
  where
    by : (o : Option Part) → IfSome o (Lies 0 (length h.field)) → is_some o ≡ true
        → (stretch_from o h size).from < (stretch_from o h size).to
    by None l w = let no' : false ≡ true = w in cc
    by (Some p) l w =
        let a = l.some in let b = l.below in
        let c = clip-sum p.start (p.end + 1) h.lens in
        let d = cut-some (size - 4) p.start (p.end + 1) h.lens (omega arith) (omega (arith, a, b, c, whole')) in
        omega (arith, d)

pub is-part : (s : State) (size : ℕ) (held : Option ℕ) (more : Bool) → turn s size held more ≡ turns.Part
    → (waits s ≡ true) × (5 ≤ size)
unfolding turn
is-part s size held more e = (grind (arith, common_steps, nat_tests), grind (arith, common_steps, nat_tests))

-- ---- a new PDU

fresh-slot : (field lens : List ℕ) (begins ends : Bool) (place most : ℕ) → sum lens ≡ length field
    → IsSlot (fresh field lens begins ends place) (λ i. false) 0 most
fresh-slot field lens begins ends place most w = record {
  ascends = λ some. (omega arith, some, tt);
  rests = λ i lt. has-all (length field) i lt;
  count = refl;
  plain = refl;
  whole = w;
}

new-holds : (w : TxWindow) (m : Marks) (most : ℕ) (h : Sent) → IsSlot h (λ i. false) 0 most → Holds w m most
    → Holds (record w { slots = w.slots ++ h ∷ [] }) m most
new-holds w m most h s f = record {
  slots = λ k lt. elim (cases_lt k (length w.slots)) [
    | inl old ↦ subst (λ (x : Sent). IsSlot x (m.waits (w.base + k)) (m.namings (w.base + k)) most)
        (sym (at-old w.slots h k old)) (f.slots k old)
    | inr past ↦
        let none = f.above (w.base + k) (omega arith) in
        subst (λ (x : Sent). IsSlot x (m.waits (w.base + k)) (m.namings (w.base + k)) most)
        (sym (at-new w.slots h k (omega (arith, length-append w.slots (h ∷ [])))))
        (same-slot h (λ i. false) (m.waits (w.base + k)) 0 (m.namings (w.base + k)) most (λ i i_in. none.1 i) none.0 s)
  ];
  above = λ n le. f.above n (omega (arith, length-append w.slots (h ∷ [])));
}

polled-holds : (b : Bool) (s : State) (m : Marks) (most : ℕ) → Holds s.window m most
    → Holds (with_poll b s).window m most
polled-holds true s m most f = f
polled-holds false s m most f = f

turn-holds : (t : Turn) (s : State) (size : ℕ) (more : Bool) (m : Marks)
    → (t ≡ turns.Part → (waits s ≡ true) × (5 ≤ size)) → Holds s.window m s.config.max_retx
    → Holds (after_turn t s size more).window (marks_by t s size m) s.config.max_retx
unfolding after_turn
turn-holds turns.Whole s size more m able f =
    polled-holds (is_wanted (sent_whole s) more) (sent_whole s) (marks_by turns.Whole s size m) s.config.max_retx
    (resent-holds s.window m s.config.max_retx (first_place s) (rested (again s)) 0 (length (again s).field)
    (λ lt. rested-slot (again s) (m.waits (number_again s)) (m.namings (number_again s)) s.config.max_retx
    (f.slots (first_place s) lt)) f)
turn-holds turns.Part s size more m able f =
    polled-holds (is_wanted (sent_segment s size) more) (sent_segment s size) (marks_by turns.Part s size m)
    s.config.max_retx
    (resent-holds s.window m s.config.max_retx (first_place s)
    (sent_part (again s) (next_stretch (again s) size).from (next_stretch (again s) size).to)
    (next_stretch (again s) size).from (next_stretch (again s) size).to
    (λ lt. part-slot (again s) (m.waits (number_again s)) (m.namings (number_again s)) s.config.max_retx
    (next_stretch (again s) size).from (next_stretch (again s) size).to
    (stretch-some (again s) size ((f.slots (first_place s) lt).whole) (first-waits s.window.slots lt) (able refl).1)
    (f.slots (first_place s) lt)) f)
turn-holds turns.New s size more m able f =
    polled-holds (is_wanted (sent_new s size) more) (sent_new s size) m s.config.max_retx
    (new-holds s.window m s.config.max_retx (new_slot s size)
    (fresh-slot (new_slot s size).field (new_slot s size).lens (new_slot s size).begins (new_slot s size).ends
    s.place s.config.max_retx (whole (elements 2 size 0 0 s.queue.sdus))) f)
turn-holds turns.Idle s size more m able f = f
turn-holds turns.Stopped s size more m able f = f
turn-holds turns.Small s size more m able f = f
turn-holds turns.Shut s size more m able f = f
turn-holds turns.Held s size more m able f = f

-- the machine's configuration stays
polled-config : (b : Bool) (s : State) → (with_poll b s).config ≡ s.config
polled-config true s = refl
polled-config false s = refl

pub ended-config : (l : Option ℕ) (b : Bool) (s : State) → (ended l b s).config ≡ s.config
ended-config (Some n) b s = refl
ended-config None true s = refl
ended-config None false s = refl

pub turn-config : (t : Turn) (s : State) (size : ℕ) (more : Bool) → (after_turn t s size more).config ≡ s.config
unfolding after_turn
turn-config turns.Whole s size more = polled-config (is_wanted (sent_whole s) more) (sent_whole s)
turn-config turns.Part s size more = polled-config (is_wanted (sent_segment s size) more) (sent_segment s size)
turn-config turns.New s size more = polled-config (is_wanted (sent_new s size) more) (sent_new s size)
turn-config turns.Idle s size more = refl
turn-config turns.Stopped s size more = refl
turn-config turns.Small s size more = refl
turn-config turns.Shut s size more = refl
turn-config turns.Held s size more = refl

-- ---- an expiry

pub last-within : (at : ℕ) (found : Option ℕ) (slots : List Sent) → IfSome found (λ k. k < at)
    → IfSome (last_open at found slots) (λ k. k < at + length slots)
last-within at None [] h = tt
last-within at (Some k) [] h = omega (arith, h)
last-within at found (x ∷ slots) h =
    wider (last_open (at + 1) (if x.acked then found else Some at) slots)
    (last-within (at + 1) (if x.acked then found else Some at) slots (step x.acked found h))
  where
    step : (b : Bool) (found : Option ℕ) → IfSome found (λ k. k < at)
        → IfSome (if b then found else Some at) (λ k. k < at + 1)
    step true None h = tt
    step true (Some k) h = omega (arith, h)
    step false found h = omega arith

    wider : (o : Option ℕ) → IfSome o (λ k. k < at + 1 + length slots) → IfSome o (λ k. k < at + suc (length slots))
    wider None h = tt
    wider (Some k) h = omega (arith, h)

pub recalled-within : (s : State) (more : Bool) → IfSome (recalled_place s more) (λ k. k < length s.window.slots)
recalled-within s more = step (_) (zero-in (last_open 0 None s.window.slots) (last-within 0 None s.window.slots tt))
  where
    zero-in : (o : Option ℕ) → IfSome o (λ k. k < 0 + length s.window.slots) → IfSome o (λ k. k < length s.window.slots)
    zero-in None h = tt
    zero-in (Some k) h = omega (arith, h)

    step : (b : Bool) → IfSome (last_open 0 None s.window.slots) (λ k. k < length s.window.slots)
        → IfSome (if b then last_open 0 None s.window.slots else None) (λ k. k < length s.window.slots)
    step true h = h
    step false h = tt

naming-one : (n : ℕ) → with_naming n true ≡ n + 1
naming-one n = step (n == 0)
  where
    step : (b : Bool) → (if b || true then n + 1 else n) ≡ n + 1
    step true = refl
    step false = refl

or-last : (b : Bool) → false ≡ not (b || true)
or-last true = refl
or-last false = refl

pub recalled-slot : (h : Sent) (f : ℕ → Bool) (n most : ℕ) → IsSlot h f n most
    → IsSlot (recalled most h) (λ i. f i || true) (n + 1) most
recalled-slot h f n most s = record {
  ascends = λ some. tt;
  rests = λ i lt. or-last (f i);
  count = ap (λ (c : Option ℕ). counted c most true) s.count
      ∙ (counted-is n most true ∙ ap (λ (k : ℕ). count_of k most) (naming-one n));
  plain = s.plain;
  whole = s.whole;
}

or-off : (b : Bool) → (b || false) ≡ b
or-off true = refl
or-off false = refl

past-number : (b n at size : ℕ) → b + size ≤ n → at < size → (n == b + at) ≡ false
past-number b n at size le lt = grind (arith, nat_tests)

recalled-holds : (o : Option ℕ) (s : State) (m : Marks) → IfSome o (λ k. k < length s.window.slots)
    → Holds s.window m s.config.max_retx
    → Holds (with_recalled o s).window (recalled_marks o s.window.base m) s.config.max_retx
recalled-holds None s m lt f = f
recalled-holds (Some at) s m lt f = record {
  slots = λ k k_in. let l : k < length s.window.slots = omega (arith, length-set s.window.slots at h) in
      elim (cases_eq k at) [
        | inl same ↦ rw same
            (subst
            (λ (x : Sent). IsSlot x (λ i. m.waits (s.window.base + at) i || (s.window.base + at == s.window.base + at))
            (if s.window.base + at == s.window.base + at then m.namings (s.window.base + at) + 1
            else m.namings (s.window.base + at)) s.config.max_retx)
            (sym (get_or-set_same s.window.slots at h nothing lt))
            (same-slot h (λ i. m.waits (s.window.base + at) i || true)
            (λ i. m.waits (s.window.base + at) i || (s.window.base + at == s.window.base + at))
            (m.namings (s.window.base + at) + 1) (if s.window.base + at == s.window.base + at
            then m.namings (s.window.base + at) + 1 else m.namings (s.window.base + at)) s.config.max_retx
            (λ i i_in. rw (same-number s.window.base at) refl) (rw (same-number s.window.base at) refl)
            (recalled-slot (slot_at s.window.slots at) (m.waits (s.window.base + at)) (m.namings (s.window.base + at))
            s.config.max_retx (f.slots at lt))))
        | inr other ↦ subst
            (λ (x : Sent). IsSlot x (λ i. m.waits (s.window.base + k) i || (s.window.base + k == s.window.base + at))
            (if s.window.base + k == s.window.base + at then m.namings (s.window.base + k) + 1
            else m.namings (s.window.base + k)) s.config.max_retx)
            (sym (get_or-set_other s.window.slots at k h nothing other))
            (same-slot (slot_at s.window.slots k) (m.waits (s.window.base + k))
            (λ i. m.waits (s.window.base + k) i || (s.window.base + k == s.window.base + at))
            (m.namings (s.window.base + k)) (if s.window.base + k == s.window.base + at
            then m.namings (s.window.base + k) + 1 else m.namings (s.window.base + k)) s.config.max_retx
            (λ i i_in. rw (other-number s.window.base k at other) (or-off (m.waits (s.window.base + k) i)))
            (rw (other-number s.window.base k at other) refl) (f.slots k l))
      ];
  above = λ n le.
      let past : s.window.base + length s.window.slots ≤ n = omega (arith, length-set s.window.slots at h) in
      let none = f.above n past in
      let off = past-number s.window.base n at (length s.window.slots) past lt in
      (rw off none.0, λ i. rw off (or-off (m.waits n i) ∙ none.1 i));
}
  where
    h : Sent
    h = recalled s.config.max_retx (slot_at s.window.slots at)

-- ---- any call

abbrev pub Stands : State → Marks → Type 0
Stands s m = Holds s.window m s.config.max_retx

ended-stands : (l : Option ℕ) (b : Bool) (s : State) (m : Marks) → Stands s m → Stands (ended l b s) m
ended-stands (Some n) b s m f = f
ended-stands None true s m f = f
ended-stands None false s m f = f

pub recalled-config : (o : Option ℕ) (s : State) → (with_recalled o s).config ≡ s.config
recalled-config None s = refl
recalled-config (Some at) s = refl

status-stands : (b : Bool) (s : State) (status : StatusPdu) (m : Marks) → Stands s m
    → Stands (if b then s else applied s (offset_of s.window.base status.ack) status.nacks)
    (if b then m else heard_marks s.window (offset_of s.window.base status.ack) status.nacks m)
status-stands true s status m f = f
status-stands false s status m f =
    ended-stands (limit_of s (offset_of s.window.base status.ack) status.nacks)
    (stops s (offset_of s.window.base status.ack) status.nacks)
    (read s (offset_of s.window.base status.ack) status.nacks)
    (heard_marks s.window (offset_of s.window.base status.ack) status.nacks m)
    (heard-holds s.window (offset_of s.window.base status.ack) s.config.max_retx status.nacks m f)

expiry-stands : (b : Bool) (s : State) (more : Bool) (m : Marks) → Stands s m
    → Stands (if b then ended (expiry_limit s more) false (expired s more) else s)
    (if b then recalled_marks (recalled_place s more) s.window.base m else m)
expiry-stands false s more m f = f
expiry-stands true s more m f =
    ended-stands (expiry_limit s more) false (expired s more) (recalled_marks (recalled_place s more) s.window.base m)
    (subst (λ (c : AmTxConfig). Holds (expired s more).window (recalled_marks (recalled_place s more) s.window.base m)
    c.max_retx) (sym (recalled-config (recalled_place s more) (with_owed s)))
    (recalled-holds (recalled_place s more) (with_owed s) m (recalled-within s more) f))

settled-stands : (b : Bool) (s : State) (m : Marks) → Stands s m → Stands (settled_by b s) m
settled-stands true s m f = f
settled-stands false s m f = f

pub after-stands : (s : State) (c : Call) (m : Marks) → Stands s m → Stands (after s c) (marks_after s c m)
unfolding after_status after_expiry
after-stands s (Offer sdu) m f = f
after-stands s (Take size held more) m f =
    subst (λ (c : AmTxConfig). Holds (after_turn (turn s size held more) s size more).window
    (marks_by (turn s size held more) s size m) c.max_retx)
    (sym (turn-config (turn s size held more) s size more))
    (turn-holds (turn s size held more) s size more m (is-part s size held more) f)
after-stands s (Status status) m f = status-stands (is_ignored s status.ack) s status m f
after-stands s Tick m f = f
after-stands s (Expire more) m f = expiry-stands (runs s.polls.timer) s more m f
after-stands s (Settle more) m f = settled-stands (settles s more) s m f
after-stands s Confirm m f = f

run-stands : (calls : List Call) (w : World Marks) → Stands w.state w.past
    → Stands (run_am_sender marks_after calls w).state (run_am_sender marks_after calls w).past
run-stands [] w f = f
run-stands (c ∷ cs) w f =
    run-stands cs (record { state = after w.state c; past = marks_after w.state c w.past })
    (after-stands w.state c w.past f)

pub start-stands : (c : AmTxConfig) → Stands (start c) unmarked
start-stands c = record {
  slots = λ k lt. absurd (omega arith);
  above = λ n le. (refl, λ i. refl);
}

pub stands : (config : AmTxConfig) (calls : List Call)
    → Stands (run_am_sender marks_after calls (begun config unmarked)).state
    (run_am_sender marks_after calls (begun config unmarked)).past
stands config calls = run-stands calls (begun config unmarked) (start-stands config)

not-not : (b : Bool) → not (not b) ≡ b
not-not true = refl
not-not false = refl

marked-of : (w : World Marks) → Stands w.state w.past → IsMarked w
marked-of w f = record {
  waits = λ k i lt i_in. ap not ((f.slots k lt).rests i i_in) ∙ not-not (w.past.waits (w.state.window.base + k) i);
  count = λ k lt. (f.slots k lt).count;
}

pub marked : CountsNamings
marked config calls = marked-of (run_am_sender marks_after calls (begun config unmarked)) (stands config calls)
