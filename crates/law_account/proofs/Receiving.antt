-- Numbers are written and PDUs come: the receiver and the account go on alike.
use Rattle.std.proofs.Common.{◌≡◌, ◌<◌, ◌≤◌, inl, inr, ℕ, zero, suc, ◌+◌, ◌-◌, Bool, true, false, List, []}
use Rattle.std.proofs.Common.{◌∷◌, ◌++◌}
use Rattle.std.proofs.Common.{length, drop, replicate, Option, Some, None, refl, ap, sym, subst, ◌∙◌, arith, max}
use Rattle.std.proofs.Common.{nat_lt, nat_le, length-append, if◌then◌else◌, slice_get}
use Rattle.std.specs.Prelude.{IfSome}
use Rattle.std.proofs.lemmas.Bool.{cases_lt, lt-ltb, le-ltb, leb-true, leb-false}
use Rattle.std.proofs.lemmas.List.{length-drop, length_push}
use Rattle.std.proofs.Math.ListN.{length-set, length-replicate}
use Rattle.rlc_pdu.specs.declared.Landed.{Landed}
use Rattle.rlc_pdu.specs.declared.Landed.TheVariants.{Kept, Repeat, Outside, Clash}
use Rattle.rlc_pdu.specs.Pdus.{AmdPdu}
use Rattle.rlc_am_rx_window.specs.Cells.{Cell}
use Rattle.rlc_am_rx_window.specs.Piece.{Piece, piece_of, end_of}
use Rattle.rlc_am_rx_window.specs.Held.{Held, nothing, with_piece}
use Rattle.rlc_am_rx_window.specs.Window.{RxWindow, top, offset_of, complete_first, first_incomplete, widened, slot_at}
use Rattle.rlc_am_rx_window.specs.Window.{with_kept, advanced, is_repeat, is_clash}
use Rattle.rlc_am_rx.specs.State.{State}
use Rattle.rlc_am_rx.specs.Machine.{landed, after_landing, turned_on, window_with, bound_moved, mark_left}
use Rattle.rlc_am_rx.specs.Machine.{mark_begun, starts}
use Rattle.journal_account.specs.FlowArrivals.{FieldArrivals, FlowArrivals, nothing_came, next_in}
use Rattle.journal_account.specs.FlowArrivals.{field_at, is_whole, whole_first, first_open, open_number, with_number}
use Rattle.journal_account.specs.FlowArrivals.{octets_at, with_octets, settled_with, landed_in, with_arrival}
use Rattle.journal_account.proofs.ByPlace.{whole_at, stops as first_stops, whole_few, open_least, drop_field}
use Rattle.law_rlc.specs.AmReceiver.Run.{Arrive, Up, Write, ExpireReorder, ExpireProhibit, TickReorder, TickProhibit}
use Rattle.law_rlc.specs.AmReceiver.Stream.{IsSent}
use Rattle.law_rlc.proofs.AmReceiver.Order.{first-least, incomplete-length, top-advanced}
use Rattle.law_rlc.proofs.AmArrival.Kept.{IsNear, read_in, far_below, Landing, landing_is, repeat_held, holds_range}
use Rattle.law_account.specs.Receiving.{IsMarkAccounted, AreArrivalsAccounted}
use Rattle.law_account.specs.Receiving.{IsReceiverAccounted, ReceiverOutsetIsAccounted, NumbersAreAwaited, IsWritten}
use Rattle.law_account.specs.Receiving.{started_in, ArrivalsAreAccounted, OtherCallsAreAccounted}
use Rattle.law_account.proofs.ReceivingOctets.{none_accounted, IsPieceOf}
use Rattle.law_account.proofs.ReceivingNumbers.{Pairs, first_same, pairs_whole, drop_pairs, open_same, push_pairs}
use Rattle.law_account.proofs.ReceivingNumbers.{none_first, no_further, kept_pairs, again_pairs, still_whole}

pub receiver_outset : ReceiverOutsetIsAccounted
receiver_outset config = record {
  front = refl;
  bound_is = refl;
  top_is = refl;
  front_low = omega arith;
  bound_low = omega arith;
  top_low = omega arith;
  top_near = omega arith;
  front_open = refl;
  bound_open = refl;
  numbers = λ k. none_accounted 1 (omega arith);
  mark_is = tt;
}

-- ---- a number is written

-- whether a number is whole is seen at the receiver, so it stays
same_whole : (hs : List Held) (fs gs : List FieldArrivals) → Pairs hs fs → Pairs hs gs → (k : ℕ)
    → whole_at gs k ≡ whole_at fs k
same_whole hs fs gs p q k = sym (pairs_whole hs gs q k) ∙ pairs_whole hs fs p k

awaited_mark : (size : ℕ) (a : FlowArrivals) (o : Option ℕ)
    → ((k : ℕ) → whole_at (with_number size a).fields k ≡ whole_at a.fields k) → IfSome o (IsMarkAccounted a)
    → IfSome o (IsMarkAccounted (with_number size a))
awaited_mark size a None same m = tt
awaited_mark size a (Some x) same m = record {
  is = m.is;
  low = m.low;
  passed = λ k le lt. same k ∙ m.passed k le lt;
}

pub numbers_awaited : NumbersAreAwaited
numbers_awaited s a size some r =
    let pairs : Pairs s.window.slots (a.fields ++ nothing_came size ∷ []) =
    push_pairs s.window.slots a.fields size some (omega (arith, r.front, r.top_is, r.top_low)) r.numbers in
    let same : (k : ℕ) → whole_at (a.fields ++ nothing_came size ∷ []) k ≡ whole_at a.fields k =
    same_whole s.window.slots a.fields (a.fields ++ nothing_came size ∷ []) r.numbers pairs in
    record {
      front = r.front;
      bound_is = r.bound_is;
      top_is = r.top_is;
      front_low = r.front_low;
      bound_low = r.bound_low;
      top_low = omega (arith, r.top_low, length_push a.fields (nothing_came size));
      top_near = r.top_near;
      front_open = same 0 ∙ r.front_open;
      bound_open = same (a.bound - a.front) ∙ r.bound_open;
      numbers = pairs;
      mark_is = awaited_mark size a s.mark same r.mark_is;
    }

-- ---- VR(R) and VR(MS) move

abbrev moved : List FieldArrivals → ℕ → FlowArrivals → FlowArrivals
moved fields n a = record (settled_with fields a) { top = max a.top (n + 1) }

at_sum : (fields : List FieldArrivals) (c k j : ℕ) → c + k ≡ j → whole_at (drop c fields) k ≡ whole_at fields j
at_sum fields c k j e = ap is_whole (drop_field fields c k) ∙ ap (whole_at fields) e

passed_on : (a : FlowArrivals) (fields : List FieldArrivals) (n x : ℕ)
    → ((k : ℕ) → whole_at a.fields k ≡ true → whole_at fields k ≡ true) → IsMarkAccounted a x → (k : ℕ)
    → x ≤ a.front + whole_first fields + k
    → a.front + whole_first fields + k < open_number a.front fields a.bound
    → whole_at (drop (whole_first fields) fields) k ≡ true
passed_on a fields n x more m k le lt =
    at_sum fields (whole_first fields) k (whole_first fields + k) refl
    ∙ elim (cases_lt (a.front + (whole_first fields + k)) a.bound) [
      | inl low ↦ more (whole_first fields + k) (m.passed (whole_first fields + k) (omega (arith, le)) low)
      | inr up ↦ (open_least fields (a.bound - a.front)).before (whole_first fields + k) (omega (arith, up))
          (omega (arith, lt))
    ]

moved_mark : (a : FlowArrivals) (fields : List FieldArrivals) (n : ℕ) (o : Option ℕ)
    → ((k : ℕ) → whole_at a.fields k ≡ true → whole_at fields k ≡ true) → IfSome o (IsMarkAccounted a)
    → IfSome o (IsMarkAccounted (moved fields n a))
moved_mark a fields n None more m = tt
moved_mark a fields n (Some x) more m = record {
  is = m.is;
  low = omega (arith, m.low);
  passed = passed_on a fields n x more m;
}

-- the window v has what came, and so have the fields
settled : (w v : RxWindow) (bound : ℕ) (mark : Option ℕ) (a : FlowArrivals) (fields : List FieldArrivals) (n : ℕ)
    → v.front ≡ w.front → top v ≡ max (top w) (n + 1) → length fields ≡ length a.fields → n < next_in a
    → n < a.front + 512 → Pairs v.slots fields → ((k : ℕ) → whole_at a.fields k ≡ true → whole_at fields k ≡ true)
    → AreArrivalsAccounted w bound mark a
    → AreArrivalsAccounted (advanced v) (bound_moved v bound) mark (moved fields n a)
settled w v bound mark a fields n front tops len written near pairs more r = record {
  front = omega (arith, front, r.front, first);
  bound_is = ap (λ (m : ℕ). v.front + first_incomplete v.slots m) place_is
      ∙ omega (arith, front, r.front, open_is);
  top_is = omega (arith, top-advanced v, tops, r.top_is);
  front_low = omega (arith, first-least v.slots (a.bound - a.front), first, open_is);
  bound_low = omega (
    arith,
    incomplete-length v.slots (a.bound - a.front) (omega (arith, tops, front, r.front, r.top_is, r.bound_low)),
    open_is,
    tops,
    front,
    r.front,
    r.top_is,
  );
  top_low = omega (arith, r.top_low, written, len, whole_few fields, length-drop (whole_first fields) fields);
  top_near = omega (arith, r.top_near, near);
  front_open = at_sum fields (whole_first fields) 0 (whole_first fields) (omega arith) ∙ first_stops fields;
  bound_open = at_sum fields (whole_first fields)
      (open_number a.front fields a.bound - (a.front + whole_first fields)) (first_open fields (a.bound - a.front))
      (omega (arith, first-least v.slots (a.bound - a.front), first, open_is))
      ∙ (open_least fields (a.bound - a.front)).refused;
  numbers = subst (λ (c : ℕ). Pairs (drop (complete_first v.slots) v.slots) (drop c fields)) first
      (drop_pairs v.slots fields (complete_first v.slots) pairs);
  mark_is = moved_mark a fields n mark more r.mark_is;
}
  where
    first : complete_first v.slots ≡ whole_first fields
    first = first_same v.slots fields (pairs_whole v.slots fields pairs)

    open_is : first_incomplete v.slots (a.bound - a.front) ≡ first_open fields (a.bound - a.front)
    open_is = open_same v.slots fields (a.bound - a.front) pairs

    place_is : bound - v.front ≡ a.bound - a.front
    place_is = omega (arith, front, r.front, r.bound_is)

-- ---- t-Reordering stops and starts

-- another number for t-Reordering, or none
with_mark : (w : RxWindow) (bound : ℕ) (mark next : Option ℕ) (a : FlowArrivals) (number : ℕ)
    → AreArrivalsAccounted w bound mark a → IfSome next (IsMarkAccounted (record a { mark = number }))
    → AreArrivalsAccounted w bound next (record a { mark = number })
with_mark w bound mark next a number r m = record {
  front = r.front;
  bound_is = r.bound_is;
  top_is = r.top_is;
  front_low = r.front_low;
  bound_low = r.bound_low;
  top_low = r.top_low;
  top_near = r.top_near;
  front_open = r.front_open;
  bound_open = r.bound_open;
  numbers = r.numbers;
  mark_is = m;
}

pub starting : (w : RxWindow) (bound : ℕ) (a : FlowArrivals) (b : Bool) → AreArrivalsAccounted w bound None a
    → AreArrivalsAccounted w bound (if b then Some (top w) else None) (started_in b a)
starting w bound a false r = r
starting w bound a true r = with_mark w bound None (Some (top w)) a a.top r record {
  is = r.top_is;
  low = omega (arith, r.top_is);
  passed = λ k le lt. absurd (omega (arith, le, lt, r.bound_low, r.top_is));
}

turned_accounted : (w : RxWindow) (bound : ℕ) (mark : Option ℕ) (a : FlowArrivals)
    → AreArrivalsAccounted w bound mark a
    → AreArrivalsAccounted w bound (mark_begun (mark_left mark w.front) w.front (top w))
    (started_in (starts (mark_left mark w.front) w.front (top w)) a)
turned_accounted w bound None a r = starting w bound a (nat_lt w.front (top w)) r
turned_accounted w bound (Some x) a r = by (nat_le x w.front)
  where
    by : (b : Bool) → AreArrivalsAccounted w bound
        (mark_begun (if b then None else Some x) w.front (top w))
        (started_in (starts (if b then None else Some x) w.front (top w)) a)
    by true = starting w bound a (nat_lt w.front (top w)) (with_mark w bound (Some x) None a a.mark r tt)
    by false = r

-- ---- a PDU comes

-- the window keeps its places
same_window : (v w : RxWindow) (bound b : ℕ) (mark : Option ℕ) (a : FlowArrivals) → v.front ≡ w.front
    → v.slots ≡ w.slots → bound ≡ b → AreArrivalsAccounted v bound mark a → AreArrivalsAccounted w b mark a
same_window v w bound b mark a front slots same r = record {
  front = sym front ∙ r.front;
  bound_is = sym same ∙ r.bound_is;
  top_is = omega (arith, front, ap (λ (hs : List Held). length hs) slots, r.top_is);
  front_low = r.front_low;
  bound_low = r.bound_low;
  top_low = r.top_low;
  top_near = r.top_near;
  front_open = r.front_open;
  bound_open = r.bound_open;
  numbers = subst (λ (hs : List Held). Pairs hs a.fields) slots r.numbers;
  mark_is = r.mark_is;
}

arrives_in : (n from to : ℕ) (a : FlowArrivals) → a.front ≤ n
    → with_arrival n from to a ≡ moved (octets_at (n - a.front) from to a.fields) n a
arrives_in n from to a le =
    ap (λ (b : Bool). record (landed_in b n from to a) { top = max a.top (n + 1) }) (le-ltb n a.front le)

arrives_below : (n from to : ℕ) (a : FlowArrivals) → n < a.front
    → with_arrival n from to a ≡ record a { top = max a.top (n + 1) }
arrives_below n from to a lt =
    ap (λ (b : Bool). record (landed_in b n from to a) { top = max a.top (n + 1) }) (lt-ltb n a.front lt)

-- below VR(R) it changes nothing
below_accounted : (w : RxWindow) (bound : ℕ) (mark : Option ℕ) (a : FlowArrivals) (n : ℕ) → n < a.front
    → AreArrivalsAccounted w bound mark a
    → AreArrivalsAccounted w bound mark (record a { top = max a.top (n + 1) })
below_accounted w bound mark a n lt r = record {
  front = r.front;
  bound_is = r.bound_is;
  top_is = omega (arith, r.top_is, r.front_low, r.bound_low, lt);
  front_low = r.front_low;
  bound_low = omega (arith, r.bound_low);
  top_low = omega (arith, r.top_low, r.front_low, r.bound_low, lt);
  top_near = omega (arith, r.top_near, lt);
  front_open = r.front_open;
  bound_open = r.bound_open;
  numbers = r.numbers;
  mark_is = higher mark r.mark_is;
}
  where
    higher : (o : Option ℕ) → IfSome o (IsMarkAccounted a)
        → IfSome o (IsMarkAccounted (record a { top = max a.top (n + 1) }))
    higher None m = tt
    higher (Some x) m = record { is = m.is; low = omega (arith, m.low); passed = m.passed }

kept_length : (w : RxWindow) (at : ℕ) (p : Piece) (poll : Bool)
    → length (with_kept w at p poll).slots ≡ max (length w.slots) (at + 1)
kept_length w at p poll =
    omega (
      arith,
      length-set (widened w.slots (at + 1)) at (with_piece (slot_at (widened w.slots (at + 1)) at) p poll),
      length-append w.slots (replicate (at + 1 - length w.slots) nothing),
      length-replicate {A = Held} (at + 1 - length w.slots) nothing,
    )

piece_in : (field : ℕ → List Cell) (s : State) (a : FlowArrivals) (p : AmdPdu) (n : ℕ) → IsSent field s p n
    → IsWritten (field n) n a → a.front ≤ n → IsPieceOf (field_at a.fields (n - a.front)).size (piece_of p)
piece_in field s a p n sent written le = record {
  some = sent.part.some;
  last = λ e. sent.part.last e ∙ sym (written.size le);
  on = λ e. omega (arith, sent.part.on e, written.size le);
}

-- one that is kept
kept_accounted : (field : ℕ → List Cell) (s : State) (a : FlowArrivals) (p : AmdPdu) (n : ℕ) → IsSent field s p n
    → IsWritten (field n) n a → offset_of s.window.front p.sn ≡ n - a.front → a.front ≤ n → IsReceiverAccounted s a
    → IsReceiverAccounted (after_landing Kept s p)
    (started_in (turned_on Kept s p).started (with_arrival n (piece_of p).so (end_of (piece_of p)) a))
kept_accounted field s a p n sent written place le r =
    turned_accounted (advanced v) (bound_moved v s.bound) s.mark
    (with_arrival n (piece_of p).so (end_of (piece_of p)) a)
    (subst (AreArrivalsAccounted (advanced v) (bound_moved v s.bound) s.mark)
    (sym (arrives_in n (piece_of p).so (end_of (piece_of p)) a le))
    (settled s.window v s.bound s.mark a fields n refl
    (omega (arith, kept_length s.window at (piece_of p) p.poll, place, r.front, le))
    (length-set a.fields (n - a.front)
    (with_octets (piece_of p).so (end_of (piece_of p)) (field_at a.fields (n - a.front))))
    written.before (omega (arith, sent.below, r.front)) pairs
    (still_whole s.window.slots v.slots a.fields (n - a.front) (piece_of p).so (end_of (piece_of p)) there
    (omega (arith, sent.part.some)) r.numbers pairs) r))
  where
    at : ℕ
    at = offset_of s.window.front p.sn

    v : RxWindow
    v = window_with s.window p

    fields : List FieldArrivals
    fields = octets_at (n - a.front) (piece_of p).so (end_of (piece_of p)) a.fields

    there : n - a.front < length a.fields
    there = omega (arith, written.before, le)

    pairs : Pairs v.slots fields
    pairs =
        subst (λ (k : ℕ). Pairs (with_kept s.window k (piece_of p) p.poll).slots fields) (sym place)
        (kept_pairs s.window a.fields (n - a.front) (piece_of p) p.poll there (piece_in field s a p n sent written le)
        r.numbers)

-- one that came before
repeat_accounted : (field : ℕ → List Cell) (s : State) (a : FlowArrivals) (p : AmdPdu) (n : ℕ) → IsSent field s p n
    → IsWritten (field n) n a → a.front ≤ n
    → is_repeat (slice_get s.window.slots (n - a.front)) (piece_of p) ≡ true → IsReceiverAccounted s a
    → IsReceiverAccounted s (with_arrival n (piece_of p).so (end_of (piece_of p)) a)
repeat_accounted field s a p n sent written le again r =
    same_window (advanced s.window) s.window (bound_moved s.window s.bound) s.bound s.mark
    (with_arrival n (piece_of p).so (end_of (piece_of p)) a) (omega (arith, none))
    (ap (λ (c : ℕ). drop c s.window.slots) none) bound_stays
    (subst (AreArrivalsAccounted (advanced s.window) (bound_moved s.window s.bound) s.mark)
    (sym (arrives_in n (piece_of p).so (end_of (piece_of p)) a le))
    (settled s.window s.window s.bound s.mark a fields n refl
    (omega (arith, inside, r.front, le))
    (length-set a.fields (n - a.front)
    (with_octets (piece_of p).so (end_of (piece_of p)) (field_at a.fields (n - a.front))))
    written.before (omega (arith, sent.below, r.front)) pairs
    (still_whole s.window.slots s.window.slots a.fields (n - a.front) (piece_of p).so (end_of (piece_of p)) there
    (omega (arith, sent.part.some)) r.numbers pairs) r))
  where
    fields : List FieldArrivals
    fields = octets_at (n - a.front) (piece_of p).so (end_of (piece_of p)) a.fields

    there : n - a.front < length a.fields
    there = omega (arith, written.before, le)

    inside : n - a.front < length s.window.slots
    inside = by s.window.slots (n - a.front) again
      where
        by : (hs : List Held) (at : ℕ) → is_repeat (slice_get hs at) (piece_of p) ≡ true → at < length hs
        by [] at e = absurd cc
        by (h ∷ hs) zero e = omega arith
        by (h ∷ hs) (suc at) e = omega (arith, by hs at e)

    pairs : Pairs s.window.slots fields
    pairs = again_pairs s.window.slots a.fields (n - a.front) (piece_of p).so (end_of (piece_of p)) there
        (omega (arith, sent.part.some))
        (λ i from to. holds_range (slot_at s.window.slots (n - a.front)).cells (piece_of p).so
        (length (piece_of p).cells) i
        (repeat_held s.window.slots (n - a.front) (piece_of p) sent.part.some again) from to) r.numbers

    none : complete_first s.window.slots ≡ 0
    none = none_first s.window.slots (pairs_whole s.window.slots a.fields r.numbers 0 ∙ r.front_open)

    bound_stays : bound_moved s.window s.bound ≡ s.bound
    bound_stays =
        let place_is : s.bound - s.window.front ≡ a.bound - a.front = omega (arith, r.front, r.bound_is) in
        let stays : first_incomplete s.window.slots (a.bound - a.front) ≡ a.bound - a.front =
        no_further s.window.slots (a.bound - a.front)
        (pairs_whole s.window.slots a.fields r.numbers (a.bound - a.front) ∙ r.bound_open) in
        ap (λ (k : ℕ). s.window.front + first_incomplete s.window.slots k) place_is
        ∙ omega (arith, stays, r.front, r.bound_is, r.front_low)

pub arrivals_accounted : ArrivalsAreAccounted
arrivals_accounted field s a p n sent written free r = by (landed s p) refl
  where
    at : ℕ
    at = offset_of s.window.front p.sn

    l : Landing (nat_le 512 at) (is_repeat (slice_get s.window.slots at) (piece_of p))
        (is_clash (slice_get s.window.slots at) (piece_of p)) (landed s p)
    l = landing_is (nat_le 512 at) (is_repeat (slice_get s.window.slots at) (piece_of p))
        (is_clash (slice_get s.window.slots at) (piece_of p))

    near : IsNear s p n
    near = record { sn = sent.sn; from = sent.from; below = sent.below }

    place : (landed s p ≡ Outside → ⊥) → (at ≡ n - a.front) × (a.front ≤ n)
    place inside =
        let is : s.window.front + at ≡ n =
        read_in s p n near (leb-false 512 at (l.inside inside)) in
        (omega (arith, is, r.front), omega (arith, is, r.front))

    by : (x : Landed) → landed s p ≡ x → IsReceiverAccounted (after_landing x s p)
        (started_in (turned_on x s p).started (with_arrival n (piece_of p).so (end_of (piece_of p)) a))
    by Kept e =
        let found = place (λ o. let no : Kept ≡ Outside = sym e ∙ o in cc) in
        kept_accounted field s a p n sent written found.0 found.1 r
    by Repeat e =
        let found = place (λ o. let no : Repeat ≡ Outside = sym e ∙ o in cc) in
        repeat_accounted field s a p n sent written found.1
        (subst (λ (k : ℕ). is_repeat (slice_get s.window.slots k) (piece_of p) ≡ true) found.0 (l.again e)) r
    by Outside e =
        let lt : n < a.front =
        omega (arith, far_below s p n near (leb-true 512 at (l.outside e)), r.front) in
        subst (AreArrivalsAccounted s.window s.bound s.mark)
        (sym (arrives_below n (piece_of p).so (end_of (piece_of p)) a lt))
        (below_accounted s.window s.bound s.mark a n lt r)
    by Clash e = absurd (free e)

-- ---- any other call

pub other_calls : OtherCallsAreAccounted
other_calls s a (Arrive p) leaves r = absurd leaves
other_calls s a Up leaves r = r
other_calls s a Write leaves r = r
other_calls s a ExpireReorder leaves r = absurd leaves
other_calls s a ExpireProhibit leaves r = r
other_calls s a TickReorder leaves r = r
other_calls s a TickProhibit leaves r = r
