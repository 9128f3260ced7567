-- A STATUS is written, and it comes.
use Rattle.std.proofs.Common.{◌≡◌, ◌<◌, ◌≤◌, inl, inr, ℕ, suc, ◌+◌, ◌-◌, ◌%◌, Bool, true, false, not, ◌||◌, ◌&&◌, ◌==◌}
use Rattle.std.proofs.Common.{if◌then◌else◌, List, [], ◌∷◌, ◌++◌, length, map, slice_index_or, Some, Result, refl, ap}
use Rattle.std.proofs.Common.{sym, subst, ◌∙◌, arith, nat_le, nat_lt}
use Rattle.std.specs.Prelude.{All}
use Rattle.std.specs.List.{AllByRecursion}
use Rattle.std.proofs.lemmas.Bool.Decides.{nat_tests}
use Rattle.std.proofs.lemmas.Bool.{cases_lt, eqb-true, eq-eqb}
use Rattle.std.proofs.lemmas.List.Elements.{All-nil, All-cons}
use Rattle.rlc_pdu.specs.declared.fault.RlcRefusal.{RlcRefusal}
use Rattle.rlc_pdu.specs.Pdus.{StatusPdu, AcknowledgedPdu, IsNack}
use Rattle.rlc_pdu.proofs.Again.{status_again}
use Rattle.rlc_am_tx_window.specs.Window.{next, slot_at as sent_at, offset_of, is_named}
use Rattle.rlc_am_tx.specs.Machine.{State as SenderState, is_ignored}
use Rattle.law_rlc.specs.AmSender.Run.{Status}
use Rattle.law_rlc.specs.AmSender.Acked.{acks, acked_by}
use Rattle.law_rlc.proofs.AmSender.Least.{after-fits}
use Rattle.law_rlc.specs.AmSender.Namings.{names, in_part}
use Rattle.law_rlc.specs.AmSender.Octets.{Place}
use Rattle.law_rlc.specs.AmSender.Watched.{IsHonest}
use Rattle.law_rlc.proofs.AmSender.Keys.{key}
use Rattle.law_rlc.proofs.AmSender.Writes.{after-keeps}
use Rattle.law_rlc.proofs.AmSender.Pdus.{face-length}
use Rattle.rlc_am_rx_window.specs.declared.missing.Missing.{Missing}
use Rattle.rlc_am_rx_window.specs.Held.{Held}
use Rattle.rlc_am_rx_window.specs.Missing.{missing_of, missing_below, entry_bits, AreRanges}
use Rattle.rlc_am_rx_window.specs.Window.{slot_at}
use Rattle.rlc_am_rx_window.proofs.MissingLemmas.{missing_in, ranges_append}
use Rattle.rlc_am_rx.specs.State.{State}
use Rattle.rlc_am_rx.specs.Status.{nack_of, listed, fitting, room_in, chosen, ack, nacks}
use Rattle.law_rlc.specs.AmReceiver.Run.{Write, World, begin, IsComplete, IsOrdered}
use Rattle.law_rlc.specs.AmReceiver.Bound.{marked_outset}
use Rattle.law_rlc.specs.AmReceiver.Status.{has_entry, IsTrueStatus}
use Rattle.law_rlc.specs.AmReceiver.Stream.{flow, initial}
use Rattle.law_rlc.proofs.AmReceiver.Least.{least}
use Rattle.law_rlc.proofs.AmReceiver.Bound.{bounded}
use Rattle.law_rlc.proofs.AmReceiver.Order.{ordered}
use Rattle.law_rlc.proofs.AmReceiver.Finish.{same_state}
use Rattle.law_rlc.proofs.AmReceiver.InSequence.{SlotFits, Flows, flow-flows, initial-flows}
use Rattle.law_rlc.proofs.AmReceiver.TrueStatus.{has_append, entry_in, or_true, go_world, true_status}
use Rattle.law_rlc.specs.AmPair.Flow.{Report, Flow, sender, receiver, reports, status_read, status_comes}
use Rattle.law_rlc.specs.AmPair.Fields.{field_of}
use Rattle.law_rlc.specs.AmPair.Statuses.{IsReadRight}
use Rattle.law_rlc.specs.AmPair.Given.{IsReporting}
use Rattle.law_rlc.specs.AmPair.Numbers.{is_acked, IsOrdered as AreInOrder}
use Rattle.law_rlc.proofs.AmPair.Runs.{offered-more}
use Rattle.law_rlc.proofs.AmPair.Sound.{one, at-most-one, IsTrueReport, NamesOctet, HasTrueEntries, IsSound, stays-fair}
use Rattle.law_rlc.proofs.AmPair.Sound.{sent-sound}
use Rattle.law_rlc.proofs.AmPair.Fields.{sent-field, are-fields}
use Rattle.law_rlc.proofs.AmPair.Entries.{below-names, fitting-names}
use Rattle.law_rlc.proofs.AmPair.Sending.{sent-number}
use Rattle.law_rlc.proofs.AmPair.Hearing.{in-order, hears-sound, old-reports}

-- ---- what is written can be read

below-ranges : (slots : List Held) (front bound : ℕ) → ((k : ℕ) → length (slot_at slots k).cells ≤ 32767)
    → AreRanges (missing_below slots front bound)
below-ranges [] front bound few = tt
below-ranges (h ∷ hs) front bound few = by (nat_lt front bound) (below-ranges hs (front + 1) bound (λ k. few (suc k)))
  where
    by : (b : Bool) → AreRanges (missing_below hs (front + 1) bound)
        → AreRanges (if b then missing_of front h ++ missing_below hs (front + 1) bound else [])
    by true rest =
        ranges_append (missing_of front h) (missing_below hs (front + 1) bound) (missing_in front h (few 0)) rest
    by false rest = tt

fitting-ranges : (room : ℕ) (ms : List Missing) → AreRanges ms → AreRanges (fitting room ms)
fitting-ranges room [] r = tt
fitting-ranges room (m ∷ ms) r = by (nat_le (entry_bits m) room) (fitting-ranges (room - entry_bits m) ms r.1)
  where
    by : (b : Bool) → AreRanges (fitting (room - entry_bits m) ms)
        → AreRanges (if b then m ∷ fitting (room - entry_bits m) ms else [])
    by true rest = (r.0, rest)
    by false rest = tt

nacks-read : (ms : List Missing) → AreRanges ms → All IsNack (map nack_of ms)
nacks-read [] r = All-nil IsNack
nacks-read (m ∷ ms) r =
    All-cons IsNack (nack_of m) (map nack_of ms) (record { number = omega arith; part = r.0 }) (nacks-read ms r.1)

-- what is held of a number is what its field has
slots-fit : (f : Flow) → IsSound f → (k : ℕ)
    → SlotFits (slot_at (receiver f).state.window.slots k)
    (field_of (sender f).past.sent ((receiver f).state.window.front + k))
slots-fit f h k =
    let g : Flows (field_of (sender f).past.sent) (flow f.heard (initial f.receiving)) =
    flow-flows (field_of (sender f).past.sent) f.heard (initial f.receiving)
    (h.honest (field_of (sender f).past.sent) (sent-field (sender f).past.sent))
    (initial-flows (field_of (sender f).past.sent) f.receiving (are-fields (sender f).past.sent h.aired)) in
    let same : (flow f.heard (initial f.receiving)).state ≡ (receiver f).state =
    same_state f.heard (initial f.receiving) (begin f.receiving) refl in
    subst (λ (s : State). SlotFits (slot_at s.window.slots k) (field_of (sender f).past.sent (s.window.front + k)))
    same (g.fits k)

-- each field has at most 32767 octets, so what is held of it has
slots-few : (f : Flow) → IsSound f → (k : ℕ) → length (slot_at (receiver f).state.window.slots k).cells ≤ 32767
slots-few f h k =
    let a = (slots-fit f h k).within in
    let b = (are-fields (sender f).past.sent h.aired ((receiver f).state.window.front + k)).few in
    omega (arith, a, b)

-- ---- its ACK

-- lies at most at VR(MS)
ack-bound : (f : Flow) (size : ℕ) → IsTrueStatus (receiver f) size
    → ack (receiver f).state size ≤ (receiver f).state.bound
ack-bound f size t = elim (cases_lt (receiver f).state.bound (ack (receiver f).state size)) [
  | inr within ↦ omega (arith, within)
  | inl above ↦ absurd (by (has_entry (chosen (receiver f).state size) (receiver f).state.bound) refl above)
]
  where
    open' : IsComplete (receiver f).kept (receiver f).state.bound → ⊥
    open' = subst (λ (w : World). IsComplete w.kept w.state.bound
        → ⊥) (go_world f.heard (marked_outset f.receiving)) (bounded f.receiving f.heard).here

    by : (b : Bool) → has_entry (chosen (receiver f).state size) (receiver f).state.bound ≡ b
        → (receiver f).state.bound < ack (receiver f).state size → ⊥
    by false e above = let o : IsOrdered (receiver f) = ordered f.receiving f.heard in
        open' (t.ack_least (receiver f).state.bound o.front above e)
    by true e above =
        let in' : has_entry (listed (receiver f).state) (receiver f).state.bound ≡ true =
        ap (λ (ms : List Missing). has_entry ms (receiver f).state.bound) t.begins
        ∙ (has_append (chosen (receiver f).state size) t.rest (receiver f).state.bound
        ∙ ap (λ (b : Bool). b || has_entry t.rest (receiver f).state.bound) e) in
        let r = entry_in (receiver f).state.window.slots (receiver f).state.window.front (receiver f).state.bound
        (receiver f).state.bound in' in
        let lt = r.1 in absurd (omega (arith, lt))

pub reports-sound : (f : Flow) (size : ℕ) (octets : List ℕ) → IsReporting f size octets → IsSound f
    → IsSound (reports f size octets)
reports-sound f size octets g h =
    hears-sound f Write (record {
      octets = octets;
      age = 0;
      ack = ack (receiver f).state size;
      entries = chosen (receiver f).state size;
    } ∷ f.reports) h tt (λ field agree. tt) h.top h.kept (
      record {
        reads =
            (status_again (record { ack = ack s size % 1024; nacks = nacks s size }) octets g.bytes (omega arith)
            (nacks-read (chosen s size) ranges) g.bits).read;
        known = let a = ack-bound f size t in let b = o.highest in let c = h.top in omega (arith, a, b, c);
        age = omega arith;
        young = let a = t.ack_above in let b = o.least in let c = o.window in let n = sent-number f h in
            omega (arith, a, b, c, n);
        complete = λ n lt none. elim (cases_lt n s.window.front) [
          | inl low ↦ (least f.receiving f.heard).below n low
          | inr high ↦ t.ack_least n high lt none
        ];
        near = λ n e.
            let in' : has_entry (listed s) n ≡ true = ap (λ (ms : List Missing). has_entry ms n) t.begins
            ∙ (has_append (chosen s size) t.rest n ∙ ap (λ (b : Bool). b || has_entry t.rest n) e) in
            let r = entry_in s.window.slots s.window.front s.bound n in' in
            let from = r.0 in let below = r.1 in let a = o.highest in let b = o.least in let c = o.window in
            let d = h.top in let m = sent-number f h in (omega (arith, below, a, d), omega (arith, from, b, c, m));
      },
      old-reports f Write h,
    ) (record { below = t.ack_over; octets = named }, h.entries)
  where
    s : State
    s = (receiver f).state

    t : IsTrueStatus (receiver f) size
    t = true_status f.receiving f.heard size h.some

    o : AreInOrder f
    o = in-order f h

    named : AllByRecursion (NamesOctet (sender f).past.sent) (chosen (receiver f).state size)
    named = let a = o.highest in let b = h.top in
        fitting-names (sender f).past.sent (room_in size) (listed (receiver f).state)
        (below-names (sender f).past.sent (receiver f).state.window.slots (receiver f).state.window.front
        (receiver f).state.bound
        (slots-fit f h) (are-fields (sender f).past.sent h.aired) (omega (arith, a, b)))

    ranges : AreRanges (chosen (receiver f).state size)
    ranges = fitting-ranges (room_in size) (listed (receiver f).state)
        (below-ranges (receiver f).state.window.slots (receiver f).state.window.front (receiver f).state.bound
        (slots-few f h))

-- ---- it comes

named-entry : (base n : ℕ) (ms : List Missing) → base ≤ n → n < base + 1024 → has_entry ms n ≡ true
    → is_named base (n - base) (map nack_of ms) ≡ true
named-entry base n [] le lt e = cc
named-entry base n (m ∷ ms) le lt e = by (m.number == n) refl (λ g. named-entry base n ms le lt g) e
  where
    by : (b : Bool) → (m.number == n) ≡ b → (has_entry ms n ≡ true → is_named base (n - base) (map nack_of ms) ≡ true)
        → (b || has_entry ms n) ≡ true → is_named base (n - base) (map nack_of (m ∷ ms)) ≡ true
    by true e rest h =
        let same : m.number ≡ n = eqb-true m.number n e in
        let at : offset_of base (m.number % 1024) ≡ n - base = rw same (omega (arith, le, lt)) in
        rw (eq-eqb (offset_of base (m.number % 1024)) (n - base) at) refl
    by false e rest h = rw (rest h) (always (offset_of base (m.number % 1024) == (n - base)))
      where
        always : (b : Bool) → (if b then true else true) ≡ true
        always true = refl
        always false = refl

-- what it acknowledges lies below its ACK and has no entry
acked-below : (base few ack n : ℕ) (ms : List Missing) → few ≤ 512 → ack ≤ base + few → base + few < ack + 1024
    → nat_lt few (offset_of base (ack % 1024)) ≡ false
    → acks base (offset_of base (ack % 1024)) (map nack_of ms) n ≡ true → (n < ack) × (has_entry ms n ≡ false)
acked-below base few ack n ms most known young heard e =
    let within : offset_of base (ack % 1024) ≤ few = grind (arith, nat_tests) in
    let above : base ≤ ack = omega arith in
    let is : offset_of base (ack % 1024) ≡ ack - base = omega arith in
    let low : base ≤ n = grind (arith, nat_tests) in
    let high : n < base + offset_of base (ack % 1024) = grind (arith, nat_tests) in
    let none : is_named base (n - base) (map nack_of ms) ≡ false =
    third (nat_le base n) (nat_lt n (base + offset_of base (ack % 1024)))
    (is_named base (n - base) (map nack_of ms)) e in (
      omega (arith, high, is, above),
      not-true (has_entry ms n) (λ g. let named =
          named-entry base n ms low (omega (arith, high, is, above, known, most)) g in
          let no' : true ≡ false = sym named ∙ none in cc),
    )
  where
    third : (a b c : Bool) → (a && b && not c) ≡ true → c ≡ false
    third a b false e = refl
    third true true true e = cc
    third true false true e = cc
    third false b true e = cc

    not-true : (b : Bool) → (b ≡ true → ⊥) → b ≡ false
    not-true true h = absurd (h refl)
    not-true false h = refl

heard-known : (f : Flow) (r : Report) (q : IsTrueReport (receiver f).kept (length (sender f).past.sent) f.busy r)
    → IsSound f → (n : ℕ)
    → acked_by (sender f).state (record { ack = r.ack % 1024; nacks = map nack_of r.entries }) (is_acked f) n ≡ true
    → IsComplete (receiver f).kept n
heard-known f r q h n e = by (is_acked f n) refl (is_ignored (sender f).state (r.ack % 1024)) refl e
  where
    most : one f.busy ≤ 1
    most = at-most-one f.busy

    by : (a : Bool) → is_acked f n ≡ a → (b : Bool) → is_ignored (sender f).state (r.ack % 1024) ≡ b
        → (a
        || (not b && acks (sender f).state.window.base (offset_of (sender f).state.window.base (r.ack % 1024))
        (map nack_of r.entries) n)) ≡ true → IsComplete (receiver f).kept n
    by true a b i e = h.known n a
    by false a true i e = cc
    by false a false i e =
        let few = h.fits.few in let number = sent-number f h in let known = q.known in let young = q.young in
        let age = q.age in
        let below = acked-below (sender f).state.window.base (length (sender f).state.window.slots) r.ack n r.entries
        few (omega (arith, number, known)) (omega (arith, number, young, age, most)) i e in
        q.complete n below.0 below.1

own-entry : (m : Missing) (ms : List Missing) → has_entry (m ∷ ms) m.number ≡ true
own-entry m ms = rw (eq-eqb m.number m.number refl) refl

-- an entry that is read as a number has it
entry-named : (base next n : ℕ) (ms : List Missing) → base ≤ n → n < next → next ≤ base + 512
    → ((m : ℕ) → has_entry ms m ≡ true → (m < next) × (next < m + 1024))
    → is_named base (n - base) (map nack_of ms) ≡ true → has_entry ms n ≡ true
entry-named base next n [] le lt few near e = cc
entry-named base next n (m ∷ ms) le lt few near e =
    by (offset_of base (m.number % 1024) == n - base) refl
    (λ g. entry-named base next n ms le lt few (λ k h. near k (rw h (or_true (m.number == k)))) g) e
  where
    by : (b : Bool) → (offset_of base (m.number % 1024) == n - base) ≡ b
        → (is_named base (n - base) (map nack_of ms) ≡ true → has_entry ms n ≡ true)
        → (if b then true else is_named base (n - base) (map nack_of ms)) ≡ true
        → ((m.number == n) || has_entry ms n) ≡ true
    by true g rest h =
        let at : offset_of base (m.number % 1024) ≡ n - base =
        eqb-true (offset_of base (m.number % 1024)) (n - base) g in
        let x = (near m.number (own-entry m ms)).0 in let y = (near m.number (own-entry m ms)).1 in
        let same : m.number ≡ n = omega (arith, at, x, y, le, lt, few) in
        rw (eq-eqb m.number n same) refl
    by false g rest h = rw (rest h) (or_true (m.number == n))

-- each entry of what is under way lies less than 1024 below VT(S)
near-entries : (f : Flow) (r : Report) → IsTrueReport (receiver f).kept (length (sender f).past.sent) f.busy r
    → IsSound f
    → (m : ℕ) → has_entry r.entries m ≡ true → (m < next (sender f).state.window)
    × (next (sender f).state.window < m + 1024)
near-entries f r q h m e =
    let number = sent-number f h in let age = q.age in let a = (q.near m e).0 in let b = (q.near m e).1 in
    let most = at-most-one f.busy in
    (omega (arith, a, number), omega (arith, b, number, age, most))

-- what names a number names an octet of it
named-octet : (base next k : ℕ) (sent : List (List Place)) (ms : List Missing) → base + k < next → next ≤ base + 512
    → ((m : ℕ) → has_entry ms m ≡ true → (m < next) × (next < m + 1024)) → AllByRecursion (NamesOctet sent) ms
    → is_named base k (map nack_of ms) ≡ true → (i : ℕ) × (i < length (slice_index_or sent (base + k) []))
    × (names base k (map nack_of ms) (length (slice_index_or sent (base + k) [])) i ≡ true)
named-octet base next k sent [] lt few near all e = cc
named-octet base next k sent (m ∷ ms) lt few near all e =
    by (offset_of base (m.number % 1024) == k) refl
    (λ g. named-octet base next k sent ms lt few (λ j h. near j (rw h (or_true (m.number == j)))) all.1 g) e
  where
    size : ℕ
    size = length (slice_index_or sent (base + k) [])

    by : (b : Bool) → (offset_of base (m.number % 1024) == k) ≡ b
        → (is_named base k (map nack_of ms) ≡ true → (i : ℕ) × (i < size)
        × (names base k (map nack_of ms) size i ≡ true))
        → (if b then true else is_named base k (map nack_of ms)) ≡ true
        → (i : ℕ) × (i < size)
        × (((if b then in_part m.part size i else false) || names base k (map nack_of ms) size i) ≡ true)
    by false g rest h = rest h
    by true g rest h =
        let at : offset_of base (m.number % 1024) ≡ k = eqb-true (offset_of base (m.number % 1024)) k g in
        let x = (near m.number (own-entry m ms)).0 in let y = (near m.number (own-entry m ms)).1 in
        let same : m.number ≡ base + k = omega (arith, at, x, y, lt, few) in
        let q : NamesOctet sent m = all.0 in (
          q.octet,
          subst (λ (n : ℕ). q.octet < length (slice_index_or sent n [])) same q.within,
          ap (λ (b : Bool). b || names base k (map nack_of ms) size q.octet)
              (subst (λ (n : ℕ). in_part m.part (length (slice_index_or sent n [])) q.octet ≡ true) same q.names),
        )

-- so the poll timer's law holds of it
is-honest : (f : Flow) (r : Report) → IsTrueReport (receiver f).kept (length (sender f).past.sent) f.busy r
    → HasTrueEntries (sender f).past.sent r → IsSound f
    → IsHonest (sender f).state (record { ack = r.ack % 1024; nacks = map nack_of r.entries })
is-honest f r q t h k lt e = record {
  below = let b =
      t.below (s.window.base + k)
      (entry-named s.window.base (next s.window) (s.window.base + k) r.entries (omega arith) (omega (arith, lt))
      (omega (arith, few)) near (rw back e)) in
      omega (arith, b, lt, few, number, known);
  octet = λ unacked. subst (λ (size : ℕ). (i : ℕ) × (i < size)
      × (names s.window.base k (map nack_of r.entries) size i ≡ true)) (sym long)
      (named-octet s.window.base (next s.window) k (sender f).past.sent r.entries (omega (arith, lt))
      (omega (arith, few)) near t.octets e);
}
  where
    s : SenderState
    s = (sender f).state

    back : (sender f).state.window.base + k - (sender f).state.window.base ≡ k
    back = omega arith

    few : length (sender f).state.window.slots ≤ 512
    few = h.fits.few

    number : length (sender f).past.sent ≡ next (sender f).state.window
    number = sent-number f h

    known : r.ack ≤ length (sender f).past.sent
    known = q.known

    near : (m : ℕ) → has_entry r.entries m ≡ true → (m < next (sender f).state.window)
        × (next (sender f).state.window < m + 1024)
    near = near-entries f r q h

    long : length (sent_at (sender f).state.window.slots k).field
        ≡ length (slice_index_or (sender f).past.sent ((sender f).state.window.base + k) [])
    long = face-length (key (sent_at (sender f).state.window.slots k))
        (slice_index_or (sender f).past.sent ((sender f).state.window.base + k) []) (h.keeps.faces.slots k lt)

pub status-sound : (f : Flow) (r : Report) → IsTrueReport (receiver f).kept (length (sender f).past.sent) f.busy r
    → HasTrueEntries (sender f).past.sent r → IsSound f → IsSound (status_comes f (Some r))
status-sound f r q t h =
    subst (λ (x : Result AcknowledgedPdu RlcRefusal). IsSound (status_read f x)) (sym q.reads)
    (sent-sound f (Status pdu) f.copies f.busy (record {
      offered = offered-more f.sent (Status pdu) h.offered tt;
      keeps = after-keeps (sender f).state (Status pdu) (sender f).past tt h.keeps;
      fits = after-fits (sender f).state (Status pdu) (is_acked f) h.fits;
      aired = h.aired;
      copies = h.copies;
      reports = h.reports;
      entries = h.entries;
      fair = stays-fair f (Status pdu) h (is-honest f r q t h);
      known = heard-known f r q h;
      top = h.top;
      kept = h.kept;
      some = h.some;
      honest = h.honest;
    }))
  where
    pdu : StatusPdu
    pdu = record { ack = r.ack % 1024; nacks = map nack_of r.entries }

-- ---- each number of it is read right

same-test : (a b : Bool) → (a ≡ true → b ≡ true) → (b ≡ true → a ≡ true) → a ≡ b
same-test true b f g = sym (f refl)
same-test false true f g = g refl
same-test false false f g = refl

pub read-right : (f : Flow) → IsSound f → (r : Report)
    → IsTrueReport (receiver f).kept (length (sender f).past.sent) f.busy r → IsReadRight (sender f).state r
read-right f h r q = record {
  reads = q.reads;
  ignored = (λ e. grind (arith, nat_tests), λ lt. grind (arith, nat_tests));
  ack = λ le. omega (arith, le, few, number, known);
  entries = λ n le lt. same-test (is_named s.window.base (n - s.window.base) (map nack_of r.entries))
      (has_entry r.entries n)
      (entry-named s.window.base (next s.window) n r.entries le lt (omega (arith, few)) (near-entries f r q h))
      (named-entry s.window.base n r.entries le (omega (arith, lt, few)));
}
  where
    s : SenderState
    s = (sender f).state

    few : length (sender f).state.window.slots ≤ 512
    few = h.fits.few

    number : length (sender f).past.sent ≡ next (sender f).state.window
    number = sent-number f h

    known : r.ack ≤ length (sender f).past.sent
    known = q.known

    age : r.age ≤ 216
    age = q.age

    most : one f.busy ≤ 1
    most = at-most-one f.busy
