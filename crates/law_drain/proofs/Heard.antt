-- What a STATUS leaves due of the PDUs in the window.
use Rattle.std.proofs.Common.{◌≡◌, ◌<◌, ◌≤◌, inl, inr, ◌⊎◌, ℕ, ◌+◌, ◌-◌, ◌*◌, Bool, true, false, not, ◌||◌}
use Rattle.std.proofs.Common.{◌&&◌}
use Rattle.std.proofs.Common.{◌==◌, if◌then◌else◌, List, [], ◌∷◌, length, drop, Option, Some, None}
use Rattle.std.proofs.Common.{is_some, refl}
use Rattle.std.proofs.Common.{ap, sym, ◌∙◌, arith, nat_lt, length-drop}
use Rattle.std.proofs.lemmas.Grind.{common_steps}
use Rattle.rlc_pdu.specs.declared.pdu.Nack.{Nack}
use Rattle.rlc_pdu.specs.declared.pdu.Part.{Part}
use Rattle.rlc_am_tx_window.specs.Sent.{Sent, with_name, considered, considered_by}
use Rattle.rlc_am_tx_window.specs.Window.{TxWindow, slot_at, offset_of, named_one, named_all, acked_from}
use Rattle.rlc_am_tx_window.specs.Window.{considered_one, considered_all, is_named, leading_acked, advanced}
use Rattle.law_rlc.specs.AmSender.Namings.{Marks, names, any_below, with_naming}
use Rattle.law_rlc.specs.AmSender.Namings.{heard_waits, heard_namings, heard_marks}
use Rattle.law_rlc.specs.AmSender.Limit.{AreFew}
use Rattle.law_rlc.proofs.AmSender.Slots.{set_one-keeps, set_one-length, named-length, acked-length, acked-at, acked_if}
use Rattle.law_rlc.proofs.AmSender.Slots.{all-acked, all-named, one-closed, considered-acked, leading-length, slot-drop}
use Rattle.law_rlc.proofs.AmSender.Least.{heard_slots, heard-length}
use Rattle.law_rlc.proofs.AmSender.Places.{any-true}
use Rattle.law_rlc.proofs.AmSender.Heard.{Holds, open-is, back}
use Rattle.law_drain.specs.Dues.{sum_below, waiting_of, pdu_dues, window_dues}
use Rattle.law_drain.proofs.Sums.{sum_below_le, sum_below_drop, waiting_of_le}
use Rattle.law_drain.proofs.Sums.{waiting_of_fewer, waiting_of_less, one_naming}

-- ---- one PDU

-- what is like it, with fewer octets that wait
pub pdu_dues_fewer : (most namings : ℕ) (h g : Sent) (v w : ℕ → Bool) → g.field ≡ h.field → g.acked ≡ h.acked
    → ((i : ℕ) → i < length h.field → w i ≡ true → v i ≡ true)
    → pdu_dues most g w namings ≤ pdu_dues most h v namings
pdu_dues_fewer most namings h g v w field acked fewer =
    rw (field, acked) (let le = waiting_of_fewer (length h.field) w v fewer in omega (arith, le))

pub pdu_dues_less : (most namings at : ℕ) (h g : Sent) (v w : ℕ → Bool) → g.field ≡ h.field → g.acked ≡ h.acked
    → at < length h.field → w at ≡ false → v at ≡ true
    → ((i : ℕ) → i < length h.field → w i ≡ true → v i ≡ true)
    → pdu_dues most g w namings + 1 ≤ pdu_dues most h v namings
pdu_dues_less most namings at h g v w field acked lt off on fewer =
    rw (field, acked) (let le = waiting_of_less (length h.field) at w v lt off on fewer in omega (arith, le))

-- named once more
pub pdu_dues_named : (most namings : ℕ) (h g : Sent) (v w : ℕ → Bool) → g.field ≡ h.field → g.acked ≡ false
    → h.acked ≡ false → namings + 1 ≤ most → pdu_dues most g w (namings + 1) ≤ pdu_dues most h v namings
pdu_dues_named most namings h g v w field unacked unacked' lt =
    rw (field, unacked, unacked')
    (let le = waiting_of_le (length h.field) w in omega (arith, le, one_naming (length h.field) most namings lt))

-- acknowledged
pdu_dues_acked : (most namings n : ℕ) (h g : Sent) (v w : ℕ → Bool) → g.field ≡ h.field → h.acked ≡ false
    → n ≡ namings → ((i : ℕ) → i < length h.field → w i ≡ true → v i ≡ true)
    → pdu_dues most g w n ≤ pdu_dues most h v namings
pdu_dues_acked most namings n h g v w field unacked same fewer =
    rw (field, unacked, same)
    (by g.acked (let le = waiting_of_fewer (length h.field) w v fewer in le))
  where
    by : (b : Bool) → waiting_of (length h.field) w ≤ waiting_of (length h.field) v
        → (if b then 0 else length h.field * (most - namings)) + waiting_of (length h.field) w
        ≤ length h.field * (most - namings) + waiting_of (length h.field) v
    by true le = omega (arith, le)
    by false le = omega (arith, le)

-- ---- what a STATUS leaves of a slot

same-field : (h : Sent) (part : Option Part) → (with_name h part).field ≡ h.field
same-field h part = grind (arith, common_steps)

named-field : (base : ℕ) (slots : List Sent) (ns : List Nack) (k : ℕ) → k < length slots
    → (slot_at (named_all base slots ns) k).field ≡ (slot_at slots k).field
named-field base slots [] k h = refl
named-field base slots (n ∷ ns) k h =
    named-field base (named_one base slots n) ns k
    (omega (
      arith,
      set_one-length slots (offset_of base n.sn) (with_name (slot_at slots (offset_of base n.sn)) n.part),
    ))
    ∙ set_one-keeps (λ (x : Sent). x.field) slots (offset_of base n.sn)
    (with_name (slot_at slots (offset_of base n.sn)) n.part) k h
    (same-field (slot_at slots (offset_of base n.sn)) n.part)

acked-field : (b : Bool) (h : Sent) → (acked_if b h).field ≡ h.field
acked-field true h = grind (arith, common_steps)
acked-field false h = refl

one-field : (o : Option Bool) (most : ℕ) (h : Sent) → (considered_by o most h).field ≡ h.field
one-field None most h = refl
one-field (Some new) most h = refl

considered-field : (base most : ℕ) (slots : List Sent) (ns : List Nack) (k : ℕ) → k < length slots
    → (slot_at (considered_all base most slots ns) k).field ≡ (slot_at slots k).field
considered-field base most slots [] k h = refl
considered-field base most slots (n ∷ ns) k h =
    considered-field base most (considered_one base most slots n) ns k
    (omega (
      arith,
      set_one-length slots (offset_of base n.sn) (considered most (slot_at slots (offset_of base n.sn))),
    ))
    ∙ set_one-keeps (λ (x : Sent). x.field) slots (offset_of base n.sn)
    (considered most (slot_at slots (offset_of base n.sn))) k h
    (one-field (slot_at slots (offset_of base n.sn)).named most (slot_at slots (offset_of base n.sn)))

pub heard-field : (w : TxWindow) (below most : ℕ) (ns : List Nack) (k : ℕ) → k < length w.slots
    → (slot_at (heard_slots w below most ns) k).field ≡ (slot_at w.slots k).field
heard-field w below most ns k lt =
    let a = named-length w.base w.slots ns in
    let b = acked-length 0 below (named_all w.base w.slots ns) in
    considered-field w.base most (acked_from 0 below (named_all w.base w.slots ns)) ns k (omega arith)
    ∙ ap (λ (x : Sent). x.field) (acked-at 0 below (named_all w.base w.slots ns) k (omega arith))
    ∙ acked-field (nat_lt (0 + k) below) (slot_at (named_all w.base w.slots ns) k)
    ∙ named-field w.base w.slots ns k lt

-- it is acknowledged if it was, or if it lies below ACK_SN and isn't named
pub heard-acked : (w : TxWindow) (below most : ℕ) (ns : List Nack) (k : ℕ) → k < length w.slots
    → (slot_at w.slots k).named ≡ None
    → (slot_at (heard_slots w below most ns) k).acked
    ≡ ((slot_at w.slots k).acked
    || (nat_lt (0 + k) below && not (is_named w.base k ns && not (slot_at w.slots k).acked)))
heard-acked w below most ns k lt plain =
    let a = named-length w.base w.slots ns in
    let b = acked-length 0 below (named_all w.base w.slots ns) in
    let named : is_some (slot_at (named_all w.base w.slots ns) k).named
    ≡ (is_named w.base k ns && not (slot_at w.slots k).acked) =
    all-named w.base w.slots ns k lt
    ∙ ap (λ (o : Option Bool). is_some o || (is_named w.base k ns && not (slot_at w.slots k).acked)) plain in
    considered-acked w.base most (acked_from 0 below (named_all w.base w.slots ns)) ns k (omega arith)
    ∙ ap (λ (x : Sent). x.acked) (acked-at 0 below (named_all w.base w.slots ns) k (omega arith))
    ∙ one-closed (nat_lt (0 + k) below) (slot_at (named_all w.base w.slots ns) k)
    ∙ ap (λ (c : Bool). (slot_at (named_all w.base w.slots ns) k).acked || (nat_lt (0 + k) below && not c)) named
    ∙ ap (λ (c : Bool). c || (nat_lt (0 + k) below && not (is_named w.base k ns && not (slot_at w.slots k).acked)))
    (all-acked w.base w.slots ns k lt)

-- ---- what a STATUS leaves due of it

pub waits-are : (w : TxWindow) (below : ℕ) (ns : List Nack) (m : Marks) (k i : ℕ) → k < length w.slots
    → heard_waits w below ns m.waits (w.base + k) i
    ≡ (if not (slot_at w.slots k).acked then (
    if is_named w.base k ns then m.waits (w.base + k) i
    || names w.base k ns (length (slot_at w.slots k).field) i
    else m.waits (w.base + k) i && not (nat_lt k below))
    else m.waits (w.base + k) i)
waits-are w below ns m k i lt = rw (open-is w k lt, back w.base k) refl

pub namings-are : (w : TxWindow) (ns : List Nack) (m : Marks) (k : ℕ) → k < length w.slots
    → heard_namings w ns m (w.base + k)
    ≡ (if not (slot_at w.slots k).acked && is_named w.base k ns
    then with_naming (m.namings (w.base + k))
    (any_below (length (slot_at w.slots k).field)
    (λ i. names w.base k ns (length (slot_at w.slots k).field) i && not (m.waits (w.base + k) i)))
    else m.namings (w.base + k))
namings-are w ns m k lt = rw (open-is w k lt, back w.base k) refl

pub both : (a b : Bool) → (a && b) ≡ true → a ≡ true
both true b e = refl
both false b e = let no' : false ≡ true = e in cc

waited : (v n : Bool) → (v || n) ≡ true → ((n && not v) ≡ true → ⊥) → v ≡ true
waited true n e h = refl
waited false true e h = absurd (h refl)
waited false false e h = let no' : false ≡ true = e in cc

-- of two namings the second doesn't count where no octet is new
naming-of : (n : ℕ) (new : Bool) → (with_naming n new ≡ n + 1) ⊎ ((new ≡ false) × (with_naming n new ≡ n))
naming-of n new = by (n == 0) new
  where
    by : (z b : Bool) → ((if z || b then n + 1 else n) ≡ n + 1) ⊎ ((b ≡ false) × ((if z || b then n + 1 else n) ≡ n))
    by true b = inl refl
    by false true = inl refl
    by false false = inr (refl, refl)

pub heard-due : (w : TxWindow) (below most : ℕ) (ns : List Nack) (m : Marks) (k : ℕ) → k < length w.slots
    → (slot_at w.slots k).named ≡ None → heard_namings w ns m (w.base + k) ≤ most
    → pdu_dues most (slot_at (heard_slots w below most ns) k) (heard_waits w below ns m.waits (w.base + k))
    (heard_namings w ns m (w.base + k))
    ≤ pdu_dues most (slot_at w.slots k) (m.waits (w.base + k)) (m.namings (w.base + k))
heard-due w below most ns m k lt plain few = by h.acked (is_named w.base k ns) refl refl
  where
    h : Sent
    h = slot_at w.slots k

    g : Sent
    g = slot_at (heard_slots w below most ns) k

    v : ℕ → Bool
    v = m.waits (w.base + k)

    n : ℕ
    n = m.namings (w.base + k)

    new : Bool
    new = any_below (length h.field) (λ i. names w.base k ns (length h.field) i && not (v i))

    field : g.field ≡ h.field
    field = heard-field w below most ns k lt

    Goal : Type 0
    Goal = pdu_dues most g (heard_waits w below ns m.waits (w.base + k)) (heard_namings w ns m (w.base + k))
        ≤ pdu_dues most h v n

    -- named, and counted or not
    named : h.acked ≡ false → is_named w.base k ns ≡ true → Goal
    named unacked is =
        let is_open' : g.acked ≡ false =
        heard-acked w below most ns k lt plain ∙ rw (unacked, is) (off (nat_lt (0 + k) below)) in
        let count : heard_namings w ns m (w.base + k) ≡ with_naming n new =
        namings-are w ns m k lt ∙ rw (unacked, is) refl in
        elim (naming-of n new) [
          | inl one ↦ rw (count ∙ one)
              (pdu_dues_named most n h g v (heard_waits w below ns m.waits (w.base + k)) field is_open' unacked
              (omega (arith, few, count, one)))
          | inr none ↦ rw (count ∙ none.1)
              (pdu_dues_fewer most n h g v (heard_waits w below ns m.waits (w.base + k)) field (is_open' ∙ sym unacked)
              (λ i i_in e. waited (v i) (names w.base k ns (length h.field) i)
              (sym (waits-are w below ns m k i lt ∙ rw (unacked, is) refl) ∙ e)
              (λ yes. let no' : false ≡ true = sym none.0 ∙ any-true (length h.field)
              (λ j. names w.base k ns (length h.field) j && not (v j)) i i_in yes in cc)))
        ]
      where
        off : (b : Bool) → (false || (b && not (true && true))) ≡ false
        off true = refl
        off false = refl

    by : (a c : Bool) → h.acked ≡ a → is_named w.base k ns ≡ c → Goal
    by true c closed is =
        let count : heard_namings w ns m (w.base + k) ≡ n = namings-are w ns m k lt ∙ rw closed refl in
        rw count
        (pdu_dues_fewer most n h g v (heard_waits w below ns m.waits (w.base + k)) field
        (heard-acked w below most ns k lt plain ∙ rw closed refl ∙ sym closed)
        (λ i i_in e. sym (waits-are w below ns m k i lt ∙ rw closed refl) ∙ e))
    by false true unacked is = named unacked is
    by false false unacked is =
        pdu_dues_acked most n (heard_namings w ns m (w.base + k)) h g v (heard_waits w below ns m.waits (w.base + k))
        field unacked (namings-are w ns m k lt ∙ rw (unacked, is) refl)
        (λ i i_in e. both (v i) (not (nat_lt k below))
        (sym (waits-are w below ns m k i lt ∙ rw (unacked, is) refl) ∙ e))

-- ---- what is due of each PDU, before a STATUS and behind it, and of each that is left in the window

module _ (w : TxWindow) (below most : ℕ) (ns : List Nack) (m : Marks) where
  abbrev all : List Sent
  all = heard_slots w below most ns

  abbrev pub due_before : ℕ → ℕ
  due_before k = pdu_dues most (slot_at w.slots k) (m.waits (w.base + k)) (m.namings (w.base + k))

  abbrev pub due_behind : ℕ → ℕ
  due_behind k = pdu_dues most (slot_at all k) (heard_waits w below ns m.waits (w.base + k))
      (heard_namings w ns m (w.base + k))

  abbrev pub due_left : ℕ → ℕ
  due_left k = pdu_dues most (slot_at (drop (leading_acked all) all) k)
      (heard_waits w below ns m.waits (w.base + leading_acked all + k))
      (heard_namings w ns m (w.base + leading_acked all + k))

  pub due_shifted : (k : ℕ) → due_left k ≡ due_behind (leading_acked all + k)
  due_shifted k =
      let e : w.base + leading_acked all + k ≡ w.base + (leading_acked all + k) = omega arith in
      ap (λ (x : Sent). pdu_dues most x (heard_waits w below ns m.waits (w.base + leading_acked all + k))
      (heard_namings w ns m (w.base + leading_acked all + k))) (slot-drop all (leading_acked all) k)
      ∙ ap (λ (j : ℕ). pdu_dues most (slot_at all (leading_acked all + k)) (heard_waits w below ns m.waits j)
      (heard_namings w ns m j)) e

pub heard-dues : (w : TxWindow) (below most : ℕ) (ns : List Nack) (m : Marks) → Holds w m most
    → AreFew (heard_namings w ns m) most
    → window_dues most (advanced (record { base = w.base; slots = heard_slots w below most ns }))
    (heard_marks w below ns m) ≤ window_dues most w m
heard-dues w below most ns m h few =
    let len = heard-length w below most ns in
    let lead = leading-length all in
    let cut = length-drop (leading_acked all) all in
    let one = sum_below_le (length (drop (leading_acked all) all)) left (λ k. due (leading_acked all + k))
    (λ k lt. omega (arith, due_shifted w below most ns m k)) in
    let two = sum_below_drop (length (drop (leading_acked all) all)) (leading_acked all) due in
    let three = sum_below_le (length w.slots) due was
    (λ k lt. heard-due w below most ns m k lt (h.slots k lt).plain (few (w.base + k))) in
    let many : leading_acked all + length (drop (leading_acked all) all) ≡ length w.slots =
    omega (arith, len, lead, cut) in
    let same : sum_below (leading_acked all + length (drop (leading_acked all) all)) due
    ≡ sum_below (length w.slots) due =
    ap (λ (n : ℕ). sum_below n due) many in
    omega (arith, one, two, three, same)
  where
    all : List Sent
    all = heard_slots w below most ns

    was : ℕ → ℕ
    was = due_before w below most ns m

    due : ℕ → ℕ
    due = due_behind w below most ns m

    left : ℕ → ℕ
    left = due_left w below most ns m
