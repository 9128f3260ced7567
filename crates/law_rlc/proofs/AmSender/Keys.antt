-- What the PDUs of a window carry, whatever is resent or acknowledged.
use Rattle.std.proofs.Common.{◌≡◌, ◌≤◌, ℕ, suc, zero, ◌+◌, ◌-◌, Bool, true, false, if◌then◌else◌, List, [], ◌∷◌, ◌++◌}
use Rattle.std.proofs.Common.{length, map, drop, slice_index_or, Option, Some, None, refl, ap, sym, ◌∙◌, arith, set}
use Rattle.std.proofs.Common.{nat_lt}
use Rattle.std.proofs.lemmas.Grind.{common_steps}
use Rattle.rlc_pdu.specs.declared.pdu.Nack.{Nack}
use Rattle.rlc_pdu.specs.declared.pdu.Part.{Part}
use Rattle.rlc_am_tx_window.specs.Sent.{Sent, with_name, considered, considered_by, acknowledged}
use Rattle.rlc_am_tx_window.specs.Window.{TxWindow, nothing, slot_at, offset_of, named_one, named_all, acked_from}
use Rattle.rlc_am_tx_window.specs.Window.{considered_one, considered_all}
use Rattle.law_rlc.proofs.AmSender.Slots.{set_one}
use Rattle.law_rlc.proofs.AmSender.Least.{heard_slots}

-- the place of the first element's SDU, the data field, the lengths of the elements, and whether the first begins and
-- the last ends an SDU
pub record Key : Type 0 where
  pub place : ℕ
  pub field : List ℕ
  pub lens : List ℕ
  pub begins : Bool
  pub ends : Bool

abbrev pub key : Sent → Key
key h = record { place = h.place; field = h.field; lens = h.lens; begins = h.begins; ends = h.ends }

abbrev pub keys : List Sent → List Key
keys slots = map key slots

pub set-keys : (slots : List Sent) (at : ℕ) (x : Sent) → key x ≡ key (slot_at slots at)
    → keys (set slots at x) ≡ keys slots
set-keys [] at x e = refl
set-keys (h ∷ hs) zero x e = ap (λ (k : Key). k ∷ keys hs) e
set-keys (h ∷ hs) (suc at) x e = ap (λ (xs : List Key). key h ∷ xs) (set-keys hs at x e)

one-keys : (slots : List Sent) (at : ℕ) (x : Sent) → key x ≡ key (slot_at slots at)
    → keys (set_one slots at x) ≡ keys slots
one-keys slots at x e = by (nat_lt at (length slots))
  where
    by : (b : Bool) → keys (if b then set slots at x else slots) ≡ keys slots
    by true = set-keys slots at x e
    by false = refl

name-keys : (h : Sent) (part : Option Part) → key (with_name h part) ≡ key h
name-keys h part = grind (arith, common_steps)

pub named-keys : (base : ℕ) (slots : List Sent) (ns : List Nack) → keys (named_all base slots ns) ≡ keys slots
named-keys base slots [] = refl
named-keys base slots (n ∷ ns) = named-keys base (named_one base slots n) ns
    ∙ one-keys slots (offset_of base n.sn) (with_name (slot_at slots (offset_of base n.sn)) n.part)
    (name-keys (slot_at slots (offset_of base n.sn)) n.part)

consider-keys : (o : Option Bool) (most : ℕ) (h : Sent) → key (considered_by o most h) ≡ key h
consider-keys None most h = refl
consider-keys (Some new) most h = refl

considered-keys : (base most : ℕ) (slots : List Sent) (ns : List Nack)
    → keys (considered_all base most slots ns) ≡ keys slots
considered-keys base most slots [] = refl
considered-keys base most slots (n ∷ ns) = considered-keys base most (considered_one base most slots n) ns
    ∙ one-keys slots (offset_of base n.sn) (considered most (slot_at slots (offset_of base n.sn)))
    (consider-keys (slot_at slots (offset_of base n.sn)).named most (slot_at slots (offset_of base n.sn)))

ack-keys : (b : Bool) (h : Sent) → key (if b then acknowledged h else h) ≡ key h
ack-keys false h = refl
ack-keys true h = grind (arith, common_steps)

acked-keys : (at below : ℕ) (slots : List Sent) → keys (acked_from at below slots) ≡ keys slots
acked-keys at below [] = refl
acked-keys at below (h ∷ hs) =
    ap (λ (k : Key). k ∷ keys (acked_from (at + 1) below hs)) (ack-keys (nat_lt at below) h)
    ∙ ap (λ (xs : List Key). key h ∷ xs) (acked-keys (at + 1) below hs)

pub heard-keys : (w : TxWindow) (below most : ℕ) (ns : List Nack) → keys (heard_slots w below most ns) ≡ keys w.slots
heard-keys w below most ns = considered-keys w.base most (acked_from 0 below (named_all w.base w.slots ns)) ns
    ∙ (acked-keys 0 below (named_all w.base w.slots ns) ∙ named-keys w.base w.slots ns)

pub append-keys : (slots : List Sent) (h : Sent) → keys (slots ++ h ∷ []) ≡ keys slots ++ key h ∷ []
append-keys [] h = refl
append-keys (x ∷ xs) h = ap (λ (ys : List Key). key x ∷ ys) (append-keys xs h)

pub keys-length : (slots : List Sent) → length (keys slots) ≡ length slots
keys-length [] = refl
keys-length (x ∷ xs) = ap suc (keys-length xs)

key-at : (slots : List Sent) (k : ℕ) → key (slot_at slots k) ≡ slice_index_or (keys slots) k (key nothing)
key-at [] k = refl
key-at (x ∷ xs) zero = refl
key-at (x ∷ xs) (suc k) = key-at xs k

-- slots with the same keys
pub same-keys : (xs ys : List Sent) → keys xs ≡ keys ys → (k : ℕ) → key (slot_at xs k) ≡ key (slot_at ys k)
same-keys xs ys e k = key-at xs k ∙ (ap (λ (ks : List Key). slice_index_or ks k (key nothing)) e ∙ sym (key-at ys k))

-- a PDU begins with the SDU that the one before ends in, or a later one
abbrev pub Chained : ℕ → List Key → ℕ → Type 0
Chained lo [] hi = lo ≤ hi
Chained lo (k ∷ ks) hi = (lo ≤ k.place) × Chained (k.place + (length k.lens - 1)) ks hi

pub chain-end : (lo : ℕ) (ks : List Key) (k : Key) (mid hi : ℕ) → mid ≤ k.place → k.place + (length k.lens - 1) ≤ hi
    → Chained lo ks mid → Chained lo (ks ++ k ∷ []) hi
chain-end lo [] k mid hi a b c = (omega (arith, a, c), b)
chain-end lo (x ∷ xs) k mid hi a b c = (c.0, chain-end (x.place + (length x.lens - 1)) xs k mid hi a b c.1)

pub chain-drop : (j lo : ℕ) (slots : List Sent) (hi : ℕ) → Chained lo (keys slots) hi
    → Chained 0 (keys (drop j slots)) hi
chain-drop zero lo [] hi c = omega arith
chain-drop zero lo (x ∷ xs) hi c = (omega arith, c.1)
chain-drop (suc j) lo [] hi c = omega arith
chain-drop (suc j) lo (x ∷ xs) hi c = chain-drop j (x.place + (length x.lens - 1)) xs hi c.1
