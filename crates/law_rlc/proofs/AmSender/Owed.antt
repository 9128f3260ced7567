-- The octets of an SDU in PDUs that are not acknowledged, as a STATUS is heard.
use Rattle.std.proofs.Common.{◌≡◌, ◌≤◌, ℕ, suc, zero, ◌+◌, ◌-◌, Bool, true, false, not, ◌&&◌}
use Rattle.std.proofs.Common.{if◌then◌else◌, List, [], ◌∷◌, ◌++◌, length, map, drop, slice_get, Option}
use Rattle.std.proofs.Common.{Some, None, is_some, refl, ap, ◌∙◌, arith, nat_lt}
use Rattle.std.proofs.Common.{set}
use Rattle.std.proofs.lemmas.Grind.{common_steps}
use Rattle.rlc_pdu.specs.declared.pdu.Nack.{Nack}
use Rattle.rlc_pdu.specs.declared.pdu.Part.{Part}
use Rattle.rlc_pdu.specs.Runs.{run_between as of_all}
use Rattle.rlc_am_tx_window.specs.Ledger.{Ledger, credited_all}
use Rattle.rlc_am_tx_window.specs.Sent.{Sent, with_name, considered}
use Rattle.rlc_am_tx_window.specs.Sent.{considered_by, gets_acked}
use Rattle.rlc_am_tx_window.specs.Window.{slot_at, offset_of, named_one, named_all, acked_from, considered_one}
use Rattle.rlc_am_tx_window.specs.Window.{considered_all, credited_one, credited_from, leading_acked}
use Rattle.rlc_am_tx.specs.Machine.{State}
use Rattle.law_rlc.specs.AmSender.Run.{Call, Offer, Take, Status, Tick, Expire, Settle, Confirm}
use Rattle.law_rlc.specs.AmSender.Confirmed.{with_given}
use Rattle.law_rlc.proofs.AmSender.Slots.{set_one}
use Rattle.law_rlc.proofs.AmSender.Keys.{keys, Chained}
use Rattle.law_rlc.proofs.AmSender.Credits.{octets_at, owed_at}
use Rattle.law_rlc.proofs.AmSender.Credits.{Tells, Grows, grows-same, grows-on, tells-all}
use Rattle.law_rlc.proofs.AmSender.Credits.{all-grows, owed-all, offers, all-offers}

-- ---- the octets of a place in PDUs that aren't acknowledged

-- the octets of each SDU offered, and the places that were given, in order
pub record Books : Type 0 where
  pub sizes : List ℕ
  pub given : List ℕ

abbrev pub books_after : State → Call → Books → Books
books_after s (Offer sdu) g = record g { sizes = g.sizes ++ length sdu ∷ [] }
books_after s (Take size held more) g = g
books_after s (Status status) g = g
books_after s Tick g = g
books_after s (Expire more) g = g
books_after s (Settle more) g = g
books_after s Confirm g = record g { given = with_given (slice_get s.accounts.news 0) g.given }

-- the octets of an SDU in PDUs of the window that aren't acknowledged
abbrev pub unacked_in : List Sent → ℕ → ℕ
unacked_in [] p = 0
unacked_in (h ∷ hs) p = (if h.acked then 0 else octets_at h.place h.lens p) + unacked_in hs p

-- and those that aren't sent
abbrev pub unacked : State → ℕ → ℕ
unacked s p = unacked_in s.window.slots p + octets_at s.place (map length s.queue.sdus) p

abbrev pub held : Sent → ℕ → ℕ
held h p = if h.acked then 0 else octets_at h.place h.lens p

pub set-held : (slots : List Sent) (at : ℕ) (x : Sent) (p : ℕ) → held x p ≡ held (slot_at slots at) p
    → unacked_in (set slots at x) p ≡ unacked_in slots p
set-held [] at x p e = refl
set-held (h ∷ hs) zero x p e = ap (λ (k : ℕ). k + unacked_in hs p) e
set-held (h ∷ hs) (suc at) x p e = ap (λ (k : ℕ). held h p + k) (set-held hs at x p e)

one-held : (slots : List Sent) (at : ℕ) (x : Sent) (p : ℕ) → held x p ≡ held (slot_at slots at) p
    → unacked_in (set_one slots at x) p ≡ unacked_in slots p
one-held slots at x p e = by (nat_lt at (length slots))
  where
    by : (b : Bool) → unacked_in (if b then set slots at x else slots) p ≡ unacked_in slots p
    by true = set-held slots at x p e
    by false = refl

name-held : (h : Sent) (part : Option Part) (p : ℕ) → held (with_name h part) p ≡ held h p
name-held h part p = grind (arith, common_steps)

pub named-held : (base : ℕ) (slots : List Sent) (ns : List Nack) (p : ℕ)
    → unacked_in (named_all base slots ns) p ≡ unacked_in slots p
named-held base slots [] p = refl
named-held base slots (n ∷ ns) p = named-held base (named_one base slots n) ns p
    ∙ one-held slots (offset_of base n.sn) (with_name (slot_at slots (offset_of base n.sn)) n.part) p
    (name-held (slot_at slots (offset_of base n.sn)) n.part p)

consider-held : (o : Option Bool) (most : ℕ) (h : Sent) (p : ℕ) → held (considered_by o most h) p ≡ held h p
consider-held None most h p = refl
consider-held (Some new) most h p = refl

pub considered-held : (base most : ℕ) (slots : List Sent) (ns : List Nack) (p : ℕ)
    → unacked_in (considered_all base most slots ns) p ≡ unacked_in slots p
considered-held base most slots [] p = refl
considered-held base most slots (n ∷ ns) p = considered-held base most (considered_one base most slots n) ns p
    ∙ one-held slots (offset_of base n.sn) (considered most (slot_at slots (offset_of base n.sn))) p
    (consider-held (slot_at slots (offset_of base n.sn)).named most (slot_at slots (offset_of base n.sn)) p)

pub advanced-held : (slots : List Sent) (p : ℕ) → unacked_in (drop (leading_acked slots) slots) p ≡ unacked_in slots p
advanced-held [] p = refl
advanced-held (h ∷ hs) p = by h.acked refl (advanced-held hs p)
  where
    by : (b : Bool) → h.acked ≡ b → unacked_in (drop (leading_acked hs) hs) p ≡ unacked_in hs p
        → unacked_in (drop (if b then leading_acked hs + 1 else 0) (h ∷ hs)) p
        ≡ (if b then 0 else octets_at h.place h.lens p) + unacked_in hs p
    by true e ih = let c : drop (leading_acked hs + 1) (h ∷ hs) ≡ drop (leading_acked hs) hs =
        grind (arith, common_steps) in ap (λ (xs : List Sent). unacked_in xs p) c ∙ (ih ∙ omega arith)
    by false e ih = ap (λ (b : Bool). (if b then 0 else octets_at h.place h.lens p) + unacked_in hs p) e

pub append-held : (slots : List Sent) (h : Sent) (p : ℕ)
    → unacked_in (slots ++ h ∷ []) p ≡ unacked_in slots p + held h p
append-held [] h p = omega arith
append-held (x ∷ xs) h p = let ih = append-held xs h p in omega (arith, ih)

-- ---- a STATUS

pub credited-held : (l : Ledger) (at below : ℕ) (slots : List Sent) (p left : ℕ)
    → owed_at l p ≡ unacked_in slots p + left
    → owed_at (credited_from l at below slots) p ≡ unacked_in (acked_from at below slots) p + left
credited-held l at below [] p left e = e
credited-held l at below (h ∷ hs) p left e =
    step (nat_lt at below) (gets_acked h) refl (λ m r o. credited-held m (at + 1) below hs p r o) e
  where
    open-is : gets_acked h ≡ true → h.acked ≡ false
    open-is g = by h.acked (is_some h.named) g
      where
        by : (a n : Bool) → (not a && not n) ≡ true → a ≡ false
        by true n g = let no' : false ≡ true = g in cc
        by false n g = refl

    step : (b g : Bool) → gets_acked h ≡ g
        → ((m : Ledger) (r : ℕ) → owed_at m p ≡ unacked_in hs p + r
        → owed_at (credited_from m (at + 1) below hs) p ≡ unacked_in (acked_from (at + 1) below hs) p + r)
        → owed_at l p ≡ held h p + unacked_in hs p + left
        → owed_at (credited_from (if b then (if g then credited_all l h.place h.lens else l) else l) (at + 1) below
        hs) p
        ≡ held (if b then (if g then record h { acked = true; resting = of_all 0 (length h.field) ∷ [] } else h)
        else h) p + unacked_in (acked_from (at + 1) below hs) p + left
    step true true g ih e =
        let a = ap (λ (b : Bool). if b then 0 else octets_at h.place h.lens p) (open-is g) in
        let c =
        ih (credited_all l h.place h.lens) left
        (owed-all l h.place h.lens p (unacked_in hs p + left) (omega (arith, a, e))) in omega (arith, c)
    step true false g ih e = let c = ih l (held h p + left) (omega (arith, e)) in omega (arith, c)
    step false g' g ih e = let c = ih l (held h p + left) (omega (arith, e)) in omega (arith, c)

one-tells : (sizes given : List ℕ) (l : Ledger) (b : Bool) (h : Sent) → Tells sizes given l
    → Tells sizes given (if b then credited_one l h else l)
one-tells sizes given l false h t = t
one-tells sizes given l true h t = by (gets_acked h)
  where
    by : (g : Bool) → Tells sizes given (if g then credited_all l h.place h.lens else l)
    by true = tells-all sizes given l h.place h.lens t
    by false = t

pub from-tells : (sizes given : List ℕ) (l : Ledger) (at below : ℕ) (slots : List Sent) → Tells sizes given l
    → Tells sizes given (credited_from l at below slots)
from-tells sizes given l at below [] t = t
from-tells sizes given l at below (h ∷ hs) t =
    from-tells sizes given (if nat_lt at below then credited_one l h else l) (at + 1) below hs
    (one-tells sizes given l (nat_lt at below) h t)

one-grows : (lo : ℕ) (l : Ledger) (b : Bool) (h : Sent) → lo ≤ h.place
    → Grows lo (h.place + (length h.lens - 1)) l (if b then credited_one l h else l)
one-grows lo l false h le = grows-same lo (h.place + (length h.lens - 1)) l l (omega (arith, le)) refl
one-grows lo l true h le = by (gets_acked h)
  where
    by : (g : Bool) → Grows lo (h.place + (length h.lens - 1)) l (if g then credited_all l h.place h.lens else l)
    by true = all-grows lo (h.place + (length h.lens - 1)) l h.place h.lens (omega (arith, le)) le (omega arith)
    by false = grows-same lo (h.place + (length h.lens - 1)) l l (omega (arith, le)) refl

pub from-grows : (lo hi : ℕ) (l : Ledger) (at below : ℕ) (slots : List Sent) → Chained lo (keys slots) hi
    → Grows lo hi l (credited_from l at below slots)
from-grows lo hi l at below [] c = grows-same lo hi l l c refl
from-grows lo hi l at below (h ∷ hs) c =
    grows-on lo (h.place + (length h.lens - 1)) hi l (if nat_lt at below then credited_one l h else l)
    (credited_from l at below (h ∷ hs))
    (one-grows lo l (nat_lt at below) h c.0)
    (from-grows (h.place + (length h.lens - 1)) hi (if nat_lt at below then credited_one l h else l) (at + 1)
    below hs c.1)

one-offers : (l : Ledger) (b : Bool) (h : Sent) → offers (if b then credited_one l h else l) ≡ offers l
one-offers l false h = refl
one-offers l true h = by (gets_acked h)
  where
    by : (g : Bool) → offers (if g then credited_all l h.place h.lens else l) ≡ offers l
    by true = all-offers l h.place h.lens
    by false = refl

pub from-offers : (l : Ledger) (at below : ℕ) (slots : List Sent) → offers (credited_from l at below slots) ≡ offers l
from-offers l at below [] = refl
from-offers l at below (h ∷ hs) = from-offers (if nat_lt at below then credited_one l h else l) (at + 1) below hs
    ∙ one-offers l (nat_lt at below) h
