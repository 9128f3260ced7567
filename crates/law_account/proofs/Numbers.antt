-- A number of the window against the account's, and the numbers in their places.
use Rattle.std.proofs.Common.{◌≡◌, ◌<◌, ◌≤◌, inl, inr, ℕ, suc, ◌+◌, Bool, false, not, List, [], ◌∷◌}
use Rattle.std.proofs.Common.{if◌then◌else◌, length, refl, ap, sym, subst, ◌∙◌, arith, set, get_or-set_same}
use Rattle.std.proofs.Common.{get_or-set_other}
use Rattle.std.proofs.lemmas.Bool.{cases_eq}
use Rattle.std.proofs.Math.ListN.{length-set}
use Rattle.rlc_pdu.specs.Runs.{has, AreAscending}
use Rattle.rlc_am_tx_window.specs.Sent.{Sent}
use Rattle.rlc_am_tx_window.specs.Window.{TxWindow, nothing, slot_at, with_slot, leading_acked}
use Rattle.journal_account.specs.FlowSending.{SentNumber, FlowSending, never_named, number_at, acked_first}
use Rattle.law_rlc.proofs.AmSender.Heard.{IsSlot}
use Rattle.law_account.specs.Accounted.{IsAccounted, AreAccounted}

-- the account marks a slot
pub slot_of : (most : ℕ) (h : Sent) (n : SentNumber) → IsAccounted most h n
    → IsSlot h (has n.waiting) n.namings most
slot_of most h n a = record {
  ascends = λ some. a.runs (subst (λ (k : ℕ). 0 < k) a.size some);
  rests = λ i lt. a.rests i (subst (λ (k : ℕ). i < k) a.size lt);
  count = a.count;
  plain = a.plain;
  whole = a.whole;
}

-- and a slot that marks like the account is accounted
pub accounted_of : (most : ℕ) (h : Sent) (n : SentNumber) (f : ℕ → Bool) → IsSlot h f n.namings most
    → length h.field ≡ n.size → h.acked ≡ n.acked → AreAscending 0 n.waiting
    → ((i : ℕ) → i < n.size → f i ≡ has n.waiting i) → ((i : ℕ) → n.size ≤ i → has n.waiting i ≡ false)
    → IsAccounted most h n
accounted_of most h n f s size acked up same low = record {
  size = size;
  whole = s.whole;
  acked = acked;
  plain = s.plain;
  runs = λ some. s.ascends (subst (λ (k : ℕ). 0 < k) (sym size) some);
  ascends = up;
  rests = λ i lt. s.rests i (subst (λ (k : ℕ). i < k) (sym size) lt) ∙ ap not (same i lt);
  within = low;
  count = s.count;
}

-- one number is changed on both sides
pub set_accounted : (most : ℕ) (w : TxWindow) (f : FlowSending) (at : ℕ) (h : Sent) (n : SentNumber)
    → (at < length w.slots → IsAccounted most h n) → AreAccounted most w f
    → AreAccounted most (with_slot w at h) (record f { numbers = set f.numbers at n })
set_accounted most w f at h n one a = record {
  base = a.base;
  most_is = a.most_is;
  length_is = length-set w.slots at h ∙ a.length_is ∙ sym (length-set f.numbers at n);
  numbers = λ k lt. by k (omega (arith, length-set w.slots at h));
}
  where
    by : (k : ℕ) → k < length w.slots
        → IsAccounted most (slot_at (set w.slots at h) k) (number_at (set f.numbers at n) k)
    by k lt = elim (cases_eq k at) [
      | inl same ↦
          rw same
          (subst (λ (x : Sent). IsAccounted most x (number_at (set f.numbers at n) at))
          (sym (get_or-set_same w.slots at h nothing (omega (arith, lt, same))))
          (subst (λ (x : SentNumber). IsAccounted most h x)
          (sym (get_or-set_same f.numbers at n (never_named 0) (omega (arith, lt, same, a.length_is))))
          (one (omega (arith, lt, same)))))
      | inr other ↦
          subst (λ (x : Sent). IsAccounted most x (number_at (set f.numbers at n) k))
          (sym (get_or-set_other w.slots at k h nothing other))
          (subst (λ (x : SentNumber). IsAccounted most (slot_at w.slots k) x)
          (sym (get_or-set_other f.numbers at k n (never_named 0) other)) (a.numbers k lt))
    ]

-- as many stand first that are acknowledged
pub acked_same : (slots : List Sent) (ns : List SentNumber) → length slots ≡ length ns
    → ((k : ℕ) → k < length slots → (slot_at slots k).acked ≡ (number_at ns k).acked)
    → leading_acked slots ≡ acked_first ns
acked_same [] [] e same = refl
acked_same [] (n ∷ ns) e same = absurd (omega (arith, e))
acked_same (h ∷ hs) [] e same = absurd (omega (arith, e))
acked_same (h ∷ hs) (n ∷ ns) e same =
    ap (λ (b : Bool). if b then leading_acked hs + 1 else 0) (same 0 (omega arith))
    ∙ ap (λ (j : ℕ). if n.acked then j + 1 else 0)
    (acked_same hs ns (omega (arith, e)) (λ k lt. same (suc k) (omega (arith, lt))))
