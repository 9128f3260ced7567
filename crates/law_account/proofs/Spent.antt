-- The least number named whose RETX_COUNT has reached the limit, and the first with too many namings.
use Rattle.std.proofs.Common.{◌≡◌, ◌<◌, ◌≤◌, ◌⊎◌, inl, inr, ℕ, zero, suc, ◌+◌, Bool, true, false, ◌==◌}
use Rattle.std.proofs.Common.{if◌then◌else◌, List, [], ◌∷◌, length, Option, Some, None, min, refl, ap, sym, subst}
use Rattle.std.proofs.Common.{◌∙◌, arith, nat_le, nat_lt}
use Rattle.std.specs.Prelude.{IfSome}
use Rattle.std.proofs.lemmas.Bool.{cases_lt, lt-ltb, le-ltb}
use Rattle.std.proofs.lemmas.Bool.Decides.{nat_tests}
use Rattle.rlc_pdu.specs.declared.pdu.Nack.{Nack}
use Rattle.rlc_am_tx_window.specs.Sent.{Sent, is_spent}
use Rattle.rlc_am_tx_window.specs.Window.{slot_at, offset_of, is_named, least, or_spent, spent_among}
use Rattle.journal_account.specs.FlowSending.{SentNumber, number_at, first_over}
use Rattle.law_rlc.specs.AmSender.Namings.{count_of}

-- RETX_COUNT has reached the limit with one counted naming more
pub spent_is : (n most : ℕ) → is_spent (count_of n most) most ≡ nat_lt most n
spent_is zero most = let e : nat_lt most 0 ≡ false = grind (arith, nat_tests) in sym e
spent_is (suc k) most = ap (λ (c : Option ℕ). is_spent c most) some ∙ same
  where
    some : count_of (suc k) most ≡ Some (min k most)
    some = let e : (suc k == 0) ≡ false = grind (arith, nat_tests) in rw e (ap (λ (x : ℕ). Some x) (omega arith))

    same : nat_le most (min k most) ≡ nat_lt most (suc k)
    same = grind (arith, nat_tests)

-- ---- the sender's

abbrev pub Spent : List Sent → ℕ → ℕ → Type 0
Spent slots most k = is_spent (slot_at slots k).retransmissions most ≡ true

-- the least of those that entries have and of one found before
pub record IsFirst (base most : ℕ) (slots : List Sent) (found : Option ℕ) (ns : List Nack) (a : ℕ) : Type 0 where
  pub here : (found ≡ Some a) ⊎ Spent slots most a
  pub low : (k : ℕ) → is_named base k ns ≡ true → Spent slots most k → a ≤ k
  pub first : IfSome found (λ f. a ≤ f)

pub record IsNone (base most : ℕ) (slots : List Sent) (found : Option ℕ) (ns : List Nack) : Type 0 where
  pub here : found ≡ None
  pub none : (k : ℕ) → is_named base k ns ≡ true → Spent slots most k → ⊥

abbrev pub Answers : ℕ → ℕ → List Sent → Option ℕ → List Nack → Option ℕ → Type 0
Answers base most slots found ns None = IsNone base most slots found ns
Answers base most slots found ns (Some a) = IsFirst base most slots found ns a

pub among : (base most : ℕ) (slots : List Sent) (found : Option ℕ) (ns : List Nack)
    → Answers base most slots found ns (spent_among base most slots found ns)
among base most slots None [] = record { here = refl; none = λ k e s. let no' : false ≡ true = e in cc }
among base most slots (Some a) [] =
    record { here = inl refl; low = λ k e s. let no' : false ≡ true = e in cc; first = omega arith }
among base most slots found (n ∷ ns) =
    step (is_spent (slot_at slots (offset_of base n.sn)).retransmissions most) refl
    (spent_among base most slots (or_spent base most slots found n) ns)
    (among base most slots (or_spent base most slots found n) ns)
  where
    -- an entry's number or a later one's
    either : (k : ℕ) (b : Bool) → (offset_of base n.sn == k) ≡ b → (if b then true else is_named base k ns) ≡ true
        → (offset_of base n.sn ≡ k) ⊎ (is_named base k ns ≡ true)
    either k true e h = inl (grind (arith, nat_tests))
    either k false e h = inr h

    step : (b : Bool) → is_spent (slot_at slots (offset_of base n.sn)).retransmissions most ≡ b → (o : Option ℕ)
        → Answers base most slots (if b then least found (offset_of base n.sn) else found) ns o
        → Answers base most slots found (n ∷ ns) o
    step false e None h = record {
      here = h.here;
      none = λ k m s. elim (either k (offset_of base n.sn == k) refl m) [
        | inl same ↦ let t : is_spent (slot_at slots (offset_of base n.sn)).retransmissions most ≡ true =
            subst (λ (j : ℕ). Spent slots most j) (sym same) s in let no' : false ≡ true = sym e ∙ t in cc
        | inr later ↦ h.none k later s
      ];
    }
    step false e (Some a) h = record {
      here = h.here;
      low = λ k m s. elim (either k (offset_of base n.sn == k) refl m) [
        | inl same ↦ let t : is_spent (slot_at slots (offset_of base n.sn)).retransmissions most ≡ true =
            subst (λ (j : ℕ). Spent slots most j) (sym same) s in let no' : false ≡ true = sym e ∙ t in cc
        | inr later ↦ h.low k later s
      ];
      first = h.first;
    }
    step true e None h = absurd (never found h.here)
      where
        never : (o : Option ℕ) → least o (offset_of base n.sn) ≡ None → ⊥
        never None x = let no' : Some (offset_of base n.sn) ≡ None = x in cc
        never (Some f) x = let no' : Some (min f (offset_of base n.sn)) ≡ None = x in cc
    step true e (Some a) h = record {
      here = elim h.here [ inl old ↦ from found old | inr s ↦ inr s ];
      low = λ k m s. elim (either k (offset_of base n.sn == k) refl m) [
        | inl same ↦ let b = bound found h.first in let b0 = b.0 in omega (arith, b0, same)
        | inr later ↦ h.low k later s
      ];
      first = (bound found h.first).1;
    }
      where
        from : (o : Option ℕ) → least o (offset_of base n.sn) ≡ Some a → (o ≡ Some a) ⊎ Spent slots most a
        from None x = let same : offset_of base n.sn ≡ a = cc in inr (subst (λ (j : ℕ). Spent slots most j) same e)
        from (Some f) x = elim (cases_lt f (offset_of base n.sn)) [
          | inl less ↦ let m : min f (offset_of base n.sn) ≡ f = omega arith in
              let same : min f (offset_of base n.sn) ≡ a = cc in inl (ap (λ (j : ℕ). Some j) (sym m ∙ same))
          | inr more ↦ let m : min f (offset_of base n.sn) ≡ offset_of base n.sn = omega arith in
              let same : min f (offset_of base n.sn) ≡ a = cc in
              inr (subst (λ (j : ℕ). Spent slots most j) (sym m ∙ same) e)
        ]

        bound : (o : Option ℕ) → IfSome (least o (offset_of base n.sn)) (λ f. a ≤ f)
            → (a ≤ offset_of base n.sn) × IfSome o (λ f. a ≤ f)
        bound None x = (x, tt)
        bound (Some f) x = (omega (arith, x), omega (arith, x))

-- ---- the account's

pub over_none : (most base : ℕ) (hs : List SentNumber)
    → ((k : ℕ) → k < length hs → (number_at hs k).namings ≤ most) → first_over most base hs ≡ None
over_none most base [] few = refl
over_none most base (h ∷ hs) few =
    ap (λ (b : Bool). if b then Some base else first_over most (base + 1) hs)
    (le-ltb most h.namings (few 0 (omega arith)))
    ∙ over_none most (base + 1) hs (λ k lt. few (suc k) (omega (arith, lt)))

pub over_some : (most base : ℕ) (hs : List SentNumber) (a : ℕ) → a < length hs → most < (number_at hs a).namings
    → ((k : ℕ) → k < a → (number_at hs k).namings ≤ most) → first_over most base hs ≡ Some (base + a)
over_some most base [] a lt over few = absurd (omega (arith, lt))
over_some most base (h ∷ hs) zero lt over few =
    ap (λ (b : Bool). if b then Some base else first_over most (base + 1) hs) (lt-ltb most h.namings over)
    ∙ ap (λ (j : ℕ). Some j) (omega arith)
over_some most base (h ∷ hs) (suc a) lt over few =
    ap (λ (b : Bool). if b then Some base else first_over most (base + 1) hs)
    (le-ltb most h.namings (few 0 (omega arith)))
    ∙ (over_some most (base + 1) hs a (omega (arith, lt)) over (λ k l. few (suc k) (omega (arith, l)))
    ∙ ap (λ (j : ℕ). Some j) (omega arith))
