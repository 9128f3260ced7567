-- What 10 bits of a number near VT(S) stand for at the sender.
use Rattle.std.proofs.Common.{◌≡◌, ◌<◌, ◌≤◌, ℕ, ◌+◌, ◌%◌, true, ◌==◌, List, [], ◌∷◌, length, map, refl, sym, subst}
use Rattle.std.proofs.Common.{arith, nat_lt, ap, ◌∙◌, Option}
use Rattle.std.proofs.lemmas.Bool.{eqb-true, eq-eqb}
use Rattle.std.proofs.lemmas.Bool.Decides.{nat_tests}
use Rattle.rlc_pdu.specs.declared.pdu.Nack.{Nack}
use Rattle.rlc_pdu.specs.declared.pdu.Part.{Part}
use Rattle.rlc_am_tx_window.specs.Window.{TxWindow, offset_of}
use Rattle.journal_account.specs.declared.entry.StatusEntry.{StatusEntry}
use Rattle.journal_account.specs.Entries.{names_number}
use Rattle.journal_account.proofs.Wholes.{iff}
use Rattle.law_rlc.proofs.AmReceiver.TrueStatus.{or_true}
use Rattle.law_account.specs.Heard.{AreTied}
use Rattle.law_account.specs.TrueStatus.{nack_with, IsNear, TrueStatusesAreHeard, TrueNumbersAreOne}

-- of the window just its own place
own_place : (base few n k : ℕ) → few ≤ 512 → n ≤ base + few → base + few < n + 1024 → k < few
    → (n == base + k) ≡ (offset_of base (n % 1024) == k)
own_place base few n k most known young lt =
    iff (n == base + k) (offset_of base (n % 1024) == k)
    (λ e. let is : n ≡ base + k = eqb-true n (base + k) e in
    eq-eqb (offset_of base (n % 1024)) k (omega (arith, is, lt, most)))
    (λ e. let is : offset_of base (n % 1024) ≡ k = eqb-true (offset_of base (n % 1024)) k e in
    eq-eqb n (base + k) (omega (arith, is, known, young, lt, most)))

-- an entry names its own number, and those behind it name theirs
pub own_named : (m : StatusEntry) (ms : List StatusEntry) → names_number (m ∷ ms) m.number ≡ true
own_named m ms = rw (eq-eqb m.number m.number refl) refl

pub later_named : (m : StatusEntry) (ms : List StatusEntry) (n : ℕ) → names_number ms n ≡ true
    → names_number (m ∷ ms) n ≡ true
later_named m ms n e = rw e (or_true (m.number == n))

tied : (w : TxWindow) (ms : List StatusEntry) → length w.slots ≤ 512
    → ((n : ℕ) → names_number ms n ≡ true → IsNear w n) → AreTied w (map nack_with ms) ms
tied w [] few near = tt
tied w (m ∷ ms) few near = (
  record {
    part = refl;
    number = λ k lt. own_place w.base (length w.slots) m.number k few own.known own.young lt;
  },
  tied w ms few (λ n e. near n (later_named m ms n e)),
)
  where
    own : IsNear w m.number
    own = near m.number (own_named m ms)

-- above VT(S), as the sender reads it, exactly where it lies below VT(A)
ignored_below : (base few ack : ℕ) → few ≤ 512 → ack ≤ base + few → base + few < ack + 1024
    → nat_lt few (offset_of base (ack % 1024)) ≡ nat_lt ack base
ignored_below base few ack most known young =
    iff (nat_lt few (offset_of base (ack % 1024))) (nat_lt ack base)
    (λ e. grind (arith, nat_tests)) (λ e. grind (arith, nat_tests))

pub true_status_heard : TrueStatusesAreHeard
true_status_heard s status ack entries h = record {
  ignored = rw h.ack_sn
      (ignored_below s.window.base (length s.window.slots) ack few h.ack_near.known h.ack_near.young);
  ack_is = λ le. rw h.ack_sn (omega (arith, le, few, h.ack_near.known));
  tied = λ le. subst (λ (ns : List Nack). AreTied s.window ns entries) (sym h.nack_sns)
      (tied s.window entries few h.near);
}
  where
    few : length s.window.slots ≤ 512
    few = omega (arith, h.window)

-- ---- no others have its 10 bits

one_number : (w : TxWindow) (n m : ℕ) → IsNear w n → IsNear w m → n % 1024 ≡ m % 1024 → n ≡ m
one_number w n m h k e = omega (arith, h.known, h.young, k.known, k.young, e)

one_entry : (w : TxWindow) (m o : StatusEntry) → IsNear w m.number → IsNear w o.number → nack_with m ≡ nack_with o
    → m ≡ o
one_entry w m o h k e =
    let number : m.number ≡ o.number = one_number w m.number o.number h k (ap (λ (n : Nack). n.sn) e) in
    let part = ap (λ (n : Nack). n.part) e in
    ap (λ (k : ℕ). record { number = k; part = m.part }) number
    ∙ ap (λ (p : Option Part). record { number = o.number; part = p }) part

one_list : (w : TxWindow) (ms os : List StatusEntry) → ((n : ℕ) → names_number ms n ≡ true → IsNear w n)
    → ((n : ℕ) → names_number os n ≡ true → IsNear w n) → map nack_with ms ≡ map nack_with os → ms ≡ os
one_list w [] [] h k e = refl
one_list w [] (o ∷ os) h k e = cc
one_list w (m ∷ ms) [] h k e = cc
one_list w (m ∷ ms) (o ∷ os) h k e =
    let first : nack_with m ≡ nack_with o = cc in
    let rest : map nack_with ms ≡ map nack_with os = cc in
    ap (λ (x : StatusEntry). x ∷ ms) (one_entry w m o (h m.number (own_named m ms)) (k o.number (own_named o os)) first)
    ∙ ap (λ (xs : List StatusEntry). o ∷ xs) (one_list w ms os (λ n e. h n (later_named m ms n e))
    (λ n e. k n (later_named o os n e)) rest)

pub one_reading : TrueNumbersAreOne
one_reading w status ack other entries others h k = (
  one_number w ack other h.ack_near k.ack_near (sym h.ack_sn ∙ k.ack_sn),
  one_list w entries others h.near k.near (sym h.nack_sns ∙ k.nack_sns),
)
