-- What the entries of a STATUS name of one number, as the sender reads them and as the account has them.
use Rattle.std.proofs.Common.{◌≡◌, ◌<◌, ◌≤◌, ℕ, zero, suc, ◌+◌, Bool, true, false, not, ◌||◌, ◌&&◌, ◌==◌}
use Rattle.std.proofs.Common.{if◌then◌else◌, List, [], ◌∷◌, length, Option, Some, None, refl, ap, ◌∙◌, arith}
use Rattle.std.proofs.Common.{nat_lt, nat_le}
use Rattle.std.proofs.lemmas.Bool.{le-ltb, and_right, or_from}
use Rattle.rlc_pdu.specs.declared.pdu.Nack.{Nack}
use Rattle.rlc_pdu.specs.declared.pdu.Part.{Part}
use Rattle.rlc_pdu.specs.Runs.{has}
use Rattle.rlc_am_tx_window.specs.Window.{TxWindow, offset_of, is_named}
use Rattle.journal_account.specs.declared.entry.StatusEntry.{StatusEntry}
use Rattle.journal_account.specs.Entries.{names_number, names_octet, start_of, stop_of}
use Rattle.journal_account.specs.Arrived.{all_below}
use Rattle.journal_account.specs.FlowSending.{SentNumber, names_new}
use Rattle.journal_account.proofs.Naming.{new_is, stop_low}
use Rattle.law_rlc.specs.AmSender.Namings.{in_part, names, any_below}
use Rattle.law_rlc.proofs.AmSender.Places.{any-same}
use Rattle.law_account.specs.Accounted.{IsAccounted}
use Rattle.law_account.specs.Heard.{AreTied}

pub number_named : (w : TxWindow) (ns : List Nack) (ms : List StatusEntry) (k : ℕ) → k < length w.slots
    → AreTied w ns ms → names_number ms (w.base + k) ≡ is_named w.base k ns
number_named w [] [] k lt t = refl
number_named w [] (m ∷ ms) k lt t = absurd t
number_named w (n ∷ ns) [] k lt t = absurd t
number_named w (n ∷ ns) (m ∷ ms) k lt t =
    ap (λ (b : Bool). b || names_number ms (w.base + k)) (t.0.number k lt)
    ∙ (ap (λ (b : Bool). (offset_of w.base n.sn == k) || b) (number_named w ns ms k lt t.1)
    ∙ as_test (offset_of w.base n.sn == k) (is_named w.base k ns))
  where
    as_test : (a b : Bool) → (a || b) ≡ (if a then true else b)
    as_test true b = refl
    as_test false b = refl

part_same : (p : Option Part) (size i : ℕ)
    → (nat_le (start_of p) i && nat_lt i (stop_of p size)) ≡ in_part p size i
part_same None size i = refl
part_same (Some p) size i = refl

pub octet_named : (w : TxWindow) (ns : List Nack) (ms : List StatusEntry) (k size i : ℕ) → k < length w.slots
    → AreTied w ns ms → names_octet ms size (w.base + k) i ≡ names w.base k ns size i
octet_named w [] [] k size i lt t = refl
octet_named w [] (m ∷ ms) k size i lt t = absurd t
octet_named w (n ∷ ns) [] k size i lt t = absurd t
octet_named w (n ∷ ns) (m ∷ ms) k size i lt t =
    ap (λ (b : Bool). (b && (nat_le (start_of m.part) i && nat_lt i (stop_of m.part size)))
    || names_octet ms size (w.base + k) i) (t.0.number k lt)
    ∙ (ap (λ (b : Bool). ((offset_of w.base n.sn == k) && b) || names_octet ms size (w.base + k) i)
    (part_same m.part size i ∙ ap (λ (p : Option Part). in_part p size i) t.0.part)
    ∙ (ap (λ (b : Bool). ((offset_of w.base n.sn == k) && in_part n.part size i) || b)
    (octet_named w ns ms k size i lt t.1)
    ∙ ap (λ (b : Bool). b || names w.base k ns size i)
    (as_test (offset_of w.base n.sn == k) (in_part n.part size i))))
  where
    as_test : (a b : Bool) → (a && b) ≡ (if a then b else false)
    as_test true b = refl
    as_test false b = refl

-- none is named beyond the field
pub octets_within : (ms : List StatusEntry) (size n i : ℕ) → size ≤ i → names_octet ms size n i ≡ false
octets_within [] size n i le = refl
octets_within (m ∷ ms) size n i le =
    or_from ((m.number == n) && (nat_le (start_of m.part) i && nat_lt i (stop_of m.part size)))
    (names_octet ms size n i)
    (and_right (m.number == n) (nat_le (start_of m.part) i && nat_lt i (stop_of m.part size))
    (and_right (nat_le (start_of m.part) i) (nat_lt i (stop_of m.part size))
    (le-ltb i (stop_of m.part size) (omega (arith, le, stop_low m.part size)))))
    (octets_within ms size n i le)

-- an octet is named that doesn't wait

some_not : (p q : ℕ → Bool) (size : ℕ)
    → not (all_below (λ i. not (p i) || q i) size) ≡ any_below size (λ i. p i && not (q i))
some_not p q zero = refl
some_not p q (suc k) = step (p k) (q k) (all_below (λ i. not (p i) || q i) k)
    ∙ ap (λ (b : Bool). (p k && not (q k)) || b) (some_not p q k)
  where
    step : (a b c : Bool) → not ((not a || b) && c) ≡ ((a && not b) || not c)
    step true true c = refl
    step true false c = refl
    step false b c = refl

pub new_named : (w : TxWindow) (ns : List Nack) (ms : List StatusEntry) (k most : ℕ) (h : _) (n : SentNumber)
    → k < length w.slots → AreTied w ns ms → IsAccounted most h n
    → names_new ms (w.base + k) n
    ≡ any_below n.size (λ i. names w.base k ns n.size i && not (has n.waiting i))
new_named w ns ms k most h n lt t a =
    new_is n (w.base + k) ms (has n.waiting) a.ascends (λ i. refl)
    ∙ (some_not (names_octet ms n.size (w.base + k)) (has n.waiting) n.size
    ∙ any-same n.size (λ i. names_octet ms n.size (w.base + k) i && not (has n.waiting i))
    (λ i. names w.base k ns n.size i && not (has n.waiting i))
    (λ i i_in. ap (λ (b : Bool). b && not (has n.waiting i)) (octet_named w ns ms k n.size i lt t)))
