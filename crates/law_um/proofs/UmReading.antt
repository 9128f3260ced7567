-- What PDCP's receiver of unacknowledged data makes of SDUs of RLC is what a checker reads of them.
use Rattle.std.proofs.Common.{◌≡◌, ◌<◌, ℕ, suc, zero, ◌+◌, ◌-◌, ◌%◌, ◌^◌, Bool, true, false, if◌then◌else◌, nat_lt}
use Rattle.std.proofs.Common.{List, [], ◌∷◌, ◌++◌, take, drop, replicate, Option, Some, None, slice_set, Result}
use Rattle.std.proofs.Common.{Ok, Err}
use Rattle.std.proofs.Common.{append_assoc, refl, ap, sym, subst, ◌∙◌, arith}
use Rattle.std.proofs.lemmas.Bool.Decides.{nat_tests}
use Rattle.std.proofs.lemmas.Nat.{mod_below, pow_pos}
use Rattle.l2_num.specs.Numbers.{ahead}
use Rattle.pdcp_pdu.specs.declared.pdu.PdcpKind.TheVariants.{Um as UmKind}
use Rattle.pdcp_pdu.specs.declared.pdu.PdcpRefusal.{PdcpRefusal}
use Rattle.pdcp_pdu.specs.Pdus.{UserPdu, Sdu, Report}
use Rattle.pdcp_pdu.specs.Reading.{user_at}
use Rattle.pdcp_rx.specs.declared.got.Cause.{Cause}
use Rattle.pdcp_rx.specs.declared.got.Cause.TheVariants.{Arrived, Reestablished}
use Rattle.pdcp_rx.specs.declared.got.Got.{Got}
use Rattle.pdcp_rx.specs.declared.got.Got.TheVariants as answers
use Rattle.pdcp_rx.specs.Heard.{heard, heard_user}
use Rattle.pdcp_rx.specs.Held.{stored, present, leading_held, rising}
use Rattle.pdcp_rx.specs.Opening.{opened}
use Rattle.pdcp_rx.specs.State.{State as Receiving, passed_over, raised, left_opened, left_data, left_heard, arrived}
use Rattle.pdcp_sec.specs.Protection.{ciphered_with}
use Rattle.journal_edge.specs.UmReading.{ReadSdu, Reader, count_from, deciphered_at, read_pdu, octets_of}
use Rattle.journal_edge.specs.UmReading.{read_by, behind}
use Rattle.law_deliver.specs.UmFlow.Handing.{hears, raises}
use Rattle.law_um.specs.UmReading.{sdus_read, behind_all}

-- ---- an SDU, and nothing below it

abbrev alone : ℕ → List ℕ → List (Option (List ℕ))
alone k sdu = replicate k None ++ Some sdu ∷ []

set_last : (k : ℕ) (sdu : List ℕ) → slice_set (replicate (suc k) None) k (Some sdu) ≡ alone k sdu
set_last zero sdu = refl
set_last (suc k) sdu = ap (λ l. None ∷ l) (set_last k sdu)

stored_alone : (k : ℕ) (sdu : List ℕ) → stored [] k sdu ≡ alone k sdu
stored_alone k sdu = let size : k + 1 - 0 ≡ suc k = omega arith in
    ap (λ n. slice_set (replicate n None) k (Some sdu)) size ∙ set_last k sdu

present_alone : (k : ℕ) (sdu : List ℕ) → present (take (suc k) (alone k sdu)) ≡ sdu ∷ []
present_alone zero sdu = refl
present_alone (suc k) sdu = present_alone k sdu

none_above : (k : ℕ) (sdu : List ℕ) → drop (suc k) (alone k sdu) ≡ []
none_above zero sdu = refl
none_above (suc k) sdu = none_above k sdu

rising_alone : (k : ℕ) (sdu : List ℕ) → rising (alone k sdu) (suc k) ≡ suc k
rising_alone k sdu = ap (λ l. suc k + leading_held l) (none_above k sdu) ∙ omega arith

-- ---- a receiver between SDUs

abbrev pub receiving : Reader → Receiving
receiving r =
    record { kind = UmKind r.bits; protection = r.protection; next = r.next; held = []; ready = [] }

-- as SDUs are ready
abbrev ready_with : Reader → ℕ → List (Option (List ℕ)) → List (List ℕ) → Receiving
ready_with r next held sdus = record (receiving r) { next = next; held = held; ready = sdus }

raised_alone : (r : Reader) (k : ℕ) (sdu : List ℕ)
    → raised (receiving r) (stored [] k sdu) (k + 1) ≡ ready_with r (r.next + k + 1) [] (sdu ∷ [])
raised_alone r k sdu =
    let one : k + 1 ≡ suc k = omega arith in
    let next : r.next + suc k ≡ r.next + k + 1 = omega arith in
    ap (λ l. raised (receiving r) l (k + 1)) (stored_alone k sdu) ∙ ap (raised (receiving r) (alone k sdu)) one
    ∙ ap (λ n. ready_with r (r.next + n) (drop n (alone k sdu)) (present (take n (alone k sdu)))) (rising_alone k sdu)
    ∙ ap (λ l. ready_with r (r.next + suc k) l (present (take (suc k) (alone k sdu)))) (none_above k sdu)
    ∙ ap (ready_with r (r.next + suc k) []) (present_alone k sdu) ∙ ap (λ n. ready_with r n [] (sdu ∷ [])) next

-- ---- it hears one

record Reads (r : Reader) (one : Option ReadSdu) (left : Receiving) : Type 0 where
  up : left.ready ≡ octets_of one
  left_is : record left { ready = [] } ≡ receiving (behind one r)

raises_one : (r : Reader) (k : ℕ) (sdu : List ℕ) (left : Receiving)
    → left ≡ ready_with r (r.next + k + 1) [] (sdu ∷ [])
    → Reads r (Some (record { count = r.next + k; octets = sdu })) left
raises_one r k sdu left e = record {
  up = ap (λ (x : Receiving). x.ready) e;
  left_is = ap (λ (x : Receiving). record x { ready = [] }) e;
}

opens_one : (r : Reader) (cause : Cause) (k : ℕ) (text : List ℕ)
    → Reads r (Some (record { count = r.next + k; octets = ciphered_with r.protection (r.next + k) text }))
    (left_opened (receiving r) cause k (opened (UmKind r.bits) r.protection (r.next + k) text))
unfolding opened
opens_one r Arrived k text =
    let sdu = ciphered_with r.protection (r.next + k) text in
    raises_one r k sdu (raised (receiving r) (stored [] k sdu) (k + 1)) (raised_alone r k sdu)
opens_one r Reestablished k text =
    let sdu = ciphered_with r.protection (r.next + k) text in
    raises_one r k sdu (raised (receiving r) (stored [] k sdu) (k + 1)) (raised_alone r k sdu)

-- COUNTs end at 32 bits

in_window : (r : Reader) (k : ℕ) (b : Bool) → k < 2 ^ r.bits → nat_lt (r.next + k) (2 ^ 32) ≡ b
    → passed_over (receiving r) k ≡ (if b then None else Some answers.OutOfRange)
in_window r k true near e = grind (arith, nat_tests)
in_window r k false near e = grind (arith, nat_tests)

data_by : (r : Reader) (cause : Cause) (k : ℕ) (text : List ℕ) (b : Bool)
    → Reads r (if b
    then Some (record { count = r.next + k; octets = ciphered_with r.protection (r.next + k) text }) else None)
    (left_data (if b then None else Some answers.OutOfRange) (receiving r) cause k
    (opened (UmKind r.bits) r.protection (r.next + k) text))
data_by r cause k text true = opens_one r cause k text
data_by r cause k text false = record { up = refl; left_is = refl }

reads_pdu : (r : Reader) (cause : Cause) (u : Result UserPdu PdcpRefusal)
    → Reads r (read_pdu r.bits r.protection r.next u) (left_heard (receiving r) cause (heard_user u))
reads_pdu r cause (Err refusal) = record { up = refl; left_is = refl }
reads_pdu r cause (Ok (Report fms bitmap)) = record { up = refl; left_is = refl }
reads_pdu r cause (Ok (Sdu sn text)) =
    let size = 2 ^ r.bits in
    let k = ahead sn (r.next % size) size in
    let near : k < size = mod_below (sn + size - r.next % size) size (pow_pos r.bits) in
    let within : Bool = nat_lt (r.next + k) (2 ^ 32) in
    let one = deciphered_at r.protection (count_from r.bits r.next sn) text in
    subst (λ (w : Option Got). Reads r one
    (left_data w (receiving r) cause k (opened (UmKind r.bits) r.protection (r.next + k) text)))
    (sym (in_window r k within near refl)) (data_by r cause k text within)

reads_one : (r : Reader) (cause : Cause) (sdu : List ℕ) → Reads r (read_by r sdu) (arrived (receiving r) sdu cause)
unfolding arrived heard
reads_one r cause sdu = reads_pdu r cause (user_at r.bits sdu)

-- ---- it hears several, one behind the other

pub record ReadsAll (r : Reader) (cause : Cause) (sdus : List (List ℕ)) : Type 0 where
  pub ups : raises cause sdus (receiving r) ≡ sdus_read r sdus
  pub left_is : hears cause sdus (receiving r) ≡ receiving (behind_all sdus r)

pub reads_all : (r : Reader) (cause : Cause) (sdus : List (List ℕ)) → ReadsAll r cause sdus
reads_all r cause [] = record { ups = refl; left_is = refl }
reads_all r cause (sdu ∷ sdus) =
    let one = reads_one r cause sdu in
    let rest = reads_all (behind (read_by r sdu) r) cause sdus in
    record {
      ups = ap (λ (x : Receiving). (arrived (receiving r) sdu cause).ready ++ raises cause sdus x) one.left_is
          ∙ ap (λ (up : List (List ℕ)). up ++ raises cause sdus (receiving (behind (read_by r sdu) r))) one.up
          ∙ ap (λ (up : List (List ℕ)). octets_of (read_by r sdu) ++ up) rest.ups;
      left_is = ap (hears cause sdus) one.left_is ∙ rest.left_is;
    }

-- ---- reading goes on

pub read_then : (r : Reader) (xs ys : List (List ℕ))
    → sdus_read r (xs ++ ys) ≡ sdus_read r xs ++ sdus_read (behind_all xs r) ys
read_then r [] ys = refl
read_then r (x ∷ xs) ys =
    let next = behind (read_by r x) r in
    ap (λ (up : List (List ℕ)). octets_of (read_by r x) ++ up) (read_then next xs ys)
    ∙ sym (append_assoc (octets_of (read_by r x)) (sdus_read next xs) (sdus_read (behind_all xs next) ys))

pub behind_then : (r : Reader) (xs ys : List (List ℕ)) → behind_all (xs ++ ys) r ≡ behind_all ys (behind_all xs r)
behind_then r [] ys = refl
behind_then r (x ∷ xs) ys = behind_then (behind (read_by r x) r) xs ys

-- only the next COUNT changes
pub only_next : (r : Reader) (sdus : List (List ℕ))
    → behind_all sdus r ≡ record r { next = (behind_all sdus r).next }
only_next r [] = refl
only_next r (sdu ∷ sdus) = only_next (behind (read_by r sdu) r) sdus
