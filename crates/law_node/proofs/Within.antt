-- What senders and receivers of RLC write is within its size.
use Rattle.std.proofs.Common.{◌≡◌, ◌≤◌, ◌<◌, ℕ, ◌+◌, ◌-◌, ◌==◌, nat_lt, Bool, true, false, if◌then◌else◌, Option, List}
use Rattle.std.proofs.Common.{[], ◌∷◌, length, map, refl, arith}
use Rattle.std.specs.List.{concat}
use Rattle.std.proofs.lemmas.Bool.Decides.{nat_tests}
use Rattle.std.proofs.lemmas.Grind.{common_steps}
use Rattle.std.proofs.lemmas.List.{length-map}
use Rattle.rlc_pdu.specs.declared.outcome.Taken.TheVariants.{Piece, Small}
use Rattle.rlc_pdu.specs.Writing.{header_len}
use Rattle.rlc_queue.proofs.Fits.{fitting}
use Rattle.rlc_queue.specs.NewPdu.{room, elements, IsWithin}
use Rattle.rlc_queue.specs.Waiting.{HaveOctets}
use Rattle.rlc_um.specs.Sender.{Sender as UmSender, Turn as UmTurn, Gives, IsIdle, IsHeld, IsSmall, turn as um_turn}
use Rattle.rlc_um.specs.Sender.{head_of, pdu_of, answer as um_answer_of, taken as um_taken}
use Rattle.rlc_um.specs.Transparent.{first_of}
use Rattle.law_node.proofs.Sizes.{umd_size}

-- ---- a transparent sender

by_test : (next size : ℕ) (sdu : List ℕ) (b : Bool) → nat_lt size (length sdu) ≡ b → 0 < length sdu
    → IsWithin size (if nat_lt size (length sdu) then Small else Piece next true false sdu)
by_test next size sdu true e some = rw e tt
by_test next size sdu false e some = rw e (omega (arith, some), grind (arith, nat_tests))

pub tm_within : (next size : ℕ) (sdus : List (List ℕ)) → HaveOctets sdus → IsWithin size (first_of next size sdus)
tm_within next size [] h = tt
tm_within next size (sdu ∷ more) h = by_test next size sdu (nat_lt size (length sdu)) refl h.0

-- ---- a new PDU has an element, where an octet of it fits

some_elements : (head size : ℕ) (sdus : List (List ℕ)) → 0 < length sdus → head + 1 ≤ size
    → 0 < length (elements head size 0 0 sdus)
some_elements head size [] some fit = absurd (omega (arith, some))
some_elements head size (x ∷ xs) some fit =
    let is : room head size 0 0 ≡ size - head = omega arith in
    let no : (room head size 0 0 == 0) ≡ false = grind (arith, nat_tests, fit) in
    rw no (omega arith)

pub new_size : (head size : ℕ) (sdus : List (List ℕ)) → 0 < length sdus → head + 1 ≤ size
    → header_len head (length (map length (elements head size 0 0 sdus)))
    + length (concat (elements head size 0 0 sdus)) ≤ size
new_size head size sdus some fit =
    let count = length-map (elements head size 0 0 sdus) length in
    rw count ((fitting head size sdus).within (some_elements head size sdus some fit))

-- ---- an unacknowledged sender

pub record IsAbleUm (s : UmSender) (size : ℕ) : Type 0 where
  pub some : 0 < length s.waiting.sdus
  pub fits : head_of s.bits + 1 ≤ size

pub able : (s : UmSender) (size : ℕ) (held : Option ℕ) → um_turn s size held ≡ Gives → IsAbleUm s size
able s size held e = record {
  some = grind (arith, common_steps, nat_tests);
  fits = grind (arith, common_steps, nat_tests);
}

some_head : (bits : ℕ) (b : Bool) → (bits == 5) ≡ b → 1 ≤ head_of bits
some_head bits true e = rw e (omega arith)
some_head bits false e = rw e (omega arith)

um_by : (t : UmTurn) (s : UmSender) (size : ℕ) → (t ≡ Gives → IsAbleUm s size) → IsWithin size (um_answer_of t s size)
um_by Gives s size h =
    let a = h refl in
    let p = pdu_of s size in
    let is = umd_size s.bits p.sn p.fi (map length p.elements) (concat p.elements) in
    let fits = new_size (head_of s.bits) size s.waiting.sdus a.some a.fits in
    let head = some_head s.bits (s.bits == 5) refl in
    (omega (arith, is, head), omega (arith, is, fits))
um_by IsIdle s size h = tt
um_by IsHeld s size h = tt
um_by IsSmall s size h = tt

pub um_within : (s : UmSender) (size : ℕ) (held : Option ℕ) → IsWithin size (um_taken s size held)
unfolding um_taken
um_within s size held = um_by (um_turn s size held) s size (able s size held)
