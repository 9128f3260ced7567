-- The PDU of an SDU is read as no status report.
use Rattle.std.proofs.Common.{◌≡◌, ℕ, ◌+◌, ◌*◌, ◌/◌, ◌%◌, List, [], ◌∷◌, inl, inr, sym, arith, subst}
use Rattle.std.proofs.lemmas.Bool.{eq-eqb}
use Rattle.pdcp_pdu.specs.Kinds.{IsKind}
use Rattle.pdcp_pdu.specs.Reading.{sdu_at, middle_user, long_user}
use Rattle.pdcp_pdu.specs.declared.PdcpKind.TheVariants.{Am}
use Rattle.pdcp_rx.specs.Heard.{heard, heard_user}
use Rattle.pdcp_sec.specs.Protection.{Protection, ciphered_with}
use Rattle.pdcp_tx.specs.Pdus.{pdu}
use Rattle.law_given.specs.Supplied.{IsNoReport}

part-read : (at sn : ℕ) (part : List ℕ) → IsNoReport (heard_user (sdu_at at sn part))
unfolding sdu_at
part-read at sn [] = tt
part-read at sn (o ∷ os) = tt

middle-read : (a b : ℕ) (part : List ℕ) → a / 128 % 2 ≡ 1 → IsNoReport (heard_user (middle_user (a ∷ b ∷ part)))
unfolding middle_user
middle-read a b part e = rw (eq-eqb (a / 128 % 2) 1 e) (part-read 2 (a % 16 * 256 + b) part)

long-read : (a b : ℕ) (part : List ℕ) → a / 128 % 2 ≡ 1 → IsNoReport (heard_user (long_user (a ∷ b ∷ part)))
unfolding long_user
long-read a b part e = rw (eq-eqb (a / 128 % 2) 1 e) (part-read 2 (a % 128 * 256 + b) part)

pub no_report : (bits : ℕ) (p : Protection) (count : ℕ) (sdu : List ℕ) → IsKind (Am bits)
    → IsNoReport (heard (Am bits) (pdu (Am bits) p count sdu))
unfolding heard pdu
no_report bits p count sdu (inl e) =
    subst (λ (n : ℕ). IsNoReport (heard (Am n) (pdu (Am n) p count sdu))) (sym e)
    (middle-read (128 + 0 * 16 + count % 4096 / 256) (count % 4096 % 256) (ciphered_with p count sdu) (omega arith))
no_report bits p count sdu (inr e) =
    subst (λ (n : ℕ). IsNoReport (heard (Am n) (pdu (Am n) p count sdu))) (sym e)
    (long-read (128 + count % 32768 / 256) (count % 32768 % 256) (ciphered_with p count sdu) (omega arith))
