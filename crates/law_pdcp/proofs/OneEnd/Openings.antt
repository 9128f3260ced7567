-- A receiver opens what a sender wrote.
use Rattle.std.proofs.Common.{◌≡◌, ◌≢◌, ◌<◌, ℕ, ◌%◌, ◌^◌, List, [], ◌∷◌, length, inl, inr, refl, ap, arith}
use Rattle.pdcp_pdu.specs.declared.PdcpKind.TheVariants.{Am}
use Rattle.pdcp_pdu.specs.Kinds.{IsKind}
use Rattle.pdcp_pdu.specs.Pdus.{Sdu as Data-pdu, IsUserBits}
use Rattle.pdcp_pdu.specs.Grammar.{user_spelling}
use Rattle.pdcp_pdu.specs.Reading.{user_at}
use Rattle.pdcp_pdu.proofs.UserAccepts.{user_again}
use Rattle.pdcp_sec.specs.Protection.{Protection, ciphered_with}
use Rattle.pdcp_sec.proofs.Lengths.{ciphered_twice, length_ciphered_with}
use Rattle.pdcp_tx.specs.Pdus.{pdu}
use Rattle.pdcp_rx.specs.declared.security.Opened.TheVariants.{Sdu}
use Rattle.pdcp_rx.specs.Heard.{Data, heard, heard_user}
use Rattle.pdcp_rx.specs.Opening.{opened}
use Rattle.law_pdcp.specs.OneEnd.Receiving.{body_of, as_written}

-- a ciphered text has octets where the plain one has
some_ciphered : (p : Protection) (count : ℕ) (sdu : List ℕ) → sdu ≢ [] → ciphered_with p count sdu ≢ []
some_ciphered p count [] h = absurd (h refl)
some_ciphered p count (x ∷ xs) h = λ e. absurd (omega (arith, length_ciphered_with p count (x ∷ xs), ap length e))

below : (bits count : ℕ) → IsUserBits bits → count % 2 ^ bits < 2 ^ bits
below bits count (inl e) = rw e (omega arith)
below bits count (inr (inl e)) = rw e (omega arith)
below bits count (inr (inr e)) = rw e (omega arith)

user_heard : (bits : ℕ) (p : Protection) (count : ℕ) (sdu : List ℕ) → IsUserBits bits → sdu ≢ []
    → heard_user (user_at bits (user_spelling bits (Data-pdu (count % 2 ^ bits) (ciphered_with p count sdu))))
    ≡ Data (count % 2 ^ bits) (ciphered_with p count sdu)
user_heard bits p count sdu is some =
    ap heard_user (user_again bits (Data-pdu (count % 2 ^ bits) (ciphered_with p count sdu)) is (
      below bits count is,
      some_ciphered p count sdu some,
    )).read

pub heard_as_written : (bits : ℕ) (p : Protection) (count : ℕ) (sdu : List ℕ) → IsKind (Am bits) → sdu ≢ []
    → heard (Am bits) (pdu (Am bits) p count sdu) ≡ as_written (Am bits) p count sdu
unfolding heard pdu
heard_as_written bits p count sdu is some = user_heard bits p count sdu (inr is) some

pub opened_again : (bits : ℕ) (p : Protection) (count : ℕ) (sdu : List ℕ)
    → opened (Am bits) p count (body_of (Am bits) p count sdu) ≡ Sdu sdu
unfolding opened
opened_again bits p count sdu = ap Sdu (ciphered_twice p count sdu)
