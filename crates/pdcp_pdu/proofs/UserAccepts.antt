-- A PDU of a data bearer that the grammar has is read.
use Rattle.std.proofs.Common.{◌≡◌, inl, inr, ℕ, ◌+◌, ◌*◌, ◌/◌, ◌%◌, ◌<◌, List, [], ◌∷◌, refl, arith, subst, Ok, sym}
use Rattle.std.proofs.Common.{◌∙◌, Result}
use Rattle.pdcp_pdu.specs.declared.pdu.PdcpRefusal.{PdcpRefusal}
use Rattle.pdcp_pdu.specs.Pdus.{UserPdu, Sdu, Report, IsUserBits}
use Rattle.pdcp_pdu.specs.Grammar.{data_reserved, report_reserved, IsUserPdu, user_spelling}
use Rattle.pdcp_pdu.specs.Reading.{user_at, sdu_at, short_user, middle_user, long_user, long_report}
use Rattle.pdcp_pdu.specs.Laws.{IsInRange, IsUserAgain}

short_accepts : (pdu : UserPdu) (octets : List ℕ) → IsUserPdu 7 pdu octets → short_user octets ≡ Ok pdu
unfolding short_user sdu_at
short_accepts (Sdu sn []) octets h = absurd (h.some refl)
short_accepts (Sdu sn (x ∷ xs)) octets h =
    let few : sn < 128 = h.number in
    let data-bit : (128 + sn) / 128 % 2 ≡ 1 = omega (arith, few) in
    let value : (128 + sn) % 128 ≡ sn = omega (arith, few) in
    rw (h.spelled, data-bit, value) refl
short_accepts (Report fms bitmap) octets h = absurd (h.long refl)

middle_accepts : (pdu : UserPdu) (octets : List ℕ) → IsUserPdu 12 pdu octets → middle_user octets ≡ Ok pdu
unfolding middle_user sdu_at
middle_accepts (Sdu sn []) octets h = absurd (h.some refl)
middle_accepts (Sdu sn (x ∷ xs)) octets h =
    let few : sn < 4096 = h.number in
    let free : h.reserved < 8 = h.few in
    let data-bit : (128 + h.reserved * 16 + sn / 256) / 128 % 2 ≡ 1 = omega (arith, few, free) in
    let value : (128 + h.reserved * 16 + sn / 256) % 16 * 256 + sn % 256 ≡ sn = omega (arith, few, free) in
    rw (h.spelled, data-bit, value) refl
middle_accepts (Report fms bitmap) octets h =
    let few : fms < 4096 = h.number in
    let data-bit : fms / 256 / 128 % 2 ≡ 0 = omega (arith, few) in
    let kind : fms / 256 / 16 % 8 ≡ 0 = omega (arith, few) in
    let value : fms / 256 % 16 * 256 + fms % 256 ≡ fms = omega (arith, few) in
    rw (h.spelled, data-bit, kind, value) refl

long_accepts : (pdu : UserPdu) (octets : List ℕ) → IsUserPdu 15 pdu octets → long_user octets ≡ Ok pdu
unfolding long_user long_report sdu_at
long_accepts (Sdu sn []) octets h = absurd (h.some refl)
long_accepts (Sdu sn (x ∷ xs)) octets h =
    let few : sn < 32768 = h.number in
    let data-bit : (128 + sn / 256) / 128 % 2 ≡ 1 = omega (arith, few) in
    let value : (128 + sn / 256) % 128 * 256 + sn % 256 ≡ sn = omega (arith, few) in
    rw (h.spelled, data-bit, value) refl
long_accepts (Report fms bitmap) octets h =
    let few : fms < 32768 = h.number in
    let free : h.reserved < 32 = h.few in
    let data-bit : h.reserved / 2 / 128 % 2 ≡ 0 = omega (arith, free) in
    let kind : h.reserved / 2 / 16 % 8 ≡ 0 = omega (arith, free) in
    let value : (h.reserved % 2 * 128 + fms / 256) % 128 * 256 + fms % 256 ≡ fms = omega (arith, few) in
    rw (h.spelled, data-bit, kind, value) refl

pub user_accepts : (bits : ℕ) (pdu : UserPdu) (octets : List ℕ) → IsUserBits bits → IsUserPdu bits pdu octets
    → user_at bits octets ≡ Ok pdu
user_accepts bits pdu octets (inl e) h = rw e (short_accepts pdu octets (subst (λ n. IsUserPdu n pdu octets) e h))
user_accepts bits pdu octets (inr (inl e)) h =
    rw e (middle_accepts pdu octets (subst (λ n. IsUserPdu n pdu octets) e h))
user_accepts bits pdu octets (inr (inr e)) h = rw e (long_accepts pdu octets (subst (λ n. IsUserPdu n pdu octets) e h))

spelled_one : (bits : ℕ) → IsUserBits bits → (0 < data_reserved bits) × (0 < report_reserved bits)
spelled_one bits (inl e) = rw e (omega arith, omega arith)
spelled_one bits (inr (inl e)) = rw e (omega arith, omega arith)
spelled_one bits (inr (inr e)) = rw e (omega arith, omega arith)

-- what is written is a PDU
spelling_accepted : (bits : ℕ) (pdu : UserPdu) → IsUserBits bits → IsInRange bits pdu
    → IsUserPdu bits pdu (user_spelling bits pdu)
spelling_accepted bits (Sdu sn data-part) width h =
    record { reserved = 0; few = (spelled_one bits width).0; number = h.0; some = h.1; spelled = refl }
spelling_accepted bits (Report fms bitmap) width h =
    record { reserved = 0; long = h.1; few = (spelled_one bits width).1; number = h.0; spelled = refl }

-- what is read is one PDU
same_read : (read : Result UserPdu PdcpRefusal) (pdu other : UserPdu) → read ≡ Ok pdu → read ≡ Ok other → other ≡ pdu
same_read read pdu other e f = let same : Ok other ≡ Ok pdu = sym f ∙ e in cc

-- what is written is read again
pub user_again : (bits : ℕ) (pdu : UserPdu) → IsUserBits bits → IsInRange bits pdu → IsUserAgain bits pdu
user_again bits pdu width h =
    let spelled = user_spelling bits pdu in
    let accepted : IsUserPdu bits pdu spelled = spelling_accepted bits pdu width h in
    let read : user_at bits spelled ≡ Ok pdu = user_accepts bits pdu spelled width accepted in
    record {
      accepted = accepted;
      only = λ other is. same_read (user_at bits spelled) pdu other read (user_accepts bits other spelled width is);
      read = read;
    }
