-- What the readers' answers tell.
use Rattle.std.proofs.Common.{◌≡◌, ◌∙◌, ℕ, List, sym, subst, Option, None, Some, Result, Ok, Err}
use Rattle.std.specs.Prelude.{IfOk, IsOkAnd, MatchResult}
use Rattle.pdcp_pdu.specs.declared.pdu.PdcpRefusal.{PdcpRefusal}
use Rattle.pdcp_pdu.specs.declared.pdu.User.{User}
use Rattle.pdcp_pdu.specs.declared.pdu.Srb.{Srb}
use Rattle.pdcp_pdu.specs.Pdus.{UserPdu, SrbPdu, user_of, srb_of, IsUserBits}
use Rattle.pdcp_pdu.specs.Grammar.{IsUserPdu, IsSrbPdu}
use Rattle.pdcp_pdu.specs.Refusals.{user_refusal, srb_refusal}
use Rattle.pdcp_pdu.specs.Reading.{user_at, srb_at}
use Rattle.pdcp_pdu.proofs.UserAccepts.{user_accepts}
use Rattle.pdcp_pdu.proofs.UserFound.{AreOctets, user_found}
use Rattle.pdcp_pdu.proofs.UserRefusals.{user_agrees}
use Rattle.pdcp_pdu.proofs.SrbLaws.{srb_accepts, srb_found, srb_agrees}

-- an answer is what was read, seen by some view
abbrev pub Tells : {A B : Type 0} → (A → B) → Result A PdcpRefusal → Result B PdcpRefusal → Type 0
Tells view answer read = MatchResult answer (λ x. read ≡ Ok (view x)) (λ e. read ≡ Err e)

-- of an answer that tells what was read, a fact of that holds
found_in : {A B : Type 0} (view : A → B) (P : B → Type 0) (answer : Result A PdcpRefusal)
    (read : Result B PdcpRefusal) → Tells view answer read → IfOk read P → IfOk answer (λ x. P (view x))
found_in view P (Ok x) read e h = subst (λ r. IfOk r P) e h
found_in view P (Err x) read e h = tt

only_in : {A B : Type 0} (view : A → B) (answer : Result A PdcpRefusal) (read : Result B PdcpRefusal) (pdu : B)
    → Tells view answer read → read ≡ Ok pdu → IsOkAnd answer (λ x. view x ≡ pdu)
only_in view (Ok x) read pdu e h = let same : Ok (view x) ≡ Ok pdu = sym e ∙ h in cc
only_in view (Err x) read pdu e h = let same : Err x ≡ Ok pdu = sym e ∙ h in cc

refused_in : {A B : Type 0} (view : A → B) (answer : Result A PdcpRefusal) (read : Result B PdcpRefusal)
    (first : Option PdcpRefusal)
    → Tells view answer read → MatchResult read (λ x. first ≡ None) (λ e. first ≡ Some e)
    → MatchResult answer (λ x. first ≡ None) (λ e. first ≡ Some e)
refused_in view (Ok x) read first e h = subst (λ r. MatchResult r (λ x. first ≡ None) (λ e. first ≡ Some e)) e h
refused_in view (Err x) read first e h = subst (λ r. MatchResult r (λ x. first ≡ None) (λ e. first ≡ Some e)) e h

module _ (bits : ℕ) (octets : List ℕ) (answer : Result User PdcpRefusal) (width : IsUserBits bits)
    (told : Tells user_of answer (user_at bits octets)) where
  pub user_in_grammar : AreOctets octets → IfOk answer (λ user. IsUserPdu bits (user_of user) octets)
  user_in_grammar fits =
      found_in user_of (λ pdu. IsUserPdu bits pdu octets) answer (user_at bits octets) told
      (user_found bits octets width fits)

  pub user_is_read : (pdu : UserPdu) → IsUserPdu bits pdu octets → IsOkAnd answer (λ user. user_of user ≡ pdu)
  user_is_read pdu h = only_in user_of answer (user_at bits octets) pdu told (user_accepts bits pdu octets width h)

  pub user_is_refused : MatchResult answer (λ user. user_refusal bits octets ≡ None)
      (λ e. user_refusal bits octets ≡ Some e)
  user_is_refused =
      refused_in user_of answer (user_at bits octets) (user_refusal bits octets) told (user_agrees bits octets width)

module _ (octets : List ℕ) (answer : Result Srb PdcpRefusal) (told : Tells srb_of answer (srb_at octets)) where
  pub srb_in_grammar : AreOctets octets → IfOk answer (λ srb. IsSrbPdu (srb_of srb) octets)
  srb_in_grammar fits = found_in srb_of (λ pdu. IsSrbPdu pdu octets) answer (srb_at octets) told (srb_found octets fits)

  pub srb_is_read : (pdu : SrbPdu) → IsSrbPdu pdu octets → IsOkAnd answer (λ srb. srb_of srb ≡ pdu)
  srb_is_read pdu h = only_in srb_of answer (srb_at octets) pdu told (srb_accepts pdu octets h)

  pub srb_is_refused : MatchResult answer (λ srb. srb_refusal octets ≡ None) (λ e. srb_refusal octets ≡ Some e)
  srb_is_refused = refused_in srb_of answer (srb_at octets) (srb_refusal octets) told (srb_agrees octets)
