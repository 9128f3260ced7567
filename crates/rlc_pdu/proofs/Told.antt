-- What the readers' answers tell.
use Rattle.std.proofs.Common.{◌≡◌, ◌∙◌, ℕ, List, sym, subst, Option, None, Some, Result, Ok, Err}
use Rattle.std.specs.Prelude.{IfOk, IsOkAnd, MatchResult}
use Rattle.rlc_pdu.specs.declared.fault.RlcRefusal.{RlcRefusal}
use Rattle.rlc_pdu.specs.declared.pdu.Umd.{Umd}
use Rattle.rlc_pdu.specs.Pdus.{UmdPdu, IsUmBits}
use Rattle.rlc_pdu.specs.Grammar.{IsUmdPdu}
use Rattle.rlc_pdu.specs.Refusals.{umd_refusal}
use Rattle.rlc_pdu.specs.Reading.{umd_at}
use Rattle.rlc_pdu.specs.Views.{umd_of}
use Rattle.rlc_pdu.proofs.Units.{AreOctets}
use Rattle.rlc_pdu.proofs.Umds.{umd_accepts, umd_found, umd_agrees}

-- an answer is what was read, seen by some view
abbrev pub Tells : {A B : Type 0} → (A → B) → Result A RlcRefusal → Result B RlcRefusal → Type 0
Tells view answer read = MatchResult answer (λ x. read ≡ Ok (view x)) (λ e. read ≡ Err e)

-- what holds of all that may be read holds of the answer
pub found_in : {A B : Type 0} (view : A → B) (P : B → Type 0) (answer : Result A RlcRefusal)
    (read : Result B RlcRefusal) → Tells view answer read → IfOk read P → IfOk answer (λ x. P (view x))
found_in view P (Ok x) read e h = subst (λ r. IfOk r P) e h
found_in view P (Err x) read e h = tt

pub only_in : {A B : Type 0} (view : A → B) (answer : Result A RlcRefusal) (read : Result B RlcRefusal) (pdu : B)
    → Tells view answer read → read ≡ Ok pdu → IsOkAnd answer (λ x. view x ≡ pdu)
only_in view (Ok x) read pdu e h = let same : Ok (view x) ≡ Ok pdu = sym e ∙ h in cc
only_in view (Err x) read pdu e h = let same : Err x ≡ Ok pdu = sym e ∙ h in cc

pub refused_in : {A B : Type 0} (view : A → B) (answer : Result A RlcRefusal) (read : Result B RlcRefusal)
    (first : Option RlcRefusal)
    → Tells view answer read → MatchResult read (λ x. first ≡ None) (λ e. first ≡ Some e)
    → MatchResult answer (λ x. first ≡ None) (λ e. first ≡ Some e)
refused_in view (Ok x) read first e h = subst (λ r. MatchResult r (λ x. first ≡ None) (λ e. first ≡ Some e)) e h
refused_in view (Err x) read first e h = subst (λ r. MatchResult r (λ x. first ≡ None) (λ e. first ≡ Some e)) e h

module _ (bits : ℕ) (octets : List ℕ) (answer : Result Umd RlcRefusal) (width : IsUmBits bits)
    (told : Tells umd_of answer (umd_at bits octets)) where
  pub umd_in_grammar : AreOctets octets → IfOk answer (λ umd. IsUmdPdu bits (umd_of umd) octets)
  umd_in_grammar fits =
      found_in umd_of (λ pdu. IsUmdPdu bits pdu octets) answer (umd_at bits octets) told
      (umd_found bits octets width fits)

  pub umd_is_read : (pdu : UmdPdu) → IsUmdPdu bits pdu octets → IsOkAnd answer (λ umd. umd_of umd ≡ pdu)
  umd_is_read pdu h = only_in umd_of answer (umd_at bits octets) pdu told (umd_accepts bits pdu octets width h)

  pub umd_is_refused : MatchResult answer (λ umd. umd_refusal bits octets ≡ None)
      (λ e. umd_refusal bits octets ≡ Some e)
  umd_is_refused = refused_in umd_of answer (umd_at bits octets) (umd_refusal bits octets) told (umd_agrees bits octets)
