-- The receiver hears the tags that were written.
use Rattle.std.proofs.Common.{◌≡◌, ℕ, true, List, Option, Ok, Err, arith, refl, sym, subst}
use Rattle.std.proofs.lemmas.Bool.Decides.{nat_tests}
use Rattle.rlc_pdu.specs.Laws.{IsUmdInRange}
use Rattle.rlc_pdu.specs.Pdus.{UmdPdu, AreLens, IsUmBits}
use Rattle.rlc_pdu.specs.Reading.{umd_at}
use Rattle.rlc_pdu.specs.declared.fault.RlcRefusal.{RlcRefusal}
use Rattle.rlc_pdu.specs.Writing.{umd_canonical}
use Rattle.rlc_pdu.proofs.Again.{umd_again}
use Rattle.um_losses.specs.declared.pdu.Pdu.{Pdu}
use Rattle.um_losses.specs.Pdus.{is_pdu}
use Rattle.um_losses.specs.Tags.{tagged}
use Rattle.um_losses.proofs.TagLemmas.{lens_are, are_lens}

in_range : (bits : ℕ) (first : Option ℕ) (p : Pdu) → is_pdu bits p ≡ true → IsUmdInRange bits (tagged first p)
in_range bits first p h = record {
  number = grind (arith, nat_tests, h);
  framing = grind (arith, nat_tests, h);
  lens = subst (λ (l : List ℕ). AreLens l) (sym (lens_are first p.elements))
      (are_lens p.elements (grind (arith, nat_tests, h)));
}

pub read_is : (bits : ℕ) (first : Option ℕ) (p : Pdu) (octets : List ℕ) (got : UmdPdu) → IsUmBits bits
    → is_pdu bits p ≡ true → octets ≡ umd_canonical bits (tagged first p)
    → umd_at bits octets ≡ Ok got → got ≡ tagged first p
read_is bits first p octets got width h refl at =
    let written : umd_at bits (umd_canonical bits (tagged first p)) ≡ Ok (tagged first p) =
    (umd_again bits (tagged first p) width (in_range bits first p h)).read in
    cc

pub none_refused : (bits : ℕ) (first : Option ℕ) (p : Pdu) (octets : List ℕ) (e : RlcRefusal) → IsUmBits bits
    → is_pdu bits p ≡ true → octets ≡ umd_canonical bits (tagged first p)
    → umd_at bits octets ≡ Err e → ⊥
none_refused bits first p octets e width h refl at =
    let written : umd_at bits (umd_canonical bits (tagged first p)) ≡ Ok (tagged first p) =
    (umd_again bits (tagged first p) width (in_range bits first p h)).read in
    cc
