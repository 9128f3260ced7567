-- What a PDU that was read is like.
use Rattle.std.proofs.Common.{◌≡◌, ◌≢◌, ◌≤◌, ℕ, List, [], ◌∷◌, ◌++◌, length, drop, refl, arith, length-append}
use Rattle.std.specs.List.{remove}
use Rattle.pdcp_pdu.specs.Pdus.{SrbPdu}
use Rattle.pdcp_pdu.specs.Grammar.{IsSrbPdu, srb_header}

some : (xs : List ℕ) → xs ≢ [] → 1 ≤ length xs
some [] h = absurd (h refl)
some (x ∷ xs) h = omega arith

pub srb_long : (srb : SrbPdu) (pdu : List ℕ) → IsSrbPdu srb pdu → 6 ≤ length pdu
srb_long srb pdu h =
    rw (h.spelled) (omega (
      arith,
      length-append (srb_header h.reserved srb.sn ++ srb.octets) srb.tag,
      length-append (srb_header h.reserved srb.sn) srb.octets,
      some srb.octets h.some,
      h.tag,
    ))

pub drop_first : (xs : List ℕ) → 1 ≤ length xs → remove xs 0 ≡ drop 1 xs
drop_first [] le = absurd (omega arith)
drop_first (x ∷ xs) le = refl
