-- What is reckoned of a new PDU is what its history tells.
use Rattle.std.proofs.Common.{◌≡◌, ◌<◌, ℕ, zero, suc, ◌+◌, ◌^◌, Bool, true, ◌||◌, nat_lt}
use Rattle.std.proofs.Common.{if◌then◌else◌, List, [], ◌∷◌, length, refl, ap, sym, subst}
use Rattle.std.proofs.Common.{length-append, arith}
use Rattle.rlc_um.specs.Sender.{pieces}
use Rattle.rlc_am_rx_window.specs.Piece.{octets_in, begins_in, ends_in}
use Rattle.um_losses.specs.Sending.{written}
use Rattle.um_losses.specs.Tags.{tags}
use Rattle.journal_account.specs.FlowEvents.{field_sizes}
use Rattle.journal_flows.specs.UmPdus.{pieces_from}
use Rattle.law_um.specs.UmReceiving.{SameOctets, ArePieces}
use Rattle.law_um.specs.UmLossesTold.{EndsWithTag}
use Rattle.law_um.specs.UmSending.{shown, with_pdu}
use Rattle.law_um.specs.UmWriting.{IsReckoned, WritingBegins, WritingIsReckoned, PdusKeepPieces}
use Rattle.law_um.proofs.UmSending.{um_pdus_are_told}

pub writing_begins : WritingBegins
writing_begins = record { number = refl; place = refl }

pub writing_is_reckoned : WritingIsReckoned
writing_is_reckoned es s size process held f gives h is r =
    let w = um_pdus_are_told es s size held gives h in
    let number = r.number in
    let place = r.place in
    let behind = w.place in
    subst (λ (b : Bool). IsReckoned (if b then record f { sending = written process (shown s size) f.sending }
    else f).sending (with_pdu s size es)) (sym is)
    (record {
      number = omega (arith, number, length-append (field_sizes es) (octets_in (pieces s size) ∷ []));
      place = omega (arith, place, behind);
    })

-- ---- pieces

same-octets : (place : ℕ) (b e : Bool) (xs : List (List ℕ)) → ArePieces SameOctets b e xs (pieces_from place b e xs)
same-octets place b e [] = tt
same-octets place b e (x ∷ xs) =
    (record { octets = refl; begins_is = refl; ends_is = refl }, same-octets (place + 1) true e xs)

tags-long : (tag n : ℕ) → length (tags tag 1 n) ≡ n
tags-long tag zero = refl
tags-long tag (suc n) = ap suc (tags-long (tag + 1) n)

same-tags : (place : ℕ) (b e : Bool) (xs : List (List ℕ)) → place + length xs < 2 ^ 64
    → ArePieces EndsWithTag b e (tags (place + 1) 1 (length xs)) (pieces_from place b e xs)
same-tags place b e [] few = tt
same-tags place b e (x ∷ xs) few = (
  record {
    octets = (omega (arith, few), ([], refl));
    begins_is = refl;
    ends_is = ap (λ (n : ℕ). e || nat_lt 0 n) (sym (tags-long (place + 1 + 1) (length xs)));
  },
  same-tags (place + 1) true e xs (omega (arith, few)),
)

begins-alike : (fi : ℕ) → fi < 4 → nat_lt fi 2 ≡ begins_in fi
begins-alike zero h = refl
begins-alike (suc zero) h = refl
begins-alike (suc (suc zero)) h = refl
begins-alike (suc (suc (suc zero))) h = refl
begins-alike (suc (suc (suc (suc fi)))) h = absurd (omega (arith, h))

pub pdus_keep_pieces : PdusKeepPieces
pdus_keep_pieces place pdu few = record {
  octets = subst (λ (b : Bool). ArePieces SameOctets b (ends_in pdu.fi) pdu.elements
      (pieces_from place (begins_in pdu.fi) (ends_in pdu.fi) pdu.elements)) (sym (begins-alike pdu.fi few))
      (same-octets place (begins_in pdu.fi) (ends_in pdu.fi) pdu.elements);
  tags = λ low. subst (λ (b : Bool). ArePieces EndsWithTag b (ends_in pdu.fi)
      (tags (place + 1) 1 (length pdu.elements))
      (pieces_from place (begins_in pdu.fi) (ends_in pdu.fi) pdu.elements)) (sym (begins-alike pdu.fi few))
      (same-tags place (begins_in pdu.fi) (ends_in pdu.fi) pdu.elements low);
}
