-- What is acknowledged has arrived, octet for octet.
use Rattle.std.proofs.Common.{◌≡◌, inl, inr, ℕ, Bool, true, false, ◌&&◌, ◌==◌, if◌then◌else◌, List, [], ◌∷◌, length}
use Rattle.std.proofs.Common.{slice_index_or, Option, Some, None, refl, ap, sym, ◌∙◌, arith}
use Rattle.std.specs.List.{AllByRecursion}
use Rattle.std.proofs.lemmas.Bool.{cases_lt, eqb-true}
use Rattle.law_rlc.specs.AmSender.Octets.{Place}
use Rattle.rlc_am_rx_window.specs.Piece.{end_of}
use Rattle.law_rlc.specs.AmReceiver.Run.{Came, told, size_told_by, IsComplete}
use Rattle.law_rlc.specs.AmPair.Flow.{Flow, sender, receiver}
use Rattle.law_rlc.specs.AmPair.Numbers.{is_acked, HasArrived}
use Rattle.law_rlc.proofs.AmPair.Parts.{cells-length}
use Rattle.law_rlc.proofs.AmPair.Sound.{IsKept, IsSound}
use Rattle.law_rlc.proofs.AmPair.Sending.{sent-number}

-- a length that a piece told is that of the field
pub told-length : (sent : List (List Place)) (ps : List Came) (n size : ℕ) → AllByRecursion (IsKept sent) ps
    → told ps n ≡ Some size → size ≡ length (slice_index_or sent n [])
told-length sent [] n size h e = let no' : None ≡ Some size = e in cc
told-length sent (p ∷ ps) n size h e = by (told ps n) (λ f. told-length sent ps n size h.1 f) e
  where
    last : (a b : Bool) → (p.number == n) ≡ a → p.piece.last ≡ b
        → (if a && b then Some (end_of p.piece) else None) ≡ Some size → size ≡ length (slice_index_or sent n [])
    last true true a b g =
        let same : Some (end_of p.piece) ≡ Some size = g in
        let is : end_of p.piece ≡ size = cc in
        let number : p.number ≡ n = eqb-true p.number n a in
        sym is
        ∙ (h.0.part.last b
        ∙ (cells-length (slice_index_or sent p.number [])
        ∙ ap (λ (k : ℕ). length (slice_index_or sent k [])) number))
    last true false a b g = let no' : None ≡ Some size = g in cc
    last false b' a b g = let no' : None ≡ Some size = g in cc

    by : (o : Option ℕ) → (o ≡ Some size → size ≡ length (slice_index_or sent n [])) → size_told_by o p n ≡ Some size
        → size ≡ length (slice_index_or sent n [])
    by (Some s) old g = old g
    by None old g = last (p.number == n) p.piece.last refl refl g

pub has-arrived : (f : Flow) (n : ℕ) → IsSound f → is_acked f n ≡ true → HasArrived f n
has-arrived f n h a =
    let done : IsComplete (receiver f).kept n = h.known n a in
    let size : done.0 ≡ length (slice_index_or (sender f).past.sent n []) =
    told-length (sender f).past.sent (receiver f).kept n done.0 h.kept done.1 in
    record {
      sent = elim (cases_lt n (length (sender f).past.sent)) [
        | inl lt ↦ lt
        | inr ge ↦ let none : is_acked f n ≡ false =
            h.fits.above n (let m = sent-number f h in omega (arith, m, ge)) in
            let no' : true ≡ false = sym a ∙ none in cc
      ];
      size = done.1 ∙ ap (λ (k : ℕ). Some k) size;
      octets = λ i lt. done.2 i (omega (arith, lt, size));
    }
