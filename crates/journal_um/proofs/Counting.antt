-- What is known of the gaps between the SDUs that go up.
use Rattle.std.proofs.Common.{◌≡◌, ℕ, zero, suc, ◌+◌, Bool, true, false, ◌||◌, nat_le, if◌then◌else◌, List, [], ◌∷◌}
use Rattle.std.proofs.Common.{◌++◌, Option, Some, None, refl, ap, sym, ◌∙◌, append_assoc}
use Rattle.std.proofs.lemmas.List.{append-nil, append_cancel_left}
use Rattle.journal_um.specs.declared.pieces.JoinedSdu.{JoinedSdu}
use Rattle.journal_um.specs.declared.pieces.Piece.{Piece}
use Rattle.journal_um.specs.UmLosses.{leaves_out}
use Rattle.journal_um.specs.UmJoiner.{UmJoiner, opened, with_part, with_sdu, closed, with_piece, with_pieces, with_pdu}
use Rattle.journal_um.proofs.Either.{or-assoc, or-false}
use Rattle.journal_um.proofs.Keeping.{below}

abbrev behind : ℕ → List JoinedSdu → ℕ
behind next [] = next
behind next (sdu ∷ sdus) = behind (sdu.place + 1) sdus

-- joining began with these SDUs, and has added some
pub record Counts (many : ℕ) (before : List JoinedSdu) (long : Bool) (j : UmJoiner) : Type 0 where
  pub many_is : j.many ≡ many
  pub sdus : List JoinedSdu
  pub ready_is : j.ready ≡ before ++ sdus
  pub next_is : j.next ≡ behind 0 sdus
  pub long_is : j.long ≡ (long || leaves_out many 0 sdus)

behind-push : (next : ℕ) (sdus : List JoinedSdu) (sdu : JoinedSdu) → behind next (sdus ++ sdu ∷ []) ≡ sdu.place + 1
behind-push next [] sdu = refl
behind-push next (x ∷ xs) sdu = behind-push (x.place + 1) xs sdu

leaves-push : (many next : ℕ) (sdus : List JoinedSdu) (sdu : JoinedSdu)
    → leaves_out many next (sdus ++ sdu ∷ [])
    ≡ (leaves_out many next sdus || nat_le (behind next sdus + many) sdu.place)
leaves-push many next [] sdu = or-false (nat_le (next + many) sdu.place)
leaves-push many next (x ∷ xs) sdu =
    ap (λ (b : Bool). nat_le (next + many) x.place || b) (leaves-push many (x.place + 1) xs sdu)
    ∙ sym (or-assoc (nat_le (next + many) x.place) (leaves_out many (x.place + 1) xs)
    (nat_le (behind (x.place + 1) xs + many) sdu.place))

counts-sdu : (many : ℕ) (before : List JoinedSdu) (long : Bool) (j : UmJoiner) (sdu : JoinedSdu)
    → Counts many before long j → Counts many before long (with_sdu sdu j)
counts-sdu many before long j sdu c = record {
  many_is = c.many_is;
  sdus = c.sdus ++ sdu ∷ [];
  ready_is = ap (λ (l : List JoinedSdu). l ++ sdu ∷ []) c.ready_is ∙ append_assoc before c.sdus (sdu ∷ []);
  next_is = sym (behind-push 0 c.sdus sdu);
  long_is = ap (λ (b : Bool). b || nat_le (j.next + j.many) sdu.place) c.long_is
      ∙ ap (λ (n : ℕ). (long || leaves_out many 0 c.sdus) || nat_le (n + j.many) sdu.place) c.next_is
      ∙ ap (λ (n : ℕ). (long || leaves_out many 0 c.sdus) || nat_le (behind 0 c.sdus + n) sdu.place) c.many_is
      ∙ or-assoc long (leaves_out many 0 c.sdus) (nat_le (behind 0 c.sdus + many) sdu.place)
      ∙ ap (λ (b : Bool). long || b) (sym (leaves-push many 0 c.sdus sdu));
}

counts-part : (many : ℕ) (before : List JoinedSdu) (long : Bool) (j : UmJoiner) (part : Option (List ℕ))
    → Counts many before long j → Counts many before long (with_part part j)
counts-part many before long j part c = record {
  many_is = c.many_is;
  sdus = c.sdus;
  ready_is = c.ready_is;
  next_is = c.next_is;
  long_is = c.long_is;
}

counts-closed : (many : ℕ) (before : List JoinedSdu) (long : Bool) (j : UmJoiner) (place : ℕ)
    (part : Option (List ℕ)) → Counts many before long j → Counts many before long (closed place part j)
counts-closed many before long j place None c = counts-part many before long j None c
counts-closed many before long j place (Some octets) c =
    counts-sdu many before long (with_part None j) (record { place = place; octets = octets })
    (counts-part many before long j None c)

counts-ended : (many : ℕ) (before : List JoinedSdu) (long : Bool) (j : UmJoiner) (ends : Bool) (place : ℕ)
    (part : Option (List ℕ)) → Counts many before long j
    → Counts many before long (if ends then closed place part j else with_part part j)
counts-ended many before long j true place part c = counts-closed many before long j place part c
counts-ended many before long j false place part c = counts-part many before long j part c

counts-pieces : (many : ℕ) (before : List JoinedSdu) (long : Bool) (j : UmJoiner) (ps : List Piece)
    → Counts many before long j → Counts many before long (with_pieces ps j)
counts-pieces many before long j [] c = c
counts-pieces many before long j (p ∷ ps) c =
    counts-pieces many before long (with_piece p j) ps
    (counts-ended many before long j p.ends p.place (opened p j.part) c)

counts-pdu : (many : ℕ) (before : List JoinedSdu) (long : Bool) (j : UmJoiner) (o : Option (List Piece))
    → Counts many before long j → Counts many before long (with_pdu o j)
counts-pdu many before long j None c = counts-part many before long j None c
counts-pdu many before long j (Some ps) c = counts-pieces many before long j ps c

counts-below : (many : ℕ) (before : List JoinedSdu) (long : Bool) (j : UmJoiner) (pdus : ℕ → Option (List Piece))
    (n : ℕ) → Counts many before long j → Counts many before long (below pdus n j)
counts-below many before long j pdus zero c = c
counts-below many before long j pdus (suc n) c =
    counts-pdu many before long (below pdus n j) (pdus n) (counts-below many before long j pdus n c)

-- a life begins, and SDUs were joined in it
pub below-long : (many : ℕ) (j : UmJoiner) (pdus : ℕ → Option (List Piece)) (n : ℕ) (sdus : List JoinedSdu)
    → j.many ≡ many → j.next ≡ 0 → (below pdus n j).ready ≡ j.ready ++ sdus
    → (below pdus n j).long ≡ (j.long || leaves_out many 0 sdus)
below-long many j pdus n sdus many_is next_is are =
    let c = counts-below many j.ready j.long j pdus n (record {
      many_is = many_is;
      sdus = [];
      ready_is = sym (append-nil j.ready);
      next_is = next_is;
      long_is = sym (or-false j.long);
    }) in
    c.long_is
    ∙ ap (λ (l : List JoinedSdu). j.long || leaves_out many 0 l)
    (append_cancel_left j.ready c.sdus sdus (sym c.ready_is ∙ are))

pub below-many : (pdus : ℕ → Option (List Piece)) (n : ℕ) (j : UmJoiner) (many : ℕ) → j.many ≡ many → j.next ≡ 0
    → (below pdus n j).many ≡ many
below-many pdus n j many many_is next_is =
    (counts-below many j.ready j.long j pdus n (record {
      many_is = many_is;
      sdus = [];
      ready_is = sym (append-nil j.ready);
      next_is = next_is;
      long_is = sym (or-false j.long);
    })).many_is
