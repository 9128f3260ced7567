-- Joining one number after the other is the search.
use Rattle.std.proofs.Common.{◌≡◌, ℕ, zero, suc, Bool, true, false, List, [], ◌∷◌, ◌++◌, map, Option, Some, None, refl}
use Rattle.std.proofs.Common.{ap, sym, ◌∙◌, append_assoc}
use Rattle.std.specs.Prelude.{option_to_list}
use Rattle.std.proofs.lemmas.List.{append-nil}
use Rattle.journal_um.specs.declared.pieces.JoinedSdu.{JoinedSdu}
use Rattle.journal_um.specs.declared.pieces.Piece.{Piece}
use Rattle.journal_um.specs.UmSdus.{pieces_or_gap, row_below, ended_in, sdus_in}
use Rattle.journal_um.specs.UmJoiner.{UmJoiner, with_piece, with_pieces, with_pdu}
use Rattle.journal_um.proofs.Keeping.{below}

-- what a row still gives to what is open
abbrev to_come : Option (List ℕ) → List (Option Piece) → List JoinedSdu
to_come None row = sdus_in row
to_come (Some octets) row = option_to_list (ended_in octets row) ++ sdus_in row

-- one piece
abbrev one_piece : List ℕ → Bool → Bool → ℕ → Piece
one_piece octets begins ends place = record { octets = octets; begins = begins; ends = ends; place = place }

abbrev joiner : ℕ → ℕ → Bool → List JoinedSdu → Option (List ℕ) → UmJoiner
joiner many next long ready part = record { many = many; part = part; next = next; long = long; ready = ready }

one-step : (x : List ℕ) (b e : Bool) (place many next : ℕ) (long : Bool) (ready : List JoinedSdu)
    (part : Option (List ℕ)) (row : List (Option Piece))
    → (with_piece (one_piece x b e place) (joiner many next long ready part)).ready
    ++ to_come (with_piece (one_piece x b e place) (joiner many next long ready part)).part row
    ≡ ready ++ to_come part (Some (one_piece x b e place) ∷ row)
one-step x true true place many next long ready None row =
    append_assoc ready (record { place = place; octets = x } ∷ []) (sdus_in row)
one-step x true true place many next long ready (Some a) row =
    append_assoc ready (record { place = place; octets = x } ∷ []) (sdus_in row)
one-step x true false place many next long ready None row = refl
one-step x true false place many next long ready (Some a) row = refl
one-step x false true place many next long ready None row = refl
one-step x false true place many next long ready (Some a) row =
    append_assoc ready (record { place = place; octets = a ++ x } ∷ []) (sdus_in row)
one-step x false false place many next long ready None row = refl
one-step x false false place many next long ready (Some a) row = refl

piece-step : (p : Piece) (j : UmJoiner) (row : List (Option Piece))
    → (with_piece p j).ready ++ to_come (with_piece p j).part row ≡ j.ready ++ to_come j.part (Some p ∷ row)
piece-step p j row =
    one-step p.octets p.begins p.ends p.place j.many j.next j.long j.ready j.part row

pieces-step : (ps : List Piece) (j : UmJoiner) (row : List (Option Piece))
    → (with_pieces ps j).ready ++ to_come (with_pieces ps j).part row
    ≡ j.ready ++ to_come j.part (map (λ (p : Piece). Some p) ps ++ row)
pieces-step [] j row = refl
pieces-step (p ∷ ps) j row =
    pieces-step ps (with_piece p j) row ∙ piece-step p j (map (λ (q : Piece). Some q) ps ++ row)

gap-step : (part : Option (List ℕ)) (row : List (Option Piece)) → sdus_in row ≡ to_come part (None ∷ row)
gap-step None row = refl
gap-step (Some a) row = refl

pdu-step : (o : Option (List Piece)) (j : UmJoiner) (row : List (Option Piece))
    → (with_pdu o j).ready ++ to_come (with_pdu o j).part row ≡ j.ready ++ to_come j.part (pieces_or_gap o ++ row)
pdu-step None j row = ap (λ (l : List JoinedSdu). j.ready ++ l) (gap-step j.part row)
pdu-step (Some ps) j row = pieces-step ps j row

below-step : (pdus : ℕ → Option (List Piece)) (n : ℕ) (j : UmJoiner) (row : List (Option Piece))
    → (below pdus n j).ready ++ to_come (below pdus n j).part row
    ≡ j.ready ++ to_come j.part (row_below pdus n ++ row)
below-step pdus zero j row = refl
below-step pdus (suc n) j row =
    pdu-step (pdus n) (below pdus n j) row ∙ below-step pdus n j (pieces_or_gap (pdus n) ++ row)
    ∙ ap (λ (r : List (Option Piece)). j.ready ++ to_come j.part r)
    (sym (append_assoc (row_below pdus n) (pieces_or_gap (pdus n)) row))

none-left : (part : Option (List ℕ)) → to_come part [] ≡ []
none-left None = refl
none-left (Some a) = refl

pub below-ready : (pdus : ℕ → Option (List Piece)) (n : ℕ) (j : UmJoiner) → j.part ≡ None
    → (below pdus n j).ready ≡ j.ready ++ sdus_in (row_below pdus n)
below-ready pdus n j closed =
    sym (append-nil (below pdus n j).ready)
    ∙ ap (λ (l : List JoinedSdu). (below pdus n j).ready ++ l) (sym (none-left (below pdus n j).part))
    ∙ below-step pdus n j []
    ∙ ap (λ (r : List (Option Piece)). j.ready ++ to_come j.part r) (append-nil (row_below pdus n))
    ∙ ap (λ (part : Option (List ℕ)). j.ready ++ to_come part (row_below pdus n)) closed
