-- What is joined where numbers are lost.
use Rattle.std.proofs.Common.{◌≡◌, ◌⊎◌, inl, inr, ℕ, zero, suc, Bool, true, false, if◌then◌else◌, List, [], ◌∷◌, ◌++◌}
use Rattle.std.proofs.Common.{Option, Some, None, refl, ap, sym, subst, unwrap_or, option_map}
use Rattle.std.proofs.lemmas.Option.{none-some}
use Rattle.journal_um.specs.declared.pieces.JoinedSdu.{JoinedSdu}
use Rattle.journal_um.specs.declared.pieces.Piece.{Piece}
use Rattle.journal_um.specs.UmNumbers.{pdu_of, edge_in, top_in}
use Rattle.journal_um.specs.UmSdus.{row_below, sdus_in}
use Rattle.journal_um.specs.UmJoiner.{UmJoiner, nothing_joined, opened, with_part, closed, with_piece, with_pieces}
use Rattle.journal_um.specs.UmJoiner.{with_pdu}
use Rattle.journal_um.specs.LossLaws.{chosen_of, AreSomeOf, LosesOnly}
use Rattle.journal_um.proofs.Accepting.{accepts_truly}
use Rattle.journal_um.proofs.Keeping.{below}
use Rattle.journal_um.proofs.Searching.{below-ready}

-- ---- some of a list that grows

none-of : (bs : List Bool) → chosen_of bs [] ≡ []
none-of [] = refl
none-of (b ∷ bs) = refl

all-of : (xs : List JoinedSdu) → AreSomeOf xs xs
all-of [] = record { choice = []; are = refl }
all-of (x ∷ xs) =
    let r = all-of xs in
    record { choice = true ∷ r.choice; are = ap (λ (l : List JoinedSdu). x ∷ l) r.are }

chosen-more : (bs : List Bool) (ys zs : List JoinedSdu) → AreSomeOf (chosen_of bs ys) (ys ++ zs)
chosen-more [] ys zs = record { choice = []; are = refl }
chosen-more (b ∷ bs) [] zs = record { choice = []; are = refl }
chosen-more (true ∷ bs) (y ∷ ys) zs =
    let r = chosen-more bs ys zs in
    record { choice = true ∷ r.choice; are = ap (λ (l : List JoinedSdu). y ∷ l) r.are }
chosen-more (false ∷ bs) (y ∷ ys) zs =
    let r = chosen-more bs ys zs in
    record { choice = false ∷ r.choice; are = r.are }

chosen-both : (bs : List Bool) (ys zs : List JoinedSdu) → AreSomeOf (chosen_of bs ys ++ zs) (ys ++ zs)
chosen-both [] [] zs = all-of zs
chosen-both [] (y ∷ ys) zs =
    let r = chosen-both [] ys zs in
    record { choice = false ∷ r.choice; are = r.are }
chosen-both (b ∷ bs) [] zs = all-of zs
chosen-both (true ∷ bs) (y ∷ ys) zs =
    let r = chosen-both bs ys zs in
    record { choice = true ∷ r.choice; are = ap (λ (l : List JoinedSdu). y ∷ l) r.are }
chosen-both (false ∷ bs) (y ∷ ys) zs =
    let r = chosen-both bs ys zs in
    record { choice = false ∷ r.choice; are = r.are }

some-more : (xs ys zs : List JoinedSdu) → AreSomeOf xs ys → AreSomeOf xs (ys ++ zs)
some-more xs ys zs r =
    subst (λ (l : List JoinedSdu). AreSomeOf l (ys ++ zs)) (sym r.are) (chosen-more r.choice ys zs)

some-both : (xs ys zs : List JoinedSdu) → AreSomeOf xs ys → AreSomeOf (xs ++ zs) (ys ++ zs)
some-both xs ys zs r =
    subst (λ (l : List JoinedSdu). AreSomeOf (l ++ zs) (ys ++ zs)) (sym r.are) (chosen-both r.choice ys zs)

-- ---- joining with losses beside joining without: some of the SDUs, and the open part is the same or none

abbrev IsLess : Option (List ℕ) → Option (List ℕ) → Type 0
IsLess part full = (part ≡ None) ⊎ (part ≡ full)

record Lags (k j : UmJoiner) : Type 0 where
  ready : AreSomeOf k.ready j.ready
  part : IsLess k.part j.part

lags-closed : (place : ℕ) (part full : Option (List ℕ)) (k j : UmJoiner) → IsLess part full
    → AreSomeOf k.ready j.ready → Lags (closed place part k) (closed place full j)
lags-closed place None None k j less r = record { ready = r; part = inl refl }
lags-closed place None (Some x) k j less r = record {
  ready = some-more k.ready j.ready (record { place = place; octets = x } ∷ []) r;
  part = inl refl;
}
lags-closed place (Some y) None k j (inl e) r = absurd (none-some y (sym e))
lags-closed place (Some y) None k j (inr e) r = absurd (none-some y (sym e))
lags-closed place (Some y) (Some x) k j (inl e) r = absurd (none-some y (sym e))
lags-closed place (Some y) (Some x) k j (inr e) r =
    let same : y ≡ x = ap (λ (o : Option (List ℕ)). unwrap_or o y) e in
    record {
      ready = subst (λ (l : List ℕ). AreSomeOf (k.ready ++ record { place = place; octets = l } ∷ [])
          (j.ready ++ record { place = place; octets = x } ∷ [])) (sym same)
          (some-both k.ready j.ready (record { place = place; octets = x } ∷ []) r);
      part = inl refl;
    }

lags-ended : (ends : Bool) (place : ℕ) (part full : Option (List ℕ)) (k j : UmJoiner) → IsLess part full
    → AreSomeOf k.ready j.ready
    → Lags (if ends then closed place part k else with_part part k)
    (if ends then closed place full j else with_part full j)
lags-ended true place part full k j less r = lags-closed place part full k j less r
lags-ended false place part full k j less r = record { ready = r; part = less }

less-opened : (begins : Bool) (octets : List ℕ) (part full : Option (List ℕ)) → IsLess part full
    → IsLess (if begins then Some octets else option_map (λ (x : List ℕ). x ++ octets) part)
    (if begins then Some octets else option_map (λ (x : List ℕ). x ++ octets) full)
less-opened true octets part full less = inr refl
less-opened false octets part full (inl e) = inl (ap (option_map (λ (x : List ℕ). x ++ octets)) e)
less-opened false octets part full (inr e) = inr (ap (option_map (λ (x : List ℕ). x ++ octets)) e)

lags-pieces : (ps : List Piece) (k j : UmJoiner) → Lags k j → Lags (with_pieces ps k) (with_pieces ps j)
lags-pieces [] k j l = l
lags-pieces (p ∷ ps) k j l =
    lags-pieces ps (with_piece p k) (with_piece p j)
    (lags-ended p.ends p.place (opened p k.part) (opened p j.part) k j
    (less-opened p.begins p.octets k.part j.part l.part) l.ready)

-- pieces that are joined without losses only add SDUs
ended-more : (ends : Bool) (place : ℕ) (full : Option (List ℕ)) (xs : List JoinedSdu) (j : UmJoiner)
    → AreSomeOf xs j.ready → AreSomeOf xs (if ends then closed place full j else with_part full j).ready
ended-more true place None xs j r = r
ended-more true place (Some x) xs j r = some-more xs j.ready (record { place = place; octets = x } ∷ []) r
ended-more false place full xs j r = r

pieces-more : (ps : List Piece) (xs : List JoinedSdu) (j : UmJoiner) → AreSomeOf xs j.ready
    → AreSomeOf xs (with_pieces ps j).ready
pieces-more [] xs j r = r
pieces-more (p ∷ ps) xs j r =
    pieces-more ps xs (with_piece p j) (ended-more p.ends p.place (opened p j.part) xs j r)

lags-missing : (o : Option (List Piece)) (k j : UmJoiner) → Lags k j → Lags (with_pdu None k) (with_pdu o j)
lags-missing None k j l = record { ready = l.ready; part = inl refl }
lags-missing (Some ps) k j l = record { ready = pieces-more ps k.ready j l.ready; part = inl refl }

lags-pdu : (o full : Option (List Piece)) (k j : UmJoiner) → ((ps : List Piece) → o ≡ Some ps → full ≡ Some ps)
    → Lags k j → Lags (with_pdu o k) (with_pdu full j)
lags-pdu None full k j is l = lags-missing full k j l
lags-pdu (Some ps) full k j is l =
    subst (λ (o : Option (List Piece)). Lags (with_pieces ps k) (with_pdu o j)) (sym (is ps refl))
    (lags-pieces ps k j l)

lags-below : (got written : ℕ → Option (List Piece)) (n : ℕ) (j : UmJoiner)
    → ((k : ℕ) (ps : List Piece) → got k ≡ Some ps → written k ≡ Some ps) → Lags j j
    → Lags (below got n j) (below written n j)
lags-below got written zero j is l = l
lags-below got written (suc n) j is l =
    lags-pdu (got n) (written n) (below got n j) (below written n j) (is n) (lags-below got written n j is l)

rows-left : (got written : ℕ → Option (List Piece)) (n : ℕ)
    → ((k : ℕ) (ps : List Piece) → got k ≡ Some ps → written k ≡ Some ps)
    → AreSomeOf (sdus_in (row_below got n)) (sdus_in (row_below written n))
rows-left got written n is =
    subst (λ (xs : List JoinedSdu). AreSomeOf xs (sdus_in (row_below written n)))
    (below-ready got n (nothing_joined 0) refl)
    (subst (λ (ys : List JoinedSdu). AreSomeOf (below got n (nothing_joined 0)).ready ys)
    (below-ready written n (nothing_joined 0) refl)
    (lags-below got written n (nothing_joined 0) is
    (record { ready = record { choice = []; are = refl }; part = inl refl })).ready)

pub loses_only : LosesOnly
loses_only width written es some short carry =
    let is : (k : ℕ) (ps : List Piece) → pdu_of width es k ≡ Some ps → written k ≡ Some ps =
    (λ k ps e. carry k ps (accepts_truly width k ps es some short e)) in
    record {
      up = rows-left (pdu_of width es) written (edge_in width es) is;
      at_end = rows-left (pdu_of width es) written (top_in width es) is;
    }
