-- What is joined of what is kept alike is alike.
use Rattle.std.proofs.Common.{ℕ, Bool, true, false, ◌||◌, if◌then◌else◌, List, [], ◌∷◌, ◌++◌, length, nat_lt}
use Rattle.std.proofs.Common.{Option, Some, None, sym, subst}
use Rattle.std.specs.Prelude.{option_map}
use Rattle.std.proofs.lemmas.List.{append-nil}
use Rattle.rlc_um.specs.Joined.{Parts, Joined, opened, finished, left_open, with_element, with_elements}
use Rattle.rlc_um.specs.Joined.{with_number, with_numbers}
use Rattle.journal_um.specs.declared.pieces.Piece.{Piece}
use Rattle.journal_um.specs.UmJoiner as um
use Rattle.journal_um.specs.UmJoiner.{UmJoiner, closed, with_part, with_sdu, with_piece, with_pieces, with_pdu}
use Rattle.journal_um.specs.UmJoiner.{with_pdus}
use Rattle.law_um.specs.UmReceiving.{Likeness, Handing, IsPiece, ArePieces, IsAlike, AreAlike, IsOpen}

-- what is kept of the octets of an SDU that goes on
abbrev pub GoesOn : Likeness → Type 0
GoesOn like = (kept octets more others : List ℕ) (before place : ℕ) → like kept octets before → like more others place
    → like (kept ++ more) (octets ++ others) place

-- one SDU more goes up
abbrev pub OneMore : Likeness → Handing → Type 0
OneMore like hands = (ready : List (List ℕ)) (kept octets : List ℕ) (place : ℕ) (u : UmJoiner)
    → like kept octets place → hands ready u
    → hands (ready ++ kept ∷ []) (with_sdu (record { place = place; octets = octets }) (with_part None u))

-- what is open is no matter of those that go up
abbrev pub PartIsFree : Handing → Type 0
PartIsFree hands = (ready : List (List ℕ)) (part : Option (List ℕ)) (u : UmJoiner) → hands ready u
    → hands ready (with_part part u)

pub record IsKind (like : Likeness) (hands : Handing) : Type 0 where
  pub goes : GoesOn like
  pub more : OneMore like hands
  pub free : PartIsFree hands

pub record JoinsAlike (like : Likeness) (hands : Handing) (j : Joined) (u : UmJoiner) : Type 0 where
  pub part : IsOpen like j.part u.part
  pub ready : hands j.ready u

module _ (like : Likeness) (hands : Handing) (is : IsKind like hands) where
  -- what is open behind a piece is an SDU of its place
  abbrev pub AreOpened : Option (List ℕ) → Option (List ℕ) → ℕ → Type 0
  AreOpened None None place = Unit {0}
  AreOpened None (Some octets) place = ⊥
  AreOpened (Some kept) None place = ⊥
  AreOpened (Some kept) (Some octets) place = like kept octets place

  opened-alike : (b : Bool) (kept octets : List ℕ) (place : ℕ) (part other : Option (List ℕ))
      → like kept octets place → IsOpen like part other
      → AreOpened (opened b kept part)
      (if b then Some octets else option_map (λ (begun : List ℕ). begun ++ octets) other) place
  opened-alike true kept octets place part other h o = h
  opened-alike false kept octets place None None h o = tt
  opened-alike false kept octets place None (Some y) h o = absurd o
  opened-alike false kept octets place (Some x) None h o = absurd o
  opened-alike false kept octets place (Some x) (Some y) h o = is.goes x y kept octets o.0 place o.1 h

  still-open : (o other : Option (List ℕ)) (place : ℕ) → AreOpened o other place → IsOpen like o other
  still-open None None place h = tt
  still-open None (Some y) place h = absurd h
  still-open (Some x) None place h = absurd h
  still-open (Some x) (Some y) place h = (place, h)

  -- it ends or stays open
  ended-alike : (e : Bool) (place : ℕ) (o other : Option (List ℕ)) (j : Joined) (u : UmJoiner)
      → AreOpened o other place → JoinsAlike like hands j u
      → JoinsAlike like hands (record { ready = j.ready ++ finished e o; part = left_open e o })
      (if e then closed place other u else with_part other u)
  ended-alike true place None None j u o h = record {
    part = tt;
    ready = subst (λ (l : List (List ℕ)). hands l (with_part None u)) (sym (append-nil j.ready))
        (is.free j.ready None u h.ready);
  }
  ended-alike true place None (Some y) j u o h = absurd o
  ended-alike true place (Some x) None j u o h = absurd o
  ended-alike true place (Some x) (Some y) j u o h =
      record { part = tt; ready = is.more j.ready x y place u o h.ready }
  ended-alike false place o other j u a h = record {
    part = still-open o other place a;
    ready = subst (λ (l : List (List ℕ)). hands l (with_part other u)) (sym (append-nil j.ready))
        (is.free j.ready other u h.ready);
  }

  piece-alike : (kept : List ℕ) (p : Piece) (j : Joined) (u : UmJoiner) → like kept p.octets p.place
      → JoinsAlike like hands j u → JoinsAlike like hands (with_element p.begins p.ends kept j) (with_piece p u)
  piece-alike kept p j u k h =
      ended-alike p.ends p.place (opened p.begins kept j.part) (um.opened p u.part) j u
      (opened-alike p.begins kept p.octets p.place j.part u.part k h.part) h

  element-alike : (b e : Bool) (kept : List ℕ) (p : Piece) (j : Joined) (u : UmJoiner)
      → IsPiece like b e kept p → JoinsAlike like hands j u
      → JoinsAlike like hands (with_element b e kept j) (with_piece p u)
  element-alike b e kept p j u i h =
      subst (λ (x : Bool). JoinsAlike like hands (with_element x e kept j) (with_piece p u)) i.begins_is
      (subst (λ (x : Bool). JoinsAlike like hands (with_element p.begins x kept j) (with_piece p u)) i.ends_is
      (piece-alike kept p j u i.octets h))

  pieces-alike : (b e : Bool) (xs : List (List ℕ)) (ps : List Piece) (j : Joined) (u : UmJoiner)
      → ArePieces like b e xs ps → JoinsAlike like hands j u
      → JoinsAlike like hands (with_elements b e xs j) (with_pieces ps u)
  pieces-alike b e [] [] j u a h = h
  pieces-alike b e [] (p ∷ ps) j u a h = absurd a
  pieces-alike b e (x ∷ xs) [] j u a h = absurd a
  pieces-alike b e (x ∷ xs) (p ∷ ps) j u a h =
      pieces-alike true e xs ps (with_element b (e || nat_lt 0 (length xs)) x j) (with_piece p u) a.1
      (element-alike b (e || nat_lt 0 (length xs)) x p j u a.0 h)

  number-alike : (o : Option Parts) (pdu : Option (List Piece)) (j : Joined) (u : UmJoiner)
      → IsAlike like o pdu → JoinsAlike like hands j u → JoinsAlike like hands (with_number o j) (with_pdu pdu u)
  number-alike None None j u a h = record { part = tt; ready = is.free j.ready None u h.ready }
  number-alike None (Some pieces) j u a h = absurd a
  number-alike (Some p) None j u a h = absurd a
  number-alike (Some p) (Some pieces) j u a h = pieces-alike p.begins p.ends p.elements pieces j u a h

  -- numbers are passed
  pub numbers_alike : (slots : List (Option Parts)) (pdus : List (Option (List Piece))) (j : Joined) (u : UmJoiner)
      → AreAlike like slots pdus → JoinsAlike like hands j u
      → JoinsAlike like hands (with_numbers slots j) (with_pdus pdus u)
  numbers_alike [] [] j u a h = h
  numbers_alike [] (pdu ∷ pdus) j u a h = absurd a
  numbers_alike (slot ∷ slots) [] j u a h = absurd a
  numbers_alike (slot ∷ slots) (pdu ∷ pdus) j u a h =
      numbers_alike slots pdus (with_number slot j) (with_pdu pdu u) a.1 (number-alike slot pdu j u a.0 h)
