-- The octets and the marks that a checker reads of a data PDU are those of the places in it.
use Rattle.std.proofs.Common.{◌≡◌, ◌<◌, ℕ, zero, suc, ◌-◌, Bool, true, false, ◌||◌, List, [], ◌∷◌, ◌++◌, length, map}
use Rattle.std.proofs.Common.{take, drop, replicate, slice_range, Option, nat_lt, refl, ap, sym, subst, ◌∙◌, arith}
use Rattle.std.specs.List.{concat}
use Rattle.std.proofs.lemmas.Bool.Decides.{nat_tests}
use Rattle.std.proofs.lemmas.List.{append-nil, map-append, take-append-drop}
use Rattle.rlc_pdu.specs.declared.pdu.Segment.{Segment}
use Rattle.rlc_pdu.specs.Units.{cut}
use Rattle.rlc_pdu.specs.Pdus.{but_last}
use Rattle.rlc_am_rx_window.specs.Cells.{Cell}
use Rattle.rlc_am_rx_window.specs.Piece.{element_cells, data_cells, begins_in, ends_in}
use Rattle.journal_sent.specs.Marks.{mark, part_marks, field_marks}
use Rattle.journal_sent.specs.SentFlows.{marks_in}
use Rattle.law_rlc.specs.AmSender.Octets.{Place, places, first_begins, last_ends, lengths}
use Rattle.law_rlc.specs.AmPair.Fields.{cells_of}
use Rattle.law_rlc.proofs.AmSender.Stretches.{Joined, joined-front}
use Rattle.law_rlc.proofs.AmPair.Cells.{cells-read, framing-begins, framing-ends}
use Rattle.law_rlc.proofs.AmPair.Reading.{read_as}
use Rattle.law_sent.specs.Senders.{octets_of, marks_of}

-- ---- of an SDU

pub sdu_octets : (begins : Bool) (sdu : List ℕ) → octets_of (places begins sdu) ≡ sdu
sdu_octets begins [] = refl
sdu_octets begins (x ∷ []) = refl
sdu_octets begins (x ∷ y ∷ ys) = ap (λ (zs : List ℕ). x ∷ zs) (sdu_octets false (y ∷ ys))

-- the marks behind the first of so many octets
pub later_marks : (ends : Bool) (n : ℕ) → part_marks false ends (suc n) ≡ replicate n 0 ++ mark false ends ∷ []
later_marks ends zero = refl
later_marks ends (suc n) = refl

pub sdu_places : (begins : Bool) (sdu : List ℕ) → marks_of (places begins sdu) ≡ part_marks begins true (length sdu)
sdu_places begins [] = refl
sdu_places begins (x ∷ []) = refl
sdu_places begins (x ∷ y ∷ ys) =
    ap (λ (ms : List ℕ). mark begins false ∷ ms)
    (sdu_places false (y ∷ ys) ∙ later_marks true (length ys))

-- ---- of a PDU's elements

cut_all : (ls xs : List ℕ) → concat (cut ls xs) ≡ xs
unfolding cut
cut_all [] xs = append-nil xs
cut_all (l ∷ ls) xs = ap (λ (ys : List ℕ). take l xs ++ ys) (cut_all ls (drop l xs)) ∙ take-append-drop l xs

abbrev mark_of : Cell → ℕ
mark_of c = mark c.begins c.ends

element_marks : (begins ends : Bool) (xs : List ℕ)
    → part_marks begins ends (length xs) ≡ map mark_of (element_cells begins ends xs)
element_marks begins ends [] = refl
element_marks begins ends (x ∷ []) = refl
element_marks begins ends (x ∷ y ∷ ys) =
    ap (λ (ms : List ℕ). mark begins false ∷ ms)
    (sym (later_marks ends (length ys)) ∙ element_marks false ends (y ∷ ys))

or_false : (b : Bool) → (b || false) ≡ b
or_false true = refl
or_false false = refl

-- an element before the last ends an SDU
ends_one : (ends : Bool) (n : ℕ) → (ends || nat_lt 0 (suc n)) ≡ true
ends_one ends n = grind (arith, nat_tests)

data_marks : (begins ends : Bool) (es : List (List ℕ))
    → field_marks begins ends es ≡ map mark_of (data_cells begins ends es)
data_marks begins ends [] = refl
data_marks begins ends (x ∷ []) =
    append-nil (part_marks begins (ends || false) (length x))
    ∙ (ap (λ (b : Bool). part_marks begins b (length x)) (or_false ends) ∙ element_marks begins ends x)
data_marks begins ends (x ∷ y ∷ es) =
    ap (λ (b : Bool). part_marks begins b (length x) ++ field_marks true ends (y ∷ es)) (ends_one ends (length es))
    ∙ (ap (λ (ms : List ℕ). ms ++ field_marks true ends (y ∷ es)) (element_marks begins true x)
    ∙ (ap (λ (ms : List ℕ). map mark_of (element_cells begins true x) ++ ms) (data_marks true ends (y ∷ es))
    ∙ sym (map-append mark_of (element_cells begins true x) (data_cells true ends (y ∷ es)))))

place_marks : (ps : List Place) → map mark_of (cells_of ps) ≡ marks_of ps
place_marks [] = refl
place_marks (p ∷ ps) = ap (λ (ms : List ℕ). mark p.begins p.ends ∷ ms) (place_marks ps)

pub octets_read : (number : ℕ) (poll : Bool) (segment : Option Segment) (ps : List Place)
    → concat (read_as number poll segment ps).elements ≡ octets_of ps
octets_read number poll segment ps = cut_all (but_last (lengths 0 ps)) (octets_of ps)

pub marks_read : (number : ℕ) (poll : Bool) (segment : Option Segment) (ps : List Place) → 0 < length ps → Joined ps
    → marks_in (read_as number poll segment ps).fi (read_as number poll segment ps).elements ≡ marks_of ps
marks_read number poll segment ps some joined =
    let pdu = read_as number poll segment ps in
    let b = framing-begins (first_begins ps) (last_ends ps) in
    let e = framing-ends (first_begins ps) (last_ends ps) in
    data_marks (begins_in pdu.fi) (ends_in pdu.fi) pdu.elements
    ∙ (ap (λ (x : Bool). map mark_of (data_cells x (ends_in pdu.fi) pdu.elements)) b
    ∙ (ap (λ (x : Bool). map mark_of (data_cells (first_begins ps) x pdu.elements)) e
    ∙ (ap (λ (cs : List Cell). map mark_of cs) (cells-read ps some joined) ∙ place_marks ps)))

-- ---- of a stretch

joined_drop : (n : ℕ) (ps : List Place) → Joined ps → Joined (drop n ps)
joined_drop zero ps j = j
joined_drop (suc n) [] j = tt
joined_drop (suc n) (p ∷ []) j = joined_drop n [] tt
joined_drop (suc n) (p ∷ q ∷ ps) j = joined_drop n (q ∷ ps) j.1

pub joined_range : (ps : List Place) (from to : ℕ) → Joined ps → Joined (slice_range ps from to)
joined_range ps from to j =
    let rest = drop from ps in
    joined-front (take (to - from) rest) (drop (to - from) rest)
    (subst (λ (qs : List Place). Joined qs) (sym (take-append-drop (to - from) rest)) (joined_drop from ps j))
