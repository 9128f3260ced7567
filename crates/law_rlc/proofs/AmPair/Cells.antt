-- The places of a PDU that is read are those that were written.
use Rattle.std.proofs.Common.{◌≡◌, ◌<◌, ℕ, suc, ◌+◌, Bool, true, false, ◌==◌, if◌then◌else◌, List, [], ◌∷◌, ◌++◌}
use Rattle.std.proofs.Common.{length, map, take, drop, refl, ap, sym, ◌∙◌, arith, append_assoc, length-append}
use Rattle.std.proofs.lemmas.Grind.{common_steps}
use Rattle.std.proofs.lemmas.Bool.Decides.{nat_tests}
use Rattle.rlc_pdu.specs.Units.{cut}
use Rattle.rlc_pdu.specs.Pdus.{but_last}
use Rattle.rlc_queue.specs.NewPdu.{framing}
use Rattle.rlc_am_tx_window.specs.Cut.{some_length}
use Rattle.law_rlc.specs.AmSender.Octets.{Place, first_begins, last_ends, lengths}
use Rattle.law_rlc.proofs.AmSender.Stretches.{Joined}
use Rattle.rlc_am_rx_window.specs.Cells.{Cell, cell}
use Rattle.rlc_am_rx_window.specs.Piece.{element_cells, data_cells, begins_in, ends_in}
use Rattle.law_rlc.specs.AmPair.Fields.{cell_of, cells_of}

abbrev pub octets_of : List Place → List ℕ
octets_of ps = map (λ (p : Place). p.octet) ps

-- whether an SDU begins with the octet behind some of its element
abbrev begin_of : Bool → List ℕ → Bool
begin_of b [] = b
begin_of b (x ∷ xs) = false

-- one octet more of an element
element-more : (b e : Bool) (xs : List ℕ) (o : ℕ)
    → element_cells b e (xs ++ o ∷ []) ≡ element_cells b false xs ++ cell o (begin_of b xs) e ∷ []
element-more b e [] o = refl
element-more b e (x ∷ []) o = refl
element-more b e (x ∷ y ∷ ys) o = ap (λ (cs : List Cell). cell x b false ∷ cs) (element-more false e (y ∷ ys) o)

lengths-some : (n : ℕ) (ps : List Place) → 0 < n + length ps → 0 < length (lengths n ps)
lengths-some n [] h = by (n == 0) refl
  where
    by : (b : Bool) → (n == 0) ≡ b → 0 < length (if b then [] else n ∷ [])
    by true e = let z : n ≡ 0 = grind (arith, nat_tests) in absurd (omega (arith, z, h))
    by false e = omega arith
lengths-some n (p ∷ ps) h = by p.ends (lengths-some (n + 1) ps (omega arith))
  where
    by : (b : Bool) → 0 < length (lengths (n + 1) ps)
        → 0 < length (if b then (n + 1) ∷ lengths 0 ps else lengths (n + 1) ps)
    by true r = omega arith
    by false r = r

but-last-more : (n : ℕ) (ls : List ℕ) → 0 < length ls → but_last (n ∷ ls) ≡ n ∷ but_last ls
but-last-more n [] h = absurd (omega arith)
but-last-more n (l ∷ ls) h = refl

cut-some : (ls xs : List ℕ) → 0 < length (cut ls xs)
unfolding cut
cut-some [] xs = omega arith
cut-some (l ∷ ls) xs = omega arith

data-more : (b e : Bool) (x : List ℕ) (es : List (List ℕ)) → 0 < length es
    → data_cells b e (x ∷ es) ≡ element_cells b true x ++ data_cells true e es
data-more b e x [] h = absurd (omega arith)
data-more b e x (y ∷ es) h = refl

take-front : (xs : List ℕ) (o : ℕ) (ys : List ℕ) → take (length xs + 1) (xs ++ o ∷ ys) ≡ xs ++ o ∷ []
take-front [] o ys = refl
take-front (x ∷ xs) o ys = let n : length (x ∷ xs) + 1 ≡ suc (length xs + 1) = omega arith in
    rw n (ap (λ (zs : List ℕ). x ∷ zs) (take-front xs o ys))

drop-front : (xs : List ℕ) (o : ℕ) (ys : List ℕ) → drop (length xs + 1) (xs ++ o ∷ ys) ≡ ys
drop-front [] o ys = refl
drop-front (x ∷ xs) o ys = let n : length (x ∷ xs) + 1 ≡ suc (length xs + 1) = omega arith in rw n (drop-front xs o ys)

-- the elements by their lengths, behind octets of the first one
abbrev read_from : Bool → Bool → List ℕ → List ℕ → List Cell
read_from b e ls xs = data_cells b e (cut (but_last ls) xs)

one-left : (b e : Bool) (n : ℕ) (xs : List ℕ) → read_from b e (n ∷ []) xs ≡ element_cells b e xs
unfolding cut
one-left b e n xs = refl

more-left : (b e : Bool) (xs : List ℕ) (o : ℕ) (ls ys : List ℕ) → 0 < length ls
    → read_from b e ((length xs + 1) ∷ ls) (xs ++ o ∷ ys) ≡ element_cells b true (xs ++ o ∷ [])
    ++ read_from true e ls ys
unfolding cut
more-left b e xs o ls ys h =
    ap (λ (ks : List ℕ). data_cells b e (cut ks (xs ++ o ∷ ys))) (but-last-more (length xs + 1) ls h)
    ∙ data-more b e (take (length xs + 1) (xs ++ o ∷ ys)) (cut (but_last ls) (drop (length xs + 1) (xs ++ o ∷ ys)))
    (cut-some (but_last ls) (drop (length xs + 1) (xs ++ o ∷ ys)))
    ∙ (ap (λ (zs : List ℕ). element_cells b true zs
    ++ data_cells true e (cut (but_last ls) (drop (length xs + 1) (xs ++ o ∷ ys)))) (take-front xs o ys)
    ∙ ap (λ (zs : List ℕ). element_cells b true (xs ++ o ∷ []) ++ data_cells true e (cut (but_last ls) zs))
    (drop-front xs o ys))

cells-from : (b : Bool) (xs : List ℕ) (p : Place) (ps : List Place) → p.begins ≡ begin_of b xs → Joined (p ∷ ps)
    → read_from b (last_ends (p ∷ ps)) (lengths (length xs) (p ∷ ps)) (xs ++ octets_of (p ∷ ps))
    ≡ element_cells b false xs ++ cells_of (p ∷ ps)
cells-from b xs p [] is j = by p.ends refl
  where
    by : (e : Bool) → p.ends ≡ e
        → read_from b p.ends (if e then (length xs + 1) ∷ some_length 0 else some_length (length xs + 1))
        (xs ++ p.octet ∷ []) ≡ element_cells b false xs ++ cell p.octet p.begins p.ends ∷ []
    by true e = one-left b p.ends (length xs + 1) (xs ++ p.octet ∷ [])
        ∙ (element-more b p.ends xs p.octet
        ∙ ap (λ (c : Bool). element_cells b false xs ++ cell p.octet c p.ends ∷ []) (sym is))
    by false e =
        let n : some_length (length xs + 1) ≡ (length xs + 1) ∷ [] = grind (arith, nat_tests, common_steps) in
        ap (λ (ls : List ℕ). read_from b p.ends ls (xs ++ p.octet ∷ [])) n
        ∙ (one-left b p.ends (length xs + 1) (xs ++ p.octet ∷ [])
        ∙ (element-more b p.ends xs p.octet
        ∙ ap (λ (c : Bool). element_cells b false xs ++ cell p.octet c p.ends ∷ []) (sym is)))
cells-from b xs p (q ∷ qs) is j =
    by p.ends refl (λ e. cells-from true [] q qs (sym j.0 ∙ e) j.1)
    (λ e. cells-from b (xs ++ p.octet ∷ []) q qs (sym j.0 ∙ (e ∙ sym (behind b xs p.octet))) j.1)
  where
    behind : (b : Bool) (xs : List ℕ) (o : ℕ) → begin_of b (xs ++ o ∷ []) ≡ false
    behind b [] o = refl
    behind b (x ∷ xs) o = refl

    one : (e : Bool) → p.ends ≡ e → element_cells b e (xs ++ p.octet ∷ []) ++ cells_of (q ∷ qs)
        ≡ element_cells b false xs ++ cells_of (p ∷ q ∷ qs)
    one e h =
        ap (λ (cs : List Cell). cs ++ cells_of (q ∷ qs)) (element-more b e xs p.octet
        ∙ (ap (λ (c : Bool). element_cells b false xs ++ cell p.octet c e ∷ []) (sym is)
        ∙ ap (λ (c : Bool). element_cells b false xs ++ cell p.octet p.begins c ∷ []) (sym h)))
        ∙ append_assoc (element_cells b false xs) (cell_of p ∷ []) (cells_of (q ∷ qs))

    by : (e : Bool) → p.ends ≡ e
        → (p.ends ≡ true → read_from true (last_ends (q ∷ qs)) (lengths 0 (q ∷ qs)) (octets_of (q ∷ qs))
        ≡ cells_of (q ∷ qs))
        → (p.ends ≡ false
        → read_from b (last_ends (q ∷ qs)) (lengths (length (xs ++ p.octet ∷ [])) (q ∷ qs))
        ((xs ++ p.octet ∷ []) ++ octets_of (q ∷ qs)) ≡ element_cells b false (xs ++ p.octet ∷ [])
        ++ cells_of (q ∷ qs))
        → read_from b (last_ends (q ∷ qs)) (if e then (length xs + 1) ∷ lengths 0 (q ∷ qs)
        else lengths (length xs + 1) (q ∷ qs)) (xs ++ p.octet ∷ octets_of (q ∷ qs))
        ≡ element_cells b false xs ++ cells_of (p ∷ q ∷ qs)
    by true h rest on =
        more-left b (last_ends (q ∷ qs)) xs p.octet (lengths 0 (q ∷ qs)) (octets_of (q ∷ qs))
        (lengths-some 0 (q ∷ qs) (omega arith))
        ∙ (ap (λ (cs : List Cell). element_cells b true (xs ++ p.octet ∷ []) ++ cs) (rest h) ∙ one true h)
    by false h rest on =
        let n : length (xs ++ p.octet ∷ []) ≡ length xs + 1 = length-append xs (p.octet ∷ []) in
        ap (λ (k : ℕ). read_from b (last_ends (q ∷ qs)) (lengths k (q ∷ qs)) (xs ++ p.octet ∷ octets_of (q ∷ qs)))
        (sym n)
        ∙ (ap (λ (ys : List ℕ). read_from b (last_ends (q ∷ qs)) (lengths (length (xs ++ p.octet ∷ [])) (q ∷ qs)) ys)
        (sym (append_assoc xs (p.octet ∷ []) (octets_of (q ∷ qs))))
        ∙ (on h ∙ one false h))

-- what is read of the elements that places are written as
pub cells-read : (ps : List Place) → 0 < length ps → Joined ps
    → data_cells (first_begins ps) (last_ends ps) (cut (but_last (lengths 0 ps)) (octets_of ps)) ≡ cells_of ps
cells-read [] h j = absurd (omega arith)
cells-read (p ∷ ps) h j = cells-from p.begins [] p ps refl j

-- FI tells it again
pub framing-begins : (b e : Bool) → begins_in (framing b e) ≡ b
framing-begins true true = refl
framing-begins true false = refl
framing-begins false true = refl
framing-begins false false = refl

pub framing-ends : (b e : Bool) → ends_in (framing b e) ≡ e
framing-ends true true = refl
framing-ends true false = refl
framing-ends false true = refl
framing-ends false false = refl
