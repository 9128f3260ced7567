-- SDUs that are read in parts are read as a whole.
use Rattle.std.proofs.Common.{◌≡◌, ℕ, List, [], ◌∷◌, ◌++◌, Option, Some, None, refl, ap, sym, ◌∙◌}
use Rattle.std.proofs.Common.{append_assoc, append-nil, subst}
use Rattle.pdcp_sec.specs.Protection.{Protection}
use Rattle.journal_edge.specs.UmReading.{ReadSdu, Reader, read_sdu, next_behind, octets_of, all_read}
use Rattle.journal_edge.specs.Pairing.{Pairing}
use Rattle.journal_edge.specs.EdgeFlow.{EdgeFlow, pairs_with, flow_read, flow_all_read}
use Rattle.journal_edge.proofs.Pairs.{ArePaired, read_pairs}

-- the next COUNT behind some
abbrev pub next_after : ℕ → Protection → ℕ → List (List ℕ) → ℕ
next_after bits p next [] = next
next_after bits p next (sdu ∷ sdus) = next_after bits p (next_behind next (read_sdu bits p next sdu)) sdus

pub next_append : (bits : ℕ) (p : Protection) (next : ℕ) (xs ys : List (List ℕ))
    → next_after bits p next (xs ++ ys) ≡ next_after bits p (next_after bits p next xs) ys
next_append bits p next [] ys = refl
next_append bits p next (x ∷ xs) ys = next_append bits p (next_behind next (read_sdu bits p next x)) xs ys

pub read_append : (bits : ℕ) (p : Protection) (next : ℕ) (xs ys : List (List ℕ))
    → all_read bits p next (xs ++ ys) ≡ all_read bits p next xs ++ all_read bits p (next_after bits p next xs) ys
read_append bits p next [] ys = refl
read_append bits p next (x ∷ xs) ys =
    let one = read_sdu bits p next x in
    ap (λ (l : List (List ℕ)). octets_of one ++ l) (read_append bits p (next_behind next one) xs ys)
    ∙ sym (append_assoc (octets_of one) (all_read bits p (next_behind next one) xs)
    (all_read bits p (next_after bits p (next_behind next one) xs) ys))

-- ---- a flow that reads some

abbrev pub read_to : List (List ℕ) → Reader → Reader
read_to sdus r = record r { next = next_after r.bits r.protection r.next sdus }

pub reader_is : (sdus : List (List ℕ)) (f : EdgeFlow) → (flow_all_read sdus f).reader ≡ read_to sdus f.reader
reader_is [] f = refl
reader_is (sdu ∷ sdus) f = reader_is sdus (flow_read sdu f)

abbrev pub reads_by : Reader → List (List ℕ) → List (List ℕ)
reads_by r sdus = all_read r.bits r.protection r.next sdus

with_none : (reads ups : List (List ℕ)) (p : Pairing) → ArePaired reads ups p → ArePaired (reads ++ []) ups p
with_none reads ups p h = subst (λ (l : List (List ℕ)). ArePaired l ups p) (sym (append-nil reads)) h

one_pairs : (reads ups : List (List ℕ)) (one : Option ReadSdu) (p : Pairing) → ArePaired reads ups p
    → ArePaired (reads ++ octets_of one) ups (pairs_with one p)
one_pairs reads ups None p h = with_none reads ups p h
one_pairs reads ups (Some one) p h = read_pairs one.octets reads ups p h

pub pairs_are : (sdus reads ups : List (List ℕ)) (f : EdgeFlow) → ArePaired reads ups f.pairs
    → ArePaired (reads ++ reads_by f.reader sdus) ups (flow_all_read sdus f).pairs
pairs_are [] reads ups f h = with_none reads ups f.pairs h
pairs_are (sdu ∷ sdus) reads ups f h =
    let one = read_sdu f.reader.bits f.reader.protection f.reader.next sdu in
    let rest = reads_by (flow_read sdu f).reader sdus in
    subst (λ (l : List (List ℕ)). ArePaired l ups (flow_all_read (sdu ∷ sdus) f).pairs)
    (append_assoc reads (octets_of one) rest)
    (pairs_are sdus (reads ++ octets_of one) ups (flow_read sdu f) (one_pairs reads ups one f.pairs h))
