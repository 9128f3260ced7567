-- The entries of a STATUS read back from their text.
use Rattle.std.proofs.Common.{◌≡◌, ◌<◌, ◌^◌, ◌==◌, ◌∙◌, ℕ, List, [], ◌∷◌, ◌++◌, map, ap, refl, sym, true, false}
use Rattle.std.proofs.Common.{if◌then◌else◌, append-nil, codes, Option, Some, None}
use Rattle.std.specs.Str.{bytes_eq}
use Rattle.std.specs.Fmt.{decimal}
use Rattle.std.proofs.lemmas.Fmt.{digits_decimal}
use Rattle.rlc_pdu.specs.declared.pdu.Part.{Part}
use Rattle.rlc_pdu.specs.declared.pdu.Nack.{Nack}
use Rattle.air_record.specs.Text.{comma_before, part_text, nack_text, nacks_text}
use Rattle.air_text.specs.Spoken.{is_clear}
use Rattle.law_text.specs.Lens.{cut_by, is_free, part_of, nack_back, nacks_back, IsGoodPart, IsGoodNack, AreGoodNacks}
use Rattle.law_text.proofs.Parts.{own, back-number, no-dash, two-dash}
use Rattle.law_text.proofs.Clear.{clear-number}
use Rattle.law_text.proofs.LensBack.{cut-free, comma-free, hyphen-free, colon-free, clear-append}

free-parts : (at x : ℕ) (xs : List ℕ) → is_free at (x ∷ xs) ≡ true → ((x == at) ≡ false) × (is_free at xs ≡ true)
free-parts at x xs h =
    elim (x == at) as (λ b. (if b then false else is_free at xs) ≡ true → (b ≡ false) × (is_free at xs ≡ true)) [
      | true ↦ λ f. cc
      | false ↦ λ f. (refl, f)
    ] h

free-append : (at : ℕ) (a b : List ℕ) → is_free at a ≡ true → is_free at b ≡ true → is_free at (a ++ b) ≡ true
free-append at [] b h g = g
free-append at (x ∷ xs) b h g = let p = free-parts at x xs h in rw p.0 (free-append at xs b p.1 g)

-- a word alone
cut-one : (at : ℕ) (w : List ℕ) → is_free at w ≡ true → cut_by at [] w ≡ w ∷ []
unfolding cut_by
cut-one at w h = ap (cut_by at []) (sym (append-nil w)) ∙ cut-free at w [] [] h

-- two words with the octet between
cut-two : (at : ℕ) (w v : List ℕ) → is_free at w ≡ true → is_free at v ≡ true → (at == at) ≡ true
    → cut_by at [] (w ++ at ∷ v) ≡ w ∷ v ∷ []
unfolding cut_by
cut-two at w v h g same = cut-free at w [] (at ∷ v) h ∙ rw same (ap (λ (r : List (List ℕ)). w ∷ r) (cut-one at v g))

back-range : (p : Part) → (p.start < 2 ^ 64) × (p.end < 2 ^ 64)
    → part_of (cut_by 45 [] (decimal p.start ++ (45 ∷ decimal p.end))) ≡ p
back-range p h =
    rw (
      cut-two 45 (decimal p.start) (decimal p.end) (hyphen-free p.start h.0) (hyphen-free p.end h.1) refl,
      back-number p.start h.0,
      back-number p.end h.1,
    ) refl

range-free : (p : Part) → (p.start < 2 ^ 64) × (p.end < 2 ^ 64)
    → is_free 58 (decimal p.start ++ (45 ∷ decimal p.end)) ≡ true
range-free p h = free-append 58 (decimal p.start) (45 ∷ decimal p.end) (colon-free p.start h.0) (colon-free p.end h.1)

part-back : (sn : ℕ) (part : Option Part) → sn < 2 ^ 64 → IsGoodPart part
    → nack_back (part_text sn part) ≡ record { sn = sn; part = part }
unfolding nack_back
part-back sn None small h = rw (cut-one 58 (decimal sn) (colon-free sn small), back-number sn small) refl
part-back sn (Some p) small h =
    rw (
      cut-two 58 (decimal sn) (decimal p.start ++ (45 ∷ decimal p.end)) (colon-free sn small) (range-free p h) refl,
      back-number sn small,
      back-range p h,
    ) refl

pub back-nack : (n : Nack) → IsGoodNack n → nack_back (nack_text n) ≡ n
back-nack n h = part-back n.sn n.part h.number h.part

part-free : (sn : ℕ) (part : Option Part) → sn < 2 ^ 64 → IsGoodPart part → is_free 44 (part_text sn part) ≡ true
part-free sn None small h = comma-free sn small
part-free sn (Some p) small h =
    free-append 44 (decimal sn) (58 ∷ (decimal p.start ++ (45 ∷ decimal p.end))) (comma-free sn small)
    (free-append 44 (decimal p.start) (45 ∷ decimal p.end) (comma-free p.start h.0) (comma-free p.end h.1))

part-clear : (sn : ℕ) (part : Option Part) → sn < 2 ^ 64 → IsGoodPart part → is_clear (part_text sn part) ≡ true
part-clear sn None small h = clear-number sn small
part-clear sn (Some p) small h =
    clear-append (decimal sn) (58 ∷ (decimal p.start ++ (45 ∷ decimal p.end))) (clear-number sn small)
    (clear-append (decimal p.start) (45 ∷ decimal p.end) (clear-number p.start h.0) (clear-number p.end h.1))

cut-nacks : (acc : List ℕ) (ns : List Nack) → AreGoodNacks ns
    → cut_by 44 acc (comma_before (map nack_text ns)) ≡ acc ∷ map nack_text ns
unfolding cut_by
cut-nacks acc [] h = refl
cut-nacks acc (n ∷ ns) h =
    ap (λ (r : List (List ℕ)). acc ∷ r)
    (cut-free 44 (nack_text n) [] (comma_before (map nack_text ns)) (part-free n.sn n.part h.0.number h.0.part)
    ∙ cut-nacks (nack_text n) ns h.1)

each-back : (ns : List Nack) → AreGoodNacks ns → map nack_back (map nack_text ns) ≡ ns
each-back [] h = refl
each-back (n ∷ ns) h = rw (back-nack n h.0, each-back ns h.1) refl

-- more than one octet is no -
long-dash : (w : List ℕ) (x : ℕ) (r : List ℕ) → (x == 45) ≡ false → bytes_eq (w ++ x ∷ r) (codes "-") ≡ false
long-dash [] x r h = rw h refl
long-dash (a ∷ []) x r h = two-dash a x r
long-dash (a ∷ b ∷ w) x r h = two-dash a b (w ++ x ∷ r)

part-dash : (sn : ℕ) (part : Option Part) → sn < 2 ^ 64 → bytes_eq (part_text sn part) (codes "-") ≡ false
part-dash sn None small = no-dash (decimal sn) (digits_decimal own sn small)
part-dash sn (Some p) small = long-dash (decimal sn) 58 (decimal p.start ++ (45 ∷ decimal p.end)) refl

nacks-dash : (n : Nack) (ns : List Nack) → n.sn < 2 ^ 64
    → bytes_eq (nack_text n ++ comma_before (map nack_text ns)) (codes "-") ≡ false
nacks-dash n [] small = rw (append-nil (nack_text n)) (part-dash n.sn n.part small)
nacks-dash n (m ∷ ns) small = long-dash (nack_text n) 44 (nack_text m ++ comma_before (map nack_text ns)) refl

pub back-nacks : (ns : List Nack) → AreGoodNacks ns → nacks_back (nacks_text ns) ≡ ns
unfolding nacks_back
back-nacks [] h = refl
back-nacks (n ∷ ns) h =
    rw (nacks-dash n ns h.0.number)
    (ap (λ (r : List (List ℕ)). map nack_back r)
    (cut-free 44 (nack_text n) [] (comma_before (map nack_text ns)) (part-free n.sn n.part h.0.number h.0.part)
    ∙ cut-nacks (nack_text n) ns h.1)
    ∙ each-back (n ∷ ns) h)

more-clear : (ns : List Nack) → AreGoodNacks ns → is_clear (comma_before (map nack_text ns)) ≡ true
more-clear [] h = refl
more-clear (n ∷ ns) h =
    clear-append (nack_text n) (comma_before (map nack_text ns)) (part-clear n.sn n.part h.0.number h.0.part)
    (more-clear ns h.1)

pub clear-nacks : (ns : List Nack) → AreGoodNacks ns → is_clear (nacks_text ns) ≡ true
clear-nacks [] h = refl
clear-nacks (n ∷ ns) h =
    clear-append (nack_text n) (comma_before (map nack_text ns)) (part-clear n.sn n.part h.0.number h.0.part)
    (more-clear ns h.1)
