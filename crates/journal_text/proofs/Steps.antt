-- A list that is read piece by piece.
use Rattle.std.proofs.Common.{◌≡◌, ◌<◌, ◌∙◌, ℕ, zero, suc, List, [], ◌∷◌, ◌++◌, length, map, All, Ok, Result}
use Rattle.std.proofs.Common.{ap, sym, refl, arith, append_assoc, append-nil}
use Rattle.std.proofs.lemmas.List.{map-append}
use Rattle.std.proofs.lemmas.List.Elements.{All-append}
use Rattle.std.specs.Fmt.{decimal}
use Rattle.rlc_pdu.specs.declared.pdu.Nack.{Nack}
use Rattle.air_record.specs.Text.{commas, lens_text, nacks_text, nack_text}
use Rattle.journal_text.specs.declared.fault.TextFault.{TextFault}
use Rattle.journal_text.specs.Answers.{◌>>=◌}
use Rattle.journal_text.specs.Pieces.{pieces}
use Rattle.journal_text.specs.Fields.{number_to}
use Rattle.journal_text.specs.Lists.{numbers_of, entries_of, nack_of}
use Rattle.journal_text.proofs.Cuts.{commas_again, some-pieces}

pub numbers_step : (lens : List ℕ) (n : ℕ) (word : List ℕ) (ws more : List (List ℕ)) (r : Result (List ℕ) TextFault)
    → ws ≡ word ∷ more → Ok n ≡ number_to 4294967295 word → numbers_of lens ws ≡ r
    → numbers_of (lens ++ n ∷ []) more ≡ r
unfolding numbers_of
numbers_step lens n word ws more r is read h =
    ap (λ (o : Result ℕ TextFault). o >>= λ m. numbers_of (lens ++ m ∷ []) more) read
    ∙ ap (numbers_of lens) (sym is) ∙ h

pub entries_step : (nacks : List Nack) (n : Nack) (word : List ℕ) (ws more : List (List ℕ))
    (r : Result (List Nack) TextFault) → ws ≡ word ∷ more → Ok n ≡ nack_of word → entries_of nacks ws ≡ r
    → entries_of (nacks ++ n ∷ []) more ≡ r
unfolding entries_of
entries_step nacks n word ws more r is read h =
    ap (λ (o : Result Nack TextFault). o >>= λ m. entries_of (nacks ++ m ∷ []) more) read
    ∙ ap (entries_of nacks) (sym is) ∙ h

pub texts_step : {X : Type 0} (f : X → List ℕ) (xs : List X) (x : X) (word : List ℕ) (ws more : List (List ℕ))
    (whole : List (List ℕ)) → ws ≡ word ∷ more → f x ≡ word → map f xs ++ ws ≡ whole
    → map f (xs ++ x ∷ []) ++ more ≡ whole
texts_step f xs x word ws more whole is written h =
    ap (λ (r : List (List ℕ)). r ++ more) (map-append f xs (x ∷ [])) ∙ append_assoc (map f xs) (f x ∷ []) more
    ∙ ap (λ (w : List ℕ). map f xs ++ w ∷ more) written ∙ ap (λ (r : List (List ℕ)). map f xs ++ r) (sym is) ∙ h

all-one : {X : Type 0} (P : X → Type 0) (x : X) → P x → All P (x ∷ [])
all-one P x h zero d inside = h
all-one P x h (suc k) d inside = absurd (omega (arith, inside))

pub all_step : {X : Type 0} (P : X → Type 0) (xs : List X) (x : X) → All P xs → P x → All P (xs ++ x ∷ [])
all_step P xs x h one = All-append P xs (x ∷ []) h (all-one P x one)

some-mapped : {X : Type 0} (f : X → List ℕ) (xs : List X) (text : List ℕ) → map f xs ≡ pieces 44 text → 0 < length xs
some-mapped f [] text h = let some = some-pieces 44 text in grind (arith, h, some)
some-mapped f (x ∷ xs) text h = omega arith

-- numbers are written as they were read
pub lens_whole : (lens : List ℕ) (text : List ℕ) → map decimal lens ++ [] ≡ pieces 44 text
    → (lens_text lens ≡ text) × (0 < length lens)
lens_whole lens text h =
    let e = sym (append-nil (map decimal lens)) ∙ h in
    (ap commas e ∙ commas_again text, some-mapped decimal lens text e)

nacks-commas : (nacks : List Nack) → 0 < length nacks → nacks_text nacks ≡ commas (map nack_text nacks)
nacks-commas [] some = absurd (omega (arith, some))
nacks-commas (n ∷ ns) some = refl

-- and so are entries
pub nacks_whole : (nacks : List Nack) (text : List ℕ) → map nack_text nacks ++ [] ≡ pieces 44 text
    → nacks_text nacks ≡ text
nacks_whole nacks text h =
    let e = sym (append-nil (map nack_text nacks)) ∙ h in
    nacks-commas nacks (some-mapped nack_text nacks text e) ∙ ap commas e ∙ commas_again text
