-- The pieces of a text, and the text of pieces.
use Rattle.std.proofs.Common.{◌≡◌, ◌≢◌, ◌<◌, ◌≤◌, ◌+◌, ◌-◌, ◌==◌, ◌∙◌, ℕ, zero, suc, true, false, Bool, List, []}
use Rattle.std.proofs.Common.{◌∷◌, ◌++◌, length, take, drop, slice_index, Option, Some, None, inl, inr, refl, sym, ap}
use Rattle.std.proofs.Common.{append_assoc, append-nil, if◌then◌else◌, arith}
use Rattle.std.proofs.lemmas.Bool.{cases_lt}
use Rattle.std.proofs.lemmas.List.{length-append, length-drop, get_or-drop}
use Rattle.std.specs.Borrow.{Bor}
use Rattle.memchr.specs.Find.{Nowhere, Passes, IsFirstByte, is_byte}
use Rattle.air_text.specs.Words.{texts}
use Rattle.air_record.specs.Text.{worded, ended, commas, comma_before}
use Rattle.journal_text.specs.Pieces.{before, behind, onto_first, pieces, left, parts, glued}

-- ---- the first of a kind

-- an octet stands nowhere in a text
abbrev pub Lacks : ℕ → List ℕ → Type 0
Lacks at xs = (k : ℕ) → k < length xs → slice_index xs k ≢ at

rest-lacks : (at x : ℕ) (xs : List ℕ) → Lacks at (x ∷ xs) → Lacks at xs
rest-lacks at x xs free k inside = free (suc k) (omega (arith, inside))

none-there : (at : ℕ) (xs : List ℕ) → Lacks at xs → (before at xs ≡ xs) × (behind at xs ≡ None)
unfolding before behind
none-there at [] free = (refl, refl)
none-there at (x ∷ xs) free =
    let no : (x == at) ≡ false = grind (arith, free 0 (omega arith)) in
    let p = none-there at xs (rest-lacks at x xs free) in (rw no (ap (λ (r : List ℕ). x ∷ r) p.0), rw no p.1)

one-there : (place at : ℕ) (xs : List ℕ) → place < length xs → slice_index xs place ≡ at
    → ((k : ℕ) → k < place → slice_index xs k ≢ at)
    → (before at xs ≡ take place xs) × (behind at xs ≡ Some (drop (suc place) xs))
unfolding before behind
one-there place at [] inside there free = absurd (omega (arith, inside))
one-there zero at (x ∷ xs) inside there free =
    let yes : (x == at) ≡ true = grind (arith, there) in (rw yes refl, rw yes refl)
one-there (suc place) at (x ∷ xs) inside there free =
    let no : (x == at) ≡ false = grind (arith, free 0 (omega arith)) in
    let p = one-there place at xs (omega (arith, inside)) there (λ k less. free (suc k) (omega (arith, less))) in
    (rw no (ap (λ (r : List ℕ). x ∷ r) p.0), rw no p.1)

pub split_none : (at : ℕ) (text : List ℕ) → IsFirstByte (is_byte at) text None
    → (before at text ≡ text) × (behind at text ≡ None)
split_none at text first = none-there at text (λ k inside is. first k (omega arith) inside (grind (arith, is)))

pub split_some : (at place : ℕ) (text : List ℕ) → IsFirstByte (is_byte at) text (Some place)
    → (before at text ≡ take place text) × (behind at text ≡ Some (drop (place + 1) text))
split_some at place text first =
    let next : place + 1 ≡ suc place = omega arith in
    rw next (one-there place at text first.0.high (grind (arith, first.1))
    (λ k less is. first.0.before k (omega arith) less (grind (arith, is))))

-- ---- the text of a first piece and what is behind

front-glued : (x at : ℕ) (front : List ℕ) (rest : Option (List ℕ))
    → glued at (x ∷ front) rest ≡ x ∷ glued at front rest
front-glued x at front None = refl
front-glued x at front (Some rest) = refl

pub glued_again : (at : ℕ) (text : List ℕ) → glued at (before at text) (behind at text) ≡ text
unfolding before behind
glued_again at [] = refl
glued_again at (x ∷ xs) =
    elim (x == at) as (λ b. b ≡ (x == at) → glued at (if b then [] else x ∷ before at xs)
    (if b then Some xs else behind at xs) ≡ x ∷ xs) [
      | true ↦ λ e. let same : at ≡ x = grind (arith, e) in ap (λ (y : ℕ). y ∷ xs) same
      | false ↦ λ e. front-glued x at (before at xs) (behind at xs)
          ∙ ap (λ (r : List ℕ). x ∷ r) (glued_again at xs)
    ] refl

pub pieces_split : (at : ℕ) (text : List ℕ) → pieces at text ≡ before at text ∷ left at (behind at text)
unfolding before behind pieces
pieces_split at [] = refl
pieces_split at (x ∷ xs) =
    elim (x == at) as (λ b. (if b then [] ∷ pieces at xs else onto_first x (pieces at xs))
    ≡ (if b then [] else x ∷ before at xs) ∷ left at (if b then Some xs else behind at xs)) [
      | true ↦ refl
      | false ↦ ap (onto_first x) (pieces_split at xs)
    ]

-- ---- the first of a kind behind octets that aren't of it

abbrev pub Free : ℕ → ℕ → List ℕ → Type 0
Free at near text = Nowhere (Passes (is_byte at) text) 0 near

far_test : (at near k : ℕ) (text : List ℕ) → near ≤ k → Passes (is_byte at) text k
    → Passes (is_byte at) (drop near text) (k - near)
far_test at near k text behind here =
    let place : near + (k - near) ≡ k = omega (arith, behind) in
    ap (is_byte at) (get_or-drop near text (k - near) 0 ∙ ap (slice_index text) place) ∙ here

-- up to a place behind those
free_to : (at near place : ℕ) (text : List ℕ) → Free at near text → Free at place (drop near text)
    → Free at (near + place) text
free_to at near place text free first k low less here =
    elim (cases_lt k near) as (λ w. ⊥) [
      | inl before ↦ free k low before here
      | inr behind ↦
          first (k - near) (omega arith) (omega (arith, behind, less)) (far_test at near k text behind here)
    ]

pub first_far : (at near : ℕ) (text : List ℕ) → near ≤ length text → Free at near text
    → IsFirstByte (is_byte at) (drop near text) None → IsFirstByte (is_byte at) text None
first_far at near text within free first k low less =
    let long = length-drop near text in
    free_to at near (length (drop near text)) text free first k low (omega (arith, long, within, less))

pub place_far : (at near place : ℕ) (text : List ℕ) → near ≤ length text → Free at near text
    → IsFirstByte (is_byte at) (drop near text) (Some place) → IsFirstByte (is_byte at) text (Some (near + place))
place_far at near place text within free first =
    let long = length-drop near text in (
      record {
        low = omega arith;
        high = omega (arith, long, within, first.0.high);
        before = free_to at near place text free first.0.before;
      },
      ap (is_byte at) (sym (get_or-drop near text place 0)) ∙ first.1,
    )

pub ruleset splits = (split_none, split_some, glued_again, pieces_split)

-- ---- the text of pieces

-- pieces with an octet before each
abbrev pub parted : ℕ → List (List ℕ) → List ℕ
parted at [] = []
parted at (w ∷ ws) = at ∷ (w ++ parted at ws)

-- pieces with an octet between two
abbrev pub joined_by : ℕ → List (List ℕ) → List ℕ
joined_by at [] = []
joined_by at (w ∷ ws) = w ++ parted at ws

first-joined : (at x : ℕ) (ws : List (List ℕ)) → joined_by at (onto_first x ws) ≡ x ∷ joined_by at ws
first-joined at x [] = refl
first-joined at x (w ∷ ws) = refl

pub some-pieces : (at : ℕ) (text : List ℕ) → 0 < length (pieces at text)
some-pieces at text = let e = pieces_split at text in grind (arith, e)

part-joined : (at : ℕ) (ws : List (List ℕ)) → 0 < length ws → parted at ws ≡ at ∷ joined_by at ws
part-joined at [] some = absurd (omega (arith, some))
part-joined at (w ∷ ws) some = refl

pub joined_again : (at : ℕ) (text : List ℕ) → joined_by at (pieces at text) ≡ text
unfolding pieces
joined_again at [] = refl
joined_again at (x ∷ xs) =
    elim (x == at) as (λ b. b ≡ (x == at)
    → joined_by at (if b then [] ∷ pieces at xs else onto_first x (pieces at xs)) ≡ x ∷ xs) [
      | true ↦ λ e. let same : at ≡ x = grind (arith, e) in
          part-joined at (pieces at xs) (some-pieces at xs) ∙ ap (λ (r : List ℕ). at ∷ r) (joined_again at xs)
          ∙ ap (λ (y : ℕ). y ∷ xs) same
      | false ↦ λ e. first-joined at x (pieces at xs) ∙ ap (λ (r : List ℕ). x ∷ r) (joined_again at xs)
    ] refl

commas-parted : (ws : List (List ℕ)) → comma_before ws ≡ parted 44 ws
commas-parted [] = refl
commas-parted (w ∷ ws) = ap (λ (r : List ℕ). 44 ∷ (w ++ r)) (commas-parted ws)

pub commas-joined : (ws : List (List ℕ)) → commas ws ≡ joined_by 44 ws
commas-joined [] = refl
commas-joined (w ∷ ws) = ap (λ (r : List ℕ). w ++ r) (commas-parted ws)

pub ended-parted : (ws : List (List ℕ)) → ended ws ≡ parted 32 ws ++ 10 ∷ []
ended-parted [] = refl
ended-parted (w ∷ ws) =
    ap (λ (r : List ℕ). 32 ∷ r)
    (ap (λ (r : List ℕ). w ++ r) (ended-parted ws) ∙ sym (append_assoc w (parted 32 ws) (10 ∷ [])))

pub worded-joined : (ws : List (List ℕ)) → worded ws ≡ joined_by 32 ws ++ 10 ∷ []
worded-joined [] = refl
worded-joined (w ∷ ws) =
    ap (λ (r : List ℕ). w ++ r) (ended-parted ws) ∙ sym (append_assoc w (parted 32 ws) (10 ∷ []))

pub commas_again : (text : List ℕ) → commas (pieces 44 text) ≡ text
commas_again text = commas-joined (pieces 44 text) ∙ joined_again 44 text

pub words_again : (text : List ℕ) → worded (pieces 32 text) ≡ text ++ 10 ∷ []
words_again text =
    worded-joined (pieces 32 text) ∙ ap (λ (r : List ℕ). r ++ 10 ∷ []) (joined_again 32 text)

-- ---- the pieces of a text that was made of some

-- an octet stands in no word
abbrev pub is_free : ℕ → List ℕ → Bool
is_free at [] = true
is_free at (x ∷ xs) = if x == at then false else is_free at xs

abbrev pub are_free : ℕ → List (List ℕ) → Bool
are_free at [] = true
are_free at (w ∷ ws) = if is_free at w then are_free at ws else false

pub free-parts : (at x : ℕ) (xs : List ℕ) → is_free at (x ∷ xs) ≡ true
    → ((x == at) ≡ false) × (is_free at xs ≡ true)
free-parts at x xs h =
    elim (x == at) as (λ b. (if b then false else is_free at xs) ≡ true → (b ≡ false) × (is_free at xs ≡ true)) [
      | true ↦ λ f. cc
      | false ↦ λ f. (refl, f)
    ] h

pub free-both : (at : ℕ) (w : List ℕ) (ws : List (List ℕ)) → are_free at (w ∷ ws) ≡ true
    → (is_free at w ≡ true) × (are_free at ws ≡ true)
free-both at w ws h =
    elim (is_free at w) as (λ b. (if b then are_free at ws else false) ≡ true
    → (b ≡ true) × (are_free at ws ≡ true)) [
      | true ↦ λ f. (refl, f)
      | false ↦ λ f. cc
    ] h

pub free-append : (at : ℕ) (a b : List ℕ) → is_free at a ≡ true → is_free at b ≡ true → is_free at (a ++ b) ≡ true
free-append at [] b h g = g
free-append at (x ∷ xs) b h g = let p = free-parts at x xs h in rw p.0 (free-append at xs b p.1 g)

-- a word alone, and one with others behind
pub before-alone : (at : ℕ) (w : List ℕ) → is_free at w ≡ true → (before at w ≡ w) × (behind at w ≡ None)
unfolding before behind
before-alone at [] h = (refl, refl)
before-alone at (x ∷ xs) h =
    let p = free-parts at x xs h in
    let q = before-alone at xs p.1 in (rw p.0 (ap (λ (r : List ℕ). x ∷ r) q.0), rw p.0 q.1)

pub before-rest : (at : ℕ) (w rest : List ℕ) → is_free at w ≡ true → (at == at) ≡ true
    → (before at (w ++ at ∷ rest) ≡ w) × (behind at (w ++ at ∷ rest) ≡ Some rest)
unfolding before behind
before-rest at [] rest h same = (rw same refl, rw same refl)
before-rest at (x ∷ xs) rest h same =
    let p = free-parts at x xs h in
    let q = before-rest at xs rest p.1 same in (rw p.0 (ap (λ (r : List ℕ). x ∷ r) q.0), rw p.0 q.1)

pub pieces-joined : (at : ℕ) (w : List ℕ) (ws : List (List ℕ)) → (at == at) ≡ true → are_free at (w ∷ ws) ≡ true
    → pieces at (joined_by at (w ∷ ws)) ≡ w ∷ ws
pieces-joined at w [] same h =
    let q = before-alone at w (free-both at w [] h).0 in
    ap (pieces at) (append-nil w) ∙ pieces_split at w ∙ rw (q.0, q.1) refl
pieces-joined at w (v ∷ ws) same h =
    let p = free-both at w (v ∷ ws) h in
    let q = before-rest at w (joined_by at (v ∷ ws)) p.0 same in
    pieces_split at (w ++ at ∷ joined_by at (v ∷ ws)) ∙ rw (q.0, q.1) (ap (λ (r : List (List ℕ)). w ∷ r)
    (pieces-joined at v ws same p.1))

-- ---- more pieces than some

pub texts-long : (words : List (Bor (List ℕ))) → length (texts words) ≡ length words
texts-long [] = refl
texts-long (w ∷ ws) = ap suc (texts-long ws)

some-parts : (n : ℕ) (text : List ℕ) → 0 < length (parts 32 n (Some text))
some-parts zero text = omega arith
some-parts (suc n) text = omega arith

pub beyond_full : (n : ℕ) (words : List (Bor (List ℕ))) (text : List ℕ) (all : List (List ℕ))
    → texts words ++ parts 32 n (Some text) ≡ all → length words ≡ 8 → 8 < length all
beyond_full n words text all h full =
    let both = length-append (texts words) (parts 32 n (Some text)) in
    let whole = ap (λ (ws : List (List ℕ)). length ws) h in
    omega (arith, both, whole, texts-long words, some-parts n text, full)
