-- Words of which the last is what is left of a text, unsearched, and all words of it.
use Rattle.std.proofs.Common.{◌≡◌, ◌≤◌, ◌∙◌, ◌==◌, ℕ, zero, suc, Bool, true, false, List, [], ◌∷◌, ◌++◌}
use Rattle.std.proofs.Common.{length, Option, Some, None, Result, Ok, Err, if◌then◌else◌, refl, sym, ap, subst, arith}
use Rattle.std.proofs.Common.{append-nil, append_assoc, codes}
use Rattle.std.specs.Str.{bytes_eq}
use Rattle.std.proofs.lemmas.Slice.Eq.{bytes_eq-Decides}
use Rattle.hex.specs.Hex.{hex_digit_value, decode_of}
use Rattle.hex.specs.declared.error.FromHexError.{FromHexError}
use Rattle.std.specs.List.{list_all}
use Rattle.text_digits.specs.Pairs.{with_pair, is_no_capital}
use Rattle.text_digits.proofs.DecodeLaws.{Says, with-none, with-nothing}
use Rattle.air_record.specs.declared.record.Record.{Record}
use Rattle.air_record.specs.Text.{worded}
use Rattle.journal_text.specs.declared.fault.TextFault.{TextFault}
use Rattle.journal_text.specs.declared.fault.TextFault.TheVariants.{NotARecord, NoMemory}
use Rattle.journal_text.specs.Answers.{Gives, none, ◌>>=◌}
use Rattle.journal_text.specs.Blocks.{block_of}
use Rattle.journal_text.specs.Events.{up_of, event_of}
use Rattle.journal_text.specs.Fields.{octets_of, octets_in, number_to}
use Rattle.journal_text.specs.Names.{side_of, direction_of, fresh_of}
use Rattle.journal_text.specs.Pieces.{before, behind, pieces, left, parts, glued}
use Rattle.journal_text.specs.Reading.{words_of, searched}
use Rattle.journal_text.proofs.Cuts.{is_free, before-alone, glued_again, parted, ended-parted, pieces_split}
use Rattle.journal_text.proofs.Octets.{IsPairs, as_pairs}
use Rattle.journal_text.proofs.Many.{then-none, side-answers, number-answers}

-- ---- the text of them

abbrev behind-parted : Option (List ℕ) → List ℕ
behind-parted None = []
behind-parted (Some text) = 32 ∷ text

glued-parted : (front : List ℕ) (rest : Option (List ℕ)) → glued 32 front rest ≡ front ++ behind-parted rest
glued-parted front None = sym (append-nil front)
glued-parted front (Some rest) = refl

parted-parts : (n : ℕ) (rest : Option (List ℕ)) → parted 32 (parts 32 n rest) ≡ behind-parted rest
parted-parts n None = refl
parted-parts zero (Some text) = ap (λ (r : List ℕ). 32 ∷ r) (append-nil text)
parted-parts (suc n) (Some text) =
    ap (λ (r : List ℕ). 32 ∷ (before 32 text ++ r)) (parted-parts n (behind 32 text))
    ∙ ap (λ (r : List ℕ). 32 ∷ r) (sym (glued-parted (before 32 text) (behind 32 text)) ∙ glued_again 32 text)

pub parts_again : (first text : List ℕ) (n : ℕ) (rest : Option (List ℕ)) → glued 32 first rest ≡ text
    → worded (first ∷ parts 32 n rest) ≡ text ++ 10 ∷ []
parts_again first text n rest whole =
    ap (λ (r : List ℕ). first ++ r) (ended-parted (parts 32 n rest))
    ∙ sym (append_assoc first (parted 32 (parts 32 n rest)) (10 ∷ []))
    ∙ ap (λ (r : List ℕ). (first ++ r) ++ 10 ∷ []) (parted-parts n rest)
    ∙ ap (λ (r : List ℕ). r ++ 10 ∷ []) (sym (glued-parted first rest) ∙ whole)

-- there are no more of them
left-split : (text : List ℕ) → left 32 (Some text) ≡ before 32 text ∷ left 32 (behind 32 text)
left-split = pieces_split 32

pub parts_few : (n : ℕ) (rest : Option (List ℕ)) → length (parts 32 n rest) ≤ length (left 32 rest)
parts_few n None = omega arith
parts_few zero (Some text) = rw (left-split text) (omega arith)
parts_few (suc n) (Some text) = rw (left-split text) (omega (arith, parts_few n (behind 32 text)))

-- where there are no more than were searched, they are all words
pub parts_all : (n : ℕ) (rest : Option (List ℕ)) → length (parts 32 n rest) ≤ n → parts 32 n rest ≡ left 32 rest
parts_all n None few = refl
parts_all zero (Some text) few = absurd (omega (arith, few))
parts_all (suc n) (Some text) few =
    rw (left-split text)
    (ap (λ (r : List (List ℕ)). before 32 text ∷ r) (parts_all n (behind 32 text) (omega (arith, few))))

-- ---- octets have no space among them

pairs-space : (pairs : List ℕ → Option (List ℕ)) → IsPairs pairs → (text : List ℕ) → is_free 32 text ≡ false
    → pairs text ≡ None
pairs-space pairs p [] space = cc
pairs-space pairs p (x ∷ []) space = p.single x
pairs-space pairs p (x ∷ y ∷ rest) space =
    p.pair x y rest ∙ by (x == 32) (y == 32) refl refl space (pairs-space pairs p rest)
  where
    by : (a b : Bool) → a ≡ (x == 32) → b ≡ (y == 32)
        → (if a then false else (if b then false else is_free 32 rest)) ≡ false
        → (is_free 32 rest ≡ false → pairs rest ≡ None)
        → with_pair (hex_digit_value x) (hex_digit_value y) (pairs rest) ≡ None
    by true b first second space behind = let same : x ≡ 32 = grind (arith, first) in rw same refl
    by false true first second space behind =
        let same : y ≡ 32 = grind (arith, second) in rw same (with-none (hex_digit_value x) (pairs rest))
    by false false first second space behind =
        rw (behind space) (with-nothing (hex_digit_value x) (hex_digit_value y))

not-decoded : (d : Result (List ℕ) FromHexError) → Says d None → octets_in d ≡ none
not-decoded (Ok read) says = cc
not-decoded (Err e) says = refl

octets-space : (text : List ℕ) → is_free 32 text ≡ false → octets_of text ≡ none
unfolding octets_of
octets-space text space =
    either (length text == 0) none _ refl
    (either (list_all is_no_capital text) (octets_in (decode_of text)) none
    (not-decoded (decode_of text)
    (subst (λ (o : Option (List ℕ)). Says (decode_of text) o) (pairs-space as_pairs.0 as_pairs.1 text space)
    (as_pairs.1.says text))) refl)
  where
    either : (b : Bool) (x y : Result (List ℕ) TextFault) → x ≡ none → y ≡ none → (if b then x else y) ≡ none
    either true x y first second = first
    either false x y first second = second

-- ---- what is read of them

-- a text with a space has two pieces or more
some-behind : (text : List ℕ) → is_free 32 text ≡ false → (rest : List ℕ) × (behind 32 text ≡ Some rest)
unfolding behind
some-behind [] space = cc
some-behind (x ∷ xs) space = by (x == 32) space (some-behind xs)
  where
    by : (b : Bool) → (if b then false else is_free 32 xs) ≡ false
        → (is_free 32 xs ≡ false → (rest : List ℕ) × (behind 32 xs ≡ Some rest))
        → (rest : List ℕ) × ((if b then Some xs else behind 32 xs) ≡ Some rest)
    by true space behind-xs = (xs, refl)
    by false space behind-xs = behind-xs space

two-pieces : (text : List ℕ) → is_free 32 text ≡ false
    → (p : List ℕ) × (q : List ℕ) × (more : List (List ℕ)) × (pieces 32 text ≡ p ∷ q ∷ more)
two-pieces text space = let some = some-behind text space in (
  before 32 text,
  before 32 some.0,
  left 32 (behind 32 some.0),
  left-split text
      ∙ ap (λ (o : Option (List ℕ)). before 32 text ∷ left 32 o) some.1
      ∙ ap (λ (r : List (List ℕ)). before 32 text ∷ r) (left-split some.0),
)

one-piece : (text : List ℕ) → is_free 32 text ≡ true → pieces 32 text ≡ text ∷ []
one-piece text free = let alone = before-alone 32 text free in
    left-split text ∙ rw (alone.0, alone.1) refl

-- what one word gave that is read as octets, all of its words give
abbrev pub GivesAlike : (List (List ℕ) → Result Record TextFault) → List ℕ → Type 0
GivesAlike of text = (result : Result Record TextFault) → Gives result (of (text ∷ []))
    → Gives result (of (pieces 32 text))

last-gives : (of : List (List ℕ) → Result Record TextFault) (text : List ℕ)
    → ((one : Record) → is_free 32 text ≡ false → of (text ∷ []) ≡ Ok one → ⊥)
    → ((p q : List ℕ) (more : List (List ℕ)) → of (p ∷ q ∷ more) ≡ none) → GivesAlike of text
last-gives of text never many result gives = by (is_free 32 text) refl result gives
  where
    by : (b : Bool) → is_free 32 text ≡ b → (result : Result Record TextFault) → Gives result (of (text ∷ []))
        → Gives result (of (pieces 32 text))
    by true free result gives =
        subst (λ (words : List (List ℕ)). Gives result (of words)) (sym (one-piece text free)) gives
    by false space (Ok one) gives = absurd (never one space gives)
    by false space (Err NoMemory) gives = tt
    by false space (Err NotARecord) gives =
        let two = two-pieces text space in ap of two.3 ∙ many two.0 two.1 two.2

never : {A : Type 0} (m : Result A TextFault) (f : A → Result Record TextFault) (one : Record)
    → ((x : A) → f x ≡ Ok one → ⊥) → (m >>= f) ≡ Ok one → ⊥
never (Ok x) f one h is = h x is
never (Err e) f one h is = cc

no-octets : (m : Result (List ℕ) TextFault) (f : List ℕ → Result Record TextFault) (one : Record) → m ≡ none
    → (m >>= f) ≡ Ok one → ⊥
no-octets (Ok octets) f one none is = cc
no-octets (Err e) f one none is = cc

-- `up`
abbrev up-by : List ℕ → List ℕ → List (List ℕ) → Result Record TextFault
up-by node lcid fields = event_of (codes "up") (node ∷ lcid ∷ fields)

up-alike : (node lcid text : List ℕ) → GivesAlike (up-by node lcid) text
unfolding event_of up_of
up-alike node lcid text =
    last-gives (up-by node lcid) text
    (λ one space. never (side_of node) _ one (λ side. never (number_to 255 lcid) _ one
    (λ n. no-octets (octets_of text) _ one (octets-space text space))))
    (λ p q more. then-none (side_of node) _ (side-answers node) (λ side. then-none (number_to 255 lcid) _
    (number-answers lcid) (λ n. refl)))

-- `block`
abbrev block-by : List ℕ → List ℕ → List ℕ → List ℕ → List (List ℕ) → Result Record TextFault
block-by way process age rv fields = block_of (way ∷ process ∷ age ∷ rv ∷ fields)

block-alike : (way process age rv text : List ℕ) → GivesAlike (block-by way process age rv) text
unfolding block_of
block-alike way process age rv text =
    last-gives (block-by way process age rv) text
    (λ one space. never (direction_of way) _ one (λ direction. never (number_to 4294967295 process) _ one
    (λ n. never (fresh_of age) _ one (λ fresh. never (number_to 255 rv) _ one
    (λ version. no-octets (octets_of text) _ one (octets-space text space))))))
    (λ p q more. refl)

-- ---- by how many words are searched

parts-up : (result : Result Record TextFault) (rest : Option (List ℕ))
    → Gives result (event_of (codes "up") (parts 32 2 rest)) → Gives result (event_of (codes "up") (left 32 rest))
parts-up result None gives = gives
parts-up result (Some t) gives = rw (left-split t) (second (behind 32 t) gives)
  where
    third : (b : List ℕ) (rest : Option (List ℕ))
        → Gives result (event_of (codes "up") (before 32 t ∷ b ∷ parts 32 0 rest))
        → Gives result (event_of (codes "up") (before 32 t ∷ b ∷ left 32 rest))
    third b None gives = gives
    third b (Some v) gives = up-alike (before 32 t) b v result gives

    second : (rest : Option (List ℕ)) → Gives result (event_of (codes "up") (before 32 t ∷ parts 32 1 rest))
        → Gives result (event_of (codes "up") (before 32 t ∷ left 32 rest))
    second None gives = gives
    second (Some u) gives = rw (left-split u) (third (before 32 u) (behind 32 u) gives)

parts-block : (result : Result Record TextFault) (rest : Option (List ℕ))
    → Gives result (block_of (parts 32 4 rest)) → Gives result (block_of (left 32 rest))
parts-block result None gives = gives
parts-block result (Some s) gives = rw (left-split s) (second (behind 32 s) gives)
  where
    fifth : (a b c : List ℕ) (rest : Option (List ℕ))
        → Gives result (block_of (before 32 s ∷ a ∷ b ∷ c ∷ parts 32 0 rest))
        → Gives result (block_of (before 32 s ∷ a ∷ b ∷ c ∷ left 32 rest))
    fifth a b c None gives = gives
    fifth a b c (Some w) gives = block-alike (before 32 s) a b c w result gives

    fourth : (a b : List ℕ) (rest : Option (List ℕ))
        → Gives result (block_of (before 32 s ∷ a ∷ b ∷ parts 32 1 rest))
        → Gives result (block_of (before 32 s ∷ a ∷ b ∷ left 32 rest))
    fourth a b None gives = gives
    fourth a b (Some v) gives = rw (left-split v) (fifth a b (before 32 v) (behind 32 v) gives)

    third : (a : List ℕ) (rest : Option (List ℕ))
        → Gives result (block_of (before 32 s ∷ a ∷ parts 32 2 rest))
        → Gives result (block_of (before 32 s ∷ a ∷ left 32 rest))
    third a None gives = gives
    third a (Some u) gives = rw (left-split u) (fourth a (before 32 u) (behind 32 u) gives)

    second : (rest : Option (List ℕ)) → Gives result (block_of (before 32 s ∷ parts 32 3 rest))
        → Gives result (block_of (before 32 s ∷ left 32 rest))
    second None gives = gives
    second (Some t) gives = rw (left-split t) (third (before 32 t) (behind 32 t) gives)

module _ (result : Result Record TextFault) (first : List ℕ) (rest : Option (List ℕ)) where
  abbrev PartsGive : ℕ → Type 0
  PartsGive n = length (first ∷ parts 32 n rest) ≤ 8 → Gives result (words_of (first ∷ parts 32 n rest))
      → Gives result (words_of (first ∷ left 32 rest))

  by-first : (a b : Bool) → bytes_eq first (codes "up") ≡ a → bytes_eq first (codes "block") ≡ b
      → PartsGive (if a then 2 else if b then 4 else 8)
  unfolding words_of
  by-first true b up block few gives =
      let same : first ≡ codes "up" = (bytes_eq-Decides first (codes "up")).0 up in
      subst (λ (w : List ℕ). Gives result (words_of (w ∷ left 32 rest))) (sym same)
      (parts-up result rest (subst (λ (w : List ℕ). Gives result (words_of (w ∷ parts 32 2 rest))) same gives))
  by-first false true up block few gives =
      let same : first ≡ codes "block" = (bytes_eq-Decides first (codes "block")).0 block in
      subst (λ (w : List ℕ). Gives result (words_of (w ∷ left 32 rest))) (sym same)
      (parts-block result rest (subst (λ (w : List ℕ). Gives result (words_of (w ∷ parts 32 4 rest))) same gives))
  by-first false false up block few gives =
      subst (λ (ws : List (List ℕ)). Gives result (words_of (first ∷ ws)))
      (parts_all 8 rest (omega (arith, few))) gives

  pub gives_all : PartsGive (searched first)
  gives_all = by-first (bytes_eq first (codes "up")) (bytes_eq first (codes "block")) refl refl
