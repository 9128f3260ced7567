-- What the text of a line is read as, from its words.
use Rattle.std.proofs.Common.{◌≡◌, ◌<◌, ◌≤◌, ◌/◌, ◌%◌, ◌==◌, ◌∙◌, nat_lt, Bool, true, false, if◌then◌else◌, ℕ, zero}
use Rattle.std.proofs.Common.{suc, List, [], ◌∷◌, ◌++◌, length, refl, ap, sym, arith, append_assoc, append-nil}
use Rattle.std.proofs.Common.{slice_index, Ok, Some}
use Rattle.hex.specs.Hex.{encode_lower, encode_with, lower_digits}
use Rattle.l2_io.specs.Feeds.{until_feed, without_return}
use Rattle.air_record.specs.declared.line.Line.{Line}
use Rattle.air_text.specs.Words.{words_behind, words_of}
use Rattle.air_text.specs.Reading.{read_words, read_of}
use Rattle.script_generator.specs.Lines.{Says, SayAll}

-- a text has this octet nowhere
abbrev pub has_no : ℕ → List ℕ → Bool
has_no o [] = true
has_no o (x ∷ xs) = if x == o then false else has_no o xs

pub no-parts : (o x : ℕ) (xs : List ℕ) → has_no o (x ∷ xs) ≡ true → ((x == o) ≡ false) × (has_no o xs ≡ true)
no-parts o x xs h =
    elim (x == o) as (λ b. (if b then false else has_no o xs) ≡ true → (b ≡ false) × (has_no o xs ≡ true)) [
      | true ↦ λ f. cc
      | false ↦ λ f. (refl, f)
    ] h

pub no-both : (o : ℕ) (a b : List ℕ) → has_no o a ≡ true → has_no o b ≡ true → has_no o (a ++ b) ≡ true
no-both o [] b h g = g
no-both o (x ∷ a) b h g = let p = no-parts o x a h in rw (p.0) (no-both o a b p.1 g)

no-place : (o : ℕ) (t : List ℕ) → (0 == o) ≡ false → has_no o t ≡ true → (i : ℕ) → (slice_index t i == o) ≡ false
no-place o [] some h i = some
no-place o (x ∷ xs) some h zero = (no-parts o x xs h).0
no-place o (x ∷ xs) some h (suc i) = no-place o xs some (no-parts o x xs h).1 i

pub no-hex : (o : ℕ) (xs : List ℕ) → (0 == o) ≡ false → has_no o lower_digits ≡ true → has_no o (encode_lower xs) ≡ true
unfolding encode_with
no-hex o [] some h = refl
no-hex o (b ∷ rest) some h =
    rw (no-place o lower_digits some h (b / 16), no-place o lower_digits some h (b % 16)) (no-hex o rest some h)

pub until-none : (text : List ℕ) → has_no 10 text ≡ true → until_feed text ≡ text
until-none [] h = refl
until-none (x ∷ xs) h = let p = no-parts 10 x xs h in rw (p.0) (ap (λ (t : List ℕ). x ∷ t) (until-none xs p.1))

pub without-none : (text : List ℕ) → has_no 13 text ≡ true → without_return text ≡ text
without-none text h = rw (no-place 13 text refl h _) refl

-- a word goes on as long as no space comes
pub word-on : (w acc rest : List ℕ) → has_no 32 w ≡ true → words_behind acc (w ++ rest) ≡ words_behind (acc ++ w) rest
word-on [] acc rest h = ap (λ (a : List ℕ). words_behind a rest) (sym (append-nil acc))
word-on (x ∷ xs) acc rest h =
    let p = no-parts 32 x xs h in
    rw (p.0) (word-on xs (acc ++ x ∷ []) rest p.1
    ∙ ap (λ (a : List ℕ). words_behind a rest) (append_assoc acc (x ∷ []) xs))

-- a word, and a space behind it
pub word-more : (w rest : List ℕ) → has_no 32 w ≡ true → 0 < length w
    → words_behind [] (w ++ 32 ∷ rest) ≡ w ∷ words_behind [] rest
word-more w rest h some =
    let long : (length w == 0) ≡ false = grind arith in
    word-on w [] (32 ∷ rest) h ∙ rw long refl

-- the last word
pub word-last : (w : List ℕ) → has_no 32 w ≡ true → 0 < length w → words_of w ≡ w ∷ []
word-last w h some =
    let long : (length w == 0) ≡ false = grind arith in
    ap (λ (t : List ℕ). words_behind [] t) (sym (append-nil w)) ∙ word-on w [] [] h ∙ rw long refl

-- a text without line feeds and carriage returns, whose words say a line
pub says-by : (text : List ℕ) (line : Line) → has_no 10 text ≡ true → has_no 13 text ≡ true → length text ≤ 20000
    → read_words (words_of text) ≡ Ok (Some line) → Says text line
unfolding read_of
says-by text line feed return few read =
    let short : nat_lt 20000 (length text) ≡ false = grind arith in
    record { one = until-none text feed; whole = without-none text return; read = rw short read }

pub say-one : (octets text : List ℕ) (line : Line) → octets ≡ text ++ 10 ∷ [] → Says text line
    → SayAll octets (line ∷ [])
say-one octets text line is said = (text, [], is, said, refl)

-- octets that say lines, and more behind them
pub say-both : (a b : List ℕ) (ls ms : List Line) → SayAll a ls → SayAll b ms → SayAll (a ++ b) (ls ++ ms)
say-both a b [] ms h g = rw h g
say-both a b (line ∷ ls) ms h g =
    (h.0, h.1 ++ b, rw (h.2) (append_assoc (h.0) (10 ∷ h.1) b), h.3, say-both (h.1) b ls ms h.4 g)
