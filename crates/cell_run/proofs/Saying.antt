-- Each line of a terminal's own script is said by some text.
use Rattle.std.proofs.Common.{◌≡◌, ◌+◌, ◌-◌, ◌<◌, ◌≤◌, ◌==◌, ℕ, zero, suc, List, [], ◌∷◌, ◌++◌, refl}
use Rattle.std.proofs.Common.{ap}
use Rattle.std.proofs.Common.{arith, true, false, nat_lt, cond, if◌then◌else◌, length, take}
use Rattle.std.proofs.Common.{slice_index}
use Rattle.std.specs.Prelude.{Some, Ok, Err}
use Rattle.l2_io.specs.Feeds.{until_feed, without_return}
use Rattle.air_record.specs.declared.line.Line.{Line}
use Rattle.air_text.specs.Reading.{read_of, read_words}
use Rattle.air_text.specs.Words.{words_behind, words_of}
use Rattle.air_text.specs.declared.fault.LineRefusal.TheVariants.{Long}
use Rattle.line_player.specs.Lines.{lines_ended, tail_of, onto_first, onto_tail}
use Rattle.cell_text.specs.Reading.{without_spaces, from_space, behind_word, own_text}
use Rattle.script_generator.specs.Lines.{Says}

-- ---- texts of one line

-- a text without a line feed
abbrev pub IsOneLine : List ℕ → Type 0
IsOneLine xs = until_feed xs ≡ xs

one-parts : (x : ℕ) (xs : List ℕ) → IsOneLine (x ∷ xs) → ((x == 10) ≡ false) × IsOneLine xs
one-parts x xs h =
    elim (x == 10) as (λ b. cond b [] (x ∷ until_feed xs) ≡ x ∷ xs → (b ≡ false) × (until_feed xs ≡ xs)) [
      | true ↦ λ f. cc
      | false ↦ λ f. (refl, cc)
    ] h

pub one-more : (x : ℕ) (xs : List ℕ) → (x == 10) ≡ false → IsOneLine xs → IsOneLine (x ∷ xs)
one-more x xs e h = rw e (ap (λ (t : List ℕ). x ∷ t) h)

one-take : (n : ℕ) (xs : List ℕ) → IsOneLine xs → IsOneLine (take n xs)
one-take zero xs h = refl
one-take (suc n) [] h = refl
one-take (suc n) (x ∷ xs) h = let p = one-parts x xs h in one-more x (take n xs) p.0 (one-take n xs p.1)

pub one-without : (xs : List ℕ) → IsOneLine xs → IsOneLine (without_return xs)
one-without xs h =
    elim (slice_index xs (length xs - 1) == 13) as (λ b. IsOneLine (if b then take (length xs - 1) xs else xs)) [
      | true ↦ one-take (length xs - 1) xs h
      | false ↦ h
    ]

one-unspaced : (xs : List ℕ) → IsOneLine xs → IsOneLine (without_spaces xs)
one-unspaced [] h = refl
one-unspaced (x ∷ xs) h =
    elim (x == 32) as (λ b. IsOneLine (if b then without_spaces xs else x ∷ xs)) [
      | true ↦ one-unspaced xs (one-parts x xs h).1
      | false ↦ h
    ]

one-from : (xs : List ℕ) → IsOneLine xs → IsOneLine (from_space xs)
one-from [] h = refl
one-from (x ∷ xs) h =
    elim (x == 32) as (λ b. IsOneLine (if b then x ∷ xs else from_space xs)) [
      | true ↦ h
      | false ↦ one-from xs (one-parts x xs h).1
    ]

one-own : (xs : List ℕ) → IsOneLine xs → IsOneLine (own_text xs)
one-own xs h = one-from _ (one-unspaced _ (one-from _ (one-unspaced xs h)))

one-spaced : (xs : List ℕ) → IsOneLine xs → IsOneLine (xs ++ 32 ∷ [])
one-spaced [] h = refl
one-spaced (x ∷ xs) h = let p = one-parts x xs h in one-more x (xs ++ 32 ∷ []) p.0 (one-spaced xs p.1)

-- ---- how long the own line is

unspaced-length : (xs : List ℕ) → length (without_spaces xs) ≤ length xs
unspaced-length [] = omega arith
unspaced-length (x ∷ xs) =
    elim (x == 32) as (λ b. length (if b then without_spaces xs else x ∷ xs) ≤ length (x ∷ xs)) [
      | true ↦ omega (arith, unspaced-length xs)
      | false ↦ omega arith
    ]

from-length : (xs : List ℕ) → length (from_space xs) ≤ length xs
from-length [] = omega arith
from-length (x ∷ xs) =
    elim (x == 32) as (λ b. length (if b then x ∷ xs else from_space xs) ≤ length (x ∷ xs)) [
      | true ↦ omega arith
      | false ↦ omega (arith, from-length xs)
    ]

behind-length : (xs : List ℕ) → length (behind_word xs) ≤ length xs
behind-length xs = omega (arith, from-length (without_spaces xs), unspaced-length xs)

-- a word goes
behind-shorter : (xs : List ℕ) → 0 < length xs → length (behind_word xs) < length xs
behind-shorter [] some = absurd (omega (arith, some))
behind-shorter (x ∷ xs) some =
    elim (x == 32) as (λ b. (x == 32) ≡ b
    → length (from_space (if b then without_spaces xs else x ∷ xs)) < length (x ∷ xs)) [
      | true ↦ λ e. omega (arith, behind-length xs)
      | false ↦ λ e.
          elim (x == 32) as (λ b. b ≡ false → length (if b then x ∷ xs else from_space xs) < length (x ∷ xs)) [
            | true ↦ λ bad. cc
            | false ↦ λ not. omega (arith, from-length xs)
          ] e
    ] refl

own-shorter : (xs : List ℕ) → 0 < length xs → length (own_text xs) < length xs
own-shorter xs some = omega (arith, behind-length (behind_word xs), behind-shorter xs some)

-- ---- a space at the end of a line says nothing

words-spaced : (word xs : List ℕ) → words_behind word (xs ++ 32 ∷ []) ≡ words_behind word xs
words-spaced word [] =
    elim (length word == 0) as (λ b. (if b then [] else word ∷ []) ≡ (if b then [] else word ∷ [])) [
      | true ↦ refl
      | false ↦ refl
    ]
words-spaced word (x ∷ xs) =
    elim (x == 32) as (λ b. (if b then (if length word == 0 then words_behind [] (xs ++ 32 ∷ [])
    else word ∷ words_behind [] (xs ++ 32 ∷ [])) else words_behind (word ++ x ∷ []) (xs ++ 32 ∷ []))
    ≡ (if b then (if length word == 0 then words_behind [] xs else word ∷ words_behind [] xs)
    else words_behind (word ++ x ∷ []) xs)) [
      | true ↦ rw (words-spaced [] xs) refl
      | false ↦ words-spaced (word ++ x ∷ []) xs
    ]

last-space : (xs : List ℕ) → slice_index (xs ++ 32 ∷ []) (length xs) ≡ 32
last-space [] = refl
last-space (x ∷ xs) = last-space xs

length-spaced : (xs : List ℕ) → length (xs ++ 32 ∷ []) ≡ length xs + 1
length-spaced [] = refl
length-spaced (x ∷ xs) = omega (arith, length-spaced xs)

whole-spaced : (xs : List ℕ) → without_return (xs ++ 32 ∷ []) ≡ xs ++ 32 ∷ []
whole-spaced xs =
    let place : length (xs ++ 32 ∷ []) - 1 ≡ length xs = omega (arith, length-spaced xs) in
    rw (place, last-space xs) refl

read-short : (xs : List ℕ) (line : Line) → read_of xs ≡ Ok (Some line) → read_words (words_of xs) ≡ Ok (Some line)
unfolding read_of
read-short xs line read =
    elim (nat_lt 20000 (length xs)) as (λ b. (if b then Err Long else read_words (words_of xs)) ≡ Ok (Some line)
    → read_words (words_of xs) ≡ Ok (Some line)) [
      | true ↦ λ bad. cc
      | false ↦ λ h. h
    ] read

read-spaced : (xs : List ℕ) (line : Line) → length xs < 20000 → read_words (words_of xs) ≡ Ok (Some line)
    → read_of (xs ++ 32 ∷ []) ≡ Ok (Some line)
unfolding read_of
read-spaced xs line short read =
    let few : nat_lt 20000 (length (xs ++ 32 ∷ [])) ≡ false = grind (arith, length-spaced xs, short) in
    rw (few, words-spaced [] xs) read

-- the own line, with a space behind it, says its line
pub own-says : (text : List ℕ) (line : Line) → IsOneLine text → 0 < length text → length text ≤ 20000
    → read_of (own_text text) ≡ Ok (Some line) → Says (own_text text ++ 32 ∷ []) line
own-says text line one some few read = record {
  one = one-spaced (own_text text) (one-own text one);
  whole = whole-spaced (own_text text);
  read = read-spaced (own_text text) line (omega (arith, own-shorter text some, few))
      (read-short (own_text text) line read);
}

-- ---- the lines of an input

abbrev pub AreLines : List (List ℕ) → Type 0
AreLines [] = Unit {0}
AreLines (line ∷ lines) = IsOneLine line × AreLines lines

lines-onto : (x : ℕ) (lines : List (List ℕ)) → (x == 10) ≡ false → AreLines lines → AreLines (onto_first x lines)
lines-onto x [] e h = tt
lines-onto x (line ∷ lines) e h = (one-more x line e h.0, h.1)

pub lines-one : (xs : List ℕ) → AreLines (lines_ended xs)
lines-one [] = tt
lines-one (x ∷ xs) =
    elim (x == 10) as (λ b. (x == 10) ≡ b
    → AreLines (if b then [] ∷ lines_ended xs else onto_first x (lines_ended xs))) [
      | true ↦ λ e. (refl, lines-one xs)
      | false ↦ λ e. lines-onto x (lines_ended xs) e (lines-one xs)
    ] refl

tail-onto : (x : ℕ) (lines : List (List ℕ)) (tail : List ℕ) → (x == 10) ≡ false → IsOneLine tail
    → IsOneLine (onto_tail x lines tail)
tail-onto x [] tail e h = one-more x tail e h
tail-onto x (line ∷ lines) tail e h = h

pub tail-one : (xs : List ℕ) → IsOneLine (tail_of xs)
tail-one [] = refl
tail-one (x ∷ xs) =
    elim (x == 10) as (λ b. (x == 10) ≡ b
    → IsOneLine (if b then tail_of xs else onto_tail x (lines_ended xs) (tail_of xs))) [
      | true ↦ λ e. tail-one xs
      | false ↦ λ e. tail-onto x (lines_ended xs) (tail_of xs) e (tail-one xs)
    ] refl
