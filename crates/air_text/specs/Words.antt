-- The words of a text (docs/formats/SCRIPT.md).
use Rattle.std.specs.Prelude.{◌≡◌, ℕ, ◌==◌, Bool, true, false, if◌then◌else◌, List, [], ◌∷◌, ◌++◌}
use Rattle.std.specs.Prelude.{length, map, Option, None, Some, Result, Ok, Err}
use Rattle.std.specs.Borrow.{Bor}
use Rattle.std.specs.Str.{bytes_eq}
use Rattle.air_text.specs.declared.fault.LineRefusal.{LineRefusal}
use Rattle.air_text.specs.declared.fault.LineFault.{LineFault}
use Rattle.air_text.specs.declared.fault.LineFault.TheVariants as faults

infixl 10 ◌>>=◌
abbrev pub ◌>>=◌ : {A B : Type 0} → Result A LineRefusal → (A → Result B LineRefusal)
    → Result B LineRefusal
(Ok x) >>= f = f x
(Err e) >>= f = Err e

-- what a function answered is what reading gives, unless memory ran out
abbrev pub Fails : {A : Type 0} → LineFault → Result A LineRefusal → Type 0
Fails (faults.Refused e) read = read ≡ Err e
Fails faults.NoMemory read = Unit {0}

abbrev pub Gives : {A : Type 0} → Result A LineFault → Result A LineRefusal → Type 0
Gives (Ok x) read = read ≡ Ok x
Gives (Err e) read = Fails e read

-- what a function answered, and what it left in a list, is what reading gives, unless memory ran
-- out
abbrev pub HasRead : Result (List ℕ) LineRefusal → List ℕ → Result Unit LineFault → Type 0
HasRead read octets (Ok _) = read ≡ Ok octets
HasRead read octets (Err e) = Fails e read

-- the words between the spaces, behind a word that was begun
abbrev pub words_behind : List ℕ → List ℕ → List (List ℕ)
words_behind word [] = if length word == 0 then [] else word ∷ []
words_behind word (x ∷ xs) =
    if x == 32 then (if length word == 0 then words_behind [] xs else word ∷ words_behind [] xs)
    else words_behind (word ++ x ∷ []) xs

-- the words between the spaces
abbrev pub words_of : List ℕ → List (List ℕ)
words_of text = words_behind [] text

-- the words that slices hold
abbrev pub texts : List (Bor (List ℕ)) → List (List ℕ)
texts words = map (λ w. w.now) words

-- words with a space before each
abbrev pub spaced : List (List ℕ) → List ℕ
spaced [] = []
spaced (w ∷ ws) = 32 ∷ (w ++ spaced ws)

-- words with a space between two
abbrev pub joined : List (List ℕ) → List ℕ
joined [] = []
joined (w ∷ ws) = w ++ spaced ws

-- the octets before the first =
abbrev pub before_equals : List ℕ → List ℕ
before_equals [] = []
before_equals (x ∷ xs) = if x == 61 then [] else x ∷ before_equals xs

-- the octets behind the first =, if there is one
abbrev pub behind_equals : List ℕ → Option (List ℕ)
behind_equals [] = None
behind_equals (x ∷ xs) = if x == 61 then Some xs else behind_equals xs

abbrev pub is_named_by : List ℕ → List ℕ → Option (List ℕ) → Bool
is_named_by name word None = false
is_named_by name word (Some value) = bytes_eq (before_equals word) name

-- whether a word is an option of this name
unfoldable pub is_option : List ℕ → List ℕ → Bool
is_option name word = is_named_by name word (behind_equals word)

-- whether some word is an option of this name
unfoldable pub is_named : List ℕ → List (List ℕ) → Bool
is_named name [] = false
is_named name (w ∷ ws) = if is_option name w then true else is_named name ws

abbrev pub is_again_by : List ℕ → Option (List ℕ) → List (List ℕ) → Bool
is_again_by word None words = false
is_again_by word (Some value) words = is_named (before_equals word) words

-- whether a word is an option that has its name again among words
unfoldable pub is_again : List ℕ → List (List ℕ) → Bool
is_again word words = is_again_by word (behind_equals word) words

-- whether two words are options of one name
unfoldable pub is_twice : List (List ℕ) → Bool
is_twice [] = false
is_twice (w ∷ ws) = if is_again w ws then true else is_twice ws
