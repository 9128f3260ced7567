-- A text in pieces, between octets of one kind (docs/formats/JOURNAL.md).
use Rattle.std.specs.Prelude.{ℕ, zero, suc, ◌==◌, if◌then◌else◌, List, [], ◌∷◌, ◌++◌, Option, None}
use Rattle.std.specs.Prelude.{Some}
use Rattle.std.specs.Borrow.{Bor}

-- the octets before the first of a kind
unfoldable pub before : ℕ → List ℕ → List ℕ
before at [] = []
before at (x ∷ xs) = if x == at then [] else x ∷ before at xs

-- the octets behind it, if there is one
unfoldable pub behind : ℕ → List ℕ → Option (List ℕ)
behind at [] = None
behind at (x ∷ xs) = if x == at then Some xs else behind at xs

abbrev pub onto_first : ℕ → List (List ℕ) → List (List ℕ)
onto_first x [] = (x ∷ []) ∷ []
onto_first x (w ∷ ws) = (x ∷ w) ∷ ws

-- the pieces between two octets of a kind, of which there is one at least
unfoldable pub pieces : ℕ → List ℕ → List (List ℕ)
pieces at [] = [] ∷ []
pieces at (x ∷ xs) = if x == at then [] ∷ pieces at xs else onto_first x (pieces at xs)

-- the pieces of what is left, if anything is
abbrev pub left : ℕ → Option (List ℕ) → List (List ℕ)
left at None = []
left at (Some text) = pieces at text

-- the first pieces of what is left, so many at most, and the rest of it as one more
abbrev pub parts : ℕ → ℕ → Option (List ℕ) → List (List ℕ)
parts at n None = []
parts at zero (Some text) = text ∷ []
parts at (suc n) (Some text) = before at text ∷ parts at n (behind at text)

-- the text that a slice holds, if there is one
abbrev pub text_in : Option (Bor (List ℕ)) → Option (List ℕ)
text_in None = None
text_in (Some text) = Some text.now

-- a first piece, with the octet and what is left behind it, if anything is
abbrev pub glued : ℕ → List ℕ → Option (List ℕ) → List ℕ
glued at front None = front
glued at front (Some rest) = front ++ at ∷ rest
