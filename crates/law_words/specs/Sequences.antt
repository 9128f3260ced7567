-- Sets of sequences (docs/formats/JOURNAL.md): of what is told, one thing behind another.
use Rattle.std.specs.Prelude.{List, ◌≡◌, ◌⊎◌, [], ◌∷◌, ◌++◌}
use Rattle.std.specs.List.{All}

abbrev pub SequencesOf : Type 0 → Type 1
SequencesOf X = List X → Type 0

module _ {X : Type 0} where
  infixr 40 ◌then◌
  infixr 30 ◌or◌
  abbrev pub nothing : SequencesOf X
  nothing told = told ≡ []

  abbrev pub just : X → SequencesOf X
  just one told = told ≡ one ∷ []

  -- one behind another
  pub record ◌then◌ (A B : SequencesOf X) (told : List X) : Type 0 where
    pub first : List X
    pub second : List X
    pub told_are : told ≡ first ++ second
    pub is_first : A first
    pub is_second : B second

  abbrev pub ◌or◌ : SequencesOf X → SequencesOf X → SequencesOf X
  (A or B) told = A told ⊎ B told

  abbrev pub maybe : SequencesOf X → SequencesOf X
  maybe A = nothing or A

  abbrev pub joined : List (List X) → List X
  joined [] = []
  joined (part ∷ parts) = part ++ joined parts

  -- any number, one behind the other
  pub record many (A : SequencesOf X) (told : List X) : Type 0 where
    pub parts : List (List X)
    pub told_are : told ≡ joined parts
    pub are_each : All A parts

module _ {X Y : Type 0} where
  -- of some value
  abbrev pub any : (Y → SequencesOf X) → SequencesOf X
  any f told = (y : Y) × f y told

  -- of each of a list, in turn
  abbrev pub each : (Y → SequencesOf X) → List Y → SequencesOf X
  each f [] = nothing
  each f (y ∷ ys) = f y then each f ys
