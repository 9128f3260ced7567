-- How the octets of a source are cut into lines (docs/formats/SCRIPT.md).
use Rattle.std.specs.Prelude.{◌≡◌, ◌⊎◌, ℕ, ◌<◌, ◌≤◌, List, [], ◌∷◌, ◌++◌, length, Option}
use Rattle.l2_io.specs.Feeds.{until_feed, from_feed, without_return}
use Rattle.l2_io.specs.Known.{IsAtEnd, before}
use Rattle.l2_io.specs.declared.lines.Stand.{Stand}
use Rattle.l2_io.specs.declared.lines.Stand.TheVariants.{Open, Long, End, ReadFault}
use Rattle.l2_io.specs.declared.lines.Turn.{Turn}
use Rattle.l2_io.specs.declared.lines.Turn.TheVariants as turns

-- what cuts lines: the last line that it gave, the octets that it read behind that, the most octets
-- of a line, and whether it is done
pub record Cutter : Type 0 where
  pub line : List ℕ
  pub kept : List ℕ
  pub longest : ℕ
  pub stand : Stand

-- the next line can't be told without a read
pub record NeedsRead (c : Cutter) : Type 0 where
  pub stand : c.stand ≡ Open
  pub part : from_feed c.kept ≡ []
  pub short : length c.kept ≤ c.longest

-- a line that a line feed ends, which a carriage return before it belongs to
pub record CutsLine (all : List ℕ) (new : Cutter) : Type 0 where
  pub line : new.line ≡ without_return (until_feed all)
  pub rest : from_feed all ≡ 10 ∷ new.kept
  pub short : length (until_feed all) ≤ new.longest
  pub stand : new.stand ≡ Open

-- a line that is too long
pub record CutsLong (all : List ℕ) (new : Cutter) : Type 0 where
  pub long : new.longest < length (until_feed all)
  pub kept : new.kept ≡ all
  pub stand : new.stand ≡ Long

-- what an answer says where what is kept decides it
abbrev pub CutsKept : List ℕ → Turn → Cutter → Type 0
CutsKept all turns.Line new = CutsLine all new
CutsKept all turns.Long new = CutsLong all new
CutsKept all turns.End new = ⊥
CutsKept all turns.ReadFault new = ⊥

-- the last line, that the end of the source ends; a carriage return at its end is a part of it
pub record CutsLast (all : List ℕ) (new : Cutter) : Type 0 where
  pub line : new.line ≡ all
  pub whole : from_feed all ≡ []
  pub some : 0 < length all
  pub short : length all ≤ new.longest
  pub kept : new.kept ≡ []
  pub stand : new.stand ≡ End

-- the end, with nothing before it
pub record CutsNothing (all : List ℕ) (new : Cutter) : Type 0 where
  pub nothing : all ≡ []
  pub kept : new.kept ≡ []
  pub stand : new.stand ≡ End

-- what an answer says at the end of the source
abbrev pub CutsEnd : List ℕ → Turn → Cutter → Type 0
CutsEnd all turns.Line new = CutsLast all new
CutsEnd all turns.Long new = ⊥
CutsEnd all turns.End new = CutsNothing all new
CutsEnd all turns.ReadFault new = ⊥

-- a read that failed before a whole line or too much of one came
pub record CutsFault (all : List ℕ) (failed : Type 0) (answer : Turn) (new : Cutter) : Type 0 where
  pub turn : answer ≡ turns.ReadFault
  pub part : from_feed all ≡ []
  pub short : length all ≤ new.longest
  pub kept : new.kept ≡ all
  pub stand : new.stand ≡ ReadFault
  pub cause : failed

-- what an answer says of all octets that were read and not handed out before
abbrev pub Cuts : List ℕ → Option (List ℕ) → Type 0 → Turn → Cutter → Type 0
Cuts all left fault turn new = CutsKept all turn new ⊎ (CutsEnd all turn new × IsAtEnd left)
    ⊎ CutsFault all fault turn new

-- the answer that stays
abbrev pub stuck : Stand → Turn
stuck Open = turns.End
stuck Long = turns.Long
stuck End = turns.End
stuck ReadFault = turns.ReadFault

-- an open cutter reads and cuts; one that is done answers the same again
abbrev pub AdvancesAt : Stand → Cutter → Option (List ℕ) → Option (List ℕ) → Type 0 → Turn
    → Cutter → Type 0
AdvancesAt Open old left left' fault turn new = (given : List ℕ) × (left ≡ before given left')
    × Cuts (old.kept ++ given) left' fault turn new
AdvancesAt stand old left left' fault turn new = (turn ≡ stuck stand) × (new ≡ old) × (left' ≡ left)

-- what a call for the next line leaves, and what it takes from the source
abbrev pub Advances : Cutter → Option (List ℕ) → Option (List ℕ) → Type 0 → Turn → Cutter → Type 0
Advances old left left' fault turn new = AdvancesAt old.stand old left left' fault turn new
