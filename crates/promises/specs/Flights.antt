-- The blocks of a TTI: what is told of one that is sent, and of what came of it (TS 36.321 5.3.2,
-- 5.4.2).
use Rattle.std.specs.Prelude.{Bool, true, false, Some, ◌≡◌, ◌⊎◌, ℕ, ◌%◌, List, [], ◌∷◌, ◌≤◌, None}
use Rattle.air_record.specs.declared.record.Arrived.{Arrived}
use Rattle.air_record.specs.declared.line.Outcome.{Outcome}
use Rattle.air_record.specs.declared.record.Record.{Record}
use Rattle.mac_pdu.specs.declared.item.Direction.{Direction}
use Rattle.air_record.specs.Outcomes.{turned}
use Rattle.air_record.specs.declared.line.Fate.{Fate}
use Rattle.air_record.specs.declared.line.Fate.TheVariants.{Ok, Bad, Miss}
use Rattle.mac_pdu.specs.declared.item.Direction.TheVariants.{Down, Up}
use Rattle.air_record.specs.declared.record.Arrived.TheVariants as arriveds
use Rattle.air_record.specs.declared.record.Record.TheVariants as records

-- the feedback that is sent on what came
abbrev pub feedback : Arrived → Bool
feedback arriveds.Got = true
feedback arriveds.Dup = true
feedback arriveds.Bad = false
feedback arriveds.Nothing = false

-- the record of what came of a block, with the feedback as its sender reads it
abbrev pub came : Direction → Arrived → Outcome → Record
came direction what o = records.Air direction what (Some (turned o.flipped (feedback what)))

-- ---- the downlink

-- an intact block is new to the terminal or known, and one that is missed is nothing
abbrev pub CanCome : Fate → Arrived → Type 0
CanCome Ok what = (what ≡ arriveds.Got) ⊎ (what ≡ arriveds.Dup)
CanCome Bad what = what ≡ arriveds.Bad
CanCome Miss what = what ≡ arriveds.Nothing

-- one block is sent, by the process of the TTI, and one thing comes of it
pub record FliesDown (t : ℕ) (o : Outcome) (flown : List Record) : Type 0 where
  pub fresh : Bool
  pub version : ℕ
  pub octets : List ℕ
  pub what : Arrived
  pub by_fate : CanCome o.fate what
  pub flown_is : flown ≡ records.Block Down (t % 8) fresh version octets ∷ came Down what o ∷ []

-- exactly where there is a grant
pub record IsDown (t grant : ℕ) (o : Outcome) (flown : List Record) : Type 0 where
  pub none : grant ≡ 0 → flown ≡ []
  pub one : 1 ≤ grant → FliesDown t o flown

-- ---- the uplink

-- what comes of a block that is sent: only `bad` damages it
abbrev pub heard_as : Fate → Arrived
heard_as Ok = arriveds.Got
heard_as Bad = arriveds.Bad
heard_as Miss = arriveds.Got

-- one block is sent, as on the downlink
pub record FliesUp (t : ℕ) (o : Outcome) (flown : List Record) : Type 0 where
  pub fresh : Bool
  pub version : ℕ
  pub octets : List ℕ
  pub flown_is : flown ≡ records.Block Up (t % 8) fresh version octets
      ∷ came Up (heard_as o.fate) o ∷ []

-- a terminal that missed the grant may send nothing
pub record IsUnanswered (o : Outcome) (flown : List Record) : Type 0 where
  pub missed : o.fate ≡ Miss
  pub flown_is : flown ≡ records.Air Up arriveds.Nothing None ∷ []

-- exactly where there is a grant
pub record IsUp (t grant : ℕ) (o : Outcome) (flown : List Record) : Type 0 where
  pub none : grant ≡ 0 → flown ≡ []
  pub one : 1 ≤ grant → FliesUp t o flown ⊎ IsUnanswered o flown
