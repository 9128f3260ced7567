-- What the checker's verdict says of a journal, and what follows in the words of the promises
-- (TS 36.321 5.3.2, 5.4.2; docs/formats/JOURNAL.md).
use Rattle.std.specs.Prelude.{ℕ, List, [], ◌∷◌, ◌++◌, length, ◌≡◌, IsTrue, ◌↔◌}
use Rattle.std.specs.List.{filter}
use Rattle.air_record.specs.declared.record.Record.{Record}
use Rattle.air_text.specs.Groups.{Group}
use Rattle.mac_pdu.specs.declared.item.Direction.TheVariants.{Down, Up}
use Rattle.promises.specs.Parts.{Part, Submits, Passes, Drains, Rests, part_of_line}
use Rattle.promises.specs.Air.{ttis, is_tti, numbered, MayFly, FliesIntact, InTurn}
use Rattle.promises.specs.Carried.{AreCarried}
use Rattle.promises.specs.Records.{is_of_air}
use Rattle.promises.specs.RightAir.{is_toward, AirIsRight}
use Rattle.promises.specs.Sleeps.{is_sleep}
use Rattle.journal_air.specs.Checking.{all_checked}

-- the checker's verdict is exactly that
abbrev pub VerdictIsExact : Type 0
VerdictIsExact = (past : List Group) → IsTrue (all_checked past).right ↔ AirIsRight past

-- so many TTIs has a line
abbrev pub HasCount : Part → ℕ → Type 0
HasCount (Submits side lcid octets) count = count ≡ 0
HasCount (Passes up_grant up down_grant down) count = count ≡ 1
HasCount (Drains grant) count = Unit {0}
HasCount Rests count = count ≡ 0

-- what is told of a TTI, put in the order of our journals: that the terminal sleeps, the downlink,
-- the uplink
abbrev pub put_in_order : List Record → List Record
put_in_order told =
    filter is_sleep told ++ (filter (is_toward Down) told ++ filter (is_toward Up) told)

-- as `AreFlown` of what is promised, once each TTI is put in that order
abbrev pub AreFlownInAnyOrder : ℕ → Part → List Record → Type 0
AreFlownInAnyOrder t (Submits side lcid octets) events = filter is_of_air events ≡ []
AreFlownInAnyOrder t (Passes up_grant up down_grant down) events =
    MayFly t up_grant up down_grant down (put_in_order (filter is_of_air events))
AreFlownInAnyOrder t (Drains grant) events =
    InTurn (λ n told. FliesIntact n grant (put_in_order told)) t (length (filter is_tti events))
    (filter is_of_air events)
AreFlownInAnyOrder t Rests events = filter is_of_air events ≡ []

-- in the words of what is promised of every journal: the TTIs of a line are so many, numbered on,
-- and what is told of the air in them flies
pub record FliesAsPromised (g : Group) (past : List Group) : Type 0 where
  pub count : ℕ
  pub count_is : HasCount (part_of_line g.line) count
  pub numbers_are : filter is_tti g.events ≡ numbered (ttis past) count
  pub are_flown : AreFlownInAnyOrder (ttis past) (part_of_line g.line) g.events

abbrev pub AllFly : List Group → Type 0
AllFly [] = Unit {0}
AllFly (g ∷ past) = FliesAsPromised g past × AllFly past

abbrev pub RightAirIsAsPromised : Type 0
RightAirIsAsPromised = (past : List Group) → AirIsRight past → AllFly past × AreCarried past
