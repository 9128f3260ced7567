-- When what a journal tells of the air is right, whoever made it (TS 36.321 5.3.2, 5.4.2, 5.7;
-- docs/formats/JOURNAL.md): a `tti` line has exactly one TTI, a `drain` line any number, and other
-- lines none; TTIs are numbered on from 0; behind each number stands what flies in that TTI, in
-- each direction as grant and outcome have it; and each block, its feedback and what comes of it
-- are those of HARQ. Which direction of a TTI is told first, and when in it that the terminal
-- sleeps, isn't judged; nor is how many TTIs a drain has, and how it ends.
use Rattle.std.specs.Prelude.{ℕ, Bool, true, false, List, [], ◌∷◌, ◌≡◌, ◌≤◌}
use Rattle.std.specs.List.{filter, list_all, AllByRecursion}
use Rattle.air_record.specs.declared.line.Outcome.{Outcome}
use Rattle.air_record.specs.declared.record.Record.{Record}
use Rattle.air_record.specs.declared.record.Record.TheVariants as records
use Rattle.air_record.specs.Outcomes.{missed, intact}
use Rattle.air_text.specs.Groups.{Group}
use Rattle.bearer_types.specs.Sides.{is_same_way}
use Rattle.law_words.specs.Sequences.{SequencesOf, just, any, ◌then◌}
use Rattle.mac_pdu.specs.declared.item.Direction.{Direction}
use Rattle.mac_pdu.specs.declared.item.Direction.TheVariants.{Down, Up}
use Rattle.promises.specs.Parts.{Part, Submits, Passes, Drains, Rests, part_of_line}
use Rattle.promises.specs.Records.{is_of_air}
use Rattle.promises.specs.Air.{sleeping, InTurn, ttis}
use Rattle.promises.specs.Flights.{IsDown, IsUp}
use Rattle.promises.specs.Sleeps.{is_sleep}
use Rattle.promises.specs.Heard.{visits}
use Rattle.promises.specs.Carried.{IsCarried}

-- ---- what flies in a TTI

-- a block of a direction, or what comes of one
abbrev pub is_toward : Direction → Record → Bool
is_toward way (records.Block direction process fresh version octets) = is_same_way way direction
is_toward way (records.Air direction what heard) = is_same_way way direction
is_toward way one = false

-- the terminal sleeps or doesn't (5.7), and what is told of the downlink (5.3.2) and of the uplink
-- (5.4.2), each by itself, is as grant and outcome have it; a terminal that sleeps misses both
pub record FliesInAnyOrder (asleep : Bool) (t up_grant : ℕ) (up : Outcome) (down_grant : ℕ)
    (down : Outcome) (told : List Record) : Type 0 where
  pub of_air : list_all is_of_air told ≡ true
  pub sleeps : filter is_sleep told ≡ sleeping asleep
  pub down_is : IsDown t down_grant (missed asleep down) (filter (is_toward Down) told)
  pub up_is : IsUp t up_grant (missed asleep up) (filter (is_toward Up) told)

-- in a drain nobody sleeps, and every block arrives intact
abbrev pub FliesInDrain : ℕ → ℕ → List Record → Type 0
FliesInDrain grant t told = FliesInAnyOrder false t grant intact grant intact told

-- ---- the TTIs of a line

-- what is told of TTIs: their numbers, and the air in them; a line would begin another group
abbrev pub is_of_time : Record → Bool
is_of_time (records.Line number line) = true
is_of_time (records.Tti tti) = true
is_of_time one = is_of_air one

-- a TTI: its number, and behind it what flies
abbrev pub Ttis : (List Record → Type 0) → ℕ → SequencesOf Record
Ttis Flown t = just (records.Tti t) then Flown

-- of a line behind so many TTIs
abbrev pub HasItsTtis : ℕ → Part → List Record → Type 0
HasItsTtis t (Submits side lcid octets) told = told ≡ []
HasItsTtis t (Passes up_grant up down_grant down) told =
    Ttis (any (λ asleep. FliesInAnyOrder asleep t up_grant up down_grant down)) t told
HasItsTtis t (Drains grant) told =
    (count : ℕ) × InTurn (λ n. Ttis (FliesInDrain grant n) n) t count told
HasItsTtis t Rests told = told ≡ []

-- ---- a group

-- the first sending of a block has version 0
abbrev pub BeginsAtZero : Record → Type 0
BeginsAtZero (records.Block direction process true version octets) = version ≡ 0
BeginsAtZero one = Unit {0}

-- a group behind others: a block has a visit at least, as every `harq` line gives it
pub record GroupIsRight (g : Group) (past : List Group) : Type 0 where
  pub has_visits : 1 ≤ visits (g ∷ past)
  pub ttis_are : HasItsTtis (ttis past) (part_of_line g.line) (filter is_of_time g.events)
  pub first_is : AllByRecursion BeginsAtZero g.events
  pub is_carried : IsCarried (g ∷ past)

-- behind each group, of which the newest stands first
abbrev pub AirIsRight : List Group → Type 0
AirIsRight [] = Unit {0}
AirIsRight (g ∷ past) = GroupIsRight g past × AirIsRight past
