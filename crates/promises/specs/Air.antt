-- The TTIs of a journal, and what is told of the air in each (TS 36.321 5.3, 5.4).
use Rattle.std.specs.Prelude.{Bool, true, false, List, [], ◌∷◌, ℕ, length, map, ◌≡◌, ◌+◌, ◌++◌}
use Rattle.std.specs.Prelude.{zero, suc}
use Rattle.std.specs.List.{filter, range_with_len}
use Rattle.air_record.specs.declared.record.Record.{Record}
use Rattle.air_text.specs.Groups.{Group, history}
use Rattle.promises.specs.Parts.{Part, Submits, Passes, Drains, Rests}
use Rattle.air_record.specs.Outcomes.{missed, intact}
use Rattle.air_record.specs.declared.line.Outcome.{Outcome}
use Rattle.promises.specs.Flights.{IsDown, IsUp}
use Rattle.law_words.specs.Sequences.{◌then◌}
use Rattle.promises.specs.Records.{is_of_air, is_of_run}
use Rattle.air_record.specs.declared.record.Record.TheVariants as records

-- ---- the laws

abbrev pub sleeping : Bool → List Record
sleeping true = records.Sleep ∷ []
sleeping false = []

abbrev pub is_tti : Record → Bool
is_tti (records.Tti tti) = true
is_tti one = false

-- the TTIs of groups
abbrev pub ttis : List Group → ℕ
ttis past = length (filter is_tti (history past))

-- TTIs from a number on
abbrev pub numbered : ℕ → ℕ → List Record
numbered from count = map records.Tti (range_with_len from count)

-- ---- what a line leaves of the records of a run itself: a TTI its number, and a drain the numbers
-- of 8 TTIs and of one a round, and how it ends

pub record IsDrain (t : ℕ) (told : List Record) : Type 0 where
  pub rounds : ℕ
  pub told_is : told ≡ numbered t (8 + rounds) ++ records.Drained rounds ∷ []

abbrev pub IsTimed : ℕ → Part → List Record → Type 0
IsTimed t (Submits side lcid octets) told = told ≡ []
IsTimed t (Passes up_grant up down_grant down) told = told ≡ records.Tti t ∷ []
IsTimed t (Drains grant) told = IsDrain t told
IsTimed t Rests told = told ≡ []

-- ---- what is told of the air: whether the terminal sleeps, then the downlink's block, then the
-- uplink's, each exactly where there is a grant, with what comes of it by its outcome; a terminal
-- that sleeps misses both

pub record Flies (asleep : Bool) (t up_grant : ℕ) (up : Outcome) (down_grant : ℕ)
    (down : Outcome) (told : List Record) : Type 0 where
  pub downward : List Record
  pub upward : List Record
  pub told_is : told ≡ sleeping asleep ++ (downward ++ upward)
  pub down_is : IsDown t down_grant (missed asleep down) downward
  pub up_is : IsUp t up_grant (missed asleep up) upward

pub record MayFly (t up_grant : ℕ) (up : Outcome) (down_grant : ℕ) (down : Outcome)
    (told : List Record) : Type 0 where
  pub asleep : Bool
  pub flies : Flies asleep t up_grant up down_grant down told

-- in a drain nobody sleeps, and every block arrives intact
abbrev pub FliesIntact : ℕ → ℕ → List Record → Type 0
FliesIntact t grant told = Flies false t grant intact grant intact told

-- so many TTIs from a number on, one behind the other: what is told of each is as its number has it
abbrev pub InTurn : (ℕ → List Record → Type 0) → ℕ → ℕ → List Record → Type 0
InTurn Each t zero told = told ≡ []
InTurn Each t (suc n) told = (Each t then InTurn Each (t + 1) n) told

abbrev pub AreFlown : ℕ → Part → List Record → Type 0
AreFlown t (Submits side lcid octets) events = filter is_of_air events ≡ []
AreFlown t (Passes up_grant up down_grant down) events =
    MayFly t up_grant up down_grant down (filter is_of_air events)
AreFlown t (Drains grant) events =
    InTurn (λ n. FliesIntact n grant) t (length (filter is_tti events)) (filter is_of_air events)
AreFlown t Rests events = filter is_of_air events ≡ []

-- both, of the records of a line behind so many TTIs
pub record IsOfItsTime (t : ℕ) (p : Part) (events : List Record) : Type 0 where
  pub timed : IsTimed t p (filter is_of_run events)
  pub flown : AreFlown t p events
