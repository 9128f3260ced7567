-- In which TTIs a terminal listens, told by all that it saw (TS 36.321 5.7).
use Rattle.std.specs.Prelude.{◌≡◌, ℕ, ◌+◌, ◌-◌, ◌%◌, ◌<◌, ◌≤◌, ◌⊎◌, ◌↔◌, IsTrue, ◌==◌, Bool}
use Rattle.std.specs.Prelude.{if◌then◌else◌, Option, Some, None, List, [], ◌∷◌}
use Rattle.l2_types.specs.declared.config.DrxConfig.{DrxConfig}
use Rattle.drx.specs.Drx.{State, fresh, is_active, after_new, after_damaged, after_decoded}
use Rattle.drx.specs.Drx.{after_reset}

-- what a terminal saw: a new block, or a downlink block that came damaged or intact, in a TTI
pub data Sight : Type 0 where
  New : (tti : ℕ) → Sight
  Bad : (tti : ℕ) → Sight
  Good : (tti : ℕ) → Sight

pub data Call : Type 0 where
  Seen : (sight : Sight) → Call
  Reset : Call

-- a terminal, and what it saw since the last reset, the latest first
pub record World : Type 0 where
  pub state : State
  pub past : List Sight

abbrev pub after_sight : Sight → State → State
after_sight (New tti) s = after_new s tti
after_sight (Bad tti) s = after_damaged s tti
after_sight (Good tti) s = after_decoded s tti

abbrev pub called : World → Call → World
called w (Seen sight) = record { state = after_sight sight w.state; past = sight ∷ w.past }
called w Reset = record { state = after_reset w.state; past = [] }

abbrev pub world_after : List Call → World → World
world_after [] w = w
world_after (c ∷ cs) w = world_after cs (called w c)

abbrev pub start : DrxConfig → World
start config = record { state = fresh config; past = [] }

-- ---- what was seen

abbrev pub tti_of : Sight → ℕ
tti_of (New tti) = tti
tti_of (Bad tti) = tti
tti_of (Good tti) = tti

-- all of it lies below a TTI, and the TTIs never fall
abbrev pub LiesBelow : List Sight → ℕ → Type 0
LiesBelow [] tti = Unit {0}
LiesBelow (s ∷ past) tti = (tti_of s < tti) × LiesBelow past (tti_of s + 1)

-- a new block was seen in this TTI
abbrev pub SawNew : ℕ → List Sight → Type 0
SawNew tti [] = ⊥
SawNew tti (New at ∷ past) = (at ≡ tti) ⊎ SawNew tti past
SawNew tti (Bad at ∷ past) = SawNew tti past
SawNew tti (Good at ∷ past) = SawNew tti past

-- the TTI of the last downlink block of a process, where that came damaged
abbrev pub last_damaged : ℕ → List Sight → Option ℕ
last_damaged p [] = None
last_damaged p (New tti ∷ past) = last_damaged p past
last_damaged p (Bad tti ∷ past) = if p == tti % 8 then Some tti else last_damaged p past
last_damaged p (Good tti ∷ past) = if p == tti % 8 then None else last_damaged p past

-- ---- why a terminal listens

-- the TTI is one of the first of its cycle
abbrev pub IsOnDuration : DrxConfig → ℕ → Type 0
IsOnDuration config tti = (tti + config.cycle - config.offset) % config.cycle < config.on

-- a new block was seen at most so many TTIs before
abbrev pub IsBusy : DrxConfig → List Sight → ℕ → Type 0
IsBusy config past tti = (at : ℕ) × SawNew at past × (at < tti) × (tti ≤ at + config.inactivity)

-- the last downlink block of a process came damaged, and may come again
abbrev pub AwaitsRepeat : DrxConfig → List Sight → ℕ → Type 0
AwaitsRepeat config past tti = (p : ℕ) × (at : ℕ) × (p < 8) × (last_damaged p past ≡ Some at)
    × (at + 8 ≤ tti) × (tti ≤ at + 7 + config.retransmit)

abbrev pub Listens : DrxConfig → List Sight → ℕ → Bool → Type 0
Listens config past tti held = IsTrue held
    ⊎ (IsOnDuration config tti ⊎ (IsBusy config past tti ⊎ AwaitsRepeat config past tti))

-- in a TTI above all that was seen, the terminal listens exactly where it has a reason to
abbrev pub ListensRight : DrxConfig → World → Type 0
ListensRight config w = (tti : ℕ) (held : Bool) → LiesBelow w.past tti
    → IsTrue (is_active w.state tti held) ↔ Listens config w.past tti held
