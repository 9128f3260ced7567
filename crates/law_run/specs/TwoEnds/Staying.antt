-- Which steps of a link are steps of one life (TS 36.322 5.4, TS 36.323 5.2): all but a handover,
-- which ends the life, and behind which only steps of the next one come.
use Rattle.std.specs.Prelude.{◌≡◌, ℕ, Bool, true, false, List, [], ◌∷◌, ◌++◌}
use Rattle.air_link.specs.Link.{Link}
use Rattle.air_record.specs.declared.record.Record.{Record}
use Rattle.eps_sec.specs.declared.Keys.{Keys}
use Rattle.l2_types.specs.declared.side.Side.{Side}
use Rattle.law_node.specs.Calls.{Move, after}
use Rattle.law_node.specs.Telling.{told_of}
use Rattle.law_run.specs.AnyCalls.Calls.{HandsOver}
use Rattle.promises.specs.Records.{events_of}
use Rattle.law_run.specs.AnyCalls.Runs.{Step, Calls, step}
use Rattle.law_deliver.specs.AmFlow.Air.{Air, outset}
use Rattle.law_deliver.specs.AmChannel.Lives.{AirStep, InLife, Moves, end_at}
use Rattle.promises.specs.Arrival.{entries_in}
use Rattle.law_run.specs.TwoEnds.Along.{AreAlong}
use Rattle.law_run.specs.TwoEnds.Going.{GoesByAir, GoesOn, IsStepSince}
use Rattle.law_run.specs.TwoEnds.Logs.{Flight}
use Rattle.promises.specs.Flows.{looped_at}
use Rattle.law_run.specs.TwoEnds.On.{IsOn}

-- both ends stay in their cell
abbrev pub AreInLife : List AirStep → Type 0
AreInLife [] = Unit {0}
AreInLife (InLife s ∷ xs) = AreInLife xs
AreInLife (Moves keys ∷ xs) = ⊥

abbrev pub is_handover_step : Step → Bool
is_handover_step (Calls (HandsOver keys)) = true
is_handover_step s = false

-- a step goes on as it does, in one life where it is no handover
pub record Stays (l : ℕ) (s : Step) (k : Link) (a : Air) : Type 0 where
  pub goes : GoesOn l s k a
  pub in_life : is_handover_step s ≡ false → AreInLife goes.by.steps

abbrev pub StepsStay : Type 0
StepsStay = (l : ℕ) (s : Step) (k : Link) (a : Air) → IsStepSince l s → IsOn k a → Stays l s k a

-- a handover: what both ends tell as they move, and what they tell behind it in the next life, as
-- its steps are
pub record MovesOn (l : ℕ) (keys : Keys) (k : Link) (a : Air) : Type 0 where
  pub leaving : List Record
  pub behind : List Record
  pub out_is : (step (Calls (HandsOver keys)) k).out ≡ k.out ++ (leaving ++ behind)
  pub told_is : (side : Side) → events_of side leaving ≡ told_of (end_at side a) (Move keys)
  pub none_looped : (side : Side) (n : ℕ) → looped_at side n leaving ≡ []
  pub by : GoesByAir l behind (λ side n. looped_at side n behind)
      (λ bits from. entries_in bits l from [] behind) false (step (Calls (HandsOver keys)) k)
      (outset (after a.nb.end (Move keys)) (after a.ue.end (Move keys)))
  pub in_life : AreInLife by.steps
  pub along : (sent : Flight) → AreAlong sent by.steps
      (outset (after a.nb.end (Move keys)) (after a.ue.end (Move keys))) behind

abbrev pub HandoversMove : Type 0
HandoversMove = (l : ℕ) (keys : Keys) (k : Link) (a : Air) → IsOn k a → MovesOn l keys k a
