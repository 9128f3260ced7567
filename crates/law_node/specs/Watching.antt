-- An end through any calls, with what of the past a law looks at (TS 36.321 5.3.2, 5.4.2).
use Rattle.std.specs.Prelude.{ℕ, Bool, List, [], ◌∷◌}
use Rattle.l2_types.specs.declared.side.Side.{Side}
use Rattle.l2_node.specs.End.{End, fresh}
use Rattle.law_node.specs.Calls.{Turn, Call, SetVisits, Visits, Move, after}

-- what a call is to the processes that send: a visit, or all are emptied, by another number of
-- visits or a move
pub data Doing : Type 0 where
  Turns : Turn → Doing
  Empties : Doing
  Rests : Doing

abbrev pub doing : Call → Doing
doing (Visits t) = Turns t
doing (SetVisits maximum) = Empties
doing (Move keys) = Empties
doing _ = Rests

pub record Watched (G : Type 0) : Type 0 where
  pub end : End
  pub past : G

module _ {G : Type 0} where
  abbrev pub watch : (End → Doing → G → G) → List Call → Watched G → Watched G
  watch grow [] w = w
  watch grow (c ∷ cs) w =
      watch grow cs (record { end = after w.end c; past = grow w.end (doing c) w.past })

  -- from a new end on
  abbrev pub watched : (End → Doing → G → G) → G → Side → ℕ → Bool → List Call → Watched G
  watched grow past side maximum reports calls =
      watch grow calls (record { end = fresh side maximum reports; past = past })
