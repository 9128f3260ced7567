-- Two ends of a link and the blocks under way between them, through lives of their bearers (TS
-- 36.322 5.4, TS 36.323 5.2).
use Rattle.std.specs.Prelude.{ℕ, List, [], ◌∷◌, ◌++◌, Option, Some, None, slice_get}
use Rattle.eps_sec.specs.declared.Keys.{Keys}
use Rattle.l2_node.specs.End.{End}
use Rattle.l2_types.specs.declared.side.Side.{Side}
use Rattle.l2_types.specs.declared.side.Side.TheVariants.{Nb, Ue}
use Rattle.law_node.specs.Calls.{Call, Receive, Move, after}
use Rattle.law_deliver.specs.AmFlow.Air.{Block, Station, Air, Act, Calls, Comes, Goes, Step, AtNb}
use Rattle.law_deliver.specs.AmFlow.Air.{AtUe, Passes, happens, outset, IsGiven}

pub data AirStep : Type 0 where
  InLife : Step → AirStep
  -- both ends move under the same keys, and all blocks under way are let go
  Moves : Keys → AirStep

abbrev pub lives_on : Air → AirStep → Air
lives_on a (InLife s) = happens a s
lives_on a (Moves keys) = outset (after a.nb.end (Move keys)) (after a.ue.end (Move keys))

abbrev pub lives : List AirStep → Air → Air
lives [] a = a
lives (x ∷ xs) a = lives xs (lives_on a x)

-- ---- what is asked of them, on a channel

abbrev pub IsLiving : ℕ → Air → AirStep → Type 0
IsLiving l a (InLife s) = IsGiven l a s
IsLiving l a (Moves keys) = Unit {0}

abbrev pub AreLiving : ℕ → Air → List AirStep → Type 0
AreLiving l a [] = Unit {0}
AreLiving l a (x ∷ xs) = IsLiving l a x × AreLiving l (lives_on a x) xs

-- ---- the calls of an end in them

abbrev pub end_at : Side → Air → End
end_at Nb a = a.nb.end
end_at Ue a = a.ue.end

abbrev pub brought : Option Block → List Call
brought None = []
brought (Some b) = Receive b.octets ∷ []

-- by what the other has under way
abbrev pub calls_by : Station → Act → List Call
calls_by other (Calls c) = c ∷ []
calls_by other (Comes k) = brought (slice_get other.blocks k)
calls_by other (Goes k) = []

abbrev pub calls_at : Side → Air → AirStep → List Call
calls_at Nb a (InLife (AtNb x)) = calls_by a.ue x
calls_at Nb a (InLife (AtUe x)) = []
calls_at Nb a (InLife Passes) = []
calls_at Nb a (Moves keys) = Move keys ∷ []
calls_at Ue a (InLife (AtNb x)) = []
calls_at Ue a (InLife (AtUe x)) = calls_by a.nb x
calls_at Ue a (InLife Passes) = []
calls_at Ue a (Moves keys) = Move keys ∷ []

abbrev pub all_calls : Side → List AirStep → Air → List Call
all_calls side [] a = []
all_calls side (x ∷ xs) a = calls_at side a x ++ all_calls side xs (lives_on a x)
