-- The COUNTs with which a side takes SDUs on a channel: from one handover to the next they ascend.
-- A handover gives other keys, and no key is given twice, so that under one key no COUNT is taken
-- twice on a bearer in a direction (TS 36.323 5.6, TS 33.401 B.1).
use Rattle.std.specs.Prelude.{ℕ, ◌==◌, if◌then◌else◌, Some, List, [], ◌∷◌, ◌++◌}
use Rattle.bearer_types.specs.declared.event.Event.{Event}
use Rattle.bearer_types.specs.declared.event.Event.TheVariants.{Take}
use Rattle.air_record.specs.declared.record.Record.{Record}
use Rattle.l2_types.specs.declared.side.Side.{Side}
use Rattle.promises.specs.Records.{events_of}
use Rattle.promises.specs.Parts.{is_handover}
use Rattle.air_text.specs.Groups.{Group}
use Rattle.l2_num.specs.Ascending.{IsAscending}

-- ---- what is told of a channel: the COUNTs of the SDUs that RLC takes; a transparent one has none

abbrev pub count_on : ℕ → Event → List ℕ
count_on lcid (Take l (Some count) len) = if l == lcid then count ∷ [] else []
count_on lcid event = []

abbrev pub counts_on : ℕ → List Event → List ℕ
counts_on lcid [] = []
counts_on lcid (event ∷ events) = count_on lcid event ++ counts_on lcid events

-- those of the SDUs that records tell of as taken at a side, on a channel
abbrev pub counts_taken : Side → ℕ → List Record → List ℕ
counts_taken side lcid told = counts_on lcid (events_of side told)

-- those since the last handover, or since the beginning, of groups of which the newest stands first
abbrev pub counts_since : Side → ℕ → List Group → List ℕ
counts_since side lcid [] = []
counts_since side lcid (g ∷ past) =
    (if is_handover g.line then [] else counts_since side lcid past)
    ++ counts_taken side lcid g.events

-- they ascend at both sides and on each channel, and did behind each group, so that they do between
-- any two handovers
abbrev pub CountsAscend : List Group → Type 0
CountsAscend [] = Unit {0}
CountsAscend (g ∷ past) =
    ((side : Side) (lcid : ℕ) → IsAscending 0 (counts_since side lcid (g ∷ past)))
    × CountsAscend past
