-- The records at the end (docs/formats/JOURNAL.md): for each bearer the SDUs submitted and
-- delivered, downlink first.
use Rattle.std.specs.Prelude.{ℕ, Bool, if◌then◌else◌, List, [], ◌∷◌, ◌++◌, Option, None, Some}
use Rattle.air_link.specs.declared.sums.Sums.{Sums}
use Rattle.air_link.specs.Link.{Link}
use Rattle.bearer_types.specs.Lcids.{all_lcids}
use Rattle.air_link.specs.Sums.{sums}
use Rattle.air_record.specs.declared.record.Record.{Record}
use Rattle.air_record.specs.declared.record.Record.TheVariants as records
use Rattle.air_record.specs.declared.record.State.{State}
use Rattle.air_record.specs.declared.record.State.TheVariants as states
use Rattle.air_run.specs.Rules.{is_known}
use Rattle.bearer_types.specs.Sides.{sent_by}
use Rattle.l2_types.specs.declared.side.Side.{Side}
use Rattle.l2_types.specs.declared.side.Side.TheVariants.{Nb, Ue}
use Rattle.um_losses.specs.Losses.{Losses, is_long}

-- an unacknowledged flow doesn't fail
abbrev pub state_of : Option Bool → Bool → State
state_of (Some long) failed = if long then states.Long else states.Short
state_of None failed = if failed then states.Failed else states.Ok

abbrev pub sum_by : Side → ℕ → Sums → Losses → Record
sum_by side lcid s w =
    records.Sum (sent_by side) lcid s.submitted s.delivered
    (state_of (is_long (sent_by side) lcid w.flows) s.failed)

-- the flow that a side sends
abbrev pub sum_of : Side → Link → Losses → ℕ → Record
sum_of side l w lcid = sum_by side lcid (sums side lcid l) w

abbrev pub sums_of : Link → Losses → ℕ → List Record
sums_of l w lcid = if is_known lcid l then sum_of Nb l w lcid ∷ sum_of Ue l w lcid ∷ [] else []

abbrev pub all_sums : Link → Losses → List ℕ → List Record
all_sums l w [] = []
all_sums l w (lcid ∷ lcids) = sums_of l w lcid ++ all_sums l w lcids

unfoldable pub finishing : Link → Losses → List Record
finishing l w = all_sums l w all_lcids
