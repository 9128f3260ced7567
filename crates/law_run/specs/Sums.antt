-- The sums at the end of a journal (docs/formats/JOURNAL.md): its own counts, and whether a sender
-- gave up since the last handover.
use Rattle.std.specs.Prelude.{ℕ, if◌then◌else◌, List, [], ◌∷◌, ◌++◌, length}
use Rattle.bearer_types.specs.Lcids.{all_lcids}
use Rattle.bearer_types.specs.Sides.{other}
use Rattle.air_record.specs.declared.record.Record.{Record}
use Rattle.air_run.specs.Journal.{RunClose}
use Rattle.line_player.specs.Journal.{Finished, Refused, Waiting}
use Rattle.air_run.specs.Rules.{is_known}
use Rattle.air_run.specs.Run.{RunState}
use Rattle.air_run.specs.Sums.{sum_by}
use Rattle.air_text.specs.Groups.{Group}
use Rattle.l2_types.specs.declared.side.Side.{Side}
use Rattle.l2_types.specs.declared.side.Side.TheVariants.{Nb, Ue}
use Rattle.promises.specs.Drained.{has_failed}
use Rattle.promises.specs.Flows.{submitted, delivered}
use Rattle.law_run.specs.Order.{state_behind}

-- of the flow that a side sends on a channel: the SDUs that its end submitted, and those that the
-- other handed up; `failed` stands exactly where its sender gave up since the last handover
abbrev pub sum_told : Side → List Group → RunState → ℕ → Record
sum_told side past r lcid =
    sum_by side lcid (record {
      submitted = length (submitted side lcid past);
      delivered = length (delivered (other side) lcid past);
      failed = has_failed side lcid past;
    }) r.losses

abbrev pub sums_told : List Group → RunState → ℕ → List Record
sums_told past r lcid = if is_known lcid r.link then sum_told Nb past r lcid
    ∷ sum_told Ue past r lcid ∷ [] else []

abbrev pub all_told : List Group → RunState → List ℕ → List Record
all_told past r [] = []
all_told past r (lcid ∷ lcids) = sums_told past r lcid ++ all_told past r lcids

-- they stand exactly where the journal is finished
abbrev pub sums_at : RunClose → List Group → List Record
sums_at Finished past = all_told past (state_behind past) all_lcids
sums_at (Refused number reason) past = []
sums_at Waiting past = []
