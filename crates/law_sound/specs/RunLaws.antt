-- How the run of a script tells of its flows, and so what it hands up of acknowledged data, what
-- RLC takes of it, what it takes and sends of every bearer, when flows fail, and what STATUS PDUs
-- say: of each journal as it is promised of every script.
use Rattle.std.specs.Prelude.{◌≡◌, ℕ, Bool, false, List}
use Rattle.air_run.specs.Journal.{RunPlayed}
use Rattle.promises.specs.Delivery.{is_forged}
use Rattle.journal_failure.specs.RightFailure.{FailureIsRight}
use Rattle.journal_flows.specs.Gathering.{MayTake}
use Rattle.journal_given.specs.Giving.{may_take_by}
use Rattle.journal_given.specs.RightTakes.{TakesAreRight}
use Rattle.journal_given.specs.Supplies.{histories}
use Rattle.journal_sent.specs.RightSent.{SentIsRight, ShapesAreRight}
use Rattle.journal_status.specs.RightStatus.{StatusIsRight}
use Rattle.journal_delivered.specs.RightDelivery.{DeliveredIsRight}
use Rattle.law_run.specs.Promises.{IsPromised}
use Rattle.law_sound.specs.ComingLaws.{TellsFlows}

abbrev pub RunsTellFlows : Type 0
RunsTellFlows =
    (whole : Bool) (octets : List ℕ) (played : RunPlayed) (p : IsPromised whole octets played)
    → TellsFlows p.past

-- right as the checker of any journal asks it, where no block was forged
abbrev pub RunsDeliver : Type 0
RunsDeliver =
    (may_take : MayTake) (whole : Bool) (octets : List ℕ) (played : RunPlayed)
    (p : IsPromised whole octets played) → is_forged p.past ≡ false
    → DeliveredIsRight may_take p.past

abbrev pub RunsReportTruly : Type 0
RunsReportTruly =
    (may_take : MayTake) (whole : Bool) (octets : List ℕ) (played : RunPlayed)
    (p : IsPromised whole octets played) → is_forged p.past ≡ false → StatusIsRight may_take p.past

abbrev pub RunsTakeRightly : Type 0
RunsTakeRightly =
    (whole : Bool) (octets : List ℕ) (played : RunPlayed) (p : IsPromised whole octets played)
    → is_forged p.past ≡ false → TakesAreRight p.past

abbrev pub RunsSendRightly : Type 0
RunsSendRightly =
    (whole : Bool) (octets : List ℕ) (played : RunPlayed) (p : IsPromised whole octets played)
    → is_forged p.past ≡ false → SentIsRight p.past × ShapesAreRight p.past

-- an SDU may be taken as t-PollRetransmit expires, by what the journal tells
abbrev pub RunsFailRightly : Type 0
RunsFailRightly =
    (whole : Bool) (octets : List ℕ) (played : RunPlayed) (p : IsPromised whole octets played)
    → is_forged p.past ≡ false → FailureIsRight (may_take_by histories p.past) p.past
