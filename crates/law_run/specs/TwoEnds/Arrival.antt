-- What records tell of a direction of a channel: the PDUs of PDCP that the sending end tells of,
-- those in its new blocks, and those in the blocks that are got at the other end (TS 36.321 5.3.2,
-- 5.4.2).
use Rattle.std.specs.Prelude.{ℕ, List, [], ◌∷◌, ◌++◌}
use Rattle.air_record.specs.declared.record.Record.{Record}
use Rattle.l2_types.specs.declared.side.Side.{Side}
use Rattle.law_words.specs.Arrivals.{AccountEntry, Renews}
use Rattle.law_run.specs.AnyCalls.Calls.{HandsOver}
use Rattle.law_run.specs.AnyCalls.Runs.{Step, Calls}
use Rattle.promises.specs.Arrival.{entries_in}

-- a life of the channel's bearers ends in a handover
abbrev pub renewals_in : Step → List AccountEntry
renewals_in (Calls (HandsOver keys)) = Renews ∷ []
renewals_in s = []

-- a step of a link that adds these records
abbrev pub told_by_step : ℕ → ℕ → Side → Step → List Record → List AccountEntry
told_by_step bits l from s told = renewals_in s ++ entries_in bits l from [] told
