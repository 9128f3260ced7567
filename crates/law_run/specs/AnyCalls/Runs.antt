-- A link from its beginning on through any calls, and the records of them all (TS 36.321 5.3, 5.4).
use Rattle.std.specs.Prelude.{◌≡◌, ℕ, ◌+◌, ◌<◌, if◌then◌else◌, List, [], ◌∷◌, ◌++◌, length, map}
use Rattle.std.specs.Prelude.{slice_index}
use Rattle.std.specs.List.{filter, range_with_len}
use Rattle.air_record.specs.declared.line.Outcome.{Outcome}
use Rattle.air_record.specs.declared.record.Record.{Record}
use Rattle.air_record.specs.declared.record.Record.TheVariants as records
use Rattle.l2_types.specs.declared.side.Side.{Side}
use Rattle.l2_types.specs.declared.side.Side.TheVariants.{Nb, Ue}
use Rattle.air_link.specs.Link.{Link, fresh}
use Rattle.air_link.specs.Draining.{drain_tti}
use Rattle.air_link.specs.Lines.{submitting}
use Rattle.air_link.specs.Ttis.{tti}
use Rattle.law_run.specs.AnyCalls.Counts.{ups, loopeds}
use Rattle.bearer_types.specs.Sides.{is_same}
use Rattle.promises.specs.Records.{is_of_run}
use Rattle.law_run.specs.AnyCalls.Calls.{Call, after}
use Rattle.law_run.specs.AnyCalls.Told.{submitted_at, delivered_at, why_refused, accepted}

pub data Step : Type 0 where
  Tti : ℕ → Outcome → ℕ → Outcome → Step
  Drains : ℕ → Step  -- a TTI of a drain
  Submit : Side → ℕ → List ℕ → Step
  Calls : Call → Step

abbrev pub step : Step → Link → Link
step (Tti up_grant up down_grant down) l = tti up_grant up down_grant down l
step (Drains grant) l = drain_tti grant l
step (Submit side lcid sdu) l = submitting side lcid sdu l
step (Calls c) l = after c l

-- the SDUs that a step hands in at a side, on a channel: one where it is accepted
abbrev pub handed : Step → Side → ℕ → Link → ℕ
handed (Tti up_grant up down_grant down) s k l = 0
handed (Drains grant) s k l = 0
handed (Submit side lcid sdu) s k l = if is_same s side
    then accepted lcid (why_refused side lcid sdu l) k else 0
handed (Calls c) s k l = 0

-- the link, the records so far, and the SDUs handed in so far
pub record Run : Type 0 where
  pub link : Link
  pub journal : List Record
  pub given : Side → ℕ → ℕ

-- the records of a step are taken before the next
abbrev pub emptied : Link → Link
emptied l = record l { out = [] }

abbrev pub goes : Step → Run → Run
goes s r = record {
  link = emptied (step s r.link);
  journal = r.journal ++ (step s r.link).out;
  given = λ side k. r.given side k + handed s side k r.link;
}

abbrev pub goes_on : List Step → Run → Run
goes_on [] r = r
goes_on (s ∷ ss) r = goes_on ss (goes s r)

abbrev pub run_of : List Step → Run
run_of ss = goes_on ss (record { link = fresh; journal = []; given = λ side k. 0 })

-- a table of the LCIDs 0 to 10
pub record IsTable (by : ℕ → ℕ) (table : List ℕ) : Type 0 where
  pub size : length table ≡ 11
  pub each : (lcid : ℕ) → lcid < 11 → slice_index table lcid ≡ by lcid

-- what is counted is what was told and handed in, and the TTIs are numbered from 0 on, each number
-- once
pub record IsCounted (r : Run) : Type 0 where
  pub nb_delivered : IsTable (λ lcid. ups Nb lcid r.journal) (delivered_at Nb r.link)
  pub ue_delivered : IsTable (λ lcid. ups Ue lcid r.journal) (delivered_at Ue r.link)
  pub nb_submitted : IsTable (r.given Nb) (submitted_at Nb r.link)
  pub ue_submitted : IsTable (λ lcid. r.given Ue lcid + loopeds lcid r.journal)
      (submitted_at Ue r.link)
  pub numbered : filter is_of_run r.journal ≡ map records.Tti (range_with_len 0 r.link.ttis)

abbrev pub RunsAreCounted : Type 0
RunsAreCounted = (ss : List Step) → IsCounted (run_of ss)
