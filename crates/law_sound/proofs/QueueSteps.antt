-- A step of a life, with its records, on a channel whose bearers aren't of acknowledged data: what is kept of the flows
-- goes on beside both ends, and each record is right on the channel.
use Rattle.std.proofs.Common.{◌≡◌, ◌≤◌, ℕ, List, [], ◌∷◌, ◌++◌, None, ap, sym, subst, ◌∙◌, inl}
use Rattle.std.specs.List.{AllByRecursion}
use Rattle.air_record.specs.declared.record.Record.{Record}
use Rattle.air_record.specs.Submissions.{submitted_by}
use Rattle.air_text.specs.Groups.{Group}
use Rattle.l2_types.specs.declared.side.Side.{Side}
use Rattle.promises.specs.Blocks.{kinds}
use Rattle.promises.specs.Events.{told_on}
use Rattle.promises.specs.Flows.{looped_at}
use Rattle.promises.specs.Records.{events_of}
use Rattle.journal_flows.specs.FlowsTold.{Histories}
use Rattle.journal_flows.specs.Gathering.{Journal, sending_of}
use Rattle.law_deliver.specs.AmChannel.Lives.{InLife, end_at}
use Rattle.law_deliver.specs.AmFlow.Air.{Air, Calls, Step, happens}
use Rattle.law_given.proofs.GivenRecords.{journal_at}
use Rattle.law_node.specs.Calls.{Visits}
use Rattle.law_node.specs.Holding.{flow}
use Rattle.law_run.specs.TwoEnds.Logs.{Flight, LogEntry, logged}
use Rattle.law_sound.specs.NamedLogs.{named_over}
use Rattle.law_sound.specs.NamedSteps.{SendsNoNewBlock}
use Rattle.law_sound.proofs.GivenStepFacts.{step_there}
use Rattle.law_sound.proofs.LoggedEvents.{IsUnbuilt, events_in, none_sent, none_sent_anew, records_events}
use Rattle.law_sound.proofs.MovingFails.{lives_come_new}
use Rattle.law_sound.proofs.NamedLogs.{records_name, steps_leave_none_named}
use Rattle.law_sound.proofs.QueueAt.{AreRightRecords, IsQueuedAt, KnowsAcked, TellsStep}
use Rattle.law_sound.proofs.QueueBuilds.{builds_go}
use Rattle.law_sound.proofs.QueueQuiet.{GoesQuietly, QueuesGo, goes_quietly, quiet_go}
use Rattle.law_sound.proofs.QueueRecords.{all_right, not_data}
use Rattle.law_sound.proofs.SentJournals.{goes_on_read, named_more}
use Rattle.law_sound.proofs.SentSteps.{BuildsNone, BuildsOne, HowItBuilds, done_act, how_it_builds}
use Rattle.law_sound.proofs.WaitingSteps.{bearer_between}

module _ (l : ℕ) (low : l ≤ 10) (newer : List Group) (now : Group) (past : List Group)
    (none : submitted_by now.line ≡ None) where
  abbrev Stands : List Record → Air → Type 0
  Stands told a = IsQueuedAt l low newer now past none told a

  abbrev at_told : List Record → Journal Histories
  at_told told = journal_at l low newer now past none told

  pub queue_step : (told xs : List Record) (a : Air) (s : Step) (sent : Flight)
      → TellsStep l low newer now past none a s sent xs → KnowsAcked l low newer now past none told a → Stands told a
      → Stands (told ++ xs) (happens a s) × AreRightRecords l now past told xs
  queue_step told xs a s sent tells knows h =
      let go = by (how_it_builds l a s tells.given) in
      let r = goes_on_read l low newer now past none told xs in (
        record {
          new = lives_come_new l (InLife s ∷ []) a h.new (tells.given, tt);
          there = step_there l a s tells.given h.new h.there;
          queued = go.queued;
          silent = λ side. ap (λ (j : Journal Histories). (sending_of side j).named) r.is
              ∙ steps_leave_none_named (kinds (now ∷ past)) side a (InLife s) sent r.reads (at_told told)
              (ap (logged sent) r.are ∙ tells.logs) (h.silent side);
          alike = named_more l low newer now past none xs told h.alike;
        },
        go.right,
      )
    where
      by : HowItBuilds l a s → QueuesGo l low newer now past none a s sent told xs tells h.new h.there
      by (BuildsNone quiet unbuilt) =
          quiet_go l low newer now past none a s sent told xs tells h.new h.there quiet
          (none_sent_anew sent xs (subst (AllByRecursion IsUnbuilt) (sym tells.logs) unbuilt)) h.queued
      by (BuildsOne side turn step acts build) =
          builds_go l low newer now past none a s sent told xs tells knows h side turn step
          (done_act l a side (Calls (Visits turn)) acts) build

  -- records that log nothing, and tell of no loop
  pub queue_silent : (told xs : List Record) (a : Air) (sent : Flight) → logged sent xs ≡ []
      → ((side : Side) (n : ℕ) → looped_at side n xs ≡ []) → Stands told a
      → Stands (told ++ xs) a × AreRightRecords l now past told xs
  queue_silent told xs a sent logs loops h =
      let r = goes_on_read l low newer now past none told xs in (
        record {
          new = h.new;
          there = h.there;
          queued = λ side. (goes side).queued;
          silent = λ side. ap (λ (j : Journal Histories). (sending_of side j).named) r.is
              ∙ records_name (kinds (now ∷ past)) side sent r.reads (at_told told)
              ∙ ap (λ (hs : List LogEntry). named_over side hs (sending_of side (at_told told)).named)
              (ap (logged sent) r.are ∙ logs)
              ∙ h.silent side;
          alike = named_more l low newer now past none xs told h.alike;
        },
        all_right l now past none xs told (λ side. (h.queued side).flow) (λ side. (h.queued side).stands)
            (λ side. not_data (flow l (end_at side a)) (h.queued side).flow (h.queued side).queued) unsent
            (λ side. (goes side).right),
      )
    where
      unsent : AllByRecursion SendsNoNewBlock xs
      unsent = none_sent sent xs logs

      quiet : (side : Side) → told_on l (events_of side xs) ≡ []
      quiet side = ap (told_on l) (records_events side sent xs ∙ ap (events_in side) logs)

      goes : (side : Side) → GoesQuietly l side (flow l (end_at side a)) [] xs (quiet side) (loops side l) now past none
          told (h.queued side).flow
      goes side =
          goes_quietly l side (flow l (end_at side a)) [] xs (quiet side) (loops side l) now past none told (inl tt) tt
          (bearer_between l a h.new h.there side) unsent (h.queued side)
