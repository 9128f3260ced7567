-- The records of a step in which an end builds a new block: those that tell what it tells before the block, the block,
-- and some that tell of no end.
use Rattle.std.proofs.Common.{◌≡◌, ℕ, ◌%◌, true, List, [], ◌∷◌, ◌++◌, append-nil, append_assoc, ap, sym, subst, ◌∙◌}
use Rattle.std.specs.List.{AllByRecursion}
use Rattle.air_record.specs.declared.record.Record.{Record}
use Rattle.air_record.specs.declared.record.Record.TheVariants as records
use Rattle.bearer_types.specs.Sides.{other, sent_by}
use Rattle.bearer_types.specs.declared.event.Event.{Event}
use Rattle.harq.specs.declared.sender.Visit.TheVariants.{New}
use Rattle.l2_node.specs.Building.{visit, visited}
use Rattle.l2_node.specs.Writing.{new_block}
use Rattle.l2_types.specs.declared.side.Side.{Side}
use Rattle.promises.specs.Records.{events_of}
use Rattle.law_deliver.specs.AmChannel.Lives.{InLife}
use Rattle.law_deliver.specs.AmFlow.Air.{Air, Calls, Step}
use Rattle.law_given.proofs.GivenRecords.{BringsNoBlock}
use Rattle.law_node.specs.Calls.{Turn, Visits}
use Rattle.law_node.specs.Telling.{told_of}
use Rattle.law_run.specs.TwoEnds.Along.{at_side}
use Rattle.law_run.specs.TwoEnds.Logs.{Builds, Flight, all_tell, flight_in, log_at, logged}
use Rattle.law_sound.specs.BesideLaws.{station_of}
use Rattle.law_sound.specs.NamedSteps.{SendsNoNewBlock}
use Rattle.law_sound.proofs.LogEntries.{block_in}
use Rattle.law_sound.proofs.LoggedEvents.{HearsNone, IsUnbuilt, events_in, events_then, far_told, none_comes_in}
use Rattle.law_sound.proofs.LoggedEvents.{none_sent, none_sent_anew, own_told, records_events, tells_hear_none}
use Rattle.law_sound.proofs.LoggedEvents.{tells_unbuilt}
use Rattle.law_sound.proofs.StepLogs.{log_at_side}
use Rattle.law_sound.proofs.StepRecords.{building_log}

-- the block of a side
abbrev pub block_of : Side → ℕ → ℕ → List ℕ → Record
block_of side process version octets = records.Block (sent_by side) process true version octets

-- what a step logs in which a side builds one
pub step_log : (side : Side) (a : Air) (s : Step) (turn : Turn) (sent : Flight) (xs : List Record)
    → logged sent xs ≡ log_at a (InLife s) → s ≡ at_side side (Calls (Visits turn))
    → visit turn.tti turn.order (station_of side a).end ≡ New
    → logged sent xs
    ≡ all_tell side (told_of (station_of side a).end (Visits turn))
    ++ Builds side (turn.tti % 8) (new_block (visited turn.tti turn.order (station_of side a).end) turn.grant) ∷ []
step_log side a s turn sent xs logs step build =
    logs ∙ ap (λ (y : Step). log_at a (InLife y)) step ∙ log_at_side side a (Calls (Visits turn))
    ∙ building_log side 0 (station_of side a).end turn build

-- all that is known of them
pub record BuiltAmong (side : Side) (process : ℕ) (octets : List ℕ) (said : List Event) (sent : Flight)
    (xs : List Record) : Type 0 where
  pub first : List Record
  pub version : ℕ
  pub behind : List Record
  pub told_is : xs ≡ first ++ block_of side process version octets ∷ behind
  pub first_logs : logged sent first ≡ all_tell side said
  -- what they tell of each side
  pub first_said : events_of side first ≡ said
  pub first_all : events_of side first ≡ events_of side xs
  pub first_far : events_of (other side) first ≡ []
  pub behind_told : (z : Side) → events_of z behind ≡ []
  -- they send no other new block, and none comes
  pub first_unsent : AllByRecursion SendsNoNewBlock first
  pub behind_unsent : AllByRecursion SendsNoNewBlock behind
  pub first_brings : AllByRecursion BringsNoBlock first
  -- behind others
  pub together : (told : List Record)
      → ((told ++ first) ++ block_of side process version octets ∷ []) ++ behind ≡ told ++ xs

pub built_among : (side : Side) (process : ℕ) (octets : List ℕ) (said : List Event) (sent : Flight) (xs : List Record)
    → logged sent xs ≡ all_tell side said ++ Builds side process octets ∷ []
    → BuiltAmong side process octets said sent xs
built_among side process octets said sent xs log_is =
    let p = block_in side process octets said sent xs log_is in
    let block = block_of side process p.version octets in
    let first_said : events_of side p.first ≡ said =
    records_events side sent p.first ∙ ap (events_in side) p.first_logs ∙ own_told side said in
    let said_is : events_of side xs ≡ said =
    records_events side sent xs ∙ ap (events_in side) log_is
    ∙ events_then side (all_tell side said) (Builds side process octets ∷ [])
    ∙ append-nil (events_in side (all_tell side said)) ∙ own_told side said in
    let before = flight_in (p.first ++ block ∷ []) sent in
    record {
      first = p.first;
      version = p.version;
      behind = p.behind;
      told_is = p.told_is;
      first_logs = p.first_logs;
      first_said = first_said;
      first_all = first_said ∙ sym said_is;
      first_far = records_events (other side) sent p.first ∙ ap (events_in (other side)) p.first_logs
          ∙ far_told side said;
      behind_told = λ z. records_events z before p.behind ∙ ap (events_in z) p.behind_logs;
      first_unsent = none_sent_anew sent p.first
          (subst (AllByRecursion IsUnbuilt) (sym p.first_logs) (tells_unbuilt side said));
      behind_unsent = none_sent before p.behind p.behind_logs;
      first_brings = none_comes_in sent p.first
          (subst (AllByRecursion HearsNone) (sym p.first_logs) (tells_hear_none side said));
      together = λ told.
          append_assoc (told ++ p.first) (block ∷ []) p.behind ∙ append_assoc told p.first (block ∷ p.behind)
          ∙ ap (λ (zs : List Record). told ++ zs) (sym p.told_is);
    }
