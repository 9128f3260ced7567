-- A journal's gatherer knows the HARQ process of the block that a side sent last as the log of its records does
-- (TS 36.321 5.3.2, 5.4.2).
use Rattle.std.proofs.Common.{◌≡◌, Bool, true, false, if◌then◌else◌, Option, List, [], ◌∷◌, refl, ap, ◌∙◌}
use Rattle.air_record.specs.declared.record.Record.{Record}
use Rattle.air_record.specs.declared.record.Record.TheVariants as records
use Rattle.bearer_types.specs.declared.event.Event.{Event}
use Rattle.bearer_types.specs.declared.event.Event.TheVariants as events
use Rattle.l2_types.specs.declared.side.Side.{Side}
use Rattle.l2_types.specs.declared.side.Side.TheVariants.{Nb, Ue}
use Rattle.mac_pdu.specs.declared.item.Direction.{Direction}
use Rattle.mac_pdu.specs.declared.item.Direction.TheVariants as directions
use Rattle.air_text.specs.Groups.{Group}
use Rattle.pdu_show.specs.declared.kinds.Layout.{Layout}
use Rattle.promises.specs.Records.{is_got}
use Rattle.journal_flows.specs.declared.sending.Named.{Named}
use Rattle.journal_flows.specs.Gathering.{Gatherer, Journal, Sending, sending_of, names, behind_landing, behind_event}
use Rattle.journal_flows.specs.Gathering.{behind_record, MayTake, behind_records}
use Rattle.law_run.specs.TwoEnds.Logs.{Flight, process_of, process_last, process_in, flight_in}

module _ {F : Type 0} (g : Gatherer F) where
  -- an event leaves what is kept of a side besides the names of its PDUs, and a block that lands leaves all of it
  pub event_keeps : {X : Type 0} (kept : Sending → X) → ((named : Named) (x : Sending) → kept (names named x) ≡ kept x)
      → (kinds : List (Option Layout)) (more : Bool) (by side : Side) (event : Event) (j : Journal F)
      → kept (sending_of side (behind_event g kinds more by event j)) ≡ kept (sending_of side j)
  event_keeps kept same kinds more Nb Nb (events.Send lcid how sn) j = same (record { lcid = lcid; how = how }) j.nb
  event_keeps kept same kinds more Nb Ue (events.Send lcid how sn) j = refl
  event_keeps kept same kinds more Ue Nb (events.Send lcid how sn) j = refl
  event_keeps kept same kinds more Ue Ue (events.Send lcid how sn) j = same (record { lcid = lcid; how = how }) j.ue
  event_keeps kept same kinds more by Nb event j = refl
  event_keeps kept same kinds more by Ue event j = refl

  pub landing_keeps : (lands : Bool) (direction : Direction) (side : Side) (j : Journal F)
      → sending_of side (if lands then behind_landing g direction j else j) ≡ sending_of side j
  landing_keeps true direction Nb j = refl
  landing_keeps true direction Ue j = refl
  landing_keeps false direction side j = refl

  pub record_process : (kinds : List (Option Layout)) (more : Bool) (one : Record) (side : Side) (j : Journal F)
      → (sending_of side (behind_record g kinds more one j)).process
      ≡ process_last side one (sending_of side j).process
  record_process kinds more (records.Of by event) side j =
      event_keeps (λ (x : Sending). x.process) (λ named x. refl) kinds more by side event j
  record_process kinds more (records.Block directions.Down process true version octets) Nb j = refl
  record_process kinds more (records.Block directions.Down process true version octets) Ue j = refl
  record_process kinds more (records.Block directions.Up process true version octets) Nb j = refl
  record_process kinds more (records.Block directions.Up process true version octets) Ue j = refl
  record_process kinds more (records.Block directions.Down process false version octets) Nb j = refl
  record_process kinds more (records.Block directions.Down process false version octets) Ue j = refl
  record_process kinds more (records.Block directions.Up process false version octets) Nb j = refl
  record_process kinds more (records.Block directions.Up process false version octets) Ue j = refl
  record_process kinds more (records.Air direction what heard) side j =
      ap (λ (x : Sending). x.process) (landing_keeps (is_got what) direction side j)
  record_process kinds more one side j = refl

  pub records_process : (may_take : MayTake) (past : List Group) (kinds : List (Option Layout))
      (before told : List Record) (side : Side) (j : Journal F)
      → (sending_of side (behind_records g may_take past kinds before told j)).process
      ≡ process_in side told (sending_of side j).process
  records_process may_take past kinds before [] side j = refl
  records_process may_take past kinds before (one ∷ told) side j =
      records_process may_take past kinds (one ∷ before) told side
      (behind_record g kinds (may_take past before one) one j)
      ∙ ap (process_in side told) (record_process kinds (may_take past before one) one side j)

  -- as the log knows it
  pub processes_are : (may_take : MayTake) (past : List Group) (kinds : List (Option Layout))
      (before told : List Record) (side : Side) (j : Journal F) (sent : Flight)
      → (sending_of side j).process ≡ process_of side sent
      → (sending_of side (behind_records g may_take past kinds before told j)).process
      ≡ process_of side (flight_in told sent)
  processes_are may_take past kinds before told side j sent is =
      records_process may_take past kinds before told side j ∙ (ap (process_in side told) is ∙ by side)
    where
      by : (s : Side) → process_in s told (process_of s sent) ≡ process_of s (flight_in told sent)
      by Nb = refl
      by Ue = refl
