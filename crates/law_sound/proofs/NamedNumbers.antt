-- Only a record of a new block writes numbers, and an end tells of its PDUs by numbers from VT(S) on.
use Rattle.std.proofs.Common.{◌≡◌, ◌≤◌, ℕ, ◌+◌, Bool, true, false, if◌then◌else◌, Option, List, []}
use Rattle.std.proofs.Common.{◌∷◌, refl, ap, sym, subst, ◌∙◌, arith}
use Rattle.air_record.specs.declared.record.Record.{Record}
use Rattle.air_record.specs.declared.record.Record.TheVariants as records
use Rattle.bearer.specs.declared.flow.Flow.{Flow}
use Rattle.bearer.specs.declared.flow.Flow.TheVariants.{Am}
use Rattle.bearer_types.specs.Sides.{other, sender_of}
use Rattle.bearer_types.specs.declared.event.Event.{Event}
use Rattle.l2_node.specs.End.{End}
use Rattle.l2_node.specs.Finding.{has}
use Rattle.l2_types.specs.declared.AmRxConfig.{AmRxConfig}
use Rattle.l2_types.specs.declared.config.AmTxConfig.{AmTxConfig}
use Rattle.l2_types.specs.declared.side.Side.{Side}
use Rattle.l2_types.specs.declared.side.Side.TheVariants.{Nb, Ue}
use Rattle.mac_pdu.specs.declared.item.Direction.TheVariants as directions
use Rattle.pdu_show.specs.declared.kinds.Layout.{Layout}
use Rattle.promises.specs.Events.{told_on}
use Rattle.promises.specs.Names.{sent_pdus}
use Rattle.promises.specs.Records.{is_got}
use Rattle.promises.specs.SentNumbers.{AreNumbers}
use Rattle.rlc_am_tx.specs.Machine.{State as Sender}
use Rattle.rlc_am_tx_window.specs.Window.{TxWindow, next}
use Rattle.rlc_pdu.specs.declared.constants.TheConstants.{AM_WINDOW_SIZE}
use Rattle.journal_account.specs.FlowEvents.{FlowEvent, SduTaken, OctetsArrived, StatusHeard, PollExpired, size_in}
use Rattle.journal_account.specs.FlowEvents.{ReorderStarted, ReorderExpired, next_of}
use Rattle.journal_lives.specs.LifeEvents.{LifeEvent, InLife, running}
use Rattle.journal_flows.specs.declared.parcels.Parcel.{Parcel}
use Rattle.journal_flows.specs.declared.parcels.Parcel.TheVariants.{Octets, Pieces, Report}
use Rattle.journal_flows.specs.FlowsTold.{Histories, histories}
use Rattle.journal_flows.specs.Gathering.{Journal, sending_of, all_told}
use Rattle.journal_flows.specs.Gathering.{all_come, sent_last, behind_landing, behind_record}
use Rattle.journal_flows.specs.NumberedPdus.{come_as}
use Rattle.law_account.specs.History.{Follows}
use Rattle.law_account.proofs.History.{next_is}
use Rattle.law_deliver.specs.AmFlow.Channels.{GoesOnInLife, calls_of}
use Rattle.law_deliver.specs.AmFlow.Links.{IsFlowOn}
use Rattle.law_deliver.specs.AmFlow.Ups.{tells_over}
use Rattle.law_deliver.proofs.AmFlow.Ups.{tells_of}
use Rattle.law_node.specs.Calls.{Call}
use Rattle.law_node.specs.Telling.{told_of}
use Rattle.law_rlc.specs.AmPair.Flow.{sender, goes, am_rlc_outset}
use Rattle.law_rlc.proofs.AmPair.Laws.{keeps-order}
use Rattle.law_run.proofs.Numbered.{Fits, AreNumbered, on_channel}
use Rattle.law_run.proofs.Numbering.{calls_number}
use Rattle.law_sound.specs.LivedFails.{HasComeNew}
use Rattle.law_sound.specs.NamedSteps.{SendsNoNewBlock, OtherRecordsWriteNone, CallsAreNumbered}
use Rattle.law_sound.proofs.CarriedBlocks.{as_long}
use Rattle.law_sound.proofs.KeptFlows.{AreKeeping, StaysOver, all_keep, own_record_keeps, told_keeps}
use Rattle.law_sound.proofs.LivedFails.{stands_new, lived_there}

-- ---- what writes no number, of any flow

abbrev next_in : List LifeEvent → ℕ
next_in es = next_of (running es)

event_stays : (e : FlowEvent) → size_in e ≡ [] → StaysOver next_in (InLife e)
event_stays e none es = as_long e (running es) none

-- ---- a block is got

parcel_keeps : (from : Side) (p : Parcel) → AreKeeping next_in (come_as from p)
parcel_keeps from (Octets lcid n start end) =
    told_keeps next_in from lcid (InLife (OctetsArrived n start end)) (event_stays (OctetsArrived n start end) refl)
parcel_keeps from (Pieces lcid n size pieces) = (λ s l h. refl, tt)
parcel_keeps from (Report lcid ack entries) =
    told_keeps next_in (other from) lcid (InLife (StatusHeard ack entries)) (event_stays (StatusHeard ack entries) refl)

landing_keeps : (from : Side) (ps : List Parcel) (side : Side) (l : ℕ) (h : Histories)
    → next_of (running ((all_come histories from ps h).acked side l)) ≡ next_of (running (h.acked side l))
landing_keeps from [] side l h = refl
landing_keeps from (p ∷ ps) side l h =
    landing_keeps from ps side l (all_told histories (come_as from p) h)
    ∙ all_keep next_in (come_as from p) (parcel_keeps from p) side l h

-- ---- a record

record_keeps : (kinds : List (Option Layout)) (more : Bool) (one : Record) (side : Side) (l : ℕ)
    (j : Journal Histories) → SendsNoNewBlock one
    → next_of (running ((behind_record histories kinds more one j).flows.acked side l))
    ≡ next_of (running (j.flows.acked side l))
record_keeps kinds more (records.Of own e) side l j none =
    own_record_keeps next_in (λ count size es. as_long (SduTaken size) (running es) refl)
    (λ again. event_stays (PollExpired again) refl) (event_stays ReorderStarted refl) (event_stays ReorderExpired refl)
    kinds more own e side l j
record_keeps kinds more (records.Block direction process true rv octets) side l j none = absurd none
record_keeps kinds more (records.Block directions.Down process false rv octets) side l j none = refl
record_keeps kinds more (records.Block directions.Up process false rv octets) side l j none = refl
record_keeps kinds more (records.Air direction what heard) side l j none = by (is_got what)
  where
    by : (b : Bool) → next_of (running ((if b then behind_landing histories direction j else j).flows.acked side l))
        ≡ next_of (running (j.flows.acked side l))
    by true =
        landing_keeps (sender_of direction) (sent_last (sending_of (sender_of direction) j)) side l j.flows
    by false = refl
record_keeps kinds more one side l j none = refl

pub other_records_write_none : OtherRecordsWriteNone
other_records_write_none kinds side l [] j none = refl
other_records_write_none kinds side l (x ∷ xs) j none =
    other_records_write_none kinds side l xs (behind_record histories kinds x.more x.one j) none.1
    ∙ record_keeps kinds x.more x.one side l j none.0

-- ---- what an end tells of

few_sent : (w : TxWindow) → next w ≤ w.base + AM_WINDOW_SIZE → Fits w
few_sent w h = omega (arith, h)

module _ (l : ℕ) (side : Side) (sending : AmTxConfig) (receiving : AmRxConfig) (from to : End)
    (out : IsFlowOn l sending receiving from to) where
  fits : Fits out.from_bearer.tx.window
  fits =
      let f = goes out.steps (am_rlc_outset sending receiving) in
      subst (λ (s : Sender). Fits s.window) out.sender_is
      (few_sent (sender f).state.window (keeps-order sending receiving out.steps out.given).window)

  numbers_on : (c : Call) → GoesOnInLife l c → HasComeNew side l from → has l from.bearers ≡ true → (most : ℕ)
      (es : List FlowEvent) → Follows most es out.from_bearer.tx
      → AreNumbers l (next_of es) (sent_pdus (told_of from c))
  numbers_on c life new there most es follows =
      let d = out.from_bearer in
      let own = calls_of l from c in
      let w = (calls_number l d own).kept fits in
      let tells : told_on l (told_of from c) ≡ tells_over l (Am d) own =
      (tells_of side l from c (stands_new side l from new there) life).told_is
      ∙ ap (λ (f : Flow). tells_over l f own) out.from_is in
      let numbered : AreNumbered (next_of es) (tells_over l (Am d) own) =
      subst (λ (n : ℕ). AreNumbered n (tells_over l (Am d) own)) (sym (next_is most es d.tx follows)) w.numbered in
      (on_channel l (next_of es) (told_of from c)
      (subst (λ (told : List Event). AreNumbered (next_of es) told) (sym tells) numbered)).numbers

pub calls_are_numbered : CallsAreNumbered
calls_are_numbered l Nb a c down up call j h new life g =
    let there = lived_there l a (record { pdus = c; down = down; up = up }) h in
    subst (λ (es : List FlowEvent). AreNumbers l (next_of es) (sent_pdus (told_of a.nb.end call))) (sym g.down_is)
    (numbers_on l Nb h.nb_bearer.tx_config h.ue_bearer.rx_config a.nb.end a.ue.end h.air.by_air.flows.down call life
    new.nb there.nb h.nb_bearer.tx_config.max_retx down h.beside.by_nb.follows)
calls_are_numbered l Ue a c down up call j h new life g =
    let there = lived_there l a (record { pdus = c; down = down; up = up }) h in
    subst (λ (es : List FlowEvent). AreNumbers l (next_of es) (sent_pdus (told_of a.ue.end call))) (sym g.up_is)
    (numbers_on l Ue h.ue_bearer.tx_config h.nb_bearer.rx_config a.ue.end a.nb.end h.air.by_air.flows.up call life
    new.ue there.ue h.ue_bearer.tx_config.max_retx up h.beside.by_ue.follows)
