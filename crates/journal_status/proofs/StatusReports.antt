-- The STATUS that a new block carries are judged by the accounts as by the histories.
use Rattle.std.proofs.Common.{◌≡◌, ℕ, ◌≤◌, Bool, true, false, List, [], ◌∷◌, length, Option, Some, None}
use Rattle.std.proofs.Common.{inl, inr, ◌↔◌, refl, ap, sym, ◌∙◌, arith, if◌then◌else◌, slice_set, slice_index_or}
use Rattle.std.specs.Prelude.{MatchOption, Result, Ok, unwrap_or}
use Rattle.std.specs.List.{All}
use Rattle.std.proofs.lemmas.Bool.{cases_lt, and_parts, and_from, false≢true}
use Rattle.std.proofs.lemmas.List.{get_or-set_same, get_or_past, length-set}
use Rattle.std.proofs.lemmas.List.Elements.{All-nil, All-cons, All-head, All-tail, All-push, All-same}
use Rattle.l2_types.specs.declared.event.How.{How}
use Rattle.l2_types.specs.declared.event.How.TheVariants as hows
use Rattle.l2_types.specs.declared.side.Side.{Side}
use Rattle.l2_types.specs.declared.side.Side.TheVariants.{Nb, Ue}
use Rattle.mac_pdu.specs.declared.builder.Sdu.{Sdu}
use Rattle.mac_pdu.specs.declared.item.Direction.{Direction}
use Rattle.mac_pdu.specs.Reading.{reading}
use Rattle.rlc_pdu.specs.declared.fault.RlcRefusal.{RlcRefusal}
use Rattle.rlc_pdu.specs.Pdus.{AcknowledgedPdu, Payload, Status, UmdPdu}
use Rattle.rlc_pdu.specs.Reading.{am_at, umd_at}
use Rattle.bearer_types.specs.declared.config.BearerConfig.{BearerConfig}
use Rattle.bearer_types.specs.Sides.{other, sender_of}
use Rattle.air_record.specs.declared.record.Record.{Record}
use Rattle.air_record.specs.declared.record.Record.TheVariants as records
use Rattle.pdu_show.specs.declared.kinds.Layout.{Layout}
use Rattle.pdu_show.specs.declared.kinds.Layout.TheVariants as layouts
use Rattle.pdu_show.specs.Carried.{is_acknowledged}
use Rattle.journal_account.specs.declared.entry.StatusEntry.{StatusEntry}
use Rattle.journal_account.specs.FlowAccount.{FlowAccount}
use Rattle.journal_account.specs.FlowEvents.{IsHistory}
use Rattle.journal_account.specs.FlowStatus.{is_true_status}
use Rattle.journal_account.specs.TrueStatus.{IsTrueStatus}
use Rattle.journal_account.proofs.Accounts.{accounts_are_true}
use Rattle.journal_lives.specs.FlowLives.{FlowLives, lives_of}
use Rattle.journal_lives.specs.LifeEvents.{LifeEvent, PduGiven, InLife, LifeEnded, running, AreLives}
use Rattle.journal_lives.proofs.LivesTold.{lives_are_true}
use Rattle.journal_flows.specs.declared.parcels.Parcel.{Parcel}
use Rattle.journal_flows.specs.declared.parcels.Parcel.TheVariants.{Octets, Pieces, Report}
use Rattle.journal_flows.specs.declared.sending.Named.{Named}
use Rattle.journal_flows.specs.UmPdus.{um_parcel_by}
use Rattle.journal_flows.specs.NumberedPdus.{parcel_by}
use Rattle.journal_flows.specs.Gathering.{Gatherer, Sending, Journal, Loaded, sending_of, parcel_in, parcel_of}
use Rattle.journal_flows.specs.Gathering.{loads_parcel, loads}
use Rattle.journal_flows.specs.Gathering.{sdus_read, holds, with_loaded, behind_new, sent_last}
use Rattle.journal_flows.specs.FlowsTold.{Histories}
use Rattle.journal_flows.specs.Accounts.{Accounts, Keeping, accounts, account_at, is_acked_kind}
use Rattle.journal_flows.specs.Accounts.{after_record as kept_behind}
use Rattle.journal_flows.specs.Laws.{account_by}
use Rattle.journal_flows.proofs.Same.{Bearers, is_acked}
use Rattle.journal_flows.proofs.Steps.{AreKinds, found}
use Rattle.journal_status.specs.RightStatus.{IsTrueReport, AreTrueReports}
use Rattle.journal_status.specs.StatusChecking.{is_true_for, is_true_report, all_true, are_true}

-- ---- the STATUS of a new block are of acknowledged bearers

abbrev pub IsAckedReport : List (Option Layout) → Parcel → Type 0
IsAckedReport kinds (Octets lcid n start end) = Unit {0}
IsAckedReport kinds (Pieces lcid n size pieces) = Unit {0}
IsAckedReport kinds (Report lcid ack entries) = is_acknowledged (slice_index_or kinds lcid None) ≡ true

abbrev MayBeAcked : List (Option Layout) → Option Parcel → Type 0
MayBeAcked kinds o = MatchOption o (Unit {0}) (IsAckedReport kinds)

read_acked : (kinds : List (Option Layout)) (next front lcid : ℕ) (how : How) (read : Result AcknowledgedPdu RlcRefusal)
    → is_acknowledged (slice_index_or kinds lcid None) ≡ true → MayBeAcked kinds (parcel_by next front lcid how read)
read_acked kinds next front lcid hows.New (Ok (Payload pdu)) acked = tt
read_acked kinds next front lcid hows.Re (Ok (Payload pdu)) acked = tt
read_acked kinds next front lcid hows.Status (Ok (Status pdu)) acked = acked
read_acked kinds next front lcid how read acked = tt

um_acked : (kinds : List (Option Layout)) (next place lcid : ℕ) (how : How) (read : Result UmdPdu RlcRefusal)
    → MayBeAcked kinds (um_parcel_by next place lcid how read)
um_acked kinds next place lcid hows.New (Ok pdu) = tt
um_acked kinds next place lcid how read = tt

parcel_acked : {F : Type 0} (g : Gatherer F) (kinds : List (Option Layout)) (flows : F) (from : Side) (s : Named)
    (octets : List ℕ)
    → MayBeAcked kinds (parcel_of g kinds flows from s octets)
parcel_acked g kinds flows from s octets = by (slice_index_or kinds s.lcid None) refl
  where
    by : (o : Option Layout) → slice_index_or kinds s.lcid None ≡ o
        → MayBeAcked kinds (parcel_in g o flows from s octets)
    by (Some (layouts.Am kind)) is = read_acked kinds (g.next from s.lcid flows) (g.front (other from) s.lcid flows)
        s.lcid s.how (am_at octets) (ap (λ (o : Option Layout). is_acknowledged o) is)
    by (Some (layouts.Um bits kind)) is = um_acked kinds (g.um_next from s.lcid flows) (g.um_place from s.lcid flows)
        s.lcid s.how (umd_at bits octets)
    by (Some layouts.Tm) is = tt
    by None is = tt

load_acked : {F : Type 0} (g : Gatherer F) (kinds : List (Option Layout)) (from : Side) (how : How)
    (o : Option Parcel) (b : Loaded F)
    → MayBeAcked kinds o → All (IsAckedReport kinds) b.parcels
    → All (IsAckedReport kinds) (loads_parcel g from how o b).parcels
load_acked g kinds from how None b h all = all
load_acked g kinds from how (Some p) b h all = All-push (IsAckedReport kinds) b.parcels p all h

pub loads_acked : {F : Type 0} (g : Gatherer F) (kinds : List (Option Layout)) (from : Side) (sent : List Named)
    (sdus : List Sdu) (b : Loaded F)
    → All (IsAckedReport kinds) b.parcels
    → All (IsAckedReport kinds) (loads g kinds from sent sdus b).parcels
loads_acked g kinds from (s ∷ sent) (d ∷ sdus) b all =
    loads_acked g kinds from sent sdus
    (loads_parcel g from s.how (parcel_of g kinds b.flows from s d.octets) b)
    (load_acked g kinds from s.how (parcel_of g kinds b.flows from s d.octets) b
    (parcel_acked g kinds b.flows from s d.octets) all)
loads_acked g kinds from [] sdus b all = all
loads_acked g kinds from (s ∷ sent) [] b all = all

held_acked : (kinds : List (Option Layout)) (process : ℕ) (ps : List Parcel) (x : Sending)
    → All (IsAckedReport kinds) ps → All (IsAckedReport kinds) (sent_last (holds process ps x))
held_acked kinds process ps x all = elim (cases_lt process (length x.held)) [
  | inl lt ↦ All-same (IsAckedReport kinds) (sent_last (holds process ps x)) ps
      (ap (λ (o : Option (List Parcel)). unwrap_or o []) (get_or-set_same x.held process (Some ps) None lt)) all
  | inr le ↦ All-same (IsAckedReport kinds) (sent_last (holds process ps x)) []
      (ap (λ (o : Option (List Parcel)). unwrap_or o [])
      (get_or_past (slice_set x.held process (Some ps)) process None
      (omega (arith, le, length-set x.held process (Some ps))))) (All-nil (IsAckedReport kinds))
]

sending_is : (from : Side) (process : ℕ) (b : Loaded Accounts) (j : Journal Accounts)
    → sending_of from (with_loaded from process b j) ≡ holds process b.parcels (sending_of from j)
sending_is Nb process b j = refl
sending_is Ue process b j = refl

block_acked : (kinds : List (Option Layout)) (direction : Direction) (process : ℕ) (octets : List ℕ)
    (j : Journal Accounts) → All (IsAckedReport kinds)
    (sent_last (sending_of (sender_of direction) (behind_new accounts kinds direction process octets j)))
block_acked kinds direction process octets j =
    let from = sender_of direction in
    let first : Loaded Accounts = record { flows = j.flows; parcels = [] } in
    let b = loads accounts kinds from (sending_of from j).named (sdus_read (reading direction octets)) first in
    All-same (IsAckedReport kinds) (sent_last (sending_of from (with_loaded from process b j)))
    (sent_last (holds process b.parcels (sending_of from j)))
    (ap (λ (x : Sending). sent_last x) (sending_is from process b j))
    (held_acked kinds process b.parcels (sending_of from j)
    (loads_acked accounts kinds from (sending_of from j).named (sdus_read (reading direction octets)) first
    (All-nil (IsAckedReport kinds))))

-- ---- a STATUS is true by its flow's account exactly where it is by its history

pub in_life : (es : List LifeEvent) → AreLives es → IsHistory (running es)
in_life [] h = tt
in_life (PduGiven count size ∷ es) h = (tt, in_life es h.1)
in_life (InLife e ∷ es) h = (h.0.1, in_life es h.1)
in_life (LifeEnded ∷ es) h = tt

judged_by : (bearer : Option BearerConfig) (es : List LifeEvent) (ack : ℕ) (entries : List StatusEntry)
    → is_acked bearer ≡ true → AreLives es
    → is_true_for (account_by bearer es) ack entries ≡ true ↔ IsTrueStatus (running es) ack entries
judged_by None es ack entries acked h = absurd (false≢true acked)
judged_by (Some config) es ack entries acked h = by (is_acked_kind config.kind) acked
  where
    by : (b : Bool) → b ≡ true
        → is_true_for (if b then Some (lives_of config.tx.max_retx config.first es) else None) ack entries ≡ true
        ↔ IsTrueStatus (running es) ack entries
    by true is =
        let same = ap (λ (a : FlowAccount). is_true_status ack entries a.arrivals)
        (lives_are_true config.tx.max_retx config.first es h).account in
        let judged = (accounts_are_true config.tx.max_retx (running es) (in_life es h)).statuses ack entries in
        ((λ t. judged.all (sym same ∙ t)), (λ t. same ∙ judged.only t))
    by false is = absurd (false≢true is)

-- what is kept is that of the histories
pub record IsKept (bearers : Bearers) (k : Keeping) (j : Journal Histories) : Type 0 where
  pub kinds_are : AreKinds bearers k.kinds
  pub sent : (side : Side) → sending_of side k.journal ≡ sending_of side j
  pub lives : (side : Side) (lcid : ℕ) → AreLives (j.flows.acked side lcid)
  pub is : (side : Side) (lcid : ℕ) → lcid ≤ 10
      → account_at side lcid k.journal.flows ≡ account_by (bearers lcid) (j.flows.acked side lcid)

report_judged : (bearers : Bearers) (k : Keeping) (j : Journal Histories) → IsKept bearers k j → (from : Side)
    (p : Parcel) → IsAckedReport k.kinds p
    → is_true_report k.journal.flows from p ≡ true ↔ IsTrueReport j.flows.acked from p
report_judged bearers k j kept from (Octets lcid n start end) acked = ((λ t. tt), (λ t. refl))
report_judged bearers k j kept from (Pieces lcid n size pieces) acked = ((λ t. tt), (λ t. refl))
report_judged bearers k j kept from (Report lcid ack entries) acked =
    let there = found bearers k.kinds lcid kept.kinds_are acked in
    let same = ap (λ (o : Option FlowLives). is_true_for o ack entries) (kept.is (other from) lcid there.low) in
    let judged = judged_by (bearers lcid) (j.flows.acked (other from) lcid) ack entries there.acked
    (kept.lives (other from) lcid) in
    ((λ t. judged.0 (sym same ∙ t)), (λ t. same ∙ judged.1 t))

reports_sound : (bearers : Bearers) (k : Keeping) (j : Journal Histories) → IsKept bearers k j → (from : Side)
    (ps : List Parcel) → All (IsAckedReport k.kinds) ps → all_true k.journal.flows from ps ≡ true
    → All (IsTrueReport j.flows.acked from) ps
reports_sound bearers k j kept from [] acked h = All-nil (IsTrueReport j.flows.acked from)
reports_sound bearers k j kept from (p ∷ ps) acked h =
    let both = and_parts (is_true_report k.journal.flows from p) (all_true k.journal.flows from ps) h in
    All-cons (IsTrueReport j.flows.acked from) p ps
    ((report_judged bearers k j kept from p (All-head (IsAckedReport k.kinds) p ps acked)).0 both.0)
    (reports_sound bearers k j kept from ps (All-tail (IsAckedReport k.kinds) p ps acked) both.1)

reports_complete : (bearers : Bearers) (k : Keeping) (j : Journal Histories) → IsKept bearers k j → (from : Side)
    (ps : List Parcel) → All (IsAckedReport k.kinds) ps → All (IsTrueReport j.flows.acked from) ps
    → all_true k.journal.flows from ps ≡ true
reports_complete bearers k j kept from [] acked h = refl
reports_complete bearers k j kept from (p ∷ ps) acked h =
    and_from (is_true_report k.journal.flows from p) (all_true k.journal.flows from ps)
    ((report_judged bearers k j kept from p (All-head (IsAckedReport k.kinds) p ps acked)).1
    (All-head (IsTrueReport j.flows.acked from) p ps h))
    (reports_complete bearers k j kept from ps (All-tail (IsAckedReport k.kinds) p ps acked)
    (All-tail (IsTrueReport j.flows.acked from) p ps h))

-- ---- behind a record

abbrev pub is_block_true : Keeping → Record → Bool
is_block_true k (records.Block direction process true version octets) = are_true k (sender_of direction)
is_block_true k one = true

pub block_judged : (bearers : Bearers) (more : Bool) (one : Record) (k : Keeping) (j : Journal Histories)
    → IsKept bearers (kept_behind more one k) j
    → is_block_true (kept_behind more one k) one ≡ true ↔ AreTrueReports j one
block_judged bearers more (records.Block direction process true version octets) k j kept =
    let from = sender_of direction in
    let after = kept_behind more (records.Block direction process true version octets) k in
    let acked = block_acked k.kinds direction process octets k.journal in
    let same = ap (λ (x : Sending). sent_last x) (kept.sent from) in (
      (λ t. All-same (IsTrueReport j.flows.acked from) (sent_last (sending_of from j))
          (sent_last (sending_of from after.journal)) (sym same)
          (reports_sound bearers after j kept from (sent_last (sending_of from after.journal)) acked t)),
      (λ all. reports_complete bearers after j kept from (sent_last (sending_of from after.journal)) acked
          (All-same (IsTrueReport j.flows.acked from) (sent_last (sending_of from after.journal))
          (sent_last (sending_of from j)) same all)),
    )
block_judged bearers more one k j kept = ((λ t. tt), (λ t. refl))
