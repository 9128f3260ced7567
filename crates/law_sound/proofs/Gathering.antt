-- What a log tells of a flow is gathered from a journal.
use Rattle.std.proofs.Common.{◌≡◌, ℕ, ◌+◌, ◌^◌, ◌%◌, ◌==◌, Bool, true, false, if◌then◌else◌, List, ◌∷◌}
use Rattle.std.proofs.Common.{length, Option, Some, None, refl, ap, sym, subst, arith}
use Rattle.std.specs.Prelude.{slice_index_or}
use Rattle.std.proofs.lemmas.Bool.Decides.{nat_tests}
use Rattle.std.proofs.lemmas.Bool.{eqb-true, lt-ltb}
use Rattle.l2_types.specs.declared.event.Clock.TheVariants.{Poll, Reorder, Prohibit}
use Rattle.l2_types.specs.declared.event.How.TheVariants as hows
use Rattle.l2_types.specs.declared.side.Side.{Side}
use Rattle.l2_types.specs.declared.side.Side.TheVariants.{Nb, Ue}
use Rattle.rlc_pdu.specs.Pdus.{AmdPdu}
use Rattle.rlc_am_rx_window.specs.Piece.{octets_in, so_of}
use Rattle.rlc_am_tx_window.specs.Window.{next}
use Rattle.pdcp_pdu.specs.declared.pdu.PdcpKind.{PdcpKind}
use Rattle.pdcp_pdu.specs.declared.pdu.PdcpKind.TheVariants as pdcp
use Rattle.pdu_show.specs.declared.kinds.Layout.{Layout}
use Rattle.pdu_show.specs.declared.kinds.Layout.TheVariants as layouts
use Rattle.bearer_types.specs.declared.event.Event.TheVariants as events
use Rattle.bearer_types.specs.Sides.{other}
use Rattle.law_words.specs.Passing.{last_with}
use Rattle.journal_account.specs.FlowEvents.{FlowEvent, NumberWritten, OctetsResent, StatusHeard, PollExpired}
use Rattle.journal_account.specs.FlowEvents.{ReorderStarted, ReorderExpired, next_of}
use Rattle.journal_lives.specs.LifeEvents.{LifeEvent, PduGiven, InLife, running}
use Rattle.journal_um.specs.UmEvents.{UmEvent}
use Rattle.journal_um.specs.UmEvents as um
use Rattle.journal_flows.specs.FlowsTold.{Histories, histories}
use Rattle.journal_flows.specs.Gathering.{all_told, taken_as, report_as, reorder_as}
use Rattle.journal_flows.specs.Possible.{is_possible, is_count_of}
use Rattle.journal_flows.specs.NumberedPdus.{told, told_in}
use Rattle.law_account.specs.History.{with_told}
use Rattle.law_sound.specs.GatherLaws.{HasCount, EventsAreGathered, DataIsGathered, TrueStatusIsGathered}
use Rattle.law_sound.specs.LogLaws.{data_told, event_told}
use Rattle.law_sound.proofs.Logs.{come_is}
use Rattle.law_sound.proofs.Numbering.{is_no_next}
use Rattle.law_sound.proofs.Telling.{told_own}

-- ---- an event

pub own_running : (side : Side) (l : ℕ) (e : LifeEvent) (h : Histories)
    → is_possible (next_of (running (h.acked side l))) e ≡ true
    → running ((all_told histories (told side l e) h).acked side l) ≡ running (e ∷ h.acked side l)
own_running side l e h possible = ap (λ (es : List LifeEvent). running es) (told_own side l e h possible)

counted : (bits lcid : ℕ) (count : Option ℕ) (len : ℕ) → HasCount (pdcp.Am bits) (events.Take lcid count len)
    → is_count_of count ≡ true
counted bits lcid None len c = refl
counted bits lcid (Some count) len c = lt-ltb count (2 ^ 32) c

taken_gathered : (kind : PdcpKind) (side : Side) (l : ℕ) (count : Option ℕ) (len : ℕ) (more : Bool) (h : Histories)
    → HasCount kind (events.Take l count len)
    → running ((all_told histories (taken_as (Some (layouts.Am kind)) side l count len) h).acked side l)
    ≡ with_told (event_told kind more (events.Take l count len)) (running (h.acked side l))
taken_gathered pdcp.Srb side l count len more h c = own_running side l (PduGiven None (len + 5)) h refl
taken_gathered (pdcp.Um bits) side l None len more h c = own_running side l (PduGiven None (len + 2)) h refl
taken_gathered (pdcp.Um bits) side l (Some count) len more h c =
    own_running side l (PduGiven (Some count) (len + 2)) h (lt-ltb count (2 ^ 32) c)
taken_gathered (pdcp.Am bits) side l count len more h c =
    own_running side l (PduGiven count (len + 2)) h (counted bits l count len c)

report_gathered : (kind : PdcpKind) (side : Side) (l fms : ℕ) (bitmap : List ℕ) (more : Bool) (h : Histories)
    → running ((all_told histories (report_as (Some (layouts.Am kind)) side l (length bitmap)) h).acked side l)
    ≡ with_told (event_told kind more (events.Report l fms bitmap)) (running (h.acked side l))
report_gathered pdcp.Srb side l fms bitmap more h = refl
report_gathered (pdcp.Um bits) side l fms bitmap more h = refl
report_gathered (pdcp.Am bits) side l fms bitmap more h =
    own_running side l (PduGiven None ((if bits == 12 then 2 else 3) + length bitmap)) h refl

-- t-Reordering is of the flow that comes
pub other_stays : (side : Side) (l : ℕ) (e : FlowEvent) (h : Histories)
    → (all_told histories (told_in (other side) l e) h).acked side l ≡ h.acked side l
other_stays Nb l e h = refl
other_stays Ue l e h = refl

reorder_gathered : (kind : PdcpKind) (side : Side) (l : ℕ) (e : FlowEvent) (u : UmEvent) (h : Histories)
    → running ((all_told histories (reorder_as (Some (layouts.Am kind)) (other side) l e u) h).acked side l)
    ≡ running (h.acked side l)
reorder_gathered kind side l e u h = ap (λ (es : List LifeEvent). running es) (other_stays side l e h)

pub events_gathered : EventsAreGathered
events_gathered kinds kind more side l (events.Take lcid count len) h k on c =
    let is : lcid ≡ l = eqb-true lcid l on in
    subst (λ (n : ℕ). running ((all_told histories (taken_as (slice_index_or kinds n None) side n count len) h).acked
    side l) ≡ with_told (event_told kind more (events.Take n count len)) (running (h.acked side l))) (sym is)
    (subst (λ (x : Option Layout). running ((all_told histories (taken_as x side l count len) h).acked side l)
    ≡ with_told (event_told kind more (events.Take l count len)) (running (h.acked side l))) (sym k)
    (taken_gathered kind side l count len more h (subst (λ (n : ℕ). HasCount kind (events.Take n count len)) is c)))
events_gathered kinds kind more side l (events.Report lcid fms bitmap) h k on c =
    let is : lcid ≡ l = eqb-true lcid l on in
    subst (λ (n : ℕ). running ((all_told histories (report_as (slice_index_or kinds n None) side n
    (length bitmap)) h).acked side l)
    ≡ with_told (event_told kind more (events.Report n fms bitmap)) (running (h.acked side l))) (sym is)
    (subst (λ (x : Option Layout). running ((all_told histories (report_as x side l (length bitmap)) h).acked side l)
    ≡ with_told (event_told kind more (events.Report l fms bitmap)) (running (h.acked side l))) (sym k)
    (report_gathered kind side l fms bitmap more h))
events_gathered kinds kind more side l (events.Expired lcid Poll) h k on c =
    let is : lcid ≡ l = eqb-true lcid l on in
    subst (λ (n : ℕ). running ((all_told histories (told_in side n (PollExpired more)) h).acked side l)
    ≡ PollExpired more ∷ running (h.acked side l)) (sym is) (own_running side l (InLife (PollExpired more)) h refl)
events_gathered kinds kind more side l (events.Expired lcid Reorder) h k on c =
    let is : lcid ≡ l = eqb-true lcid l on in
    subst (λ (n : ℕ). running ((all_told histories (reorder_as (slice_index_or kinds n None) (other side) n
    ReorderExpired um.ReorderExpired) h).acked side l) ≡ running (h.acked side l)) (sym is)
    (subst (λ (x : Option Layout). running ((all_told histories (reorder_as x (other side) l
    ReorderExpired um.ReorderExpired) h).acked side l) ≡ running (h.acked side l)) (sym k)
    (reorder_gathered kind side l ReorderExpired um.ReorderExpired h))
events_gathered kinds kind more side l (events.Expired lcid Prohibit) h k on c = refl
events_gathered kinds kind more side l (events.Start lcid Reorder) h k on c =
    let is : lcid ≡ l = eqb-true lcid l on in
    subst (λ (n : ℕ). running ((all_told histories (reorder_as (slice_index_or kinds n None) (other side) n
    ReorderStarted um.ReorderStarted) h).acked side l) ≡ running (h.acked side l)) (sym is)
    (subst (λ (x : Option Layout). running ((all_told histories (reorder_as x (other side) l
    ReorderStarted um.ReorderStarted) h).acked side l) ≡ running (h.acked side l)) (sym k)
    (reorder_gathered kind side l ReorderStarted um.ReorderStarted h))
events_gathered kinds kind more side l (events.Start lcid Poll) h k on c = refl
events_gathered kinds kind more side l (events.Start lcid Prohibit) h k on c = refl
events_gathered kinds kind more side l e h k on c = refl

-- ---- a data PDU

new_is : (w : ℕ) (pdu : AmdPdu) → pdu.sn ≡ w % 1024 → data_told w pdu ≡ NumberWritten (octets_in pdu.elements)
new_is w pdu sn = by (pdu.sn == w % 1024) (grind (arith, nat_tests, sn))
  where
    by : (b : Bool) → b ≡ true
        → (if b then NumberWritten (octets_in pdu.elements) else OctetsResent (last_with pdu.sn w) (so_of pdu.segment)
        (so_of pdu.segment + octets_in pdu.elements)) ≡ NumberWritten (octets_in pdu.elements)
    by true e = refl
    by false e = cc

again_is : (w : ℕ) (pdu : AmdPdu) → (pdu.sn == w % 1024) ≡ false
    → data_told w pdu
    ≡ OctetsResent (last_with pdu.sn w) (so_of pdu.segment) (so_of pdu.segment + octets_in pdu.elements)
again_is w pdu e =
    ap (λ (b : Bool). if b then NumberWritten (octets_in pdu.elements) else OctetsResent (last_with pdu.sn w)
    (so_of pdu.segment) (so_of pdu.segment + octets_in pdu.elements)) e

pub data_gathered : DataIsGathered
data_gathered from w front l hows.New pdu d n = ap (λ (e : FlowEvent). told_in from l e) (sym (new_is w pdu n))
data_gathered from w front l hows.Re pdu d n =
    ap (λ (e : FlowEvent). told_in from l e) (sym (again_is w pdu (is_no_next w pdu.sn n)))
data_gathered from w front l hows.Status pdu d n = absurd d
data_gathered from w front l hows.Tm pdu d n = absurd d

-- ---- a STATUS

pub back : (side : Side) → other (other side) ≡ side
back Nb = refl
back Ue = refl

pub true_status_gathered : TrueStatusIsGathered
true_status_gathered side l w status ack entries h = record {
  event = StatusHeard ack entries;
  logged = come_is w (next w) status ack entries refl h;
  gathered' = ap (λ (s : Side). told_in s l (StatusHeard ack entries)) (back side);
}
