-- What a true STATUS acknowledges is complete, and so is all that is acknowledged in a journal.
use Rattle.std.proofs.Common.{◌≡◌, ℕ, zero, suc, ◌<◌, Bool, true, false, ◌||◌, ◌&&◌, not, nat_lt, List, [], ◌∷◌}
use Rattle.std.proofs.Common.{◌++◌, length, Option, Some, None, inl, inr, refl, ap, sym, ◌∙◌, arith, subst}
use Rattle.std.proofs.Common.{if◌then◌else◌, slice_set, slice_index_or, replicate, append_assoc}
use Rattle.std.specs.Prelude.{MatchOption, ◌==◌, unwrap_or}
use Rattle.std.specs.List.{All}
use Rattle.std.proofs.lemmas.Bool.{cases_lt, cases_eq, eq-eqb, ne_eqb, eqb-true, and_parts, ltb-true, false≢true}
use Rattle.std.proofs.lemmas.List.{get_or-set_same, get_or-set_other, get_or_past, length-set}
use Rattle.std.proofs.lemmas.List.Elements.{All-nil, All-cons, All-head, All-tail, All-same, All-weaker}
use Rattle.l2_types.specs.declared.event.Clock.TheVariants.{Poll, Reorder}
use Rattle.l2_types.specs.declared.event.How.{How}
use Rattle.l2_types.specs.declared.event.How.TheVariants as hows
use Rattle.l2_types.specs.declared.side.Side.{Side}
use Rattle.l2_types.specs.declared.side.Side.TheVariants.{Nb, Ue}
use Rattle.mac_pdu.specs.declared.builder.Sdu.{Sdu}
use Rattle.mac_pdu.specs.declared.item.Direction.{Direction}
use Rattle.mac_pdu.specs.Reading.{reading}
use Rattle.bearer_types.specs.declared.config.BearerConfig.{BearerConfig}
use Rattle.bearer_types.specs.declared.event.Event.{Event}
use Rattle.bearer_types.specs.declared.event.Event.TheVariants as events
use Rattle.bearer_types.specs.Sides.{other, is_same, sender_of}
use Rattle.air_record.specs.declared.line.Line.{Line}
use Rattle.air_record.specs.declared.line.Line.TheVariants as lines
use Rattle.air_record.specs.declared.record.Record.{Record}
use Rattle.air_record.specs.declared.record.Record.TheVariants as records
use Rattle.air_text.specs.Groups.{Group}
use Rattle.pdu_show.specs.declared.kinds.Layout.{Layout}
use Rattle.pdu_show.specs.declared.kinds.Layout.TheVariants as layouts
use Rattle.pdu_show.specs.Carried.{is_acknowledged}
use Rattle.pdu_show.specs.Kinds.{layout_of}
use Rattle.pdcp_pdu.specs.declared.pdu.PdcpKind.TheVariants as pdcp
use Rattle.promises.specs.Blocks.{kinds, kinds_by}
use Rattle.promises.specs.Records.{is_got}
use Rattle.journal_account.specs.declared.entry.StatusEntry.{StatusEntry}
use Rattle.journal_account.specs.Acked.{is_acked, acks, is_applied}
use Rattle.journal_account.specs.Arrived.{is_complete_in}
use Rattle.journal_account.specs.Entries.{names_number}
use Rattle.journal_account.specs.FlowEvents.{FlowEvent, SduTaken, ReorderStarted, ReorderExpired, field_sizes}
use Rattle.journal_account.specs.TrueStatus.{IsTrueStatus}
use Rattle.journal_account.proofs.Complete.{still_complete}
use Rattle.journal_lives.specs.LifeEvents.{LifeEvent, PduGiven, InLife, LifeEnded, running}
use Rattle.journal_um.specs.UmEvents.{UmEvent}
use Rattle.journal_um.specs.UmEvents as um
use Rattle.journal_flows.specs.declared.parcels.Parcel.{Parcel}
use Rattle.journal_flows.specs.declared.parcels.Parcel.TheVariants.{Octets, Pieces, Report}
use Rattle.journal_flows.specs.declared.sending.Named.{Named}
use Rattle.journal_flows.specs.Possible.{is_possible, with_event}
use Rattle.journal_flows.specs.NumberedPdus.{AnyEvent, Acked, Unacked, Told, written_as, come_as}
use Rattle.journal_flows.specs.Gathering.{Sending, Journal, Loaded, MayTake, all_told, sending_of, with_flows}
use Rattle.journal_flows.specs.Gathering.{with_sending, nothing_sent, taken_as, report_as, reorder_as, told_by, names}
use Rattle.journal_flows.specs.Gathering.{behind_event, parcel_of, loads_parcel, loads, sdus_read, holds, with_loaded}
use Rattle.journal_flows.specs.Gathering.{behind_new, resends, all_come, sent_last, behind_landing, behind_record}
use Rattle.journal_flows.specs.Gathering.{behind_line, behind_end, is_handover, behind_records, behind}
use Rattle.journal_flows.specs.FlowsTold.{Flows, Histories, no_events, is_at, with_acked, with_any, with_told}
use Rattle.journal_flows.specs.FlowsTold.{histories}
use Rattle.journal_flows.specs.Laws.{bearer_on, bearer_by}
use Rattle.journal_status.specs.RightStatus.{IsTrueReport, AreTrueReports, told_within, StatusesAreTrue, StatusIsRight}
use Rattle.journal_status.specs.StatusLaws.{ComesNew, BearersAreNew, AckedAreComplete}
use Rattle.journal_status.proofs.StatusReports.{IsAckedReport, loads_acked}

abbrev IsDone : Flows → Side → ℕ → ℕ → Type 0
IsDone f side l n = is_complete_in (running (f side l)) n ≡ true

abbrev Grows : Flows → Flows → Type 0
Grows f g = (side : Side) (l n : ℕ) → IsDone f side l n → IsDone g side l n

abbrev AreDone : Flows → Type 0
AreDone f = (side : Side) (l n : ℕ) → is_acked (running (f side l)) n ≡ true → IsDone f side l n

-- ---- an event

-- what it acknowledges is complete, and it ends no life
abbrev MayBe : LifeEvent → List LifeEvent → Type 0
MayBe (PduGiven count size) es = Unit {0}
MayBe (InLife e) es =
    (n : ℕ) → acks e (is_acked (running es)) n ≡ true → is_complete_in (running es) n ≡ true
MayBe LifeEnded es = ⊥

either : (a b : Bool) → (P : Type 0) → (a ≡ true → P) → (b ≡ true → P) → (a || b) ≡ true → P
either true b P p q h = p refl
either false b P p q h = q h

grows_with : (e : LifeEvent) (es : List LifeEvent) → MayBe e es → (n : ℕ) → is_complete_in (running es) n ≡ true
    → is_complete_in (running (e ∷ es)) n ≡ true
grows_with (PduGiven count size) es m n h = still_complete (SduTaken size) (running es) n h
grows_with (InLife e) es m n h = still_complete e (running es) n h
grows_with LifeEnded es m n h = absurd m

done_with : (e : LifeEvent) (es : List LifeEvent) → MayBe e es
    → ((n : ℕ) → is_acked (running es) n ≡ true → is_complete_in (running es) n ≡ true) → (n : ℕ)
    → is_acked (running (e ∷ es)) n ≡ true → is_complete_in (running (e ∷ es)) n ≡ true
done_with (PduGiven count size) es m was n h =
    still_complete (SduTaken size) (running es) n
    (either (is_acked (running es) n) false (is_complete_in (running es) n ≡ true) (was n)
    (λ no. absurd (false≢true no)) h)
done_with (InLife e) es m was n h =
    still_complete e (running es) n
    (either (is_acked (running es) n) (acks e (is_acked (running es)) n) (is_complete_in (running es) n ≡ true) (was n)
    (m n) h)
done_with LifeEnded es m was n h = absurd m

same_side : (a b : Side) → is_same a b ≡ true → a ≡ b
same_side Nb Nb h = refl
same_side Nb Ue h = absurd (false≢true h)
same_side Ue Nb h = absurd (false≢true h)
same_side Ue Ue h = refl

moved : (from : Side) (own : ℕ) (e : LifeEvent) (f : Flows) (side : Side) (l : ℕ) → MayBe e (f from own)
    → is_at from own side l ≡ true → MayBe e (f side l)
moved from own e f side l m is =
    let both = and_parts (is_same from side) (own == l) is in
    subst (λ (s : Side). MayBe e (f s l)) (same_side from side both.0)
    (subst (λ (k : ℕ). MayBe e (f from k)) (eqb-true own l both.1) m)

possible_by : (e : LifeEvent) (es : List LifeEvent) (P : List LifeEvent → Type 0) → P (e ∷ es) → P es
    → (b : Bool) → P (if b then e ∷ es else es)
possible_by e es P p q true = p
possible_by e es P p q false = q

acked_grows : (from : Side) (own : ℕ) (e : LifeEvent) (f : Flows) → MayBe e (f from own)
    → Grows f (with_acked from own e f)
acked_grows from own e f m side l n h = by (is_at from own side l) refl
  where
    by : (b : Bool) → is_at from own side l ≡ b
        → is_complete_in (running (if b then with_event e (f side l) else f side l)) n ≡ true
    by true is = possible_by e (f side l) (λ es. is_complete_in (running es) n ≡ true)
        (grows_with e (f side l) (moved from own e f side l m is) n h) h
        (is_possible (length (field_sizes (running (f side l)))) e)
    by false is = h

acked_done : (from : Side) (own : ℕ) (e : LifeEvent) (f : Flows) → MayBe e (f from own) → AreDone f
    → AreDone (with_acked from own e f)
acked_done from own e f m was side l = by (is_at from own side l) refl
  where
    by : (b : Bool) → is_at from own side l ≡ b → (n : ℕ)
        → is_acked (running (if b then with_event e (f side l) else f side l)) n ≡ true
        → is_complete_in (running (if b then with_event e (f side l) else f side l)) n ≡ true
    by true is = possible_by e (f side l)
        (λ es. (n : ℕ) → is_acked (running es) n ≡ true → is_complete_in (running es) n ≡ true)
        (done_with e (f side l) (moved from own e f side l m is) (was side l)) (was side l)
        (is_possible (length (field_sizes (running (f side l)))) e)
    by false is = was side l

-- an event of an unacknowledged flow changes no other
abbrev MayTellAny : Histories → Side → ℕ → AnyEvent → Type 0
MayTellAny f from own (Acked e) = MayBe e (f.acked from own)
MayTellAny f from own (Unacked e) = Unit {0}

abbrev MayTell : Histories → Told → Type 0
MayTell f t = MayTellAny f t.side t.lcid t.event

any_grows : (from : Side) (own : ℕ) (e : AnyEvent) (f : Histories) → MayTellAny f from own e
    → Grows f.acked (with_any from own e f).acked
any_grows from own (Acked e) f m = acked_grows from own e f.acked m
any_grows from own (Unacked e) f m = λ side l n h. h

any_done : (from : Side) (own : ℕ) (e : AnyEvent) (f : Histories) → MayTellAny f from own e → AreDone f.acked
    → AreDone (with_any from own e f).acked
any_done from own (Acked e) f m was = acked_done from own e f.acked m was
any_done from own (Unacked e) f m was = was

-- ---- events, one behind the other

abbrev MayAll : Histories → List Told → Type 0
MayAll f [] = Unit {0}
MayAll f (t ∷ ts) = MayTell f t × MayAll (with_told t f) ts

record Goes (f g : Histories) : Type 0 where
  grows : Grows f.acked g.acked
  done : AreDone g.acked

stays : (f : Histories) → AreDone f.acked → Goes f f
stays f was = record { grows = λ side l n h. h; done = was }

both_go : (f g h : Histories) → Goes f g → Goes g h → Goes f h
both_go f g h a b = record {
  grows = λ side l n d. b.grows side l n (a.grows side l n d);
  done = b.done;
}

all_go : (ts : List Told) (f : Histories) → MayAll f ts → AreDone f.acked → Goes f (all_told histories ts f)
all_go [] f m was = stays f was
all_go (t ∷ ts) f m was =
    let next : AreDone (with_told t f).acked = any_done t.side t.lcid t.event f m.0 was in
    both_go f (with_told t f) (all_told histories ts (with_told t f))
    (record { grows = any_grows t.side t.lcid t.event f m.0; done = next }) (all_go ts (with_told t f) m.1 next)

taken_may : (o : Option Layout) (side : Side) (lcid : ℕ) (count : Option ℕ) (len : ℕ) (f : Histories)
    → MayAll f (taken_as o side lcid count len)
taken_may (Some (layouts.Am pdcp.Srb)) side lcid count len f = (tt, tt)
taken_may (Some (layouts.Am kind)) side lcid count len f = (tt, tt)
taken_may (Some (layouts.Um rlc_bits (pdcp.Um bits))) side lcid count len f = (tt, tt)
taken_may o side lcid count len f = tt

report_may : (o : Option Layout) (side : Side) (lcid len : ℕ) (f : Histories) → MayAll f (report_as o side lcid len)
report_may (Some (layouts.Am (pdcp.Am bits))) side lcid len f = (tt, tt)
report_may o side lcid len f = tt

reorder_may : (o : Option Layout) (side : Side) (lcid : ℕ) (e : FlowEvent) (um : UmEvent) (f : Histories)
    → MayBe (InLife e) (f.acked side lcid) → MayAll f (reorder_as o side lcid e um)
reorder_may (Some (layouts.Um rlc_bits kind)) side lcid e um f m = (tt, tt)
reorder_may o side lcid e um f m = (m, tt)

event_may : (ks : List (Option Layout)) (more : Bool) (side : Side) (event : Event) (f : Histories)
    → MayAll f (told_by ks more side event)
event_may ks more side (events.Take lcid count len) f = taken_may (slice_index_or ks lcid None) side lcid count len f
event_may ks more side (events.Report lcid fms bitmap) f =
    report_may (slice_index_or ks lcid None) side lcid (length bitmap) f
event_may ks more side (events.Start lcid Reorder) f =
    reorder_may (slice_index_or ks lcid None) (other side) lcid ReorderStarted um.ReorderStarted f
    (λ n h. absurd (false≢true h))
event_may ks more side (events.Expired lcid Reorder) f =
    reorder_may (slice_index_or ks lcid None) (other side) lcid ReorderExpired um.ReorderExpired f
    (λ n h. absurd (false≢true h))
event_may ks more side (events.Expired lcid Poll) f = ((λ n h. absurd (false≢true h)), tt)
event_may ks more side event f = tt

written_may : (from : Side) (how : How) (p : Parcel) (f : Histories) → MayAll f (written_as from how p)
written_may from hows.New (Octets lcid n start end) f = ((λ n h. absurd (false≢true h)), tt)
written_may from hows.Re (Octets lcid n start end) f = ((λ n h. absurd (false≢true h)), tt)
written_may from hows.New (Pieces lcid n size pieces) f = (tt, tt)
written_may from how p f = tt

-- ---- PDUs

-- it is of an acknowledged bearer, and what it acknowledges is complete
abbrev IsSafe : List (Option Layout) → Flows → Side → Parcel → Type 0
IsSafe ks f from (Octets lcid n start end) = Unit {0}
IsSafe ks f from (Pieces lcid n size pieces) = Unit {0}
IsSafe ks f from (Report lcid ack entries) =
    (is_acknowledged (slice_index_or ks lcid None) ≡ true)
    × ((n : ℕ) → n < ack → names_number entries n ≡ false → IsDone f (other from) lcid n)

safe_grows : (ks : List (Option Layout)) (f g : Flows) (from : Side) → Grows f g → (p : Parcel) → IsSafe ks f from p
    → IsSafe ks g from p
safe_grows ks f g from grow (Octets lcid n start end) h = tt
safe_grows ks f g from grow (Pieces lcid n size pieces) h = tt
safe_grows ks f g from grow (Report lcid ack entries) h =
    (h.0, λ n lt none. grow (other from) lcid n (h.1 n lt none))

not_of : (b : Bool) → not b ≡ true → b ≡ false
not_of true h = absurd (false≢true h)
not_of false h = refl

come_may : (ks : List (Option Layout)) (from : Side) (p : Parcel) (f : Histories) → IsSafe ks f.acked from p
    → MayAll f (come_as from p)
come_may ks from (Octets lcid n start end) f h = ((λ n h. absurd (false≢true h)), tt)
come_may ks from (Pieces lcid n size pieces) f h = (tt, tt)
come_may ks from (Report lcid ack entries) f h = (
  (λ n is.
      let both = and_parts (is_applied (is_acked (running (f.acked (other from) lcid))) ack)
      (nat_lt n ack && not (names_number entries n)) is in
      let low = and_parts (nat_lt n ack) (not (names_number entries n)) both.1 in
      h.1 n (ltb-true n ack low.0) (not_of (names_number entries n) low.1)),
  tt,
)

all_come_go : (ks : List (Option Layout)) (from : Side) (ps : List Parcel) (f : Histories)
    → All (IsSafe ks f.acked from) ps → AreDone f.acked → Goes f (all_come histories from ps f)
all_come_go ks from [] f safe was = stays f was
all_come_go ks from (p ∷ ps) f safe was =
    let g = all_told histories (come_as from p) f in
    let one : Goes f g = all_go (come_as from p) f
    (come_may ks from p f (All-head (IsSafe ks f.acked from) p ps safe)) was in
    both_go f g (all_come histories from ps g) one
    (all_come_go ks from ps g
    (All-weaker (IsSafe ks f.acked from) (IsSafe ks g.acked from) (safe_grows ks f.acked g.acked from one.grows) ps
    (All-tail (IsSafe ks f.acked from) p ps safe)) one.done)

load_go : (ks : List (Option Layout)) (from : Side) (how : How) (o : Option Parcel) (b : Loaded Histories)
    → AreDone b.flows.acked → Goes b.flows (loads_parcel histories from how o b).flows
load_go ks from how None b was = stays b.flows was
load_go ks from how (Some p) b was = all_go (written_as from how p) b.flows (written_may from how p b.flows) was

loads_go : (ks : List (Option Layout)) (from : Side) (sent : List Named) (sdus : List Sdu) (b : Loaded Histories)
    → AreDone b.flows.acked → Goes b.flows (loads histories ks from sent sdus b).flows
loads_go ks from (s ∷ sent) (d ∷ sdus) b was =
    let c = loads_parcel histories from s.how (parcel_of histories ks b.flows from s d.octets) b in
    let one : Goes b.flows c.flows =
    load_go ks from s.how (parcel_of histories ks b.flows from s d.octets) b was in
    both_go b.flows c.flows (loads histories ks from sent sdus c).flows one (loads_go ks from sent sdus c one.done)
loads_go ks from [] sdus b was = stays b.flows was
loads_go ks from (s ∷ sent) [] b was = stays b.flows was

-- what a true STATUS acknowledges is complete
acks_done : (es : List FlowEvent) (ack : ℕ) (entries : List StatusEntry) → IsTrueStatus es ack entries → (n : ℕ)
    → n < ack → names_number entries n ≡ false → is_complete_in es n ≡ true
acks_done es ack entries h n lt none =
    either (is_complete_in es n) (names_number entries n) (is_complete_in es n ≡ true) (λ is. is)
    (λ is. absurd (false≢true (sym none ∙ is))) (h.ack_is.before n (omega arith) lt)

true_safe : (ks : List (Option Layout)) (f : Flows) (from : Side) (p : Parcel) → IsAckedReport ks p
    → IsTrueReport f from p → IsSafe ks f from p
true_safe ks f from (Octets lcid n start end) acked h = tt
true_safe ks f from (Pieces lcid n size pieces) acked h = tt
true_safe ks f from (Report lcid ack entries) acked h =
    (acked, acks_done (running (f (other from) lcid)) ack entries h)

all_safe : (ks : List (Option Layout)) (f : Flows) (from : Side) (ps : List Parcel) → All (IsAckedReport ks) ps
    → All (IsTrueReport f from) ps → All (IsSafe ks f from) ps
all_safe ks f from [] acked h = All-nil (IsSafe ks f from)
all_safe ks f from (p ∷ ps) acked h =
    All-cons (IsSafe ks f from) p ps
    (true_safe ks f from p (All-head (IsAckedReport ks) p ps acked) (All-head (IsTrueReport f from) p ps h))
    (all_safe ks f from ps (All-tail (IsAckedReport ks) p ps acked) (All-tail (IsTrueReport f from) p ps h))

-- ---- what is gathered

abbrev AreHeld : List (Option Layout) → Flows → Side → Option (List Parcel) → Type 0
AreHeld ks f side o = MatchOption o (Unit {0}) (All (IsSafe ks f side))

record Safe (ks : List (Option Layout)) (j : Journal Histories) : Type 0 where
  done : AreDone j.flows.acked
  held : (side : Side) (i : ℕ) → AreHeld ks j.flows.acked side (slice_index_or (sending_of side j).held i None)

held_grows : (ks : List (Option Layout)) (f g : Flows) (side : Side) → Grows f g → (o : Option (List Parcel))
    → AreHeld ks f side o → AreHeld ks g side o
held_grows ks f g side grow None h = tt
held_grows ks f g side grow (Some ps) h =
    All-weaker (IsSafe ks f side) (IsSafe ks g side) (safe_grows ks f g side grow) ps h

last_safe : (ks : List (Option Layout)) (f : Flows) (side : Side) (o : Option (List Parcel)) → AreHeld ks f side o
    → All (IsSafe ks f side) (unwrap_or o [])
last_safe ks f side None h = All-nil (IsSafe ks f side)
last_safe ks f side (Some ps) h = h

flows_safe : (ks : List (Option Layout)) (j : Journal Histories) (g : Histories) → Safe ks j → Goes j.flows g
    → Safe ks (with_flows g j)
flows_safe ks j g s go = record { done = go.done; held = λ side i. by side i }
  where
    by : (side : Side) (i : ℕ)
        → AreHeld ks g.acked side (slice_index_or (sending_of side (with_flows g j)).held i None)
    by Nb i = held_grows ks j.flows.acked g.acked Nb go.grows (slice_index_or j.nb.held i None) (s.held Nb i)
    by Ue i = held_grows ks j.flows.acked g.acked Ue go.grows (slice_index_or j.ue.held i None) (s.held Ue i)

sending_safe : (ks : List (Option Layout)) (j : Journal Histories) (from : Side) (x : Sending) → Safe ks j
    → ((i : ℕ) → AreHeld ks j.flows.acked from (slice_index_or x.held i None)) → Safe ks (with_sending from x j)
sending_safe ks j Nb x s h = record { done = s.done; held = λ side i. by side i }
  where
    by : (side : Side) (i : ℕ)
        → AreHeld ks j.flows.acked side (slice_index_or (sending_of side (with_sending Nb x j)).held i None)
    by Nb i = h i
    by Ue i = s.held Ue i
sending_safe ks j Ue x s h = record { done = s.done; held = λ side i. by side i }
  where
    by : (side : Side) (i : ℕ)
        → AreHeld ks j.flows.acked side (slice_index_or (sending_of side (with_sending Ue x j)).held i None)
    by Nb i = s.held Nb i
    by Ue i = h i

event_safe : (ks : List (Option Layout)) (more : Bool) (side : Side) (event : Event) (j : Journal Histories) → Safe ks j
    → Safe ks (behind_event histories ks more side event j)
event_safe ks more side (events.Send lcid how sn) j s =
    sending_safe ks j side (names (record { lcid = lcid; how = how }) (sending_of side j)) s (λ i. s.held side i)
event_safe ks more side event j s =
    flows_safe ks j (all_told histories (told_by ks more side event) j.flows) s
    (all_go (told_by ks more side event) j.flows (event_may ks more side event j.flows) s.done)

same_sending : (from : Side) (g : Histories) (j : Journal Histories)
    → sending_of from (with_flows g j) ≡ sending_of from j
same_sending Nb g j = refl
same_sending Ue g j = refl

loaded_flows : (from : Side) (process : ℕ) (b : Loaded Histories) (j : Journal Histories)
    → (with_loaded from process b j).flows ≡ b.flows
loaded_flows Nb process b j = refl
loaded_flows Ue process b j = refl

loaded_last : (from : Side) (process : ℕ) (b : Loaded Histories) (j : Journal Histories)
    → sending_of from (with_loaded from process b j) ≡ holds process b.parcels (sending_of from j)
loaded_last Nb process b j = refl
loaded_last Ue process b j = refl

slot_safe : (ks : List (Option Layout)) (f : Flows) (from : Side) (process : ℕ) (ps : List Parcel) (x : Sending)
    → All (IsAckedReport ks) ps → All (IsTrueReport f from) (sent_last (holds process ps x))
    → ((i : ℕ) → AreHeld ks f from (slice_index_or x.held i None)) → (i : ℕ)
    → AreHeld ks f from (slice_index_or (holds process ps x).held i None)
slot_safe ks f from process ps x acked h was i = elim (cases_eq i process) [
  | inl here ↦
      subst (λ (k : ℕ). AreHeld ks f from (slice_index_or (slice_set x.held process (Some ps)) k None)) (sym here)
      (elim (cases_lt process (length x.held)) [
        | inl lt ↦
            let is : slice_index_or (slice_set x.held process (Some ps)) process None ≡ Some ps =
            get_or-set_same x.held process (Some ps) None lt in
            subst (AreHeld ks f from) (sym is)
            (all_safe ks f from ps acked (All-same (IsTrueReport f from) ps (sent_last (holds process ps x))
            (sym (ap (λ (o : Option (List Parcel)). unwrap_or o []) is)) h))
        | inr le ↦
            let none : slice_index_or (slice_set x.held process (Some ps)) process None ≡ None =
            get_or_past (slice_set x.held process (Some ps)) process None
            (omega (arith, le, length-set x.held process (Some ps))) in
            subst (AreHeld ks f from) (sym none) tt
      ])
  | inr apart ↦
      subst (AreHeld ks f from) (sym (get_or-set_other x.held process i (Some ps) None apart)) (was i)
]

new_safe : (ks : List (Option Layout)) (direction : Direction) (process : ℕ) (octets : List ℕ) (j : Journal Histories)
    → All (IsTrueReport (behind_new histories ks direction process octets j).flows.acked (sender_of direction))
    (sent_last (sending_of (sender_of direction) (behind_new histories ks direction process octets j)))
    → Safe ks j → Safe ks (behind_new histories ks direction process octets j)
new_safe ks direction process octets j h s =
    let from = sender_of direction in
    let first : Loaded Histories = record { flows = j.flows; parcels = [] } in
    let sdus = sdus_read (reading direction octets) in
    let b = loads histories ks from (sending_of from j).named sdus first in
    let mid : Safe ks (with_flows b.flows j) = flows_safe ks j b.flows s
    (loads_go ks from (sending_of from j).named sdus first s.done) in
    let acked : All (IsAckedReport ks) b.parcels =
    loads_acked histories ks from (sending_of from j).named sdus first (All-nil (IsAckedReport ks)) in
    let truly : All (IsTrueReport b.flows.acked from) (sent_last (holds process b.parcels (sending_of from j))) =
    subst (λ (x : Sending). All (IsTrueReport b.flows.acked from) (sent_last x)) (loaded_last from process b j)
    (subst
    (λ (f : Histories). All (IsTrueReport f.acked from) (sent_last (sending_of from (with_loaded from process b j))))
    (loaded_flows from process b j) h) in
    sending_safe ks (with_flows b.flows j) from (holds process b.parcels (sending_of from j)) mid
    (slot_safe ks b.flows.acked from process b.parcels (sending_of from j) acked truly
    (λ i. subst (λ (x : Sending). AreHeld ks b.flows.acked from (slice_index_or x.held i None))
    (same_sending from b.flows j) (mid.held from i)))

record_safe : (ks : List (Option Layout)) (more : Bool) (one : Record) (j : Journal Histories)
    → AreTrueReports (behind_record histories ks more one j) one → Safe ks j
    → Safe ks (behind_record histories ks more one j)
record_safe ks more (records.Of side event) j h s = event_safe ks more side event j s
record_safe ks more (records.Block direction process true version octets) j h s =
    new_safe ks direction process octets j h s
record_safe ks more (records.Block direction process false version octets) j h s =
    let from = sender_of direction in
    sending_safe ks j from (resends process (sending_of from j)) s (λ i. s.held from i)
record_safe ks more (records.Air direction what heard) j h s = by (is_got what)
  where
    by : (b : Bool) → Safe ks (if b then behind_landing histories direction j else j)
    by true =
        let from = sender_of direction in
        let x = sending_of from j in
        flows_safe ks j (all_come histories from (sent_last x) j.flows) s
        (all_come_go ks from (sent_last x) j.flows
        (last_safe ks j.flows.acked from (slice_index_or x.held x.process None) (s.held from x.process)) s.done)
    by false = s
record_safe ks more one j h s = s

-- ---- records

records_safe : (may_take : MayTake) (now : Group) (past : List Group) → StatusesAreTrue may_take now past
    → (rest told before : List Record) (h0 h : Journal Histories) → now.events ≡ told ++ rest
    → h0 ≡ behind_line histories now.line (behind histories no_events may_take past)
    → ((more : List Record) → behind_records histories may_take past (kinds (now ∷ past)) [] (told ++ more) h0
    ≡ behind_records histories may_take past (kinds (now ∷ past)) before more h)
    → Safe (kinds (now ∷ past)) h
    → Safe (kinds (now ∷ past)) (behind_records histories may_take past (kinds (now ∷ past)) before rest h)
records_safe may_take now past truth [] told before h0 h e first f s = s
records_safe may_take now past truth (one ∷ rest) told before h0 h e first f s =
    let ks = kinds (now ∷ past) in
    let next = behind_record histories ks (may_take past before one) one h in
    let truly : AreTrueReports next one =
    subst (λ (j : Journal Histories). AreTrueReports j one)
    (ap (λ (j : Journal Histories). behind_records histories may_take past ks [] (told ++ one ∷ []) j) (sym first)
    ∙ f (one ∷ [])) (truth told one rest e) in
    records_safe may_take now past truth rest (told ++ one ∷ []) (one ∷ before) h0 next
    (e ∙ sym (append_assoc told (one ∷ []) rest)) first
    (λ more. ap (λ (xs : List Record). behind_records histories may_take past ks [] xs h0)
    (append_assoc told (one ∷ []) more) ∙ f (one ∷ more))
    (record_safe ks (may_take past before one) one h truly s)

-- ---- a line

none_there : (n l : ℕ) (o : Option Layout) → slice_index_or (replicate n o) l o ≡ o
none_there zero l o = refl
none_there (suc n) zero o = refl
none_there (suc n) (suc l) o = none_there n l o

some_none : (config : BearerConfig) → Some config ≡ None → ⊥
some_none config h = absurd cc

none_by : (line : Line) (ks : List (Option Layout)) (l : ℕ) (before : Option BearerConfig)
    → (before ≡ None → slice_index_or ks l None ≡ None) → bearer_by line l before ≡ None
    → slice_index_or (kinds_by line ks) l None ≡ None
none_by (lines.Bearer config options) ks l before was h = elim (cases_eq l config.channel.lcid) [
  | inl here ↦
      absurd (some_none config (sym (ap (λ (b : Bool). if b then Some config else before)
      (eq-eqb config.channel.lcid l (sym here))) ∙ h))
  | inr apart ↦
      get_or-set_other ks config.channel.lcid l (Some (layout_of config.kind config.rlc_bits config.pdcp_bits)) None
      apart
      ∙ was (sym (ap (λ (b : Bool). if b then Some config else before)
      (ne_eqb config.channel.lcid l (λ same. apart (sym same)))) ∙ h)
]
none_by line ks l before was h = was h

none_kind : (past : List Group) (l : ℕ) → bearer_on l past ≡ None → slice_index_or (kinds past) l None ≡ None
none_kind [] l h = none_there 11 l None
none_kind (g ∷ past) l h = none_by g.line (kinds past) l (bearer_on l past) (none_kind past l) h

begun_safe : (config : BearerConfig) (ks : List (Option Layout)) (f : Histories) (from : Side)
    → slice_index_or ks config.channel.lcid None ≡ None → (p : Parcel) → IsSafe ks f.acked from p
    → IsSafe
    (slice_set ks config.channel.lcid (Some (layout_of config.kind config.rlc_bits config.pdcp_bits)))
    (histories.begins config f).acked from p
begun_safe config ks f from none (Octets lcid n start end) h = tt
begun_safe config ks f from none (Pieces lcid n size pieces) h = tt
begun_safe config ks f from none (Report lcid ack entries) h = elim (cases_eq lcid config.channel.lcid) [
  | inl here ↦
      absurd (false≢true (sym (ap is_acknowledged (ap (λ (k : ℕ). slice_index_or ks k None) here ∙ none)) ∙ h.0))
  | inr apart ↦ (
    ap is_acknowledged (get_or-set_other ks config.channel.lcid lcid
        (Some (layout_of config.kind config.rlc_bits config.pdcp_bits)) None apart) ∙ h.0,
    λ n lt no. ap (λ (b : Bool). is_complete_in (running (if b then [] else f.acked (other from) lcid)) n)
        (ne_eqb config.channel.lcid lcid (λ same. apart (sym same))) ∙ h.1 n lt no,
  )
]

begun_held : (config : BearerConfig) (ks : List (Option Layout)) (f : Histories) (from : Side)
    → slice_index_or ks config.channel.lcid None ≡ None → (o : Option (List Parcel)) → AreHeld ks f.acked from o
    → AreHeld (slice_set ks config.channel.lcid (Some (layout_of config.kind config.rlc_bits config.pdcp_bits)))
    (histories.begins config f).acked from o
begun_held config ks f from none None h = tt
begun_held config ks f from none (Some ps) h =
    All-weaker (IsSafe ks f.acked from)
    (IsSafe (slice_set ks config.channel.lcid (Some (layout_of config.kind config.rlc_bits config.pdcp_bits)))
    (histories.begins config f).acked from) (begun_safe config ks f from none) ps h

begun_done : (config : BearerConfig) (f : Histories) → AreDone f.acked → AreDone (histories.begins config f).acked
begun_done config f was side l = by (config.channel.lcid == l)
  where
    by : (b : Bool) (n : ℕ) → is_acked (running (if b then [] else f.acked side l)) n ≡ true
        → is_complete_in (running (if b then [] else f.acked side l)) n ≡ true
    by true n h = absurd (false≢true h)
    by false n h = was side l n h

line_safe : (line : Line) (past : List Group) (j : Journal Histories) → ComesNew line past → Safe (kinds past) j
    → Safe (kinds_by line (kinds past)) (behind_line histories line j)
line_safe (lines.Bearer config options) past j new s =
    let none = none_kind past config.channel.lcid new in
    record {
      done = begun_done config j.flows s.done;
      held = λ side i. by none side i;
    }
  where
    by : slice_index_or (kinds past) config.channel.lcid None ≡ None → (side : Side) (i : ℕ)
        → AreHeld (kinds_by (lines.Bearer config options) (kinds past)) (histories.begins config j.flows).acked side
        (slice_index_or (sending_of side (with_flows (histories.begins config j.flows) j)).held i None)
    by none Nb i = begun_held config (kinds past) j.flows Nb none (slice_index_or j.nb.held i None) (s.held Nb i)
    by none Ue i = begun_held config (kinds past) j.flows Ue none (slice_index_or j.ue.held i None) (s.held Ue i)
line_safe line past j new s = s

-- ---- groups

none_held : (n l : ℕ) (o : Option (List Parcel)) → slice_index_or (replicate n o) l o ≡ o
none_held zero l o = refl
none_held (suc n) zero o = refl
none_held (suc n) (suc l) o = none_held n l o

nothing_safe : (ks : List (Option Layout)) (f : Histories) → AreDone f.acked
    → Safe ks (record { flows = f; nb = nothing_sent; ue = nothing_sent })
nothing_safe ks f was = record { done = was; held = λ side i. by side i }
  where
    by : (side : Side) (i : ℕ) → AreHeld ks f.acked side (slice_index_or
        (sending_of side (record { flows = f; nb = nothing_sent; ue = nothing_sent })).held i None)
    by Nb i = subst (AreHeld ks f.acked Nb) (sym (none_held 8 i None)) tt
    by Ue i = subst (AreHeld ks f.acked Ue) (sym (none_held 8 i None)) tt

end_safe : (b : Bool) (ks : List (Option Layout)) (j : Journal Histories) → Safe ks j
    → Safe ks (behind_end histories b j)
end_safe true ks j s = nothing_safe ks (histories.ends j.flows) (λ side l n h. absurd (false≢true h))
end_safe false ks j s = s

within_safe : (may_take : MayTake) (now : Group) (past : List Group) → ComesNew now.line past
    → StatusesAreTrue may_take now past → Safe (kinds past) (behind histories no_events may_take past)
    → Safe (kinds (now ∷ past)) (told_within may_take now past)
within_safe may_take now past new truth s =
    let begun = behind_line histories now.line (behind histories no_events may_take past) in
    records_safe may_take now past truth now.events [] [] begun begun refl refl (λ more. refl)
    (line_safe now.line past (behind histories no_events may_take past) new s)

groups_safe : (may_take : MayTake) (past : List Group) → BearersAreNew past → StatusIsRight may_take past
    → Safe (kinds past) (behind histories no_events may_take past)
groups_safe may_take [] new h = nothing_safe (kinds []) no_events (λ side l n h. absurd (false≢true h))
groups_safe may_take (now ∷ past) new h =
    end_safe (is_handover now.line) (kinds (now ∷ past)) (told_within may_take now past)
    (within_safe may_take now past new.0 h.0.are_true (groups_safe may_take past new.1 h.1))

pub acked_are_complete : AckedAreComplete
acked_are_complete may_take now past new right side lcid n =
    (within_safe may_take now past new.0 right.0.are_true (groups_safe may_take past new.1 right.1)).done side lcid n
