-- A COUNT that has come was taken: its PDU was given, which a `take` record told.
use Rattle.std.proofs.Common.{◌≡◌, ℕ, ◌+◌, ◌<◌, ◌≤◌, Bool, true, false, List, [], ◌∷◌, ◌++◌, Option, Some, None}
use Rattle.std.proofs.Common.{inl, inr, ◌⊎◌, refl, ap, sym, ◌∙◌, arith, subst, if◌then◌else◌}
use Rattle.std.specs.Prelude.{◌||◌, ◌&&◌, ◌==◌, length, map, slice_index_or}
use Rattle.std.proofs.lemmas.Bool.{and_parts, or_left, or_right, false≢true, eqb-true, cases_lt}
use Rattle.l2_num.specs.Least.{IsLeast}
use Rattle.l2_types.specs.declared.event.Clock.TheVariants.{Poll, Reorder}
use Rattle.l2_types.specs.declared.event.How.{How}
use Rattle.l2_types.specs.declared.event.How.TheVariants as hows
use Rattle.l2_types.specs.declared.side.Side.{Side}
use Rattle.l2_types.specs.declared.side.Side.TheVariants.{Nb, Ue}
use Rattle.mac_pdu.specs.declared.builder.Sdu.{Sdu}
use Rattle.mac_pdu.specs.Reading.{reading}
use Rattle.bearer_types.specs.declared.event.Event.{Event}
use Rattle.bearer_types.specs.declared.event.Event.TheVariants as events
use Rattle.bearer_types.specs.Sides.{is_same, other, sender_of}
use Rattle.air_record.specs.declared.line.Line.{Line}
use Rattle.air_record.specs.declared.line.Line.TheVariants as lines
use Rattle.air_record.specs.declared.record.Record.{Record}
use Rattle.air_record.specs.declared.record.Record.TheVariants as records
use Rattle.air_text.specs.Groups.{Group}
use Rattle.pdu_show.specs.declared.kinds.Layout.{Layout}
use Rattle.promises.specs.Records.{is_got}
use Rattle.journal_account.specs.FlowEvents.{FlowEvent, SduTaken, NumberWritten, OctetsResent, OctetsArrived}
use Rattle.journal_account.specs.FlowEvents.{ReorderStarted}
use Rattle.journal_account.specs.FlowEvents.{ReorderExpired, StatusHeard, PollExpired, next_of}
use Rattle.journal_account.specs.Stream.{is_in_sequence, is_whole_sdu}
use Rattle.journal_lives.specs.LifeEvents.{LifeEvent, PduGiven, InLife, LifeEnded, running, counts_in, is_count}
use Rattle.journal_lives.specs.LifeEvents.{passes_with, came_before, count_came}
use Rattle.journal_takes.specs.TakeEvents.{TakeEvent, SduSubmitted, PduTaken, next_new}
use Rattle.journal_flows.specs.declared.parcels.Parcel.{Parcel}
use Rattle.journal_flows.specs.declared.parcels.Parcel.TheVariants.{Octets, Pieces, Report}
use Rattle.journal_flows.specs.declared.sending.Named.{Named}
use Rattle.journal_um.specs.UmEvents.{UmEvent, PduArrived}
use Rattle.journal_um.specs.UmEvents as um
use Rattle.journal_flows.specs.UmPdus.{UmFlowEvent, AtSender, AtReceiver}
use Rattle.journal_flows.specs.NumberedPdus.{AnyEvent, Acked, Unacked, Told, told, told_in, um_told, written_as}
use Rattle.journal_flows.specs.NumberedPdus.{come_as}
use Rattle.journal_flows.specs.Gathering.{Journal, Loaded, MayTake, all_told, taken_as, report_as, reorder_as, told_by}
use Rattle.journal_flows.specs.Gathering.{behind_event, parcel_of, loads_parcel, loads, sdus_read}
use Rattle.journal_flows.specs.Gathering.{all_come, sent_last, behind_record, behind_records, names}
use Rattle.journal_flows.specs.Gathering.{behind_landing, with_sending, with_flows, holds, resends, Sending}
use Rattle.journal_flows.specs.Gathering.{behind_line, behind_end, is_handover, sending_of, within, behind}
use Rattle.journal_flows.specs.Possible.{is_possible, with_event}
use Rattle.journal_flows.specs.FlowsTold.{Histories, histories, no_events, with_any, with_told, flows_told}
use Rattle.journal_flows.specs.Laws.{begins_on}
use Rattle.pdu_show.specs.declared.kinds.Layout.TheVariants as layouts
use Rattle.pdcp_pdu.specs.declared.pdu.PdcpKind.TheVariants as pdcp
use Rattle.promises.specs.Blocks.{kinds}
use Rattle.promises.specs.Flows.{handed_in}
use Rattle.promises.specs.Parts.{part_of_line}
use Rattle.journal_delivered.specs.RightDelivery.{since_bearer, record_tells, records_tell, sdus_told}
use Rattle.journal_delivered.proofs.Awaiting.{first_low}
use Rattle.journal_delivered.proofs.Lists.{Sdus}

-- ---- in a history

-- some PDU was given with the COUNT
abbrev pub given : List LifeEvent → ℕ → Bool
given [] count = false
given (PduGiven own size ∷ es) count = is_count own count || given es count
given (InLife e ∷ es) count = given es count
given (LifeEnded ∷ es) count = given es count

either : (a b : Bool) → (a || b) ≡ true → (a ≡ true) ⊎ (b ≡ true)
either true b h = inl refl
either false b h = inr h

abbrev among : List (Option ℕ) → ℕ → Bool
among [] count = false
among (own ∷ owns) count = is_count own count || among owns count

among_last : (owns : List (Option ℕ)) (own : Option ℕ) (count : ℕ) → among (owns ++ own ∷ []) count ≡ true
    → (is_count own count ≡ true) ⊎ (among owns count ≡ true)
among_last [] own count h = by (either (is_count own count) false h)
  where
    by : (is_count own count ≡ true) ⊎ (false ≡ true) → (is_count own count ≡ true) ⊎ (among [] count ≡ true)
    by (inl e) = inl e
    by (inr e) = absurd (false≢true e)
among_last (o ∷ owns) own count h =
    by (among_last owns own count) (either (is_count o count) (among (owns ++ own ∷ []) count) h)
  where
    more : (is_count own count ≡ true) ⊎ (among owns count ≡ true)
        → (is_count own count ≡ true) ⊎ (among (o ∷ owns) count ≡ true)
    more (inl e) = inl e
    more (inr e) = inr (or_right (is_count o count) (among owns count) e)

    by : (among (owns ++ own ∷ []) count ≡ true → (is_count own count ≡ true) ⊎ (among owns count ≡ true))
        → (is_count o count ≡ true) ⊎ (among (owns ++ own ∷ []) count ≡ true)
        → (is_count own count ≡ true) ⊎ (among (o ∷ owns) count ≡ true)
    by rest (inl e) = inr (or_left (is_count o count) (among owns count) e)
    by rest (inr e) = more (rest e)

passes_among : (p : ℕ → Bool) (k : ℕ) (owns : List (Option ℕ)) (count : ℕ) → passes_with p k owns count ≡ true
    → among owns count ≡ true
passes_among p k [] count h = h
passes_among p k (own ∷ owns) count h =
    by (passes_among p (k + 1) owns count)
    (either (p k && is_count own count) (passes_with p (k + 1) owns count) h)
  where
    by : (passes_with p (k + 1) owns count ≡ true → among owns count ≡ true)
        → ((p k && is_count own count) ≡ true) ⊎ (passes_with p (k + 1) owns count ≡ true)
        → among (own ∷ owns) count ≡ true
    by rest (inl e) = or_left (is_count own count) (among owns count) (and_parts (p k) (is_count own count) e).1
    by rest (inr e) = or_right (is_count own count) (among owns count) (rest e)

counts_given : (es : List LifeEvent) (count : ℕ) → among (counts_in es) count ≡ true → given es count ≡ true
counts_given [] count h = h
counts_given (PduGiven own size ∷ es) count h = by (counts_given es count) (among_last (counts_in es) own count h)
  where
    by : (among (counts_in es) count ≡ true → given es count ≡ true)
        → (is_count own count ≡ true) ⊎ (among (counts_in es) count ≡ true)
        → given (PduGiven own size ∷ es) count ≡ true
    by rest (inl e) = or_left (is_count own count) (given es count) e
    by rest (inr e) = or_right (is_count own count) (given es count) (rest e)
counts_given (InLife e ∷ es) count h = counts_given es count h
counts_given (LifeEnded ∷ es) count h = absurd (false≢true h)

before_given : (es : List LifeEvent) (count : ℕ) → came_before es count ≡ true → given es count ≡ true
before_given [] count h = h
before_given (PduGiven own size ∷ es) count h =
    or_right (is_count own count) (given es count) (before_given es count h)
before_given (InLife e ∷ es) count h = before_given es count h
before_given (LifeEnded ∷ es) count h =
    by (before_given es count)
    (either (came_before es count) (passes_with (is_whole_sdu (running es)) 0 (counts_in es) count) h)
  where
    by : (came_before es count ≡ true → given es count ≡ true)
        → (came_before es count ≡ true)
        ⊎ (passes_with (is_whole_sdu (running es)) 0 (counts_in es) count ≡ true) → given es count ≡ true
    by rest (inl e) = rest e
    by rest (inr e) = counts_given es count (passes_among (is_whole_sdu (running es)) 0 (counts_in es) count e)

came_given : (es : List LifeEvent) (count : ℕ) → count_came es count ≡ true → given es count ≡ true
came_given es count h =
    by (either (came_before es count) (passes_with (is_in_sequence (running es)) 0 (counts_in es) count) h)
  where
    by : (came_before es count ≡ true)
        ⊎ (passes_with (is_in_sequence (running es)) 0 (counts_in es) count ≡ true) → given es count ≡ true
    by (inl e) = before_given es count e
    by (inr e) = counts_given es count (passes_among (is_in_sequence (running es)) 0 (counts_in es) count e)

-- ---- what records tell of a flow

-- each COUNT that was given lies below
abbrev Below : Side → ℕ → ℕ → Histories → Type 0
Below from l n flows = (count : ℕ) → given (flows.acked from l) count ≡ true → count < n

abbrev counted : LifeEvent → Option ℕ
counted (PduGiven own size) = own
counted (InLife e) = None
counted LifeEnded = None

abbrev counted_any : AnyEvent → Option ℕ
counted_any (Acked e) = counted e
counted_any (Unacked e) = None

abbrev Fits : Side → ℕ → ℕ → Told → Type 0
Fits from l n t = (is_same t.side from && (t.lcid == l)) ≡ true → (count : ℕ)
    → is_count (counted_any t.event) count ≡ true → count < n

abbrev AllFit : Side → ℕ → ℕ → List Told → Type 0
AllFit from l n [] = Unit {0}
AllFit from l n (t ∷ ts) = Fits from l n t × AllFit from l n ts

event_below : (e : LifeEvent) (es : List LifeEvent) (n : ℕ)
    → ((count : ℕ) → is_count (counted e) count ≡ true → count < n)
    → ((count : ℕ) → given es count ≡ true → count < n) → (b : Bool) (count : ℕ)
    → given (if b then e ∷ es else es) count ≡ true → count < n
event_below e es n f h false count g = h count g
event_below (PduGiven own size) es n f h true count g = by (either (is_count own count) (given es count) g)
  where
    by : (is_count own count ≡ true) ⊎ (given es count ≡ true) → count < n
    by (inl e) = f count e
    by (inr e) = h count e
event_below (InLife e) es n f h true count g = h count g
event_below LifeEnded es n f h true count g = h count g

tell_below : (from : Side) (l n : ℕ) (t : Told) (flows : Histories) → Fits from l n t → Below from l n flows
    → Below from l n (with_told t flows)
tell_below from l n t flows f h = any t.event f
  where
    any : (e : AnyEvent) → ((is_same t.side from && (t.lcid == l)) ≡ true → (count : ℕ)
        → is_count (counted_any e) count ≡ true → count < n) → Below from l n (with_any t.side t.lcid e flows)
    any (Unacked e) g = h
    any (Acked e) g = by (is_same t.side from && (t.lcid == l)) refl
      where
        by : (b : Bool) → (is_same t.side from && (t.lcid == l)) ≡ b → (count : ℕ)
            → given (if b then with_event e (flows.acked from l) else flows.acked from l) count ≡ true → count < n
        by true here = event_below e (flows.acked from l) n (g here) h
            (is_possible (next_of (running (flows.acked from l))) e)
        by false away = h

tells_below : (from : Side) (l n : ℕ) (ts : List Told) (flows : Histories) → AllFit from l n ts → Below from l n flows
    → Below from l n (all_told histories ts flows)
tells_below from l n [] flows f h = h
tells_below from l n (t ∷ ts) flows f h =
    tells_below from l n ts (with_told t flows) f.1 (tell_below from l n t flows f.0 h)

-- an event without a COUNT
plain : (from : Side) (l n : ℕ) (t : Told) → counted_any t.event ≡ None → Fits from l n t
plain from l n t none here count c =
    absurd (false≢true (sym (ap (λ (o : Option ℕ). is_count o count) none) ∙ c))

in_life : (from : Side) (l n : ℕ) (side : Side) (lcid : ℕ) (e : FlowEvent)
    → AllFit from l n (told_in side lcid e)
in_life from l n side lcid e =
    (plain from l n (record { side = side; lcid = lcid; event = Acked (InLife e) }) refl, tt)

of_um : (from : Side) (l n : ℕ) (side : Side) (lcid : ℕ) (e : UmFlowEvent) → AllFit from l n (um_told side lcid e)
of_um from l n side lcid e = (plain from l n (record { side = side; lcid = lcid; event = Unacked e }) refl, tt)

written_fit : (from : Side) (l n : ℕ) (by : Side) (how : How) (p : Parcel) → AllFit from l n (written_as by how p)
written_fit from l n by hows.New (Octets lcid m start end) = in_life from l n by lcid (NumberWritten end)
written_fit from l n by hows.Re (Octets lcid m start end) = in_life from l n by lcid (OctetsResent m start end)
written_fit from l n by hows.New (Pieces lcid m size pieces) = of_um from l n by lcid (AtSender (NumberWritten size))
written_fit from l n by how p = tt

come_fit : (from : Side) (l n : ℕ) (by : Side) (p : Parcel) → AllFit from l n (come_as by p)
come_fit from l n by (Octets lcid m start end) = in_life from l n by lcid (OctetsArrived m start end)
come_fit from l n by (Pieces lcid m size pieces) = of_um from l n by lcid (AtReceiver (PduArrived m pieces))
come_fit from l n by (Report lcid ack entries) = in_life from l n (other by) lcid (StatusHeard ack entries)

taken_fit : (from : Side) (l n : ℕ) (layout : Option Layout) (side : Side) (lcid : ℕ) (own : Option ℕ) (len : ℕ)
    → ((is_same side from && (lcid == l)) ≡ true → (count : ℕ) → is_count own count ≡ true → count < n)
    → AllFit from l n (taken_as layout side lcid own len)
taken_fit from l n (Some (layouts.Am pdcp.Srb)) side lcid own len f =
    (plain from l n (record { side = side; lcid = lcid; event = Acked (PduGiven None (len + 5)) }) refl, tt)
taken_fit from l n (Some (layouts.Am kind)) side lcid own len f = (f, tt)
taken_fit from l n (Some (layouts.Um bits (pdcp.Um sn))) side lcid own len f =
    of_um from l n side lcid (AtSender (SduTaken (len + (if sn == 7 then 1 else 2))))
taken_fit from l n layout side lcid own len f = tt

report_fit : (from : Side) (l n : ℕ) (layout : Option Layout) (side : Side) (lcid len : ℕ)
    → AllFit from l n (report_as layout side lcid len)
report_fit from l n (Some (layouts.Am (pdcp.Am bits))) side lcid len =
    let t : Told = record {
      side = side;
      lcid = lcid;
      event = Acked (PduGiven None ((if bits == 12 then 2 else 3) + len));
    } in
    (plain from l n t refl, tt)
report_fit from l n layout side lcid len = tt

reorder_fit : (from : Side) (l n : ℕ) (layout : Option Layout) (side : Side) (lcid : ℕ) (e : FlowEvent) (u : UmEvent)
    → AllFit from l n (reorder_as layout side lcid e u)
reorder_fit from l n (Some (layouts.Um bits kind)) side lcid e u = of_um from l n side lcid (AtReceiver u)
reorder_fit from l n layout side lcid e u = in_life from l n side lcid e

-- ---- what is taken stays below

pub new_grows : (first : ℕ) (xs es : List TakeEvent) → next_new first es ≤ next_new first (xs ++ es)
new_grows first [] es = omega arith
new_grows first (PduTaken count ∷ xs) es = omega (arith, new_grows first xs es)
new_grows first (SduSubmitted octets ∷ xs) es = new_grows first xs es
new_grows first (e ∷ xs) es = new_grows first xs es

below_more : (from : Side) (l first : ℕ) (xs es : List TakeEvent) (flows : Histories)
    → Below from l (next_new first es) flows → Below from l (next_new first (xs ++ es)) flows
below_more from l first xs es flows h count g = omega (arith, h count g, new_grows first xs es)

same_sides : (a b : Side) → is_same a b ≡ true → is_same b a ≡ true
same_sides Nb Nb h = refl
same_sides Nb Ue h = h
same_sides Ue Nb h = h
same_sides Ue Ue h = refl

count_taken : (from : Side) (l first : ℕ) (es : List TakeEvent) (side : Side) (lcid : ℕ)
    (own : Option ℕ) (len : ℕ) → (is_same side from && (lcid == l)) ≡ true → (count : ℕ)
    → is_count own count ≡ true
    → count < next_new first (record_tells from l (records.Of side (events.Take lcid own len)) ++ es)
count_taken from l first es side lcid None len here count c = absurd (false≢true c)
count_taken from l first es side lcid (Some own) len here count c =
    let p = and_parts (is_same side from) (lcid == l) here in
    by (is_same from side) (lcid == l) (same_sides side from p.0) p.1 (eqb-true own count c)
  where
    by : (a b : Bool) → a ≡ true → b ≡ true → own ≡ count
        → count < next_new first ((if a then (if b then PduTaken own ∷ [] else []) else []) ++ es)
    by true true x y same = omega (arith, same)
    by true false x y same = absurd (false≢true y)
    by false b x y same = absurd (false≢true x)

told_fit : (from : Side) (l first : ℕ) (es : List TakeEvent) (kinds : List (Option Layout)) (more : Bool)
    (side : Side) (event : Event)
    → AllFit from l (next_new first (record_tells from l (records.Of side event) ++ es))
    (told_by kinds more side event)
told_fit from l first es kinds more side (events.Take lcid own len) =
    taken_fit from l (next_new first (record_tells from l (records.Of side (events.Take lcid own len)) ++ es))
    (slice_index_or kinds lcid None) side lcid own len (count_taken from l first es side lcid own len)
told_fit from l first es kinds more side (events.Report lcid fms bitmap) =
    report_fit from l
    (next_new first (record_tells from l (records.Of side (events.Report lcid fms bitmap)) ++ es))
    (slice_index_or kinds lcid None) side lcid (length bitmap)
told_fit from l first es kinds more side (events.Start lcid Reorder) =
    reorder_fit from l
    (next_new first (record_tells from l (records.Of side (events.Start lcid Reorder)) ++ es))
    (slice_index_or kinds lcid None) (other side) lcid ReorderStarted um.ReorderStarted
told_fit from l first es kinds more side (events.Expired lcid Reorder) =
    reorder_fit from l
    (next_new first (record_tells from l (records.Of side (events.Expired lcid Reorder)) ++ es))
    (slice_index_or kinds lcid None) (other side) lcid ReorderExpired um.ReorderExpired
told_fit from l first es kinds more side (events.Expired lcid Poll) =
    in_life from l
    (next_new first (record_tells from l (records.Of side (events.Expired lcid Poll)) ++ es)) side lcid
    (PollExpired more)
told_fit from l first es kinds more side event = tt

sent_flows : (side : Side) (s : Sending) (j : Journal Histories) → (with_sending side s j).flows ≡ j.flows
sent_flows Nb s j = refl
sent_flows Ue s j = refl

below_same : (from : Side) (l n : ℕ) (f g : Histories) → f ≡ g → Below from l n g → Below from l n f
below_same from l n f g same h = subst (Below from l n) (sym same) h

event_record : (from : Side) (l first : ℕ) (es : List TakeEvent) (kinds : List (Option Layout))
    (more : Bool) (side : Side) (event : Event) (j : Journal Histories) → Below from l (next_new first es) j.flows
    → Below from l (next_new first (record_tells from l (records.Of side event) ++ es))
    (behind_event histories kinds more side event j).flows
event_record from l first es kinds more side (events.Send lcid how sn) j h =
    let one = records.Of side (events.Send lcid how sn) in
    let named = names (record { lcid = lcid; how = how }) (sending_of side j) in
    below_same from l (next_new first (record_tells from l one ++ es)) (with_sending side named j).flows j.flows
    (sent_flows side named j) (below_more from l first (record_tells from l one) es j.flows h)
event_record from l first es kinds more side event j h =
    let one = records.Of side event in
    tells_below from l (next_new first (record_tells from l one ++ es)) (told_by kinds more side event) j.flows
    (told_fit from l first es kinds more side event)
    (below_more from l first (record_tells from l one) es j.flows h)

parcel_below : (from : Side) (l n : ℕ) (by : Side) (how : How) (p : Option Parcel) (b : Loaded Histories)
    → Below from l n b.flows → Below from l n (loads_parcel histories by how p b).flows
parcel_below from l n by how None b h = h
parcel_below from l n by how (Some p) b h =
    tells_below from l n (written_as by how p) b.flows (written_fit from l n by how p) h

loads_below : (from : Side) (l n : ℕ) (kinds : List (Option Layout)) (by : Side) (named : List Named)
    (sdus : List Sdu) (b : Loaded Histories) → Below from l n b.flows
    → Below from l n (loads histories kinds by named sdus b).flows
loads_below from l n kinds by (one ∷ named) (d ∷ sdus) b h =
    let p = parcel_of histories kinds b.flows by one d.octets in
    loads_below from l n kinds by named sdus (loads_parcel histories by one.how p b)
    (parcel_below from l n by one.how p b h)
loads_below from l n kinds by [] sdus b h = h
loads_below from l n kinds by (one ∷ named) [] b h = h

come_below : (from : Side) (l n : ℕ) (by : Side) (ps : List Parcel) (flows : Histories) → Below from l n flows
    → Below from l n (all_come histories by ps flows)
come_below from l n by [] flows h = h
come_below from l n by (p ∷ ps) flows h =
    come_below from l n by ps (all_told histories (come_as by p) flows)
    (tells_below from l n (come_as by p) flows (come_fit from l n by p) h)

record_below : (from : Side) (l first : ℕ) (es : List TakeEvent) (kinds : List (Option Layout))
    (more : Bool) (one : Record) (j : Journal Histories) → Below from l (next_new first es) j.flows
    → Below from l (next_new first (record_tells from l one ++ es))
    (behind_record histories kinds more one j).flows
record_below from l first es kinds more (records.Of side event) j h =
    event_record from l first es kinds more side event j h
record_below from l first es kinds more (records.Block direction process true version octets) j h =
    let by = sender_of direction in
    let start : Loaded Histories = record { flows = j.flows; parcels = [] } in
    let b = loads histories kinds by (sending_of by j).named (sdus_read (reading direction octets)) start in
    let kept = holds process b.parcels (sending_of by j) in
    below_same from l (next_new first es) (with_sending by kept (with_flows b.flows j)).flows b.flows
    (sent_flows by kept (with_flows b.flows j))
    (loads_below from l (next_new first es) kinds by (sending_of by j).named (sdus_read (reading direction octets))
    start h)
record_below from l first es kinds more (records.Block direction process false version octets) j h =
    let by = sender_of direction in
    let kept = resends process (sending_of by j) in
    below_same from l (next_new first es) (with_sending by kept j).flows j.flows (sent_flows by kept j) h
record_below from l first es kinds more (records.Air direction what heard) j h = by (is_got what)
  where
    by : (b : Bool)
        → Below from l (next_new first es) (if b then behind_landing histories direction j else j).flows
    by true =
        come_below from l (next_new first es) (sender_of direction) (sent_last (sending_of (sender_of direction) j))
        j.flows h
    by false = h
record_below from l first es kinds more one j h =
    below_more from l first (record_tells from l one) es j.flows h

records_below : (from : Side) (l first : ℕ) (es : List TakeEvent) (may_take : MayTake)
    (past : List Group) (kinds : List (Option Layout)) (before told : List Record) (j : Journal Histories)
    → Below from l (next_new first es) j.flows
    → Below from l (next_new first (records_tell from l told es))
    (behind_records histories may_take past kinds before told j).flows
records_below from l first es may_take past kinds before [] j h = h
records_below from l first es may_take past kinds before (one ∷ told) j h =
    let more = may_take past before one in
    records_below from l first (record_tells from l one ++ es) may_take past kinds (one ∷ before) told
    (behind_record histories kinds more one j) (record_below from l first es kinds more one j h)

-- ---- groups

submitted_new : (first : ℕ) (sdus : Sdus) (es : List TakeEvent)
    → next_new first (map SduSubmitted sdus ++ es) ≡ next_new first es
submitted_new first [] es = refl
submitted_new first (sdu ∷ sdus) es = submitted_new first sdus es

line_below : (from : Side) (l first : ℕ) (line : Line) (past : List Group) (j : Journal Histories)
    → Below from l (next_new first (sdus_told from l (since_bearer l past))) j.flows
    → Below from l (next_new first (sdus_told from l (if begins_on line l then [] else since_bearer l past)))
    (behind_line histories line j).flows
line_below from l first (lines.Bearer config options) past j h = by (config.channel.lcid == l)
  where
    by : (b : Bool) (count : ℕ) → given (if b then [] else j.flows.acked from l) count ≡ true
        → count < next_new first (sdus_told from l (if b then [] else since_bearer l past))
    by true count g = absurd (false≢true g)
    by false count g = h count g
line_below from l first line past j h = h

end_below : (from : Side) (l n : ℕ) (hands_over : Bool) (j : Journal Histories) → Below from l n j.flows
    → Below from l n (behind_end histories hands_over j).flows
end_below from l n true j h = h
end_below from l n false j h = h

pub told_below : (may_take : MayTake) (past : List Group) (from : Side) (l first : ℕ)
    → Below from l (next_new first (sdus_told from l (since_bearer l past)))
    (behind histories no_events may_take past).flows
told_below may_take [] from l first count g = absurd (false≢true g)
told_below may_take (now ∷ past) from l first count g =
    let j = behind histories no_events may_take past in
    let prior = sdus_told from l (if begins_on now.line l then [] else since_bearer l past) in
    let handed = handed_in from l (part_of_line now.line) now.events in
    end_below from l (next_new first (sdus_told from l (since_bearer l (now ∷ past)))) (is_handover now.line)
    (within histories may_take now past j)
    (records_below from l first (map SduSubmitted handed ++ prior) may_take past (kinds (now ∷ past)) [] now.events
    (behind_line histories now.line j)
    (subst (λ (n : ℕ). Below from l n (behind_line histories now.line j).flows)
    (sym (submitted_new first handed prior))
    (line_below from l first now.line past j (told_below may_take past from l first)))) count g

-- the first COUNT that hasn't come isn't above the next new one
pub came_below : (may_take : MayTake) (past : List Group) (from : Side) (l first next : ℕ)
    → IsLeast (count_came (flows_told may_take past from l)) first next
    → next ≤ next_new first (sdus_told from l (since_bearer l past))
came_below may_take past from l first next least =
    let new = next_new first (sdus_told from l (since_bearer l past)) in
    elim (cases_lt new next) [
      | inl above ↦
          let own = next_new first (sdus_told from l (since_bearer l past)) in
          let came = least.before own (first_low first (sdus_told from l (since_bearer l past))) above in
          let less = told_below may_take past from l first own
          (came_given (flows_told may_take past from l) own came) in
          absurd (omega (arith, less))
      | inr le ↦ le
    ]
