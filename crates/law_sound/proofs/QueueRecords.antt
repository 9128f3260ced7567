-- How what is kept of the flow that a side sends on a channel, whose bearers aren't of acknowledged data, goes over
-- records of a group: by what they tell of the channel, by the SDUs that the loop submits, and by new blocks.
use Rattle.std.proofs.Common.{◌≡◌, ℕ, ◌==◌, Bool, true, false, not, if◌then◌else◌, List, [], ◌∷◌, ◌++◌, map}
use Rattle.std.proofs.Common.{Option, Some, None, option_map, append-nil, append_assoc, refl, ap, sym, subst, ◌∙◌}
use Rattle.std.specs.List.{AllByRecursion}
use Rattle.std.proofs.lemmas.Bool.{eq-eqb}
use Rattle.air_record.specs.declared.record.Record.{Record}
use Rattle.air_record.specs.declared.record.Record.TheVariants as records
use Rattle.air_record.specs.declared.submission.Submission.{Submission}
use Rattle.air_record.specs.Submissions.{submitted_by, unrefused}
use Rattle.air_text.specs.Groups.{Group}
use Rattle.bearer.specs.declared.flow.Flow.{Flow as BearerFlow}
use Rattle.bearer.specs.declared.flow.Flow.TheVariants.{Tm, Um, Am}
use Rattle.bearer_types.specs.Sides.{other, sent_by}
use Rattle.bearer_types.specs.declared.event.Event.{Event}
use Rattle.bearer_types.specs.declared.event.Event.TheVariants as events
use Rattle.l2_types.specs.declared.side.Side.{Side}
use Rattle.l2_types.specs.declared.side.Side.TheVariants.{Nb, Ue}
use Rattle.pdcp_pdu.specs.declared.pdu.PdcpKind.TheVariants as pdcp
use Rattle.pdu_show.specs.declared.kinds.Layout.{Layout}
use Rattle.pdu_show.specs.declared.kinds.Layout.TheVariants as layouts
use Rattle.promises.specs.Events.{is_of_loop, is_on, told_on}
use Rattle.promises.specs.Flows.{looped_at}
use Rattle.promises.specs.Records.{event_of, events_of, sdu_of as sdu_told}
use Rattle.journal_given.specs.Giving.{all_given, settled, after_line as line_given, after_record as after_given}
use Rattle.journal_given.specs.Supplies as given
use Rattle.journal_sent.specs.RightSent.{AllSent, Flow, Given}
use Rattle.journal_sent.specs.Sending.{acked_at, after_line, after_record, all_sending, records_told, sdu_of}
use Rattle.journal_sent.specs.SentFlows.{flow_taken, flow_submitted, flow_discarded, flow_reported, gives_data}
use Rattle.journal_sent.specs.SentFlows.{gives_first, is_data, is_first, is_written, reported_as}
use Rattle.journal_sent.specs.SentPdus.{histories}
use Rattle.law_run.proofs.EmptyLists.{parts_empty}
use Rattle.law_run.proofs.Flowing.{looped_then}
use Rattle.law_sent.specs.Channels.{AreRight, behind_all, flow_on, only_at, sent_on}
use Rattle.law_sent.specs.Flows.{event_on, record_on, submits_to}
use Rattle.law_sent.proofs.Flows.{flows_go_on}
use Rattle.law_sent.proofs.FlowsNamed.{record_unsubmitted, unsubmitted}
use Rattle.law_sound.specs.NamedSteps.{SendsNoNewBlock}
use Rattle.law_sound.proofs.BuiltRecords.{block_of}
use Rattle.law_sound.proofs.QueueAt.{AreRightRecords, IsRightOnChannel, IsRightRecord}
use Rattle.law_sound.proofs.QueueBeside.{AreRightHere, IsQueuedBy, queue_by, queue_over, queue_submits}
use Rattle.law_sound.proofs.SentBetween.{IsRightPdu}
use Rattle.law_sound.proofs.SentRecords.{giving_before, sending_first, sending_next, told_both}

-- ---- a flow that isn't of acknowledged data stays so

pub not_data : (x : BearerFlow) (f : Flow) → IsQueuedBy x f → is_data f.layout ≡ false
not_data (Tm b) f h = ap is_data h.layout_is
not_data (Um b) f h = ap is_data h.layout_is
not_data (Am b) f h = ap is_data h.layout_is

taken_layout : (data' first : Bool) (count : Option ℕ) (waiting : List (List ℕ)) (f : Flow)
    → (if data' then gives_data histories count None f
    else if first then gives_first histories waiting f else f).layout ≡ f.layout
taken_layout true first None waiting f = refl
taken_layout true first (Some count) waiting f = refl
taken_layout false true count [] f = refl
taken_layout false true count (sdu ∷ waiting) f = refl
taken_layout false false count waiting f = refl

written_layout : (b : Bool) (f g : Flow) → g.layout ≡ f.layout → (if b then g else f).layout ≡ f.layout
written_layout true f g same = same
written_layout false f g same = refl

reported_layout : (layout : Layout) (fms : ℕ) (bitmap : List ℕ) (f : Flow)
    → (reported_as histories layout fms bitmap f).layout ≡ f.layout
reported_layout (layouts.Am (pdcp.Am bits)) fms bitmap f = written_layout (is_written bits fms bitmap) f _ refl
reported_layout layout fms bitmap f = refl

queue_layout : (e : Event) (f : Flow) → (queue_by e f).layout ≡ f.layout
queue_layout (events.Take lcid count len) f =
    taken_layout (is_data f.layout) (is_first count len f.waiting f) count f.waiting f
queue_layout (events.Report lcid fms bitmap) f = reported_layout f.layout fms bitmap f
queue_layout (events.Discard lcid len) f = refl
queue_layout e f = refl

over_layout : (es : List Event) (f : Flow) → (queue_over es f).layout ≡ f.layout
over_layout [] f = refl
over_layout (e ∷ es) f = over_layout es (queue_by e f) ∙ queue_layout e f

pub submitted_layout : (b : Bool) (f : Flow) (waiting : List (List ℕ))
    → (if b then f else record f { waiting = waiting }).layout ≡ f.layout
submitted_layout true f waiting = refl
submitted_layout false f waiting = refl

submits_layout : (sdus : List (List ℕ)) (f : Flow) → (queue_submits sdus f).layout ≡ f.layout
submits_layout [] f = refl
submits_layout (sdu ∷ sdus) f =
    submits_layout sdus (flow_submitted sdu f)
    ∙ submitted_layout (is_data f.layout) f (f.waiting ++ sdu ∷ [])

-- ---- one behind the other

over_both : (es rest : List Event) (f : Flow) → queue_over (es ++ rest) f ≡ queue_over rest (queue_over es f)
over_both [] rest f = refl
over_both (e ∷ es) rest f = over_both es rest (queue_by e f)

right_both : (es rest : List Event) (f : Flow) → AreRightHere (es ++ rest) f
    → AreRightHere es f × AreRightHere rest (queue_over es f)
right_both [] rest f right = (tt, right)
right_both (e ∷ es) rest f right =
    let more = right_both es rest (queue_by e f) right.1 in
    ((right.0, more.0), more.1)

pub submits_both : (sdus rest : List (List ℕ)) (f : Flow)
    → queue_submits (sdus ++ rest) f ≡ queue_submits rest (queue_submits sdus f)
submits_both [] rest f = refl
submits_both (sdu ∷ sdus) rest f = submits_both sdus rest (flow_submitted sdu f)

-- ---- records of which none sends a new block

module _ (side : Side) (l : ℕ) where
  -- what a record makes of the flow that the side sends
  abbrev pub queue_record : Record → Flow → Flow
  queue_record one f = queue_over (told_on l (event_of side one)) (queue_submits (looped_at side l (one ∷ [])) f)

  abbrev pub queue_records : List Record → Flow → Flow
  queue_records [] f = f
  queue_records (one ∷ xs) f = queue_records xs (queue_record one f)

  -- what they tell of the channel is right where it stands
  abbrev pub AreRightOver : List Record → Flow → Type 0
  AreRightOver [] f = Unit {0}
  AreRightOver (one ∷ xs) f = AreRightHere (told_on l (event_of side one)) f × AreRightOver xs (queue_record one f)

  record_layout : (one : Record) (f : Flow) → (queue_record one f).layout ≡ f.layout
  record_layout one f =
      over_layout (told_on l (event_of side one)) (queue_submits (looped_at side l (one ∷ [])) f)
      ∙ submits_layout (looped_at side l (one ∷ [])) f

  -- where the loop submits none to the side on the channel
  pub record GoByEvents (xs : List Record) (f : Flow) : Type 0 where
    pub flow_is : queue_records xs f ≡ queue_over (told_on l (events_of side xs)) f
    pub right : AreRightHere (told_on l (events_of side xs)) f → AreRightOver xs f

  pub go_by_events : (xs : List Record) (f : Flow) → looped_at side l xs ≡ [] → GoByEvents xs f
  go_by_events [] f none = record { flow_is = refl; right = λ right. tt }
  go_by_events (one ∷ xs) f none =
      let first = told_on l (event_of side one) in
      let rest = told_on l (events_of side xs) in
      let parts = parts_empty (looped_at side l (one ∷ [])) (looped_at side l xs)
      (sym (looped_then side l (one ∷ []) xs) ∙ none) in
      let one_is : queue_record one f ≡ queue_over first f =
      ap (λ (sdus : List (List ℕ)). queue_over first (queue_submits sdus f)) parts.0 in
      let more = go_by_events xs (queue_record one f) parts.1 in
      record {
        flow_is = more.flow_is
            ∙ ap (queue_over rest) one_is
            ∙ sym (over_both first rest f)
            ∙ ap (λ (es : List Event). queue_over es f) (sym (told_both l side one xs));
        right = λ right.
            let rights = right_both first rest f
            (subst (λ (es : List Event). AreRightHere es f) (told_both l side one xs) right) in
            (rights.0, more.right (subst (AreRightHere rest) (sym one_is) rights.1));
      }

  -- where they tell nothing of the side on the channel
  pub record GoByLoops (xs : List Record) (f : Flow) : Type 0 where
    pub flow_is : queue_records xs f ≡ queue_submits (looped_at side l xs) f
    pub right : AreRightOver xs f

  pub go_by_loops : (xs : List Record) (f : Flow) → told_on l (events_of side xs) ≡ [] → GoByLoops xs f
  go_by_loops [] f none = record { flow_is = nothing side; right = tt }
    where
      nothing : (x : Side) → f ≡ queue_submits (looped_at x l []) f
      nothing Nb = refl
      nothing Ue = refl
  go_by_loops (one ∷ xs) f none =
      let parts = parts_empty (told_on l (event_of side one)) (told_on l (events_of side xs))
      (sym (told_both l side one xs) ∙ none) in
      let first = looped_at side l (one ∷ []) in
      let rest = looped_at side l xs in
      let one_is : queue_record one f ≡ queue_submits first f =
      ap (λ (es : List Event). queue_over es (queue_submits first f)) parts.0 in
      let more = go_by_loops xs (queue_record one f) parts.1 in
      record {
        flow_is = more.flow_is
            ∙ ap (queue_submits rest) one_is
            ∙ sym (submits_both first rest f)
            ∙ ap (λ (sdus : List (List ℕ)). queue_submits sdus f) (sym (looped_then side l (one ∷ []) xs));
        right = (subst (λ (es : List Event). AreRightHere es f) (sym parts.0) tt, more.right);
      }

-- ---- what a record makes of a flow

if_over : (on : Bool) (change : Flow → Flow) (e : Event) (f : Flow) → change f ≡ queue_by e f
    → only_at on change f ≡ queue_over (if on then e ∷ [] else []) f
if_over true change e f same = same
if_over false change e f same = refl

-- one that changes nothing, whether it counts or not
counted_over : (l : ℕ) (counts : Bool) (e : Event) (f : Flow) → f ≡ queue_by e f
    → f ≡ queue_over (told_on l (if counts then e ∷ [] else [])) f
counted_over l true e f same = by (is_on l e)
  where
    by : (on : Bool) → f ≡ queue_over (if on then e ∷ [] else []) f
    by true = same
    by false = refl
counted_over l false e f same = refl

event_over : (l : ℕ) (side : Side) (e : Event) (j : Given) (f : Flow) → is_data f.layout ≡ false
    → event_on side l e j f ≡ queue_over (told_on l (if not (is_of_loop e) then e ∷ [] else [])) f
event_over l side (events.Take lcid count len) j f plain =
    let sdu = sdu_of given.histories side l count j in
    if_over (lcid == l) (flow_taken histories count len sdu) (events.Take lcid count len) f
    (by (is_data f.layout) plain)
  where
    by : (b : Bool) → b ≡ false
        → (if b then gives_data histories count (sdu_of given.histories side l count j) f
        else if is_first count len f.waiting f then gives_first histories f.waiting f else f)
        ≡ (if b then gives_data histories count None f
        else if is_first count len f.waiting f then gives_first histories f.waiting f else f)
    by true q = absurd cc
    by false q = refl
event_over l side (events.Report lcid fms bitmap) j f plain =
    if_over (lcid == l) (flow_reported histories fms bitmap) (events.Report lcid fms bitmap) f refl
event_over l side (events.Discard lcid len) j f plain =
    if_over (lcid == l) flow_discarded (events.Discard lcid len) f refl
event_over l side e j f plain = counted_over l (not (is_of_loop e)) e f refl

record_over : (side : Side) (l : ℕ) (one : Record) (j : Given) (s : AllSent) (f : Flow) → SendsNoNewBlock one
    → is_data f.layout ≡ false → record_on side l one j s f ≡ queue_record side l one f
record_over Nb l (records.Of Nb e) j s f unsent plain = event_over l Nb e j f plain
record_over Ue l (records.Of Ue e) j s f unsent plain = event_over l Ue e j f plain
record_over Nb l (records.Of Ue e) j s f unsent plain = refl
record_over Ue l (records.Of Nb e) j s f unsent plain = refl
record_over Nb l (records.Looped lcid octets) j s f unsent plain = refl
record_over Ue l (records.Looped lcid octets) j s f unsent plain = by (lcid == l)
  where
    by : (on : Bool) → only_at on (flow_submitted octets) f
        ≡ queue_submits (map sdu_told (if on then records.Looped lcid octets ∷ [] else [])) f
    by true = refl
    by false = refl
record_over side l (records.Block direction process true version octets) j s f unsent plain = absurd unsent
record_over Nb l (records.Block direction process false version octets) j s f unsent plain = refl
record_over Ue l (records.Block direction process false version octets) j s f unsent plain = refl
record_over Nb l one j s f unsent plain = refl
record_over Ue l one j s f unsent plain = refl

-- ---- behind records of a group, whose line submits no SDU

told_unsubmitted : (told : List Record) (j : Given) (s : AllSent) → s.submitted ≡ None
    → (records_told histories given.histories told j s).submitted ≡ None
told_unsubmitted [] j s none = none
told_unsubmitted (one ∷ told) j s none =
    told_unsubmitted told (after_given given.histories one j)
    (after_record histories given.histories one (settled given.histories one j) s)
    (record_unsubmitted one (settled given.histories one j) s)

pub first_unsubmitted : (now : Group) (past : List Group) (told : List Record) → submitted_by now.line ≡ None
    → (sending_first now past told).submitted ≡ None
first_unsubmitted now past told none =
    let s = all_sending histories given.histories past in
    told_unsubmitted told (line_given given.histories now.line (all_given given.histories past))
    (after_line histories now.line s) (unsubmitted now.line s none)

module _ (l : ℕ) (now : Group) (past : List Group) (none : submitted_by now.line ≡ None) where
  -- one more
  pub flow_next : (side : Side) (told : List Record) (one : Record) (f : Flow)
      → flow_on side l (sending_first now past told) ≡ Some f
      → flow_on side l (sending_first now past (told ++ one ∷ []))
      ≡ Some (record_on side l one (giving_before now past told one) (sending_first now past told) f)
  flow_next side told one f stands =
      let j = giving_before now past told one in
      let s = sending_first now past told in
      let goes = flows_go_on side l in
      ap (flow_on side l) (sending_next now past told one)
      ∙ goes.records one j s
      ∙ ap (option_map (record_on side l one j s))
      (goes.settles one s
      ∙ ap (λ (o : Option Submission). option_map (submits_to side l (unrefused one o)) (flow_on side l s))
      (first_unsubmitted now past told none)
      ∙ ap (option_map (submits_to side l None)) stands)

  -- those that send no new block
  pub flow_goes : (side : Side) (xs told : List Record) (f : Flow) → AllByRecursion SendsNoNewBlock xs
      → is_data f.layout ≡ false → flow_on side l (sending_first now past told) ≡ Some f
      → flow_on side l (sending_first now past (told ++ xs)) ≡ Some (queue_records side l xs f)
  flow_goes side [] told f unsent plain stands =
      ap (λ (zs : List Record). flow_on side l (sending_first now past zs)) (append-nil told) ∙ stands
  flow_goes side (one ∷ xs) told f unsent plain stands =
      let j = giving_before now past told one in
      let s = sending_first now past told in
      ap (λ (zs : List Record). flow_on side l (sending_first now past zs)) (sym (append_assoc told (one ∷ []) xs))
      ∙ flow_goes side xs (told ++ one ∷ []) (queue_record side l one f) unsent.1
      (ap is_data (record_layout side l one f) ∙ plain)
      (flow_next side told one f stands
      ∙ ap (λ (g : Flow). Some g) (record_over side l one j s f unsent.0 plain))

  -- those that tell nothing of the side on the channel, nor that it is submitted an SDU
  pub flow_stays : (side : Side) (xs told : List Record) (f : Flow) → AllByRecursion SendsNoNewBlock xs
      → is_data f.layout ≡ false → told_on l (events_of side xs) ≡ [] → looped_at side l xs ≡ []
      → flow_on side l (sending_first now past told) ≡ Some f
      → flow_on side l (sending_first now past (told ++ xs)) ≡ Some f
  flow_stays side xs told f unsent plain quiet unlooped stands =
      flow_goes side xs told f unsent plain stands
      ∙ ap (λ (g : Flow). Some g)
      ((go_by_events side l xs f unlooped).flow_is ∙ ap (λ (es : List Event). queue_over es f) quiet)

  -- a new block of a side leaves what the other one sends
  pub flow_builds : (side : Side) (told : List Record) (process version : ℕ) (octets : List ℕ) (f : Flow)
      → (let one = block_of side process version octets in
      let s = sending_first now past told in
      flow_on side l s ≡ Some f
      → flow_on side l (sending_first now past (told ++ one ∷ []))
      ≡ Some (behind_all (acked_at side l (giving_before now past told one)) (sent_on l (sent_by side) octets s) f))
  flow_builds Nb told process version octets f stands =
      flow_next Nb told (block_of Nb process version octets) f stands
  flow_builds Ue told process version octets f stands =
      flow_next Ue told (block_of Ue process version octets) f stands

  pub far_builds : (side : Side) (told : List Record) (process version : ℕ) (octets : List ℕ) (f : Flow)
      → flow_on (other side) l (sending_first now past told) ≡ Some f
      → flow_on (other side) l (sending_first now past (told ++ block_of side process version octets ∷ [])) ≡ Some f
  far_builds Nb told process version octets f stands =
      flow_next Ue told (block_of Nb process version octets) f stands
  far_builds Ue told process version octets f stands =
      flow_next Nb told (block_of Ue process version octets) f stands

  -- ---- and each is right on the channel

  on_channel : (side : Side) (event : Event) (f : Flow)
      → AreRightHere (told_on l (event_of side (records.Of side event))) f → IsRightOnChannel l event f
  on_channel Nb (events.Take lcid count len) f right = λ here.
      (subst (λ (b : Bool). AreRightHere (if b then events.Take lcid count len ∷ [] else []) f) (eq-eqb lcid l here)
      right).0
  on_channel Ue (events.Take lcid count len) f right = λ here.
      (subst (λ (b : Bool). AreRightHere (if b then events.Take lcid count len ∷ [] else []) f) (eq-eqb lcid l here)
      right).0
  on_channel Nb (events.Report lcid fms bitmap) f right = λ here.
      (subst (λ (b : Bool). AreRightHere (if b then events.Report lcid fms bitmap ∷ [] else []) f) (eq-eqb lcid l here)
      right).0
  on_channel Ue (events.Report lcid fms bitmap) f right = λ here.
      (subst (λ (b : Bool). AreRightHere (if b then events.Report lcid fms bitmap ∷ [] else []) f) (eq-eqb lcid l here)
      right).0
  on_channel Nb (events.Discard lcid len) f right = λ here.
      (subst (λ (b : Bool). AreRightHere (if b then events.Discard lcid len ∷ [] else []) f) (eq-eqb lcid l here)
      right).0
  on_channel Ue (events.Discard lcid len) f right = λ here.
      (subst (λ (b : Bool). AreRightHere (if b then events.Discard lcid len ∷ [] else []) f) (eq-eqb lcid l here)
      right).0
  on_channel side event f right = tt

  one_right : (told : List Record) (one : Record) (f : Side → Flow)
      → ((side : Side) → flow_on side l (sending_first now past told) ≡ Some (f side)) → SendsNoNewBlock one
      → ((side : Side) → AreRightHere (told_on l (event_of side one)) (f side)) → IsRightRecord l now past told one
  one_right told (records.Of side event) f stands unsent right = λ g is.
      let same : Some (f side) ≡ Some g = sym (stands side) ∙ is in
      let g_is : f side ≡ g = cc in
      subst (IsRightOnChannel l event) g_is (on_channel side event (f side) (right side))
  one_right told (records.Block direction process true version octets) f stands unsent right = absurd unsent
  one_right told one f stands unsent right = tt

  pub all_right : (xs told : List Record) (f : Side → Flow)
      → ((side : Side) → flow_on side l (sending_first now past told) ≡ Some (f side))
      → ((side : Side) → is_data (f side).layout ≡ false) → AllByRecursion SendsNoNewBlock xs
      → ((side : Side) → AreRightOver side l xs (f side)) → AreRightRecords l now past told xs
  all_right [] told f stands plain unsent right = tt
  all_right (one ∷ xs) told f stands plain unsent right = (
    one_right told one f stands unsent.0 (λ side. (right side).0),
    all_right xs (told ++ one ∷ []) (λ side. queue_record side l one (f side))
        (λ side. flow_goes side (one ∷ []) told (f side) (unsent.0, tt) (plain side) (stands side))
        (λ side. ap is_data (record_layout side l one (f side)) ∙ plain side) unsent.1 (λ side. (right side).1),
  )

  -- those of the first records, and of the others
  pub right_then : (xs ys told : List Record) → AreRightRecords l now past told xs
      → AreRightRecords l now past (told ++ xs) ys → AreRightRecords l now past told (xs ++ ys)
  right_then [] ys told first rest =
      subst (λ (zs : List Record). AreRightRecords l now past zs ys) (append-nil told) rest
  right_then (one ∷ xs) ys told first rest = (
    first.0,
    right_then xs ys (told ++ one ∷ []) first.1
        (subst (λ (zs : List Record). AreRightRecords l now past zs ys) (sym (append_assoc told (one ∷ []) xs)) rest),
  )

  -- of a new block
  pub block_right : (side : Side) (told : List Record) (process version : ℕ) (octets : List ℕ) (f : Flow)
      → flow_on side l (sending_first now past told) ≡ Some f
      → AreRight IsRightPdu
      (acked_at side l (giving_before now past told (block_of side process version octets)))
      (sent_on l (sent_by side) octets (sending_first now past told)) f
      → IsRightRecord l now past told (block_of side process version octets)
  block_right Nb told process version octets f stands right = λ g is.
      let same : Some f ≡ Some g = sym stands ∙ is in
      let g_is : f ≡ g = cc in
      subst (AreRight IsRightPdu (acked_at Nb l (giving_before now past told (block_of Nb process version octets)))
      (sent_on l (sent_by Nb) octets (sending_first now past told))) g_is right
  block_right Ue told process version octets f stands right = λ g is.
      let same : Some f ≡ Some g = sym stands ∙ is in
      let g_is : f ≡ g = cc in
      subst (AreRight IsRightPdu (acked_at Ue l (giving_before now past told (block_of Ue process version octets)))
      (sent_on l (sent_by Ue) octets (sending_first now past told))) g_is right
