-- How what is kept of the sender of a channel of acknowledged data goes over records of a group, in step with what is
-- gathered of what PDCP gives RLC.
use Rattle.std.proofs.Common.{◌≡◌, ℕ, ◌≤◌, Bool, true, false, not, ◌==◌, if◌then◌else◌, List, [], ◌∷◌, ◌++◌}
use Rattle.std.proofs.Common.{Option, Some, None, append-nil, append_assoc, refl, ap, sym, subst, ◌∙◌}
use Rattle.std.specs.List.{AllByRecursion}
use Rattle.std.proofs.lemmas.List.Elements.{filter-append}
use Rattle.air_record.specs.declared.record.Record.{Record}
use Rattle.air_record.specs.declared.record.Record.TheVariants as records
use Rattle.air_record.specs.Submissions.{submitted_by}
use Rattle.air_text.specs.Groups.{Group}
use Rattle.bearer_types.specs.Sides.{other, sender_of}
use Rattle.bearer_types.specs.declared.event.Event.{Event}
use Rattle.bearer_types.specs.declared.event.Event.TheVariants as events
use Rattle.l2_types.specs.declared.side.Side.{Side}
use Rattle.l2_types.specs.declared.side.Side.TheVariants.{Nb, Ue}
use Rattle.mac_pdu.specs.declared.item.Direction.{Direction}
use Rattle.mac_pdu.specs.declared.item.Direction.TheVariants as directions
use Rattle.promises.specs.Events.{is_of_loop, is_on, told_on}
use Rattle.promises.specs.Flows.{loops_in}
use Rattle.promises.specs.Records.{event_of, events_of}
use Rattle.journal_given.specs.Giving.{after_line, all_given, bearer_at, given_within, on_side, settled, side_of}
use Rattle.journal_given.specs.Giving.{after_record as after_given, after_records as after_all}
use Rattle.journal_given.specs.Supplies.{Bearer, History, Supply}
use Rattle.journal_given.specs.Supplies as given
use Rattle.journal_sent.specs.RightSent.{AllSent, Flow, Given}
use Rattle.journal_sent.specs.Sending.{acked_at, after_record, all_sending, records_told, sdu_in, sending_within}
use Rattle.journal_sent.specs.Sending.{sdu_of as sdu_given, after_line as line_sent}
use Rattle.journal_sent.specs.SentFlows.{flow_reported, gives_data}
use Rattle.journal_sent.specs.SentPdus.{histories}
use Rattle.law_deliver.proofs.AmFlow.Carrying.{front, rest}
use Rattle.law_given.specs.BearerRecords.{bearer_before, bearer_first}
use Rattle.law_given.specs.OneBearer.{first_of}
use Rattle.law_given.specs.SupplyLaws.{AreRight, supplied_all, supplied_by}
use Rattle.law_given.proofs.BearerRecordsHistories.{one_more, settled_so}
use Rattle.law_given.proofs.GivenRecords.{BringsNoBlock, before_is, records_gather}
use Rattle.law_run.proofs.EmptyLists.{parts_empty}
use Rattle.law_run.proofs.Flowing.{looped_then}
use Rattle.law_sent.specs.Channels.{StandsOn, behind_all, by_event, by_record, only_at, sent_on}
use Rattle.law_sent.proofs.Channels.{records_go_alone}
use Rattle.law_sound.specs.NamedSteps.{SendsNoNewBlock}
use Rattle.law_sound.proofs.LaterRecords.{TellsOfNoTaking}
use Rattle.law_sound.proofs.SentBeside.{flow_by, flow_over, taken_by}

-- ---- behind the first records of a group, and before the one that follows them

abbrev pub giving_first : Group → List Group → List Record → Given
giving_first now past told = given_within given.histories (first_of now told) (all_given given.histories past)

abbrev pub giving_before : Group → List Group → List Record → Record → Given
giving_before now past told one = settled given.histories one (giving_first now past told)

abbrev pub sending_first : Group → List Group → List Record → AllSent
sending_first now past told = sending_within histories given.histories (first_of now told)
    (all_given given.histories past) (all_sending histories given.histories past)

one_sent : (told : List Record) (one : Record) (j : Given) (s : AllSent)
    → records_told histories given.histories (told ++ one ∷ []) j s
    ≡ after_record histories given.histories one (settled given.histories one (after_all given.histories told j))
    (records_told histories given.histories told j s)
one_sent [] one j s = refl
one_sent (first ∷ told) one j s = one_sent told one (after_given given.histories first j)
    (after_record histories given.histories first (settled given.histories first j) s)

pub giving_next : (now : Group) (past : List Group) (told : List Record) (one : Record)
    → giving_first now past (told ++ one ∷ []) ≡ after_given given.histories one (giving_first now past told)
giving_next now past told one =
    one_more given.histories told one (after_line given.histories now.line (all_given given.histories past))

pub sending_next : (now : Group) (past : List Group) (told : List Record) (one : Record)
    → sending_first now past (told ++ one ∷ [])
    ≡ after_record histories given.histories one (giving_before now past told one) (sending_first now past told)
sending_next now past told one =
    one_sent told one (after_line given.histories now.line (all_given given.histories past))
    (line_sent histories now.line (all_sending histories given.histories past))

-- the bearer of a channel there
pub bearer_is : (l : ℕ) → l ≤ 10 → (now : Group) (past : List Group) (told : List Record) (one : Record)
    → bearer_at l (giving_before now past told one).bearers ≡ bearer_before l now past told one
bearer_is l low now past told one = sym (settled_so l low now past told one)

-- the flow of a channel behind one record more
pub stands_next : (side : Side) (l : ℕ) (now : Group) (past : List Group) (told : List Record) (one : Record)
    (f : Flow) → StandsOn side l (sending_first now past told) f
    → StandsOn side l (sending_first now past (told ++ one ∷ []))
    (by_record side l one (giving_before now past told one) (sending_first now past told) f)
stands_next side l now past told one f stands =
    let j = giving_before now past told one in
    let s = sending_first now past told in
    subst (λ (x : AllSent). StandsOn side l x (by_record side l one j s f)) (sym (sending_next now past told one))
    (records_go_alone side l one j s f stands)

-- ---- events, one behind the other

over_both : (es rest : List Event) (s : Supply History) (f : Flow)
    → flow_over (es ++ rest) s f ≡ flow_over rest (supplied_all es s) (flow_over es s f)
over_both [] rest s f = refl
over_both (e ∷ es) rest s f = over_both es rest (supplied_by e s) (flow_by e s f)

right_both : (es rest : List Event) (s : Supply History) → AreRight (es ++ rest) s
    → AreRight es s × AreRight rest (supplied_all es s)
right_both [] rest s right = (tt, right)
right_both (e ∷ es) rest s right =
    let more = right_both es rest (supplied_by e s) right.1 in
    ((right.0, more.0), more.1)

own_supply : (own : Side) (g : Supply History → Supply History) (b : Bearer History)
    → side_of own (on_side own g b) ≡ g (side_of own b)
own_supply Nb g b = refl
own_supply Ue g b = refl

-- what the first record tells, and what those behind it do
pub told_both : (l : ℕ) (side : Side) (one : Record) (xs : List Record)
    → told_on l (events_of side (one ∷ xs)) ≡ told_on l (event_of side one) ++ told_on l (events_of side xs)
told_both l side one xs = filter-append (is_on l) (event_of side one) (events_of side xs)

pub told_one : (l : ℕ) (side : Side) (one : Record)
    → told_on l (events_of side (one ∷ [])) ≡ told_on l (event_of side one)
told_one l side one = ap (told_on l) (append-nil (event_of side one))

-- ---- what an event of a side makes of the flow that it sends

if_over : (on : Bool) (change : Flow → Flow) (e : Event) (s : Supply History) (f : Flow) → change f ≡ flow_by e s f
    → only_at on change f ≡ flow_over (if on then e ∷ [] else []) s f
if_over true change e s f same = same
if_over false change e s f same = refl

-- one that changes nothing, whether it counts or not
counted_over : (l : ℕ) (counts : Bool) (e : Event) (s : Supply History) (f : Flow) → f ≡ flow_by e s f
    → f ≡ flow_over (told_on l (if counts then e ∷ [] else [])) s f
counted_over l true e s f same = by (is_on l e)
  where
    by : (on : Bool) → f ≡ flow_over (if on then e ∷ [] else []) s f
    by true = same
    by false = refl
counted_over l false e s f same = refl

take_over : (side : Side) (l : ℕ) (count : Option ℕ) (j : Given) (b : Bearer History) (f : Flow)
    → bearer_at l j.bearers ≡ Some b
    → gives_data histories count (sdu_given given.histories side l count j) f ≡ taken_by count (side_of side b) f
take_over side l None j b f is = refl
take_over side l (Some count) j b f is =
    ap (λ (o : Option (Bearer History)). gives_data histories (Some count) (sdu_in given.histories side count o) f) is

event_over : (l : ℕ) (side : Side) (e : Event) (j : Given) (b : Bearer History) (f : Flow)
    → bearer_at l j.bearers ≡ Some b
    → by_event side l e j f ≡ flow_over (told_on l (if not (is_of_loop e) then e ∷ [] else [])) (side_of side b) f
event_over l side (events.Take lcid count len) j b f is =
    if_over (lcid == l) (gives_data histories count (sdu_given given.histories side l count j))
    (events.Take lcid count len) (side_of side b) f (take_over side l count j b f is)
event_over l side (events.Report lcid fms bitmap) j b f is =
    if_over (lcid == l) (flow_reported histories fms bitmap) (events.Report lcid fms bitmap) (side_of side b) f refl
event_over l side e j b f is = counted_over l (not (is_of_loop e)) e (side_of side b) f refl

record_over : (l : ℕ) (side : Side) (one : Record) (j : Given) (s : AllSent) (b : Bearer History) (f : Flow)
    → SendsNoNewBlock one → bearer_at l j.bearers ≡ Some b
    → by_record side l one j s f ≡ flow_over (told_on l (event_of side one)) (side_of side b) f
record_over l Nb (records.Of Nb e) j s b f unsent is = event_over l Nb e j b f is
record_over l Ue (records.Of Ue e) j s b f unsent is = event_over l Ue e j b f is
record_over l Nb (records.Of Ue e) j s b f unsent is = refl
record_over l Ue (records.Of Nb e) j s b f unsent is = refl
record_over l side (records.Block direction process true version octets) j s b f unsent is = absurd unsent
record_over l side one j s b f unsent is = refl

-- ---- records of a side that takes none

event_still : (l : ℕ) (side : Side) (e : Event) (j : Given) (f : Flow)
    → AllByRecursion (TellsOfNoTaking l) (told_on l (if not (is_of_loop e) then e ∷ [] else []))
    → by_event side l e j f ≡ f
event_still l side (events.Take lcid count len) j f h = by (lcid == l) refl h
  where
    by : (b : Bool) → (lcid == l) ≡ b
        → AllByRecursion (TellsOfNoTaking l) (if b then events.Take lcid count len ∷ [] else [])
        → only_at b (gives_data histories count (sdu_given given.histories side l count j)) f ≡ f
    by true here h = absurd (h.0 here)
    by false here h = refl
event_still l side (events.Report lcid fms bitmap) j f h = by (lcid == l) refl h
  where
    by : (b : Bool) → (lcid == l) ≡ b
        → AllByRecursion (TellsOfNoTaking l) (if b then events.Report lcid fms bitmap ∷ [] else [])
        → only_at b (flow_reported histories fms bitmap) f ≡ f
    by true here h = absurd (h.0 here)
    by false here h = refl
event_still l side e j f h = refl

record_still : (l : ℕ) (side : Side) (one : Record) (j : Given) (s : AllSent) (f : Flow) → SendsNoNewBlock one
    → AllByRecursion (TellsOfNoTaking l) (told_on l (event_of side one)) → by_record side l one j s f ≡ f
record_still l Nb (records.Of Nb e) j s f unsent h = event_still l Nb e j f h
record_still l Ue (records.Of Ue e) j s f unsent h = event_still l Ue e j f h
record_still l Nb (records.Of Ue e) j s f unsent h = refl
record_still l Ue (records.Of Nb e) j s f unsent h = refl
record_still l side (records.Block direction process true version octets) j s f unsent h = absurd unsent
record_still l side one j s f unsent h = refl

pub sent_still : (l : ℕ) (now : Group) (past : List Group) (side : Side) (xs told : List Record) (f : Flow)
    → AllByRecursion (TellsOfNoTaking l) (told_on l (events_of side xs)) → AllByRecursion SendsNoNewBlock xs
    → StandsOn side l (sending_first now past told) f → StandsOn side l (sending_first now past (told ++ xs)) f
sent_still l now past side [] told f h unsent stands =
    subst (λ (zs : List Record). StandsOn side l (sending_first now past zs) f) (sym (append-nil told)) stands
sent_still l now past side (one ∷ xs) told f h unsent stands =
    let first = told_on l (event_of side one) in
    let more = told_on l (events_of side xs) in
    let all = subst (AllByRecursion (TellsOfNoTaking l)) (told_both l side one xs) h in
    let same = record_still l side one (giving_before now past told one) (sending_first now past told) f unsent.0
    (front (TellsOfNoTaking l) first more all) in
    let next = subst (λ (g : Flow). StandsOn side l (sending_first now past (told ++ one ∷ [])) g) same
    (stands_next side l now past told one f stands) in
    subst (λ (zs : List Record). StandsOn side l (sending_first now past zs) f) (append_assoc told (one ∷ []) xs)
    (sent_still l now past side xs (told ++ one ∷ []) f (rest (TellsOfNoTaking l) first more all) unsent.1 next)

-- of one that tells nothing of the channel
pub sent_quiet : (l : ℕ) (now : Group) (past : List Group) (side : Side) (xs told : List Record) (f : Flow)
    → told_on l (events_of side xs) ≡ [] → AllByRecursion SendsNoNewBlock xs
    → StandsOn side l (sending_first now past told) f → StandsOn side l (sending_first now past (told ++ xs)) f
sent_quiet l now past side xs told f none =
    sent_still l now past side xs told f (subst (AllByRecursion (TellsOfNoTaking l)) (sym none) tt)

-- ---- records that give RLC what they tell of

module _ (l : ℕ) (low : l ≤ 10) (newer : List Group) (now : Group) (past : List Group)
    (none : submitted_by now.line ≡ None) where
  -- of one side: its flow goes on by what it tells of the channel
  pub gathers_sent : (side : Side) (xs told : List Record) (es : List Event) (b : Bearer History) (f : Flow)
      → told_on l (events_of side xs) ≡ es → told_on l (events_of (other side) xs) ≡ [] → loops_in l xs ≡ []
      → AllByRecursion BringsNoBlock xs → AllByRecursion SendsNoNewBlock xs → bearer_first l now past told ≡ Some b
      → AreRight es (side_of side b) → StandsOn side l (sending_first now past told) f
      → StandsOn side l (sending_first now past (told ++ xs)) (flow_over es (side_of side b) f)
  gathers_sent side [] told es b f es_is far loops blocks unsent is right stands =
      subst (λ (zs : List Record). StandsOn side l (sending_first now past zs) (flow_over es (side_of side b) f))
      (sym (append-nil told))
      (subst (λ (zs : List Event). StandsOn side l (sending_first now past told) (flow_over zs (side_of side b) f))
      es_is stands)
  gathers_sent side (one ∷ xs) told es b f es_is far loops blocks unsent is right stands =
      let first = told_on l (event_of side one) in
      let rest = told_on l (events_of side xs) in
      let split : first ++ rest ≡ es = sym (told_both l side one xs) ∙ es_is in
      let rights = right_both first rest (side_of side b)
      (subst (λ (zs : List Event). AreRight zs (side_of side b)) (sym split) right) in
      let fars = parts_empty (told_on l (event_of (other side) one)) (told_on l (events_of (other side) xs))
      (sym (told_both l (other side) one xs) ∙ far) in
      let unlooped = parts_empty (loops_in l (one ∷ [])) (loops_in l xs)
      (sym (looped_then Ue l (one ∷ []) xs) ∙ loops) in
      let gathered = records_gather l low newer now past none side (one ∷ []) told first b (told_one l side one)
      (told_one l (other side) one ∙ fars.0) unlooped.0 (blocks.0, tt) is rights.0 in
      let d = on_side side (supplied_all first) b in
      let supply : side_of side d ≡ supplied_all first (side_of side b) = own_supply side (supplied_all first) b in
      let g = flow_over first (side_of side b) f in
      let same = record_over l side one (giving_before now past told one) (sending_first now past told) b f unsent.0
      (bearer_is l low now past told one ∙ (before_is l low newer now past none told one ∙ is)) in
      let next = subst (λ (x : Flow). StandsOn side l (sending_first now past (told ++ one ∷ [])) x) same
      (stands_next side l now past told one f stands) in
      let more = gathers_sent side xs (told ++ one ∷ []) rest d g refl fars.1 unlooped.1 blocks.1 unsent.1 gathered.is
      (subst (AreRight rest) (sym supply) rights.1) next in
      let over : flow_over rest (side_of side d) g ≡ flow_over es (side_of side b) f =
      ap (λ (s : Supply History). flow_over rest s g) supply
      ∙ (sym (over_both first rest (side_of side b) f)
      ∙ ap (λ (zs : List Event). flow_over zs (side_of side b) f) split) in
      subst (λ (x : Flow). StandsOn side l (sending_first now past (told ++ one ∷ xs)) x) over
      (subst (λ (zs : List Record). StandsOn side l (sending_first now past zs) (flow_over rest (side_of side d) g))
      (append_assoc told (one ∷ []) xs) more)

-- ---- a new block

pub block_next : (l : ℕ) (now : Group) (past : List Group) (told : List Record) (direction : Direction)
    (process version : ℕ) (octets : List ℕ) (f : Flow)
    → (let one = records.Block direction process true version octets in
    StandsOn (sender_of direction) l (sending_first now past told) f
    → StandsOn (sender_of direction) l (sending_first now past (told ++ one ∷ []))
    (behind_all (acked_at (sender_of direction) l (giving_before now past told one))
    (sent_on l direction octets (sending_first now past told)) f))
block_next l now past told directions.Down process version octets f stands =
    stands_next Nb l now past told (records.Block directions.Down process true version octets) f stands
block_next l now past told directions.Up process version octets f stands =
    stands_next Ue l now past told (records.Block directions.Up process true version octets) f stands

-- the other side's flow is as it was
pub block_far : (l : ℕ) (now : Group) (past : List Group) (told : List Record) (direction : Direction)
    (process version : ℕ) (octets : List ℕ) (f : Flow)
    → StandsOn (other (sender_of direction)) l (sending_first now past told) f
    → StandsOn (other (sender_of direction)) l
    (sending_first now past (told ++ records.Block direction process true version octets ∷ [])) f
block_far l now past told directions.Down process version octets f stands =
    stands_next Ue l now past told (records.Block directions.Down process true version octets) f stands
block_far l now past told directions.Up process version octets f stands =
    stands_next Nb l now past told (records.Block directions.Up process true version octets) f stands
