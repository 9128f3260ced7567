-- Group by group, the SDUs that are told of event by event are those that are taken, and those that
-- wait.
use Rattle.std.proofs.Common.{◌≡◌, ℕ, ◌==◌, Bool, true, false, not, ◌&&◌, List, [], ◌∷◌, ◌++◌}
use Rattle.std.proofs.Common.{map, Option, Some, None, refl, ap, sym, ◌∙◌, subst, if◌then◌else◌}
use Rattle.std.proofs.Common.{append_assoc, append-nil}
use Rattle.std.specs.Prelude.{cond}
use Rattle.std.specs.List.{AllByRecursion, flat_map, filter}
use Rattle.std.proofs.lemmas.Grind.{flat_map-append}
use Rattle.std.proofs.lemmas.List.{length-append}
use Rattle.l2_types.specs.declared.channel.Kind.TheVariants.{Am}
use Rattle.l2_types.specs.declared.side.Side.{Side}
use Rattle.l2_types.specs.declared.side.Side.TheVariants.{Nb, Ue}
use Rattle.bearer_types.specs.declared.config.BearerConfig.{BearerConfig}
use Rattle.bearer_types.specs.declared.event.Event.{Event}
use Rattle.bearer_types.specs.declared.event.Event.TheVariants.{Take, Discard}
use Rattle.bearer_types.specs.Sides.{is_same, other}
use Rattle.air_record.specs.declared.line.Line.{Line}
use Rattle.air_record.specs.declared.line.Line.TheVariants as lines
use Rattle.air_record.specs.declared.record.Record.{Record}
use Rattle.air_record.specs.declared.record.Record.TheVariants as records
use Rattle.air_text.specs.Groups.{Group, history}
use Rattle.promises.specs.Configs.{config_of}
use Rattle.promises.specs.Events.{is_of_loop}
use Rattle.promises.specs.Flows.{is_refused_at_once, handed_in, looped_at, submitted, delivered}
use Rattle.promises.specs.Parts.{Part, Submits, Passes, Drains, Rests, part_of_line}
use Rattle.promises.specs.Records.{event_of, events_of, ups_in, is_looped, sdu_of}
use Rattle.promises.specs.Taken.{leaving_in}
use Rattle.journal_takes.specs.TakeEvents.{TakeEvent, SduSubmitted, SduDiscarded, PduTaken}
use Rattle.journal_flows.specs.Laws.{begins_on}
use Rattle.journal_delivered.specs.RightDelivery.{record_tells, records_tell, sdus_told, since_bearer}
use Rattle.promises.specs.Bearers.{IsEarly, IsFirst, BeginsFirst, BearersBeginFirst}
use Rattle.promises.specs.WaitingSdus.{Queue, AllMayLeave, EachMayLeave, after_record, after_records}
use Rattle.promises.specs.WaitingSdus.{with_line, queue, SdusWait}
use Rattle.law_sound.proofs.Sdus.{SdusAgree, none_agree, submitted_agrees, discarded_agrees, taken_agrees}
use Rattle.law_sound.proofs.Sdus.{queue_of, discard_waits, take_waits}

abbrev Sdus : Type 0
Sdus = List (List ℕ)

abbrev pub leaving_by : ℕ → List Event → List (Option ℕ)
leaving_by l events = flat_map (leaving_in l) events

-- ---- a record

abbrev Agree : ℕ → List TakeEvent → List (Option ℕ) → Sdus → Type 0
Agree first es leaving subs = SdusAgree first es leaving subs

no_subs : (first : ℕ) (es : List TakeEvent) (leaving : List (Option ℕ)) (subs : Sdus)
    → Agree first es leaving subs → Agree first es leaving (subs ++ [])
no_subs first es leaving subs h = subst (λ (xs : Sdus). Agree first es leaving xs) (sym (append-nil subs)) h

none_left : (first : ℕ) (es : List TakeEvent) (leaving : List (Option ℕ)) (subs : Sdus)
    → Agree first es leaving subs → Agree first es (leaving ++ []) subs
none_left first es leaving subs h =
    subst (λ (xs : List (Option ℕ)). Agree first es xs subs) (sym (append-nil leaving)) h

event_agrees : (first l : ℕ) (from side : Side) (event : Event) (es : List TakeEvent) (leaving : List (Option ℕ))
    (subs : Sdus) → AllMayLeave first (leaving_by l (event_of from (records.Of side event))) (queue_of leaving subs)
    → Agree first es leaving subs
    → Agree first (record_tells from l (records.Of side event) ++ es)
    (leaving ++ leaving_by l (event_of from (records.Of side event))) subs
event_agrees first l from side (Take lcid (Some count) len) es leaving subs waits h =
    by (is_same from side) (lcid == l) refl waits
  where
    by : (b c : Bool) → (lcid == l) ≡ c
        → AllMayLeave first (leaving_by l (if b && true then Take lcid (Some count) len ∷ [] else []))
        (queue_of leaving subs)
        → Agree first ((if b then (if c then PduTaken count ∷ [] else []) else []) ++ es)
        (leaving ++ leaving_by l (if b && true then Take lcid (Some count) len ∷ [] else [])) subs
    by true true e waits =
        subst (λ (d : Bool). Agree first (PduTaken count ∷ es)
        (leaving ++ ((if d then Some count ∷ [] else []) ++ [])) subs) (sym e)
        (taken_agrees first count es leaving subs (take_waits first count es leaving subs h
        (subst (λ (d : Bool). AllMayLeave first ((if d then Some count ∷ [] else []) ++ []) (queue_of leaving subs)) e
        waits).0) h)
    by true false e waits =
        subst (λ (d : Bool). Agree first es (leaving ++ ((if d then Some count ∷ [] else []) ++ [])) subs) (sym e)
        (none_left first es leaving subs h)
    by false c e waits = none_left first es leaving subs h
event_agrees first l from side (Discard lcid len) es leaving subs waits h =
    by (is_same from side) (lcid == l) refl waits
  where
    by : (b c : Bool) → (lcid == l) ≡ c
        → AllMayLeave first (leaving_by l (if b && true then Discard lcid len ∷ [] else [])) (queue_of leaving subs)
        → Agree first ((if b then (if c then SduDiscarded ∷ [] else []) else []) ++ es)
        (leaving ++ leaving_by l (if b && true then Discard lcid len ∷ [] else [])) subs
    by true true e waits =
        subst (λ (d : Bool). Agree first (SduDiscarded ∷ es)
        (leaving ++ ((if d then None ∷ [] else []) ++ [])) subs) (sym e)
        (discarded_agrees first es leaving subs (discard_waits first es leaving subs h
        (subst (λ (d : Bool). AllMayLeave first ((if d then None ∷ [] else []) ++ []) (queue_of leaving subs)) e
        waits).0) h)
    by true false e waits =
        subst (λ (d : Bool). Agree first es (leaving ++ ((if d then None ∷ [] else []) ++ [])) subs) (sym e)
        (none_left first es leaving subs h)
    by false c e waits = none_left first es leaving subs h
event_agrees first l from side event es leaving subs waits h =
    by (is_same from side) (is_same from side && not (is_of_loop event))
  where
    by : (b c : Bool) → Agree first ((if b then [] else []) ++ es)
        (leaving ++ leaving_by l (if c then event ∷ [] else [])) subs
    by true true = none_left first es leaving subs h
    by true false = none_left first es leaving subs h
    by false true = none_left first es leaving subs h
    by false false = none_left first es leaving subs h

loop_agrees : (first l lcid : ℕ) (from : Side) (octets : List ℕ) (es : List TakeEvent) (leaving : List (Option ℕ))
    (subs : Sdus) → Agree first es leaving subs
    → Agree first (record_tells from l (records.Looped lcid octets) ++ es) leaving
    (subs ++ looped_at from l (records.Looped lcid octets ∷ []))
loop_agrees first l lcid Nb octets es leaving subs h = no_subs first es leaving subs h
loop_agrees first l lcid Ue octets es leaving subs h = by (lcid == l)
  where
    by : (b : Bool) → Agree first ((if b then SduSubmitted octets ∷ [] else []) ++ es) leaving
        (subs ++ map sdu_of (cond b (records.Looped lcid octets ∷ []) []))
    by true = submitted_agrees first es leaving subs octets h
    by false = no_subs first es leaving subs h

not_looped : (from : Side) (l : ℕ) (one : Record) → looped_at Ue l (one ∷ []) ≡ [] → looped_at from l (one ∷ []) ≡ []
not_looped Nb l one e = refl
not_looped Ue l one e = e

none_looped : (first l : ℕ) (from : Side) (one : Record) (es : List TakeEvent) (leaving : List (Option ℕ)) (subs : Sdus)
    → looped_at Ue l (one ∷ []) ≡ [] → Agree first es leaving subs
    → Agree first es leaving (subs ++ looped_at from l (one ∷ []))
none_looped first l from one es leaving subs none h =
    subst (λ (xs : Sdus). Agree first es leaving (subs ++ xs)) (sym (not_looped from l one none))
    (no_subs first es leaving subs h)

quiet_agrees : (first l : ℕ) (from : Side) (one : Record) (es : List TakeEvent) (leaving : List (Option ℕ))
    (subs : Sdus) → looped_at Ue l (one ∷ []) ≡ [] → record_tells from l one ≡ [] → Agree first es leaving subs
    → Agree first (record_tells from l one ++ es) (leaving ++ []) (subs ++ looped_at from l (one ∷ []))
quiet_agrees first l from one es leaving subs none silent h =
    subst (λ (xs : List TakeEvent). Agree first (xs ++ es) (leaving ++ []) (subs ++ looped_at from l (one ∷ [])))
    (sym silent)
    (none_looped first l from one es (leaving ++ []) subs none (none_left first es leaving subs h))

record_agrees : (first l : ℕ) (from : Side) (one : Record) (es : List TakeEvent) (leaving : List (Option ℕ))
    (subs : Sdus) → AllMayLeave first (leaving_by l (event_of from one)) (queue_of leaving subs)
    → Agree first es leaving subs
    → Agree first (record_tells from l one ++ es) (leaving ++ leaving_by l (event_of from one))
    (subs ++ looped_at from l (one ∷ []))
record_agrees first l from (records.Of side event) es leaving subs waits h =
    none_looped first l from (records.Of side event) (record_tells from l (records.Of side event) ++ es)
    (leaving ++ leaving_by l (event_of from (records.Of side event))) subs refl
    (event_agrees first l from side event es leaving subs waits h)
record_agrees first l from (records.Looped lcid octets) es leaving subs waits h =
    none_left first (record_tells from l (records.Looped lcid octets) ++ es) leaving
    (subs ++ looped_at from l (records.Looped lcid octets ∷ []))
    (loop_agrees first l lcid from octets es leaving subs h)
record_agrees first l Nb one es leaving subs waits h = quiet_agrees first l Nb one es leaving subs refl refl h
record_agrees first l Ue one es leaving subs waits h = quiet_agrees first l Ue one es leaving subs refl refl h

-- ---- records in turn

looped_next : (from : Side) (l : ℕ) (one : Record) (told : List Record)
    → looped_at from l (one ∷ told) ≡ looped_at from l (one ∷ []) ++ looped_at from l told
looped_next Nb l one told = refl
looped_next Ue l one told = by (is_looped l one)
  where
    by : (b : Bool) → map sdu_of (cond b (one ∷ filter (is_looped l) told) (filter (is_looped l) told))
        ≡ map sdu_of (cond b (one ∷ []) []) ++ map sdu_of (filter (is_looped l) told)
    by true = refl
    by false = refl

none_looped_at : (from : Side) (l : ℕ) → looped_at from l [] ≡ []
none_looped_at Nb l = refl
none_looped_at Ue l = refl

queue_after : (from : Side) (l : ℕ) (one : Record) (leaving : List (Option ℕ)) (subs : Sdus)
    → after_record from l one (queue_of leaving subs)
    ≡ queue_of (leaving ++ leaving_by l (event_of from one)) (subs ++ looped_at from l (one ∷ []))
queue_after from l one leaving subs =
    ap (λ (n : ℕ). record { leaving = leaving ++ leaving_by l (event_of from one); submitted = n })
    (sym (length-append subs (looped_at from l (one ∷ []))))

records_agree : (first l : ℕ) (from : Side) (told : List Record) (es : List TakeEvent) (leaving : List (Option ℕ))
    (subs : Sdus) → EachMayLeave from l first told (queue_of leaving subs) → Agree first es leaving subs
    → Agree first (records_tell from l told es) (leaving ++ leaving_by l (events_of from told))
    (subs ++ looped_at from l told)
records_agree first l from [] es leaving subs waits h =
    subst (λ (xs : Sdus). Agree first es (leaving ++ []) (subs ++ xs)) (sym (none_looped_at from l))
    (no_subs first es (leaving ++ []) subs (none_left first es leaving subs h))
records_agree first l from (one ∷ told) es leaving subs waits h =
    let rest = records_agree first l from told (record_tells from l one ++ es)
    (leaving ++ leaving_by l (event_of from one)) (subs ++ looped_at from l (one ∷ []))
    (subst (λ (q : Queue). EachMayLeave from l first told q) (queue_after from l one leaving subs) waits.1)
    (record_agrees first l from one es leaving subs waits.0 h) in
    let left : (leaving ++ leaving_by l (event_of from one)) ++ leaving_by l (events_of from told)
    ≡ leaving ++ leaving_by l (events_of from (one ∷ told)) =
    append_assoc leaving (leaving_by l (event_of from one)) (leaving_by l (events_of from told))
    ∙ ap (λ (xs : List (Option ℕ)). leaving ++ xs)
    (sym (flat_map-append (leaving_in l) (event_of from one) (events_of from told))) in
    let all : (subs ++ looped_at from l (one ∷ [])) ++ looped_at from l told ≡ subs ++ looped_at from l (one ∷ told) =
    append_assoc subs (looped_at from l (one ∷ [])) (looped_at from l told)
    ∙ ap (λ (xs : Sdus). subs ++ xs) (sym (looped_next from l one told)) in
    subst (λ (xs : List (Option ℕ)). Agree first (records_tell from l (one ∷ told) es) xs
    (subs ++ looped_at from l (one ∷ told))) left
    (subst (λ (xs : Sdus). Agree first (records_tell from l (one ∷ told) es)
    ((leaving ++ leaving_by l (event_of from one)) ++ leaving_by l (events_of from told)) xs) all rest)

-- the queue behind them
queue_behind : (from : Side) (l : ℕ) (told : List Record) (leaving : List (Option ℕ)) (subs : Sdus)
    → after_records from l told (queue_of leaving subs)
    ≡ queue_of (leaving ++ leaving_by l (events_of from told)) (subs ++ looped_at from l told)
queue_behind from l [] leaving subs =
    ap (λ (xs : List (Option ℕ)). queue_of xs subs) (sym (append-nil leaving))
    ∙ ap (λ (xs : Sdus). queue_of (leaving ++ []) xs)
    (sym (append-nil subs) ∙ ap (λ (xs : Sdus). subs ++ xs) (sym (none_looped_at from l)))
queue_behind from l (one ∷ told) leaving subs =
    ap (after_records from l told) (queue_after from l one leaving subs)
    ∙ queue_behind from l told (leaving ++ leaving_by l (event_of from one)) (subs ++ looped_at from l (one ∷ []))
    ∙ ap (λ (xs : List (Option ℕ)). queue_of xs ((subs ++ looped_at from l (one ∷ [])) ++ looped_at from l told))
    (append_assoc leaving (leaving_by l (event_of from one)) (leaving_by l (events_of from told))
    ∙ ap (λ (xs : List (Option ℕ)). leaving ++ xs)
    (sym (flat_map-append (leaving_in l) (event_of from one) (events_of from told))))
    ∙ ap (λ (xs : Sdus). queue_of (leaving ++ leaving_by l (events_of from (one ∷ told))) xs)
    (append_assoc subs (looped_at from l (one ∷ [])) (looped_at from l told)
    ∙ ap (λ (xs : Sdus). subs ++ xs) (sym (looped_next from l one told)))

-- ---- a group

handed_agrees : (first l : ℕ) (from : Side) (p : Part) (told : List Record) (es : List TakeEvent)
    (leaving : List (Option ℕ)) (subs : Sdus) → Agree first es leaving subs
    → Agree first (map SduSubmitted (handed_in from l p told) ++ es) leaving (subs ++ handed_in from l p told)
handed_agrees first l from (Submits side lcid octets) told es leaving subs h =
    by (is_same side from && (not (is_refused_at_once side lcid told) && lcid == l))
  where
    by : (b : Bool) → Agree first (map SduSubmitted (if b then octets ∷ [] else []) ++ es) leaving
        (subs ++ (if b then octets ∷ [] else []))
    by true = submitted_agrees first es leaving subs octets h
    by false = no_subs first es leaving subs h
handed_agrees first l from (Passes up_grant up down_grant down) told es leaving subs h =
    no_subs first es leaving subs h
handed_agrees first l from (Drains grant) told es leaving subs h = no_subs first es leaving subs h
handed_agrees first l from Rests told es leaving subs h = no_subs first es leaving subs h

pub events_both : (from : Side) (xs ys : List Record)
    → events_of from (xs ++ ys) ≡ events_of from xs ++ events_of from ys
events_both from [] ys = refl
events_both from (one ∷ xs) ys =
    ap (λ (es : List Event). event_of from one ++ es) (events_both from xs ys)
    ∙ sym (append_assoc (event_of from one) (events_of from xs) (events_of from ys))

abbrev pub left_by : Side → ℕ → List Group → List (Option ℕ)
left_by from l past = leaving_by l (events_of from (history past))

left_next : (from : Side) (l : ℕ) (g : Group) (past : List Group)
    → left_by from l (g ∷ past) ≡ left_by from l past ++ leaving_by l (events_of from g.events)
left_next from l g past =
    ap (leaving_by l) (events_both from (history past) (records.Line g.number g.line ∷ g.events))
    ∙ flat_map-append (leaving_in l) (events_of from (history past)) (events_of from g.events)

-- what is told since the bearer's line, and all that is promised of
pub record SdusTold (first l : ℕ) (from : Side) (past : List Group) : Type 0 where
  pub agree : SdusAgree first (sdus_told from l (since_bearer l past)) (left_by from l past) (submitted from l past)
  pub ups : delivered (other from) l (since_bearer l past) ≡ delivered (other from) l past

-- as a group begins, and behind all
line_queue : (from : Side) (l : ℕ) (g : Group) (leaving : List (Option ℕ)) (subs : Sdus)
    → with_line from l g (queue_of leaving subs)
    ≡ queue_of leaving (subs ++ handed_in from l (part_of_line g.line) g.events)
line_queue from l g leaving subs =
    ap (λ (n : ℕ). record { leaving = leaving; submitted = n })
    (sym (length-append subs (handed_in from l (part_of_line g.line) g.events)))

queue_is : (from : Side) (l : ℕ) (past : List Group)
    → queue from l past ≡ queue_of (left_by from l past) (submitted from l past)
queue_is from l [] = refl
queue_is from l (g ∷ past) =
    let handed = handed_in from l (part_of_line g.line) g.events in
    ap (λ (q : Queue). after_records from l g.events (with_line from l g q)) (queue_is from l past)
    ∙ ap (after_records from l g.events) (line_queue from l g (left_by from l past) (submitted from l past))
    ∙ queue_behind from l g.events (left_by from l past)
    (submitted from l past ++ handed_in from l (part_of_line g.line) g.events)
    ∙ ap (λ (xs : List (Option ℕ)). queue_of xs
    ((submitted from l past ++ handed_in from l (part_of_line g.line) g.events) ++ looped_at from l g.events))
    (sym (left_next from l g past))
    ∙ ap (queue_of (left_by from l (g ∷ past)))
    (append_assoc (submitted from l past) handed (looped_at from l g.events))

abbrev GroupWaits : Side → ℕ → ℕ → Group → List Group → Type 0
GroupWaits from l first g past = EachMayLeave from l first g.events (with_line from l g (queue from l past))

group_agrees : (first l : ℕ) (from : Side) (g : Group) (past : List Group) (es : List TakeEvent)
    → GroupWaits from l first g past → SdusAgree first es (left_by from l past) (submitted from l past)
    → SdusAgree first (records_tell from l g.events
    (map SduSubmitted (handed_in from l (part_of_line g.line) g.events) ++ es)) (left_by from l (g ∷ past))
    (submitted from l (g ∷ past))
group_agrees first l from g past es waits h =
    let handed = handed_in from l (part_of_line g.line) g.events in
    let here = subst (λ (q : Queue). EachMayLeave from l first g.events q)
    (ap (with_line from l g) (queue_is from l past)
    ∙ line_queue from l g (left_by from l past) (submitted from l past)) waits in
    subst (λ (xs : List (Option ℕ)). Agree first (records_tell from l g.events
    (map SduSubmitted (handed_in from l (part_of_line g.line) g.events) ++ es)) xs (submitted from l (g ∷ past)))
    (sym (left_next from l g past))
    (subst (λ (xs : Sdus). Agree first (records_tell from l g.events
    (map SduSubmitted (handed_in from l (part_of_line g.line) g.events) ++ es))
    (left_by from l past ++ leaving_by l (events_of from g.events)) xs)
    (append_assoc (submitted from l past) handed (looped_at from l g.events))
    (records_agree first l from g.events
    (map SduSubmitted (handed_in from l (part_of_line g.line) g.events) ++ es) (left_by from l past)
    (submitted from l past ++ handed) here
    (handed_agrees first l from (part_of_line g.line) g.events es (left_by from l past) (submitted from l past) h)))

-- ---- before the bearer's line

early_left : (from : Side) (l : ℕ) (past : List Group) → AllByRecursion IsEarly past → left_by from l past ≡ []
early_left from l [] h = refl
early_left from l (g ∷ past) h =
    left_next from l g past
    ∙ ap (λ (told : List Record). left_by from l past ++ leaving_by l (events_of from told)) h.0.leaves_none
    ∙ append-nil (left_by from l past) ∙ early_left from l past h.1

early_submitted : (from : Side) (l : ℕ) (past : List Group) → AllByRecursion IsEarly past → submitted from l past ≡ []
early_submitted from l [] h = refl
early_submitted from l (g ∷ past) h =
    ap (λ (told : List Record). submitted from l past
    ++ (handed_in from l (part_of_line g.line) told ++ looped_at from l told)) h.0.leaves_none
    ∙ ap (λ (p : Part). submitted from l past ++ (handed_in from l p [] ++ looped_at from l [])) h.0.rests
    ∙ ap (λ (xs : Sdus). submitted from l past ++ xs) (none_looped_at from l)
    ∙ append-nil (submitted from l past) ∙ early_submitted from l past h.1

early_delivered : (side : Side) (l : ℕ) (past : List Group) → AllByRecursion IsEarly past → delivered side l past ≡ []
early_delivered side l [] h = refl
early_delivered side l (g ∷ past) h =
    ap (λ (told : List Record). delivered side l past ++ ups_in side l told) h.0.leaves_none
    ∙ append-nil (delivered side l past) ∙ early_delivered side l past h.1

-- ---- group by group

abbrev group : ℕ → Line → List Record → Group
group number line events = record { number = number; line = line; events = events }

none_is : (x : BearerConfig) → None ≡ Some x → ⊥
none_is x e = cc

begins_told : (first l number : ℕ) (from : Side) (config : BearerConfig) (options : _) (events : List Record)
    (past : List Group) → (config.channel.lcid == l) ≡ true → AllByRecursion IsEarly past
    → GroupWaits from l first (group number (lines.Bearer config options) events) past
    → SdusTold first l from (group number (lines.Bearer config options) events ∷ past)
begins_told first l number from config options events past here early waits =
    let g : Group = group number (lines.Bearer config options) events in
    let since : since_bearer l (group number (lines.Bearer config options) events ∷ past)
    ≡ group number (lines.Bearer config options) events ∷ [] =
    ap (λ (b : Bool). group number (lines.Bearer config options) events
    ∷ (if b then [] else since_bearer l past)) here in
    let none = subst (λ (xs : List (Option ℕ)). SdusAgree first [] xs (submitted from l past))
    (sym (early_left from l past early))
    (subst (λ (xs : Sdus). SdusAgree first [] [] xs) (sym (early_submitted from l past early)) (none_agree first)) in
    record {
      agree = subst (λ (gs : List Group). SdusAgree first (sdus_told from l gs) (left_by from l (g ∷ past))
          (submitted from l (g ∷ past))) (sym since)
          (group_agrees first l from g past [] waits none);
      ups =
          ap (delivered (other from) l) since
          ∙ ap (λ (xs : Sdus). xs ++ ups_in (other from) l events) (sym (early_delivered (other from) l past early));
    }

goes_told : (first l number : ℕ) (from : Side) (line : Line) (events : List Record) (past : List Group)
    → begins_on line l ≡ false → SdusTold first l from past
    → GroupWaits from l first (group number line events) past
    → SdusTold first l from (group number line events ∷ past)
goes_told first l number from line events past apart h waits =
    let g : Group = group number line events in
    let since : since_bearer l (group number line events ∷ past) ≡ group number line events ∷ since_bearer l past =
    ap (λ (b : Bool). group number line events ∷ (if b then [] else since_bearer l past)) apart in
    record {
      agree = subst (λ (gs : List Group). SdusAgree first (sdus_told from l gs) (left_by from l (g ∷ past))
          (submitted from l (g ∷ past))) (sym since)
          (group_agrees first l from g past (sdus_told from l (since_bearer l past)) waits h.agree);
      ups =
          ap (delivered (other from) l) since
          ∙ ap (λ (xs : Sdus). xs ++ ups_in (other from) l events) h.ups;
    }

abbrev Tells : ℕ → Side → List Group → Type 0
Tells l from past =
    (config : BearerConfig) → config_of l past ≡ Some config → config.kind ≡ Am → SdusTold config.first l from past

abbrev Waiting : ℕ → Side → Group → List Group → Type 0
Waiting l from g past =
    (config : BearerConfig) → config_of l (g ∷ past) ≡ Some config → config.kind ≡ Am
    → GroupWaits from l config.first g past

some_same : (c config : BearerConfig) → Some c ≡ Some config → c ≡ config
some_same c config e = cc

bearer_told : (l number : ℕ) (from : Side) (c : BearerConfig) (options : _) (events : List Record)
    (past : List Group) → IsFirst c.channel.lcid past
    → Waiting l from (group number (lines.Bearer c options) events) past → Tells l from past
    → Tells l from (group number (lines.Bearer c options) events ∷ past)
bearer_told l number from c options events past early waits h config is kind = by (c.channel.lcid == l) refl is
  where
    by : (b : Bool) → (c.channel.lcid == l) ≡ b → (if b then Some c else config_of l past) ≡ Some config
        → SdusTold config.first l from (group number (lines.Bearer c options) events ∷ past)
    by true e known =
        begins_told config.first l number from c options events past e early.early (waits config is kind)
    by false e known =
        goes_told config.first l number from (lines.Bearer c options) events past e (h config known kind)
        (waits config is kind)

group_told : (l number : ℕ) (from : Side) (line : Line) (events : List Record) (past : List Group)
    → BeginsFirst line past → Waiting l from (group number line events) past → Tells l from past
    → Tells l from (group number line events ∷ past)
group_told l number from (lines.Bearer c options) events past early waits h =
    bearer_told l number from c options events past early waits h
group_told l number from line events past early waits h =
    λ config is kind. goes_told config.first l number from line events past refl (h config is kind)
    (waits config is kind)

pub sdus_are_told : (l : ℕ) (from : Side) (past : List Group) → BearersBeginFirst past → SdusWait past
    → Tells l from past
sdus_are_told l from [] early waits = λ config is kind. absurd (none_is config is)
sdus_are_told l from (g ∷ past) early waits =
    group_told l g.number from g.line g.events past early.0 (λ config is kind. waits.0 from l config is kind)
    (sdus_are_told l from past early.1 waits.1)
