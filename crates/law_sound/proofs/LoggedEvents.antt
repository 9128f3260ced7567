-- The events that records tell of a side's end are those that they log of it, and no block comes, or is built anew,
-- where none is logged.
use Rattle.std.proofs.Common.{◌≡◌, Bool, true, false, not, ◌&&◌, if◌then◌else◌, List, [], ◌∷◌, ◌++◌}
use Rattle.std.proofs.Common.{append_assoc, refl, ap, sym, subst, ◌∙◌}
use Rattle.std.specs.List.{AllByRecursion}
use Rattle.air_record.specs.declared.record.Arrived.TheVariants.{Got}
use Rattle.air_record.specs.declared.record.Record.{Record}
use Rattle.air_record.specs.declared.record.Record.TheVariants as records
use Rattle.bearer_types.specs.Sides.{other, is_same}
use Rattle.bearer_types.specs.declared.event.Event.{Event}
use Rattle.l2_types.specs.declared.side.Side.{Side}
use Rattle.l2_types.specs.declared.side.Side.TheVariants.{Nb, Ue}
use Rattle.promises.specs.Events.{is_of_loop}
use Rattle.promises.specs.Records.{events_of, event_of, is_got}
use Rattle.law_deliver.proofs.AmFlow.Carrying.{front, rest}
use Rattle.law_given.proofs.GivenRecords.{BringsNoBlock}
use Rattle.law_run.specs.TwoEnds.Logs.{LogEntry, Tells, Builds, Hears, Flight, flight_behind, logged_at, logged}
use Rattle.law_run.specs.TwoEnds.Logs.{all_tell}
use Rattle.law_sound.specs.NamedSteps.{SendsNoNewBlock}

-- ---- of a log

abbrev pub event_in : Side → LogEntry → List Event
event_in side (Tells own event) = if is_same side own then event ∷ [] else []
event_in side (Builds own process octets) = []
event_in side (Hears own process octets) = []

abbrev pub events_in : Side → List LogEntry → List Event
events_in side [] = []
events_in side (x ∷ log) = event_in side x ++ events_in side log

pub events_then : (side : Side) (xs ys : List LogEntry)
    → events_in side (xs ++ ys) ≡ events_in side xs ++ events_in side ys
events_then side [] ys = refl
events_then side (x ∷ xs) ys =
    ap (λ (es : List Event). event_in side x ++ es) (events_then side xs ys)
    ∙ sym (append_assoc (event_in side x) (events_in side xs) (events_in side ys))

pub own_told : (side : Side) (es : List Event) → events_in side (all_tell side es) ≡ es
own_told side [] = refl
own_told Nb (e ∷ es) = ap (λ (zs : List Event). e ∷ zs) (own_told Nb es)
own_told Ue (e ∷ es) = ap (λ (zs : List Event). e ∷ zs) (own_told Ue es)

pub far_told : (side : Side) (es : List Event) → events_in (other side) (all_tell side es) ≡ []
far_told side [] = refl
far_told Nb (e ∷ es) = far_told Nb es
far_told Ue (e ∷ es) = far_told Ue es

-- ---- of records

event_logged : (side own : Side) (e : Event) (loop : Bool)
    → (if is_same side own && not loop then e ∷ [] else [])
    ≡ events_in side (if loop then [] else Tells own e ∷ [])
event_logged Nb Nb e true = refl
event_logged Nb Nb e false = refl
event_logged Nb Ue e true = refl
event_logged Nb Ue e false = refl
event_logged Ue Nb e true = refl
event_logged Ue Nb e false = refl
event_logged Ue Ue e true = refl
event_logged Ue Ue e false = refl

none_heard : (side : Side) (b : Bool) (x : LogEntry) → events_in side (x ∷ []) ≡ []
    → [] ≡ events_in side (if b then x ∷ [] else [])
none_heard side true x e = sym e
none_heard side false x e = refl

pub records_events : (side : Side) (sent : Flight) (xs : List Record)
    → events_of side xs ≡ events_in side (logged sent xs)
records_events side sent [] = refl
records_events side sent (one ∷ xs) =
    ap (λ (es : List Event). event_of side one ++ es)
    (records_events side (flight_behind one sent) xs)
    ∙ (ap (λ (es : List Event). es ++ events_in side (logged (flight_behind one sent) xs)) (by one)
    ∙ sym (events_then side (logged_at sent one) (logged (flight_behind one sent) xs)))
  where
    by : (one : Record) → event_of side one ≡ events_in side (logged_at sent one)
    by (records.Of own e) = event_logged side own e (is_of_loop e)
    by (records.Block direction process true version octets) = refl
    by (records.Block direction process false version octets) = refl
    by (records.Air direction what heard) = none_heard side (is_got what) _ refl
    by one = refl

-- ---- each record is as what it logs

pub as_logged : (Entry : LogEntry → Type 0) (Of : Record → Type 0)
    → ((sent : Flight) (one : Record) → AllByRecursion Entry (logged_at sent one) → Of one)
    → (sent : Flight) (xs : List Record) → AllByRecursion Entry (logged sent xs) → AllByRecursion Of xs
as_logged Entry Of by sent [] h = tt
as_logged Entry Of by sent (one ∷ xs) h =
    let now = logged_at sent one in
    let later = logged (flight_behind one sent) xs in
    (by sent one (front Entry now later h), as_logged Entry Of by (flight_behind one sent) xs (rest Entry now later h))

-- ---- no block comes

abbrev pub HearsNone : LogEntry → Type 0
HearsNone (Hears own process octets) = ⊥
HearsNone x = Unit {0}

pub tells_hear_none : (side : Side) (es : List Event) → AllByRecursion HearsNone (all_tell side es)
tells_hear_none side [] = tt
tells_hear_none side (e ∷ es) = (tt, tells_hear_none side es)

pub none_comes_in : (sent : Flight) (xs : List Record) → AllByRecursion HearsNone (logged sent xs)
    → AllByRecursion BringsNoBlock xs
none_comes_in = as_logged HearsNone BringsNoBlock (λ sent one h. by sent one h)
  where
    by : (sent : Flight) (one : Record) → AllByRecursion HearsNone (logged_at sent one) → BringsNoBlock one
    by sent (records.Air direction Got heard) h = absurd h.0
    by sent one h = tt

-- ---- no new block is built

abbrev pub IsUnbuilt : LogEntry → Type 0
IsUnbuilt (Builds own process octets) = ⊥
IsUnbuilt x = Unit {0}

pub tells_unbuilt : (side : Side) (es : List Event) → AllByRecursion IsUnbuilt (all_tell side es)
tells_unbuilt side [] = tt
tells_unbuilt side (e ∷ es) = (tt, tells_unbuilt side es)

pub none_sent_anew : (sent : Flight) (xs : List Record) → AllByRecursion IsUnbuilt (logged sent xs)
    → AllByRecursion SendsNoNewBlock xs
none_sent_anew = as_logged IsUnbuilt SendsNoNewBlock (λ sent one h. by sent one h)
  where
    by : (sent : Flight) (one : Record) → AllByRecursion IsUnbuilt (logged_at sent one) → SendsNoNewBlock one
    by sent (records.Block direction process true version octets) h = absurd h.0
    by sent one h = tt

-- of records that log nothing
pub none_sent : (sent : Flight) (xs : List Record) → logged sent xs ≡ [] → AllByRecursion SendsNoNewBlock xs
none_sent sent xs logs = none_sent_anew sent xs (subst (AllByRecursion IsUnbuilt) (sym logs) tt)
