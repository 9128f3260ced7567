-- What events make of a flow whose SDUs wait, while the PDUs of a journal are checked: the most are aside of it, among
-- them all that a bearer tells as a PDU arrives or a timer expires.
use Rattle.std.proofs.Common.{◌≡◌, ℕ, ◌==◌, Bool, true, false, if◌then◌else◌, cond, List, [], ◌∷◌, ◌++◌}
use Rattle.std.proofs.Common.{refl, ap, subst, ◌∙◌}
use Rattle.std.specs.List.{AllByRecursion, flat_map}
use Rattle.bearer.specs.declared.flow.Flow.{Flow as BearerFlow}
use Rattle.bearer_types.specs.declared.event.Event.{Event}
use Rattle.bearer_types.specs.declared.event.Event.TheVariants as events
use Rattle.l2_types.specs.declared.event.Clock.{Clock}
use Rattle.promises.specs.Events.{is_on, told_on}
use Rattle.journal_sent.specs.RightSent.{Flow}
use Rattle.law_bearer.specs.AnyBearer.Calls.{Call as BearerCall, Arrive, Expire}
use Rattle.law_bearer.proofs.AnyBearer.Between.{IsBetween}
use Rattle.law_deliver.specs.AmFlow.Ups.{tells_in}
use Rattle.law_deliver.proofs.AmFlow.Events.{OfHearing, own_told, none_arriving, none_expiring}
use Rattle.law_sound.proofs.LaterRecords.{both_nil}
use Rattle.law_sound.proofs.QueueBeside.{queue_by, queue_over, IsRightHere, AreRightHere}

-- ---- events one behind the other

pub over_then : (xs ys : List Event) (f : Flow) → queue_over (xs ++ ys) f ≡ queue_over ys (queue_over xs f)
over_then [] ys f = refl
over_then (e ∷ xs) ys f = over_then xs ys (queue_by e f)

pub right_then : (xs ys : List Event) (f : Flow) → AreRightHere xs f → AreRightHere ys (queue_over xs f)
    → AreRightHere (xs ++ ys) f
right_then [] ys f h k = k
right_then (e ∷ xs) ys f h k = (h.0, right_then xs ys (queue_by e f) h.1 k)

-- ---- events aside

abbrev pub IsAside : Event → Type 0
IsAside (events.Take lcid count len) = ⊥
IsAside (events.Report lcid fms bitmap) = ⊥
IsAside (events.Discard lcid len) = ⊥
IsAside event = Unit {0}

abbrev pub AreAside : List Event → Type 0
AreAside told = AllByRecursion IsAside told

aside_by : (e : Event) (f : Flow) → IsAside e → queue_by e f ≡ f
aside_by (events.Take lcid count len) f h = absurd h
aside_by (events.Report lcid fms bitmap) f h = absurd h
aside_by (events.Discard lcid len) f h = absurd h
aside_by e f h = refl

aside_here : (e : Event) (f : Flow) → IsAside e → IsRightHere e f
aside_here (events.Take lcid count len) f h = absurd h
aside_here (events.Report lcid fms bitmap) f h = absurd h
aside_here (events.Discard lcid len) f h = absurd h
aside_here e f h = tt

-- they leave the flow, and are right
pub aside_over : (told : List Event) (f : Flow) → AreAside told → queue_over told f ≡ f
aside_over [] f h = refl
aside_over (e ∷ told) f h = ap (queue_over told) (aside_by e f h.0) ∙ aside_over told f h.1

pub aside_right : (told : List Event) (f : Flow) → AreAside told → AreRightHere told f
aside_right [] f h = tt
aside_right (e ∷ told) f h = (aside_here e f h.0, aside_right told (queue_by e f) h.1)

-- ---- what a bearer hears

-- the events of a channel that aren't aside
abbrev touches : ℕ → Event → List Event
touches l (events.Take lcid count len) = if lcid == l then events.Take lcid count len ∷ [] else []
touches l (events.Report lcid fms bitmap) = if lcid == l then events.Report lcid fms bitmap ∷ [] else []
touches l (events.Discard lcid len) = if lcid == l then events.Discard lcid len ∷ [] else []
touches l event = []

off_touches : (l : ℕ) (e : Event) → is_on l e ≡ false → touches l e ≡ []
off_touches l (events.Take lcid count len) off =
    ap (λ (b : Bool). if b then events.Take lcid count len ∷ [] else []) off
off_touches l (events.Report lcid fms bitmap) off =
    ap (λ (b : Bool). if b then events.Report lcid fms bitmap ∷ [] else []) off
off_touches l (events.Discard lcid len) off = ap (λ (b : Bool). if b then events.Discard lcid len ∷ [] else []) off
off_touches l e off = refl

hearing : (l : ℕ) → OfHearing (λ e. touches l e ≡ []) l
hearing l = record {
  start = λ clock. refl;
  stop = λ clock. refl;
  expired = λ clock. refl;
  up = λ sdu. refl;
  fail = λ sn. refl;
  drop = λ why own. refl;
  integrity = λ found wanted. refl;
  bad_rlc = λ fault. refl;
  bad_pdcp = λ fault. refl;
}

-- an event on the channel that isn't one of these is aside
some_if : (b : Bool) (e : Event) → b ≡ true → (if b then e ∷ [] else []) ≡ [] → ⊥
some_if true e on none = let no : e ∷ [] ≡ [] = none in absurd cc
some_if false e on none = absurd cc

one_aside : (l : ℕ) (e : Event) → is_on l e ≡ true → touches l e ≡ [] → IsAside e
one_aside l (events.Take lcid count len) on none = some_if (lcid == l) (events.Take lcid count len) on none
one_aside l (events.Report lcid fms bitmap) on none = some_if (lcid == l) (events.Report lcid fms bitmap) on none
one_aside l (events.Discard lcid len) on none = some_if (lcid == l) (events.Discard lcid len) on none
one_aside l e on none = tt

all_aside : (l : ℕ) (told : List Event) → flat_map (touches l) told ≡ [] → AreAside (told_on l told)
all_aside l [] none = tt
all_aside l (e ∷ told) none =
    let parts = both_nil (touches l e) (flat_map (touches l) told) none in
    by (is_on l e) refl parts.0 (all_aside l told parts.1)
  where
    by : (b : Bool) → is_on l e ≡ b → touches l e ≡ [] → AreAside (told_on l told)
        → AreAside (cond b (e ∷ told_on l told) (told_on l told))
    by true on own rest = (one_aside l e on own, rest)
    by false on own rest = rest

own_aside : (l : ℕ) (x : BearerFlow) (c : BearerCall) → IsBetween l x → flat_map (touches l) (tells_in l x c) ≡ []
    → AreAside (tells_in l x c)
own_aside l x c k none =
    subst AreAside (own_told l l x x c refl refl k) (all_aside l (tells_in l x c) none)

pub arrivals_aside : (l : ℕ) (x : BearerFlow) (pdu : List ℕ) → IsBetween l x → AreAside (tells_in l x (Arrive pdu))
arrivals_aside l x pdu k = own_aside l x (Arrive pdu) k (none_arriving touches off_touches l x k (hearing l) pdu)

pub expiries_aside : (l : ℕ) (x : BearerFlow) (clock : Clock) → IsBetween l x → AreAside (tells_in l x (Expire clock))
expiries_aside l x clock k = own_aside l x (Expire clock) k (none_expiring touches off_touches l x k (hearing l) clock)
