-- How many SDUs wait at a side of a channel whose bearer is of another kind than acknowledged data: behind records it
-- is what was before, less what its end tells that it takes or discards, and what the test loop submits.
use Rattle.std.proofs.Common.{◌≡◌, ◌⊎◌, inl, inr, ℕ, ◌+◌, ◌-◌, ◌≤◌, ◌==◌, Bool, true, false, not, ◌&&◌, if◌then◌else◌}
use Rattle.std.proofs.Common.{List, [], ◌∷◌, ◌++◌, map, length, Option, None, append-nil, append_assoc, refl, ap, sym}
use Rattle.std.proofs.Common.{◌∙◌, arith}
use Rattle.std.specs.List.{filter}
use Rattle.air_record.specs.declared.record.Record.{Record}
use Rattle.air_record.specs.declared.record.Record.TheVariants as records
use Rattle.air_record.specs.declared.submission.Submission.{Submission}
use Rattle.air_record.specs.Submissions.{submitted_by, unrefused}
use Rattle.air_text.specs.Groups.{Group}
use Rattle.bearer_types.specs.Sides.{is_same}
use Rattle.bearer_types.specs.declared.event.Event.{Event}
use Rattle.bearer_types.specs.declared.event.Event.TheVariants as events
use Rattle.l2_types.specs.declared.event.Lost.TheVariants as losts
use Rattle.l2_types.specs.declared.side.Side.{Side}
use Rattle.l2_types.specs.declared.side.Side.TheVariants.{Nb, Ue}
use Rattle.promises.specs.Events.{is_on, is_of_loop, told_on}
use Rattle.promises.specs.Flows.{looped_at}
use Rattle.promises.specs.Records.{events_of, is_looped, sdu_of}
use Rattle.law_given.specs.BearerRecords.{waits_first, waits_before}
use Rattle.law_given.specs.OneBearer.{waits_submits, waits_happens, waits_told}
use Rattle.law_given.proofs.BearerRecordsWaits.{waits_by_records}
use Rattle.law_given.proofs.GivenRecords.{left_none}

-- ---- SDUs that events take or discard

abbrev pub leaves : Event → ℕ
leaves (events.Take lcid count len) = 1
leaves (events.Discard lcid len) = 1
leaves event = 0

abbrev pub left_by_events : List Event → ℕ
left_by_events [] = 0
left_by_events (event ∷ told) = leaves event + left_by_events told

-- ---- an event

less_none : (n : ℕ) (here : Bool) → n ≡ n - (if here then 0 else 0)
less_none n true = omega arith
less_none n false = omega arith

less_one : (n : ℕ) (here : Bool) → (if here then n - 1 else n) ≡ n - (if here then 1 else 0)
less_one n true = refl
less_one n false = omega arith

own_leaves : (l : ℕ) (side : Side) (e : Event) (n : ℕ)
    → waits_happens side l side e n ≡ n - (if is_on l e then leaves e else 0)
own_leaves l Nb (events.Take lcid count len) n = less_one n (lcid == l)
own_leaves l Ue (events.Take lcid count len) n = less_one n (lcid == l)
own_leaves l Nb (events.Discard lcid len) n = less_one n (lcid == l)
own_leaves l Ue (events.Discard lcid len) n = less_one n (lcid == l)
own_leaves l side e n = less_none n (is_on l e)

-- what the loop drops is none of an end
loop_leaves : (l : ℕ) (side own : Side) (e : Event) (n : ℕ) → is_of_loop e ≡ true → waits_happens side l own e n ≡ n
loop_leaves l side own (events.Drop lcid losts.Loop) n loop = refl
loop_leaves l side own e n loop = absurd cc

pub first_leaves : (l : ℕ) (e : Event) (here : Bool) (es : List Event)
    → left_by_events (if here then e ∷ es else es) ≡ (if here then leaves e else 0) + left_by_events es
first_leaves l e true es = refl
first_leaves l e false es = omega arith

own_first : (l : ℕ) (side : Side) (e : Event) (n : ℕ) (es : List Event)
    → waits_happens side l side e n - left_by_events (told_on l es) ≡ n - left_by_events (told_on l (e ∷ es))
own_first l side e n es =
    let own = own_leaves l side e n in
    let both = first_leaves l e (is_on l e) (told_on l es) in
    omega (arith, own, both)

own_untold : (l : ℕ) (side : Side) (e : Event) (n : ℕ) (es : List Event) → told_on l (e ∷ es) ≡ []
    → (waits_happens side l side e n ≡ n) × (told_on l es ≡ [])
own_untold l side e n es none = by (is_on l e) (own_leaves l side e n) none
  where
    by : (here : Bool) → waits_happens side l side e n ≡ n - (if here then leaves e else 0)
        → (if here then e ∷ told_on l es else told_on l es) ≡ []
        → (waits_happens side l side e n ≡ n) × (told_on l es ≡ [])
    by true own none = absurd cc
    by false own none = (omega (arith, own), none)

-- ---- records

-- behind them, where so many waited
abbrev pub waits_all : Side → ℕ → List Record → ℕ → ℕ
waits_all side l [] n = n
waits_all side l (one ∷ xs) n = waits_all side l xs (waits_told side l one n)

far_event : (l : ℕ) (e : Event) (n : ℕ) → (waits_happens Nb l Ue e n ≡ n) × (waits_happens Ue l Nb e n ≡ n)
far_event l (events.Take lcid count len) n = (refl, refl)
far_event l (events.Discard lcid len) n = (refl, refl)
far_event l e n = (refl, refl)

-- of an event of an end, for a side
event_leaves : (l : ℕ) (side own : Side) (e : Event) (loop : Bool) → is_of_loop e ≡ loop → (n : ℕ) (es : List Event)
    → waits_happens side l own e n - left_by_events (told_on l es)
    ≡ n - left_by_events (told_on l ((if is_same side own && not loop then e ∷ [] else []) ++ es))
event_leaves l Nb Nb e true is n es =
    ap (λ (m : ℕ). m - left_by_events (told_on l es)) (loop_leaves l Nb Nb e n is)
event_leaves l Nb Ue e true is n es =
    ap (λ (m : ℕ). m - left_by_events (told_on l es)) (loop_leaves l Nb Ue e n is)
event_leaves l Ue Nb e true is n es =
    ap (λ (m : ℕ). m - left_by_events (told_on l es)) (loop_leaves l Ue Nb e n is)
event_leaves l Ue Ue e true is n es =
    ap (λ (m : ℕ). m - left_by_events (told_on l es)) (loop_leaves l Ue Ue e n is)
event_leaves l Nb Nb e false is n es = own_first l Nb e n es
event_leaves l Ue Ue e false is n es = own_first l Ue e n es
event_leaves l Nb Ue e false is n es =
    ap (λ (m : ℕ). m - left_by_events (told_on l es)) (far_event l e n).0
event_leaves l Ue Nb e false is n es =
    ap (λ (m : ℕ). m - left_by_events (told_on l es)) (far_event l e n).1

event_untold : (l : ℕ) (side own : Side) (e : Event) (loop : Bool) → is_of_loop e ≡ loop → (n : ℕ) (es : List Event)
    → told_on l ((if is_same side own && not loop then e ∷ [] else []) ++ es) ≡ []
    → (waits_happens side l own e n ≡ n) × (told_on l es ≡ [])
event_untold l Nb Nb e true is n es none = (loop_leaves l Nb Nb e n is, none)
event_untold l Nb Ue e true is n es none = (loop_leaves l Nb Ue e n is, none)
event_untold l Ue Nb e true is n es none = (loop_leaves l Ue Nb e n is, none)
event_untold l Ue Ue e true is n es none = (loop_leaves l Ue Ue e n is, none)
event_untold l Nb Nb e false is n es none = own_untold l Nb e n es none
event_untold l Ue Ue e false is n es none = own_untold l Ue e n es none
event_untold l Nb Ue e false is n es none = ((far_event l e n).0, none)
event_untold l Ue Nb e false is n es none = ((far_event l e n).1, none)

loop_more : (here : Bool) (lcid : ℕ) (octets : List ℕ) (xs : List Record) (n : ℕ)
    → (if here then n + 1 else n) + length (map sdu_of xs)
    ≡ n + length (map sdu_of (if here then records.Looped lcid octets ∷ xs else xs))
loop_more true lcid octets xs n = omega arith
loop_more false lcid octets xs n = refl

loop_none : (here : Bool) (lcid : ℕ) (octets : List ℕ) (xs : List Record) (n : ℕ)
    → map sdu_of (if here then records.Looped lcid octets ∷ xs else xs) ≡ []
    → ((if here then n + 1 else n) ≡ n) × (map sdu_of xs ≡ [])
loop_none true lcid octets xs n none = absurd cc
loop_none false lcid octets xs n none = (refl, none)

-- where the test loop submits nothing on the channel
loopless : (l : ℕ) (side : Side) (xs : List Record) (n : ℕ) → looped_at side l xs ≡ []
    → waits_all side l xs n ≡ n - left_by_events (told_on l (events_of side xs))
loopless l side [] n none = omega arith
loopless l side (records.Of own e ∷ xs) n none =
    loopless l side xs (waits_happens side l own e n) (by side none)
    ∙ event_leaves l side own e (is_of_loop e) refl n (events_of side xs)
  where
    by : (side : Side) → looped_at side l (records.Of own e ∷ xs) ≡ [] → looped_at side l xs ≡ []
    by Nb none = none
    by Ue none = none
loopless l Nb (records.Looped lcid octets ∷ xs) n none = loopless l Nb xs n none
loopless l Ue (records.Looped lcid octets ∷ xs) n none =
    let h = loop_none (lcid == l) lcid octets (filter (is_looped l) xs) n none in
    ap (waits_all Ue l xs) h.0 ∙ loopless l Ue xs n h.1
loopless l Nb (one ∷ xs) n none = loopless l Nb xs n none
loopless l Ue (one ∷ xs) n none = loopless l Ue xs n none

-- where nothing is told of the channel
untold : (l : ℕ) (side : Side) (xs : List Record) (n : ℕ) → told_on l (events_of side xs) ≡ []
    → waits_all side l xs n ≡ n + length (looped_at side l xs)
untold l Nb [] n none = omega arith
untold l Ue [] n none = omega arith
untold l side (records.Of own e ∷ xs) n none =
    let h = event_untold l side own e (is_of_loop e) refl n (events_of side xs) none in
    ap (waits_all side l xs) h.0 ∙ untold l side xs n h.1 ∙ by side
  where
    by : (side : Side) → n + length (looped_at side l xs) ≡ n + length (looped_at side l (records.Of own e ∷ xs))
    by Nb = refl
    by Ue = refl
untold l Nb (records.Looped lcid octets ∷ xs) n none = untold l Nb xs n none
untold l Ue (records.Looped lcid octets ∷ xs) n none =
    untold l Ue xs (if lcid == l then n + 1 else n) none
    ∙ loop_more (lcid == l) lcid octets (filter (is_looped l) xs) n
untold l Nb (one ∷ xs) n none = untold l Nb xs n none
untold l Ue (one ∷ xs) n none = untold l Ue xs n none

-- ---- behind the first records of a group

module _ (l : ℕ) (low : l ≤ 10) (newer : List Group) (now : Group) (past : List Group)
    (none : submitted_by now.line ≡ None) where
  pub waits_before_is : (side : Side) (told : List Record) (one : Record)
      → waits_before side l now past told one ≡ waits_first side l now past told
  waits_before_is side told one =
      ap (λ (sdu : Option Submission). waits_submits side l (unrefused one sdu) (waits_first side l now past told))
      (left_none l low newer now past none told)

  goes_all : (side : Side) (xs told : List Record)
      → waits_first side l now past (told ++ xs) ≡ waits_all side l xs (waits_first side l now past told)
  goes_all side [] told = ap (waits_first side l now past) (append-nil told)
  goes_all side (one ∷ xs) told =
      ap (waits_first side l now past) (sym (append_assoc told (one ∷ []) xs))
      ∙ goes_all side xs (told ++ one ∷ [])
      ∙ ap (waits_all side l xs)
      ((waits_by_records side l now past low).goes told one
      ∙ ap (waits_told side l one) (waits_before_is side told one))

  -- so many events leave the queue, or so many SDUs are submitted by the test loop
  pub waits_gather : (side : Side) (told xs : List Record) (es : List Event) (n : ℕ)
      → told_on l (events_of side xs) ≡ es → (looped_at side l xs ≡ []) ⊎ (es ≡ [])
      → waits_first side l now past told ≡ n
      → waits_first side l now past (told ++ xs) ≡ (n + length (looped_at side l xs)) - left_by_events es
  waits_gather side told xs es n are (inl loops) is =
      let gone = goes_all side xs told ∙ ap (waits_all side l xs) is
      ∙ loopless l side xs n loops ∙ ap (λ (zs : List Event). n - left_by_events zs) are in
      let few = ap (length {A = List ℕ}) loops in
      omega (arith, gone, few)
  waits_gather side told xs es n are (inr quiet) is =
      let come = goes_all side xs told ∙ ap (waits_all side l xs) is ∙ untold l side xs n (are ∙ quiet) in
      let few = ap left_by_events quiet in
      omega (arith, come, few)
