-- When what a journal hands up of acknowledged data is right, whoever made it
-- (docs/formats/JOURNAL.md): behind each group these are exactly the SDUs of the COUNTs that have
-- come, in order and each once (TS 36.322 5.1.3, TS 36.323 5.1.2.1.2, 5.2, 5.4).
use Rattle.std.specs.Prelude.{ℕ, ◌-◌, ◌==◌, ◌≤◌, ◌≡◌, Bool, true, false, if◌then◌else◌, List, []}
use Rattle.std.specs.Prelude.{◌∷◌, ◌++◌, map, take, Option, Some, None, MatchOption}
use Rattle.l2_num.specs.Least.{IsLeast}
use Rattle.l2_types.specs.declared.channel.Kind.{Kind}
use Rattle.l2_types.specs.declared.channel.Kind.TheVariants as bearers
use Rattle.l2_types.specs.declared.side.Side.{Side}
use Rattle.l2_types.specs.declared.side.Side.TheVariants.{Ue}
use Rattle.bearer_types.specs.declared.config.BearerConfig.{BearerConfig}
use Rattle.bearer_types.specs.declared.event.Event.{Event}
use Rattle.bearer_types.specs.declared.event.Event.TheVariants.{Take, Discard}
use Rattle.bearer_types.specs.Sides.{other, is_same}
use Rattle.air_record.specs.declared.record.Record.{Record}
use Rattle.air_record.specs.declared.record.Record.TheVariants as records
use Rattle.air_text.specs.Groups.{Group}
use Rattle.promises.specs.Flows.{handed_in, delivered}
use Rattle.promises.specs.Parts.{part_of_line}
use Rattle.journal_lives.specs.LifeEvents.{LifeEvent, count_came}
use Rattle.journal_takes.specs.TakeEvents.{TakeEvent, SduSubmitted, SduDiscarded, PduTaken, kept}
use Rattle.journal_flows.specs.Gathering.{MayTake}
use Rattle.journal_flows.specs.FlowsTold.{flows_told}
use Rattle.journal_flows.specs.Laws.{bearer_on, begins_on}

-- ---- a bearer

-- its first COUNT, where it has acknowledged data
abbrev pub is_acked_data : Kind → Bool
is_acked_data bearers.Tm = false
is_acked_data bearers.Srb = false
is_acked_data bearers.Um = false
is_acked_data bearers.Am = true

abbrev pub first_by : Option BearerConfig → Option ℕ
first_by None = None
first_by (Some config) = if is_acked_data config.kind then Some config.first else None

-- the groups from its line on; a channel has one such line
abbrev pub since_bearer : ℕ → List Group → List Group
since_bearer lcid [] = []
since_bearer lcid (g ∷ past) = g ∷ (if begins_on g.line lcid then [] else since_bearer lcid past)

-- ---- what is told of the SDUs of a side that sends, on a channel: the latest event first

-- by `take` records with a COUNT, by `discard` records, and at the terminal by `loop` records
abbrev pub event_tells : ℕ → Event → List TakeEvent
event_tells lcid (Take l (Some count) len) = if l == lcid then PduTaken count ∷ [] else []
event_tells lcid (Discard l len) = if l == lcid then SduDiscarded ∷ [] else []
event_tells lcid event = []

abbrev pub record_tells : Side → ℕ → Record → List TakeEvent
record_tells from lcid (records.Of side event) =
    if is_same from side then event_tells lcid event else []
record_tells Ue lcid (records.Looped l octets) =
    if l == lcid then SduSubmitted octets ∷ [] else []
record_tells from lcid one = []

abbrev pub records_tell : Side → ℕ → List Record → List TakeEvent → List TakeEvent
records_tell from lcid [] es = es
records_tell from lcid (one ∷ told) es =
    records_tell from lcid told (record_tells from lcid one ++ es)

-- the SDU of a `submit` line is submitted with its line, before the records of its group, unless a
-- `refused` record of its side and channel stands directly behind the line; a `refused` record
-- elsewhere says nothing
abbrev pub sdus_told : Side → ℕ → List Group → List TakeEvent
sdus_told from lcid [] = []
sdus_told from lcid (g ∷ past) =
    records_tell from lcid g.events
    (map SduSubmitted (handed_in from lcid (part_of_line g.line) g.events)
    ++ sdus_told from lcid past)

-- ---- of one flow

-- by the history of its lives, and what is told of its SDUs since the bearer's line: those that
-- went up are the first m of those submitted and not discarded, where first + m is the first COUNT
-- that hasn't come
pub record IsDelivered (first : ℕ) (es : List LifeEvent) (told : List TakeEvent)
    (ups : List (List ℕ)) : Type 0 where
  pub next : ℕ
  pub next_is : IsLeast (count_came es) first next
  pub is : ups ≡ take (next - first) (kept first told)

-- ---- of a journal, behind each group

-- on a channel with acknowledged data what the other side hands up is that, and of other channels
-- nothing is said here
abbrev pub AreDelivered : MayTake → List Group → Side → ℕ → Type 0
AreDelivered may_take past from lcid =
    MatchOption (first_by (bearer_on lcid past)) (Unit {0})
    (λ first. IsDelivered first (flows_told may_take past from lcid)
    (sdus_told from lcid (since_bearer lcid past))
    (delivered (other from) lcid (since_bearer lcid past)))

-- logical channels are 0 to 10
abbrev pub DeliveredIsRight : MayTake → List Group → Type 0
DeliveredIsRight may_take [] = Unit {0}
DeliveredIsRight may_take (now ∷ past) =
    ((from : Side) (lcid : ℕ) → lcid ≤ 10 → AreDelivered may_take (now ∷ past) from lcid)
    × DeliveredIsRight may_take past
