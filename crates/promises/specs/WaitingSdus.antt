-- The SDUs of acknowledged data that RLC takes, and those that are discarded, wait as they leave
-- their queue: one that is taken for the first time, or discarded, was submitted before, and none
-- is taken ahead of its turn (TS 36.323 5.1.1, 5.4).
use Rattle.std.specs.Prelude.{ℕ, ◌≡◌, ◌+◌, ◌<◌, ◌≤◌, List, [], ◌∷◌, ◌++◌, length}
use Rattle.std.specs.Prelude.{Option, Some, None}
use Rattle.std.specs.List.{filter, flat_map}
use Rattle.l2_types.specs.declared.channel.Kind.TheVariants.{Am}
use Rattle.l2_types.specs.declared.side.Side.{Side}
use Rattle.bearer_types.specs.declared.config.BearerConfig.{BearerConfig}
use Rattle.air_record.specs.declared.record.Record.{Record}
use Rattle.air_text.specs.Groups.{Group}
use Rattle.promises.specs.Configs.{config_of}
use Rattle.promises.specs.Flows.{handed_in, looped_at}
use Rattle.promises.specs.Parts.{part_of_line}
use Rattle.promises.specs.Records.{event_of}
use Rattle.promises.specs.Taken.{leaving_in, were_taken}

-- of a side on a channel: how the SDUs that left its queue are told of, and how many were submitted
pub record Queue : Type 0 where
  pub leaving : List (Option ℕ)
  pub submitted : ℕ

-- ---- an SDU leaves the queue of a bearer with its first COUNT

abbrev pub next_count : ℕ → Queue → ℕ
next_count first q = first + length (filter (λ taken. taken) (were_taken first q.leaving))

-- one more waits
abbrev pub Waits : ℕ → Queue → Type 0
Waits first q = length (were_taken first q.leaving) < q.submitted

abbrev pub MayLeave : ℕ → Queue → Option ℕ → Type 0
MayLeave first q None = Waits first q
MayLeave first q (Some count) =
    (count ≤ next_count first q) × (count ≡ next_count first q → Waits first q)

abbrev pub with_left : Option ℕ → Queue → Queue
with_left one q = record { leaving = q.leaving ++ one ∷ []; submitted = q.submitted }

abbrev pub AllMayLeave : ℕ → List (Option ℕ) → Queue → Type 0
AllMayLeave first [] q = Unit {0}
AllMayLeave first (one ∷ ones) q =
    MayLeave first q one × AllMayLeave first ones (with_left one q)

-- ---- record by record

abbrev pub left_by : Side → ℕ → Record → List (Option ℕ)
left_by from lcid one = flat_map (leaving_in lcid) (event_of from one)

abbrev pub after_record : Side → ℕ → Record → Queue → Queue
after_record from lcid one q = record {
  leaving = q.leaving ++ left_by from lcid one;
  submitted = q.submitted + length (looped_at from lcid (one ∷ []));
}

abbrev pub after_records : Side → ℕ → List Record → Queue → Queue
after_records from lcid [] q = q
after_records from lcid (one ∷ told) q = after_records from lcid told (after_record from lcid one q)

abbrev pub EachMayLeave : Side → ℕ → ℕ → List Record → Queue → Type 0
EachMayLeave from lcid first [] q = Unit {0}
EachMayLeave from lcid first (one ∷ told) q =
    AllMayLeave first (left_by from lcid one) q
    × EachMayLeave from lcid first told (after_record from lcid one q)

-- ---- behind groups, of which the newest stands first

-- as a group begins, with the SDU of its line
abbrev pub with_line : Side → ℕ → Group → Queue → Queue
with_line from lcid g q = record {
  leaving = q.leaving;
  submitted = q.submitted + length (handed_in from lcid (part_of_line g.line) g.events);
}

abbrev pub queue : Side → ℕ → List Group → Queue
queue from lcid [] = record { leaving = []; submitted = 0 }
queue from lcid (g ∷ past) =
    after_records from lcid g.events (with_line from lcid g (queue from lcid past))

-- on each channel with an acknowledged data bearer
abbrev pub SdusWait : List Group → Type 0
SdusWait [] = Unit {0}
SdusWait (g ∷ past) =
    ((from : Side) (lcid : ℕ) (config : BearerConfig) → config_of lcid (g ∷ past) ≡ Some config
    → config.kind ≡ Am
    → EachMayLeave from lcid config.first g.events (with_line from lcid g (queue from lcid past)))
    × SdusWait past
