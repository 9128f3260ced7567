-- One direction of one channel, as a group goes by.
use Rattle.std.proofs.Common.{◌≡◌, ℕ, ◌-◌, ◌≤◌, Bool, true, false, List, [], ◌∷◌, ◌++◌}
use Rattle.std.proofs.Common.{take, Option, Some, None, inl, refl, ap, sym, ◌∙◌, arith, if◌then◌else◌}
use Rattle.std.proofs.Common.{append-nil}
use Rattle.std.specs.Prelude.{◌&&◌, ◌==◌, not, map, MatchOption}
use Rattle.l2_types.specs.declared.side.Side.{Side}
use Rattle.bearer_types.specs.declared.config.BearerConfig.{BearerConfig}
use Rattle.bearer_types.specs.Sides.{is_same, other}
use Rattle.air_record.specs.declared.line.Line.{Line}
use Rattle.air_record.specs.declared.line.Line.TheVariants as lines
use Rattle.air_record.specs.declared.record.Record.{Record}
use Rattle.air_text.specs.Groups.{Group}
use Rattle.promises.specs.Flows.{is_refused_at_once, handed_in, delivered}
use Rattle.promises.specs.Parts.{part_of_line}
use Rattle.journal_flows.specs.Laws.{bearer_by, begins_on}
use Rattle.journal_takes.specs.TakeEvents.{TakeEvent, SduSubmitted, next_new, kept}
use Rattle.journal_delivered.specs.RightDelivery.{is_acked_data, first_by, since_bearer, sdus_told}
use Rattle.journal_delivered.specs.DeliveryChecking.{AwaitedSdus, none_awaited, begun, with_sdu, with_end}
use Rattle.journal_delivered.proofs.Lists.{Sdus}
use Rattle.journal_delivered.proofs.Awaiting.{Follows}
use Rattle.journal_delivered.proofs.Ending.{Rests, Ends, end_sound, end_complete}
use Rattle.journal_delivered.proofs.Slots.{all_heard, given_by, follows_sdu, follows_records}

-- ---- between groups

pub record Holds (first : ℕ) (es : List TakeEvent) (ups : Sdus) (slot : Option AwaitedSdus) : Type 0 where
  pub kept : AwaitedSdus
  pub is : slot ≡ Some kept
  pub rests : Rests first es ups kept

-- where there is no such bearer nothing is kept
abbrev pub Stands : Option ℕ → List TakeEvent → Sdus → Option AwaitedSdus → Type 0
Stands first es ups slot = MatchOption first (slot ≡ None) (λ first. Holds first es ups slot)

-- ---- the line of a group

-- what a bearer's line leaves
abbrev pub placed_by : ℕ → Line → Option AwaitedSdus → Option AwaitedSdus
placed_by l (lines.Bearer config options) slot = if config.channel.lcid == l then begun config else slot
placed_by l line slot = slot

rests_first : (first : ℕ) → Rests first [] [] (none_awaited first)
rests_first first = record {
  right = refl;
  early = refl;
  awaits = record {
    kept_is = refl;
    low_is = omega arith;
    next_is = refl;
    few = omega arith;
    full = λ more. absurd (omega (arith, more));
  };
}

begun_stands : (config : BearerConfig) → Stands (first_by (Some config)) [] [] (begun config)
begun_stands config = by (is_acked_data config.kind)
  where
    by : (b : Bool) → Stands (if b then Some config.first else None) [] []
        (if b then Some (none_awaited config.first) else None)
    by true = record { kept = none_awaited config.first; is = refl; rests = rests_first config.first }
    by false = refl

pub line_stands : (from : Side) (l : ℕ) (line : Line) (before : Option BearerConfig) (past : List Group)
    (slot : Option AwaitedSdus)
    → Stands (first_by before) (sdus_told from l (since_bearer l past)) (delivered (other from) l (since_bearer l past))
    slot
    → Stands (first_by (bearer_by line l before))
    (sdus_told from l (if begins_on line l then [] else since_bearer l past))
    (delivered (other from) l (if begins_on line l then [] else since_bearer l past)) (placed_by l line slot)
line_stands from l (lines.Bearer config options) before past slot h = by (config.channel.lcid == l)
  where
    by : (b : Bool) → Stands (first_by (if b then Some config else before))
        (sdus_told from l (if b then [] else since_bearer l past))
        (delivered (other from) l (if b then [] else since_bearer l past)) (if b then begun config else slot)
    by true = begun_stands config
    by false = h
line_stands from l line before past slot h = h

rests_follow : (first : ℕ) (es : List TakeEvent) (ups : Sdus) (a : AwaitedSdus) → Rests first es ups a
    → Follows first es ups a
rests_follow first es ups a r = record {
  done = ups;
  ups_are = sym (ap (λ (xs : Sdus). ups ++ xs) r.early ∙ append-nil ups);
  judged = inl (r.right, r.awaits);
}

-- ---- a group

-- the SDU of its line
abbrev pub own_sdu : Side → ℕ → Line → List Record → List TakeEvent
own_sdu from l line told = map SduSubmitted (handed_in from l (part_of_line line) told)

follows_own : (from : Side) (l first : ℕ) (line : Line) (told : List Record) (es : List TakeEvent) (ups : Sdus)
    (a : AwaitedSdus) → Follows first es ups a
    → Follows first (own_sdu from l line told ++ es) ups (given_by from l line told a)
follows_own from l first (lines.Submit side lcid octets) told es ups a f =
    by (is_same side from && (not (is_refused_at_once side lcid told) && (lcid == l)))
  where
    by : (b : Bool) → Follows first (map SduSubmitted (if b then octets ∷ [] else []) ++ es) ups
        (if b then with_sdu octets a else a)
    by true = follows_sdu first es ups octets a f
    by false = f
follows_own from l first (lines.Tti up_grant up down_grant down) told es ups a f = f
follows_own from l first (lines.Drain grant) told es ups a f = f
follows_own from l first line told es ups a f = f

-- what is kept behind its records
abbrev pub left_by : Side → ℕ → Group → AwaitedSdus → AwaitedSdus
left_by from l now a = all_heard from l now.events (given_by from l now.line now.events a)

follows_group : (from : Side) (l first : ℕ) (now : Group) (before : List Group) (a : AwaitedSdus)
    → Rests first (sdus_told from l before) (delivered (other from) l before) a
    → Follows first (sdus_told from l (now ∷ before)) (delivered (other from) l (now ∷ before)) (left_by from l now a)
follows_group from l first now before a r =
    let es = sdus_told from l before in
    let ups = delivered (other from) l before in
    follows_records from l first now.events (own_sdu from l now.line now.events ++ es) ups
    (given_by from l now.line now.events a)
    (follows_own from l first now.line now.events es ups a (rests_follow first es ups a r))

pub group_sound : (from : Side) (l : ℕ) (now : Group) (before : List Group) (first came : ℕ) (a : AwaitedSdus)
    → Rests first (sdus_told from l before) (delivered (other from) l before) a
    → came ≤ next_new first (sdus_told from l (now ∷ before)) → (with_end came (left_by from l now a)).right ≡ true
    → Ends first came (sdus_told from l (now ∷ before)) (delivered (other from) l (now ∷ before))
    (with_end came (left_by from l now a))
group_sound from l now before first came a r low right =
    end_sound first came (sdus_told from l (now ∷ before)) (delivered (other from) l (now ∷ before))
    (left_by from l now a) low (follows_group from l first now before a r) right

pub group_complete : (from : Side) (l : ℕ) (now : Group) (before : List Group) (first came : ℕ) (a : AwaitedSdus)
    → Rests first (sdus_told from l before) (delivered (other from) l before) a → first ≤ came
    → came ≤ next_new first (sdus_told from l (now ∷ before))
    → delivered (other from) l (now ∷ before) ≡ take (came - first) (kept first (sdus_told from l (now ∷ before)))
    → (with_end came (left_by from l now a)).right ≡ true
group_complete from l now before first came a r high low e =
    end_complete first came (sdus_told from l (now ∷ before)) (delivered (other from) l (now ∷ before))
    (left_by from l now a) high low (follows_group from l first now before a r) e
