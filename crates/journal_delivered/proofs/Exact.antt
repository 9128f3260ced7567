-- Group by group, the verdict is exact.
use Rattle.std.proofs.Common.{◌≡◌, ℕ, zero, suc, ◌+◌, ◌-◌, ◌<◌, ◌≤◌, Bool, true, List, [], ◌∷◌, length, take}
use Rattle.std.proofs.Common.{Option, Some, None, inl, inr, ◌↔◌, refl, ap, sym, ◌∙◌, arith, subst, if◌then◌else◌}
use Rattle.std.proofs.Common.{slice_index_or, replicate}
use Rattle.std.specs.Prelude.{IsTrue, MatchOption, ◌&&◌, ◌==◌, option_map}
use Rattle.std.proofs.lemmas.Bool.{and_parts, and_from, cases_lt, false≢true}
use Rattle.std.proofs.lemmas.List.{length-set}
use Rattle.l2_num.specs.Least.{IsLeast}
use Rattle.l2_types.specs.declared.channel.Kind.{Kind}
use Rattle.l2_types.specs.declared.channel.Kind.TheVariants as bearers
use Rattle.l2_types.specs.declared.side.Side.{Side}
use Rattle.l2_types.specs.declared.side.Side.TheVariants.{Nb, Ue}
use Rattle.bearer_types.specs.declared.config.BearerConfig.{BearerConfig}
use Rattle.bearer_types.specs.Sides.{other}
use Rattle.air_record.specs.declared.line.Line.{Line}
use Rattle.air_record.specs.declared.line.Line.TheVariants as lines
use Rattle.air_record.specs.Submissions.{submitted_by}
use Rattle.air_text.specs.Groups.{Group}
use Rattle.promises.specs.Flows.{delivered}
use Rattle.journal_lives.specs.FlowLives.{lives_of}
use Rattle.journal_lives.specs.LifeEvents.{LifeEvent, count_came, AreLives}
use Rattle.journal_lives.proofs.LivesTold.{lives_are_true}
use Rattle.journal_flows.specs.Gathering.{MayTake}
use Rattle.journal_flows.specs.FlowsTold.{flows_told}
use Rattle.journal_flows.specs.Accounts.{Keeping, is_acked_kind, all_kept}
use Rattle.journal_flows.specs.Laws.{bearer_on, account_by, begins_on}
use Rattle.journal_flows.proofs.Groups.{flows_are_told, histories_are_lives}
use Rattle.journal_takes.specs.TakeEvents.{TakeEvent, kept}
use Rattle.journal_delivered.specs.RightDelivery.{is_acked_data, first_by, since_bearer, sdus_told}
use Rattle.journal_delivered.specs.RightDelivery.{IsDelivered, DeliveredIsRight}
use Rattle.journal_delivered.specs.DeliveryChecking.{AwaitedSdus, Checking, nothing_checked, with_end, begun}
use Rattle.journal_delivered.specs.DeliveryChecking.{after_line, after_bearer, all_ended, is_right_on, all_right}
use Rattle.journal_delivered.specs.DeliveryChecking.{released, next_of, came_at, ended, after_group}
use Rattle.journal_delivered.specs.DeliveryChecking.{checked, all_checked}
use Rattle.journal_delivered.proofs.Lists.{Sdus}
use Rattle.journal_delivered.proofs.Given.{came_below}
use Rattle.journal_delivered.proofs.Slots.{slot_at, Sizes, placed, all_heard, all_told, told_sizes, told_at}
use Rattle.journal_delivered.proofs.Slots.{told_stays, left_of, releases, settles_first, given_by, released_sizes}
use Rattle.journal_delivered.proofs.Slots.{own_at}
use Rattle.journal_delivered.proofs.Flow.{Stands, placed_by, line_stands, left_by, group_sound, group_complete}

-- ---- the first COUNT that hasn't come

came_least : (bearer : Option BearerConfig) (es : List LifeEvent) (first : ℕ) → AreLives es
    → first_by bearer ≡ Some first → IsLeast (count_came es) first (next_of (account_by bearer es))
came_least None es first h e = absurd cc
came_least (Some config) es first h e = by config.kind e
  where
    by : (kind : Kind) → (if is_acked_data kind then Some config.first else None) ≡ Some first
        → IsLeast (count_came es) first (next_of (if is_acked_kind kind
        then Some (lives_of config.tx.max_retx config.first es) else None))
    by bearers.Tm f = absurd cc
    by bearers.Srb f = absurd cc
    by bearers.Um f = absurd cc
    by bearers.Am f =
        let same : config.first ≡ first = cc in
        subst (λ (n : ℕ). IsLeast (count_came es) n (lives_of config.tx.max_retx config.first es).come.next) same
        (lives_are_true config.tx.max_retx config.first es h).next

one_least : (p : ℕ → Bool) (m k l : ℕ) → IsLeast p m k → IsLeast p m l → k ≤ l
one_least p m k l g h = elim (cases_lt l k) [
  | inl lt ↦ absurd (false≢true (sym h.refused ∙ g.before l h.from lt))
  | inr le ↦ le
]

abbrev kept_at : MayTake → List Group → Side → ℕ → ℕ
kept_at may_take past side l = came_at side (all_kept may_take past) l

came_is : (may_take : MayTake) (past : List Group) (side : Side) (l first : ℕ) → l ≤ 10
    → first_by (bearer_on l past) ≡ Some first
    → IsLeast (count_came (flows_told may_take past side l)) first (kept_at may_take past side l)
came_is may_take past side l first low e =
    subst (λ (n : ℕ). IsLeast (count_came (flows_told may_take past side l)) first n)
    (sym (ap next_of (flows_are_told may_take past side l low).behind))
    (came_least (bearer_on l past) (flows_told may_take past side l) first
    (histories_are_lives may_take past side l) e)

-- ---- the line of a group

bearer_nb : (config : BearerConfig) (l : ℕ) (c : Checking) → Sizes c → l ≤ 10
    → slot_at Nb l (after_bearer config c)
    ≡ (if config.channel.lcid == l then begun config else slot_at Nb l c)
bearer_nb config l c size low = placed config.channel.lcid l (begun config) c.nb (size Nb) low

bearer_ue : (config : BearerConfig) (l : ℕ) (c : Checking) → Sizes c → l ≤ 10
    → slot_at Ue l (after_bearer config c)
    ≡ (if config.channel.lcid == l then begun config else slot_at Ue l c)
bearer_ue config l c size low = placed config.channel.lcid l (begun config) c.ue (size Ue) low

line_at : (side : Side) (line : Line) (l : ℕ) (c : Checking) → Sizes c → l ≤ 10
    → slot_at side l (after_line line c) ≡ placed_by l line (slot_at side l c)
line_at Nb (lines.Bearer config options) l c size low = bearer_nb config l c size low
line_at Ue (lines.Bearer config options) l c size low = bearer_ue config l c size low
line_at Nb line l c size low = refl
line_at Ue line l c size low = refl

line_sizes : (line : Line) (c : Checking) → Sizes c → Sizes (after_line line c)
line_sizes (lines.Bearer config options) c size Nb = length-set c.nb config.channel.lcid (begun config) ∙ size Nb
line_sizes (lines.Bearer config options) c size Ue = length-set c.ue config.channel.lcid (begun config) ∙ size Ue
line_sizes line c size Nb = size Nb
line_sizes line c size Ue = size Ue

line_right : (line : Line) (c : Checking) → (after_line line c).right ≡ c.right
line_right (lines.Bearer config options) c = refl
line_right line c = refl

-- ---- the end of a group

ended_at : (came : ℕ → ℕ) (first : ℕ) (ss : List (Option AwaitedSdus)) (i : ℕ) → i < length ss
    → slice_index_or (all_ended came first ss) i None
    ≡ option_map (with_end (came (first + i))) (slice_index_or ss i None)
ended_at came first [] i lt = absurd (omega (arith, lt))
ended_at came first (s ∷ ss) zero lt =
    let here : first ≡ first + 0 = omega arith in
    ap (λ (n : ℕ). option_map (with_end (came n)) s) here
ended_at came first (s ∷ ss) (suc i) lt =
    let shift : first + 1 + i ≡ first + suc i = omega arith in
    ended_at came (first + 1) ss i (omega (arith, lt))
    ∙ ap (λ (n : ℕ). option_map (with_end (came n)) (slice_index_or ss i None)) shift

ended_size : (came : ℕ → ℕ) (first : ℕ) (ss : List (Option AwaitedSdus))
    → length (all_ended came first ss) ≡ length ss
ended_size came first [] = refl
ended_size came first (s ∷ ss) = ap suc (ended_size came (first + 1) ss)

rights_sound : (ss : List (Option AwaitedSdus)) → all_right ss ≡ true → (i : ℕ) → i < length ss
    → is_right_on (slice_index_or ss i None) ≡ true
rights_sound [] h i lt = absurd (omega (arith, lt))
rights_sound (s ∷ ss) h zero lt = (and_parts (is_right_on s) (all_right ss) h).0
rights_sound (s ∷ ss) h (suc i) lt =
    rights_sound ss (and_parts (is_right_on s) (all_right ss) h).1 i (omega (arith, lt))

rights_complete : (ss : List (Option AwaitedSdus))
    → ((i : ℕ) → i < length ss → is_right_on (slice_index_or ss i None) ≡ true) → all_right ss ≡ true
rights_complete [] h = refl
rights_complete (s ∷ ss) h =
    and_from (is_right_on s) (all_right ss) (h 0 (omega arith))
    (rights_complete ss (λ i lt. h (suc i) (omega (arith, lt))))

group_at : (side : Side) (l : ℕ) (k : Keeping) (d : Checking) → Sizes d → l ≤ 10
    → slot_at side l (ended k d) ≡ option_map (with_end (came_at side k l)) (slot_at side l d)
group_at Nb l k d size low =
    let from_zero : 0 + l ≡ l = omega arith in
    ended_at (came_at Nb k) 0 d.nb l (omega (arith, size Nb, low))
    ∙ ap (λ (n : ℕ). option_map (with_end (came_at Nb k n)) (slot_at Nb l d)) from_zero
group_at Ue l k d size low =
    let from_zero : 0 + l ≡ l = omega arith in
    ended_at (came_at Ue k) 0 d.ue l (omega (arith, size Ue, low))
    ∙ ap (λ (n : ℕ). option_map (with_end (came_at Ue k n)) (slot_at Ue l d)) from_zero

group_sizes : (k : Keeping) (d : Checking) → Sizes d → Sizes (ended k d)
group_sizes k d size Nb = ended_size (came_at Nb k) 0 d.nb ∙ size Nb
group_sizes k d size Ue = ended_size (came_at Ue k) 0 d.ue ∙ size Ue

-- ---- a group

abbrev records_checked : Group → Checking → Checking
records_checked now c = checked now.events (after_line now.line c)

-- behind the SDU of its line, and then behind its records
abbrev given_first : Group → Checking → Checking
given_first now c = released (left_of now.events (submitted_by now.line)) (after_line now.line c)

abbrev group_told : Group → Checking → Checking
group_told now c = all_told now.events (given_first now c)

group_is : (k : Keeping) (now : Group) (c : Checking)
    → after_group k (records_checked now c) ≡ ended k (group_told now c)
group_is k now c = ap (ended k) (settles_first now.events (after_line now.line c))

given_sizes : (now : Group) (c : Checking) → Sizes c → Sizes (given_first now c)
given_sizes now c size =
    released_sizes (left_of now.events (submitted_by now.line)) (after_line now.line c) (line_sizes now.line c size)

group_told_sizes : (now : Group) (c : Checking) → Sizes c → Sizes (group_told now c)
group_told_sizes now c size = told_sizes now.events (given_first now c) (given_sizes now c size)

map_twice : (f g : AwaitedSdus → AwaitedSdus) (x : Option AwaitedSdus)
    → option_map f (option_map g x) ≡ option_map (λ a. f (g a)) x
map_twice f g None = refl
map_twice f g (Some a) = refl

-- what the end of a group leaves of one direction of a channel
abbrev left_at : MayTake → Group → List Group → Checking → Side → ℕ → Option AwaitedSdus
left_at may_take now past c side l =
    option_map (λ a. with_end (kept_at may_take (now ∷ past) side l) (left_by side l now a))
    (placed_by l now.line (slot_at side l c))

abbrev next_checked : MayTake → Group → List Group → Checking → Checking
next_checked may_take now past c = ended (all_kept may_take (now ∷ past)) (group_told now c)

next_at : (may_take : MayTake) (now : Group) (past : List Group) (c : Checking) (side : Side) (l : ℕ) → Sizes c
    → l ≤ 10 → slot_at side l (next_checked may_take now past c) ≡ left_at may_take now past c side l
next_at may_take now past c side l size low =
    let slot = placed_by l now.line (slot_at side l c) in
    let given = given_by side l now.line now.events in
    let heard = all_heard side l now.events in
    let end = with_end (kept_at may_take (now ∷ past) side l) in
    group_at side l (all_kept may_take (now ∷ past)) (group_told now c) (group_told_sizes now c size) low
    ∙ ap (option_map end) (told_at side now.events l (given_first now c) (given_sizes now c size) low
    ∙ ap (option_map heard)
    (own_at side now.line now.events l (after_line now.line c) (line_sizes now.line c size) low
    ∙ ap (option_map given) (line_at side now.line l c size low))
    ∙ map_twice heard given slot)
    ∙ map_twice end (left_by side l now) slot

-- ---- one flow

abbrev StandsAt : MayTake → List Group → Checking → Side → ℕ → Type 0
StandsAt may_take past c side l =
    Stands (first_by (bearer_on l past)) (sdus_told side l (since_bearer l past))
    (delivered (other side) l (since_bearer l past)) (slot_at side l c)

abbrev DeliversBy : Option ℕ → List LifeEvent → List TakeEvent → Sdus → Type 0
DeliversBy o es told ups = MatchOption o (Unit {0}) (λ first. IsDelivered first es told ups)

abbrev told_since : Group → List Group → Side → ℕ → List TakeEvent
told_since now past side l = sdus_told side l (since_bearer l (now ∷ past))

abbrev ups_since : Group → List Group → Side → ℕ → Sdus
ups_since now past side l = delivered (other side) l (since_bearer l (now ∷ past))

abbrev Prior : Option ℕ → Group → List Group → Checking → Side → ℕ → Type 0
Prior o now past c side l =
    Stands o (sdus_told side l (if begins_on now.line l then [] else since_bearer l past))
    (delivered (other side) l (if begins_on now.line l then [] else since_bearer l past))
    (placed_by l now.line (slot_at side l c))

record FlowRight (o : Option ℕ) (may_take : MayTake) (now : Group) (past : List Group) (c : Checking) (side : Side)
    (l : ℕ) : Type 0 where
  delivers : DeliversBy o (flows_told may_take (now ∷ past) side l) (told_since now past side l)
      (ups_since now past side l)
  stands : Stands o (told_since now past side l) (ups_since now past side l) (left_at may_take now past c side l)

abbrev LeastBy : Option ℕ → MayTake → List Group → Side → ℕ → Type 0
LeastBy o may_take past side l = (first : ℕ) → l ≤ 10 → o ≡ Some first
    → IsLeast (count_came (flows_told may_take past side l)) first (kept_at may_take past side l)

ends_with : (may_take : MayTake) (now : Group) (past : List Group) (c : Checking) (side : Side) (l : ℕ)
    (a : AwaitedSdus) → placed_by l now.line (slot_at side l c) ≡ Some a
    → left_at may_take now past c side l ≡ Some (with_end (kept_at may_take (now ∷ past) side l) (left_by side l now a))
ends_with may_take now past c side l a is =
    ap (option_map (λ (a : AwaitedSdus). with_end (kept_at may_take (now ∷ past) side l) (left_by side l now a))) is

flow_sound : (o : Option ℕ) (may_take : MayTake) (now : Group) (past : List Group) (c : Checking) (side : Side) (l : ℕ)
    → LeastBy o may_take (now ∷ past) side l → Prior o now past c side l → l ≤ 10
    → is_right_on (left_at may_take now past c side l) ≡ true → FlowRight o may_take now past c side l
flow_sound None may_take now past c side l least h low right = record {
  delivers = tt;
  stands = ap (option_map (λ (a : AwaitedSdus). with_end (kept_at may_take (now ∷ past) side l)
      (left_by side l now a))) h;
}
flow_sound (Some first) may_take now past c side l least h low right =
    let came = kept_at may_take (now ∷ past) side l in
    let is = least first low refl in
    let left = ends_with may_take now past c side l h.kept h.is in
    let end = group_sound side l now (if begins_on now.line l then [] else since_bearer l past) first came h.kept
    h.rests (came_below may_take (now ∷ past) side l first came is) (sym (ap is_right_on left) ∙ right) in
    record {
      delivers = record { next = came; next_is = is; is = end.delivered };
      stands = record {
        kept = with_end (kept_at may_take (now ∷ past) side l) (left_by side l now h.kept);
        is = left;
        rests = end.rests;
      };
    }

flow_complete : (o : Option ℕ) (may_take : MayTake) (now : Group) (past : List Group) (c : Checking) (side : Side)
    (l : ℕ) → LeastBy o may_take (now ∷ past) side l → Prior o now past c side l → l ≤ 10
    → DeliversBy o (flows_told may_take (now ∷ past) side l) (told_since now past side l) (ups_since now past side l)
    → is_right_on (left_at may_take now past c side l) ≡ true
flow_complete None may_take now past c side l least h low d =
    ap is_right_on (ap (option_map (λ (a : AwaitedSdus). with_end (kept_at may_take (now ∷ past) side l)
    (left_by side l now a))) h)
flow_complete (Some first) may_take now past c side l least h low d =
    let came = kept_at may_take (now ∷ past) side l in
    let is = least first low refl in
    let p = count_came (flows_told may_take (now ∷ past) side l) in
    let same : d.next ≡ kept_at may_take (now ∷ past) side l =
    omega (arith, one_least p first d.next came d.next_is is, one_least p first came d.next is d.next_is) in
    ap is_right_on (ends_with may_take now past c side l h.kept h.is)
    ∙ group_complete side l now (if begins_on now.line l then [] else since_bearer l past) first came h.kept h.rests
    is.from (came_below may_take (now ∷ past) side l first came is)
    (d.is ∙ ap (λ (n : ℕ). take (n - first) (kept first (told_since now past side l))) same)

-- ---- the verdict

record AtRest (may_take : MayTake) (past : List Group) (c : Checking) : Type 0 where
  sizes : Sizes c
  at : (side : Side) (l : ℕ) → l ≤ 10 → StandsAt may_take past c side l

record Parts (may_take : MayTake) (now : Group) (past : List Group) (c : Checking) : Type 0 where
  was_right : c.right ≡ true
  nb : all_right (next_checked may_take now past c).nb ≡ true
  ue : all_right (next_checked may_take now past c).ue ≡ true

right_stays : (now : Group) (c : Checking) → (group_told now c).right ≡ c.right
right_stays now c =
    (told_stays now.events (given_first now c)).right
    ∙ (releases (left_of now.events (submitted_by now.line)) (after_line now.line c)).right
    ∙ line_right now.line c

parts : (may_take : MayTake) (now : Group) (past : List Group) (c : Checking)
    → (next_checked may_take now past c).right ≡ true → Parts may_take now past c
parts may_take now past c h =
    let d = group_told now c in
    let e = next_checked may_take now past c in
    let p = and_parts (d.right && all_right e.nb) (all_right e.ue) h in
    let q = and_parts d.right (all_right e.nb) p.0 in
    record { was_right = sym (right_stays now c) ∙ q.0; nb = q.1; ue = p.1 }

whole : (may_take : MayTake) (now : Group) (past : List Group) (c : Checking) → Parts may_take now past c
    → (next_checked may_take now past c).right ≡ true
whole may_take now past c p =
    let d = group_told now c in
    let e = next_checked may_take now past c in
    and_from (d.right && all_right e.nb) (all_right e.ue)
    (and_from d.right (all_right e.nb) (right_stays now c ∙ p.was_right) p.nb) p.ue

next_sizes : (may_take : MayTake) (now : Group) (past : List Group) (c : Checking) → Sizes c
    → Sizes (next_checked may_take now past c)
next_sizes may_take now past c size =
    group_sizes (all_kept may_take (now ∷ past)) (group_told now c) (group_told_sizes now c size)

right_on : (may_take : MayTake) (now : Group) (past : List Group) (c : Checking) → Sizes c
    → Parts may_take now past c → (side : Side) (l : ℕ) → l ≤ 10
    → is_right_on (slot_at side l (next_checked may_take now past c)) ≡ true
right_on may_take now past c size p Nb l low =
    rights_sound (next_checked may_take now past c).nb p.nb l
    (omega (arith, low, next_sizes may_take now past c size Nb))
right_on may_take now past c size p Ue l low =
    rights_sound (next_checked may_take now past c).ue p.ue l
    (omega (arith, low, next_sizes may_take now past c size Ue))

all_on : (may_take : MayTake) (now : Group) (past : List Group) (c : Checking) → Sizes c → c.right ≡ true
    → ((side : Side) (l : ℕ) → l ≤ 10 → is_right_on (slot_at side l (next_checked may_take now past c)) ≡ true)
    → Parts may_take now past c
all_on may_take now past c size right h = record {
  was_right = right;
  nb = rights_complete (next_checked may_take now past c).nb
      (λ i lt. h Nb i (omega (arith, lt, next_sizes may_take now past c size Nb)));
  ue = rights_complete (next_checked may_take now past c).ue
      (λ i lt. h Ue i (omega (arith, lt, next_sizes may_take now past c size Ue)));
}

prior_at : (may_take : MayTake) (now : Group) (past : List Group) (c : Checking) (side : Side) (l : ℕ) → l ≤ 10
    → AtRest may_take past c → Prior (first_by (bearer_on l (now ∷ past))) now past c side l
prior_at may_take now past c side l low r =
    line_stands side l now.line (bearer_on l past) past (slot_at side l c) (r.at side l low)

abbrev none_kept : Option AwaitedSdus
none_kept = None

none_at : (n l : ℕ) → slice_index_or (replicate n (none_kept)) l none_kept ≡ none_kept
none_at zero l = refl
none_at (suc n) zero = refl
none_at (suc n) (suc l) = none_at n l

first_rests : (may_take : MayTake) → AtRest may_take [] nothing_checked
first_rests may_take = record { sizes = size; at = none }
  where
    size : Sizes nothing_checked
    size Nb = refl
    size Ue = refl

    none : (side : Side) (l : ℕ) → l ≤ 10 → slot_at side l nothing_checked ≡ None
    none Nb l low = none_at 11 l
    none Ue l low = none_at 11 l

record Sound (may_take : MayTake) (past : List Group) : Type 0 where
  is : DeliveredIsRight may_take past
  rests : AtRest may_take past (all_checked may_take past)

next_sound : (may_take : MayTake) (now : Group) (past : List Group) (c : Checking) → AtRest may_take past c
    → Parts may_take now past c → (side : Side) (l : ℕ) → l ≤ 10
    → FlowRight (first_by (bearer_on l (now ∷ past))) may_take now past c side l
next_sound may_take now past c r p side l low =
    flow_sound (first_by (bearer_on l (now ∷ past))) may_take now past c side l
    (came_is may_take (now ∷ past) side l) (prior_at may_take now past c side l low r) low
    (sym (ap is_right_on (next_at may_take now past c side l r.sizes low))
    ∙ right_on may_take now past c r.sizes p side l low)

next_is : (may_take : MayTake) (now : Group) (past : List Group)
    → all_checked may_take (now ∷ past) ≡ next_checked may_take now past (all_checked may_take past)
next_is may_take now past = group_is (all_kept may_take (now ∷ past)) now (all_checked may_take past)

sound : (may_take : MayTake) (past : List Group) → (all_checked may_take past).right ≡ true → Sound may_take past
sound may_take [] h = record { is = tt; rests = first_rests may_take }
sound may_take (now ∷ past) h =
    let c = all_checked may_take past in
    let next = next_is may_take now past in
    let p = parts may_take now past c (sym (ap (λ (d : Checking). d.right) next) ∙ h) in
    let before = sound may_take past p.was_right in
    let flow = next_sound may_take now past c before.rests p in
    record {
      is = (λ side l low. (flow side l low).delivers, before.is);
      rests = subst (AtRest may_take (now ∷ past)) (sym next) (record {
        sizes = next_sizes may_take now past c before.rests.sizes;
        at = λ side l low.
            subst (Stands (first_by (bearer_on l (now ∷ past))) (told_since now past side l)
            (ups_since now past side l))
            (sym (next_at may_take now past (all_checked may_take past) side l before.rests.sizes low))
            (flow side l low).stands;
      });
    }

complete : (may_take : MayTake) (past : List Group) → DeliveredIsRight may_take past
    → (all_checked may_take past).right ≡ true
complete may_take [] h = refl
complete may_take (now ∷ past) h =
    let c = all_checked may_take past in
    let was = complete may_take past h.1 in
    let r = (sound may_take past was).rests in
    ap (λ (d : Checking). d.right) (next_is may_take now past)
    ∙ whole may_take now past c (all_on may_take now past c r.sizes was
    (λ side l low. ap is_right_on (next_at may_take now past c side l r.sizes low)
    ∙ flow_complete (first_by (bearer_on l (now ∷ past))) may_take now past c side l
    (came_is may_take (now ∷ past) side l) (prior_at may_take now past c side l low r) low (h.0 side l low)))

pub exact : (may_take : MayTake) (past : List Group)
    → IsTrue (all_checked may_take past).right ↔ DeliveredIsRight may_take past
exact may_take past = (λ h. (sound may_take past h).is, complete may_take past)
