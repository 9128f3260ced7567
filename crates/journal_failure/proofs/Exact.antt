-- Group by group, the verdict is exact.
use Rattle.std.proofs.Common.{◌≡◌, ℕ, zero, suc, ◌+◌, ◌<◌, ◌≤◌, Bool, true, false, List, [], ◌∷◌, ◌++◌, Option, Some}
use Rattle.std.proofs.Common.{None, inl, inr, ◌↔◌, refl, ap, sym, ◌∙◌, arith, subst, if◌then◌else◌, slice_index_or}
use Rattle.std.proofs.Common.{replicate}
use Rattle.std.specs.Prelude.{IsTrue, cond, is_some, ◌&&◌, ◌==◌}
use Rattle.std.proofs.lemmas.Bool.{and_parts, and_from, cases_lt, false≢true}
use Rattle.l2_types.specs.declared.side.Side.{Side}
use Rattle.l2_types.specs.declared.side.Side.TheVariants.{Nb, Ue}
use Rattle.bearer_types.specs.declared.config.BearerConfig.{BearerConfig}
use Rattle.bearer_types.specs.declared.event.Event.{Event}
use Rattle.bearer_types.specs.declared.event.Event.TheVariants.{Send, Fail}
use Rattle.air_record.specs.declared.record.Record.{Record}
use Rattle.air_record.specs.declared.record.Record.TheVariants as records
use Rattle.air_text.specs.Groups.{Group}
use Rattle.promises.specs.Configs.{config_of}
use Rattle.promises.specs.Events.{is_on, told_on, fails_on}
use Rattle.promises.specs.Parts.{is_handover as ends_life}
use Rattle.promises.specs.Records.{events_of}
use Rattle.promises.specs.Silent.{told_since, is_data, is_failure, IsSilent}
use Rattle.journal_flows.specs.Gathering.{MayTake, behind}
use Rattle.journal_flows.specs.FlowsTold.{histories, no_events, flows_within}
use Rattle.journal_flows.specs.Accounts.{Keeping, kept_within, all_kept}
use Rattle.journal_flows.specs.Laws.{bearer_on}
use Rattle.journal_failure.specs.declared.sender.Sender.{Sender}
use Rattle.journal_failure.specs.RightFailure.{AreFails, FailsAreRight, FailureIsRight, only_line, sns_told}
use Rattle.journal_failure.specs.Checking.{Checking, nothing_told, nothing_checked, sn_due, limit_at, with_end}
use Rattle.journal_failure.specs.Checking.{with_bearer, with_data, is_sender_right, all_right, after_line}
use Rattle.journal_failure.specs.Checking.{after_event, after_record, after_group, checked, all_checked, changed}
use Rattle.journal_failure.proofs.Failures.{sns_of}
use Rattle.journal_failure.proofs.Hearing.{all_heard, gave_in, loud, gave_append, silent_sound}
use Rattle.journal_failure.proofs.Records.{senders_of, sender_at, Sizes, checked_sizes, checked_at, Elsewhere}
use Rattle.journal_failure.proofs.Records.{right_sound, right_complete}
use Rattle.journal_failure.proofs.Ends.{rights_sound, rights_complete, ended_at, ended_size}
use Rattle.journal_failure.proofs.OneSender.{limit_by, fails_sound, fails_complete, lives_within, limit_within}
use Rattle.journal_failure.proofs.OneSender.{limit_behind, limit_end, AtRest, AtLine, begins_on, line_limit}
use Rattle.journal_failure.proofs.OneSender.{line_known, line_at, line_sizes, line_right, at_line, IsQuiet}
use Rattle.journal_failure.proofs.OneSender.{IsGroupRight, group_sound, group_complete, at_rest}

-- ---- all senders, behind groups

record Stands (may_take : MayTake) (past : List Group) (c : Checking) : Type 0 where
  sizes : Sizes c
  at : (side : Side) (l : ℕ) → l ≤ 10 → AtRest (sender_at side l c)
      (is_some (limit_at side (all_kept may_take past) l)) (told_since side l past) (is_some (config_of l past))

abbrev failed_at : MayTake → Group → List Group → Side → ℕ → Bool
failed_at may_take now past side l =
    is_some (limit_by (bearer_on l (now ∷ past)) (flows_within may_take (only_line now) past side l))

begun_at : (may_take : MayTake) (now : Group) (past : List Group) (side : Side) (l : ℕ) → l ≤ 10
    → failed_at may_take now past side l
    ≡ (if begins_on l now.line then false else is_some (limit_at side (all_kept may_take past) l))
begun_at may_take now past side l low =
    line_limit now.line (bearer_on l past) (behind histories no_events may_take past) side l
    ∙ ap (λ (o : Option ℕ). if begins_on l now.line then false else is_some o)
    (sym (limit_behind may_take past side l low))

line_stands : (may_take : MayTake) (now : Group) (past : List Group) (c : Checking) → Stands may_take past c
    → (side : Side) (l : ℕ) → l ≤ 10
    → AtLine (sender_at side l (after_line now.line c)) (failed_at may_take now past side l)
    (told_since side l past) (is_some (config_of l past)) (is_some (config_of l (now ∷ past)))
line_stands may_take now past c s side l low =
    subst (λ (y : Sender). AtLine y (failed_at may_take now past side l)
    (told_since side l past) (is_some (config_of l past)) (is_some (config_of l (now ∷ past))))
    (sym (line_at side now.line l c s.sizes low))
    (subst (λ (f : Bool). AtLine
    (if begins_on l now.line then with_bearer (sender_at side l c) else sender_at side l c) f
    (told_since side l past) (is_some (config_of l past)) (is_some (config_of l (now ∷ past))))
    (sym (begun_at may_take now past side l low))
    (subst (λ (k : Bool). AtLine
    (if begins_on l now.line then with_bearer (sender_at side l c) else sender_at side l c)
    (if begins_on l now.line then false else is_some (limit_at side (all_kept may_take past) l))
    (told_since side l past) (is_some (config_of l past)) k)
    (sym (line_known now.line (config_of l past) l))
    (at_line (begins_on l now.line) (sender_at side l c) (is_some (limit_at side (all_kept may_take past) l))
    (told_since side l past) (is_some (config_of l past)) (s.at side l low))))

-- ---- a channel that there isn't tells no failure

gave_on : (told : List Event) → gave_in true told ≡ true
gave_on [] = refl
gave_on (e ∷ told) = gave_on told

low_loud : (told : List Event) → gave_in false told ≡ false → loud false told ≡ false
low_loud [] h = refl
low_loud (e ∷ told) h = by (low_loud told) (is_failure e) refl
  where
    by : (gave_in false told ≡ false → loud false told ≡ false) → (b : Bool) → is_failure e ≡ b
        → loud (is_failure e) told ≡ false
    by more true is =
        absurd (false≢true (sym h ∙ ap (λ (b : Bool). gave_in b told) is ∙ gave_on told))
    by more false is = ap (λ (b : Bool). loud b told) is
        ∙ more (ap (λ (b : Bool). gave_in b told) (sym is) ∙ h)

passed : (e : Event) (rest : List Event) → is_failure e ≡ false → gave_in false rest ≡ false → (b : Bool)
    → gave_in false (cond b (e ∷ rest) rest) ≡ false
passed e rest is h true = ap (λ (b : Bool). gave_in b rest) is ∙ h
passed e rest is h false = h

none_fails : (l : ℕ) (es : List Event) → fails_on l es ≡ [] → gave_in false (told_on l es) ≡ false
none_fails l [] h = refl
none_fails l (Fail lcid sn ∷ es) h = by (none_fails l es) (lcid == l) h
  where
    by : (fails_on l es ≡ [] → gave_in false (told_on l es) ≡ false) → (b : Bool)
        → (if b then sn ∷ [] else []) ++ fails_on l es ≡ []
        → gave_in false (cond b (Fail lcid sn ∷ told_on l es) (told_on l es)) ≡ false
    by more true h' = absurd cc
    by more false h' = more h'
none_fails l (e ∷ es) h = passed e (told_on l es) refl (none_fails l es h) (is_on l e)

far_since : (may_take : MayTake) (past : List Group) → FailsAreRight may_take past → (side : Side) (l : ℕ)
    → 10 < l → gave_in false (told_since side l past) ≡ false
far_since may_take [] h side l far = refl
far_since may_take (g ∷ past) h side l far =
    by (ends_life g.line) (far_since may_take past h.1 side l far)
    (none_fails l (events_of side g.events) (h.0.elsewhere side l far))
  where
    by : (b : Bool) → gave_in false (told_since side l past) ≡ false
        → gave_in false (told_on l (events_of side g.events)) ≡ false
        → gave_in false (if b then [] else told_since side l past ++ told_on l (events_of side g.events)) ≡ false
    by true before now = refl
    by false before now = gave_append false (told_since side l past) (told_on l (events_of side g.events))
        ∙ ap (λ (b : Bool). gave_in b (told_on l (events_of side g.events))) before ∙ now

-- ---- a group

hands_event : (side : Side) (event : Event) (c : Checking) → (after_event side event c).hands_over ≡ c.hands_over
hands_event Nb (Fail lcid sn) c = refl
hands_event Ue (Fail lcid sn) c = refl
hands_event side (Send lcid how sn) c = by side (is_data how)
  where
    by : (s : Side) (d : Bool) → (if d then changed s lcid with_data c else c).hands_over ≡ c.hands_over
    by Nb true = refl
    by Ue true = refl
    by s false = refl
hands_event side event c = refl

hands_record : (one : Record) (c : Checking) → (after_record one c).hands_over ≡ c.hands_over
hands_record (records.Of side event) c = hands_event side event c
hands_record one c = refl

hands_kept : (told : List Record) (c : Checking) → (checked told c).hands_over ≡ c.hands_over
hands_kept [] c = refl
hands_kept (one ∷ told) c = hands_kept told (after_record one c) ∙ hands_record one c

abbrev records_checked : Group → Checking → Checking
records_checked now c = checked now.events (after_line now.line c)

abbrev kept_now : MayTake → Group → List Group → Keeping
kept_now may_take now past = kept_within may_take now past (all_kept may_take past)

records_sizes : (now : Group) (c : Checking) → Sizes c → Sizes (records_checked now c)
records_sizes now c size = checked_sizes now.events (after_line now.line c) (line_sizes now.line c size)

records_at : (now : Group) (c : Checking) (side : Side) (l : ℕ) → Sizes c → l ≤ 10
    → sender_at side l (records_checked now c)
    ≡ all_heard l (events_of side now.events) (sender_at side l (after_line now.line c))
records_at now c side l size low =
    checked_at side now.events l (after_line now.line c) (line_sizes now.line c size) low

from_zero : (l : ℕ) → 0 + l ≡ l
from_zero l = omega arith

group_at : (side : Side) (l : ℕ) (k : Keeping) (d : Checking) → Sizes d → l ≤ 10
    → sender_at side l (after_group k d) ≡ with_end d.hands_over (limit_at side k l) (sender_at side l d)
group_at Nb l k d size low =
    ended_at d.hands_over (limit_at Nb k) 0 d.nb l (omega (arith, size Nb, low))
    ∙ ap (λ (n : ℕ). with_end d.hands_over (limit_at Nb k n) (sender_at Nb l d)) (from_zero l)
group_at Ue l k d size low =
    ended_at d.hands_over (limit_at Ue k) 0 d.ue l (omega (arith, size Ue, low))
    ∙ ap (λ (n : ℕ). with_end d.hands_over (limit_at Ue k n) (sender_at Ue l d)) (from_zero l)

group_sizes : (k : Keeping) (d : Checking) → Sizes d → Sizes (after_group k d)
group_sizes k d size Nb = ended_size d.hands_over (limit_at Nb k) 0 d.nb ∙ size Nb
group_sizes k d size Ue = ended_size d.hands_over (limit_at Ue k) 0 d.ue ∙ size Ue

next_stands : (may_take : MayTake) (now : Group) (past : List Group) (c : Checking) → Stands may_take past c
    → Stands may_take (now ∷ past) (after_group (kept_now may_take now past) (records_checked now c))
next_stands may_take now past c s = record {
  sizes = group_sizes (kept_now may_take now past) (records_checked now c) (records_sizes now c s.sizes);
  at = λ side l low.
      let k = kept_now may_take now past in
      let y = sender_at side l (after_line now.line c) in
      let told : List Event = told_since side l (now ∷ past) in
      let known : Bool = is_some (config_of l (now ∷ past)) in
      let rest = at_rest (ends_life now.line) l (events_of side now.events) y (failed_at may_take now past side l)
      (told_since side l past) (is_some (config_of l past)) known (limit_at side k l)
      (line_stands may_take now past c s side l low) in
      subst (λ (x : Sender). AtRest x (is_some (limit_at side (all_kept may_take (now ∷ past)) l)) told known)
      (sym (group_at side l k (records_checked now c) (records_sizes now c s.sizes) low
      ∙ ap (λ (b : Bool). with_end b (limit_at side k l) (sender_at side l (records_checked now c)))
      (hands_kept now.events (after_line now.line c))
      ∙ ap (λ (x : Sender). with_end (ends_life now.line) (limit_at side k l) x)
      (records_at now c side l s.sizes low)))
      (subst (λ (f : Bool).
      AtRest (with_end (ends_life now.line) (limit_at side k l) (all_heard l (events_of side now.events) y)) f told
      known) (sym (limit_end may_take now past side l low)) rest);
}

abbrev RightOn : MayTake → Group → List Group → Checking → Side → ℕ → Type 0
RightOn may_take now past c side l =
    is_sender_right (limit_at side (kept_now may_take now past) l) (sender_at side l (records_checked now c)) ≡ true

abbrev GroupOn : MayTake → Group → List Group → Side → ℕ → Type 0
GroupOn may_take now past side l =
    IsGroupRight (failed_at may_take now past side l) (is_some (config_of l past))
    (limit_at side (kept_now may_take now past) l) (told_since side l past) l (events_of side now.events)

on_sound : (may_take : MayTake) (now : Group) (past : List Group) (c : Checking) → Stands may_take past c
    → (side : Side) (l : ℕ) → l ≤ 10 → RightOn may_take now past c side l → GroupOn may_take now past side l
on_sound may_take now past c s side l low h =
    group_sound l (events_of side now.events) (sender_at side l (after_line now.line c))
    (failed_at may_take now past side l) (told_since side l past) (is_some (config_of l past))
    (is_some (config_of l (now ∷ past))) (limit_at side (kept_now may_take now past) l)
    (line_stands may_take now past c s side l low)
    (ap (is_sender_right (limit_at side (kept_now may_take now past) l))
    (sym (records_at now c side l s.sizes low)) ∙ h)

on_complete : (may_take : MayTake) (now : Group) (past : List Group) (c : Checking) → Stands may_take past c
    → (side : Side) (l : ℕ) → l ≤ 10 → GroupOn may_take now past side l → RightOn may_take now past c side l
on_complete may_take now past c s side l low h =
    ap (is_sender_right (limit_at side (kept_now may_take now past) l)) (records_at now c side l s.sizes low)
    ∙ group_complete l (events_of side now.events) (sender_at side l (after_line now.line c))
    (failed_at may_take now past side l) (told_since side l past) (is_some (config_of l past))
    (is_some (config_of l (now ∷ past))) (limit_at side (kept_now may_take now past) l)
    (line_stands may_take now past c s side l low) h

-- ---- what the definitions say of a channel

fails_at : (may_take : MayTake) (now : Group) (past : List Group) (side : Side) (l : ℕ) → l ≤ 10
    → GroupOn may_take now past side l → AreFails may_take now past side l
fails_at may_take now past side l low g =
    fails_sound (bearer_on l (now ∷ past)) (flows_within may_take (only_line now) past side l)
    (flows_within may_take now past side l) (lives_within may_take (only_line now) past side l)
    (lives_within may_take now past side l) (sns_told side l now)
    (g.due ∙ ap (λ (o : Option ℕ). sns_of (sn_due (failed_at may_take now past side l) o))
    (limit_within may_take now past side l low))

silent_known : (o : Option BearerConfig) (P : Type 0) → ((config : BearerConfig) → o ≡ Some config → P)
    → is_some o ≡ true → P
silent_known None P h k = absurd (false≢true k)
silent_known (Some config) P h k = h config refl

group_on : (may_take : MayTake) (now : Group) (past : List Group) (side : Side) (l : ℕ) → l ≤ 10
    → AreFails may_take now past side l → IsSilent past now → GroupOn may_take now past side l
group_on may_take now past side l low f q = record {
  due = fails_complete (bearer_on l (now ∷ past)) (flows_within may_take (only_line now) past side l)
      (flows_within may_take now past side l) (lives_within may_take (only_line now) past side l)
      (lives_within may_take now past side l) (sns_told side l now) f
      ∙ ap (λ (o : Option ℕ). sns_of (sn_due (failed_at may_take now past side l) o))
      (sym (limit_within may_take now past side l low));
  silent = silent_known (config_of l past)
      (IsQuiet (told_since side l past ++ told_on l (events_of side now.events)))
      (λ config is. q side l config is);
}

silent_at : (may_take : MayTake) (now : Group) (past : List Group) → FailsAreRight may_take (now ∷ past)
    → ((side : Side) (l : ℕ) → l ≤ 10 → GroupOn may_take now past side l) → IsSilent past now
silent_at may_take now past f g side l config is = elim (cases_lt 10 l) [
  | inl far ↦ silent_sound (told_since side l past ++ told_on l (events_of side now.events))
      (low_loud (told_since side l past ++ told_on l (events_of side now.events))
      (gave_append false (told_since side l past) (told_on l (events_of side now.events))
      ∙ ap (λ (b : Bool). gave_in b (told_on l (events_of side now.events)))
      (far_since may_take past f.1 side l far)
      ∙ none_fails l (events_of side now.events) (f.0.elsewhere side l far)))
  | inr low ↦ (g side l low).silent (ap (λ (o : Option BearerConfig). is_some o) is)
]

-- ---- the verdict

record Parts (may_take : MayTake) (now : Group) (past : List Group) (c : Checking) : Type 0 where
  was_right : c.right ≡ true
  elsewhere : Elsewhere now.events
  on : (side : Side) (l : ℕ) → l ≤ 10 → RightOn may_take now past c side l

right_on : (side : Side) (k : Keeping) (d : Checking) → Sizes d
    → all_right (limit_at side k) 0 (senders_of side d) ≡ true → (l : ℕ) → l ≤ 10
    → is_sender_right (limit_at side k l) (sender_at side l d) ≡ true
right_on side k d size h l low =
    ap (λ (n : ℕ). is_sender_right (limit_at side k n) (sender_at side l d)) (sym (from_zero l))
    ∙ rights_sound (limit_at side k) 0 (senders_of side d) h l (omega (arith, size side, low))

all_on : (side : Side) (k : Keeping) (d : Checking) → Sizes d
    → ((l : ℕ) → l ≤ 10 → is_sender_right (limit_at side k l) (sender_at side l d) ≡ true)
    → all_right (limit_at side k) 0 (senders_of side d) ≡ true
all_on side k d size h =
    rights_complete (limit_at side k) 0 (senders_of side d)
    (λ i lt. ap (λ (n : ℕ). is_sender_right (limit_at side k n) (sender_at side i d)) (from_zero i)
    ∙ h i (omega (arith, size side, lt)))

parts : (may_take : MayTake) (now : Group) (past : List Group) (c : Checking) → Sizes c
    → (after_group (kept_now may_take now past) (records_checked now c)).right ≡ true → Parts may_take now past c
parts may_take now past c size h =
    let k = kept_now may_take now past in
    let d = records_checked now c in
    let a = and_parts (d.right && all_right (limit_at Nb k) 0 d.nb) (all_right (limit_at Ue k) 0 d.ue) h in
    let b = and_parts d.right (all_right (limit_at Nb k) 0 d.nb) a.0 in
    let r = right_sound now.events (after_line now.line c) b.0 in
    record {
      was_right = sym (line_right now.line c) ∙ r.0;
      elsewhere = r.1;
      on = λ side. by (right_on Nb k d (records_sizes now c size) b.1)
          (right_on Ue k d (records_sizes now c size) a.1) side;
    }
  where
    by : ((l : ℕ) → l ≤ 10 → RightOn may_take now past c Nb l)
        → ((l : ℕ) → l ≤ 10 → RightOn may_take now past c Ue l) → (side : Side) (l : ℕ) → l ≤ 10
        → RightOn may_take now past c side l
    by nb ue Nb = nb
    by nb ue Ue = ue

whole : (may_take : MayTake) (now : Group) (past : List Group) (c : Checking) → Sizes c
    → Parts may_take now past c → (after_group (kept_now may_take now past) (records_checked now c)).right ≡ true
whole may_take now past c size p =
    let k = kept_now may_take now past in
    let d = records_checked now c in
    and_from (d.right && all_right (limit_at Nb k) 0 d.nb) (all_right (limit_at Ue k) 0 d.ue)
    (and_from d.right (all_right (limit_at Nb k) 0 d.nb)
    (right_complete now.events (after_line now.line c) (line_right now.line c ∙ p.was_right) p.elsewhere)
    (all_on Nb k d (records_sizes now c size) (p.on Nb)))
    (all_on Ue k d (records_sizes now c size) (p.on Ue))

was_right : (may_take : MayTake) (now : Group) (past : List Group) (c : Checking)
    → (after_group (kept_now may_take now past) (records_checked now c)).right ≡ true → c.right ≡ true
was_right may_take now past c h =
    let k = kept_now may_take now past in
    let d = records_checked now c in
    let a = and_parts (d.right && all_right (limit_at Nb k) 0 d.nb) (all_right (limit_at Ue k) 0 d.ue) h in
    let b = and_parts d.right (all_right (limit_at Nb k) 0 d.nb) a.0 in
    sym (line_right now.line c) ∙ (right_sound now.events (after_line now.line c) b.0).0

none_at : (n l : ℕ) → slice_index_or (replicate n nothing_told) l nothing_told ≡ nothing_told
none_at zero l = refl
none_at (suc n) zero = refl
none_at (suc n) (suc l) = none_at n l

first_sizes : Sizes nothing_checked
first_sizes Nb = refl
first_sizes Ue = refl

no_group : (side : Side) (l : ℕ) → l ≤ 10 → sender_at side l nothing_checked ≡ nothing_told
no_group Nb l low = none_at 11 l
no_group Ue l low = none_at 11 l

first_stands : (may_take : MayTake) → Stands may_take [] nothing_checked
first_stands may_take = record {
  sizes = first_sizes;
  at = λ side l low.
      subst (λ (x : Sender). AtRest x (is_some (limit_at side (all_kept may_take []) l)) [] false)
      (sym (no_group side l low))
      (subst (λ (f : Bool). AtRest nothing_told f [] false)
      (sym (ap (λ (o : Option ℕ). is_some o) (limit_behind may_take [] side l low)))
      (record {
        failed_is = refl;
        told_is = refl;
        once = refl;
        gave = refl;
        spoke = refl;
        known_is = refl;
        rests = refl;
      }));
}

sound : (may_take : MayTake) (past : List Group) → (all_checked may_take past).right ≡ true
    → FailureIsRight may_take past × Stands may_take past (all_checked may_take past)
sound may_take [] h = ((tt, tt), first_stands may_take)
sound may_take (now ∷ past) h =
    let c = all_checked may_take past in
    let before = sound may_take past (was_right may_take now past c h) in
    let p = parts may_take now past c before.1.sizes h in
    let on : (side : Side) (l : ℕ) → l ≤ 10 → GroupOn may_take now past side l =
    λ side l low. on_sound may_take now past c before.1 side l low (p.on side l low) in
    let fails : FailsAreRight may_take (now ∷ past) = (
      record {
        on_channels = λ side l low. fails_at may_take now past side l low (on side l low);
        elsewhere = p.elsewhere;
      },
      before.0.0,
    ) in
    ((fails, (silent_at may_take now past fails on, before.0.1)), next_stands may_take now past c before.1)

complete : (may_take : MayTake) (past : List Group) → FailureIsRight may_take past
    → (all_checked may_take past).right ≡ true
complete may_take [] h = refl
complete may_take (now ∷ past) h =
    let c = all_checked may_take past in
    let was = complete may_take past (h.0.1, h.1.1) in
    let s = (sound may_take past was).1 in
    whole may_take now past c s.sizes (record {
      was_right = was;
      elsewhere = h.0.0.elsewhere;
      on = λ side l low. on_complete may_take now past c s side l low
          (group_on may_take now past side l low (h.0.0.on_channels side l low) h.1.0);
    })

pub exact : (may_take : MayTake) (past : List Group)
    → IsTrue (all_checked may_take past).right ↔ FailureIsRight may_take past
exact may_take past = (λ h. (sound may_take past h).0, complete may_take past)
