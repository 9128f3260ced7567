-- Records are right where they are so on each channel, and whether RLC may take anything of one is told
-- by that channel.
use Rattle.std.proofs.Common.{◌≡◌, ℕ, ◌<◌, ◌≤◌, false, List, [], ◌∷◌, ◌++◌, length, Option}
use Rattle.std.proofs.Common.{None, inl, inr, refl, ap, sym, ◌∙◌, arith, subst}
use Rattle.std.specs.Prelude.{nat_lt}
use Rattle.std.proofs.lemmas.Bool.{cases_lt}
use Rattle.std.proofs.lemmas.List.{get_or_past, append_assoc}
use Rattle.l2_types.specs.declared.side.Side.{Side}
use Rattle.l2_types.specs.declared.side.Side.TheVariants.{Nb, Ue}
use Rattle.bearer_types.specs.declared.event.Event.{Event}
use Rattle.bearer_types.specs.declared.event.Event.TheVariants as events
use Rattle.air_record.specs.declared.record.Record.{Record}
use Rattle.air_record.specs.declared.record.Record.TheVariants as records
use Rattle.air_text.specs.Groups.{Group}
use Rattle.journal_given.specs.Supplies.{Supply, Bearer, History, histories}
use Rattle.journal_given.specs.Giving.{Giving, Waits, bearer_at, waits_at, offers, may_take}
use Rattle.journal_given.specs.Giving.{settled}
use Rattle.journal_given.specs.Giving.{after_line, after_record, all_given, behind_records, may_take_by}
use Rattle.journal_given.specs.RightTakes.{TakeIsRight, ReportIsRight, DiscardIsRight, OnBearer, IsRightEvent}
use Rattle.journal_given.specs.RightTakes.{IsRightRecord, AreRightRecords, TakesAreRight}
use Rattle.law_given.specs.OneBearer.{OneChannel, channel_in, waits_on, one_settled, one_line, one_given, one_behind}
use Rattle.law_given.specs.OneBearer.{HasChannels}
use Rattle.law_given.specs.BearerRecords.{IsRightEventOn, IsRightOn, AreRightOn, GroupIsRightOn, TakesAreRightOn}
use Rattle.law_given.specs.BearerRecords.{GroupRightOnOneBearer, RightOnOneBearer, IsTakeable, expires}
use Rattle.law_given.specs.BearerRecords.{MayTakeByOneBearer}
use Rattle.law_given.proofs.OneBearer.{one_channel_by_steps}
use Rattle.law_given.proofs.OneBearerGroups.{may_there, step_alone, given_has, line_have, behind_have, given_alone}
use Rattle.law_given.proofs.OneBearerGroups.{begun_alone, one_channel_by_groups}

-- ---- a record

above : (l : ℕ) (side : Side) (right : Supply History → Type 0) (g : Giving History) → HasChannels History g → 10 < l
    → OnBearer (bearer_at l g.bearers) side right
above l side right g h far =
    subst (λ (b : Option (Bearer History)). OnBearer b side right)
    (sym (get_or_past g.bearers l None (omega (arith, h.bearers, far)))) tt

on_each : (lcid : ℕ) (side : Side) (right : Supply History → Type 0) (g : Giving History) → HasChannels History g
    → ((l : ℕ) → l ≤ 10 → lcid ≡ l → OnBearer (bearer_at l g.bearers) side right)
    → OnBearer (bearer_at lcid g.bearers) side right
on_each lcid side right g h all = elim (cases_lt 10 lcid) [
  | inl far ↦ above lcid side right g h far
  | inr low ↦ all lcid low refl
]

on_one : (lcid l : ℕ) (side : Side) (right : Supply History → Type 0) (g : Giving History)
    → OnBearer (bearer_at lcid g.bearers) side right → lcid ≡ l → OnBearer (bearer_at l g.bearers) side right
on_one lcid l side right g h same = subst (λ (n : ℕ). OnBearer (bearer_at n g.bearers) side right) same h

event_right : (side : Side) (event : Event) (g : Giving History) → HasChannels History g
    → ((l : ℕ) → l ≤ 10 → IsRightEventOn l side event (bearer_at l g.bearers)) → IsRightEvent side event g
event_right side (events.Take lcid count len) g h all = on_each lcid side (TakeIsRight count len) g h all
event_right side (events.Report lcid fms bitmap) g h all = on_each lcid side (ReportIsRight fms bitmap) g h all
event_right side (events.Discard lcid len) g h all = on_each lcid side DiscardIsRight g h all
event_right side event g h all = tt

event_right_on : (l : ℕ) (side : Side) (event : Event) (g : Giving History) → IsRightEvent side event g
    → IsRightEventOn l side event (bearer_at l g.bearers)
event_right_on l side (events.Take lcid count len) g h = on_one lcid l side (TakeIsRight count len) g h
event_right_on l side (events.Report lcid fms bitmap) g h = on_one lcid l side (ReportIsRight fms bitmap) g h
event_right_on l side (events.Discard lcid len) g h = on_one lcid l side DiscardIsRight g h
event_right_on l side event g h = tt

pub record_right : (one : Record) (g : Giving History) → HasChannels History g
    → ((l : ℕ) → l ≤ 10 → IsRightOn l one (bearer_at l g.bearers)) → IsRightRecord one g
record_right (records.Of side event) g h all = event_right side event g h all
record_right one g h all = tt

record_right_on : (l : ℕ) (one : Record) (g : Giving History) → IsRightRecord one g
    → IsRightOn l one (bearer_at l g.bearers)
record_right_on l (records.Of side event) g h = event_right_on l side event g h
record_right_on l one g h = tt

-- ---- the records of a group

settled_at : (l : ℕ) (one : Record) (g : Giving History) → HasChannels History g → l ≤ 10
    → bearer_at l (settled histories one g).bearers ≡ (one_settled histories l one (channel_in l g)).bearer
settled_at l one g h low =
    ap (λ (c : OneChannel History). c.bearer) (((one_channel_by_steps History histories).alone l g low h).settles one)

records_right : (journal newer : List Group) (now : Group) (past : List Group) → journal ≡ newer ++ now ∷ past
    → (before rest : List Record) (g : Giving History) → HasChannels History g
    → g ≡ behind_records histories before (after_line histories now.line (all_given histories past))
    → ((l : ℕ) → l ≤ 10 → AreRightOn l (may_take_by histories journal) past before rest (channel_in l g))
    → AreRightRecords rest g
records_right journal newer now past is before [] g h so all = tt
records_right journal newer now past is before (one ∷ rest) g h so all = (
  record_right one (settled histories one g) (((one_channel_by_steps History histories).stay g h).settles one)
      (λ l low. subst (IsRightOn l one) (sym (settled_at l one g h low)) (all l low).0),
  records_right journal newer now past is (one ∷ before) rest (after_record histories one g)
      (((one_channel_by_steps History histories).stay g h).behind one) (ap (after_record histories one) so)
      (λ l low. subst (AreRightOn l (may_take_by histories journal) past (one ∷ before) rest)
      (sym (step_alone histories l one g h low (may_take_by histories journal past before one)
      (may_there histories journal newer now past is before one
      ∙ ap (λ (x : Giving History). may_take histories one (settled histories one x)) (sym so)))) (all l low).1),
)

records_right_on : (l : ℕ) → l ≤ 10 → (journal newer : List Group) (now : Group) (past : List Group)
    → journal ≡ newer ++ now ∷ past → (before rest : List Record) (g : Giving History) → HasChannels History g
    → g ≡ behind_records histories before (after_line histories now.line (all_given histories past))
    → AreRightRecords rest g
    → AreRightOn l (may_take_by histories journal) past before rest (channel_in l g)
records_right_on l low journal newer now past is before [] g h so right = tt
records_right_on l low journal newer now past is before (one ∷ rest) g h so right = (
  subst (IsRightOn l one) (settled_at l one g h low) (record_right_on l one (settled histories one g) right.0),
  subst (AreRightOn l (may_take_by histories journal) past (one ∷ before) rest)
      (step_alone histories l one g h low (may_take_by histories journal past before one)
      (may_there histories journal newer now past is before one
      ∙ ap (λ (x : Giving History). may_take histories one (settled histories one x)) (sym so)))
      (records_right_on l low journal newer now past is (one ∷ before) rest (after_record histories one g)
      (((one_channel_by_steps History histories).stay g h).behind one) (ap (after_record histories one) so) right.1),
)

begins : (l : ℕ) → l ≤ 10 → (journal newer : List Group) (now : Group) (past : List Group)
    → journal ≡ newer ++ now ∷ past
    → channel_in l (after_line histories now.line (all_given histories past))
    ≡ one_line histories l now.line (one_given histories l (may_take_by histories journal) past)
begins l low journal newer now past is =
    begun_alone histories l low now past
    ∙ ap (one_line histories l now.line) (given_alone histories l low journal (newer ++ now ∷ []) past
    (is ∙ sym (append_assoc newer (now ∷ []) past)))

begun_has : (now : Group) (past : List Group)
    → HasChannels History (after_line histories now.line (all_given histories past))
begun_has now past = line_have histories now.line (all_given histories past) (given_has histories past)

group_right : (journal newer : List Group) (now : Group) (past : List Group) → journal ≡ newer ++ now ∷ past
    → ((l : ℕ) → l ≤ 10 → GroupIsRightOn l (may_take_by histories journal) now past)
    → AreRightRecords now.events (after_line histories now.line (all_given histories past))
group_right journal newer now past is all =
    records_right journal newer now past is [] now.events (after_line histories now.line (all_given histories past))
    (begun_has now past) refl
    (λ l low. subst (AreRightOn l (may_take_by histories journal) past [] now.events)
    (sym (begins l low journal newer now past is)) (all l low))

group_right_on : (l : ℕ) → l ≤ 10 → (journal newer : List Group) (now : Group) (past : List Group)
    → journal ≡ newer ++ now ∷ past
    → AreRightRecords now.events (after_line histories now.line (all_given histories past))
    → GroupIsRightOn l (may_take_by histories journal) now past
group_right_on l low journal newer now past is right =
    subst (AreRightOn l (may_take_by histories journal) past [] now.events) (begins l low journal newer now past is)
    (records_right_on l low journal newer now past is [] now.events
    (after_line histories now.line (all_given histories past)) (begun_has now past) refl right)

pub group_right_on_one_bearer : GroupRightOnOneBearer
group_right_on_one_bearer newer now past = (
  group_right (newer ++ now ∷ past) newer now past refl,
  λ right l low. group_right_on l low (newer ++ now ∷ past) newer now past refl right,
)

-- ---- a journal

all_right : (journal newer past : List Group) → journal ≡ newer ++ past
    → ((l : ℕ) → l ≤ 10 → TakesAreRightOn l (may_take_by histories journal) past) → TakesAreRight past
all_right journal newer [] is all = tt
all_right journal newer (now ∷ past) is all = (
  group_right journal newer now past is (λ l low. (all l low).0),
  all_right journal (newer ++ now ∷ []) past (is ∙ sym (append_assoc newer (now ∷ []) past)) (λ l low. (all l low).1),
)

all_right_on : (l : ℕ) → l ≤ 10 → (journal newer past : List Group) → journal ≡ newer ++ past → TakesAreRight past
    → TakesAreRightOn l (may_take_by histories journal) past
all_right_on l low journal newer [] is right = tt
all_right_on l low journal newer (now ∷ past) is right = (
  group_right_on l low journal newer now past is right.0,
  all_right_on l low journal (newer ++ now ∷ []) past (is ∙ sym (append_assoc newer (now ∷ []) past)) right.1,
)

pub right_on_one_bearer : RightOnOneBearer
right_on_one_bearer past = (
  all_right past [] past refl,
  λ right l low. all_right_on l low past [] past refl right,
)

-- ---- whether something may be taken

waits_in : (side : Side) (l : ℕ) (g : Giving History) → waits_at side l g.waits ≡ waits_on side (channel_in l g)
waits_in Nb l g = refl
waits_in Ue l g = refl

takeable : (l : ℕ) (side : Side) (g : Giving History) (c : OneChannel History) → channel_in l g ≡ c
    → IsTakeable side c (may_take histories (expires side l) g)
takeable l side g c is = record {
  acked = λ b some.
      ap (λ (o : Option (Bearer History)). offers histories side o (waits_at side l g.waits))
      (ap (λ (x : OneChannel History). x.bearer) is ∙ some);
  others = λ none.
      ap (λ (o : Option (Bearer History)). offers histories side o (waits_at side l g.waits))
      (ap (λ (x : OneChannel History). x.bearer) is ∙ none)
      ∙ ap (nat_lt 0) (waits_in side l g ∙ ap (waits_on side) is);
}

none_waits : (side : Side) (l : ℕ) (w : Waits) → length w.nb ≡ 11 → length w.ue ≡ 11 → 10 < l → waits_at side l w ≡ 0
none_waits Nb l w nb ue far = get_or_past w.nb l 0 (omega (arith, nb, far))
none_waits Ue l w nb ue far = get_or_past w.ue l 0 (omega (arith, ue, far))

none_above : (l : ℕ) (side : Side) (g : Giving History) → HasChannels History g → 10 < l
    → may_take histories (expires side l) g ≡ false
none_above l side g h far =
    ap (λ (o : Option (Bearer History)). offers histories side o (waits_at side l g.waits))
    (get_or_past g.bearers l None (omega (arith, h.bearers, far)))
    ∙ ap (nat_lt 0) (none_waits side l g.waits h.nb_waits h.ue_waits far)

pub may_take_by_one_bearer : MayTakeByOneBearer
may_take_by_one_bearer l newer now past before side =
    let journal = newer ++ now ∷ past in
    let may = may_take_by histories (newer ++ now ∷ past) in
    let g = behind_records histories before (after_line histories now.line (all_given histories past)) in
    let c = one_settled histories l (expires side l) (one_behind histories l may past before
    (one_line histories l now.line (one_given histories l may past))) in
    let h = behind_have histories before (after_line histories now.line (all_given histories past))
    (begun_has now past) in
    let there = may_there histories (newer ++ now ∷ past) newer now past refl before (expires side l) in
    record {
      low = λ low. subst (IsTakeable side c) (sym there)
          (takeable l side (settled histories (expires side l) g) c
          (((one_channel_by_steps History histories).alone l g low h).settles (expires side l)
          ∙ ap (one_settled histories l (expires side l))
          ((one_channel_by_groups History histories l newer now past low).before before)));
      above = λ far. there ∙ none_above l side (settled histories (expires side l) g)
          (((one_channel_by_steps History histories).stay g h).settles (expires side l)) far;
    }
