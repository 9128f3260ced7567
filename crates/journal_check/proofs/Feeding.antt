-- What is answered to a record behind others, by what is kept of them.
use Rattle.std.proofs.Common.{◌≡◌, ◌<◌, inl, inr, ◌+◌, ℕ, Bool, true, false, not, ◌&&◌, if◌then◌else◌, is_some, List}
use Rattle.std.proofs.Common.{[]}
use Rattle.std.proofs.Common.{◌∷◌, ◌++◌, length, drop, Option, Some, None, Result, Ok, Err, refl, ap, sym, ◌∙◌, subst}
use Rattle.std.proofs.Common.{arith}
use Rattle.std.specs.Prelude.{OnOk}
use Rattle.std.proofs.Math.Bool.{and-true, and-false}
use Rattle.std.proofs.lemmas.Bool.{and_parts}
use Rattle.std.proofs.lemmas.List.Elements.{All-from_recursion}
use Rattle.mac_pdu.specs.declared.item.Direction.{Direction}
use Rattle.bearer_types.specs.declared.config.BearerConfig.{BearerConfig}
use Rattle.bearer_types.specs.Sides.{sender_of}
use Rattle.air_record.specs.declared.line.Line.{Line}
use Rattle.air_record.specs.declared.record.Record.{Record}
use Rattle.air_record.specs.declared.record.Record.TheVariants as records
use Rattle.air_record.specs.declared.record.State.{State}
use Rattle.air_text.specs.Groups.{Group}
use Rattle.promises.specs.Configs.{config_of}
use Rattle.journal_form.specs.Lines.{HasLayout}
use Rattle.journal_flows.specs.Accounts.{Keeping}
use Rattle.journal_given.specs.Giving.{Giving}
use Rattle.journal_takes.specs.FlowTakes.{FlowTakes}
use Rattle.journal_edge.specs.EdgeChecking.{is_state, all_beside}
use Rattle.journal_check.specs.declared.fault.CheckFault.{CheckFault}
use Rattle.journal_check.specs.declared.fault.CheckFault.TheVariants.{Refused, NoMemory}
use Rattle.journal_check.specs.declared.fault.CheckWhy.{CheckWhy}
use Rattle.journal_check.specs.declared.fault.CheckWhy.TheVariants as words
use Rattle.journal_check.specs.declared.limits.TheConstants.{MOST_RECORDS}
use Rattle.journal_check.specs.Checks.{IsTextOf, TellsRecords, AdmitsNext}
use Rattle.journal_check.specs.Checked.{CheckerState, is_open, ends_groups, ends_group, groups_ended, AreRuled, HasFed}
use Rattle.journal_check.specs.Checked.{judging_in, GroupHolds, IsBehindFault, Closes}
use Rattle.journal_check.specs.Grouped.{GroupedRecords, no_records, record_count, group_begun, with_event, with_record}
use Rattle.journal_check.specs.Grouped.{has_any, record_fault}
use Rattle.journal_check.specs.Judging.{Judging, nothing_judged, judging_line, judging_record}
use Rattle.journal_check.specs.Judging.{judging_end, all_judging, word_of}
use Rattle.promises.specs.LineRules.{has_bearer}
use Rattle.journal_check.specs.Soundness.{may_take, Holds, group_words, AllHold, sum_fault_by}
use Rattle.journal_check.specs.Soundness.{sum_fault}
use Rattle.journal_check.specs.States.{OrderState, is_running, is_set}
use Rattle.journal_check.specs.Steps.{Finds, is_ended_by, ended_if, word_if, HasRecordLayout, with_told, state_word}
use Rattle.journal_check.specs.Steps.{sum_word, Stands, TakesText}
use Rattle.journal_check.proofs.Folds.{records_more}
use Rattle.journal_check.proofs.Losses.{state_is}
use Rattle.journal_check.proofs.MayTakes.{says}
use Rattle.journal_check.proofs.Shared.{all_shared}
use Rattle.journal_check.proofs.Standing.{Follows, follows, any-more}
use Rattle.journal_check.proofs.Verdicts.{all_right, first_fails}

-- ---- the group that runs

running_is : (r : GroupedRecords) (o : OrderState) → TellsRecords r o → is_running o ≡ is_open r
running_is r o t = ap (λ (b : Bool). b && not o.ended) t.begun ∙ ap (λ (b : Bool). has_any r.groups && not b) t.ended

ended_is : (r : GroupedRecords) (o : OrderState) (one : Record) → TellsRecords r o
    → is_ended_by o one ≡ ends_group r one
ended_is r o one t = ap (λ (b : Bool). b && ends_groups one) (running_is r o t)

open_any : (r : GroupedRecords) → is_open r ≡ true → has_any r.groups ≡ true
open_any r e = (and_parts (has_any r.groups) (not (has_any r.sums)) e).0

-- its end is judged
end_all : (runs : Bool) (groups : List Group) → runs ≡ true → has_any groups ≡ true
    → judging_end (judging_in runs groups) ≡ all_judging groups
end_all true [] e any = cc
end_all true (now ∷ past) e any = refl
end_all false groups e any = cc

judges_all : (r : GroupedRecords) (c : CheckerState) → HasFed r c → is_open r ≡ true
    → judging_end c.judging ≡ all_judging r.groups
judges_all r c h runs = ap judging_end h.judging ∙ end_all (is_open r) r.groups runs (open_any r runs)

group_word : (r : GroupedRecords) (c : CheckerState) (one : Record) → HasFed r c → ends_group r one ≡ true
    → word_of (judging_end c.judging) ≡ word_of (all_judging r.groups)
group_word r c one h ends = ap word_of (judges_all r c h (and_parts (is_open r) (ends_groups one) ends).0)

group_refused : (r : GroupedRecords) (c : CheckerState) (one : Record) (at : ℕ) (why : CheckWhy) → HasFed r c
    → at ≡ c.order.count → word_if (is_ended_by c.order one) c.judging ≡ Some why → IsBehindFault r one at why
group_refused r c one at why h at_is told =
    by (ends_group r one) refl (ap (λ (b : Bool). word_if b c.judging) (sym (ended_is r c.order one h.order)) ∙ told)
  where
    by : (b : Bool) → ends_group r one ≡ b → word_if b c.judging ≡ Some why → IsBehindFault r one at why
    by true ends e = record {
      at_is = at_is ∙ h.order.count;
      ends = ends;
      fails = first_fails r.groups why h.ruled (sym (group_word r c one h ends) ∙ e);
    }
    by false ends e = cc

group_holds : (r : GroupedRecords) (c : CheckerState) (one : Record) → HasFed r c
    → word_if (is_ended_by c.order one) c.judging ≡ None → GroupHolds r one
group_holds r c one h none ends =
    all_right r.groups h.ruled (sym (group_word r c one h ends)
    ∙ ap (λ (b : Bool). word_if b c.judging) (sym ends ∙ sym (ended_is r c.order one h.order)) ∙ none)

-- all groups are right where a record has ended the last
hold_by : (runs : Bool) (groups : List Group) → AllHold (if runs then drop 1 groups else groups)
    → (runs ≡ true → AllHold groups) → AllHold groups
hold_by true groups ended last = last refl
hold_by false groups ended last = ended

hold_all : (r : GroupedRecords) (one : Record) → ends_groups one ≡ true → AllHold (groups_ended r)
    → GroupHolds r one → AllHold r.groups
hold_all r one ends ended last =
    hold_by (is_open r) r.groups ended
    (λ runs. last (ap (λ (b : Bool). b && ends_groups one) runs ∙ ends))

-- ---- what is kept behind the end of the group, and behind a record

-- as it stands when the record is told
abbrev pub admitted : Record → OrderState → CheckerState → CheckerState
admitted one o c = record c { order = o; judging = ended_if (is_ended_by c.order one) c.judging }

settled_by : (runs : Bool) (groups : List Group) → (runs ≡ true → has_any groups ≡ true)
    → ended_if runs (judging_in runs groups) ≡ all_judging groups
settled_by true [] any = let no : false ≡ true = any refl in cc
settled_by false [] any = refl
settled_by true (now ∷ past) any = refl
settled_by false (now ∷ past) any = refl

settled : (r : GroupedRecords) (c : CheckerState) (one : Record) (o : OrderState) → ends_groups one ≡ true → HasFed r c
    → (admitted one o c).judging ≡ all_judging r.groups
settled r c one o ends h =
    ap (λ (b : Bool). ended_if b c.judging) (ended_is r c.order one h.order
    ∙ ap (λ (b : Bool). is_open r && b) ends ∙ and-true (is_open r))
    ∙ ap (ended_if (is_open r)) h.judging
    ∙ settled_by (is_open r) r.groups (open_any r)

unsettled : (r : GroupedRecords) (c : CheckerState) (one : Record) (o : OrderState) → ends_groups one ≡ false
    → HasFed r c
    → (admitted one o c).judging ≡ c.judging
unsettled r c one o ends h =
    ap (λ (b : Bool). ended_if b c.judging) (ap (λ (b : Bool). is_running c.order && b) ends
    ∙ and-false (is_running c.order))

-- ---- a line

line_fed : (r : GroupedRecords) (c : CheckerState) (number : ℕ) (line : Line) (o : OrderState) → HasFed r c
    → Follows r (records.Line number line) → HasLayout line → GroupHolds r (records.Line number line)
    → TellsRecords (with_record (records.Line number line) r) o
    → HasFed (with_record (records.Line number line) r)
    (with_told (records.Line number line) (admitted (records.Line number line) o c))
line_fed r c number line o h f lay group tells =
    let one = records.Line number line in
    let runs : is_open (with_record (records.Line number line) r) ≡ true =
    (and_parts (not (has_any r.sums)) _ f.in_order).0 in
    record {
      order = tells;
      ruled = (lay, f.by_rules, h.ruled);
      judging = ap (judging_line line) (settled r c (records.Line number line) o refl h)
          ∙ ap (λ (b : Bool). judging_in b (group_begun number line ∷ r.groups)) (sym runs);
      hold = subst (λ (b : Bool). AllHold (if b then r.groups else group_begun number line ∷ r.groups)) (sym runs)
          (hold_all r (records.Line number line) refl h.hold group);
      lines = let was = h.lines in omega arith;
      fault = h.fault;
    }

-- ---- a sum

closed_all : (groups : List Group) → all_judging groups ≡ judging_in false groups
closed_all [] = refl
closed_all (now ∷ past) = refl

sum_fed : (r : GroupedRecords) (c : CheckerState) (one : Record) (o : OrderState) → ends_groups one ≡ true → HasFed r c
    → GroupHolds r one → TellsRecords (record r { sums = r.sums ++ one ∷ [] }) o
    → HasFed (record r { sums = r.sums ++ one ∷ [] }) (admitted one o c)
sum_fed r c one o ends h group tells =
    let shut : is_open (record r { sums = r.sums ++ one ∷ [] }) ≡ false =
    ap (λ (b : Bool). has_any r.groups && not b) (any-more r.sums one) ∙ and-false (has_any r.groups) in
    record {
      order = tells;
      ruled = h.ruled;
      judging = settled r c one o ends h ∙ closed_all r.groups
          ∙ ap (λ (b : Bool). judging_in b r.groups) (sym shut);
      hold = subst (λ (b : Bool). AllHold (if b then drop 1 r.groups else r.groups)) (sym shut)
          (hold_all r one ends h.hold group);
      lines = h.lines;
      fault = h.fault;
    }

-- what isn't right of it
sum_by : (o : Option BearerConfig) (direction : Direction) (lcid : ℕ) (state : State) (past : List Group)
    → AreRuled past → config_of lcid past ≡ o
    → (if not (is_some o) then Some words.Sent
    else if is_state direction lcid state (all_beside (may_take past) past).kept then None else Some words.Edge)
    ≡ sum_fault_by o (sender_of direction) lcid state past
sum_by None direction lcid state past ruled is = refl
sum_by (Some config) direction lcid state past ruled is =
    ap (λ (b : Bool). if b then None else Some words.Edge) (state_is past direction lcid config state ruled is)

state_told : (r : GroupedRecords) (c : CheckerState) (direction : Direction) (lcid : ℕ) (state : State)
    → AreRuled r.groups → is_set lcid c.order.lines.bearers ≡ has_bearer lcid r.groups
    → c.judging ≡ all_judging r.groups
    → state_word direction lcid state c
    ≡ sum_fault_by (config_of lcid r.groups) (sender_of direction) lcid state r.groups
state_told r c direction lcid state ruled bearer judging =
    ap (λ (b : Bool). if not b then Some words.Sent
    else if is_state direction lcid state c.judging.sends.given.kept then None else Some words.Edge) bearer
    ∙ ap (λ (k : Keeping). if not (has_bearer lcid r.groups) then Some words.Sent
    else if is_state direction lcid state k then None else Some words.Edge)
    (ap (λ (j : Judging). j.sends.given.kept) judging
    ∙ ap (λ (g : Giving FlowTakes). g.kept) (all_shared (may_take r.groups) r.groups (says r.groups)).given)
    ∙ sum_by (config_of lcid r.groups) direction lcid state r.groups ruled refl

sum_told : (r : GroupedRecords) (c : CheckerState) (one : Record) (o : OrderState) → HasFed r c
    → TellsRecords (with_record one r) o → sum_word one (admitted one o c) ≡ sum_fault r.groups one
sum_told r c (records.Sum direction lcid submitted delivered state) o h tells =
    state_told r (admitted (records.Sum direction lcid submitted delivered state) o c) direction lcid state h.ruled
    (tells.lines.bearers lcid) (settled r c (records.Sum direction lcid submitted delivered state) o refl h)
sum_told r c one o h tells = refl

-- ---- another record

event_ruled : (one : Record) (groups : List Group) → AreRuled groups → AreRuled (with_event one groups)
event_ruled one [] h = tt
event_ruled one (now ∷ past) h = (h.0, h.1, h.2)

event_judged : (one : Record) (groups : List Group) → has_any groups ≡ true
    → judging_record one (judging_in true groups) ≡ judging_in true (with_event one groups)
event_judged one [] any = cc
event_judged one (now ∷ past) any = sym (records_more now.events one (judging_line now.line (all_judging past)))

event_any : (one : Record) (groups : List Group) → has_any (with_event one groups) ≡ has_any groups
event_any one [] = refl
event_any one (now ∷ past) = refl

event_past : (one : Record) (groups : List Group) → drop 1 (with_event one groups) ≡ drop 1 groups
event_past one [] = refl
event_past one (now ∷ past) = refl

event_length : (one : Record) (groups : List Group) → length (with_event one groups) ≡ length groups
event_length one [] = refl
event_length one (now ∷ past) = refl

event_fed : (r : GroupedRecords) (c : CheckerState) (one : Record) (o : OrderState) → ends_groups one ≡ false
    → HasFed r c → is_open r ≡ true → TellsRecords (record r { groups = with_event one r.groups }) o
    → HasFed (record r { groups = with_event one r.groups })
    (record (admitted one o c) { judging = judging_record one (admitted one o c).judging })
event_fed r c one o ends h runs tells =
    let still : is_open (record r { groups = with_event one r.groups }) ≡ true =
    ap (λ (b : Bool). b && not (has_any r.sums)) (event_any one r.groups) ∙ runs in
    record {
      order = tells;
      ruled = event_ruled one r.groups h.ruled;
      judging = ap (judging_record one) (unsettled r c one o ends h ∙ h.judging
          ∙ ap (λ (b : Bool). judging_in b r.groups) runs)
          ∙ event_judged one r.groups (open_any r runs)
          ∙ ap (λ (b : Bool). judging_in b (with_event one r.groups)) (sym still);
      hold = subst AllHold
          (ap (λ (b : Bool). if b then drop 1 r.groups else r.groups) runs ∙ sym (event_past one r.groups)
          ∙ ap (λ (b : Bool). if b then drop 1 (with_event one r.groups) else with_event one r.groups) (sym still))
          h.hold;
      lines = h.lines ∙ sym (event_length one r.groups);
      fault = h.fault;
    }

event_open : (r : GroupedRecords) → (not (has_any r.sums) && has_any r.groups) ≡ true → is_open r ≡ true
event_open r e =
    let p = and_parts (not (has_any r.sums)) (has_any r.groups) e in
    ap (λ (b : Bool). b && not (has_any r.sums)) p.1 ∙ p.0

-- ---- any record

record_fed : (r : GroupedRecords) (c : CheckerState) (one : Record) (o : OrderState) → HasFed r c
    → record_fault r one ≡ None → HasRecordLayout one → GroupHolds r one → TellsRecords (with_record one r) o
    → HasFed (with_record one r) (with_told one (admitted one o c))
record_fed r c (records.Line number line) o h allowed lay group tells =
    line_fed r c number line o h (follows r (records.Line number line) allowed) lay group tells
record_fed r c (records.Sum direction lcid submitted delivered state) o h allowed lay group tells =
    sum_fed r c (records.Sum direction lcid submitted delivered state) o refl h group tells
record_fed r c one o h allowed lay group tells =
    event_fed r c one o refl h (event_open r (follows r one allowed).in_order) tells

answers : (r : GroupedRecords) (c new : CheckerState) (one : Record) (o : OrderState)
    (result : Result Unit CheckFault) → HasFed r c → HasRecordLayout one → GroupHolds r one
    → record_fault r one ≡ None → TellsRecords (with_record one r) o → o.count ≡ c.order.count + 1
    → Finds o.count (sum_word one (admitted one o c)) result
    → OnOk result (new ≡ with_told one (admitted one o c)) → Stands r one result new
answers r c new one o (Ok u) h lay group allowed tells count finds told = record {
  group = group;
  place = allowed;
  sum = sym (sum_told r c one o h tells) ∙ finds;
  fed = subst (HasFed (with_record one r)) (sym told) (record_fed r c one o h allowed lay group tells);
}
answers r c new one o (Err (Refused at why)) h lay group allowed tells count finds told = inr (record {
  at_is = finds.0 ∙ count ∙ ap (λ (n : ℕ). n + 1) h.order.count;
  group = group;
  fault = inr (allowed, sym (sum_told r c one o h tells) ∙ finds.1);
})
answers r c new one o (Err NoMemory) h lay group allowed tells count finds told = tt

-- it is told by what is kept then
pub is_told_so : (r : GroupedRecords) (c kept new : CheckerState) (one : Record) (o : OrderState)
    (result : Result Unit CheckFault) → HasFed r c → HasRecordLayout one
    → word_if (is_ended_by c.order one) c.judging ≡ None → kept ≡ admitted one o c
    → (record_fault r one ≡ None) × TellsRecords (with_record one r) o → o.count ≡ c.order.count + 1
    → Finds o.count (sum_word one kept) result → OnOk result (new ≡ with_told one kept) → Stands r one result new
is_told_so r c kept new one o result h lay none same allowed count finds told =
    answers r c new one o result h lay (group_holds r c one h none) allowed.0 allowed.1 count
    (subst (λ (s : CheckerState). Finds o.count (sum_word one s) result) same finds)
    (subst (λ (s : CheckerState). OnOk result (new ≡ with_told one s)) same told)

-- it isn't told: the group that it ends, or the record itself is refused

pub group_stops : (r : GroupedRecords) (c new : CheckerState) (one : Record) (fault : CheckFault) → HasFed r c
    → Finds c.order.count (word_if (is_ended_by c.order one) c.judging) (Err fault) → Stands r one (Err fault) new
group_stops r c new one (Refused at why) h finds = inl (group_refused r c one at why h finds.0 finds.1)
group_stops r c new one NoMemory h finds = tt

pub place_stops : (r : GroupedRecords) (c new : CheckerState) (one : Record) (o : OrderState) (fault : CheckFault)
    → HasFed r c → word_if (is_ended_by c.order one) c.judging ≡ None → AdmitsNext r one (Err fault) o
    → Stands r one (Err fault) new
place_stops r c new one o (Refused at why) h none refused =
    inr (record { at_is = refused.0; group = group_holds r c one h none; fault = inl refused.1 })
place_stops r c new one o NoMemory h none refused = tt

-- ---- a text, by its record

pub text_told : (r : GroupedRecords) (text : List ℕ) (one : Record) (new : CheckerState)
    (result : Result Unit CheckFault) → record_count r < MOST_RECORDS → IsTextOf text one → Stands r one result new
    → TakesText r text result new
text_told r text one new (Ok u) few is s = record {
  one = one;
  taken = record { few = few; text_is = is; group = s.group; place = s.place; sum = s.sum };
  fed = s.fed;
}
text_told r text one new (Err (Refused at why)) few is s =
    inr (record { one = one; few = few; text_is = is; refused = s })
text_told r text one new (Err NoMemory) few is s = tt

-- ---- no record

none_hold : AllHold []
none_hold = All-from_recursion (λ w. Holds w []) group_words (
  record { takes = tt; sdus = tt; signals = tt; pdus = tt },
  (tt, (tt, (tt, ((tt, tt), (tt, (record { blocks = tt; shapes = tt }, tt)))))),
)

pub none_fed : (c : CheckerState) → TellsRecords no_records c.order → c.judging ≡ nothing_judged → c.lines ≡ 0
    → c.fault ≡ None → HasFed no_records c
none_fed c tells judging lines fault = record {
  order = tells;
  ruled = tt;
  judging = judging;
  hold = none_hold;
  lines = lines;
  fault = fault;
}

-- ---- the end

running_open : (r : GroupedRecords) (c : CheckerState) → HasFed r c → is_running c.order ≡ true → is_open r ≡ true
running_open r c h running = sym (running_is r c.order h.order) ∙ running

pub end_stops : (r : GroupedRecords) (c : CheckerState) (fault : CheckFault) → HasFed r c → is_running c.order ≡ true
    → Finds c.order.count (word_of (judging_end c.judging)) (Err fault) → Closes r (Err fault)
end_stops r c (Refused at why) h running finds =
    let runs = running_open r c h running in
    record {
      at_is = finds.0 ∙ h.order.count;
      runs = runs;
      fails = first_fails r.groups why h.ruled (sym (ap word_of (judges_all r c h runs)) ∙ finds.1);
    }
end_stops r c NoMemory h running finds = tt

pub end_judged : (r : GroupedRecords) (c : CheckerState) (lines : ℕ) → HasFed r c
    → word_of (judging_end c.judging) ≡ None → lines ≡ c.lines → Closes r (Ok lines)
end_judged r c lines h none same = (
  same ∙ h.lines,
  λ runs. all_right r.groups h.ruled (sym (ap word_of (judges_all r c h runs)) ∙ none),
)
