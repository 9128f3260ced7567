-- What is kept of records tells which record may follow.
use Rattle.std.proofs.Common.{◌≡◌, ◌+◌, ℕ, Bool, true, false, not, ◌&&◌, nat_lt, if◌then◌else◌, List, []}
use Rattle.std.proofs.Common.{◌∷◌, ◌++◌, length, Option, Some, None, refl, ap, sym, subst, arith, ◌∙◌, Err}
use Rattle.std.proofs.lemmas.Bool.Decides.{nat_tests}
use Rattle.std.proofs.lemmas.List.{length-append}
use Rattle.std.specs.List.{list_all}
use Rattle.air_record.specs.declared.record.Record.{Record}
use Rattle.air_record.specs.declared.record.Record.TheVariants.{Line, Sum}
use Rattle.air_record.specs.declared.line.Line.{Line as Lines}
use Rattle.air_text.specs.Groups.{Group, group_records, history}
use Rattle.journal_check.specs.declared.fault.CheckFault.{CheckFault}
use Rattle.journal_check.specs.declared.fault.CheckFault.TheVariants.{Refused}
use Rattle.journal_check.specs.declared.fault.CheckWhy.{CheckWhy}
use Rattle.journal_check.specs.declared.fault.CheckWhy.TheVariants.{Forged, Order, Rules}
use Rattle.journal_check.specs.Checks.{TellsLines, TellsRecords, AdmitsNext}
use Rattle.journal_check.specs.Grouped.{GroupedRecords, no_records, record_count, group_begun, with_event, with_record}
use Rattle.journal_check.specs.Grouped.{has_any, is_in_order, is_forge, is_by_rules, record_fault}
use Rattle.journal_check.specs.States.{LinesState, OrderState, no_order, is_above, line_fault, fault_by}
use Rattle.journal_check.specs.States.{HasRecordPlace, behind_one, behind_record}
use Rattle.journal_check.proofs.KeptLines.{admits_kept, tells_none, tells_more, tells_still}

-- ---- why a record may not follow

flip : (b : Bool) → (if b then None else Some Order) ≡ (if not b then Some Order else None)
flip true = refl
flip false = refl

pub fault_told : (r : GroupedRecords) (o : OrderState) (one : Record) → TellsRecords r o
    → fault_by o one ≡ record_fault r one
unfolding fault_by line_fault
fault_told r o (Line number line) t =
    rw (t.ended, sym (t.numbers number), admits_kept r.groups o.lines line t.lines) refl
fault_told r o (Sum direction lcid submitted delivered state) t = refl
fault_told r o one t = rw (t.ended, t.begun) (flip (not (has_any r.sums) && has_any r.groups))

-- ---- a record that may follow

pub record Follows (r : GroupedRecords) (one : Record) : Type 0 where
  pub unforged : is_forge one ≡ false
  pub in_order : is_in_order r one ≡ true
  pub by_rules : is_by_rules r one ≡ true

pub follows : (r : GroupedRecords) (one : Record) → record_fault r one ≡ None → Follows r one
follows r one h = by (is_forge one) (is_in_order r one) (is_by_rules r one) refl refl refl h
  where
    by : (f o b : Bool) → is_forge one ≡ f → is_in_order r one ≡ o → is_by_rules r one ≡ b
        → (if f then Some Forged else if not o then Some Order else if not b then Some Rules else None) ≡ None
        → Follows r one
    by false true true f o b e = record { unforged = f; in_order = o; by_rules = b }
    by true o b _ _ _ e = cc
    by false false b _ _ _ e = cc
    by false true false _ _ _ e = cc

and-second : (a b : Bool) → (a && b) ≡ true → b ≡ true
and-second true b e = e
and-second false b e = cc

-- ---- a group, or an event, more

above-more : (groups : List Group) (last : Option ℕ) (number n : ℕ)
    → ((m : ℕ) → list_all (λ g. nat_lt g.number m) groups ≡ is_above m last)
    → list_all (λ g. nat_lt g.number number) groups ≡ true
    → (nat_lt number n && list_all (λ g. nat_lt g.number n) groups) ≡ nat_lt number n
above-more groups last number n h above = by last (nat_lt number n) refl (sym (h number) ∙ above)
  where
    by : (l : Option ℕ) (b : Bool) → nat_lt number n ≡ b → is_above number last ≡ true
        → (b && list_all (λ g. nat_lt g.number n) groups) ≡ b
    by l false e a = refl
    by l true e a = h n ∙ still last e a
      where
        still : (l : Option ℕ) → nat_lt number n ≡ true → is_above number l ≡ true → is_above n l ≡ true
        still None e a = refl
        still (Some m) e a = grind (arith, nat_tests)

event-numbers : (one : Record) (groups : List Group) (n : ℕ)
    → list_all (λ g. nat_lt g.number n) (with_event one groups) ≡ list_all (λ g. nat_lt g.number n) groups
event-numbers one [] n = refl
event-numbers one (g ∷ past) n = refl

event-begun : (one : Record) (groups : List Group) → has_any (with_event one groups) ≡ has_any groups
event-begun one [] = refl
event-begun one (g ∷ past) = refl

event-lines : (one : Record) (groups : List Group) (s : LinesState) → TellsLines groups s
    → TellsLines (with_event one groups) s
event-lines one [] s t = t
event-lines one (g ∷ past) s t = tells_still g (g.events ++ one ∷ []) past s t

event-count : (one : Record) (groups : List Group) → has_any groups ≡ true
    → length (history (with_event one groups)) ≡ length (history groups) + 1
event-count one [] e = cc
event-count one (g ∷ past) e =
    let with_it = length-append (history past) (group_records (record g { events = g.events ++ one ∷ [] })) in
    let without = length-append (history past) (group_records g) in
    let events = length-append g.events (one ∷ []) in
    omega (arith, with_it, without, events)

-- ---- counts

counted : (front back : List Record) → length (front ++ back) ≡ length front + length back
counted front back = length-append front back

line-count : (number : ℕ) (line : Lines) (r : GroupedRecords)
    → record_count (with_record (Line number line) r) ≡ record_count r + 1
line-count number line r =
    let old = counted (history r.groups) r.sums in
    let new = counted (history (group_begun number line ∷ r.groups)) r.sums in
    let more = counted (history r.groups) (Line number line ∷ []) in
    omega (arith, old, new, more)

sum-count : (one : Record) (r : GroupedRecords) → length (history r.groups ++ (r.sums ++ one ∷ [])) ≡ record_count r + 1
sum-count one r =
    let old = counted (history r.groups) r.sums in
    let new = counted (history r.groups) (r.sums ++ one ∷ []) in
    let more = counted r.sums (one ∷ []) in
    omega (arith, old, new, more)

pub any-more : (sums : List Record) (one : Record) → has_any (sums ++ one ∷ []) ≡ true
any-more [] one = refl
any-more (s ∷ sums) one = refl

event-told : (r : GroupedRecords) (o : OrderState) (one : Record) → TellsRecords r o → has_any r.groups ≡ true
    → TellsRecords (record r { groups = with_event one r.groups }) (behind_one o)
event-told r o one t begun = record {
  count = let old = counted (history r.groups) r.sums in
      let new = counted (history (with_event one r.groups)) r.sums in
      let more = event-count one r.groups begun in
      let was = t.count in
      omega (arith, old, new, more, was);
  numbers = λ n. event-numbers one r.groups n ∙ t.numbers n;
  begun = t.begun ∙ sym (event-begun one r.groups);
  ended = t.ended;
  lines = event-lines one r.groups o.lines t.lines;
}

-- ---- what is kept tells of the records

pub tells_nothing : TellsRecords no_records no_order
unfolding no_order
tells_nothing = record {
  count = refl;
  numbers = λ n. refl;
  begun = refl;
  ended = refl;
  lines = tells_none;
}

more-told : (r : GroupedRecords) (o : OrderState) (one : Record) → TellsRecords r o → Follows r one
    → HasRecordPlace one → TellsRecords (with_record one r) (behind_record one o)
unfolding behind_record
more-told r o (Line number line) t f place = record {
  count = ap (λ n. n + 1) t.count ∙ sym (line-count number line r);
  numbers = λ n. above-more r.groups o.last number n t.numbers
      (and-second (not (has_any r.sums)) (list_all (λ g. nat_lt g.number number) r.groups) f.in_order);
  begun = refl;
  ended = t.ended;
  lines = tells_more (group_begun number line) r.groups o.lines t.lines place f.unforged;
}
more-told r o (Sum direction lcid submitted delivered state) t f place = record {
  count = ap (λ n. n + 1) t.count ∙ sym (sum-count (Sum direction lcid submitted delivered state) r);
  numbers = t.numbers;
  begun = t.begun;
  ended = sym (any-more r.sums (Sum direction lcid submitted delivered state));
  lines = t.lines;
}
more-told r o one t f place =
    event-told r o one t (and-second (not (has_any r.sums)) (has_any r.groups) f.in_order)

pub told_more : (r : GroupedRecords) (o : OrderState) (one : Record) → TellsRecords r o
    → record_fault r one ≡ None → HasRecordPlace one → TellsRecords (with_record one r) (behind_record one o)
told_more r o one t allowed place = more-told r o one t (follows r one allowed) place

-- ---- the answer to a record

pub refuses : (r : GroupedRecords) (o : OrderState) (one : Record) (found : Option CheckWhy) (why : CheckWhy)
    (fault : CheckFault) → TellsRecords r o → found ≡ fault_by o one → found ≡ Some why
    → fault ≡ Refused (o.count + 1) why → AdmitsNext r one (Err fault) o
refuses r o one found why fault t by there is =
    subst (λ (f : CheckFault). AdmitsNext r one (Err f) o) (sym is)
    (ap (λ n. n + 1) t.count, sym (fault_told r o one t) ∙ sym by ∙ there)

pub lets_stand : (r : GroupedRecords) (o new : OrderState) (one : Record) (found : Option CheckWhy)
    → TellsRecords r o → found ≡ fault_by o one → found ≡ None → new ≡ behind_record one o → HasRecordPlace one
    → (record_fault r one ≡ None) × TellsRecords (with_record one r) new
lets_stand r o new one found t by none is place =
    let allowed : record_fault r one ≡ None = sym (fault_told r o one t) ∙ sym by ∙ none in
    (allowed, subst (TellsRecords (with_record one r)) (sym is) (told_more r o one t allowed place))
