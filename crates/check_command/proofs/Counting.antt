-- A record that is taken is one more.
use Rattle.std.proofs.Common.{◌≡◌, ◌+◌, Bool, true, false, not, ◌&&◌, if◌then◌else◌, List, [], ◌∷◌, ◌++◌, length}
use Rattle.std.proofs.Common.{None, Some, refl, arith}
use Rattle.std.proofs.lemmas.List.{length-append}
use Rattle.air_record.specs.declared.record.Record.{Record}
use Rattle.air_record.specs.declared.record.Record.TheVariants.{Line, Sum}
use Rattle.air_text.specs.Groups.{Group, group_records, history}
use Rattle.journal_check.specs.declared.fault.CheckWhy.TheVariants.{Forged, Order, Rules}
use Rattle.journal_check.specs.Grouped.{GroupedRecords, record_count, group_begun, with_event, with_record, has_any}
use Rattle.journal_check.specs.Grouped.{is_in_order, is_forge, is_by_rules, record_fault}

in-order : (f o b : Bool)
    → (if f then Some Forged else if not o then Some Order else if not b then Some Rules else None) ≡ None → o ≡ true
in-order true o b e = cc
in-order false true b e = refl
in-order false false b e = cc

stands : (r : GroupedRecords) (one : Record) → record_fault r one ≡ None → is_in_order r one ≡ true
stands r one e = in-order (is_forge one) (is_in_order r one) (is_by_rules r one) e

behind-line : (a b : Bool) → (a && b) ≡ true → b ≡ true
behind-line true b e = e
behind-line false b e = cc

with-sums : (front sums : List Record) → length (front ++ sums) ≡ length front + length sums
with-sums front sums = length-append front sums

event-count : (one : Record) (groups : List Group) → has_any groups ≡ true
    → length (history (with_event one groups)) ≡ length (history groups) + 1
event-count one [] e = cc
event-count one (g ∷ past) e =
    let with_it = length-append (history past) (group_records (record g { events = g.events ++ one ∷ [] })) in
    let without = length-append (history past) (group_records g) in
    let events = length-append g.events (one ∷ []) in
    omega (arith, with_it, without, events)

event-more : (one : Record) (r : GroupedRecords) → (not (has_any r.sums) && has_any r.groups) ≡ true
    → length (history (with_event one r.groups) ++ r.sums) ≡ record_count r + 1
event-more one r e =
    let old = with-sums (history r.groups) r.sums in
    let new = with-sums (history (with_event one r.groups)) r.sums in
    let more = event-count one r.groups (behind-line (not (has_any r.sums)) (has_any r.groups) e) in
    omega (arith, old, new, more)

by-order : (r : GroupedRecords) (one : Record) → is_in_order r one ≡ true
    → record_count (with_record one r) ≡ record_count r + 1
by-order r (Line number line) e =
    let old = with-sums (history r.groups) r.sums in
    let new = with-sums (history (group_begun number line ∷ r.groups)) r.sums in
    let more = length-append (history r.groups) (Line number line ∷ []) in
    omega (arith, old, new, more)
by-order r (Sum direction lcid submitted delivered state) e =
    let old = with-sums (history r.groups) r.sums in
    let new = with-sums (history r.groups) (r.sums ++ Sum direction lcid submitted delivered state ∷ []) in
    let more = length-append r.sums (Sum direction lcid submitted delivered state ∷ []) in
    omega (arith, old, new, more)
by-order r one e = event-more one r e

pub one-more : (r : GroupedRecords) (one : Record) → record_fault r one ≡ None
    → record_count (with_record one r) ≡ record_count r + 1
one-more r one e = by-order r one (stands r one e)
