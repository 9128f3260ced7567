-- The records of a journal so far, in groups (docs/formats/JOURNAL.md), and where the next may
-- stand.
use Rattle.std.specs.Prelude.{ℕ, Bool, true, false, not, ◌&&◌, nat_lt, if◌then◌else◌}
use Rattle.std.specs.Prelude.{List, [], ◌∷◌, ◌++◌, length, Option, None, Some}
use Rattle.std.specs.List.{list_all}
use Rattle.air_record.specs.declared.line.Line.{Line}
use Rattle.air_record.specs.declared.record.Record.{Record}
use Rattle.air_record.specs.declared.record.Record.TheVariants as records
use Rattle.air_text.specs.Groups.{Group, history}
use Rattle.promises.specs.Delivery.{forges}
use Rattle.journal_check.specs.declared.fault.CheckWhy.{CheckWhy}
use Rattle.journal_check.specs.declared.fault.CheckWhy.TheVariants.{Forged, Order, Rules}
use Rattle.promises.specs.LineRules.{keeps_rules}

-- groups, of which the newest stands first, and behind them the sums
pub record GroupedRecords : Type 0 where
  pub groups : List Group
  pub sums : List Record

abbrev pub no_records : GroupedRecords
no_records = record { groups = []; sums = [] }

abbrev pub all_records : GroupedRecords → List Record
all_records r = history r.groups ++ r.sums

-- how many records there are, which is how many lines of the journal were read
abbrev pub record_count : GroupedRecords → ℕ
record_count r = length (all_records r)

-- ---- a record more

abbrev pub group_begun : ℕ → Line → Group
group_begun number line = record { number = number; line = line; events = [] }

-- in the newest group
abbrev pub with_event : Record → List Group → List Group
with_event one [] = []
with_event one (g ∷ past) = record g { events = g.events ++ one ∷ [] } ∷ past

abbrev pub with_record : Record → GroupedRecords → GroupedRecords
with_record (records.Line number line) r =
    record r { groups = group_begun number line ∷ r.groups }
with_record (records.Sum direction lcid submitted delivered state) r =
    record r { sums = r.sums ++ records.Sum direction lcid submitted delivered state ∷ [] }
with_record one r = record r { groups = with_event one r.groups }

-- ---- where a record may stand

abbrev pub has_any : {A : Type 0} → List A → Bool
has_any [] = false
has_any (x ∷ xs) = true

-- behind a sum only sums; the numbers of lines grow; every other record is of a line
abbrev pub is_in_order : GroupedRecords → Record → Bool
is_in_order r (records.Line number line) =
    not (has_any r.sums) && list_all (λ g. nat_lt g.number number) r.groups
is_in_order r (records.Sum direction lcid submitted delivered state) = true
is_in_order r one = not (has_any r.sums) && has_any r.groups

abbrev pub is_forge : Record → Bool
is_forge (records.Line number line) = forges line
is_forge one = false

abbrev pub is_by_rules : GroupedRecords → Record → Bool
is_by_rules r (records.Line number line) = keeps_rules r.groups line
is_by_rules r one = true

-- why a record may not stand behind others: the first of these that is true
abbrev pub record_fault : GroupedRecords → Record → Option CheckWhy
record_fault r one =
    if is_forge one then Some Forged
    else if not (is_in_order r one) then Some Order
    else if not (is_by_rules r one) then Some Rules
    else None
