-- Which STATUS PDUs are true, by what is kept of a flow (docs/laws/ACCOUNT.md; TS 36.322 5.2.3).
use Rattle.std.specs.Prelude.{ℕ, ◌+◌, ◌-◌, ◌==◌, Bool, true, false, ◌&&◌, if◌then◌else◌, min, max}
use Rattle.std.specs.Prelude.{nat_le}
use Rattle.std.specs.Prelude.{List, [], ◌∷◌, ◌++◌, take, Option, None, Some, slice_get}
use Rattle.std.specs.Prelude.{option_and_then}
use Rattle.rlc_pdu.specs.declared.pdu.Part.{Part}
use Rattle.rlc_pdu.specs.Runs.{Run, some_run}
use Rattle.journal_account.specs.declared.entry.StatusEntry.{StatusEntry}
use Rattle.journal_account.specs.FlowArrivals.{FieldArrivals, FlowArrivals, open_number}
use Rattle.journal_account.specs.TrueStatus.{said_of}

-- the runs of places that aren't in a set, at or above one and below another
abbrev pub gaps_in : List Run → ℕ → ℕ → List Run
gaps_in [] from size = some_run from size
gaps_in (r ∷ rs) from size = some_run from (min r.from size) ++ gaps_in rs (max from r.to) size

abbrev pub said_of_field : ℕ → FieldArrivals → List StatusEntry
said_of_field n f = said_of n f.size (gaps_in f.came 0 f.size)

-- of the numbers from one on
abbrev pub said_of_fields : ℕ → List FieldArrivals → List StatusEntry
said_of_fields n [] = []
said_of_fields n (f ∷ fs) = said_of_field n f ++ said_of_fields (n + 1) fs

abbrev pub all_said : FlowArrivals → List StatusEntry
all_said a = said_of_fields a.front (take (a.bound - a.front) a.fields)

-- a gap is the whole field
abbrev pub is_all : Option Part → ℕ → Bool
is_all None size = false
is_all (Some gap) size = (gap.start == 0) && nat_le size (gap.end + 1)

-- ---- entries that begin so

abbrev pub is_same_part : Option Part → Option Part → Bool
is_same_part None None = true
is_same_part (Some p) (Some q) = (p.start == q.start) && (p.end == q.end)
is_same_part p q = false

abbrev pub is_same_entry : StatusEntry → StatusEntry → Bool
is_same_entry a b = (a.number == b.number) && is_same_part a.part b.part

abbrev pub begin_so : List StatusEntry → List StatusEntry → Bool
begin_so [] said = true
begin_so (e ∷ es) [] = false
begin_so (e ∷ es) (s ∷ said) = is_same_entry e s && begin_so es said

-- the number behind those that have an entry; they ascend
abbrev pub behind_named : List StatusEntry → ℕ
behind_named [] = 0
behind_named (e ∷ []) = e.number + 1
behind_named (e ∷ f ∷ es) = behind_named (f ∷ es)

abbrev pub is_true_status : ℕ → List StatusEntry → FlowArrivals → Bool
is_true_status ack entries a = begin_so entries (all_said a)
    && (ack == open_number a.front a.fields (behind_named entries))

-- ---- entries from a place on, one by one

-- behind an entry that is wanted; where the entries end, nothing more is wanted
abbrev pub behind_wanted : Option StatusEntry → StatusEntry → ℕ → Option ℕ
behind_wanted None wanted at = Some at
behind_wanted (Some e) wanted at = if is_same_entry e wanted then Some (at + 1) else None

abbrev pub behind_said : List StatusEntry → List StatusEntry → ℕ → Option ℕ
behind_said [] entries at = Some at
behind_said (wanted ∷ more) entries at =
    option_and_then (behind_said more entries) (behind_wanted (slice_get entries at) wanted at)
