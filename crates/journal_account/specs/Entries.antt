-- What the entries of a STATUS name (TS 36.322 6.2.1.6, 6.2.2.16 to 6.2.2.18).
use Rattle.std.specs.Prelude.{ℕ, ◌+◌, ◌==◌, Bool, ◌&&◌, nat_le, nat_lt, List, Option, Some, None}
use Rattle.std.specs.Prelude.{min}
use Rattle.std.specs.List.{list_any}
use Rattle.rlc_pdu.specs.declared.pdu.Part.{Part}
use Rattle.journal_account.specs.declared.entry.StatusEntry.{StatusEntry}

abbrev pub names_number : List StatusEntry → ℕ → Bool
names_number entries n = list_any (λ (m : StatusEntry). m.number == n) entries

-- the octets of a number with so many that an entry names: all of them, or those of its range
abbrev pub start_of : Option Part → ℕ
start_of None = 0
start_of (Some p) = p.start

abbrev pub stop_of : Option Part → ℕ → ℕ
stop_of None size = size
stop_of (Some p) size = min (p.end + 1) size

abbrev pub names_octet : List StatusEntry → ℕ → ℕ → ℕ → Bool
names_octet entries size n i = list_any (λ (m : StatusEntry). (m.number == n)
    && (nat_le (start_of m.part) i && nat_lt i (stop_of m.part size))) entries
