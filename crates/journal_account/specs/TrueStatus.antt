-- Which STATUS PDUs are true, by the history of an acknowledged flow (TS 36.322 5.2.3, 6.2.1.6).
use Rattle.std.specs.Prelude.{◌≡◌, ℕ, ◌+◌, ◌-◌, Bool, not, ◌||◌, ◌&&◌, nat_lt, if◌then◌else◌}
use Rattle.std.specs.Prelude.{List, [], ◌∷◌, ◌++◌, map, take, None, Some}
use Rattle.l2_num.specs.Least.{IsLeast}
use Rattle.rlc_pdu.specs.Runs.{Run, AreAscending, has, covers}
use Rattle.journal_account.specs.declared.entry.StatusEntry.{StatusEntry}
use Rattle.journal_account.specs.FlowEvents.{FlowEvent, field_sizes}
use Rattle.journal_account.specs.Arrived.{octet_came, is_complete_in, expired_mark}
use Rattle.journal_account.specs.Entries.{names_number}

-- the octets of a field that haven't come, as the largest runs of them in ascending order: no two
-- touch, so there is one such list
pub record AreMissing (came : ℕ → Bool) (size : ℕ) (runs : List Run) : Type 0 where
  pub ascend : AreAscending 0 runs
  pub are : (i : ℕ) → has runs i ≡ (nat_lt i size && not (came i))

-- a run that reaches the end of the field is written to end at 32767 (6.2.2.18)
abbrev pub range_of : ℕ → ℕ → Run → StatusEntry
range_of n size r = record {
  number = n;
  part = Some (record { start = r.from; end = if nat_lt r.to size then r.to - 1 else 32767 });
}

abbrev pub whole_of : ℕ → StatusEntry
whole_of n = record { number = n; part = None }

-- what a STATUS says of a number: that all of it is missing, or each run that is; of a number that
-- is complete, nothing
abbrev pub said_of : ℕ → ℕ → List Run → List StatusEntry
said_of n size runs =
    if covers runs 0 size then whole_of n ∷ [] else map (range_of n size) runs

-- of the numbers from one on, with fields of these sizes
abbrev pub AreSaid : List FlowEvent → ℕ → List ℕ → List StatusEntry → Type 0
AreSaid es n [] entries = entries ≡ []
AreSaid es n (size ∷ sizes) entries =
    (runs : List Run) × (rest : List StatusEntry) × AreMissing (octet_came es n) size runs
    × (entries ≡ said_of n size runs ++ rest) × AreSaid es (n + 1) sizes rest

-- Its entries are a beginning of what is said of the numbers below VR(MS), and its ACK is the least
-- number that isn't complete and has no entry.
pub record IsTrueStatus (es : List FlowEvent) (ack : ℕ) (entries : List StatusEntry) : Type 0 where
  pub bound : ℕ
  pub bound_is : IsLeast (is_complete_in es) (expired_mark es) bound
  pub rest : List StatusEntry
  pub said : AreSaid es 0 (take bound (field_sizes es)) (entries ++ rest)
  pub ack_is : IsLeast (λ n. is_complete_in es n || names_number entries n) 0 ack
