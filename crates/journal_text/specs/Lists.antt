-- The lengths and the entries of a STATUS in a record's text (docs/formats/JOURNAL.md).
use Rattle.std.specs.Prelude.{ℕ, List, [], ◌∷◌, ◌++◌, codes, Option, None, Some, Result, Ok}
use Rattle.std.specs.Prelude.{if◌then◌else◌}
use Rattle.std.specs.Str.{bytes_eq}
use Rattle.rlc_pdu.specs.declared.pdu.Part.{Part}
use Rattle.rlc_pdu.specs.declared.pdu.Nack.{Nack}
use Rattle.journal_text.specs.declared.fault.TextFault.{TextFault}
use Rattle.journal_text.specs.Answers.{none, ◌>>=◌}
use Rattle.journal_text.specs.Pieces.{before, behind, pieces}
use Rattle.journal_text.specs.Fields.{number_to}

-- numbers, behind those that were read
unfoldable pub numbers_of : List ℕ → List (List ℕ) → Result (List ℕ) TextFault
numbers_of read [] = Ok read
numbers_of read (w ∷ ws) = number_to 4294967295 w >>= λ n. numbers_of (read ++ n ∷ []) ws

-- numbers with a comma between two
unfoldable pub lens_of : List ℕ → Result (List ℕ) TextFault
lens_of text = numbers_of [] (pieces 44 text)

abbrev pub range_of : List ℕ → Option (List ℕ) → Result Part TextFault
range_of start None = none
range_of start (Some end) = do
  from ← number_to 4294967295 start
  to ← number_to 4294967295 end
  Ok (record { start = from; end = to })

-- two numbers with a hyphen between
unfoldable pub part_of : List ℕ → Result Part TextFault
part_of text = range_of (before 45 text) (behind 45 text)

abbrev pub entry_of : List ℕ → Option (List ℕ) → Result Nack TextFault
entry_of number None = do
  sn ← number_to 4294967295 number
  Ok (record { sn = sn; part = None })
entry_of number (Some range) = do
  sn ← number_to 4294967295 number
  part ← part_of range
  Ok (record { sn = sn; part = Some part })

-- a number, and behind a colon what is missing of it
unfoldable pub nack_of : List ℕ → Result Nack TextFault
nack_of text = entry_of (before 58 text) (behind 58 text)

-- entries, behind those that were read
unfoldable pub entries_of : List Nack → List (List ℕ) → Result (List Nack) TextFault
entries_of read [] = Ok read
entries_of read (w ∷ ws) = nack_of w >>= λ n. entries_of (read ++ n ∷ []) ws

-- entries with a comma between two, or - for none
unfoldable pub nacks_of : List ℕ → Result (List Nack) TextFault
nacks_of text = if bytes_eq text (codes "-") then Ok [] else entries_of [] (pieces 44 text)
