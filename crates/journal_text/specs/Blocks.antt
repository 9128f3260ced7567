-- Records of a TTI, of blocks on the air and of sums, read from their words
-- (docs/formats/JOURNAL.md).
use Rattle.std.specs.Prelude.{ℕ, List, [], ◌∷◌, Result, Ok}
use Rattle.air_record.specs.declared.record.Record.{Record}
use Rattle.air_record.specs.declared.record.Record.TheVariants.{Tti, Sleep, Block, Air, Refused}
use Rattle.air_record.specs.declared.record.Record.TheVariants.{Looped, Drained, Sum}
use Rattle.journal_text.specs.declared.fault.TextFault.{TextFault}
use Rattle.journal_text.specs.Answers.{none, ◌>>=◌}
use Rattle.journal_text.specs.Fields.{number_to, long_of, octets_of}
use Rattle.journal_text.specs.Names.{side_of, direction_of, arrived_of, place_of, state_of}
use Rattle.journal_text.specs.Names.{fresh_of}
use Rattle.journal_text.specs.Names.{heard_of}

unfoldable pub tti_of : List (List ℕ) → Result Record TextFault
tti_of (word ∷ []) = do
  tti ← long_of word
  Ok (Tti tti)
tti_of fields = none

unfoldable pub sleep_of : List (List ℕ) → Result Record TextFault
sleep_of [] = Ok Sleep
sleep_of fields = none

unfoldable pub block_of : List (List ℕ) → Result Record TextFault
block_of (way ∷ process ∷ age ∷ rv ∷ text ∷ []) = do
  direction ← direction_of way
  process ← number_to 4294967295 process
  fresh ← fresh_of age
  rv ← number_to 255 rv
  octets ← octets_of text
  Ok (Block direction process fresh rv octets)
block_of fields = none

unfoldable pub air_of : List (List ℕ) → Result Record TextFault
air_of (way ∷ word ∷ feedback ∷ []) = do
  direction ← direction_of way
  what ← arrived_of word
  heard ← heard_of feedback
  Ok (Air direction what heard)
air_of fields = none

unfoldable pub refused_of : List (List ℕ) → Result Record TextFault
refused_of (node ∷ lcid ∷ word ∷ []) = do
  side ← side_of node
  lcid ← number_to 255 lcid
  why ← place_of word
  Ok (Refused side lcid why)
refused_of fields = none

unfoldable pub looped_of : List (List ℕ) → Result Record TextFault
looped_of (lcid ∷ text ∷ []) = do
  lcid ← number_to 255 lcid
  octets ← octets_of text
  Ok (Looped lcid octets)
looped_of fields = none

unfoldable pub drained_of : List (List ℕ) → Result Record TextFault
drained_of (word ∷ []) = do
  rounds ← long_of word
  Ok (Drained rounds)
drained_of fields = none

unfoldable pub sum_of : List (List ℕ) → Result Record TextFault
sum_of (way ∷ lcid ∷ submitted ∷ delivered ∷ word ∷ []) = do
  direction ← direction_of way
  lcid ← number_to 255 lcid
  submitted ← long_of submitted
  delivered ← long_of delivered
  state ← state_of word
  Ok (Sum direction lcid submitted delivered state)
sum_of fields = none
