-- What a line of an input to be shown says (docs/formats/JOURNAL.md).
use Rattle.std.specs.Prelude.{◌≡◌, ◌≤◌, ℕ, ◌==◌, nat_lt, if◌then◌else◌, List, [], ◌∷◌, length}
use Rattle.std.specs.Prelude.{slice_index, codes, Option, None, Some, Result, Ok, Err}
use Rattle.std.specs.Str.{bytes_eq}
use Rattle.mac_pdu.specs.declared.item.Direction.{Direction}
use Rattle.mac_pdu.specs.declared.item.Direction.TheVariants.{Down, Up}
use Rattle.bearer_types.specs.Configs.{IsConfig}
use Rattle.air_text.specs.Words.{◌>>=◌, words_of, Fails}
use Rattle.air_text.specs.Fields.{octets_of}
use Rattle.air_text.specs.Reading.{bearer_of}
use Rattle.air_record.specs.declared.line.Line.{Line}
use Rattle.air_record.specs.declared.line.Line.TheVariants.{Bearer}
use Rattle.air_text.specs.declared.fault.LineFault.{LineFault}
use Rattle.air_text.specs.declared.fault.LineRefusal.{LineRefusal}
use Rattle.air_text.specs.declared.fault.LineRefusal.TheVariants.{Word, Fields, Long}
use Rattle.pdu_show.specs.declared.entry.Entry.{Entry}
use Rattle.pdu_show.specs.declared.entry.Entry.TheVariants as entries
use Rattle.pdu_show.specs.declared.entry.Head.{Head}
use Rattle.pdu_show.specs.declared.entry.Head.TheVariants as heads
use Rattle.l2_types.specs.declared.limits.TheConstants.{GREATEST_GRANT}
use Rattle.air_text.specs.declared.limits.TheConstants.{LONGEST_LINE}

abbrev pub bearer_in : Line → Result (Option Entry) LineRefusal
bearer_in (Bearer config options) = Ok (Some (entries.Bearer config))
bearer_in line = Err Word

-- a block of 1 to 9422 octets
unfoldable pub block_in : Direction → List (List ℕ) → Result (Option Entry) LineRefusal
block_in direction (text ∷ []) =
    octets_of GREATEST_GRANT text >>= λ octets. Ok (Some (entries.Block direction octets))
block_in direction fields = Err Fields

abbrev pub entry_by : List ℕ → List (List ℕ) → Result (Option Entry) LineRefusal
entry_by first fields =
    if bytes_eq first (codes "ul") then block_in Up fields
    else if bytes_eq first (codes "dl") then block_in Down fields
    else if bytes_eq first (codes "bearer") then (bearer_of fields >>= bearer_in)
    else Err Word

-- an entry, or nothing where there is no word or a comment
unfoldable pub entry_words : List (List ℕ) → Result (Option Entry) LineRefusal
entry_words [] = Ok None
entry_words (first ∷ fields) = if slice_index first 0 == 35 then Ok None else entry_by first fields

-- a text of at most 20000 octets
unfoldable pub entry_of : List ℕ → Result (Option Entry) LineRefusal
entry_of text = if nat_lt LONGEST_LINE (length text) then Err Long else entry_words (words_of text)

-- ---- what is read, apart from where a block's octets are put

-- an entry by its head and the octets of a block
abbrev pub with_octets : Option Head → List ℕ → Option Entry
with_octets None octets = None
with_octets (Some (heads.Bearer config)) octets = Some (entries.Bearer config)
with_octets (Some (heads.Block direction)) octets = Some (entries.Block direction octets)

-- what a function answered, with the octets that it left, is what reading gives, unless memory ran
-- out
abbrev pub HasEntry : Result (Option Entry) LineRefusal → List ℕ → Result (Option Head) LineFault
    → Type 0
HasEntry read octets (Ok head) = read ≡ Ok (with_octets head octets)
HasEntry read octets (Err e) = Fails e read

-- the ranges of what was read
abbrev pub IsHead : List ℕ → Head → Type 0
IsHead octets (heads.Bearer config) = IsConfig config
IsHead octets (heads.Block direction) = (1 ≤ length octets) × (length octets ≤ GREATEST_GRANT)

abbrev pub IsEntry : Entry → Type 0
IsEntry (entries.Bearer config) = IsConfig config
IsEntry (entries.Block direction octets) = (1 ≤ length octets) × (length octets ≤ GREATEST_GRANT)

-- a line of a script as an entry
abbrev pub as_entry : Result (Option Line) LineRefusal → Result (Option Entry) LineRefusal
as_entry (Ok None) = Ok None
as_entry (Ok (Some line)) = bearer_in line
as_entry (Err e) = Err e
