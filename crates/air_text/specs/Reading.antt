-- What a text says (docs/formats/SCRIPT.md).
use Rattle.std.specs.Prelude.{ℕ, ◌==◌, nat_lt, if◌then◌else◌, List, [], ◌∷◌, length, slice_index}
use Rattle.std.specs.Prelude.{codes, Option, None, Some, Result, Ok, Err}
use Rattle.std.specs.Str.{bytes_eq}
use Rattle.hex.specs.Hex.{decode_of}
use Rattle.hex.specs.declared.error.FromHexError.{FromHexError}
use Rattle.eps_sec.specs.declared.keys.Key.{Key}
use Rattle.air_record.specs.declared.line.Line.{Line}
use Rattle.air_record.specs.declared.line.Line.TheVariants.{Harq, Bsr, Keys as KeysLine, Bearer}
use Rattle.air_record.specs.declared.line.Line.TheVariants.{Submit, Tti, Expire, Handover, LoopOff}
use Rattle.air_record.specs.declared.line.Line.TheVariants.{LoopA, LoopB, Drain, Forge, End}
use Rattle.air_record.specs.declared.line.Line.TheVariants.{Discard, Drx}
use Rattle.air_text.specs.declared.fault.LineRefusal.{LineRefusal}
use Rattle.air_text.specs.declared.fault.LineRefusal.TheVariants.{Word, Range, Hex, Fields, Long}
use Rattle.air_text.specs.Words.{◌>>=◌, words_of, is_twice, joined}
use Rattle.air_text.specs.Fields.{number_of, octets_of, side_of, clock_of, kind_of, outcome_of}
use Rattle.air_text.specs.Fields.{cipher_of, word_of}
use Rattle.air_text.specs.Options.{goes, config_of, options_of}
use Rattle.l2_types.specs.declared.limits.TheConstants.{GREATEST_GRANT, GREATEST_SDU}
use Rattle.air_text.specs.declared.limits.TheConstants.{LONGEST_LINE}

abbrev pub key_in : Result (List ℕ) FromHexError → Result Key LineRefusal
key_in (Err _) = Err Hex
key_in (Ok octets) = if length octets == 16 then Ok (record { octets = octets }) else Err Range

-- a key of 16 octets
unfoldable pub key_of : List ℕ → Result Key LineRefusal
key_of text = if length text == 0 then Err Hex else key_in (decode_of text)

unfoldable pub harq_of : List (List ℕ) → Result Line LineRefusal
harq_of (visits ∷ []) = do
  n ← number_of 1 28 visits
  Ok (Harq n)
harq_of fields = Err Fields

unfoldable pub bsr_of : List (List ℕ) → Result Line LineRefusal
bsr_of (on ∷ []) = do
  word ← word_of (codes "on") on
  Ok Bsr
bsr_of fields = Err Fields

unfoldable pub keys_of : List (List ℕ) → Result Line LineRefusal
keys_of (alg ∷ user ∷ rrc ∷ integrity ∷ []) = do
  c ← cipher_of alg
  u ← key_of user
  r ← key_of rrc
  i ← key_of integrity
  Ok (KeysLine (record { alg = c; user = u; rrc = r; integrity = i }))
keys_of fields = Err Fields

unfoldable pub bearer_of : List (List ℕ) → Result Line LineRefusal
bearer_of (lcid ∷ kind ∷ options) = if is_twice options then Err Fields else do
  n ← number_of 0 10 lcid
  k ← kind_of kind
  if goes k n
      then (options_of (config_of n k) options >>= λ config. Ok (Bearer config (joined options)))
      else Err Range
bearer_of fields = Err Fields

unfoldable pub submit_of : List (List ℕ) → Result Line LineRefusal
submit_of (node ∷ lcid ∷ text ∷ []) = do
  side ← side_of node
  n ← number_of 0 10 lcid
  octets ← octets_of GREATEST_SDU text
  Ok (Submit side n octets)
submit_of fields = Err Fields

unfoldable pub tti_of : List (List ℕ) → Result Line LineRefusal
tti_of (up_grant ∷ up ∷ down_grant ∷ down ∷ []) = do
  ug ← number_of 0 GREATEST_GRANT up_grant
  uo ← outcome_of up
  dg ← number_of 0 GREATEST_GRANT down_grant
  dout ← outcome_of down
  Ok (Tti ug uo dg dout)
tti_of fields = Err Fields

unfoldable pub expire_of : List (List ℕ) → Result Line LineRefusal
expire_of (node ∷ lcid ∷ clock ∷ []) = do
  side ← side_of node
  n ← number_of 0 10 lcid
  c ← clock_of clock
  Ok (Expire side n c)
expire_of fields = Err Fields

unfoldable pub handover_of : List (List ℕ) → Result Line LineRefusal
handover_of (user ∷ rrc ∷ integrity ∷ []) = do
  u ← key_of user
  r ← key_of rrc
  i ← key_of integrity
  Ok (Handover u r i)
handover_of fields = Err Fields

unfoldable pub loop_off_of : List (List ℕ) → Result Line LineRefusal
loop_off_of [] = Ok LoopOff
loop_off_of fields = Err Fields

unfoldable pub loop_a_of : List (List ℕ) → Result Line LineRefusal
loop_a_of (size ∷ []) = do
  n ← number_of 0 GREATEST_SDU size
  Ok (LoopA n)
loop_a_of fields = Err Fields

unfoldable pub loop_b_of : List (List ℕ) → Result Line LineRefusal
loop_b_of (delay ∷ []) = do
  n ← number_of 0 65535 delay
  Ok (LoopB n)
loop_b_of fields = Err Fields

unfoldable pub loop_of : List (List ℕ) → Result Line LineRefusal
loop_of [] = Err Fields
loop_of (mode ∷ fields) =
    if bytes_eq mode (codes "off") then loop_off_of fields
    else if bytes_eq mode (codes "a") then loop_a_of fields
    else if bytes_eq mode (codes "b") then loop_b_of fields
    else Err Word

unfoldable pub drain_of : List (List ℕ) → Result Line LineRefusal
drain_of (grant ∷ []) = do
  n ← number_of 0 GREATEST_GRANT grant
  Ok (Drain n)
drain_of fields = Err Fields

unfoldable pub forge_of : List (List ℕ) → Result Line LineRefusal
forge_of (node ∷ text ∷ []) = do
  side ← side_of node
  octets ← octets_of GREATEST_GRANT text
  Ok (Forge side octets)
forge_of fields = Err Fields

unfoldable pub end_of : List (List ℕ) → Result Line LineRefusal
end_of [] = Ok End
end_of fields = Err Fields

unfoldable pub discard_of : List (List ℕ) → Result Line LineRefusal
discard_of (lcid ∷ ttis ∷ []) = do
  n ← number_of 0 10 lcid
  t ← number_of 2 65535 ttis
  Ok (Discard n t)
discard_of fields = Err Fields

unfoldable pub drx_of : List (List ℕ) → Result Line LineRefusal
drx_of (on ∷ inactivity ∷ retransmit ∷ cycle ∷ offset ∷ []) = do
  a ← number_of 1 200 on
  b ← number_of 0 2560 inactivity
  c ← number_of 0 33 retransmit
  d ← number_of 1 2560 cycle
  e ← number_of 0 2559 offset
  Ok (Drx (record { on = a; inactivity = b; retransmit = c; cycle = d; offset = e }))
drx_of fields = Err Fields

abbrev pub line_of : List ℕ → List (List ℕ) → Result Line LineRefusal
line_of first fields =
    if bytes_eq first (codes "harq") then harq_of fields
    else if bytes_eq first (codes "bsr") then bsr_of fields
    else if bytes_eq first (codes "keys") then keys_of fields
    else if bytes_eq first (codes "bearer") then bearer_of fields
    else if bytes_eq first (codes "submit") then submit_of fields
    else if bytes_eq first (codes "tti") then tti_of fields
    else if bytes_eq first (codes "expire") then expire_of fields
    else if bytes_eq first (codes "handover") then handover_of fields
    else if bytes_eq first (codes "loop") then loop_of fields
    else if bytes_eq first (codes "drain") then drain_of fields
    else if bytes_eq first (codes "forge") then forge_of fields
    else if bytes_eq first (codes "end") then end_of fields
    else if bytes_eq first (codes "discard") then discard_of fields
    else if bytes_eq first (codes "drx") then drx_of fields
    else Err Word

-- a line, or nothing where there is no word or a comment
unfoldable pub read_words : List (List ℕ) → Result (Option Line) LineRefusal
read_words [] = Ok None
read_words (first ∷ fields) = if slice_index first 0 == 35 then Ok None
    else (line_of first fields >>= λ line. Ok (Some line))

-- a text of at most 20000 octets
unfoldable pub read_of : List ℕ → Result (Option Line) LineRefusal
read_of text = if nat_lt LONGEST_LINE (length text) then Err Long else read_words (words_of text)
