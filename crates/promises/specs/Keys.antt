-- The keys of a journal's lines, in order; none is given twice, so that a COUNT that begins again
-- never meets a key that was in use (TS 33.401 B.1).
use Rattle.std.specs.Prelude.{List, [], ◌∷◌, Bool, true, false, if◌then◌else◌, ◌++◌, ℕ}
use Rattle.air_record.specs.declared.line.Line.{Line}
use Rattle.air_record.specs.Cells.{next_keys, no_keys}
use Rattle.eps_sec.specs.declared.Keys.{Keys}
use Rattle.air_text.specs.Groups.{Group}
use Rattle.air_record.specs.declared.line.Line.TheVariants as lines

-- ---- the keys that lines give, in order: those of the `keys` line and of each handover, with
-- which the cipher stays

abbrev pub keys_in_force_by : Line → Keys → Keys
keys_in_force_by (lines.Keys keys) before = keys
keys_in_force_by (lines.Handover user rrc integrity) before = next_keys user rrc integrity before
keys_in_force_by line before = before

abbrev pub keys_in_force : List Group → Keys
keys_in_force [] = no_keys
keys_in_force (g ∷ past) = keys_in_force_by g.line (keys_in_force past)

abbrev pub gives_keys : Line → Bool
gives_keys (lines.Keys keys) = true
gives_keys (lines.Handover user rrc integrity) = true
gives_keys line = false

abbrev pub keys_given : List Group → List Keys
keys_given [] = []
keys_given (g ∷ past) =
    keys_given past ++ (if gives_keys g.line then keys_in_force (g ∷ past) ∷ [] else [])

-- those that a line gives: for user data, for signalling, and for its integrity
abbrev pub keys_of : Line → List (List ℕ)
keys_of (lines.Keys keys) = keys.user.octets ∷ keys.rrc.octets ∷ keys.integrity.octets ∷ []
keys_of (lines.Handover user rrc integrity) = user.octets ∷ rrc.octets ∷ integrity.octets ∷ []
keys_of line = []

abbrev pub all_keys : List Group → List (List ℕ)
all_keys [] = []
all_keys (g ∷ past) = keys_of g.line ++ all_keys past
