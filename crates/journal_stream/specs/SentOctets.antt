-- The octets of an acknowledged flow in a life, as they are kept: what isn't written yet, and the
-- data fields of the numbers that aren't forgotten (docs/laws/ACCOUNT.md).
use Rattle.std.specs.Prelude.{ℕ, ◌+◌, ◌-◌, ◌==◌, Bool, ◌&&◌, nat_le, List, [], ◌∷◌, ◌++◌, length}
use Rattle.std.specs.Prelude.{take, drop, min, slice_index_or}
use Rattle.std.specs.Str.{bytes_eq}

-- base is the number of the first field
pub record SentOctets : Type 0 where
  pub unwritten : List ℕ
  pub base : ℕ
  pub fields : List (List ℕ)

abbrev pub none_sent : SentOctets
none_sent = record { unwritten = []; base = 0; fields = [] }

abbrev pub with_pdu : List ℕ → SentOctets → SentOctets
with_pdu pdu s = record s { unwritten = s.unwritten ++ pdu }

-- octets come next
abbrev pub has_next : List ℕ → SentOctets → Bool
has_next octets s = bytes_eq (take (length octets) s.unwritten) octets

-- and are written as the next number
abbrev pub with_field : List ℕ → SentOctets → SentOctets
with_field octets s = record s {
  unwritten = drop (length octets) s.unwritten;
  fields = s.fields ++ octets ∷ [];
}

abbrev pub field_of : ℕ → SentOctets → List ℕ
field_of number s = slice_index_or s.fields (number - s.base) []

-- octets stand in a field, from a place on
abbrev pub stand_in : List ℕ → ℕ → List ℕ → Bool
stand_in field from octets =
    nat_le from (length field) && bytes_eq (take (length octets) (drop from field)) octets

-- of a number that isn't forgotten
abbrev pub has_octets : ℕ → ℕ → List ℕ → SentOctets → Bool
has_octets number from octets s =
    nat_le s.base number && stand_in (field_of number s) from octets

-- the field of a number that isn't forgotten ends at a place
abbrev pub ends_at : ℕ → ℕ → SentOctets → Bool
ends_at number at s = nat_le s.base number && (length (field_of number s) == at)

-- the number that is written next
abbrev pub next_number : SentOctets → ℕ
next_number s = s.base + length s.fields

-- so many numbers more are forgotten
abbrev pub forgotten : ℕ → SentOctets → SentOctets
forgotten many s = record s {
  base = s.base + min many (length s.fields);
  fields = drop many s.fields;
}
