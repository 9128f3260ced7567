-- What is kept of the octets of a flow tells what its history says (docs/laws/ACCOUNT.md).
use Rattle.std.specs.Prelude.{◌≡◌, ℕ, ◌+◌, ◌≤◌, List, [], ◌∷◌, true, length, drop}
use Rattle.std.specs.Prelude.{◌↔◌, slice_index_or}
use Rattle.journal_stream.specs.OctetEvents.{OctetEvent, PduTaken, FieldWritten, stream, fields}
use Rattle.journal_stream.specs.OctetEvents.{written, AreNext, AreOf, AreSent}
use Rattle.journal_stream.specs.SentOctets.{SentOctets, none_sent, with_pdu, has_next, with_field}
use Rattle.journal_stream.specs.SentOctets.{has_octets, ends_at, next_number, forgotten}

-- of a history, with the fields of the numbers from one on
abbrev pub kept_of : ℕ → List OctetEvent → SentOctets
kept_of base es = record {
  unwritten = drop (length (written es)) (stream es);
  base = base;
  fields = drop base (fields es);
}

-- octets are found to come next, and to stand in a number's field, exactly where they do, and a
-- field to end exactly where it ends
pub record IsTold (base : ℕ) (es : List OctetEvent) : Type 0 where
  pub next : (octets : List ℕ) → has_next octets (kept_of base es) ≡ true ↔ AreNext es octets
  pub stand : (number from : ℕ) (octets : List ℕ) → base ≤ number
      → has_octets number from octets (kept_of base es) ≡ true ↔ AreOf es number from octets
  pub ends : (number at : ℕ) → base ≤ number
      → ends_at number at (kept_of base es) ≡ true
      ↔ length (slice_index_or (fields es) number []) ≡ at

-- each call leaves what is kept of the history with its event, which says how many numbers are
-- written
pub record AreSteps : Type 0 where
  pub begins : none_sent ≡ kept_of 0 []
  pub takes : (base : ℕ) (pdu : List ℕ) (es : List OctetEvent) → AreSent es
      → with_pdu pdu (kept_of base es) ≡ kept_of base (PduTaken pdu ∷ es)
  pub writes : (base : ℕ) (field : List ℕ) (es : List OctetEvent) → base ≤ length (fields es)
      → with_field field (kept_of base es) ≡ kept_of base (FieldWritten field ∷ es)
  pub forgets : (base many : ℕ) (es : List OctetEvent) → base + many ≤ length (fields es)
      → forgotten many (kept_of base es) ≡ kept_of (base + many) es
  pub number : (base : ℕ) (es : List OctetEvent) → base ≤ length (fields es)
      → next_number (kept_of base es) ≡ length (fields es)

abbrev pub OctetsAreTold : Type 0
OctetsAreTold = (base : ℕ) (es : List OctetEvent) → AreSent es → IsTold base es
