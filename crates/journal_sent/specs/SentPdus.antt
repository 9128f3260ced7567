-- The octets of a flow in a life at its sender, and whether a PDU that it writes carries the octets
-- that it may (TS 36.322 5.1.2.1.1, 5.1.3.1.1, 5.2.1, 6.2.2). What is kept of them is their
-- history, or what `journal_stream` keeps of it: the steps are the same.
use Rattle.std.specs.Prelude.{ℕ, ◌+◌, ◌-◌, ◌%◌, ◌==◌, Bool, true, false, not, ◌||◌, ◌&&◌, nat_lt}
use Rattle.std.specs.Prelude.{is_some, if◌then◌else◌, List, [], ◌∷◌, length, Option, Some, None}
use Rattle.rlc_pdu.specs.declared.constants.TheConstants.{AM_MODULUS}
use Rattle.rlc_pdu.specs.declared.pdu.Segment.{Segment}
use Rattle.rlc_am_rx_window.specs.Piece.{so_of}
use Rattle.law_words.specs.Passing.{last_with}
use Rattle.journal_stream.specs.OctetEvents.{OctetEvent, PduTaken, FieldWritten, fields}
use Rattle.journal_stream.specs.SentOctets.{SentOctets, none_sent, with_pdu, with_field, has_next}
use Rattle.journal_stream.specs.SentOctets.{has_octets, forgotten, next_number, ends_at}
use Rattle.journal_stream.specs.Laws.{kept_of}
use Rattle.journal_sent.specs.declared.verdict.Verdict.{Verdict}
use Rattle.journal_sent.specs.Marks.{sdu_marks}

-- ---- what keeps octets

pub record Keeper (T : Type 0) : Type 0 where
  -- as a life begins
  pub begins : T
  pub tells : OctetEvent → T → T
  -- how many numbers are written
  pub next : T → ℕ
  -- whether octets come next, whether some stand in a number's field from a place on, and whether
  -- that field ends at a place
  pub comes_next : List ℕ → T → Bool
  pub stands : ℕ → ℕ → List ℕ → T → Bool
  pub ends : ℕ → ℕ → T → Bool
  -- the fields of the numbers below one aren't asked for again
  pub forgets : ℕ → T → T

-- the events of the life, the latest first; what it says is what is kept of it, with nothing
-- forgotten, and that is exactly what the events say (journal_stream, `IsTold`)
abbrev pub histories : Keeper (List OctetEvent)
histories = record {
  begins = [];
  tells = λ e es. e ∷ es;
  next = λ es. length (fields es);
  comes_next = λ octets es. has_next octets (kept_of 0 es);
  stands = λ n from octets es. has_octets n from octets (kept_of 0 es);
  ends = λ n at es. ends_at n at (kept_of 0 es);
  forgets = λ n es. es;
}

abbrev pub kept_with : OctetEvent → SentOctets → SentOctets
kept_with (PduTaken pdu) s = with_pdu pdu s
kept_with (FieldWritten field) s = with_field field s

abbrev pub accounts : Keeper SentOctets
accounts = record {
  begins = none_sent;
  tells = kept_with;
  next = next_number;
  comes_next = has_next;
  stands = has_octets;
  ends = ends_at;
  forgets = λ n s. forgotten (n - s.base) s;
}

-- ---- the stream of a life: its octets, and their marks

pub record Stream (T : Type 0) : Type 0 where
  pub octets : T
  pub marks : T

abbrev pub nothing_sent : {T : Type 0} → Keeper T → Stream T
nothing_sent k = record { octets = k.begins; marks = k.begins }

-- RLC is given a PDU of PDCP
abbrev pub with_given : {T : Type 0} → Keeper T → List ℕ → Stream T → Stream T
with_given k pdu s = record {
  octets = k.tells (PduTaken pdu) s.octets;
  marks = k.tells (PduTaken (sdu_marks (length pdu))) s.marks;
}

abbrev pub with_forgotten : {T : Type 0} → Keeper T → ℕ → Stream T → Stream T
with_forgotten k n s =
    record { octets = k.forgets n s.octets; marks = k.forgets n s.marks }

-- ---- a new PDU: it has the next number, and in its data field the octets that come next

-- `plain`: it is no segment; SNs are of this modulus
abbrev pub new_verdict : {T : Type 0} → Keeper T → ℕ → ℕ → Bool → List ℕ → List ℕ → Stream T
    → Verdict
new_verdict k modulus sn plain field marks s = record {
  sent = plain && k.comes_next field s.octets;
  shaped = (sn == k.next s.octets % modulus) && k.comes_next marks s.marks;
}

-- where it doesn't come next, nothing is told
abbrev pub written_in : {T : Type 0} → Keeper T → List ℕ → T → T
written_in k field t = if k.comes_next field t then k.tells (FieldWritten field) t else t

abbrev pub with_written : {T : Type 0} → Keeper T → List ℕ → List ℕ → Stream T → Stream T
with_written k field marks s =
    record { octets = written_in k field s.octets; marks = written_in k marks s.marks }

-- ---- a PDU that is sent again: it has octets of the last number with its SN, which is open

-- of so many numbers one has the SN
abbrev pub has_sn : ℕ → ℕ → ℕ → Bool
has_sn n sn many = nat_lt n many && (n % AM_MODULUS == sn)

abbrev pub is_end : Bool → Bool → Bool
is_end true last = last
is_end false last = not last

-- a segment says whether it ends the field; what is no segment is all of the field
abbrev pub is_last_in : Option Segment → Bool → Bool
is_last_in None ends = true
is_last_in (Some s) ends = is_end s.last ends

abbrev pub number_verdict : {T : Type 0} → Keeper T → (ℕ → Bool) → ℕ → ℕ → Option Segment → List ℕ
    → List ℕ → Stream T → Verdict
number_verdict k is_open n sn segment field marks s =
    let ends = k.ends n (so_of segment + length field) s.octets in record {
      sent = has_sn n sn (k.next s.octets) && (is_open n
          && (k.stands n (so_of segment) field s.octets && (is_some segment || ends)));
      shaped = is_open n
          && (k.stands n (so_of segment) marks s.marks && is_last_in segment ends);
    }

abbrev pub again_verdict : {T : Type 0} → Keeper T → (ℕ → Bool) → ℕ → Option Segment → List ℕ
    → List ℕ → Stream T → Verdict
again_verdict k is_open sn segment field marks s =
    number_verdict k is_open (last_with sn (k.next s.octets)) sn segment field marks s
