-- What is kept of the stream of a life, whatever is forgotten of it, does what its history does.
use Rattle.std.proofs.Common.{◌≡◌, ℕ, ◌+◌, ◌-◌, ◌%◌, ◌==◌, ◌≤◌, Bool, true, false, ◌&&◌, ◌||◌, List, [], ◌∷◌}
use Rattle.std.proofs.Common.{length, drop, Option, refl, ap, sym, ◌∙◌, arith, if◌then◌else◌, length-append}
use Rattle.std.specs.Prelude.{min, slice_index_or, is_some}
use Rattle.std.proofs.lemmas.Bool.{le-leb}
use Rattle.std.proofs.lemmas.List.{drop-drop, drop_min, length-drop, get_or-drop}
use Rattle.rlc_pdu.specs.declared.pdu.Segment.{Segment}
use Rattle.rlc_am_rx_window.specs.Piece.{so_of}
use Rattle.law_words.specs.Passing.{last_with}
use Rattle.journal_stream.specs.OctetEvents.{OctetEvent, PduTaken, FieldWritten, fields, AreSent}
use Rattle.journal_stream.specs.SentOctets.{SentOctets, with_field, has_next, has_octets, stand_in, ends_at}
use Rattle.journal_stream.specs.SentOctets.{forgotten, next_number}
use Rattle.journal_stream.specs.Laws.{kept_of}
use Rattle.journal_stream.proofs.SentTold.{told, steps}
use Rattle.journal_sent.specs.declared.verdict.Verdict.{Verdict}
use Rattle.journal_sent.specs.Marks.{sdu_marks}
use Rattle.journal_sent.specs.SentPdus.{Stream, histories, accounts, nothing_sent, with_given, with_forgotten}
use Rattle.journal_sent.specs.SentPdus.{new_verdict, written_in, with_written, has_sn, is_last_in, number_verdict}
use Rattle.journal_sent.specs.SentPdus.{again_verdict}

abbrev pub Events : Type 0
Events = List OctetEvent

-- ---- octets: what was forgotten isn't asked for

pub record IsKept (base floor : ℕ) (es : Events) : Type 0 where
  pub sent : AreSent es
  pub few : base ≤ length (fields es)
  pub low : base ≤ floor

field_same : (base n : ℕ) (es : Events) → base ≤ n
    → slice_index_or (drop base (fields es)) (n - base) [] ≡ slice_index_or (fields es) n []
field_same base n es low =
    let at : base + (n - base) ≡ n = omega (arith, low) in
    get_or-drop base (fields es) (n - base) [] ∙ ap (λ (k : ℕ). slice_index_or (fields es) k []) at

stands_seen : (base n from : ℕ) (octets : List ℕ) (es : Events) → base ≤ n
    → has_octets n from octets (kept_of base es) ≡ stand_in (slice_index_or (fields es) n []) from octets
stands_seen base n from octets es low =
    ap (λ (b : Bool). b && stand_in (slice_index_or (drop base (fields es)) (n - base) []) from octets)
    (le-leb base n low)
    ∙ ap (λ (field : List ℕ). stand_in field from octets) (field_same base n es low)

stands_same : (base n from : ℕ) (octets : List ℕ) (es : Events) → base ≤ n
    → has_octets n from octets (kept_of base es) ≡ has_octets n from octets (kept_of 0 es)
stands_same base n from octets es low =
    stands_seen base n from octets es low ∙ sym (stands_seen 0 n from octets es (omega arith))

ends_seen : (base n at : ℕ) (es : Events) → base ≤ n
    → ends_at n at (kept_of base es) ≡ (length (slice_index_or (fields es) n []) == at)
ends_seen base n at es low =
    ap (λ (b : Bool). b && (length (slice_index_or (drop base (fields es)) (n - base) []) == at)) (le-leb base n low)
    ∙ ap (λ (field : List ℕ). length field == at) (field_same base n es low)

ends_same : (base n at : ℕ) (es : Events) → base ≤ n → ends_at n at (kept_of base es) ≡ ends_at n at (kept_of 0 es)
ends_same base n at es low = ends_seen base n at es low ∙ sym (ends_seen 0 n at es (omega arith))

-- ---- and each step is the same

given_kept : (base floor : ℕ) (pdu : List ℕ) (es : Events) → IsKept base floor es
    → IsKept base floor (PduTaken pdu ∷ es)
given_kept base floor pdu es h = record { sent = h.sent; few = h.few; low = h.low }

written_same : (base floor : ℕ) (field : List ℕ) (es : Events) → IsKept base floor es
    → written_in accounts field (kept_of base es) ≡ kept_of base (written_in histories field es)
written_same base floor field es h = by (has_next field (kept_of 0 es))
  where
    by : (b : Bool) → (if b then with_field field (kept_of base es) else kept_of base es)
        ≡ kept_of base (if b then FieldWritten field ∷ es else es)
    by true = steps.writes base field es h.few
    by false = refl

written_kept : (base floor : ℕ) (field : List ℕ) (es : Events) → IsKept base floor es
    → IsKept base floor (written_in histories field es)
written_kept base floor field es h = by (has_next field (kept_of 0 es)) refl
  where
    by : (b : Bool) → has_next field (kept_of 0 es) ≡ b
        → IsKept base floor (if b then FieldWritten field ∷ es else es)
    by true is = record {
      sent = (((told 0 es h.sent).next field).0 is, h.sent);
      few = omega (arith, h.few, length-append (fields es) (field ∷ []));
      low = h.low;
    }
    by false is = h

written_more : (field : List ℕ) (es : Events) → length (fields es) ≤ length (fields (written_in histories field es))
written_more field es = by (has_next field (kept_of 0 es))
  where
    by : (b : Bool) → length (fields es) ≤ length (fields (if b then FieldWritten field ∷ es else es))
    by true = omega (arith, length-append (fields es) (field ∷ []))
    by false = omega arith

-- the base behind a forgetting of the numbers below n
abbrev pub base_behind : ℕ → ℕ → Events → ℕ
base_behind base n es = base + min (n - base) (length (drop base (fields es)))

forgets_same : (base n : ℕ) (es : Events)
    → forgotten (n - base) (kept_of base es) ≡ kept_of (base_behind base n es) es
forgets_same base n es =
    ap (λ (l : List (List ℕ)). record {
      unwritten = (kept_of base es).unwritten;
      base = base_behind base n es;
      fields = l;
    }) (sym (drop_min (n - base) (drop base (fields es)))
    ∙ drop-drop (min (n - base) (length (drop base (fields es)))) base (fields es))

forgets_kept : (base floor n : ℕ) (es : Events) → base ≤ n → IsKept base floor es
    → IsKept (base_behind base n es) n es
forgets_kept base floor n es low h = record {
  sent = h.sent;
  few = omega (arith, h.few, length-drop base (fields es));
  low = omega (arith, low);
}

-- ---- a stream: octets and marks are forgotten apart, since they may not both come next

abbrev pub kept_stream : ℕ → ℕ → Stream Events → Stream SentOctets
kept_stream a b s = record { octets = kept_of a s.octets; marks = kept_of b s.marks }

pub record AreKept (a b floor : ℕ) (s : Stream Events) : Type 0 where
  pub octets : IsKept a floor s.octets
  pub marks : IsKept b floor s.marks

abbrev stream_of : SentOctets → SentOctets → Stream SentOctets
stream_of octets marks = record { octets = octets; marks = marks }

pub nothing_kept : (floor : ℕ) → AreKept 0 0 floor (nothing_sent histories)
nothing_kept floor = record {
  octets = record { sent = tt; few = omega arith; low = omega arith };
  marks = record { sent = tt; few = omega arith; low = omega arith };
}

pub nothing_same : nothing_sent accounts ≡ kept_stream 0 0 (nothing_sent histories)
nothing_same = ap (λ (t : SentOctets). stream_of t t) steps.begins

pub given_stream : (a b floor : ℕ) (pdu : List ℕ) (s : Stream Events) → AreKept a b floor s
    → with_given accounts pdu (kept_stream a b s) ≡ kept_stream a b (with_given histories pdu s)
given_stream a b floor pdu s h =
    ap (λ (t : SentOctets). stream_of t (with_given accounts pdu (kept_stream a b s)).marks)
    (steps.takes a pdu s.octets h.octets.sent)
    ∙ ap (stream_of (kept_of a (PduTaken pdu ∷ s.octets)))
    (steps.takes b (sdu_marks (length pdu)) s.marks h.marks.sent)

pub given_stream_kept : (a b floor : ℕ) (pdu : List ℕ) (s : Stream Events) → AreKept a b floor s
    → AreKept a b floor (with_given histories pdu s)
given_stream_kept a b floor pdu s h = record {
  octets = given_kept a floor pdu s.octets h.octets;
  marks = given_kept b floor (sdu_marks (length pdu)) s.marks h.marks;
}

pub written_stream : (a b floor : ℕ) (field marks : List ℕ) (s : Stream Events) → AreKept a b floor s
    → with_written accounts field marks (kept_stream a b s) ≡ kept_stream a b (with_written histories field marks s)
written_stream a b floor field marks s h =
    ap (λ (t : SentOctets). stream_of t (written_in accounts marks (kept_of b s.marks)))
    (written_same a floor field s.octets h.octets)
    ∙ ap (stream_of (kept_of a (written_in histories field s.octets))) (written_same b floor marks s.marks h.marks)

pub written_stream_kept : (a b floor : ℕ) (field marks : List ℕ) (s : Stream Events) → AreKept a b floor s
    → AreKept a b floor (with_written histories field marks s)
written_stream_kept a b floor field marks s h = record {
  octets = written_kept a floor field s.octets h.octets;
  marks = written_kept b floor marks s.marks h.marks;
}

pub written_stream_more : (field marks : List ℕ) (s : Stream Events)
    → length (fields s.octets) ≤ length (fields (with_written histories field marks s).octets)
written_stream_more field marks s = written_more field s.octets

pub forgets_stream : (a b n : ℕ) (s : Stream Events)
    → with_forgotten accounts n (kept_stream a b s)
    ≡ kept_stream (base_behind a n s.octets) (base_behind b n s.marks) (with_forgotten histories n s)
forgets_stream a b n s =
    ap (λ (t : SentOctets). stream_of t (forgotten (n - b) (kept_of b s.marks))) (forgets_same a n s.octets)
    ∙ ap (stream_of (kept_of (base_behind a n s.octets) s.octets)) (forgets_same b n s.marks)

pub forgets_stream_kept : (a b floor n : ℕ) (s : Stream Events) → floor ≤ n → AreKept a b floor s
    → AreKept (base_behind a n s.octets) (base_behind b n s.marks) n (with_forgotten histories n s)
forgets_stream_kept a b floor n s low h = record {
  octets = forgets_kept a floor n s.octets (omega (arith, low, h.octets.low)) h.octets;
  marks = forgets_kept b floor n s.marks (omega (arith, low, h.marks.low)) h.marks;
}

-- ---- verdicts

pub next_same : (a b floor : ℕ) (s : Stream Events) → AreKept a b floor s
    → next_number (kept_of a s.octets) ≡ length (fields s.octets)
next_same a b floor s h = steps.number a s.octets h.octets.few

pub new_same : (a b floor modulus sn : ℕ) (plain : Bool) (field marks : List ℕ) (s : Stream Events)
    → AreKept a b floor s
    → new_verdict accounts modulus sn plain field marks (kept_stream a b s)
    ≡ new_verdict histories modulus sn plain field marks s
new_same a b floor modulus sn plain field marks s h =
    ap (λ (n : ℕ). record {
      sent = plain && has_next field (kept_of 0 s.octets);
      shaped = (sn == n % modulus) && has_next marks (kept_of 0 s.marks);
    }) (next_same a b floor s h)

-- by whether the number is open, which number is next, whether the octets stand in its field, which
-- ends behind them, and whether the marks stand there
abbrev verdict_by : Bool → ℕ → Bool → Bool → Bool → ℕ → ℕ → Option Segment → Verdict
verdict_by is_open next stands ends marked n sn segment = record {
  sent = has_sn n sn next && (is_open && (stands && (is_some segment || ends)));
  shaped = is_open && (marked && is_last_in segment ends);
}

number_same : (a b floor : ℕ) (is_open : ℕ → Bool) (n sn : ℕ) (segment : Option Segment) (field marks : List ℕ)
    (s : Stream Events) → ((k : ℕ) → is_open k ≡ true → floor ≤ k) → AreKept a b floor s
    → number_verdict accounts is_open n sn segment field marks (kept_stream a b s)
    ≡ number_verdict histories is_open n sn segment field marks s
number_same a b floor is_open n sn segment field marks s high h = by (is_open n) refl
  where
    by : (o : Bool) → is_open n ≡ o
        → verdict_by o (next_number (kept_of a s.octets)) (has_octets n (so_of segment) field (kept_of a s.octets))
        (ends_at n (so_of segment + length field) (kept_of a s.octets))
        (has_octets n (so_of segment) marks (kept_of b s.marks)) n sn segment
        ≡ verdict_by o (length (fields s.octets)) (has_octets n (so_of segment) field (kept_of 0 s.octets))
        (ends_at n (so_of segment + length field) (kept_of 0 s.octets))
        (has_octets n (so_of segment) marks (kept_of 0 s.marks)) n sn segment
    by true is =
        let low : floor ≤ n = high n is in
        let octets_low : a ≤ n = omega (arith, low, h.octets.low) in
        let marks_low : b ≤ n = omega (arith, low, h.marks.low) in
        let next = next_same a b floor s h in
        let stands = stands_same a n (so_of segment) field s.octets octets_low in
        let ends = ends_same a n (so_of segment + length field) s.octets octets_low in
        let marked = stands_same b n (so_of segment) marks s.marks marks_low in
        cc
    by false is = ap (λ (next : ℕ). verdict_by false next false false false n sn segment) (next_same a b floor s h)

pub again_same : (a b floor : ℕ) (is_open : ℕ → Bool) (sn : ℕ) (segment : Option Segment) (field marks : List ℕ)
    (s : Stream Events) → ((k : ℕ) → is_open k ≡ true → floor ≤ k) → AreKept a b floor s
    → again_verdict accounts is_open sn segment field marks (kept_stream a b s)
    ≡ again_verdict histories is_open sn segment field marks s
again_same a b floor is_open sn segment field marks s high h =
    ap (λ (next : ℕ). number_verdict accounts is_open (last_with sn next) sn segment field marks (kept_stream a b s))
    (next_same a b floor s h)
    ∙ number_same a b floor is_open (last_with sn (length (fields s.octets))) sn segment field marks s high h
