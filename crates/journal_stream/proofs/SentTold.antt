-- What is kept of the octets of a flow tells what its history says.
use Rattle.std.proofs.Common.{◌≡◌, ◌≤◌, ℕ, ◌+◌, ◌-◌, true, List, [], ◌∷◌, ◌++◌, length, take, drop}
use Rattle.std.proofs.Common.{refl, ap, sym, ◌∙◌, arith, append_assoc, length-append}
use Rattle.std.specs.Prelude.{◌==◌, min, nat_le, slice_index_or}
use Rattle.std.specs.Str.{bytes_eq}
use Rattle.std.proofs.Math.Seq.{drop-append_seam, take-append_seam}
use Rattle.std.proofs.lemmas.Bool.{and_parts, and_from, leb-true, le-leb, eqb-true, eq-eqb}
use Rattle.std.proofs.lemmas.List.{drop-append-le, drop-drop, drop_at, take-append-drop, length-take-le, length-drop}
use Rattle.std.proofs.lemmas.List.{get_or-drop}
use Rattle.std.proofs.lemmas.Slice.Eq.{bytes_eq-Decides}
use Rattle.journal_stream.specs.OctetEvents.{OctetEvent, PduTaken, FieldWritten, stream, fields, written}
use Rattle.journal_stream.specs.OctetEvents.{AreNext, AreSent}
use Rattle.journal_stream.specs.SentOctets.{has_next, field_of, stand_in}
use Rattle.journal_stream.specs.Laws.{kept_of, IsTold, AreSteps}

-- ---- the written octets stand first in the stream

record Front (es : List OctetEvent) : Type 0 where
  rest : List ℕ
  stream_is : stream es ≡ written es ++ rest

front : (es : List OctetEvent) → AreSent es → Front es
front [] h = record { rest = []; stream_is = refl }
front (PduTaken pdu ∷ es) h =
    let f = front es h in
    record {
      rest = f.rest ++ pdu;
      stream_is = ap (λ (l : List ℕ). l ++ pdu) f.stream_is ∙ append_assoc (written es) f.rest pdu;
    }
front (FieldWritten field ∷ es) h = record {
  rest = h.0.rest;
  stream_is = h.0.stream_is;
}

unwritten_is : (es : List OctetEvent) (rest : List ℕ) → stream es ≡ written es ++ rest
    → drop (length (written es)) (stream es) ≡ rest
unwritten_is es rest e =
    ap (λ (l : List ℕ). drop (length (written es)) l) e ∙ drop-append_seam (written es) rest

-- ---- what comes next

next_found : (es : List OctetEvent) (base : ℕ) (octets : List ℕ) → AreSent es
    → has_next octets (kept_of base es) ≡ true → AreNext es octets
next_found es base octets h e =
    let f = front es h in
    let left = drop (length (written es)) (stream es) in
    let is : take (length octets) left ≡ octets =
    (bytes_eq-Decides (take (length octets) left) octets).0 e in
    let split : left ≡ octets ++ drop (length octets) left =
    sym (take-append-drop (length octets) left) ∙ ap (λ (l : List ℕ). l ++ drop (length octets) left) is in
    record {
      rest = drop (length octets) left;
      stream_is = f.stream_is
          ∙ ap (λ (l : List ℕ). written es ++ l) (sym (unwritten_is es f.rest f.stream_is) ∙ split)
          ∙ sym (append_assoc (written es) octets (drop (length octets) left));
    }

next_is_found : (es : List OctetEvent) (base : ℕ) (octets : List ℕ) → AreNext es octets
    → has_next octets (kept_of base es) ≡ true
next_is_found es base octets n =
    let left = drop (length (written es)) (stream es) in
    let is : left ≡ octets ++ n.rest =
    unwritten_is es (octets ++ n.rest) (n.stream_is ∙ append_assoc (written es) octets n.rest) in
    (bytes_eq-Decides (take (length octets) left) octets).1
    (ap (λ (l : List ℕ). take (length octets) l) is ∙ take-append_seam octets n.rest)

-- ---- what stands in a field

record Stand (field : List ℕ) (from : ℕ) (octets : List ℕ) : Type 0 where
  before : List ℕ
  behind : List ℕ
  field_is : field ≡ before ++ octets ++ behind
  from_is : length before ≡ from

stand_found : (field : List ℕ) (from : ℕ) (octets : List ℕ) → stand_in field from octets ≡ true
    → Stand field from octets
stand_found field from octets e =
    let p = and_parts (nat_le from (length field)) (bytes_eq (take (length octets) (drop from field)) octets) e in
    let within : from ≤ length field = leb-true from (length field) p.0 in
    let is : take (length octets) (drop from field) ≡ octets =
    (bytes_eq-Decides (take (length octets) (drop from field)) octets).0 p.1 in
    let rest = drop (length octets) (drop from field) in
    let split : drop from field ≡ octets ++ rest =
    sym (take-append-drop (length octets) (drop from field)) ∙ ap (λ (l : List ℕ). l ++ rest) is in
    record {
      before = take from field;
      behind = rest;
      field_is = sym (take-append-drop from field) ∙ ap (λ (l : List ℕ). take from field ++ l) split
          ∙ sym (append_assoc (take from field) octets rest);
      from_is = length-take-le from field within;
    }

stand_is_found : (field : List ℕ) (from : ℕ) (octets : List ℕ) → Stand field from octets
    → stand_in field from octets ≡ true
stand_is_found field from octets s =
    let whole = s.field_is ∙ append_assoc s.before octets s.behind in
    let left : drop from field ≡ octets ++ s.behind =
    ap (λ (l : List ℕ). drop from l) whole ∙ drop_at s.before (octets ++ s.behind) from s.from_is in
    let size : length field ≡ length s.before + length (octets ++ s.behind) =
    ap (λ (l : List ℕ). length l) whole ∙ length-append s.before (octets ++ s.behind) in
    and_from (nat_le from (length field)) (bytes_eq (take (length octets) (drop from field)) octets)
    (le-leb from (length field) (omega (arith, size, s.from_is)))
    ((bytes_eq-Decides (take (length octets) (drop from field)) octets).1
    (ap (λ (l : List ℕ). take (length octets) l) left ∙ take-append_seam octets s.behind))

field_kept : (es : List OctetEvent) (base number : ℕ) → base ≤ number
    → field_of number (kept_of base es) ≡ slice_index_or (fields es) number []
field_kept es base number low =
    let at : base + (number - base) ≡ number = omega (arith, low) in
    get_or-drop base (fields es) (number - base) []
    ∙ ap (λ (n : ℕ). slice_index_or (fields es) n []) at

pub told : (base : ℕ) (es : List OctetEvent) → AreSent es → IsTold base es
told base es h = record {
  next = λ octets. (next_found es base octets h, next_is_found es base octets);
  stand = λ number from octets low.
      let is = field_kept es base number low in (
        λ e.
            let p = and_parts (nat_le base number) (stand_in (field_of number (kept_of base es)) from octets) e in
            let s = stand_found (field_of number (kept_of base es)) from octets p.1 in
            record { before = s.before; behind = s.behind; field_is = sym is ∙ s.field_is; from_is = s.from_is },
        λ a.
            and_from (nat_le base number) (stand_in (field_of number (kept_of base es)) from octets)
            (le-leb base number low)
            (stand_is_found (field_of number (kept_of base es)) from octets (record {
              before = a.before;
              behind = a.behind;
              field_is = is ∙ a.field_is;
              from_is = a.from_is;
            })),
      );
  ends = λ number at low.
      let own = field_of number (kept_of base es) in
      let is : length own ≡ length (slice_index_or (fields es) number []) =
      ap (λ (l : List ℕ). length l) (field_kept es base number low) in (
        λ e. sym is ∙ eqb-true (length own) at (and_parts (nat_le base number) (length own == at) e).1,
        λ e. and_from (nat_le base number) (length own == at) (le-leb base number low)
            (eq-eqb (length own) at (is ∙ e)),
      );
}

-- ---- the calls

within : (es : List OctetEvent) → AreSent es → length (written es) ≤ length (stream es)
within es h =
    let f = front es h in
    let size = ap (λ (l : List ℕ). length l) f.stream_is ∙ length-append (written es) f.rest in
    omega (arith, size)

pub steps : AreSteps
steps = record {
  begins = refl;
  takes = λ base pdu es h.
      ap (λ (l : List ℕ). record { unwritten = l; base = base; fields = drop base (fields es) })
      (sym (drop-append-le (length (written es)) (stream es) pdu (within es h)));
  writes = λ base field es low.
      rw (length-append (written es) field)
      (rw (sym (drop-drop (length field) (length (written es)) (stream es)))
      (rw (drop-append-le base (fields es) (field ∷ []) low) refl));
  forgets = λ base many es low.
      let size = length-drop base (fields es) in
      let few : min many (length (drop base (fields es))) ≡ many = omega (arith, size, low) in
      rw (few, drop-drop many base (fields es)) refl;
  number = λ base es low. let size = length-drop base (fields es) in omega (arith, size, low);
}
