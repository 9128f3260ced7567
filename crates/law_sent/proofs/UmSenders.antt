-- What an unacknowledged sender writes is right as a checker of journals asks it.
use Rattle.std.proofs.Common.{◌≡◌, ◌<◌, inl, inr, ℕ, ◌+◌, ◌%◌, ◌^◌, ◌==◌, Bool, true, false, not, nat_lt, List, []}
use Rattle.std.proofs.Common.{◌∷◌, ◌++◌, length, if◌then◌else◌, Option, Result, Ok, refl, ap, sym, subst, ◌∙◌, arith}
use Rattle.std.proofs.Common.{append_assoc, length-append}
use Rattle.std.specs.List.{concat}
use Rattle.std.proofs.Math.Nat.{mod-lt}
use Rattle.std.proofs.lemmas.Bool.Decides.{nat_tests}
use Rattle.l2_types.specs.declared.event.How.TheVariants as hows
use Rattle.pdcp_pdu.specs.declared.PdcpKind.{PdcpKind}
use Rattle.pdu_show.specs.declared.kinds.Layout.{Layout}
use Rattle.pdu_show.specs.declared.kinds.Layout.TheVariants as layouts
use Rattle.rlc_pdu.specs.declared.fault.RlcRefusal.{RlcRefusal}
use Rattle.rlc_pdu.specs.Pdus.{UmdPdu, IsUmBits}
use Rattle.rlc_pdu.specs.Laws.{IsUmdInRange}
use Rattle.rlc_pdu.specs.Reading.{umd_at}
use Rattle.rlc_pdu.specs.Writing.{umd_canonical}
use Rattle.rlc_pdu.proofs.Again.{umd_again}
use Rattle.rlc_queue.specs.NewPdu.{framing}
use Rattle.rlc_queue.specs.Waiting.{HaveOctets}
use Rattle.rlc_queue.proofs.Fits.{fitting}
use Rattle.rlc_queue.proofs.Lens.{written as written_lens}
use Rattle.rlc_um.specs.Sender.{Sender, Gives, IsIdle, IsHeld, IsSmall, turn, head_of, is_held, pieces}
use Rattle.rlc_um.specs.Sender.{ends_partly, pdu_of, sent}
use Rattle.rlc_am_rx_window.specs.Piece.{ends_in}
use Rattle.journal_stream.specs.OctetEvents.{OctetEvent, PduTaken, FieldWritten, fields, written, AreNext}
use Rattle.journal_stream.specs.SentOctets.{has_next}
use Rattle.journal_stream.specs.Laws.{kept_of}
use Rattle.journal_stream.proofs.SentTold.{told}
use Rattle.journal_sent.specs.Marks.{field_marks}
use Rattle.journal_sent.specs.SentPdus.{histories, written_in}
use Rattle.journal_sent.specs.SentFlows.{flow_judges, judges_by, judges_umd, marks_in}
use Rattle.journal_sent.specs.RightSent.{Flow, Sent, UmdIsSent, UmdIsShaped, SentAs, ShapedAs}
use Rattle.law_rlc.proofs.AmPair.Cells.{framing-begins, framing-ends}
use Rattle.law_sent.specs.UmSenders.{IsUmStreamOf, AreUmStreamsOf, UmSendersBegin, UmOffersGoOn, IsUmWritten}
use Rattle.law_sent.specs.UmSenders.{UmSendersWriteRightly, unsent_marks}
use Rattle.law_sent.proofs.SenderStreams.{concat_end, written_is}
use Rattle.law_sent.proofs.UmMarks.{more_marks, IsCut, cut}

-- ---- a stream

more_given : (next : ℕ) (unsent : List ℕ) (es : List OctetEvent) (pdu now : List ℕ) → now ≡ unsent ++ pdu
    → IsUmStreamOf next unsent es → IsUmStreamOf next now (PduTaken pdu ∷ es)
more_given next unsent es pdu now e h = record {
  stream_is = ap (λ (l : List ℕ). l ++ pdu) h.stream_is
      ∙ (append_assoc (concat (fields es)) unsent pdu ∙ ap (λ (l : List ℕ). concat (fields es) ++ l) (sym e));
  number = h.number;
  sent = h.sent;
}

-- the front of what isn't sent comes next
comes_next : (next : ℕ) (unsent field left : List ℕ) (es : List OctetEvent) → unsent ≡ field ++ left
    → IsUmStreamOf next unsent es → AreNext es field
comes_next next unsent field left es e h = record {
  rest = left;
  stream_is = h.stream_is
      ∙ (ap (λ (l : List ℕ). l ++ unsent) (sym (written_is es))
      ∙ (ap (λ (l : List ℕ). written es ++ l) e ∙ sym (append_assoc (written es) field left)));
}

-- and is written as the next number
written_goes : (next : ℕ) (unsent field left : List ℕ) (es : List OctetEvent) → unsent ≡ field ++ left
    → IsUmStreamOf next unsent es → IsUmStreamOf (next + 1) left (written_in histories field es)
written_goes next unsent field left es e h =
    let first = comes_next next unsent field left es e h in
    let found : has_next field (kept_of 0 es) ≡ true = ((told 0 es h.sent).next field).1 first in
    let more = length-append (fields es) (field ∷ []) in
    let number = h.number in
    subst (λ (b : Bool). IsUmStreamOf (next + 1) left (if b then FieldWritten field ∷ es else es)) (sym found)
    (record {
      stream_is = h.stream_is
          ∙ (ap (λ (l : List ℕ). concat (fields es) ++ l) e
          ∙ (sym (append_assoc (concat (fields es)) field left)
          ∙ ap (λ (l : List ℕ). l ++ left) (sym (concat_end (fields es) field))));
      number = omega (arith, more, number);
      sent = (first, h.sent);
    })

-- ---- a sender begins, and RLC is given an SDU

pub begins_so : UmSendersBegin
begins_so bits = record {
  octets = record { stream_is = refl; number = refl; sent = tt };
  marks = record { stream_is = refl; number = refl; sent = tt };
  some = tt;
  idle = λ e. refl;
}

one_more : (sdus : List (List ℕ)) (x : List ℕ) → 0 < length x → HaveOctets sdus → HaveOctets (sdus ++ x ∷ [])
one_more [] x octet h = (octet, tt)
one_more (y ∷ ys) x octet h = (h.0, one_more ys x octet h.1)

pub offers_go_on : UmOffersGoOn
offers_go_on s sdu x octet h = record {
  octets = more_given s.next _ x.octets sdu _ (concat_end s.waiting.sdus sdu) h.octets;
  marks = more_given s.next _ x.marks _ _ (more_marks s.waiting.begun s.waiting.sdus sdu h.idle) h.marks;
  some = one_more s.waiting.sdus sdu octet h.some;
  idle = λ e. absurd (let l = length-append s.waiting.sdus (sdu ∷ []) in omega (arith, e, l));
}

-- ---- a PDU is given

record HasRoom (s : Sender) (size : ℕ) : Type 0 where
  wait : 0 < length s.waiting.sdus
  room : head_of s.bits < size

room_by : (idle held small : Bool)
    → (if idle then IsIdle else if held then IsHeld else if small then IsSmall else Gives) ≡ Gives
    → (idle ≡ false) × (small ≡ false)
room_by true held small e = absurd cc
room_by false true small e = absurd cc
room_by false false true e = absurd cc
room_by false false false e = (refl, refl)

has_room : (s : Sender) (size : ℕ) (held : Option ℕ) → turn s size held ≡ Gives → HasRoom s size
has_room s size held e =
    let r = room_by (length s.waiting.sdus == 0) (is_held held s) (nat_lt size (head_of s.bits + 1)) e in
    record { wait = grind (arith, nat_tests, r.0); room = grind (arith, nat_tests, r.1) }

framed : (begins ends : Bool) → framing begins ends < 2 ^ 2
framed true true = omega arith
framed true false = omega arith
framed false true = omega arith
framed false false = omega arith

some_numbers : (bits : ℕ) → IsUmBits bits → 0 < 2 ^ bits
some_numbers bits (inl e) = subst (λ (b : ℕ). 0 < 2 ^ b) (sym e) (omega arith)
some_numbers bits (inr e) = subst (λ (b : ℕ). 0 < 2 ^ b) (sym e) (omega arith)

-- its fields are in range, so it is read as it is
reads_as_written : (s : Sender) (size : ℕ) → IsUmBits s.bits → HaveOctets s.waiting.sdus → HasRoom s size
    → umd_at s.bits (umd_canonical s.bits (pdu_of s size)) ≡ Ok (pdu_of s size)
reads_as_written s size um some r =
    let in_range : IsUmdInRange s.bits (pdu_of s size) = record {
      number = mod-lt s.next (some_numbers s.bits um);
      framing = framed (not s.waiting.begun) (not (ends_partly s size));
      lens = written_lens (head_of s.bits) size s.waiting.sdus some r.wait r.room;
    } in
    (umd_again s.bits (pdu_of s size) um in_range).read

-- what FI says of its octets
marks_are : (begins ends : Bool) (es : List (List ℕ)) → marks_in (framing begins ends) es ≡ field_marks begins ends es
marks_are begins ends es =
    ap (λ (b : Bool). field_marks b (ends_in (framing begins ends)) es) (framing-begins begins ends)
    ∙ ap (λ (b : Bool). field_marks begins b es) (framing-ends begins ends)

module _ (acked : ℕ → Bool) (passed : Option (List ℕ)) (s : Sender) (size : ℕ) (kind : PdcpKind) (f : Flow)
    (um : IsUmBits s.bits) (layout : f.layout ≡ layouts.Um s.bits kind) (r : HasRoom s size)
    (h : AreUmStreamsOf s f.stream) where
  abbrev pdu : UmdPdu
  pdu = pdu_of s size

  abbrev octets : List ℕ
  octets = umd_canonical s.bits pdu

  read : umd_at s.bits octets ≡ Ok pdu
  read = reads_as_written s size um h.some r

  is_cut : IsCut s.waiting.begun (ends_partly s size) s.waiting.sdus (pieces s size) (sent s size).waiting.sdus
  is_cut = cut (head_of s.bits) size 0 0 s.waiting.begun s.waiting.sdus h.some h.idle

  octets_split : concat s.waiting.sdus ≡ concat pdu.elements ++ concat (sent s size).waiting.sdus
  octets_split = sym (fitting (head_of s.bits) size s.waiting.sdus).octets

  marks_split : unsent_marks s.waiting.begun s.waiting.sdus
      ≡ marks_in pdu.fi pdu.elements ++ unsent_marks (ends_partly s size) (sent s size).waiting.sdus
  marks_split = is_cut.marks
      ∙ ap (λ (ms : List ℕ). ms ++ unsent_marks (ends_partly s size) (sent s size).waiting.sdus)
      (sym (marks_are (not s.waiting.begun) (not (ends_partly s size)) pdu.elements))

  carried : UmdIsSent hows.New (Ok pdu) f
  carried = record {
    whole = refl;
    next = comes_next s.next _ (concat pdu.elements) _ f.stream.octets octets_split h.octets;
  }

  shaped : UmdIsShaped s.bits hows.New (Ok pdu) f
  shaped = record {
    number = ap (λ (n : ℕ). n % 2 ^ s.bits) (sym h.octets.number);
    next = comes_next s.next _ (marks_in pdu.fi pdu.elements) _ f.stream.marks marks_split h.marks;
  }

  goes_on : AreUmStreamsOf (sent s size) (judges_umd histories s.bits hows.New (Ok pdu) f).flow.stream
  goes_on = record {
    octets = written_goes s.next _ (concat pdu.elements) _ f.stream.octets octets_split h.octets;
    marks = written_goes s.next _ (marks_in pdu.fi pdu.elements) _ f.stream.marks marks_split h.marks;
    some = is_cut.some;
    idle = is_cut.idle;
  }

  behind : (flow_judges histories acked hows.New passed octets f).flow.stream
      ≡ (judges_umd histories s.bits hows.New (Ok pdu) f).flow.stream
  behind =
      ap (λ (l : Layout). (judges_by histories l acked hows.New passed octets f).flow.stream) layout
      ∙ ap (λ (y : Result UmdPdu RlcRefusal). (judges_umd histories s.bits hows.New y f).flow.stream) read

  written_so : IsUmWritten acked passed s size f
  written_so = record {
    right = (
      subst (λ (l : Layout). SentAs l acked hows.New passed octets f) (sym layout)
          (subst (λ (y : Result UmdPdu RlcRefusal). UmdIsSent hows.New y f) (sym read) carried),
      subst (λ (l : Layout). ShapedAs l acked hows.New octets f) (sym layout)
          (subst (λ (y : Result UmdPdu RlcRefusal). UmdIsShaped s.bits hows.New y f) (sym read) shaped),
    );
    streams = subst (λ (x : Sent). AreUmStreamsOf (sent s size) x) (sym behind) goes_on;
  }

pub writes_rightly : UmSendersWriteRightly
writes_rightly s size held kind acked passed f um few layout gives h =
    written_so acked passed s size kind f um layout (has_room s size held gives) h
