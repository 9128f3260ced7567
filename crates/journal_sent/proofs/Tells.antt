-- By histories, a PDU and an SDU are judged exactly as is right.
use Rattle.std.proofs.Common.{◌≡◌, ℕ, ◌+◌, ◌^◌, ◌%◌, ◌==◌, ◌<◌, Bool, true, false, ◌&&◌, ◌||◌, List, [], ◌∷◌}
use Rattle.std.proofs.Common.{length, Option, Some, None, Result, Ok, Err, ◌↔◌, refl, ap, sym, ◌∙◌, arith, subst}
use Rattle.std.proofs.Common.{if◌then◌else◌}
use Rattle.std.specs.Prelude.{nat_le, nat_lt, is_some, is_none, IfSome}
use Rattle.std.specs.List.{concat}
use Rattle.std.proofs.lemmas.Bool.{and_parts, and_from, eqb-true, eq-eqb, leb-true, le-leb, ltb-true, lt-ltb}
use Rattle.std.proofs.lemmas.Slice.Eq.{bytes_eq-Decides}
use Rattle.l2_types.specs.declared.event.How.{How}
use Rattle.l2_types.specs.declared.event.How.TheVariants as hows
use Rattle.l2_types.specs.declared.limits.TheConstants.{GREATEST_SDU}
use Rattle.rlc_pdu.specs.declared.constants.TheConstants.{AM_MODULUS}
use Rattle.rlc_pdu.specs.declared.fault.RlcRefusal.{RlcRefusal}
use Rattle.rlc_pdu.specs.declared.pdu.Segment.{Segment}
use Rattle.rlc_pdu.specs.Pdus.{UmdPdu, AcknowledgedPdu, Payload, Status}
use Rattle.rlc_pdu.specs.Reading.{am_at, umd_at}
use Rattle.rlc_am_rx_window.specs.Piece.{so_of}
use Rattle.pdcp_pdu.specs.declared.pdu.PdcpKind.TheVariants as pdcp
use Rattle.pdu_show.specs.declared.kinds.Layout.{Layout}
use Rattle.pdu_show.specs.declared.kinds.Layout.TheVariants as layouts
use Rattle.law_words.specs.Passing.{last_with}
use Rattle.journal_stream.specs.OctetEvents.{fields, AreSent}
use Rattle.journal_stream.specs.SentOctets.{has_next, has_octets, ends_at}
use Rattle.journal_stream.specs.Laws.{kept_of}
use Rattle.journal_stream.proofs.SentTold.{told}
use Rattle.journal_sent.specs.SentPdus.{Stream, histories, new_verdict, has_sn, is_end, is_last_in, number_verdict}
use Rattle.journal_sent.specs.SentFlows.{Cover, is_sdu, is_data, discard_right, is_count, is_first}
use Rattle.journal_sent.specs.SentFlows.{is_sdu_in, take_right, marks_in, judges_umd, is_open_in, judges_amd, is_passed}
use Rattle.journal_sent.specs.SentFlows.{judges_by, flow_judges}
use Rattle.journal_sent.specs.RightSent.{field_of, NewIsSent, NewIsShaped, IsWhole, NumberIsSent, IsLastBy}
use Rattle.journal_sent.specs.RightSent.{NumberIsShaped, Flow, UmdIsSent, AmdIsSent, SentAs, PduIsSent, UmdIsShaped}
use Rattle.journal_sent.specs.RightSent.{AmdIsShaped, ShapedAs, PduIsShaped, IsSdu, IsCountOf, FirstIsTaken, TakenAs}
use Rattle.journal_sent.specs.RightSent.{DiscardedOf}
use Rattle.journal_sent.proofs.KeptStreams.{Events}

-- ---- a stream; each number was written with what came next

pub record IsSound (s : Stream Events) : Type 0 where
  pub octets : AreSent s.octets
  pub marks : AreSent s.marks

abbrev pub Tells : Bool → Type 0 → Type 0
Tells test right = test ≡ true ↔ right

new_sent : (modulus sn : ℕ) (plain : Bool) (field marks : List ℕ) (s : Stream Events) → IsSound s
    → Tells (new_verdict histories modulus sn plain field marks s).sent (NewIsSent plain field s)
new_sent modulus sn plain field marks s h =
    let next = (told 0 s.octets h.octets).next field in (
      λ e.
          let both = and_parts plain (has_next field (kept_of 0 s.octets)) e in
          record { whole = both.0; next = next.0 both.1 },
      λ r. and_from plain (has_next field (kept_of 0 s.octets)) r.whole (next.1 r.next),
    )

new_shaped : (modulus sn : ℕ) (plain : Bool) (field marks : List ℕ) (s : Stream Events) → IsSound s
    → Tells (new_verdict histories modulus sn plain field marks s).shaped (NewIsShaped modulus sn marks s)
new_shaped modulus sn plain field marks s h =
    let next = (told 0 s.marks h.marks).next marks in (
      λ e.
          let both = and_parts (sn == length (fields s.octets) % modulus) (has_next marks (kept_of 0 s.marks)) e in
          record { number = eqb-true sn (length (fields s.octets) % modulus) both.0; next = next.0 both.1 },
      λ r. and_from (sn == length (fields s.octets) % modulus) (has_next marks (kept_of 0 s.marks))
          (eq-eqb sn (length (fields s.octets) % modulus) r.number) (next.1 r.next),
    )

whole_tells : (segment : Option Segment) (ends : Bool) (own field : List ℕ)
    → Tells ends (length own ≡ so_of segment + length field)
    → Tells (is_some segment || ends) (IsWhole segment own field)
whole_tells None ends own field t = (
  λ e. let size = t.0 e in omega (arith, size),
  λ size. t.1 (omega (arith, size)),
)
whole_tells (Some s) ends own field t = (λ e. tt, λ u. refl)

number_sent : (is_open : ℕ → Bool) (n sn : ℕ) (segment : Option Segment) (field marks : List ℕ) (s : Stream Events)
    → IsSound s
    → Tells (number_verdict histories is_open n sn segment field marks s).sent
    (NumberIsSent is_open n sn segment field s)
number_sent is_open n sn segment field marks s h =
    let say = told 0 s.octets h.octets in
    let stand = say.stand n (so_of segment) field (omega arith) in
    let whole = whole_tells segment (ends_at n (so_of segment + length field) (kept_of 0 s.octets))
    (field_of n s.octets) field (say.ends n (so_of segment + length field) (omega arith)) in
    let stands = has_octets n (so_of segment) field (kept_of 0 s.octets) in
    let ends = ends_at n (so_of segment + length field) (kept_of 0 s.octets) in (
      λ e.
          let numbered = and_parts (has_sn n sn (length (fields s.octets)))
          (is_open n && (stands && (is_some segment || ends))) e in
          let sns = and_parts (nat_lt n (length (fields s.octets))) (n % AM_MODULUS == sn) numbered.0 in
          let opened = and_parts (is_open n) (stands && (is_some segment || ends)) numbered.1 in
          let standing = and_parts stands (is_some segment || ends) opened.1 in
          record {
            written = ltb-true n (length (fields s.octets)) sns.0;
            number = eqb-true (n % AM_MODULUS) sn sns.1;
            unacked = opened.0;
            stand = stand.0 standing.0;
            whole = whole.0 standing.1;
          },
      λ r.
          and_from (has_sn n sn (length (fields s.octets))) (is_open n && (stands && (is_some segment || ends)))
          (and_from (nat_lt n (length (fields s.octets))) (n % AM_MODULUS == sn)
          (lt-ltb n (length (fields s.octets)) r.written) (eq-eqb (n % AM_MODULUS) sn r.number))
          (and_from (is_open n) (stands && (is_some segment || ends)) r.unacked
          (and_from stands (is_some segment || ends) (stand.1 r.stand) (whole.1 r.whole))),
    )

end_tells : (last ends : Bool) (right : Type 0) → Tells ends right → Tells (is_end last ends) (last ≡ true ↔ right)
end_tells true ends right t = (λ e. (λ l. t.0 e, λ r. refl), λ h. t.1 (h.0 refl))
end_tells false true right t = (λ e. absurd cc, λ h. h.1 (t.0 refl))
end_tells false false right t = (λ e. (λ l. absurd cc, λ r. t.1 r), λ h. refl)

last_tells : (segment : Option Segment) (ends : Bool) (size end : ℕ) → Tells ends (size ≡ end)
    → Tells (is_last_in segment ends) (IsLastBy segment end size)
last_tells None ends size end t = (λ e. tt, λ h. refl)
last_tells (Some s) ends size end t = end_tells s.last ends (size ≡ end) t

number_shaped : (is_open : ℕ → Bool) (n sn : ℕ) (segment : Option Segment) (field marks : List ℕ) (s : Stream Events)
    → IsSound s
    → Tells (number_verdict histories is_open n sn segment field marks s).shaped
    (NumberIsShaped is_open n segment field marks s)
number_shaped is_open n sn segment field marks s h =
    let stand = (told 0 s.marks h.marks).stand n (so_of segment) marks (omega arith) in
    let ends = ends_at n (so_of segment + length field) (kept_of 0 s.octets) in
    let last = last_tells segment (ends_at n (so_of segment + length field) (kept_of 0 s.octets))
    (length (field_of n s.octets)) (so_of segment + length field)
    ((told 0 s.octets h.octets).ends n (so_of segment + length field) (omega arith)) in
    let stands = has_octets n (so_of segment) marks (kept_of 0 s.marks) in (
      λ e.
          let opened = and_parts (is_open n) (stands && is_last_in segment ends) e in
          let standing = and_parts stands (is_last_in segment ends) opened.1 in
          record { unacked = opened.0; stand = stand.0 standing.0; last = last.0 standing.1 },
      λ r. and_from (is_open n) (stands && is_last_in segment ends) r.unacked
          (and_from stands (is_last_in segment ends) (stand.1 r.stand) (last.1 r.last)),
    )

-- ---- a PDU

pub none_tells : Tells true (Unit {0})
none_tells = (λ e. tt, λ h. refl)

umd_sent : (rlc_bits : ℕ) (how : How) (read : Result UmdPdu RlcRefusal) (f : Flow) → IsSound f.stream
    → Tells (judges_umd histories rlc_bits how read f).verdict.sent (UmdIsSent how read f)
umd_sent rlc_bits hows.New (Ok pdu) f h =
    new_sent (2 ^ rlc_bits) pdu.sn true (concat pdu.elements) (marks_in pdu.fi pdu.elements) f.stream h
umd_sent rlc_bits hows.New (Err refused) f h = none_tells
umd_sent rlc_bits hows.Re read f h = none_tells
umd_sent rlc_bits hows.Status read f h = none_tells
umd_sent rlc_bits hows.Tm read f h = none_tells

amd_sent : (acked : ℕ → Bool) (how : How) (read : Result AcknowledgedPdu RlcRefusal) (f : Flow) → IsSound f.stream
    → Tells (judges_amd histories acked how read f).verdict.sent (AmdIsSent acked how read f)
amd_sent acked hows.New (Ok (Payload pdu)) f h = new_sent AM_MODULUS pdu.sn (is_none pdu.segment)
    (concat pdu.elements) (marks_in pdu.fi pdu.elements) f.stream h
amd_sent acked hows.New (Ok (Status pdu)) f h = none_tells
amd_sent acked hows.New (Err refused) f h = none_tells
amd_sent acked hows.Re (Ok (Payload pdu)) f h =
    number_sent (is_open_in f.floor acked) (last_with pdu.sn (length (fields f.stream.octets))) pdu.sn pdu.segment
    (concat pdu.elements) (marks_in pdu.fi pdu.elements) f.stream h
amd_sent acked hows.Re (Ok (Status pdu)) f h = none_tells
amd_sent acked hows.Re (Err refused) f h = none_tells
amd_sent acked hows.Status read f h = none_tells
amd_sent acked hows.Tm read f h = none_tells

passed_tells : (passed : Option (List ℕ)) (octets : List ℕ)
    → Tells (is_passed passed octets) (passed ≡ Some octets)
passed_tells None octets = (λ e. absurd cc, λ e. absurd cc)
passed_tells (Some sdu) octets =
    let same = bytes_eq-Decides sdu octets in (
      λ e. ap (λ (l : List ℕ). Some l) (same.0 e),
      λ e. let is : sdu ≡ octets = cc in same.1 is,
    )

sent_as : (layout : Layout) (acked : ℕ → Bool) (how : How) (passed : Option (List ℕ)) (octets : List ℕ) (f : Flow)
    → IsSound f.stream
    → Tells (judges_by histories layout acked how passed octets f).verdict.sent
    (SentAs layout acked how passed octets f)
sent_as layouts.Tm acked how passed octets f h = passed_tells passed octets
sent_as (layouts.Um rlc_bits kind) acked how passed octets f h = umd_sent rlc_bits how (umd_at rlc_bits octets) f h
sent_as (layouts.Am kind) acked how passed octets f h = amd_sent acked how (am_at octets) f h

pub pdu_sent : (acked : ℕ → Bool) (how : How) (passed : Option (List ℕ)) (octets : List ℕ) (f : Flow)
    → IsSound f.stream
    → Tells (flow_judges histories acked how passed octets f).verdict.sent (PduIsSent acked how passed octets f)
pdu_sent acked how passed octets f h = sent_as f.layout acked how passed octets f h

umd_shaped : (rlc_bits : ℕ) (how : How) (read : Result UmdPdu RlcRefusal) (f : Flow) → IsSound f.stream
    → Tells (judges_umd histories rlc_bits how read f).verdict.shaped (UmdIsShaped rlc_bits how read f)
umd_shaped rlc_bits hows.New (Ok pdu) f h =
    new_shaped (2 ^ rlc_bits) pdu.sn true (concat pdu.elements) (marks_in pdu.fi pdu.elements) f.stream h
umd_shaped rlc_bits hows.New (Err refused) f h = none_tells
umd_shaped rlc_bits hows.Re read f h = none_tells
umd_shaped rlc_bits hows.Status read f h = none_tells
umd_shaped rlc_bits hows.Tm read f h = none_tells

amd_shaped : (acked : ℕ → Bool) (how : How) (read : Result AcknowledgedPdu RlcRefusal) (f : Flow) → IsSound f.stream
    → Tells (judges_amd histories acked how read f).verdict.shaped (AmdIsShaped acked how read f)
amd_shaped acked hows.New (Ok (Payload pdu)) f h = new_shaped AM_MODULUS pdu.sn (is_none pdu.segment)
    (concat pdu.elements) (marks_in pdu.fi pdu.elements) f.stream h
amd_shaped acked hows.New (Ok (Status pdu)) f h = none_tells
amd_shaped acked hows.New (Err refused) f h = none_tells
amd_shaped acked hows.Re (Ok (Payload pdu)) f h =
    number_shaped (is_open_in f.floor acked) (last_with pdu.sn (length (fields f.stream.octets))) pdu.sn pdu.segment
    (concat pdu.elements) (marks_in pdu.fi pdu.elements) f.stream h
amd_shaped acked hows.Re (Ok (Status pdu)) f h = none_tells
amd_shaped acked hows.Re (Err refused) f h = none_tells
amd_shaped acked hows.Status read f h = none_tells
amd_shaped acked hows.Tm read f h = none_tells

shaped_as : (layout : Layout) (acked : ℕ → Bool) (how : How) (passed : Option (List ℕ)) (octets : List ℕ) (f : Flow)
    → IsSound f.stream
    → Tells (judges_by histories layout acked how passed octets f).verdict.shaped (ShapedAs layout acked how octets f)
shaped_as layouts.Tm acked how passed octets f h = none_tells
shaped_as (layouts.Um rlc_bits kind) acked how passed octets f h =
    umd_shaped rlc_bits how (umd_at rlc_bits octets) f h
shaped_as (layouts.Am kind) acked how passed octets f h = amd_shaped acked how (am_at octets) f h

pub pdu_shaped : (acked : ℕ → Bool) (how : How) (passed : Option (List ℕ)) (octets : List ℕ) (f : Flow)
    → IsSound f.stream
    → Tells (flow_judges histories acked how passed octets f).verdict.shaped (PduIsShaped acked how passed octets f)
pdu_shaped acked how passed octets f h = shaped_as f.layout acked how passed octets f h

-- ---- SDUs

sdu_tells : (sdu : List ℕ) → Tells (is_sdu sdu) (IsSdu sdu)
sdu_tells sdu = (
  λ e.
      let both = and_parts (nat_le 1 (length sdu)) (nat_le (length sdu) GREATEST_SDU) e in
      (leb-true 1 (length sdu) both.0, leb-true (length sdu) GREATEST_SDU both.1),
  λ h. and_from (nat_le 1 (length sdu)) (nat_le (length sdu) GREATEST_SDU) (le-leb 1 (length sdu) h.0)
      (le-leb (length sdu) GREATEST_SDU h.1),
)

sdu_in_tells : (sdu : Option (List ℕ)) → Tells (is_sdu_in sdu) (IfSome sdu IsSdu)
sdu_in_tells None = none_tells
sdu_in_tells (Some sdu) = sdu_tells sdu

count_tells : (cover : Option Cover) (taken : ℕ) (count : Option ℕ)
    → Tells (is_count cover taken count) (IsCountOf cover taken count)
count_tells None taken None = (λ e. refl, λ e. refl)
count_tells None taken (Some count) = (λ e. absurd cc, λ e. absurd cc)
count_tells (Some c) taken None = (λ e. absurd cc, λ e. absurd cc)
count_tells (Some c) taken (Some count) = (
  λ e. ap (λ (n : ℕ). Some n) (eqb-true count taken e),
  λ e. let is : count ≡ taken = cc in eq-eqb count taken is,
)

first_tells : (count : Option ℕ) (len : ℕ) (waiting : List (List ℕ)) (f : Flow) → f.waiting ≡ waiting
    → Tells (is_first count len waiting f) (FirstIsTaken count len f)
first_tells count len [] f is = (λ e. absurd cc, λ r. let first = r.first in absurd cc)
first_tells count len (sdu ∷ rest) f is = (
  λ e.
      let sized = and_parts (is_sdu sdu) ((length sdu == len) && is_count f.cover f.given count) e in
      let both = and_parts (length sdu == len) (is_count f.cover f.given count) sized.1 in
      record {
        sdu = sdu;
        rest = rest;
        first = is;
        size = (sdu_tells sdu).0 sized.0;
        len_is = eqb-true (length sdu) len both.0;
        count_is = (count_tells f.cover f.given count).0 both.1;
      },
  λ r.
      let first = r.first in
      let own : r.sdu ≡ sdu = cc in
      and_from (is_sdu sdu) ((length sdu == len) && is_count f.cover f.given count)
      ((sdu_tells sdu).1 (subst IsSdu own r.size))
      (and_from (length sdu == len) (is_count f.cover f.given count)
      (eq-eqb (length sdu) len (sym (ap (λ (l : List ℕ). length l) own) ∙ r.len_is))
      ((count_tells f.cover f.given count).1 r.count_is)),
)

taken_as : (layout : Layout) (count : Option ℕ) (len : ℕ) (sdu : Option (List ℕ)) (f : Flow)
    → Tells (if is_data layout then is_sdu_in sdu else is_first count len f.waiting f) (TakenAs layout count len sdu f)
taken_as layouts.Tm count len sdu f = first_tells count len f.waiting f refl
taken_as (layouts.Um rlc_bits kind) count len sdu f = first_tells count len f.waiting f refl
taken_as (layouts.Am pdcp.Srb) count len sdu f = first_tells count len f.waiting f refl
taken_as (layouts.Am (pdcp.Um bits)) count len sdu f = first_tells count len f.waiting f refl
taken_as (layouts.Am (pdcp.Am bits)) count len sdu f = sdu_in_tells sdu

pub take_tells : (count : Option ℕ) (len : ℕ) (sdu : Option (List ℕ)) (f : Flow)
    → Tells (take_right count len sdu f) (TakenAs f.layout count len sdu f)
take_tells count len sdu f = taken_as f.layout count len sdu f

waits_tell : (n : ℕ) → Tells (nat_lt 0 n) (0 < n)
waits_tell n = (λ e. ltb-true 0 n e, λ h. lt-ltb 0 n h)

discarded_of : (layout : Layout) (f : Flow)
    → Tells (if is_data layout then true else nat_lt 0 (length f.waiting)) (DiscardedOf layout f)
discarded_of layouts.Tm f = waits_tell (length f.waiting)
discarded_of (layouts.Um rlc_bits kind) f = waits_tell (length f.waiting)
discarded_of (layouts.Am pdcp.Srb) f = waits_tell (length f.waiting)
discarded_of (layouts.Am (pdcp.Um bits)) f = waits_tell (length f.waiting)
discarded_of (layouts.Am (pdcp.Am bits)) f = none_tells

pub discard_tells : (f : Flow) → Tells (discard_right f) (DiscardedOf f.layout f)
discard_tells f = discarded_of f.layout f
