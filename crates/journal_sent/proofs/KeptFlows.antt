-- What is kept of a flow does what its history does.
use Rattle.std.proofs.Common.{◌≡◌, ℕ, ◌+◌, ◌^◌, ◌≤◌, Bool, true, false, List, [], ◌∷◌, ◌++◌, length, Option, Some}
use Rattle.std.proofs.Common.{None, Result, Ok, Err, refl, ap, sym, ◌∙◌, arith, subst, if◌then◌else◌}
use Rattle.std.specs.Prelude.{is_none, not, nat_le}
use Rattle.std.specs.List.{concat}
use Rattle.std.proofs.lemmas.Bool.{and_parts, leb-true}
use Rattle.eps_sec.specs.declared.Keys.{Keys}
use Rattle.l2_types.specs.declared.event.How.{How}
use Rattle.l2_types.specs.declared.event.How.TheVariants as hows
use Rattle.rlc_pdu.specs.declared.constants.TheConstants.{AM_MODULUS}
use Rattle.rlc_pdu.specs.declared.fault.RlcRefusal.{RlcRefusal}
use Rattle.rlc_pdu.specs.Pdus.{UmdPdu, AmdPdu, AcknowledgedPdu, Payload, Status}
use Rattle.rlc_pdu.specs.Reading.{am_at, umd_at}
use Rattle.pdcp_pdu.specs.declared.pdu.PdcpKind.TheVariants as pdcp
use Rattle.pdcp_pdu.specs.Pdus.{Report}
use Rattle.pdcp_pdu.specs.Grammar.{user_spelling}
use Rattle.pdcp_tx.specs.Pdus.{pdu}
use Rattle.pdu_show.specs.declared.kinds.Layout.{Layout}
use Rattle.pdu_show.specs.declared.kinds.Layout.TheVariants as layouts
use Rattle.journal_lives.specs.FlowLives.{FlowLives}
use Rattle.journal_stream.specs.OctetEvents.{fields}
use Rattle.journal_stream.specs.SentOctets.{SentOctets}
use Rattle.journal_sent.specs.SentPdus.{Stream, histories, accounts, with_given, with_written}
use Rattle.journal_sent.specs.SentFlows.{Cover, with_covered, is_sdu, SentFlow, flow_begun, is_data, flow_submitted}
use Rattle.journal_sent.specs.SentFlows.{discard_right, flow_discarded, is_first, gives_first, gives_data, is_sdu_in}
use Rattle.journal_sent.specs.SentFlows.{take_right, flow_taken, passed_by, is_written, reported_as, flow_reported}
use Rattle.journal_sent.specs.SentFlows.{Judged, unjudged}
use Rattle.journal_sent.specs.SentFlows.{marks_in, judges_new, judges_umd, is_open_in, judges_again, judges_amd}
use Rattle.journal_sent.specs.SentFlows.{judges_by, flow_judges, flow_renewed, floored, settled_by, flow_settled}
use Rattle.journal_sent.proofs.Grows.{IsBelow}
use Rattle.journal_sent.proofs.KeptStreams.{Events, kept_stream, AreKept, nothing_kept, nothing_same, given_stream}
use Rattle.journal_sent.proofs.KeptStreams.{given_stream_kept, written_stream, written_stream_kept, written_stream_more}
use Rattle.journal_sent.proofs.KeptStreams.{base_behind, forgets_stream, forgets_stream_kept, next_same, new_same}
use Rattle.journal_sent.proofs.KeptStreams.{again_same}

abbrev dressed : SentFlow Events → Stream SentOctets → SentFlow SentOctets
dressed f s = record {
  layout = f.layout;
  cover = f.cover;
  waiting = f.waiting;
  given = f.given;
  floor = f.floor;
  stream = s;
}

abbrev pub kept_flow : ℕ → ℕ → SentFlow Events → SentFlow SentOctets
kept_flow a b f = dressed f (kept_stream a b f.stream)

-- the floor lies no higher than that of the next group may
abbrev pub IsFloor : Layout → Option FlowLives → ℕ → Events → Type 0
IsFloor (layouts.Um rlc_bits kind) account floor es = floor ≤ length (fields es)
IsFloor (layouts.Am kind) account floor es = IsBelow floor account
IsFloor layout account floor es = Unit {0}

pub record IsAt (account : Option FlowLives) (a b : ℕ) (f : SentFlow Events) : Type 0 where
  pub kept : AreKept a b f.floor f.stream
  pub floor : IsFloor f.layout account f.floor f.stream.octets

pub record IsAlike (account : Option FlowLives) (f : SentFlow Events) (g : SentFlow SentOctets) : Type 0 where
  pub a : ℕ
  pub b : ℕ
  pub is : g ≡ kept_flow a b f
  pub at : IsAt account a b f

-- ---- floors

zero_floor : (layout : Layout) (account : Option FlowLives) (es : Events) → IsFloor layout account 0 es
zero_floor layouts.Tm account es = tt
zero_floor (layouts.Um rlc_bits kind) account es = omega arith
zero_floor (layouts.Am kind) None es = tt
zero_floor (layouts.Am kind) (Some l) es = omega arith

floor_stays : (layout : Layout) (account : Option FlowLives) (floor : ℕ) (es told : Events)
    → length (fields es) ≤ length (fields told) → IsFloor layout account floor es → IsFloor layout account floor told
floor_stays layouts.Tm account floor es told more h = tt
floor_stays (layouts.Um rlc_bits kind) account floor es told more h = omega (arith, more, h)
floor_stays (layouts.Am kind) account floor es told more h = h

-- ---- a step of both

stepped : (account after : Option FlowLives) (step : SentFlow SentOctets → SentFlow SentOctets)
    (f told : SentFlow Events) → ((a b : ℕ) → IsAt account a b f → IsAlike after told (step (kept_flow a b f)))
    → (g : SentFlow SentOctets) → IsAlike account f g → IsAlike after told (step g)
stepped account after step f told does g h =
    subst (λ (x : SentFlow SentOctets). IsAlike after told (step x)) (sym h.is) (does h.a h.b h.at)

unchanged : (account : Option FlowLives) (a b : ℕ) (f : SentFlow Events) → IsAt account a b f
    → IsAlike account f (kept_flow a b f)
unchanged account a b f h = record { a = a; b = b; is = refl; at = h }

-- a PDU of PDCP is given, as SDUs and how many were given become others
given_at : (account : Option FlowLives) (pdu : List ℕ) (waiting : List (List ℕ)) (given : ℕ) (a b : ℕ)
    (f : SentFlow Events) → IsAt account a b f
    → IsAlike account
    (record f { waiting = waiting; given = given; stream = with_given histories pdu f.stream })
    (record (kept_flow a b f) {
      waiting = waiting;
      given = given;
      stream = with_given accounts pdu (kept_stream a b f.stream);
    })
given_at account pdu waiting given a b f h = record {
  a = a;
  b = b;
  is = ap (dressed (record f { waiting = waiting; given = given })) (given_stream a b f.floor pdu f.stream h.kept);
  at = record {
    kept = given_stream_kept a b f.floor pdu f.stream h.kept;
    floor = floor_stays f.layout account f.floor f.stream.octets (with_given histories pdu f.stream).octets
        (omega arith) h.floor;
  };
}

-- the PDU of an SDU is given, if the bearer has PDCP
covered_at : (account : Option FlowLives) (cover : Option Cover) (count : ℕ) (sdu : List ℕ) (waiting : List (List ℕ))
    (given : ℕ) (a b : ℕ) (f : SentFlow Events) → IsAt account a b f
    → IsAlike account
    (record f { waiting = waiting; given = given; stream = with_covered histories cover count sdu f.stream })
    (record (kept_flow a b f) {
      waiting = waiting;
      given = given;
      stream = with_covered accounts cover count sdu (kept_stream a b f.stream);
    })
covered_at account None count sdu waiting given a b f h =
    record { a = a; b = b; is = refl; at = record { kept = h.kept; floor = h.floor } }
covered_at account (Some c) count sdu waiting given a b f h =
    given_at account (pdu c.kind c.protection count sdu) waiting given a b f h

-- ---- SDUs

submitted_at : (account : Option FlowLives) (sdu : List ℕ) (f : SentFlow Events) (a b : ℕ) → IsAt account a b f
    → IsAlike account (flow_submitted sdu f) (flow_submitted sdu (kept_flow a b f))
submitted_at account sdu f a b h = by (is_data f.layout)
  where
    by : (data' : Bool) → IsAlike account (if data' then f else record f { waiting = f.waiting ++ sdu ∷ [] })
        (if data' then kept_flow a b f else record (kept_flow a b f) { waiting = f.waiting ++ sdu ∷ [] })
    by true = unchanged account a b f h
    by false = record { a = a; b = b; is = refl; at = record { kept = h.kept; floor = h.floor } }

pub submitted_alike : (account : Option FlowLives) (sdu : List ℕ) (f : SentFlow Events) (g : SentFlow SentOctets)
    → IsAlike account f g → IsAlike account (flow_submitted sdu f) (flow_submitted sdu g)
submitted_alike account sdu f g h =
    stepped account account (flow_submitted sdu) f (flow_submitted sdu f) (submitted_at account sdu f) g h

pub discarded_alike : (account : Option FlowLives) (f : SentFlow Events) (g : SentFlow SentOctets)
    → IsAlike account f g → IsAlike account (flow_discarded f) (flow_discarded g)
discarded_alike account f g h = stepped account account flow_discarded f (flow_discarded f)
    (λ a b at. record { a = a; b = b; is = refl; at = record { kept = at.kept; floor = at.floor } }) g h

pub discard_same : (account : Option FlowLives) (f : SentFlow Events) (g : SentFlow SentOctets)
    → IsAlike account f g → discard_right g ≡ discard_right f
discard_same account f g h = ap (λ (x : SentFlow SentOctets). discard_right x) h.is

first_same : (count : Option ℕ) (len : ℕ) (waiting : List (List ℕ)) (a b : ℕ) (f : SentFlow Events)
    → is_first count len waiting (kept_flow a b f) ≡ is_first count len waiting f
first_same count len [] a b f = refl
first_same count len (sdu ∷ rest) a b f = refl

first_at : (account : Option FlowLives) (waiting : List (List ℕ)) (f : SentFlow Events) (a b : ℕ)
    → IsAt account a b f
    → IsAlike account (gives_first histories waiting f) (gives_first accounts waiting (kept_flow a b f))
first_at account [] f a b h = unchanged account a b f h
first_at account (sdu ∷ rest) f a b h = covered_at account f.cover f.given sdu rest (f.given + 1) a b f h

data_at : (account : Option FlowLives) (count : Option ℕ) (sdu : Option (List ℕ)) (f : SentFlow Events) (a b : ℕ)
    → IsAt account a b f
    → IsAlike account (gives_data histories count sdu f) (gives_data accounts count sdu (kept_flow a b f))
data_at account None sdu f a b h = unchanged account a b f h
data_at account (Some count) None f a b h = unchanged account a b f h
data_at account (Some count) (Some sdu) f a b h = by (is_sdu sdu)
  where
    by : (is : Bool)
        → IsAlike account
        (if is then record f { stream = with_covered histories f.cover count sdu f.stream } else f)
        (if is then record (kept_flow a b f) {
          stream = with_covered accounts f.cover count sdu (kept_stream a b f.stream);
        } else kept_flow a b f)
    by true = covered_at account f.cover count sdu f.waiting f.given a b f h
    by false = unchanged account a b f h

taken_at : (account : Option FlowLives) (count : Option ℕ) (len : ℕ) (sdu : Option (List ℕ)) (f : SentFlow Events)
    (a b : ℕ) → IsAt account a b f
    → IsAlike account (flow_taken histories count len sdu f) (flow_taken accounts count len sdu (kept_flow a b f))
taken_at account count len sdu f a b h = by (is_data f.layout)
  where
    waits : (first : Bool)
        → IsAlike account (if first then gives_first histories f.waiting f else f)
        (if first then gives_first accounts f.waiting (kept_flow a b f) else kept_flow a b f)
    waits true = first_at account f.waiting f a b h
    waits false = unchanged account a b f h

    by : (data' : Bool)
        → IsAlike account
        (if data' then gives_data histories count sdu f
        else if is_first count len f.waiting f then gives_first histories f.waiting f else f)
        (if data' then gives_data accounts count sdu (kept_flow a b f)
        else if is_first count len f.waiting (kept_flow a b f) then gives_first accounts f.waiting (kept_flow a b f)
        else kept_flow a b f)
    by true = data_at account count sdu f a b h
    by false = subst (λ (first : Bool). IsAlike account
        (if is_first count len f.waiting f then gives_first histories f.waiting f else f)
        (if first then gives_first accounts f.waiting (kept_flow a b f) else kept_flow a b f))
        (sym (first_same count len f.waiting a b f)) (waits (is_first count len f.waiting f))

pub taken_alike : (account : Option FlowLives) (count : Option ℕ) (len : ℕ) (sdu : Option (List ℕ))
    (f : SentFlow Events) (g : SentFlow SentOctets) → IsAlike account f g
    → IsAlike account (flow_taken histories count len sdu f) (flow_taken accounts count len sdu g)
taken_alike account count len sdu f g h =
    stepped account account (flow_taken accounts count len sdu) f (flow_taken histories count len sdu f)
    (taken_at account count len sdu f) g h

pub take_same : (account : Option FlowLives) (count : Option ℕ) (len : ℕ) (sdu : Option (List ℕ))
    (f : SentFlow Events) (g : SentFlow SentOctets) → IsAlike account f g
    → take_right count len sdu g ≡ take_right count len sdu f
take_same account count len sdu f g h =
    ap (λ (x : SentFlow SentOctets). take_right count len sdu x) h.is
    ∙ ap (λ (first : Bool). if is_data f.layout then is_sdu_in sdu else first)
    (first_same count len f.waiting h.a h.b f)

pub passed_same : (account : Option FlowLives) (f : SentFlow Events) (g : SentFlow SentOctets) → IsAlike account f g
    → passed_by g ≡ passed_by f
passed_same account f g h = ap (λ (x : SentFlow SentOctets). passed_by x) h.is

-- ---- reports

report_at : (account : Option FlowLives) (layout : Layout) (fms : ℕ) (bitmap : List ℕ) (f : SentFlow Events) (a b : ℕ)
    → IsAt account a b f
    → IsAlike account (reported_as histories layout fms bitmap f)
    (reported_as accounts layout fms bitmap (kept_flow a b f))
report_at account layouts.Tm fms bitmap f a b h = unchanged account a b f h
report_at account (layouts.Um rlc_bits kind) fms bitmap f a b h = unchanged account a b f h
report_at account (layouts.Am pdcp.Srb) fms bitmap f a b h = unchanged account a b f h
report_at account (layouts.Am (pdcp.Um bits)) fms bitmap f a b h = unchanged account a b f h
report_at account (layouts.Am (pdcp.Am bits)) fms bitmap f a b h = by (is_written bits fms bitmap)
  where
    by : (is : Bool)
        → IsAlike account (if is then record f {
          stream = with_given histories (user_spelling bits (Report fms bitmap)) f.stream;
        } else f) (if is then record (kept_flow a b f) {
          stream = with_given accounts (user_spelling bits (Report fms bitmap)) (kept_stream a b f.stream);
        } else kept_flow a b f)
    by true = given_at account (user_spelling bits (Report fms bitmap)) f.waiting f.given a b f h
    by false = unchanged account a b f h

pub reported_alike : (account : Option FlowLives) (fms : ℕ) (bitmap : List ℕ) (f : SentFlow Events)
    (g : SentFlow SentOctets) → IsAlike account f g
    → IsAlike account (flow_reported histories fms bitmap f) (flow_reported accounts fms bitmap g)
reported_alike account fms bitmap f g h =
    stepped account account (flow_reported accounts fms bitmap) f (flow_reported histories fms bitmap f)
    (report_at account f.layout fms bitmap f) g h

pub data_same : (account : Option FlowLives) (f : SentFlow Events) (g : SentFlow SentOctets) → IsAlike account f g
    → is_data g.layout ≡ is_data f.layout
data_same account f g h = ap (λ (x : SentFlow SentOctets). is_data x.layout) h.is

-- ---- PDUs

pub record AreJudged (account : Option FlowLives) (f : Judged Events) (g : Judged SentOctets) : Type 0 where
  pub verdict : g.verdict ≡ f.verdict
  pub flow : IsAlike account f.flow g.flow

unjudged_at : (account : Option FlowLives) (f : SentFlow Events) (a b : ℕ) → IsAt account a b f
    → AreJudged account (unjudged f) (unjudged (kept_flow a b f))
unjudged_at account f a b h = record { verdict = refl; flow = unchanged account a b f h }

new_at : (account : Option FlowLives) (modulus sn fi : ℕ) (plain : Bool) (elements : List (List ℕ))
    (f : SentFlow Events) (a b : ℕ) → IsAt account a b f
    → AreJudged account (judges_new histories modulus sn fi plain elements f)
    (judges_new accounts modulus sn fi plain elements (kept_flow a b f))
new_at account modulus sn fi plain elements f a b h =
    record {
      verdict = new_same a b f.floor modulus sn plain (concat elements) (marks_in fi elements) f.stream h.kept;
      flow = record {
        a = a;
        b = b;
        is = ap (dressed f) (written_stream a b f.floor (concat elements) (marks_in fi elements) f.stream h.kept);
        at = record {
          kept = written_stream_kept a b f.floor (concat elements) (marks_in fi elements) f.stream h.kept;
          floor = floor_stays f.layout account f.floor f.stream.octets
              (with_written histories (concat elements) (marks_in fi elements) f.stream).octets
              (written_stream_more (concat elements) (marks_in fi elements) f.stream) h.floor;
        };
      };
    }

open_high : (floor : ℕ) (acked : ℕ → Bool) (n : ℕ) → is_open_in floor acked n ≡ true → floor ≤ n
open_high floor acked n e = leb-true floor n (and_parts (nat_le floor n) (not (acked n)) e).0

again_at : (account : Option FlowLives) (acked : ℕ → Bool) (pdu : AmdPdu) (f : SentFlow Events) (a b : ℕ)
    → IsAt account a b f
    → AreJudged account (judges_again histories acked pdu f) (judges_again accounts acked pdu (kept_flow a b f))
again_at account acked pdu f a b h = record {
  verdict = again_same a b f.floor (is_open_in f.floor acked) pdu.sn pdu.segment (concat pdu.elements)
      (marks_in pdu.fi pdu.elements) f.stream (open_high f.floor acked) h.kept;
  flow = unchanged account a b f h;
}

umd_judged : (account : Option FlowLives) (rlc_bits : ℕ) (how : How) (read : Result UmdPdu RlcRefusal)
    (f : SentFlow Events) (a b : ℕ) → IsAt account a b f
    → AreJudged account (judges_umd histories rlc_bits how read f)
    (judges_umd accounts rlc_bits how read (kept_flow a b f))
umd_judged account rlc_bits hows.New (Ok pdu) f a b h =
    new_at account (2 ^ rlc_bits) pdu.sn pdu.fi true pdu.elements f a b h
umd_judged account rlc_bits hows.New (Err refused) f a b h = unjudged_at account f a b h
umd_judged account rlc_bits hows.Re read f a b h = unjudged_at account f a b h
umd_judged account rlc_bits hows.Status read f a b h = unjudged_at account f a b h
umd_judged account rlc_bits hows.Tm read f a b h = unjudged_at account f a b h

amd_judged : (account : Option FlowLives) (acked : ℕ → Bool) (how : How) (read : Result AcknowledgedPdu RlcRefusal)
    (f : SentFlow Events) (a b : ℕ) → IsAt account a b f
    → AreJudged account (judges_amd histories acked how read f) (judges_amd accounts acked how read (kept_flow a b f))
amd_judged account acked hows.New (Ok (Payload pdu)) f a b h =
    new_at account AM_MODULUS pdu.sn pdu.fi (is_none pdu.segment) pdu.elements f a b h
amd_judged account acked hows.New (Ok (Status pdu)) f a b h = unjudged_at account f a b h
amd_judged account acked hows.New (Err refused) f a b h = unjudged_at account f a b h
amd_judged account acked hows.Re (Ok (Payload pdu)) f a b h = again_at account acked pdu f a b h
amd_judged account acked hows.Re (Ok (Status pdu)) f a b h = unjudged_at account f a b h
amd_judged account acked hows.Re (Err refused) f a b h = unjudged_at account f a b h
amd_judged account acked hows.Status read f a b h = unjudged_at account f a b h
amd_judged account acked hows.Tm read f a b h = unjudged_at account f a b h

judged_at : (account : Option FlowLives) (layout : Layout) (acked : ℕ → Bool) (how : How) (passed : Option (List ℕ))
    (octets : List ℕ) (f : SentFlow Events) (a b : ℕ) → IsAt account a b f
    → AreJudged account (judges_by histories layout acked how passed octets f)
    (judges_by accounts layout acked how passed octets (kept_flow a b f))
judged_at account layouts.Tm acked how passed octets f a b h =
    record { verdict = refl; flow = unchanged account a b f h }
judged_at account (layouts.Um rlc_bits kind) acked how passed octets f a b h =
    umd_judged account rlc_bits how (umd_at rlc_bits octets) f a b h
judged_at account (layouts.Am kind) acked how passed octets f a b h =
    amd_judged account acked how (am_at octets) f a b h

pub judged_alike : (account : Option FlowLives) (acked : ℕ → Bool) (how : How) (passed : Option (List ℕ))
    (octets : List ℕ) (f : SentFlow Events) (g : SentFlow SentOctets) → IsAlike account f g
    → AreJudged account (flow_judges histories acked how passed octets f)
    (flow_judges accounts acked how passed octets g)
judged_alike account acked how passed octets f g h =
    subst (λ (x : SentFlow SentOctets). AreJudged account (flow_judges histories acked how passed octets f)
    (flow_judges accounts acked how passed octets x)) (sym h.is)
    (judged_at account f.layout acked how passed octets f h.a h.b h.at)

-- ---- a bearer begins, a life ends, a group ends

pub begun_alike : (account : Option FlowLives) (layout : Layout) (cover : Option Cover)
    → IsAlike account (flow_begun histories layout cover) (flow_begun accounts layout cover)
begun_alike account layout cover = record {
  a = 0;
  b = 0;
  is = ap (dressed (flow_begun histories layout cover)) nothing_same;
  at = record { kept = nothing_kept 0; floor = zero_floor layout account [] };
}

renewed_at : (after : Option FlowLives) (keys : Keys) (f : SentFlow Events) (a b : ℕ)
    → IsAlike after (flow_renewed histories keys f) (flow_renewed accounts keys (kept_flow a b f))
renewed_at after keys f a b = record {
  a = 0;
  b = 0;
  is = ap (dressed (flow_renewed histories keys f)) nothing_same;
  at = record { kept = nothing_kept 0; floor = zero_floor f.layout after [] };
}

pub renewed_alike : (account after : Option FlowLives) (keys : Keys) (f : SentFlow Events) (g : SentFlow SentOctets)
    → IsAlike account f g → IsAlike after (flow_renewed histories keys f) (flow_renewed accounts keys g)
renewed_alike account after keys f g h =
    stepped account after (flow_renewed accounts keys) f (flow_renewed histories keys f)
    (λ a b at. renewed_at after keys f a b) g h

floored_at : (account : Option FlowLives) (n : ℕ) (f : SentFlow Events) (a b : ℕ) → IsAt account a b f → f.floor ≤ n
    → IsFloor f.layout account n f.stream.octets
    → IsAlike account (floored histories n f) (floored accounts n (kept_flow a b f))
floored_at account n f a b h low floor = record {
  a = base_behind a n f.stream.octets;
  b = base_behind b n f.stream.marks;
  is = ap (dressed (record f { floor = n })) (forgets_stream a b n f.stream);
  at = record { kept = forgets_stream_kept a b f.floor n f.stream low h.kept; floor = floor };
}

settled_at : (account : Option FlowLives) (layout : Layout) (f : SentFlow Events) (a b : ℕ) → f.layout ≡ layout
    → IsAt account a b f
    → IsAlike account (settled_by histories layout account f) (settled_by accounts layout account (kept_flow a b f))
settled_at account layouts.Tm f a b is h = unchanged account a b f h
settled_at account (layouts.Um rlc_bits kind) f a b is h =
    let low = subst (λ (l : Layout). IsFloor l account f.floor f.stream.octets) is h.floor in
    subst (λ (n : ℕ). IsAlike account (floored histories (length (fields f.stream.octets)) f)
    (floored accounts n (kept_flow a b f))) (sym (next_same a b f.floor f.stream h.kept))
    (floored_at account (length (fields f.stream.octets)) f a b h low
    (subst (λ (l : Layout). IsFloor l account (length (fields f.stream.octets)) f.stream.octets) (sym is)
    (omega arith)))
settled_at None (layouts.Am kind) f a b is h = unchanged None a b f h
settled_at (Some l) (layouts.Am kind) f a b is h =
    let low = subst (λ (y : Layout). IsFloor y (Some l) f.floor f.stream.octets) is h.floor in
    floored_at (Some l) l.account.sending.base f a b h low
    (subst (λ (y : Layout). IsFloor y (Some l) l.account.sending.base f.stream.octets) (sym is) (omega arith))

pub settled_alike : (account : Option FlowLives) (f : SentFlow Events) (g : SentFlow SentOctets)
    → IsAlike account f g → IsAlike account (flow_settled histories account f) (flow_settled accounts account g)
settled_alike account f g h =
    stepped account account (flow_settled accounts account) f (flow_settled histories account f)
    (λ a b at. settled_at account f.layout f a b refl at) g h

-- the account of the flow goes on
floor_grows : (account after : Option FlowLives) → ((n : ℕ) → IsBelow n account → IsBelow n after) → (layout : Layout)
    (floor : ℕ) (es : Events) → IsFloor layout account floor es → IsFloor layout after floor es
floor_grows account after grows layouts.Tm floor es h = tt
floor_grows account after grows (layouts.Um rlc_bits kind) floor es h = h
floor_grows account after grows (layouts.Am kind) floor es h = grows floor h

pub account_alike : (account after : Option FlowLives) → ((n : ℕ) → IsBelow n account → IsBelow n after)
    → (f : SentFlow Events) (g : SentFlow SentOctets) → IsAlike account f g → IsAlike after f g
account_alike account after grows f g h = record {
  a = h.a;
  b = h.b;
  is = h.is;
  at = record {
    kept = h.at.kept;
    floor = floor_grows account after grows f.layout f.floor f.stream.octets h.at.floor;
  };
}
