-- One direction of a bearer at its sender: the SDUs that wait, those that RLC takes, and the PDUs
-- that it writes (TS 36.322 5.1, TS 36.323 5.1.1).
use Rattle.std.specs.Prelude.{ℕ, ◌+◌, ◌==◌, Bool, true, false, ◌&&◌, nat_le, nat_lt}
use Rattle.std.specs.Prelude.{if◌then◌else◌, List, [], ◌∷◌, ◌++◌, length, drop, Option, Some}
use Rattle.std.specs.Prelude.{None, Result, Ok, is_none, not, ◌^◌}
use Rattle.std.specs.List.{concat}
use Rattle.std.specs.Str.{bytes_eq}
use Rattle.eps_sec.specs.declared.Keys.{Keys}
use Rattle.l2_types.specs.declared.limits.TheConstants.{GREATEST_SDU}
use Rattle.l2_types.specs.declared.event.How.{How}
use Rattle.l2_types.specs.declared.event.How.TheVariants as hows
use Rattle.l2_types.specs.declared.side.Side.{Side}
use Rattle.rlc_pdu.specs.declared.constants.TheConstants.{AM_MODULUS}
use Rattle.rlc_pdu.specs.declared.fault.RlcRefusal.{RlcRefusal}
use Rattle.rlc_pdu.specs.Pdus.{UmdPdu, AmdPdu, AcknowledgedPdu, Payload}
use Rattle.rlc_pdu.specs.Reading.{am_at, umd_at}
use Rattle.rlc_am_rx_window.specs.Piece.{begins_in, ends_in}
use Rattle.pdcp_pdu.specs.declared.pdu.PdcpKind.{PdcpKind}
use Rattle.pdcp_pdu.specs.declared.pdu.PdcpKind.TheVariants as pdcp
use Rattle.pdcp_pdu.specs.Pdus.{Report}
use Rattle.pdcp_pdu.specs.Grammar.{user_spelling}
use Rattle.pdcp_sec.specs.Protection.{Protection, protection_of}
use Rattle.pdcp_tx.specs.Pdus.{pdu}
use Rattle.bearer_pdcp.specs.Ends.{bearer_of, sends}
use Rattle.pdu_show.specs.declared.kinds.Layout.{Layout}
use Rattle.pdu_show.specs.declared.kinds.Layout.TheVariants as layouts
use Rattle.journal_lives.specs.FlowLives.{FlowLives}
use Rattle.journal_account.specs.FlowSending.{acked_kept}
use Rattle.journal_given.specs.Supplies.{is_short}
use Rattle.journal_sent.specs.declared.verdict.Verdict.{Verdict}
use Rattle.journal_sent.specs.Marks.{field_marks}
use Rattle.journal_sent.specs.SentPdus.{Keeper, Stream, nothing_sent, with_given, with_forgotten}
use Rattle.journal_sent.specs.SentPdus.{new_verdict, with_written, again_verdict}

-- ---- PDCP's PDU of an SDU; a transparent bearer has none, and passes the SDU on, which is in no
-- stream

pub record Cover : Type 0 where
  pub kind : PdcpKind
  pub protection : Protection

abbrev pub cover_as : PdcpKind → Side → ℕ → Keys → Option Cover
cover_as kind side lcid keys = Some (record {
  kind = kind;
  protection = protection_of kind keys (bearer_of lcid) (sends side);
})

abbrev pub cover_of : Layout → Side → ℕ → Keys → Option Cover
cover_of layouts.Tm side lcid keys = None
cover_of (layouts.Um rlc_bits kind) side lcid keys = cover_as kind side lcid keys
cover_of (layouts.Am kind) side lcid keys = cover_as kind side lcid keys

abbrev pub with_covered : {T : Type 0} → Keeper T → Option Cover → ℕ → List ℕ → Stream T → Stream T
with_covered k None count sdu s = s
with_covered k (Some c) count sdu s = with_given k (pdu c.kind c.protection count sdu) s

-- PDCP takes SDUs of so many octets (TS 36.323 4.3.1)
abbrev pub is_sdu : List ℕ → Bool
is_sdu sdu = nat_le 1 (length sdu) && nat_le (length sdu) GREATEST_SDU

-- ---- a flow

pub record SentFlow (T : Type 0) : Type 0 where
  pub layout : Layout
  pub cover : Option Cover
  -- the SDUs that wait, where the bearer isn't of acknowledged data
  pub waiting : List (List ℕ)
  -- how many SDUs RLC took in the life that runs
  pub given : ℕ
  -- the fields of the numbers below are forgotten: they are acknowledged, or aren't sent again
  pub floor : ℕ
  pub stream : Stream T

abbrev pub flow_begun : {T : Type 0} → Keeper T → Layout → Option Cover → SentFlow T
flow_begun k layout cover = record {
  layout = layout;
  cover = cover;
  waiting = [];
  given = 0;
  floor = 0;
  stream = nothing_sent k;
}

abbrev pub is_data : Layout → Bool
is_data (layouts.Am (pdcp.Am bits)) = true
is_data layout = false

-- ---- SDUs

abbrev pub flow_submitted : {T : Type 0} → List ℕ → SentFlow T → SentFlow T
flow_submitted sdu f =
    if is_data f.layout then f else record f { waiting = f.waiting ++ sdu ∷ [] }

-- the first that waits is discarded
abbrev pub discard_right : {T : Type 0} → SentFlow T → Bool
discard_right f = if is_data f.layout then true else nat_lt 0 (length f.waiting)

abbrev pub flow_discarded : {T : Type 0} → SentFlow T → SentFlow T
flow_discarded f = record f { waiting = drop 1 f.waiting }

-- the COUNTs of a life are 0, 1, 2, ..; a transparent bearer has none
abbrev pub is_count : Option Cover → ℕ → Option ℕ → Bool
is_count None given None = true
is_count (Some c) given (Some count) = count == given
is_count cover given count = false

abbrev pub is_first : {T : Type 0} → Option ℕ → ℕ → List (List ℕ) → SentFlow T → Bool
is_first count len [] f = false
is_first count len (sdu ∷ rest) f =
    is_sdu sdu && ((length sdu == len) && is_count f.cover f.given count)

abbrev pub gives_first : {T : Type 0} → Keeper T → List (List ℕ) → SentFlow T → SentFlow T
gives_first k [] f = f
gives_first k (sdu ∷ rest) f = record f {
  waiting = rest;
  given = f.given + 1;
  stream = with_covered k f.cover f.given sdu f.stream;
}

-- of acknowledged data, the PDU of the SDU that has the COUNT, if there is one
abbrev pub gives_data : {T : Type 0} → Keeper T → Option ℕ → Option (List ℕ) → SentFlow T
    → SentFlow T
gives_data k (Some count) (Some sdu) f = if is_sdu sdu
    then record f { stream = with_covered k f.cover count sdu f.stream } else f
gives_data k count sdu f = f

abbrev pub is_sdu_in : Option (List ℕ) → Bool
is_sdu_in None = true
is_sdu_in (Some sdu) = is_sdu sdu

-- RLC takes an SDU: whether that is right, as far as the bearer isn't of acknowledged data, and the
-- flow behind it; `sdu`: of acknowledged data, the SDU of the COUNT
abbrev pub take_right : {T : Type 0} → Option ℕ → ℕ → Option (List ℕ) → SentFlow T → Bool
take_right count len sdu f = if is_data f.layout then is_sdu_in sdu
    else is_first count len f.waiting f

abbrev pub flow_taken : {T : Type 0} → Keeper T → Option ℕ → ℕ → Option (List ℕ) → SentFlow T
    → SentFlow T
flow_taken k count len sdu f = if is_data f.layout then gives_data k count sdu f
    else if is_first count len f.waiting f then gives_first k f.waiting f else f

-- the SDU of a `take` on a transparent bearer, whose PDU is the next that is sent
abbrev pub first_of : List (List ℕ) → Option (List ℕ)
first_of [] = None
first_of (sdu ∷ rest) = Some sdu

abbrev pub passed_by : {T : Type 0} → SentFlow T → Option (List ℕ)
passed_by f = if is_none f.cover then first_of f.waiting else None

-- ---- RLC takes the status report of acknowledged data (TS 36.323 6.2.6)

-- it can be written
abbrev pub is_written : ℕ → ℕ → List ℕ → Bool
is_written bits fms bitmap = nat_lt fms (2 ^ bits) && is_short bitmap

abbrev pub reported_as : {T : Type 0} → Keeper T → Layout → ℕ → List ℕ → SentFlow T → SentFlow T
reported_as k (layouts.Am (pdcp.Am bits)) fms bitmap f = if is_written bits fms bitmap
    then record f { stream = with_given k (user_spelling bits (Report fms bitmap)) f.stream } else f
reported_as k layout fms bitmap f = f

abbrev pub flow_reported : {T : Type 0} → Keeper T → ℕ → List ℕ → SentFlow T → SentFlow T
flow_reported k fms bitmap f = reported_as k f.layout fms bitmap f

-- ---- PDUs of a new block

abbrev pub all_right : Verdict
all_right = record { sent = true; shaped = true }

-- a PDU, and the flow behind it
pub record Judged (T : Type 0) : Type 0 where
  pub verdict : Verdict
  pub flow : SentFlow T

abbrev pub unjudged : {T : Type 0} → SentFlow T → Judged T
unjudged f = record { verdict = all_right; flow = f }

abbrev pub marks_in : ℕ → List (List ℕ) → List ℕ
marks_in fi elements = field_marks (begins_in fi) (ends_in fi) elements

-- a new one, of this SN and FI, in a modulus
abbrev pub judges_new : {T : Type 0} → Keeper T → ℕ → ℕ → ℕ → Bool → List (List ℕ) → SentFlow T
    → Judged T
judges_new k modulus sn fi plain elements f = record {
  verdict = new_verdict k modulus sn plain (concat elements) (marks_in fi elements) f.stream;
  flow = record f {
    stream = with_written k (concat elements) (marks_in fi elements) f.stream;
  };
}

abbrev pub judges_umd : {T : Type 0} → Keeper T → ℕ → How → Result UmdPdu RlcRefusal → SentFlow T
    → Judged T
judges_umd k rlc_bits hows.New (Ok pdu) f =
    judges_new k (2 ^ rlc_bits) pdu.sn pdu.fi true pdu.elements f
judges_umd k rlc_bits how read f = unjudged f

-- octets of a number that is open are sent again
abbrev pub is_open_in : ℕ → (ℕ → Bool) → ℕ → Bool
is_open_in floor acked n = nat_le floor n && not (acked n)

abbrev pub judges_again : {T : Type 0} → Keeper T → (ℕ → Bool) → AmdPdu → SentFlow T → Judged T
judges_again k acked pdu f = record {
  verdict = again_verdict k (is_open_in f.floor acked) pdu.sn pdu.segment (concat pdu.elements)
      (marks_in pdu.fi pdu.elements) f.stream;
  flow = f;
}

abbrev pub judges_amd : {T : Type 0} → Keeper T → (ℕ → Bool) → How
    → Result AcknowledgedPdu RlcRefusal → SentFlow T → Judged T
judges_amd k acked hows.New (Ok (Payload pdu)) f =
    judges_new k AM_MODULUS pdu.sn pdu.fi (is_none pdu.segment) pdu.elements f
judges_amd k acked hows.Re (Ok (Payload pdu)) f = judges_again k acked pdu f
judges_amd k acked how read f = unjudged f

-- a transparent one is the SDU of the `take` just before its `send`
abbrev pub is_passed : Option (List ℕ) → List ℕ → Bool
is_passed None octets = false
is_passed (Some sdu) octets = bytes_eq sdu octets

abbrev pub judges_tmd : {T : Type 0} → Option (List ℕ) → List ℕ → SentFlow T → Judged T
judges_tmd passed octets f =
    record { verdict = record { sent = is_passed passed octets; shaped = true }; flow = f }

abbrev pub judges_by : {T : Type 0} → Keeper T → Layout → (ℕ → Bool) → How → Option (List ℕ)
    → List ℕ → SentFlow T → Judged T
judges_by k layouts.Tm acked how passed octets f = judges_tmd passed octets f
judges_by k (layouts.Um rlc_bits kind) acked how passed octets f =
    judges_umd k rlc_bits how (umd_at rlc_bits octets) f
judges_by k (layouts.Am kind) acked how passed octets f =
    judges_amd k acked how (am_at octets) f

abbrev pub flow_judges : {T : Type 0} → Keeper T → (ℕ → Bool) → How → Option (List ℕ) → List ℕ
    → SentFlow T → Judged T
flow_judges k acked how passed octets f = judges_by k f.layout acked how passed octets f

-- ---- a group ends

-- a life has ended with it, and the next one has other keys: SDUs that wait on a signalling or a
-- transparent bearer are dropped (TS 36.322 5.4, TS 36.323 5.2)
abbrev pub waiting_behind : Layout → List (List ℕ) → List (List ℕ)
waiting_behind (layouts.Um rlc_bits kind) waiting = waiting
waiting_behind layout waiting = []

abbrev pub cover_renewed : Keys → Option Cover → Option Cover
cover_renewed keys None = None
cover_renewed keys (Some c) = Some (record {
  kind = c.kind;
  protection = protection_of c.kind keys c.protection.bearer c.protection.direction;
})

abbrev pub flow_renewed : {T : Type 0} → Keeper T → Keys → SentFlow T → SentFlow T
flow_renewed k keys f = record {
  layout = f.layout;
  cover = cover_renewed keys f.cover;
  waiting = waiting_behind f.layout f.waiting;
  given = 0;
  floor = 0;
  stream = nothing_sent k;
}

-- the fields of the numbers below VT(A) are forgotten, and all that aren't sent again
abbrev pub floored : {T : Type 0} → Keeper T → ℕ → SentFlow T → SentFlow T
floored k n f = record f { floor = n; stream = with_forgotten k n f.stream }

abbrev pub settled_by : {T : Type 0} → Keeper T → Layout → Option FlowLives → SentFlow T
    → SentFlow T
settled_by k (layouts.Um rlc_bits kind) account f = floored k (k.next f.stream.octets) f
settled_by k (layouts.Am kind) (Some l) f = floored k l.account.sending.base f
settled_by k layout account f = f

abbrev pub flow_settled : {T : Type 0} → Keeper T → Option FlowLives → SentFlow T → SentFlow T
flow_settled k account f = settled_by k f.layout account f

-- a number is acknowledged, by the account of the flow
abbrev pub acked_by : Option FlowLives → ℕ → Bool
acked_by None n = false
acked_by (Some l) n = acked_kept n l.account.sending
