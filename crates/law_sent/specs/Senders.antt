-- What an acknowledged sender writes is right as a checker of journals asks it of the PDUs of new
-- blocks: new PDUs carry the octets that come next, PDUs that are sent again octets of their
-- numbers, and framing info and LIs say where SDUs begin and end (docs/formats/JOURNAL.md;
-- TS 36.322 5.1.3.1.1, 5.2.1, 6.2.2.4 to 6.2.2.8).
use Rattle.std.specs.Prelude.{◌≡◌, ℕ, ◌<◌, ◌≤◌, Bool, true, false, List, ◌++◌, length, map, Option}
use Rattle.std.specs.List.{AllByRecursion, concat}
use Rattle.l2_types.specs.declared.config.AmTxConfig.{AmTxConfig}
use Rattle.l2_types.specs.declared.event.How.{How}
use Rattle.l2_types.specs.declared.event.How.TheVariants as hows
use Rattle.pdcp_pdu.specs.declared.PdcpKind.{PdcpKind}
use Rattle.pdu_show.specs.declared.kinds.Layout.TheVariants as layouts
use Rattle.rlc_pdu.specs.declared.outcome.Taken.{Taken}
use Rattle.rlc_pdu.specs.declared.outcome.Taken.TheVariants as taken
use Rattle.rlc_am_tx.specs.declared.turn.Turn.{Turn}
use Rattle.rlc_am_tx.specs.declared.turn.Turn.TheVariants as turns
use Rattle.rlc_am_tx.specs.Machine.{State, turn, answer, number_again}
use Rattle.journal_stream.specs.OctetEvents.{OctetEvent, stream, fields, AreSent}
use Rattle.journal_sent.specs.Marks.{mark}
use Rattle.journal_sent.specs.SentPdus.{histories, with_given}
use Rattle.journal_sent.specs.SentFlows.{flow_judges, is_open_in}
use Rattle.journal_sent.specs.RightSent.{Sent, Flow, PduIsSent, PduIsShaped}
use Rattle.law_rlc.specs.AmSender.Run.{Call, Offer, Take, Status, Tick, Expire, Settle, Confirm}
use Rattle.law_rlc.specs.AmSender.Run.{World, run_am_sender, begun}
use Rattle.law_rlc.specs.AmSender.Octets.{Place, Octets, nothing_sent, octets_after}

-- ---- the streams of a sender

abbrev pub octets_of : List Place → List ℕ
octets_of ps = map (λ (p : Place). p.octet) ps

abbrev pub marks_of : List Place → List ℕ
marks_of ps = map (λ (p : Place). mark p.begins p.ends) ps

-- what RLC was given is what it wrote and what isn't sent, and the field of each number is what its
-- new PDU carried
pub record IsStreamOf (put : List Place → List ℕ) (o : Octets) (es : List OctetEvent)
    : Type 0 where
  pub stream_is : stream es ≡ concat (map put o.sent) ++ put o.unsent
  pub fields_are : fields es ≡ map put o.sent
  pub sent : AreSent es

pub record AreStreamsOf (o : Octets) (s : Sent) : Type 0 where
  pub octets : IsStreamOf octets_of o s.octets
  pub marks : IsStreamOf marks_of o s.marks

-- ---- any calls

abbrev pub ran : AmTxConfig → List Call → World Octets
ran config calls = run_am_sender octets_after calls (begun config nothing_sent)

-- an SDU has an octet, and a data field has at most 32767, since SO has 15 bits
abbrev pub IsAsked : Call → Type 0
IsAsked (Offer sdu) = 0 < length sdu
IsAsked (Take size held more) = size ≤ 32767
IsAsked (Status status) = Unit {0}
IsAsked Tick = Unit {0}
IsAsked (Expire more) = Unit {0}
IsAsked (Settle more) = Unit {0}
IsAsked Confirm = Unit {0}

-- ---- RLC is given an SDU

abbrev pub OffersGoOn : Type 0
OffersGoOn = (s : State) (sdu : List ℕ) (o : Octets) (x : Sent) → 0 < length sdu
    → AreStreamsOf o x → AreStreamsOf (octets_after s (Offer sdu) o) (with_given histories sdu x)

-- ---- it writes a PDU

-- as its record names it
abbrev pub how_of : Bool → How
how_of true = hows.New
how_of false = hows.Re

abbrev pub AnswerIsRight : (ℕ → Bool) → Option (List ℕ) → Taken → Flow → Type 0
AnswerIsRight acked passed (taken.Piece number fresh polled octets) f =
    PduIsSent acked (how_of fresh) passed octets f
    × PduIsShaped acked (how_of fresh) passed octets f
AnswerIsRight acked passed answer' f = Unit {0}

-- the flow behind it
abbrev pub behind_answer : (ℕ → Bool) → Option (List ℕ) → Taken → Flow → Flow
behind_answer acked passed (taken.Piece number fresh polled octets) f =
    (flow_judges histories acked (how_of fresh) passed octets f).flow
behind_answer acked passed answer' f = f

-- a number that is sent again isn't acknowledged
abbrev pub IsOpen : (ℕ → Bool) → Flow → State → Turn → Type 0
IsOpen acked f s turns.Whole = is_open_in f.floor acked (number_again s) ≡ true
IsOpen acked f s turns.Part = is_open_in f.floor acked (number_again s) ≡ true
IsOpen acked f s t = Unit {0}

pub record WritesRightly (acked : ℕ → Bool) (passed : Option (List ℕ)) (s : State) (size : ℕ)
    (held : Option ℕ) (more : Bool) (o : Octets) (f : Flow) : Type 0 where
  pub right : AnswerIsRight acked passed (answer s size held more) f
  pub streams : AreStreamsOf (octets_after s (Take size held more) o)
      (behind_answer acked passed (answer s size held more) f).stream

abbrev pub SendersWriteRightly : Type 0
SendersWriteRightly =
    (config : AmTxConfig) (calls : List Call) (size : ℕ) (held : Option ℕ) (more : Bool)
    (kind : PdcpKind) (acked : ℕ → Bool) (passed : Option (List ℕ)) (f : Flow)
    → AllByRecursion IsAsked calls → size ≤ 32767 → f.layout ≡ layouts.Am kind
    → IsOpen acked f (ran config calls).state (turn (ran config calls).state size held more)
    → AreStreamsOf (ran config calls).past f.stream
    → WritesRightly acked passed (ran config calls).state size held more (ran config calls).past f
