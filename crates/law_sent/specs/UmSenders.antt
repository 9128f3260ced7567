-- What an unacknowledged sender writes is right as a checker of journals asks it of the PDUs of new
-- blocks: each carries the octets that come next, and its SN, framing info and LIs say where SDUs
-- begin and end (docs/formats/JOURNAL.md; TS 36.322 5.1.2.1.1, 6.2.1.3, 6.2.2.3 to 6.2.2.6).
use Rattle.std.specs.Prelude.{◌≡◌, ℕ, ◌<◌, ◌≤◌, Bool, true, false, not, List, [], ◌∷◌, ◌++◌}
use Rattle.std.specs.Prelude.{length, map, Option}
use Rattle.std.specs.List.{concat}
use Rattle.l2_types.specs.declared.event.How.TheVariants as hows
use Rattle.pdcp_pdu.specs.declared.pdu.PdcpKind.{PdcpKind}
use Rattle.pdu_show.specs.declared.kinds.Layout.TheVariants as layouts
use Rattle.rlc_pdu.specs.Pdus.{IsUmBits}
use Rattle.rlc_pdu.specs.Writing.{umd_canonical}
use Rattle.rlc_queue.specs.Waiting.{HaveOctets}
use Rattle.rlc_um.specs.Sender.{Sender, idle_sender, turn, Gives, pdu_of, sent, offered}
use Rattle.journal_stream.specs.OctetEvents.{OctetEvent, stream, fields, AreSent}
use Rattle.journal_sent.specs.Marks.{part_marks, sdu_marks}
use Rattle.journal_sent.specs.SentPdus.{histories, with_given, nothing_sent}
use Rattle.journal_sent.specs.SentFlows.{flow_judges}
use Rattle.journal_sent.specs.RightSent.{Sent, Flow, PduIsSent, PduIsShaped}

-- ---- the streams of a sender

-- the marks of what isn't sent: of the first SDU some octets may be sent already
abbrev pub unsent_marks : Bool → List (List ℕ) → List ℕ
unsent_marks begun [] = []
unsent_marks begun (x ∷ xs) =
    part_marks (not begun) true (length x) ++ concat (map (λ (y : List ℕ). sdu_marks (length y)) xs)

-- what RLC was given is what it wrote and what isn't sent, and VT(US) is the number that comes next
pub record IsUmStreamOf (next : ℕ) (unsent : List ℕ) (es : List OctetEvent) : Type 0 where
  pub stream_is : stream es ≡ concat (fields es) ++ unsent
  pub number : length (fields es) ≡ next
  pub sent : AreSent es

pub record AreUmStreamsOf (s : Sender) (x : Sent) : Type 0 where
  pub octets : IsUmStreamOf s.next (concat s.waiting.sdus) x.octets
  pub marks : IsUmStreamOf s.next (unsent_marks s.waiting.begun s.waiting.sdus) x.marks
  pub some : HaveOctets s.waiting.sdus
  -- where none waits, none is partly sent
  pub idle : length s.waiting.sdus ≡ 0 → s.waiting.begun ≡ false

-- ---- the laws

abbrev pub UmSendersBegin : Type 0
UmSendersBegin = (bits : ℕ) → AreUmStreamsOf (idle_sender bits) (nothing_sent histories)

abbrev pub UmOffersGoOn : Type 0
UmOffersGoOn = (s : Sender) (sdu : List ℕ) (x : Sent) → 0 < length sdu → AreUmStreamsOf s x
    → AreUmStreamsOf (offered sdu s) (with_given histories sdu x)

-- the flow behind the PDU of a size
abbrev pub behind_um : (ℕ → Bool) → Option (List ℕ) → Sender → ℕ → Flow → Flow
behind_um acked passed s size f =
    (flow_judges histories acked hows.New passed (umd_canonical s.bits (pdu_of s size)) f).flow

-- the PDU of a size is right, and what is kept of the flow goes on with it
pub record IsUmWritten (acked : ℕ → Bool) (passed : Option (List ℕ)) (s : Sender) (size : ℕ)
    (f : Flow) : Type 0 where
  pub right : PduIsSent acked hows.New passed (umd_canonical s.bits (pdu_of s size)) f
      × PduIsShaped acked hows.New passed (umd_canonical s.bits (pdu_of s size)) f
  pub streams : AreUmStreamsOf (sent s size) (behind_um acked passed s size f).stream

abbrev pub UmSendersWriteRightly : Type 0
UmSendersWriteRightly =
    (s : Sender) (size : ℕ) (held : Option ℕ) (kind : PdcpKind) (acked : ℕ → Bool)
    (passed : Option (List ℕ)) (f : Flow) → IsUmBits s.bits → size ≤ 32767
    → f.layout ≡ layouts.Um s.bits kind → turn s size held ≡ Gives
    → AreUmStreamsOf s f.stream → IsUmWritten acked passed s size f
