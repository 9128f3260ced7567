-- An unacknowledged sender beside the history of its flow, as a journal tells it: the SDUs that RLC
-- took and the PDUs that it wrote, one behind the other in one stream (docs/laws/ACCOUNT.md; TS
-- 36.322 5.1.2.1.1, 6.2.1.3, 6.2.2.6).
use Rattle.std.specs.Prelude.{◌≡◌, ℕ, ◌+◌, ◌<◌, nat_lt, List, [], ◌∷◌, ◌++◌, length, map, Option}
use Rattle.rlc_queue.specs.Waiting.{HaveOctets}
use Rattle.rlc_um.specs.Sender.{Sender, idle_sender, turn, Gives, pieces, pdu_of, sent, offered}
use Rattle.rlc_am_rx_window.specs.Piece.{octets_in}
use Rattle.um_losses.specs.declared.pdu.Pdu.{Pdu}
use Rattle.um_losses.specs.Pdus.{ends_in}
use Rattle.journal_account.specs.FlowEvents.{FlowEvent, SduTaken, NumberWritten, next_of}
use Rattle.journal_account.specs.FlowEvents.{field_sizes}
use Rattle.journal_account.specs.Stream.{sdu_sizes, end_of_all}
use Rattle.journal_flows.specs.UmPdus.{place_next}

-- the sizes of the SDUs that wait, of the first of which so many octets are written
abbrev pub waiting_sizes : ℕ → List (List ℕ) → List ℕ
waiting_sizes part [] = []
waiting_sizes part (x ∷ xs) = (part + length x) ∷ map length xs

-- none is written of an SDU that isn't there
abbrev pub IsPart : ℕ → List (List ℕ) → Type 0
IsPart part [] = part ≡ 0
IsPart part (x ∷ xs) = Unit {0}

pub record IsUmSenderOf (es : List FlowEvent) (s : Sender) : Type 0 where
  pub next : s.next ≡ next_of es
  -- the sizes of the SDUs that have ended, and how much is written of the next
  pub ended : List ℕ
  pub part : ℕ
  pub sizes : sdu_sizes es ≡ ended ++ waiting_sizes part s.waiting.sdus
  pub written : end_of_all (field_sizes es) ≡ end_of_all ended + part
  pub is_part : IsPart part s.waiting.sdus
  pub begun : s.waiting.begun ≡ nat_lt 0 part
  pub some : HaveOctets s.waiting.sdus

-- ---- the laws

abbrev pub UmSendersBegin : Type 0
UmSendersBegin = (bits : ℕ) → IsUmSenderOf [] (idle_sender bits)

abbrev pub UmOffersAreTold : Type 0
UmOffersAreTold =
    (es : List FlowEvent) (s : Sender) (sdu : List ℕ) → 0 < length sdu → IsUmSenderOf es s
    → IsUmSenderOf (SduTaken (length sdu) ∷ es) (offered sdu s)

-- the PDU as records show it
abbrev pub shown : Sender → ℕ → Pdu
shown s size = record {
  sn = (pdu_of s size).sn;
  fi = (pdu_of s size).fi;
  elements = length (pieces s size);
}

abbrev pub with_pdu : Sender → ℕ → List FlowEvent → List FlowEvent
with_pdu s size es = NumberWritten (octets_in (pieces s size)) ∷ es

-- the next PDU is written: so many SDUs end in it
pub record IsUmWritten (es : List FlowEvent) (s : Sender) (size : ℕ) : Type 0 where
  pub behind : IsUmSenderOf (with_pdu s size es) (sent s size)
  pub place : place_next (with_pdu s size es) ≡ place_next es + ends_in (shown s size)

abbrev pub UmPdusAreTold : Type 0
UmPdusAreTold =
    (es : List FlowEvent) (s : Sender) (size : ℕ) (held : Option ℕ) → turn s size held ≡ Gives
    → IsUmSenderOf es s → IsUmWritten es s size
