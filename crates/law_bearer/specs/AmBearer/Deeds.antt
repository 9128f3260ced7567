-- What the calls of a bearer of acknowledged data are made of: deeds of its four entities, PDCP's
-- sender and receiver and RLC's sender and receiver. A deed is a call of one of them, or ties two
-- of them to each other (TS 36.323 4.2.2, TS 36.322 4.2.1.3).
use Rattle.std.specs.Prelude.{ℕ, List, [], ◌∷◌, ◌++◌, Option, Some, None}
use Rattle.pdcp_rx.specs.declared.got.Cause.TheVariants.{Arrived}
use Rattle.pdcp_rx.specs.Heard.{Heard, Bad, Told, Data, heard}
use Rattle.pdcp_rx.specs.State.{State as Receiving, arrived}
use Rattle.pdcp_tx.specs.declared.sender.Next.{Next}
use Rattle.pdcp_tx.specs.Runs.{Call as PdcpCall, Take, Confirm, Report, after}
use Rattle.pdcp_tx.specs.State.{State as Sending, taking}
use Rattle.rlc_am_tx.specs.Machine.{State as Sender}
use Rattle.law_rlc.specs.AmSender.Run.{Call as SenderCall, Offer, Confirm as HandOver}
use Rattle.law_rlc.specs.AmSender.Run.{after as sender_after}
use Rattle.law_rlc.specs.AmReceiver.Run.{Call as ReceiverCall, Up, state_after}
use Rattle.bearer_pdcp.specs.Ends.{Ends}
use Rattle.bearer.specs.Acknowledged.State.{State}

pub data Deed : Type 0 where
  -- RLC's sender takes the next PDU of PDCP's sender
  Feeds : Deed
  -- a call of RLC's sender
  Sends : SenderCall → Deed
  -- RLC's sender hands over the first place that is newly confirmed, to PDCP's sender
  Confirms : Deed
  -- a call of RLC's receiver
  Receives : ReceiverCall → Deed
  -- RLC's receiver hands up the first SDU that is ready, to PDCP's receiver; what then is ready
  -- there goes up, and a status report goes to PDCP's sender
  HandsUp : Deed
  -- a call of PDCP's sender
  Asks : PdcpCall → Deed
  -- discard timers get another length
  Sets : ℕ → Deed

-- ---- what a deed makes of the bearer

abbrev pub with_sending : Sending → State → State
with_sending s b = record b { pdcp = record b.pdcp { tx = s } }

abbrev pub offered_next : Option Next → Sender → Sender
offered_next None tx = tx
offered_next (Some pdu) tx = sender_after tx (Offer pdu.octets)

abbrev pub feeds : State → State
feeds b =
    with_sending (after b.pdcp.tx Take) (record b { tx = offered_next (taking b.pdcp.tx) b.tx })

-- by the places that are newly confirmed
abbrev pub confirms_first : List ℕ → State → State
confirms_first [] b = b
confirms_first (place ∷ places) b =
    with_sending (after b.pdcp.tx (Confirm place)) (record b { tx = sender_after b.tx HandOver })

-- what PDCP's receiver reads is for PDCP's sender where it is a status report (TS 36.323 5.3.2)
abbrev pub after_heard : Heard → Sending → Sending
after_heard (Bad refusal) s = s
after_heard (Told fms bitmap) s = after s (Report fms bitmap)
after_heard (Data sn body) s = s

abbrev pub all_raised : Receiving → Receiving
all_raised r = record r { ready = [] }

abbrev pub hears_one : List ℕ → Ends → Ends
hears_one sdu e = record e {
  tx = after_heard (heard e.rx.kind sdu) e.tx;
  rx = all_raised (arrived e.rx sdu Arrived);
}

-- by the SDUs that are ready
abbrev pub hands_first : List (List ℕ) → State → State
hands_first [] b = b
hands_first (sdu ∷ sdus) b = record b { pdcp = hears_one sdu b.pdcp; rx = state_after b.rx Up }

abbrev pub does : State → Deed → State
does b Feeds = feeds b
does b (Sends c) = record b { tx = sender_after b.tx c }
does b Confirms = confirms_first b.tx.accounts.news b
does b (Receives c) = record b { rx = state_after b.rx c }
does b HandsUp = hands_first b.rx.out.ready b
does b (Asks c) = with_sending (after b.pdcp.tx c) b
does b (Sets ttis) = with_sending (record b.pdcp.tx { discard = Some ttis }) b

abbrev pub does_all : List Deed → State → State
does_all [] b = b
does_all (deed ∷ deeds) b = does_all deeds (does b deed)

-- ---- the SDUs that go up to the user

abbrev pub raised_first : List (List ℕ) → Receiving → List (List ℕ)
raised_first [] r = []
raised_first (sdu ∷ sdus) r = (arrived r sdu Arrived).ready

abbrev pub goes_up : State → Deed → List (List ℕ)
goes_up b Feeds = []
goes_up b (Sends c) = []
goes_up b Confirms = []
goes_up b (Receives c) = []
goes_up b HandsUp = raised_first b.rx.out.ready b.pdcp.rx
goes_up b (Asks c) = []
goes_up b (Sets ttis) = []

abbrev pub go_up : List Deed → State → List (List ℕ)
go_up [] b = []
go_up (deed ∷ deeds) b = goes_up b deed ++ go_up deeds (does b deed)
