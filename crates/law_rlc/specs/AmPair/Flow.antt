-- Both ends of an acknowledged bearer in one direction and one life, and what is under way between
-- them (TS 36.322 4.2.1.3). HARQ may lose what is under way, bring it late, in another order, and
-- more than once.
use Rattle.std.specs.Prelude.{ℕ, zero, suc, ◌+◌, Bool, false, ◌||◌, List, [], ◌∷◌, ◌++◌, Option}
use Rattle.std.specs.Prelude.{Some, None, Result, Ok, Err, slice_get}
use Rattle.l2_types.specs.declared.config.AmTxConfig.{AmTxConfig}
use Rattle.l2_types.specs.declared.AmRxConfig.{AmRxConfig}
use Rattle.rlc_pdu.specs.declared.outcome.Taken.{Taken}
use Rattle.rlc_pdu.specs.declared.outcome.Taken.TheVariants as taken
use Rattle.rlc_pdu.specs.declared.fault.RlcRefusal.{RlcRefusal}
use Rattle.rlc_pdu.specs.Pdus.{AcknowledgedPdu, Payload, Status as Control}
use Rattle.rlc_pdu.specs.Reading.{am_at}
use Rattle.rlc_am_rx_window.specs.declared.missing.Missing.{Missing}
use Rattle.rlc_am_tx.specs.Machine.{State, answer}
use Rattle.rlc_am_rx.specs.Status.{ack, chosen}
use Rattle.law_rlc.specs.AmSender.Run.{Call as SenderCall, Offer, Take, Status, Tick, Expire}
use Rattle.law_rlc.specs.AmSender.Run.{Settle, Confirm, World as SenderWorld, run_am_sender}
use Rattle.law_rlc.specs.AmSender.Run.{begun}
use Rattle.law_rlc.specs.AmSender.Octets.{Octets, nothing_sent, octets_after}
use Rattle.law_rlc.specs.AmReceiver.Run.{Call as ReceiverCall, Arrive, Write}
use Rattle.law_rlc.specs.AmReceiver.Run.{World as ReceiverWorld, run_am_receiver, begin}

-- a data PDU that may still come: its octets, and beside them the number that the sender gave it,
-- counted from 0
pub record Copy : Type 0 where
  pub number : ℕ
  pub octets : List ℕ

-- a STATUS that may still come: its octets, and the TTIs since it was written; beside them its ACK
-- and the entries that it was written with, their numbers counted from 0
pub record Report : Type 0 where
  pub octets : List ℕ
  pub age : ℕ
  pub ack : ℕ
  pub entries : List Missing

-- how both ends are set, the calls of each so far, in their order, what is under way, and whether a
-- new PDU was sent in this TTI
pub record Flow : Type 0 where
  pub sending : AmTxConfig
  pub receiving : AmRxConfig
  pub sent : List SenderCall
  pub heard : List ReceiverCall
  pub copies : List Copy
  pub reports : List Report
  pub busy : Bool

-- the sender, with the octets that were offered and those that each new PDU carried
abbrev pub sender : Flow → SenderWorld Octets
sender f = run_am_sender octets_after f.sent (begun f.sending nothing_sent)

-- the receiver, with what it has kept
abbrev pub receiver : Flow → ReceiverWorld
receiver f = run_am_receiver f.heard (begin f.receiving)

-- what may happen
pub data Step : Type 0 where
  -- a call of the sender, or of the receiver
  Sends : SenderCall → Step
  Receives : ReceiverCall → Step
  -- the receiver writes a STATUS of at most so many octets: these
  Reports : ℕ → List ℕ → Step
  -- what stands at a place of what is under way comes to the other end, and is still under way
  DataComes : ℕ → Step
  StatusComes : ℕ → Step
  -- it is let go
  DataGoes : ℕ → Step
  StatusGoes : ℕ → Step
  -- a TTI ends
  Passes : Step

-- ---- the sender

-- what `take` answers is under way
abbrev pub copies_with : Taken → List Copy → List Copy
copies_with (taken.Piece number fresh polled octets) copies =
    record { number = number; octets = octets } ∷ copies
copies_with taken.Idle copies = copies
copies_with taken.Small copies = copies
copies_with taken.Shut copies = copies
copies_with taken.Held copies = copies
copies_with taken.Stopped copies = copies

-- it is a new PDU
abbrev pub is_new : Taken → Bool
is_new (taken.Piece number fresh polled octets) = fresh
is_new taken.Idle = false
is_new taken.Small = false
is_new taken.Shut = false
is_new taken.Held = false
is_new taken.Stopped = false

-- what a call of the sender answers, if it gives a data PDU
abbrev pub given : State → SenderCall → Taken
given s (Offer sdu) = taken.Idle
given s (Take size held more) = answer s size held more
given s (Status status) = taken.Idle
given s Tick = taken.Idle
given s (Expire more) = taken.Idle
given s (Settle more) = taken.Idle
given s Confirm = taken.Idle

abbrev pub sends : Flow → SenderCall → Flow
sends f c = record f {
  sent = f.sent ++ c ∷ [];
  copies = copies_with (given (sender f).state c) f.copies;
  busy = f.busy || is_new (given (sender f).state c);
}

-- ---- the receiver

abbrev pub receives : Flow → ReceiverCall → Flow
receives f c = record f { heard = f.heard ++ c ∷ [] }

abbrev pub reports : Flow → ℕ → List ℕ → Flow
reports f size octets = record f {
  heard = f.heard ++ Write ∷ [];
  reports = record {
    octets = octets;
    age = 0;
    ack = ack (receiver f).state size;
    entries = chosen (receiver f).state size;
  } ∷ f.reports;
}

-- ---- what is under way

-- a data PDU that comes, as it is read
abbrev pub data_read : Flow → Result AcknowledgedPdu RlcRefusal → Flow
data_read f (Ok (Payload pdu)) = receives f (Arrive pdu)
data_read f (Ok (Control pdu)) = f
data_read f (Err refused) = f

abbrev pub data_comes : Flow → Option Copy → Flow
data_comes f None = f
data_comes f (Some c) = data_read f (am_at c.octets)

abbrev pub status_read : Flow → Result AcknowledgedPdu RlcRefusal → Flow
status_read f (Ok (Payload pdu)) = f
status_read f (Ok (Control pdu)) = record f { sent = f.sent ++ Status pdu ∷ [] }
status_read f (Err refused) = f

abbrev pub status_comes : Flow → Option Report → Flow
status_comes f None = f
status_comes f (Some r) = status_read f (am_at r.octets)

-- a list without what stands at a place
abbrev pub except : {A : Type 0} → ℕ → List A → List A
except k [] = []
except zero (x ∷ xs) = xs
except (suc k) (x ∷ xs) = x ∷ except k xs

abbrev pub older : List Report → List Report
older [] = []
older (r ∷ rs) = record r { age = r.age + 1 } ∷ older rs

-- ---- any steps

abbrev pub happens : Flow → Step → Flow
happens f (Sends c) = sends f c
happens f (Receives c) = receives f c
happens f (Reports size octets) = reports f size octets
happens f (DataComes k) = data_comes f (slice_get f.copies k)
happens f (StatusComes k) = status_comes f (slice_get f.reports k)
happens f (DataGoes k) = record f { copies = except k f.copies }
happens f (StatusGoes k) = record f { reports = except k f.reports }
happens f Passes = record f { reports = older f.reports; busy = false }

abbrev pub goes : List Step → Flow → Flow
goes [] f = f
goes (s ∷ ss) f = goes ss (happens f s)

abbrev pub am_rlc_outset : AmTxConfig → AmRxConfig → Flow
am_rlc_outset sending receiving =
    record {
      sending = sending;
      receiving = receiving;
      sent = [];
      heard = [];
      copies = [];
      reports = [];
      busy = false;
    }
