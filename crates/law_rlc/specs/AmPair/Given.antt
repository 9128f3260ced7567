-- What is asked of the steps of a flow: that HARQ keeps its bounds (TS 36.321 5.3.2, 5.4.2), and
-- that `take` is told what HARQ holds, so that no new number is given while one that lies 512 below
-- it, or lower, is under way.
use Rattle.std.specs.Prelude.{◌≡◌, ℕ, ◌%◌, ◌<◌, ◌≤◌, Bool, true, false, List, [], ◌∷◌, length}
use Rattle.std.specs.Prelude.{Option, Some, None, slice_index}
use Rattle.std.specs.List.{AllByRecursion}
use Rattle.l2_bits.specs.Bits.{bits_of}
use Rattle.rlc_pdu.specs.Writing.{status_written}
use Rattle.rlc_am_tx.specs.Machine.{answer}
use Rattle.rlc_am_rx.specs.Status.{ack, nacks}
use Rattle.law_rlc.specs.AmSender.Run.{Call as SenderCall, Offer, Take, Status, Tick, Expire}
use Rattle.law_rlc.specs.AmSender.Run.{Settle, Confirm}
use Rattle.law_rlc.specs.AmReceiver.Run.{Call as ReceiverCall, Arrive, Up, Write, ExpireReorder}
use Rattle.law_rlc.specs.AmReceiver.Run.{ExpireProhibit, TickReorder, TickProhibit}
use Rattle.law_rlc.specs.AmPair.Flow.{Copy, Report, Flow, Step, Sends, Receives, Reports, DataComes}
use Rattle.law_rlc.specs.AmPair.Flow.{StatusComes, DataGoes, StatusGoes, Passes, sender, receiver}
use Rattle.law_rlc.specs.AmPair.Flow.{is_new, happens}
use Rattle.rlc_pdu.specs.declared.constants.TheConstants.{AM_MODULUS}

-- no data PDU under way has a number below the one that `take` is told
abbrev pub IsHeld : Option ℕ → Copy → Type 0
IsHeld None c = ⊥
IsHeld (Some held) c = held ≤ c.number

-- a data field has at most 32767 octets, since SO has 15 bits (TS 36.322 6.2.2.7); `take` is told
-- the lowest number under way, or a lower one; and there is at most one new PDU in a TTI
pub record IsTaking (f : Flow) (size : ℕ) (held : Option ℕ) (more : Bool) : Type 0 where
  pub few : size ≤ 32767
  pub lowest : AllByRecursion (IsHeld held) f.copies
  pub one : f.busy ≡ true → is_new (answer (sender f).state size held more) ≡ false

-- an SDU has an octet, and a STATUS comes to the sender only if it is under way
abbrev pub IsSending : Flow → SenderCall → Type 0
IsSending f (Offer sdu) = 0 < length sdu
IsSending f (Take size held more) = IsTaking f size held more
IsSending f (Status status) = ⊥
IsSending f Tick = Unit {0}
IsSending f (Expire more) = Unit {0}
IsSending f (Settle more) = Unit {0}
IsSending f Confirm = Unit {0}

-- a data PDU comes to the receiver only if it is under way, and a STATUS that is written is under
-- way
abbrev pub IsReceiving : ReceiverCall → Type 0
IsReceiving (Arrive pdu) = ⊥
IsReceiving Up = Unit {0}
IsReceiving Write = ⊥
IsReceiving ExpireReorder = Unit {0}
IsReceiving ExpireProhibit = Unit {0}
IsReceiving TickReorder = Unit {0}
IsReceiving TickProhibit = Unit {0}

-- the octets of a STATUS are what the receiver writes
pub record IsReporting (f : Flow) (size : ℕ) (octets : List ℕ) : Type 0 where
  pub bytes : (i : ℕ) → slice_index octets i < 256
  pub bits : bits_of octets ≡ status_written (ack (receiver f).state size % AM_MODULUS)
      (nacks (receiver f).state size)

-- a STATUS is under way for fewer TTIs after the one in which it was written: a block is sent at
-- most 28 times, 8 TTIs apart (TS 36.321 5.4.2.2)
abbrev pub age_end : ℕ
age_end = 216

abbrev pub IsYoung : Report → Type 0
IsYoung r = r.age < age_end

abbrev pub IsGiven : Flow → Step → Type 0
IsGiven f (Sends c) = IsSending f c
IsGiven f (Receives c) = IsReceiving c
IsGiven f (Reports size octets) = IsReporting f size octets
IsGiven f (DataComes k) = Unit {0}
IsGiven f (StatusComes k) = Unit {0}
IsGiven f (DataGoes k) = Unit {0}
IsGiven f (StatusGoes k) = Unit {0}
IsGiven f Passes = AllByRecursion IsYoung f.reports

abbrev pub AreGiven : Flow → List Step → Type 0
AreGiven f [] = Unit {0}
AreGiven f (s ∷ ss) = IsGiven f s × AreGiven (happens f s) ss
