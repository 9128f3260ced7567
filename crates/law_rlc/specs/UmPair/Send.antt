-- Runs of a sender (TS 36.322 5.1.2.1).
use Rattle.std.specs.Prelude.{◌≡◌, ℕ, ◌+◌, ◌%◌, ◌^◌, List, [], ◌∷◌, ◌++◌, length, Option, Some}
use Rattle.std.specs.Prelude.{None}
use Rattle.rlc_pdu.specs.Pdus.{UmdPdu}
use Rattle.rlc_um.specs.Joined.{Parts, parts_of, Joined, nothing_joined, with_numbers}
use Rattle.rlc_um.specs.Sender.{Sender, Turn, Gives, IsIdle, IsHeld, IsSmall, turn, pdu_of}
use Rattle.rlc_um.specs.Sender.{after_take, offered, idle_sender}

pub data Step : Type 0 where
  Offer : (sdu : List ℕ) → Step
  Take : (size : ℕ) (held : Option ℕ) → Step

-- a sender, the SDUs that were offered, and its PDUs, in order
pub record Flow : Type 0 where
  pub sender : Sender
  pub offered : List (List ℕ)
  pub made : List UmdPdu

abbrev pub made_by : Turn → Sender → ℕ → List UmdPdu
made_by Gives s size = pdu_of s size ∷ []
made_by IsIdle s size = []
made_by IsHeld s size = []
made_by IsSmall s size = []

abbrev pub goes : Flow → Step → Flow
goes f (Offer sdu) = record f { sender = offered sdu f.sender; offered = f.offered ++ sdu ∷ [] }
goes f (Take size held) =
    record f {
      sender = after_take f.sender size held;
      made = f.made ++ made_by (turn f.sender size held) f.sender size;
    }

abbrev pub flow : List Step → Flow → Flow
flow [] f = f
flow (s ∷ ss) f = flow ss (goes f s)

abbrev pub at_first : ℕ → Flow
at_first bits = record { sender = idle_sender bits; offered = []; made = [] }

-- what PDUs carry, as a receiver keeps it
abbrev pub carried : List UmdPdu → List (Option Parts)
carried [] = []
carried (pdu ∷ pdus) = Some (parts_of pdu) ∷ carried pdus

-- what they join to where none is lost
abbrev pub joined : List UmdPdu → Joined
joined made = with_numbers (carried made) nothing_joined

-- SDUs that wait, behind what is sent of the first
abbrev pub completed : Option (List ℕ) → List (List ℕ) → List (List ℕ)
completed None sdus = sdus
completed (Some part) [] = part ∷ []
completed (Some part) (x ∷ xs) = (part ++ x) ∷ xs

-- PDUs have the numbers from one on
abbrev pub AreNumbered : ℕ → ℕ → List UmdPdu → Type 0
AreNumbered bits from [] = Unit {0}
AreNumbered bits from (pdu ∷ pdus) = (pdu.sn ≡ from % 2 ^ bits) × AreNumbered bits (from + 1) pdus

-- joined without a loss, the PDUs give the SDUs that were offered, each once and unchanged, up to
-- those that wait; and they are numbered from 0
pub record IsWhole (bits : ℕ) (f : Flow) : Type 0 where
  pub sdus : (joined f.made).ready ++ completed (joined f.made).part f.sender.waiting.sdus
      ≡ f.offered
  pub next : f.sender.next ≡ length f.made
  pub numbered : AreNumbered bits 0 f.made
