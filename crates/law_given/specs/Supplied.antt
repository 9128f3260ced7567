-- PDCP's sender of an acknowledged data bearer beside what a checker gathers of what it gives RLC
-- (docs/laws/ACCOUNT.md; TS 36.323 5.1.1, 5.2.1.1, 5.3.1, TS 36.322 5.1.3.1.1).
use Rattle.std.specs.Prelude.{◌≡◌, ℕ, ◌+◌, ◌≤◌, ◌<◌, Bool, true, false, if◌then◌else◌, List, []}
use Rattle.std.specs.Prelude.{◌∷◌, length, Option, Some, None, Ok}
use Rattle.pdcp_pdu.specs.declared.PdcpKind.TheVariants.{Am}
use Rattle.pdcp_pdu.specs.Pdus.{Report}
use Rattle.pdcp_pdu.specs.Reading.{user_at}
use Rattle.pdcp_rx.specs.Heard.{Heard, Bad, Told, Data, heard}
use Rattle.pdcp_tx.specs.State.{State as Sending}
use Rattle.journal_lives.specs.CountsCome.{CountsCome}
use Rattle.journal_given.specs.declared.supply.GivenPdu.{GivenPdu}
use Rattle.journal_given.specs.Supplies.{Supply, History}
use Rattle.journal_given.specs.RightTakes.{IsSaid}
use Rattle.law_takes.specs.Histories.{Run, IsTold}

-- ---- how far RLC is, in the life that runs, with the PDUs that it was given

pub record Progress : Type 0 where
  pub offered : List (List ℕ)
  -- the numbers of those that it confirmed
  pub is_confirmed : ℕ → Bool
  -- the first of them has come
  pub came : Bool

abbrev pub outset : Progress
outset = record { offered = []; is_confirmed = λ number. false; came = false }

-- What it was given is listed by COUNT, none for the status report.

-- from a number on, but for what is confirmed
abbrev pub unconfirmed_from : (ℕ → Bool) → ℕ → List (Option ℕ) → List GivenPdu
unconfirmed_from is_confirmed number [] = []
unconfirmed_from is_confirmed number (count ∷ counts) =
    if is_confirmed number then unconfirmed_from is_confirmed (number + 1) counts
    else record { number = number; count = count }
    ∷ unconfirmed_from is_confirmed (number + 1) counts

-- ---- its PDUs, as the other end reads them

-- a status report is read as what is to be said
pub record IsReadAs (bits : ℕ) (report : List ℕ) (said : CountsCome) : Type 0 where
  pub fms : ℕ
  pub bitmap : List ℕ
  pub read : user_at bits report ≡ Ok (Report fms bitmap)
  pub says : IsSaid fms bitmap bits said

abbrev pub IsNoReport : Heard → Type 0
IsNoReport (Bad refusal) = Unit {0}
IsNoReport (Told fms bitmap) = ⊥
IsNoReport (Data sn body) = Unit {0}

abbrev pub IsPdu : ℕ → CountsCome → Option ℕ → List ℕ → Type 0
IsPdu bits said None pdu = IsReadAs bits pdu said
IsPdu bits said (Some count) pdu = IsNoReport (heard (Am bits) pdu)

abbrev pub ArePdus : ℕ → CountsCome → List (Option ℕ) → List (List ℕ) → Type 0
ArePdus bits said [] [] = Unit {0}
ArePdus bits said [] (pdu ∷ pdus) = ⊥
ArePdus bits said (count ∷ counts) [] = ⊥
ArePdus bits said (count ∷ counts) (pdu ∷ pdus) =
    IsPdu bits said count pdu × ArePdus bits said counts pdus

-- ---- the status report is the first that RLC takes in a life that owes one

abbrev pub AreCounts : List (Option ℕ) → Type 0
AreCounts [] = Unit {0}
AreCounts (None ∷ counts) = ⊥
AreCounts (Some count ∷ counts) = AreCounts counts

abbrev pub IsReportFirst : List (Option ℕ) → Type 0
IsReportFirst [] = Unit {0}
IsReportFirst (count ∷ counts) = AreCounts counts

-- it is owed, and then nothing was given yet, or it isn't
abbrev pub IsOwed : ℕ → CountsCome → List (Option ℕ) → Option (List ℕ) → Type 0
IsOwed bits said given None = IsReportFirst given
IsOwed bits said given (Some report) = (given ≡ []) × IsReadAs bits report said

-- the number of the one that RLC was given
abbrev pub report_in : List (Option ℕ) → Option ℕ
report_in [] = None
report_in (None ∷ counts) = Some 0
report_in (Some count ∷ counts) = None

-- ---- both sides

abbrev pub run_of : Sending → List (Option ℕ) → History → Run
run_of sender given h = record { sender = sender; given = given; events = h.events }

pub record IsSupplied (rlc : Progress) (sender : Sending) (s : Supply History) : Type 0 where
  pub bits : s.takes.bits ≡ s.bits
  -- what RLC was given
  pub given : List (Option ℕ)
  pub told : IsTold s.takes.first s.takes.bits (run_of sender given s.takes)
  pub many : s.given ≡ length given
  pub pdus : ArePdus s.bits s.said given rlc.offered
  -- what it confirmed of it, and what not
  pub unconfirmed : s.unconfirmed ≡ unconfirmed_from rlc.is_confirmed 0 given
  pub only_given : (number : ℕ) → s.given ≤ number → rlc.is_confirmed number ≡ false
  -- the status report, until it has come
  pub owed : IsOwed s.bits s.said given sender.owed
  pub report : s.report ≡ (if rlc.came then None else report_in given)
  pub came : rlc.came ≡ true → 0 < s.given
