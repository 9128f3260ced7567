-- What holds between events.
use Rattle.std.proofs.Common.{◌≡◌, ◌≢◌, ◌<◌, ◌≤◌, ℕ, ◌+◌, ◌-◌, ◌^◌, Bool, true, ◌||◌, List, [], ◌∷◌, ◌++◌, length, take}
use Rattle.std.proofs.Common.{drop, Option, Some, None}
use Rattle.l2_num.specs.Ascending.{AreBetween}
use Rattle.pdcp_pdu.specs.declared.PdcpKind.{PdcpKind}
use Rattle.pdcp_pdu.specs.declared.PdcpKind.TheVariants.{Am}
use Rattle.pdcp_pdu.specs.Kinds.{IsKind}
use Rattle.pdcp_sec.specs.Protection.{Protection}
use Rattle.pdcp_tx_store.specs.Given.{tells, first_unacked}
use Rattle.pdcp_tx.specs.declared.sender.Next.{Next}
use Rattle.pdcp_tx.specs.Pdus.{pdu}
use Rattle.pdcp_tx.specs.State.{State, or_else, fms_count}
use Rattle.law_pdcp.proofs.OneEnd.Submitting.{AreNonempty}
use Rattle.law_pdcp.specs.OneEnd.Lives.{Names, queue}
use Rattle.law_pdcp.proofs.OneEnd.Naming.{NamesKept}
use Rattle.law_pdcp.proofs.OneEnd.Thinning.{In, names}
use Rattle.law_pdcp.specs.AmPair.Flow.{Flow, IsReport, Comes}
use Rattle.law_pdcp.proofs.AmPair.Numbers.{among, counts, again_counts, came}
use Rattle.law_pdcp.proofs.AmPair.Opens.{all_of, is_among}
use Rattle.law_pdcp.proofs.AmPair.Places.{AreAtPlaces}
use Rattle.law_pdcp.proofs.AmPair.Receives.{Receives}

-- no SDU is empty
abbrev pub Owes : PdcpKind → Option (List ℕ) → Type 0
Owes kind None = Unit {0}
Owes kind (Some report) = IsReport kind report

-- the sender by itself
pub record Sends (bits first : ℕ) (sdus : List (List ℕ)) (s : State) : Type 0 where
  pub am : s.kind ≡ Am bits
  pub room : s.next + length s.waiting ≤ 2 ^ 32
  pub some : AreNonempty sdus
  pub waits_some : AreNonempty (queue s)
  pub owes : Owes s.kind s.owed
  pub kept : NamesKept first sdus s
  pub order : In 0 (names (all_of s)) s.next
  pub near : s.next ≤ s.bound
  pub lag : s.bound ≤ or_else (first_unacked (all_of s)) s.next + 2 ^ (bits - 1)

-- the PDU of an SDU
pub record IsData (first : ℕ) (sdus : List (List ℕ)) (kind : PdcpKind) (p : Protection) (count : ℕ)
    (octets : List ℕ) : Type 0 where
  pub sdu : List ℕ
  pub named : Names first sdus count sdu
  pub some : sdu ≢ []
  pub is : octets ≡ pdu kind p count sdu

abbrev pub IsWritten : ℕ → List (List ℕ) → PdcpKind → Protection → Option ℕ → List ℕ → Type 0
IsWritten first sdus kind p None octets = IsReport kind octets
IsWritten first sdus kind p (Some count) octets = IsData first sdus kind p count octets

abbrev pub AreWritten : ℕ → List (List ℕ) → PdcpKind → Protection → List Next → Type 0
AreWritten first sdus kind p [] = Unit {0}
AreWritten first sdus kind p (o ∷ os) = IsWritten first sdus kind p o.count o.octets × AreWritten first sdus kind p os

-- the COUNTs that RLC hasn't handed up, and those to be given again
abbrev pub rest : List Next → State → List ℕ
rest pdus s = counts pdus ++ again_counts s.again

-- the sender, and what has come: `pdus` are those from place k on, which RLC hasn't handed up
pub record Links (bits first : ℕ) (sdus : List (List ℕ)) (s : State) (handed whole : ℕ
    → Bool) (k : ℕ) (pdus : List Next) : Type 0 where
  pub within : (n : ℕ) → handed n ≡ true → (first ≤ n) × (n < s.next)
  pub order : AreBetween 0 (rest pdus s) s.next
  pub covered : (n : ℕ) → first ≤ n → n < s.next → handed n || among (rest pdus s) n ≡ true
  pub opens : (n : ℕ) → first ≤ n → n < s.next → (handed n || came whole k pdus n) || is_among (all_of s) n ≡ true
  pub floor : (n : ℕ) → first ≤ n → n + 2 ^ (bits - 1) < s.bound → handed n || came whole k pdus n ≡ true
  pub late : (n c : ℕ) → handed n ≡ true → among (rest pdus s) c ≡ true → n < c + 2 ^ (bits - 1)
  pub written : AreWritten first sdus s.kind s.protection pdus

-- what the report of the receiver's end tells has come
abbrev pub IsTrueReport : Option (List ℕ) → ℕ → (ℕ → Bool) → State → Type 0
IsTrueReport report first handed s = (fms : ℕ) (bitmap : List ℕ) (from n : ℕ) → Comes report s.kind fms bitmap
    → fms_count s.kind s.base fms ≡ Some from → tells from bitmap n ≡ true → first ≤ n → handed n ≡ true

pub record IsSound (bits : ℕ) (f : Flow) : Type 0 where
  pub width : IsKind (Am bits)
  pub sends : Sends bits f.first f.sdus f.sender
  pub links : Links bits f.first f.sdus f.sender f.handed f.whole f.passed (drop f.passed f.stream)
  pub receives : Receives f.first f.sdus f.handed f.up f.receiver
  pub hears_am : f.receiver.kind ≡ Am bits
  pub key : f.receiver.protection ≡ f.sender.protection
  pub places : AreAtPlaces f.sender.given f.stream
  pub few : f.passed ≤ length f.stream
  pub passed : (n : ℕ) → among (counts (take f.passed f.stream)) n ≡ true → f.handed n ≡ true
  pub told : IsTrueReport f.report f.first f.handed f.sender
