-- What holds between events.
use Rattle.std.proofs.Common.{◌≡◌, ◌≤◌, ℕ, ◌+◌, ◌^◌, [], ◌++◌, length, None}
use Rattle.l2_num.specs.Ascending.{AreBetween}
use Rattle.pdcp_pdu.specs.declared.PdcpKind.TheVariants.{Um}
use Rattle.pdcp_tx.specs.State.{State}
use Rattle.law_pdcp.proofs.OneEnd.Submitting.{AreNonempty}
use Rattle.law_pdcp.specs.OneEnd.Lives.{queue}
use Rattle.law_words.specs.Lists.{those}
use Rattle.law_pdcp.specs.UmPair.Flow.{Flow}
use Rattle.law_pdcp.specs.UmPair.Reading.{AreWritten}

-- no SDU is empty
-- the sender by itself: it keeps nothing of what was taken
pub record Sends (bits : ℕ) (s : State) : Type 0 where
  pub um : s.kind ≡ Um bits
  pub owes_none : s.owed ≡ None
  pub none_again : s.again ≡ []
  pub none_given : s.given.entries ≡ []
  pub room : s.next + length s.waiting ≤ 2 ^ 32
  pub waits_some : AreNonempty (queue s)

-- whatever is lost
pub record Writes (bits : ℕ) (f : Flow) : Type 0 where
  pub sends : Sends bits f.sender
  pub count : f.sender.next ≡ f.first + length f.stream
  pub taken : length f.sdus ≡ f.earlier + length f.stream
  pub written : AreWritten f
  pub few : f.passed ≤ length f.stream
  pub order : AreBetween 0 f.handed (f.earlier + f.passed)

-- while losses are short
pub record Hears (bits : ℕ) (f : Flow) : Type 0 where
  pub um : f.receiver.kind ≡ Um bits
  pub key : f.receiver.protection ≡ f.sender.protection
  pub none_held : f.receiver.held ≡ []
  pub next : f.receiver.next ≡ f.first + f.passed
  pub delivered : f.up ++ f.receiver.ready ≡ those f.handed f.sdus
