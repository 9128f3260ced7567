-- Both ends as a life begins (TS 36.323 5.2.1.1, 5.2.2.1): what the sender takes again, what the
-- receiver expects and holds.
use Rattle.std.specs.Prelude.{◌≡◌, ℕ, ◌+◌, ◌≤◌, ◌<◌, ◌^◌, true, List, Some}
use Rattle.eps_sec.specs.declared.Keys.{Keys}
use Rattle.pdcp_pdu.specs.declared.PdcpKind.TheVariants.{Am}
use Rattle.pdcp_pdu.specs.Kinds.{IsKind}
use Rattle.pdcp_sec.specs.Protection.{Protection}
use Rattle.pdcp_tx.specs.Pdus.{width}
use Rattle.pdcp_tx_store.specs.Given.{tells}
use Rattle.pdcp_tx.specs.State.{low, fms_count}
use Rattle.pdcp_rx.specs.Held.{is_held}
use Rattle.law_pdcp.specs.AmPair.Flow.{Flow, Event, Restart, happens, run_am_pdcp, am_pdcp_outset}
use Rattle.law_pdcp.specs.AmPair.Flow.{Comes, AreGiven}

-- the first COUNT that the sender hasn't heard to be confirmed is `low`: each below it has come,
-- the COUNT that the receiver expects lies there or at most half the sequence numbers above, and
-- the receiver holds just those that have come from there on
pub record IsInStep (f : Flow) : Type 0 where
  pub confirmed : (count : ℕ) → f.first ≤ count → count < low f.sender → f.handed count ≡ true
  pub from : low f.sender ≤ f.receiver.next
  pub to : f.receiver.next ≤ low f.sender + width f.sender.kind
  pub held : (k : ℕ) → is_held f.receiver.held k ≡ f.handed (f.receiver.next + k)

abbrev pub LivesBeginInStep : Type 0
LivesBeginInStep = (bits : ℕ) (p : Protection) (first : ℕ) (events : List Event) (keys : Keys)
    → IsKind (Am bits) → first ≤ 2 ^ 32 → AreGiven (am_pdcp_outset bits p first) events
    → IsInStep (happens (run_am_pdcp events (am_pdcp_outset bits p first)) (Restart keys))

-- the status report that the receiver made as the last life ended: its FMS is read as the COUNT
-- that the receiver expects, and it tells just those COUNTs that have come (TS 36.323 5.3.1, 5.3.2)
pub record TellsWhatHasCome (f : Flow) : Type 0 where
  pub fms : ℕ
  pub bitmap : List ℕ
  pub comes : Comes f.report f.sender.kind fms bitmap
  pub read : fms_count f.sender.kind f.sender.base fms ≡ Some f.receiver.next
  pub told : (count : ℕ) → f.first ≤ count → tells f.receiver.next bitmap count ≡ f.handed count

abbrev pub LivesBeginWithAReport : Type 0
LivesBeginWithAReport =
    (bits : ℕ) (p : Protection) (first : ℕ) (events : List Event) (keys : Keys) → IsKind (Am bits)
    → first ≤ 2 ^ 32 → AreGiven (am_pdcp_outset bits p first) events
    → TellsWhatHasCome (happens (run_am_pdcp events (am_pdcp_outset bits p first)) (Restart keys))
