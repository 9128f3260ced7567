-- Where PDCP has nothing more to give (TS 36.323 5.1.1, 5.3.2, 5.9).
use Rattle.std.specs.Prelude.{◌≡◌, ℕ, ◌+◌, ◌≤◌, Bool, true, false, is_some, slice_get, List}
use Rattle.pdcp_pdu.specs.declared.pdu.PdcpKind.{PdcpKind}
use Rattle.pdcp_sec.specs.Protection.{Protection}
use Rattle.pdcp_tx.specs.Runs.{Call, Confirm, Report, after}
use Rattle.pdcp_tx.specs.State.{State, offers, start}
use Rattle.law_pdcp.specs.OneEnd.Lives.{Step, run_pdcp_sender}
use Rattle.law_drain.specs.Unsent.{unsent}

-- something may be taken
abbrev pub has_offer : State → Bool
has_offer s = is_some (slice_get (offers s) 0)

pub record KeepsOffers (s : State) : Type 0 where
  -- no call lowers the bound on COUNTs
  pub bound : (c : Call) → s.bound ≤ (after s c).bound
  -- so what may be taken may still be taken once more is confirmed
  pub confirmed : (place : ℕ) → has_offer s ≡ true → has_offer (after s (Confirm place)) ≡ true
  -- and where a status report leaves nothing, fewer octets are to be given
  pub reported : (fms : ℕ) (bitmap : List ℕ) → has_offer s ≡ true
      → has_offer (after s (Report fms bitmap)) ≡ false
      → unsent (after s (Report fms bitmap)) + 1 ≤ unsent s

-- through any lives
abbrev pub OffersStay : Type 0
OffersStay = (kind : PdcpKind) (p : Protection) (first : ℕ) (steps : List Step)
    → KeepsOffers (run_pdcp_sender steps (start kind p first))
