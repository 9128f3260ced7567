-- What a receiver of an unacknowledged data bearer hands up, while the losses below it are short
-- (TS 36.323 5.1.2.1.3).
use Rattle.std.specs.Prelude.{◌≡◌, ℕ, ◌+◌, ◌≤◌, ◌^◌, List, [], ◌∷◌, ◌++◌, length}
use Rattle.l2_num.specs.Ascending.{AreBetween}
use Rattle.pdcp_pdu.specs.declared.PdcpKind.TheVariants.{Um}
use Rattle.pdcp_pdu.specs.Kinds.{IsKind}
use Rattle.pdcp_sec.specs.Protection.{Protection}
use Rattle.law_words.specs.Lists.{those, IsSubsequence}
use Rattle.law_pdcp.specs.OneEnd.Lives.{submitted_in, queue}
use Rattle.law_pdcp.specs.UmPair.Flow.{Flow, Event, Sends, SetDiscard, HandUp, Raise, Restart}
use Rattle.law_pdcp.specs.UmPair.Flow.{run_um_pdcp}
use Rattle.law_pdcp.specs.UmPair.Flow.{um_pdcp_outset, steps, AreGiven, AreShort}

-- ---- by what RLC handed up

-- what went up and what is ready to go up are the SDUs whose PDUs RLC handed up: in their order,
-- each once and unchanged. The receiver expects the COUNT behind the last of them in this life.
pub record IsWhatCameToPdcp (f : Flow) : Type 0 where
  pub order : AreBetween 0 f.handed (length f.sdus)
  pub delivered : f.up ++ f.receiver.ready ≡ those f.handed f.sdus
  pub next : f.receiver.next ≡ f.first + f.passed

abbrev pub DeliversWhatCame : Type 0
DeliversWhatCame = (bits : ℕ) (p : Protection) (first : ℕ) (events : List Event)
    → IsKind (Um bits) → first ≤ 2 ^ 32
    → AreGiven (um_pdcp_outset bits p first) events → AreShort (um_pdcp_outset bits p first) events
    → IsWhatCameToPdcp (run_um_pdcp events (um_pdcp_outset bits p first))

-- ---- by what was taken and submitted

-- so they are some of the SDUs that were taken, and of those that were submitted
pub record AreSome (events : List Event) (f : Flow) : Type 0 where
  pub taken : IsSubsequence (f.up ++ f.receiver.ready) f.sdus
  pub submitted : IsSubsequence (f.up ++ f.receiver.ready) (submitted_in (steps events))

abbrev pub DeliversSome : Type 0
DeliversSome = (bits : ℕ) (p : Protection) (first : ℕ) (events : List Event) → IsKind (Um bits)
    → first ≤ 2 ^ 32
    → AreGiven (um_pdcp_outset bits p first) events → AreShort (um_pdcp_outset bits p first) events
    → AreSome events (run_um_pdcp events (um_pdcp_outset bits p first))

-- no discard timer is set
abbrev pub SetNone : List Event → Type 0
SetNone [] = Unit {0}
SetNone (Sends c ∷ es) = SetNone es
SetNone (SetDiscard ttis ∷ es) = ⊥
SetNone (HandUp cause place ∷ es) = SetNone es
SetNone (Raise ∷ es) = SetNone es
SetNone (Restart keys ∷ es) = SetNone es

-- then the SDUs that were taken, and behind them those that wait, are all that were submitted
abbrev pub TakesAll : Type 0
TakesAll = (bits : ℕ) (p : Protection) (first : ℕ) (events : List Event) → SetNone events
    → (run_um_pdcp events (um_pdcp_outset bits p first)).sdus
    ++ queue (run_um_pdcp events (um_pdcp_outset bits p first)).sender
    ≡ submitted_in (steps events)
