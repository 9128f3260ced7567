-- What the account of an unacknowledged flow tells is what its history says (docs/laws/ACCOUNT.md).
use Rattle.std.specs.Prelude.{◌≡◌, ℕ, ◌-◌, ◌*◌, ◌<◌, ◌≤◌, ◌&&◌, not, nat_le, List, ◌++◌, length}
use Rattle.std.specs.Prelude.{Some}
use Rattle.l2_num.specs.Least.{IsLeast}
use Rattle.journal_um.specs.declared.pieces.JoinedSdu.{JoinedSdu}
use Rattle.journal_um.specs.UmEvents.{UmEvent, UmLifeEvent, running}
use Rattle.journal_um.specs.UmNumbers.{IsReadAs, read_number, top_in, mark_in, base_in, pdu_of}
use Rattle.journal_um.specs.UmNumbers.{is_accepted, edge_in}
use Rattle.journal_um.specs.UmSdus.{handed_in}
use Rattle.journal_um.specs.UmLosses.{is_long_in}
use Rattle.journal_um.specs.UmWindow.{top_of, pdu_at}
use Rattle.journal_um.specs.UmFlow.{UmFlow, flow_with, flow_of, is_long, sdu_taken}

-- ---- the account

pub record IsUmAccount (width many : ℕ) (es : List UmLifeEvent) (f : UmFlow) : Type 0 where
  -- VR(UH), and VR(UX)
  pub top : top_of f.window ≡ top_in width (running es)
  pub mark : f.mark ≡ mark_in width (running es)
  -- VR(UR) is the least number at or above the base that wasn't accepted
  pub edge : IsLeast (is_accepted width (running es)) (base_in width (running es)) f.window.edge
  pub edge_is : f.window.edge ≡ edge_in width (running es)
  -- the accepted PDUs from VR(UR) on, of which there are at most W
  pub kept : (n : ℕ) → f.window.edge ≤ n
      → pdu_at f.window.pdus (n - f.window.edge) ≡ pdu_of width (running es) n
  pub bounded : length f.window.pdus ≤ width
  -- the SDUs that go up, and whether losses were long
  pub handed : f.joiner.ready ≡ handed_in width es
  pub long : is_long f ≡ is_long_in width many es

abbrev pub UmAccountsAreTrue : Type 0
UmAccountsAreTrue = (width many : ℕ) (es : List UmLifeEvent) → 0 < width
    → IsUmAccount width many es (flow_of width many es)

-- SDUs may be taken at any time: what an event does to the rest is the same
abbrev pub TakingIsFree : Type 0
TakingIsFree = (e : UmLifeEvent) (f : UmFlow) → 0 < length f.joiner.ready
    → flow_with e (sdu_taken f) ≡ sdu_taken (flow_with e f)

-- ---- what a history says

-- what goes up only grows, at its end
pub record HasMore (sdus later : List JoinedSdu) : Type 0 where
  pub more : List JoinedSdu
  pub is : later ≡ sdus ++ more

abbrev pub HandedGrows : Type 0
HandedGrows = (width : ℕ) (es later : List UmLifeEvent) → 0 < width
    → HasMore (handed_in width es) (handed_in width (later ++ es))

-- an SN is read as the one number with it in the window, if that isn't below 0
pub record ReadsOne (width top sn : ℕ) : Type 0 where
  pub is : (n : ℕ) → read_number width top sn ≡ Some n → IsReadAs width top sn n
  pub only : (n : ℕ) → IsReadAs width top sn n → read_number width top sn ≡ Some n

abbrev pub ReadsNumbers : Type 0
ReadsNumbers = (width top sn : ℕ) → 0 < width → sn < 2 * width → ReadsOne width top sn

-- a number that wasn't accepted is accepted exactly where it isn't below VR(UR) (TS 36.322
-- 5.1.2.2.2)
abbrev pub DropsBelowEdge : Type 0
DropsBelowEdge = (width n : ℕ) (es : List UmEvent) → 0 < width
    → (nat_le (base_in width es) n && not (is_accepted width es n))
    ≡ (nat_le (edge_in width es) n && not (is_accepted width es n))
