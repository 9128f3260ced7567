-- What each block carries of an acknowledged channel by true numbers: it gets them as it is built
-- and keeps them, and with these its PDUs are under way in the flows of the channel's bearers (TS
-- 36.322 5.1.3.1, 5.2.3, 7.1).
use Rattle.std.specs.Prelude.{◌≡◌, ℕ, if◌then◌else◌, List, [], ◌∷◌, ◌++◌, map, Option, Some}
use Rattle.std.specs.Prelude.{slice_get}
use Rattle.std.specs.List.{AllByRecursion}
use Rattle.bearer.specs.declared.flow.Flow.{Flow as Bearer}
use Rattle.bearer.specs.declared.flow.Flow.TheVariants.{Tm, Um, Am}
use Rattle.bearer.specs.Acknowledged.State.{State}
use Rattle.bearer_types.specs.Sides.{sent_by}
use Rattle.harq.specs.declared.sender.Visit.{Visit}
use Rattle.harq.specs.declared.sender.Visit.TheVariants.{New, Resend, Silent}
use Rattle.l2_node.specs.Building.{visit, visited}
use Rattle.l2_node.specs.End.{End}
use Rattle.l2_types.specs.declared.side.Side.TheVariants.{Nb, Ue}
use Rattle.mac_pdu.specs.declared.item.Direction.{Direction}
use Rattle.prioritise.specs.Channels.{has as has_channel}
use Rattle.promises.specs.Pdus.{carried}
use Rattle.law_bearer.specs.AnyBearer.Acknowledged.{data_given}
use Rattle.law_node.specs.Calls.{Turn, Call, Visits}
use Rattle.law_node.specs.Holding.{flow}
use Rattle.law_rlc.specs.AmPair.Flow.{Copy, Report, Flow, copies_with, except}
use Rattle.law_deliver.specs.AmFlow.Air.{Block, Air, Act, Calls, Comes, Goes, Step, AtNb}
use Rattle.law_deliver.specs.AmFlow.Air.{AtUe, Passes, happens, goes, outset, AreGiven, Begins}
use Rattle.law_deliver.specs.AmFlow.Channels.{share_of, held_of}
use Rattle.law_deliver.specs.AmFlow.Pair.{reports_now}
use Rattle.law_deliver.specs.AmFlow.UnderWay.{AreFlowsByAir, flow_on}

-- a data PDU with its number, or a STATUS with its ACK and its entries
pub data CarriedPdu : Type 0 where
  Numbered : Copy → CarriedPdu
  Reported : Report → CarriedPdu

abbrev pub pdu_octets : CarriedPdu → List ℕ
pdu_octets (Numbered c) = c.octets
pdu_octets (Reported r) = r.octets

-- ---- a block is built

abbrev pub status_written : State → ℕ → List CarriedPdu
status_written b share = map (λ (r : Report). Reported r) (reports_now b.rx share)

abbrev pub data_written : State → ℕ → Option ℕ → List CarriedPdu
data_written b share held =
    map (λ (c : Copy). Numbered c) (copies_with (data_given b share held) [])

-- a bearer writes so much of its share, told of the lowest number that HARQ holds
abbrev pub written_in : Bearer → ℕ → Option ℕ → List CarriedPdu
written_in (Am b) share held = status_written b share ++ data_written b share held
written_in (Tm b) share held = []
written_in (Um b) share held = []

abbrev pub written_on : ℕ → Turn → End → List CarriedPdu
written_on l t e = if has_channel l e.buckets.channels
    then written_in (flow l e) (share_of e t.grant l) (held_of e l) else []

-- ---- beside the blocks of a station stands what each was built with

abbrev pub with_built : ℕ → Visit → Turn → End → List (List CarriedPdu) → List (List CarriedPdu)
with_built l New t e pdus = written_on l t e ∷ pdus
with_built l (Resend rv) t e pdus = pdus
with_built l Silent t e pdus = pdus

abbrev pub behind_call : ℕ → End → Call → List (List CarriedPdu) → List (List CarriedPdu)
behind_call l e (Visits t) pdus =
    with_built l (visit t.tti t.order e) t (visited t.tti t.order e) pdus
behind_call l e c pdus = pdus

abbrev pub behind_act : ℕ → End → Act → List (List CarriedPdu) → List (List CarriedPdu)
behind_act l e (Calls c) pdus = behind_call l e c pdus
behind_act l e (Comes k) pdus = pdus
behind_act l e (Goes k) pdus = except k pdus

-- an act that builds a block
pub record Builds (e : End) (act : Act) : Type 0 where
  pub turn : Turn
  pub is : act ≡ Calls (Visits turn)
  pub new : visit turn.tti turn.order e ≡ New

-- at both ends
pub record Carried : Type 0 where
  pub nb : List (List CarriedPdu)
  pub ue : List (List CarriedPdu)

abbrev pub behind_step : ℕ → Air → Step → Carried → Carried
behind_step l a (AtNb x) c = record c { nb = behind_act l a.nb.end x c.nb }
behind_step l a (AtUe x) c = record c { ue = behind_act l a.ue.end x c.ue }
behind_step l a Passes c = c

abbrev pub carried_behind : ℕ → List Step → Air → Carried → Carried
carried_behind l [] a c = c
carried_behind l (s ∷ ss) a c = carried_behind l ss (happens a s) (behind_step l a s c)

abbrev pub carries_none : Carried
carries_none = record { nb = []; ue = [] }

-- ---- it is under way so

abbrev pub IsIn : {A : Type 0} → List A → A → Type 0
IsIn xs x = (k : ℕ) × (slice_get xs k ≡ Some x)

-- in the flow out, or in the one back, where a STATUS is as old as its block
abbrev pub IsUnderWayAs : Flow → Flow → ℕ → CarriedPdu → Type 0
IsUnderWayAs out back age (Numbered c) = IsIn out.copies c
IsUnderWayAs out back age (Reported r) = IsIn back.reports (record r { age = age })

pub record CarriesAs (l : ℕ) (d : Direction) (out back : Flow) (block : Block)
    (pdus : List CarriedPdu) : Type 0 where
  pub carries : carried l d block.octets ≡ map pdu_octets pdus
  pub under_way : AllByRecursion (IsUnderWayAs out back block.age) pdus

-- block by block
abbrev pub AllCarryAs : ℕ → Direction → Flow → Flow → List Block → List (List CarriedPdu) → Type 0
AllCarryAs l d out back [] [] = Unit {0}
AllCarryAs l d out back (b ∷ bs) (pdus ∷ rest) =
    CarriesAs l d out back b pdus × AllCarryAs l d out back bs rest
AllCarryAs l d out back [] (pdus ∷ rest) = ⊥
AllCarryAs l d out back (b ∷ bs) [] = ⊥

-- down and up
pub record AreCarried (l : ℕ) (nb ue : State) (a : Air) (c : Carried) : Type 0 where
  pub by_air : AreFlowsByAir l nb ue a
  pub by_nb : AllCarryAs l (sent_by Nb)
      (flow_on l nb.tx_config ue.rx_config a.nb.end a.ue.end by_air.flows.down)
      (flow_on l ue.tx_config nb.rx_config a.ue.end a.nb.end by_air.flows.up) a.nb.blocks c.nb
  pub by_ue : AllCarryAs l (sent_by Ue)
      (flow_on l ue.tx_config nb.rx_config a.ue.end a.nb.end by_air.flows.up)
      (flow_on l nb.tx_config ue.rx_config a.nb.end a.ue.end by_air.flows.down) a.ue.blocks c.ue

abbrev pub NumbersStay : Type 0
NumbersStay = (l : ℕ) (nb ue : End) (b d : State) (steps : List Step) → Begins Nb l nb b
    → Begins Ue l ue d → AreGiven l (outset nb ue) steps
    → AreCarried l b d (goes steps (outset nb ue))
    (carried_behind l steps (outset nb ue) carries_none)
