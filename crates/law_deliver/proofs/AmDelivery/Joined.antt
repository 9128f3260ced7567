-- One direction of a pair of bearers: RLC's flow of this life and PDCP's through lives, and how they belong together.
use Rattle.std.specs.Prelude.{◌≡◌, ℕ, ◌≤◌, ◌^◌, List, map, length, Option, Some, None}
use Rattle.std.specs.List.{AllByRecursion}
use Rattle.l2_types.specs.declared.config.AmTxConfig.{AmTxConfig}
use Rattle.l2_types.specs.declared.AmRxConfig.{AmRxConfig}
use Rattle.pdcp_pdu.specs.declared.PdcpKind.TheVariants.{Am as AmKind}
use Rattle.pdcp_pdu.specs.Kinds.{IsKind}
use Rattle.pdcp_sec.specs.Protection.{Protection}
use Rattle.pdcp_tx.specs.declared.sender.Next.{Next}
use Rattle.law_bearer.specs.AmBearer.Calls.{IsOfData, IsIdle}
use Rattle.law_rlc.specs.AmPair.Flow.{Flow as Rlc, Step as RlcStep, goes as rlc_goes, am_rlc_outset}
use Rattle.law_rlc.specs.AmPair.Given.{AreGiven as AreGivenSteps}
use Rattle.law_rlc.specs.AmPair.Sdus.{offered, handed_up}
use Rattle.law_rlc.specs.AmPair.Arrives.{arrives}
use Rattle.law_pdcp.specs.AmPair.Flow.{Flow as Pdcp, Event, run_am_pdcp, am_pdcp_outset}
use Rattle.law_pdcp.specs.AmPair.Flow.{AreGiven as AreGivenEvents}
use Rattle.law_deliver.specs.AmFlow.Flows.{IsFlow}
use Rattle.law_deliver.specs.AmFlow.Pair.{BearerEnd, Pair}

pub record Way : Type 0 where
  pub bits : ℕ
  pub protection : Protection
  pub first : ℕ
  -- of PDCP, through all lives
  pub events : List Event
  pub sending : AmTxConfig
  pub receiving : AmRxConfig
  -- of RLC, in this life
  pub steps : List RlcStep

abbrev pub rlc : Way → Rlc
rlc w = rlc_goes w.steps (am_rlc_outset w.sending w.receiving)

abbrev pub pdcp : Way → Pdcp
pdcp w = run_am_pdcp w.events (am_pdcp_outset w.bits w.protection w.first)

pub record IsWay (w : Way) : Type 0 where
  pub kind : IsKind (AmKind w.bits)
  pub first : w.first ≤ 2 ^ 32
  pub events : AreGivenEvents (am_pdcp_outset w.bits w.protection w.first) w.events
  pub steps : AreGivenSteps (am_rlc_outset w.sending w.receiving) w.steps

-- it goes from an end to the other, and what PDCP gives is what RLC is offered
pub record Joins (w : Way) (from to : BearerEnd) : Type 0 where
  pub rlc_is : IsFlow from to (rlc w)
  pub sender_is : (pdcp w).sender ≡ from.bearer.pdcp.tx
  pub receiver_is : (pdcp w).receiver ≡ to.bearer.pdcp.rx
  pub stream_is : map (λ (n : Next). n.octets) (pdcp w).stream ≡ offered (rlc w)
  pub passed_is : (pdcp w).passed ≡ length (handed_up (rlc w))
  pub whole_is : (k : ℕ) → (pdcp w).whole k ≡ arrives (rlc w) k

-- what goes back without a COUNT is the report of what had come this way as the life began
abbrev pub IsReportOf : Option (List ℕ) → Next → Type 0
IsReportOf report n = n.count ≡ None → report ≡ Some n.octets

pub record Reports (w back : Way) : Type 0 where
  pub owed : (r : List ℕ) → (pdcp back).sender.owed ≡ Some r → (pdcp w).report ≡ Some r
  pub sent : AllByRecursion (IsReportOf (pdcp w).report) (pdcp back).stream

-- both directions, between two calls
pub record JoinedPair (bits : ℕ) (down up : Way) (p : Pair) : Type 0 where
  pub down_is : IsWay down
  pub up_is : IsWay up
  pub down_bits : down.bits ≡ bits
  pub up_bits : up.bits ≡ bits
  pub down_joins : Joins down p.near p.far
  pub up_joins : Joins up p.far p.near
  pub down_reports : Reports down up
  pub up_reports : Reports up down
  pub near_data : IsOfData bits p.near.bearer
  pub far_data : IsOfData bits p.far.bearer
  pub near_idle : IsIdle p.near.bearer
  pub far_idle : IsIdle p.far.bearer
