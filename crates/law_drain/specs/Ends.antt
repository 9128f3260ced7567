-- Both ends of an acknowledged bearer in a round of a drain (TS 36.322 5.1.3, 5.2): what it costs
-- the flows in both directions.
use Rattle.std.specs.Prelude.{◌≡◌, ◌⊎◌, ℕ, ◌+◌, ◌<◌, ◌≤◌, true, List, [], ◌∷◌, ◌++◌, length, Option}
use Rattle.std.specs.Prelude.{None}
use Rattle.std.specs.List.{AllByRecursion}
use Rattle.l2_num.specs.Timers.{runs}
use Rattle.l2_types.specs.declared.Clock.TheVariants.{Poll}
use Rattle.pdcp_pdu.specs.declared.pdu.PdcpKind.{PdcpKind}
use Rattle.pdcp_sec.specs.Protection.{Protection}
use Rattle.pdcp_tx.specs.State.{start as start_pdcp}
use Rattle.rlc_am_tx.specs.Machine.{start}
use Rattle.bearer.specs.Acknowledged.State.{State}
use Rattle.bearer.specs.declared.flow.Flow.TheVariants.{Am}
use Rattle.law_pdcp.specs.OneEnd.Lives.{Step, run_pdcp_sender}
use Rattle.law_rlc.specs.AmSender.Octets.{HasOctets}
use Rattle.law_bearer.specs.AnyBearer.Acknowledged.{offers_in}
use Rattle.law_bearer.specs.AnyBearer.Calls.{Call, Expire, after_all}
use Rattle.law_bearer.specs.AnyBearer.Rounds.{Round, takes_in, writes_in, arrivals, nb_calls}
use Rattle.law_bearer.specs.AnyBearer.Rounds.{ue_calls, IsRound}
use Rattle.law_bearer.specs.AmBearer.Calls.{IsOfData, IsOfSignalling, IsIdle}
use Rattle.law_bearer.specs.AmBearer.Deeds.{Deed, does_all}
use Rattle.law_bearer.specs.AmBearer.Sending.{sends_in}
use Rattle.law_drain.specs.Bearer.{bearer_quiet, marks_behind}
use Rattle.law_drain.specs.Done.{IsOfLife, nothing_given}
use Rattle.law_drain.specs.Pending.{pending, IsAtTop}
use Rattle.law_drain.specs.Round.{behind, written_along, data_coming, tells_along, flow_measure}

-- ---- a bearer as it has come to what it is

-- its running life began with a state, PDCP's sender having come to it through any lives, and it
-- has done deeds of a life since, each PDU of PDCP having an octet
pub record HasLived (b : State) : Type 0 where
  pub origin : State
  pub kind : PdcpKind
  pub protection : Protection
  pub first : ℕ
  pub past : List Step
  pub given : origin.pdcp.tx ≡ run_pdcp_sender past (start_pdcp kind protection first)
  pub begins : origin.tx ≡ start origin.tx_config
  pub nothing : origin.pdcp.tx.given ≡ nothing_given
  pub deeds : List Deed
  pub life : AllByRecursion IsOfLife deeds
  pub octets : AllByRecursion HasOctets (sends_in deeds origin)
  pub is : does_all deeds origin ≡ b

-- of data or of signalling
abbrev pub IsOfAny : State → Type 0
IsOfAny b = ((bits : ℕ) × IsOfData bits b) ⊎ IsOfSignalling b

-- between two of its calls
pub record Stands (b : State) : Type 0 where
  pub kind : IsOfAny b
  pub idle : IsIdle b
  pub lived : HasLived b

-- the measure of the flow to a far end
abbrev pub measure_from : (near : State) → HasLived near → State → ℕ
measure_from near h far = flow_measure near (marks_behind h.origin h.deeds) far

-- ---- a round

-- each PDU that PDCP may give RLC has an octet
abbrev pub HasOctet : List ℕ → Type 0
HasOctet pdu = 0 < length pdu

abbrev pub OffersOctets : State → Type 0
OffersOctets b =
    (share : ℕ) (held : Option ℕ) → AllByRecursion HasOctet (offers_in b share held)

-- from a near end, with its calls, to a far one, with those of its TTI
pub record CostsFrom (near far near' far' : State) (h : HasLived near) (h' : HasLived near')
    (cs ds : List Call) : Type 0 where
  -- each data PDU costs one, and nothing adds
  pub falls : measure_from near' h' far' + written_along cs near ≤ measure_from near h far
  -- where no data comes, what was pending costs one: t-Reordering expires, or a STATUS is written
  pub settles : data_coming ds ≡ 0 → IsAtTop far.rx → 0 < pending far.rx
      → (far.rx.mark ≡ None → tells_along ds far ≡ true)
      → measure_from near' h' far' + 1 ≤ measure_from near h far
  -- and so does the expiry of the poll timer where the near end is quiet
  pub recalls : (front : List Call) → cs ≡ front ++ Expire Poll ∷ []
      → runs (behind front near).tx.polls.timer ≡ true → bearer_quiet near ≡ 1
      → measure_from near' h' far' + 1 ≤ measure_from near h far

-- the calls of the TTI alone
abbrev pub nb_tti : Round → State → State → List Call
nb_tti r nb ue =
    takes_in r.down
    ++ arrivals (writes_in r.up (after_all (Am ue) (arrivals (writes_in r.down (Am nb)))))

abbrev pub ue_tti : Round → State → State → List Call
ue_tti r nb ue = arrivals (writes_in r.down (Am nb)) ++ takes_in r.up

-- both stand behind the round, and it costs both flows
pub record CostsBoth (r : Round) (nb ue : State) (n : Stands nb) (u : Stands ue) : Type 0 where
  pub nb' : State
  pub ue' : State
  pub is : IsRound r (Am nb) (Am ue) (Am nb') (Am ue')
  pub nb_stands : Stands nb'
  pub ue_stands : Stands ue'
  pub down : CostsFrom nb ue nb' ue' n.lived nb_stands.lived (nb_calls r (Am nb) (Am ue))
      (ue_tti r nb ue)
  pub up : CostsFrom ue nb ue' nb' u.lived ue_stands.lived (ue_calls r (Am nb) (Am ue))
      (nb_tti r nb ue)
  -- where t-Reordering runs on, VR(X) is VR(H)
  pub nb_top : IsAtTop nb'.rx
  pub ue_top : IsAtTop ue'.rx

-- where each end writes with octets, the terminal's behind what came to it
abbrev pub RoundsCostBoth : Type 0
RoundsCostBoth = (r : Round) (nb ue : State) (n : Stands nb) (u : Stands ue) → OffersOctets nb
    → OffersOctets (behind (arrivals (writes_in r.down (Am nb))) ue) → CostsBoth r nb ue n u
