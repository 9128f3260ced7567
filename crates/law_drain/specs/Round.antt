-- A round of a drain between both ends of a bearer (TS 36.322 5.1.3, 5.2): what it costs the flow
-- from the near end to the far one.
use Rattle.std.specs.Prelude.{◌≡◌, ℕ, ◌+◌, ◌*◌, ◌<◌, ◌≤◌, Bool, true, false, ◌||◌, List, [], ◌∷◌}
use Rattle.std.specs.Prelude.{◌++◌, None, Result, Ok, Err}
use Rattle.std.specs.List.{AllByRecursion}
use Rattle.l2_num.specs.Timers.{runs}
use Rattle.l2_types.specs.declared.Clock.TheVariants.{Poll, Reorder, Prohibit}
use Rattle.pdcp_pdu.specs.declared.pdu.PdcpKind.{PdcpKind}
use Rattle.pdcp_sec.specs.Protection.{Protection}
use Rattle.pdcp_tx.specs.State.{start as start_pdcp}
use Rattle.rlc_pdu.specs.declared.fault.RlcRefusal.{RlcRefusal}
use Rattle.rlc_pdu.specs.Pdus.{AcknowledgedPdu, Payload, Status}
use Rattle.rlc_pdu.specs.Reading.{am_at}
use Rattle.rlc_am_tx.specs.Machine.{start}
use Rattle.bearer.specs.Acknowledged.State.{State}
use Rattle.bearer.specs.Acknowledged.Taking.{writes_status}
use Rattle.law_pdcp.specs.OneEnd.Lives.{Step, run_pdcp_sender}
use Rattle.law_rlc.specs.AmSender.Namings.{Marks}
use Rattle.law_rlc.specs.AmSender.Octets.{HasOctets}
use Rattle.law_bearer.specs.AnyBearer.Calls.{Call, Submit, Take, Arrive, Expire, Tick, SetDiscard}
use Rattle.law_bearer.specs.AmBearer.Calls.{deeds_of}
use Rattle.law_bearer.specs.AmBearer.Deeds.{Deed, does_all}
use Rattle.law_bearer.specs.AmBearer.Sending.{sends_in}
use Rattle.law_drain.specs.Bearer.{bearer_dues, bearer_quiet, marks_behind, data_in, IsOfDrain}
use Rattle.law_drain.specs.Pending.{pending, IsAtTop}

-- ---- an end, by its calls

-- the deeds that they are, and what they leave
abbrev pub deeds_along : List Call → State → List Deed
deeds_along [] b = []
deeds_along (c ∷ cs) b = deeds_of b c ++ deeds_along cs (does_all (deeds_of b c) b)

abbrev pub behind : List Call → State → State
behind [] b = b
behind (c ∷ cs) b = behind cs (does_all (deeds_of b c) b)

-- how many data PDUs they write
abbrev pub written_along : List Call → State → ℕ
written_along [] b = 0
written_along (c ∷ cs) b = data_in b c + written_along cs (does_all (deeds_of b c) b)

-- ---- the far end in a TTI: it writes, and PDUs come

abbrev pub IsInTti : Call → Type 0
IsInTti (Submit sdu) = ⊥
IsInTti (Take share held) = Unit {0}
IsInTti (Arrive pdu) = Unit {0}
IsInTti (Expire clock) = ⊥
IsInTti Tick = ⊥
IsInTti (SetDiscard ttis) = ⊥

-- a data PDU comes
abbrev pub is_data : Result AcknowledgedPdu RlcRefusal → ℕ
is_data (Ok (Payload pdu)) = 1
is_data (Ok (Status status)) = 0
is_data (Err refused) = 0

abbrev pub data_of_call : Call → ℕ
data_of_call (Submit sdu) = 0
data_of_call (Take share held) = 0
data_of_call (Arrive pdu) = is_data (am_at pdu)
data_of_call (Expire clock) = 0
data_of_call Tick = 0
data_of_call (SetDiscard ttis) = 0

abbrev pub data_coming : List Call → ℕ
data_coming [] = 0
data_coming (c ∷ cs) = data_of_call c + data_coming cs

-- a STATUS is written
abbrev pub tells : State → Call → Bool
tells b (Submit sdu) = false
tells b (Take share held) = writes_status b.rx share
tells b (Arrive pdu) = false
tells b (Expire clock) = false
tells b Tick = false
tells b (SetDiscard ttis) = false

abbrev pub tells_along : List Call → State → Bool
tells_along [] b = false
tells_along (c ∷ cs) b = tells b c || tells_along cs (does_all (deeds_of b c) b)

-- then t-Reordering and t-StatusProhibit expire
abbrev pub far_behind : List Call → State → State
far_behind cs b = behind (Expire Reorder ∷ Expire Prohibit ∷ []) (behind cs b)

-- ---- what a round costs

abbrev pub flow_measure : State → Marks → State → ℕ
flow_measure near m far = 3 * bearer_dues near m + (pending far.rx + bearer_quiet near)

-- of the near end, behind any deeds, its calls of a drain; of the far end those of a TTI
pub record CostsFlow (b : State) (deeds : List Deed) (far : State) (cs ds : List Call) : Type 0
  where
    -- each data PDU costs one, and nothing adds
    pub falls : flow_measure (behind cs (does_all deeds b))
        (marks_behind b (deeds ++ deeds_along cs (does_all deeds b))) (far_behind ds far)
        + written_along cs (does_all deeds b)
        ≤ flow_measure (does_all deeds b) (marks_behind b deeds) far
    -- where no data comes, what was pending costs one: t-Reordering expires, or a STATUS is written
    pub settles : data_coming ds ≡ 0 → IsAtTop far.rx → 0 < pending far.rx
        → (far.rx.mark ≡ None → tells_along ds far ≡ true)
        → flow_measure (behind cs (does_all deeds b))
        (marks_behind b (deeds ++ deeds_along cs (does_all deeds b))) (far_behind ds far) + 1
        ≤ flow_measure (does_all deeds b) (marks_behind b deeds) far
    -- and so does the expiry of the poll timer where the near end is quiet
    pub recalls : (front : List Call) → cs ≡ front ++ Expire Poll ∷ []
        → runs (behind front (does_all deeds b)).tx.polls.timer ≡ true
        → bearer_quiet (does_all deeds b) ≡ 1
        → flow_measure (behind cs (does_all deeds b))
        (marks_behind b (deeds ++ deeds_along cs (does_all deeds b))) (far_behind ds far) + 1
        ≤ flow_measure (does_all deeds b) (marks_behind b deeds) far

-- of a bearer that begins a life, each PDU of PDCP having an octet; at most one data PDU comes to
-- the far end in a TTI, and none that the near end doesn't write in it
abbrev pub FlowsCost : Type 0
FlowsCost =
    (b : State) (kind : PdcpKind) (p : Protection) (first : ℕ) (steps : List Step)
    (deeds : List Deed) (far : State) (cs ds : List Call)
    → b.pdcp.tx ≡ run_pdcp_sender steps (start_pdcp kind p first) → b.tx ≡ start b.tx_config
    → AllByRecursion HasOctets (sends_in (deeds ++ deeds_along cs (does_all deeds b)) b)
    → AllByRecursion IsOfDrain cs → AllByRecursion IsInTti ds → data_coming ds ≤ 1
    → data_coming ds ≤ written_along cs (does_all deeds b) → CostsFlow b deeds far cs ds
