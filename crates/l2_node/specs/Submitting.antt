-- An SDU is submitted to a bearer; a discard timer is set (TS 36.323 5.1.1, 5.4).
use Rattle.std.specs.Prelude.{ℕ, List, Option}
use Rattle.bearer.specs.Bearer.{of, alive}
use Rattle.bearer.specs.Hearing.{with_discard}
use Rattle.bearer.specs.Submitting.{refusal as flow_refusal, submitted as flow_submitted}
use Rattle.l2_bits.specs.declared.fault.SubmitRefusal.{SubmitRefusal}
use Rattle.l2_node.specs.End.{End}
use Rattle.l2_node.specs.Hearing.{bearer_of, with_bearer_of}

unfoldable pub refusal : ℕ → List ℕ → End → Option SubmitRefusal
refusal lcid sdu e = flow_refusal (bearer_of lcid e).state.flow sdu

unfoldable pub submitted : ℕ → List ℕ → End → End
submitted lcid sdu e =
    with_bearer_of lcid
    (of (bearer_of lcid e).channel (alive (flow_submitted (bearer_of lcid e).state.flow sdu))) e

-- the length of a bearer's discard timers
unfoldable pub discarding : ℕ → ℕ → End → End
discarding lcid ttis e =
    with_bearer_of lcid
    (of (bearer_of lcid e).channel
    (record (bearer_of lcid e).state { flow = with_discard (bearer_of lcid e).state.flow ttis }))
    e
