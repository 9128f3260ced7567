-- What a round of a drain costs one acknowledged flow (TS 36.322 5.1.3, 5.2).
use Rattle.std.specs.Prelude.{◌≡◌, ℕ, ◌+◌, ◌*◌, ◌<◌, ◌≤◌, Bool, true, List, [], ◌∷◌, ◌++◌, None}
use Rattle.std.specs.List.{AllByRecursion}
use Rattle.l2_num.specs.Timers.{runs}
use Rattle.l2_types.specs.declared.config.AmTxConfig.{AmTxConfig}
use Rattle.rlc_am_rx.specs.State.{State as Receiver}
use Rattle.law_rlc.specs.AmReceiver.Run.{Call as ReceiverCall}
use Rattle.law_rlc.specs.AmSender.Run.{Call as SenderCall, Expire, World, after, run_am_sender}
use Rattle.law_rlc.specs.AmSender.Run.{begun}
use Rattle.law_rlc.specs.AmSender.Namings.{Marks, unmarked, marks_after}
use Rattle.law_rlc.specs.AmSender.Octets.{HasOctets}
use Rattle.law_drain.specs.Dues.{dues, sent_by, offered_by}
use Rattle.law_drain.specs.Pending.{pending, IsOfTti, data_in, writes_status, round, IsAtTop}
use Rattle.law_drain.specs.Quiet.{quiet}

-- ---- calls of a sender

abbrev pub next : World Marks → SenderCall → World Marks
next w c = record { state = after w.state c; past = marks_after w.state c w.past }

-- the data PDUs that they send, and what their offers add to what is owed
abbrev pub sent_along : List SenderCall → World Marks → ℕ
sent_along [] w = 0
sent_along (c ∷ cs) w = sent_by w.state c + sent_along cs (next w c)

abbrev pub offered_along : List SenderCall → World Marks → ℕ
offered_along [] w = 0
offered_along (c ∷ cs) w = offered_by w.state c + offered_along cs (next w c)

-- ---- the measure of a flow, by whether PDCP has more to give

abbrev pub measure : World Marks → Receiver → Bool → ℕ
measure w r more = 3 * dues w.state w.past + (pending r + quiet w.state more)

-- of a round, the calls of the sender and those of the receiver in its TTI
pub record Costs (w : World Marks) (cs : List SenderCall) (r : Receiver) (rs : List ReceiverCall)
    (more : Bool) : Type 0 where
  -- each data PDU costs one, and nothing adds but offers
  pub falls : measure (run_am_sender marks_after cs w) (round r rs) more + sent_along cs w
      ≤ measure w r more + 3 * offered_along cs w
  -- where no data comes, what the round before left pending costs one: t-Reordering, or a STATUS
  -- that is written
  pub settles : data_in rs ≡ 0 → IsAtTop r → 0 < pending r
      → (r.mark ≡ None → writes_status rs ≡ true)
      → measure (run_am_sender marks_after cs w) (round r rs) more + 1
      ≤ measure w r more + 3 * offered_along cs w
  -- and so does the expiry of the poll timer of a quiet sender
  pub recalls : (front : List SenderCall) → cs ≡ front ++ Expire more ∷ []
      → runs (run_am_sender marks_after front w).state.polls.timer ≡ true → quiet w.state more ≡ 1
      → measure (run_am_sender marks_after cs w) (round r rs) more + 1
      ≤ measure w r more + 3 * offered_along cs w

-- after any calls of the sender, each SDU having an octet, and of any receiver: where at most one
-- data PDU comes in the TTI, and none that wasn't sent in it
abbrev pub RoundsCost : Type 0
RoundsCost =
    (config : AmTxConfig) (calls cs : List SenderCall) (r : Receiver) (rs : List ReceiverCall)
    (more : Bool) → AllByRecursion HasOctets calls → AllByRecursion HasOctets cs
    → AllByRecursion IsOfTti rs → data_in rs ≤ 1
    → data_in rs ≤ sent_along cs (run_am_sender marks_after calls (begun config unmarked))
    → Costs (run_am_sender marks_after calls (begun config unmarked)) cs r rs more
