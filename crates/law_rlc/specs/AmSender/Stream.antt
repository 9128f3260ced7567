-- What new PDUs carry (TS 36.322 5.1.3.1, 6.2.1.4).
use Rattle.std.specs.Prelude.{◌≡◌, ℕ, ◌+◌, List, [], ◌++◌}
use Rattle.std.specs.List.{concat}
use Rattle.l2_types.specs.declared.config.AmTxConfig.{AmTxConfig}
use Rattle.rlc_am_tx_window.specs.Window.{next}
use Rattle.rlc_am_tx.specs.declared.turn.Turn.{Turn}
use Rattle.rlc_am_tx.specs.declared.turn.Turn.TheVariants as turns
use Rattle.rlc_am_tx.specs.Machine.{State, turn, new_slot}
use Rattle.law_rlc.specs.AmSender.Run.{Call, Offer, Take, Status, Tick, Expire, Settle, Confirm}
use Rattle.law_rlc.specs.AmSender.Run.{World, run_am_sender, begun}

-- the octets of all SDUs offered, one behind the other, those of all new PDUs, and how many new
-- PDUs there were
pub record Streams : Type 0 where
  pub offered : List ℕ
  pub carried : List ℕ
  pub sent : ℕ

abbrev pub streams_by : Turn → State → ℕ → Streams → Streams
streams_by turns.New s size p =
    record p { carried = p.carried ++ (new_slot s size).field; sent = p.sent + 1 }
streams_by turns.Whole s size p = p
streams_by turns.Part s size p = p
streams_by turns.Idle s size p = p
streams_by turns.Stopped s size p = p
streams_by turns.Small s size p = p
streams_by turns.Shut s size p = p
streams_by turns.Held s size p = p

abbrev pub streams_after : State → Call → Streams → Streams
streams_after s (Offer sdu) p = record p { offered = p.offered ++ sdu }
streams_after s (Take size held more) p = streams_by (turn s size held more) s size p
streams_after s (Status status) p = p
streams_after s Tick p = p
streams_after s (Expire more) p = p
streams_after s (Settle more) p = p
streams_after s Confirm p = p

-- new PDUs carry the octets offered, in their order, each once, and what is left follows; VT(S) is
-- the number of the next new PDU
pub record IsCarried (w : World Streams) : Type 0 where
  pub octets : w.past.carried ++ concat w.state.queue.sdus ≡ w.past.offered
  pub number : next w.state.window ≡ w.past.sent

abbrev pub CarriesTheStream : Type 0
CarriesTheStream = (config : AmTxConfig) (calls : List Call)
    → IsCarried
    (run_am_sender streams_after calls (begun config
    (record { offered = []; carried = []; sent = 0 })))
