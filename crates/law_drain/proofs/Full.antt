-- What is known of a sender after any calls: its slots fit the window, and each has an octet.
use Rattle.std.proofs.Common.{ℕ, Bool, false, List, [], ◌∷◌}
use Rattle.std.proofs.Common.{arith}
use Rattle.std.specs.List.{AllByRecursion}
use Rattle.l2_num.specs.Timers.{runs}
use Rattle.l2_types.specs.declared.config.AmTxConfig.{AmTxConfig}
use Rattle.rlc_am_tx.specs.Machine.{State, start, turn, after_status, after_expiry, is_ignored}
use Rattle.rlc_am_tx.specs.Machine.{settles}
use Rattle.law_rlc.specs.AmSender.Run.{Call, Offer, Take, Status, Tick, Expire, Settle, Confirm, World, after}
use Rattle.law_rlc.specs.AmSender.Run.{run_am_sender}
use Rattle.law_rlc.specs.AmSender.Acked.{acked_after}
use Rattle.law_rlc.specs.AmSender.Namings.{Marks, marks_after}
use Rattle.law_rlc.specs.AmSender.Octets.{HasOctets}
use Rattle.law_rlc.proofs.AmSender.Least.{Fits, after-fits, fresh-fits}
use Rattle.law_rlc.proofs.AmSender.Expiries.{IsFull, some-append, is-new, turn-full}
use Rattle.law_rlc.proofs.AmSender.Watches.{status-full, expiry-full, settled-full}

-- ---- each PDU has an octet

full-after : (s : State) (c : Call) → HasOctets c → IsFull s → IsFull (after s c)
unfolding after_status after_expiry
full-after s (Offer sdu) some h = record { slots = h.slots; queue = some-append s.queue.sdus sdu h.queue some }
full-after s (Take size held more) some h =
    turn-full (turn s size held more) s size more (is-new s size held more) h
full-after s (Status status) some h = status-full (is_ignored s status.ack) s status h
full-after s Tick some h = record { slots = h.slots; queue = h.queue }
full-after s (Expire more) some h = expiry-full (runs s.polls.timer) s more h
full-after s (Settle more) some h = settled-full (settles s more) s h
full-after s Confirm some h = record { slots = h.slots; queue = h.queue }

-- ---- along a run

pub record Guarded (s : State) : Type 0 where
  pub acked : ℕ → Bool
  pub fits : Fits s.window acked
  pub full : IsFull s

run-guarded : (calls : List Call) (w : World Marks) → AllByRecursion HasOctets calls → Guarded w.state
    → Guarded (run_am_sender marks_after calls w).state
run-guarded [] w some g = g
run-guarded (c ∷ cs) w some g =
    run-guarded cs (record { state = after w.state c; past = marks_after w.state c w.past }) some.1 (record {
      acked = acked_after w.state c g.acked;
      fits = after-fits w.state c g.acked g.fits;
      full = full-after w.state c some.0 g.full;
    })

pub guarded : (calls : List Call) (config : AmTxConfig) (m : Marks) → AllByRecursion HasOctets calls
    → Guarded (run_am_sender marks_after calls (record { state = start config; past = m })).state
guarded calls config m some = run-guarded calls (record { state = start config; past = m }) some (record {
  acked = λ n. false;
  fits = fresh-fits config;
  full = record { slots = λ k lt. absurd (omega (arith, lt)); queue = tt };
})
