-- Where nothing is left, all SDUs that were offered are confirmed (TS 36.322 5.1.3.1).
use Rattle.std.specs.Prelude.{◌≡◌, ℕ, ◌<◌, List}
use Rattle.std.specs.List.{AllByRecursion}
use Rattle.l2_types.specs.declared.config.AmTxConfig.{AmTxConfig}
use Rattle.rlc_am_tx.specs.Need.{left}
use Rattle.law_rlc.specs.AmSender.Run.{Call, World, run_am_sender, begun}
use Rattle.law_rlc.specs.AmSender.Confirmed.{Confirmations, unconfirmed, confirmations_after, times}
use Rattle.law_rlc.specs.AmSender.Confirmed.{places}
use Rattle.law_rlc.specs.AmSender.Octets.{HasOctets}

-- the place of each stands among those that `confirmed` gave and will give next
abbrev pub AllAreConfirmed : World Confirmations → Type 0
AllAreConfirmed w = left w.state ≡ 0 → (place : ℕ) → place < w.past.offered
    → times place (places w.state w.past) ≡ 1

-- each SDU offered has an octet
abbrev pub LeavesOnlyUnconfirmed : Type 0
LeavesOnlyUnconfirmed = (config : AmTxConfig) (calls : List Call) → AllByRecursion HasOctets calls
    → AllAreConfirmed (run_am_sender confirmations_after calls (begun config unconfirmed))
