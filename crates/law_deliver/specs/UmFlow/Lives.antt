-- A life of an unacknowledged bearer begins with entities of RLC that begin (TS 36.322 5.4, TS
-- 36.323 5.2).
use Rattle.std.specs.Prelude.{◌≡◌, ℕ, List}
use Rattle.bearer_types.specs.declared.BearerConfig.{BearerConfig}
use Rattle.eps_sec.specs.declared.Keys.{Keys}
use Rattle.l2_types.specs.declared.Side.{Side}
use Rattle.rlc_um.specs.Sender.{idle_sender, width_of}
use Rattle.rlc_um.specs.Receiver.{start}
use Rattle.bearer.specs.Unacknowledged.State.{State, fresh}
use Rattle.bearer.specs.Unacknowledged.Lives.{stopped, restarted}
use Rattle.law_bearer.specs.AnyBearer.Calls.{Call}
use Rattle.law_deliver.specs.UmFlow.Handing.{IsOfData, all_called}

-- with RLC's numbers of so many bits, and a reordering timer of so many TTIs
pub record BeginsLife (bits reorder : ℕ) (b : State) : Type 0 where
  pub bits_are : b.bits ≡ bits
  pub sends : b.tx ≡ idle_sender bits
  pub receives : b.rx ≡ start (width_of bits) reorder

-- as it is added
pub record IsAdded (c : BearerConfig) (b : State) : Type 0 where
  pub begins : BeginsLife c.rlc_bits c.rx.reorder b
  pub of_data : IsOfData c.pdcp_bits b

-- and after any calls of a life, as the next one begins
pub record BeginsAgain (bits reorder pdcp_bits : ℕ) (b : State) : Type 0 where
  pub begins : BeginsLife bits reorder b
  pub of_data : IsOfData pdcp_bits b

abbrev pub FirstLifeBegins : Type 0
FirstLifeBegins = (c : BearerConfig) (keys : Keys) (side : Side) → IsAdded c (fresh c keys side)

abbrev pub NextLifeBegins : Type 0
NextLifeBegins = (pdcp_bits : ℕ) (b : State) (cs : List Call) (keys : Keys) → IsOfData pdcp_bits b
    → BeginsAgain b.bits b.reorder pdcp_bits (restarted (stopped (all_called b cs)) keys)
