-- The end of a life and the beginning of the next (TS 36.323 5.2.1.2, 5.2.2.2, TS 36.322 5.4).
use Rattle.std.specs.Prelude.{ℕ, List, []}
use Rattle.bearer_types.specs.declared.Event.{Event}
use Rattle.eps_sec.specs.declared.Keys.{Keys}
use Rattle.pdcp_rx.specs.declared.Cause.TheVariants.{Reestablished}
use Rattle.rlc_um.specs.Receiver.{all_joined}
use Rattle.bearer_pdcp.specs.Ends.{Ends}
use Rattle.bearer_pdcp.specs.Lives.{restarted as restarted_pdcp}
use Rattle.bearer.specs.Unacknowledged.State.{State, with_new_rlc}
use Rattle.bearer.specs.Unacknowledged.Hearing.{Hearing, hears_all}

-- a bearer between two lives
pub record Stopped : Type 0 where
  pub bits : ℕ
  pub reorder : ℕ
  pub pdcp : Ends

-- all that RLC can put together goes up
abbrev pub last_ups : State → Hearing
last_ups s = hears_all (all_joined s.rx) Reestablished (record { pdcp = s.pdcp; events = [] })

unfoldable pub stopped : State → Stopped
stopped s = record { bits = s.bits; reorder = s.reorder; pdcp = (last_ups s).pdcp }

unfoldable pub stopping : State → List Event
stopping s = (last_ups s).events

unfoldable pub restarted : Stopped → Keys → State
restarted s keys = with_new_rlc s.bits s.reorder (restarted_pdcp s.pdcp keys)
