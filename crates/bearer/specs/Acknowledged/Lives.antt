-- The end of a life and the beginning of the next (TS 36.323 5.2, TS 36.322 5.4).
use Rattle.std.specs.Prelude.{ℕ, Bool, true, false, List, [], ◌∷◌, ◌++◌, map}
use Rattle.bearer_types.specs.declared.Event.{Event}
use Rattle.bearer_types.specs.declared.Event.TheVariants as events
use Rattle.eps_sec.specs.declared.Keys.{Keys}
use Rattle.l2_types.specs.declared.AmRxConfig.{AmRxConfig}
use Rattle.l2_types.specs.declared.AmTxConfig.{AmTxConfig}
use Rattle.l2_types.specs.declared.Lost.TheVariants as lost
use Rattle.pdcp_pdu.specs.Kinds.{is_am}
use Rattle.pdcp_rx.specs.declared.Cause.TheVariants.{Reestablished}
use Rattle.rlc_am_rx.specs.Machine.{finished}
use Rattle.bearer_pdcp.specs.Ends.{Ends}
use Rattle.bearer_pdcp.specs.Hearing.{heard_told, after_hearing}
use Rattle.bearer_pdcp.specs.Lives.{restarted as restarted_pdcp}
use Rattle.bearer.specs.Acknowledged.State.{State, with_new_rlc}

-- a bearer between two lives
pub record Stopped : Type 0 where
  pub pdcp : Ends
  pub tx_config : AmTxConfig
  pub rx_config : AmRxConfig

-- PDCP and what it has told
pub record Ending : Type 0 where
  pub pdcp : Ends
  pub events : List Event

abbrev pub hears_last : List (List ℕ) → Ending → Ending
hears_last [] e = e
hears_last (sdu ∷ sdus) e =
    hears_last sdus (record {
      pdcp = after_hearing sdu Reestablished e.pdcp;
      events = e.events ++ heard_told sdu Reestablished e.pdcp;
    })

-- of signalling each is dropped (TS 36.323 5.2.2.3)
abbrev pub drops_last : List (List ℕ) → Ending → Ending
drops_last sdus e =
    record e { events = e.events ++ map (λ sdu. events.Drop e.pdcp.lcid lost.Handover) sdus }

-- all that RLC can put together goes up
abbrev pub ends_with : Bool → List (List ℕ) → Ending → Ending
ends_with true sdus e = hears_last sdus e
ends_with false sdus e = drops_last sdus e

abbrev pub last_ups : State → Ending
last_ups s = ends_with (is_am s.pdcp.kind) (finished s.rx) (record { pdcp = s.pdcp; events = [] })

unfoldable pub stopped : State → Stopped
stopped s = record { pdcp = (last_ups s).pdcp; tx_config = s.tx_config; rx_config = s.rx_config }

unfoldable pub stopping : State → List Event
stopping s = (last_ups s).events

unfoldable pub restarted : Stopped → Keys → State
restarted s keys = with_new_rlc s.tx_config s.rx_config (restarted_pdcp s.pdcp keys)
