-- In which TTIs a terminal listens (TS 36.321 5.7).
use Rattle.std.specs.Prelude.{ℕ, ◌+◌, ◌-◌, ◌%◌, nat_lt, Bool, ◌||◌, Option, Some, None, List}
use Rattle.std.specs.Prelude.{replicate, slice_set}
use Rattle.std.specs.List.{list_any}
use Rattle.l2_types.specs.declared.config.DrxConfig.{DrxConfig}
use Rattle.drx.specs.Within.{is_within}

-- the configuration, the last TTI with a new block, and for each process the TTI of its last
-- downlink block where that was damaged
pub record State : Type 0 where
  pub config : DrxConfig
  pub last_new : Option ℕ
  pub damaged : List (Option ℕ)

abbrev pub state : DrxConfig → Option ℕ → List (Option ℕ) → State
state config last_new damaged = record { config = config; last_new = last_new; damaged = damaged }

unfoldable pub fresh : DrxConfig → State
fresh config = state config None (replicate 8 None)

-- the on duration: the first TTIs of a cycle
abbrev pub is_on : DrxConfig → ℕ → Bool
is_on config tti = nat_lt ((tti + config.cycle - config.offset) % config.cycle) config.on

-- the inactivity timer runs, or a retransmission timer does, or the uplink process holds a block
unfoldable pub is_active : State → ℕ → Bool → Bool
is_active s tti held =
    ((held || is_on s.config tti) || is_within 1 s.config.inactivity tti s.last_new)
    || list_any (is_within 8 (7 + s.config.retransmit) tti) s.damaged

unfoldable pub after_new : State → ℕ → State
after_new s tti = state s.config (Some tti) s.damaged

unfoldable pub after_damaged : State → ℕ → State
after_damaged s tti = state s.config s.last_new (slice_set s.damaged (tti % 8) (Some tti))

unfoldable pub after_decoded : State → ℕ → State
after_decoded s tti = state s.config s.last_new (slice_set s.damaged (tti % 8) None)

unfoldable pub after_reset : State → State
after_reset s = fresh s.config
