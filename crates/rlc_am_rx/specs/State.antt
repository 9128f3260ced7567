-- What an acknowledged receiver is, seen from outside (TS 36.322 7.1).
use Rattle.std.specs.Prelude.{ℕ, Bool, Option, false, None, option_map}
use Rattle.l2_num.specs.Timers.{Clock, stopped}
use Rattle.l2_types.specs.declared.AmRxConfig.{AmRxConfig}
use Rattle.rlc_am_rx_window.specs.Joined.{Joined, empty}
use Rattle.rlc_am_rx_window.specs.Window.{RxWindow, no_numbers}

-- bound is VR(MS); mark is VR(X), where the reordering timer runs; due says that a STATUS is due,
-- whether or not it may be sent yet
pub record State : Type 0 where
  pub window : RxWindow
  pub out : Joined
  pub bound : ℕ
  pub mark : Option ℕ
  pub reorder : Clock
  pub prohibit : Option Clock
  pub due : Bool

abbrev pub fresh : AmRxConfig → State
fresh c = record {
  window = no_numbers;
  out = empty;
  bound = 0;
  mark = None;
  reorder = stopped c.reorder;
  prohibit = option_map stopped c.prohibit;
  due = false;
}
