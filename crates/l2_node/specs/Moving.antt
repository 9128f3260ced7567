-- An end leaves a cell and joins another (TS 36.300 10.1.2, TS 36.331 5.3.5.4).
use Rattle.std.specs.Prelude.{Bool, false, List, [], ◌∷◌, ◌++◌}
use Rattle.bearer.specs.Bearer.{Of, of, Life, alive}
use Rattle.bearer.specs.declared.flow.StoppedFlow.{StoppedFlow}
use Rattle.bearer.specs.Lives.{stopped, stopping, restarted}
use Rattle.bearer_types.specs.declared.event.Event.{Event}
use Rattle.eps_sec.specs.declared.Keys.{Keys}
use Rattle.prioritise.specs.Shares.{Bucketed, no_channels}
use Rattle.l2_node.specs.End.{End, with_channel, reset}

-- an end between two cells: what it keeps, and its bearers with their channels in packages
pub record Moving : Type 0 where
  pub end : End
  pub packages : List (Of StoppedFlow)
  pub dead : Bool

abbrev pub all_stopped : List (Of Life) → List (Of StoppedFlow)
all_stopped [] = []
all_stopped (b ∷ bs) = of b.channel (stopped b.state.flow) ∷ all_stopped bs

abbrev pub all_stopping : List (Of Life) → List Event
all_stopping [] = []
all_stopping (b ∷ bs) = stopping b.state.flow ++ all_stopping bs

abbrev pub all_restarted : List (Of StoppedFlow) → Keys → List (Of Life)
all_restarted [] keys = []
all_restarted (p ∷ ps) keys = of p.channel (alive (restarted p.state keys)) ∷ all_restarted ps keys

-- each bearer is stopped, in turn, and MAC is reset and has no channel
unfoldable pub left_cell : End → Moving
left_cell e = record {
  end = reset (record e { bearers = []; buckets = no_channels });
  packages = all_stopped e.bearers;
  dead = false;
}

-- what that tells
unfoldable pub leaving : End → List Event
leaving e = all_stopping e.bearers

-- the channels of packages, each with an empty bucket
abbrev pub with_channels : List (Of StoppedFlow) → Bucketed → Bucketed
with_channels [] b = b
with_channels (p ∷ ps) b = with_channels ps (with_channel p.channel b)

-- each bearer is restarted under other keys, and its channel shares grants again
unfoldable pub joined : Moving → Keys → End
joined m keys = record m.end {
  bearers = all_restarted m.packages keys;
  buckets = with_channels m.packages m.end.buckets;
}
