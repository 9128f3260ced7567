-- What an end has left to send (TS 36.322 4.5, TS 36.323 4.5).
use Rattle.std.specs.Prelude.{ℕ, ◌+◌, ◌-◌, ◌^◌, min, Bool, List, [], ◌∷◌}
use Rattle.std.specs.List.{list_all}
use Rattle.bearer.specs.Bearer.{Of, Life}
use Rattle.bearer.specs.Sums.{left as flow_left, is_drained as flow_drained}
use Rattle.l2_node.specs.End.{End}

-- each acknowledged sender has failed or has nothing left
unfoldable pub is_drained : End → Bool
is_drained e = list_all (λ b. flow_drained b.state.flow) e.bearers

-- added up, up to what 64 bits hold
abbrev pub all_left : List (Of Life) → ℕ → ℕ
all_left [] sum = sum
all_left (b ∷ bs) sum = all_left bs (min (sum + flow_left b.state.flow) (2 ^ 64 - 1))

-- the octets that a drain has still to bring over
unfoldable pub left : End → ℕ
left e = all_left e.bearers 0
