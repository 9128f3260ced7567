-- What a bearer needs of a grant and has, in octets (TS 36.322 4.5, TS 36.323 4.5).
use Rattle.std.specs.Prelude.{ℕ, ◌+◌, ◌-◌, ◌^◌, Bool, true, min, Option}
use Rattle.rlc_queue.specs.Waiting.{total}
use Rattle.rlc_um.specs.Sender.{need as um_need}
use Rattle.rlc_um.specs.Transparent.{need as transparent_need}
use Rattle.pdcp_tx.specs.State.{left as pdcp_left}
use Rattle.bearer.specs.Acknowledged.Sums.{need as am_need, backlog as am_backlog, left as am_left}
use Rattle.bearer.specs.Acknowledged.Sums.{is_drained as am_drained, pdcp_octets, pdcp_waiting}
use Rattle.bearer.specs.declared.flow.Flow.{Flow}
use Rattle.bearer.specs.declared.flow.Flow.TheVariants.{Tm, Um, Am}

unfoldable pub need : Flow → ℕ → Option ℕ → ℕ
need (Tm b) grant held = transparent_need b grant
need (Um b) grant held = um_need b.tx (pdcp_waiting b.pdcp) held
need (Am b) grant held = am_need b held

unfoldable pub backlog : Flow → ℕ
backlog (Tm b) = total b.waiting
backlog (Um b) = min (total b.tx.waiting.sdus + pdcp_octets b.pdcp) (2 ^ 64 - 1)
backlog (Am b) = am_backlog b

unfoldable pub left : Flow → ℕ
left (Tm b) = total b.waiting
left (Um b) = pdcp_left b.pdcp.tx
left (Am b) = am_left b

-- only an acknowledged sender has to be drained
unfoldable pub is_drained : Flow → Bool
is_drained (Tm b) = true
is_drained (Um b) = true
is_drained (Am b) = am_drained b
