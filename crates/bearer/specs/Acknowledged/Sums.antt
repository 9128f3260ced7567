-- What a bearer needs and has, in octets (TS 36.321 5.4.3.1, 5.4.5).
use Rattle.std.specs.Prelude.{ℕ, ◌+◌, ◌*◌, ◌-◌, ◌^◌, ◌==◌, Bool, not, ◌||◌, ◌&&◌, if◌then◌else◌}
use Rattle.std.specs.Prelude.{min, length, Option}
use Rattle.pdcp_tx.specs.State.{offers, sizes, left as pdcp_left}
use Rattle.rlc_am_rx.specs.Status.{may_write, whole_size}
use Rattle.rlc_am_tx.specs.Need.{data_need, backlog as rlc_backlog, left as rlc_left}
use Rattle.bearer_pdcp.specs.Ends.{Ends}
use Rattle.bearer.specs.Acknowledged.State.{State, has_more}

-- the octets of the PDUs that PDCP may hand over, and with 2 more for each
abbrev pub pdcp_octets : Ends → ℕ
pdcp_octets e = sizes e.tx.kind (offers e.tx)

abbrev pub pdcp_waiting : Ends → ℕ
pdcp_waiting e = pdcp_octets e + 2 * length (offers e.tx)

-- 3 octets for the subheader of a STATUS that is due, and those of the STATUS with all its entries
abbrev pub status_need : State → ℕ
status_need s = if may_write s.rx then 3 + whole_size s.rx else 0

unfoldable pub need : State → Option ℕ → ℕ
need s held =
    min (min (2 ^ 32 - 1) (data_need s.tx (pdcp_waiting s.pdcp) held) + status_need s)
    (2 ^ 32 - 1)

-- what a buffer status report counts
unfoldable pub backlog : State → ℕ
backlog s = min (min (rlc_backlog s.tx + pdcp_octets s.pdcp) (2 ^ 64 - 1) + whole_size s.rx)
    (2 ^ 64 - 1)

-- what isn't confirmed or delivered for certain
unfoldable pub left : State → ℕ
left s = min (pdcp_left s.pdcp.tx + rlc_left s.tx) (2 ^ 64 - 1)

-- nothing is left, or the sender has failed
unfoldable pub is_drained : State → Bool
is_drained s =
    s.tx.failed || ((pdcp_left s.pdcp.tx == 0) && (rlc_left s.tx == 0) && not (has_more s.pdcp))
