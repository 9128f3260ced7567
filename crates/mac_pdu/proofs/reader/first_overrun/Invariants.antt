use Rattle.std.proofs.Common.{◌≡◌, ◌+◌, length}
use Rattle.mac_pdu.specs.Refusals.{subheaders, overrun}
use Rattle.mac_pdu.proofs.reader.first_overrun.Given as goal

abbrev pub invariant-loop-one : goal.invariant-loop-one
invariant-loop-one l = (l.at + length l.headers ≡ length l.fn.headers)
    × (overrun l.at (subheaders l.direction 0 l.headers) l.payloads
    ≡ overrun 0 (subheaders l.direction 0 l.fn.headers) l.fn.payloads)

abbrev pub decreases-loop-one : goal.decreases-loop-one
decreases-loop-one l = length l.headers
