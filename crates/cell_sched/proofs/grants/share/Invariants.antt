use Rattle.std.proofs.Common.{◌≡◌, ◌-◌, replicate}
use Rattle.cell_sched.proofs.Sharing.{given, giving, from_place}
use Rattle.cell_sched.proofs.grants.share.Given as goal

abbrev pub invariant-loop-place : goal.invariant-loop-place
invariant-loop-place l =
    given l.wishes (from_place l.users l.first l.place (l.users - l.place)) (giving l.grants l.left)
    ≡ given l.wishes (from_place l.users l.first 0 l.users) (giving (replicate 8 0) l.total)
