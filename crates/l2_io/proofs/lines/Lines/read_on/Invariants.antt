use Rattle.std.proofs.Common.{◌≡◌, ◌≤◌, ◌+◌, ◌-◌, length}
use Rattle.l2_io.specs.Cutting.{NeedsRead}
use Rattle.l2_io.proofs.Reading.{HasGiven}
use Rattle.l2_io.proofs.lines.Lines.read_on.Given as goal

-- what the source gave stands behind what was kept, and isn't enough to tell the next line
abbrev pub invariant-loop-self : goal.invariant-loop-self
invariant-loop-self g l = record {
  octets : HasGiven (g.S.Source.left l.initial.source) (g.S.Source.left l.source) l.initial.self.kept l.self.kept;
  longest : l.self.longest ≡ l.initial.self.longest;
  needs : NeedsRead l.self;
  count : g.S.Source.faults l.initial.source ≤ g.S.Source.faults l.source;
}

abbrev pub decreases-loop-self : goal.decreases-loop-self
decreases-loop-self g l = l.self.longest + 1 - length l.self.kept
