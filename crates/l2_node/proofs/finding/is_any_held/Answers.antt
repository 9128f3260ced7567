use Rattle.std.proofs.Common.{rules, ◌≡◌, ℕ, List, None, take_all, subst}
use Rattle.std.specs.List.{All}
use Rattle.harq.specs.Sending.{held_of}
use Rattle.l2_node.proofs.Free.{frees_more}
use Rattle.l2_node.proofs.finding.is_any_held.Goals as goal

pub loop-process-preserved : goal.loop-process-preserved
loop-process-preserved c =
    frees_more c.args.sender.now c.args.processes.now c.loop-process.process-index 0 c.loop-process-test.true
    c.loop-process.invariant (search rules)

pub returns : goal.returns
returns c = λ _. subst (λ (ps : List ℕ). All (λ p. held_of c.args.sender.now p ≡ None) ps)
    (take_all c.loop-process.process-index c.args.processes.now c.loop-process-test.false) c.loop-process.invariant
