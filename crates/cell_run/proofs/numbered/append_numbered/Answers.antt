use Rattle.std.proofs.Common.{◌∙◌, ap, append-nil, sym, List, ℕ, ◌++◌}
use Rattle.cell_run.proofs.Numbering.{numbered-next, numbered-none}
use Rattle.cell_run.proofs.numbered.append_numbered.Goals as goal

pub loop-at-preserved : goal.loop-at-preserved
loop-at-preserved c =
    numbered-next c.args.user c.loop-at.out c.push.new.self c.push-in-Some.new.self c.append.new.self
    c.loop-at.rest.now c.split_at.result.0.now c.split_at.result.1.now c.in-Some.at c.in-Some.ensures.feed
    c.in_ok-push.ensures.ok c.in_ok-push-2.ensures.ok c.in_ok-append.ensures.ok c.split_at.ensures.front
    c.split_at.ensures.back
    ∙ c.loop-at.invariant

pub returns : goal.returns
returns c =
    sym (append-nil c.loop-at.out)
    ∙ ap (λ (t : List ℕ). c.loop-at.out ++ t)
    (sym (numbered-none c.args.user c.loop-at.rest.now c.in_default.ensures.feed))
    ∙ c.loop-at.invariant
