use Rattle.std.proofs.Common.{◌∙◌}
use Rattle.pdu_show.specs.Show.{pdcp_shown}
use Rattle.pdu_show.proofs.Wholes.{shown-step, none-left}
use Rattle.pdu_show.proofs.rlc.show_wholes.Goals as goal

pub loop-next-preserved : goal.loop-next-preserved
loop-next-preserved c = record {
  shown = shown-step (pdcp_shown c.args.kind) c.loop-next.first _ c.in-Some.element.now c.take-next-in-Some.result _
      c.loop-next.records c.show_one.new.records
      (rw c.is_whole.ensures at c.in_ok-show_one.ensures)
      ∙ (rw (c.in-Some.is, c.take-next-in-Some.ensures.rest) at c.loop-next.invariant.shown);
  short = c.take-next-in-Some.ensures.short;
}

pub returns : goal.returns
returns c = none-left (pdcp_shown c.args.kind) c.loop-next.first _ c.loop-next.records _
    (rw c.in_default.is at c.loop-next.invariant.shown)
