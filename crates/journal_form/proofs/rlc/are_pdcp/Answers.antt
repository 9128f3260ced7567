use Rattle.std.proofs.Common.{◌∙◌, sym}
use Rattle.rlc_pdu.specs.Views.{elements_of}
use Rattle.promises.specs.Names.{whole_sdus}
use Rattle.journal_form.specs.Tests.{are_pdcp}
use Rattle.journal_form.proofs.Lists.{window_step}
use Rattle.journal_form.proofs.rlc.are_pdcp.Goals as goal

pub loop-element-preserved : goal.loop-element-preserved
loop-element-preserved c =
    rw c.saturating_sub-before.ensures
    (window_step c.args.kind c.loop-element.before c.loop-element.end c.in-Some.element.now
    (elements_of c.loop-element.elements) (elements_of c.next.new.self)
    (are_pdcp c.args.kind (whole_sdus c.args.fi (elements_of c.args.elements))) c.if-end-eq0.false
    (sym c.in_ok-may_stand.ensures ∙ c.if-not-branch.false) c.in-Some.ensures.element c.loop-element.invariant)
