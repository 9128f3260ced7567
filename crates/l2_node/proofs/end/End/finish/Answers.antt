use Rattle.std.proofs.Common.{◌≤◌, ◌+◌, ◌-◌, length, subst, sym, ◌∙◌, arith}
use Rattle.mac_pdu.specs.Writing.{Parts, items_of, writing, report_size}
use Rattle.l2_node.proofs.Rooms.{sdus_fit, report_fits}
use Rattle.l2_node.proofs.end.End.finish.Goals.{in-Some+in_ok-control, in_default}
use Rattle.l2_node.proofs.end.End.finish.Goals as goal

pub build-requires-clause-room : goal.build-requires-clause-room
build-requires-clause-room c = elim c.match-report.branch [
  | in-Some+in_ok-control w ↦
      let fits : 1 + report_size w.in-Some.report ≤ c.args.grant - length (writing (items_of c.args.builder)) =
      omega (arith, w.in-Some.ensures.fits, c.saturating_sub-padding.ensures, c.least.ensures.least) in
      subst (λ (p : Parts). length (writing (items_of p)) ≤ c.args.grant)
      (sym (w.builder-is ∙ w.in_ok-control.ensures.ok))
      (report_fits c.args.builder w.in-Some.report c.args.grant c.requires.plain c.requires.room fits)
  | in_default w ↦ subst (λ (p : Parts). length (writing (items_of p)) ≤ c.args.grant) (sym w.builder-is)
      (sdus_fit c.args.builder c.args.grant c.requires.plain c.requires.room)
]
