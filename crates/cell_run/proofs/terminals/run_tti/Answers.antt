use Rattle.std.proofs.Common.{◌∙◌, ◌<◌, arith, length}
use Rattle.std.proofs.lemmas.List.{length-set}
use Rattle.std.proofs.lemmas.Result.{err_from_is_err_and}
use Rattle.l2_io.proofs.Written.{risen_from}
use Rattle.cell_run.specs.Entries.{texts_of}
use Rattle.cell_run.specs.Terminals.{all_entries}
use Rattle.cell_run.proofs.Putting.{tti-put, tti-stops, behind-next}
use Rattle.cell_run.proofs.terminals.run_tti.Goals as goal

pub returns-in_err-tti-clause-put : goal.returns-in_err-tti-clause-put
returns-in_err-tti-clause-put g c =
    let p = err_from_is_err_and c.from_residual.result c.from_residual.ensures.1 in
    let inside : c.loop-at.at < length c.loop-at.terminals =
    omega (arith, c.loop-at-test.true, c.loop-at.invariant.size) in
    let all = texts_of (all_entries c.args.up_grants.now c.args.down_grants.now 0 c.args.terminals.now) in
    rw (p.1, p.2)
    (tti-stops all c.args.up_grants.now c.args.down_grants.now c.loop-at.terminals c.loop-at.at
    c.index-terminals-at.result _ _ _ _ _ c.in_err-tti.field-0.0 inside c.loop-at.invariant.put
    (risen_from _ _ _ c.loop-at.invariant.count) c.in_err-tti.ensures.put)

pub loop-at-preserved : goal.loop-at-preserved
loop-at-preserved g c =
    let inside : c.loop-at.at < length c.loop-at.terminals =
    omega (arith, c.loop-at-test.true, c.loop-at.invariant.size) in
    let all = texts_of (all_entries c.args.up_grants.now c.args.down_grants.now 0 c.args.terminals.now) in
    record {
      size = length-set c.loop-at.terminals c.loop-at.at c.tti.new.self ∙ c.loop-at.invariant.size;
      after = behind-next c.args.up_grants.now c.args.down_grants.now c.loop-at.terminals c.loop-at.at
          c.index-terminals-at.result c.tti.new.self inside c.in_ok-tti.ensures.after ∙ c.loop-at.invariant.after;
      put = tti-put all c.args.up_grants.now c.args.down_grants.now c.loop-at.terminals c.loop-at.at
          c.index-terminals-at.result c.tti.new.self _ _ _ inside c.loop-at.invariant.put c.in_ok-tti.ensures.put;
      count = omega (arith, c.loop-at.invariant.count, c.tti.ensures.count);
    }
