use Rattle.std.proofs.Common.{sym}
use Rattle.std.proofs.lemmas.Result.{err_from_is_err_and}
use Rattle.mac_pdu.proofs.Steps.{reading_fault, reading_past, reading_ok}
use Rattle.mac_pdu.proofs.reader.MacReader.read.Goals as goal

pub returns-in_err-header : goal.returns-in_err-header
returns-in_err-header c =
    let p = err_from_is_err_and c.from_residual.result c.from_residual.ensures.1 in
    rw (p.1, p.2)
    (sym (reading_fault c.args.direction c.args.block.now c.in_err-header.field-0.0
    c.in_err-header.ensures.fault))

pub returns-in-Some : goal.returns-in-Some
returns-in-Some c =
    let f = c.in_ok-header.ensures.fault in
    sym (reading_past c.args.direction c.args.block.now c.in-Some.at c.in_ok-header.header f.0 f.1
    (rw c.split_at.ensures.back at (sym c.in-Some.ensures.at)))

pub returns : goal.returns
returns c =
    let f = c.in_ok-header.ensures.fault in
    let ok = reading_ok c.args.direction c.args.block.now c.in_ok-header.header f.0 f.1
    (rw c.split_at.ensures.back at (sym c.in_default.ensures.at)) in
    rw c.split_at.ensures.back (sym ok)
