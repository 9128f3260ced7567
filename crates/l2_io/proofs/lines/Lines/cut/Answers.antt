use Rattle.l2_io.proofs.Pieces.{range-front, range-back, length-part}
use Rattle.l2_io.specs.Cutting.{Cutter}
use Rattle.std.proofs.Common.{◌≡◌, ◌≤◌, ◌+◌, ◌-◌, ◌∙◌, sym, ap, arith, length}
use Rattle.l2_io.proofs.lines.Lines.cut.Goals as goal

pub returns : goal.returns
returns c =
    let i = c.self.inside in
    let xs = i.buffer.items in
    let size : length c.args.self.now.kept ≡ i.end - i.start =
    sym (ap (λ (v : Cutter). length v.kept) c.self.view_is)
    ∙ length-part xs i.start i.end c.self.invariant.kept_in in
    let all : i.start + c.args.all ≤ i.end = omega (arith, c.requires.all, size) in
    let line : i.start + c.args.line ≤ i.end = omega (arith, c.requires.line) in
    rw (← c.self.view_is)
    (cc (range-front xs i.start i.end c.args.line line, range-back xs i.start i.end c.args.all all))
