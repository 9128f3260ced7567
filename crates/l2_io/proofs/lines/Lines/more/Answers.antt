use Rattle.l2_io.proofs.Pieces.{range-more, length-range, length-part}
use Rattle.l2_io.specs.Cutting.{Cutter}
use Rattle.l2_io.specs.declared.lines.Stand.{Stand}
use Rattle.std.proofs.lemmas.List.{with_items_is}
use Rattle.std.specs.Vec.{with_items}
use Rattle.std.specs.Prelude.{slice_range}
use Rattle.std.proofs.Common.{◌≡◌, ◌≤◌, ◌+◌, ◌-◌, ◌∙◌, ℕ, List, [], sym, ap, take, arith, length}
use Rattle.l2_io.proofs.lines.Lines.more.Goals as goal

abbrev cutter : ℕ → Stand → List ℕ → Cutter
cutter longest stand kept = record { line = []; kept = kept; longest = longest; stand = stand }

pub returns-clause-given : goal.returns-clause-given
returns-clause-given g c =
    let i = c.self.inside in
    let xs = i.buffer.items in
    let n = c.in_ok-count.count in
    let size : length c.args.self.now.kept ≡ i.end - i.start =
    sym (ap (λ (v : Cutter). length v.kept) c.self.view_is)
    ∙ length-part xs i.start i.end c.self.invariant.kept_in in
    let short : i.end - i.start ≤ i.longest = rw (← size, ap (λ (v : Cutter). v.longest) c.self.view_is) c.requires in
    let front : take (i.end - i.start) c.fill.new.buffer ≡ take (i.end - i.start) c.copy_within.new.self.items =
    c.fill.ensures.front ∙ ap (take (i.end - i.start)) c.deref_mut.ensures.value in
    let more = range-more xs c.fill.new.buffer i.start i.end n c.self.invariant.kept c.self.invariant.kept_in
    (front ∙ ap (take (i.end - i.start)) c.copy_within.ensures.items) in
    let inside : i.end - i.start + n ≤ length c.fill.new.buffer =
    omega (
      arith,
      c.in_ok-count.ensures.room,
      c.fill.auto.buffer,
      c.copy_within.ensures.len,
      c.deref_mut.ensures.len,
      c.self.invariant.size,
    ) in
    let len : length c.fill.new.buffer ≡ c.copy_within.new.self.len =
    omega (arith, c.fill.auto.buffer, c.deref_mut.ensures.len, c.copy_within.new.self.ok.0) in
    let same : (with_items c.copy_within.new.self c.fill.new.buffer).items ≡ c.fill.new.buffer =
    with_items_is c.copy_within.new.self c.fill.new.buffer len in
    let kept = ap (λ (xs : List ℕ). slice_range xs 0 (i.end - i.start + n)) same ∙ more in (
      _,
      length-range c.fill.new.buffer (i.end - i.start) n inside,
      c.in_ok-count.ensures.given,
      rw (← c.self.view_is) (ap (cutter i.longest i.stand) kept),
    )
