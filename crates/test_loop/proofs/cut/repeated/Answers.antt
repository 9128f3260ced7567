use Rattle.std.proofs.Common.{◌≡◌, ◌≤◌, ◌+◌, ◌++◌, length, take, arith, length-append}
use Rattle.std.proofs.lemmas.List.{length-take-le}
use Rattle.test_loop.proofs.RepeatLemmas.{repeats_more, repeats_row, repeated_all}
use Rattle.test_loop.proofs.cut.repeated.Goals as goal

pub loop-left-preserved : goal.loop-left-preserved
loop-left-preserved c =
    let more = c.in_ok-append.ensures.ok in
    let kept = c.loop-left.invariant in
    record {
      size = rw more (omega (arith, kept.size, length-append c.loop-left.octets c.args.sdu.now));
      rows = (kept.rows.0 + 1, rw more (omega (arith, kept.rows.1, length-append c.loop-left.octets c.args.sdu.now)));
      repeats = rw more (repeats_row c.args.sdu.now c.loop-left.octets kept.rows.0 kept.rows.1 kept.repeats);
    }

pub returns : goal.returns
returns c =
    let kept = c.loop-left.invariant in
    let few : c.loop-left.left ≤ length c.args.sdu.now = omega arith in
    let more : c.append-2.new.self ≡ c.loop-left.octets ++ take c.loop-left.left c.args.sdu.now =
    c.in_ok-append-2.ensures.ok in
    rw more (repeated_all c.args.sdu.now (c.loop-left.octets ++ take c.loop-left.left c.args.sdu.now) c.args.size
    (omega (
      arith,
      kept.size,
      length-append c.loop-left.octets (take c.loop-left.left c.args.sdu.now),
      length-take-le c.loop-left.left c.args.sdu.now few,
    ))
    (repeats_more c.args.sdu.now c.loop-left.octets kept.rows.0 c.loop-left.left kept.rows.1 few kept.repeats))
