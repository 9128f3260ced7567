use Rattle.std.proofs.Common.{◌≡◌, ◌∙◌, arith, rules}
use Rattle.line_player.proofs.Turning.{came-next}
use Rattle.line_player.specs.Streams.{input}
use Rattle.check_command.proofs.Turning.{goes-on, goes-last, stops, too-long, too-many, faulty}
use Rattle.check_command.proofs.judging.turn.Goals as goal
use Rattle.check_command.proofs.judging.turn.Goals.{else-number-gt-MOST_RECORDS-via-else-number-gt-MOST_RECORDS}

pub returns-in-Ok-clause-turn : goal.returns-in-Ok-clause-turn
returns-in-Ok-clause-turn g c = λ first h.
    let new = c.advance.new.self in
    let next = came-next c.args.lines.now _ _ _ _ new c.requires.open c.in-Line.ensures.next in
    let longest : new.longest ≡ 32768 = c.in-Line.ensures.longest ∙ c.requires.longest in
    let takes = rw c.line.ensures at (c.in-Ok.ensures.next h.records h.fed) in
    goes-on first (input g.S.Source c.args.source.now) (input g.S.Source c.advance.new.source) c.args.lines.now new _
    _ _ _ h next longest c.in-Line.ensures.count (search rules) takes

pub returns-in-Ok-2-clause-turn : goal.returns-in-Ok-2-clause-turn
returns-in-Ok-2-clause-turn g c = λ first h.
    let new = c.advance.new.self in
    let next = came-next c.args.lines.now _ _ _ _ new c.requires.open c.in-Line.ensures.next in
    let takes = rw c.line.ensures at (c.in-Ok-2.ensures.next h.records h.fed) in
    goes-last first (input g.S.Source c.args.source.now) (input g.S.Source c.advance.new.source) c.args.lines.now new _
    _ _ _ h next (search rules) takes

pub returns-in-Err-clause-turn : goal.returns-in-Err-clause-turn
returns-in-Err-clause-turn g c = λ first h.
    let new = c.advance.new.self in
    let next = came-next c.args.lines.now _ _ _ _ new c.requires.open c.in-Line.ensures.next in
    let longest : new.longest ≡ 32768 = c.in-Line.ensures.longest ∙ c.requires.longest in
    rw c.verdict_by.ensures
    (stops first (input g.S.Source c.args.source.now) (input g.S.Source c.advance.new.source) c.args.lines.now new
    c.args.checker.now c.feed.new.self c.args.number _ c.in-Err.fault c.line.result.now h next longest c.line.ensures
    (c.in-Err.ensures.next h.records h.fed))

pub returns-in-Long-clause-turn : goal.returns-in-Long-clause-turn
returns-in-Long-clause-turn g c = λ first h.
    let new = c.advance.new.self in
    let next = came-next c.args.lines.now _ _ _ _ new c.requires.open c.in-Long.ensures.next in
    let longest : new.longest ≡ 32768 = c.in-Long.ensures.longest ∙ c.requires.longest in
    rw c.refuse_long.ensures
    (too-long first (input g.S.Source c.args.source.now) (input g.S.Source c.advance.new.source) c.args.lines.now new _
    _ _ h next longest)

pub returns-then-kept-gt0-clause-turn : goal.returns-then-kept-gt0-clause-turn
returns-then-kept-gt0-clause-turn g c = λ first h.
    let new = c.advance.new.self in
    let next = came-next c.args.lines.now _ _ _ _ new c.requires.open c.in-ReadFault.ensures.next in
    rw c.refuse_long-then-kept-gt0.ensures
    (too-many first (input g.S.Source c.args.source.now) (input g.S.Source c.advance.new.source) c.args.lines.now new _
    _ _ h next (omega arith) (omega (arith, c.kept.ensures.count)))

pub returns-else-number-gt-MOST_RECORDS-clause-turn : goal.returns-else-number-gt-MOST_RECORDS-clause-turn
returns-else-number-gt-MOST_RECORDS-clause-turn g c = λ first h.
    let new = c.advance.new.self in
    let next = came-next c.args.lines.now _ _ _ _ new c.requires.open c.in-ReadFault.ensures.next in
    let longest : new.longest ≡ 32768 = c.in-ReadFault.ensures.longest ∙ c.requires.longest in
    faulty first (input g.S.Source c.args.source.now) (input g.S.Source c.advance.new.source) c.args.lines.now new _ _ h
    next longest
    (λ some. elim c.else-number-gt-MOST_RECORDS.branch [
      | goal.else-number-gt-MOST_RECORDS-via-then-number-gt-MOST_RECORDS+else-kept-gt0 w ↦ omega (
        arith,
        w.kept.ensures.count,
      )
      | else-number-gt-MOST_RECORDS-via-else-number-gt-MOST_RECORDS w ↦ omega arith
    ])
