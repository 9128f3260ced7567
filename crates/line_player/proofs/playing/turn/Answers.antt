use Rattle.std.proofs.Common.{◌≡◌, ◌<◌, ◌≤◌, ◌∙◌, arith, rules, refl}
use Rattle.line_player.proofs.Turning.{came-next, many-at-line, many-at-long, many-at-fault, too-long, faulty}
use Rattle.line_player.proofs.Turning.{nothing-left, line-over, line-refused, line-part, line-fault, line-goes}
use Rattle.line_player.proofs.Turning.{line-last}
use Rattle.line_player.proofs.playing.turn.Goals as goal
use Rattle.line_player.proofs.playing.turn.Goals.{else-number-gt-MOST_LINES-3-via-else-number-gt-MOST_LINES-3}

pub returns-then-number-gt-MOST_LINES-clause-turn : goal.returns-then-number-gt-MOST_LINES-clause-turn
returns-then-number-gt-MOST_LINES-clause-turn g c =
    let m = g.P.Player.machine in
    let s = g.P.Player.state c.args.player.now in
    let new = c.advance.new.self in
    let next = came-next c.args.lines.now _ _ _ _ new c.requires.open c.in-Line.ensures.next in
    let many : 1000000 < c.args.number = omega arith in
    many-at-line m s c.args.number c.args.lines.now new _ _ _ _ _ next many

pub returns-then-number-gt-MOST_LINES-2-clause-turn : goal.returns-then-number-gt-MOST_LINES-2-clause-turn
returns-then-number-gt-MOST_LINES-2-clause-turn g c =
    let m = g.P.Player.machine in
    let s = g.P.Player.state c.args.player.now in
    let new = c.advance.new.self in
    let next = came-next c.args.lines.now _ _ _ _ new c.requires.open c.in-Long.ensures.next in
    let longest : new.longest ≡ 20000 = c.in-Long.ensures.longest ∙ c.requires.longest in
    let many : 1000000 < c.args.number = omega arith in
    many-at-long m s c.args.number c.args.lines.now new _ _ _ _ _ next longest many

pub returns-then-kept-gt0-clause-turn : goal.returns-then-kept-gt0-clause-turn
returns-then-kept-gt0-clause-turn g c =
    let m = g.P.Player.machine in
    let s = g.P.Player.state c.args.player.now in
    let new = c.advance.new.self in
    let next = came-next c.args.lines.now _ _ _ _ new c.requires.open c.in-ReadFault.ensures.next in
    many-at-fault m s c.args.number c.args.lines.now new _ _ _ _ _ next (omega arith)
    (omega (arith, c.kept.ensures.count))

pub returns-then-eq-clause-turn : goal.returns-then-eq-clause-turn
returns-then-eq-clause-turn g c =
    let m = g.P.Player.machine in
    let s = g.P.Player.state c.args.player.now in
    let new = c.advance.new.self in
    let next = came-next c.args.lines.now _ _ _ _ new c.requires.open c.in-Line.ensures.next in
    let longest : new.longest ≡ 20000 = c.in-Line.ensures.longest ∙ c.requires.longest in
    let few : c.args.number ≤ 1000000 = omega arith in
    line-goes m s c.args.number c.args.lines.now new _ _ _ _ _ _ next few longest (search rules)
    (rw c.line.ensures at c.in-Next.ensures.line)

pub returns-else-eq-clause-turn : goal.returns-else-eq-clause-turn
returns-else-eq-clause-turn g c =
    let m = g.P.Player.machine in
    let s = g.P.Player.state c.args.player.now in
    let new = c.advance.new.self in
    let next = came-next c.args.lines.now _ _ _ _ new c.requires.open c.in-Line.ensures.next in
    let longest : new.longest ≡ 20000 = c.in-Line.ensures.longest ∙ c.requires.longest in
    let few : c.args.number ≤ 1000000 = omega arith in
    line-last m s c.args.number c.args.lines.now new _ _ _ _ _ _ next few longest (search rules)
    (rw c.line.ensures at c.in-Next.ensures.line)

pub returns-in-Ended-clause-turn : goal.returns-in-Ended-clause-turn
returns-in-Ended-clause-turn g c =
    let m = g.P.Player.machine in
    let s = g.P.Player.state c.args.player.now in
    let new = c.advance.new.self in
    let next = came-next c.args.lines.now _ _ _ _ new c.requires.open c.in-Line.ensures.next in
    let longest : new.longest ≡ 20000 = c.in-Line.ensures.longest ∙ c.requires.longest in
    let few : c.args.number ≤ 1000000 = omega arith in
    line-over m s c.args.number c.args.lines.now new _ _ _ _ _ _ next few longest
    (rw c.line.ensures at c.in-Ended.ensures.line)

pub returns-in-Refused-clause-turn : goal.returns-in-Refused-clause-turn
returns-in-Refused-clause-turn g c =
    let m = g.P.Player.machine in
    let s = g.P.Player.state c.args.player.now in
    let new = c.advance.new.self in
    let next = came-next c.args.lines.now _ _ _ _ new c.requires.open c.in-Line.ensures.next in
    let longest : new.longest ≡ 20000 = c.in-Line.ensures.longest ∙ c.requires.longest in
    let few : c.args.number ≤ 1000000 = omega arith in
    let has = rw c.line.ensures at c.in-Refused.ensures.line in
    line-refused m s c.args.number c.args.lines.now new _ _ _ _ _ _ _ next few longest has.0
    has.1

pub returns-in-WriteFault-clause-turn : goal.returns-in-WriteFault-clause-turn
returns-in-WriteFault-clause-turn g c =
    let m = g.P.Player.machine in
    let s = g.P.Player.state c.args.player.now in
    let new = c.advance.new.self in
    let next = came-next c.args.lines.now _ _ _ _ new c.requires.open c.in-Line.ensures.next in
    let longest : new.longest ≡ 20000 = c.in-Line.ensures.longest ∙ c.requires.longest in
    let few : c.args.number ≤ 1000000 = omega arith in
    let has = rw c.line.ensures at c.in-WriteFault.ensures.line in
    line-fault m s c.args.number c.args.lines.now new _ _ _ _ _ _ next few longest has.1 has.0

pub returns-in-NoMemory-clause-turn : goal.returns-in-NoMemory-clause-turn
returns-in-NoMemory-clause-turn g c =
    let m = g.P.Player.machine in
    let s = g.P.Player.state c.args.player.now in
    let new = c.advance.new.self in
    let next = came-next c.args.lines.now _ _ _ _ new c.requires.open c.in-Line.ensures.next in
    let longest : new.longest ≡ 20000 = c.in-Line.ensures.longest ∙ c.requires.longest in
    let few : c.args.number ≤ 1000000 = omega arith in
    line-part m s c.args.number c.args.lines.now new _ _ _ _ _ _ next few longest
    (rw c.line.ensures at c.in-NoMemory.ensures.line)

pub returns-else-number-gt-MOST_LINES-2-clause-turn : goal.returns-else-number-gt-MOST_LINES-2-clause-turn
returns-else-number-gt-MOST_LINES-2-clause-turn g c =
    let m = g.P.Player.machine in
    let s = g.P.Player.state c.args.player.now in
    let new = c.advance.new.self in
    let next = came-next c.args.lines.now _ _ _ _ new c.requires.open c.in-Long.ensures.next in
    let longest : new.longest ≡ 20000 = c.in-Long.ensures.longest ∙ c.requires.longest in
    let few : c.args.number ≤ 1000000 = omega arith in
    too-long m s c.args.number c.args.lines.now new _ _ _ _ _ next longest few

pub returns-in-End-clause-turn : goal.returns-in-End-clause-turn
returns-in-End-clause-turn g c =
    let m = g.P.Player.machine in
    let s = g.P.Player.state c.args.player.now in
    let new = c.advance.new.self in
    let next = came-next c.args.lines.now _ _ _ _ new c.requires.open c.in-End.ensures.next in
    nothing-left m s c.args.number c.args.lines.now new _ _ _ _ _ next refl

pub returns-else-number-gt-MOST_LINES-3-clause-turn : goal.returns-else-number-gt-MOST_LINES-3-clause-turn
returns-else-number-gt-MOST_LINES-3-clause-turn g c =
    let m = g.P.Player.machine in
    let s = g.P.Player.state c.args.player.now in
    let new = c.advance.new.self in
    let next = came-next c.args.lines.now _ _ _ _ new c.requires.open c.in-ReadFault.ensures.next in
    let longest : new.longest ≡ 20000 = c.in-ReadFault.ensures.longest ∙ c.requires.longest in
    faulty m s c.args.number c.args.lines.now new _ _ _ _ _ next longest
    (λ some. elim c.else-number-gt-MOST_LINES-3.branch [
      | goal.else-number-gt-MOST_LINES-3-via-then-number-gt-MOST_LINES-3+else-kept-gt0 w ↦ omega (
        arith,
        w.kept.ensures.count,
      )
      | else-number-gt-MOST_LINES-3-via-else-number-gt-MOST_LINES-3 w ↦ omega arith
    ])
