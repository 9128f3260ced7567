use Rattle.std.proofs.Common.{ap, sym, ◌∙◌}
use Rattle.journal_lives.specs.CountsCome.{CountsCome}
use Rattle.journal_lives.proofs.CountSets.{joined_stays}
use Rattle.journal_lives.proofs.counts.join.Goals as goal

pub returns-then-from-next-clause-next : goal.returns-then-from-next-clause-next
returns-then-from-next-clause-next c =
    let stays = joined_stays c.loop-count.next c.in-Some.count.now c.loop-count.beyond.keys c.in-Some.ensures.first
    (λ e. c.if-from-next.true (c.from.ensures ∙ e)) in
    ap (λ (s : CountsCome). s.next) (sym stays ∙ c.loop-count.invariant.rest)
