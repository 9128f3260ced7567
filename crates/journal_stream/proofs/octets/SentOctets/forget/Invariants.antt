use Rattle.std.proofs.Common.{◌≡◌}
use Rattle.journal_stream.specs.SentOctets.{forgotten}
use Rattle.journal_stream.proofs.octets.SentOctets.forget.Given as goal

abbrev pub invariant-loop-left : goal.invariant-loop-left
invariant-loop-left l =
    forgotten l.left (record {
      unwritten = l.self-inside.unwritten;
      base = l.self-inside.base;
      fields = l.self-inside.fields.items;
    })
    ≡ forgotten l.many (record {
      unwritten = l.initial.self-inside.unwritten;
      base = l.initial.self-inside.base;
      fields = l.initial.self-inside.fields.items;
    })

abbrev pub decreases-loop-left : goal.decreases-loop-left
decreases-loop-left l = l.left
