use Rattle.std.proofs.Common.{◌≡◌, ◌++◌, map, drop}
use Rattle.air_record.specs.Text.{comma_before, nack_text}
use Rattle.air_record.proofs.word.append_more_nacks.Given as goal

abbrev pub invariant-loop-at : goal.invariant-loop-at
invariant-loop-at l = l.text ++ comma_before (map nack_text (drop l.at l.nacks))
    ≡ l.fn.text ++ comma_before (map nack_text (drop 1 l.nacks))
