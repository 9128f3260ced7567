use Rattle.std.proofs.Common.{◌≡◌, ◌++◌, map, drop}
use Rattle.std.specs.Fmt.{decimal}
use Rattle.air_record.specs.Text.{comma_before}
use Rattle.air_record.proofs.word.append_more_lens.Given as goal

abbrev pub invariant-loop-at : goal.invariant-loop-at
invariant-loop-at l = l.text ++ comma_before (map decimal (drop l.at l.lens))
    ≡ l.fn.text ++ comma_before (map decimal (drop 1 l.lens))
