use Rattle.std.proofs.Common.{◌≡◌, ◌++◌, drop}
use Rattle.air_record.specs.Text.{texts_of}
use Rattle.air_run.specs.Sums.{all_sums}
use Rattle.air_run.proofs.sums.append_all.Given as goal

abbrev pub invariant-loop-lcid : goal.invariant-loop-lcid
invariant-loop-lcid l = l.text ++ texts_of (all_sums l.link l.journal.losses (drop l.lcid-index l.lcids))
    ≡ l.initial.text ++ texts_of (all_sums l.link l.journal.losses l.lcids)
