use Rattle.std.proofs.Common.{◌≡◌, ◌≤◌, ◌-◌, ◌+◌}
use Rattle.std.specs.Prelude.{is_some}
use Rattle.air_run.specs.Buffers.{after_records}
use Rattle.air_run.specs.Draining.{rounds}
use Rattle.air_run.specs.Putting.{pending, HasPut}
use Rattle.air_run.specs.Written.{told, all_seen}
use Rattle.air_run.proofs.draining.rounds.Given as goal

abbrev pub invariant-loop-done : goal.invariant-loop-done
invariant-loop-done g l = record {
  link : (rounds (l.most - l.done) l.grant l.link).link ≡ (rounds l.most l.grant l.initial.link).link;
  done : l.done + (rounds (l.most - l.done) l.grant l.link).done ≡ (rounds l.most l.grant l.initial.link).done;
  losses : all_seen (rounds (l.most - l.done) l.grant l.link).journal l.journal.losses
      ≡ all_seen (rounds l.most l.grant l.initial.link).journal l.initial.journal.losses;
  buffers : after_records (rounds (l.most - l.done) l.grant l.link).journal l.journal.buffers
      ≡ after_records (rounds l.most l.grant l.initial.link).journal l.initial.journal.buffers;
  wanted : is_some l.journal.text ≡ is_some l.initial.journal.text;
  put : HasPut (pending (told (rounds l.most l.grant l.initial.link).journal l.initial.journal))
      (pending (told (rounds (l.most - l.done) l.grant l.link).journal l.journal))
      (g.K.Sink.written l.initial.out) (g.K.Sink.written l.out);
  count : g.K.Sink.faults l.initial.out ≤ g.K.Sink.faults l.out;
}
