use Rattle.std.proofs.Common.{ap, sym, subst, ◌∙◌, ◌-◌, ◌+◌, arith}
use Rattle.std.proofs.lemmas.Result.{err_from_is_err_and}
use Rattle.l2_io.proofs.Written.{risen_from}
use Rattle.air_link.specs.Link.{Link}
use Rattle.air_run.specs.Buffers.{after_records}
use Rattle.air_run.specs.Draining.{Drained, shown, round, rounds}
use Rattle.air_run.specs.Putting.{pending, HasPut}
use Rattle.air_run.specs.Written.{told, all_seen}
use Rattle.air_run.proofs.Putting.{put_further, losses_further, buffers_further, part_stops}
use Rattle.air_run.proofs.Rounds.{rounds_next}
use Rattle.air_run.proofs.draining.rounds.Goals as goal

pub returns-in_err-round-clause-put : goal.returns-in_err-round-clause-put
returns-in_err-round-clause-put g c =
    let p = err_from_is_err_and c.from_residual.result c.from_residual.ensures.1 in
    let l = c.loop-done.link in
    let all = (rounds c.args.most c.args.grant c.args.link.now).journal in
    let more = (rounds (c.args.most - (c.loop-done.done + 1)) c.args.grant (shown (round c.args.grant l))).journal in
    let next = rounds_next c.args.most c.loop-done.done c.args.grant l (omega arith)
    (sym c.is_drained.ensures ∙ c.if-is_drained.false) in
    rw (p.1, p.2)
    (part_stops all _ (round c.args.grant l).out more c.args.journal.now c.loop-done.journal _ _ _ _ _
    c.in_err-round.field-0.0 (ap (λ (d : Drained). d.journal) next) c.loop-done.invariant.put
    (risen_from _ _ _ c.loop-done.invariant.count) c.in_err-round.ensures.put)

pub loop-done-preserved : goal.loop-done-preserved
loop-done-preserved g c =
    let t = c.in_ok-round.ensures.put in
    let l = c.loop-done.link in
    let n = c.args.most - (c.loop-done.done + 1) in
    let all = (rounds c.args.most c.args.grant c.args.link.now).journal in
    let es = (round c.args.grant l).out in
    let more = (rounds n c.args.grant (shown (round c.args.grant l))).journal in
    let next = rounds_next c.args.most c.loop-done.done c.args.grant l (omega arith)
    (sym c.is_drained.ensures ∙ c.if-is_drained.false) in
    let here = c.in_ok-round.ensures.link in
    record {
      link = ap (λ (m : Link). (rounds n c.args.grant m).link) here
          ∙ sym (ap (λ (d : Drained). d.link) next) ∙ c.loop-done.invariant.link;
      done =
          let here_done = ap (λ (m : Link). (rounds n c.args.grant m).done) here in
          let then = ap (λ (d : Drained). d.done) next in
          omega (arith, here_done, then, c.loop-done.invariant.done);
      losses = ap (λ (m : Link). all_seen (rounds n c.args.grant m).journal c.round.new.journal.losses) here
          ∙ losses_further es more c.loop-done.journal c.round.new.journal _ _ t
          ∙ sym (ap (λ (d : Drained). all_seen d.journal c.loop-done.journal.losses) next)
          ∙ c.loop-done.invariant.losses;
      buffers = ap (λ (m : Link). after_records (rounds n c.args.grant m).journal c.round.new.journal.buffers) here
          ∙ buffers_further es more c.loop-done.journal c.round.new.journal _ _ t
          ∙ sym (ap (λ (d : Drained). after_records d.journal c.loop-done.journal.buffers) next)
          ∙ c.loop-done.invariant.buffers;
      wanted = t.wanted ∙ c.loop-done.invariant.wanted;
      put = subst (λ (m : Link). HasPut (pending (told all c.args.journal.now))
          (pending (told (rounds n c.args.grant m).journal c.round.new.journal)) (g.K.Sink.written c.args.out.now)
          (g.K.Sink.written c.round.new.out)) (sym here)
          (put_further (pending (told all c.args.journal.now)) _ es more c.loop-done.journal c.round.new.journal
          _ _ _ (ap (λ (d : Drained). d.journal) next) c.loop-done.invariant.put t);
      count = omega (arith, c.loop-done.invariant.count, c.round.ensures.count);
    }
