use Rattle.std.proofs.Common.{◌≡◌, [], ◌∷◌, ◌++◌, refl, ap, sym, subst, ◌∙◌, List}
use Rattle.std.proofs.lemmas.Result.{err_from_is_err_and}
use Rattle.l2_io.specs.Known.{HasRisen}
use Rattle.l2_io.proofs.Written.{risen_from}
use Rattle.air_link.specs.Draining.{is_drained}
use Rattle.air_record.specs.declared.record.Record.TheVariants as records
use Rattle.air_record.specs.declared.record.Record.{Record}
use Rattle.air_run.specs.declared.refusal.StepFault.TheVariants as faults
use Rattle.air_run.specs.Draining.{Drained, ttis, rounds, budget}
use Rattle.air_run.specs.Putting.{HasTold, Stops}
use Rattle.air_run.specs.Written.{Journal, told}
use Rattle.air_run.proofs.Putting.{told_on, told_twice, stops_behind, stops_before, stops_told}
use Rattle.air_run.proofs.Rounds.{drained_is}
use Rattle.air_run.proofs.draining.drain.Goals as goal

pub returns-in_err-for_ttis-clause-put : goal.returns-in_err-for_ttis-clause-put
returns-in_err-for_ttis-clause-put g c =
    let p = err_from_is_err_and c.from_residual.result c.from_residual.ensures.1 in
    let l = c.args.link.now in
    let t = ttis 8 c.args.grant l in
    let r = rounds (budget l) c.args.grant t.link in
    let end = records.Drained r.done ∷ [] in
    let s = stops_before (t.journal ++ r.journal) end c.args.journal.now _ _ _ c.in_err-for_ttis.field-0.0
    (stops_before t.journal r.journal c.args.journal.now _ _ _ c.in_err-for_ttis.field-0.0
    c.in_err-for_ttis.ensures.put) in
    rw (p.1, p.2)
    (subst (λ (es : List Record). Stops es c.args.journal.now (g.K.Sink.written c.args.out.now)
    (g.K.Sink.written c.for_ttis.new.out)
    (HasRisen (g.K.Sink.faults c.args.out.now) (g.K.Sink.faults c.for_ttis.new.out)) c.in_err-for_ttis.field-0.0)
    (sym (drained_is c.args.grant l)) s)

pub returns-in_err-done-clause-put : goal.returns-in_err-done-clause-put
returns-in_err-done-clause-put g c =
    let p = err_from_is_err_and c.from_residual-in_err-done.result c.from_residual-in_err-done.ensures.1 in
    let l = c.args.link.now in
    let t = ttis 8 c.args.grant l in
    let r = rounds (budget l) c.args.grant t.link in
    let end = records.Drained r.done ∷ [] in
    let same : rounds c.budget-budget.result c.args.grant c.for_ttis.new.link ≡ r =
    rw (c.budget-budget.ensures, c.in_ok-for_ttis.ensures.link) refl in
    let e = c.in_err-done.field-0.0 in
    let here = subst (λ (d : Drained). Stops d.journal c.for_ttis.new.journal (g.K.Sink.written c.for_ttis.new.out)
    (g.K.Sink.written c.rounds.new.out)
    (HasRisen (g.K.Sink.faults c.for_ttis.new.out) (g.K.Sink.faults c.rounds.new.out)) e) same
    c.in_err-done.ensures.put in
    let s = stops_before (t.journal ++ r.journal) end c.args.journal.now _ _ _ e
    (stops_behind t.journal r.journal c.args.journal.now c.for_ttis.new.journal _ _ _ _ _ e c.in_ok-for_ttis.ensures.put
    (risen_from _ _ _ c.for_ttis.ensures.count) here) in
    rw (p.1, p.2)
    (subst (λ (es : List Record). Stops es c.args.journal.now (g.K.Sink.written c.args.out.now)
    (g.K.Sink.written c.rounds.new.out)
    (HasRisen (g.K.Sink.faults c.args.out.now) (g.K.Sink.faults c.rounds.new.out)) e)
    (sym (drained_is c.args.grant l)) s)

pub returns-in_err-put-clause-put : goal.returns-in_err-put-clause-put
returns-in_err-put-clause-put g c =
    let p = err_from_is_err_and c.from_residual-in_err-put.result c.from_residual-in_err-put.ensures.1 in
    let l = c.args.link.now in
    let t = ttis 8 c.args.grant l in
    let r = rounds (budget l) c.args.grant t.link in
    let end = records.Drained r.done ∷ [] in
    let same : rounds c.budget-budget.result c.args.grant c.for_ttis.new.link ≡ r =
    rw (c.budget-budget.ensures, c.in_ok-for_ttis.ensures.link) refl in
    let here = subst (λ (d : Drained). HasTold d.journal c.for_ttis.new.journal c.rounds.new.journal
    (g.K.Sink.written c.for_ttis.new.out) (g.K.Sink.written c.rounds.new.out)) same c.in_ok-done.ensures.put in
    let both = told_twice t.journal r.journal c.args.journal.now c.for_ttis.new.journal c.rounds.new.journal _ _ _
    c.in_ok-for_ttis.ensures.put here in
    let fault = HasRisen (g.K.Sink.faults c.args.out.now) (g.K.Sink.faults c.rounds.new.out) in
    let s = stops_before (t.journal ++ r.journal) end c.args.journal.now _ _ fault faults.NoMemory
    (stops_told (t.journal ++ r.journal) c.args.journal.now c.rounds.new.journal _ _ fault both) in
    rw (p.1, p.2)
    (subst (λ (es : List Record). Stops es c.args.journal.now (g.K.Sink.written c.args.out.now)
    (g.K.Sink.written c.rounds.new.out)
    (HasRisen (g.K.Sink.faults c.args.out.now) (g.K.Sink.faults c.rounds.new.out)) faults.NoMemory)
    (sym (drained_is c.args.grant l)) s)

pub returns-clause-put : goal.returns-clause-put
returns-clause-put g c =
    let l = c.args.link.now in
    let t = ttis 8 c.args.grant l in
    let r = rounds (budget l) c.args.grant t.link in
    let end = records.Drained r.done ∷ [] in
    let same : rounds c.budget-budget.result c.args.grant c.for_ttis.new.link ≡ r =
    rw (c.budget-budget.ensures, c.in_ok-for_ttis.ensures.link) refl in
    let here = subst (λ (d : Drained). HasTold d.journal c.for_ttis.new.journal c.rounds.new.journal
    (g.K.Sink.written c.for_ttis.new.out) (g.K.Sink.written c.rounds.new.out)) same c.in_ok-done.ensures.put in
    let both = told_twice t.journal r.journal c.args.journal.now c.for_ttis.new.journal c.rounds.new.journal _ _ _
    c.in_ok-for_ttis.ensures.put here in
    let last : records.Drained c.in_ok-done.done ≡ records.Drained r.done =
    ap records.Drained (c.in_ok-done.ensures.done ∙ ap (λ (d : Drained). d.done) same) in
    let new : c.put.new.self ≡ told end c.rounds.new.journal =
    c.in_ok-put.ensures ∙ ap (λ (one : Record). told (one ∷ []) c.rounds.new.journal) last in
    subst (λ (es : List Record). HasTold es c.args.journal.now c.put.new.self (g.K.Sink.written c.args.out.now)
    (g.K.Sink.written c.rounds.new.out)) (sym (drained_is c.args.grant l))
    (subst (λ (j : Journal). HasTold ((t.journal ++ r.journal) ++ end) c.args.journal.now j
    (g.K.Sink.written c.args.out.now) (g.K.Sink.written c.rounds.new.out)) (sym new)
    (told_on (t.journal ++ r.journal) end c.args.journal.now c.rounds.new.journal _ _ both))
