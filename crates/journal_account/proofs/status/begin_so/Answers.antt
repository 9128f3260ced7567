use Rattle.std.proofs.Common.{◌≡◌, ◌+◌, ℕ, length, take, drop, Some, None, ap, sym, ◌∙◌}
use Rattle.std.proofs.Common.{arith}
use Rattle.std.specs.Prelude.{option_and_then}
use Rattle.journal_account.specs.FlowStatus.{behind_said, said_of_fields}
use Rattle.journal_account.proofs.Saids.{is_at, begins, fields_go, fields_end}
use Rattle.journal_account.proofs.Named.{named_within}
use Rattle.journal_account.proofs.status.begin_so.Goals as goal

pub returns-in-None-clause-value : goal.returns-in-None-clause-value
returns-in-None-clause-value c =
    let all = said_of_fields c.args.front (take c.args.count c.args.fields.now.items) in
    let es = c.args.entries.now in
    let at = c.loop-place.at in
    let go = fields_go c.args.front c.loop-place.place c.args.count c.args.fields.now.items es at
    c.loop-place-test.true c.requires.within in
    let none : behind_said all es 0 ≡ None =
    sym c.loop-place.invariant.rest ∙ go
    ∙ ap (option_and_then (behind_said (said_of_fields (c.args.front + (c.loop-place.place + 1))
    (drop (c.loop-place.place + 1) (take c.args.count c.args.fields.now.items))) es)) (sym c.in-None.ensures.value) in
    sym (begins all es 0 (omega arith) ∙ ap (is_at (length es)) none)

pub loop-place-preserved : goal.loop-place-preserved
loop-place-preserved c =
    let es = c.args.entries.now in
    let go = fields_go c.args.front c.loop-place.place c.args.count c.args.fields.now.items es c.loop-place.at
    c.loop-place-test.true c.requires.within in
    record {
      within = c.in-Some.ensures.within;
      few = omega (arith, c.loop-place-test.true);
      rest = ap (option_and_then (behind_said (said_of_fields (c.args.front + (c.loop-place.place + 1))
          (drop (c.loop-place.place + 1) (take c.args.count c.args.fields.now.items))) es)) c.in-Some.ensures.value
          ∙ sym go ∙ c.loop-place.invariant.rest;
    }

pub returns-clause-value : goal.returns-clause-value
returns-clause-value c =
    let all = said_of_fields c.args.front (take c.args.count c.args.fields.now.items) in
    let es = c.args.entries.now in
    let same : c.loop-place.place ≡ c.args.count = omega (arith, c.loop-place-test.false, c.loop-place.invariant.few) in
    let end : behind_said all es 0 ≡ Some c.loop-place.at =
    sym c.loop-place.invariant.rest
    ∙ ap (λ (n : ℕ). behind_said (said_of_fields (c.args.front + n)
    (drop n (take c.args.count c.args.fields.now.items))) es c.loop-place.at) same
    ∙ fields_end c.args.front c.args.count c.args.fields.now.items es c.loop-place.at in
    sym (begins all es 0 (omega arith) ∙ ap (is_at (length es)) end)

pub returns-clause-named : goal.returns-clause-named
returns-clause-named c e =
    named_within c.args.front c.args.count c.args.fields.now.items c.args.entries.now c.requires.within
    (sym (returns-clause-value c) ∙ e)
