use Rattle.std.proofs.Common.{◌≡◌, ◌∙◌, ◌≤◌, ◌+◌, ◌-◌, ◌%◌, ℕ, List, min, replicate, slice_set, sum, ap}
use Rattle.std.proofs.Common.{sym, subst, arith}
use Rattle.std.specs.List.{All}
use Rattle.l2_types.specs.declared.limits.TheConstants.{GREATEST_GRANT}
use Rattle.cell_sched.specs.Grants.{turn_order}
use Rattle.cell_sched.proofs.Sharing.{Giving, given, giving, gift, given_next, given_none, from_place, all_given}
use Rattle.cell_sched.proofs.Sharing.{shared_within, each_within}
use Rattle.cell_sched.proofs.grants.share.Goals as goal

pub loop-place-preserved : goal.loop-place-preserved
loop-place-preserved c =
    let w = c.args.wishes.now in
    let users = c.args.users in
    let first = c.args.first in
    let place = c.loop-place.place in
    let g = giving c.loop-place.grants c.loop-place.left in
    let user = (first + place) % users in
    let later = from_place users first (place + 1) (users - (place + 1)) in
    let one : c.min-grant.result ≡ gift w user g =
    c.min-grant.ensures ∙ ap (λ (n : ℕ). min n c.loop-place.left) c.min.ensures in
    subst (λ (x : ℕ). given w later (giving (slice_set g.grants user x) (g.left - x))
    ≡ given w (turn_order users first) (giving (replicate 8 0) c.args.total)) (sym one)
    (sym (given_next w users first place g c.loop-place-test.true) ∙ c.loop-place.invariant)

pub returns-clause-grants : goal.returns-clause-grants
returns-clause-grants c =
    let w = c.args.wishes.now in
    let users = c.args.users in
    let first = c.args.first in
    let g = giving c.loop-place.grants c.loop-place.left in
    let end : c.loop-place.place ≡ users = omega (arith, c.loop-place.auto.place-end, c.loop-place-test.false) in
    let none : given w (from_place users first c.loop-place.place (users - c.loop-place.place)) g ≡ g =
    subst (λ (n : ℕ). given w (from_place users first n (users - n)) g ≡ g) (sym end) (given_none w users first g) in
    ap (λ (h : Giving). h.grants) (sym none ∙ c.loop-place.invariant)
    ∙ all_given w users first c.args.total c.requires.few c.requires.first

pub returns-clause-within : goal.returns-clause-within
returns-clause-within c =
    subst (λ (grants : List ℕ). sum grants ≤ c.args.total) (sym (returns-clause-grants c))
    (shared_within c.args.wishes.now c.args.users c.args.first c.args.total c.requires.few c.requires.first)

pub returns-clause-each : goal.returns-clause-each
returns-clause-each c =
    subst (λ (grants : List ℕ). All (λ grant. grant ≤ GREATEST_GRANT) grants) (sym (returns-clause-grants c))
    (each_within c.args.wishes.now c.args.users c.args.first c.args.total)
