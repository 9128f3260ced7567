use Rattle.std.proofs.Common.{◌≡◌, ◌+◌, ◌-◌, ◌*◌, ◌++◌, ◌∙◌, length, slice_index, sym, ap, arith}
use Rattle.eps_sec.proofs.CodeLemmas.{block_is, in_body}
use Rattle.eps_sec.proofs.integrity.block_of.Goals as goal

pub returns-then-start-head : goal.returns-then-start-head
returns-then-start-head c =
    let head = c.args.head.now in
    let body = c.args.body.now in
    let start = 16 * c.args.i in
    block_is (head ++ body ++ c.args.tail.now) c.octets_at.result c.args.i c.octets_at.ensures.len (λ j lt.
    let place : start - length head + j ≡ start + j - length head = omega arith in
    c.octets_at.ensures.places j lt ∙ ap (slice_index body) place
    ∙ sym (in_body head body c.args.tail.now (start + j) (omega arith) (omega arith)))

pub returns-else-head-start : goal.returns-else-head-start
returns-else-head-start c =
    block_is (c.args.head.now ++ c.args.body.now ++ c.args.tail.now) c.octets_across.result c.args.i
    c.octets_across.ensures.len c.octets_across.ensures.places
