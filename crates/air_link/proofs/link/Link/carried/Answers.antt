use Rattle.std.proofs.Common.{◌≡◌, ◌∙◌, sym, refl, true, slice_get}
use Rattle.air_link.specs.Draining.{is_carried_by}
use Rattle.air_link.proofs.Carrying.{any_at}
use Rattle.air_link.proofs.link.Link.carried.Goals as goal

pub returns-then-is_carried_by : goal.returns-then-is_carried_by
returns-then-is_carried_by c =
    let kinds = c.args.self.now.kinds in
    let out = c.args.self.now.out in
    let copied = c.get.ensures in
    let answer = c.is_carried_by.ensures in
    let was = c.if-is_carried_by.true in
    let yes : is_carried_by kinds (slice_get out c.loop-at.at) ≡ true = cc in
    sym (sym c.loop-at.invariant ∙ any_at kinds out c.loop-at.at ∙ rw yes refl)
