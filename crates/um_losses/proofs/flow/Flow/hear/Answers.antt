use Rattle.std.proofs.Common.{rules, ◌≡◌, ◌∙◌}
use Rattle.rlc_pdu.specs.Views.{umd_of}
use Rattle.um_losses.specs.Tags.{tagged}
use Rattle.um_losses.proofs.Again.{read_is, none_refused}
use Rattle.um_losses.proofs.flow.Flow.hear.Goals as goal

pub returns : goal.returns
returns c =
    let same : umd_of c.in-Ok.umd ≡ tagged c.args.first c.args.pdu =
    read_is _ _ _ _ _ c.self.invariant.0 (search rules) (c.as_slice.ensures ∙ c.in_ok-octets.ensures.octets)
    c.in-Ok.ensures.exact in
    search rules

pub unreachable-requires : goal.unreachable-requires
unreachable-requires c =
    none_refused _ _ _ _ c.in_default.field-0 c.self.invariant.0 (search rules)
    (c.as_slice.ensures ∙ c.in_ok-octets.ensures.octets) c.in_default.ensures.exact
