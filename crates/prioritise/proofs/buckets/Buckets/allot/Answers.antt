use Rattle.std.proofs.Common.{◌≡◌, ◌≤◌, List, ℕ, sym, ap, ◌∙◌, subst}
use Rattle.l2_types.specs.declared.channel.Channel.{Channel}
use Rattle.prioritise.specs.Shares.{Bucketed, Giving, bucketed, over, allotted, shared, first_shared}
use Rattle.prioritise.specs.Channels.{AreSound}
use Rattle.prioritise.proofs.ShareLemmas.{within_grant}
use Rattle.prioritise.proofs.buckets.Buckets.allot.Goals as goal

pub returns-clause-within : goal.returns-clause-within
unfolding allotted shared first_shared
returns-clause-within c =
    let before : bucketed c.as_slice.result.now c.self.inside.levels ≡ c.args.self.now =
    ap (λ (cs : List Channel). bucketed cs c.self.inside.levels) c.as_slice.ensures.value ∙ c.self.view_is in
    let given : c.gifts.inside.shares ≡ allotted c.args.self.now c.args.needs.now c.args.grant =
    ap (λ (g : Giving). g.shares) (c.gifts.view_is ∙ c.give.ensures)
    ∙ ap (λ (b : Bucketed). (shared b c.args.needs.now c.args.grant).shares) before in
    let sound : AreSound c.args.self.now.channels =
    subst (λ (b : Bucketed). AreSound b.channels) c.self.view_is c.self.invariant in
    subst (λ (shares : List ℕ). over c.args.self.now.channels shares ≤ c.args.grant) (sym given)
    (within_grant c.args.self.now c.args.needs.now c.args.grant sound)
