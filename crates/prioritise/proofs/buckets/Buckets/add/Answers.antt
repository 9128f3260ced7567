use Rattle.std.proofs.Common.{◌≡◌, false, sym, subst, lit<}
use Rattle.prioritise.specs.Channels.{has}
use Rattle.prioritise.specs.Shares.{Bucketed}
use Rattle.prioritise.proofs.ChannelLemmas.{room, sound_more}
use Rattle.prioritise.proofs.buckets.Buckets.add.Goals as goal

pub insert-requires : goal.insert-requires
insert-requires c =
    let none : has c.args.channel.lcid c.self.inside.channels.items ≡ false =
    subst (λ (b : Bucketed). has c.args.channel.lcid b.channels ≡ false) (sym c.self.view_is) c.requires.new in (
      lit< tt,
      (
        rw c.as_slice.ensures.value at c.place_of-at.ensures.within,
        room c.args.channel.lcid c.self.inside.channels.items c.self.invariant c.requires.lcid none,
      ),
    )

pub invariant_of-self : goal.invariant_of-self
invariant_of-self c =
    let none : has c.args.channel.lcid c.self.inside.channels.items ≡ false =
    subst (λ (b : Bucketed). has c.args.channel.lcid b.channels ≡ false) (sym c.self.view_is) c.requires.new in
    rw c.insert.ensures.items
    (sound_more c.args.channel c.self.inside.channels.items c.place_of-at.result c.self.invariant c.requires.lcid
    c.requires.group none)
