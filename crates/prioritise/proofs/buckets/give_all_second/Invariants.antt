use Rattle.std.proofs.Common.{◌≡◌, drop}
use Rattle.prioritise.specs.Shares.{round_two}
use Rattle.prioritise.proofs.buckets.give_all_second.Given as goal

abbrev pub invariant-loop-channel : goal.invariant-loop-channel
invariant-loop-channel l = round_two (drop l.channel-index l.channels) l.needs l.gifts
    ≡ round_two l.channels l.needs l.initial.gifts
