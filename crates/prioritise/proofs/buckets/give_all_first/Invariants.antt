use Rattle.std.proofs.Common.{◌≡◌, drop}
use Rattle.prioritise.specs.Shares.{round_one}
use Rattle.prioritise.proofs.buckets.give_all_first.Given as goal

abbrev pub invariant-loop-channel : goal.invariant-loop-channel
invariant-loop-channel l = round_one (drop l.channel-index l.channels) l.needs l.gifts
    ≡ round_one l.channels l.needs l.initial.gifts
