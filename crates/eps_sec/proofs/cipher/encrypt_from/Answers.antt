use Rattle.std.proofs.Common.{◌≡◌, arith}
use Rattle.eps_sec.proofs.CipherLemmas.{rounds_more, aes_last}
use Rattle.eps_sec.proofs.cipher.encrypt_from.Goals as goal

pub loop-n-preserved : goal.loop-n-preserved
loop-n-preserved c = λ block e.
    rounds_more c.args.schedule.now block _ _ _ _ c.loop-n.n
    (rw c.schedule.view_is at (c.schedule.invariant c.loop-n.n (omega arith))) c.add_key.ensures
    (c.loop-n.invariant block e) c.mixed_round-state.ensures

pub returns : goal.returns
returns c = λ block e.
    let nine : c.loop-n.n ≡ 9 = omega arith in
    aes_last c.args.schedule.now block _ _ _ _ _ _ (rw c.schedule.view_is at (c.schedule.invariant 9 (omega arith)))
    (rw c.schedule.view_is at (c.schedule.invariant 10 (omega arith))) c.add_key-2.ensures
    (rw nine at (c.loop-n.invariant block e)) c.last_round-last.ensures c.add_key-3.ensures
