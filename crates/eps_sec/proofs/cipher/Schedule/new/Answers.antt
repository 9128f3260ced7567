use Rattle.std.proofs.Common.{◌≡◌, [], slice_index_or, arith, refl, rules}
use Rattle.eps_sec.specs.Aes.{power_of_x, round_key}
use Rattle.eps_sec.specs.Words.{state}
use Rattle.eps_sec.proofs.CipherLemmas.{power_more, keys_more}
use Rattle.eps_sec.proofs.cipher.Schedule.new.Goals as goal

pub loop-n-init : goal.loop-n-init
unfolding power_of_x round_key
loop-n-init c = record {
  len = refl;
  power = refl;
  keys = λ k le. let first : k ≡ 0 = omega arith in rw first c.words_of-keys.ensures;
}

pub loop-n-preserved : goal.loop-n-preserved
loop-n-preserved c =
    let old = c.loop-n.invariant in
    record {
      len = search rules;
      power = power_more c.loop-n.n _ _ old.power c.times-power.ensures;
      keys = keys_more c.loop-n.keys c.args.key.now.octets c.next_key.result c.loop-n.n (omega arith) old.keys
          (c.next_key.ensures c.loop-n.n old.power);
    }

pub invariant_of-result : goal.invariant_of-result
unfolding round_key
invariant_of-result c = λ n le.
    let first : state (slice_index_or c.loop-n.keys 0 []) ≡ c.args.key.now.octets =
    c.loop-n.invariant.keys 0 (omega arith) in
    rw first (c.loop-n.invariant.keys n (omega arith))

pub returns : goal.returns
unfolding round_key
returns c = c.loop-n.invariant.keys 0 (omega arith)
