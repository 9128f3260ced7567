use Rattle.std.proofs.Common.{◌≡◌, ℕ, ◌+◌, ◌-◌, ◌*◌, ◌%◌, ◌++◌, length, arith, subst}
use Rattle.std.specs.Prelude.{OnOk}
use Rattle.std.proofs.lemmas.List.{length-append}
use Rattle.std.proofs.lemmas.Result.{on_ok_weaker}
use Rattle.l2_bits.specs.Bits.{bits, filling}
use Rattle.l2_bits.proofs.BitFields.{length-bits, length-bits_of}
use Rattle.l2_bits.proofs.writer.BitWriter.fill.Goals as goal

pub returns-clause-ok : goal.returns-clause-ok
returns-clause-ok c =
    let i = c.self.inside in
    let len : length c.args.self.now ≡ 8 * length i.octets.items + i.count =
    rw (← c.self.view_is, length-append, length-bits, length-bits_of) (omega arith) in
    let n : (8 - i.count) % 8 ≡ filling (length c.args.self.now) = rw len (omega arith) in
    subst (λ (k : ℕ). OnOk c.put.result (c.put.new.self ≡ c.args.self.now ++ bits k 0)) n c.put.ensures.ok

pub returns-clause-boundary : goal.returns-clause-boundary
returns-clause-boundary c =
    let i = c.self.inside in
    let len : length c.args.self.now ≡ 8 * length i.octets.items + i.count =
    rw (← c.self.view_is, length-append, length-bits, length-bits_of) (omega arith) in
    on_ok_weaker c.put.result (λ grown. omega (arith, grown, len)) c.put.ensures.len
